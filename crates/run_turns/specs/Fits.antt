-- Numbers that are within the machine's arrays.
use Rattle.std.specs.Prelude.{◌≡◌, List, ℕ, ◌+◌, ◌*◌, ◌<◌, ◌≤◌, ℤ, length, get_or}
use Rattle.run_code.specs.Prepared.{place_at}
use Rattle.run_changes.specs.declared.Data.{Data}
use Rattle.run_changes.specs.declared.Data.TheVariants.{Nothing, Cell, Reading, Output}

-- the rows that came to work are rows of the arrays
abbrev pub RowsBelow : List ℕ → Type 0
RowsBelow came = (i : ℕ) → i < length came → get_or came i 0 < 1024

-- the blocks that started are rows of blocks
abbrev pub BlocksBelow : List ℕ → List ℕ → Type 0
BlocksBelow code blocks = (i : ℕ) → i < length blocks → (get_or blocks i 0 < 1024) × (place_at code (get_or blocks i 0) 0 ≡ 35)

-- the host channel of a change of data is one of the arrays', and so is its next place: of a reading, of a number that is given
abbrev pub HostFits : Data → List ℕ → List ℕ → Type 0
HostFits Nothing places counts = Unit {0}
HostFits (Cell a x m) places counts = Unit {0}
HostFits (Reading a p) places counts = (p < 8) × (get_or places p 0 < 128)
HostFits (Output p strip x m) places counts = (p < 8) × (strip + get_or counts p 0 < 1024)

-- a reading that goes into a cell is that of one of the arrays' channels, and its place is within the lists that keep the readings
abbrev pub ReadingFits : Data → List ℕ → List ℤ → List ℕ → Type 0
ReadingFits Nothing places readings given = Unit {0}
ReadingFits (Cell a x m) places readings given = Unit {0}
ReadingFits (Reading a p) places readings given = (p < 8) × (p * 128 + get_or places p 0 < length readings) × (p * 128 + get_or places p 0 < length given)
ReadingFits (Output p strip x m) places readings given = Unit {0}
