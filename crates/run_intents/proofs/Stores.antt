-- The machine's arrays, which hold a state, hold its store.
use mathlib.Core.Path.{◌≡◌, sym, ap, ◌∙◌}
use mathlib.Core.Option.{none}
use mathlib.Core.List.{List}
use Prim.Native.Nat.{ℕ, ◌<◌}
use native.Mathlib.Omega.{arith}
use native.Mathlib.Decide.{dec_lt}
use lib.IntN.{ℤ, pos}
use lib.ListN.{get_or, get_or-eq_default}
use Rattle.meaning.specs.State.{State}
use Rattle.meaning.specs.Buffers.{Buffers, cell_of}
use Rattle.machine.specs.Held.{HoldsState, Lengths, Room}
use Rattle.machine.proofs.HeldLaws.{marks-long, read_cell, read-place, read_count}
use Rattle.run_values.specs.Cells.{cells_in}
use Rattle.run_values.proofs.ArrayCells.{past-cells, cell_in}
use Rattle.run_intents.specs.Held.{Held}

pub store-held : (rows : List ℤ) → Room rows → (s : State) → Lengths rows s → (b : Buffers) → HoldsState rows s b → Held s.store b.cells b.marks b.places b.counts
store-held rows R s L b h = record { cells = λ i. read_cell rows R s L b h i ∙ sym (cell-is i); places = read-place rows R s L b h; counts = read_count rows R s L b h }
  where
    cell-is : (i : ℕ) → get_or (cells_in b.cells b.marks) i none ≡ cell_of (get_or b.cells i (pos 0)) (get_or b.marks i 0)
    cell-is i = go (dec_lt i 256)
      where
        go : Dec (i < 256) → get_or (cells_in b.cells b.marks) i none ≡ cell_of (get_or b.cells i (pos 0)) (get_or b.marks i 0)
        go (yes k) = cell_in b.cells b.marks i k
        go (no k) = past-cells b.cells b.marks i (omega arith) ∙ sym (ap (cell_of (get_or b.cells i (pos 0))) (get_or-eq_default b.marks 0 (omega (arith, marks-long rows s b h))))
