-- A sheet's first line, as the code holds it.
use Rattle.std.specs.Prelude as std
use Rattle.std.proofs.Math.Option.{Option, none, some}
use Rattle.std.specs.Prelude.{◌≡◌, ◌⊎◌, Bool, true, false, List, ◌∷◌, ◌++◌, ℕ, zero, suc, ◌+◌, ℤ, length, drop}
use Rattle.meaning.specs.Texts.{line_feed, comma}
use Rattle.meaning.specs.Lines.{lines, same}
use Rattle.meaning.specs.Numerals.{decimal}
use Rattle.meaning.specs.Declarations.{channels}
use Rattle.meaning.specs.Sheet.{sheet_header}
use Rattle.meaning.specs.TableBytes.{line_at}

-- a row's number with a comma in front, unless it is the first of the line
abbrev pub header_entry : ℕ → ℕ → List ℕ
header_entry zero r = decimal r
header_entry (suc before) r = comma ∷ decimal r

-- the bytes that end a number of the line
abbrev pub Stops : ℕ → Type 0
Stops b = (b ≡ comma) ⊎ (b ≡ line_feed)

-- where a text ends that stands at a place; nowhere only if no such text with a comma or a line feed behind it stands there
abbrev pub EndsAt : List ℕ → ℕ → List ℕ → std.Option ℕ → Type 0
EndsAt sheet at t (std.Some p) = (p ≡ at + length t) × (drop at sheet ≡ t ++ drop p sheet)
EndsAt sheet at t std.None = (b : ℕ) (u : List ℕ) → Stops b → drop at sheet ≡ t ++ (b ∷ u) → ⊥

-- how many channels a header that is right has, and how many bytes
abbrev pub header_as : Bool → List ℕ → Option (ℕ × ℕ)
header_as true cs = some (length cs, length (sheet_header cs))
header_as false cs = none

-- whether a sheet's first line is the header of the role 1 channels
unfoldable pub header_read : List ℤ → List ℕ → Option (ℕ × ℕ)
header_read rows sheet = let cs = channels rows 1 in header_as (same (line_at (lines sheet) 1) (sheet_header cs)) cs
