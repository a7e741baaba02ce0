-- What a line says of the row in it.
use mathlib.Core.Path.{◌≡◌, refl, ap}
use mathlib.Core.Bool.{Bool, true, false}
use mathlib.Core.List.{List}
use mathlib.Core.Option.{Option, none, some}
use Prim.Native.Nat.{ℕ, suc, ◌+◌, ◌≤◌, ◌<◌}
use native.Mathlib.Omega.{arith}
use lib.IntN.{ℤ}
use lib.ListN.{length, get_or, drop}
use lib.Seq.{drop-cons}
use lib.Dec.{eqb}
use Rattle.meaning.specs.Texts.{line_feed}
use Rattle.meaning.specs.Basics.{if_else, is_some}
use Rattle.meaning.specs.Lines.{line_size}
use Rattle.meaning.specs.TableBytes.{read_row}
use Rattle.base_numbers.proofs.Options.{pair-is}
use Rattle.read_table.specs.Fields.{first_line, with_next, row_from_line}

-- its numbers, and where the next line begins
pub row-numbers : (bytes : List ℕ) (at next : ℕ) (row : List ℤ) → row_from_line bytes at ≡ some (row, next)
    → (read_row (first_line (drop at bytes)) ≡ some row) × (at + line_size (drop at bytes) ≡ next)
unfolding row_from_line
row-numbers bytes at next row e = go (read_row (first_line (drop at bytes))) e
  where
    go : (o : Option (List ℤ)) → with_next o (at + line_size (drop at bytes)) ≡ some (row, next) → (o ≡ some row) × (at + line_size (drop at bytes) ≡ next)
    go none h = cc
    go (some row') h = let parts = pair-is row' row (at + line_size (drop at bytes)) next h in (ap some parts.0, parts.1)

-- it is no row
pub row-none : (bytes : List ℕ) (at : ℕ) → row_from_line bytes at ≡ none → is_some (read_row (first_line (drop at bytes))) ≡ false
unfolding row_from_line
row-none bytes at e = go (read_row (first_line (drop at bytes))) e
  where
    go : (o : Option (List ℤ)) → with_next o (at + line_size (drop at bytes)) ≡ none → is_some o ≡ false
    go none h = refl
    go (some row) h = cc

-- a row has at least one byte
pub row-advances : (bytes : List ℕ) (at next : ℕ) (row : List ℤ) → at < length bytes → row_from_line bytes at ≡ some (row, next) → at < next
unfolding line_size
row-advances bytes at next row h e =
    let size = ap line_size (drop-cons bytes at 0 h) in
    let one = some_bytes (eqb (get_or bytes at 0) line_feed) (line_size (drop (suc at) bytes)) in
    omega (arith, (row-numbers bytes at next row e).1)
  where
    some_bytes : (t : Bool) (m : ℕ) → 1 ≤ if_else t 1 (suc m)
    some_bytes true m = omega arith
    some_bytes false m = omega arith
