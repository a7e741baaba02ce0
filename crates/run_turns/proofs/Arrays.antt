-- The cells' two arrays keep their lengths, whatever is put and unset, and those of a state that is held are of 256.
use mathlib.Core.Path.{◌≡◌, ap, ◌∙◌}
use mathlib.Core.Option.{none, some}
use mathlib.Core.List.{List, [], ◌∷◌, map}
use Prim.Native.Nat.{ℕ, zero, suc}
use lib.IntN.{ℤ, pos}
use lib.ListN.{length, length-set}
use Rattle.std.specs.Prelude.{Option, Some, None}
use Rattle.meaning.specs.Declarations.{Variable}
use Rattle.meaning.specs.State as meaning
use Rattle.meaning.specs.Buffers.{Buffers, number_in, mark, encode}
use Rattle.meaning.specs.Values.{Message}
use Rattle.meaning.proofs.LentLaws.{blank-length}
use Rattle.machine.specs.Held.{HoldsState, blank}
use Rattle.run_values.specs.declared.store.State.{State}
use Rattle.run_values.specs.Cells.{with_cell, with_unset}
use Rattle.run_turns.specs.Turns.{with_put, variables_unset}

-- both arrays are of 256
pub record Long (s : State) : Type 0 where
  pub values : length s.values ≡ 256
  pub marks : length s.marks ≡ 256

pub cell-long : (s : State) (i : ℕ) (c : Message) → Long s → Long (with_cell s i c)
cell-long s i c l = record { values = length-set s.values i (number_in c) ∙ l.values; marks = length-set s.marks i (mark c) ∙ l.marks }

pub put-long : (w : Option (ℕ × Option ℤ)) (s : State) → Long s → Long (with_put w s)
put-long None s l = l
put-long (Some (a, None)) s l = cell-long s a none l
put-long (Some (a, Some x)) s l = cell-long s a (some x) l

pub unset-long : (a n : ℕ) (s : State) → Long s → Long (with_unset a n s)
unset-long a zero s l = l
unset-long a (suc n) s l = unset-long (suc a) n (with_cell s a none) (cell-long s a none l)

pub variables-long : (vs : List Variable) (s : State) → Long s → Long (variables_unset vs s)
variables-long [] s l = l
variables-long (v ∷ vs) s l = variables-long vs (with_unset v.first v.size s) (unset-long v.first v.size s l)

-- the numbers of the cells of a state that is held
pub values-long : (rows : List ℤ) (s : meaning.State) (b : Buffers) → HoldsState rows s b → length b.cells ≡ 256
unfolding encode blank
values-long rows s b h = ap (λ (c : Buffers). length c.cells) h ∙ blank-length (pos 0) 256 (map number_in s.store.cells)
