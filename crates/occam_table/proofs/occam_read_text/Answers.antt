-- What reading comes to as a number, with what the buffer holds. Assumes nothing.
use mathlib.Core.Path.{sym, ap, ap₂, subst, ◌∙◌}
use mathlib.Core.List.{List}
use Prim.Native.Nat.{ℕ}
use lib.IntN.{ℤ}
use Rattle.std.specs.Prelude.{Result}
use Rattle.read_text.specs.declared.Refused.{Refused}
use Rattle.occam_table.specs.Packing.{read_number}
use Rattle.occam_table.specs.PackingClaims.{PossibleRead}
use Rattle.occam_table.specs.RowsLent.{read_lent}
use Rattle.occam_table.proofs.TextsTold.{texts-possible}
use borrow.Author.Rules.{rules}
use Rattle.occam_table.proofs.occam_read_text.Goals as goal

pub read_number-requires : goal.read_number-requires
read_number-requires c = subst (λ (x : Result ℕ Refused × List ℤ). PossibleRead x.0) (sym c.read_text.ensures) (texts-possible.2 _ _)

pub returns : goal.returns
unfolding read_lent
returns c =
    let e = c.read_text.ensures in
    ap₂ {C = ℕ × List ℤ} (λ (n : ℕ) (l : List ℤ). (n, l)) (c.read_number.ensures ∙ ap (λ (x : Result ℕ Refused × List ℤ). read_number x.0) e) (ap (λ (x : Result ℕ Refused × List ℤ). x.1) e)
