-- By the place of the first name. Assumes nothing.
use mathlib.Core.Path.{ap, ◌∙◌}
use Prim.Native.Nat.{ℕ}
use lib.IntN.{pos}
use lib.ListN.{get_or}
use mir.Syntax.{w32}
use mir.Val.{SFits}
use borrow.Author.Rules.{rules}
use Rattle.read_declared.specs.Firsts.{name_in}
use Rattle.read_declared.proofs.FirstSteps.{natural-is, natural-cast}
use Rattle.read_declared.proofs.name_in.Goals as goal

pub overflow_cast-result : goal.overflow_cast-result
overflow_cast-result c =
    let a = c.args in
    let fits : SFits w32 (get_or a.values.now c.first_of.result (pos 0)) = search rules in
    natural-cast _ (name_in a.sorts.now a.values.now) fits (ap (λ (n : ℕ). get_or a.values.now n (pos 0)) c.first_of.ensures ∙ c.requires.1)

pub returns : goal.returns
returns c =
    let a = c.args in
    let fits : SFits w32 (get_or a.values.now c.first_of.result (pos 0)) = search rules in
    natural-is _ (name_in a.sorts.now a.values.now) fits (ap (λ (n : ℕ). get_or a.values.now n (pos 0)) c.first_of.ensures ∙ c.requires.1)
