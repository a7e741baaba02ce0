-- By the answer. Assumes nothing.
use mathlib.Core.Path.{ap, sym, subst, ◌∙◌}
use Prim.Native.Nat.{ℕ, ◌+◌, ◌*◌}
use native.Mathlib.Omega.{arith}
use borrow.Author.Rules.{rules}
use Rattle.occam_table.specs.Packing.{answer_number}
use Rattle.occam_table.specs.PackingClaims.{PossibleAnswer}
use Rattle.occam_table.proofs.Outcomes.{outcome-small}
use Rattle.occam_table.proofs.packing.answer_number.Goals as goal

pub overflow_mul-result-in-Ran : goal.overflow_mul-result-in-Ran
overflow_mul-result-in-Ran c = record { fits = omega (arith, c.outcome_number.ensures, outcome-small c.in-Ran.outcome) }

pub overflow_add-result-in-Ran : goal.overflow_add-result-in-Ran
overflow_add-result-in-Ran c = record { fits = omega (arith, c.outcome_number.ensures, outcome-small c.in-Ran.outcome) }

pub overflow_mul-result-in-Ran-3 : goal.overflow_mul-result-in-Ran-3
overflow_mul-result-in-Ran-3 c = let p = subst PossibleAnswer c.in-Ran.is c.requires in record { fits = omega (arith, p.1) }

pub overflow_add-result-in-Ran-2 : goal.overflow_add-result-in-Ran-2
overflow_add-result-in-Ran-2 c =
    let p = subst PossibleAnswer c.in-Ran.is c.requires in
    record { fits = omega (arith, p.0, p.1, c.outcome_number.ensures, outcome-small c.in-Ran.outcome) }

pub returns-in-Refused : goal.returns-in-Refused
returns-in-Refused c = ap answer_number (sym c.in-Refused.is)

pub returns-in-Ran : goal.returns-in-Ran
returns-in-Ran c = ap (λ (n : ℕ). 256 * n + 65536 * c.in-Ran.steps + 1099511627776 * c.in-Ran.ready) c.outcome_number.ensures ∙ ap answer_number (sym c.in-Ran.is)
