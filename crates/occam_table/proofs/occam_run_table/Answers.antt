-- The answer as a number, with what the run leaves. Assumes nothing.
use mathlib.Core.Path.{sym, subst}
use borrow.Author.Rules.{rules}
use Rattle.meaning.specs.Answers.{Reply}
use Rattle.occam_table.specs.PackingClaims.{PossibleAnswer}
use Rattle.occam_table.proofs.Numbers.{packed-reply}
use Rattle.occam_table.proofs.Told.{calls-possible}
use Rattle.occam_table.proofs.occam_run_table.Goals as goal

pub answer_number-requires : goal.answer_number-requires
answer_number-requires c = subst (λ (r : Reply). PossibleAnswer r.answer) (sym c.run_table.ensures.answered) (calls-possible.1 _ _ _ _ _)

pub returns : goal.returns
returns c = record { answered = packed-reply c.answer_number.result _ _ c.answer_number.ensures c.run_table.ensures.answered; same = c.run_table.ensures.same }
