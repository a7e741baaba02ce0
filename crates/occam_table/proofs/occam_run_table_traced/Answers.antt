-- The answer as a number, with what the traced run leaves. Assumes nothing.
use mathlib.Core.Path.{sym, subst}
use borrow.Author.Rules.{rules}
use Rattle.meaning.specs.Trace.{TracedReply}
use Rattle.occam_table.specs.PackingClaims.{PossibleAnswer}
use Rattle.occam_table.proofs.Numbers.{packed-traced}
use Rattle.occam_table.proofs.Told.{traced-possible}
use Rattle.occam_table.proofs.occam_run_table_traced.Goals as goal

pub answer_number-requires : goal.answer_number-requires
answer_number-requires c = subst (λ (r : TracedReply). PossibleAnswer r.reply.answer) (sym c.run_table_traced.ensures.answered) (traced-possible.1 _ _ _ _ _ _)

pub returns : goal.returns
returns c = record { answered = packed-traced c.answer_number.result _ _ c.answer_number.ensures c.run_table_traced.ensures.answered; same = c.run_table_traced.ensures.same }
