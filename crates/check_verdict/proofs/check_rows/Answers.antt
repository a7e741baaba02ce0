-- The verdict of the check that counts. Assumes nothing.
use mathlib.Core.Path.{ap, ◌∙◌}
use Rattle.meaning.specs.declared.Checked.{Checked}
use Rattle.meaning.proofs.AnswerLaws.{counted-rows}
use Rattle.check_verdict.proofs.check_rows.Goals as goal

pub returns : goal.returns
returns c = ap (λ (x : Checked). x.verdict) (c.check_rows_counted.ensures ∙ counted-rows _)
