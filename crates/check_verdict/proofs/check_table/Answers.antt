-- The verdict of the check that counts. Assumes nothing.
use mathlib.Core.Path.{ap, ◌∙◌}
use Rattle.meaning.specs.declared.Checked.{Checked}
use Rattle.meaning.proofs.AnswerLaws.{counted-bytes}
use Rattle.check_verdict.proofs.check_table.Goals as goal

pub returns : goal.returns
returns c = ap (λ (x : Checked). x.verdict) (c.check_table_counted.ensures ∙ counted-bytes _)
