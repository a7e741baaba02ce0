-- The outcome's word, two zeros and the steps. Assumes nothing.
use mathlib.Core.Path.{ap, sym, ◌∙◌}
use mathlib.Core.Option.{some}
use mathlib.Core.List.{[], ◌∷◌}
use lib.IntN.{pos}
use Rattle.meaning.specs.declared.Outcome.{Outcome}
use Rattle.meaning.specs.declared.Outcome.TheVariants.{Ended, Stuck, Broken, Spent}
use Rattle.meaning.specs.Numerals.{printed}
use Rattle.meaning.specs.Printing.{outcome_word, word_bytes, outcome_line}
use Rattle.write_bytes.specs.Writing.{put_lines}
use Rattle.write_lines.proofs.LineSteps.{one_line}
use Rattle.write_lines.proofs.lines.put_answer.Goals as goal

pub returns-in-Ended : goal.returns-in-Ended
unfolding word_bytes printed outcome_line
returns-in-Ended c =
    let a = c.args in
    c.put_line.ensures
    ∙ one_line (outcome_word Ended) 0 0 (some (pos a.steps)) c.decimal-value.ensures (a.at, a.out.now)
    ∙ ap (λ (o : Outcome). put_lines (outcome_line o a.steps ∷ []) (a.at, a.out.now)) (sym c.in-Ended.is)

pub returns-in-Stuck : goal.returns-in-Stuck
unfolding word_bytes printed outcome_line
returns-in-Stuck c =
    let a = c.args in
    c.put_line-in-Stuck.ensures
    ∙ one_line (outcome_word Stuck) 0 0 (some (pos a.steps)) c.decimal-value.ensures (a.at, a.out.now)
    ∙ ap (λ (o : Outcome). put_lines (outcome_line o a.steps ∷ []) (a.at, a.out.now)) (sym c.in-Stuck.is)

pub returns-in-Broken : goal.returns-in-Broken
unfolding word_bytes printed outcome_line
returns-in-Broken c =
    let a = c.args in
    c.put_line-in-Broken.ensures
    ∙ one_line (outcome_word Broken) 0 0 (some (pos a.steps)) c.decimal-value.ensures (a.at, a.out.now)
    ∙ ap (λ (o : Outcome). put_lines (outcome_line o a.steps ∷ []) (a.at, a.out.now)) (sym c.in-Broken.is)

pub returns-in-Spent : goal.returns-in-Spent
unfolding word_bytes printed outcome_line
returns-in-Spent c =
    let a = c.args in
    c.put_line-in-Spent.ensures
    ∙ one_line (outcome_word Spent) 0 0 (some (pos a.steps)) c.decimal-value.ensures (a.at, a.out.now)
    ∙ ap (λ (o : Outcome). put_lines (outcome_line o a.steps ∷ []) (a.at, a.out.now)) (sym c.in-Spent.is)
