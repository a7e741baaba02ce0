-- Past the end the listed name is empty, so it is the name if that has no bytes. Assumes nothing.
use mathlib.Core.Path.{sym, ap, ◌∙◌}
use Rattle.meaning.specs.Lines.{same}
use Rattle.read_names.proofs.KeySteps.{same-empty, listed-past-end}
use Rattle.read_names.proofs.is_listed.Goals as goal

pub returns-then-text-from : goal.returns-then-text-from
returns-then-text-from c =
    let a = c.args in
    same-empty a.name.now ∙ sym (ap (same a.name.now) (listed-past-end a.text.now a.from a.size c.if-text-from.true))
