-- By how many bytes are left where the name begins. Assumes nothing.
use mathlib.Core.Path.{refl, sym}
use Rattle.read_names.proofs.KeySteps.{listed-past-end, listed-to-end, listed-inside}
use Rattle.read_names.proofs.listed.Goals as goal

pub returns-then-text-from : goal.returns-then-text-from
returns-then-text-from c = let a = c.args in sym (listed-past-end a.text.now a.from a.size c.if-text-from.true)

pub returns-then-text-from-2 : goal.returns-then-text-from-2
returns-then-text-from-2 c = let a = c.args in listed-to-end a.text.now a.from a.size c.if-text-from-2.true

pub returns : goal.returns
returns c = let a = c.args in listed-inside a.text.now a.from a.size _ refl
