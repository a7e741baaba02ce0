-- `printed` meets its contract, by the number's sign.
use mathlib.Core.Path.{ap, ◌∙◌}
use mathlib.Core.Bool.{true, false}
use mir.Syntax.{w32}
use mir.ValLaws.{to_z-of_z}
use Rattle.base_numbers.specs.Printing.{text_of}
use Rattle.base_numbers.proofs.Casts.{sign-test}
use Rattle.base_numbers.proofs.Texts.{printed-negative, printed-natural}
use Rattle.base_numbers.proofs.numerals.printed.Goals as goal

pub returns-then-z-lt0 : goal.returns-then-z-lt0
returns-then-z-lt0 c =
    let f = c.ranges.z in
    (rw (c.unsigned_abs.ensures.value, to_z-of_z w32 _ f) at c.with_minus.ensures) ∙ ap text_of (printed-negative _ (sign-test _ f true c.if-z-lt0.true))

pub returns : goal.returns
returns c =
    let f = c.ranges.z in
    (rw (c.unsigned_abs-2.ensures.value, to_z-of_z w32 _ f) at c.decimal.ensures) ∙ ap text_of (printed-natural _ (sign-test _ f false c.if-z-lt0.false))
