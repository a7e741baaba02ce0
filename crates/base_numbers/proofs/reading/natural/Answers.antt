-- `natural` meets its contract, by the number's first byte and whether there is a second.
use mathlib.Core.Path.{sym, ap, ◌∙◌}
use native.Mathlib.Omega.{arith}
use borrow.Author.Tests.{true-eqb, false-eqb}
use Rattle.base_numbers.specs.Reading.{whole_of}
use Rattle.base_numbers.proofs.Naturals.{no-digits, leading-zero, no-leading-zero}
use Rattle.base_numbers.proofs.reading.natural.Goals as goal
use Rattle.base_numbers.proofs.reading.natural.Goals.{then-is_empty-via-then-is_empty, then-is_empty-via-else-is_empty+then-digits-gt1}

pub returns-then-is_empty : goal.returns-then-is_empty
returns-then-is_empty c =
    let l = c.args.digits.now in
    elim c.then-is_empty.branch [
      | then-is_empty-via-then-is_empty w ↦ sym (ap whole_of (no-digits l (omega (arith, true-eqb, w.if-is_empty.ensures))))
      | then-is_empty-via-else-is_empty+then-digits-gt1 w ↦ sym (ap whole_of (leading-zero l (omega arith) (omega arith)))
    ]

pub returns : goal.returns
returns c =
    let l = c.args.digits.now in
    c.digits_value.ensures ∙ sym (ap whole_of (no-leading-zero l (omega (arith, false-eqb, c.if-is_empty.ensures)) (λ e. omega arith)))
