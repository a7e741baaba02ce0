-- `digits_value` meets its contract.
use mathlib.Core.Path.{sym, ap, ◌∙◌}
use Rattle.base_numbers.specs.Reading.{whole_of}
use Rattle.base_numbers.proofs.Digits.{too_large, no_more, no_digit, one_more}
use Rattle.base_numbers.proofs.reading.digits_value.Goals as goal

pub returns-then-not-is_ascii_digit : goal.returns-then-not-is_ascii_digit
returns-then-not-is_ascii_digit c =
    let w = c.loop-b in
    let e = no_digit c.args.digits.now w.b-index w.value c.loop-b-test.true (sym c.is_ascii_digit.ensures.value ∙ c.if-not-is_ascii_digit.true) in
    sym (ap whole_of e) ∙ w.invariant.1

pub returns-then-value-gt2147483648 : goal.returns-then-value-gt2147483648
returns-then-value-gt2147483648 c =
    let w = c.loop-b in
    let e = one_more c.args.digits.now w.b-index w.value c.loop-b-test.true (sym c.is_ascii_digit.ensures.value ∙ c.if-not-is_ascii_digit.false) in
    let large = rw c.from.ensures at c.if-value-gt2147483648.true in
    sym (too_large _ _ large) ∙ sym (ap whole_of e) ∙ w.invariant.1

pub loop-b-preserved : goal.loop-b-preserved
loop-b-preserved c =
    let w = c.loop-b in
    let e = one_more c.args.digits.now w.b-index w.value c.loop-b-test.true (sym c.is_ascii_digit.ensures.value ∙ c.if-not-is_ascii_digit.false) in
    (c.if-value-gt2147483648.false, rw c.from.ensures (sym (ap whole_of e) ∙ w.invariant.1))

pub returns : goal.returns
returns c =
    let w = c.loop-b in
    sym (no_more c.args.digits.now w.b-index w.value c.loop-b-test.false w.invariant.0) ∙ w.invariant.1
