-- `with_minus` meets its contract: the digits are written behind a minus sign and in front of zeros, eleven bytes in all.
use native.Mathlib.Omega.{arith}
use mathlib.Core.Path.{ap}
use Prim.Native.Nat.{ℕ, ◌+◌}
use Rattle.meaning.specs.Numerals.{decimal}
use Rattle.base_numbers.proofs.Decimals.{ten-digits}
use Rattle.base_numbers.proofs.Texts.{digits-after-minus}
use Rattle.base_numbers.proofs.numerals.with_minus.Goals as goal

pub overflow_add-end : goal.overflow_add-end
overflow_add-end c = let e = c.digit_count-end.ensures in omega (arith, ten-digits c.args.n (omega arith))

pub put_digits-bytes-requires : goal.put_digits-bytes-requires
put_digits-bytes-requires c =
    let e = c.digit_count-end.ensures in
    (omega arith, omega (arith, ten-digits c.args.n (omega arith)))

pub returns : goal.returns
returns c =
    digits-after-minus (decimal c.args.n) _ _ (ap (λ (k : ℕ). 1 + k) c.digit_count-end.ensures) c.put_digits-bytes.ensures
