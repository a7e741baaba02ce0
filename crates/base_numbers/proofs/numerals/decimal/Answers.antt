-- `decimal` meets its contract: the digits are written at the front of eleven zeros.
use native.Mathlib.Omega.{arith}
use Rattle.meaning.specs.Numerals as numerals
use Rattle.base_numbers.proofs.Decimals.{ten-digits}
use Rattle.base_numbers.proofs.Texts.{digits-alone}
use Rattle.base_numbers.proofs.numerals.decimal.Goals as goal

pub put_digits-bytes-requires : goal.put_digits-bytes-requires
put_digits-bytes-requires c =
    let e = c.digit_count-count.ensures in
    (omega arith, omega (arith, ten-digits c.args.n (omega arith)))

pub returns : goal.returns
returns c =
    digits-alone (numerals.decimal c.args.n) _ _ c.digit_count-count.ensures c.put_digits-bytes.ensures
