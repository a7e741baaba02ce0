-- A short list of rows, or a text that is too long; else by its length. Assumes nothing.
use native.Mathlib.Omega.{arith}
use Rattle.read_text.proofs.ReadingLaws.{too_short, overlong-refused}
use Rattle.read_text.proofs.read_text.Goals as goal

pub returns-then-rows-lt4096 : goal.returns-then-rows-lt4096
returns-then-rows-lt4096 c =
    too_short c.args.text.now c.args.rows.now (omega (arith, c.if-rows-lt4096.true))

pub returns-then-text-gt32768 : goal.returns-then-text-gt32768
returns-then-text-gt32768 c =
    overlong-refused c.args.text.now c.args.rows.now (omega (arith, c.if-rows-lt4096.false)) (omega (arith, c.if-text-gt32768.true))
