-- The text is put where the longest fits. Assumes nothing.
use mathlib.Core.Path.{◌≡◌}
use Prim.Native.Nat.{◌-◌}
use native.Mathlib.Omega.{arith}
use lib.ListN.{length, replicate, length-append}
use mir.Syntax.{w32}
use mir.ValLaws.{to_z-of_z}
use borrow.Author.Tests.{le-leb, lt-leb}
use Rattle.meaning.specs.Numerals.{printed}
use Rattle.base_numbers.specs.Printing.{text_of}
use Rattle.base_numbers.proofs.Texts.{text-bytes, printed-short}
use Rattle.test_leaves.proofs.leaf_printed.Goals as goal

pub returns-then-out-lt11 : goal.returns-then-out-lt11
returns-then-out-lt11 c = simp (lt-leb 11 (length c.args.out.now) c.if-out-lt11.true)

pub put_bytes-requires : goal.put_bytes-requires
put_bytes-requires c =
    let text-is : c.printed-text.result ≡ text_of (printed c.args.z) = rw (to_z-of_z w32 c.args.z c.ranges.z) at c.printed-text.ensures in
    let z = c.args.z in
    let short = printed-short z c.ranges.z.sfits in
    rw (text-is) (omega (arith, length-append (printed z) (replicate (11 - length (printed z)) 0)), omega (arith, c.if-out-lt11.false))

pub returns : goal.returns
returns c =
    let text-is : c.printed-text.result ≡ text_of (printed c.args.z) = rw (to_z-of_z w32 c.args.z c.ranges.z) at c.printed-text.ensures in
    let z = c.args.z in
    let out = c.args.out.now in
    rw (c.put_bytes.ensures, text-is, text-bytes (printed z)) (simp (le-leb 11 (length out) c.if-out-lt11.false))
