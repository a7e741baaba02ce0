-- `put_bytes` meets its contract: what is left to write stays what all of it writes. Assumes nothing.
use mathlib.Core.Path.{refl, sym, ap, ◌∙◌}
use Prim.Native.Nat.{◌+◌}
use borrow.Author.Rules.{rules}
use lib.ListN.{length, drop}
use Rattle.write_bytes.specs.Writing.{Writer, put_all}
use Rattle.write_bytes.proofs.Writers.{length-put, put_all-next, put_all-done}
use Rattle.write_bytes.proofs.put_bytes.Goals as goal

pub loop-b-init : goal.loop-b-init
loop-b-init c = (refl, refl)

pub loop-b-preserved : goal.loop-b-preserved
loop-b-preserved c =
    let bytes = c.args.bytes.now in
    let e = c.put_byte-place.ensures in (
      ap (λ (w : Writer). length w.1) e ∙ length-put _ _ ∙ c.loop-b.invariant.0,
      ap (put_all (drop (c.loop-b.b-index + 1) bytes)) e ∙ sym (put_all-next bytes c.loop-b.b-index (c.loop-b.place, c.loop-b.out) (search rules)) ∙ c.loop-b.invariant.1,
    )

pub shape_of-out : goal.shape_of-out
shape_of-out c = c.loop-b.invariant.0

pub returns : goal.returns
returns c = sym (put_all-done c.args.bytes.now c.loop-b.b-index _ (search rules)) ∙ c.loop-b.invariant.1
