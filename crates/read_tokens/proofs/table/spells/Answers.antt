-- The line has room for its spelling, which is compared. Assumes nothing.
use mathlib.Core.Path.{sym}
use native.Mathlib.Omega.{arith}
use borrow.Author.Tests.{leb-true}
use lib.ListN.{get_or}
use lib.Seq.{length-take-le}
use Rattle.read_tokens.proofs.table.spells.Goals as goal

pub slice_bounds-line-end : goal.slice_bounds-line-end
slice_bounds-line-end c = let h = leb-true (get_or c.args.line 7 0) 7 c.requires in omega arith

pub slice_bounds-same-end : goal.slice_bounds-same-end
slice_bounds-same-end c =
    let line = c.args.line in
    let h = leb-true (get_or line 7 0) 7 c.requires in
    sym (length-take-le (get_or line 7 0) line (omega arith))
