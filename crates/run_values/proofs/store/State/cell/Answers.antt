-- `cell` meets its contract: past the last cell none is set, and a mark of 0 is an unset cell.
use borrow.Author.Rules.{rules}
use lib.IntN.{pos}
use lib.ListN.{get_or}
use mir.Syntax.{w32}
use mir.Val.{SFits}
use mir.ValLaws.{to_z-of_z}
use native.Mathlib.Omega.{arith}
use Rattle.run_values.proofs.ArrayCells.{past-state, unset-state, set-state}
use Rattle.run_values.proofs.store.State.cell.Goals.{then-i-ge256-via-then-i-ge256, then-i-ge256-via-else-i-ge256+then-self-i-eq0}
use Rattle.run_values.proofs.store.State.cell.Goals as goal

pub returns-then-i-ge256 : goal.returns-then-i-ge256
returns-then-i-ge256 c =
    let s = c.args.self.now in
    elim c.then-i-ge256.branch [
      | then-i-ge256-via-then-i-ge256 w ↦ past-state s (search rules) (search rules) c.args.i w.if-i-ge256.true
      | then-i-ge256-via-else-i-ge256+then-self-i-eq0 w ↦ unset-state s (search rules) (search rules) c.args.i (omega (arith, w.if-i-ge256.false)) w.if-self-i-eq0.true
    ]

pub returns : goal.returns
returns c =
    let s = c.args.self.now in
    let f : SFits w32 (get_or s.values c.args.i (pos 0)) = search rules in
    rw (to_z-of_z w32 _ f) (set-state s (search rules) (search rules) c.args.i (omega (arith, c.if-i-ge256.false)) c.if-self-i-eq0.false)
