-- `communicates` meets its contract, from the note of who waits at the element.
use lib.IntN.{pos}
use lib.ListN.{get_or}
use mir.ValLaws.{to_z-of_z}
use mir.Val.{SFits}
use mir.Syntax.{w32}
use Rattle.std.proofs.Common.{rules}
use Rattle.run_changes.specs.Changes.{communicated}
use Rattle.run_changes.proofs.communicates.Goals as goal

pub returns : goal.returns
unfolding communicated
returns c =
    let x = get_or c.args.notes.now.sent c.row_of-s.result (pos 0) in
    let f : SFits w32 x = search rules in
    rw (to_z-of_z w32 x f, c.row_of-s.ensures, c.from.ensures)
