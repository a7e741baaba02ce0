-- `own_change` meets its contract, by what is noted of the row.
use lib.IntN.{pos}
use lib.ListN.{get_or}
use mir.ValLaws.{to_z-of_z}
use mir.Val.{SFits}
use mir.Syntax.{w32}
use Rattle.std.proofs.Common.{rules, arith}
use Rattle.run_code.specs.Prepared.{strip_at}
use Rattle.run_code.proofs.Inside.{first-inside}
use Rattle.run_changes.specs.Changes.{own_change}
use Rattle.run_changes.proofs.ChangesMade.{own-rest}
use Rattle.run_changes.proofs.own_change.Goals as goal

pub place-strip-requires : goal.place-strip-requires
place-strip-requires c =
    let below = c.requires.row in
    record { inside = (rw c.place-d.ensures (first-inside c.requires.table.1 c.args.j (omega arith)), omega arith) }

pub returns-in-1 : goal.returns-in-1
unfolding own_change
returns-in-1 c = rw c.in-1.is c.becomes.ensures

pub returns-in-2 : goal.returns-in-2
unfolding own_change
returns-in-2 c =
    let x = get_or c.args.notes.now.sent c.args.j (pos 0) in
    let f : SFits w32 x = search rules in
    rw (c.in-2.is) (rw (to_z-of_z w32 x f) at c.becomes-in-2.ensures)

pub returns-in-3 : goal.returns-in-3
unfolding own_change
returns-in-3 c = rw c.in-3.is c.becomes-in-3.ensures

pub returns-in-4 : goal.returns-in-4
unfolding own_change
returns-in-4 c = rw c.in-4.is c.becomes-in-4.ensures

pub returns-in-5 : goal.returns-in-5
unfolding own_change
returns-in-5 c = rw c.in-5.is c.becomes-in-5.ensures

pub returns-in-6 : goal.returns-in-6
unfolding own_change
returns-in-6 c =
    let x = get_or c.args.notes.now.sent c.args.j (pos 0) in
    let f : SFits w32 x = search rules in
    rw (c.in-6.is, ← c.place-d.ensures, ← c.place-strip.ensures) (rw (to_z-of_z w32 x f) at c.becomes-in-6.ensures)

pub returns-in-7 : goal.returns-in-7
unfolding own_change
returns-in-7 c = rw c.in-7.is c.communicates.ensures

pub returns-in_default : goal.returns-in_default
returns-in_default c =
    let args = c.args in
    own-rest args.notes.now.acts args.notes.now.sent args.notes.now.elements args.j _ (strip_at args.code.now args.j) c.in_default.in_default-own.rest c.becomes-in_default.ensures
