-- `settle_up` meets its contract. The measure is the row: a parent is a lower row.
use Rattle.run_settling.proofs.GoingUp.{up-not-ended, up-no-parent, up-parent}
use Rattle.run_settling.proofs.ParentNotes.{parent-process, no-parent-noted, parent-noted, note-below}
use Rattle.run_starting.specs.Kept.{kept_lists}
use native.Mathlib.Omega.{arith}
use Rattle.run_settling.proofs.+settle_up.Goals as goal

pub returns-then-kept-r-ne2 : goal.returns-then-kept-r-ne2
returns-then-kept-r-ne2 t c =
    λ rows P i. up-not-ended rows c.args.r (kept_lists c.args.kept.now) c.if-kept-r-ne2.true

pub returns-then-note-eq0 : goal.returns-then-note-eq0
returns-then-note-eq0 t c =
    λ rows P i. up-no-parent rows c.args.r (kept_lists c.args.kept.now) (no-parent-noted P c.args.r c.requires.row c.place-note.ensures i c.if-note-eq0.true)

pub go_on-requires : goal.go_on-requires
go_on-requires t c =
    let P = c.requires.table in
    let l = c.requires.row in
    let w = note-below P.1.0 c.args.r l c.place-note.ensures P.1.1 in
    let z = c.if-note-eq0.false in
    record { table = (P.0, P.1.0); inside = (omega arith, l) }

pub settle_up-requires : goal.settle_up-requires
settle_up-requires t c =
    let P = c.requires.table in
    let l = c.requires.row in
    let w = note-below P.1.0 c.args.r l c.place-note.ensures P.1.1 in
    let z = c.if-note-eq0.false in
    let parent = parent-noted P.1.0 c.args.r l c.place-note.ensures P.1.1 z in
    (rw (← c.decreases) (omega arith), ((P.0, (P.1.0, parent-process P.0 _ c.args.r parent)), omega arith))

pub returns : goal.returns
returns t c =
    λ rows P i.
    let parent = parent-noted P c.args.r c.requires.row c.place-note.ensures i c.if-note-eq0.false in
    up-parent rows c.args.r (kept_lists c.args.kept.now) c.if-kept-r-ne2.false parent (c.go_on.ensures rows P parent) (c.settle_up.ensures rows P (parent-process rows _ c.args.r parent))
