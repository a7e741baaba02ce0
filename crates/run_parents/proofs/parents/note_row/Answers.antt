-- `note_row` meets its contract, by the part of the row in settling.
use mathlib.Core.Path.{sym, ◌∙◌}
use lib.ListN.{length}
use Rattle.run_parents.proofs.Standing.{found}
use Rattle.run_parents.proofs.MemberNotes.{ending-noted, single-noted, bare-noted}
use Rattle.run_parents.specs.Parents.{NextOf, NextIs}
use Rattle.run_parents.proofs.NextLinks.{numbered-none, numbered_more, single-next}
use Rattle.run_parents.proofs.parents.note_row.Goals as goal

pub returns-in-Ending : goal.returns-in-Ending
returns-in-Ending c =
    let a = c.args in
    record { noted = ending-noted a.rows.now a.r a.parents.now _ (found a.rows.now a.r c.shape_at-s.ensures c.in-Ending.is) c.note_members.ensures.noted; numbers = c.note_members.ensures.numbers }

pub returns-in-Single : goal.returns-in-Single
returns-in-Single c =
    let a = c.args in
    record { noted = single-noted a.rows.now a.r a.parents.now _ (found a.rows.now a.r c.shape_at-s.ensures c.in-Single.is) c.note_member.ensures.noted; numbers = numbered_more (NextIs a.rows.now c.in-Single.process (length a.rows.now)) (NextOf a.rows.now) a.parents.now a.nexts.now _ _ (single-next a.rows.now a.r c.in-Single.process c.requires.inside (sym c.shape_at-s.ensures ∙ c.in-Single.is)) c.note_member.ensures.numbers }

pub returns-in-Link : goal.returns-in-Link
returns-in-Link c =
    let a = c.args in
    record { noted = bare-noted a.rows.now a.r a.parents.now (found a.rows.now a.r c.shape_at-s.ensures c.in-Link.is).no-process; numbers = numbered-none (NextOf a.rows.now) a.parents.now a.nexts.now }

pub returns-in-Neither : goal.returns-in-Neither
returns-in-Neither c =
    let a = c.args in
    record { noted = bare-noted a.rows.now a.r a.parents.now (found a.rows.now a.r c.shape_at-s.ensures c.in-Neither.is).no-process; numbers = numbered-none (NextOf a.rows.now) a.parents.now a.nexts.now }
