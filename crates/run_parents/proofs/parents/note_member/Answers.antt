-- `note_member` meets its contract: a process stands at the row, or none does.
use mathlib.Core.Path.{sym, ◌∙◌}
use Prim.Native.Nat.{◌<◌}
use native.Mathlib.Omega.{arith}
use Rattle.meaning.specs.Rows.{row_count}
use Rattle.run_parents.proofs.MemberNotes.{row-alone, member-noted, no-member-noted}
use Rattle.run_parents.specs.Parents.{NextIs}
use Rattle.run_parents.proofs.NextLinks.{numbered-none, member-numbered}
use Rattle.run_parents.proofs.parents.note_member.Goals as goal

pub note_parent-requires : goal.note_parent-requires
note_parent-requires c =
    let a = c.args in
    let l : a.p < row_count a.rows.now = (row-alone a.rows.now a.p (sym c.is_process.ensures ∙ c.if-is_process.true)).1 in
    record { room = (omega (arith, l, c.requires.room.0), omega (arith, l, c.requires.room.1)) }

pub returns-then-is_process : goal.returns-then-is_process
returns-then-is_process c =
    let a = c.args in
    let rows = a.rows.now in
    let some-process = sym c.is_process.ensures ∙ c.if-is_process.true in
    let here = (row-alone rows a.p some-process).1 in
    let next = c.link_note-next in record { noted = member-noted rows a.p a.note a.parents.now _ some-process c.requires.room.0 c.note_parent.ensures.0; numbers = member-numbered rows a.p a.t a.note next.result a.parents.now a.nexts.now here (omega (arith, here, c.requires.room.0)) (omega (arith, here, c.requires.room.1)) c.requires.real next.ensures _ _ c.note_parent.ensures.0 c.note_parent.ensures.1 }

pub returns-else-is_process : goal.returns-else-is_process
returns-else-is_process c =
    let a = c.args in
    let rows = a.rows.now in record { noted = no-member-noted rows a.p a.note a.parents.now (sym c.is_process.ensures ∙ c.if-is_process.false); numbers = numbered-none (NextIs rows a.p a.t) a.parents.now a.nexts.now }
