-- `note_members` meets its contract. The invariant: what notes the members from t on notes those from m on.
use mathlib.Core.Path.{refl, sym, ◌∙◌}
use borrow.Author.Rules.{rules}
use Rattle.meaning.specs.Tree.{content_at}
use Rattle.run_parents.proofs.Standing.{found}
use Rattle.run_parents.specs.Parents.{NextOf, NextIs}
use Rattle.run_parents.proofs.MemberNotes.{none-past, no-members-noted, link-noted}
use Rattle.run_parents.proofs.NextLinks.{numbered-none, numbered-then, numbered_more, link-next}
use Rattle.run_parents.proofs.parents.note_members.Goals as goal

pub loop-t-init : goal.loop-t-init
loop-t-init c = let a = c.args in (refl, refl, (λ p h. h), numbered-none (NextOf a.rows.now) a.parents.now a.nexts.now)

pub returns-in-Ending : goal.returns-in-Ending
returns-in-Ending c =
    let e = (found c.args.rows.now c.loop-t.t c.shape_at-s.ensures c.in-Ending.is).no-members in
    record { noted = c.loop-t.invariant.2 c.loop-t.parents (no-members-noted (content_at c.args.rows.now c.loop-t.t).listed c.args.note c.loop-t.parents e); numbers = c.loop-t.invariant.3 }

pub returns-in-Single : goal.returns-in-Single
returns-in-Single c =
    let e = (found c.args.rows.now c.loop-t.t c.shape_at-s.ensures c.in-Single.is).no-members in
    record { noted = c.loop-t.invariant.2 c.loop-t.parents (no-members-noted (content_at c.args.rows.now c.loop-t.t).listed c.args.note c.loop-t.parents e); numbers = c.loop-t.invariant.3 }

pub loop-t-smaller : goal.loop-t-smaller
loop-t-smaller c =
    (found c.args.rows.now c.loop-t.t c.shape_at-s.ensures c.in-Link.is).fewer-next

pub loop-t-preserved : goal.loop-t-preserved
loop-t-preserved c =
    let l = c.loop-t in
    let link = found c.args.rows.now l.t c.shape_at-s.ensures c.in-Link.is in
    let a = c.args in (
      search rules,
      search rules,
      (λ q h. l.invariant.2 q (link-noted c.args.rows.now c.args.note c.requires.real l.parents _ q link c.note_member.ensures.noted h)),
      numbered-then (NextOf c.args.rows.now) a.parents.now a.nexts.now l.parents l.nexts _ _ l.invariant.3
          (numbered_more (NextIs c.args.rows.now c.in-Link.p c.in-Link.next) (NextOf c.args.rows.now) l.parents l.nexts _ _ (link-next c.args.rows.now l.t c.in-Link.p c.loop-t-test.true c.in-Link.next (sym c.shape_at-s.ensures ∙ c.in-Link.is)) c.note_member.ensures.numbers),
    )

pub returns-in-Neither : goal.returns-in-Neither
returns-in-Neither c =
    let e = (found c.args.rows.now c.loop-t.t c.shape_at-s.ensures c.in-Neither.is).no-members in
    record { noted = c.loop-t.invariant.2 c.loop-t.parents (no-members-noted (content_at c.args.rows.now c.loop-t.t).listed c.args.note c.loop-t.parents e); numbers = c.loop-t.invariant.3 }

pub returns : goal.returns
returns c = let e = (none-past c.args.rows.now c.loop-t.t c.loop-t-test.false) in
    record { noted = c.loop-t.invariant.2 c.loop-t.parents (no-members-noted (content_at c.args.rows.now c.loop-t.t).listed c.args.note c.loop-t.parents e); numbers = c.loop-t.invariant.3 }
