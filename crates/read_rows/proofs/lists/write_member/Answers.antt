-- What the row refers to, then the row. Assumes nothing.
use mathlib.Core.Path.{refl, ap, ap₂, ◌∙◌}
use mathlib.Core.List.{[], ◌∷◌}
use Prim.Native.Nat.{◌+◌, ◌*◌}
use native.Mathlib.Omega.{arith}
use lib.IntN.{ℤ, pos}
use mir.Syntax.{w32}
use mir.Val.{SFits}
use mir.ValLaws.{to_z_pos, to_z-of_z}
use Rattle.grammar.specs.Outline.{members}
use Rattle.read_tokens.specs.Held.{tokens_resolved}
use Rattle.read_expressions.specs.Overlay.{overlay}
use Rattle.read_rows.specs.LinesLaid.{expect_of}
use Rattle.read_rows.proofs.StandSteps.{stands_at}
use Rattle.read_rows.proofs.ListCases.{member-low, member-declares, member-block-room, member-block-laid, member-small, member-writable, member-room, member-laid}
use Rattle.read_rows.proofs.LineTold.{sorts-held}
use borrow.Author.Rules.{rules}
use Rattle.read_rows.proofs.lists.write_member.Goals as goal

pub overflow_add-spot : goal.overflow_add-spot
unfolding expect_of
overflow_add-spot c =
    let os = tokens_resolved c.args.sorts.now c.args.values.now in
    let at = stands_at c.args.kind os c.args.spot c.args.rows.now c.requires.1 members (ap expect_of c.requires.0) in
    let h = c.if-kind-eq-VARIABLE_LINE.true in
    let low = member-low c.args.kind os c.args.spot c.args.rows.now at h in
    record { fits = omega (arith, low.1) }

pub write_block-requires : goal.write_block-requires
unfolding expect_of
write_block-requires c =
    let os = tokens_resolved c.args.sorts.now c.args.values.now in
    let at = stands_at c.args.kind os c.args.spot c.args.rows.now c.requires.1 members (ap expect_of c.requires.0) in
    let h = c.if-kind-eq-VARIABLE_LINE.true in
    let low = member-low c.args.kind os c.args.spot c.args.rows.now at h in
    (c.requires.2.0, (member-declares c.args.kind os c.args.spot c.args.rows.now at h, low.1, low.2))

pub overflow_add-spot-then-kind-eq-VARIABLE_LINE : goal.overflow_add-spot-then-kind-eq-VARIABLE_LINE
unfolding expect_of
overflow_add-spot-then-kind-eq-VARIABLE_LINE c =
    let os = tokens_resolved c.args.sorts.now c.args.values.now in
    let at = stands_at c.args.kind os c.args.spot c.args.rows.now c.requires.1 members (ap expect_of c.requires.0) in
    let h = c.if-kind-eq-VARIABLE_LINE.true in
    let low = member-low c.args.kind os c.args.spot c.args.rows.now at h in
    record { fits = omega (arith, low.1) }

pub overflow_add-spot-then-kind-eq-VARIABLE_LINE-2 : goal.overflow_add-spot-then-kind-eq-VARIABLE_LINE-2
unfolding expect_of
overflow_add-spot-then-kind-eq-VARIABLE_LINE-2 c =
    let os = tokens_resolved c.args.sorts.now c.args.values.now in
    let at = stands_at c.args.kind os c.args.spot c.args.rows.now c.requires.1 members (ap expect_of c.requires.0) in
    let h = c.if-kind-eq-VARIABLE_LINE.true in
    let low = member-low c.args.kind os c.args.spot c.args.rows.now at h in
    record { fits = omega (arith, low.0) }

pub overflow_sub-spot : goal.overflow_sub-spot
unfolding expect_of
overflow_sub-spot c =
    let os = tokens_resolved c.args.sorts.now c.args.values.now in
    let at = stands_at c.args.kind os c.args.spot c.args.rows.now c.requires.1 members (ap expect_of c.requires.0) in
    let h = c.if-kind-eq-VARIABLE_LINE.true in
    let low = member-low c.args.kind os c.args.spot c.args.rows.now at h in
    omega (arith, low.3)

pub link_to-rest-requires : goal.link_to-rest-requires
unfolding expect_of
link_to-rest-requires c =
    let os = tokens_resolved c.args.sorts.now c.args.values.now in
    let at = stands_at c.args.kind os c.args.spot c.args.rows.now c.requires.1 members (ap expect_of c.requires.0) in
    let h = c.if-kind-eq-VARIABLE_LINE.true in
    let low = member-low c.args.kind os c.args.spot c.args.rows.now at h in
    omega (arith, low.0)

pub overflow_add-spot-then-kind-eq-VARIABLE_LINE-3 : goal.overflow_add-spot-then-kind-eq-VARIABLE_LINE-3
unfolding expect_of
overflow_add-spot-then-kind-eq-VARIABLE_LINE-3 c =
    let os = tokens_resolved c.args.sorts.now c.args.values.now in
    let at = stands_at c.args.kind os c.args.spot c.args.rows.now c.requires.1 members (ap expect_of c.requires.0) in
    let h = c.if-kind-eq-VARIABLE_LINE.true in
    let low = member-low c.args.kind os c.args.spot c.args.rows.now at h in
    record { fits = omega (arith, low.1) }

pub overflow_cast-spot : goal.overflow_cast-spot
unfolding expect_of
overflow_cast-spot c =
    let os = tokens_resolved c.args.sorts.now c.args.values.now in
    let at = stands_at c.args.kind os c.args.spot c.args.rows.now c.requires.1 members (ap expect_of c.requires.0) in
    let h = c.if-kind-eq-VARIABLE_LINE.true in
    let low = member-low c.args.kind os c.args.spot c.args.rows.now at h in
    record { sfits = omega (arith, low.1) }

pub write_row-requires : goal.write_row-requires
unfolding expect_of
write_row-requires c =
    let os = tokens_resolved c.args.sorts.now c.args.values.now in
    let at = stands_at c.args.kind os c.args.spot c.args.rows.now c.requires.1 members (ap expect_of c.requires.0) in
    let h = c.if-kind-eq-VARIABLE_LINE.true in
    let low = member-low c.args.kind os c.args.spot c.args.rows.now at h in
    let w = c.write_block in
    (omega (arith, low.1), member-block-room c.args.kind os c.args.spot c.args.rows.now at h _ w.ensures)

pub returns-then-kind-eq-VARIABLE_LINE : goal.returns-then-kind-eq-VARIABLE_LINE
unfolding expect_of
returns-then-kind-eq-VARIABLE_LINE c =
    let os = tokens_resolved c.args.sorts.now c.args.values.now in
    let at = stands_at c.args.kind os c.args.spot c.args.rows.now c.requires.1 members (ap expect_of c.requires.0) in
    let h = c.if-kind-eq-VARIABLE_LINE.true in
    let low = member-low c.args.kind os c.args.spot c.args.rows.now at h in
    let w = c.write_block in
    let l = c.link_to-rest in
    let fits : SFits w32 l.result = search rules in (
      (refl, refl),
      member-block-laid c.args.kind os c.args.spot c.args.rows.now at h _ w.ensures _
          (c.write_row.ensures ∙ ap₂ (λ (i z : ℤ). overlay w.new.rows (4 * c.args.spot.row) (pos 40 ∷ i ∷ z ∷ pos 0 ∷ [])) (to_z_pos w32 (c.args.spot.row + 1) (omega (arith, low.1))) (to_z-of_z w32 l.result fits ∙ l.ensures)),
    )

pub overflow_add-spot-2 : goal.overflow_add-spot-2
unfolding expect_of
overflow_add-spot-2 c =
    let os = tokens_resolved c.args.sorts.now c.args.values.now in
    let at = stands_at c.args.kind os c.args.spot c.args.rows.now c.requires.1 members (ap expect_of c.requires.0) in
    let h = c.if-kind-eq-VARIABLE_LINE.false in
    let small = member-small c.args.kind os c.args.spot c.args.rows.now at h in
    record { fits = omega (arith, small) }

pub write_process-end-requires : goal.write_process-end-requires
unfolding expect_of
write_process-end-requires c =
    let os = tokens_resolved c.args.sorts.now c.args.values.now in
    let at = stands_at c.args.kind os c.args.spot c.args.rows.now c.requires.1 members (ap expect_of c.requires.0) in
    let h = c.if-kind-eq-VARIABLE_LINE.false in
    (sorts-held c.args.sorts.now c.args.values.now at.line c.requires.2.0 at.is-line, member-writable c.args.kind os c.args.spot c.args.rows.now at h, c.requires.2)

pub overflow_add-end : goal.overflow_add-end
unfolding expect_of
overflow_add-end c =
    let os = tokens_resolved c.args.sorts.now c.args.values.now in
    let at = stands_at c.args.kind os c.args.spot c.args.rows.now c.requires.1 members (ap expect_of c.requires.0) in
    let h = c.if-kind-eq-VARIABLE_LINE.false in
    let w = c.write_process-end in
    let room = member-room c.args.kind os c.args.spot c.args.rows.now at h w.result _ w.ensures.1.0 w.ensures.1.1 in
    record { fits = omega (arith, room.0) }

pub link_to-later-requires : goal.link_to-later-requires
unfolding expect_of
link_to-later-requires c =
    let os = tokens_resolved c.args.sorts.now c.args.values.now in
    let at = stands_at c.args.kind os c.args.spot c.args.rows.now c.requires.1 members (ap expect_of c.requires.0) in
    let h = c.if-kind-eq-VARIABLE_LINE.false in
    let w = c.write_process-end in
    let room = member-room c.args.kind os c.args.spot c.args.rows.now at h w.result _ w.ensures.1.0 w.ensures.1.1 in
    omega (arith, room.0)

pub overflow_cast-spot-2 : goal.overflow_cast-spot-2
unfolding expect_of
overflow_cast-spot-2 c =
    let os = tokens_resolved c.args.sorts.now c.args.values.now in
    let at = stands_at c.args.kind os c.args.spot c.args.rows.now c.requires.1 members (ap expect_of c.requires.0) in
    let h = c.if-kind-eq-VARIABLE_LINE.false in
    let small = member-small c.args.kind os c.args.spot c.args.rows.now at h in
    record { sfits = omega (arith, small) }

pub write_row-requires-2 : goal.write_row-requires-2
unfolding expect_of
write_row-requires-2 c =
    let os = tokens_resolved c.args.sorts.now c.args.values.now in
    let at = stands_at c.args.kind os c.args.spot c.args.rows.now c.requires.1 members (ap expect_of c.requires.0) in
    let h = c.if-kind-eq-VARIABLE_LINE.false in
    let w = c.write_process-end in
    let room = member-room c.args.kind os c.args.spot c.args.rows.now at h w.result _ w.ensures.1.0 w.ensures.1.1 in
    (room.1, room.2)

pub returns : goal.returns
unfolding expect_of
returns c =
    let os = tokens_resolved c.args.sorts.now c.args.values.now in
    let at = stands_at c.args.kind os c.args.spot c.args.rows.now c.requires.1 members (ap expect_of c.requires.0) in
    let h = c.if-kind-eq-VARIABLE_LINE.false in
    let w = c.write_process-end in
    let room = member-room c.args.kind os c.args.spot c.args.rows.now at h w.result _ w.ensures.1.0 w.ensures.1.1 in
    let l = c.link_to-later in
    let fits : SFits w32 l.result = search rules in (
      w.ensures.0,
      member-laid c.args.kind os c.args.spot c.args.rows.now at h w.result _ w.ensures.1.0 w.ensures.1.1 _
          (c.write_row-2.ensures ∙ ap₂ (λ (i z : ℤ). overlay w.new.rows (4 * c.args.spot.row) (pos 40 ∷ i ∷ z ∷ pos 0 ∷ [])) (to_z_pos w32 (c.args.spot.row + 1) (omega (arith, room.1))) (to_z-of_z w32 l.result fits ∙ l.ensures)),
    )
