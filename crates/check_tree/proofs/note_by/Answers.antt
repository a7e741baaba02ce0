-- Field by field: a right reference is counted, and no other. Assumes nothing.
use mathlib.Core.Path.{◌≡◌, ap, ◌∙◌}
use mathlib.Core.List.{List}
use Prim.Native.Nat.{ℕ}
use borrow.Author.Tests.{eq-eqb, ne_eqb}
use mir.Syntax.{w32}
use mir.ValLaws.{to_z-of_z}
use Rattle.meaning.specs.Rows.{field_at}
use Rattle.meaning.specs.Verdict.{target}
use Rattle.check_tree.specs.Counts.{one_more_for}
use Rattle.base_kinds.specs.Table.{field_meant, meant_shape}
use Rattle.check_tree.proofs.NotedCounts.{noted-three}
use Rattle.check_tree.proofs.note_by.Goals as goal

pub returns-then-s-ne-NO_KIND : goal.returns-then-s-ne-NO_KIND
unfolding meant_shape
returns-then-s-ne-NO_KIND c =
    let after-b : c.note-then-s-ne-NO_KIND.new.counts ≡ one_more_for c.note.new.counts (target c.args.rows.now c.args.r (field_meant c.args.s.b) (field_at c.args.rows.now c.args.r 2)) = let z = to_z-of_z w32 c.field-then-s-ne-NO_KIND.result (record { sfits = c.field-then-s-ne-NO_KIND.type_inv }) ∙ c.field-then-s-ne-NO_KIND.ensures in
    c.note-then-s-ne-NO_KIND.ensures ∙ ap (one_more_for c.note.new.counts) (c.target-then-s-ne-NO_KIND.ensures ∙ ap (target c.args.rows.now c.args.r (field_meant c.args.s.b)) z) in
    let after-a : c.note.new.counts ≡ one_more_for c.args.counts.now (target c.args.rows.now c.args.r (field_meant c.args.s.a) (field_at c.args.rows.now c.args.r 1)) = let z = to_z-of_z w32 c.field.result (record { sfits = c.field.type_inv }) ∙ c.field.ensures in
    c.note.ensures ∙ ap (one_more_for c.args.counts.now) (c.target.ensures ∙ ap (target c.args.rows.now c.args.r (field_meant c.args.s.a)) z) in
    λ k.
    let z = to_z-of_z w32 c.field-then-s-ne-NO_KIND-2.result (record { sfits = c.field-then-s-ne-NO_KIND-2.type_inv }) ∙ c.field-then-s-ne-NO_KIND-2.ensures in
    simp (ne_eqb c.args.s.a 10 c.if-s-ne-NO_KIND.true)
    (c.note-then-s-ne-NO_KIND-2.ensures
    ∙ ap (one_more_for c.note-then-s-ne-NO_KIND.new.counts) (c.target-then-s-ne-NO_KIND-2.ensures ∙ ap (target c.args.rows.now c.args.r (field_meant c.args.s.c)) z)
    ∙ ap (λ (l : List ℕ). one_more_for l (target c.args.rows.now c.args.r (field_meant c.args.s.c) (field_at c.args.rows.now c.args.r 3))) (after-b ∙ ap (λ (l : List ℕ). one_more_for l (target c.args.rows.now c.args.r (field_meant c.args.s.b) (field_at c.args.rows.now c.args.r 2))) (after-a))
    ∙ noted-three c.args.counts.now (target c.args.rows.now c.args.r (field_meant c.args.s.a) (field_at c.args.rows.now c.args.r 1)) (target c.args.rows.now c.args.r (field_meant c.args.s.b) (field_at c.args.rows.now c.args.r 2)) (target c.args.rows.now c.args.r (field_meant c.args.s.c) (field_at c.args.rows.now c.args.r 3)))

pub returns-else-s-ne-NO_KIND : goal.returns-else-s-ne-NO_KIND
unfolding meant_shape one_more_for
returns-else-s-ne-NO_KIND c = λ k. simp (eq-eqb c.args.s.a 10 c.if-s-ne-NO_KIND.false)
