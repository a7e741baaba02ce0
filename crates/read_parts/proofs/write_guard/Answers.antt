-- By the first mark. Assumes nothing.
use mathlib.Core.Path.{sym, ap, subst, ◌∙◌}
use native.Mathlib.Omega.{arith}
use Rattle.base_top_down.specs.Forms.{Form}
use Rattle.read_parts.specs.PartForms.{with_form, FormFits}
use Rattle.read_parts.proofs.MarkSteps.{first_found, found-with, found-alone, guarded-read, alone-read}
use Rattle.read_parts.proofs.write_guard.Goals as goal

pub write_guarded-requires : goal.write_guarded-requires
write_guarded-requires c =
    let ss = c.args.sorts.now in
    let vs = c.args.values.now in
    let m = c.first_mark-at in
    let s = c.sort_at in
    let t = first_found ss vs s.result m.result c.requires.0 m.ensures s.ensures in
    let k = c.if-sort_at-eq-AMPERSAND.true in
    (t.inside (λ z. omega (arith, k, z)), c.requires.0, (guarded-read t c.requires.1.0 k, subst (λ (g : Form). FormFits g c.args.n c.args.rows.now) (found-with t k) c.requires.1.1), c.requires.2)

pub returns-then-sort_at-eq-AMPERSAND : goal.returns-then-sort_at-eq-AMPERSAND
returns-then-sort_at-eq-AMPERSAND c =
    let ss = c.args.sorts.now in
    let vs = c.args.values.now in
    let m = c.first_mark-at in
    let s = c.sort_at in
    let t = first_found ss vs s.result m.result c.requires.0 m.ensures s.ensures in
    let k = c.if-sort_at-eq-AMPERSAND.true in
    let w = c.write_guarded in
    (w.ensures.0, w.ensures.1 ∙ ap (λ (g : Form). with_form g c.args.n c.args.rows.now) (sym (found-with t k)))

pub write_event-requires : goal.write_event-requires
write_event-requires c =
    let ss = c.args.sorts.now in
    let vs = c.args.values.now in
    let m = c.first_mark-at in
    let s = c.sort_at in
    let t = first_found ss vs s.result m.result c.requires.0 m.ensures s.ensures in
    let k = c.if-sort_at-eq-AMPERSAND.false in
    (c.requires.0, (alone-read t c.requires.1.0 k, subst (λ (g : Form). FormFits g c.args.n c.args.rows.now) (found-alone t k) c.requires.1.1), c.requires.2)

pub returns-else-sort_at-eq-AMPERSAND : goal.returns-else-sort_at-eq-AMPERSAND
returns-else-sort_at-eq-AMPERSAND c =
    let ss = c.args.sorts.now in
    let vs = c.args.values.now in
    let m = c.first_mark-at in
    let s = c.sort_at in
    let t = first_found ss vs s.result m.result c.requires.0 m.ensures s.ensures in
    let k = c.if-sort_at-eq-AMPERSAND.false in
    let w = c.write_event in
    (w.ensures.0, w.ensures.1 ∙ ap (λ (g : Form). with_form g c.args.n c.args.rows.now) (sym (found-alone t k)))
