-- An input or SKIP. Assumes nothing.
use mathlib.Core.Path.{refl, sym, ap, subst, ◌∙◌}
use native.Mathlib.Omega.{arith}
use Rattle.base_top_down.specs.Forms.{Form}
use Rattle.read_parts.specs.PartForms.{with_form, FormFits}
use Rattle.read_parts.proofs.MarkSteps.{first_found, found-asks, found-skips, event-read, skip-room, skip-laid}
use Rattle.read_parts.proofs.write_event.Goals as goal

pub write_exchange-requires : goal.write_exchange-requires
write_exchange-requires c =
    let ss = c.args.sorts.now in
    let vs = c.args.values.now in
    let m = c.first_mark-at in
    let s = c.sort_at in
    let t = first_found ss vs s.result m.result c.requires.0 m.ensures s.ensures in
    let k = c.if-sort_at-eq-ASKS.true in
    (t.inside (λ z. omega (arith, k, z)), (event-read t c.requires.1.0 k, subst (λ (g : Form). FormFits g c.args.n c.args.rows.now) (found-asks t k) c.requires.1.1), c.requires.2)

pub returns-then-sort_at-eq-ASKS : goal.returns-then-sort_at-eq-ASKS
returns-then-sort_at-eq-ASKS c =
    let ss = c.args.sorts.now in
    let vs = c.args.values.now in
    let m = c.first_mark-at in
    let s = c.sort_at in
    let t = first_found ss vs s.result m.result c.requires.0 m.ensures s.ensures in
    let k = c.if-sort_at-eq-ASKS.true in
    let w = c.write_exchange in
    (w.ensures.0, w.ensures.1.1 ∙ ap (λ (g : Form). with_form g c.args.n c.args.rows.now) (sym (found-asks t k)))

pub write_row-requires : goal.write_row-requires
write_row-requires c =
    let ss = c.args.sorts.now in
    let vs = c.args.values.now in
    let m = c.first_mark-at in
    let s = c.sort_at in
    let t = first_found ss vs s.result m.result c.requires.0 m.ensures s.ensures in
    let k = c.if-sort_at-eq-ASKS.false in
    skip-room c.args.n c.args.rows.now (subst (λ (g : Form). FormFits g c.args.n c.args.rows.now) (found-skips t k) c.requires.1.1)

pub returns-else-sort_at-eq-ASKS : goal.returns-else-sort_at-eq-ASKS
returns-else-sort_at-eq-ASKS c =
    let ss = c.args.sorts.now in
    let vs = c.args.values.now in
    let m = c.first_mark-at in
    let s = c.sort_at in
    let t = first_found ss vs s.result m.result c.requires.0 m.ensures s.ensures in
    let k = c.if-sort_at-eq-ASKS.false in
    ((refl, refl), skip-laid c.args.n c.args.rows.now _ c.write_row.ensures ∙ ap (λ (g : Form). with_form g c.args.n c.args.rows.now) (sym (found-skips t k)))
