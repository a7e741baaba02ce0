-- The loop keeps that the tokens of the line up to a place are listed. Assumes nothing.
use mathlib.Core.Path.{sym, ap, subst, ◌∙◌}
use Prim.Native.Nat.{ℕ, ◌+◌, ◌*◌}
use native.Mathlib.Omega.{arith}
use mir.Syntax.{w32}
use mir.Val.{SFits}
use mir.ValLaws.{to_z-of_z}
use borrow.Author.Rules.{rules}
use borrow.Author.Tests.{ltb-true}
use lib.IntN.{ℤ}
use Rattle.read_lines.specs.LineParts.{held_value}
use Rattle.read_lines.proofs.ListSteps.{Scanned, found, scan-start, scan-more, scan-misplaced, scan-past-end, scan-ended}
use Rattle.read_lines.proofs.list_line.Goals as goal

pub overflow_mul-place : goal.overflow_mul-place
overflow_mul-place c =
    let a = c.args in
    let b = scan-start a.text.now a.at a.first a.sorts.now a.values.now c.requires.0 c.requires.2 in
    let w = b.within in
    omega (arith, w, c.requires.1, c.indent-level.ensures)

pub overflow_add-place : goal.overflow_add-place
overflow_add-place c =
    let a = c.args in
    let b = scan-start a.text.now a.at a.first a.sorts.now a.values.now c.requires.0 c.requires.2 in
    let w = b.within in
    omega (arith, w, c.requires.1, c.indent-level.ensures)

pub loop-place-init : goal.loop-place-init
loop-place-init c =
    let a = c.args in
    subst (λ (l : ℕ). Scanned a.text.now a.at a.first a.sorts.now a.values.now a.sorts.now a.values.now (a.at + 2 * l) a.first) (sym c.indent-level.ensures)
    (scan-start a.text.now a.at a.first a.sorts.now a.values.now c.requires.0 c.requires.2)

pub is_ended-requires : goal.is_ended-requires
is_ended-requires c = c.loop-place-test.true

pub returns-in_default : goal.returns-in_default
returns-in_default c =
    scan-ended c.loop-place.invariant c.next_token-next.result c.next_token-next.ensures c.in_default.is c.loop-place-test.true c.indent-level.result c.indent-level.ensures c.is_ended.result c.is_ended.ensures _ c.then_some.ensures

pub is_misplaced-requires : goal.is_misplaced-requires
is_misplaced-requires c =
    let t = found c.args.text.now c.loop-place.place c.next_token-next.result c.next_token-next.ensures c.in-Some.token c.in-Some.is in
    let f = c.loop-place.invariant.few in
    (λ b. let h = ltb-true c.args.first c.loop-place.count b in omega (arith, f, h), t.places.1, t.places.0, t.places.2)

pub shape_of-sorts-then-is_misplaced : goal.shape_of-sorts-then-is_misplaced
shape_of-sorts-then-is_misplaced c = c.loop-place.invariant.sorts-length

pub shape_of-values-then-is_misplaced : goal.shape_of-values-then-is_misplaced
shape_of-values-then-is_misplaced c = c.loop-place.invariant.values_length

pub returns-then-is_misplaced : goal.returns-then-is_misplaced
returns-then-is_misplaced c =
    let t = found c.args.text.now c.loop-place.place c.next_token-next.result c.next_token-next.ensures c.in-Some.token c.in-Some.is in
    scan-misplaced c.loop-place.invariant c.next_token-next.result c.in-Some.token t (sym c.is_misplaced.ensures ∙ c.if-is_misplaced.true)

pub bounds-sorts-count : goal.bounds-sorts-count
bounds-sorts-count c =
    let i = c.loop-place.invariant in
    let f = i.few in
    let k = i.sorts-length in
    omega (arith, f, k, c.loop-place-test.true, c.requires.3)

pub held_value-requires : goal.held_value-requires
held_value-requires c =
    let t = found c.args.text.now c.loop-place.place c.next_token-next.result c.next_token-next.ensures c.in-Some.token c.in-Some.is in
    let w = t.places.1 in
    let u = t.places.2 in
    (omega (arith, w), omega (arith, u, c.requires.1))

pub offset_bounds-values-count : goal.offset_bounds-values-count
offset_bounds-values-count c =
    let f = c.loop-place.invariant.few in
    omega (arith, f, c.loop-place-test.true, c.requires.1)

pub bounds-values-count : goal.bounds-values-count
bounds-values-count c =
    let i = c.loop-place.invariant in
    let f = i.few in
    let k = i.values_length in
    omega (arith, f, k, c.loop-place-test.true, c.requires.4)

pub overflow_add-count : goal.overflow_add-count
overflow_add-count c =
    let f = c.loop-place.invariant.few in
    omega (arith, f, c.loop-place-test.true, c.requires.1)

pub loop-place-smaller : goal.loop-place-smaller
loop-place-smaller c =
    let t = found c.args.text.now c.loop-place.place c.next_token-next.result c.next_token-next.ensures c.in-Some.token c.in-Some.is in
    let (a, b, d) = t.places in
    omega (arith, a, b, d)

pub loop-place-preserved : goal.loop-place-preserved
loop-place-preserved c =
    let t = found c.args.text.now c.loop-place.place c.next_token-next.result c.next_token-next.ensures c.in-Some.token c.in-Some.is in
    let i = c.loop-place.invariant in
    let f = i.few in
    let j = i.sorts-length in
    let k = i.values_length in
    let r = c.next_token-next.result in
    let l = c.in-Some.token in
    let fits : SFits w32 c.held_value.result = search rules in
    let told : SFits w32 l.value = search rules in
    scan-more i r l t (sym c.is_misplaced.ensures ∙ c.if-is_misplaced.false) _
    (to_z-of_z w32 c.held_value.result fits ∙ c.held_value.ensures ∙ ap (λ (z : ℤ). held_value l.sort z r.from r.to) (to_z-of_z w32 l.value told))
    (omega (arith, f, j, c.loop-place-test.true, c.requires.3))
    (omega (arith, f, k, c.loop-place-test.true, c.requires.4))

pub shape_of-sorts : goal.shape_of-sorts
shape_of-sorts c = c.loop-place.invariant.sorts-length

pub shape_of-values : goal.shape_of-values
shape_of-values c = c.loop-place.invariant.values_length

pub returns : goal.returns
returns c = scan-past-end c.loop-place.invariant c.loop-place-test.false
