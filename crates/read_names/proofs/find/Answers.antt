-- The loop keeps that the names passed are not the name, and goes along the chain of its key. Assumes nothing.
use mathlib.Core.Path.{refl, sym, ap, ◌∙◌}
use Prim.Native.Nat.{◌-◌}
use native.Mathlib.Omega.{arith}
use Rattle.meaning.specs.Lines.{same}
use Rattle.read_names.specs.Listed.{names_at}
use Rattle.read_names.proofs.KeySteps.{names-counted, name-listed, key-small}
use Rattle.read_names.proofs.FindSteps.{AtName, finding-start, finding-end, finding-name, found, finding-next, chain-less}
use Rattle.read_names.proofs.find.Goals as goal

pub offset_bounds-heads-key_of : goal.offset_bounds-heads-key_of
offset_bounds-heads-key_of c =
    let a = c.args in
    let k = c.key_of.ensures in
    let s = key-small a.name.now in
    omega (arith, k, s)

pub bounds-heads-key_of : goal.bounds-heads-key_of
bounds-heads-key_of c =
    let a = c.args in
    let k = c.key_of.ensures in
    let s = key-small a.name.now in
    let n = c.requires.1.heads-counted in
    omega (arith, k, s, n)

pub overflow_cast-at : goal.overflow_cast-at
overflow_cast-at c = omega (arith, c.shared_slice_known-7-1.given c.key_of.result)

pub loop-at-init : goal.loop-at-init
loop-at-init c =
    let a = c.args in
    (omega (arith, c.shared_slice_known-7-1.given c.key_of.result), finding-start (names_at a.text.now a.froms.now a.sizes.now) a.name.now a.heads.now a.nexts.now c.requires.1 c.key_of.result c.key_of.ensures)

pub offset_bounds-froms-row : goal.offset_bounds-froms-row
offset_bounds-froms-row c = omega (arith, c.loop-at.invariant.0)

pub bounds-froms-row : goal.bounds-froms-row
bounds-froms-row c =
    let a = c.args in
    let names = names_at a.text.now a.froms.now a.sizes.now in
    let n = names-counted a.text.now a.froms.now a.sizes.now c.requires.0 in
    let t : AtName names a.name.now (c.loop-at.at - 1) = finding-name names a.name.now c.loop-at.at c.loop-at.invariant.1 c.loop-at-test.true in
    let i = t.there in
    omega (arith, n, i)

pub overflow_cast-froms : goal.overflow_cast-froms
overflow_cast-froms c = omega (arith, c.shared_slice_known-in-loop-at-1.given (c.loop-at.at - 1))

pub bounds-sizes-row : goal.bounds-sizes-row
bounds-sizes-row c =
    let a = c.args in
    let names = names_at a.text.now a.froms.now a.sizes.now in
    let n = names-counted a.text.now a.froms.now a.sizes.now c.requires.0 in
    let t : AtName names a.name.now (c.loop-at.at - 1) = finding-name names a.name.now c.loop-at.at c.loop-at.invariant.1 c.loop-at-test.true in
    let i = t.there in
    let e = c.requires.0 in
    omega (arith, n, i, e)

pub overflow_cast-sizes : goal.overflow_cast-sizes
overflow_cast-sizes c = omega (arith, c.shared_slice_known-in-loop-at-2-1.given (c.loop-at.at - 1))

pub returns-then-is_listed : goal.returns-then-is_listed
returns-then-is_listed c =
    let a = c.args in
    let names = names_at a.text.now a.froms.now a.sizes.now in
    let n = names-counted a.text.now a.froms.now a.sizes.now c.requires.0 in
    let t : AtName names a.name.now (c.loop-at.at - 1) = finding-name names a.name.now c.loop-at.at c.loop-at.invariant.1 c.loop-at-test.true in
    let at = name-listed a.text.now a.froms.now a.sizes.now c.requires.0 (c.loop-at.at - 1) (let i = t.there in omega (arith, n, i)) in
    let e = ap (same a.name.now) at ∙ sym c.is_listed.ensures ∙ c.if-is_listed.true in
    found names a.name.now (c.loop-at.at - 1) t e

pub offset_bounds-nexts-row : goal.offset_bounds-nexts-row
offset_bounds-nexts-row c = omega (arith, c.loop-at.invariant.0)

pub bounds-nexts-row : goal.bounds-nexts-row
bounds-nexts-row c =
    let a = c.args in
    let names = names_at a.text.now a.froms.now a.sizes.now in
    let n = names-counted a.text.now a.froms.now a.sizes.now c.requires.0 in
    let t : AtName names a.name.now (c.loop-at.at - 1) = finding-name names a.name.now c.loop-at.at c.loop-at.invariant.1 c.loop-at-test.true in
    let i = t.there in
    let m = c.requires.1.nexts-long in
    omega (arith, i, m)

pub overflow_cast-at-in-loop-at : goal.overflow_cast-at-in-loop-at
overflow_cast-at-in-loop-at c = omega (arith, c.shared_slice_known-in-loop-at-3-1.given (c.loop-at.at - 1))

pub loop-at-smaller : goal.loop-at-smaller
loop-at-smaller c =
    let a = c.args in
    let names = names_at a.text.now a.froms.now a.sizes.now in
    let n = names-counted a.text.now a.froms.now a.sizes.now c.requires.0 in
    let t : AtName names a.name.now (c.loop-at.at - 1) = finding-name names a.name.now c.loop-at.at c.loop-at.invariant.1 c.loop-at-test.true in
    chain-less names a.name.now (c.loop-at.at - 1) t a.heads.now a.nexts.now c.requires.1 c.loop-at.at c.loop-at-test.true refl

pub loop-at-preserved : goal.loop-at-preserved
loop-at-preserved c =
    let a = c.args in
    let names = names_at a.text.now a.froms.now a.sizes.now in
    let n = names-counted a.text.now a.froms.now a.sizes.now c.requires.0 in
    let t : AtName names a.name.now (c.loop-at.at - 1) = finding-name names a.name.now c.loop-at.at c.loop-at.invariant.1 c.loop-at-test.true in
    let at = name-listed a.text.now a.froms.now a.sizes.now c.requires.0 (c.loop-at.at - 1) (let i = t.there in omega (arith, n, i)) in
    let e = ap (same a.name.now) at ∙ sym c.is_listed.ensures ∙ c.if-is_listed.false in
    (omega (arith, c.shared_slice_known-in-loop-at-3-1.given (c.loop-at.at - 1)), finding-next names a.name.now (c.loop-at.at - 1) t a.heads.now a.nexts.now c.requires.1 e)

pub returns : goal.returns
returns c =
    let a = c.args in
    let n = names-counted a.text.now a.froms.now a.sizes.now c.requires.0 in
    sym n ∙ finding-end (names_at a.text.now a.froms.now a.sizes.now) a.name.now c.loop-at.at c.loop-at.invariant.1 c.loop-at-test.false
