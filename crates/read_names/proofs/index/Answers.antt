-- The loop keeps that the names from a place on are chained. Assumes nothing.
use mathlib.Core.Path.{◌≡◌, ap, subst, ◌∙◌}
use Prim.Native.Nat.{ℕ}
use native.Mathlib.Omega.{arith}
use lib.ListN.{length}
use Rattle.read_names.specs.Listed.{names_at}
use Rattle.read_names.specs.Keys.{key_of, IndexedFrom}
use Rattle.read_names.proofs.KeySteps.{names-counted, key-small, index-start, index_listed}
use Rattle.read_names.proofs.index.Goals as goal

pub loop-at-init : goal.loop-at-init
loop-at-init c =
    let a = c.args in
    let n = names-counted a.text.now a.froms.now a.sizes.now c.requires.0 in
    let l = c.requires.2 in
    index-start (names_at a.text.now a.froms.now a.sizes.now) (length a.froms.now) a.heads.now a.nexts.now (omega (arith, n)) (omega (arith, n, l)) c.requires.3

pub offset_bounds-heads-key : goal.offset_bounds-heads-key
offset_bounds-heads-key c = let k = c.key_of-key.ensures in let s = key-small c.listed.result.now in omega (arith, k, s)

pub bounds-heads-key : goal.bounds-heads-key
bounds-heads-key c =
    let k = c.key_of-key.ensures in
    let s = key-small c.listed.result.now in
    let n = c.loop-at.invariant.heads-counted in
    omega (arith, k, s, n)

pub offset_bounds-heads-key-in-loop-at : goal.offset_bounds-heads-key-in-loop-at
offset_bounds-heads-key-in-loop-at c = let k = c.key_of-key.ensures in let s = key-small c.listed.result.now in omega (arith, k, s)

pub bounds-heads-key-in-loop-at : goal.bounds-heads-key-in-loop-at
bounds-heads-key-in-loop-at c =
    let k = c.key_of-key.ensures in
    let s = key-small c.listed.result.now in
    let n = c.loop-at.invariant.heads-counted in
    omega (arith, k, s, n)

pub loop-at-preserved : goal.loop-at-preserved
loop-at-preserved c =
    let a = c.args in
    index_listed a.text.now a.froms.now a.sizes.now c.loop-at.heads c.loop-at.nexts c.requires.0 c.loop-at.at (omega arith) (omega arith) c.loop-at.invariant c.key_of-key.result
    (c.key_of-key.ensures ∙ ap key_of c.listed.ensures)

pub returns : goal.returns
returns c =
    let a = c.args in
    let z : c.loop-at.at ≡ 0 = omega arith in
    (subst (λ (n : ℕ). IndexedFrom (names_at a.text.now a.froms.now a.sizes.now) n c.loop-at.heads c.loop-at.nexts) z c.loop-at.invariant, c.loop-at.auto.nexts)
