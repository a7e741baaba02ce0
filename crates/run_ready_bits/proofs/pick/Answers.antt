-- `pick` meets its contract: the rows of the words before word i are passed, and `left` more are to be passed.
use Rattle.std.proofs.Common.{ℕ, ◌+◌, ◌*◌, get_or, sym, refl, ap, ◌∙◌, arith}
use Rattle.run_ready_bits.proofs.Picks.{place-fits, no_rows, later, here, nowhere, picked-here, picked-later, picked-nowhere}
use Rattle.run_ready_bits.proofs.pick.Goals as goal

pub loop-i-init : goal.loop-i-init
loop-i-init c = ((λ C. no_rows _ _), refl)

pub overflow_add-result : goal.overflow_add-result
overflow_add-result c =
    omega (arith, c.place.ensures, place-fits (get_or c.args.bits.now c.loop-i.i 0) c.loop-i.left)

pub returns-then-left-n-clause-numbers : goal.returns-then-left-n-clause-numbers
returns-then-left-n-clause-numbers c =
    let l = c.loop-i in
    ap (λ (x : ℕ). 64 * l.i + x) c.place.ensures ∙ sym (l.invariant.1 ∙ picked-here _ l.i l.left c.loop-i-test.true c.if-left-n.true)

pub returns-then-left-n-clause-meaning : goal.returns-then-left-n-clause-meaning
returns-then-left-n-clause-meaning c C =
    let l = c.loop-i in
    let t = c.loop-i-test.true in
    ap (λ (x : ℕ). 64 * l.i + x) c.place.ensures ∙ here _ _ l.i t l.left (l.invariant.0 C) _ (C.each l.i t) c.if-left-n.true

pub loop-i-preserved : goal.loop-i-preserved
loop-i-preserved c =
    let l = c.loop-i in
    let t = c.loop-i-test.true in
    ((λ C. later _ _ l.i t l.left (l.invariant.0 C) _ (C.each l.i t) c.if-left-n.false), l.invariant.1 ∙ picked-later _ l.i l.left t c.if-left-n.false)

pub returns-clause-numbers : goal.returns-clause-numbers
returns-clause-numbers c = let l = c.loop-i in sym (l.invariant.1 ∙ picked-nowhere _ l.i l.left c.loop-i-test.false)

pub returns-clause-meaning : goal.returns-clause-meaning
returns-clause-meaning c C = let l = c.loop-i in nowhere _ _ l.i l.left c.loop-i-test.false (omega arith) (l.invariant.0 C)
