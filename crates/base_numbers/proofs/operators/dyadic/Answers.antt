-- `dyadic` meets its contract: each arm of its `match` is the operator of that number, and past the last there is none.
use mathlib.Core.Path.{◌≡◌, sym, ap, ◌∙◌}
use mathlib.Core.Bool.{Bool, not, ◌&&◌, ◌||◌}
use Prim.Native.Nat.{ℕ, zero, suc, ◌≤◌}
use native.Mathlib.Omega.{arith}
use lib.IntN.{ℤ, ◌+ℤ◌, ◌-ℤ◌, ◌*ℤ◌}
use lib.ListN.{get_or-eq_default}
use lib.Signed.{lt_z, le_z}
use Rattle.meaning.specs.declared.Value.{Value}
use Rattle.meaning.specs.declared.Value.TheVariants.{Number, Missing}
use Rattle.meaning.specs.Values.{fitted, wrapped, is_true, truth, quotient, remainder, operators, operate}
use mir.Syntax.{w32}
use mir.ValLaws.{to_z-of_z}
use Rattle.base_numbers.proofs.Bits.{bits-test}
use Rattle.base_numbers.proofs.Ranges.{passed, handed-on}
use Rattle.base_numbers.proofs.operators.dyadic.Goals as goal
use Rattle.base_numbers.proofs.operators.dyadic.Goals.{then-is_true, else-is_true, then-is_true-2, else-is_true-2}

-- a number that is none of 0, 1 and so on below k
abbrev NoneBelow : ℕ → ℕ → Type 0
NoneBelow n zero = Unit {0}
NoneBelow n (suc k) = NoneBelow n k × (n ≡ k → ⊥)

none_below : (n k : ℕ) → NoneBelow n k → k ≤ n
none_below n zero h = omega arith
none_below n (suc k) h = let l = none_below n k h.0 in let m = h.1 in omega arith

-- the operator of a number that is known
known : (op k : ℕ) (x y : ℤ) → op ≡ k → operate k x y ≡ operate op x y
known op k x y e = ap (λ (n : ℕ). operate n x y) (sym e)

pub returns-in-0 : goal.returns-in-0
unfolding operate operators
returns-in-0 c =
    c.fit.ensures ∙ ap fitted (handed-on c.ranges.x c.ranges.y ◌+ℤ◌ (record { sfits = c.sum.type_inv }) c.sum.ensures) ∙ known c.args.op _ c.args.x c.args.y c.in-0.is

pub returns-in-1 : goal.returns-in-1
unfolding operate operators
returns-in-1 c =
    c.fit-in-1.ensures ∙ ap fitted (handed-on c.ranges.x c.ranges.y ◌-ℤ◌ (record { sfits = c.difference.type_inv }) c.difference.ensures) ∙ known c.args.op _ c.args.x c.args.y c.in-1.is

pub returns-in-2 : goal.returns-in-2
unfolding operate operators
returns-in-2 c =
    c.fit-in-2.ensures ∙ ap fitted (handed-on c.ranges.x c.ranges.y ◌*ℤ◌ (record { sfits = c.product.type_inv }) c.product.ensures) ∙ known c.args.op _ c.args.x c.args.y c.in-2.is

pub returns-in-3 : goal.returns-in-3
unfolding operate operators
returns-in-3 c =
    c.quotient.ensures ∙ passed c.ranges.x c.ranges.y quotient ∙ known c.args.op _ c.args.x c.args.y c.in-3.is

pub returns-in-4 : goal.returns-in-4
unfolding operate operators
returns-in-4 c =
    c.remainder.ensures ∙ passed c.ranges.x c.ranges.y remainder ∙ known c.args.op _ c.args.x c.args.y c.in-4.is

pub returns-in-5 : goal.returns-in-5
unfolding operate operators
returns-in-5 c =
    c.wrap.ensures ∙ ap (λ (z : ℤ). Number (wrapped z))
    (handed-on c.ranges.x c.ranges.y ◌+ℤ◌ (record { sfits = c.sum-in-5.type_inv }) c.sum-in-5.ensures) ∙ known c.args.op _ c.args.x c.args.y c.in-5.is

pub returns-in-6 : goal.returns-in-6
unfolding operate operators
returns-in-6 c =
    c.wrap-in-6.ensures ∙ ap (λ (z : ℤ). Number (wrapped z))
    (handed-on c.ranges.x c.ranges.y ◌-ℤ◌ (record { sfits = c.difference-in-6.type_inv }) c.difference-in-6.ensures) ∙ known c.args.op _ c.args.x c.args.y c.in-6.is

pub returns-in-7 : goal.returns-in-7
unfolding operate operators
returns-in-7 c =
    c.wrap-in-7.ensures ∙ ap (λ (z : ℤ). Number (wrapped z))
    (handed-on c.ranges.x c.ranges.y ◌*ℤ◌ (record { sfits = c.product-in-7.type_inv }) c.product-in-7.ensures) ∙ known c.args.op _ c.args.x c.args.y c.in-7.is

pub returns-in-8 : goal.returns-in-8
unfolding operate operators
returns-in-8 c =
    c.truth.ensures ∙ ap truth (bits-test _ _ c.ranges.x c.ranges.y) ∙ known c.args.op _ c.args.x c.args.y c.in-8.is

pub returns-in-9 : goal.returns-in-9
unfolding operate operators
returns-in-9 c =
    c.truth-in-9.ensures ∙ ap truth (ap not (bits-test _ _ c.ranges.x c.ranges.y)) ∙ known c.args.op _ c.args.x c.args.y c.in-9.is

pub returns-in-10 : goal.returns-in-10
unfolding operate operators
returns-in-10 c =
    c.truth-in-10.ensures ∙ ap truth (passed c.ranges.x c.ranges.y lt_z) ∙ known c.args.op _ c.args.x c.args.y c.in-10.is

pub returns-in-11 : goal.returns-in-11
unfolding operate operators
returns-in-11 c =
    c.truth-in-11.ensures ∙ ap truth (passed c.ranges.x c.ranges.y le_z) ∙ known c.args.op _ c.args.x c.args.y c.in-11.is

pub returns-in-12 : goal.returns-in-12
unfolding operate operators
returns-in-12 c =
    c.truth-in-12.ensures ∙ ap truth (passed c.ranges.y c.ranges.x lt_z) ∙ known c.args.op _ c.args.x c.args.y c.in-12.is

pub returns-in-13 : goal.returns-in-13
unfolding operate operators
returns-in-13 c =
    c.truth-in-13.ensures ∙ ap truth (passed c.ranges.y c.ranges.x le_z) ∙ known c.args.op _ c.args.x c.args.y c.in-13.is

pub returns-in_default : goal.returns-in_default
unfolding operate operators
returns-in_default c =
    ap (λ (f : ℤ → ℤ → Value). f c.args.x c.args.y)
    (sym (get_or-eq_default operators (λ x y. Missing 0) {n = c.args.op} (none_below _ 16 c.in_default.in_default-own.rest)))

pub returns-after-is_true : goal.returns-after-is_true
unfolding operate operators
returns-after-is_true c =
    let x = c.args.x in
    let y = c.args.y in
    let first : c.is_true.result ≡ is_true x = c.is_true.ensures ∙ ap is_true (to_z-of_z w32 _ c.ranges.x) in
    let told : c.if-is_true.truth ≡ (is_true x && is_true y) =
    elim c.if-is_true.branch [
      | then-is_true w ↦ w.truth-is ∙ (w.is_true-then-is_true.ensures ∙ ap is_true (to_z-of_z w32 _ c.ranges.y)) ∙ ap (λ (t : Bool). t && is_true y) (sym (sym first ∙ w.if-is_true.true))
      | else-is_true w ↦ w.truth-is ∙ w.if-is_true.false ∙ ap (λ (t : Bool). t && is_true y) (sym (sym first ∙ w.if-is_true.false))
    ]
    in
    c.truth-in-14.ensures ∙ ap truth told ∙ known c.args.op _ x y c.in-14.is

pub returns-after-is_true-2 : goal.returns-after-is_true-2
unfolding operate operators
returns-after-is_true-2 c =
    let x = c.args.x in
    let y = c.args.y in
    let first : c.is_true-in-15.result ≡ is_true x = c.is_true-in-15.ensures ∙ ap is_true (to_z-of_z w32 _ c.ranges.x) in
    let told : c.if-is_true-2.truth ≡ (is_true x || is_true y) =
    elim c.if-is_true-2.branch [
      | then-is_true-2 w ↦ w.truth-is ∙ w.if-is_true-2.true ∙ ap (λ (t : Bool). t || is_true y) (sym (sym first ∙ w.if-is_true-2.true))
      | else-is_true-2 w ↦ w.truth-is ∙ (w.is_true-else-is_true-2.ensures ∙ ap is_true (to_z-of_z w32 _ c.ranges.y)) ∙ ap (λ (t : Bool). t || is_true y) (sym (sym first ∙ w.if-is_true-2.false))
    ]
    in
    c.truth-in-15.ensures ∙ ap truth told ∙ known c.args.op _ x y c.in-15.is
