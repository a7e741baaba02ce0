-- Operands are taken left to right, and one that the first settles is not looked at.
use mathlib.Core.Path.{◌≡◌, refl}
use mathlib.Core.Logic.{◌≢◌, inl, inr}
use mathlib.Core.Bool.{Bool, true, false, not, ◌&&◌}
use Prim.Native.Nat.{ℕ}
use lib.IntN.{ℤ, pos}
use lib.Dec.{eqb}
use Rattle.meaning.specs.declared.Value.{Value}
use Rattle.meaning.specs.declared.Value.TheVariants.{Number, Missing}
use Rattle.meaning.specs.Basics.{if_else}
use Rattle.meaning.specs.Values.{is_true, truth, operators, operate, decides, when_number, dyadic_of, value}
use Rattle.agreement.specs.ValueClaims.{FirstDecides, OperandsInTurn}
use Rattle.agreement.proofs.Decided.{Decides, told, both-decide, either-decides, true-decides, false-decides, number-decides}

pub settles-decides : (op : ℕ) (x : ℤ) → Decides (decides op x) (FirstDecides op x)
unfolding decides
settles-decides op x =
    either-decides (eqb op 14 && not (is_true x)) (eqb op 15 && is_true x) _ _
    (both-decide (eqb op 14) (not (is_true x)) _ _ (number-decides op 14) (false-decides x))
    (both-decide (eqb op 15) (is_true x) _ _ (number-decides op 15) (true-decides x))

is_true_lem : (x : ℤ) → x ≢ pos 0 → is_true x ≡ true
is_true_lem x n = go (is_true x) (true-decides x)
  where
    go : (t : Bool) → Decides t (x ≢ pos 0) → t ≡ true
    go true d = refl
    go false d = absurd (d.if-false refl n)

module _ (op : ℕ) (x : ℤ) where
  -- what is left is what the second operand gives, or what the first settled
  settled : (w : Value) → FirstDecides op x → dyadic_of op (Number x) w ≡ truth (is_true x)
  unfolding dyadic_of
  settled w h = go (decides op x) (settles-decides op x)
    where
      go : (t : Bool) → Decides t (FirstDecides op x) → if_else t (truth (is_true x)) (when_number w (operate op x)) ≡ truth (is_true x)
      go true d = refl
      go false d = absurd (d.if-false refl h)

  not-settled : (k : ℕ) → ¬ FirstDecides op x → dyadic_of op (Number x) (Missing k) ≡ Missing k
  unfolding dyadic_of
  not-settled k n = go (decides op x) (settles-decides op x)
    where
      go : (t : Bool) → Decides t (FirstDecides op x) → if_else t (truth (is_true x)) (Missing k) ≡ Missing k
      go true d = absurd (n (d.if-true refl))
      go false d = refl

  settled-alike : (y : ℤ) → FirstDecides op x → truth (is_true x) ≡ operate op x y
  unfolding operate operators
  settled-alike y (inl (o, e)) = rw (o, e)
  settled-alike y (inr (o, n)) = rw (o, is_true_lem x n)

  both-numbers : (y : ℤ) → dyadic_of op (Number x) (Number y) ≡ operate op x y
  unfolding dyadic_of
  both-numbers y = go (decides op x) (settles-decides op x)
    where
      go : (t : Bool) → Decides t (FirstDecides op x) → if_else t (truth (is_true x)) (operate op x y) ≡ operate op x y
      go true d = settled-alike y (d.if-true refl)
      go false d = refl

pub operands-in-turn : OperandsInTurn
unfolding value dyadic_of
operands-in-turn cells op e f =
    record {
      first-missing = λ k h. rw h;
      settled-by-first = λ x h d. rw (h, settled op x (value cells f) d) (told (is_true x) (x ≢ pos 0) (true-decides x));
      second-missing = λ x k h n m. rw (h, m) (not-settled op x k n);
      both-there = λ x y h m. rw (h, m) (both-numbers op x y);
      operand-missing = λ k h. rw h;
      operand-there = λ x h. rw h;
    }
