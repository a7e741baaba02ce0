-- An expression has no value for reason 1 exactly if it needs a cell that is unset: no operator gives that reason.
use mathlib.Core.Path.{◌≡◌, refl, ap, ◌∙◌}
use mathlib.Core.Logic.{◌⊎◌, inl, inr}
use mathlib.Core.Bool.{Bool, true, false, not, ◌&&◌, ◌||◌}
use mathlib.Core.Option.{none, some}
use mathlib.Core.List.{List, [], ◌∷◌}
use Prim.Native.Nat.{ℕ, zero, suc, ◌+◌}
use native.Mathlib.Omega.{arith}
use lib.IntN.{ℤ, pos, negsuc, neg_ℤ, ◌+ℤ◌, ◌-ℤ◌, ◌*ℤ◌}
use lib.ListN.{get_or}
use lib.Signed.{lt_z, le_z, quot_z, rem_z}
use lib.Dec.{ltb, eqb}
use Rattle.meaning.specs.declared.Value.{Value}
use Rattle.meaning.specs.declared.Value.TheVariants.{Number, Missing}
use Rattle.meaning.specs.declared.Index.{Index}
use Rattle.meaning.specs.declared.Index.TheVariants.{At, Fails}
use Rattle.meaning.specs.Basics.{if_else, eq_z, is_some}
use Rattle.meaning.specs.Tree.{Expr, literal, element, monadic, given, dyadic, no_expr}
use Rattle.meaning.specs.Values.{Message, fitted, wrapped, is_true, truth, quotient, remainder, operators, operate, monadic_of, decides, when_number, dyadic_of, in_array, cell_value, read_cell, given_value, value, index}
use Rattle.agreement.specs.MissingClaims.{NeedsUnset, cell-unset, in-subscript, in-given, in-operand, in-first, in-second, UnsetRead, UnsetSubscript}

-- the reason in a value, 0 where there is a number
reason_in : Value → ℕ
reason_in (Number x) = 0
reason_in (Missing k) = k

-- not without a value for reason 1
abbrev OtherReason : Value → Type 0
OtherReason v = ¬ (v ≡ Missing 1)

other : (v : Value) → ¬ (reason_in v ≡ 1) → OtherReason v
unfolding reason_in
other v h e = h (ap reason_in e)

number-other : (x : ℤ) → OtherReason (Number x)
unfolding reason_in
number-other x = other (Number x) (λ e. omega arith)

no-reason-other : OtherReason (Missing 0)
unfolding reason_in
no-reason-other = other (Missing 0) (λ e. omega arith)

truth-other : (t : Bool) → OtherReason (truth t)
truth-other true = number-other (pos 1)
truth-other false = number-other (pos 0)

if-other : (t : Bool) (v w : Value) → OtherReason v → OtherReason w → OtherReason (if_else t v w)
if-other true v w h g = h
if-other false v w h g = g

fitted-other : (z : ℤ) → OtherReason (fitted z)
unfolding fitted reason_in
fitted-other z =
    if-other (lt_z z (negsuc 2147483647)) (Missing 3) _ (other (Missing 3) (λ e. omega arith))
    (if-other (lt_z (pos 2147483647) z) (Missing 3) (Number z) (other (Missing 3) (λ e. omega arith)) (number-other z))

-- by zero, reason 4
divided-other : (y z : ℤ) → OtherReason (if_else (eq_z y (pos 0)) (Missing 4) (fitted z))
unfolding reason_in
divided-other y z = if-other (eq_z y (pos 0)) (Missing 4) (fitted z) (other (Missing 4) (λ e. omega arith)) (fitted-other z)

-- an operator that never gives reason 1, and a list of such
abbrev NeverUnset : (ℤ → ℤ → Value) → Type 0
NeverUnset f = (x y : ℤ) → OtherReason (f x y)

data AllNever : List (ℤ → ℤ → Value) → Type 0 where
  no_more : AllNever []
  and_then : {f : ℤ → ℤ → Value} {l : List (ℤ → ℤ → Value)} → NeverUnset f → AllNever l → AllNever (f ∷ l)

picked : {l : List (ℤ → ℤ → Value)} → AllNever l → (n : ℕ) (d : ℤ → ℤ → Value) → NeverUnset d → NeverUnset (get_or l n d)
picked no_more n d h = h
picked (and_then f l) zero d h = f
picked (and_then f l) (suc n) d h = picked l n d h

operate-other : (op : ℕ) → NeverUnset (operate op)
unfolding operate operators quotient remainder reason_in
operate-other op =
    picked
    (
    and_then (λ x y. fitted-other (x +ℤ y))
    (and_then (λ x y. fitted-other (x -ℤ y))
    (and_then (λ x y. fitted-other (x *ℤ y))
    (and_then (λ x y. divided-other y (quot_z x y))
    (and_then (λ x y. divided-other y (rem_z x y))
    (and_then (λ x y. number-other (wrapped (x +ℤ y)))
    (and_then (λ x y. number-other (wrapped (x -ℤ y)))
    (and_then (λ x y. number-other (wrapped (x *ℤ y)))
    (and_then (λ x y. truth-other (eq_z x y))
    (and_then (λ x y. truth-other (not (eq_z x y)))
    (and_then (λ x y. truth-other (lt_z x y))
    (and_then (λ x y. truth-other (le_z x y))
    (and_then (λ x y. truth-other (lt_z y x))
    (and_then (λ x y. truth-other (le_z y x))
    (and_then (λ x y. truth-other (is_true x && is_true y)) (and_then (λ x y. truth-other (is_true x || is_true y)) no_more)))))))))))))))
    )
    op (λ x y. Missing 0) (λ x y. no-reason-other)

monadic-other : (op : ℕ) (x : ℤ) → OtherReason (monadic_of op x)
unfolding monadic_of reason_in
monadic-other op x =
    if-other (eqb op 0) (fitted (neg_ℤ x)) _ (fitted-other (neg_ℤ x)) (if-other (eqb op 1) (truth (not (is_true x))) (Missing 0) (truth-other (not (is_true x))) no-reason-other)

-- the reason in an index, 0 where there is one
reason_at : Index → ℕ
reason_at (At i) = 0
reason_at (Fails k) = k

-- a subscript fails for reason 1 only if its value does
subscript-unset : (first n : ℕ) (v : Value) → in_array first n v ≡ Fails 1 → v ≡ Missing 1
unfolding in_array reason_at
subscript-unset first n (Number (pos i)) e = absurd (go (ltb i n) (ap reason_at e))
  where
    go : (t : Bool) → ¬ (reason_at (if_else t (At (first + i)) (Fails 2)) ≡ 1)
    go true h = omega arith
    go false h = omega arith
subscript-unset first n (Number (negsuc i)) e = let h = ap reason_at e in absurd (omega arith)
subscript-unset first n (Missing k) e = ap Missing (ap reason_at e)

module _ (cells : List Message) where
  -- a needed cell that is unset: no value, reason 1
  unset-value : (e : Expr) → NeedsUnset cells e → value cells e ≡ Missing 1
  unfolding value index in_array dyadic_of
  unset-value e (cell-unset p q) = rw (p, q)
  unset-value e (in-subscript {e = d} h) = rw (unset-value d h)
  unset-value e (in-given {e = d} h) = rw (unset-value d h)
  unset-value e (in-operand {e = d} h) = rw (unset-value d h)
  unset-value e (in-first {e = d} h) = rw (unset-value d h)
  unset-value e (in-second {f} p q h) = rw (p, q, unset-value f h)

  -- what is read at an index: an unset cell, or the subscript's failure
  read-unset : (I : Index) → read_cell cells I ≡ Missing 1 → ((i : ℕ) × (I ≡ At i) × (get_or cells i none ≡ none)) ⊎ (I ≡ Fails 1)
  unfolding reason_in
  read-unset (At i) e = go (get_or cells i none) refl e
    where
      go : (m : Message) → get_or cells i none ≡ m → cell_value m ≡ Missing 1 → ((j : ℕ) × (At i ≡ At j) × (get_or cells j none ≡ none)) ⊎ (At i ≡ Fails 1)
      go none q e = inl (i, refl, q)
      go (some x) q e = absurd (number-other x e)
  read-unset (Fails k) e = inr (ap Fails (ap reason_in e))

  -- GIVEN has a number, or its subscript's failure
  given-unset : (I : Index) → given_value cells I ≡ Missing 1 → I ≡ Fails 1
  unfolding reason_in
  given-unset (At i) e = absurd (truth-other (is_some (get_or cells i none)) e)
  given-unset (Fails k) e = ap Fails (ap reason_in e)

  -- no value for reason 1: a needed cell is unset
  value-unset : (e : Expr) → value cells e ≡ Missing 1 → NeedsUnset cells e
  unfolding value index dyadic_of
  value-unset (literal x) h = absurd (number-other x h)
  value-unset (element v e) h = go (read-unset (index cells v.first v.size e) h) (λ q. value-unset e q)
    where
      go : ((i : ℕ) × (index cells v.first v.size e ≡ At i) × (get_or cells i none ≡ none)) ⊎ (index cells v.first v.size e ≡ Fails 1)
          → (value cells e ≡ Missing 1 → NeedsUnset cells e) → NeedsUnset cells (element v e)
      go (inl (i, p, q)) ih = cell-unset p q
      go (inr p) ih = in-subscript (ih (subscript-unset v.first v.size (value cells e) p))
  value-unset (monadic op e) h = in-operand (value-unset e (go (value cells e) h))
    where
      go : (v : Value) → when_number v (monadic_of op) ≡ Missing 1 → v ≡ Missing 1
      go (Number x) h = absurd (monadic-other op x h)
      go (Missing k) h = h
  value-unset (given v e) h = in-given (value-unset e (subscript-unset v.first v.size (value cells e) (given-unset (index cells v.first v.size e) h)))
  value-unset (dyadic op e f) h = go (value cells e) refl h (λ q. value-unset e q) (λ q. value-unset f q)
    where
      second : (v : Value) (x : ℤ) → when_number v (operate op x) ≡ Missing 1 → v ≡ Missing 1
      second (Number y) x h = absurd (operate-other op x y h)
      second (Missing k) x h = h

      decided : (x : ℤ) (t : Bool) → decides op x ≡ t → value cells e ≡ Number x → if_else t (truth (is_true x)) (when_number (value cells f) (operate op x)) ≡ Missing 1
          → (value cells f ≡ Missing 1 → NeedsUnset cells f) → NeedsUnset cells (dyadic op e f)
      decided x true d p h ih = absurd (truth-other (is_true x) h)
      decided x false d p h ih = in-second p d (ih (second (value cells f) x h))

      go : (v : Value) → value cells e ≡ v → dyadic_of op v (value cells f) ≡ Missing 1 → (value cells e ≡ Missing 1 → NeedsUnset cells e)
          → (value cells f ≡ Missing 1 → NeedsUnset cells f) → NeedsUnset cells (dyadic op e f)
      go (Number x) p h ih jh = decided x (decides op x) refl p h jh
      go (Missing k) p h ih jh = in-first (ih (p ∙ h))
  value-unset no_expr h = absurd (no-reason-other h)

  -- and so of a subscript
  index-unset : (first n : ℕ) (e : Expr) → NeedsUnset cells e → index cells first n e ≡ Fails 1
  unfolding index in_array
  index-unset first n e h = rw (unset-value e h)

  unset-index : (first n : ℕ) (e : Expr) → index cells first n e ≡ Fails 1 → NeedsUnset cells e
  unfolding index
  unset-index first n e h = value-unset e (subscript-unset first n (value cells e) h)

-- no value for reason 1 exactly if an unset cell is needed
pub unset-read : UnsetRead
unset-read cells e = (value-unset cells e, unset-value cells e)

pub unset-subscript : UnsetSubscript
unset-subscript cells first n e = (unset-index cells first n e, index-unset cells first n e)
