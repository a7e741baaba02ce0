-- What a prepared row is tells the kind of the row, and so all its numbers.
use mathlib.Core.Path.{◌≡◌, refl, sym, ap, ◌∙◌}
use mathlib.Core.Logic.{◌⊎◌, inl, inr}
use mathlib.Core.Bool.{Bool, true, false}
use mathlib.Core.List.{List}
use Prim.Native.Nat.{ℕ, ◌+◌, ◌<◌, ◌≤◌}
use native.Mathlib.Omega.{arith}
use lib.IntN.{ℤ}
use lib.Dec.{ltb, eqb}
use borrow.Author.Tests.{ltb-true, ltb-false, le-ltb, lt-ltb, eqb-true, ne_eqb}
use Rattle.meaning.specs.declared.Value.TheVariants.{Number}
use Rattle.meaning.specs.declared.Index.{Index}
use Rattle.meaning.specs.declared.Index.TheVariants.{At, Fails}
use Rattle.meaning.specs.Basics.{if_else}
use Rattle.meaning.specs.Rows.{row_count, field_at, natural_at, kind_at}
use Rattle.meaning.specs.Declarations.{declarations, is_variable, has_role, channel_at, variable_at, source_at, sink_at}
use Rattle.meaning.specs.Values.{in_array}
use Rattle.agreement.proofs.TableStarts.{leading_le}
use Rattle.run_code.specs.Prepared.{row, no_row, literal_row, fixed, variable_row, channel_row, kind_in, referred_row, subscripted_row, strip_of, declared_row, element_row, assigned_row, kept_row, row_of_kind, row_at}

-- the kind of a row, from what it is
abbrev pub kind_from : ℕ → ℕ
kind_from n =
    if_else (eqb n 1) 10
    (if_else (eqb n 2) 11
    (if_else (eqb n 3) 11
    (if_else (eqb n 4) 11
    (if_else (eqb n 5) 12
    (if_else (eqb n 6) 13
    (if_else (eqb n 46) 22
    (if_else (eqb n 47) 22
    (if_else (eqb n 48) 22
    n))))))))

-- what an element is: a cell, outside, or an element
pub data IsElement (w : ℕ) : Type 0 where
  is_cell : w ≡ 2 → IsElement w
  is_outside : w ≡ 3 → IsElement w
  is_subscripted : w ≡ 4 → IsElement w

pub element-what : (rows : List ℤ) (a b : ℕ) → IsElement (subscripted_row rows a b).what
unfolding subscripted_row
element-what rows a b = go (eqb (kind_in rows b) 10)
  where
    inner : (i : Index) → IsElement (fixed i).what
    inner (At i) = is_cell refl
    inner (Fails k) = is_outside refl

    go : (t : Bool) → IsElement (if_else t (fixed (in_array (variable_at rows a).first (variable_at rows a).size (Number (field_at rows b 1)))) (row 4 a b 0)).what
    go true = inner (in_array (variable_at rows a).first (variable_at rows a).size (Number (field_at rows b 1)))
    go false = is_subscripted refl

-- a declaration is nothing that a run looks at
declared-what : (rows : List ℤ) (r : ℕ) → (declared_row rows r).what ≡ 0
unfolding declared_row
declared-what rows r = go (is_variable rows r) (has_role 2 rows r)
  where
    go : (t u : Bool) → (if_else t (variable_row (variable_at rows r)) (if_else u (channel_row (sink_at rows r) (strip_of rows (sink_at rows r))) (channel_row (source_at rows r) 0))).what ≡ 0
    go true u = refl
    go false true = refl
    go false false = refl

-- past the declarations there is none
pub declared-past : (rows : List ℤ) (r : ℕ) → declarations rows ≤ r → declared_row rows r ≡ no_row
unfolding declared_row source_at channel_at
declared-past rows r h = simp (le-ltb r (declarations rows) h)

pub declarations-few : (rows : List ℤ) → declarations rows ≤ row_count rows
unfolding declarations
declarations-few rows = omega (arith, leading_le rows (row_count rows) 0)

-- nothing, or of this kind
abbrev Told : ℕ → ℕ → Type 0
Told k w = (w ≡ 0) ⊎ (kind_from w ≡ k)

element-kind : (w : ℕ) → IsElement w → (11 ≡ kind_from w) × (22 ≡ kind_from (44 + w))
element-kind w (is_cell e) = rw e (refl, refl)
element-kind w (is_outside e) = rw e (refl, refl)
element-kind w (is_subscripted e) = rw e (refl, refl)

pub kept-kind : (k : ℕ) → 20 ≤ k → k < 44 → kind_from k ≡ k
kept-kind k l u =
    simp (
      ne_eqb k 1 (λ e. omega arith),
      ne_eqb k 2 (λ e. omega arith),
      ne_eqb k 3 (λ e. omega arith),
      ne_eqb k 4 (λ e. omega arith),
      ne_eqb k 5 (λ e. omega arith),
      ne_eqb k 6 (λ e. omega arith),
      ne_eqb k 46 (λ e. omega arith),
      ne_eqb k 47 (λ e. omega arith),
      ne_eqb k 48 (λ e. omega arith),
    )

module _ (rows : List ℤ) (r : ℕ) where
  told : (k : ℕ) (a b c d e f g h x y : Bool) → eqb k 10 ≡ a → eqb k 11 ≡ b → eqb k 12 ≡ c → eqb k 13 ≡ d → eqb k 22 ≡ e → eqb k 23 ≡ f → eqb k 24 ≡ g → eqb k 35 ≡ h → ltb k 20 ≡ x → ltb k 44 ≡ y
      → Told k
      (if_else a (literal_row (field_at rows r 1))
      (if_else b (element_row rows r)
      (if_else c (row 5 (natural_at rows r 1) (referred_row rows r 2) 0)
      (if_else d (row 6 (natural_at rows r 1) (referred_row rows r 2) (referred_row rows r 3))
      (if_else e (assigned_row rows r (element_row rows r))
      (if_else f (kept_row rows r 23 (natural_at rows r 1))
      (if_else g (kept_row rows r 24 (natural_at rows r 1))
      (if_else h (kept_row rows r 35 (natural_at rows r 1))
      (if_else x (declared_row rows r)
      (if_else y (kept_row rows r k (referred_row rows r 1))
      no_row)))))))))).what
  told k true b c d e f g h x y p1 p2 p3 p4 p5 p6 p7 p8 p9 p10 = inr (sym (eqb-true k 10 p1))
  told k false true c d e f g h x y p1 p2 p3 p4 p5 p6 p7 p8 p9 p10 = inr (sym (element-kind _ (element-what rows (natural_at rows r 1) (referred_row rows r 2))).0 ∙ sym (eqb-true k 11 p2))
  told k false false true d e f g h x y p1 p2 p3 p4 p5 p6 p7 p8 p9 p10 = inr (sym (eqb-true k 12 p3))
  told k false false false true e f g h x y p1 p2 p3 p4 p5 p6 p7 p8 p9 p10 = inr (sym (eqb-true k 13 p4))
  told k false false false false true f g h x y p1 p2 p3 p4 p5 p6 p7 p8 p9 p10 = inr (sym (element-kind _ (element-what rows (natural_at rows r 1) (referred_row rows r 2))).1 ∙ sym (eqb-true k 22 p5))
  told k false false false false false true g h x y p1 p2 p3 p4 p5 p6 p7 p8 p9 p10 = inr (sym (eqb-true k 23 p6))
  told k false false false false false false true h x y p1 p2 p3 p4 p5 p6 p7 p8 p9 p10 = inr (sym (eqb-true k 24 p7))
  told k false false false false false false false true x y p1 p2 p3 p4 p5 p6 p7 p8 p9 p10 = inr (sym (eqb-true k 35 p8))
  told k false false false false false false false false true y p1 p2 p3 p4 p5 p6 p7 p8 p9 p10 = inl (declared-what rows r)
  told k false false false false false false false false false true p1 p2 p3 p4 p5 p6 p7 p8 p9 p10 = inr (kept-kind k (ltb-false k 20 p9) (ltb-true k 44 p10))
  told k false false false false false false false false false false p1 p2 p3 p4 p5 p6 p7 p8 p9 p10 = inl refl

  -- the kind of a row that is something
  pub kind-told : (n : ℕ) → (row_at rows r).what ≡ n → (n ≡ 0 → ⊥) → kind_in rows r ≡ kind_from n
  unfolding row_at
  kind-told n e z =
      let k = kind_in rows r in
      go (told k (eqb k 10) (eqb k 11) (eqb k 12) (eqb k 13) (eqb k 22) (eqb k 23) (eqb k 24) (eqb k 35) (ltb k 20) (ltb k 44) refl refl refl refl refl refl refl refl refl refl)
    where
      go : Told (kind_in rows r) (row_of_kind rows r (kind_in rows r)).what → kind_in rows r ≡ kind_from n
      go (inl w) = absurd (z (sym e ∙ w))
      go (inr w) = sym w ∙ ap kind_from e

  pub row-of-kind : (k : ℕ) → kind_in rows r ≡ k → row_at rows r ≡ row_of_kind rows r k
  unfolding row_at
  row-of-kind k e = ap (row_of_kind rows r) e

  -- it is a row of the table
  pub in-table : (k : ℕ) → kind_in rows r ≡ k → (k ≡ 0 → ⊥) → (r < row_count rows) × (kind_at rows r ≡ k)
  unfolding kind_in
  in-table k e z = go (ltb r (row_count rows)) refl e
    where
      go : (t : Bool) → ltb r (row_count rows) ≡ t → if_else t (kind_at rows r) 0 ≡ k → (r < row_count rows) × (kind_at rows r ≡ k)
      go true p q = (ltb-true _ _ p, q)
      go false p q = absurd (z (sym q))

  pub kind-in : (k : ℕ) → r < row_count rows → kind_at rows r ≡ k → kind_in rows r ≡ k
  unfolding kind_in
  kind-in k l e = rw (lt-ltb _ _ l) e

  -- past the table nothing stands
  pub nothing-past : row_count rows ≤ r → row_at rows r ≡ no_row
  unfolding row_at kind_in
  nothing-past h = simp (le-ltb r (row_count rows) h) (declared-past rows r (omega (arith, declarations-few rows)))
