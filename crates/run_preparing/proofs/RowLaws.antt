-- A prepared row, as the code comes to it.
use mathlib.Core.Path.{◌≡◌, refl, sym, ap, ◌∙◌}
use mathlib.Core.Bool.{Bool, true, false}
use mathlib.Core.List.{List}
use Prim.Native.Nat.{ℕ, ◌+◌, ◌<◌, ◌≤◌}
use native.Mathlib.Omega.{arith}
use lib.IntN.{ℤ, pos, negsuc}
use lib.Dec.{ltb}
use borrow.Author.Tests.{ltb-true, lt-ltb, le-ltb, eq-eqb, ne_eqb}
use Rattle.meaning.specs.declared.Value.{Value}
use Rattle.meaning.specs.declared.Value.TheVariants.{Number, Missing}
use Rattle.meaning.specs.declared.Index.TheVariants.{At, Fails}
use Rattle.meaning.specs.Basics.{if_else}
use Rattle.meaning.specs.Rows.{row_count, field_at, natural_at, kind_at}
use Rattle.meaning.specs.Declarations.{declarations, variable_at}
use Rattle.meaning.specs.State.{program}
use Rattle.meaning.specs.Values.{in_array}
use Rattle.machine.specs.Upward.{parent_of}
use Rattle.machine.specs.RowSteps.{alt_of}
use Rattle.run_parents.specs.Marks.{row_note}
use Rattle.run_code.specs.declared.Row.{Row}
use Rattle.run_code.specs.Prepared.{row, no_row, fixed, kind_in, referred_row, subscripted_row, owner_note, next_note, element_row, assigned_row, kept_row, row_of_kind, row_at}
use Rattle.run_code.proofs.RowKinds.{IsElement, is_cell, is_outside, is_subscripted, element-what, declared-past, row-of-kind, kind-in}

-- ---- elements

-- the place that a subscript means is inside
pub place-within : (first n i : ℕ) (v : Value) → in_array first n v ≡ At i → i < first + n
unfolding in_array
place-within first n i (Number (pos k)) e = go (ltb k n) refl e
  where
    go : (t : Bool) → ltb k n ≡ t → if_else t (At (first + k)) (Fails 2) ≡ At i → i < first + n
    go true p q = let e : first + k ≡ i = cc in omega (arith, ltb-true k n p)
    go false p q = absurd (let z : ◌≡◌ {A = ℕ} 0 1 = cc in omega arith)
place-within first n i (Number (negsuc k)) e = absurd (let z : ◌≡◌ {A = ℕ} 0 1 = cc in omega arith)
place-within first n i (Missing k) e = absurd (let z : ◌≡◌ {A = ℕ} 0 1 = cc in omega arith)

module _ (rows : List ℤ) (a b : ℕ) {k : ℕ} (t : k ≡ kind_in rows b) where
  abbrev row_by : Bool → Row
  row_by t = if_else t (fixed (in_array (variable_at rows a).first (variable_at rows a).size (Number (field_at rows b 1)))) (row 4 a b 0)

  pub fixed-element : k ≡ 10 → fixed (in_array (variable_at rows a).first (variable_at rows a).size (Number (field_at rows b 1))) ≡ subscripted_row rows a b
  unfolding subscripted_row
  fixed-element e = ap row_by (sym (eq-eqb _ 10 (sym t ∙ e)))

  pub other-element : (k ≡ 10 → ⊥) → row 4 a b 0 ≡ subscripted_row rows a b
  unfolding subscripted_row
  other-element n = ap row_by (sym (ne_eqb _ 10 (λ e. n (t ∙ e))))

pub element-small : (rows : List ℤ) (r : ℕ) → (element_row rows r).what ≤ 4
element-small rows r = go (element-what rows (natural_at rows r 1) (referred_row rows r 2))
  where
    go : {w : ℕ} → IsElement w → w ≤ 4
    go (is_cell e) = omega arith
    go (is_outside e) = omega arith
    go (is_subscripted e) = omega arith

-- ---- rows
abbrev pub full : ℕ → ℕ → ℕ → ℕ → ℕ → ℕ → Row
full w a b c p n = record { what = w; first = a; second = b; third = c; parent = p; next = n }

module _ (rows : List ℤ) (r : ℕ) where
  -- an assignment
  pub assigned-same : (e : Row) {c p n : ℕ} → c ≡ referred_row rows r 3 → p ≡ owner_note rows 22 r → n ≡ next_note rows r → full (e.what + 44) e.first e.second c p n ≡ assigned_row rows r e
  assigned-same e {c} {p} {n} j k l = let t : e.what + 44 ≡ 44 + e.what = omega arith in cc

  -- a row with the rows of its fields
  pub kept_same : (k a : ℕ) {b c p n : ℕ} → b ≡ referred_row rows r 2 → c ≡ referred_row rows r 3 → p ≡ owner_note rows k r → n ≡ next_note rows r → full k a b c p n ≡ kept_row rows r k a
  kept_same k a i j l m = cc

  -- ---- by the row's kind
  module _ (l : r < row_count rows) where
    pub row-by-kind : (k : ℕ) → kind_at rows r ≡ k → row_of_kind rows r k ≡ row_at rows r
    row-by-kind k e = sym (row-of-kind rows r k (kind-in rows r k l e))

    module _ (k : ℕ) (e : kind_at rows r ≡ k) (a : k ≡ 10 → ⊥) (b : k ≡ 11 → ⊥) (c : k ≡ 12 → ⊥) (d : k ≡ 13 → ⊥) (f : k ≡ 22 → ⊥) (g : k ≡ 23 → ⊥) (h : k ≡ 24 → ⊥) (i : k ≡ 35 → ⊥) where
      pub low-row : declarations rows ≤ r → k < 20 → no_row ≡ row_at rows r
      low-row s l = sym (declared-past rows r s) ∙ (simp (ne_eqb k 10 a, ne_eqb k 11 b, ne_eqb k 12 c, ne_eqb k 13 d, ne_eqb k 22 f, ne_eqb k 23 g, ne_eqb k 24 h, ne_eqb k 35 i, lt-ltb k 20 l) at (row-by-kind k e))

      pub kept_row_lem : 20 ≤ k → k < 44 → kept_row rows r k (referred_row rows r 1) ≡ row_at rows r
      kept_row_lem l u = simp (ne_eqb k 10 a, ne_eqb k 11 b, ne_eqb k 12 c, ne_eqb k 13 d, ne_eqb k 22 f, ne_eqb k 23 g, ne_eqb k 24 h, ne_eqb k 35 i, le-ltb k 20 l, lt-ltb k 44 u) at (row-by-kind k e)

      pub high-row : 20 ≤ k → 44 ≤ k → no_row ≡ row_at rows r
      high-row l u = simp (ne_eqb k 10 a, ne_eqb k 11 b, ne_eqb k 12 c, ne_eqb k 13 d, ne_eqb k 22 f, ne_eqb k 23 g, ne_eqb k 24 h, ne_eqb k 35 i, le-ltb k 20 l, le-ltb k 44 u) at (row-by-kind k e)

  -- the note of a parent, and of an ALT
  pub parent-noted : (k : ℕ) → (k ≡ 42 → ⊥) → {n : ℕ} → n ≡ row_note (parent_of (program rows) r) → n ≡ owner_note rows k r
  unfolding owner_note
  parent-noted k f e = e ∙ sym (ap (λ (t : Bool). if_else t (row_note (alt_of (program rows) r)) (row_note (parent_of (program rows) r))) (ne_eqb k 42 f))

  pub alt-noted : {n : ℕ} → n ≡ row_note (alt_of (program rows) r) → n ≡ owner_note rows 42 r
  unfolding owner_note
  alt-noted e = e
