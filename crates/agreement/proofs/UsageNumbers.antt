-- Cells and channel elements are numbered through the table: a number that counts for a name and a subscript is of one name and one place in it.
use mathlib.Core.Path.{◌≡◌, refl, sym, ap, ◌∙◌, subst}
use mathlib.Core.Logic.{⊎_elim, ◌↔◌}
use mathlib.Core.Bool.{Bool, true, false}
use mathlib.Core.List.Memᴰ
use mathlib.Core.List.{List, [], Memᴰ}
use Prim.Native.Nat.{ℕ, zero, suc, ◌+◌, ◌≤◌, ◌<◌}
use native.Mathlib.Nat.{eq-or-lt_of_le, le_of_suc-le-suc}
use native.Mathlib.Decide.{dec_lt}
use native.Mathlib.Omega.{arith}
use lib.IntN.{ℤ, pos, negsuc, pos-ne-negsuc}
use lib.Dec.{ltb}
use Rattle.meaning.specs.declared.Value.{Value}
use Rattle.meaning.specs.declared.Value.TheVariants.{Number, Missing}
use Rattle.meaning.specs.Basics.{if_else}
use Rattle.meaning.specs.Rows.{row_count, kind_at}
use Rattle.meaning.specs.Kinds.{expressions}
use Rattle.meaning.specs.Declarations.{sum_below}
use Rattle.meaning.specs.Tree.{Expr, content_at}
use Rattle.meaning.specs.Values.{value}
use Rattle.meaning.specs.Usage.{numbers_from, only_if, constant, counts_by_value, counts_for}
use Rattle.meaning.specs.Clash.{Constant, HasValue, Counts, its-value, every-number}
use Rattle.meaning.proofs.Decides.{Decides, holding, failing, decides-lt, pos-injective}
use Rattle.agreement.specs.VerdictClaims.{Passed}
use Rattle.agreement.proofs.Footprint.{range-mem}
use Rattle.agreement.proofs.UsageConstants.{number_same, number-not-missing, value_of, has_value, constant-decides}

-- Numbering ----------------------------------------------------------------------------------------------------------------------

module _ (size : ℕ → ℕ) where
  -- n is number i of name v
  abbrev pub Numbers : ℕ → ℕ → ℕ → Type 0
  Numbers n v i = (n ≡ sum_below size v + i) × (i < size v)

  sum_past : (v w : ℕ) → v < w → sum_below size v + size v ≤ sum_below size w
  unfolding sum_below
  sum_past v zero l = absurd (omega arith)
  sum_past v (suc w) l = ⊎_elim (λ e. subst (λ (u : ℕ). sum_below size v + size v ≤ sum_below size u + size u) e (omega arith)) (λ i. let h = sum_past v w i in omega arith) (eq-or-lt_of_le (le_of_suc-le-suc l))

  -- of one name and one place
  pub numbers-one : (n v i w j : ℕ) → Numbers n v i → Numbers n w j → (v ≡ w) × (i ≡ j)
  numbers-one n v i w j h k = go (dec_lt v w) (dec_lt w v)
    where
      go : Dec (v < w) → Dec (w < v) → (v ≡ w) × (i ≡ j)
      go (yes l) b = absurd (let s = sum_past v w l in let e = h.0 in let f = k.0 in let a = h.1 in omega arith)
      go (no l) (yes m) = absurd (let s = sum_past w v m in let e = h.0 in let f = k.0 in let a = k.1 in omega arith)
      go (no l) (no m) =
          let e : v ≡ w = omega arith in
          let s : sum_below size v ≡ sum_below size w = ap (sum_below size) e in
          let f = h.0 in let g = k.0 in (e, omega arith)

-- Numbers that count for a subscript ----------------------------------------------------------------------------------------------

pub range-to : (n first size : ℕ) → Memᴰ n (numbers_from first size) → (i : ℕ) × (n ≡ first + i) × (i < size)
unfolding numbers_from
range-to n first zero m = absurd (Memᴰ.not-nil m)
range-to n first (suc size) m = ⊎_elim (λ e. (0, omega arith, omega arith)) (λ i. let h = range-to n (suc first) size i in (suc h.0, omega (arith, h.1), omega (arith, h.2))) (Memᴰ.cases_cons m)

module _ (rows : List ℤ) where
  pub counts-below : {n b i : ℕ} → Counts rows n b i → i < n
  counts-below (its-value c v l) = l
  counts-below (every-number f l) = l

  module _ (passed : Passed rows) (n first size b : ℕ) where
    -- the numbers in an array's list, and those that the subscript at row b counts for
    abbrev pub Counted : Type 0
    Counted = (i : ℕ) × (n ≡ first + i) × Counts rows size b i

    -- of an expression's row
    pub counts-is : b < row_count rows → Memᴰ (kind_at rows b) expressions → Memᴰ n (counts_for first size (content_at rows b).expr) ↔ Counted
    unfolding counts_for counts_by_value
    counts-is l m = go (constant e) refl (constant-decides rows passed b l m)
      where
        e : Expr
        e = (content_at rows b).expr

        every : ((x : ℤ) → Constant rows b → ¬ HasValue rows b x) → Memᴰ n (numbers_from first size) ↔ Counted
        every f = (λ k. let h = range-to n first size k in (h.0, h.1, every-number f h.2), λ h. from h h.2)
          where
            from : (h : Counted) → Counts rows size b h.0 → Memᴰ n (numbers_from first size)
            from h (its-value c v k) = absurd (f (pos h.0) c v)
            from h (every-number g k) = Memᴰ.cast h.1 (range-mem first size h.0 k)

        only : (k : ℕ) → Constant rows b → HasValue rows b (pos k) → ((i : ℕ) → HasValue rows b (pos i) → k ≡ i) → Memᴰ n (only_if (ltb k size) (first + k)) ↔ Counted
        only k c v one = (λ h. to (decides-lt k size) h, λ h. from h h.2)
          where
            to : {t : Bool} → Decides (k < size) t → Memᴰ n (only_if t (first + k)) → Counted
            to (holding g) h = (k, Memᴰ.eq_of_singleton h, its-value c v g)
            to (failing g) h = absurd (Memᴰ.not-nil h)

            is : {t : Bool} (i : ℕ) → n ≡ first + i → k ≡ i → i < size → Decides (k < size) t → Memᴰ n (only_if t (first + k))
            is i q j g (holding o) = Memᴰ.head {x = first + k} (omega arith)
            is i q j g (failing o) = absurd (o (omega arith))

            from : (h : Counted) → Counts rows size b h.0 → Memᴰ n (only_if (ltb k size) (first + k))
            from h (its-value d w g) = is h.0 h.1 (one h.0 w) g (decides-lt k size)
            from h (every-number f g) = absurd (f (pos k) c v)

        by_value : Constant rows b → constant e ≡ true → (v : Value) → value [] e ≡ v → Memᴰ n (counts_by_value first size v) ↔ Counted
        by_value c t (Number (pos k)) q = only k c (has_value rows passed [] b l m t (pos k) q) (λ i w. pos-injective (number_same (sym q ∙ value_of rows passed [] l w)))
        by_value c t (Number (negsuc k)) q = (λ h. absurd (Memᴰ.not-nil h), λ h. absurd (from h.0 h.2))
          where
            from : (i : ℕ) → Counts rows size b i → ⊥
            from i (its-value d w g) = pos-ne-negsuc i k (number_same (sym (value_of rows passed [] l w) ∙ q))
            from i (every-number f g) = f (negsuc k) c (has_value rows passed [] b l m t (negsuc k) q)
        by_value c t (Missing k) q = every (λ x d w. number-not-missing (sym (value_of rows passed [] l w) ∙ q))

        go : (t : Bool) → constant e ≡ t → Decides (Constant rows b) t → Memᴰ n (if_else t (counts_by_value first size (value [] e)) (numbers_from first size)) ↔ Counted
        go true t (holding c) = by_value c t (value [] e) refl
        go false t (failing f) = every (λ x c w. f c)
