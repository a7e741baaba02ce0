-- Rows that stage 5 does not refuse are one tree: every row after the root is beneath it.
use mathlib.Core.Path.{◌≡◌, refl, sym, ◌∙◌, subst}
use mathlib.Core.Logic.{◌⊎◌, inl, inr, ⊎_elim}
use mathlib.Core.Bool.{Bool, true, false, false≢true}
use mathlib.Core.List.{List}
use mathlib.Core.Option.{some, some-injective}
use Prim.Native.Nat.{ℕ, zero, suc, ◌≤◌, ◌<◌}
use native.Mathlib.Nat.{eq-or-lt_of_le}
use native.Mathlib.Decide.{dec_lt}
use native.Mathlib.Omega.{arith}
use lib.IntN.{ℤ}
use Rattle.meaning.specs.Basics.{if_else}
use Rattle.meaning.specs.Rows.{row_count, kind_at}
use Rattle.meaning.proofs.Decides.{Decides, holding, failing, decides_or, decides_eq}
use Rattle.meaning.specs.Kinds.{Shape, shapes, shape_in, shape_of}
use Rattle.meaning.specs.Declarations.{declares, leading, declarations}
use Rattle.meaning.specs.References.{RefersBy, Column, of-a, of-b, of_c, field_of, number_of, Refers, Beneath, direct, further}
use Rattle.meaning.specs.Faults.{Once, Placed, WellPlaced}
use Rattle.meaning.specs.StageClaims.{OneTree}
use Rattle.meaning.proofs.ReferenceCounts.{bounds}
use Rattle.meaning.proofs.StageLaws.{tree-none}

-- the rows before the first that is no declaration are declarations
leads-declared : (rows : List ℤ) (k r q : ℕ) → r ≤ q → q < leading rows k r → declares rows q ≡ true
unfolding leading
leads-declared rows zero r q l h = absurd (omega arith)
leads-declared rows (suc k) r q l h = go (declares rows r) refl (λ g. leads-declared rows k (suc r) q g) h
  where
    go : (b : Bool) → declares rows r ≡ b → (suc r ≤ q → q < leading rows k (suc r) → declares rows q ≡ true) → q < if_else b (leading rows k (suc r)) r → declares rows q ≡ true
    go true e f i = ⊎_elim (λ s. subst (λ (m : ℕ). declares rows m ≡ true) s e) (λ g. f g i) (eq-or-lt_of_le l)
    go false e f i = absurd (omega arith)

true-holds : {A : Type 0} {b : Bool} → b ≡ true → Decides A b → A
true-holds e (holding a) = a
true-holds e (failing a) = absurd (false≢true e)

pub declared : (rows : List ℤ) (q : ℕ) → q < declarations rows → (kind_at rows q ≡ 1) ⊎ (kind_at rows q ≡ 2)
unfolding declarations
declared rows q h = true-holds (leads-declared rows (row_count rows) 0 q (omega arith) h) (decides_or (decides_eq (kind_at rows q) 1) (decides_eq (kind_at rows q) 2))

-- a reference by the shape of the row's kind
pub refers-by : (rows : List ℤ) (q : ℕ) (p : Column) (t k : ℕ) (u : Shape) → kind_at rows q ≡ k → shape_of k ≡ some u → Refers rows q p t → RefersBy rows q (field_of u p) (number_of rows q p) t
unfolding Refers
refers-by rows q p t k u e i h =
    subst (λ (s : Shape). RefersBy rows q (field_of s p) (number_of rows q p) t)
    (some-injective h.0 u (sym h.1 ∙ subst (λ (m : ℕ). shape_of m ≡ some u) (sym e) i)) h.2

-- a declaration refers to no row
pub declares-only : (rows : List ℤ) (q : ℕ) (p : Column) (t : ℕ) → (kind_at rows q ≡ 1) ⊎ (kind_at rows q ≡ 2) → Refers rows q p t → ⊥
unfolding shape_of shape_in shapes RefersBy
declares-only rows q of-a t (inl e) = refers-by rows q of-a t 1 _ e refl
declares-only rows q of-b t (inl e) = refers-by rows q of-b t 1 _ e refl
declares-only rows q of_c t (inl e) = refers-by rows q of_c t 1 _ e refl
declares-only rows q of-a t (inr e) = refers-by rows q of-a t 2 _ e refl
declares-only rows q of-b t (inr e) = refers-by rows q of-b t 2 _ e refl
declares-only rows q of_c t (inr e) = refers-by rows q of_c t 2 _ e refl

-- down from a row to the root, by the row that refers to it
down : (rows : List ℤ) → ((r : ℕ) → r < row_count rows → declarations rows < r → Once rows r) → (k r : ℕ) → r < k → declarations rows < r → r < row_count rows → Beneath rows (declarations rows) r
unfolding Once Refers
down rows f zero r h d l = absurd (omega arith)
down rows f (suc k) r h d l = go (f r l d) (λ q i g m. down rows f k q i g m)
  where
    go : Once rows r → ((q : ℕ) → q < k → declarations rows < q → q < row_count rows → Beneath rows (declarations rows) q) → Beneath rows (declarations rows) r
    go w g = from (dec_lt (declarations rows) w.0) (dec_lt w.0 (declarations rows))
      where
        b : (w.0 < r) × (r < row_count rows)
        b = bounds rows r w.0 (field_of w.2.0 w.1) (number_of rows w.0 w.1) w.2.2

        from : Dec (declarations rows < w.0) → Dec (w.0 < declarations rows) → Beneath rows (declarations rows) r
        from (yes i) j = further w.1 (g w.0 (omega (arith, b.0)) i (omega (arith, b.0))) w.2
        from (no i) (yes j) = absurd (declares-only rows w.0 w.1 r (declared rows w.0 j) w.2)
        from (no i) (no j) = direct w.1 (subst (λ (q : ℕ). Refers rows q w.1 r) (omega arith) w.2)

pub one-tree : OneTree
unfolding OneTree WellPlaced Placed
one-tree rows e r d l = down rows (λ q i g. (((tree-none rows).0 e q (omega arith)).1 (omega arith, i)).3 (λ s. omega arith)) (suc r) r (omega arith) d l
