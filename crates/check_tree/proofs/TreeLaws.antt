-- What the tests of 5 come to where some of them are known.
use mathlib.Core.Path.{◌≡◌, refl, sym}
use mathlib.Core.Bool.{Bool, true, false, ◌&&◌, false≢true}
use mathlib.Core.List.{List, [], ◌∷◌}
use Prim.Native.Nat.{ℕ, ◌≤◌, ◌<◌}
use native.Mathlib.Omega.{arith}
use lib.IntN.{ℤ, pos, negsuc}
use lib.Signed.{lt_z}
use lib.Dec.{ltb, leb}
use borrow.Author.Tests.{ltb-true, lt-ltb, le-ltb, le-leb, lt-leb, eq-eqb, ne_eqb}
use Rattle.meaning.specs.Basics.{eq_z, among}
use Rattle.meaning.specs.Rows.{natural_of, row_count, kind_at}
use Rattle.meaning.specs.Verdict.{refers, target_of, row_fault_at, tree_fault_at}
use Rattle.base_kinds.proofs.Truth.{and-false}

-- a reference by its sign, and by the row that it means
module _ (rows : List ℤ) (r : ℕ) (kinds : List ℕ) where
  pub refers-negative : (z : ℤ) → lt_z z (pos 0) ≡ true → (false ≡ refers rows r kinds z) × ([] ≡ target_of rows r kinds z)
  refers-negative (pos n) e = absurd (let h = ltb-true n 0 e in omega arith)
  refers-negative (negsuc n) e = (refl, refl)

  module _ (t : ℕ) where
    abbrev pub leads_there : Bool
    leads_there = ltb r t && ltb t (row_count rows) && among (kind_at rows t) kinds

    pub refers-right : (z : ℤ) → lt_z z (pos 0) ≡ false → t ≡ natural_of z → leads_there ≡ true → (true ≡ refers rows r kinds z) × ((t ∷ []) ≡ target_of rows r kinds z)
    refers-right (pos n) e i h = rw (← i, h) (refl, refl)
    refers-right (negsuc n) e i h = absurd (false≢true (sym e))

    pub refers-wrong : (z : ℤ) → lt_z z (pos 0) ≡ false → t ≡ natural_of z → leads_there ≡ false → (false ≡ refers rows r kinds z) × ([] ≡ target_of rows r kinds z)
    refers-wrong (pos n) e i h = rw (← i, h) (refl, refl)
    refers-wrong (negsuc n) e i h = absurd (false≢true (sym e))

  -- none is referred to by −1
  pub none-referred : (z : ℤ) → eq_z z (negsuc 0) ≡ true → [] ≡ target_of rows r kinds z
  none-referred (pos n) e = absurd (false≢true e)
  none-referred (negsuc n) e = refl

-- places at fault: those before the root are not, and past the rows there is one only if there is no root
module _ (rows : List ℤ) (d : ℕ) (refs : List ℕ) (h : d ≤ row_count rows) where
  pub before_root : (j : ℕ) → j < d → tree_fault_at rows d refs j ≡ false
  before_root j l = simp (ne_eqb j (row_count rows) (λ e. omega arith), lt-leb d j l)

  pub after-root : (j : ℕ) → d ≤ j → j < row_count rows → tree_fault_at rows d refs j ≡ row_fault_at rows d refs j
  after-root j l m = simp (ne_eqb j (row_count rows) (λ e. omega arith), le-leb d j l, lt-ltb j (row_count rows) m)

  pub no-root : d ≡ row_count rows → tree_fault_at rows d refs (row_count rows) ≡ true
  no-root e = simp (eq-eqb (row_count rows) (row_count rows) refl, eq-eqb d (row_count rows) e)

  pub past-rows : (d ≡ row_count rows → ⊥) → tree_fault_at rows d refs (row_count rows) ≡ false
  past-rows e = simp (eq-eqb (row_count rows) (row_count rows) refl, ne_eqb d (row_count rows) e, le-ltb (row_count rows) (row_count rows) (omega arith), and-false (leb d (row_count rows)))
