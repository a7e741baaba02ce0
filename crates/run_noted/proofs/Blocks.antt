-- Blocks of one size listed one after another: what stands in a block, and what a store to it leaves.
use mathlib.Core.Path.{◌≡◌, refl, sym, ap, ap₂, ◌∙◌}
use mathlib.Core.Logic.{◌≢◌}
use mathlib.Core.Bool.{Bool, true, false}
use mathlib.Core.List.{List, ◌++◌}
use Prim.Native.Nat.{ℕ, zero, suc, ◌+◌, ◌*◌, ◌<◌}
use native.Mathlib.Omega.{arith}
use native.Mathlib.Decide.{dec_lt}
use lib.ListN.{length, get_or, set, length-append, get_or-append}
use lib.Seq.{set-append_left, get_or-append-add}
use lib.Dec.{eqb}
use borrow.Author.Tests.{eqb-true, eqb-false}
use Rattle.meaning.specs.Basics.{if_else}
use Rattle.machine.proofs.Lists.{set_append_right}
use Rattle.run_noted.specs.Noted.{listed}

-- places of blocks of size k
pub record Sized (k : ℕ) : Type 0 where
  pub none : k * 0 ≡ 0
  pub next : (n : ℕ) → k * suc n ≡ k * n + k
  pub below : (r n i : ℕ) → r < n → i < k → k * r + i < k * n

pub one : Sized 1
one = record { none = refl; next = λ n. omega arith; below = λ r n i l m. omega arith }

pub two : Sized 2
two = record { none = refl; next = λ n. omega arith; below = λ r n i l m. omega arith }

pub three : Sized 3
three = record { none = refl; next = λ n. omega arith; below = λ r n i l m. omega arith }

-- a test of two rows
pub same_row : (r : ℕ) → eqb r r ≡ true
same_row r = go (eqb r r) refl
  where
    go : (t : Bool) → eqb r r ≡ t → t ≡ true
    go true q = refl
    go false q = absurd (eqb-false r r q refl)

pub other_row : (r j : ℕ) → r ≢ j → eqb r j ≡ false
other_row r j f = go (eqb r j) refl
  where
    go : (t : Bool) → eqb r j ≡ t → t ≡ false
    go true q = absurd (f (eqb-true r j q))
    go false q = refl

pub swap-rows : (r j : ℕ) → eqb r j ≡ eqb j r
swap-rows r j = go (eqb r j) refl
  where
    go : (t : Bool) → eqb r j ≡ t → t ≡ eqb j r
    go true q = sym (ap (λ (i : ℕ). eqb j i) (eqb-true r j q) ∙ same_row j)
    go false q = sym (other_row j r (λ e. eqb-false r j q (sym e)))

module _ {A : Type 0} where
  pub listed_same : (f g : ℕ → List A) (n : ℕ) → ((j : ℕ) → j < n → f j ≡ g j) → listed f n ≡ listed g n
  unfolding listed
  listed_same f g zero h = refl
  listed_same f g (suc n) h = ap₂ (λ (a b : List A). a ++ b) (listed_same f g n (λ j l. h j (omega arith))) (h n (omega arith))

  module _ (k : ℕ) (S : Sized k) (f : ℕ → List A) (sized : (j : ℕ) → length (f j) ≡ k) where
    listed-length : (n : ℕ) → length (listed f n) ≡ k * n
    unfolding listed
    listed-length zero = sym S.none
    listed-length (suc n) = length-append (listed f n) (f n) ∙ ap₂ (λ (a b : ℕ). a + b) (listed-length n) (sized n) ∙ sym (S.next n)

    module _ (r i : ℕ) (m : i < k) where
      -- what stands there
      pub listed_at : (n : ℕ) (d : A) → r < n → get_or (listed f n) (k * r + i) d ≡ get_or (f r) i d
      unfolding listed
      listed_at zero d l = absurd (omega arith)
      listed_at (suc n) d l = go (λ h. listed_at n d h) (dec_lt r n)
        where
          go : (r < n → get_or (listed f n) (k * r + i) d ≡ get_or (f r) i d) → Dec (r < n) → get_or (listed f n ++ f n) (k * r + i) d ≡ get_or (f r) i d
          go before (yes h) = get_or-append (listed f n) (f n) d (k * r + i) (rw (listed-length n) (S.below r n i h m)) ∙ before h
          go before (no h) =
              let e : r ≡ n = omega arith in
              ap (λ (p : ℕ). get_or (listed f n ++ f n) (p + i) d) (ap (λ (r : ℕ). k * r) e ∙ sym (listed-length n))
              ∙ get_or-append-add (listed f n) (f n) i d
              ∙ ap (λ (r : ℕ). get_or (f r) i d) (sym e)

      -- a store
      pub listed-put : (n : ℕ) (v : A) → r < n → set (listed f n) (k * r + i) v ≡ listed (λ j. if_else (eqb r j) (set (f j) i v) (f j)) n
      unfolding listed
      listed-put zero v l = absurd (omega arith)
      listed-put (suc n) v l = go (λ h. listed-put n v h) (dec_lt r n)
        where
          go : (r < n → set (listed f n) (k * r + i) v ≡ listed (λ j. if_else (eqb r j) (set (f j) i v) (f j)) n) → Dec (r < n) → set (listed f n ++ f n) (k * r + i) v ≡ listed (λ j. if_else (eqb r j) (set (f j) i v) (f j)) n ++ if_else (eqb r n) (set (f n) i v) (f n)
          go before (yes h) =
              set-append_left (listed f n) (f n) (k * r + i) v (rw (listed-length n) (S.below r n i h m))
              ∙ ap₂ (λ (a b : List A). a ++ b) (before h) (sym (ap (λ (t : Bool). if_else t (set (f n) i v) (f n)) (other_row r n (λ e. omega arith))))
          go before (no h) =
              let e : r ≡ n = omega arith in
              ap (λ (p : ℕ). set (listed f n ++ f n) (p + i) v) (ap (λ (r : ℕ). k * r) e ∙ sym (listed-length n))
              ∙ set_append_right (listed f n) (f n) i v
              ∙ ap₂ (λ (a b : List A). a ++ b) (listed_same f (λ j. if_else (eqb r j) (set (f j) i v) (f j)) n (λ j q. sym (ap (λ (t : Bool). if_else t (set (f j) i v) (f j)) (other_row r j (λ z. omega arith)))))
              (sym (ap (λ (t : Bool). if_else t (set (f n) i v) (f n)) (ap (λ (r : ℕ). eqb r n) e ∙ same_row n)))
