-- Two bit sets meet in a sort exactly if a number of it is in both; two lists of small numbers have one in common exactly if their sets meet.
use mathlib.Core.Path.{◌≡◌, refl, sym, ap, ap₂, ◌∙◌}
use mathlib.Core.Logic.{◌⊎◌, inl, inr}
use mathlib.Core.Bool.{Bool, true, false, false≢true}
use mathlib.Core.List.{List}
use Prim.Native.Nat.{ℕ, ◌+◌, ◌*◌, ◌/◌, ◌%◌, ◌<◌}
use native.Mathlib.Decide.{dec_lt}
use native.Mathlib.Omega.{arith}
use lib.ListN.{get_or}
use Rattle.meaning.specs.Basics.{among, common}
use Rattle.meaning.proofs.Decides.{Decides, holding, failing, decides-iff, decides_or, decides-any}
use Rattle.meaning.proofs.ReferenceCounts.{decides-among}
use Rattle.base_sets.specs.Sets.{in_common}
use Rattle.base_sets.proofs.Words.{on, shares}
use Rattle.base_sets.proofs.Holds.{holds, AllFit, fit_at}

-- two tests of the same are equal
pub decides-same : {A B : Type 0} {s t : Bool} → Decides A s → Decides B t → (A → B) → (B → A) → s ≡ t
decides-same (holding a) (holding b) f g = refl
decides-same (holding a) (failing b) f g = absurd (b (f a))
decides-same (failing a) (holding b) f g = absurd (a (g b))
decides-same (failing a) (failing b) f g = refl

module _ (vs ws : List ℕ) (s t : ℕ) (fit : AllFit vs) where
  -- a number of both, in the words of number q
  abbrev InWord : ℕ → ℕ → ℕ → Type 0
  InWord a b q = (k : ℕ) × (k < 64) × (on (get_or vs a 0) k ≡ true) × (on (get_or ws b 0) k ≡ true)

  abbrev pub InBoth : Type 0
  InBoth = (x : ℕ) × (x < 256) × (holds vs s x ≡ true) × (holds ws t x ≡ true)

  of_word : (a b q : ℕ) → q < 4 → a ≡ 4 * s + q → b ≡ 4 * t + q → InWord a b q → InBoth
  of_word a b q h e f w =
      let k = w.0 in
      let l = w.1 in
      let d : (64 * q + k) / 64 ≡ q = omega arith in
      let m : (64 * q + k) % 64 ≡ k = omega arith in (
        64 * q + k,
        omega arith,
        ap₂ (λ (j i : ℕ). on (get_or vs j 0) i) (ap (λ (j : ℕ). 4 * s + j) d ∙ sym e) m ∙ w.2,
        ap₂ (λ (j i : ℕ). on (get_or ws j 0) i) (ap (λ (j : ℕ). 4 * t + j) d ∙ sym f) m ∙ w.3,
      )

  to_word : (a b q x : ℕ) → a ≡ 4 * s + q → b ≡ 4 * t + q → x / 64 ≡ q → holds vs s x ≡ true → holds ws t x ≡ true → InWord a b q
  to_word a b q x e f d g h = (
    x % 64,
    omega arith,
    ap (λ (j : ℕ). on (get_or vs j 0) (x % 64)) (e ∙ ap (λ (j : ℕ). 4 * s + j) (sym d)) ∙ g,
    ap (λ (j : ℕ). on (get_or ws j 0) (x % 64)) (f ∙ ap (λ (j : ℕ). 4 * t + j) (sym d)) ∙ h,
  )

  pub meets-both : (i j : ℕ) → i ≡ 4 * s → j ≡ 4 * t → Decides InBoth (in_common vs i ws j)
  unfolding in_common
  meets-both i j e f = decides-iff to from
      (decides_or (shares (get_or vs i 0) (get_or ws j 0) (fit_at vs fit i))
      (decides_or (shares (get_or vs (i + 1) 0) (get_or ws (j + 1) 0) (fit_at vs fit (i + 1)))
      (decides_or (shares (get_or vs (i + 2) 0) (get_or ws (j + 2) 0) (fit_at vs fit (i + 2)))
      (shares (get_or vs (i + 3) 0) (get_or ws (j + 3) 0) (fit_at vs fit (i + 3))))))
    where
      to : InWord i j 0 ⊎ (InWord (i + 1) (j + 1) 1 ⊎ (InWord (i + 2) (j + 2) 2 ⊎ InWord (i + 3) (j + 3) 3)) → InBoth
      to (inl w) = of_word i j 0 (omega arith) (omega arith) (omega arith) w
      to (inr (inl w)) = of_word (i + 1) (j + 1) 1 (omega arith) (omega arith) (omega arith) w
      to (inr (inr (inl w))) = of_word (i + 2) (j + 2) 2 (omega arith) (omega arith) (omega arith) w
      to (inr (inr (inr w))) = of_word (i + 3) (j + 3) 3 (omega arith) (omega arith) (omega arith) w

      which : (x : ℕ) → x < 256 → holds vs s x ≡ true → holds ws t x ≡ true → Dec (x < 64) → Dec (x < 128) → Dec (x < 192)
          → InWord i j 0 ⊎ (InWord (i + 1) (j + 1) 1 ⊎ (InWord (i + 2) (j + 2) 2 ⊎ InWord (i + 3) (j + 3) 3))
      which x l g h (yes a) b c = inl (to_word i j 0 x (omega arith) (omega arith) (omega arith) g h)
      which x l g h (no a) (yes b) c = inr (inl (to_word (i + 1) (j + 1) 1 x (omega arith) (omega arith) (omega arith) g h))
      which x l g h (no a) (no b) (yes c) = inr (inr (inl (to_word (i + 2) (j + 2) 2 x (omega arith) (omega arith) (omega arith) g h)))
      which x l g h (no a) (no b) (no c) = inr (inr (inr (to_word (i + 3) (j + 3) 3 x (omega arith) (omega arith) (omega arith) g h)))

      from : InBoth → InWord i j 0 ⊎ (InWord (i + 1) (j + 1) 1 ⊎ (InWord (i + 2) (j + 2) 2 ⊎ InWord (i + 3) (j + 3) 3))
      from w = which w.0 w.1 w.2 w.3 (dec_lt w.0 64) (dec_lt w.0 128) (dec_lt w.0 192)

decides-true : (b : Bool) → Decides (b ≡ true) b
decides-true true = holding refl
decides-true false = failing (λ e. false≢true e)

member-among : {b : Bool} {A : Type 0} → Decides A b → A → b ≡ true
member-among (holding a) m = refl
member-among (failing f) m = absurd (f m)

among-member : {b : Bool} {A : Type 0} → Decides A b → b ≡ true → A
among-member (holding a) e = a
among-member (failing f) e = absurd (false≢true e)

-- two lists have a number in common
pub common-both : (l m : List ℕ) → Decides ((x : ℕ) × (among x l ≡ true) × (among x m ≡ true)) (common l m)
common-both l m =
    decides-iff (λ w. (w.0, member-among (decides-among w.0 l) w.1, w.2)) (λ w. (w.0, among-member (decides-among w.0 l) w.1, w.2))
    (decides-any (λ x. among x m ≡ true) (λ x. among x m) (λ x. decides-true (among x m)) l)
