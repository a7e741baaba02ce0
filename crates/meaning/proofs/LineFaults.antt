-- Tests of lines decide statements about lines; and the lowest number that a test finds is the lowest of which its statement holds.
use mathlib.Core.Path.{◌≡◌, refl, sym, ap, subst, ◌∙◌}
use mathlib.Core.Logic.{◌↔◌, ◌≢◌}
use mathlib.Core.Bool.{Bool, true, false, not, ◌&&◌}
use mathlib.Core.List.{List, []}
use mathlib.Core.Option.{Option, none, some, some-ne-none}
use Prim.Native.Nat.{ℕ, suc, ◌≤◌, ◌<◌}
use native.Mathlib.Omega.{arith}
use native.Mathlib.Decide.{dec_lt}
use lib.ListN.{length, get_or, get_or-eq_default}
use lib.Dec.{T, leb}
use Rattle.meaning.specs.Basics.{lowest, Lowest}
use Rattle.meaning.specs.Lines.{lines, same}
use Rattle.meaning.specs.ByteClaims.{LineIs, LowestLine}
use Rattle.meaning.proofs.Decides.{Decides, holding, failing, decides, decides-iff, decides_and, decides_not, decides-le}
use Rattle.meaning.proofs.LineIsLaws.{line_at, line-found}
use Rattle.meaning.proofs.LowestLaws.{lowest-is}
use Rattle.meaning.proofs.NoFault.{same_refl, same-is}

-- The lowest ------------------------------------------------------------------------------------------------------------------------

module _ (F : ℕ → Type 0) (p : ℕ → Bool) (n : ℕ) (d : (i : ℕ) → Decides (F i) (p i)) (bound : (i : ℕ) → F i → i < n) where
  holds : {A : Type 0} {t : Bool} → Decides A t → T t → A
  holds (holding a) h = a
  holds (failing a) h = absurd h

  passes : {A : Type 0} {t : Bool} → Decides A t → A → T t
  passes (holding a) x = tt
  passes (failing a) x = absurd (a x)

  pub none-exactly : (lowest p n ≡ none) ↔ ((i : ℕ) → ¬ F i)
  none-exactly = go (lowest p n) (lowest-is p n)
    where
      go : (o : Option ℕ) → Lowest (λ i. T (p i)) n o → (o ≡ none) ↔ ((i : ℕ) → ¬ F i)
      go none f = (λ e i h. f i (bound i h) (passes (d i) h), λ g. refl)
      go (some j) f = (λ e. absurd (some-ne-none j e), λ g. absurd (g j (holds (d j) f.1)))

  pub some-exactly : (i : ℕ) → (lowest p n ≡ some i) ↔ LowestLine F i
  some-exactly i = (to, from)
    where
      to : lowest p n ≡ some i → LowestLine F i
      to e = let f = subst (Lowest (λ j. T (p j)) n) e (lowest-is p n) in (omega arith, holds (d i) f.1, λ j l h. f.2 j l (passes (d j) h))

      same_place : (j : ℕ) → F j → ((k : ℕ) → k < j → ¬ F k) → F i → ((k : ℕ) → k < i → ¬ F k) → Dec (j < i) → Dec (i < j) → j ≡ i
      same_place j a f b g (yes l) e = absurd (g j l a)
      same_place j a f b g (no l) (yes m) = absurd (f i m b)
      same_place j a f b g (no l) (no m) = omega arith

      from : LowestLine F i → lowest p n ≡ some i
      from (l, b, g) = go (lowest p n) (lowest-is p n)
        where
          go : (o : Option ℕ) → Lowest (λ j. T (p j)) n o → o ≡ some i
          go none f = absurd (f i (bound i b) (passes (d i) b))
          go (some j) f = ap some (same_place j (holds (d j) f.1) (λ k l h. f.2 k l (passes (d k) h)) b g (dec_lt j i) (dec_lt i j))

-- Lines -----------------------------------------------------------------------------------------------------------------------------

pub decides-same : (bs cs : List ℕ) → Decides (bs ≡ cs) (same bs cs)
decides-same bs cs = decides (same bs cs) (same-is bs cs) (λ e h. go (same bs cs) e (ap (λ (l : List ℕ). same bs l) (sym h) ∙ same_refl bs))
  where
    go : (t : Bool) → t ≡ false → t ≡ true → ⊥
    go true e f = let z : ◌≡◌ {A = ℕ} 0 1 = cc in omega arith
    go false e f = let z : ◌≡◌ {A = ℕ} 0 1 = cc in omega arith

module _ (bs : List ℕ) where
  -- a line that is there
  pub line-below : (i : ℕ) (l : List ℕ) → LineIs bs (suc i) l → (i < length (lines bs)) × (get_or (lines bs) i [] ≡ l)
  line-below i l k =
      let (j, e, few, at) = line-found bs (suc i) l k in
      let q : j ≡ i = omega arith in
      (omega arith, ap (λ (m : ℕ). get_or (lines bs) m []) (sym q) ∙ at)

  pub decides-first : (h : List ℕ) → h ≢ [] → Decides (¬ LineIs bs 1 h) (not (same (get_or (lines bs) 0 []) h))
  decides-first h ne = decides_not (decides-iff to (λ k. (line-below 0 h k).1) (decides-same (get_or (lines bs) 0 []) h))
    where
      to : get_or (lines bs) 0 [] ≡ h → LineIs bs 1 h
      to e = go (dec_lt 0 (length (lines bs)))
        where
          go : Dec (0 < length (lines bs)) → LineIs bs 1 h
          go (yes l) = subst (LineIs bs 1) e (line_at 0 bs l)
          go (no l) = absurd (ne (sym e ∙ get_or-eq_default (lines bs) [] (omega arith)))

  -- a line that is there, and of which P holds
  pub decides-further : (P : List ℕ → Type 0) (t : List ℕ → Bool) → ((l : List ℕ) → Decides (P l) (t l)) → (i : ℕ)
      → Decides ((line : List ℕ) × LineIs bs (suc i) line × P line) (leb (suc i) (length (lines bs)) && t (get_or (lines bs) i []))
  decides-further P t d i = decides-iff to from (decides_and (decides-le (suc i) (length (lines bs))) (d (get_or (lines bs) i [])))
    where
      to : (suc i ≤ length (lines bs)) × P (get_or (lines bs) i []) → (line : List ℕ) × LineIs bs (suc i) line × P line
      to (h, p) = (get_or (lines bs) i [], line_at i bs h, p)

      from : (line : List ℕ) × LineIs bs (suc i) line × P line → (suc i ≤ length (lines bs)) × P (get_or (lines bs) i [])
      from (l, k, p) = let (h, e) = line-below i l k in (h, subst P (sym e) p)
