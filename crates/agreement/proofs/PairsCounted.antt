-- The count of a check is that of the pairs compared: those before which none clashes; of all pairs if none clashes, and 0 if an earlier stage refuses.
use mathlib.Core.Path.{◌≡◌, refl, sym, ap, ◌∙◌, subst}
use mathlib.Core.Logic.{◌⊎◌, inl, inr, ⊎_elim}
use mathlib.Core.Bool.{Bool, true, false}
use mathlib.Core.List.Memᴰ
use mathlib.Core.List.{List, [], ◌∷◌, Memᴰ}
use mathlib.Core.Option.{none, some, some-ne-none}
use Prim.Native.Nat.{ℕ, suc}
use native.Mathlib.Nat.{eq-or-lt_of_le}
use native.Mathlib.Omega.{arith}
use lib.IntN.{ℤ}
use lib.ListN.{length}
use Rattle.meaning.specs.Basics.{if_else}
use Rattle.meaning.specs.Usage.{Comparison, comparisons, clashes, first_clash, compared, pairs_compared, refusal_of, usage_fault}
use Rattle.meaning.specs.MemberPairs.{MemberPair, Earlier, InOrder, ComponentAt, IsPair, ClashOf, first-changes, second-changes, both-input, both-output, PairClashes, Compared}
use Rattle.meaning.proofs.Decides.{Decides, holding, failing, decides-iff}
use Rattle.agreement.specs.VerdictClaims.{Passed}
use Rattle.agreement.specs.PairClaims.{ComparisonOf, OneByOne, no_more, one_more, CountOf, CountExact}
use Rattle.agreement.proofs.UsageClashes.{IsProcess, Cells, BothInput, BothOutput, decides-cells, decides-inputs, decides-outputs}
use Rattle.agreement.proofs.UsageExact.{seven, eight, nine}
use Rattle.agreement.proofs.PairOrder.{not-both}
use Rattle.agreement.proofs.PairMembers.{component-same, component-process}
use Rattle.agreement.proofs.PairsInOrder.{all_listed}

module _ (rows : List ℤ) (passed : Passed rows) where
  -- A comparison decides whether its pair clashes -----------------------------------------------------------------------------------

  -- the processes at rows p and q clash, by number
  abbrev ByNumber : ℕ → ℕ → ℕ → Type 0
  ByNumber p q n = ((n ≡ 7) × (Cells rows passed p q ⊎ Cells rows passed q p)) ⊎ (((n ≡ 8) × BothInput rows passed p q) ⊎ ((n ≡ 9) × BothOutput rows passed p q))

  module _ {r i j p q : ℕ} (one : ComponentAt rows r i p) (other : ComponentAt rows r j q) where
    moved : {s t : ℕ} (R : ℕ → ℕ → Type 0) → ComponentAt rows r i s → ComponentAt rows r j t → R s t → R p q
    moved {s} {t} R a b h = subst (λ (y : ℕ). R p y) (component-same rows b other) (subst (λ (x : ℕ). R x t) (component-same rows a one) h)

    to-rows : {n : ℕ} → ClashOf rows r i j n → ByNumber p q n
    to-rows (first-changes {v} {k} a b c d) = inl (refl, inl (moved (λ x y. Cells rows passed x y) a b (v, (k, c, d))))
    to-rows (second-changes {v} {k} a b c d) = inl (refl, inr (moved (λ x y. Cells rows passed y x) a b (v, (k, c, d))))
    to-rows (both-input {c = v} {k} a b c d) = inr (inl (refl, moved (BothInput rows passed) a b (v, (k, c, d))))
    to-rows (both-output {c = v} {k} a b c d) = inr (inr (refl, moved (BothOutput rows passed) a b (v, (k, c, d))))

    to-places : {n : ℕ} → ByNumber p q n → ClashOf rows r i j n
    to-places (inl (e, inl (v, (k, c, d)))) = subst (ClashOf rows r i j) (sym e) (first-changes one other c d)
    to-places (inl (e, inr (v, (k, c, d)))) = subst (ClashOf rows r i j) (sym e) (second-changes one other c d)
    to-places (inr (inl (e, (v, (k, c, d))))) = subst (ClashOf rows r i j) (sym e) (both-input one other c d)
    to-places (inr (inr (e, (v, (k, c, d))))) = subst (ClashOf rows r i j) (sym e) (both-output one other c d)

  sevens : {p q n : ℕ} → n ≡ 7 → ByNumber p q n → Cells rows passed p q ⊎ Cells rows passed q p
  sevens e (inl (f, h)) = h
  sevens e (inr (inl (f, h))) = absurd (omega arith)
  sevens e (inr (inr (f, h))) = absurd (omega arith)

  eights : {p q n : ℕ} → n ≡ 8 → ByNumber p q n → BothInput rows passed p q
  eights e (inl (f, h)) = absurd (omega arith)
  eights e (inr (inl (f, h))) = h
  eights e (inr (inr (f, h))) = absurd (omega arith)

  nines : {p q n : ℕ} → n ≡ 9 → ByNumber p q n → BothOutput rows passed p q
  nines e (inl (f, h)) = absurd (omega arith)
  nines e (inr (inl (f, h))) = absurd (omega arith)
  nines e (inr (inr (f, h))) = h

  module _ {c : Comparison} {x : MemberPair} (o : ComparisonOf rows c x) where
    abbrev p : ℕ
    p = o.one-is.0

    abbrev q : ℕ
    q = o.other-is.0

    is_one : IsProcess rows p c.pair.one
    is_one = component-process rows passed o.one-is.1 o.one-is.2

    is-other : IsProcess rows q c.pair.other
    is-other = component-process rows passed o.other-is.1 o.other-is.2

    by-test : {A : Type 0} {t : Bool} → clashes c ≡ t → (A → ByNumber p q x.number) → (ByNumber p q x.number → A) → Decides A t → Decides (ByNumber p q x.number) (clashes c)
    by-test e f g d = subst (Decides (ByNumber p q x.number)) (sym e) (decides-iff f g d)

    of-seven : x.number ≡ 7 → Decides (ByNumber p q x.number) (clashes c)
    of-seven e = by-test (seven c (o.number_is ∙ e)) (λ k. inl (e, k)) (sevens e) (decides-cells rows passed p q c.pair.one c.pair.other is_one is-other)

    of-eight : x.number ≡ 8 → Decides (ByNumber p q x.number) (clashes c)
    of-eight e = by-test (eight c (o.number_is ∙ e)) (λ k. inr (inl (e, k))) (eights e) (decides-inputs rows passed p q c.pair.one c.pair.other is_one is-other)

    of-nine : x.number ≡ 9 → Decides (ByNumber p q x.number) (clashes c)
    of-nine e = by-test (nine c (o.number_is ∙ e)) (λ k. inr (inr (e, k))) (nines e) (decides-outputs rows passed p q c.pair.one c.pair.other is_one is-other)

    decides-pair : IsPair rows x → Decides (PairClashes rows x) (clashes c)
    decides-pair h =
        decides-iff (to-places o.one-is.1 o.other-is.1) (to-rows o.one-is.1 o.other-is.1)
        (let b = h.sort.1 in ⊎_elim (λ e. of-seven (sym e)) (λ l. ⊎_elim (λ e. of-eight (sym e)) (λ m. of-nine (omega arith)) (eq-or-lt_of_le l)) (eq-or-lt_of_le h.sort.0))

  -- The pairs compared --------------------------------------------------------------------------------------------------------------

  -- of a list of pairs, those before which none clashes
  abbrev InList : List MemberPair → MemberPair → Type 0
  InList s x = Memᴰ x s × ((y : MemberPair) → Memᴰ y s → Earlier y x → ¬ PairClashes rows y)

  -- none of a list in order goes before its first
  none_before : {x z : MemberPair} {s : List MemberPair} → InOrder (x ∷ s) → Memᴰ z (x ∷ s) → Earlier z x → ⊥
  none_before {x} {z} o m e = ⊎_elim (λ f. let g = subst (λ (y : MemberPair). Earlier y x) f e in not-both g g) (λ n. not-both (o.0 z n) e) (Memᴰ.cases_cons m)

  counted : {l : List Comparison} {s : List MemberPair} → OneByOne rows l s → InOrder s → ((x : MemberPair) → Memᴰ x s → IsPair rows x) → CountOf rows (InList s) (compared l)
  unfolding compared
  counted no_more o f = ([], tt, (λ x. ((λ m. absurd (Memᴰ.not-nil m)), (λ h. h.0))), refl)
  counted (one_more {c} {x} {l} {m = s} h g) o f = go (decides-pair h (f x (Memᴰ.head refl))) (counted g o.1 (λ y m. f y (Memᴰ.tail m)))
    where
      -- the first
      at_first : (y : MemberPair) → y ≡ x → InList (x ∷ s) y
      at_first y e = (Memᴰ.head e, λ z m b. absurd (none_before o m (subst (Earlier z) e b)))

      go : {t : Bool} → Decides (PairClashes rows x) t → CountOf rows (InList s) (compared l) → CountOf rows (InList (x ∷ s)) (if_else t 1 (suc (compared l)))
      go (holding k) w = (
        x ∷ [],
        ((λ y m. absurd (Memᴰ.not-nil m)), tt),
        (λ y. (
          (λ m. at_first y (Memᴰ.eq_of_singleton m)),
          (λ d. ⊎_elim (λ e. Memᴰ.head e) (λ m. absurd (d.1 x (Memᴰ.head refl) (o.0 y m) k)) (Memᴰ.cases_cons d.0)),
        )),
        refl,
      )
      go (failing k) (t, a, b, e) = (
        x ∷ t,
        ((λ y m. o.0 y ((b y).0 m).0), a),
        (λ y. (
          (λ m. ⊎_elim (at_first y) (λ n. let d = (b y).0 n in (Memᴰ.tail d.0, λ z i u. ⊎_elim (λ q. subst (λ (v : MemberPair). ¬ PairClashes rows v) (sym q) k) (λ j. d.1 z j u) (Memᴰ.cases_cons i))) (Memᴰ.cases_cons m)),
          (λ d. ⊎_elim (λ q. Memᴰ.head q) (λ n. Memᴰ.tail ((b y).1 (n, λ z i. d.1 z (Memᴰ.tail i)))) (Memᴰ.cases_cons d.0)),
        )),
        ap suc e,
      )

  pub count-of-compared : CountOf rows (Compared rows) (pairs_compared rows)
  unfolding pairs_compared
  count-of-compared =
      let (s, a, b, c) = all_listed rows passed in
      let (t, d, e, f) = counted c a (λ x m. (b x).0 m) in
      (t, d, (λ x. ((λ m. let h = (e x).0 m in ((b x).0 h.0, λ y p. h.1 y ((b y).1 p))), (λ h. (e x).1 ((b x).1 h.0, λ y m. h.1 y ((b y).0 m))))), f)

  -- of all pairs, if none clashes
  pub compared-all : (l : List Comparison) → refusal_of (first_clash l) ≡ none → compared l ≡ length l
  unfolding first_clash compared
  compared-all [] e = refl
  compared-all (c ∷ l) e = go (clashes c) e (compared-all l)
    where
      go : (t : Bool) → refusal_of (if_else t (some c) (first_clash l)) ≡ none → (refusal_of (first_clash l) ≡ none → compared l ≡ length l) → if_else t 1 (suc (compared l)) ≡ suc (length l)
      go true h f = absurd (some-ne-none (c.number, c.row) h)
      go false h f = ap suc (f h)

  as_long : {l : List Comparison} {s : List MemberPair} → OneByOne rows l s → length s ≡ length l
  as_long no_more = refl
  as_long (one_more h g) = ap suc (as_long g)

  pub count-of-all : usage_fault rows ≡ none → CountOf rows (IsPair rows) (pairs_compared rows)
  unfolding pairs_compared usage_fault
  count-of-all e = let (s, a, b, c) = all_listed rows passed in (s, a, b, as_long c ∙ sym (compared-all (comparisons rows) e))

pub count-exact : CountExact
count-exact rows passed = count-of-compared rows passed
