-- The count of the references to a row says whether it is referred to never, once or more often.
use mathlib.Core.Path.{◌≡◌, refl, sym, ap, ◌∙◌, subst}
use mathlib.Core.Logic.{◌⊎◌, inl, inr, ⊎_elim}
use mathlib.Core.Bool.{Bool}
use mathlib.Core.List.Memᴰ
use mathlib.Core.List.{List, [], ◌∷◌, ◌++◌, Memᴰ}
use mathlib.Core.Option.{Option, none, some, none-ne-some, some-injective}
use Prim.Native.Nat.{ℕ, zero, suc, ◌+◌, ◌<◌}
use native.Mathlib.Nat.{eq-or-lt_of_le, le_of_suc-le-suc}
use native.Mathlib.Omega.{arith}
use lib.IntN.{ℤ, pos, negsuc, pos-ne-negsuc}
use lib.Dec.{eqb}
use Rattle.meaning.specs.Rows.{row_count, field_at, kind_at}
use Rattle.meaning.specs.Basics.{if_else, among}
use Rattle.meaning.proofs.Decides.{Decides, holding, failing, decides-iff, decides_and, decides-lt, decides_eq, decides-any, pos-injective}
use Rattle.meaning.proofs.Counting.{Counts, never, once, more, counts-iff, counts-add, occurrences-append}
use Rattle.meaning.specs.Kinds.{Field, unused, literal_value, within, elements, capacity, operator, variable, channel, reference, link, Shape, shape_of}
use Rattle.meaning.specs.Verdict.{refers, target_of, target, targets_by, targets, targets_below, occurrences}
use Rattle.meaning.specs.References.{IsTarget, RefersBy, Column, of-a, of-b, of_c, field_of, number_of, Refers}
use Rattle.meaning.specs.Faults.{Once}

pub decides-among : (k : ℕ) (ks : List ℕ) → Decides (Memᴰ k ks) (among k ks)
decides-among k ks =
    decides-iff (λ h. Memᴰ.cast h.2 h.1) (λ m. (k, m, refl)) (decides-any (λ x. k ≡ x) (eqb k) (decides_eq k) ks)

pub decides-target : (rows : List ℤ) (r : ℕ) (kinds : List ℕ) (t : ℕ) → Decides (IsTarget rows r kinds t) (refers rows r kinds (pos t))
decides-target rows r kinds t =
    decides-iff (λ h. (h.0.0, h.0.1, h.1)) (λ h. ((h.0, h.1), h.2))
    (decides_and (decides_and (decides-lt r t) (decides-lt t (row_count rows))) (decides-among (kind_at rows t) kinds))

code : Column → ℕ
code of-a = 0
code of-b = 1
code of_c = 2

pub a-not-b : of-a ≡ of-b → ⊥
unfolding code
a-not-b e = let h : ◌≡◌ {A = ℕ} 0 1 = ap code e in omega arith

a-not-c : of-a ≡ of_c → ⊥
unfolding code
a-not-c e = let h : ◌≡◌ {A = ℕ} 0 2 = ap code e in omega arith

b-not-c : of-b ≡ of_c → ⊥
unfolding code
b-not-c e = let h : ◌≡◌ {A = ℕ} 1 2 = ap code e in omega arith

module _ (rows : List ℤ) (t : ℕ) where
  -- the reference of a field
  count-target : (q : ℕ) (p : Column) (kinds : List ℕ) (z : ℤ) → Counts (λ (a : ℕ × Column). (a ≡ (q, p)) × ((z ≡ pos t) × IsTarget rows q kinds t)) (occurrences t (target_of rows q kinds z))
  unfolding occurrences
  count-target q p kinds (negsuc i) = never refl (λ a h. pos-ne-negsuc t i (sym h.1.0))
  count-target q p kinds (pos u) = go (decides-target rows q kinds u)
    where
      P : ℕ × Column → Type 0
      P a = (a ≡ (q, p)) × ((pos u ≡ pos t) × IsTarget rows q kinds t)

      is : {b : Bool} → IsTarget rows q kinds u → Decides (t ≡ u) b → Counts P (if_else b 1 0 + 0)
      is h (holding e) = once (omega arith) (q, p) (refl, (ap pos (sym e), subst (IsTarget rows q kinds) (sym e) h)) (λ b w. w.0)
      is h (failing e) = never (omega arith) (λ a w. e (sym (pos-injective w.1.0)))

      go : {b : Bool} → Decides (IsTarget rows q kinds u) b → Counts P (occurrences t (if_else b (u ∷ []) []))
      go (holding h) = is h (decides_eq t u)
      go (failing h) = never refl (λ a w. h (subst (IsTarget rows q kinds) (sym (pos-injective w.1.0)) w.1.1))

  count-field : (q : ℕ) (p : Column) (f : Field) (z : ℤ) → Counts (λ (a : ℕ × Column). (a ≡ (q, p)) × RefersBy rows q f z t) (occurrences t (target rows q f z))
  unfolding RefersBy target occurrences
  count-field q p unused z = never refl (λ a h. h.1)
  count-field q p literal_value z = never refl (λ a h. h.1)
  count-field q p (within lo hi) z = never refl (λ a h. h.1)
  count-field q p elements z = never refl (λ a h. h.1)
  count-field q p capacity z = never refl (λ a h. h.1)
  count-field q p operator z = never refl (λ a h. h.1)
  count-field q p variable z = never refl (λ a h. h.1)
  count-field q p (channel roles) z = never refl (λ a h. h.1)
  count-field q p (reference kinds) z = count-target q p kinds z
  count-field q p (link kinds) z = count-target q p kinds z

  -- the references of a row
  count-row : (q : ℕ) (o : Option Shape) → shape_of (kind_at rows q) ≡ o → Counts (λ (a : ℕ × Column). (a.0 ≡ q) × Refers rows q a.1 t) (occurrences t (targets_by rows q o))
  unfolding Refers occurrences
  count-row q none e = never refl (λ a h. none-ne-some h.1.0 (sym e ∙ h.1.1))
  count-row q (some s) e =
      subst (Counts Row) (sym sum)
      (counts-iff to from (counts-add ab-c (counts-add a-b (count-field q of-a s.a (field_at rows q 1)) (count-field q of-b s.b (field_at rows q 2))) (count-field q of_c s.c (field_at rows q 3))))
    where
      Row : ℕ × Column → Type 0
      Row a = (a.0 ≡ q) × Refers rows q a.1 t

      Of : Column → ℕ × Column → Type 0
      Of p a = (a ≡ (q, p)) × RefersBy rows q (field_of s p) (number_of rows q p) t

      ta : List ℕ
      ta = target rows q s.a (field_at rows q 1)

      tb : List ℕ
      tb = target rows q s.b (field_at rows q 2)

      tc : List ℕ
      tc = target rows q s.c (field_at rows q 3)

      sum : occurrences t (targets_by rows q (some s)) ≡ occurrences t ta + occurrences t tb + occurrences t tc
      sum = occurrences-append t (ta ++ tb) tc ∙ ap (λ (n : ℕ). n + occurrences t tc) (occurrences-append t ta tb)

      a-b : (a : ℕ × Column) → Of of-a a → Of of-b a → ⊥
      a-b a h k = a-not-b (ap (λ (x : ℕ × Column). x.1) (sym h.0 ∙ k.0))

      ab-c : (a : ℕ × Column) → (Of of-a a ⊎ Of of-b a) → Of of_c a → ⊥
      ab-c a h k = ⊎_elim (λ i. a-not-c (ap (λ (x : ℕ × Column). x.1) (sym i.0 ∙ k.0))) (λ i. b-not-c (ap (λ (x : ℕ × Column). x.1) (sym i.0 ∙ k.0))) h

      into : (p : Column) (a : ℕ × Column) → Of p a → Row a
      into p a h = (ap (λ (x : ℕ × Column). x.0) h.0, subst (λ (o : Column). Refers rows q o t) (sym (ap (λ (x : ℕ × Column). x.1) h.0)) (s, e, h.1))

      to : (a : ℕ × Column) → ((Of of-a a ⊎ Of of-b a) ⊎ Of of_c a) → Row a
      to a h = ⊎_elim (⊎_elim (into of-a a) (into of-b a)) (into of_c a) h

      sort : (a : ℕ × Column) (p : Column) → Of p a → (Of of-a a ⊎ Of of-b a) ⊎ Of of_c a
      sort a of-a h = inl (inl h)
      sort a of-b h = inl (inr h)
      sort a of_c h = inr h

      from : (a : ℕ × Column) → Row a → (Of of-a a ⊎ Of of-b a) ⊎ Of of_c a
      from a h =
          sort a a.1
          (λ i. (h.0 i, a.1), subst (λ (u : Shape). RefersBy rows q (field_of u a.1) (number_of rows q a.1) t) (some-injective h.1.0 s (sym h.1.1 ∙ e)) h.1.2)

  -- the references of the first n rows
  count-below : (n : ℕ) → Counts (λ (a : ℕ × Column). (a.0 < n) × Refers rows a.0 a.1 t) (occurrences t (targets_below rows n))
  unfolding targets_below occurrences
  count-below zero = never refl (λ a h. let l = h.0 in omega arith)
  count-below (suc n) =
      subst (Counts Now) (sym (occurrences-append t (targets_below rows n) (targets rows n)))
      (counts-iff to from (counts-add (λ a h k. let l = h.0 in let e = k.0 in omega arith) (count-below n) (count-row n (shape_of (kind_at rows n)) refl)))
    where
      Before : ℕ × Column → Type 0
      Before a = (a.0 < n) × Refers rows a.0 a.1 t

      Here : ℕ × Column → Type 0
      Here a = (a.0 ≡ n) × Refers rows n a.1 t

      Now : ℕ × Column → Type 0
      Now a = (a.0 < suc n) × Refers rows a.0 a.1 t

      to : (a : ℕ × Column) → (Before a ⊎ Here a) → Now a
      to a h = ⊎_elim (λ i. (omega (arith, i.0), i.1)) (λ i. (omega (arith, i.0), subst (λ (q : ℕ). Refers rows q a.1 t) (sym i.0) i.1)) h

      from : (a : ℕ × Column) → Now a → Before a ⊎ Here a
      from a h = ⊎_elim (λ e. inr (e, subst (λ (q : ℕ). Refers rows q a.1 t) e h.1)) (λ l. inl (l, h.1)) (eq-or-lt_of_le (le_of_suc-le-suc h.0))

  -- a reference goes to a higher row of the table
  pub bounds : (q : ℕ) (f : Field) (z : ℤ) → RefersBy rows q f z t → (q < t) × (t < row_count rows)
  unfolding RefersBy
  bounds q unused z h = absurd h
  bounds q literal_value z h = absurd h
  bounds q operator z h = absurd h
  bounds q (within lo hi) z h = absurd h
  bounds q elements z h = absurd h
  bounds q capacity z h = absurd h
  bounds q variable z h = absurd h
  bounds q (channel roles) z h = absurd h
  bounds q (reference kinds) z h = (h.1.0, h.1.1)
  bounds q (link kinds) z h = (h.1.0, h.1.1)

  -- all references to a row
  pub count-all : Counts (λ (a : ℕ × Column). Refers rows a.0 a.1 t) (occurrences t (targets_below rows (row_count rows)))
  unfolding Refers
  count-all = counts-iff (λ a h. h.1) (λ a h. (below a h, h)) (count-below (row_count rows))
    where
      below : (a : ℕ × Column) → Refers rows a.0 a.1 t → a.0 < row_count rows
      below a h = let b = bounds a.0 (field_of h.0 a.1) (number_of rows a.0 a.1) h.2 in omega arith

  -- never, and once
  unfoldable pub Never : Type 0
  Never = (q : ℕ) (o : Column) → ¬ Refers rows q o t

  pub never-zero : {n : ℕ} → Counts (λ (a : ℕ × Column). Refers rows a.0 a.1 t) n → (n ≡ 0 → Never) × (Never → n ≡ 0)
  unfolding Never
  never-zero (never e h) = (λ i q o. h (q, o), λ w. e)
  never-zero (once e a p u) = (λ i. absurd (omega arith), λ w. absurd (w a.0 a.1 p))
  never-zero (more l a b p q d) = (λ i. absurd (omega arith), λ w. absurd (w a.0 a.1 p))

  pub once-one : {n : ℕ} → Counts (λ (a : ℕ × Column). Refers rows a.0 a.1 t) n → (n ≡ 1 → Once rows t) × (Once rows t → n ≡ 1)
  unfolding Once
  once-one (never e h) = (λ i. absurd (omega arith), λ w. absurd (h (w.0, w.1) w.2))
  once-one (once e a p u) =
      (λ i. (a.0, a.1, p, λ q o r. (ap (λ (x : ℕ × Column). x.0) (u (q, o) r), ap (λ (x : ℕ × Column). x.1) (u (q, o) r))), λ w. e)
  once-one (more l a b p q d) =
      (λ i. absurd (omega arith), λ w. absurd (d (same w a p ∙ sym (same w b q))))
    where
      same : (w : (r : ℕ) × (p : Column) × Refers rows r p t × ((q : ℕ) (o : Column) → Refers rows q o t → (q ≡ r) × (o ≡ p))) (c : ℕ × Column) → Refers rows c.0 c.1 t → c ≡ (w.0, w.1)
      same w c r = λ i. ((w.3 c.0 c.1 r).0 i, (w.3 c.0 c.1 r).1 i)
