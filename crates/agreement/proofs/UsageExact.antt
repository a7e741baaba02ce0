-- The usage fault of a table that the earlier stages pass is the lowest PAR with a clash of the lowest number; none exactly if there is no clash.
use mathlib.Core.Path.{◌≡◌, refl, sym, ap, ◌∙◌, subst}
use mathlib.Core.Logic.{◌⊎◌, inl, inr, ⊎_elim, ◌↔◌}
use mathlib.Core.List.{List, ◌++◌}
use mathlib.Core.Option.{Option, none, some}
use Prim.Native.Nat.{ℕ, suc, ◌+◌, ◌<◌}
use native.Mathlib.Decide.{dec_lt}
use native.Mathlib.Omega.{arith}
use lib.IntN.{ℤ}
use lib.Dec.{eqb}
use Rattle.meaning.specs.Basics.{if_else, Lowest}
use Rattle.meaning.specs.Rows.{row_count}
use Rattle.meaning.specs.Tree.{contents}
use Rattle.meaning.specs.Usage.{Comparison, comparisons_of, comparisons, clashes, cell_clash, input_clash, output_clash, first_clash, refusal_of, usage_fault}
use Rattle.meaning.specs.Clash.{Components, components, Clash, cell-clash, input-clash, output-clash}
use Rattle.meaning.proofs.LowestLaws.{lowest-one}
use Rattle.agreement.specs.VerdictClaims.{Passed, NoClash, LowestClash, UsagePasses, UsageFaults, UsageExact}
use Rattle.agreement.proofs.UsageClashes.{Cells, BothInput, BothOutput, decides-cells, decides-inputs, decides-outputs}
use Rattle.agreement.proofs.UsageFirst.{member-par, or_else, first-append, FromRow, first-of-rows}

-- a clash's test, by its number
pub seven : (c : Comparison) → c.number ≡ 7 → clashes c ≡ cell_clash c.pair.one c.pair.other
unfolding clashes
seven c e =
    let p = c.pair.one in let q = c.pair.other in
    ap (λ (k : ℕ). if_else (eqb k 7) (cell_clash p q) (if_else (eqb k 8) (input_clash p q) (output_clash p q))) e

pub eight : (c : Comparison) → c.number ≡ 8 → clashes c ≡ input_clash c.pair.one c.pair.other
unfolding clashes
eight c e =
    let p = c.pair.one in let q = c.pair.other in
    ap (λ (k : ℕ). if_else (eqb k 7) (cell_clash p q) (if_else (eqb k 8) (input_clash p q) (output_clash p q))) e

pub nine : (c : Comparison) → c.number ≡ 9 → clashes c ≡ output_clash c.pair.one c.pair.other
unfolding clashes
nine c e =
    let p = c.pair.one in let q = c.pair.other in
    ap (λ (k : ℕ). if_else (eqb k 7) (cell_clash p q) (if_else (eqb k 8) (input_clash p q) (output_clash p q))) e

module _ (rows : List ℤ) (passed : Passed rows) where
  turn : {r p q : ℕ} → Components rows r p q → Components rows r q p
  turn (components i j ne e f) = components j i (λ h. ne (sym h)) f e

  -- clashes by number
  abbrev Between : (ℕ → ℕ → Type 0) → ℕ → Type 0
  Between R r = (p : ℕ) × ((q : ℕ) × Components rows r p q × R p q)

  abbrev CellsEither : ℕ → ℕ → Type 0
  CellsEither p q = Cells rows passed p q ⊎ Cells rows passed q p

  by_number : {r k : ℕ} → Clash rows r k → ((k ≡ 7) × Between CellsEither r) ⊎ (((k ≡ 8) × Between (BothInput rows passed) r) ⊎ ((k ≡ 9) × Between (BothOutput rows passed) r))
  by_number (cell-clash {p} {q} {v} {i} c a b) = inl (refl, (p, (q, c, inl (v, (i, a, b)))))
  by_number (input-clash {p} {q} {c = v} {i} c a b) = inr (inl (refl, (p, (q, c, (v, (i, a, b))))))
  by_number (output-clash {p} {q} {c = v} {i} c a b) = inr (inr (refl, (p, (q, c, (v, (i, a, b))))))

  sevens : (r : ℕ) → Clash rows r 7 ↔ Between CellsEither r
  sevens r = (λ h. to (by_number h), from)
    where
      to : ((◌≡◌ {A = ℕ} 7 7) × Between CellsEither r) ⊎ (((◌≡◌ {A = ℕ} 7 8) × Between (BothInput rows passed) r) ⊎ ((◌≡◌ {A = ℕ} 7 9) × Between (BothOutput rows passed) r)) → Between CellsEither r
      to (inl h) = h.1
      to (inr (inl h)) = absurd (let e = h.0 in omega arith)
      to (inr (inr h)) = absurd (let e = h.0 in omega arith)

      from : Between CellsEither r → Clash rows r 7
      from h = ⊎_elim (λ c. cell-clash h.1.1 c.1.1 c.1.2) (λ c. cell-clash (turn h.1.1) c.1.1 c.1.2) h.1.2

  eights : (r : ℕ) → Clash rows r 8 ↔ Between (BothInput rows passed) r
  eights r = (λ h. to (by_number h), λ h. input-clash h.1.1 h.1.2.1.1 h.1.2.1.2)
    where
      to : ((◌≡◌ {A = ℕ} 8 7) × Between CellsEither r) ⊎ (((◌≡◌ {A = ℕ} 8 8) × Between (BothInput rows passed) r) ⊎ ((◌≡◌ {A = ℕ} 8 9) × Between (BothOutput rows passed) r)) → Between (BothInput rows passed) r
      to (inl h) = absurd (let e = h.0 in omega arith)
      to (inr (inl h)) = h.1
      to (inr (inr h)) = absurd (let e = h.0 in omega arith)

  nines : (r : ℕ) → Clash rows r 9 ↔ Between (BothOutput rows passed) r
  nines r = (λ h. to (by_number h), λ h. output-clash h.1.1 h.1.2.1.1 h.1.2.1.2)
    where
      to : ((◌≡◌ {A = ℕ} 9 7) × Between CellsEither r) ⊎ (((◌≡◌ {A = ℕ} 9 8) × Between (BothInput rows passed) r) ⊎ ((◌≡◌ {A = ℕ} 9 9) × Between (BothOutput rows passed) r)) → Between (BothOutput rows passed) r
      to (inl h) = absurd (let e = h.0 in omega arith)
      to (inr (inl h)) = absurd (let e = h.0 in omega arith)
      to (inr (inr h)) = h.1

  -- the first clash of a number
  abbrev First : ℕ → Option Comparison → Type 0
  First k none = (q : ℕ) → ¬ Clash rows q k
  First k (some c) = (c.number ≡ k) × Clash rows c.row k × ((q : ℕ) → q < c.row → ¬ Clash rows q k)

  at-start : (k : ℕ) (o : Option Comparison) → FromRow rows k 0 o → First k o
  at-start k none h = λ q. h q (omega arith)
  at-start k (some c) h = (h.0, h.2, λ q. h.3 q (omega arith))

  first-seven : First 7 (first_clash (comparisons_of 7 (contents rows)))
  first-seven =
      at-start 7 (first_clash (comparisons_of 7 (contents rows)))
      (first-of-rows rows passed 7 cell_clash seven CellsEither (decides-cells rows passed) (λ p q h. ⊎_elim inr inl h) sevens)

  first-eight : First 8 (first_clash (comparisons_of 8 (contents rows)))
  first-eight =
      at-start 8 (first_clash (comparisons_of 8 (contents rows)))
      (first-of-rows rows passed 8 input_clash eight (BothInput rows passed) (decides-inputs rows passed) (λ p q h. (h.0, (h.1.0, h.1.2, h.1.1))) eights)

  first-nine : First 9 (first_clash (comparisons_of 9 (contents rows)))
  first-nine =
      at-start 9 (first_clash (comparisons_of 9 (contents rows)))
      (first-of-rows rows passed 9 output_clash nine (BothOutput rows passed) (decides-outputs rows passed) (λ p q h. (h.0, (h.1.0, h.1.2, h.1.1))) nines)

  -- the lowest row of the lowest number
  abbrev pub Least : Option (ℕ × ℕ) → Type 0
  Least none = NoClash rows
  Least (some f) = LowestClash rows f.0 f.1

  par-below : {r p q : ℕ} → Components rows r p q → r < row_count rows
  par-below (components i j ne f g) = (member-par rows i).2

  clash-below : {r k : ℕ} → Clash rows r k → r < row_count rows
  clash-below (cell-clash c a b) = par-below c
  clash-below (input-clash c a b) = par-below c
  clash-below (output-clash c a b) = par-below c

  -- the numbers of clashes are 7, 8 and 9
  none_below : (n q j : ℕ) → (7 < n → ¬ Clash rows q 7) → (8 < n → ¬ Clash rows q 8) → (9 < n → ¬ Clash rows q 9) → j < n → ¬ Clash rows q j
  none_below n q j a b c l h =
      ⊎_elim (λ g. let e = g.0 in a (omega arith) (subst (Clash rows q) e h))
      (λ o. ⊎_elim (λ g. let e = g.0 in b (omega arith) (subst (Clash rows q) e h)) (λ g. let e = g.0 in c (omega arith) (subst (Clash rows q) e h)) o)
      (by_number h)

  -- found as number k, where lower numbers have none
  found : (k : ℕ) (c : Comparison) → First k (some c) → ((q j : ℕ) → j < k → ¬ Clash rows q j) → Least (some (c.number, c.row))
  found k c h f = let e = sym h.0 in subst (λ (j : ℕ). Least (some (j, c.row))) e ((clash-below h.1, h.1, h.2), f)

  least-of : (o p q : Option Comparison) → First 7 o → First 8 p → First 9 q → Least (refusal_of (or_else o (or_else p q)))
  least-of (some c) p q f g h = found 7 c f (λ r j. none_below 7 r j (λ l. absurd (omega arith)) (λ l. absurd (omega arith)) (λ l. absurd (omega arith)))
  least-of none (some c) q f g h = found 8 c g (λ r j. none_below 8 r j (λ l. f r) (λ l. absurd (omega arith)) (λ l. absurd (omega arith)))
  least-of none none (some c) f g h = found 9 c h (λ r j. none_below 9 r j (λ l. f r) (λ l. g r) (λ l. absurd (omega arith)))
  least-of none none none f g h = λ r k. none_below (suc k) r k (λ l. f r) (λ l. g r) (λ l. h r) (omega arith)

  pub usage-least : Least (usage_fault rows)
  unfolding usage_fault comparisons
  usage-least =
      let l = contents rows in
      let two = comparisons_of 8 l ++ comparisons_of 9 l in
      subst (λ (o : Option Comparison). Least (refusal_of o))
      (sym (first-append (comparisons_of 7 l) two ∙ ap (or_else (first_clash (comparisons_of 7 l))) (first-append (comparisons_of 8 l) (comparisons_of 9 l))))
      (least-of (first_clash (comparisons_of 7 l)) (first_clash (comparisons_of 8 l)) (first_clash (comparisons_of 9 l)) first-seven first-eight first-nine)

  -- the least is one
  least-one : (f g : ℕ × ℕ) → Least (some f) → Least (some g) → f ≡ g
  least-one f g h k = λ i. (number i, row i)
    where
      number : f.0 ≡ g.0
      number = go (dec_lt f.0 g.0) (dec_lt g.0 f.0)
        where
          go : Dec (f.0 < g.0) → Dec (g.0 < f.0) → f.0 ≡ g.0
          go (yes l) b = absurd (k.1 f.1 f.0 l h.0.1)
          go (no l) (yes m) = absurd (h.1 g.1 g.0 m k.0.1)
          go (no l) (no m) = omega arith

      row : f.1 ≡ g.1
      row = lowest-one (λ q. Clash rows q g.0) (row_count rows) f.1 g.1 (subst (λ (n : ℕ). Lowest (λ q. Clash rows q n) (row_count rows) (some f.1)) number h.0) k.0

  pub passes-is : (usage_fault rows ≡ none) ↔ Least none
  passes-is = (λ e. subst Least e usage-least, λ h. go (usage_fault rows) usage-least h)
    where
      go : (o : Option (ℕ × ℕ)) → Least o → Least none → o ≡ none
      go none h k = refl
      go (some f) h k = absurd (k f.1 f.0 h.0.1)

  pub faults-is : (f : ℕ × ℕ) → (usage_fault rows ≡ some f) ↔ Least (some f)
  faults-is f = (λ e. subst Least e usage-least, λ h. go (usage_fault rows) usage-least h)
    where
      go : (o : Option (ℕ × ℕ)) → Least o → Least (some f) → o ≡ some f
      go none h k = absurd (h f.1 f.0 k.0.1)
      go (some g) h k = ap some (least-one g f h k)

pub usage-passes : UsagePasses
usage-passes rows p = passes-is rows p

pub usage-faults : UsageFaults
usage-faults rows p number r = faults-is rows p (number, r)

pub usage-exact : UsageExact
usage-exact = (usage-passes, usage-faults)
