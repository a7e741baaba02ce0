-- The rows that lines leave open, from the last line to the first.
use mathlib.Core.Path.{◌≡◌, refl, sym, ap, ap₂, ◌∙◌}
use mathlib.Core.Bool.{Bool, true, false}
use mathlib.Core.List.{List, [], ◌∷◌}
use Prim.Native.Nat.{ℕ, zero, suc, ◌+◌, ◌%◌, ◌≤◌, ◌<◌}
use native.Mathlib.Omega.{arith}
use borrow.Author.Tests.{eqb-true, eqb-false, ltb-true, ltb-false}
use lib.Dec.{eqb, ltb}
use lib.ListN.{length, get_or, set, drop, replicate, length-set, length-replicate, drop_of_length-le}
use lib.Seq.{sets, drop-cons, get_or-set_same, get_or-set_other}
use Rattle.meaning.specs.Basics.{if_else}
use Rattle.grammar.specs.Outline.{skip, nothing}
use Rattle.grammar.specs.Classes.{variable-line}
use Rattle.read_classes.specs.ClassNumbers.{number_of}
use Rattle.read_layout.specs.Standing.{Standing, standing, open_rows, rest_rows}
use Rattle.read_layout.proofs.SetsLaws.{set_before}
use Rattle.read_sizes.specs.Sizes.{level_of, own_of, starts_of, beneath_of, after_of, beneaths, afters, rests, by_line, Measured}

-- the rows of a line's form
abbrev pub whole_of : Standing → List Standing → ℕ
whole_of y ys = own_of y + beneath_of y ys + after_of y ys

-- what is left open at each level, with one line more
open-one : (y : Standing) (ys : List Standing) (i : ℕ) → ((j : ℕ) → suc (level_of y) < j → open_rows ys j ≡ 0) → (xs : List ℕ) → suc (level_of y) < length xs → get_or xs i 0 ≡ open_rows ys i
    → get_or (set (set xs (level_of y) (whole_of y ys)) (suc (level_of y)) 0) i 0 ≡ open_rows (y ∷ ys) i
unfolding open_rows
open-one (standing e l x) ys i h xs s g = go (ltb i l) (eqb i l) (eqb i (suc l)) refl refl refl
  where
    W : ℕ
    W = whole_of (standing e l x) ys

    n : length (set xs l W) ≡ length xs
    n = length-set xs l W

    go : (a b c : Bool) → ltb i l ≡ a → eqb i l ≡ b → eqb i (suc l) ≡ c → get_or (set (set xs l W) (suc l) 0) i 0 ≡ if_else a (open_rows ys i) (if_else b W 0)
    go true b c p q r =
        let k = ltb-true i l p in
        get_or-set_other (set xs l W) (suc l) i 0 0 (λ z. omega (arith, k, z)) ∙ get_or-set_other xs l i W 0 (λ z. omega (arith, k, z)) ∙ g
    go false true c p q r =
        let k = eqb-true i l q in
        get_or-set_other (set xs l W) (suc l) i 0 0 (λ z. omega (arith, k, z)) ∙ ap (λ (j : ℕ). get_or (set xs l W) j 0) k ∙ get_or-set_same xs l W 0 (omega (arith, s))
    go false false true p q r = ap (λ (j : ℕ). get_or (set (set xs l W) (suc l) 0) j 0) (eqb-true i (suc l) r) ∙ get_or-set_same (set xs l W) (suc l) 0 0 (omega (arith, n, s))
    go false false false p q r =
        let k = ltb-false i l p in
        let u = eqb-false i l q in
        let v = eqb-false i (suc l) r in
        get_or-set_other (set xs l W) (suc l) i 0 0 v ∙ get_or-set_other xs l i W 0 u ∙ g ∙ h i (omega (arith, k, u, v))

-- the lines from j on are summed
pub record SummedFrom (kinds levels owns : List ℕ) (ys : List Standing) (j : ℕ) (beneath₀ after₀ rest₀ beneath after rest opened : List ℕ) (last : ℕ) : Type 0 where
  pub size : length opened ≡ 1025
  pub opens : (i : ℕ) → get_or opened i 0 ≡ open_rows (drop j ys) i
  pub beneath-held : beneath ≡ sets beneath₀ j (beneaths (drop j ys))
  pub after-held : after ≡ sets after₀ j (afters (drop j ys))
  pub rest-held : rest ≡ sets rest₀ j (rests (drop j ys))
  pub last-held : last ≡ rest_rows (drop j ys)

-- a number more before those that are kept
kept-one : (xs₀ xs X : List ℕ) (j u v : ℕ) → xs ≡ sets xs₀ (suc j) X → u ≡ v → set xs j u ≡ sets xs₀ j (v ∷ X)
kept-one xs₀ xs X j u v e f = ap₂ (λ (w : List ℕ) (z : ℕ). set w j z) e f ∙ set_before X xs₀ j (suc j) v (omega arith)

rest-one : (y : Standing) (zs : List Standing) → rest_rows (y ∷ zs) ≡ if_else (starts_of y) (rest_rows zs) (after_of y zs)
unfolding rest_rows
rest-one (standing e l x) zs = refl

-- one line more
pub sum_step : (kinds levels owns : List ℕ) (ys : List Standing) (count : ℕ) → Measured kinds count levels owns ys → (a j : ℕ) → a ≡ suc j → a ≤ count
    → (beneath₀ after₀ rest₀ beneath after rest opened : List ℕ) (last : ℕ) → SummedFrom kinds levels owns ys a beneath₀ after₀ rest₀ beneath after rest opened last
    → let l = get_or levels j 0 in let b = get_or opened (l + 1) 0 in let t = get_or opened l 0 in let r = if_else (eqb (get_or kinds j 0 % 16) (number_of variable-line)) last t in
    (j < length kinds) × (l < 1024) × (get_or owns j 0 + b + t ≤ 1024)
    × SummedFrom kinds levels owns ys j beneath₀ after₀ rest₀ (set beneath j b) (set after j t) (set rest j r) (set (set opened l (get_or owns j 0 + b + t)) (l + 1) 0) r
unfolding beneaths afters rests
sum_step kinds levels owns ys count m a j q k beneath₀ after₀ rest₀ beneath after rest opened last f =
    let y = get_or ys j (standing nothing 0 skip) in
    let zs = drop (suc j) ys in
    let d : drop j ys ≡ y ∷ zs = drop-cons ys j (standing nothing 0 skip) (omega (arith, q, k, m.counted)) in
    let n = m.line j y zs d in
    let g : (i : ℕ) → get_or opened i 0 ≡ open_rows zs i = λ i. f.opens i ∙ ap (λ (c : ℕ). open_rows (drop c ys) i) q in
    let l = get_or levels j 0 in
    let e1 = n.level in
    let e3 : l + 1 ≡ suc (level_of y) = omega (arith, e1) in
    let b : get_or opened (l + 1) 0 ≡ beneath_of y zs = ap (λ (c : ℕ). get_or opened c 0) e3 ∙ g (suc (level_of y)) in
    let t : get_or opened l 0 ≡ after_of y zs = ap (λ (c : ℕ). get_or opened c 0) e1 ∙ g (level_of y) in
    let sum = get_or owns j 0 + get_or opened (l + 1) 0 + get_or opened l 0 in
    let e2 : sum ≡ whole_of y zs = omega (arith, n.own, b, t) in
    let r : if_else (eqb (get_or kinds j 0 % 16) (number_of variable-line)) last (get_or opened l 0) ≡ rest_rows (y ∷ zs) =
    ap (λ (c : Bool). if_else c last (get_or opened l 0)) n.class
    ∙ ap₂ (λ (c z : ℕ). if_else (starts_of y) c z) (f.last-held ∙ ap (λ (c : ℕ). rest_rows (drop c ys)) q) t
    ∙ sym (rest-one y zs) in
    let sh = n.shallow in
    let wh = n.whole in (
      n.room,
      omega (arith, e1, sh),
      omega (arith, e2, wh),
      record {
        size = length-set (set opened l sum) (l + 1) 0 ∙ length-set opened l sum ∙ f.size;
        opens = λ i.
            ap (λ (c : ℕ). get_or (set (set opened l sum) c 0) i 0) e3
            ∙ ap₂ (λ (c w : ℕ). get_or (set (set opened c w) (suc (level_of y)) 0) i 0) e1 e2
            ∙ open-one y zs i n.deeper opened (omega (arith, sh, f.size)) (g i)
            ∙ ap (λ (w : List Standing). open_rows w i) (sym d);
        beneath-held = kept-one beneath₀ beneath (beneaths zs) j (get_or opened (l + 1) 0) (beneath_of y zs) (f.beneath-held ∙ ap (λ (c : ℕ). sets beneath₀ c (beneaths (drop c ys))) q) b
            ∙ ap (λ (w : List Standing). sets beneath₀ j (beneaths w)) (sym d);
        after-held = kept-one after₀ after (afters zs) j (get_or opened l 0) (after_of y zs) (f.after-held ∙ ap (λ (c : ℕ). sets after₀ c (afters (drop c ys))) q) t
            ∙ ap (λ (w : List Standing). sets after₀ j (afters w)) (sym d);
        rest-held = kept-one rest₀ rest (rests zs) j (if_else (eqb (get_or kinds j 0 % 16) (number_of variable-line)) last (get_or opened l 0)) (rest_rows (y ∷ zs)) (f.rest-held ∙ ap (λ (c : ℕ). sets rest₀ c (rests (drop c ys))) q) r
            ∙ ap (λ (w : List Standing). sets rest₀ j (rests w)) (sym d);
        last-held = r ∙ ap rest_rows (sym d);
      },
    )

zeros : (n i : ℕ) → get_or {A = ℕ} (replicate n 0) i 0 ≡ 0
zeros zero i = refl
zeros (suc n) zero = refl
zeros (suc n) (suc i) = zeros n i

-- before the first step, no line is summed
pub sum-none : (kinds levels owns : List ℕ) (ys : List Standing) (count : ℕ) → Measured kinds count levels owns ys → (beneath₀ after₀ rest₀ : List ℕ)
    → SummedFrom kinds levels owns ys count beneath₀ after₀ rest₀ beneath₀ after₀ rest₀ (replicate 1025 0) 0
unfolding open_rows beneaths afters rests rest_rows
sum-none kinds levels owns ys count m beneath₀ after₀ rest₀ =
    let d : drop count ys ≡ [] = drop_of_length-le ys {i = count} (omega (arith, m.counted)) in
    record {
      size = length-replicate {A = ℕ} 1025 0;
      opens = λ i. rw d (zeros 1025 i);
      beneath-held = rw d refl;
      after-held = rw d refl;
      rest-held = rw d refl;
      last-held = rw d refl;
    }

-- when no line is left, all are summed
pub sum-all : (kinds levels owns : List ℕ) (ys : List Standing) (at : ℕ) (beneath₀ after₀ rest₀ beneath after rest opened : List ℕ) (last : ℕ)
    → SummedFrom kinds levels owns ys at beneath₀ after₀ rest₀ beneath after rest opened last → at ≤ 0
    → (beneath ≡ by_line beneath₀ (beneaths ys)) × (after ≡ by_line after₀ (afters ys)) × (rest ≡ by_line rest₀ (rests ys))
sum-all kinds levels owns ys at beneath₀ after₀ rest₀ beneath after rest opened last f h =
    let z : at ≡ 0 = omega (arith, h) in (
      f.beneath-held ∙ ap (λ (c : ℕ). sets beneath₀ c (beneaths (drop c ys))) z,
      f.after-held ∙ ap (λ (c : ℕ). sets after₀ c (afters (drop c ys))) z,
      f.rest-held ∙ ap (λ (c : ℕ). sets rest₀ c (rests (drop c ys))) z,
    )
