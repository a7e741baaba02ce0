-- The bits of a word, lowest first: the lowest, and those of the word without its lowest.
use Rattle.std.proofs.Common.{◌≡◌, ℕ, zero, suc, ◌+◌, ◌-◌, ◌*◌, ◌/◌, ◌%◌, ◌^◌, ◌<◌, ◌≤◌, min, Bool, eqb, List, [], ◌∷◌, ◌++◌, map, get_or, drop, sym, refl, ap, ◌∙◌, ap₂, arith, get_or-drop}
use native.Mathlib.Nat.{pow-succ', div-div-eq-div-mul}
use lib.ListN.{get_or-map}
use lib.Bits.{bit_and, and_step, and_self}
use lib.Count.{count_trailing_zeros, under}
use Rattle.meaning.specs.Basics.{if_else, all_below}
use Rattle.run_ready_bits.proofs.Agreeing.{below_none, below_next, below-same}
use Rattle.run_ready_bits.specs.Bits.{on, without_lowest}
use Rattle.run_ready_bits.proofs.Joins.{below-sum, drop-map}

-- a digit is 0 or 1
pub data Digit (w : ℕ) : Type 0 where
  even : w % 2 ≡ 0 → Digit w
  odd : w % 2 ≡ 1 → Digit w

pub digit : (w : ℕ) → Digit w
digit w = go (w % 2) refl
  where
    go : (d : ℕ) → w % 2 ≡ d → Digit w
    go zero e = even e
    go (suc zero) e = odd e
    go (suc (suc d)) e = absurd (omega arith)

pub half-on : (w k : ℕ) → on w (suc k) ≡ on (w / 2) k
unfolding on
half-on w k = ap (λ (n : ℕ). eqb (w / n % 2) 1) (pow-succ' 2 k) ∙ ap (λ (n : ℕ). eqb (n % 2) 1) (sym (div-div-eq-div-mul w 2 (2 ^ k)))

pub low-on : (w d : ℕ) → w % 2 ≡ d → on w 0 ≡ eqb d 1
unfolding on
low-on w d e = let z : w / 1 % 2 ≡ d = omega arith in ap (λ (n : ℕ). eqb n 1) z

-- the bits of a word from those of its half
from-half : (n w d : ℕ) → w % 2 ≡ d → all_below (on w) (suc n) ≡ if_else (eqb d 1) (0 ∷ []) [] ++ map (λ j. 1 + j) (all_below (on (w / 2)) n)
from-half n w d e =
    let m : suc n ≡ 1 + n = omega arith in
    ap (all_below (on w)) m
    ∙ below-sum (on w) 1 n
    ∙ ap₂ (λ (l m : List ℕ). l ++ map (λ j. 1 + j) m)
    (below_next (on w) 0 ∙ ap₂ (λ (l : List ℕ) (t : Bool). l ++ if_else t (0 ∷ []) []) (below_none (on w)) (low-on w d e))
    (below-same (λ j. on w (1 + j)) (on (w / 2)) n (λ j h. let i : 1 + j ≡ suc j = omega arith in ap (on w) i ∙ half-on w j))

-- the first is the lowest
pub lowest : (n w : ℕ) → get_or (all_below (on w) n) 0 n ≡ count_trailing_zeros n w
unfolding count_trailing_zeros
lowest zero w = ap (λ (l : List ℕ). get_or l 0 0) (below_none (on w))
lowest (suc n) w = go (digit w) (lowest n (w / 2))
  where
    go : Digit w → get_or (all_below (on (w / 2)) n) 0 n ≡ count_trailing_zeros n (w / 2) → get_or (all_below (on w) (suc n)) 0 (suc n) ≡ under (w % 2) (count_trailing_zeros n (w / 2))
    go (even e) f =
        let s : 1 + count_trailing_zeros n (w / 2) ≡ suc (count_trailing_zeros n (w / 2)) = omega arith in
        let m : suc n ≡ 1 + n = omega arith in
        ap₂ (λ (l : List ℕ) (d : ℕ). get_or l 0 d) (from-half n w 0 e) m ∙ get_or-map (λ j. 1 + j) (all_below (on (w / 2)) n) 0 n ∙ ap (λ (j : ℕ). 1 + j) f ∙ s
        ∙ ap (λ (d : ℕ). under d (count_trailing_zeros n (w / 2))) (sym e)
    go (odd e) f = ap (λ (l : List ℕ). get_or l 0 (suc n)) (from-half n w 1 e) ∙ ap (λ (d : ℕ). under d (count_trailing_zeros n (w / 2))) (sym e)

-- without the lowest
rest-odd : (w : ℕ) → w % 2 ≡ 1 → without_lowest w ≡ w / 2 * 2
rest-odd w e =
    let a : (w - 1) / 2 ≡ w / 2 = omega arith in
    let b : (w - 1) % 2 ≡ 0 = omega arith in
    and_step w (w - 1) ∙ ap₂ (λ (x y : ℕ). bit_and (w / 2) x * 2 + y) a (ap₂ min e b) ∙ ap (λ (x : ℕ). x * 2 + 0) (and_self (w / 2)) ∙ omega arith

min-none : (d : ℕ) → min 0 d ≡ 0
min-none d = omega arith

rest-even : (w : ℕ) → w % 2 ≡ 0 → without_lowest w ≡ without_lowest (w / 2) * 2
rest-even w e =
    let a : (w - 1) / 2 ≡ w / 2 - 1 = omega arith in
    and_step w (w - 1) ∙ ap₂ (λ (x y : ℕ). bit_and (w / 2) x * 2 + y) a (ap (λ (d : ℕ). min d ((w - 1) % 2)) e ∙ min-none ((w - 1) % 2)) ∙ omega arith

pub others : (n w : ℕ) → all_below (on (without_lowest w)) n ≡ drop 1 (all_below (on w) n)
others zero w = below_none (on (without_lowest w)) ∙ ap (drop 1) (sym (below_none (on w)))
others (suc n) w = go (digit w) (others n (w / 2))
  where
    halves : (v : ℕ) → without_lowest w ≡ v * 2 → all_below (on (without_lowest w)) (suc n) ≡ map (λ j. 1 + j) (all_below (on v) n)
    halves v e =
        let a : without_lowest w % 2 ≡ 0 = omega (arith, e) in
        let b : without_lowest w / 2 ≡ v = omega (arith, e) in
        from-half n (without_lowest w) 0 a ∙ ap (λ (x : ℕ). map (λ j. 1 + j) (all_below (on x) n)) b

    go : Digit w → all_below (on (without_lowest (w / 2))) n ≡ drop 1 (all_below (on (w / 2)) n) → all_below (on (without_lowest w)) (suc n) ≡ drop 1 (all_below (on w) (suc n))
    go (even e) f =
        halves (without_lowest (w / 2)) (rest-even w e) ∙ ap (map (λ j. 1 + j)) f ∙ sym (drop-map (λ j. 1 + j) (all_below (on (w / 2)) n))
        ∙ ap (drop 1) (sym (from-half n w 0 e))
    go (odd e) f = halves (w / 2) (rest-odd w e) ∙ ap (drop 1) (sym (from-half n w 1 e))

-- the place of a bit is that of the one before it in the word without the lowest; the place of the first is that of the lowest
pub next_place : (w v k : ℕ) → 0 < k → v ≡ without_lowest w → get_or (all_below (on w) 64) k 64 ≡ get_or (all_below (on v) 64) (k - 1) 64
next_place w v k h e =
    let s : k ≡ 1 + (k - 1) = omega arith in
    ap (λ (j : ℕ). get_or (all_below (on w) 64) j 64) s
    ∙ sym (get_or-drop 1 (all_below (on w) 64) (k - 1) 64)
    ∙ ap (λ (l : List ℕ). get_or l (k - 1) 64) (sym (ap (λ (x : ℕ). all_below (on x) 64) e ∙ others 64 w))

pub last-place : (w k : ℕ) → k ≤ 0 → get_or (all_below (on w) 64) k 64 ≡ count_trailing_zeros 64 w
last-place w k h = let z : k ≡ 0 = omega arith in ap (λ (j : ℕ). get_or (all_below (on w) 64) j 64) z ∙ lowest 64 w
