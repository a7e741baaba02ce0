-- The search for the first mark, token by token.
use mathlib.Core.Path.{◌≡◌, sym, ap, ap₂, ◌∙◌}
use mathlib.Core.Bool.{Bool}
use mathlib.Core.List.{List, []}
use Prim.Native.Nat.{ℕ, suc, ◌+◌, ◌-◌, ◌≤◌, ◌<◌}
use native.Mathlib.Omega.{arith}
use native.Mathlib.Numerals.{add-one}
use lib.ListN.{length, get_or, take, drop, drop_of_length-le, length-drop, get_or-eq_default}
use lib.Seq.{drop-cons, take_all, length-take-le}
use borrow.Author.Tests.{le-leb, lt-leb}
use Rattle.meaning.specs.Basics.{if_else}
use Rattle.read_tokens.specs.Sorts as sorts
use Rattle.read_classes.specs.Parts.{mark_at}
use Rattle.read_classes.specs.Rules.{at_mark}

module _ (ss : List ℕ) (at : ℕ) (searched : at + mark_at (drop at ss) ≡ mark_at ss) where
  -- none is left
  pub mark-none : length ss ≤ at → at ≡ mark_at ss
  unfolding mark_at
  mark-none h =
      let e : mark_at (drop at ss) ≡ 0 = ap mark_at (drop_of_length-le ss h) in
      omega (arith, e, searched)

  module _ (h : at < length ss) where
    -- it is next
    pub mark-here : sorts.skip ≤ get_or ss at 0 → at ≡ mark_at ss
    unfolding mark_at
    mark-here k =
        let e : mark_at (drop at ss) ≡ 0 = ap mark_at (drop-cons ss at 0 h) ∙ ap (λ (b : Bool). if_else b 0 (suc (mark_at (drop (suc at) ss)))) (le-leb sorts.skip (get_or ss at 0) k) in
        omega (arith, e, searched)

    -- it is not
    pub mark-later : get_or ss at 0 < sorts.skip → (at + 1) + mark_at (drop (at + 1) ss) ≡ mark_at ss
    unfolding mark_at
    mark-later k =
        let e : mark_at (drop at ss) ≡ suc (mark_at (drop (suc at) ss)) = ap mark_at (drop-cons ss at 0 h) ∙ ap (λ (b : Bool). if_else b 0 (suc (mark_at (drop (suc at) ss)))) (lt-leb sorts.skip (get_or ss at 0) k) in
        let f : mark_at (drop (at + 1) ss) ≡ mark_at (drop (suc at) ss) = ap (λ (n : ℕ). mark_at (drop n ss)) (add-one at) in
        omega (arith, e, f, searched)

-- What is said at the first mark --------------------------------------------------------------------------------------------------

-- the sorts before a place and after it, as slices of all
abbrev pub sorts_before : List ℕ → ℕ → List ℕ
sorts_before ss at = take at ss

abbrev pub sorts_after : List ℕ → ℕ → List ℕ
sorts_after ss at = take (length ss - (at + 1)) (drop (at + 1) ss)

-- they are no more than all
pub parts-short : (ss : List ℕ) (at : ℕ) → at < length ss → length ss ≤ 32768 → (length (sorts_before ss at) ≤ 32768) × (length (sorts_after ss at) ≤ 32768)
parts-short ss at h k =
    let d = length-drop (at + 1) ss in
    let e = length-take-le at ss (omega arith) in
    let f = length-take-le (length ss - (at + 1)) (drop (at + 1) ss) (omega (arith, d)) in
    (omega (arith, e), omega (arith, f))

module _ {A : Type 0} (f : ℕ → List ℕ → List ℕ → A) (ss : List ℕ) (at : ℕ) (is : at ≡ mark_at ss) where
  -- there is a mark
  pub marked : f (get_or ss at 0) (sorts_before ss at) (sorts_after ss at) ≡ at_mark f ss
  marked =
      let d : sorts_after ss at ≡ drop (suc at) ss = take_all (length ss - (at + 1)) (drop (at + 1) ss) (omega (arith, length-drop (at + 1) ss)) ∙ ap (λ (n : ℕ). drop n ss) (add-one at) in
      ap (λ (rs : List ℕ). f (get_or ss at 0) (take at ss) rs) d ∙ ap (λ (n : ℕ). f (get_or ss n 0) (take n ss) (drop (suc n) ss)) is

  -- there is none
  pub unmarked : length ss ≤ at → f sorts.no_token ss [] ≡ at_mark f ss
  unmarked h =
      let g : get_or ss at 0 ≡ 0 = get_or-eq_default ss 0 h in
      let more : length ss ≤ suc at = omega arith in
      let d : drop (suc at) ss ≡ [] = drop_of_length-le ss more in
      sym (ap₂ (λ (s : ℕ) (rs : List ℕ). f s (take at ss) rs) g d ∙ ap (λ (rs : List ℕ). f 0 rs []) (take_all at ss h))
      ∙ ap (λ (n : ℕ). f (get_or ss n 0) (take n ss) (drop (suc n) ss)) is
