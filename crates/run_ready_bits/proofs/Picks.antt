-- The rows of the words, word by word: a row that is sought is in a word, or past its rows. So it is by the counts that are kept.
use Rattle.std.proofs.Common.{◌≡◌, ℕ, suc, ◌+◌, ◌-◌, ◌*◌, ◌/◌, ◌%◌, ◌<◌, ◌≤◌, Bool, List, ◌++◌, map, length, get_or, sym, ap, ◌∙◌, ap₂, arith, length-append, get_or-append-add, le-ltb, lt-ltb}
use native.Mathlib.Decide.{dec_lt}
use lib.ListN.{length-map, get_or-append, get_or-eq_default, get_or-map}
use Rattle.meaning.specs.Basics.{if_else, all_below}
use Rattle.run_ready_bits.proofs.Agreeing.{below_none, below-same}
use Rattle.run_ready_bits.proofs.Splits.{each_below}
use Rattle.run_ready_bits.specs.Bits.{on, has, picked_from}
use Rattle.run_ready_bits.proofs.Joins.{below-sum, any-default}

-- a place is 64 at most
pub place-fits : (w k : ℕ) → get_or (all_below (on w) 64) k 64 ≤ 64
place-fits w k = go (dec_lt k (length (all_below (on w) 64)))
  where
    go : Dec (k < length (all_below (on w) 64)) → get_or (all_below (on w) 64) k 64 ≤ 64
    go (yes h) = omega (arith, any-default (all_below (on w) 64) k 64 0 h, each_below (on w) 64 k h)
    go (no h) = omega (arith, get_or-eq_default (all_below (on w) 64) 64 {n = k} (omega arith))

module _ (ws : List ℕ) (k : ℕ) where
  pub no_rows : k ≡ length (all_below (has ws) (64 * 0)) + k
  no_rows = omega (arith, ap length (below_none (has ws)))

  module _ (i : ℕ) (l : i < 16) where
    abbrev word : ℕ
    word = get_or ws i 0

    abbrev bits : List ℕ
    bits = all_below (on word) 64

    pub same : (j : ℕ) → j < 64 → has ws (64 * i + j) ≡ on word j
    unfolding has
    same j h =
        let a : (64 * i + j) / 64 % 16 ≡ i = omega arith in
        let b : (64 * i + j) % 64 ≡ j = omega arith in
        ap₂ (λ (x y : ℕ). on (get_or ws x 0) y) a b

    one_word : all_below (has ws) (64 * i + 64) ≡ all_below (has ws) (64 * i) ++ map (λ j. 64 * i + j) bits
    one_word =
        below-sum (has ws) (64 * i) 64
        ∙ ap (λ (m : List ℕ). all_below (has ws) (64 * i) ++ map (λ j. 64 * i + j) m) (below-same (λ j. has ws (64 * i + j)) (on word) 64 same)

    module _ (left : ℕ) (at : k ≡ length (all_below (has ws) (64 * i)) + left) where
      size : length (all_below (has ws) (64 * i + 64)) ≡ length (all_below (has ws) (64 * i)) + length bits
      size =
          omega (arith, ap length one_word, length-append (all_below (has ws) (64 * i)) (map (λ j. 64 * i + j) bits), length-map bits (λ j. 64 * i + j))

      -- past the rows of a word
      pub later : (n : ℕ) → n ≡ length bits → n ≤ left → k ≡ length (all_below (has ws) (64 * (i + 1))) + (left - n)
      later n f h =
          let e : 64 * (i + 1) ≡ 64 * i + 64 = omega arith in
          omega (arith, ap (λ (n : ℕ). length (all_below (has ws) n)) e, size)

      -- in a word
      pub here : (n : ℕ) → n ≡ length bits → left < n → 64 * i + get_or bits left 64 ≡ get_or (all_below (has ws) 1024) k 1024
      here n f h =
          let m = 1024 - (64 * i + 64) in
          let e : 1024 ≡ 64 * i + 64 + m = omega arith in
          let more = map (λ j. 64 * i + 64 + j) (all_below (λ j. has ws (64 * i + 64 + j)) m) in
          let inside : left < length (map (λ j. 64 * i + j) bits) = omega (arith, length-map bits (λ j. 64 * i + j)) in
          sym
          (ap (λ (l : List ℕ). get_or l k 1024) (ap (all_below (has ws)) e ∙ below-sum (has ws) (64 * i + 64) m)
          ∙ get_or-append (all_below (has ws) (64 * i + 64)) more 1024 k (omega (arith, size))
          ∙ ap₂ (λ (l : List ℕ) (j : ℕ). get_or l j 1024) one_word at
          ∙ get_or-append-add (all_below (has ws) (64 * i)) (map (λ j. 64 * i + j) bits) left 1024
          ∙ any-default (map (λ j. 64 * i + j) bits) left 1024 (64 * i + 64) inside
          ∙ get_or-map (λ j. 64 * i + j) bits left 64)

  -- past all of them
  pub nowhere : (i left : ℕ) → 16 ≤ i → i ≤ 16 → k ≡ length (all_below (has ws) (64 * i)) + left → 1024 ≡ get_or (all_below (has ws) 1024) k 1024
  nowhere i left h g at =
      let e : 64 * i ≡ 1024 = omega arith in
      sym (get_or-eq_default (all_below (has ws) 1024) 1024 (omega (arith, ap (λ (n : ℕ). length (all_below (has ws) n)) e, at)))

-- by the counts that are kept
module _ (ws : List ℕ) (i left : ℕ) where
  module _ (l : i < 16) where
    more : 16 - i ≡ suc (16 - (i + 1))
    more = omega arith

    pub picked-here : left < get_or ws (i + 16) 0 → picked_from ws i (16 - i) left ≡ 64 * i + get_or (all_below (on (get_or ws i 0)) 64) left 64
    unfolding picked_from
    picked-here h = rw (more, lt-ltb left (get_or ws (i + 16) 0) h)

    pub picked-later : get_or ws (i + 16) 0 ≤ left → picked_from ws i (16 - i) left ≡ picked_from ws (i + 1) (16 - (i + 1)) (left - get_or ws (i + 16) 0)
    unfolding picked_from
    picked-later h = ap (λ (n : ℕ). picked_from ws i n left) more ∙ ap (λ (t : Bool). if_else t (64 * i + get_or (all_below (on (get_or ws i 0)) 64) left 64) (picked_from ws (i + 1) (16 - (i + 1)) (left - get_or ws (i + 16) 0))) (le-ltb left (get_or ws (i + 16) 0) h)

  pub picked-nowhere : 16 ≤ i → picked_from ws i (16 - i) left ≡ 1024
  unfolding picked_from
  picked-nowhere h = let none_left : 16 - i ≡ 0 = omega arith in ap (λ (n : ℕ). picked_from ws i n left) none_left
