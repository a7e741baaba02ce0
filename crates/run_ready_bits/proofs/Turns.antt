-- What the code does to the words is what their definitions say.
use Rattle.std.proofs.Common.{◌≡◌, ℕ, ◌+◌, ◌-◌, ◌*◌, ◌%◌, ◌^◌, Bool, true, false, List, get_or, set, sym, ap, ◌∙◌, ap₂, arith}
use Rattle.std.proofs.lemmas.List.{get_or-set_other}
use lib.Bits.{bit_xor}
use Rattle.meaning.specs.Basics.{if_else}
use Rattle.base_sets.proofs.Words.{power-fits}
use Rattle.run_ready_bits.specs.Bits.{word_of, has, plus, turned, raised, lowered}

module _ (ws : List ℕ) (r : ℕ) where
  turn_is : (d m n : ℕ) → m ≡ plus (get_or ws (word_of r + 16) 0) d → n ≡ plus (get_or ws 32 0) d
      → set (set (set ws (word_of r) (bit_xor (get_or ws (word_of r) 0) (1 * 2 ^ (r % 64) % 18446744073709551616))) (word_of r + 16) m) 32 n ≡ turned ws r d
  unfolding turned
  turn_is d m n e f =
      ap (λ (p : ℕ). set (set (set ws (word_of r) (bit_xor (get_or ws (word_of r) 0) p)) (word_of r + 16) m) 32 n) (power-fits r)
      ∙ ap₂ (λ (x y : ℕ). set (set (set ws (word_of r) (bit_xor (get_or ws (word_of r) 0) (2 ^ (r % 64)))) (word_of r + 16) x) 32 y) e f

  -- the counts are read after the writes before them, which are of other places
  count-kept : (x : ℕ) → get_or (set ws (word_of r) x) (word_of r + 16) 0 ≡ get_or ws (word_of r + 16) 0
  count-kept x = get_or-set_other ws (word_of r) (word_of r + 16) x 0 (λ e. omega arith)

  total-kept : (x y : ℕ) → get_or (set (set ws (word_of r) x) (word_of r + 16) y) 32 0 ≡ get_or ws 32 0
  total-kept x y = get_or-set_other (set ws (word_of r) x) (word_of r + 16) 32 y 0 (λ e. omega arith) ∙ get_or-set_other ws (word_of r) 32 x 0 (λ e. omega arith)

  pub turn-in-place : (d x m : ℕ) → x ≡ bit_xor (get_or ws (word_of r) 0) (1 * 2 ^ (r % 64) % 18446744073709551616) → m ≡ plus (get_or (set ws (word_of r) x) (word_of r + 16) 0) d
      → set (set (set ws (word_of r) x) (word_of r + 16) m) 32 (plus (get_or (set (set ws (word_of r) x) (word_of r + 16) m) 32 0) d) ≡ turned ws r d
  turn-in-place d x m e f =
      ap (λ (y : ℕ). set (set (set ws (word_of r) y) (word_of r + 16) m) 32 (plus (get_or (set (set ws (word_of r) x) (word_of r + 16) m) 32 0) d)) e
      ∙ turn_is d m _ (f ∙ ap (λ (y : ℕ). plus y d) (count-kept x)) (ap (λ (y : ℕ). plus y d) (total-kept x m))

  -- with what `has` said
  module _ (t : Bool) (h : t ≡ has ws r) where
    pub raise-in : t ≡ true → ws ≡ raised ws r
    unfolding raised
    raise-in e = ap (λ (b : Bool). if_else b ws (turned ws r 1)) (sym e ∙ h)

    pub raise-out : (l : List ℕ) → t ≡ false → l ≡ turned ws r 1 → l ≡ raised ws r
    unfolding raised
    raise-out l e m = m ∙ ap (λ (b : Bool). if_else b ws (turned ws r 1)) (sym e ∙ h)

    pub lower_in : (l : List ℕ) → t ≡ true → l ≡ turned ws r (2 ^ 64 - 1) → l ≡ lowered ws r
    unfolding lowered
    lower_in l e m = m ∙ ap (λ (b : Bool). if_else b (turned ws r (2 ^ 64 - 1)) ws) (sym e ∙ h)

    pub lower-out : t ≡ false → ws ≡ lowered ws r
    unfolding lowered
    lower-out e = ap (λ (b : Bool). if_else b (turned ws r (2 ^ 64 - 1)) ws) (sym e ∙ h)
