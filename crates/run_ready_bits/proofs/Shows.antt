-- The words count their bits, and show the rows of a test, before and after a row comes in or goes out.
use Rattle.std.proofs.Common.{◌≡◌, ℕ, ◌+◌, ◌/◌, ◌%◌, ◌^◌, ◌<◌, ◌≤◌, Bool, true, false, not, eqb, List, length, get_or, set, sym, refl, ap, ◌∙◌, subst, ap₂, arith, length-set, get_or-set_other, get_or-set_same, eq-eqb, ne_eqb, eqb-true}
use native.Mathlib.Nat.{mul-add-mod_self_right}
use lib.Bits.{bit_xor, differ, xor_step, xor_shr, xor_lt}
use borrow.Author.Tests.{eqb-false}
use Rattle.meaning.specs.Basics.{all_below}
use Rattle.base_sets.proofs.Words.{power-on, power_below}
use Rattle.base_sets.proofs.Words as W
use Rattle.run_ready_bits.proofs.Splits.{SameBut, split, few-below, one_more}
use Rattle.run_ready_bits.proofs.Places.{Digit, even, odd, digit}
use Rattle.run_ready_bits.specs.Bits.{on, word_of, has, plus, turned, BitsCounted}

-- Bits ----------------------------------------------------------------------------------------------------------------------------

pub as-on : (w k : ℕ) → on w k ≡ W.on w k
unfolding on W.on
as-on w k = refl

abbrev pub differs : Bool → Bool → Bool
differs true b = not b
differs false b = b

pub differs_none : (b : Bool) → differs b false ≡ b
differs_none true = refl
differs_none false = refl

differs-one : (b : Bool) → differs b true ≡ not b
differs-one true = refl
differs-one false = refl

one-differs : {m n : ℕ} → Digit m → Digit n → eqb (differ (m % 2) (n % 2) % 2) 1 ≡ differs (eqb (m % 2) 1) (eqb (n % 2) 1)
one-differs (even a) (even b) = rw (a, b)
one-differs (even a) (odd b) = rw (a, b)
one-differs (odd a) (even b) = rw (a, b)
one-differs (odd a) (odd b) = rw (a, b)

-- the bits in which two words differ
xor-on : (a b k : ℕ) → on (bit_xor a b) k ≡ differs (on a k) (on b k)
unfolding on
xor-on a b k =
    let x = a / 2 ^ k in
    let y = b / 2 ^ k in
    ap (λ (n : ℕ). eqb (n % 2) 1) (xor_shr a b k ∙ xor_step x y)
    ∙ ap (λ (n : ℕ). eqb n 1) (mul-add-mod_self_right (bit_xor (x / 2) (y / 2)) 2 (differ (x % 2) (y % 2)))
    ∙ one-differs (digit x) (digit y)

-- one bit turned
turned_on : (w j k : ℕ) → on (bit_xor w (2 ^ j)) k ≡ differs (on w k) (eqb k j)
turned_on w j k = xor-on w (2 ^ j) k ∙ ap (differs (on w k)) (as-on (2 ^ j) k ∙ power-on j k)

-- Tests that differ at one number --------------------------------------------------------------------------------------------------

module _ (f g : ℕ → Bool) (r n : ℕ) (l : r < n) (turn : (j : ℕ) → j < n → g j ≡ differs (f j) (eqb j r)) where
  same-but : SameBut r n f g
  same-but j h e = turn j h ∙ ap (differs (f j)) (ne_eqb j r e) ∙ differs_none (f j)

  at-row : g r ≡ not (f r)
  at-row = turn r l ∙ ap (differs (f r)) (eq-eqb r r refl) ∙ differs-one (f r)

  -- one more where it did not hold
  more : f r ≡ false → length (all_below g n) ≡ length (all_below f n) + 1
  more e =
      let p = split f g r n e (at-row ∙ ap not e) l same-but in
      ap length p.with_row ∙ one_more (all_below f r) p.rest r ∙ ap (λ (m : ℕ). m + 1) (sym (ap length p.without))

  -- one less where it held
  fewer : f r ≡ true → length (all_below g n) + 1 ≡ length (all_below f n)
  fewer e =
      let p = split g f r n (at-row ∙ ap not e) e l (λ j h d. sym (same-but j h d)) in
      sym (ap length p.with_row ∙ one_more (all_below g r) p.rest r ∙ ap (λ (m : ℕ). m + 1) (sym (ap length p.without)))

  -- what is added to the number
  added : (d : ℕ) → (f r ≡ false → d ≡ 1) → (f r ≡ true → d ≡ 18446744073709551615) → n ≤ 1024 → plus (length (all_below f n)) d ≡ length (all_below g n)
  added d p q s = go (f r) refl
    where
      go : (b : Bool) → f r ≡ b → plus (length (all_below f n)) d ≡ length (all_below g n)
      go true e = omega (arith, fewer e, q e, few-below f n)
      go false e = omega (arith, more e, p e, few-below f n)

-- One row turned ------------------------------------------------------------------------------------------------------------------

module _ (ws : List ℕ) (size : length ws ≡ 33) (r : ℕ) (l : r < 1024) (d : ℕ) where
  abbrev word : ℕ
  word = bit_xor (get_or ws (word_of r) 0) (2 ^ (r % 64))

  abbrev some : ℕ
  some = plus (get_or ws (word_of r + 16) 0) d

  abbrev one : List ℕ
  one = set ws (word_of r) word

  abbrev two : List ℕ
  two = set one (word_of r + 16) some

  two_size : length two ≡ 33
  two_size = length-set one (word_of r + 16) some ∙ length-set ws (word_of r) word ∙ size

  turned-size : length (turned ws r d) ≡ 33
  unfolding turned
  turned-size = length-set two 32 (plus (get_or ws 32 0) d) ∙ two_size

  turned-all : get_or (turned ws r d) 32 0 ≡ plus (get_or ws 32 0) d
  unfolding turned
  turned-all = get_or-set_same two 32 (plus (get_or ws 32 0) d) 0 (omega (arith, two_size))

  -- the words
  turned-word : (i : ℕ) → i < 16 → get_or (turned ws r d) i 0 ≡ get_or one i 0
  unfolding turned
  turned-word i h =
      get_or-set_other two 32 i (plus (get_or ws 32 0) d) 0 (λ e. omega (arith, e)) ∙ get_or-set_other one (word_of r + 16) i some 0 (λ e. omega (arith, e))

  word-here : get_or (turned ws r d) (word_of r) 0 ≡ word
  word-here = turned-word (word_of r) (omega arith) ∙ get_or-set_same ws (word_of r) word 0 (omega (arith, size))

  word-there : (i : ℕ) → i < 16 → (i ≡ word_of r → ⊥) → get_or (turned ws r d) i 0 ≡ get_or ws i 0
  word-there i h e = turned-word i h ∙ get_or-set_other ws (word_of r) i word 0 e

  -- the counts
  turned-count : (i : ℕ) → i < 16 → get_or (turned ws r d) (i + 16) 0 ≡ get_or two (i + 16) 0
  unfolding turned
  turned-count i h = get_or-set_other two 32 (i + 16) (plus (get_or ws 32 0) d) 0 (λ e. omega (arith, e))

  count-here : get_or (turned ws r d) (word_of r + 16) 0 ≡ some
  count-here =
      turned-count (word_of r) (omega arith) ∙ get_or-set_same one (word_of r + 16) some 0 (omega (arith, length-set ws (word_of r) word, size))

  count-there : (i : ℕ) → i < 16 → (i ≡ word_of r → ⊥) → get_or (turned ws r d) (i + 16) 0 ≡ get_or ws (i + 16) 0
  count-there i h e =
      turned-count i h ∙ get_or-set_other one (word_of r + 16) (i + 16) some 0 (λ q. e (omega (arith, q))) ∙ get_or-set_other ws (word_of r) (i + 16) word 0 (λ q. omega (arith, q))

  -- row q is in where it was, but for row r
  pub turned-has : (q : ℕ) → q < 1024 → has (turned ws r d) q ≡ differs (has ws q) (eqb q r)
  unfolding has
  turned-has q h = go (eqb (word_of q) (word_of r)) refl
    where
      tests : word_of q ≡ word_of r → (b : Bool) → eqb q r ≡ b → eqb (q % 64) (r % 64) ≡ b
      tests e true t = let p = eqb-true q r t in eq-eqb (q % 64) (r % 64) (omega arith)
      tests e false t = let p = eqb-false q r t in ne_eqb (q % 64) (r % 64) (λ m. p (omega arith))

      go : (b : Bool) → eqb (word_of q) (word_of r) ≡ b → on (get_or (turned ws r d) (word_of q) 0) (q % 64) ≡ differs (on (get_or ws (word_of q) 0) (q % 64)) (eqb q r)
      go true t =
          let e = eqb-true (word_of q) (word_of r) t in
          ap (λ (w : ℕ). on w (q % 64)) (ap (λ (i : ℕ). get_or (turned ws r d) i 0) e ∙ word-here)
          ∙ turned_on (get_or ws (word_of r) 0) (r % 64) (q % 64)
          ∙ ap₂ differs (ap (λ (i : ℕ). on (get_or ws i 0) (q % 64)) (sym e)) (tests e (eqb q r) refl)
      go false t =
          let e = eqb-false (word_of q) (word_of r) t in
          ap (λ (w : ℕ). on w (q % 64)) (word-there (word_of q) (omega arith) e)
          ∙ sym (differs_none (on (get_or ws (word_of q) 0) (q % 64)))
          ∙ ap (differs (on (get_or ws (word_of q) 0) (q % 64))) (sym (ne_eqb q r (λ p. e (ap word_of p))))

-- the counts stay right where d is right
module _ (ws : List ℕ) (C : BitsCounted ws) (r : ℕ) (l : r < 1024) (d : ℕ) (in-more : has ws r ≡ false → d ≡ 1) (out-less : has ws r ≡ true → d ≡ 18446744073709551615) where
  abbrev old : ℕ
  old = get_or ws (word_of r) 0

  each-here : get_or (turned ws r d) (word_of r + 16) 0 ≡ length (all_below (on (get_or (turned ws r d) (word_of r) 0)) 64)
  unfolding has
  each-here =
      count-here ws C.size r l d
      ∙ ap (λ (n : ℕ). plus n d) (C.each (word_of r) (omega arith))
      ∙ added (on old) (on (bit_xor old (2 ^ (r % 64)))) (r % 64) 64 (omega arith) (λ j h. turned_on old (r % 64) j) d in-more out-less (omega arith)
      ∙ ap (λ (w : ℕ). length (all_below (on w) 64)) (sym (word-here ws C.size r l d))

  pub turned-counted : BitsCounted (turned ws r d)
  turned-counted = record {
    size = turned-size ws C.size r l d;
    words = λ i h. fits i h (eqb i (word_of r)) refl;
    each = λ i h. go i h (eqb i (word_of r)) refl;
    all = turned-all ws C.size r l d ∙ ap (λ (n : ℕ). plus n d) C.all
        ∙ added (has ws) (has (turned ws r d)) r 1024 l (turned-has ws C.size r l d) d in-more out-less (omega arith);
  }
    where
      fits : (i : ℕ) → i < 16 → (b : Bool) → eqb i (word_of r) ≡ b → get_or (turned ws r d) i 0 < 2 ^ 64
      fits i h true t =
          let e = eqb-true i (word_of r) t in
          let here = ap (λ (j : ℕ). get_or (turned ws r d) j 0) e ∙ word-here ws C.size r l d in
          subst (λ (w : ℕ). w < 2 ^ 64) (sym here) (xor_lt 64 old (2 ^ (r % 64)) (C.words (word_of r) (omega arith)) (power_below r))
      fits i h false t = subst (λ (w : ℕ). w < 2 ^ 64) (sym (word-there ws C.size r l d i h (eqb-false i (word_of r) t))) (C.words i h)

      go : (i : ℕ) → i < 16 → (b : Bool) → eqb i (word_of r) ≡ b → get_or (turned ws r d) (i + 16) 0 ≡ length (all_below (on (get_or (turned ws r d) i 0)) 64)
      go i h true t = subst (λ (j : ℕ). get_or (turned ws r d) (j + 16) 0 ≡ length (all_below (on (get_or (turned ws r d) j 0)) 64)) (sym (eqb-true i (word_of r) t)) each-here
      go i h false t =
          let e = eqb-false i (word_of r) t in
          count-there ws C.size r l d i h e ∙ C.each i h ∙ ap (λ (w : ℕ). length (all_below (on w) 64)) (sym (word-there ws C.size r l d i h e))
