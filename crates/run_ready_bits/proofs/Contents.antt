-- The words that show the rows of a test are one list, so that what a row's coming or going makes of it is an equation.
use Rattle.std.proofs.Common.{◌≡◌, ℕ, zero, suc, ◌+◌, ◌-◌, ◌*◌, ◌/◌, ◌^◌, ◌<◌, ◌≤◌, Bool, true, false, ◌||◌, eqb, List, length, get_or, sym, refl, ap, ◌∙◌, pow-suc, arith, ext_get_or, eq-eqb, ne_eqb}
use mathlib.Core.Bool.{false≢true}
use native.Mathlib.Decide.{dec_lt}
use Rattle.meaning.specs.Basics.{if_else, all_below}
use Rattle.run_ready_bits.proofs.Splits.{SameBut}
use Rattle.run_ready_bits.proofs.Agreeing.{below-same}
use Rattle.run_ready_bits.specs.Bits.{on, has, raised, lowered, Shown, bits_of}
use Rattle.run_ready_bits.proofs.Places.{Digit, even, odd, digit, half-on, low-on}
use Rattle.run_ready_bits.proofs.Picks.{same}
use Rattle.run_ready_bits.proofs.Raises.{raised-counted, raised-has, none-shown, raise-shown, lower-shown}

-- One content -----------------------------------------------------------------------------------------------------------------------

-- a word is known by its bits
same_word : (n w v : ℕ) → w < 2 ^ n → v < 2 ^ n → ((k : ℕ) → k < n → on w k ≡ on v k) → w ≡ v
same_word zero w v h g e = omega arith
same_word (suc n) w v h g e =
    go (digit w) (digit v)
    (same_word n (w / 2) (v / 2) (let p = pow-suc 2 n in omega (arith, p, h)) (let p = pow-suc 2 n in omega (arith, p, g)) (λ k l. sym (half-on w k) ∙ e (suc k) (omega arith) ∙ half-on v k))
  where
    go : Digit w → Digit v → w / 2 ≡ v / 2 → w ≡ v
    go (even a) (even b) f = omega arith
    go (even a) (odd b) f = absurd (false≢true (sym (low-on w 0 a) ∙ e 0 (omega arith) ∙ low-on v 1 b))
    go (odd a) (even b) f = absurd (false≢true (sym (low-on v 0 b) ∙ sym (e 0 (omega arith)) ∙ low-on w 1 a))
    go (odd a) (odd b) f = omega arith

module _ (f : ℕ → Bool) (n : ℕ) (ws vs : List ℕ) (S : Shown f n ws) (T : Shown f n vs) where
  has_same : (q : ℕ) → q < 1024 → has ws q ≡ has vs q
  has_same q h = go (dec_lt q n)
    where
      go : Dec (q < n) → has ws q ≡ has vs q
      go (yes l) = S.rows q l ∙ sym (T.rows q l)
      go (no l) = S.none q (omega arith) h ∙ sym (T.none q (omega arith) h)

  words_same : (i : ℕ) → i < 16 → get_or ws i 0 ≡ get_or vs i 0
  words_same i h =
      same_word 64 (get_or ws i 0) (get_or vs i 0) (S.counted.words i h) (T.counted.words i h)
      (λ k l. sym (same ws 0 i h k l) ∙ has_same (64 * i + k) (omega arith) ∙ same vs 0 i h k l)

  pub one-content : ws ≡ vs
  one-content = ext_get_or 0 ws vs (S.counted.size ∙ sym T.counted.size) (λ i h. go i h (dec_lt i 16) (dec_lt i 32))
    where
      go : (i : ℕ) → i < length ws → Dec (i < 16) → Dec (i < 32) → get_or ws i 0 ≡ get_or vs i 0
      go i h (yes l) d = words_same i l
      go i h (no l) (yes m) =
          let j = i - 16 in
          let k : j < 16 = omega arith in
          let e : i ≡ j + 16 = omega arith in
          ap (λ (x : ℕ). get_or ws x 0) e
          ∙ S.counted.each j k
          ∙ ap (λ (w : ℕ). length (all_below (on w) 64)) (words_same j k)
          ∙ sym (ap (λ (x : ℕ). get_or vs x 0) e ∙ T.counted.each j k)
      go i h (no l) (no m) =
          let s = S.counted.size in
          let e : i ≡ 32 = omega (arith, h, s) in
          ap (λ (x : ℕ). get_or ws x 0) e
          ∙ S.counted.all
          ∙ ap length (below-same (has ws) (has vs) 1024 has_same)
          ∙ sym (ap (λ (x : ℕ). get_or vs x 0) e ∙ T.counted.all)

-- The content of a test -------------------------------------------------------------------------------------------------------------

module _ (f : ℕ → Bool) where
  next : (n : ℕ) (ws : List ℕ) → n < 1024 → Shown f n ws → (b : Bool) → f n ≡ b → Shown f (suc n) (if_else b (raised ws n) ws)
  next n ws l S true e = record {
    counted = raised-counted ws S.counted n l;
    fits = omega arith;
    rows = λ r h. raised-has ws S.counted n l r (omega arith) ∙ at r h (dec_lt r n);
    none = λ r h k. raised-has ws S.counted n l r k ∙ ap (λ (b : Bool). b || has ws r) (ne_eqb r n (λ q. omega (arith, q))) ∙ S.none r (omega arith) k;
  }
    where
      at : (r : ℕ) → r < suc n → Dec (r < n) → (eqb r n || has ws r) ≡ f r
      at r h (yes m) = ap (λ (b : Bool). b || has ws r) (ne_eqb r n (λ q. omega (arith, q))) ∙ S.rows r m
      at r h (no m) = let q : r ≡ n = omega arith in ap (λ (b : Bool). b || has ws r) (eq-eqb r n q) ∙ sym (ap f q ∙ e)
  next n ws l S false e = record {
    counted = S.counted;
    fits = omega arith;
    rows = λ r h. at r h (dec_lt r n);
    none = λ r h k. S.none r (omega arith) k;
  }
    where
      at : (r : ℕ) → r < suc n → Dec (r < n) → has ws r ≡ f r
      at r h (yes m) = S.rows r m
      at r h (no m) = let q : r ≡ n = omega arith in S.none r (omega arith) (omega arith) ∙ sym (ap f q ∙ e)

  pub bits-shown : (n : ℕ) → n ≤ 1024 → Shown f n (bits_of f n)
  unfolding bits_of
  bits-shown zero l = none-shown f 0 l (λ r h. absurd (omega arith))
  bits-shown (suc n) l = next n (bits_of f n) (omega arith) (bits-shown n (omega arith)) (f n) refl

  pub shown-bits : (n : ℕ) (ws : List ℕ) → Shown f n ws → ws ≡ bits_of f n
  shown-bits n ws S = one-content f n ws (bits_of f n) S (bits-shown n S.fits)

module _ (f g : ℕ → Bool) (n r : ℕ) (l : r < n) (fits : n ≤ 1024) (same : SameBut r n f g) where
  pub raise-bits : g r ≡ true → raised (bits_of f n) r ≡ bits_of g n
  raise-bits e = shown-bits g n (raised (bits_of f n) r) (raise-shown f g n r l same (bits_of f n) (bits-shown f n fits) e)

  pub lower-bits : g r ≡ false → lowered (bits_of f n) r ≡ bits_of g n
  lower-bits e = shown-bits g n (lowered (bits_of f n) r) (lower-shown f g n r l same (bits_of f n) (bits-shown f n fits) e)
