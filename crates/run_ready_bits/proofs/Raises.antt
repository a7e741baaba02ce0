-- A row comes in or goes out: which rows are in then, that they are counted, and whose test they show.
use Rattle.std.proofs.Common.{◌≡◌, ℕ, zero, suc, ◌+◌, ◌-◌, ◌%◌, ◌^◌, ◌<◌, ◌≤◌, Bool, true, false, not, ◌&&◌, ◌||◌, eqb, List, [], ◌∷◌, ◌++◌, map, length, get_or, sym, refl, ap, ◌∙◌, subst, ap₂, append-nil, arith, pow_pos, eqb-true}
use mathlib.Core.Bool.{false≢true}
use borrow.Author.Tests.{eqb-false}
use Rattle.meaning.specs.Basics.{if_else, all_below}
use Rattle.meaning.proofs.LentLaws.{defaults-at}
use Rattle.base_sets.proofs.Words.{zero-on}
use Rattle.run_ready_bits.proofs.Splits.{SameBut}
use Rattle.run_ready_bits.proofs.Agreeing.{below_none, below_next, below-same}
use Rattle.run_ready_bits.specs.Bits.{on, word_of, has, turned, raised, lowered, no_rows, BitsCounted, Shown}
use Rattle.run_ready_bits.proofs.Joins.{below-sum, any-default}
use Rattle.run_ready_bits.proofs.Shows.{as-on, differs, differs_none, turned-has, turned-counted}

-- Rows in and counts ----------------------------------------------------------------------------------------------------------------

and-differs : (a b c : Bool) → c ≡ true → (b ≡ true → a ≡ c) → differs a b ≡ (a && not b)
and-differs true b c e h = refl
and-differs false true c e h = absurd (false≢true (h refl ∙ e))
and-differs false false c e h = refl

module _ (ws : List ℕ) (C : BitsCounted ws) (r : ℕ) (l : r < 1024) where
  pub raised-counted : BitsCounted (raised ws r)
  unfolding raised
  raised-counted = go (has ws r) refl
    where
      go : (b : Bool) → has ws r ≡ b → BitsCounted (if_else b ws (turned ws r 1))
      go true e = C
      go false e = turned-counted ws C r l 1 (λ _. refl) (λ t. absurd (false≢true (sym e ∙ t)))

  pub lowered-counted : BitsCounted (lowered ws r)
  unfolding lowered
  lowered-counted = go (has ws r) refl
    where
      go : (b : Bool) → has ws r ≡ b → BitsCounted (if_else b (turned ws r 18446744073709551615) ws)
      go true e = turned-counted ws C r l 18446744073709551615 (λ t. absurd (false≢true (sym t ∙ e))) (λ _. refl)
      go false e = C

  module _ (q : ℕ) (h : q < 1024) where
    at-r : eqb q r ≡ true → has ws q ≡ has ws r
    at-r e = ap (has ws) (eqb-true q r e)

    pub raised-has : has (raised ws r) q ≡ (eqb q r || has ws q)
    unfolding raised
    raised-has = go (has ws r) refl
      where
        kept : (b : Bool) → eqb q r ≡ b → has ws r ≡ true → has ws q ≡ (b || has ws q)
        kept true e t = at-r e ∙ t
        kept false e t = refl

        new : (b : Bool) → eqb q r ≡ b → has ws r ≡ false → differs (has ws q) b ≡ (b || has ws q)
        new true e t = ap (λ (a : Bool). differs a true) (at-r e ∙ t)
        new false e t = differs_none (has ws q)

        go : (b : Bool) → has ws r ≡ b → has (if_else b ws (turned ws r 1)) q ≡ (eqb q r || has ws q)
        go true e = kept (eqb q r) refl e
        go false e = turned-has ws C.size r l 1 q h ∙ new (eqb q r) refl e

    pub lowered-has : has (lowered ws r) q ≡ (has ws q && not (eqb q r))
    unfolding lowered
    lowered-has = go (has ws r) refl
      where
        kept : (a b : Bool) → (b ≡ true → a ≡ false) → a ≡ (a && not b)
        kept true true e = absurd (false≢true (sym (e refl)))
        kept true false e = refl
        kept false b e = refl

        go : (b : Bool) → has ws r ≡ b → has (if_else b (turned ws r 18446744073709551615) ws) q ≡ (has ws q && not (eqb q r))
        go true e = turned-has ws C.size r l 18446744073709551615 q h ∙ and-differs (has ws q) (eqb q r) (has ws r) e at-r
        go false e = kept (has ws q) (eqb q r) (λ t. at-r t ∙ e)

-- No row ----------------------------------------------------------------------------------------------------------------------------

none_below : (f : ℕ → Bool) (n : ℕ) → ((j : ℕ) → j < n → f j ≡ false) → all_below f n ≡ []
none_below f zero h = below_none f
none_below f (suc n) h =
    below_next f n ∙ ap₂ (λ (l : List ℕ) (t : Bool). l ++ if_else t (n ∷ []) []) (none_below f n (λ j m. h j (omega arith))) (h n (omega arith))

none-on : (i k : ℕ) → on (get_or no_rows i 0) k ≡ false
none-on i k = ap (λ (w : ℕ). on w k) (defaults-at 0 33 i) ∙ as-on 0 k ∙ zero-on k

none_has : (r : ℕ) → has no_rows r ≡ false
unfolding has
none_has r = none-on (word_of r) (r % 64)

pub none-counted : BitsCounted no_rows
none-counted = record {
  size = refl;
  words = λ i h. subst (λ (w : ℕ). w < 2 ^ 64) (sym (defaults-at 0 33 i)) (pow_pos 64);
  each = λ i h. defaults-at 0 33 (i + 16) ∙ sym (ap length (none_below (on (get_or no_rows i 0)) 64 (λ j m. none-on i j)));
  all = sym (ap length (none_below (has no_rows) 1024 (λ j m. none_has j)));
}

-- Rows of a test --------------------------------------------------------------------------------------------------------------------

pub none-shown : (f : ℕ → Bool) (n : ℕ) → n ≤ 1024 → ((r : ℕ) → r < n → f r ≡ false) → Shown f n no_rows
none-shown f n l h = record { counted = none-counted; fits = l; rows = λ r m. none_has r ∙ sym (h r m); none = λ r m k. none_has r }

module _ (f : ℕ → Bool) (n : ℕ) (ws : List ℕ) (S : Shown f n ws) where
  -- the rows that are in are those of the test
  pub shown-rows : all_below (has ws) 1024 ≡ all_below f n
  shown-rows =
      let m = 1024 - n in
      let h = S.fits in
      let e : 1024 ≡ n + m = omega (arith, h) in
      ap (all_below (has ws)) e
      ∙ below-sum (has ws) n m
      ∙ ap₂ (λ (x y : List ℕ). x ++ map (λ j. n + j) y) (below-same (has ws) f n S.rows) (none_below (λ j. has ws (n + j)) m (λ j k. S.none (n + j) (omega arith) (omega (arith, h))))
      ∙ append-nil (all_below f n)

  -- and their number is the total
  pub shown-total : get_or ws 32 0 ≡ length (all_below f n)
  shown-total = S.counted.all ∙ ap length shown-rows

  pub shown-picked : (k r : ℕ) → k < get_or ws 32 0 → r ≡ get_or (all_below (has ws) 1024) k 1024 → r ≡ get_or (all_below f n) k n
  shown-picked k r h e = e ∙ ap (λ (l : List ℕ). get_or l k 1024) shown-rows ∙ any-default (all_below f n) k 1024 n (omega (arith, shown-total, h))

-- another test, that differs at row r
module _ (f g : ℕ → Bool) (n r : ℕ) (l : r < n) (same : SameBut r n f g) (ws : List ℕ) (S : Shown f n ws) where
  below : r < 1024
  below = let h = S.fits in omega (arith, h)

  pub raise-shown : g r ≡ true → Shown g n (raised ws r)
  raise-shown e = record {
    counted = raised-counted ws S.counted r below;
    fits = S.fits;
    rows = λ j h. raised-has ws S.counted r below j (within j h) ∙ go j h (eqb j r) refl;
    none = λ j h k. raised-has ws S.counted r below j k ∙ past j h k (eqb j r) refl;
  }
    where
      within : (j : ℕ) → j < n → j < 1024
      within j h = let m = S.fits in omega (arith, m)

      go : (j : ℕ) → j < n → (b : Bool) → eqb j r ≡ b → (b || has ws j) ≡ g j
      go j h true t = sym (ap g (eqb-true j r t) ∙ e)
      go j h false t = S.rows j h ∙ sym (same j h (eqb-false j r t))

      past : (j : ℕ) → n ≤ j → j < 1024 → (b : Bool) → eqb j r ≡ b → (b || has ws j) ≡ false
      past j h k true t = let p = eqb-true j r t in absurd (omega arith)
      past j h k false t = S.none j h k

  pub lower-shown : g r ≡ false → Shown g n (lowered ws r)
  lower-shown e = record {
    counted = lowered-counted ws S.counted r below;
    fits = S.fits;
    rows = λ j h. lowered-has ws S.counted r below j (within j h) ∙ go j h (eqb j r) refl;
    none = λ j h k. lowered-has ws S.counted r below j k ∙ ap (λ (b : Bool). b && not (eqb j r)) (S.none j h k);
  }
    where
      within : (j : ℕ) → j < n → j < 1024
      within j h = let m = S.fits in omega (arith, m)

      out : (b : Bool) → (b && false) ≡ false
      out true = refl
      out false = refl

      stay : (b : Bool) → (b && true) ≡ b
      stay true = refl
      stay false = refl

      go : (j : ℕ) → j < n → (b : Bool) → eqb j r ≡ b → (has ws j && not b) ≡ g j
      go j h true t = out (has ws j) ∙ sym (ap g (eqb-true j r t) ∙ e)
      go j h false t = stay (has ws j) ∙ S.rows j h ∙ sym (same j h (eqb-false j r t))
