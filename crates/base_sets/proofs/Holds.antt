-- What bit sets hold: after a list is put in, its numbers; of two sets joined, those of both.
use mathlib.Core.Path.{◌≡◌, refl, sym, ap, ap₂, ◌∙◌}
use mathlib.Core.Bool.{Bool, true, false, ◌||◌}
use mathlib.Core.List.{List, [], ◌∷◌}
use Prim.Native.Nat.{ℕ, zero, suc, ◌+◌, ◌*◌, ◌/◌, ◌%◌, ◌^◌, ◌<◌}
use native.Mathlib.Omega.{arith}
use lib.ListN.{length, get_or, set, replicate, length-set}
use lib.Seq.{get_or-set_same, get_or-set_other}
use lib.Dec.{ltb, eqb}
use lib.Pow.{pow_pos}
use lib.Bits.{bit_or, or_lt, or_zero_l}
use borrow.Author.Tests.{ltb-true, ltb-false, eq-eqb, ne_eqb, eqb-true, eqb-false}
use Rattle.meaning.specs.Basics.{if_else, any_passes, among}
use Rattle.meaning.proofs.LentLaws.{defaults-at}
use Rattle.base_sets.specs.Sets.{with_one, with_all, set_union, no_numbers}
use Rattle.base_sets.proofs.Bools.{or_assoc, or_comm, or-front}
use Rattle.base_sets.proofs.Words.{on, or-on, power-on, zero-on, power_below}

-- is number x of a sort in the sets
abbrev pub holds : List ℕ → ℕ → ℕ → Bool
holds ws sort x = on (get_or ws (4 * sort + x / 64) 0) (x % 64)

-- One number put in ---------------------------------------------------------------------------------------------------------------

module _ (ws : List ℕ) (s x t y : ℕ) (l : length ws ≡ 16) (hs : s < 4) (ht : t < 4) (hy : y < 256) where
  abbrev here : ℕ
  here = 4 * s + x / 64

  abbrev word : ℕ
  word = bit_or (get_or ws here 0) (2 ^ (x % 64))

  same_word : x < 256 → 4 * t + y / 64 ≡ here → on (get_or (set ws here word) (4 * t + y / 64) 0) (y % 64) ≡ (eqb (4 * y + t) (4 * x + s) || holds ws t y)
  same_word h e =
      ap (λ (j : ℕ). on (get_or (set ws here word) j 0) (y % 64)) e
      ∙ ap (λ (w : ℕ). on w (y % 64)) (get_or-set_same ws here word 0 (omega arith))
      ∙ or-on (get_or ws here 0) (2 ^ (x % 64)) (y % 64)
      ∙ or_comm (on (get_or ws here 0) (y % 64)) (on (2 ^ (x % 64)) (y % 64))
      ∙ ap₂ (λ (a b : Bool). a || b) (power-on (x % 64) (y % 64) ∙ tests (eqb (4 * y + t) (4 * x + s)) refl) (ap (λ (j : ℕ). on (get_or ws j 0) (y % 64)) (sym e))
    where
      tests : (b : Bool) → eqb (4 * y + t) (4 * x + s) ≡ b → eqb (y % 64) (x % 64) ≡ b
      tests true q = let p = eqb-true (4 * y + t) (4 * x + s) q in eq-eqb (y % 64) (x % 64) (omega arith)
      tests false q = let n = eqb-false (4 * y + t) (4 * x + s) q in ne_eqb (y % 64) (x % 64) (λ p. n (omega arith))

  pub one_holds : holds (with_one ws s x) t y ≡ (eqb (4 * y + t) (4 * x + s) || holds ws t y)
  unfolding with_one
  one_holds = go (ltb x 256) refl
    where
      word_of : x < 256 → (b : Bool) → eqb (4 * t + y / 64) here ≡ b → on (get_or (set ws here word) (4 * t + y / 64) 0) (y % 64) ≡ (eqb (4 * y + t) (4 * x + s) || holds ws t y)
      word_of h true e = same_word h (eqb-true (4 * t + y / 64) here e)
      word_of h false e =
          let n = eqb-false (4 * t + y / 64) here e in
          ap (λ (w : ℕ). on w (y % 64)) (get_or-set_other ws here (4 * t + y / 64) word 0 n)
          ∙ ap (λ (b : Bool). b || holds ws t y) (sym (ne_eqb (4 * y + t) (4 * x + s) (λ p. n (omega arith))))

      go : (b : Bool) → ltb x 256 ≡ b → holds (if_else b (set ws here word) ws) t y ≡ (eqb (4 * y + t) (4 * x + s) || holds ws t y)
      go true e = word_of (ltb-true x 256 e) (eqb (4 * t + y / 64) here) refl
      go false e = let h = ltb-false x 256 e in ap (λ (b : Bool). b || holds ws t y) (sym (ne_eqb (4 * y + t) (4 * x + s) (λ p. omega arith)))

pub one-length : (ws : List ℕ) (s x : ℕ) → length (with_one ws s x) ≡ length ws
unfolding with_one
one-length ws s x = go (ltb x 256)
  where
    go : (b : Bool) → length (if_else b (set ws (4 * s + x / 64) (bit_or (get_or ws (4 * s + x / 64) 0) (2 ^ (x % 64)))) ws) ≡ length ws
    go true = length-set ws (4 * s + x / 64) _
    go false = refl

-- A list put in -------------------------------------------------------------------------------------------------------------------

pub all-length : (ws l : List ℕ) → length (with_all ws l) ≡ length ws
unfolding with_all
all-length ws [] = refl
all-length ws (n ∷ l) = all-length (with_one ws (n % 4) (n / 4)) l ∙ one-length ws (n % 4) (n / 4)

pub all-holds : (ws l : List ℕ) (t y : ℕ) → length ws ≡ 16 → t < 4 → y < 256 → holds (with_all ws l) t y ≡ (among (4 * y + t) l || holds ws t y)
unfolding with_all any_passes
all-holds ws [] t y h ht hy = refl
all-holds ws (n ∷ l) t y h ht hy =
    let e : 4 * (n / 4) + n % 4 ≡ n = omega arith in
    all-holds (with_one ws (n % 4) (n / 4)) l t y (one-length ws (n % 4) (n / 4) ∙ h) ht hy
    ∙ ap (λ (b : Bool). among (4 * y + t) l || b) (one_holds ws (n % 4) (n / 4) t y h (omega arith) ht hy)
    ∙ ap (λ (k : ℕ). among (4 * y + t) l || (eqb (4 * y + t) k || holds ws t y)) e
    ∙ or-front (among (4 * y + t) l) (eqb (4 * y + t) n) (holds ws t y)
    ∙ sym (or_assoc (eqb (4 * y + t) n) (among (4 * y + t) l) (holds ws t y))

pub none-holds : (t y : ℕ) → holds no_numbers t y ≡ false
none-holds t y = ap (λ (w : ℕ). on w (y % 64)) (defaults-at 0 16 (4 * t + y / 64)) ∙ zero-on (y % 64)

-- Two joined ----------------------------------------------------------------------------------------------------------------------

pub joined_at : (vs ws : List ℕ) → length vs ≡ length ws → (j : ℕ) → get_or (set_union vs ws) j 0 ≡ bit_or (get_or vs j 0) (get_or ws j 0)
unfolding set_union
joined_at [] [] e j = sym (or_zero_l 0)
joined_at [] (w ∷ ws) e j = absurd (omega arith)
joined_at (v ∷ vs) [] e j = absurd (omega arith)
joined_at (v ∷ vs) (w ∷ ws) e zero = refl
joined_at (v ∷ vs) (w ∷ ws) e (suc j) = joined_at vs ws (omega arith) j

-- Words fit -----------------------------------------------------------------------------------------------------------------------

abbrev pub AllFit : List ℕ → Type 0
AllFit [] = Unit {0}
AllFit (w ∷ ws) = (w < 2 ^ 64) × AllFit ws

pub fit_at : (ws : List ℕ) → AllFit ws → (j : ℕ) → get_or ws j 0 < 2 ^ 64
fit_at [] f j = pow_pos 64
fit_at (w ∷ ws) f zero = f.0
fit_at (w ∷ ws) f (suc j) = fit_at ws f.1 j

fit-set : (ws : List ℕ) (j w : ℕ) → AllFit ws → w < 2 ^ 64 → AllFit (set ws j w)
fit-set [] j w f h = tt
fit-set (v ∷ ws) zero w f h = (h, f.1)
fit-set (v ∷ ws) (suc j) w f h = (f.0, fit-set ws j w f.1 h)

fit-one : (ws : List ℕ) (s x : ℕ) → AllFit ws → AllFit (with_one ws s x)
unfolding with_one
fit-one ws s x f = go (ltb x 256)
  where
    go : (b : Bool) → AllFit (if_else b (set ws (4 * s + x / 64) (bit_or (get_or ws (4 * s + x / 64) 0) (2 ^ (x % 64)))) ws)
    go true = fit-set ws (4 * s + x / 64) _ f (or_lt 64 (get_or ws (4 * s + x / 64) 0) (2 ^ (x % 64)) (fit_at ws f (4 * s + x / 64)) (power_below x))
    go false = f

pub fit_all : (ws l : List ℕ) → AllFit ws → AllFit (with_all ws l)
unfolding with_all
fit_all ws [] f = f
fit_all ws (n ∷ l) f = fit_all (with_one ws (n % 4) (n / 4)) l (fit-one ws (n % 4) (n / 4) f)

pub fit_none : AllFit no_numbers
fit_none = zeros 16
  where
    zeros : (n : ℕ) → AllFit (replicate n 0)
    zeros zero = tt
    zeros (suc n) = (pow_pos 64, zeros n)
