-- Words as bits: the bits of a power of two, of two words joined, and of those that two words have in common.
use mathlib.Core.Path.{◌≡◌, refl, sym, ap, ap₂, ◌∙◌, subst}
use mathlib.Core.Logic.{◌⊎◌, inl, inr}
use mathlib.Core.Bool.{Bool, true, false, not, ◌&&◌, ◌||◌, false≢true}
use Prim.Native.Nat.{ℕ, zero, suc, ◌+◌, ◌-◌, ◌*◌, ◌/◌, ◌%◌, ◌^◌, ◌<◌, min, max}
use native.Mathlib.Nat.{mod-eq_of_lt, one-mul, pow-succ', pow-suc, div_self, div-eq_of_lt, mul-div_cancel_left, div-div-eq-div-mul, mul-add-mod_self_right}
use native.Mathlib.Decide.{dec_lt}
use native.Mathlib.Omega.{arith}
use lib.Dec.{eqb}
use lib.Pow.{pow-lt, pow_pos, pow-add}
use lib.Arith.{bin_ind}
use lib.Bits.{bit_and, bit_or, and_step, or_step, and_shr, or_shr, or_mod, and_le_l}
use borrow.Author.Tests.{eq-eqb, ne_eqb}
use Rattle.meaning.proofs.Decides.{Decides, holding, failing}
use Rattle.base_sets.specs.Sets.{share}

-- a power below 64 is a word
pub power_below : (x : ℕ) → 2 ^ (x % 64) < 2 ^ 64
power_below x = pow-lt {i = x % 64} {j = 64} (omega arith)

pub power-fits : (x : ℕ) → (1 * 2 ^ (x % 64)) % 18446744073709551616 ≡ 2 ^ (x % 64)
power-fits x = rw one-mul (mod-eq_of_lt (power_below x))

-- is bit k of a word set
unfoldable pub on : ℕ → ℕ → Bool
on w k = eqb (w / 2 ^ k % 2) 1

-- a number that is 0 or 1
data Bit : ℕ → Type 0 where
  off-bit : Bit 0
  on_bit : Bit 1

bit-of : (n : ℕ) → n < 2 → Bit n
bit-of zero h = off-bit
bit-of (suc zero) h = on_bit
bit-of (suc (suc n)) h = absurd (omega arith)

lowest-bit : (n : ℕ) → Bit (n % 2)
lowest-bit n = bit-of (n % 2) (omega arith)

or-max : {m n : ℕ} → Bit m → Bit n → eqb (max m n % 2) 1 ≡ (eqb m 1 || eqb n 1)
or-max off-bit off-bit = refl
or-max off-bit on_bit = refl
or-max on_bit off-bit = refl
or-max on_bit on_bit = refl

and-min : {m n : ℕ} → Bit m → Bit n → eqb (min m n % 2) 1 ≡ (eqb m 1 && eqb n 1)
and-min off-bit off-bit = refl
and-min off-bit on_bit = refl
and-min on_bit off-bit = refl
and-min on_bit on_bit = refl

-- the bits of two words joined, and in common
pub or-on : (a b k : ℕ) → on (bit_or a b) k ≡ (on a k || on b k)
unfolding on
or-on a b k =
    let x = a / 2 ^ k in
    let y = b / 2 ^ k in
    ap (λ (n : ℕ). eqb (n % 2) 1) (or_shr a b k ∙ or_step x y)
    ∙ ap (λ (n : ℕ). eqb n 1) (mul-add-mod_self_right (bit_or (x / 2) (y / 2)) 2 (max (x % 2) (y % 2)))
    ∙ or-max (lowest-bit x) (lowest-bit y)

pub and-on : (a b k : ℕ) → on (bit_and a b) k ≡ (on a k && on b k)
unfolding on
and-on a b k =
    let x = a / 2 ^ k in
    let y = b / 2 ^ k in
    ap (λ (n : ℕ). eqb (n % 2) 1) (and_shr a b k ∙ and_step x y)
    ∙ ap (λ (n : ℕ). eqb n 1) (mul-add-mod_self_right (bit_and (x / 2) (y / 2)) 2 (min (x % 2) (y % 2)))
    ∙ and-min (lowest-bit x) (lowest-bit y)

or-bits : {i j k : ℕ} → Bit i → Bit j → Bit k → max (bit_or i j) k ≡ max i (bit_or j k)
or-bits off-bit off-bit off-bit = refl
or-bits off-bit off-bit on_bit = refl
or-bits off-bit on_bit off-bit = refl
or-bits off-bit on_bit on_bit = refl
or-bits on_bit off-bit off-bit = refl
or-bits on_bit off-bit on_bit = refl
or-bits on_bit on_bit off-bit = refl
or-bits on_bit on_bit on_bit = refl

-- three words joined
pub or-words : (a b c : ℕ) → bit_or (bit_or a b) c ≡ bit_or a (bit_or b c)
or-words a =
    bin_ind (λ (n : ℕ). (b c : ℕ) → bit_or (bit_or n b) c ≡ bit_or n (bit_or b c)) (λ b c. refl)
    (λ n f b c.
    or_step (bit_or n b) c
    ∙ ap₂ (λ (x y : ℕ). x * 2 + y)
    (ap (λ (x : ℕ). bit_or x (c / 2)) (or_shr n b 1) ∙ f (b / 2) (c / 2) ∙ ap (bit_or (n / 2)) (sym (or_shr b c 1)))
    (ap (λ (x : ℕ). max x (c % 2)) (or_mod n b 1) ∙ or-bits (lowest-bit n) (lowest-bit b) (lowest-bit c) ∙ ap (max (n % 2)) (sym (or_mod b c 1)))
    ∙ sym (or_step n (bit_or b c))) a

-- 0 has no bit
pub zero-on : (k : ℕ) → on 0 k ≡ false
unfolding on
zero-on k = ap (λ (n : ℕ). eqb (n % 2) 1) (div-eq_of_lt (pow_pos k))

-- a power has one
pub power-on : (j k : ℕ) → on (2 ^ j) k ≡ eqb k j
unfolding on
power-on j k = go (dec_lt j k) (dec_lt k j)
  where
    go : Dec (j < k) → Dec (k < j) → eqb (2 ^ j / 2 ^ k % 2) 1 ≡ eqb k j
    go (yes l) d = ap (λ (n : ℕ). eqb (n % 2) 1) (div-eq_of_lt (pow-lt l)) ∙ sym (ne_eqb k j (λ e. omega arith))
    go (no l) (yes m) =
        let i = j - suc k in
        let e : j ≡ k + suc i = omega arith in
        let f : 2 ^ j ≡ 2 ^ k * 2 ^ suc i = ap (λ (n : ℕ). 2 ^ n) e ∙ pow-add 2 k (suc i) in
        ap (λ (n : ℕ). eqb (n / 2 ^ k % 2) 1) f
        ∙ ap (λ (n : ℕ). eqb (n % 2) 1) (mul-div_cancel_left (2 ^ suc i) (pow_pos k) ∙ pow-suc 2 i)
        ∙ ap (λ (n : ℕ). eqb n 1) (let z : 2 ^ i * 2 % 2 ≡ 0 = omega arith in z)
        ∙ sym (ne_eqb k j (λ e. omega arith))
    go (no l) (no m) =
        let e : k ≡ j = omega arith in
        ap (λ (n : ℕ). eqb (2 ^ j / 2 ^ n % 2) 1) e ∙ ap (λ (n : ℕ). eqb (n % 2) 1) (div_self (pow_pos j)) ∙ sym (eq-eqb k j e)

-- bits of the half
half-on : (w k : ℕ) → on w (suc k) ≡ on (w / 2) k
unfolding on
half-on w k = ap (λ (n : ℕ). eqb (w / n % 2) 1) (pow-succ' 2 k) ∙ ap (λ (n : ℕ). eqb (n % 2) 1) (sym (div-div-eq-div-mul w 2 (2 ^ k)))

-- a word is 0, or has a bit
pub some-bit : (n w : ℕ) → w < 2 ^ n → (w ≡ 0) ⊎ ((k : ℕ) × (k < n) × (on w k ≡ true))
unfolding on
some-bit zero w h = inl (omega arith)
some-bit (suc n) w h = go (lowest-bit w) refl (some-bit n (w / 2) (let p = pow-suc 2 n in omega (arith, p, h)))
  where
    go : {m : ℕ} → Bit m → w % 2 ≡ m → (w / 2 ≡ 0) ⊎ ((k : ℕ) × (k < n) × (on (w / 2) k ≡ true)) → (w ≡ 0) ⊎ ((k : ℕ) × (k < suc n) × (on w k ≡ true))
    go b e (inr f) = inr (suc f.0, omega (arith, f.1), half-on w f.0 ∙ f.2)
    go off-bit e (inl f) = inl (omega arith)
    go on_bit e (inl f) =
        let z : w / 1 % 2 ≡ 1 = omega arith in
        inr (0, omega arith, ap (λ (m : ℕ). eqb m 1) z)

both_true : (s t : Bool) → (s && t) ≡ true → (s ≡ true) × (t ≡ true)
both_true true t e = (refl, e)
both_true false t e = absurd (false≢true e)

-- two words share a bit exactly if one is set in both
pub shares : (a b : ℕ) → a < 2 ^ 64 → Decides ((k : ℕ) × (k < 64) × (on a k ≡ true) × (on b k ≡ true)) (share a b)
shares a b h = go (some-bit 64 (bit_and a b) (let l = and_le_l a b in omega (arith, h, l)))
  where
    go : (bit_and a b ≡ 0) ⊎ ((k : ℕ) × (k < 64) × (on (bit_and a b) k ≡ true)) → Decides ((k : ℕ) × (k < 64) × (on a k ≡ true) × (on b k ≡ true)) (share a b)
    go (inl e) =
        subst (Decides _) (sym (ap not (eq-eqb (bit_and a b) 0 e)))
        (failing (λ w. false≢true (sym (zero-on w.0) ∙ sym (ap (λ (n : ℕ). on n w.0) e) ∙ and-on a b w.0 ∙ ap₂ (λ (s t : Bool). s && t) w.2 w.3)))
    go (inr f) =
        let c = both_true (on a f.0) (on b f.0) (sym (and-on a b f.0) ∙ f.2) in
        subst (Decides _) (sym (ap not (ne_eqb (bit_and a b) 0 (λ e. false≢true (sym (zero-on f.0) ∙ sym (ap (λ (n : ℕ). on n f.0) e) ∙ f.2)))))
        (holding (f.0, f.1, c.0, c.1))
