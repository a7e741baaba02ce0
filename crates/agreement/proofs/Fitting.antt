-- Results that fit in 32 signed bits, quotients and remainders, and numbers that wrap.
use mathlib.Core.Path.{◌≡◌, refl, sym, ap, subst, ◌∙◌}
use mathlib.Core.Logic.{◌≢◌}
use mathlib.Core.Bool.{Bool, true, false, not, false≢true}
use Prim.Native.Nat.{ℕ, zero, suc, ◌-◌, ◌*◌, ◌/◌, ◌%◌, ◌<◌, ◌≤◌}
use native.Mathlib.Omega.{arith}
use native.Mathlib.Nat.{mod-lt, div-add-mod', zero-mul, zero-mod}
use lib.IntN.{ℤ, pos, negsuc, neg_ℤ, pred_ℤ, suc_ℤ, nat_abs, ◌+ℤ◌, ◌-ℤ◌, ◌*ℤ◌, neg_ℤ-+ℤ, +ℤ_assoc, +ℤ_comm, pred_ℤ-*ℤ, suc_ℤ-*ℤ, +ℤ-neg_ℤ_cancel, -ℤ-+ℤ_cancel}
use lib.Signed.{mag, lt_z, quot_z, rem_z, ◌≤ℤ◌, ◌<ℤ◌, le_z_yes, lt_z_yes, lt_z_no, clash_ℤ}
use lib.Dec.{T, ltb, le→leb, leb→le}
use borrow.Author.Tests.{lt-ltb, le-ltb, ltb-true}
use Rattle.meaning.specs.declared.Value.TheVariants.{Number, Missing}
use Rattle.meaning.specs.Basics.{if_else, eq_z}
use Rattle.meaning.specs.Values.{fitted, wrapped, quotient, remainder, operators, operate}
use Rattle.agreement.specs.ValueClaims.{Fits, Exactly, Wraps, Division}
use Rattle.agreement.proofs.Decided.{Decides, equal-decides}

-- ---- what fits

-- z below y, and z not below y
below : {z y : ℤ} → lt_z z y ≡ true → z <ℤ y
below e = lt_z_yes (subst T (sym e) tt)

not-below : {z y : ℤ} → lt_z z y ≡ false → y ≤ℤ z
not-below e = lt_z_no (subst (λ (t : Bool). T (not t)) (sym e) tt)

pub exact : (z : ℤ) → Exactly (fitted z) z
unfolding fitted
exact z = go (lt_z z (negsuc 2147483647)) refl (lt_z (pos 2147483647) z) refl
  where
    go : (t : Bool) → lt_z z (negsuc 2147483647) ≡ t → (u : Bool) → lt_z (pos 2147483647) z ≡ u
        → Exactly (if_else t (Missing 3) (if_else u (Missing 3) (Number z))) z
    go true e u d = (λ f. clash_ℤ (below e) f.0, λ n. refl)
    go false e true d = (λ f. clash_ℤ (below d) f.1, λ n. refl)
    go false e false d = (λ f. refl, λ n. absurd (n (not-below e, not-below d)))

-- ---- division

neg-times-negative : (q b : ℕ) → neg_ℤ (pos q) *ℤ negsuc b ≡ pos (q * suc b)
neg-times-negative zero b = rw (zero-mul (suc b))
neg-times-negative (suc q) b = refl

neg-times : (q b : ℕ) → neg_ℤ (pos q) *ℤ pos b ≡ neg_ℤ (pos (q * b))
neg-times zero b = rw (zero-mul b)
neg-times (suc q) b = refl

-- minus a number made up of a quotient times b and a remainder
negative-made-up : (n b : ℕ) → neg_ℤ (pos n) ≡ neg_ℤ (pos (n / b * b)) +ℤ neg_ℤ (pos (n % b))
negative-made-up n b = ap (λ (k : ℕ). neg_ℤ (pos k)) (sym (div-add-mod' n b)) ∙ neg_ℤ-+ℤ (pos (n / b * b)) (pos (n % b))

makes-up : (x y : ℤ) → x ≡ quot_z x y *ℤ y +ℤ rem_z x y
makes-up (pos a) (pos b) = ap pos (sym (div-add-mod' a b))
makes-up (pos a) (negsuc b) = rw (neg-times-negative (a / suc b) b) (ap pos (sym (div-add-mod' a (suc b))))
makes-up (negsuc a) (pos b) = rw (neg-times (suc a / b) b) (negative-made-up (suc a) b)
makes-up (negsuc a) (negsuc b) = negative-made-up (suc a) (suc b)

size-of-negated : (n : ℕ) → nat_abs (neg_ℤ (pos n)) ≡ n
size-of-negated zero = refl
size-of-negated (suc n) = refl

divisor-size : (y : ℤ) → y ≢ pos 0 → 0 < nat_abs y
divisor-size (pos zero) n = absurd (n refl)
divisor-size (pos (suc b)) n = omega arith
divisor-size (negsuc b) n = omega arith

smaller : (x y : ℤ) → y ≢ pos 0 → nat_abs (rem_z x y) < nat_abs y
smaller (pos a) y n = mod-lt a (divisor-size y n)
smaller (negsuc a) y n = rw (size-of-negated (suc a % nat_abs y)) (mod-lt (suc a) (divisor-size y n))

zero_at_most : (n : ℕ) → pos 0 ≤ℤ pos n
zero_at_most n = le_z_yes (le→leb 0 n (omega arith))

negated-at-most : (n : ℕ) → neg_ℤ (pos n) ≤ℤ pos 0
negated-at-most zero = le_z_yes tt
negated-at-most (suc n) = le_z_yes tt

remainder-not-below : (x y : ℤ) → pos 0 ≤ℤ x → pos 0 ≤ℤ rem_z x y
remainder-not-below (pos a) y h = zero_at_most (a % nat_abs y)
remainder-not-below (negsuc a) y h = absurd h.le

remainder-not-above : (x y : ℤ) → x ≤ℤ pos 0 → rem_z x y ≤ℤ pos 0
remainder-not-above (pos zero) y h = rw (zero-mod (nat_abs y)) h
remainder-not-above (pos (suc a)) y h = absurd (let k : suc a ≤ 0 = leb→le (suc a) 0 h.le in omega arith)
remainder-not-above (negsuc a) y h = negated-at-most (suc a % nat_abs y)

pub division : (x y : ℤ) → y ≢ pos 0 → Division (operate 3 x y) (operate 4 x y) x y
unfolding operate operators quotient remainder
division x y n =
    record {
      quotient = quot_z x y;
      remainder = rem_z x y;
      divides = record { makes-up = makes-up x y; smaller = smaller x y n; not-below = remainder-not-below x y; not-above = remainder-not-above x y };
      gives-quotient = rw (not-zero y n) (exact (quot_z x y));
      gives-remainder = rw (not-zero y n) (exact (rem_z x y));
    }
  where
    not-zero : (y : ℤ) → y ≢ pos 0 → eq_z y (pos 0) ≡ false
    not-zero y n = go (eq_z y (pos 0)) (equal-decides y (pos 0))
      where
        go : (t : Bool) → Decides t (y ≡ pos 0) → t ≡ false
        go true d = absurd (n (d.if-true refl))
        go false d = refl

pub by_zero : (x y : ℤ) → y ≡ pos 0 → (operate 3 x y ≡ Missing 4) × (operate 4 x y ≡ Missing 4)
unfolding operate operators quotient remainder
by_zero x y e = rw e (refl, refl)

-- ---- wrapping

abbrev turn : ℤ
turn = pos 4294967296

remainder-size : (z : ℤ) → nat_abs (rem_z z turn) < 4294967296
remainder-size z = smaller z turn (λ e. let h : ◌≡◌ {A = ℕ} 4294967296 0 = ap mag e in omega arith)

-- a turn less here and a turn more there
turn_up : (a n r : ℤ) → (a -ℤ n) +ℤ (r +ℤ n) ≡ a +ℤ r
turn_up a n r = ap (λ (k : ℤ). (a -ℤ n) +ℤ k) (+ℤ_comm r n) ∙ sym (+ℤ_assoc (a -ℤ n) n r) ∙ ap (λ (k : ℤ). k +ℤ r) (-ℤ-+ℤ_cancel a n)

turn-down : (a n r : ℤ) → (a +ℤ n) +ℤ (r -ℤ n) ≡ a +ℤ r
turn-down a n r = ap (λ (k : ℤ). (a +ℤ n) +ℤ k) (+ℤ_comm r (neg_ℤ n)) ∙ sym (+ℤ_assoc (a +ℤ n) (neg_ℤ n) r) ∙ ap (λ (k : ℤ). k +ℤ r) (+ℤ-neg_ℤ_cancel a n)

turned-up-fits : (r : ℤ) → nat_abs r < 4294967296 → lt_z r (negsuc 2147483647) ≡ true → Fits (r +ℤ turn)
turned-up-fits (pos n) m t = absurd (false≢true t)
turned-up-fits (negsuc n) m t =
    let h : 2147483647 < n = ltb-true 2147483647 n t in
    let e : ltb 4294967296 (suc n) ≡ false = le-ltb 4294967296 (suc n) (omega arith) in
    rw e (le_z_yes tt, le_z_yes (le→leb (4294967296 - suc n) 2147483647 (omega arith)))

turned-down-fits : (r : ℤ) → nat_abs r < 4294967296 → lt_z (pos 2147483647) r ≡ true → Fits (r -ℤ turn)
turned-down-fits (pos n) m t =
    let h : 2147483647 < n = ltb-true 2147483647 n t in
    let e : ltb n 4294967296 ≡ true = lt-ltb n 4294967296 (omega arith) in
    rw e (le_z_yes (le→leb (4294967296 - suc n) 2147483647 (omega arith)), le_z_yes tt)
turned-down-fits (negsuc n) m t = absurd (false≢true t)

pub wraps : (z : ℤ) → Wraps (Number (wrapped z)) z
unfolding wrapped
wraps z = go (lt_z (rem_z z turn) (negsuc 2147483647)) refl (lt_z (pos 2147483647) (rem_z z turn)) refl
  where
    go : (t : Bool) → lt_z (rem_z z turn) (negsuc 2147483647) ≡ t → (u : Bool) → lt_z (pos 2147483647) (rem_z z turn) ≡ u
        → Wraps (Number (if_else t (rem_z z turn +ℤ turn) (if_else u (rem_z z turn -ℤ turn) (rem_z z turn)))) z
    go true e u d = record {
      number = rem_z z turn +ℤ turn;
      times = pred_ℤ (quot_z z turn);
      gives = refl;
      fits = turned-up-fits (rem_z z turn) (remainder-size z) e;
      differs = makes-up z turn ∙ sym (ap (λ (k : ℤ). k +ℤ (rem_z z turn +ℤ turn)) (pred_ℤ-*ℤ (quot_z z turn) turn) ∙ turn_up (quot_z z turn *ℤ turn) turn (rem_z z turn));
    }
    go false e true d = record {
      number = rem_z z turn -ℤ turn;
      times = suc_ℤ (quot_z z turn);
      gives = refl;
      fits = turned-down-fits (rem_z z turn) (remainder-size z) d;
      differs = makes-up z turn ∙ sym (ap (λ (k : ℤ). k +ℤ (rem_z z turn -ℤ turn)) (suc_ℤ-*ℤ (quot_z z turn) turn) ∙ turn-down (quot_z z turn *ℤ turn) turn (rem_z z turn));
    }
    go false e false d = record { number = rem_z z turn; times = quot_z z turn; gives = refl; fits = (not-below e, not-below d); differs = makes-up z turn }
