-- A field that is read as a number is that number printed: no number has two forms.
use mathlib.Core.Path.{◌≡◌, refl, sym, ap, ap₂, ◌∙◌}
use mathlib.Core.Bool.{Bool, true, false}
use mathlib.Core.List.{List, [], ◌∷◌}
use mathlib.Core.Option.{Option, none, some, none-ne-some, some-injective}
use Prim.Native.Nat.{ℕ, zero, suc, ◌+◌, ◌-◌, ◌*◌, ◌/◌, ◌%◌, ◌≤◌, ◌<◌}
use native.Mathlib.Omega.{arith}
use lib.IntN.{ℤ, pos, negsuc}
use lib.Dec.{eqb, leb, ltb}
use Rattle.meaning.specs.Basics.{if_else}
use borrow.Author.Tests.{lt-ltb, le-ltb, leb-true, eqb-true, eqb-false, ltb-false}
use Rattle.meaning.specs.Texts.{hyphen, digit0}
use Rattle.meaning.specs.Numerals.{is_digit, digits_value, natural, unsigned, negative, number, digits_onto, decimal, printed}
use Rattle.meaning.specs.PrintedClaims.{OneForm}
use Rattle.meaning.proofs.Decides.{both_true}

-- what a test let through
pub let_through : {A : Type 0} (t : Bool) (x : Option A) (v : A) → if_else t x none ≡ some v → (t ≡ true) × (x ≡ some v)
let_through true x v e = (refl, e)
let_through false x v e = absurd (none-ne-some v e)

kept_out : {A : Type 0} (t : Bool) (x : Option A) (v : A) → if_else t none x ≡ some v → (t ≡ false) × (x ≡ some v)
kept_out true x v e = absurd (none-ne-some v e)
kept_out false x v e = (refl, e)

digit-range : (b : ℕ) → is_digit b ≡ true → (digit0 ≤ b) × (b ≤ digit0 + 9)
digit-range b e = let h = both_true (leb digit0 b) (leb b (digit0 + 9)) e in (leb-true digit0 b h.0, leb-true b (digit0 + 9) h.1)

-- any two bounds that suffice give the same digits
fuel : (k m n : ℕ) (bs : List ℕ) → n < k → n < m → digits_onto k n bs ≡ digits_onto m n bs
unfolding digits_onto
fuel zero m n bs h g = absurd (omega arith)
fuel (suc k) zero n bs h g = absurd (omega arith)
fuel (suc k) (suc m) n bs h g = go (ltb n 10) refl (λ l. fuel k m (n / 10) ((digit0 + n % 10) ∷ bs) (omega arith) (omega arith))
  where
    go : (t : Bool) → ltb n 10 ≡ t
        → (10 ≤ n → digits_onto k (n / 10) ((digit0 + n % 10) ∷ bs) ≡ digits_onto m (n / 10) ((digit0 + n % 10) ∷ bs))
        → if_else t ((digit0 + n) ∷ bs) (digits_onto k (n / 10) ((digit0 + n % 10) ∷ bs)) ≡ if_else t ((digit0 + n) ∷ bs) (digits_onto m (n / 10) ((digit0 + n % 10) ∷ bs))
    go true e f = refl
    go false e f = f (ltb-false n 10 e)

-- one digit alone
pub one-digit : (n : ℕ) (bs : List ℕ) → n < 10 → digits_onto (suc n) n bs ≡ (digit0 + n) ∷ bs
unfolding digits_onto
one-digit n bs h = ap (λ (t : Bool). if_else t ((digit0 + n) ∷ bs) (digits_onto n (n / 10) ((digit0 + n % 10) ∷ bs))) (lt-ltb n 10 h)

-- one digit more
pub more-digits : (n d : ℕ) (bs : List ℕ) → 0 < n → d < 10 → digits_onto (suc (n * 10 + d)) (n * 10 + d) bs ≡ digits_onto (suc n) n ((digit0 + d) ∷ bs)
unfolding digits_onto
more-digits n d bs p h =
    ap (λ (t : Bool). if_else t ((digit0 + (n * 10 + d)) ∷ bs) (digits_onto (n * 10 + d) ((n * 10 + d) / 10) ((digit0 + (n * 10 + d) % 10) ∷ bs))) (le-ltb (n * 10 + d) 10 (omega arith))
    ∙ ap₂ (λ (q r : ℕ). digits_onto (n * 10 + d) q ((digit0 + r) ∷ bs)) (omega arith) (omega arith)
    ∙ fuel (n * 10 + d) (suc n) n ((digit0 + d) ∷ bs) (omega arith) (omega arith)

-- digits read on from a number are that number's digits and these
read-on : (n v : ℕ) (bs : List ℕ) → 0 < n → digits_value n bs ≡ some v → digits_onto (suc n) n bs ≡ decimal v
unfolding digits_value decimal
read-on n v [] p e = ap (λ (m : ℕ). digits_onto (suc m) m []) (some-injective n v e)
read-on n v (b ∷ bs) p e = go (let_through (is_digit b) (digits_value (n * 10 + (b - digit0)) bs) v e) (read-on (n * 10 + (b - digit0)) v bs)
  where
    go : (is_digit b ≡ true) × (digits_value (n * 10 + (b - digit0)) bs ≡ some v)
        → (0 < n * 10 + (b - digit0) → digits_value (n * 10 + (b - digit0)) bs ≡ some v → digits_onto (suc (n * 10 + (b - digit0))) (n * 10 + (b - digit0)) bs ≡ decimal v)
        → digits_onto (suc n) n (b ∷ bs) ≡ decimal v
    go h f =
        let r = digit-range b h.0 in
        ap (λ (c : ℕ). digits_onto (suc n) n (c ∷ bs)) (omega arith)
        ∙ sym (more-digits n (b - digit0) bs p (omega arith))
        ∙ f (omega arith) h.1

natural-form : (bs : List ℕ) (v : ℕ) → natural bs ≡ some v → bs ≡ decimal v
unfolding natural digits_value decimal
natural-form [] v e = absurd (none-ne-some v e)
natural-form (b ∷ []) v e =
    let h = let_through (is_digit b) (some (0 * 10 + (b - digit0))) v e in
    let r = digit-range b h.0 in
    let i = some-injective (0 * 10 + (b - digit0)) v h.1 in
    ap (λ (c : ℕ). c ∷ []) (omega arith) ∙ sym (one-digit v [] (omega arith))
natural-form (b ∷ c ∷ cs) v e =
    let k = kept_out (eqb b digit0) (digits_value 0 (b ∷ c ∷ cs)) v e in
    let h = let_through (is_digit b) (digits_value (0 * 10 + (b - digit0)) (c ∷ cs)) v k.1 in
    let r = digit-range b h.0 in
    let n = eqb-false b digit0 k.0 in
    ap (λ (x : ℕ). x ∷ c ∷ cs) (omega arith)
    ∙ sym (one-digit (0 * 10 + (b - digit0)) (c ∷ cs) (omega arith))
    ∙ read-on (0 * 10 + (b - digit0)) v (c ∷ cs) (omega arith) h.1

unsigned-form : (bs : List ℕ) (o : Option ℕ) → natural bs ≡ o → (z : ℤ) → unsigned o ≡ some z → bs ≡ printed z
unfolding printed
unsigned-form bs none i z e = absurd (none-ne-some z e)
unsigned-form bs (some n) i z e =
    natural-form bs n i ∙ ap printed (some-injective (pos n) z (let_through (leb n 2147483647) (some (pos n)) z e).1)

negative-form : (bs : List ℕ) (o : Option ℕ) → natural bs ≡ o → (z : ℤ) → negative o ≡ some z → hyphen ∷ bs ≡ printed z
unfolding printed
negative-form bs none i z e = absurd (none-ne-some z e)
negative-form bs (some zero) i z e = absurd (none-ne-some z e)
negative-form bs (some (suc n)) i z e =
    ap (λ (l : List ℕ). hyphen ∷ l) (natural-form bs (suc n) i) ∙ ap printed (some-injective (negsuc n) z (let_through (leb n 2147483647) (some (negsuc n)) z e).1)

pub one_form : OneForm
unfolding OneForm number
one_form [] z e = absurd (none-ne-some z e)
one_form (b ∷ bs) z e = go (eqb b hyphen) refl e
  where
    go : (t : Bool) → eqb b hyphen ≡ t → if_else t (negative (natural bs)) (unsigned (natural (b ∷ bs))) ≡ some z → b ∷ bs ≡ printed z
    go true i h = ap (λ (c : ℕ). c ∷ bs) (eqb-true b hyphen i) ∙ negative-form bs (natural bs) refl z h
    go false i h = unsigned-form (b ∷ bs) (natural (b ∷ bs)) refl z h
