-- Bytes compared with a number's digits from the last one on.
use mathlib.Core.Path.{◌≡◌, refl, sym, ap, ◌∙◌}
use mathlib.Core.Bool.{Bool, true, false}
use mathlib.Core.List.{List, [], ◌∷◌, ◌++◌, append-nil, append_assoc}
use Prim.Native.Nat.{ℕ, suc, ◌+◌, ◌-◌, ◌/◌, ◌%◌, ◌≤◌, ◌<◌}
use native.Mathlib.Omega.{arith}
use lib.ListN.{length, get_or, drop, length-append, length-drop}
use lib.Seq.{drop-cons, drop-length, get_or_at}
use lib.Dec.{eqb}
use borrow.Author.Tests.{eqb-true, eqb-false}
use Rattle.meaning.specs.Lines.{same}
use Rattle.meaning.specs.Numerals.{decimal}
use Rattle.meaning.proofs.NoFault.{same-is, same_refl}
use Rattle.base_numbers.proofs.Decimals.{one-digit-decimal, last-digit, digits-there}

-- bytes that are not equal are not the same
pub not_same : (a b : List ℕ) → (a ≡ b → ⊥) → same a b ≡ false
not_same a b n = go (same a b) refl
  where
    go : (t : Bool) → same a b ≡ t → t ≡ false
    go true e = absurd (n (same-is a b e))
    go false e = refl

module _ (field : List ℕ) (n : ℕ) where
  -- the digits of n but those of rest are the bytes from `at` on
  pub record Compared (at rest : ℕ) : Type 0 where
    pub within : at ≤ length field
    pub digits : decimal n ≡ decimal rest ++ drop at field

  pub nothing-compared : Compared (length field) n
  nothing-compared = record { within = omega arith; digits = sym (append-nil (decimal n)) ∙ ap (λ (l : List ℕ). decimal n ++ l) (sym (drop-length field)) }

  module _ (at rest : ℕ) (h : Compared at rest) where
    count : length (decimal n) ≡ length (decimal rest) + (length field - at)
    count = ap length h.digits ∙ length-append (decimal rest) (drop at field) ∙ ap (λ (k : ℕ). length (decimal rest) + k) (length-drop at field)

    -- no byte is left for the digits that are
    pub too_few : at ≡ 0 → same field (decimal n) ≡ false
    too_few z = not_same field (decimal n) (λ e. let k = ap length e in let d = digits-there rest in omega (arith, count))

    -- the byte before those compared
    module _ (p : 1 ≤ at) where
      next : drop (at - 1) field ≡ get_or field (at - 1) 0 ∷ drop at field
      next =
          let b = h.within in
          let k : suc (at - 1) ≡ at = omega arith in
          drop-cons field (at - 1) 0 (omega arith) ∙ ap (λ (k : ℕ). get_or field (at - 1) 0 ∷ drop k field) k

      split : 10 ≤ rest → decimal n ≡ decimal (rest / 10) ++ ((48 + rest % 10) ∷ drop at field)
      split t = h.digits ∙ ap (λ (l : List ℕ). l ++ drop at field) (last-digit rest t) ∙ append_assoc (decimal (rest / 10)) ((48 + rest % 10) ∷ []) (drop at field)

      pub digit-equal : 10 ≤ rest → get_or field (at - 1) 0 ≡ 48 + rest % 10 → Compared (at - 1) (rest / 10)
      digit-equal t e =
          record {
            within = let b = h.within in omega arith;
            digits = split t ∙ ap (λ (l : List ℕ). decimal (rest / 10) ++ l) (ap (λ (d : ℕ). d ∷ drop at field) (sym e) ∙ sym next);
          }

      pub digit-differs : 10 ≤ rest → (get_or field (at - 1) 0 ≡ 48 + rest % 10 → ⊥) → same field (decimal n) ≡ false
      digit-differs t m = not_same field (decimal n) (λ e. m (ap (λ (l : List ℕ). get_or l (at - 1) 0) (e ∙ split t) ∙ get_or_at (decimal (rest / 10)) (48 + rest % 10) (drop at field) 0 (at - 1) (place e)))
        where
          place : field ≡ decimal n → length (decimal (rest / 10)) ≡ at - 1
          place e =
              let k = ap length (e ∙ split t) ∙ length-append (decimal (rest / 10)) ((48 + rest % 10) ∷ drop at field) in
              let b = h.within in
              omega (arith, length-drop at field)

    module _ (t : rest < 10) where
      whole : decimal n ≡ (48 + rest) ∷ drop at field
      whole = h.digits ∙ ap (λ (l : List ℕ). l ++ drop at field) (one-digit-decimal rest t)

      -- not one byte is left for the last digit
      pub not-one : (at ≡ 1 → ⊥) → same field (decimal n) ≡ false
      not-one m = not_same field (decimal n) (λ e. let k = ap length (e ∙ whole) in let b = h.within in m (omega (arith, length-drop at field)))

      pub by-first-digit : at ≡ 1 → eqb (get_or field 0 0) (48 + rest) ≡ same field (decimal n)
      by-first-digit z = go (eqb (get_or field 0 0) (48 + rest)) refl
        where
          first : drop 0 field ≡ get_or field 0 0 ∷ drop at field
          first = let b = h.within in drop-cons field 0 0 (omega arith) ∙ ap (λ (k : ℕ). get_or field 0 0 ∷ drop k field) (sym z)

          go : (d : Bool) → eqb (get_or field 0 0) (48 + rest) ≡ d → d ≡ same field (decimal n)
          go true e =
              let q : field ≡ decimal n = first ∙ ap (λ (d : ℕ). d ∷ drop at field) (eqb-true (get_or field 0 0) (48 + rest) e) ∙ sym whole in
              sym (ap (same field) (sym q) ∙ same_refl field)
          go false e = sym (not_same field (decimal n) (λ q. eqb-false (get_or field 0 0) (48 + rest) e (ap (λ (l : List ℕ). get_or l 0 0) (q ∙ whole))))
