-- Digits that are written into bytes from the last one to the first.
use mathlib.Core.Path.{◌≡◌, refl, sym, ap, ap₂, ◌∙◌}
use mathlib.Core.List.{List, [], ◌∷◌, ◌++◌, append_assoc}
use Prim.Native.Nat.{ℕ, suc, ◌+◌, ◌-◌, ◌/◌, ◌%◌, ◌≤◌, ◌<◌}
use native.Mathlib.Omega.{arith}
use lib.ListN.{length, take, drop, set, length-set}
use lib.Seq.{drop-cons, drop-set-lt, get_or-set_same, take-set-le, take-take, set_split}
use Rattle.meaning.specs.Numerals.{decimal}
use Rattle.base_numbers.proofs.Decimals.{one-digit-decimal, last-digit, one-digit-count, last-digit-count, digits-there}

-- the digits of n but those of rest are written from `at` on: those of rest are still to be put in front of them
pub record Written (bytes : List ℕ) (end n : ℕ) (out : List ℕ) (at rest : ℕ) : Type 0 where
  pub same_length : length out ≡ length bytes
  pub within : at ≤ end
  pub room : at + length (decimal n) ≡ end + length (decimal rest)
  pub front : take at out ≡ take at bytes
  pub back : decimal rest ++ drop at out ≡ decimal n ++ drop end bytes

set-drops : (l : List ℕ) (i v : ℕ) → i < length l → drop i (set l i v) ≡ v ∷ drop (suc i) l
set-drops l i v h =
    drop-cons (set l i v) i 0 (rw (length-set l i v) h)
    ∙ ap₂ (λ (x : ℕ) (xs : List ℕ). x ∷ xs) (get_or-set_same l i v 0 h) (drop-set-lt (suc i) l i v (omega arith))

module _ (bytes : List ℕ) (end n : ℕ) where
  pub nothing_written : Written bytes end n bytes end n
  nothing_written = record { same_length = refl; within = omega arith; room = refl; front = refl; back = refl }

  module _ (out : List ℕ) (at rest : ℕ) (w : Written bytes end n out at rest) (l : length (decimal n) ≤ end) (h : end ≤ length bytes) where
    pub digit-before : 1 ≤ at
    digit-before = omega (arith, w.room, digits-there rest)

    before-end : at - 1 < length out
    before-end = omega (arith, digit-before)

    after-it : suc (at - 1) ≡ at
    after-it = omega (arith, digit-before)

    front_kept : take (at - 1) out ≡ take (at - 1) bytes
    front_kept = sym (take-take (at - 1) at out (omega arith)) ∙ ap (take (at - 1)) w.front ∙ take-take (at - 1) at bytes (omega arith)

    -- while more than one digit is left, the last of them is written
    pub one_written : 10 ≤ rest → Written bytes end n (set out (at - 1) (48 + rest % 10)) (at - 1) (rest / 10)
    one_written t =
        record {
          same_length = length-set out (at - 1) _ ∙ w.same_length;
          within = omega arith;
          room = omega (arith, w.room, last-digit-count rest t, digit-before);
          front = take-set-le (at - 1) out (at - 1) _ (omega arith) ∙ front_kept;
          back =
              ap (λ (bs : List ℕ). decimal (rest / 10) ++ bs) (set-drops out (at - 1) (48 + rest % 10) before-end)
              ∙ ap (λ (k : ℕ). decimal (rest / 10) ++ ((48 + rest % 10) ∷ drop k out)) after-it
              ∙ sym (append_assoc (decimal (rest / 10)) ((48 + rest % 10) ∷ []) (drop at out))
              ∙ ap (λ (ds : List ℕ). ds ++ drop at out) (sym (last-digit rest t))
              ∙ w.back;
        }

    -- the first digit is written last
    pub all-written : rest < 10 → set out (at - 1) (48 + rest) ≡ take (end - length (decimal n)) bytes ++ (decimal n ++ drop end bytes)
    all-written t =
        let start : at - 1 ≡ end - length (decimal n) = omega (arith, w.room, one-digit-count rest t) in
        set_split out (at - 1) (48 + rest) before-end
        ∙ ap₂ (λ (xs ys : List ℕ). xs ++ ys)
        (front_kept ∙ ap (λ (k : ℕ). take k bytes) start)
        (ap (λ (k : ℕ). (48 + rest) ∷ drop k out) after-it
        ∙ ap (λ (ds : List ℕ). ds ++ drop at out) (sym (one-digit-decimal rest t))
        ∙ w.back)
