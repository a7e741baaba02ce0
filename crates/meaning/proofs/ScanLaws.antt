-- Laws for code that reads bytes from left to right: where the line ends that begins at a place, and digits that grow.
use mathlib.Core.Path.{◌≡◌, refl, ap, ◌∙◌}
use mathlib.Core.Bool.{Bool}
use mathlib.Core.List.{List, [], ◌∷◌}
use mathlib.Core.Option.{some, some-injective}
use Prim.Native.Nat.{ℕ, suc, ◌+◌, ◌-◌, ◌*◌, ◌≤◌, ◌<◌}
use native.Mathlib.Omega.{arith}
use native.Mathlib.Numerals.{add-one}
use lib.ListN.{length, get_or, drop, drop_of_length-le}
use lib.Seq.{drop-cons}
use Rattle.meaning.specs.Basics.{if_else}
use borrow.Author.Tests.{eq-eqb, ne_eqb}
use Rattle.meaning.specs.Texts.{line_feed, digit0}
use Rattle.meaning.specs.Lines.{line_size}
use Rattle.meaning.specs.Numerals.{is_digit, digits_value}
use Rattle.meaning.proofs.NumeralForm.{let_through}

-- nothing is left
pub size-end : (s : List ℕ) (at : ℕ) → length s ≤ at → line_size (drop at s) ≡ 0
unfolding line_size
size-end s at h = ap line_size (drop_of_length-le s h)

-- a line feed is next
pub size-feed : (s : List ℕ) (at : ℕ) → at < length s → get_or s at 0 ≡ line_feed → line_size (drop at s) ≡ 1
unfolding line_size
size-feed s at h e =
    ap line_size (drop-cons s at 0 h)
    ∙ ap (λ (t : Bool). if_else t 1 (suc (line_size (drop (suc at) s)))) (eq-eqb (get_or s at 0) line_feed e)

-- another byte is next
pub size-more : (s : List ℕ) (at : ℕ) → at < length s → (get_or s at 0 ≡ line_feed → ⊥) → line_size (drop at s) ≡ suc (line_size (drop (at + 1) s))
unfolding line_size
size-more s at h n =
    ap line_size (drop-cons s at 0 h)
    ∙ ap (λ (t : Bool). if_else t 1 (suc (line_size (drop (suc at) s)))) (ne_eqb (get_or s at 0) line_feed n)
    ∙ rw (add-one at) refl

-- digits only add to a number: once it is too large for 32 bits it stays so, and code may stop counting
pub digits-grow : (n v : ℕ) (bs : List ℕ) → digits_value n bs ≡ some v → n ≤ v
unfolding digits_value
digits-grow n v [] e = let h = some-injective n v e in omega arith
digits-grow n v (b ∷ bs) e =
    let h = let_through (is_digit b) (digits_value (n * 10 + (b - digit0)) bs) v e in
    let l = digits-grow (n * 10 + (b - digit0)) v bs h.1 in
    omega arith
