-- Bytes that are too many for a token.
use mathlib.Core.Path.{◌≡◌, refl, ap}
use mathlib.Core.Bool.{Bool, true, false, ◌&&◌}
use mathlib.Core.List.{List, [], ◌∷◌}
use mathlib.Core.Option.{Option, none, some, none-ne-some, some-injective}
use Prim.Native.Nat.{ℕ, zero, suc, ◌≤◌, ◌<◌}
use native.Mathlib.Omega.{arith}
use lib.IntN.{ℤ, pos, negsuc}
use lib.Signed.{mag}
use lib.ListN.{length}
use lib.Dec.{eqb, leb}
use borrow.Author.Tests.{leb-true, lt-leb}
use Rattle.meaning.specs.Basics.{if_else}
use Rattle.meaning.specs.Texts.{hyphen}
use Rattle.meaning.specs.Lines.{same}
use Rattle.meaning.specs.Numerals.{natural, unsigned, negative}
use Rattle.meaning.specs.Numerals as numerals
use Rattle.meaning.specs.PrintedClaims.{OneForm}
use Rattle.meaning.proofs.NoFault.{same-is}
use Rattle.meaning.proofs.NumeralForm.{let_through, one_form}
use Rattle.base_numbers.proofs.Texts.{printed-short}
use Rattle.grammar.specs.Tokens.{TokenEntry, words, symbols, token_spelt, is_word, or_name, or_number, token_of}
use Rattle.grammar.proofs.LinesSound.{split-and}

-- each spelling has at most seven bytes
all_within : List TokenEntry → Bool
all_within [] = true
all_within (e ∷ es) = leb (length e.spelling) 7 && all_within es

too_long : (es : List TokenEntry) → all_within es ≡ true → (s : List ℕ) → 7 < length s → token_spelt es s ≡ none
unfolding all_within token_spelt
too_long [] h s l = refl
too_long (e ∷ es) h s l = go (same s e.spelling) refl (too_long es parts.1 s l)
  where
    parts : (leb (length e.spelling) 7 ≡ true) × (all_within es ≡ true)
    parts = split-and (leb (length e.spelling) 7) (all_within es) h

    go : (b : Bool) → same s e.spelling ≡ b → token_spelt es s ≡ none → if_else b (some e.token) (token_spelt es s) ≡ none
    go true q i = let k = ap (λ (t : List ℕ). length t) (same-is s e.spelling q) in let m = leb-true (length e.spelling) 7 parts.0 in absurd (omega (arith, l, k, m))
    go false q i = i

words-short : (s : List ℕ) → 7 < length s → token_spelt words s ≡ none
unfolding words all_within
words-short s l = too_long words refl s l

symbols-short : (s : List ℕ) → 7 < length s → token_spelt symbols s ≡ none
unfolding symbols all_within
symbols-short s l = too_long symbols refl s l

-- a number that is read fits
unsigned-fits : (o : Option ℕ) (z : ℤ) → unsigned o ≡ some z → mag z < 2147483648
unsigned-fits none z h = absurd (none-ne-some z h)
unsigned-fits (some n) z h =
    let (l, e) = let_through (leb n 2147483647) (some (pos n)) z h in
    let m = ap mag (some-injective (pos n) z e) in
    let k = leb-true n 2147483647 l in
    omega (arith, m, k)

negative_fits : (o : Option ℕ) (z : ℤ) → negative o ≡ some z → mag z < 2147483648
negative_fits none z h = absurd (none-ne-some z h)
negative_fits (some zero) z h = absurd (none-ne-some z h)
negative_fits (some (suc n)) z h =
    let (l, e) = let_through (leb n 2147483647) (some (negsuc n)) z h in
    let m = ap mag (some-injective (negsuc n) z e) in
    let k = leb-true n 2147483647 l in
    omega (arith, m, k)

number_fits : (s : List ℕ) (z : ℤ) → numerals.number s ≡ some z → mag z < 2147483648
unfolding numerals.number
number_fits [] z h = absurd (none-ne-some z h)
number_fits (b ∷ bs) z h = go (eqb b hyphen) h
  where
    go : (t : Bool) → if_else t (negative (natural bs)) (unsigned (natural (b ∷ bs))) ≡ some z → mag z < 2147483648
    go true h = negative_fits (natural bs) z h
    go false h = unsigned-fits (natural (b ∷ bs)) z h

-- and has at most eleven bytes
number_short : (s : List ℕ) (z : ℤ) → numerals.number s ≡ some z → length s ≤ 11
unfolding OneForm
number_short s z h = let e = ap length (one_form s z h) in let l = printed-short z (number_fits s z h) in omega (arith, e, l)

-- more than 31 bytes are no token
pub long-no-token : (s : List ℕ) → 31 < length s → token_of s ≡ none
unfolding token_of or_name or_number
long-no-token s l = go (is_word s)
  where
    other : (q : Option ℤ) → numerals.number s ≡ q → or_number none q ≡ none
    other none e = refl
    other (some z) e = let k = number_short s z e in absurd (omega (arith, k, l))

    go : (w : Bool) → if_else w (or_name (token_spelt words s) s) (or_number (token_spelt symbols s) (numerals.number s)) ≡ none
    go true = rw (words-short s (omega arith), lt-leb (length s) 31 l)
    go false = rw (symbols-short s (omega arith)) (other (numerals.number s) refl)
