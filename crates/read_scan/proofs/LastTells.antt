-- A token's last byte tells whether it is a word or number.
use mathlib.Core.Path.{◌≡◌, refl, sym, ap, subst, ◌∙◌}
use mathlib.Core.Bool.{Bool, true, false, ◌||◌, false≢true, or-true}
use mathlib.Core.List.{List, [], ◌∷◌}
use mathlib.Core.Option.{Option, none, some, none-ne-some, some-injective}
use Prim.Native.Nat.{ℕ, suc, ◌+◌, ◌-◌, ◌*◌, ◌≤◌, ◌<◌}
use lib.IntN.{ℤ}
use native.Mathlib.Omega.{arith}
use lib.ListN.{length, get_or, take, drop, length-drop}
use lib.Seq.{length-take-le, get_or-take, get_or-drop}
use lib.Dec.{eqb, leb}
use borrow.Author.Tests.{leb-true}
use Rattle.meaning.specs.Basics.{if_else}
use Rattle.meaning.specs.Texts.{hyphen, digit0}
use Rattle.meaning.specs.Lines.{same}
use Rattle.meaning.specs.Numerals.{is_digit, digits_value, natural, unsigned, negative}
use Rattle.meaning.specs.Numerals as numerals
use Rattle.meaning.proofs.NumeralForm.{let_through}
use Rattle.meaning.proofs.NoFault.{same-is}
use Rattle.grammar.specs.Grammar.{Token, name, number, minus, not-word, given, arith as operator, joins, round-open, round-close, square-open, square-close, mark}
use Rattle.grammar.specs.Tokens.{is_letter, is_word_byte, TokenEntry, token_spelt, words, symbols, all_word_bytes, is_word, or_name, or_number, token_of, is_wordlike}
use Rattle.grammar.proofs.LinesSound.{split-and}
use Rattle.read_scan.specs.LastBytes.{last_of, ends_like_word, LastTells}

-- the byte before the end is the last
last-at : (s : List ℕ) → get_or s (length s - 1) 0 ≡ last_of s
unfolding last_of
last-at [] = refl
last-at (b ∷ bs) = let e : suc (length bs) - 1 ≡ length bs = omega arith in ap (λ (n : ℕ). get_or (b ∷ bs) n 0) e ∙ go b bs
  where
    go : (c : ℕ) (cs : List ℕ) → get_or (c ∷ cs) (length cs) 0 ≡ last_of (c ∷ cs)
    go c [] = refl
    go c (d ∷ ds) = go d ds

-- the last byte of a part of a line
pub part-last : (line : List ℕ) (a b : ℕ) → a < b → b ≤ length line → last_of (take (b - a) (drop a line)) ≡ get_or line (b - 1) 0
part-last line a b h k =
    let s = take (b - a) (drop a line) in
    let i : b - a ≤ length (drop a line) = let j = length-drop a line in omega arith in
    let l : length s - 1 ≡ b - a - 1 = ap (λ (n : ℕ). n - 1) (length-take-le (b - a) (drop a line) i) in
    let e : a + (b - a - 1) ≡ b - 1 = omega arith in
    sym (last-at s)
    ∙ ap (λ (n : ℕ). get_or s n 0) l
    ∙ get_or-take (b - a) (drop a line) (b - a - 1) 0 (omega arith)
    ∙ get_or-drop a line (b - a - 1) 0
    ∙ ap (λ (n : ℕ). get_or line n 0) e

-- Words and numbers -------------------------------------------------------------------------------------------------------------

word-last : (b : ℕ) (bs : List ℕ) → is_word_byte b ≡ true → all_word_bytes bs ≡ true → ends_like_word (b ∷ bs) ≡ true
unfolding all_word_bytes last_of
word-last b [] h g = h
word-last b (c ∷ cs) h g = let (u, v) = split-and (is_word_byte c) (all_word_bytes cs) g in word-last c cs u v

letter-goes-on : (b : ℕ) → is_letter b ≡ true → is_word_byte b ≡ true
letter-goes-on b h = ap (λ (t : Bool). is_digit b || (t || eqb b 95)) h ∙ or-true (is_digit b)

is-word-last : (s : List ℕ) → is_word s ≡ true → ends_like_word s ≡ true
unfolding is_word
is-word-last [] h = absurd (false≢true h)
is-word-last (b ∷ bs) h = let (u, v) = split-and (is_letter b) (all_word_bytes bs) h in word-last b bs (letter-goes-on b u) v

digits_last : (n v b : ℕ) (bs : List ℕ) → digits_value n (b ∷ bs) ≡ some v → ends_like_word (b ∷ bs) ≡ true
unfolding digits_value last_of
digits_last n v b [] h =
    let (u, k) = let_through (is_digit b) (some (n * 10 + (b - digit0))) v h in
    ap (λ (t : Bool). t || (is_letter b || eqb b 95)) u
digits_last n v b (c ∷ cs) h =
    let (u, k) = let_through (is_digit b) (digits_value (n * 10 + (b - digit0)) (c ∷ cs)) v h in
    digits_last (n * 10 + (b - digit0)) v c cs k

natural-last : (b : ℕ) (bs : List ℕ) (v : ℕ) → natural (b ∷ bs) ≡ some v → ends_like_word (b ∷ bs) ≡ true
unfolding natural last_of
natural-last b [] v h = digits_last 0 v b [] h
natural-last b (c ∷ cs) v h = go (eqb b digit0) h
  where
    go : (t : Bool) → if_else t none (digits_value 0 (b ∷ c ∷ cs)) ≡ some v → ends_like_word (b ∷ c ∷ cs) ≡ true
    go true h = absurd (none-ne-some v h)
    go false h = digits_last 0 v b (c ∷ cs) h

minus-last : (b : ℕ) (bs : List ℕ) (v : ℕ) → natural bs ≡ some v → ends_like_word (b ∷ bs) ≡ true
unfolding natural last_of
minus-last b [] v h = absurd (none-ne-some v h)
minus-last b (c ∷ cs) v h = natural-last c cs v h

number-last : (s : List ℕ) (z : ℤ) → numerals.number s ≡ some z → ends_like_word s ≡ true
unfolding numerals.number
number-last [] z h = absurd (none-ne-some z h)
number-last (b ∷ bs) z h = go (eqb b hyphen) h
  where
    less : (o : Option ℕ) → natural bs ≡ o → negative o ≡ some z → ends_like_word (b ∷ bs) ≡ true
    less none q h = absurd (none-ne-some z h)
    less (some n) q h = minus-last b bs n q

    more : (o : Option ℕ) → natural (b ∷ bs) ≡ o → unsigned o ≡ some z → ends_like_word (b ∷ bs) ≡ true
    more none q h = absurd (none-ne-some z h)
    more (some n) q h = natural-last b bs n q

    go : (t : Bool) → if_else t (negative (natural bs)) (unsigned (natural (b ∷ bs))) ≡ some z → ends_like_word (b ∷ bs) ≡ true
    go true h = less (natural bs) refl h
    go false h = more (natural (b ∷ bs)) refl h

-- The tables --------------------------------------------------------------------------------------------------------------------

-- what holds of each entry of a table
module _ (P : List ℕ → Token → Type 0) where
  abbrev Each : List TokenEntry → Type 0
  Each [] = Unit {0}
  Each (e ∷ es) = P e.spelling e.token × Each es

  entry_has : (es : List TokenEntry) (s : List ℕ) (t : Token) → Each es → token_spelt es s ≡ some t → P s t
  unfolding token_spelt
  entry_has [] s t a h = absurd (none-ne-some t h)
  entry_has (e ∷ es) s t a h = go (same s e.spelling) refl h (entry_has es s t a.1)
    where
      go : (v : Bool) → same s e.spelling ≡ v → if_else v (some e.token) (token_spelt es s) ≡ some t → (token_spelt es s ≡ some t → P s t) → P s t
      go true q h rest = subst (λ (u : Token). P s u) (some-injective e.token t h) (subst (λ (r : List ℕ). P r e.token) (sym (same-is s e.spelling q)) a.0)
      go false q h rest = rest h

-- no name
abbrev is_nameless : Token → Bool
is_nameless (name n) = false
is_nameless (number z) = true
is_nameless minus = true
is_nameless not-word = true
is_nameless given = true
is_nameless (operator k) = true
is_nameless (joins l) = true
is_nameless round-open = true
is_nameless round-close = true
is_nameless square-open = true
is_nameless square-close = true
is_nameless (mark m) = true

-- a token of a table is no name, and its last byte tells whether it is a word
abbrev Tells : List ℕ → Token → Type 0
Tells s t = (is_wordlike t ≡ ends_like_word s) × (is_nameless t ≡ true)

words-tell : Each Tells words
unfolding words last_of
words-tell = ((refl, refl), ((refl, refl), ((refl, refl), ((refl, refl), ((refl, refl), ((refl, refl), ((refl, refl), ((refl, refl), ((refl, refl), ((refl, refl), ((refl, refl), ((refl, refl), ((refl, refl), ((refl, refl), ((refl, refl), ((refl, refl), ((refl, refl), ((refl, refl), ((refl, refl), ((refl, refl), ((refl, refl), ((refl, refl), tt))))))))))))))))))))))

symbols-tell : Each Tells symbols
unfolding symbols last_of
symbols-tell = ((refl, refl), ((refl, refl), ((refl, refl), ((refl, refl), ((refl, refl), ((refl, refl), ((refl, refl), ((refl, refl), ((refl, refl), ((refl, refl), ((refl, refl), ((refl, refl), ((refl, refl), ((refl, refl), ((refl, refl), ((refl, refl), ((refl, refl), ((refl, refl), ((refl, refl), tt)))))))))))))))))))

-- what is no word of the grammar is a name, which is not too long
named-tells : (s : List ℕ) (t : Token) → if_else (leb (length s) 31) (some (name s)) none ≡ some t → (t ≡ name s) × (length s ≤ 31)
named-tells s t h = let (l, e) = let_through (leb (length s) 31) (some (name s)) t h in (sym (some-injective (name s) t e), leb-true (length s) 31 l)

-- the last byte tells, and a name is the bytes
abbrev Known : List ℕ → Token → Type 0
Known s t = (is_wordlike t ≡ ends_like_word s) × ((b : List ℕ) → t ≡ name b → (b ≡ s) × (length s ≤ 31))

nameless : (s : List ℕ) (t : Token) → Tells s t → Known s t
nameless s t h = (h.0, λ b e. absurd (false≢true (sym (ap is_nameless e) ∙ h.1)))

token-known : (s : List ℕ) (t : Token) → token_of s ≡ some t → Known s t
unfolding token_of or_number or_name
token-known s t h = go (is_word s) refl h
  where
    one : (o : Option Token) → token_spelt words s ≡ o → is_word s ≡ true → or_name o s ≡ some t → Known s t
    one none q w h =
        let (e, l) = named-tells s t h in
        (ap is_wordlike e ∙ sym (is-word-last s w), λ b f. let i : name b ≡ name s = sym f ∙ e in (cc, l))
    one (some u) q w h = nameless s t (entry_has Tells words s t words-tell (q ∙ h))

    other : (o : Option Token) (z : Option ℤ) → token_spelt symbols s ≡ o → numerals.number s ≡ z → or_number o z ≡ some t → Known s t
    other none none q g h = absurd (none-ne-some t h)
    other none (some z) q g h =
        let e : number z ≡ t = some-injective (number z) t h in
        (ap is_wordlike (sym e) ∙ sym (number-last s z g), λ b f. absurd (false≢true (sym (ap is_nameless (e ∙ f)))))
    other (some u) z q g h = nameless s t (entry_has Tells symbols s t symbols-tell (q ∙ h))

    go : (w : Bool) → is_word s ≡ w → if_else w (or_name (token_spelt words s) s) (or_number (token_spelt symbols s) (numerals.number s)) ≡ some t → Known s t
    go true e h = one (token_spelt words s) refl e h
    go false e h = other (token_spelt symbols s) (numerals.number s) refl refl h

pub last-tells : LastTells
last-tells s t h = (token-known s t h).0

-- a name is the bytes that spell it, at most 31
pub name-is : (s b : List ℕ) → token_of s ≡ some (name b) → (b ≡ s) × (length s ≤ 31)
name-is s b h = (token-known s (name b) h).1 b refl
