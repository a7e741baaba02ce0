-- The bytes of each token hang together, so the reader of bytes reads exactly what is spelt.
use mathlib.Core.Path.{◌≡◌, refl, sym, ap, subst, ◌∙◌}
use mathlib.Core.Bool.{Bool, true, false, ◌&&◌, ◌||◌, false≢true, or-true}
use mathlib.Core.List.{List, [], ◌∷◌}
use mathlib.Core.Option.{Option, none, some, none-ne-some}
use Prim.Native.Nat.{ℕ, ◌+◌, ◌-◌, ◌*◌}
use lib.IntN.{ℤ}
use lib.Dec.{eqb}
use Rattle.meaning.specs.Basics.{if_else}
use borrow.Author.Tests.{eqb-true}
use Rattle.meaning.specs.Texts.{hyphen, digit0}
use Rattle.meaning.specs.Lines.{same}
use Rattle.meaning.specs.Numerals.{is_digit, digits_value, natural, unsigned, negative}
use Rattle.meaning.specs.Numerals as numerals
use Rattle.meaning.proofs.NumeralForm.{let_through}
use Rattle.meaning.proofs.NoFault.{same-is}
use Rattle.grammar.specs.Grammar.{Token}
use Rattle.grammar.specs.Scan.{space, Hangs, Table}
use Rattle.grammar.specs.Tokens.{is_letter, is_word_byte, hang, TokenEntry, token_spelt, words, symbols, all_word_bytes, is_word, or_name, or_number, token_of, needs_space}
use Rattle.grammar.specs.LineBytes.{TokensExact}
use Rattle.grammar.proofs.ScanExact.{scan-exact}
use Rattle.grammar.proofs.LinesSound.{split-and}

abbrev Hung : List ℕ → Type 0
Hung s = Hangs token_of hang needs_space s

no-space : (b : ℕ) → is_word_byte b ≡ true → eqb b space ≡ false
no-space b h = go (eqb b space) refl
  where
    go : (t : Bool) → eqb b space ≡ t → t ≡ false
    go true e = absurd (false≢true (subst (λ (c : ℕ). is_word_byte c ≡ true) (eqb-true b space e) h))
    go false e = refl

word-hung : (b : ℕ) (bs : List ℕ) → is_word_byte b ≡ true → all_word_bytes bs ≡ true → Hung (b ∷ bs)
unfolding all_word_bytes
word-hung b [] h g = no-space b h
word-hung b (c ∷ cs) h g = let (u, v) = split-and (is_word_byte c) (all_word_bytes cs) g in (no-space b h, rw (u, h) refl, word-hung c cs u v)

letter-word : (b : ℕ) → is_letter b ≡ true → is_word_byte b ≡ true
letter-word b h = ap (λ (t : Bool). is_digit b || (t || eqb b 95)) h ∙ or-true (is_digit b)

digit-word : (b : ℕ) → is_digit b ≡ true → is_word_byte b ≡ true
digit-word b h = ap (λ (t : Bool). t || (is_letter b || eqb b 95)) h

digits-words : (n v : ℕ) (bs : List ℕ) → digits_value n bs ≡ some v → all_word_bytes bs ≡ true
unfolding digits_value all_word_bytes
digits-words n v [] h = refl
digits-words n v (b ∷ bs) h =
    let (u, k) = let_through (is_digit b) (digits_value (n * 10 + (b - digit0)) bs) v h in
    ap (λ (t : Bool). t && all_word_bytes bs) (digit-word b u) ∙ digits-words (n * 10 + (b - digit0)) v bs k

-- a digit, and then digits
abbrev Digits : List ℕ → Type 0
Digits [] = ⊥
Digits (b ∷ bs) = (is_digit b ≡ true) × (all_word_bytes bs ≡ true)

first-digit : (n v b : ℕ) (bs : List ℕ) → digits_value n (b ∷ bs) ≡ some v → Digits (b ∷ bs)
unfolding digits_value
first-digit n v b bs h =
    let (u, k) = let_through (is_digit b) (digits_value (n * 10 + (b - digit0)) bs) v h in
    (u, digits-words (n * 10 + (b - digit0)) v bs k)

natural-digits : (s : List ℕ) (v : ℕ) → natural s ≡ some v → Digits s
unfolding natural
natural-digits [] v h = absurd (none-ne-some v h)
natural-digits (b ∷ []) v h = first-digit 0 v b [] h
natural-digits (b ∷ c ∷ cs) v h = go (eqb b digit0) h
  where
    go : (t : Bool) → if_else t none (digits_value 0 (b ∷ c ∷ cs)) ≡ some v → Digits (b ∷ c ∷ cs)
    go true h = absurd (none-ne-some v h)
    go false h = first-digit 0 v b (c ∷ cs) h

digits-hung : (s : List ℕ) → Digits s → Hung s
digits-hung [] d = absurd d
digits-hung (b ∷ bs) d = word-hung b bs (digit-word b d.0) d.1

minus-hung : (s : List ℕ) → Digits s → Hung (hyphen ∷ s)
minus-hung [] d = absurd d
minus-hung (b ∷ bs) d = let u = d.0 in (refl, rw u refl, digits-hung (b ∷ bs) d)

number-hung : (s : List ℕ) (z : ℤ) → numerals.number s ≡ some z → Hung s
unfolding numerals.number
number-hung [] z h = absurd (none-ne-some z h)
number-hung (b ∷ bs) z h = go (eqb b hyphen) refl h
  where
    less : (o : Option ℕ) → natural bs ≡ o → negative o ≡ some z → Digits bs
    less none q h = absurd (none-ne-some z h)
    less (some n) q h = natural-digits bs n q

    more : (o : Option ℕ) → natural (b ∷ bs) ≡ o → unsigned o ≡ some z → Digits (b ∷ bs)
    more none q h = absurd (none-ne-some z h)
    more (some n) q h = natural-digits (b ∷ bs) n q

    go : (t : Bool) → eqb b hyphen ≡ t → if_else t (negative (natural bs)) (unsigned (natural (b ∷ bs))) ≡ some z → Hung (b ∷ bs)
    go true e h = subst (λ (c : ℕ). Hung (c ∷ bs)) (sym (eqb-true b hyphen e)) (minus-hung bs (less (natural bs) refl h))
    go false e h = digits-hung (b ∷ bs) (more (natural (b ∷ bs)) refl h)

abbrev AllHung : List TokenEntry → Type 0
AllHung [] = Unit {0}
AllHung (e ∷ es) = Hung e.spelling × AllHung es

symbols-hung : AllHung symbols
unfolding symbols
symbols-hung =
    ((refl, refl, refl), ((refl, refl, refl), ((refl, refl, refl), ((refl, refl, refl), (refl, (refl, (refl, (refl, (refl, (refl, (refl, (refl, (refl, (refl, (refl, (refl, (refl, (refl, (refl, tt)))))))))))))))))))

lookup-hung : (es : List TokenEntry) (s : List ℕ) (t : Token) → AllHung es → token_spelt es s ≡ some t → Hung s
unfolding token_spelt
lookup-hung [] s t a h = absurd (none-ne-some t h)
lookup-hung (e ∷ es) s t a h = go (same s e.spelling) refl h (lookup-hung es s t a.1)
  where
    go : (v : Bool) → same s e.spelling ≡ v → if_else v (some e.token) (token_spelt es s) ≡ some t → (token_spelt es s ≡ some t → Hung s) → Hung s
    go true q h rest = subst (λ (r : List ℕ). Hung r) (sym (same-is s e.spelling q)) a.0
    go false q h rest = rest h

is-word-hung : (s : List ℕ) → is_word s ≡ true → Hung s
unfolding is_word
is-word-hung [] h = absurd (false≢true h)
is-word-hung (b ∷ bs) h = let (u, v) = split-and (is_letter b) (all_word_bytes bs) h in word-hung b bs (letter-word b u) v

token-hung : (s : List ℕ) (t : Token) → token_of s ≡ some t → Hung s
unfolding token_of or_number
token-hung s t h = go (is_word s) refl h
  where
    other : (o : Option Token) (q : Option ℤ) → token_spelt symbols s ≡ o → numerals.number s ≡ q → or_number o q ≡ some t → Hung s
    other none none k g h = absurd (none-ne-some t h)
    other none (some z) k g h = number-hung s z g
    other (some u) q k g h = lookup-hung symbols s u symbols-hung k

    go : (w : Bool) → is_word s ≡ w → if_else w (or_name (token_spelt words s) s) (or_number (token_spelt symbols s) (numerals.number s)) ≡ some t → Hung s
    go true e h = is-word-hung s e
    go false e h = other (token_spelt symbols s) (numerals.number s) refl refl h

table : Table token_of hang needs_space
table = record { hangs = token-hung; parts = λ b. refl }

pub tokens-exact : TokensExact
tokens-exact bs ts = scan-exact token_of hang needs_space table bs ts
