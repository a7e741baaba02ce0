-- The declared names of a text have letters.
use mathlib.Core.Path.{◌≡◌, refl, ap, subst, ◌∙◌}
use mathlib.Core.Bool.{Bool, true, false, false≢true}
use mathlib.Core.List.{List, [], ◌∷◌}
use mathlib.Core.Option.{Option, none, some, none-ne-some, some-injective}
use Prim.Native.Nat.{ℕ, zero, suc, ◌<◌}
use native.Mathlib.Omega.{arith}
use lib.IntN.{ℤ}
use lib.Dec.{leb}
use lib.ListN.{length, drop}
use Rattle.meaning.specs.Basics.{if_else}
use Rattle.meaning.specs.Lines.{same}
use Rattle.meaning.specs.Numerals as numerals
use Rattle.meaning.proofs.NumeralForm.{let_through}
use Rattle.grammar.specs.Grammar.{Token, name, number, minus, not-word, given, arith as operator, joins, round-open, round-close, square-open, square-close, mark}
use Rattle.grammar.specs.Scan.{Edge, Rendered, finish, after-token, after-blank, spell}
use Rattle.grammar.specs.Tokens.{hang, needs_space, TokenEntry, token_spelt, words, symbols, is_word, or_name, or_number, token_of}
use Rattle.grammar.specs.Outline.{Declaration, declare, Lined, lined}
use Rattle.grammar.specs.Lines.{ints, chans, Header, scalar, array, host-in, host-out}
use Rattle.grammar.specs.Names.{name_of}
use Rattle.grammar.specs.Places.{Spelt, done, next}
use Rattle.grammar.specs.LineBytes.{Indented, here, deeper, written, IsLine, is-line}
use Rattle.grammar.specs.TextBytes.{IsTextLine, text_line, grammar_fault}
use Rattle.grammar.specs.TextRows.{text_lines}
use Rattle.grammar.proofs.TextPlaces.{text-lines}
use Rattle.read_declared.proofs.HeaderLaws.{header_of}

-- a name has letters
abbrev Lettered : Token → Type 0
Lettered (name n) = 0 < length n
Lettered (number z) = Unit {0}
Lettered minus = Unit {0}
Lettered not-word = Unit {0}
Lettered given = Unit {0}
Lettered (operator k) = Unit {0}
Lettered (joins l) = Unit {0}
Lettered round-open = Unit {0}
Lettered round-close = Unit {0}
Lettered square-open = Unit {0}
Lettered square-close = Unit {0}
Lettered (mark m) = Unit {0}

-- Tokens ----------------------------------------------------------------------------------------------------------------------------

abbrev Each : List TokenEntry → Type 0
Each [] = Unit {0}
Each (e ∷ es) = Lettered e.token × Each es

words-lettered : Each words
unfolding words
words-lettered = (tt, (tt, (tt, (tt, (tt, (tt, (tt, (tt, (tt, (tt, (tt, (tt, (tt, (tt, (tt, (tt, (tt, (tt, (tt, (tt, (tt, (tt, tt))))))))))))))))))))))

symbols-lettered : Each symbols
unfolding symbols
symbols-lettered = (tt, (tt, (tt, (tt, (tt, (tt, (tt, (tt, (tt, (tt, (tt, (tt, (tt, (tt, (tt, (tt, (tt, (tt, (tt, tt)))))))))))))))))))

spelt-lettered : (es : List TokenEntry) (s : List ℕ) (t : Token) → Each es → token_spelt es s ≡ some t → Lettered t
unfolding token_spelt
spelt-lettered [] s t a h = absurd (none-ne-some t h)
spelt-lettered (e ∷ es) s t a h = go (same s e.spelling) h (spelt-lettered es s t a.1)
  where
    go : (v : Bool) → if_else v (some e.token) (token_spelt es s) ≡ some t → (token_spelt es s ≡ some t → Lettered t) → Lettered t
    go true h rest = subst Lettered (some-injective e.token t h) a.0
    go false h rest = rest h

word-lettered : (s : List ℕ) → is_word s ≡ true → 0 < length s
unfolding is_word
word-lettered [] h = absurd (false≢true h)
word-lettered (b ∷ bs) h = omega arith

token-lettered : (s : List ℕ) (t : Token) → token_of s ≡ some t → Lettered t
unfolding token_of or_name or_number
token-lettered s t h = go (is_word s) refl h
  where
    named : is_word s ≡ true → (o : Option Token) → token_spelt words s ≡ o → or_name o s ≡ some t → Lettered t
    named w none k h = let (_, e) = let_through (leb (length s) 31) (some (name s)) t h in subst Lettered (some-injective (name s) t e) (word-lettered s w)
    named w (some u) k h = spelt-lettered words s t words-lettered (k ∙ h)

    other : (o : Option Token) (q : Option ℤ) → token_spelt symbols s ≡ o → or_number o q ≡ some t → Lettered t
    other none none k h = absurd (none-ne-some t h)
    other none (some z) k h = subst Lettered (some-injective (number z) t h) tt
    other (some u) q k h = spelt-lettered symbols s t symbols-lettered (k ∙ h)

    go : (w : Bool) → is_word s ≡ w → if_else w (or_name (token_spelt words s) s) (or_number (token_spelt symbols s) (numerals.number s)) ≡ some t → Lettered t
    go true w h = named w (token_spelt words s) refl h
    go false w h = other (token_spelt symbols s) (numerals.number s) refl h

-- Lines -----------------------------------------------------------------------------------------------------------------------------

abbrev AllLettered : List Token → Type 0
AllLettered [] = Unit {0}
AllLettered (t ∷ ts) = Lettered t × AllLettered ts

rendered-lettered : {e : Edge Token} {ts : List Token} {bs : List ℕ} → Rendered token_of hang needs_space e ts bs → AllLettered ts
rendered-lettered finish = tt
rendered-lettered (after-token r) = rendered-lettered r
rendered-lettered (after-blank r) = rendered-lettered r
rendered-lettered (spell {t} {s} e f a r) = (token-lettered s t e, rendered-lettered r)

indented-lettered : {l : ℕ} {ts : List Token} {bs : List ℕ} → Indented (written l ts) bs → AllLettered ts
indented-lettered (here r) = rendered-lettered r
indented-lettered (deeper r) = indented-lettered r

header-lettered : {ts : List Token} {d : Declaration} → Header ts d → AllLettered ts → 0 < length (name_of d)
header-lettered (scalar ints) h = h.1.0
header-lettered (scalar chans) h = h.1.0
header-lettered (array ints) h = h.1.1.1.1.0
header-lettered (array chans) h = h.1.1.1.1.0
header-lettered host-in h = h.1.0
header-lettered host-out h = h.1.1.0

-- the name that a line declares, if it does
abbrev LetteredLine : Lined → Type 0
LetteredLine (lined l x) = (d : Declaration) → x ≡ declare d → 0 < length (name_of d)

line-lettered : {t : List ℕ} {y : Lined} → IsLine t y → LetteredLine y
line-lettered (is-line p s) = λ d e. header-lettered (header_of s d e) (indented-lettered p)

lines-lettered : {bs : List (List ℕ)} {ls : List Lined} → Spelt IsTextLine text_line bs ls → (j : ℕ) (y : Lined) (rest : List Lined) → drop j ls ≡ y ∷ rest → LetteredLine y
lines-lettered done zero y rest e = absurd (let z : ◌≡◌ {A = ℕ} 0 (suc (length rest)) = ap length e in omega arith)
lines-lettered done (suc j) y rest e = absurd (let z : ◌≡◌ {A = ℕ} 0 (suc (length rest)) = ap length e in omega arith)
lines-lettered (next {y = z} p s) zero y rest e = let i : z ≡ y = cc in subst LetteredLine i (line-lettered p.3)
lines-lettered (next p s) (suc j) y rest e = lines-lettered s j y rest e

pub declared-lettered : (text : List ℕ) → grammar_fault text ≡ none → (j l : ℕ) (d : Declaration) (rest : List Lined) → drop j (text_lines text) ≡ lined l (declare d) ∷ rest → 0 < length (name_of d)
declared-lettered text g j l d rest e = lines-lettered (text-lines text g).1 j (lined l (declare d)) rest e d refl
