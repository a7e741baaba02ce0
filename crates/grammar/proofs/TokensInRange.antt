-- The numbers and operators of a text are in range, since bytes that are read as a number are one of 32 bits and the table of tokens has the operators of document 01; so are those of its expressions.
use mathlib.Core.Path.{◌≡◌, refl, sym, subst, ◌∙◌}
use mathlib.Core.Bool.{Bool, true, false}
use mathlib.Core.Logic.{⊎_elim}
use mathlib.Core.List.Memᴰ
use mathlib.Core.List.{List, [], ◌∷◌, ◌++◌, Memᴰ}
use mathlib.Core.Option.{Option, none, some, none-ne-some, some-injective}
use Prim.Native.Nat.{ℕ, zero, suc}
use native.Mathlib.Omega.{arith}
use lib.IntN.{ℤ, pos, negsuc}
use lib.Dec.{eqb, leb}
use lib.ListN.{length}
use lib.Signed.{◌≤ℤ◌, le_z_yes}
use Rattle.meaning.specs.Basics.{if_else}
use Rattle.meaning.specs.Limits.{min_number, max_number}
use Rattle.meaning.specs.Texts.{hyphen}
use Rattle.meaning.specs.Lines.{same}
use Rattle.meaning.specs.Numerals.{natural, unsigned, negative}
use Rattle.meaning.specs.Numerals as numerals
use Rattle.meaning.proofs.NumeralForm.{let_through}
use Rattle.grammar.specs.Grammar.{Link, both, either, Token, name, number, minus, not-word, given, arith as operator, joins, round-open, round-close, square-open, square-close, mark, Syn, literal, bare, at, monadic, dyadic, link_number, Before, minus-before, not-before, Between, minus-between, arith-between, Element, alone, subscripted, element, numeral, bracketed, Phrase, plain, prefixed, asked, paired, chained, last-operand, more}
use Rattle.grammar.specs.Scan.{Edge, Rendered, finish, after-token, after-blank, spell}
use Rattle.grammar.specs.Tokens.{hang, needs_space, TokenEntry, token_spelt, words, symbols, is_word, or_name, or_number, token_of}
use Rattle.grammar.specs.Outline.{OutlineLine, declare, skip, stop, assign, input, output, seq, par, ifs, alts, while, test, guarded, allowed, Lined, lined}
use Rattle.grammar.specs.Lines.{Spells, declares, word, repeats, assigns, inputs, outputs, tests, guards, allows, skips, stops, seqs, pars, chooses, selects}
use Rattle.grammar.specs.Places.{Spelt, done, next}
use Rattle.grammar.specs.LineBytes.{Indented, here, deeper, written, IsLine, is-line}
use Rattle.grammar.specs.TextBytes.{IsTextLine, text_line}

-- Tokens ----------------------------------------------------------------------------------------------------------------------------

abbrev Of32Bits : ℤ → Type 0
Of32Bits z = (min_number ≤ℤ z) × (z ≤ℤ max_number)

abbrev InRange : Token → Type 0
InRange (name n) = Unit {0}
InRange (number z) = Of32Bits z
InRange minus = Unit {0}
InRange not-word = Unit {0}
InRange given = Unit {0}
InRange (operator k) = leb k 15 ≡ true
InRange (joins l) = Unit {0}
InRange round-open = Unit {0}
InRange round-close = Unit {0}
InRange square-open = Unit {0}
InRange square-close = Unit {0}
InRange (mark m) = Unit {0}

-- a number that is read is one of 32 bits
unsigned-bits : (o : Option ℕ) (z : ℤ) → unsigned o ≡ some z → Of32Bits z
unsigned-bits none z e = absurd (none-ne-some z e)
unsigned-bits (some n) z e = let (h, k) = let_through (leb n 2147483647) (some (pos n)) z e in subst Of32Bits (some-injective (pos n) z k) (le_z_yes tt, le_z_yes (rw h tt))

negative-bits : (o : Option ℕ) (z : ℤ) → negative o ≡ some z → Of32Bits z
negative-bits none z e = absurd (none-ne-some z e)
negative-bits (some zero) z e = absurd (none-ne-some z e)
negative-bits (some (suc n)) z e = let (h, k) = let_through (leb n 2147483647) (some (negsuc n)) z e in subst Of32Bits (some-injective (negsuc n) z k) (le_z_yes (rw h tt), le_z_yes tt)

number-bits : (s : List ℕ) (z : ℤ) → numerals.number s ≡ some z → Of32Bits z
unfolding numerals.number
number-bits [] z e = absurd (none-ne-some z e)
number-bits (b ∷ bs) z e = go (eqb b hyphen) e
  where
    go : (t : Bool) → if_else t (negative (natural bs)) (unsigned (natural (b ∷ bs))) ≡ some z → Of32Bits z
    go true h = negative-bits (natural bs) z h
    go false h = unsigned-bits (natural (b ∷ bs)) z h

abbrev AllOf : List TokenEntry → Type 0
AllOf [] = Unit {0}
AllOf (e ∷ es) = InRange e.token × AllOf es

words-range : AllOf words
unfolding words
words-range = (tt, (tt, (tt, (tt, (tt, (tt, (tt, (tt, (tt, (tt, (tt, (refl, (refl, (refl, (refl, (tt, (tt, (tt, (tt, (tt, (tt, (tt, tt))))))))))))))))))))))

symbols-range : AllOf symbols
unfolding symbols
symbols-range = (tt, (refl, (refl, (refl, (tt, (refl, (refl, (refl, (tt, (tt, (tt, (tt, (refl, (tt, (refl, (refl, (tt, (tt, (tt, tt)))))))))))))))))))

spelt-range : (es : List TokenEntry) (s : List ℕ) (t : Token) → AllOf es → token_spelt es s ≡ some t → InRange t
unfolding token_spelt
spelt-range [] s t a h = absurd (none-ne-some t h)
spelt-range (e ∷ es) s t a h = go (same s e.spelling) h (spelt-range es s t a.1)
  where
    go : (v : Bool) → if_else v (some e.token) (token_spelt es s) ≡ some t → (token_spelt es s ≡ some t → InRange t) → InRange t
    go true h rest = subst InRange (some-injective e.token t h) a.0
    go false h rest = rest h

token-range : (s : List ℕ) (t : Token) → token_of s ≡ some t → InRange t
unfolding token_of or_name or_number
token-range s t h = go (is_word s) h
  where
    named : (o : Option Token) → token_spelt words s ≡ o → or_name o s ≡ some t → InRange t
    named none k h = let (_, e) = let_through (leb (length s) 31) (some (name s)) t h in subst InRange (some-injective (name s) t e) tt
    named (some u) k h = spelt-range words s t words-range (k ∙ h)

    other : (o : Option Token) (q : Option ℤ) → token_spelt symbols s ≡ o → numerals.number s ≡ q → or_number o q ≡ some t → InRange t
    other none none k g h = absurd (none-ne-some t h)
    other none (some z) k g h = subst InRange (some-injective (number z) t h) (number-bits s z g)
    other (some u) q k g h = spelt-range symbols s t symbols-range (k ∙ h)

    go : (w : Bool) → if_else w (or_name (token_spelt words s) s) (or_number (token_spelt symbols s) (numerals.number s)) ≡ some t → InRange t
    go true h = named (token_spelt words s) refl h
    go false h = other (token_spelt symbols s) (numerals.number s) refl refl h

abbrev AllInRange : List Token → Type 0
AllInRange [] = Unit {0}
AllInRange (t ∷ ts) = InRange t × AllInRange ts

rendered-range : {e : Edge Token} {ts : List Token} {bs : List ℕ} → Rendered token_of hang needs_space e ts bs → AllInRange ts
rendered-range finish = tt
rendered-range (after-token r) = rendered-range r
rendered-range (after-blank r) = rendered-range r
rendered-range (spell {t} {s} e f a r) = (token-range s t e, rendered-range r)

indented-range : {l : ℕ} {ts : List Token} {bs : List ℕ} → Indented (written l ts) bs → AllInRange ts
indented-range (here r) = rendered-range r
indented-range (deeper r) = indented-range r

-- Expressions -----------------------------------------------------------------------------------------------------------------------

-- a name, with or without a subscript
abbrev pub IsElement : Syn → Type 0
IsElement (literal z) = ⊥
IsElement (bare n) = Unit {0}
IsElement (at n e) = Unit {0}
IsElement (monadic k e) = ⊥
IsElement (dyadic k e f) = ⊥

-- literals are of 32 bits, operators are those of document 01, and operator 2 stands before an element
abbrev pub Ranged : Syn → Type 0
Ranged (literal z) = Of32Bits z
Ranged (bare n) = Unit {0}
Ranged (at n e) = Ranged e
Ranged (monadic k e) = (leb k 2 ≡ true) × (k ≡ 2 → IsElement e) × Ranged e
Ranged (dyadic k e f) = (leb k 15 ≡ true) × Ranged e × Ranged f

range_split : (ts us : List Token) → AllInRange (ts ++ us) → AllInRange ts × AllInRange us
range_split [] us h = (tt, h)
range_split (t ∷ ts) us h = let (a, b) = range_split ts us h.1 in ((h.0, a), b)

before-range : {t : Token} {k : ℕ} → Before t k → (e : Syn) → (leb k 2 ≡ true) × (k ≡ 2 → IsElement e)
before-range minus-before e = (refl, λ h. absurd (omega (arith, h)))
before-range not-before e = (refl, λ h. absurd (omega (arith, h)))

between-range : {t : Token} {k : ℕ} → Between t k → InRange t → leb k 15 ≡ true
between-range minus-between h = refl
between-range arith-between h = h

link-range : (l : Link) → leb (link_number l) 15 ≡ true
link-range both = refl
link-range either = refl

-- of tokens that are in range
abbrev Kept : List Token → Syn → Type 0
Kept ts e = AllInRange ts → Ranged e

paired-kept : (t : Token) (k : ℕ) (ts us : List Token) (e f : Syn) → Kept ts e → (InRange t → leb k 15 ≡ true) → Kept us f → Kept (ts ++ (t ∷ us)) (dyadic k e f)
paired-kept t k ts us e f p b q h = let (u, v) = range_split ts (t ∷ us) h in (b v.0, p u, q v.1)

phrase-range : {ts : List Token} {e : Syn} → Phrase ts e → Kept ts e
phrase-range p = elim p as (λ ts e q. Kept ts e × IsElement e) (λ ts e q. Kept ts e) (λ ts e q. Kept ts e) (λ l ts e q. Kept ts e) [
  | alone ↦ (λ h. tt, tt)
  | subscripted {ts} (q → k) ↦ (λ h. k (range_split ts (square-close ∷ []) h.1.1).0, tt)
  | element (q → k) ↦ k.0
  | numeral ↦ λ h. h.0
  | bracketed {ts} (q → k) ↦ λ h. k (range_split ts (round-close ∷ []) h.1).0
  | plain (q → k) ↦ k
  | prefixed {e} b (q → k) ↦ λ h. let (l, m) = before-range b e in (l, m, k h.1)
  | asked (q → k) ↦ λ h. (refl, λ z. k.1, k.0 h.1)
  | paired {t} {k} {ts} {us} {e} {f} (q → i) b (u → j) ↦ paired-kept t k ts us e f i (between-range b) j
  | chained {l} {ts} {us} {e} {f} (q → i) (c → j) ↦ paired-kept (joins l) (link_number l) ts us e f i (λ h. link-range l) j
  | last-operand (q → k) ↦ k
  | more {l} {ts} {us} {e} {f} (q → i) (c → j) ↦ paired-kept (joins l) (link_number l) ts us e f i (λ h. link-range l) j
]

-- Lines -----------------------------------------------------------------------------------------------------------------------------

abbrev pub RangedElement : Syn → Type 0
RangedElement a = IsElement a × Ranged a

abbrev pub RangedLine : OutlineLine → Type 0
RangedLine (declare d) = Unit {0}
RangedLine skip = Unit {0}
RangedLine stop = Unit {0}
RangedLine (assign a e) = RangedElement a × Ranged e
RangedLine (input c a) = RangedElement c × RangedElement a
RangedLine (output c e) = RangedElement c × Ranged e
RangedLine seq = Unit {0}
RangedLine par = Unit {0}
RangedLine ifs = Unit {0}
RangedLine alts = Unit {0}
RangedLine (while e) = Ranged e
RangedLine (test e) = Ranged e
RangedLine (guarded e c a) = Ranged e × RangedElement c × RangedElement a
RangedLine (allowed e) = Ranged e

element-is : {ts : List Token} {a : Syn} → Element ts a → IsElement a
element-is alone = tt
element-is (subscripted p) = tt

element-range : {ts : List Token} {a : Syn} → Element ts a → AllInRange ts → RangedElement a
element-range p h = (element-is p, phrase-range (plain (element p)) h)

spelt-line-range : {ts : List Token} {x : OutlineLine} → Spells ts x → AllInRange ts → RangedLine x
spelt-line-range (declares d) h = tt
spelt-line-range (word skips) h = tt
spelt-line-range (word stops) h = tt
spelt-line-range (word seqs) h = tt
spelt-line-range (word pars) h = tt
spelt-line-range (word chooses) h = tt
spelt-line-range (word selects) h = tt
spelt-line-range (repeats p) h = phrase-range p h.1
spelt-line-range (assigns {ts} {us} p q) h = let (u, v) = range_split ts _ h in (element-range p u, phrase-range q v.1)
spelt-line-range (inputs {ts} {us} p q) h = let (u, v) = range_split ts _ h in (element-range p u, element-range q v.1)
spelt-line-range (outputs {ts} {us} p q) h = let (u, v) = range_split ts _ h in (element-range p u, phrase-range q v.1)
spelt-line-range (tests p) h = phrase-range p h
spelt-line-range (guards {ts} {us} {vs} p q r) h =
    let (u, v) = range_split ts _ h in
    let (w, z) = range_split us _ v.1 in
    (phrase-range p u, element-range q w, element-range r z.1)
spelt-line-range (allows {ts} p) h = phrase-range p (range_split ts _ h).0

abbrev pub InRangeLine : Lined → Type 0
InRangeLine (lined l x) = RangedLine x

line-range : {t : List ℕ} {y : Lined} → IsLine t y → InRangeLine y
line-range (is-line p s) = spelt-line-range s (indented-range p)

-- the lines of a text of the grammar
pub lines-range : {bs : List (List ℕ)} {ls : List Lined} → Spelt IsTextLine text_line bs ls → (y : Lined) → Memᴰ y ls → InRangeLine y
lines-range done y m = absurd (Memᴰ.not-nil m)
lines-range (next {y = z} p s) y m = ⊎_elim (λ e. subst InRangeLine (sym e) (line-range p.3)) (λ r. lines-range s y r) (Memᴰ.cases_cons m)
