-- A line is read exactly if it is of the grammar, and as one line: no mark stands in an expression, so the first mark parts the line where the grammar does.
use mathlib.Core.Path.{◌≡◌, refl, sym, ap, ap₂, ◌∙◌}
use mathlib.Core.List.{List, [], ◌∷◌, ◌++◌}
use mathlib.Core.Option.{Option, none, some, none-ne-some, some-injective}
use Prim.Native.Nat.{ℕ}
use Rattle.grammar.specs.Grammar.{Mark, a-skip, a-stop, a-seq, a-par, an-if, an-alt, a-while, becomes, asks, tells, ampersand, an_int, a-chan, a-hostin, a-hostout, colon, unused, Token, name, number, minus, not-word, given, arith, joins, round-open, round-close, square-open, square-close, mark, Syn, at, Before, minus-before, not-before, Between, minus-between, arith-between, Element, alone, subscripted, element, numeral, bracketed, Phrase, plain, prefixed, asked, paired, chained, last-operand, more}
use Rattle.grammar.specs.Machine.{behind-given, want, reach, close, phrase, operand_of, element_of}
use Rattle.grammar.specs.Outline.{OutlineLine, assign, input, output, while, test, guarded, allowed}
use Rattle.grammar.specs.Lines as lines
use Rattle.grammar.specs.Lines.{ints, chans, declares, Alone, skips, stops, seqs, pars, chooses, selects, Spells, word, repeats, assigns, inputs, outputs, tests, guards, allows, token_mark, Cut, uncut, parted, before, cut_at, cut_at_mark, single, pair, while_line, guard_of, guard_after, of_cut, line_spelt}
use Rattle.grammar.specs.LineClaims.{LineComplete, LineSound, LineUnique}
use Rattle.grammar.proofs.Complete.{complete, element-complete}
use Rattle.grammar.proofs.Headers.{sized-header, in-header, out-header, header_read}
use Rattle.grammar.proofs.Sound.{sound, element-sound}

-- no token is a mark
abbrev Unmarked : List Token → Type 0
Unmarked [] = Unit {0}
Unmarked (t ∷ ts) = (token_mark t ≡ none) × Unmarked ts

unmarked-append : (ts us : List Token) → Unmarked ts → Unmarked us → Unmarked (ts ++ us)
unmarked-append [] us h g = g
unmarked-append (t ∷ ts) us h g = (h.0, unmarked-append ts us h.1 g)

before-unmarked : {t : Token} {k : ℕ} → Before t k → token_mark t ≡ none
unfolding token_mark
before-unmarked minus-before = refl
before-unmarked not-before = refl

between-unmarked : {t : Token} {k : ℕ} → Between t k → token_mark t ≡ none
unfolding token_mark
between-unmarked minus-between = refl
between-unmarked arith-between = refl

phrase-unmarked : {ts : List Token} {e : Syn} → Phrase ts e → Unmarked ts
unfolding token_mark
phrase-unmarked p = elim p as (λ ts e q. Unmarked ts) (λ ts e q. Unmarked ts) (λ ts e q. Unmarked ts) (λ l ts e q. Unmarked ts) [
  | alone ↦ (refl, tt)
  | subscripted {ts} (q → h) ↦ (refl, (refl, unmarked-append ts (square-close ∷ []) h (refl, tt)))
  | element (q → h) ↦ h
  | numeral ↦ (refl, tt)
  | bracketed {ts} (q → h) ↦ (refl, unmarked-append ts (round-close ∷ []) h (refl, tt))
  | plain (q → h) ↦ h
  | prefixed b (q → h) ↦ (before-unmarked b, h)
  | asked (q → h) ↦ (refl, h)
  | paired {t} {ts} {us} (q → h) b (u → i) ↦ unmarked-append ts (t ∷ us) h (between-unmarked b, i)
  | chained {l} {ts} {us} (q → h) (c → i) ↦ unmarked-append ts (joins l ∷ us) h (refl, i)
  | last-operand (q → h) ↦ h
  | more {l} {ts} {us} (q → h) (c → i) ↦ unmarked-append ts (joins l ∷ us) h (refl, i)
]

element-unmarked : {ts : List Token} {e : Syn} → Element ts e → Unmarked ts
element-unmarked p = phrase-unmarked (plain (element p))

cut-none : (ts : List Token) → Unmarked ts → cut_at_mark ts ≡ uncut ts
unfolding cut_at_mark cut_at before
cut-none [] h = refl
cut-none (t ∷ ts) h = rw (h.0, cut-none ts h.1) refl

cut-first : (ts : List Token) (m : Mark) (us : List Token) → Unmarked ts → cut_at_mark (ts ++ (mark m ∷ us)) ≡ parted ts m us
unfolding cut_at_mark cut_at before token_mark
cut-first [] m us h = refl
cut-first (t ∷ ts) m us h = rw (h.0, cut-first ts m us h.1) refl

element-read : {ts : List Token} {e : Syn} → Element ts e → element_of ts ≡ some e
unfolding element_of operand_of
element-read p = ap operand_of (element-complete p)

word_read : {m : Mark} {x : OutlineLine} → Alone m x → of_cut (parted [] m []) ≡ some x
unfolding of_cut lines.word_alone
word_read skips = refl
word_read stops = refl
word_read seqs = refl
word_read pars = refl
word_read chooses = refl
word_read selects = refl

pub line-complete : LineComplete
unfolding line_spelt of_cut single pair while_line guard_of guard_after lines.word_alone
line-complete ts x (declares h) = header_read h
line-complete ts x (word {m} a) = ap of_cut (cut-first [] m [] tt) ∙ word_read a
line-complete ts x (repeats {ts = us} {e} p) = ap of_cut (cut-first [] a-while us tt) ∙ rw (complete us e p) refl
line-complete ts x (assigns {ts = vs} {us} {a} {e} p q) = ap of_cut (cut-first vs becomes us (element-unmarked p)) ∙ rw (element-read p, complete us e q) refl
line-complete ts x (inputs {ts = vs} {us} p q) = ap of_cut (cut-first vs asks us (element-unmarked p)) ∙ rw (element-read p, element-read q) refl
line-complete ts x (outputs {ts = vs} {us} {c} {e} p q) = ap of_cut (cut-first vs tells us (element-unmarked p)) ∙ rw (element-read p, complete us e q) refl
line-complete ts x (tests {e} p) = ap of_cut (cut-none ts (phrase-unmarked p)) ∙ rw (complete ts e p) refl
line-complete ts x (guards {ts = ws} {us} {vs} {e} p q r) =
    ap of_cut (cut-first ws ampersand (us ++ (mark asks ∷ vs)) (phrase-unmarked p))
    ∙ ap₂ guard_after (complete ws e p) (cut-first us asks vs (element-unmarked q)) ∙ rw (element-read q, element-read r) refl
line-complete ts x (allows {ts = ws} {e} p) =
    ap of_cut (cut-first ws ampersand (mark a-skip ∷ []) (phrase-unmarked p)) ∙ ap₂ guard_after (complete ws e p) (cut-first [] a-skip [] tt)

pub line-unique : LineUnique
line-unique ts x y p q = some-injective x y (sym (line-complete ts x p) ∙ line-complete ts y q)

-- the tokens that were parted
rejoin : Cut → List Token
rejoin (uncut ts) = ts
rejoin (parted ts m us) = ts ++ (mark m ∷ us)

is-mark : (t : Token) (m : Mark) → token_mark t ≡ some m → t ≡ mark m
unfolding token_mark
is-mark (name n) m h = absurd (none-ne-some m h)
is-mark (number z) m h = absurd (none-ne-some m h)
is-mark minus m h = absurd (none-ne-some m h)
is-mark not-word m h = absurd (none-ne-some m h)
is-mark given m h = absurd (none-ne-some m h)
is-mark (arith k) m h = absurd (none-ne-some m h)
is-mark (joins l) m h = absurd (none-ne-some m h)
is-mark round-open m h = absurd (none-ne-some m h)
is-mark round-close m h = absurd (none-ne-some m h)
is-mark square-open m h = absurd (none-ne-some m h)
is-mark square-close m h = absurd (none-ne-some m h)
is-mark (mark k) m h = ap mark (some-injective k m h)

rejoins : (ts : List Token) → rejoin (cut_at_mark ts) ≡ ts
unfolding rejoin cut_at_mark cut_at before
rejoins [] = refl
rejoins (t ∷ ts) = go (token_mark t) (cut_at_mark ts) refl (rejoins ts)
  where
    go : (o : Option Mark) (c : Cut) → token_mark t ≡ o → rejoin c ≡ ts → rejoin (cut_at o t ts c) ≡ t ∷ ts
    go none (uncut us) h g = ap (λ (l : List Token). t ∷ l) g
    go none (parted us m vs) h g = ap (λ (l : List Token). t ∷ l) g
    go (some m) c h g = ap (λ (k : Token). k ∷ ts) (sym (is-mark t m h))

element-from : (ts : List Token) (e : Syn) → element_of ts ≡ some e → Element ts e
unfolding element_of operand_of
element-from ts e h = go (close (reach (some (want behind-given [])) ts)) refl h
  where
    go : (o : Option Syn) → close (reach (some (want behind-given [])) ts) ≡ o → operand_of o ≡ some e → Element ts e
    go none g h = absurd (none-ne-some e h)
    go (some r) g h =
        let (a, p, z) = element-sound ts r g in
        rw (some-injective a e (ap (λ (b : Syn). operand_of (some b)) z ∙ h)) at p

single-from : (f : Syn → OutlineLine) (o : Option Syn) (x : OutlineLine) → single f o ≡ some x → (e : Syn) × (o ≡ some e) × (f e ≡ x)
unfolding single
single-from f none x h = absurd (none-ne-some x h)
single-from f (some e) x h = (e, refl, some-injective (f e) x h)

pair-from : (f : Syn → Syn → OutlineLine) (o q : Option Syn) (x : OutlineLine) → pair f o q ≡ some x → (a : Syn) × (b : Syn) × (o ≡ some a) × (q ≡ some b) × (f a b ≡ x)
unfolding pair
pair-from f none q x h = absurd (none-ne-some x h)
pair-from f (some a) q x h = let (b, g, z) = single-from (f a) q x h in (a, b, refl, g, z)

word-from : {m : Mark} {x : OutlineLine} (ts us : List Token) (y : OutlineLine) → Alone m x → lines.word_alone x ts us ≡ some y → Spells (ts ++ (mark m ∷ us)) y
unfolding lines.word_alone
word-from {x} [] [] y a h = rw (some-injective x y h) at (word a)
word-from [] (t ∷ us) y a h = absurd (none-ne-some y h)
word-from (t ∷ ts) us y a h = absurd (none-ne-some y h)

repeat-from : (ts us : List Token) (x : OutlineLine) → while_line ts us ≡ some x → Spells (ts ++ (mark a-while ∷ us)) x
unfolding while_line
repeat-from [] us x h = let (e, p, z) = single-from while (phrase us) x h in rw z at (repeats (sound us e p))
repeat-from (t ∷ ts) us x h = absurd (none-ne-some x h)

allow-from : (e : Syn) (vs ts us : List Token) (x : OutlineLine) → Phrase vs e → lines.word_alone (allowed e) ts us ≡ some x → Spells (vs ++ (mark ampersand ∷ (ts ++ (mark a-skip ∷ us)))) x
unfolding lines.word_alone
allow-from e vs [] [] x p h = rw (some-injective (allowed e) x h) at (allows p)
allow-from e vs [] (t ∷ us) x p h = absurd (none-ne-some x h)
allow-from e vs (t ∷ ts) us x p h = absurd (none-ne-some x h)

guard-from : (e : Syn) (vs : List Token) (c : Cut) (x : OutlineLine) → Phrase vs e → guard_of e c ≡ some x → Spells (vs ++ (mark ampersand ∷ rejoin c)) x
unfolding rejoin guard_of
guard-from e vs (uncut ts) x p h = absurd (none-ne-some x h)
guard-from e vs (parted ts a-skip us) x p h = allow-from e vs ts us x p h
guard-from e vs (parted ts a-stop us) x p h = absurd (none-ne-some x h)
guard-from e vs (parted ts a-seq us) x p h = absurd (none-ne-some x h)
guard-from e vs (parted ts a-par us) x p h = absurd (none-ne-some x h)
guard-from e vs (parted ts an-if us) x p h = absurd (none-ne-some x h)
guard-from e vs (parted ts an-alt us) x p h = absurd (none-ne-some x h)
guard-from e vs (parted ts a-while us) x p h = absurd (none-ne-some x h)
guard-from e vs (parted ts becomes us) x p h = absurd (none-ne-some x h)
guard-from e vs (parted ts asks us) x p h =
    let (c, a, q, r, z) = pair-from (guarded e) (element_of ts) (element_of us) x h in
    rw z at (guards p (element-from ts c q) (element-from us a r))
guard-from e vs (parted ts tells us) x p h = absurd (none-ne-some x h)
guard-from e vs (parted ts ampersand us) x p h = absurd (none-ne-some x h)
guard-from e vs (parted ts an_int us) x p h = absurd (none-ne-some x h)
guard-from e vs (parted ts a-chan us) x p h = absurd (none-ne-some x h)
guard-from e vs (parted ts a-hostin us) x p h = absurd (none-ne-some x h)
guard-from e vs (parted ts a-hostout us) x p h = absurd (none-ne-some x h)
guard-from e vs (parted ts colon us) x p h = absurd (none-ne-some x h)
guard-from e vs (parted ts (unused k) us) x p h = absurd (none-ne-some x h)

guard-after : (vs us : List Token) (o : Option Syn) (x : OutlineLine) → phrase vs ≡ o → guard_after o (cut_at_mark us) ≡ some x → Spells (vs ++ (mark ampersand ∷ us)) x
unfolding guard_after
guard-after vs us none x g h = absurd (none-ne-some x h)
guard-after vs us (some e) x g h = rw (rejoins us) at (guard-from e vs (cut_at_mark us) x (sound vs e g) h)

from_cut : (c : Cut) (x : OutlineLine) → of_cut c ≡ some x → Spells (rejoin c) x
unfolding rejoin of_cut
from_cut (uncut ts) x h = let (e, p, z) = single-from test (phrase ts) x h in rw z at (tests (sound ts e p))
from_cut (parted ts a-skip us) x h = word-from ts us x skips h
from_cut (parted ts a-stop us) x h = word-from ts us x stops h
from_cut (parted ts a-seq us) x h = word-from ts us x seqs h
from_cut (parted ts a-par us) x h = word-from ts us x pars h
from_cut (parted ts an-if us) x h = word-from ts us x chooses h
from_cut (parted ts an-alt us) x h = word-from ts us x selects h
from_cut (parted ts a-while us) x h = repeat-from ts us x h
from_cut (parted ts becomes us) x h = let (a, e, p, q, z) = pair-from assign (element_of ts) (phrase us) x h in rw z at (assigns (element-from ts a p) (sound us e q))
from_cut (parted ts asks us) x h = let (c, a, p, q, z) = pair-from input (element_of ts) (element_of us) x h in rw z at (inputs (element-from ts c p) (element-from us a q))
from_cut (parted ts tells us) x h = let (c, e, p, q, z) = pair-from output (element_of ts) (phrase us) x h in rw z at (outputs (element-from ts c p) (sound us e q))
from_cut (parted ts ampersand us) x h = guard-after ts us (phrase ts) x refl h
from_cut (parted ts an_int us) x h = sized-header ts us x ints h
from_cut (parted ts a-chan us) x h = sized-header ts us x chans h
from_cut (parted ts a-hostin us) x h = in-header ts us x h
from_cut (parted ts a-hostout us) x h = out-header ts us x h
from_cut (parted ts colon us) x h = absurd (none-ne-some x h)
from_cut (parted ts (unused k) us) x h = absurd (none-ne-some x h)

pub line-sound : LineSound
unfolding line_spelt
line-sound ts x h = rw (rejoins ts) at (from_cut (cut_at_mark ts) x h)
