-- Every phrase is read as the expression that it spells, by induction on the derivation: from a state that wants an operand, its tokens lead to the state that has it.
use mathlib.Core.Path.{◌≡◌, refl}
use mathlib.Core.List.{List, [], ◌∷◌, ◌++◌, append_assoc, append-nil}
use mathlib.Core.Option.{Option, none, some}
use Prim.Native.Nat.{ℕ}
use lib.IntN.{ℤ}
use Rattle.grammar.specs.Grammar.{Link, both, either, Token, name, number, given, joins, round-open, round-close, square-open, square-close, Syn, literal, bare, at, monadic, dyadic, link_number, Before, minus-before, not-before, Between, minus-between, arith-between, Element, alone, subscripted, element, numeral, bracketed, Phrase, plain, prefixed, asked, paired, chained, last-operand, more}
use Rattle.grammar.specs.Machine.{Slot, first, behind, behind-given, second, linked, Frame, round, square, ReaderState, want, have, wrap, finish, unless_given, if_first, link_operand, round_end, square_end, square_start, begin, follow, feed, step, reach, close, phrase}
use Rattle.grammar.specs.PhraseClaims.{PhrasesComplete}

-- the tokens lead from one state to an end
abbrev Ends : Option Syn → ReaderState → List Token → Type 0
Ends r q us = close (reach (some q) us) ≡ r

-- where a token leads to a state, reading goes on from there
onward : {r : Option Syn} {o : Option ReaderState} {q : ReaderState} (us : List Token) → o ≡ some q → Ends r q us → close (reach o us) ≡ r
onward us h k = rw h k

abbrev Free : Slot → Type 0
Free s = (q : ReaderState) → unless_given s q ≡ some q

link-again : (l : Link) (ps : List Syn) (fs : List Frame) (e : Syn) → link_operand l (linked l ps) fs e ≡ some (want (linked l (e ∷ ps)) fs)
unfolding link_operand
link-again both ps fs e = refl
link-again either ps fs e = refl

-- reading from where an operand, a phrase or a chain is wanted comes to what reading from where it has been read comes to
abbrev ReadElement : List Token → Syn → Type 0
ReadElement ts e = (s : Slot) (fs : List Frame) (us : List Token) (r : Option Syn)
    → ((o : Option (List ℕ)) → Ends r (have s fs e o) us) → Ends r (want s fs) (ts ++ us)

abbrev ReadOperand : List Token → Syn → Type 0
ReadOperand ts e = (s : Slot) → Free s → (fs : List Frame) (us : List Token) (r : Option Syn)
    → ((o : Option (List ℕ)) → Ends r (have s fs e o) us) → Ends r (want s fs) (ts ++ us)

abbrev ReadPhrase : List Token → Syn → Type 0
ReadPhrase ts e = (fs : List Frame) (us : List Token) (r : Option Syn)
    → ((s : Slot) (f : Syn) (o : Option (List ℕ)) → finish s f ≡ e → Ends r (have s fs f o) us) → Ends r (want first fs) (ts ++ us)

abbrev ReadChain : Link → List Token → Syn → Type 0
ReadChain l ts e = (ps : List Syn) (fs : List Frame) (us : List Token) (r : Option Syn)
    → ((qs : List Syn) (f : Syn) (o : Option (List ℕ)) → wrap l qs f ≡ wrap l ps e → Ends r (have (linked l qs) fs f o) us)
    → Ends r (want (linked l ps) fs) (ts ++ us)

read-alone : (n : List ℕ) → ReadElement (name n ∷ []) (bare n)
unfolding begin feed step reach
read-alone n s fs us r k = k (some n)

read-subscripted : (n : List ℕ) (ts : List Token) (e : Syn) → ReadPhrase ts e → ReadElement (name n ∷ square-open ∷ (ts ++ (square-close ∷ []))) (at n e)
unfolding square_end square_start begin follow feed step reach
read-subscripted n ts e p s fs us r k = rw append_assoc (p (square n s ∷ fs) (square-close ∷ us) r (λ q f o h. rw h (k none)))

read-numeral : (z : ℤ) → ReadOperand (number z ∷ []) (literal z)
unfolding begin feed step reach
read-numeral z s free fs us r k = onward us (free (have s fs (literal z) none)) (k none)

read-bracketed : (ts : List Token) (e : Syn) → ReadPhrase ts e → ReadOperand (round-open ∷ (ts ++ (round-close ∷ []))) e
unfolding round_end begin follow feed step reach
read-bracketed ts e p s free fs us r k =
    onward ((ts ++ (round-close ∷ [])) ++ us) (free (want first (round s ∷ fs)))
    (rw append_assoc (p (round s ∷ fs) (round-close ∷ us) r (λ q f o h. rw h (k none))))

read_plain : (ts : List Token) (e : Syn) → ReadOperand ts e → ReadPhrase ts e
unfolding unless_given finish
read_plain ts e p fs us r k = p first (λ q. refl) fs us r (λ o. k first e o refl)

read-prefixed : (t : Token) (i : ℕ) (ts : List Token) (e : Syn) → Before t i → ReadOperand ts e → ReadPhrase (t ∷ ts) (monadic i e)
unfolding unless_given if_first finish begin feed step reach
read-prefixed t i ts e minus-before p fs us r k = p (behind 0) (λ q. refl) fs us r (λ o. k (behind 0) e o refl)
read-prefixed t i ts e not-before p fs us r k = p (behind 1) (λ q. refl) fs us r (λ o. k (behind 1) e o refl)

read_asked : (ts : List Token) (e : Syn) → ReadElement ts e → ReadPhrase (given ∷ ts) (monadic 2 e)
unfolding if_first finish begin feed step reach
read_asked ts e p fs us r k = p behind-given fs us r (λ o. k behind-given e o refl)

follow-between : {t : Token} {i : ℕ} → Between t i → (fs : List Frame) (e : Syn) (o : Option (List ℕ)) → follow first fs e o t ≡ some (want (second i e) fs)
unfolding if_first follow
follow-between minus-between fs e o = refl
follow-between arith-between fs e o = refl

read-paired : (t : Token) (i : ℕ) (ts vs : List Token) (e f : Syn) → ReadOperand ts e → Between t i → ReadOperand vs f → ReadPhrase (ts ++ (t ∷ vs)) (dyadic i e f)
unfolding unless_given finish feed step reach
read-paired t i ts vs e f p b q fs us r k =
    rw append_assoc (p first (λ q. refl) fs (t ∷ (vs ++ us)) r
    (λ o. onward (vs ++ us) (follow-between b fs e o) (q (second i e) (λ q. refl) fs us r (λ o. k (second i e) f o refl))))

read-chained : (l : Link) (ts vs : List Token) (e f : Syn) → ReadOperand ts e → ReadChain l vs f → ReadPhrase (ts ++ (joins l ∷ vs)) (dyadic (link_number l) e f)
unfolding wrap finish unless_given link_operand follow feed step reach
read-chained l ts vs e f p c fs us r k =
    rw append_assoc (p first (λ q. refl) fs (joins l ∷ (vs ++ us)) r
    (λ o. c (e ∷ []) fs us r (λ qs g o h. k (linked l qs) g o h)))

read-last : (l : Link) (ts : List Token) (e : Syn) → ReadOperand ts e → ReadChain l ts e
unfolding unless_given
read-last l ts e p ps fs us r k = p (linked l ps) (λ q. refl) fs us r (λ o. k ps e o refl)

read_more : (l : Link) (ts vs : List Token) (e f : Syn) → ReadOperand ts e → ReadChain l vs f → ReadChain l (ts ++ (joins l ∷ vs)) (dyadic (link_number l) e f)
unfolding wrap unless_given follow feed step reach
read_more l ts vs e f p c ps fs us r k =
    rw append_assoc (p (linked l ps) (λ q. refl) fs (joins l ∷ (vs ++ us)) r
    (λ o. onward (vs ++ us) (link-again l ps fs e) (c (e ∷ ps) fs us r k)))

pub read : {ts : List Token} {e : Syn} → Phrase ts e → ReadPhrase ts e
read p = elim p as (λ ts e q. ReadElement ts e) (λ ts e q. ReadOperand ts e) (λ ts e q. ReadPhrase ts e) (λ l ts e q. ReadChain l ts e) [
  | alone {n} ↦ read-alone n
  | subscripted {n} {ts} {e} (q → h) ↦ read-subscripted n ts e h
  | element (q → h) ↦ λ s free. h s
  | numeral {z} ↦ read-numeral z
  | bracketed {ts} {e} (q → h) ↦ read-bracketed ts e h
  | plain {ts} {e} (q → h) ↦ read_plain ts e h
  | prefixed {t} {k} {ts} {e} b (q → h) ↦ read-prefixed t k ts e b h
  | asked {ts} {e} (q → h) ↦ read_asked ts e h
  | paired {t} {k} {ts} {us} {e} {f} (q → h) b (u → i) ↦ read-paired t k ts us e f h b i
  | chained {l} {ts} {us} {e} {f} (q → h) (c → i) ↦ read-chained l ts us e f h i
  | last-operand {l} {ts} {e} (q → h) ↦ read-last l ts e h
  | more {l} {ts} {us} {e} {f} (q → h) (c → i) ↦ read_more l ts us e f h i
]

pub complete : PhrasesComplete
unfolding close reach phrase finish
complete ts e p = rw append-nil at (read p [] [] (some e) (λ s f o h. rw h refl))

pub element-complete : {ts : List Token} {e : Syn} → Element ts e → close (reach (some (want behind-given [])) ts) ≡ some (monadic 2 e)
unfolding phrase if_first begin feed step reach
element-complete {ts} {e} p = complete (given ∷ ts) (monadic 2 e) (asked p)
