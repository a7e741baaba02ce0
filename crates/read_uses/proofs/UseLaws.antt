-- The uses told from the tokens of a line are those in the line.
use mathlib.Core.Path.{◌≡◌, refl, sym, ap, ap₂, ◌∙◌}
use mathlib.Core.Bool.{Bool, true, false, false≢true}
use mathlib.Core.List.{List, [], ◌∷◌, ◌++◌, map, append_assoc, append-nil}
use mathlib.Core.Option.{Option, some}
use Prim.Native.Nat.{ℕ}
use lib.IntN.{ℤ}
use Rattle.grammar.specs.Grammar.{Link, both, either, Mark, a-skip, becomes, asks, tells, ampersand, Token, name, number, given, joins, square-open, square-close, round-open, round-close, mark, Syn, literal, bare, at, monadic, dyadic, link_number, Before, minus-before, not-before, Between, minus-between, arith-between, Element, alone, subscripted, element, numeral, bracketed, Phrase, plain, prefixed, asked, paired, chained, last-operand, more}
use Rattle.grammar.specs.Outline.{OutlineLine, is_declaration}
use Rattle.grammar.specs.Lines.{Alone, skips, stops, seqs, pars, chooses, selects, Spells, declares, word, repeats, assigns, inputs, outputs, tests, guards, allows}
use Rattle.grammar.specs.Names.{Sort, as-variable, Use, use_of, element_uses, uses_of}
use Rattle.grammar.specs.Names as names
use Rattle.read_tokens.specs.Sorts as sorts
use Rattle.read_classes.specs.Parts.{part_at_mark}
use Rattle.read_uses.specs.Uses.{sort_by, mark_ahead, bare_before, chunk_use, uses_from, mark_after, uses_in, UsesTold}

-- Tokens before chunks ---------------------------------------------------------------------------------------------------------------

-- tokens, and then chunks
abbrev onto : List Token → List (Option Token) → List (Option Token)
onto [] os = os
onto (t ∷ ts) os = some t ∷ onto ts os

onto-append : (ts us : List Token) (os : List (Option Token)) → onto (ts ++ us) os ≡ onto ts (onto us os)
onto-append [] us os = refl
onto-append (t ∷ ts) us os = ap (λ (l : List (Option Token)). some t ∷ l) (onto-append ts us os)

onto-nothing : (ts : List Token) → map some ts ≡ onto ts []
onto-nothing [] = refl
onto-nothing (t ∷ ts) = ap (λ (l : List (Option Token)). some t ∷ l) (onto-nothing ts)

-- the uses in chunks after a token that does not stand first before `?` or `!`
abbrev after : List (Option Token) → List Use
after os = uses_from sorts.no_token os

-- a token that is no use, no mark and no beginning of a subscript
record Quiet (t : Token) : Type 0 where
  ahead : (os : List (Option Token)) → mark_ahead (some t ∷ os) ≡ mark_ahead os
  unused : (os : List (Option Token)) → after (some t ∷ os) ≡ after os
  bare : (os : List (Option Token)) → bare_before (some t ∷ os) ≡ true

before-quiet : {t : Token} {k : ℕ} → Before t k → Quiet t
unfolding part_at_mark uses_from
before-quiet minus-before = record { ahead = λ os. refl; unused = λ os. refl; bare = λ os. refl }
before-quiet not-before = record { ahead = λ os. refl; unused = λ os. refl; bare = λ os. refl }

between-quiet : {t : Token} {k : ℕ} → Between t k → Quiet t
unfolding part_at_mark uses_from
between-quiet minus-between = record { ahead = λ os. refl; unused = λ os. refl; bare = λ os. refl }
between-quiet arith-between = record { ahead = λ os. refl; unused = λ os. refl; bare = λ os. refl }

joins-quiet : (l : Link) → Quiet (joins l)
unfolding part_at_mark uses_from
joins-quiet both = record { ahead = λ os. refl; unused = λ os. refl; bare = λ os. refl }
joins-quiet either = record { ahead = λ os. refl; unused = λ os. refl; bare = λ os. refl }

-- Expressions ------------------------------------------------------------------------------------------------------------------------

-- the uses of tokens that spell an expression, before chunks that begin with no subscript
record Told (ts : List Token) (e : Syn) : Type 0 where
  ahead : (os : List (Option Token)) → mark_ahead (onto ts os) ≡ mark_ahead os
  uses : (os : List (Option Token)) → bare_before os ≡ true → after (onto ts os) ≡ names.uses_in e ++ after os

-- the same of an element, with what its name is used as
record ElementTold (ts : List Token) (a : Syn) : Type 0 where
  variable : element_uses as-variable a ≡ names.uses_in a
  ahead : (os : List (Option Token)) → mark_ahead (onto ts os) ≡ mark_ahead os
  uses : (m : ℕ) (os : List (Option Token)) → bare_before os ≡ true → uses_from m (onto ts os) ≡ element_uses (sort_by m) a ++ after os

operand-told : {ts : List Token} {a : Syn} → ElementTold ts a → Told ts a
operand-told h = record { ahead = h.ahead; uses = λ os b. h.uses sorts.no_token os b ∙ ap (λ (us : List Use). us ++ after os) h.variable }

-- two parts with a quiet token between them
pair-told : {ts us : List Token} {t : Token} {e f : Syn} (k : ℕ) → Told ts e → Quiet t → Told us f → Told (ts ++ (t ∷ us)) (dyadic k e f)
pair-told {ts} {us} {t} {e} {f} k h q i =
    record {
      ahead = λ os. ap mark_ahead (onto-append ts (t ∷ us) os) ∙ h.ahead (some t ∷ onto us os) ∙ q.ahead (onto us os) ∙ i.ahead os;
      uses = λ os b.
          ap after (onto-append ts (t ∷ us) os)
          ∙ h.uses (some t ∷ onto us os) (q.bare (onto us os))
          ∙ ap (λ (l : List Use). names.uses_in e ++ l) (q.unused (onto us os) ∙ i.uses os b)
          ∙ sym (append_assoc (names.uses_in e) (names.uses_in f) (after os));
    }

alone-told : (n : List ℕ) → ElementTold (name n ∷ []) (bare n)
unfolding part_at_mark uses_from
alone-told n = record { variable = refl; ahead = λ os. refl; uses = λ m os b. ap (λ (t : Bool). use_of n t (sort_by m) ∷ after os) b }

subscripted-told : (n : List ℕ) (ts : List Token) (e : Syn) → Told ts e → ElementTold (name n ∷ square-open ∷ (ts ++ (square-close ∷ []))) (at n e)
unfolding part_at_mark uses_from
subscripted-told n ts e h =
    record {
      variable = refl;
      ahead = λ os. ap mark_ahead (onto-append ts (square-close ∷ []) os) ∙ h.ahead (some square-close ∷ os);
      uses = λ m os b. ap (λ (l : List Use). use_of n false (sort_by m) ∷ l) (ap after (onto-append ts (square-close ∷ []) os) ∙ h.uses (some square-close ∷ os) refl);
    }

bracketed-told : (ts : List Token) (e : Syn) → Told ts e → Told (round-open ∷ (ts ++ (round-close ∷ []))) e
unfolding part_at_mark uses_from
bracketed-told ts e h =
    record {
      ahead = λ os. ap mark_ahead (onto-append ts (round-close ∷ []) os) ∙ h.ahead (some round-close ∷ os);
      uses = λ os b. ap after (onto-append ts (round-close ∷ []) os) ∙ h.uses (some round-close ∷ os) refl;
    }

prefixed-told : {ts : List Token} {t : Token} {e : Syn} (k : ℕ) → Quiet t → Told ts e → Told (t ∷ ts) (monadic k e)
prefixed-told {ts} k q h =
    record {
      ahead = λ os. q.ahead (onto ts os) ∙ h.ahead os;
      uses = λ os b. q.unused (onto ts os) ∙ h.uses os b;
    }

given-quiet : Quiet given
unfolding part_at_mark uses_from
given-quiet = record { ahead = λ os. refl; unused = λ os. refl; bare = λ os. refl }

numeral-told : (z : ℤ) → Told (number z ∷ []) (literal z)
unfolding part_at_mark uses_from
numeral-told z = record { ahead = λ os. refl; uses = λ os b. refl }

phrase-told : {ts : List Token} {e : Syn} → Phrase ts e → Told ts e
phrase-told p = elim p as (λ ts e q. ElementTold ts e) (λ ts e q. Told ts e) (λ ts e q. Told ts e) (λ l ts e q. Told ts e) [
  | alone {n} ↦ alone-told n
  | subscripted {n} {ts} {e} (q → h) ↦ subscripted-told n ts e h
  | element (q → h) ↦ operand-told h
  | numeral {z} ↦ numeral-told z
  | bracketed {ts} {e} (q → h) ↦ bracketed-told ts e h
  | plain (q → h) ↦ h
  | prefixed {k} b (q → h) ↦ prefixed-told k (before-quiet b) h
  | asked (q → h) ↦ prefixed-told 2 given-quiet (operand-told h)
  | paired {k} (q → h) b (u → i) ↦ pair-told k h (between-quiet b) i
  | chained {l} (q → h) (c → i) ↦ pair-told (link_number l) h (joins-quiet l) i
  | last-operand (q → h) ↦ h
  | more {l} (q → h) (c → i) ↦ pair-told (link_number l) h (joins-quiet l) i
]

element-told : {ts : List Token} {a : Syn} → Element ts a → ElementTold ts a
element-told (alone {n}) = alone-told n
element-told (subscripted {n} {ts} {e} p) = subscripted-told n ts e (phrase-told p)

-- Lines ------------------------------------------------------------------------------------------------------------------------------

-- only what the first name is used as matters of the mark
same-sort : (m k : ℕ) (os : List (Option Token)) → sort_by m ≡ sort_by k → uses_from m os ≡ uses_from k os
unfolding uses_from
same-sort m k [] e = refl
same-sort m k (o ∷ os) e = ap (λ (s : Sort). chunk_use s (bare_before os) o ++ uses_from (mark_after o os) os) e

-- an expression that a line ends with
phrase-last : {ts : List Token} {e : Syn} → Phrase ts e → uses_in (onto ts []) ≡ names.uses_in e
unfolding part_at_mark uses_from
phrase-last {ts} {e} p =
    let h = phrase-told p in
    ap (λ (m : ℕ). uses_from m (onto ts [])) (h.ahead []) ∙ h.uses [] refl ∙ append-nil (names.uses_in e)

-- an element that it ends with
element-last : {ts : List Token} {a : Syn} → Element ts a → uses_in (onto ts []) ≡ element_uses as-variable a
unfolding part_at_mark uses_from
element-last {ts} {a} p =
    let h = element-told p in
    ap (λ (m : ℕ). uses_from m (onto ts [])) (h.ahead []) ∙ h.uses sorts.no_token [] refl ∙ append-nil (element_uses as-variable a)

-- an element before a mark
module _ {ts : List Token} {a : Syn} (p : Element ts a) (us : List Token) where
  abbrev marked : Mark → List (Option Token)
  marked m = some (mark m) ∷ onto us []

  element-before : (m : Mark) → bare_before (marked m) ≡ true → (s : Sort) → sort_by (mark_ahead (marked m)) ≡ s → (l : List Use) → after (marked m) ≡ l
      → uses_in (onto (ts ++ (mark m ∷ us)) []) ≡ element_uses s a ++ l
  element-before m b s e l f =
      let h = element-told p in
      ap uses_in (onto-append ts (mark m ∷ us) [])
      ∙ ap (λ (k : ℕ). uses_from k (onto ts (marked m))) (h.ahead (marked m))
      ∙ h.uses (mark_ahead (marked m)) (marked m) b
      ∙ ap₂ (λ (t : Sort) (k : List Use). element_uses t a ++ k) e f

-- an expression before `&`
phrase-before : {ts : List Token} {e : Syn} → Phrase ts e → (us : List Token) → uses_in (onto (ts ++ (mark ampersand ∷ us)) []) ≡ names.uses_in e ++ uses_in (onto us [])
unfolding part_at_mark uses_from
phrase-before {ts} {e} p us =
    let h = phrase-told p in
    let os = some (mark ampersand) ∷ onto us [] in
    ap uses_in (onto-append ts (mark ampersand ∷ us) [])
    ∙ ap (λ (k : ℕ). uses_from k (onto ts os)) (h.ahead os)
    ∙ same-sort (mark_ahead os) sorts.no_token (onto ts os) refl
    ∙ h.uses os refl

alone-unused : {m : Mark} {x : OutlineLine} → Alone m x → uses_in (some (mark m) ∷ []) ≡ uses_of x
unfolding part_at_mark uses_from
alone-unused skips = refl
alone-unused stops = refl
alone-unused seqs = refl
alone-unused pars = refl
alone-unused chooses = refl
alone-unused selects = refl

-- a line's uses, by its tokens before no more
line-told : {ts : List Token} {x : OutlineLine} → Spells ts x → is_declaration x ≡ false → uses_in (onto ts []) ≡ uses_of x
unfolding part_at_mark uses_from
line-told (declares h) d = absurd (false≢true (sym d))
line-told (word a) d = alone-unused a
line-told (repeats p) d = phrase-last p
line-told (assigns {us} {e} p q) d = element-before p us becomes refl _ refl (names.uses_in e) (phrase-last q)
line-told (inputs {us} {a} p q) d = element-before p us asks refl _ refl (element_uses as-variable a) (element-last q)
line-told (outputs {us} {e} p q) d = element-before p us tells refl _ refl (names.uses_in e) (phrase-last q)
line-told (tests p) d = phrase-last p
line-told (guards {us} {vs} {e} {a} p q r) d =
    phrase-before p (us ++ (mark asks ∷ vs)) ∙ ap (λ (l : List Use). names.uses_in e ++ l) (element-before q vs asks refl _ refl (element_uses as-variable a) (element-last r))
line-told (allows {e} p) d = phrase-before p (mark a-skip ∷ []) ∙ append-nil (names.uses_in e)

pub uses-told : UsesTold
uses-told ts x p d = ap uses_in (onto-nothing ts) ∙ line-told p d
