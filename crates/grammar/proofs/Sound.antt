-- Only phrases are read, each as what it spells. Of each state it is said what the tokens still to come must be if they lead to the expression r;
-- this holds by induction on those tokens.
use mathlib.Core.Path.{◌≡◌, refl, sym, ap, ◌∙◌}
use mathlib.Core.List.{List, [], ◌∷◌, ◌++◌, append_assoc, append-nil}
use mathlib.Core.Option.{Option, none, some, none-ne-some, some-injective}
use Prim.Native.Nat.{ℕ}
use Rattle.grammar.specs.Grammar.{Link, both, either, Token, name, number, minus, not-word, given, arith, joins, round-open, round-close, square-open, square-close, mark, Syn, literal, bare, at, monadic, dyadic, link_number, Before, minus-before, not-before, Between, minus-between, arith-between, Element, alone, subscripted, Operand, element, numeral, bracketed, Phrase, plain, prefixed, asked, paired, chained, Chain, last-operand, more}
use Rattle.grammar.specs.Machine.{Slot, first, behind, behind-given, second, linked, Frame, round, square, ReaderState, want, have, wrap, finish, unless_given, if_first, link_operand, round_end, square_end, square_start, begin, follow, feed, step, reach, close, phrase}
use Rattle.grammar.specs.PhraseClaims.{Sound}

-- what may stand in a slot
abbrev Fits : Slot → List Token → Syn → Type 0
Fits first ts e = Operand ts e
Fits (behind k) ts e = Operand ts e
Fits behind-given ts e = Element ts e
Fits (second k a) ts e = Operand ts e
Fits (linked l ps) ts e = Operand ts e

-- tokens that complete the phrase x from a slot on
abbrev Fills : Slot → List Token → Syn → Type 0
Fills first ts x = Phrase ts x
Fills (behind k) ts x = (e : Syn) × Operand ts e × (monadic k e ≡ x)
Fills behind-given ts x = (e : Syn) × Element ts e × (monadic 2 e ≡ x)
Fills (second k a) ts x = (e : Syn) × Operand ts e × (dyadic k a e ≡ x)
Fills (linked l ps) ts x = (e : Syn) × Chain l ts e × (wrap l ps e ≡ x)

-- the tokens complete the phrase from a slot on, and what is left of them does what A says of it; so whatever spells e in the slot
module _ (A : Syn → List Token → Type 0) (s : Slot) where
  abbrev Wanted : List Token → Type 0
  Wanted us = (vs : List Token) × (ws : List Token) × (x : Syn) × (vs ++ ws ≡ us) × Fills s vs x × A x ws

  abbrev Held : Syn → List Token → Type 0
  Held e us = (ts : List Token) → Fits s ts e → Wanted (ts ++ us)

-- where a phrase x has ended, the tokens close each open bracket, and lead to r
abbrev After : Syn → List Frame → Syn → List Token → Type 0
After r [] x ws = (ws ≡ []) × (x ≡ r)
After r (round s ∷ fs) x ws = (us : List Token) × (ws ≡ round-close ∷ us) × Held (λ y vs. After r fs y vs) s x us
After r (square n s ∷ fs) x ws = (us : List Token) × (ws ≡ square-close ∷ us) × Held (λ y vs. After r fs y vs) s (at n x) us

-- the tokens lead from a state to r
abbrev Means : Syn → ReaderState → List Token → Type 0
Means r (want s fs) us = Wanted (After r fs) s us
Means r (have s fs e none) us = Held (After r fs) s e us
Means r (have s fs e (some n)) us = e ≡ bare n → Wanted (After r fs) s (name n ∷ us)

fits-element : (s : Slot) {ts : List Token} {e : Syn} → Element ts e → Fits s ts e
fits-element first p = element p
fits-element (behind k) p = element p
fits-element behind-given p = p
fits-element (second k a) p = element p
fits-element (linked l ps) p = element p

ends : (s : Slot) (ts : List Token) (e : Syn) → Fits s ts e → Fills s ts (finish s e)
unfolding finish
ends first ts e p = plain p
ends (behind k) ts e p = (e, p, refl)
ends behind-given ts e p = (e, p, refl)
ends (second k a) ts e p = (e, p, refl)
ends (linked l ps) ts e p = (e, last-operand p, refl)

closed-by : (vs xs : List Token) {ws us : List Token} (c : Token) → ws ≡ c ∷ xs → vs ++ ws ≡ us → (vs ++ (c ∷ [])) ++ xs ≡ us
closed-by vs xs c g q = append_assoc vs (c ∷ []) xs ∙ ap (λ (l : List Token). vs ++ l) (sym g) ∙ q

further : (vs ws : List Token) {us : List Token} (ts : List Token) (t : Token) → vs ++ ws ≡ us → (ts ++ (t ∷ vs)) ++ ws ≡ ts ++ (t ∷ us)
further vs ws ts t q = append_assoc ts (t ∷ vs) ws ∙ ap (λ (l : List Token). ts ++ (t ∷ l)) q

-- one token more in front
module _ (A : Syn → List Token → Type 0) (us : List Token) where
  from-behind : {t : Token} {k : ℕ} → Before t k → Wanted A (behind k) us → Wanted A first (t ∷ us)
  from-behind {t} b w =
      let (vs, ws, x, q, f, a) = w in
      let (e, p, z) = f in
      (t ∷ vs, ws, x, ap (λ (l : List Token). t ∷ l) q, rw z at (prefixed b p), a)

  from-given : Wanted A behind-given us → Wanted A first (given ∷ us)
  from-given w =
      let (vs, ws, x, q, f, a) = w in
      let (e, p, z) = f in
      (given ∷ vs, ws, x, ap (λ (l : List Token). given ∷ l) q, rw z at (asked p), a)

  from_second : {t : Token} {k : ℕ} {e : Syn} → Between t k → Wanted A (second k e) us → Held A first e (t ∷ us)
  from_second {t} b w ts p =
      let (vs, ws, x, q, f, a) = w in
      let (y, g, z) = f in
      (ts ++ (t ∷ vs), ws, x, further vs ws ts t q, rw z at (paired p b g), a)

  from-chain : {l : Link} {e : Syn} → Wanted A (linked l (e ∷ [])) us → Held A first e (joins l ∷ us)
  unfolding wrap
  from-chain {l} w ts p =
      let (vs, ws, x, q, f, a) = w in
      let (y, g, z) = f in
      (ts ++ (joins l ∷ vs), ws, x, further vs ws ts (joins l) q, rw z at (chained p g), a)

  from_more : {l : Link} {e : Syn} (ps : List Syn) → Wanted A (linked l (e ∷ ps)) us → Held A (linked l ps) e (joins l ∷ us)
  unfolding wrap
  from_more {l} {e} ps w ts p =
      let (vs, ws, x, q, f, a) = w in
      let (y, g, z) = f in
      (ts ++ (joins l ∷ vs), ws, x, further vs ws ts (joins l) q, (dyadic (link_number l) e y, more p g, z), a)

module _ (r : Syn) (s : Slot) (fs : List Frame) (e : Syn) where
  means : (o : Option (List ℕ)) {vs : List Token} → Held (After r fs) s e vs → Means r (have s fs e o) vs
  means none h = h
  means (some n) h = λ q. h (name n ∷ []) (fits-element s (rw q alone))

  ended : (vs : List Token) → After r fs (finish s e) vs → Held (After r fs) s e vs
  ended vs a ts p = (ts, vs, finish s e, refl, ends s ts e p, a)

lost : (r : Syn) (us : List Token) → close (reach none us) ≡ some r → ⊥
unfolding close reach step
lost r [] h = none-ne-some r h
lost r (t ∷ us) h = lost r us h

module _ (r : Syn) (us : List Token) where
  -- reading from here leads to r
  abbrev Leads : Option ReaderState → Type 0
  Leads o = close (reach o us) ≡ some r

  stuck : {P : Type 0} → Leads none → P
  stuck h = absurd (lost r us h)

  if-free : (s : Slot) (q : ReaderState) → Leads (unless_given s q) → Leads (some q) × ((ts : List Token) (e : Syn) → Operand ts e → Fits s ts e)
  unfolding unless_given
  if-free first q h = (h, λ ts e p. p)
  if-free (behind k) q h = (h, λ ts e p. p)
  if-free behind-given q h = stuck h
  if-free (second k a) q h = (h, λ ts e p. p)
  if-free (linked l ps) q h = (h, λ ts e p. p)

  if-first : (P : Slot → Type 0) (s : Slot) (q : ReaderState) → Leads (if_first s q) → (Leads (some q) → P first) → P s
  unfolding if_first
  if-first P first q h k = k h
  if-first P (behind i) q h k = stuck h
  if-first P behind-given q h k = stuck h
  if-first P (second i a) q h k = stuck h
  if-first P (linked l ps) q h k = stuck h

  -- what leads to r from the next state on is known
  module _ (next : (q : ReaderState) → Leads (some q) → Means r q us) where
    wanted : (s : Slot) (fs : List Frame) (t : Token) → Leads (begin s fs t) → Means r (want s fs) (t ∷ us)
    unfolding begin
    wanted s fs (name n) h = next (have s fs (bare n) (some n)) h refl
    wanted s fs (number z) h = let (g, fits) = if-free s (have s fs (literal z) none) h in next (have s fs (literal z) none) g (number z ∷ []) (fits (number z ∷ []) (literal z) numeral)
    wanted s fs minus h = if-first (λ s. Wanted (After r fs) s (minus ∷ us)) s (want (behind 0) fs) h (λ g. from-behind (After r fs) us minus-before (next (want (behind 0) fs) g))
    wanted s fs not-word h = if-first (λ s. Wanted (After r fs) s (not-word ∷ us)) s (want (behind 1) fs) h (λ g. from-behind (After r fs) us not-before (next (want (behind 1) fs) g))
    wanted s fs given h = if-first (λ s. Wanted (After r fs) s (given ∷ us)) s (want behind-given fs) h (λ g. from-given (After r fs) us (next (want behind-given fs) g))
    wanted s fs (arith k) h = stuck h
    wanted s fs (joins l) h = stuck h
    wanted s fs round-open h =
        let (g, fits) = if-free s (want first (round s ∷ fs)) h in
        let (vs, ws, x, q, p, a) = next (want first (round s ∷ fs)) g in
        let (xs, c, held) = a in
        rw (closed-by vs xs round-close c q) at (let ts = round-open ∷ (vs ++ (round-close ∷ [])) in held ts (fits ts x (bracketed p)))
    wanted s fs round-close h = stuck h
    wanted s fs square-open h = stuck h
    wanted s fs square-close h = stuck h
    wanted s fs (mark m) h = stuck h

    linking : (l : Link) (s : Slot) (fs : List Frame) (e : Syn) → Leads (link_operand l s fs e) → Held (After r fs) s e (joins l ∷ us)
    unfolding link_operand
    linking l first fs e h = from-chain (After r fs) us (next (want (linked l (e ∷ [])) fs) h)
    linking l (behind k) fs e h = stuck h
    linking l behind-given fs e h = stuck h
    linking l (second k a) fs e h = stuck h
    linking both (linked both ps) fs e h = from_more (After r fs) us ps (next (want (linked both (e ∷ ps)) fs) h)
    linking both (linked either ps) fs e h = stuck h
    linking either (linked both ps) fs e h = stuck h
    linking either (linked either ps) fs e h = from_more (After r fs) us ps (next (want (linked either (e ∷ ps)) fs) h)

    round-closing : (fs : List Frame) (x : Syn) → Leads (round_end fs x) → After r fs x (round-close ∷ us)
    unfolding round_end
    round-closing [] x h = stuck h
    round-closing (round s ∷ fs) x h = (us, refl, next (have s fs x none) h)
    round-closing (square n s ∷ fs) x h = stuck h

    square-closing : (fs : List Frame) (x : Syn) → Leads (square_end fs x) → After r fs x (square-close ∷ us)
    unfolding square_end
    square-closing [] x h = stuck h
    square-closing (round s ∷ fs) x h = stuck h
    square-closing (square n s ∷ fs) x h = (us, refl, next (have s fs (at n x) none) h)

    subscript : (s : Slot) (fs : List Frame) (e : Syn) (o : Option (List ℕ)) → Leads (square_start s fs o) → Means r (have s fs e o) (square-open ∷ us)
    unfolding square_start
    subscript s fs e none h = stuck h
    subscript s fs e (some n) h = λ u.
        let (vs, ws, x, q, p, a) = next (want first (square n s ∷ fs)) h in
        let (xs, c, held) = a in
        rw (closed-by vs xs square-close c q) at (held (name n ∷ square-open ∷ (vs ++ (square-close ∷ []))) (fits-element s (subscripted p)))

    followed : (s : Slot) (fs : List Frame) (e : Syn) (o : Option (List ℕ)) (t : Token) → Leads (follow s fs e o t) → Means r (have s fs e o) (t ∷ us)
    unfolding follow
    followed s fs e o (name n) h = stuck h
    followed s fs e o (number z) h = stuck h
    followed s fs e o minus h = means r s fs e o (if-first (λ s. Held (After r fs) s e (minus ∷ us)) s (want (second 1 e) fs) h (λ g. from_second (After r fs) us minus-between (next (want (second 1 e) fs) g)))
    followed s fs e o not-word h = stuck h
    followed s fs e o given h = stuck h
    followed s fs e o (arith k) h = means r s fs e o (if-first (λ s. Held (After r fs) s e (arith k ∷ us)) s (want (second k e) fs) h (λ g. from_second (After r fs) us arith-between (next (want (second k e) fs) g)))
    followed s fs e o (joins l) h = means r s fs e o (linking l s fs e h)
    followed s fs e o round-open h = stuck h
    followed s fs e o round-close h = means r s fs e o (ended r s fs e (round-close ∷ us) (round-closing fs (finish s e) h))
    followed s fs e o square-open h = subscript s fs e o h
    followed s fs e o square-close h = means r s fs e o (ended r s fs e (square-close ∷ us) (square-closing fs (finish s e) h))
    followed s fs e o (mark m) h = stuck h

leads : (r : Syn) (us : List Token) (q : ReaderState) → close (reach (some q) us) ≡ some r → Means r q us
unfolding close reach step feed
leads r [] (want s fs) h = absurd (none-ne-some r h)
leads r [] (have s [] e o) h = means r s [] e o (ended r s [] e [] (refl, some-injective (finish s e) r h))
leads r [] (have s (f ∷ fs) e o) h = absurd (none-ne-some r h)
leads r (t ∷ us) (want s fs) h = wanted r us (leads r us) s fs t h
leads r (t ∷ us) (have s fs e o) h = followed r us (leads r us) s fs e o t h

pub sound : Sound
unfolding phrase
sound ts e h =
    let (vs, ws, x, q, p, a) = leads e ts (want first []) h in
    let (g, z) = a in
    let w : vs ≡ ts = sym (append-nil vs) ∙ ap (λ (l : List Token). vs ++ l) (sym g) ∙ q in
    rw (w, z) at p

pub element-sound : (ts : List Token) (r : Syn) → close (reach (some (want behind-given [])) ts) ≡ some r → (e : Syn) × Element ts e × (monadic 2 e ≡ r)
element-sound ts r h =
    let (vs, ws, x, q, f, a) = leads r ts (want behind-given []) h in
    let (g, z) = a in
    let (e, p, y) = f in
    let w : vs ≡ ts = sym (append-nil vs) ∙ ap (λ (l : List Token). vs ++ l) (sym g) ∙ q in
    (e, rw w at p, y ∙ z)
