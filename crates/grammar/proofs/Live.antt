-- No tokens spell two expressions; the reader fails exactly where nothing that follows could make a phrase.
use mathlib.Core.Path.{◌≡◌, refl, sym, ap, ◌∙◌}
use mathlib.Core.List.{List, [], ◌∷◌, ◌++◌}
use mathlib.Core.Logic.{◌≢◌}
use mathlib.Core.Option.{Option, none, some, none-ne-some, some-injective}
use Prim.Native.Nat.{ℕ}
use Rattle.grammar.specs.Grammar.{Token, name, round-close, square-close, Syn, bare, at}
use Rattle.grammar.specs.Machine.{Slot, Frame, round, square, ReaderState, want, have, finish, round_end, square_end, begin, follow, feed, step, reach, close, start_state, phrase}
use Rattle.grammar.specs.PhraseClaims.{Unique, Mendable, FailsFirst}
use Rattle.grammar.proofs.Complete.{complete}
use Rattle.grammar.proofs.Sound.{sound}

pub unique : Unique
unique ts e f p q = some-injective e f (sym (complete ts e p) ∙ complete ts f q)

reach-append : (o : Option ReaderState) (ts us : List Token) → reach o (ts ++ us) ≡ reach (reach o ts) us
unfolding reach
reach-append o [] us = refl
reach-append o (t ∷ ts) us = reach-append (step o t) ts us

reach-none : (us : List Token) → reach none us ≡ none
unfolding reach step
reach-none [] = refl
reach-none (t ∷ us) = reach-none us

-- the brackets that close every open one
closers : List Frame → List Token
closers [] = []
closers (round s ∷ fs) = round-close ∷ closers fs
closers (square n s ∷ fs) = square-close ∷ closers fs

-- what makes a phrase of the tokens that led to a state: the name x where an operand is wanted, and the brackets
mend : ReaderState → List Token
mend (want s fs) = name (120 ∷ []) ∷ closers fs
mend (have s fs e o) = closers fs

closes : (s : Slot) (fs : List Frame) (e : Syn) (o : Option (List ℕ)) → (r : Syn) × (close (reach (some (have s fs e o)) (closers fs)) ≡ some r)
unfolding closers round_end square_end follow feed step reach close
closes s [] e o = (finish s e, refl)
closes s (round q ∷ fs) e o = closes q fs (finish s e) none
closes s (square n q ∷ fs) e o = closes q fs (at n (finish s e)) none

mends : (q : ReaderState) → (r : Syn) × (close (reach (some q) (mend q)) ≡ some r)
unfolding mend begin feed step reach
mends (want s fs) = closes s fs (bare (120 ∷ [])) (some (120 ∷ []))
mends (have s fs e o) = closes s fs e o

dead : (ts : List Token) → reach start_state ts ≡ none → ¬ Mendable ts
unfolding phrase close
dead ts h m =
    let (us, w) = m in
    let (e, p) = w in
    let k : reach start_state (ts ++ us) ≡ none = reach-append start_state ts us ∙ ap (λ (o : Option ReaderState). reach o us) h ∙ reach-none us in
    none-ne-some e (ap close (sym k) ∙ complete (ts ++ us) e p)

alive : (ts : List Token) (o : Option ReaderState) → reach start_state ts ≡ o → o ≢ none → Mendable ts
unfolding phrase
alive ts none h n = absurd (n refl)
alive ts (some q) h n =
    let (r, k) = mends q in
    (mend q, (r, sound (ts ++ mend q) r (ap close (reach-append start_state ts (mend q) ∙ ap (λ (o : Option ReaderState). reach o (mend q)) h) ∙ k)))

pub live : FailsFirst
live ts = (dead ts, alive ts (reach start_state ts) refl)
