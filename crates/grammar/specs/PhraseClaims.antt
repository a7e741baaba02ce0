-- What is claimed of the reader of expressions.
use Rattle.std.specs.Prelude.{◌≡◌, List, ◌++◌, ◌≢◌}
use Rattle.std.proofs.Math.Option.{none, some}
use Rattle.grammar.specs.Grammar.{Token, Syn, Phrase}
use Rattle.grammar.specs.Machine.{reach, start_state, phrase}

-- a phrase is read as what it spells, nothing else is read, and no tokens spell two expressions
abbrev pub PhrasesComplete : Type 0
PhrasesComplete = (ts : List Token) (e : Syn) → Phrase ts e → phrase ts ≡ some e

abbrev pub Sound : Type 0
Sound = (ts : List Token) (e : Syn) → phrase ts ≡ some e → Phrase ts e

abbrev pub Unique : Type 0
Unique = (ts : List Token) (e f : Syn) → Phrase ts e → Phrase ts f → e ≡ f

-- some tokens can follow that make a phrase
abbrev pub Mendable : List Token → Type 0
Mendable ts = (us : List Token) × ((e : Syn) × Phrase (ts ++ us) e)

-- the reader fails at the first token that nothing after it could mend
abbrev pub FailsFirst : Type 0
FailsFirst = (ts : List Token) → (reach start_state ts ≡ none → ¬ Mendable ts) × (reach start_state ts ≢ none → Mendable ts)
