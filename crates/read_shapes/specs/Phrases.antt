-- Whether tokens of some sorts are a phrase or an element.
use Rattle.std.specs.Prelude.{◌≡◌, Bool, List, [], ◌∷◌, map, ℕ}
use Rattle.std.proofs.Math.Option.{Option, none, some}
use Rattle.meaning.specs.Basics.{is_some}
use Rattle.grammar.specs.Grammar.{Token}
use Rattle.grammar.specs.Machine.{element_of}
use Rattle.grammar.specs.Shapes.{Kind, initial, element, OperandShape, wants, shape_complete, is_phrase}
use Rattle.read_tokens.specs.Held.{token_sort}
use Rattle.read_shapes.specs.Turns.{shape_by_sort}

-- the state after a token of a sort; what has failed stays so
unfoldable pub move_by_sort : Option OperandShape → ℕ → Option OperandShape
move_by_sort none s = none
move_by_sort (some q) s = shape_by_sort q s

-- the state after tokens of some sorts
unfoldable pub shape_over : Option OperandShape → List ℕ → Option OperandShape
shape_over q [] = q
shape_over q (s ∷ ss) = shape_over (move_by_sort q s) ss

-- whether such tokens go on from a state to an operand's end with no bracket open
abbrev pub phrase_from : Option OperandShape → List ℕ → Bool
phrase_from q ss = shape_complete (shape_over q ss)

-- whether they are what may stand at an operand's place
unfoldable pub phrase_in : Kind → List ℕ → Bool
phrase_in k ss = phrase_from (some (wants k [])) ss

-- they are a phrase exactly if the tokens are
abbrev pub PhraseTold : Type 0
PhraseTold = (ts : List Token) → phrase_in initial (map token_sort ts) ≡ is_phrase ts

-- they are an element exactly if they are read as one
abbrev pub ElementRead : Type 0
ElementRead = (ts : List Token) → phrase_in element (map token_sort ts) ≡ is_some (element_of ts)
