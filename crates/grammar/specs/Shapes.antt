-- The reader of expressions without the expressions: whether some tokens are a phrase depends only on the kinds of the slots, so a program can decide it with a stack of bytes.
use Rattle.std.specs.Prelude.{◌≡◌, Bool, true, false, List, [], ◌∷◌, map}
use Rattle.std.proofs.Math.Option.{Option, none, some}
use Rattle.meaning.specs.Basics.{is_some}
use Rattle.grammar.specs.Grammar.{Link, both, either, Token, name, number, minus, not-word, given, arith, joins, round-open, round-close, square-open, square-close, mark}
use Rattle.grammar.specs.Machine.{Slot, first, behind, behind-given, second, linked, Frame, round, square, ReaderState, want, have, phrase}

-- an operand's place: an operator may follow it; none may; it must be an element, and none may; only AND, or only OR, may
pub data Kind : Type 0 where
  initial final element : Kind
  chain : Link → Kind

-- an open bracket, and the place of the operand that it belongs to
pub data Opening : Type 0 where
  round-in square-in : Kind → Opening

-- an operand is wanted; or it has been read, and may be a bare name so far
pub data OperandShape : Type 0 where
  wants : Kind → List Opening → OperandShape
  has : Kind → List Opening → Bool → OperandShape

unfoldable pub kind_of : Slot → Kind
kind_of first = initial
kind_of (behind k) = final
kind_of behind-given = element
kind_of (second k a) = final
kind_of (linked l ps) = chain l

unfoldable pub opening_of : Frame → Opening
opening_of (round s) = round-in (kind_of s)
opening_of (square n s) = square-in (kind_of s)

unfoldable pub state_shape : ReaderState → OperandShape
state_shape (want s fs) = wants (kind_of s) (map opening_of fs)
state_shape (have s fs e o) = has (kind_of s) (map opening_of fs) (is_some o)

unfoldable pub unless_element : Kind → OperandShape → Option OperandShape
unless_element initial q = some q
unless_element final q = some q
unless_element element q = none
unless_element (chain l) q = some q

unfoldable pub if_initial : Kind → OperandShape → Option OperandShape
if_initial initial q = some q
if_initial final q = none
if_initial element q = none
if_initial (chain l) q = none

unfoldable pub chain_on : Link → Kind → List Opening → Option OperandShape
chain_on l initial os = some (wants (chain l) os)
chain_on l final os = none
chain_on l element os = none
chain_on both (chain both) os = some (wants (chain both) os)
chain_on both (chain either) os = none
chain_on either (chain both) os = none
chain_on either (chain either) os = some (wants (chain either) os)

unfoldable pub round_off : List Opening → Option OperandShape
round_off [] = none
round_off (round-in k ∷ os) = some (has k os false)
round_off (square-in k ∷ os) = none

unfoldable pub square_off : List Opening → Option OperandShape
square_off [] = none
square_off (round-in k ∷ os) = none
square_off (square-in k ∷ os) = some (has k os false)

unfoldable pub square_on : Kind → List Opening → Bool → Option OperandShape
square_on k os false = none
square_on k os true = some (wants initial (square-in k ∷ os))

unfoldable pub shape_after : OperandShape → Token → Option OperandShape
shape_after (wants k os) (name n) = some (has k os true)
shape_after (wants k os) (number z) = unless_element k (has k os false)
shape_after (wants k os) minus = if_initial k (wants final os)
shape_after (wants k os) not-word = if_initial k (wants final os)
shape_after (wants k os) given = if_initial k (wants element os)
shape_after (wants k os) (arith i) = none
shape_after (wants k os) (joins l) = none
shape_after (wants k os) round-open = unless_element k (wants initial (round-in k ∷ os))
shape_after (wants k os) round-close = none
shape_after (wants k os) square-open = none
shape_after (wants k os) square-close = none
shape_after (wants k os) (mark m) = none
shape_after (has k os f) (name n) = none
shape_after (has k os f) (number z) = none
shape_after (has k os f) minus = if_initial k (wants final os)
shape_after (has k os f) not-word = none
shape_after (has k os f) given = none
shape_after (has k os f) (arith i) = if_initial k (wants final os)
shape_after (has k os f) (joins l) = chain_on l k os
shape_after (has k os f) round-open = none
shape_after (has k os f) round-close = round_off os
shape_after (has k os f) square-open = square_on k os f
shape_after (has k os f) square-close = square_off os
shape_after (has k os f) (mark m) = none

unfoldable pub move : Option OperandShape → Token → Option OperandShape
move none t = none
move (some q) t = shape_after q t

unfoldable pub goes : Option OperandShape → List Token → Option OperandShape
goes o [] = o
goes o (t ∷ ts) = goes (move o t) ts

unfoldable pub shape_complete : Option OperandShape → Bool
shape_complete none = false
shape_complete (some (wants k os)) = false
shape_complete (some (has k [] f)) = true
shape_complete (some (has k (o ∷ os) f)) = false

-- whether some tokens are a phrase
unfoldable pub is_phrase : List Token → Bool
is_phrase ts = shape_complete (goes (some (wants initial [])) ts)

abbrev pub ShapesDecide : Type 0
ShapesDecide = (ts : List Token) → is_some (phrase ts) ≡ is_phrase ts
