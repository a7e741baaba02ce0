-- The reader of expressions: a state for each token, with a stack of the brackets that are open. It does not call itself for a bracket.
use Rattle.std.specs.Prelude.{List, [], ◌∷◌, ℕ}
use Rattle.std.proofs.Math.Option.{Option, none, some}
use Rattle.grammar.specs.Grammar.{Link, both, either, Token, name, number, minus, not-word, given, arith, joins, round-open, round-close, square-open, square-close, mark, Syn, literal, bare, at, monadic, dyadic, link_number}

-- where an operand stands in its phrase: as the first; after an operator before it; after GIVEN; as the second; in a chain after others, the nearest first
pub data Slot : Type 0 where
  first : Slot
  behind : ℕ → Slot
  behind-given : Slot
  second : ℕ → Syn → Slot
  linked : Link → List Syn → Slot

-- an open bracket, and where the operand that it belongs to stands
pub data Frame : Type 0 where
  round : Slot → Frame
  square : List ℕ → Slot → Frame

-- an operand is wanted; or it has been read, and if it is a bare name so far, a subscript may follow
pub data ReaderState : Type 0 where
  want : Slot → List Frame → ReaderState
  have : Slot → List Frame → Syn → Option (List ℕ) → ReaderState

-- an operand of a chain, below the operands before it
unfoldable pub wrap : Link → List Syn → Syn → Syn
wrap l [] e = e
wrap l (p ∷ ps) e = wrap l ps (dyadic (link_number l) p e)

-- the phrase that ends with an operand
unfoldable pub finish : Slot → Syn → Syn
finish first e = e
finish (behind k) e = monadic k e
finish behind-given e = monadic 2 e
finish (second k a) e = dyadic k a e
finish (linked l ps) e = wrap l ps e

-- after GIVEN only an element may stand
unfoldable pub unless_given : Slot → ReaderState → Option ReaderState
unless_given first s = some s
unless_given (behind k) s = some s
unless_given behind-given s = none
unless_given (second k a) s = some s
unless_given (linked l ps) s = some s

-- an operator before its operand stands only where the phrase begins, and so does the first of two operands
unfoldable pub if_first : Slot → ReaderState → Option ReaderState
if_first first s = some s
if_first (behind k) s = none
if_first behind-given s = none
if_first (second k a) s = none
if_first (linked l ps) s = none

-- AND or OR after an operand
unfoldable pub link_operand : Link → Slot → List Frame → Syn → Option ReaderState
link_operand l first fs e = some (want (linked l (e ∷ [])) fs)
link_operand l (behind k) fs e = none
link_operand l behind-given fs e = none
link_operand l (second k a) fs e = none
link_operand both (linked both ps) fs e = some (want (linked both (e ∷ ps)) fs)
link_operand both (linked either ps) fs e = none
link_operand either (linked both ps) fs e = none
link_operand either (linked either ps) fs e = some (want (linked either (e ∷ ps)) fs)

-- the end of a phrase in brackets
unfoldable pub round_end : List Frame → Syn → Option ReaderState
round_end [] e = none
round_end (round s ∷ fs) e = some (have s fs e none)
round_end (square n s ∷ fs) e = none

unfoldable pub square_end : List Frame → Syn → Option ReaderState
square_end [] e = none
square_end (round s ∷ fs) e = none
square_end (square n s ∷ fs) e = some (have s fs (at n e) none)

-- the beginning of a subscript
unfoldable pub square_start : Slot → List Frame → Option (List ℕ) → Option ReaderState
square_start s fs none = none
square_start s fs (some n) = some (want first (square n s ∷ fs))

-- a token where an operand is wanted
unfoldable pub begin : Slot → List Frame → Token → Option ReaderState
begin s fs (name n) = some (have s fs (bare n) (some n))
begin s fs (number z) = unless_given s (have s fs (literal z) none)
begin s fs minus = if_first s (want (behind 0) fs)
begin s fs not-word = if_first s (want (behind 1) fs)
begin s fs given = if_first s (want behind-given fs)
begin s fs (arith k) = none
begin s fs (joins l) = none
begin s fs round-open = unless_given s (want first (round s ∷ fs))
begin s fs round-close = none
begin s fs square-open = none
begin s fs square-close = none
begin s fs (mark m) = none

-- a token after an operand
unfoldable pub follow : Slot → List Frame → Syn → Option (List ℕ) → Token → Option ReaderState
follow s fs e o (name n) = none
follow s fs e o (number z) = none
follow s fs e o minus = if_first s (want (second 1 e) fs)
follow s fs e o not-word = none
follow s fs e o given = none
follow s fs e o (arith k) = if_first s (want (second k e) fs)
follow s fs e o (joins l) = link_operand l s fs e
follow s fs e o round-open = none
follow s fs e o round-close = round_end fs (finish s e)
follow s fs e o square-open = square_start s fs o
follow s fs e o square-close = square_end fs (finish s e)
follow s fs e o (mark m) = none

unfoldable pub feed : ReaderState → Token → Option ReaderState
feed (want s fs) t = begin s fs t
feed (have s fs e o) t = follow s fs e o t

unfoldable pub step : Option ReaderState → Token → Option ReaderState
step none t = none
step (some s) t = feed s t

-- the state after some tokens, if they have not failed
unfoldable pub reach : Option ReaderState → List Token → Option ReaderState
reach o [] = o
reach o (t ∷ ts) = reach (step o t) ts

-- the expression, where no bracket is open and no operand is wanted
unfoldable pub close : Option ReaderState → Option Syn
close none = none
close (some (want s fs)) = none
close (some (have s [] e o)) = some (finish s e)
close (some (have s (f ∷ fs) e o)) = none

abbrev pub start_state : Option ReaderState
start_state = some (want first [])

-- the expression that some tokens spell
unfoldable pub phrase : List Token → Option Syn
phrase ts = close (reach start_state ts)

-- the element that some tokens spell: what could stand after GIVEN
unfoldable pub operand_of : Option Syn → Option Syn
operand_of none = none
operand_of (some (literal z)) = none
operand_of (some (bare n)) = none
operand_of (some (at n e)) = none
operand_of (some (monadic k e)) = some e
operand_of (some (dyadic k e f)) = none

unfoldable pub element_of : List Token → Option Syn
element_of ts = operand_of (close (reach (some (want behind-given [])) ts))
