-- The reader without the expressions follows the reader of expressions, token by token.
use mathlib.Core.Path.{◌≡◌, refl, ap, ◌∙◌}
use mathlib.Core.List.{List, [], ◌∷◌, map}
use mathlib.Core.Option
use mathlib.Core.Option.{Option, none, some}
use Prim.Native.Nat.{ℕ}
use Rattle.meaning.specs.Basics.{is_some}
use Rattle.grammar.specs.Grammar.{Link, both, either, Token, name, number, minus, not-word, given, arith, joins, round-open, round-close, square-open, square-close, mark, Syn}
use Rattle.grammar.specs.Machine.{Slot, first, behind, behind-given, second, linked, Frame, round, square, ReaderState, want, have, finish, unless_given, if_first, link_operand, round_end, square_end, square_start, begin, follow, feed, step, reach, close, phrase}
use Rattle.grammar.specs.Shapes.{OperandShape, kind_of, opening_of, state_shape, unless_element, if_initial, chain_on, round_off, square_off, square_on, shape_after, move, goes, shape_complete, is_phrase, ShapesDecide}

abbrev shape : Option ReaderState → Option OperandShape
shape o = Option.map state_shape o

shape-unless : (s : Slot) (q : ReaderState) → shape (unless_given s q) ≡ unless_element (kind_of s) (state_shape q)
unfolding unless_given unless_element kind_of
shape-unless first q = refl
shape-unless (behind k) q = refl
shape-unless behind-given q = refl
shape-unless (second k a) q = refl
shape-unless (linked l ps) q = refl

shape-first : (s : Slot) (q : ReaderState) → shape (if_first s q) ≡ if_initial (kind_of s) (state_shape q)
unfolding if_first if_initial kind_of
shape-first first q = refl
shape-first (behind k) q = refl
shape-first behind-given q = refl
shape-first (second k a) q = refl
shape-first (linked l ps) q = refl

shape-link : (l : Link) (s : Slot) (fs : List Frame) (e : Syn) → shape (link_operand l s fs e) ≡ chain_on l (kind_of s) (map opening_of fs)
unfolding link_operand chain_on kind_of state_shape
shape-link l first fs e = refl
shape-link l (behind k) fs e = refl
shape-link l behind-given fs e = refl
shape-link l (second k a) fs e = refl
shape-link both (linked both ps) fs e = refl
shape-link both (linked either ps) fs e = refl
shape-link either (linked both ps) fs e = refl
shape-link either (linked either ps) fs e = refl

shape-round : (fs : List Frame) (e : Syn) → shape (round_end fs e) ≡ round_off (map opening_of fs)
unfolding round_end round_off opening_of state_shape
shape-round [] e = refl
shape-round (round s ∷ fs) e = refl
shape-round (square n s ∷ fs) e = refl

shape-square : (fs : List Frame) (e : Syn) → shape (square_end fs e) ≡ square_off (map opening_of fs)
unfolding square_end square_off opening_of state_shape
shape-square [] e = refl
shape-square (round s ∷ fs) e = refl
shape-square (square n s ∷ fs) e = refl

shape-start : (s : Slot) (fs : List Frame) (o : Option (List ℕ)) → shape (square_start s fs o) ≡ square_on (kind_of s) (map opening_of fs) (is_some o)
unfolding square_start square_on opening_of kind_of state_shape
shape-start s fs none = refl
shape-start s fs (some n) = refl

shape-begin : (s : Slot) (fs : List Frame) (t : Token) → shape (begin s fs t) ≡ shape_after (state_shape (want s fs)) t
unfolding begin shape_after state_shape kind_of opening_of
shape-begin s fs (name n) = refl
shape-begin s fs (number z) = shape-unless s _
shape-begin s fs minus = shape-first s _
shape-begin s fs not-word = shape-first s _
shape-begin s fs given = shape-first s _
shape-begin s fs (arith k) = refl
shape-begin s fs (joins l) = refl
shape-begin s fs round-open = shape-unless s _
shape-begin s fs round-close = refl
shape-begin s fs square-open = refl
shape-begin s fs square-close = refl
shape-begin s fs (mark m) = refl

shape-follow : (s : Slot) (fs : List Frame) (e : Syn) (o : Option (List ℕ)) (t : Token) → shape (follow s fs e o t) ≡ shape_after (state_shape (have s fs e o)) t
unfolding follow shape_after state_shape kind_of
shape-follow s fs e o (name n) = refl
shape-follow s fs e o (number z) = refl
shape-follow s fs e o minus = shape-first s _
shape-follow s fs e o not-word = refl
shape-follow s fs e o given = refl
shape-follow s fs e o (arith k) = shape-first s _
shape-follow s fs e o (joins l) = shape-link l s fs e
shape-follow s fs e o round-open = refl
shape-follow s fs e o round-close = shape-round fs (finish s e)
shape-follow s fs e o square-open = shape-start s fs o
shape-follow s fs e o square-close = shape-square fs (finish s e)
shape-follow s fs e o (mark m) = refl

shape-step : (o : Option ReaderState) (t : Token) → shape (step o t) ≡ move (shape o) t
unfolding step feed move
shape-step none t = refl
shape-step (some (want s fs)) t = shape-begin s fs t
shape-step (some (have s fs e o)) t = shape-follow s fs e o t

shape-reach : (o : Option ReaderState) (ts : List Token) → shape (reach o ts) ≡ goes (shape o) ts
unfolding reach goes
shape-reach o [] = refl
shape-reach o (t ∷ ts) = shape-reach (step o t) ts ∙ ap (λ (q : Option OperandShape). goes q ts) (shape-step o t)

shape-close : (o : Option ReaderState) → is_some (close o) ≡ shape_complete (shape o)
unfolding close shape_complete state_shape
shape-close none = refl
shape-close (some (want s fs)) = refl
shape-close (some (have s [] e o)) = refl
shape-close (some (have s (f ∷ fs) e o)) = refl

pub shapes-decide : ShapesDecide
unfolding phrase is_phrase state_shape kind_of
shapes-decide ts = shape-close (reach (some (want first [])) ts) ∙ ap shape_complete (shape-reach (some (want first [])) ts)
