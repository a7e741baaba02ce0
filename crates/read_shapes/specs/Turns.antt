-- What a token does to the state of the recogniser, by number; it depends on the token's sort alone.
use Rattle.std.specs.Prelude as turns
use Rattle.std.specs.Prelude.{Some, None, ◌≡◌, true, false, ◌∷◌, ℕ, ◌+◌, ◌-◌, ◌%◌, eqb, ltb}
use Rattle.std.proofs.Math.Option.{Option, none, some}
use Rattle.meaning.specs.Basics.{if_else}
use Rattle.grammar.specs.Grammar.{both, either, Token}
use Rattle.grammar.specs.Shapes.{initial, final, element, round-in, OperandShape, wants, has, unless_element, if_initial, chain_on, round_off, square_off, square_on, shape_after}
use Rattle.read_tokens.specs.Sorts as sorts
use Rattle.read_tokens.specs.Held.{token_sort}
use Rattle.read_shapes.specs.Numbers.{is_bare}
use Rattle.read_shapes.specs.declared.Mode.{Mode}
use Rattle.read_shapes.specs.declared.Mode.TheVariants.{Wants, Has, HasName}
use Rattle.read_shapes.specs.declared.Turn.{Turn}

-- by the sort of a token where an operand is wanted: a name, a number, minus or NOT, GIVEN, a round bracket, another
abbrev pub by_wanted : {A : Type 0} → ℕ → A → A → A → A → A → A → A
by_wanted s name number sign given bracket other =
    if_else (eqb s sorts.name) name (if_else (eqb s sorts.number) number (if_else (eqb s sorts.minus) sign (if_else (eqb s sorts.not) sign (if_else (eqb s sorts.given) given (if_else (eqb s sorts.round_open) bracket other)))))

-- by the sort of a token after an operand: minus or another operator, AND, OR, brackets, another
abbrev pub by_had : {A : Type 0} → ℕ → A → A → A → A → A → A → A → A
by_had s dyadic and or bracket subscript close other =
    if_else (eqb s sorts.minus) dyadic (if_else (eqb s sorts.arith) dyadic (if_else (eqb s sorts.and) and (if_else (eqb s sorts.or) or (if_else (eqb s sorts.round_close) bracket (if_else (eqb s sorts.square_open) subscript (if_else (eqb s sorts.square_close) close other))))))

-- the state after a token of a sort
unfoldable pub shape_by_sort : OperandShape → ℕ → Option OperandShape
shape_by_sort (wants k os) s =
    by_wanted s (some (has k os true)) (unless_element k (has k os false)) (if_initial k (wants final os)) (if_initial k (wants element os)) (unless_element k (wants initial (round-in k ∷ os))) none
shape_by_sort (has k os f) s = by_had s (if_initial k (wants final os)) (chain_on both k os) (chain_on either k os) (round_off os) (square_on k os f) (square_off os) none

-- a token's sort says all
abbrev pub SortTells : Type 0
SortTells = (q : OperandShape) (t : Token) → shape_after q t ≡ shape_by_sort q (token_sort t)

-- another mode and kind
abbrev pub kept : Mode → ℕ → ℕ → Turn
kept m k d = record { mode = m; kind = k; depth = d; pushed = 0 }

-- a bracket more
abbrev pub opened : ℕ → ℕ → Turn
opened b d = record { mode = Wants; kind = 0; depth = d + 1; pushed = b }

-- a bracket less
abbrev pub closed : ℕ → ℕ → Turn
closed top d = record { mode = Has; kind = top % 8; depth = d - 1; pushed = 0 }

-- `unless_element` by number; none where the token may not stand
abbrev pub unless_element_turn : ℕ → Turn → turns.Option Turn
unless_element_turn k t = if_else (eqb k 2) None (Some t)

-- `if_initial` by number
abbrev pub if_initial_turn : ℕ → Turn → turns.Option Turn
if_initial_turn k t = if_else (eqb k 0) (Some t) None

-- `chain_on` by number
abbrev pub chain_turn : ℕ → ℕ → ℕ → turns.Option Turn
chain_turn c k d = if_else (eqb k 0) (Some (kept Wants c d)) (if_else (eqb k c) (Some (kept Wants c d)) None)

-- `round_off` by number
abbrev pub round_off_turn : ℕ → ℕ → turns.Option Turn
round_off_turn top d = if_else (eqb d 0) None (if_else (ltb top 8) (Some (closed top d)) None)

-- `square_off` by number
abbrev pub square_off_turn : ℕ → ℕ → turns.Option Turn
square_off_turn top d = if_else (eqb d 0) None (if_else (ltb top 8) None (Some (closed top d)))

-- `square_on` by number
abbrev pub square_on_turn : Mode → ℕ → ℕ → turns.Option Turn
square_on_turn m k d = if_else (is_bare m) (Some (opened (k + 8) d)) None

-- a token of a sort where an operand is wanted
unfoldable pub turn_wanting : ℕ → ℕ → ℕ → turns.Option Turn
turn_wanting k d s =
    by_wanted s (Some (kept HasName k d)) (unless_element_turn k (kept Has k d)) (if_initial_turn k (kept Wants 1 d)) (if_initial_turn k (kept Wants 2 d)) (unless_element_turn k (opened k d)) None

-- a token of a sort after an operand
unfoldable pub turn_having : Mode → ℕ → ℕ → ℕ → ℕ → turns.Option Turn
turn_having m k d top s =
    by_had s (if_initial_turn k (kept Wants 1 d)) (chain_turn 3 k d) (chain_turn 4 k d) (round_off_turn top d) (square_on_turn m k d) (square_off_turn top d) None

-- what a token of a sort does
unfoldable pub turn_of : Mode → ℕ → ℕ → ℕ → ℕ → turns.Option Turn
turn_of Wants k d top s = turn_wanting k d s
turn_of Has k d top s = turn_having Has k d top s
turn_of HasName k d top s = turn_having HasName k d top s
