-- The states of the recogniser: modes, and kinds and open brackets by number.
use Rattle.std.specs.Prelude.{Bool, true, false, List, [], ◌∷◌, map, ℕ, zero, suc, ◌%◌, get_or, eqb, ltb}
use Rattle.read_shapes.specs.declared.Mode.{Mode}
use Rattle.read_shapes.specs.declared.Mode.TheVariants.{Wants, Has, HasName}
use Rattle.meaning.specs.Basics.{if_else}
use Rattle.grammar.specs.Grammar.{both, either}
use Rattle.grammar.specs.Shapes.{Kind, initial, final, element, chain, Opening, round-in, square-in, OperandShape, wants, has}

-- the kind of an operand's place
unfoldable pub kind_at : ℕ → Kind
kind_at k = if_else (eqb k 0) initial (if_else (eqb k 2) element (if_else (eqb k 3) (chain both) (if_else (eqb k 4) (chain either) final)))

-- an open bracket: the kind, and 8 more for a square one
unfoldable pub opening_at : ℕ → Opening
opening_at b = if_else (ltb b 8) (round-in (kind_at (b % 8))) (square-in (kind_at (b % 8)))

-- the first bytes of a stack above the lowest, top first
unfoldable pub top_first : List ℕ → ℕ → List ℕ
top_first stack zero = []
top_first stack (suc d) = get_or stack (suc d) 0 ∷ top_first stack d

-- the brackets that are open
abbrev pub openings_at : List ℕ → ℕ → List Opening
openings_at stack d = map opening_at (top_first stack d)

-- whether a bare name has been read so far
abbrev pub is_bare : Mode → Bool
is_bare Wants = false
is_bare Has = false
is_bare HasName = true

-- a mode and a kind with open brackets
abbrev pub shape_at : Mode → ℕ → List Opening → OperandShape
shape_at Wants k os = wants (kind_at k) os
shape_at Has k os = has (kind_at k) os false
shape_at HasName k os = has (kind_at k) os true

-- whether an operand has been read and no bracket is open
abbrev pub complete_at : Mode → ℕ → Bool
complete_at Wants d = false
complete_at Has d = eqb d 0
complete_at HasName d = eqb d 0
