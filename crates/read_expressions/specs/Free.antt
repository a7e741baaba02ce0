-- Rows left free for operators, on a stack, and what an operator writes there.
use Rattle.std.specs.Prelude.{List, [], ◌∷◌, ℕ, zero, suc, ◌-◌, ◌*◌, ℤ, get_or}
use Rattle.meaning.specs.Basics.{if_else}
use Rattle.read_expressions.specs.Overlay.{overlay}
use Rattle.read_marks.specs.Roles.{role_of, is_between}
use Rattle.read_expressions.specs.TokenRows.{dyadic_row, operator_by_sort}

-- the rows on a stack of a height, the last first
unfoldable pub last_first : List ℕ → ℕ → List ℕ
last_first stack zero = []
last_first stack (suc h) = get_or stack h 0 ∷ last_first stack h

-- the height after a token that stands after an operand
abbrev pub height_after : ℕ → ℕ → ℕ
height_after s h = if_else (is_between (role_of s)) (h - 1) h

-- the rows after it: an operator's stands in the last free row, and its second operand begins at row n
abbrev pub filled : ℕ → ℤ → ℕ → ℕ → List ℤ → List ℤ
filled s v free n rows = if_else (is_between (role_of s)) (overlay rows (4 * free) (dyadic_row (operator_by_sort s v) free n)) rows
