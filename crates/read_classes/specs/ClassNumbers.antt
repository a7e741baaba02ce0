-- The classes of lines by number, as the code names them.
use Rattle.std.proofs.Math.Option.{Option, none, some}
use Rattle.std.specs.Prelude.{ℕ}
use Rattle.grammar.specs.Classes.{Class, variable-line, other-declaration, leaf, input-line, member-lines, choice-lines, option-lines, while-line, test-line, guard-line}

-- the number of a class
abbrev pub number_of : Class → ℕ
number_of variable-line = 1
number_of other-declaration = 2
number_of leaf = 3
number_of input-line = 4
number_of member-lines = 5
number_of choice-lines = 6
number_of option-lines = 7
number_of while-line = 8
number_of test-line = 9
number_of guard-line = 10

-- the number of a class, or 0 for no line
abbrev pub class_number : Option Class → ℕ
class_number none = 0
class_number (some c) = number_of c
