-- The class of a line by the sorts of its tokens.
use Rattle.std.specs.Prelude.{◌≡◌, List, map, ℕ}
use Rattle.grammar.specs.Grammar.{Token}
use Rattle.grammar.specs.Classes.{class_spelt}
use Rattle.read_tokens.specs.Held.{token_sort}
use Rattle.read_classes.specs.ClassNumbers.{class_number}
use Rattle.read_classes.specs.Rules.{at_mark, class_by_mark}

-- the number of the class, 0 for no line
unfoldable pub class_by_sorts : List ℕ → ℕ
class_by_sorts ss = at_mark class_by_mark ss

-- it is that of the line that the tokens spell
abbrev pub ClassTold : Type 0
ClassTold = (ts : List Token) → class_by_sorts (map token_sort ts) ≡ class_number (class_spelt ts)
