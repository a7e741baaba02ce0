-- Marks of the tokens of an expression, and where the operands begin whose brackets are open.
use Rattle.std.specs.Prelude.{◌≡◌, Bool, true, false, List, map, ℕ, ◌<◌, length, get_or, set, drop}
use Rattle.meaning.specs.Basics.{if_else, is_some}
use Rattle.grammar.specs.Grammar.{Token}
use Rattle.grammar.specs.Machine.{phrase}
use Rattle.read_tokens.specs.Held.{token_sort}
use Rattle.read_marks.specs.Roles.{is_between}
use Rattle.read_marks.specs.Follows.{follows}
use Rattle.read_marks.specs.declared.Role.{Role}

-- the sorts of the tokens of an expression
abbrev pub PhraseSorts : List ℕ → Type 0
PhraseSorts sorts = (ts : List Token) × (sorts ≡ map token_sort ts) × (is_some (phrase ts) ≡ true)

-- a mark as a number
abbrev pub mark_of : Bool → ℕ
mark_of b = if_else b 1 0

-- each token's mark says whether it begins an operand that an operator follows
abbrev pub Marked : List ℕ → List ℕ → Type 0
Marked sorts marks = (j : ℕ) → j < length sorts → get_or marks j 0 ≡ mark_of (follows (drop j sorts))

-- where an operand is wanted, token k is noted as its first
unfoldable pub starts_after : Bool → ℕ → ℕ → List ℕ → List ℕ
starts_after true k d starts = starts
starts_after false k d starts = set starts d k

-- an operator after an operand marks the operand's first token
unfoldable pub marks_after : Bool → Role → ℕ → ℕ → List ℕ → List ℕ → List ℕ
marks_after false r k d starts marks = set marks k 0
marks_after true r k d starts marks = if_else (is_between r) (set (set marks k 0) (get_or starts d 0) 1) (set marks k 0)
