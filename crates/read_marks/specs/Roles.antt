-- What a token is in an expression, by its sort, and what it does to brackets and operands.
use Rattle.std.specs.Prelude.{Bool, true, false, ℕ, zero, suc, eqb}
use Rattle.meaning.specs.Basics.{if_else}
use Rattle.read_tokens.specs.Sorts as sorts
use Rattle.read_marks.specs.declared.Role.{Role}
use Rattle.read_marks.specs.declared.Role.TheVariants.{Operand, RoundOpening, SquareOpening, Closing, Between, Other}

-- brackets by their sort, or another token
abbrev pub bracket_role : ℕ → Role
bracket_role s = if_else (eqb s sorts.round_open) RoundOpening (if_else (eqb s sorts.square_open) SquareOpening (if_else (eqb s sorts.round_close) Closing (if_else (eqb s sorts.square_close) Closing Other)))

-- the role of a sort
unfoldable pub role_of : ℕ → Role
role_of s =
    if_else (eqb s sorts.name) Operand (if_else (eqb s sorts.number) Operand (if_else (eqb s sorts.minus) Between (if_else (eqb s sorts.arith) Between (if_else (eqb s sorts.and) Between (if_else (eqb s sorts.or) Between (bracket_role s))))))

-- whether an operand has been read after a token
abbrev pub had_after : Role → Bool
had_after Operand = true
had_after RoundOpening = false
had_after SquareOpening = false
had_after Closing = true
had_after Between = false
had_after Other = false

-- how many brackets are open after it
abbrev pub depth_after : Role → ℕ → ℕ
depth_after Operand d = d
depth_after RoundOpening d = suc d
depth_after SquareOpening d = suc d
depth_after Closing zero = 0
depth_after Closing (suc d) = d
depth_after Between d = d
depth_after Other d = d

-- whether a role is an operator's
abbrev pub is_between : Role → Bool
is_between Operand = false
is_between RoundOpening = false
is_between SquareOpening = false
is_between Closing = false
is_between Between = true
is_between Other = false
