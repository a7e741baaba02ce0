-- An expression as a constant, and the constant that an operator gives from those of its operands.
use Rattle.std.specs.Prelude.{[], ℕ, eqb, Option, Some, None}
use Rattle.meaning.specs.Basics.{if_else}
use Rattle.meaning.specs.Tree.{Expr}
use Rattle.meaning.specs.Usage.{constant}
use Rattle.meaning.specs.Values.{value, when_number, monadic_of, dyadic_of}
use Rattle.meaning.specs.declared.Value.{Value}

-- its value, for which no cell is looked at, if it is "made only of literals and operators"
unfoldable pub constant_of : Expr → Option Value
constant_of e = if_else (constant e) (Some (value [] e)) None

-- of a monadic operation: GIVEN, operator 2, takes an element
abbrev pub monadic_constant : ℕ → Option Value → Option Value
monadic_constant op (Some v) = if_else (eqb op 2) None (Some (when_number v (monadic_of op)))
monadic_constant op None = None

-- of a dyadic operation
abbrev pub dyadic_constant : ℕ → Option Value → Option Value → Option Value
dyadic_constant op (Some v) (Some w) = Some (dyadic_of op v w)
dyadic_constant op (Some v) None = None
dyadic_constant op None d = None
