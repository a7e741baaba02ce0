-- Values: operators over the whole numbers, reasons for no value, and the value of an expression in a store of cells.
-- "Reasons for no value, the first met: 1 an unset cell is read; 2 a subscript is outside the array; 3 the result doesn't fit; 4 a zero divisor."
-- The paper has no reason 0: it stands where an operator or expression is none, which no accepted table has.
use Rattle.std.specs.Prelude.{Bool, true, false, not, ◌&&◌, ◌||◌, List, [], ◌∷◌, ℕ, ◌+◌, ℤ, pos, negsuc, neg_ℤ, ◌+ℤ◌, ◌-ℤ◌, ◌*ℤ◌, get_or, ltb, eqb}
use Rattle.std.proofs.Math.Option.{Option, none, some}
use Rattle.std.specs.Int.Signed.{lt_z, le_z, quot_z, rem_z}
use Rattle.meaning.specs.declared.Value.{Value}
use Rattle.meaning.specs.declared.Value.TheVariants.{Number, Missing}
use Rattle.meaning.specs.declared.Index.{Index}
use Rattle.meaning.specs.declared.Index.TheVariants.{At, Fails}
use Rattle.meaning.specs.Basics.{if_else, eq_z, is_some}
use Rattle.meaning.specs.Tree.{Expr, literal, element, monadic, given, dyadic, no_expr}

-- what a cell, a reading and a channel's message is: a number, or none ("A missing sample must stay missing")
abbrev pub Message : Type 0
Message = Option ℤ

-- z where 32 signed bits hold it, else reason 3
unfoldable pub fitted : ℤ → Value
fitted z = if_else (lt_z z (negsuc 2147483647)) (Missing 3) (if_else (lt_z (pos 2147483647) z) (Missing 3) (Number z))

-- of a number between −2 ^ 32 and 2 ^ 32, the one that differs by 0 or 2 ^ 32 and fits in 32 signed bits
abbrev pub signed32 : ℤ → ℤ
signed32 r = if_else (lt_z r (negsuc 2147483647)) (r +ℤ pos 4294967296) (if_else (lt_z (pos 2147483647) r) (r -ℤ pos 4294967296) r)

-- "PLUS, MINUS and TIMES wrap"
unfoldable pub wrapped : ℤ → ℤ
wrapped z = signed32 (rem_z z (pos 4294967296))

-- "0 is false and any other value true"
abbrev pub is_true : ℤ → Bool
is_true x = not (eq_z x (pos 0))

-- "Comparisons, AND, OR and NOT give 0 or 1"
abbrev pub truth : Bool → Value
truth true = Number (pos 1)
truth false = Number (pos 0)

-- "`/` rounds towards zero"; a zero divisor comes before a result that doesn't fit
unfoldable pub quotient : ℤ → ℤ → Value
quotient x y = if_else (eq_z y (pos 0)) (Missing 4) (fitted (quot_z x y))

-- "REM has the sign of its first operand"
unfoldable pub remainder : ℤ → ℤ → Value
remainder x y = if_else (eq_z y (pos 0)) (Missing 4) (fitted (rem_z x y))

-- the dyadic operators, by number
unfoldable pub operators : List (ℤ → ℤ → Value)
operators =
    (λ x y. fitted (x +ℤ y))
    ∷ (λ x y. fitted (x -ℤ y))
    ∷ (λ x y. fitted (x *ℤ y))
    ∷ quotient
    ∷ remainder
    ∷ (λ x y. Number (wrapped (x +ℤ y)))
    ∷ (λ x y. Number (wrapped (x -ℤ y)))
    ∷ (λ x y. Number (wrapped (x *ℤ y)))
    ∷ (λ x y. truth (eq_z x y))
    ∷ (λ x y. truth (not (eq_z x y)))
    ∷ (λ x y. truth (lt_z x y))
    ∷ (λ x y. truth (le_z x y))
    ∷ (λ x y. truth (lt_z y x))
    ∷ (λ x y. truth (le_z y x))
    ∷ (λ x y. truth (is_true x && is_true y))
    ∷ (λ x y. truth (is_true x || is_true y))
    ∷ []

unfoldable pub operate : ℕ → ℤ → ℤ → Value
operate op = get_or operators op (λ x y. Missing 0)

-- the monadic operators on a number: 0 minus, 1 NOT
unfoldable pub monadic_of : ℕ → ℤ → Value
monadic_of op x = if_else (eqb op 0) (fitted (neg_ℤ x)) (if_else (eqb op 1) (truth (not (is_true x))) (Missing 0))

-- "AND with a false first operand and OR with a true one don't look at the second"
unfoldable pub decides : ℕ → ℤ → Bool
decides op x = (eqb op 14 && not (is_true x)) || (eqb op 15 && is_true x)

-- an operation on what has a value
abbrev pub when_number : Value → (ℤ → Value) → Value
when_number (Number x) f = f x
when_number (Missing k) f = Missing k

-- "Operands are taken left to right"
unfoldable pub dyadic_of : ℕ → Value → Value → Value
dyadic_of op (Number x) w = if_else (decides op x) (truth (is_true x)) (when_number w (operate op x))
dyadic_of op (Missing k) w = Missing k

-- which of n, from first on, a subscript of value v means: the subscript's failure, then reason 2
unfoldable pub in_array : ℕ → ℕ → Value → Index
in_array first n (Number (pos i)) = if_else (ltb i n) (At (first + i)) (Fails 2)
in_array first n (Number (negsuc i)) = Fails 2
in_array first n (Missing k) = Fails k

-- what a cell gives: "an unset cell is read"
abbrev pub cell_value : Message → Value
cell_value none = Missing 1
cell_value (some x) = Number x

abbrev pub read_cell : List Message → Index → Value
read_cell cells (At i) = cell_value (get_or cells i none)
read_cell cells (Fails k) = Missing k

-- GIVEN "gives 1 if it is set, 0 if not; its subscript can still fail"
abbrev pub given_value : List Message → Index → Value
given_value cells (At i) = truth (is_some (get_or cells i none))
given_value cells (Fails k) = Missing k

-- the value of an expression, or the first reason met
unfoldable pub value : List Message → Expr → Value
value cells (literal x) = Number x
value cells (element v e) = read_cell cells (in_array v.first v.size (value cells e))
value cells (monadic op e) = when_number (value cells e) (monadic_of op)
value cells (given v e) = given_value cells (in_array v.first v.size (value cells e))
value cells (dyadic op e f) = let w = value cells f in dyadic_of op (value cells e) w
value cells no_expr = Missing 0

-- the one of n, from first on, that a subscript means
unfoldable pub index : List Message → ℕ → ℕ → Expr → Index
index cells first n e = in_array first n (value cells e)

-- what an output's expression gives to pass on: a message, or the first reason met for none
pub data Sent : Type 0 where
  gives : Message → Sent
  lacking : ℕ → Sent

-- an element gives its cell's message, "unset but inside its array" the absence; any other expression its value
abbrev pub cell_sent : List Message → Index → Sent
cell_sent cells (At i) = gives (get_or cells i none)
cell_sent cells (Fails k) = lacking k

abbrev pub value_sent : Value → Sent
value_sent (Number x) = gives (some x)
value_sent (Missing k) = lacking k

unfoldable pub passed : List Message → Expr → Sent
passed cells (literal x) = value_sent (value cells (literal x))
passed cells (element v e) = cell_sent cells (index cells v.first v.size e)
passed cells (monadic op e) = value_sent (value cells (monadic op e))
passed cells (given v e) = value_sent (value cells (given v e))
passed cells (dyadic op e f) = value_sent (value cells (dyadic op e f))
passed cells no_expr = value_sent (value cells no_expr)
