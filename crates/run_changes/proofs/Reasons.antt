-- A reason for no value is at most 4: of a value, and of an element of an array.
use mathlib.Core.Bool.{Bool, true, false, not, ◌&&◌, ◌||◌}
use mathlib.Core.Option.{none, some}
use mathlib.Core.List.{List, [], ◌∷◌}
use Prim.Native.Nat.{ℕ, zero, suc, ◌+◌, ◌≤◌}
use native.Mathlib.Omega.{arith}
use lib.IntN.{ℤ, pos, negsuc, neg_ℤ, ◌+ℤ◌, ◌-ℤ◌, ◌*ℤ◌}
use lib.ListN.{get_or}
use lib.Signed.{lt_z, le_z, quot_z, rem_z}
use lib.Dec.{ltb, eqb}
use Rattle.meaning.specs.declared.Value.{Value}
use Rattle.meaning.specs.declared.Value.TheVariants.{Number, Missing}
use Rattle.meaning.specs.declared.Index.{Index}
use Rattle.meaning.specs.declared.Index.TheVariants.{At, Fails}
use Rattle.meaning.specs.Basics.{if_else, eq_z, is_some}
use Rattle.meaning.specs.Tree.{Expr, literal, element, monadic, given, dyadic, no_expr}
use Rattle.meaning.specs.Values.{Message, fitted, is_true, truth, quotient, remainder, operators, operate, monadic_of, decides, when_number, dyadic_of, in_array, cell_value, read_cell, value, index, given_value, Sent, gives, lacking, cell_sent, value_sent, passed}

-- a value, or a reason that is at most 4
abbrev pub Known : Value → Type 0
Known (Number x) = Unit {0}
Known (Missing k) = k ≤ 4

either : (t : Bool) (v w : Value) → Known v → Known w → Known (if_else t v w)
either true v w h k = h
either false v w h k = k

fitted-known : (z : ℤ) → Known (fitted z)
unfolding fitted
fitted-known z =
    either (lt_z z (negsuc 2147483647)) (Missing 3) (if_else (lt_z (pos 2147483647) z) (Missing 3) (Number z)) (omega arith)
    (either (lt_z (pos 2147483647) z) (Missing 3) (Number z) (omega arith) tt)

truth-known : (t : Bool) → Known (truth t)
truth-known true = tt
truth-known false = tt

quotient-known : (x y : ℤ) → Known (quotient x y)
unfolding quotient
quotient-known x y = either (eq_z y (pos 0)) (Missing 4) (fitted (quot_z x y)) (omega arith) (fitted-known (quot_z x y))

remainder-known : (x y : ℤ) → Known (remainder x y)
unfolding remainder
remainder-known x y = either (eq_z y (pos 0)) (Missing 4) (fitted (rem_z x y)) (omega arith) (fitted-known (rem_z x y))

abbrev Operates : (ℤ → ℤ → Value) → Type 0
Operates f = (x y : ℤ) → Known (f x y)

abbrev AllOperate : List (ℤ → ℤ → Value) → Type 0
AllOperate [] = Unit {0}
AllOperate (f ∷ l) = Operates f × AllOperate l

pick : (l : List (ℤ → ℤ → Value)) → AllOperate l → (n : ℕ) (d : ℤ → ℤ → Value) → Operates d → Operates (get_or l n d)
pick [] h n d k = k
pick (f ∷ l) h zero d k = h.0
pick (f ∷ l) h (suc n) d k = pick l h.1 n d k

operators-known : AllOperate operators
unfolding operators
operators-known =
    (λ x y. fitted-known (x +ℤ y), (λ x y. fitted-known (x -ℤ y), (λ x y. fitted-known (x *ℤ y), (quotient-known, (remainder-known, (λ x y. tt, (λ x y. tt, (λ x y. tt, (λ x y. truth-known (eq_z x y), (λ x y. truth-known (not (eq_z x y)), (λ x y. truth-known (lt_z x y), (λ x y. truth-known (le_z x y), (λ x y. truth-known (lt_z y x), (λ x y. truth-known (le_z y x), (λ x y. truth-known (is_true x && is_true y), (λ x y. truth-known (is_true x || is_true y), tt))))))))))))))))

operate-known : (op : ℕ) → Operates (operate op)
unfolding operate
operate-known op = pick operators operators-known op (λ x y. Missing 0) (λ x y. omega arith)

monadic-known : (op : ℕ) (x : ℤ) → Known (monadic_of op x)
unfolding monadic_of
monadic-known op x =
    either (eqb op 0) (fitted (neg_ℤ x)) (if_else (eqb op 1) (truth (not (is_true x))) (Missing 0)) (fitted-known (neg_ℤ x))
    (either (eqb op 1) (truth (not (is_true x))) (Missing 0) (truth-known (not (is_true x))) (omega arith))

when-known : (v : Value) (f : ℤ → Value) → Known v → ((x : ℤ) → Known (f x)) → Known (when_number v f)
when-known (Number x) f h k = k x
when-known (Missing n) f h k = h

dyadic-known : (op : ℕ) (v w : Value) → Known v → Known w → Known (dyadic_of op v w)
unfolding dyadic_of
dyadic-known op (Number x) w h k = either (decides op x) (truth (is_true x)) (when_number w (operate op x)) (truth-known (is_true x)) (when-known w (operate op x) k (operate-known op x))
dyadic-known op (Missing n) w h k = h

abbrev pub Found : Index → Type 0
Found (At a) = Unit {0}
Found (Fails k) = k ≤ 4

array_known : (first n : ℕ) (v : Value) → Known v → Found (in_array first n v)
unfolding in_array
array_known first n (Number (pos i)) h = go (ltb i n)
  where
    go : (t : Bool) → Found (if_else t (At (first + i)) (Fails 2))
    go true = tt
    go false = omega arith
array_known first n (Number (negsuc i)) h = omega arith
array_known first n (Missing k) h = h

read_known : (cells : List Message) (i : Index) → Found i → Known (read_cell cells i)
read_known cells (At i) h = go (get_or cells i none)
  where
    go : (m : Message) → Known (cell_value m)
    go none = omega arith
    go (some x) = tt
read_known cells (Fails k) h = h

given-known : (cells : List Message) (i : Index) → Found i → Known (given_value cells i)
given-known cells (At i) h = go (is_some (get_or cells i none))
  where
    go : (t : Bool) → Known (truth t)
    go true = tt
    go false = tt
given-known cells (Fails k) h = h

pub value-known : (cells : List Message) (e : Expr) → Known (value cells e)
unfolding value
value-known cells (literal x) = tt
value-known cells (element v e) = read_known cells (in_array v.first v.size (value cells e)) (array_known v.first v.size (value cells e) (value-known cells e))
value-known cells (monadic op e) = when-known (value cells e) (monadic_of op) (value-known cells e) (monadic-known op)
value-known cells (given v e) = given-known cells (in_array v.first v.size (value cells e)) (array_known v.first v.size (value cells e) (value-known cells e))
value-known cells (dyadic op e f) = dyadic-known op (value cells e) (value cells f) (value-known cells e) (value-known cells f)
value-known cells no_expr = omega arith

pub index-known : (cells : List Message) (first n : ℕ) (e : Expr) → Found (index cells first n e)
unfolding index
index-known cells first n e = array_known first n (value cells e) (value-known cells e)

-- what an output passes lacks a value for one of them
abbrev pub KnownSent : Sent → Type 0
KnownSent (gives m) = Unit {0}
KnownSent (lacking k) = k ≤ 4

sent-known : (v : Value) → Known v → KnownSent (value_sent v)
sent-known (Number x) h = tt
sent-known (Missing k) h = h

cell-known : (cells : List Message) (i : Index) → Found i → KnownSent (cell_sent cells i)
cell-known cells (At a) h = tt
cell-known cells (Fails k) h = h

pub passed-known : (cells : List Message) (e : Expr) → KnownSent (passed cells e)
unfolding passed
passed-known cells (literal x) = sent-known (value cells (literal x)) (value-known cells (literal x))
passed-known cells (element v e) = cell-known cells (index cells v.first v.size e) (index-known cells v.first v.size e)
passed-known cells (monadic op e) = sent-known (value cells (monadic op e)) (value-known cells (monadic op e))
passed-known cells (given v e) = sent-known (value cells (given v e)) (value-known cells (given v e))
passed-known cells (dyadic op e f) = sent-known (value cells (dyadic op e f)) (value-known cells (dyadic op e f))
passed-known cells no_expr = sent-known (value cells no_expr) (value-known cells no_expr)
