-- What the operators give, told by equality, order, sum and product of the whole numbers: no test and no list of operators stands here.
use Rattle.std.specs.Prelude.{◌≡◌, ◌≢◌, ◌⊎◌, ℕ, ◌<◌, List, get_or, ℤ, pos, negsuc, neg_ℤ, nat_abs, ◌+ℤ◌, ◌-ℤ◌, ◌*ℤ◌, ◌≤ℤ◌, ◌<ℤ◌}
use Rattle.std.proofs.Math.Option.{none, some}
use Rattle.meaning.specs.declared.Index.TheVariants.{At, Fails}
use Rattle.meaning.specs.Declarations.{Variable}
use Rattle.meaning.specs.Rows.{field_at, kind_at}
use Rattle.meaning.specs.References.{of-b, Refers}
use Rattle.meaning.specs.Answers.{check}
use Rattle.meaning.specs.declared.Value.{Value}
use Rattle.meaning.specs.declared.Value.TheVariants.{Number, Missing}
use Rattle.meaning.specs.Tree.{Expr, element, monadic, given, dyadic, content_at}
use Rattle.meaning.specs.Values.{Message, operate, monadic_of, value, index}

-- 32 signed bits hold z
abbrev pub Fits : ℤ → Type 0
Fits z = (negsuc 2147483647 ≤ℤ z) × (z ≤ℤ pos 2147483647)

-- "invalid if the result doesn't fit in 32 signed bits": z itself, or reason 3
abbrev pub Exactly : Value → ℤ → Type 0
Exactly v z = (Fits z → v ≡ Number z) × (¬ Fits z → v ≡ Missing 3)

-- "wrap": the number of 32 signed bits that differs from z by a multiple of 2 ^ 32
pub record Wraps (v : Value) (z : ℤ) : Type 0 where
  pub number : ℤ
  pub times : ℤ
  pub gives : v ≡ Number number
  pub fits : Fits number
  pub differs : z ≡ times *ℤ pos 4294967296 +ℤ number

-- "`/` rounds towards zero; REM has the sign of its first operand"
pub record Divides (x y quotient remainder : ℤ) : Type 0 where
  pub makes-up : x ≡ quotient *ℤ y +ℤ remainder
  pub smaller : nat_abs remainder < nat_abs y
  pub not-below : pos 0 ≤ℤ x → pos 0 ≤ℤ remainder
  pub not-above : x ≤ℤ pos 0 → remainder ≤ℤ pos 0

pub record Division (divided rest : Value) (x y : ℤ) : Type 0 where
  pub quotient : ℤ
  pub remainder : ℤ
  pub divides : Divides x y quotient remainder
  pub gives-quotient : Exactly divided quotient
  pub gives-remainder : Exactly rest remainder

-- "Comparisons, AND, OR and NOT give 0 or 1": 1 exactly if A holds
abbrev pub Tells : Value → Type 0 → Type 0
Tells v A = (A → v ≡ Number (pos 1)) × (¬ A → v ≡ Number (pos 0))

-- what the operators of the paper's list give for two numbers
pub record Operators (x y : ℤ) : Type 0 where
  pub plus : Exactly (operate 0 x y) (x +ℤ y)
  pub minus : Exactly (operate 1 x y) (x -ℤ y)
  pub times : Exactly (operate 2 x y) (x *ℤ y)
  pub division : y ≢ pos 0 → Division (operate 3 x y) (operate 4 x y) x y
  pub by_zero : y ≡ pos 0 → (operate 3 x y ≡ Missing 4) × (operate 4 x y ≡ Missing 4)
  pub wrapping-plus : Wraps (operate 5 x y) (x +ℤ y)
  pub wrapping-minus : Wraps (operate 6 x y) (x -ℤ y)
  pub wrapping-times : Wraps (operate 7 x y) (x *ℤ y)
  pub equal : Tells (operate 8 x y) (x ≡ y)
  pub unequal : Tells (operate 9 x y) (x ≢ y)
  pub less : Tells (operate 10 x y) (x <ℤ y)
  pub at_most : Tells (operate 11 x y) (x ≤ℤ y)
  pub more : Tells (operate 12 x y) (y <ℤ x)
  pub at_least : Tells (operate 13 x y) (y ≤ℤ x)
  pub both : Tells (operate 14 x y) ((x ≢ pos 0) × (y ≢ pos 0))
  pub either : Tells (operate 15 x y) ((x ≢ pos 0) ⊎ (y ≢ pos 0))
  pub negated : Exactly (monadic_of 0 x) (neg_ℤ x)
  pub not-true : Tells (monadic_of 1 x) (x ≡ pos 0)

abbrev pub OperatorsExact : Type 0
OperatorsExact = (x y : ℤ) → Operators x y

-- the first operand settles it: "AND with a false first operand and OR with a true one don't look at the second"
abbrev pub FirstDecides : ℕ → ℤ → Type 0
FirstDecides op x = ((op ≡ 14) × (x ≡ pos 0)) ⊎ ((op ≡ 15) × (x ≢ pos 0))

-- "Operands are taken left to right": the first that has no value gives its reason; one that is not looked at gives none
pub record TakesOperands (cells : List Message) (op : ℕ) (e f : Expr) : Type 0 where
  pub first-missing : (k : ℕ) → value cells e ≡ Missing k → value cells (dyadic op e f) ≡ Missing k
  pub settled-by-first : (x : ℤ) → value cells e ≡ Number x → FirstDecides op x → Tells (value cells (dyadic op e f)) (x ≢ pos 0)
  pub second-missing : (x : ℤ) (k : ℕ) → value cells e ≡ Number x → ¬ FirstDecides op x → value cells f ≡ Missing k → value cells (dyadic op e f) ≡ Missing k
  pub both-there : (x y : ℤ) → value cells e ≡ Number x → value cells f ≡ Number y → value cells (dyadic op e f) ≡ operate op x y
  pub operand-missing : (k : ℕ) → value cells e ≡ Missing k → value cells (monadic op e) ≡ Missing k
  pub operand-there : (x : ℤ) → value cells e ≡ Number x → value cells (monadic op e) ≡ monadic_of op x

abbrev pub OperandsInTurn : Type 0
OperandsInTurn = (cells : List Message) (op : ℕ) (e f : Expr) → TakesOperands cells op e f

-- GIVEN "gives 1 if it is set, 0 if not; its subscript can still fail"
pub record GivenTells (cells : List Message) (v : Variable) (e : Expr) : Type 0 where
  pub inside : (a : ℕ) → index cells v.first v.size e ≡ At a → Tells (value cells (given v e)) ((z : ℤ) × (get_or cells a none ≡ some z))
  pub outside : (k : ℕ) → index cells v.first v.size e ≡ Fails k → value cells (given v e) ≡ Missing k

abbrev pub GivenExact : Type 0
GivenExact = (cells : List Message) (v : Variable) (e : Expr) → GivenTells cells v e

-- in an accepted table a row of kind 12 with operator 2 refers to an element, and is GIVEN of that element
abbrev pub GivenRows : Type 0
GivenRows = (rows : List ℤ) (r : ℕ) → check rows ≡ none → kind_at rows r ≡ 12 → field_at rows r 1 ≡ pos 2
    → (t : ℕ) × Refers rows r of-b t
    × ((v : Variable) × ((e : Expr) × ((content_at rows t).expr ≡ element v e) × ((content_at rows r).expr ≡ given v e)))
