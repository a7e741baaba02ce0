-- The kinds of rows as data: what each field of each kind may hold.
use Rattle.std.specs.Prelude.{List, [], ◌∷◌, ℕ, ℤ, pos, eqb}
use Rattle.std.proofs.Math.Option.{Option, none, some}
use Rattle.meaning.specs.Basics.{if_else}

-- what a field holds
pub data Field : Type 0 where
  -- "A field not named below is 0"
  unused : Field
  -- a literal's value, any number of 32 bits
  literal_value : Field
  -- a number, from and to
  within : ℤ → ℤ → Field
  -- a channel's elements: 1 to 64, for role 1 and 2 only 1
  elements : Field
  -- a channel's capacity: 0 to 256 for role 2, else 0
  capacity : Field
  -- a monadic operator: 0 to 2; not 2 where its operand, field b, is a row of another kind than an element
  operator : Field
  -- the name of a variable
  variable : Field
  -- the name of a channel of one of these roles
  channel : List ℕ → Field
  -- a reference to a row of one of these kinds
  reference : List ℕ → Field
  -- the same, or −1 for none
  link : List ℕ → Field

-- a kind, and what its fields a, b, c hold
pub record Shape : Type 0 where
  pub kind : ℕ
  pub a : Field
  pub b : Field
  pub c : Field

abbrev pub shape : ℕ → Field → Field → Field → Shape
shape k f g h = record { kind = k; a = f; b = g; c = h }

-- "An expression or boolean is a row of kind 10 to 13, a process one of kind 20 to 34"; "Kind 35 is a block, a process"
abbrev pub expressions : List ℕ
expressions = 10 ∷ 11 ∷ 12 ∷ 13 ∷ []

abbrev pub processes : List ℕ
processes = 20 ∷ 21 ∷ 22 ∷ 23 ∷ 24 ∷ 30 ∷ 31 ∷ 32 ∷ 33 ∷ 34 ∷ 35 ∷ []

abbrev pub expression : Field
expression = reference expressions

abbrev pub process : Field
process = reference processes

-- a number from lo to hi, both not negative
abbrev pub from_to : ℕ → ℕ → Field
from_to lo hi = within (pos lo) (pos hi)

-- the table of kinds
unfoldable pub shapes : List Shape
shapes =
    shape 1 (from_to 1 64) unused unused
    ∷ shape 2 elements (from_to 0 2) capacity
    ∷ shape 10 literal_value unused unused
    ∷ shape 11 variable expression unused
    ∷ shape 12 operator expression unused
    ∷ shape 13 (from_to 0 15) expression expression
    ∷ shape 20 unused unused unused
    ∷ shape 21 unused unused unused
    ∷ shape 22 variable expression expression
    ∷ shape 23 (channel (0 ∷ 1 ∷ [])) expression (reference (11 ∷ []))
    ∷ shape 24 (channel (0 ∷ 2 ∷ [])) expression expression
    ∷ shape 30 (link (40 ∷ [])) unused unused
    ∷ shape 31 (link (40 ∷ [])) unused unused
    ∷ shape 32 (link (41 ∷ [])) unused unused
    ∷ shape 33 expression process unused
    ∷ shape 34 (link (42 ∷ [])) unused unused
    ∷ shape 35 variable process unused
    ∷ shape 40 process (link (40 ∷ [])) unused
    ∷ shape 41 process (link (41 ∷ [])) expression
    ∷ shape 42 process (link (42 ∷ [])) (reference (23 ∷ 43 ∷ []))
    ∷ shape 43 expression (reference (21 ∷ 23 ∷ [])) unused
    ∷ []

-- the first of some shapes that is of a kind
unfoldable pub shape_in : List Shape → ℕ → Option Shape
shape_in [] k = none
shape_in (s ∷ ss) k = let rest = shape_in ss k in if_else (eqb k s.kind) (some s) rest

-- the shape of a kind, none if it is unknown
unfoldable pub shape_of : ℕ → Option Shape
shape_of k = shape_in shapes k
