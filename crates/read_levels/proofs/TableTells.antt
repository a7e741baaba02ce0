-- The tables tell what is expected beneath a line and after it, and whether a level may end is told by its number.
use mathlib.Core.Path.{◌≡◌, refl, ap, ◌∙◌}
use mathlib.Core.List.{List, []}
use mathlib.Core.Option.{Option, none, some}
use Prim.Native.Nat.{ℕ, ◌<◌}
use native.Mathlib.Omega.{arith}
use lib.ListN.{get_or}
use lib.Dec.{ltb}
use Rattle.grammar.specs.Outline.{Expect, members, choices, options, nothing, one-process, one-member, heads, may_end}
use Rattle.grammar.specs.Classes.{Class, variable-line, other-declaration, leaf, input-line, member-lines, choice-lines, option-lines, while-line, test-line, guard-line, beneath_by_class, after_by_class}
use Rattle.read_classes.specs.ClassNumbers.{number_of, class_number}
use Rattle.read_levels.specs.Kinds.{expect_number}
use Rattle.read_levels.specs.Steps.{none_number, beneath_number, row_of, table_of, table_at, beneath_table, after_table}

module _ (f : Expect → Class → ℕ) where
  row_at : (e : Expect) → get_or (table_of f) (expect_number e) [] ≡ row_of f e
  row_at members = refl
  row_at choices = refl
  row_at options = refl
  row_at nothing = refl
  row_at one-process = refl
  row_at one-member = refl
  row_at heads = refl

  column-at : (e : Expect) (c : Class) → get_or (row_of f e) (number_of c) 0 ≡ f e c
  column-at e variable-line = refl
  column-at e other-declaration = refl
  column-at e leaf = refl
  column-at e input-line = refl
  column-at e member-lines = refl
  column-at e choice-lines = refl
  column-at e option-lines = refl
  column-at e while-line = refl
  column-at e test-line = refl
  column-at e guard-line = refl

  table-tells : (e : Expect) (c : Class) → table_at (table_of f) (expect_number e) (number_of c) ≡ f e c
  table-tells e c = ap (λ (row : List ℕ). get_or row (number_of c) 0) (row_at e) ∙ column-at e c

  no-line-told : (e : Expect) → table_at (table_of f) (expect_number e) 0 ≡ none_number
  no-line-told e = ap (λ (row : List ℕ). get_or row 0 0) (row_at e)

-- what is expected beneath a line
pub beneath-tells : (e : Expect) (c : Class) → table_at beneath_table (expect_number e) (number_of c) ≡ beneath_number (beneath_by_class e c)
unfolding beneath_table
beneath-tells e c = table-tells (λ e c. beneath_number (beneath_by_class e c)) e c

-- no line may stand anywhere
pub no-line-beneath : (e : Expect) → table_at beneath_table (expect_number e) 0 ≡ none_number
unfolding beneath_table
no-line-beneath e = no-line-told (λ e c. beneath_number (beneath_by_class e c)) e

-- what is expected after it
pub after-tells : (e : Expect) (c : Class) → table_at after_table (expect_number e) (number_of c) ≡ expect_number (after_by_class e c)
unfolding after_table
after-tells e c = table-tells (λ e c. expect_number (after_by_class e c)) e c

-- the numbers of what is expected are below the number for none
pub expect-below : (e : Expect) → expect_number e < none_number
expect-below members = omega arith
expect-below choices = omega arith
expect-below options = omega arith
expect-below nothing = omega arith
expect-below one-process = omega arith
expect-below one-member = omega arith
expect-below heads = omega arith

-- the numbers of the classes are below 11
pub class-below : (c : Class) → number_of c < 11
class-below variable-line = omega arith
class-below other-declaration = omega arith
class-below leaf = omega arith
class-below input-line = omega arith
class-below member-lines = omega arith
class-below choice-lines = omega arith
class-below option-lines = omega arith
class-below while-line = omega arith
class-below test-line = omega arith
class-below guard-line = omega arith

pub class-few : (o : Option Class) → class_number o < 11
class-few none = omega arith
class-few (some c) = class-below c

-- a level may end if its number is low
pub ends-told : (e : Expect) → ltb (expect_number e) (expect_number one-process) ≡ may_end e
unfolding may_end
ends-told members = refl
ends-told choices = refl
ends-told options = refl
ends-told nothing = refl
ends-told one-process = refl
ends-told one-member = refl
ends-told heads = refl
