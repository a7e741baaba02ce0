-- What settling needs of a row, by its kind. A row that it refers to is a higher row, or past the table where there is none.
use Rattle.std.specs.Prelude.{List, ℕ, ℤ, length, ltb, leb}
use Rattle.meaning.specs.declared.Node.{Node}
use Rattle.meaning.specs.declared.Node.TheVariants.{Literal, Element, Monadic, Dyadic, Stop, Skip, Assignment, Input, Output, Seq, Par, If, While, Alt, Block, Member, Choice, OptionRow, Guard, Other}
use Rattle.meaning.specs.Basics.{if_else}
use Rattle.meaning.specs.Rows.{row_count}
use Rattle.meaning.specs.Nodes.{node_at}
use Rattle.run_parents.specs.declared.shape.Mode.TheVariants.{InTurn, Together, ByStep}
use Rattle.run_parents.specs.declared.shape.Shape.{Shape}
use Rattle.run_parents.specs.declared.shape.Shape.TheVariants.{Ending, Single, Link, Neither}

-- row b, where it is a higher row than r; else one past the table
unfoldable pub higher_row : List ℤ → ℕ → ℕ → ℕ
higher_row rows r b = if_else (ltb r b) b (length rows)

-- the part of row r in settling, by its node
abbrev pub settling_shape : List ℤ → ℕ → Node → Shape
settling_shape rows r (Literal x) = Neither
settling_shape rows r (Element a b) = Neither
settling_shape rows r (Monadic a b) = Neither
settling_shape rows r (Dyadic a b c) = Neither
settling_shape rows r Stop = Ending ByStep (length rows)
settling_shape rows r Skip = Ending InTurn (length rows)
settling_shape rows r (Assignment a b c) = Ending ByStep (length rows)
settling_shape rows r (Input a b c) = Ending ByStep (length rows)
settling_shape rows r (Output a b c) = Ending ByStep (length rows)
settling_shape rows r (Seq a) = Ending InTurn (higher_row rows r a)
settling_shape rows r (Par a) = Ending Together (higher_row rows r a)
settling_shape rows r (If a) = Ending ByStep (higher_row rows r a)
settling_shape rows r (While a b) = Single (higher_row rows r b)
settling_shape rows r (Alt a) = Ending ByStep (higher_row rows r a)
settling_shape rows r (Block a b) = Single (higher_row rows r b)
settling_shape rows r (Member a b) = Link (higher_row rows r a) (higher_row rows r b)
settling_shape rows r (Choice a b c) = Link (higher_row rows r a) (higher_row rows r b)
settling_shape rows r (OptionRow a b c) = Link (higher_row rows r a) (higher_row rows r b)
settling_shape rows r (Guard a b) = Neither
settling_shape rows r Other = Neither

-- the part of row r in settling
unfoldable pub shape_at : List ℤ → ℕ → Shape
shape_at rows r = if_else (leb (row_count rows) r) Neither (settling_shape rows r (node_at rows r))
