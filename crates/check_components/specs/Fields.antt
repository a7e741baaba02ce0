-- What the fields of a row name and refer to: its operands' expressions, a target, an input, an output; whether it is a link to members; and what a walk over rows goes by.
use Rattle.std.specs.Prelude.{◌≡◌, Bool, ◌&&◌, List, ℕ, ℤ, leb, ltb}
use Rattle.meaning.specs.Rows.{row_count, natural_at, kind_at}
use Rattle.meaning.specs.Declarations.{variable_at, source_at, sink_at}
use Rattle.meaning.specs.Tree.{Expr, Target, ChannelInput, Action, output, content_at}
use Rattle.base_layout.specs.Operands.{operand_at, GivenElements}
use Rattle.base_layout.specs.Names.{Named}
use Rattle.base_layout.specs.declared.Name.{Name}
use Rattle.check_components.specs.Marks.{target_cells}

-- the names of the rows are noted, and what GIVEN refers to is an element
pub record WalkFacts (rows : List ℤ) (names : List Name) : Type 0 where
  pub named : Named rows names
  pub given : GivenElements rows

module _ (rows : List ℤ) (r : ℕ) where
  abbrev pub expr_in : ℕ → Expr
  expr_in j = (content_at rows (operand_at rows r j)).expr

  -- the variable of field a with the subscript of field b
  unfoldable pub target_in : Target
  target_in = record { name = variable_at rows (natural_at rows r 1); subscript = expr_in 2 }

  unfoldable pub cells_in : List ℕ
  cells_in = target_cells target_in

  unfoldable pub input_in : ChannelInput
  input_in = record { channel = source_at rows (natural_at rows r 1); subscript = expr_in 2; target = (content_at rows (operand_at rows r 3)).target }

  unfoldable pub output_in : Action
  output_in = output (sink_at rows (natural_at rows r 1)) (expr_in 2) (expr_in 3)

  -- is it a link to members
  unfoldable pub is_link : Bool
  is_link = ltb r (row_count rows) && (leb 40 (kind_at rows r) && leb (kind_at rows r) 42)

  -- it is no IF, WHILE or ALT
  abbrev pub NotIfWhileAlt : Type 0
  NotIfWhileAlt = (kind_at rows r ≡ 32 → ⊥) × (kind_at rows r ≡ 33 → ⊥) × (kind_at rows r ≡ 34 → ⊥)
