-- A variable's cells, else none. Assumes nothing.
use mathlib.Core.Path.{◌≡◌, sym, ◌∙◌}
use mathlib.Core.Bool.{true, false}
use Rattle.meaning.specs.Declarations.{is_variable, cells_at}
use Rattle.base_rows.proofs.cells_at.Goals as goal

pub returns-then-is_variable : goal.returns-then-is_variable
unfolding cells_at
returns-then-is_variable c = let t : is_variable c.args.rows.now c.args.r ≡ true = sym c.is_variable.ensures ∙ c.if-is_variable.true in simp t c.natural_field.ensures

pub returns-else-is_variable : goal.returns-else-is_variable
unfolding cells_at
returns-else-is_variable c = let t : is_variable c.args.rows.now c.args.r ≡ false = sym c.is_variable.ensures ∙ c.if-is_variable.false in simp t
