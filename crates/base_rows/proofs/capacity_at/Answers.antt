-- The capacity of a channel of role 2, else none. Assumes nothing.
use mathlib.Core.Path.{◌≡◌, sym, ◌∙◌}
use mathlib.Core.Bool.{true, false}
use Rattle.meaning.specs.Declarations.{has_role, capacity_at}
use Rattle.base_rows.proofs.capacity_at.Goals as goal

pub returns-then-has_role : goal.returns-then-has_role
unfolding capacity_at
returns-then-has_role c = let t : has_role 2 c.args.rows.now c.args.r ≡ true = sym c.has_role.ensures ∙ c.if-has_role.true in simp t c.natural_field.ensures

pub returns-else-has_role : goal.returns-else-has_role
unfolding capacity_at
returns-else-has_role c = let t : has_role 2 c.args.rows.now c.args.r ≡ false = sym c.has_role.ensures ∙ c.if-has_role.false in simp t
