-- One for a channel of the role, else none. Assumes nothing.
use mathlib.Core.Path.{◌≡◌, sym, ◌∙◌}
use mathlib.Core.Bool.{true, false}
use Rattle.meaning.specs.Declarations.{has_role, host_channels_at}
use Rattle.base_rows.proofs.host_channels_at.Goals as goal

pub returns-then-has_role : goal.returns-then-has_role
unfolding host_channels_at
returns-then-has_role c = let t : has_role c.args.role c.args.rows.now c.args.r ≡ true = sym c.has_role.ensures ∙ c.if-has_role.true in simp t

pub returns-else-has_role : goal.returns-else-has_role
unfolding host_channels_at
returns-else-has_role c = let t : has_role c.args.role c.args.rows.now c.args.r ≡ false = sym c.has_role.ensures ∙ c.if-has_role.false in simp t
