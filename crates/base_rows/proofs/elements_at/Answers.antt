-- A channel's elements, else none. Assumes nothing.
use mathlib.Core.Path.{◌≡◌, sym, ◌∙◌}
use mathlib.Core.Bool.{true, false}
use Rattle.meaning.specs.Declarations.{is_channel, elements_at}
use Rattle.base_rows.proofs.elements_at.Goals as goal

pub returns-then-is_channel : goal.returns-then-is_channel
unfolding elements_at
returns-then-is_channel c = let t : is_channel c.args.rows.now c.args.r ≡ true = sym c.is_channel.ensures ∙ c.if-is_channel.true in simp t c.natural_field.ensures

pub returns-else-is_channel : goal.returns-else-is_channel
unfolding elements_at
returns-else-is_channel c = let t : is_channel c.args.rows.now c.args.r ≡ false = sym c.is_channel.ensures ∙ c.if-is_channel.false in simp t
