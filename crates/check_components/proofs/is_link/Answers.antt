-- `is_link` meets its contract.
use mathlib.Core.Path.{refl}
use Rattle.std.proofs.Common.{tests}
use borrow.Author.Tests.{le-ltb, lt-ltb}
use borrow.Author.Rules.{rules}
use Rattle.check_components.specs.Fields.{is_link}
use Rattle.check_components.proofs.is_link.Goals as goal

pub returns-then-m-rows : goal.returns-then-m-rows
unfolding is_link
returns-then-m-rows c = simp (lt-ltb _ _ c.if-m-rows.true) (search (rules, tests))

pub returns-else-m-rows : goal.returns-else-m-rows
unfolding is_link
returns-else-m-rows c = simp (le-ltb _ _ c.if-m-rows.false) refl
