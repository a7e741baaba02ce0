-- `members::is_process` meets its contract: past the table nothing stands.
use mathlib.Core.Path.{sym, ap, ◌∙◌}
use Prim.Native.Nat.{ℕ}
use native.Mathlib.Omega.{arith}
use borrow.Author.Rules.{rules}
use Rattle.meaning.specs.Basics.{is_some, among}
use Rattle.meaning.specs.Kinds.{processes}
use Rattle.meaning.specs.Tree.{Content}
use Rattle.base_layout.proofs.Parts.{part-past}
use Rattle.check_components.proofs.ListedProcesses.{process-there}
use borrow.Author.Tests.{le-ltb}
use Rattle.check_usage.proofs.members.is_process.Goals as goal

pub returns-else-p-rows : goal.returns-else-p-rows
returns-else-p-rows c = le-ltb _ _ c.if-p-rows.false ∙ sym (ap (λ (x : Content). is_some x.process) (part-past c.args.rows.now c.args.p c.if-p-rows.false))

pub natural-requires : goal.natural-requires
natural-requires c = omega arith

pub is_process-requires : goal.is_process-requires
is_process-requires c = omega arith

pub returns-then-p-rows : goal.returns-then-p-rows
returns-then-p-rows c =
    c.is_process.ensures ∙ ap (λ (k : ℕ). among k processes) c.natural.ensures ∙ sym (process-there c.args.rows.now c.args.p (search rules))
