-- `unset` meets its contract: the cell's number and mark change; past the last cell nothing does.
use borrow.Author.Rules.{rules}
use mathlib.Core.Path.{◌≡◌, ap, ◌∙◌}
use mathlib.Core.Option.{none}
use native.Mathlib.Omega.{arith}
use lib.ListN.{length}
use Rattle.run_values.specs.Cells.{state_cells}
use Rattle.run_values.proofs.CellLaws.{cells-with, unchanged-past}
use Rattle.run_values.proofs.store.State.unset.Goals as goal

pub returns-then-i-lt256-clause-cells : goal.returns-then-i-lt256-clause-cells
returns-then-i-lt256-clause-cells c = cells-with c.args.self c.args.i none

pub returns-else-i-lt256-clause-cells : goal.returns-else-i-lt256-clause-cells
returns-else-i-lt256-clause-cells c =
    let s = c.args.self in
    let v : length s.values ≡ 256 = search rules in
    let m : length s.marks ≡ 256 = search rules in
    let e = unchanged-past s c.args.i none (omega arith) (omega arith) in
    ap state_cells e ∙ cells-with s c.args.i none
