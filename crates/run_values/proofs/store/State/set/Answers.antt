-- `set` meets its contract: the cell's number and mark change; past the last cell nothing does.
use borrow.Author.Rules.{rules}
use mathlib.Core.Path.{◌≡◌, ap, ◌∙◌}
use mathlib.Core.Option.{some}
use native.Mathlib.Omega.{arith}
use lib.ListN.{length}
use mir.Syntax.{w32}
use mir.ValLaws.{to_z-of_z}
use Rattle.run_values.specs.Cells.{state_cells}
use Rattle.run_values.proofs.CellLaws.{cells-with, unchanged-past}
use Rattle.run_values.proofs.store.State.set.Goals as goal

pub returns-then-i-lt256-clause-cells : goal.returns-then-i-lt256-clause-cells
returns-then-i-lt256-clause-cells c = rw (to_z-of_z w32 _ c.ranges.x) (cells-with c.args.self c.args.i (some c.args.x))

pub returns-else-i-lt256-clause-cells : goal.returns-else-i-lt256-clause-cells
returns-else-i-lt256-clause-cells c =
    let s = c.args.self in
    let v : length s.values ≡ 256 = search rules in
    let m : length s.marks ≡ 256 = search rules in
    let e = unchanged-past s c.args.i (some c.args.x) (omega arith) (omega arith) in
    ap state_cells e ∙ cells-with s c.args.i (some c.args.x)
