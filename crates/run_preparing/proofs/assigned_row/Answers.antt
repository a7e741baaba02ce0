-- `assigned_row` meets its contract.
use Rattle.run_preparing.proofs.RowLaws.{assigned-same}
use Rattle.run_preparing.proofs.assigned_row.Goals as goal

pub returns : goal.returns
returns c =
    assigned-same c.args.rows.now c.args.r c.args.e c.referred.ensures c.requires.noted.0 c.requires.noted.1
