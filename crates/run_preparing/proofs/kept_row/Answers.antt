-- `kept_row` meets its contract.
use Rattle.run_preparing.proofs.RowLaws.{kept_same}
use Rattle.run_preparing.proofs.kept_row.Goals as goal

pub returns : goal.returns
returns c =
    kept_same c.args.rows.now c.args.r c.args.k c.args.first c.referred.ensures c.referred-2.ensures c.requires.noted.0 c.requires.noted.1
