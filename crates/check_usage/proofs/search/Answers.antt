-- The verdict on one number, and where it accepts the one on the next. Assumes nothing.
use Rattle.check_usage.proofs.FirstClash.{ends-at-7, ends-at-8, ends-at-9}
use Rattle.check_usage.proofs.search.Goals as goal

pub returns-in-Rejected : goal.returns-in-Rejected
returns-in-Rejected c =
    ends-at-7 c.args.rows.now c.in_all-cells.ensures.0 c.in-Rejected.is

pub returns-in-Rejected-verdict : goal.returns-in-Rejected-verdict
returns-in-Rejected-verdict c =
    ends-at-8 c.args.rows.now c.in_all-cells.ensures.0 c.in_default.is c.in_all-inputs.ensures.0 c.in-Rejected-verdict.is

pub returns : goal.returns
returns c =
    ends-at-9 c.args.rows.now c.in_all-cells.ensures.0 c.in_default.is c.in_all-inputs.ensures.0 c.in_default-verdict.is c.in_all.ensures.0
