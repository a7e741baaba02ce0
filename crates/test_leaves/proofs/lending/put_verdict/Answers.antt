-- A refusal tells its number and its place. Assumes nothing.
use Rattle.test_leaves.proofs.lending.put_verdict.Goals as goal

pub returns-in-Accepted : goal.returns-in-Accepted
returns-in-Accepted c = rw c.in-Accepted.is

pub returns-in-Rejected : goal.returns-in-Rejected
returns-in-Rejected c = rw (c.in-Rejected.is, c.put_place.ensures)
