-- The counts are those of the definition, for 1,024 rows at most. Assumes nothing.
use Rattle.check_tree.proofs.NotedCounts.{counted}
use Rattle.check_tree.proofs.tree_fault.Goals as goal

pub first_row_fault_at-requires : goal.first_row_fault_at-requires
first_row_fault_at-requires c =
    (c.kind_table-table.ensures.meaning, (counted c.args.rows.now c.count_references.new.counts c.requires c.count_references.ensures, c.declarations.ensures))

pub returns : goal.returns
returns c = rw c.declarations.ensures at c.first_row_fault_at.ensures
