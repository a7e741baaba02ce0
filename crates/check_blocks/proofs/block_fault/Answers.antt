-- A table without blocks has no row at fault. Assumes nothing.
use mathlib.Core.Path.{sym, ap, ◌∙◌}
use Rattle.meaning.specs.Answers.{verdict_of}
use Rattle.check_blocks.proofs.RowFaults.{no-block-fault}
use Rattle.check_blocks.proofs.block_fault.Goals as goal

pub returns-else-has_block : goal.returns-else-has_block
returns-else-has_block c = sym (ap verdict_of (no-block-fault c.args.rows.now (sym c.has_block.ensures ∙ c.if-has_block.false)))
