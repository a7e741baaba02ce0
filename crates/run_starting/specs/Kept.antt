-- What settling keeps, as the definitions have it.
use Rattle.std.specs.Prelude.{ℕ, ◌++◌, replicate}
use Rattle.machine.specs.Counts as counts
use Rattle.machine.specs.Counts.{kept_of, block_starts, forgotten}
use Rattle.run_starting.specs.declared.kept.Kept.{Kept}
use Rattle.run_starting.specs.Rows.{numbers_of}

abbrev pub kept_lists : Kept → counts.Kept
kept_lists k = kept_of k.states k.left (numbers_of k.came ++ numbers_of k.blocks)

-- every row is idle, and no row has come to work
abbrev pub idle_lists : counts.Kept
idle_lists = kept_of (replicate 1024 0) (replicate 1024 0) (replicate 4098 0)

-- the block of row r starts, and nothing else changes
abbrev pub block_begins : ℕ → counts.Kept → counts.Kept
block_begins r k = kept_of k.states k.left (block_starts r k.came)

-- no row has come to work and no block has started, and nothing else changes
abbrev pub lists_forgotten : counts.Kept → counts.Kept
lists_forgotten k = kept_of k.states k.left (forgotten k.came)
