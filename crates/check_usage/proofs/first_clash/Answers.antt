-- `first_clash` meets its contract: without a PAR nothing is compared; else the lists have room for each row of the table.
use native.Mathlib.Omega.{arith}
use Rattle.meaning.proofs.LentLaws.{defaults-at}
use Rattle.base_layout.specs.Names.{no_name}
use Rattle.check_usage.proofs.FirstClash.{no-clash}
use Rattle.check_usage.proofs.first_clash.Goals as goal

pub has_par-requires : goal.has_par-requires
has_par-requires c = omega arith

pub returns-then-not-has_par : goal.returns-then-not-has_par
returns-then-not-has_par c = no-clash c.args.rows.now (c.has_par.ensures (c.if-not-has_par.true))

pub slice_bounds-search_in-end : goal.slice_bounds-search_in-end
slice_bounds-search_in-end c = omega arith

pub slice_bounds-search_in-end-then-rows-le800 : goal.slice_bounds-search_in-end-then-rows-le800
slice_bounds-search_in-end-then-rows-le800 c = omega arith

pub search_in-requires : goal.search_in-requires
search_in-requires c = record { table = c.requires; room = (omega (arith, c.if-rows-le800.true), omega (arith, c.if-rows-le800.true)); empty = defaults-at no_name 200 }

pub returns-then-rows-le800 : goal.returns-then-rows-le800
returns-then-rows-le800 c = c.search_in.ensures

pub slice_bounds-search_in-end-2 : goal.slice_bounds-search_in-end-2
slice_bounds-search_in-end-2 c = omega arith

pub slice_bounds-search_in-end-3 : goal.slice_bounds-search_in-end-3
slice_bounds-search_in-end-3 c = omega arith

pub search_in-requires-2 : goal.search_in-requires-2
search_in-requires-2 c = record { table = c.requires; room = (omega (arith, c.requires.0), omega (arith, c.requires.0)); empty = defaults-at no_name 1024 }

pub returns : goal.returns
returns c = c.search_in-2.ensures
