-- Some row is a block, or none. Assumes nothing.
use Rattle.std.proofs.Common.{rules, tests, arith, ap, ◌∙◌, ℕ, refl}
use Rattle.std.proofs.lemmas.Iterator.{YieldsList-from_range}
use Rattle.std.proofs.lemmas.Iterator.Search.{any_from_yields_List}
use Rattle.meaning.specs.Basics.{lowest, is_some}
use Rattle.meaning.specs.Verdict.{is_block}
use Rattle.base_rows.proofs.LowestFound.{any-found}
use Rattle.check_blocks.specs.Blocks.{has_block}
use Rattle.check_blocks.proofs.has_block.Goals as goal

pub returns : goal.returns
unfolding has_block
returns c =
    let rows = c.args.rows.now in
    let n = c.row_count-n.result in
    any_from_yields_List (is_block rows) _ _ c.any.result c.any.ensures.ran (YieldsList-from_range 0 n n refl (omega arith)) (λ x b q k. search (rules, tests))
    ∙ any-found (is_block rows) n
    ∙ ap (λ (n : ℕ). is_some (lowest (is_block rows) n)) c.row_count-n.ensures
