-- No row is a PAR if none passes the test. Assumes nothing.
use Rattle.std.proofs.Common.{rules, tests, arith, sym, ◌∙◌, eqb}
use mathlib.Core.Path.{refl}
use Rattle.std.proofs.lemmas.Iterator.{YieldsList-from_range}
use Rattle.std.proofs.lemmas.Iterator.Search.{any_from_yields_List}
use borrow.Author.Tests.{eqb-false}
use Rattle.meaning.specs.Rows.{row_count, kind_at}
use Rattle.base_rows.proofs.LowestFound.{any-found, none-passes}
use Rattle.check_usage.proofs.has_par.Goals as goal

pub returns : goal.returns
returns c =
    let rows = c.args.rows.now in
    let n = row_count rows in
    let found = any_from_yields_List (λ r. eqb (kind_at rows r) 31) _ _ c.any.result c.any.ensures.ran (YieldsList-from_range 0 n n refl (omega arith)) (λ x b q k. search (rules, tests)) in
    λ e r l k. eqb-false (kind_at rows r) 31 (none-passes (λ r. eqb (kind_at rows r) 31) n (sym (any-found (λ r. eqb (kind_at rows r) 31) n) ∙ sym found ∙ e) r l) k
