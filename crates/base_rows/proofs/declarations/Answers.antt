-- The first row that declares nothing, or the count of rows, is how many declarations lead. Assumes nothing.
use Rattle.std.proofs.Common.{◌≡◌, true, false, rules, tests}
use Rattle.std.proofs.lemmas.Iterator.{first_from_Range}
use Rattle.meaning.specs.Declarations.{declares}
use Rattle.base_rows.proofs.Leading.{leading-found}
use Rattle.base_rows.proofs.declarations.Goals as goal

pub returns : goal.returns
returns c =
    let rows = c.args.rows.now in
    let found = first_from_Range _ _ _ _ (λ r. declares rows r ≡ false) (λ r. declares rows r ≡ true) c.find.ensures.ran
    (λ x q k. search (rules, tests))
    (λ x q k. (search rules, search (rules, tests))) in
    rw (c.unwrap_or.ensures, c.row_count-n.ensures) (leading-found rows c.find.result (rw c.row_count-n.ensures at found))
