-- As many are listed as are declared. Assumes nothing.
use native.Mathlib.Omega.{arith}
use Rattle.read_text.proofs.RowsLaws.{all-taken}
use borrow.Author.Rules.{rules}
use Rattle.read_text.proofs.names.resolve_with.Goals as goal

pub slice_bounds-resolve_listed-end-2 : goal.slice_bounds-resolve_listed-end-2
slice_bounds-resolve_listed-end-2 c =
    let g = c.gather-declared in
    all-taken g.result _ (search rules)

pub slice_bounds-resolve_listed-end-4 : goal.slice_bounds-resolve_listed-end-4
slice_bounds-resolve_listed-end-4 c =
    let g = c.gather-declared in
    all-taken g.result _ (search rules)

pub slice_bounds-resolve_listed-end-6 : goal.slice_bounds-resolve_listed-end-6
slice_bounds-resolve_listed-end-6 c =
    let g = c.gather-declared in
    all-taken g.result _ (search rules)

pub resolve_listed-requires : goal.resolve_listed-requires
resolve_listed-requires c =
    let g = c.gather-declared in
    let is = g.ensures.0 c.args.text.now c.requires.0 in
    (c.requires.0, is.1, omega (arith, is.1.froms-counted, is.0, g.ensures.1, c.requires.1.few), omega (arith, is.1.froms-counted, is.0, g.ensures.1, c.requires.1.nexts-long), c.requires.2)
