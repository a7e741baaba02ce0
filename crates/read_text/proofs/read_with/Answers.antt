-- By what the outline says. Assumes nothing.
use mathlib.Core.Path.{ap, ◌∙◌}
use Rattle.read_levels.specs.Outlines.{fault_of}
use Rattle.read_text.proofs.ReadingLaws.{not-of-grammar}
use borrow.Author.Rules.{rules}
use Rattle.read_text.proofs.read_with.Goals as goal

pub read_listed-requires : goal.read_listed-requires
read_listed-requires c =
    let is = c.outline.ensures.listed c.in-Ok.count c.in-Ok.is in
    (is.0, is.1, search rules, search rules)

pub returns-in-Err : goal.returns-in-Err
returns-in-Err c =
    not-of-grammar c.args.text.now c.args.rows.now c.requires.2 c.in-Err.line (c.outline.ensures.place ∙ ap fault_of c.in-Err.is)
