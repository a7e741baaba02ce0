-- `read_number` meets its contract, by the field's first byte. The bound of 2 ^ 31 on what is read in between changes nothing.
use mathlib.Core.Path.{sym, ap, ◌∙◌}
use lib.ListN.{drop}
use Rattle.meaning.specs.Numerals.{natural, unsigned, negative}
use Rattle.base_numbers.specs.Reading.{option_of}
use Rattle.base_numbers.proofs.Naturals.{minus-first, no-minus-first, whole_some, whole_none}
use Rattle.base_numbers.proofs.reading.read_number.Goals as goal

pub returns-in_err-natural-in-Some : goal.returns-in_err-natural-in-Some
returns-in_err-natural-in-Some c =
    let p = c.in-Some.ensures.cases in
    let e = rw p.1 at c.in_err-natural-in-Some.ensures in
    c.from_residual.ensures ∙ sym (ap option_of (minus-first c.args.field.now p.0 ∙ (whole_none (natural (drop 1 c.args.field.now)) (sym e)).1))

pub returns-in_ok-natural-in-Some : goal.returns-in_ok-natural-in-Some
returns-in_ok-natural-in-Some c =
    let p = c.in-Some.ensures.cases in
    let e = rw p.1 at c.in_ok-natural-in-Some.ensures in
    c.negative.ensures ∙ sym (ap option_of (minus-first c.args.field.now p.0 ∙ ap negative (whole_some (natural (drop 1 c.args.field.now)) _ (sym e))))

pub returns-in_err-natural-in-None : goal.returns-in_err-natural-in-None
returns-in_err-natural-in-None c =
    let l = c.args.field.now in
    c.from_residual-in_err-natural-in-None.ensures
    ∙ sym (ap option_of (no-minus-first l c.in-None.ensures.cases ∙ (whole_none (natural l) (sym c.in_err-natural-in-None.ensures)).0))

pub returns-in_ok-natural-in-None : goal.returns-in_ok-natural-in-None
returns-in_ok-natural-in-None c =
    let l = c.args.field.now in
    c.unsigned.ensures
    ∙ sym (ap option_of (no-minus-first l c.in-None.ensures.cases ∙ ap unsigned (whole_some (natural l) _ (sym c.in_ok-natural-in-None.ensures))))
