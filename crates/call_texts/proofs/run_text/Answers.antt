-- A call with a buffer that is too short is refused; else the text is read into rows of its own. Assumes nothing.
use mathlib.Core.Path.{sym, ◌∙◌}
use Rattle.write_buffers.specs.Lending.{buffers_in}
use Rattle.call_texts.proofs.TextReads.{reply-short}
use native.Mathlib.Omega.{arith}
use borrow.Author.Rules.{rules}
use Rattle.call_texts.proofs.run_text.Goals as goal

pub returns-then-too_short : goal.returns-then-too_short
returns-then-too_short c =
    let a = c.args in
    let short = c.too_short in
    record { answered = reply-short a.text.now a.sheet.now a.choices.now a.budget (buffers_in a.lent.now) short.result short.ensures c.if-too_short.true; same = search rules }

pub run_read-requires : goal.run_read-requires
run_read-requires c =
    let a = c.args in
    let short = c.too_short in
    record { room = omega arith; long = sym short.ensures ∙ c.if-too_short.false }
