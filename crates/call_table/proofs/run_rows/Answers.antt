-- A call with a buffer that is too short is refused; else the reply of its task is put, and the two lists are let go. Assumes nothing.
use mathlib.Core.Path.{ap}
use borrow.Author.Rules.{rules}
use Rattle.meaning.specs.Buffers.{Buffers}
use Rattle.meaning.specs.Trace.{TracedReply}
use Rattle.write_buffers.specs.Replies.{reply_in}
use Rattle.write_buffers.specs.Lending.{buffers_in}
use Rattle.write_buffers.proofs.RepliesPut.{all-long, rows_short, rows_long}
use Rattle.call_table.proofs.run_rows.Goals as goal

pub returns-then-too_short : goal.returns-then-too_short
returns-then-too_short c =
    let a = c.args in
    let b : Buffers = buffers_in a.lent.now in
    record { answered = rows_short (record { rows = a.rows.now; sheet = a.sheet.now; choices = a.choices.now; budget = a.budget }) b c.too_short.result c.too_short.ensures c.if-too_short.true; same = search rules }

pub put-requires : goal.put-requires
put-requires c = all-long _ c.too_short.result c.too_short.ensures c.if-too_short.false

pub returns : goal.returns
returns c =
    let a = c.args in
    let b : Buffers = buffers_in a.lent.now in
    let short = c.too_short in
    let done = c.do_rows-done in
    record { answered = rows_long (record { rows = a.rows.now; sheet = a.sheet.now; choices = a.choices.now; budget = a.budget }) b short.result short.ensures (reply_in done.result) _ c.if-too_short.false (ap (λ (x : TracedReply). x.reply) done.ensures) c.put.ensures.answered; same = c.put.ensures.same }
