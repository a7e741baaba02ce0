-- A call with a list or a buffer that is too short is refused; else the reply of its task is put, and the lists hold the trace. Assumes nothing.
use mathlib.Core.Path.{sym, ◌∙◌}
use borrow.Author.Rules.{rules}
use Rattle.meaning.specs.Buffers.{Buffers}
use Rattle.meaning.specs.Trace.{TraceLists}
use Rattle.write_buffers.specs.Replies.{reply_in}
use Rattle.write_buffers.specs.Lending.{buffers_in}
use Rattle.write_buffers.proofs.RepliesPut.{all-long}
use Rattle.run_trace.proofs.Replies.{rows-lists-short}
use Rattle.call_table.proofs.Traced.{traced-rows-short, traced-rows-long}
use Rattle.call_table.proofs.run_rows_traced.Goals as goal

pub returns-then-lists_short : goal.returns-then-lists_short
returns-then-lists_short c =
    let a = c.args in
    let b : Buffers = buffers_in a.lent.now in
    let l : TraceLists = record { ready_counts = a.readied.now; taken_rows = a.taken.now } in
    record { answered = rows-lists-short (record { rows = a.rows.now; sheet = a.sheet.now; choices = a.choices.now; budget = a.budget }) b l (sym c.lists_short.ensures ∙ c.if-lists_short.true); same = search rules }

pub returns-then-too_short : goal.returns-then-too_short
returns-then-too_short c =
    let a = c.args in
    let b : Buffers = buffers_in a.lent.now in
    let l : TraceLists = record { ready_counts = a.readied.now; taken_rows = a.taken.now } in
    record { answered = traced-rows-short (record { rows = a.rows.now; sheet = a.sheet.now; choices = a.choices.now; budget = a.budget }) b l _ c.lists_short.ensures c.if-lists_short.false _ c.too_short.ensures c.if-too_short.true; same = search rules }

pub put-requires : goal.put-requires
put-requires c = all-long _ c.too_short.result c.too_short.ensures c.if-too_short.false

pub returns : goal.returns
returns c =
    let a = c.args in
    let b : Buffers = buffers_in a.lent.now in
    let l : TraceLists = record { ready_counts = a.readied.now; taken_rows = a.taken.now } in
    let done = c.do_rows-done in
    record { answered = traced-rows-long (record { rows = a.rows.now; sheet = a.sheet.now; choices = a.choices.now; budget = a.budget }) b l _ c.lists_short.ensures c.if-lists_short.false _ c.too_short.ensures (reply_in done.result) _ _ c.if-too_short.false done.ensures c.put.ensures.answered; same = c.put.ensures.same }
