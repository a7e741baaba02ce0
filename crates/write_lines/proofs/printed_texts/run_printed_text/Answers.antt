-- The line of names, and the lines of the run's parts; every array is as long as its limit. Assumes nothing.
use mathlib.Core.Path.{sym, ap, ◌∙◌}
use Prim.Native.Nat.{◌/◌}
use native.Mathlib.Omega.{arith}
use lib.ListN.{length, take}
use lib.Seq.{take_all}
use Rattle.meaning.specs.Declarations.{channels}
use Rattle.meaning.specs.Buffers.{decoded, capacities}
use Rattle.meaning.specs.Printing.{outcome_line, cell_lines, out_lines, stop_lines}
use Rattle.write_lines.specs.Decoding.{outputs_in}
use Rattle.write_lines.proofs.PrintedTextLaws.{take_short, printed-text-made, run-made}
use Rattle.write_lines.proofs.printed_texts.run_printed_text.Goals as goal

pub put_variables-place-requires : goal.put_variables-place-requires
put_variables-place-requires c = ((let h = take_short 4096 c.args.rows.now in let e = ap length c.part-table.ensures in omega arith), omega arith)

pub put_outputs-place-requires : goal.put_outputs-place-requires
put_outputs-place-requires c = ((let h = take_short 4096 c.args.rows.now in let e = ap length c.part-table.ensures in omega arith), omega arith)

pub put_stops-requires : goal.put_stops-requires
put_stops-requires c =
    let h = take_short 4096 c.args.rows.now in
    let e = ap length c.part-table.ensures in
    let d = ap length (c.part-states.ensures ∙ ap (take (length c.part-table.result.now / 4)) c.row_states.ensures.same) in
    let k = take_short (length c.part-table.result.now / 4) c.args.run.now.states in
    omega arith

pub returns : goal.returns
returns c =
    let r = c.args.run.now in
    let T = c.part-table.result.now in
    let made = printed-text-made (outcome_line r.outcome r.steps)
    (cell_lines T (decoded r.state.values r.state.marks))
    (out_lines (channels T 2) (outputs_in (capacities T) r.outputs.counts (decoded r.outputs.numbers r.outputs.marks)))
    (stop_lines 0 c.part-states.result.now)
    c.args.out.now
    c.put_bytes-place.ensures
    c.put_answer-place.ensures
    c.put_variables-place.ensures
    c.put_outputs-place.ensures
    c.put_stops.ensures in
    let written = run-made c.args.rows.now r.outcome r.steps r.state.values r.state.marks r.states r.outputs.numbers r.outputs.counts r.outputs.marks c.args.out.now
    c.part-table.ensures
    (sym (take_all 256 r.state.values (omega arith)))
    (sym (take_all 256 r.state.marks (omega arith)))
    (c.part-states.ensures ∙ ap (take (length T / 4)) c.row_states.ensures.same)
    (sym (take_all 1024 r.outputs.numbers (omega arith)))
    (sym (take_all 8 r.outputs.counts (omega arith)))
    (sym (take_all 1024 r.outputs.marks (omega arith)))
    made in
    record { written = written; bytes = c.row_states.ensures.bytes }
