-- One name that opens every definition that an answer or the sheet runner computes with: `unfolding computes_answers`.
use Rattle.meaning.proofs.Computes.{computes}
use Rattle.meaning.specs.Basics.{all_some, lowest_from, lowest, all_below}
use Rattle.meaning.specs.Lines.{lines, text, fields, read_line, same}
use Rattle.meaning.specs.Numerals.{digits_value, natural, number, digits_onto, decimal, printed}
use Rattle.meaning.specs.Declarations.{variables, channels}
use Rattle.meaning.specs.TableBytes.{read_row, bytes_fault, rows_of, numbers_fault}
use Rattle.meaning.specs.Kinds.{shapes, shape_in, shape_of}
use Rattle.meaning.specs.Verdict.{may_hold, form_fault, leads, target, targets_below, occurrences, tree_fault, limit_fault, rows_under, block_of, block_fault}
use Rattle.meaning.specs.Sheet.{joined, sheet_header, reading, values_of, sheet_fault, columns, readings}
use Rattle.meaning.specs.Buffers.{sized, lent, strips, encode}
use Rattle.meaning.specs.Refusals.{first_fault}
use Rattle.meaning.specs.Stages.{budget_fault, buffer_fault}
use Rattle.meaning.specs.Answers.{check, check_bytes, check_counted, check_bytes_counted, result, result_of_bytes, reply, reply_to_bytes}
use Rattle.meaning.specs.Printing.{numbered, cell_lines, out_lines, stop_lines, outcome_line, end_lines, word_bytes, line_bytes, printed_lines}
use Rattle.meaning.specs.Runner.{table_part, sheet_part, runner}
use mathlib.Core.List.{flatten}

-- `unfolding computes_answers` in an example that holds by computation
unfoldable pub computes_answers : Unit {0}
unfolding computes flatten all_some lowest_from lowest all_below lines text fields read_line same digits_value natural number digits_onto decimal printed variables channels read_row bytes_fault rows_of numbers_fault shapes shape_in shape_of may_hold form_fault leads target targets_below occurrences tree_fault limit_fault rows_under block_of block_fault joined sheet_header reading values_of sheet_fault columns readings sized lent strips encode first_fault budget_fault buffer_fault check check_bytes check_counted check_bytes_counted result result_of_bytes reply reply_to_bytes numbered cell_lines out_lines stop_lines outcome_line end_lines word_bytes line_bytes printed_lines table_part sheet_part runner
computes_answers = tt
