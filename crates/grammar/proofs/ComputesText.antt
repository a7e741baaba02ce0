-- One name that opens every definition that reading a text computes with: `unfolding computes_text`.
use Rattle.meaning.proofs.ComputesAnswers.{computes_answers}
use Rattle.base_top_down.specs.Forms.{form_size, rows_from}
use Rattle.grammar.specs.LineBytes.{line_from_bytes, line_of_bytes}
use Rattle.grammar.specs.Lines.{token_mark, before, cut_at, cut_at_mark, single, pair, word_alone, while_line, guard_of, guard_after, of_cut, line_spelt, sized_declaration, named, host_in, host_out, size_read, size_look, name_of, end_look, number_look, look_at, mark_look}
use Rattle.grammar.specs.Machine.{wrap, finish, unless_given, if_first, link_operand, round_end, square_end, square_start, begin, follow, feed, step, reach, close, phrase, operand_of, element_of}
use Rattle.grammar.specs.Names.{first_declared, names_fault}
use Rattle.grammar.specs.Outline.{expected_beneath, expected_after, may_end, place, accept, accept_line, all_end, levels_ended, grown}
use Rattle.grammar.specs.Places.{take_line, or_rest, place_from, fault_line}
use Rattle.grammar.specs.Scan.{glue, items, read, tokens}
use Rattle.grammar.specs.TextBytes.{grammar_fault}
use Rattle.grammar.specs.TextRead.{text_fault}
use Rattle.grammar.specs.TextRows.{text_lines, name_row, trees_form, lines_rows, text_rows}
use Rattle.grammar.specs.Tokens.{token_spelt, words, symbols, all_word_bytes, is_word, or_name, or_number, token_of}

-- `unfolding computes_text` in an example that holds by computation
unfoldable pub computes_text : Unit {0}
unfolding computes_answers grammar_fault wrap finish unless_given if_first link_operand round_end square_end square_start begin follow feed step reach close phrase operand_of element_of token_mark before cut_at cut_at_mark single pair word_alone while_line guard_of guard_after of_cut line_spelt glue items read tokens token_spelt words symbols all_word_bytes is_word or_name or_number token_of line_from_bytes line_of_bytes sized_declaration named host_in host_out size_read size_look name_of end_look number_look look_at mark_look expected_beneath expected_after may_end place accept accept_line all_end levels_ended take_line or_rest place_from fault_line first_declared names_fault text_lines form_size rows_from name_row trees_form lines_rows text_rows grown text_fault
computes_text = tt
