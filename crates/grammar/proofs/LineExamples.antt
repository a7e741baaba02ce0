-- The reader of a line's bytes run on the examples of the request.
use mathlib.Core.Path.{◌≡◌, refl}
use mathlib.Core.List.{List, [], ◌∷◌, map}
use mathlib.Core.Option.{Option, none, some}
use Prim.Native.String.{String}
use lib.IntN.{pos, negsuc}
use Rattle.meaning.specs.Texts.{bytes}
use Rattle.meaning.specs.Lines.{same}
use Rattle.meaning.specs.Numerals.{digits_value, natural}
use Rattle.meaning.specs.Numerals as numerals
use Rattle.grammar.specs.Grammar.{literal, bare, at, monadic, dyadic}
use Rattle.grammar.specs.Machine.{wrap, finish, unless_given, if_first, link_operand, round_end, square_end, square_start, begin, follow, feed, step, reach, close, phrase, operand_of, element_of}
use Rattle.grammar.specs.Outline.{variable, channel, source, sink, declare, skip, assign, input, while, test, guarded, allowed, Lined, lined}
use Rattle.grammar.specs.Lines.{token_mark, before, cut_at, cut_at_mark, single, pair, word_alone, while_line, guard_of, guard_after, of_cut, line_spelt, sized_declaration, named, host_in, host_out, size_read, size_look, name_of, end_look, number_look, look_at, mark_look}
use Rattle.grammar.specs.Scan.{glue, items, read, tokens}
use Rattle.grammar.specs.Tokens.{token_spelt, words, symbols, all_word_bytes, is_word, or_name, or_number, token_of}
use Rattle.grammar.specs.LineBytes.{line_from_bytes, line_of_bytes}

-- a line, and what it is read as, or none
record Example : Type 0 where
  text : String
  expected : Option Lined

abbrev reads : String → Lined → Example
reads s x = record { text = s; expected = some x }

abbrev refuses : String → Example
refuses s = record { text = s; expected = none }

abbrev examples : List Example
examples =
    reads "x := x--5" (lined 0 (assign (bare (bytes "x")) (dyadic 1 (bare (bytes "x")) (literal (negsuc 4)))))
    ∷ reads "x:=- 5" (lined 0 (assign (bare (bytes "x")) (monadic 0 (literal (pos 5)))))
    ∷ refuses "x := x-5"
    ∷ refuses "x := x -5"
    ∷ reads "x := x - 5" (lined 0 (assign (bare (bytes "x")) (dyadic 1 (bare (bytes "x")) (literal (pos 5)))))
    ∷ reads "x := x- 5" (lined 0 (assign (bare (bytes "x")) (dyadic 1 (bare (bytes "x")) (literal (pos 5)))))
    ∷ refuses "x := x REM-5"
    ∷ reads "x := x REM -5" (lined 0 (assign (bare (bytes "x")) (dyadic 4 (bare (bytes "x")) (literal (negsuc 4)))))
    ∷ reads "WHILE-x" (lined 0 (while (monadic 0 (bare (bytes "x")))))
    ∷ reads "x := ((5))" (lined 0 (assign (bare (bytes "x")) (literal (pos 5))))
    ∷ refuses "(c) ? x"
    ∷ refuses "x := NOT GIVEN x"
    ∷ refuses "x := GIVEN (x)"
    ∷ reads "x := NOT(GIVEN x)" (lined 0 (assign (bare (bytes "x")) (monadic 1 (monadic 2 (bare (bytes "x"))))))
    ∷ refuses "WHILE TRUE"
    ∷ refuses "SKIP "
    ∷ refuses " SKIP"
    ∷ reads "    SKIP" (lined 2 skip)
    ∷ refuses "SKIP -- note"
    ∷ refuses "SKIP SKIP"
    ∷ refuses ""
    ∷ refuses "  "
    ∷ refuses "x := 07"
    ∷ refuses "x := -0"
    ∷ refuses "x := 2147483648"
    ∷ reads "x := -2147483648" (lined 0 (assign (bare (bytes "x")) (literal (negsuc 2147483647))))
    ∷ reads "x := 1 AND 2 AND 3" (lined 0 (assign (bare (bytes "x")) (dyadic 14 (literal (pos 1)) (dyadic 14 (literal (pos 2)) (literal (pos 3))))))
    ∷ refuses "x := 1 AND 2 OR 3"
    ∷ refuses "x := 1 AND NOT 2"
    ∷ reads "  c?a[x<=1]" (lined 1 (input (bare (bytes "c")) (at (bytes "a") (dyadic 11 (bare (bytes "x")) (literal (pos 1))))))
    ∷ reads "x = 1 & c ? x" (lined 0 (guarded (dyadic 8 (bare (bytes "x")) (literal (pos 1))) (bare (bytes "c")) (bare (bytes "x"))))
    ∷ reads "1 & SKIP" (lined 0 (allowed (literal (pos 1))))
    ∷ reads "x <> 1" (lined 0 (test (dyadic 9 (bare (bytes "x")) (literal (pos 1)))))
    ∷ refuses "x < > 1"
    ∷ refuses "5x := 1"
    ∷ refuses "_x := 1"
    ∷ reads "abcdefghijklmnopqrstuvwxyz_1234 := 1" (lined 0 (assign (bare (bytes "abcdefghijklmnopqrstuvwxyz_1234")) (literal (pos 1))))
    ∷ refuses "abcdefghijklmnopqrstuvwxyz_12345 := 1"
    ∷ reads "INT x:" (lined 0 (declare (variable (pos 1) (bytes "x"))))
    ∷ reads "[8]CHAN c :" (lined 0 (declare (channel (pos 8) (bytes "c"))))
    ∷ reads "[0]INT x:" (lined 0 (declare (variable (pos 0) (bytes "x"))))
    ∷ reads "HOSTIN h:" (lined 0 (declare (source (bytes "h"))))
    ∷ reads "HOSTOUT 4 h:" (lined 0 (declare (sink (pos 4) (bytes "h"))))
    ∷ reads "INT BITAND:" (lined 0 (declare (variable (pos 1) (bytes "BITAND"))))
    ∷ refuses "INT FOR:"
    ∷ refuses "INT x, y:"
    ∷ refuses "[(8)]INT x:"
    ∷ refuses "INT x"
    ∷ []

examples-read : map (λ (e : Example). line_of_bytes (bytes e.text)) examples ≡ map (λ (e : Example). e.expected) examples
unfolding same digits_value natural numerals.number wrap finish unless_given if_first link_operand round_end square_end square_start begin follow feed step reach close phrase operand_of element_of token_mark before cut_at cut_at_mark single pair word_alone while_line guard_of guard_after of_cut line_spelt glue items read tokens token_spelt words symbols all_word_bytes is_word or_name or_number token_of line_from_bytes line_of_bytes sized_declaration named host_in host_out size_read size_look name_of end_look number_look look_at mark_look
examples-read = refl
