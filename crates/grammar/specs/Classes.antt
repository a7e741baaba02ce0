-- Lines by their class: what is expected beneath and after a line depends on its class alone, and a class can be told without the expressions.
use Rattle.std.specs.Prelude.{Bool, true, false, ◌&&◌, List, [], ◌∷◌, ◌≡◌}
use Rattle.std.proofs.Math.Option.{Option, none, some, map}
use Rattle.meaning.specs.Basics.{if_else, is_some}
use Rattle.grammar.specs.Grammar.{a-skip, a-stop, a-seq, a-par, an-if, an-alt, a-while, becomes, asks, tells, ampersand, an_int, a-chan, a-hostin, a-hostout, colon, unused, Token}
use Rattle.grammar.specs.Machine.{element_of}
use Rattle.grammar.specs.Shapes.{is_phrase}
use Rattle.grammar.specs.Outline.{declares_variable, OutlineLine, declare, skip, stop, assign, input, output, seq, par, ifs, alts, while, test, guarded, allowed, Expect, members, choices, options, nothing, one-process, one-member, heads, choice, expected_beneath, expected_after}
use Rattle.grammar.specs.Lines.{Cut, uncut, parted, cut_at_mark, line_spelt, size_read, name_of, number_look, look_at}

-- a variable's declaration, another one; a process with nothing beneath it, an input (a process or a guard); SEQ or PAR, IF, ALT, WHILE; a choice's boolean; a guard
pub data Class : Type 0 where
  variable-line other-declaration leaf input-line member-lines choice-lines option-lines while-line test-line guard-line : Class

abbrev pub class_of : OutlineLine → Class
class_of (declare d) = if_else (declares_variable d) variable-line other-declaration
class_of skip = leaf
class_of stop = leaf
class_of (assign a e) = leaf
class_of (input c a) = input-line
class_of (output c e) = leaf
class_of seq = member-lines
class_of par = member-lines
class_of ifs = choice-lines
class_of alts = option-lines
class_of (while e) = while-line
class_of (test e) = test-line
class_of (guarded e c a) = guard-line
class_of (allowed e) = guard-line

-- What is expected by class ---------------------------------------------------------------------------------------------------------

-- a process, or a variable's declaration before one
abbrev pub member_by_class : Class → Option Expect
member_by_class variable-line = some nothing
member_by_class other-declaration = none
member_by_class leaf = some nothing
member_by_class input-line = some nothing
member_by_class member-lines = some members
member_by_class choice-lines = some choices
member_by_class option-lines = some options
member_by_class while-line = some one-process
member_by_class test-line = none
member_by_class guard-line = none

abbrev pub choice_by_class : Class → Option Expect
choice_by_class variable-line = none
choice_by_class other-declaration = none
choice_by_class leaf = none
choice_by_class input-line = none
choice_by_class member-lines = none
choice_by_class choice-lines = none
choice_by_class option-lines = none
choice_by_class while-line = none
choice_by_class test-line = some one-process
choice_by_class guard-line = none

abbrev pub guard_by_class : Class → Option Expect
guard_by_class variable-line = none
guard_by_class other-declaration = none
guard_by_class leaf = none
guard_by_class input-line = some one-process
guard_by_class member-lines = none
guard_by_class choice-lines = none
guard_by_class option-lines = none
guard_by_class while-line = none
guard_by_class test-line = none
guard_by_class guard-line = some one-process

-- a declaration, or the process after them
abbrev pub head_by_class : Class → Option Expect
head_by_class variable-line = some nothing
head_by_class other-declaration = some nothing
head_by_class leaf = some nothing
head_by_class input-line = some nothing
head_by_class member-lines = some members
head_by_class choice-lines = some choices
head_by_class option-lines = some options
head_by_class while-line = some one-process
head_by_class test-line = none
head_by_class guard-line = none

abbrev pub is_variable_line : Class → Bool
is_variable_line variable-line = true
is_variable_line other-declaration = false
is_variable_line leaf = false
is_variable_line input-line = false
is_variable_line member-lines = false
is_variable_line choice-lines = false
is_variable_line option-lines = false
is_variable_line while-line = false
is_variable_line test-line = false
is_variable_line guard-line = false

abbrev pub is_declaration_line : Class → Bool
is_declaration_line variable-line = true
is_declaration_line other-declaration = true
is_declaration_line leaf = false
is_declaration_line input-line = false
is_declaration_line member-lines = false
is_declaration_line choice-lines = false
is_declaration_line option-lines = false
is_declaration_line while-line = false
is_declaration_line test-line = false
is_declaration_line guard-line = false

abbrev pub beneath_by_class : Expect → Class → Option Expect
beneath_by_class members c = member_by_class c
beneath_by_class choices c = choice_by_class c
beneath_by_class options c = guard_by_class c
beneath_by_class nothing c = none
beneath_by_class one-process c = member_by_class c
beneath_by_class one-member c = member_by_class c
beneath_by_class heads c = head_by_class c

abbrev pub after_by_class : Expect → Class → Expect
after_by_class members c = if_else (is_variable_line c) one-member members
after_by_class choices c = choices
after_by_class options c = options
after_by_class nothing c = nothing
after_by_class one-process c = if_else (is_variable_line c) one-process nothing
after_by_class one-member c = if_else (is_variable_line c) one-member members
after_by_class heads c = if_else (is_declaration_line c) heads nothing

abbrev pub ExpectedByClass : Type 0
ExpectedByClass = (e : Expect) (x : OutlineLine) → (expected_beneath e x ≡ beneath_by_class e (class_of x)) × (expected_after e x ≡ after_by_class e (class_of x))

-- The class of a line's tokens -------------------------------------------------------------------------------------------------------

abbrev pub is_element : List Token → Bool
is_element ts = is_some (element_of ts)

abbrev pub class_if : Bool → Class → Option Class
class_if b c = if_else b (some c) none

-- a word with nothing before or after it
abbrev pub alone_class : Class → List Token → List Token → Option Class
alone_class c [] [] = some c
alone_class c [] (t ∷ us) = none
alone_class c (t ∷ ts) us = none

abbrev pub while_class : List Token → List Token → Option Class
while_class [] us = class_if (is_phrase us) while-line
while_class (t ∷ ts) us = none

abbrev pub host_in_class : List Token → List Token → Option Class
host_in_class [] us = class_if (is_some (name_of us)) other-declaration
host_in_class (t ∷ ts) us = none

abbrev pub host_out_class : List Token → List Token → Option Class
host_out_class [] [] = none
host_out_class [] (u ∷ us) = class_if (is_some (number_look (look_at u)) && is_some (name_of us)) other-declaration
host_out_class (t ∷ ts) us = none

-- what stands after `&`
unfoldable pub guard_cut_class : Cut → Option Class
guard_cut_class (uncut ts) = none
guard_cut_class (parted ts a-skip us) = alone_class guard-line ts us
guard_cut_class (parted ts a-stop us) = none
guard_cut_class (parted ts a-seq us) = none
guard_cut_class (parted ts a-par us) = none
guard_cut_class (parted ts an-if us) = none
guard_cut_class (parted ts an-alt us) = none
guard_cut_class (parted ts a-while us) = none
guard_cut_class (parted ts becomes us) = none
guard_cut_class (parted ts asks us) = class_if (is_element ts && is_element us) guard-line
guard_cut_class (parted ts tells us) = none
guard_cut_class (parted ts ampersand us) = none
guard_cut_class (parted ts an_int us) = none
guard_cut_class (parted ts a-chan us) = none
guard_cut_class (parted ts a-hostin us) = none
guard_cut_class (parted ts a-hostout us) = none
guard_cut_class (parted ts colon us) = none
guard_cut_class (parted ts (unused k) us) = none

unfoldable pub cut_class : Cut → Option Class
cut_class (uncut ts) = class_if (is_phrase ts) test-line
cut_class (parted ts a-skip us) = alone_class leaf ts us
cut_class (parted ts a-stop us) = alone_class leaf ts us
cut_class (parted ts a-seq us) = alone_class member-lines ts us
cut_class (parted ts a-par us) = alone_class member-lines ts us
cut_class (parted ts an-if us) = alone_class choice-lines ts us
cut_class (parted ts an-alt us) = alone_class option-lines ts us
cut_class (parted ts a-while us) = while_class ts us
cut_class (parted ts becomes us) = class_if (is_element ts && is_phrase us) leaf
cut_class (parted ts asks us) = class_if (is_element ts && is_element us) input-line
cut_class (parted ts tells us) = class_if (is_element ts && is_phrase us) leaf
cut_class (parted ts ampersand us) = if_else (is_phrase ts) (guard_cut_class (cut_at_mark us)) none
cut_class (parted ts an_int us) = class_if (is_some (size_read ts) && is_some (name_of us)) variable-line
cut_class (parted ts a-chan us) = class_if (is_some (size_read ts) && is_some (name_of us)) other-declaration
cut_class (parted ts a-hostin us) = host_in_class ts us
cut_class (parted ts a-hostout us) = host_out_class ts us
cut_class (parted ts colon us) = none
cut_class (parted ts (unused k) us) = none

-- the class of the line that some tokens spell
unfoldable pub class_spelt : List Token → Option Class
class_spelt ts = cut_class (cut_at_mark ts)

abbrev pub ClassTold : Type 0
ClassTold = (ts : List Token) → map class_of (line_spelt ts) ≡ class_spelt ts
