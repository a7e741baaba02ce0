-- The rows that a text is read to: its declarations, and then its process, "numbered from the top, each row before the rows of its a, b and c in turn".
use mathlib.Core.List.{List, [], ◌∷◌, ◌++◌, map, flatten}
use Rattle.std.proofs.Math.Option.{Option, none, some}
use Rattle.std.specs.Prelude.{ℕ, zero, suc, ℤ, pos, length}
use Rattle.meaning.specs.Basics.{if_else, all_some}
use Rattle.meaning.specs.Lines.{same, lines}
use Rattle.base_top_down.specs.Forms.{Form, absent, number, row, rows_from}
use Rattle.grammar.specs.Grammar.{Syn, literal, bare, at, monadic, dyadic}
use Rattle.grammar.specs.Outline.{Declaration, variable, channel, source, sink, OutlineLine, declare, skip, stop, assign, input, output, seq, par, ifs, alts, while, test, guarded, allowed, Lined, lined, Expect, members, choices, options, nothing, one-process, one-member, heads, is_declaration, starts_block, expected_beneath, expected_after, Tree, node, Trees, empty, also, grown}
use Rattle.grammar.specs.Names.{name_of, declaration_in}
use Rattle.grammar.specs.TextBytes.{text_line}

-- rows with unused fields
abbrev pub unused : Form
unused = number (pos 0)

abbrev pub bare_row : ℕ → Form
bare_row k = row k unused unused unused

-- Declarations ----------------------------------------------------------------------------------------------------------------------

-- the row of a declaration
abbrev pub declaration_row : Declaration → List ℤ
declaration_row (variable z n) = pos 1 ∷ z ∷ pos 0 ∷ pos 0 ∷ []
declaration_row (channel z n) = pos 2 ∷ z ∷ pos 0 ∷ pos 0 ∷ []
declaration_row (source n) = pos 2 ∷ pos 1 ∷ pos 1 ∷ pos 0 ∷ []
declaration_row (sink z n) = pos 2 ∷ pos 1 ∷ pos 2 ∷ z ∷ []

abbrev pub if_declared : Option Declaration → List Declaration
if_declared none = []
if_declared (some d) = d ∷ []

-- the declarations before the process, and those of blocks, in the order of the lines
abbrev pub first : Lined → List Declaration
first (lined zero x) = if_declared (declaration_in x)
first (lined (suc l) x) = []

abbrev pub of_block : Lined → List Declaration
of_block (lined zero x) = []
of_block (lined (suc l) x) = if_declared (declaration_in x)

-- "such declarations follow the others in the order of their blocks"
abbrev pub declarations : List Lined → List Declaration
declarations ls = flatten (map first ls) ++ flatten (map of_block ls)

-- Expressions -----------------------------------------------------------------------------------------------------------------------

-- the number of a name's row among the declared names
unfoldable pub name_row : List (List ℕ) → List ℕ → ℕ
name_row [] n = 0
name_row (m ∷ ms) n = let later = suc (name_row ms n) in if_else (same n m) 0 later

module _ (names : List (List ℕ)) where
  abbrev pub literal_form : ℤ → Form
  literal_form z = row 10 (number z) unused unused

  abbrev pub name_form : List ℕ → Form
  name_form n = number (pos (name_row names n))

  -- "A bare name of size one means subscript 0"
  abbrev pub expression_form : Syn → Form
  expression_form (literal z) = literal_form z
  expression_form (bare n) = row 11 (name_form n) (literal_form (pos 0)) unused
  expression_form (at n e) = row 11 (name_form n) (expression_form e) unused
  expression_form (monadic k e) = row 12 (number (pos k)) (expression_form e) unused
  expression_form (dyadic k e f) = row 13 (number (pos k)) (expression_form e) (expression_form f)

  -- a row of this kind for an element's name and subscript, and one further field
  abbrev pub element_row : ℕ → Syn → Form → Form
  element_row k (literal z) f = absent
  element_row k (bare n) f = row k (name_form n) (literal_form (pos 0)) f
  element_row k (at n e) f = row k (name_form n) (expression_form e) f
  element_row k (monadic o e) f = absent
  element_row k (dyadic o e g) f = absent

  -- Processes -----------------------------------------------------------------------------------------------------------------------

  -- a line that is a process, with what stands beneath it
  abbrev pub process_form : OutlineLine → Form → Form
  process_form (declare d) b = absent
  process_form skip b = bare_row 21
  process_form stop b = bare_row 20
  process_form (assign a e) b = element_row 22 a (expression_form e)
  process_form (input c a) b = element_row 23 c (expression_form a)
  process_form (output c e) b = element_row 24 c (expression_form e)
  process_form seq b = row 30 b unused unused
  process_form par b = row 31 b unused unused
  process_form ifs b = row 32 b unused unused
  process_form alts b = row 34 b unused unused
  process_form (while e) b = row 33 (expression_form e) b unused
  process_form (test e) b = absent
  process_form (guarded e c a) b = absent
  process_form (allowed e) b = absent

  -- the boolean of a choice
  abbrev pub test_form : OutlineLine → Form
  test_form (declare d) = absent
  test_form skip = absent
  test_form stop = absent
  test_form (assign a e) = absent
  test_form (input c a) = absent
  test_form (output c e) = absent
  test_form seq = absent
  test_form par = absent
  test_form ifs = absent
  test_form alts = absent
  test_form (while e) = absent
  test_form (test e) = expression_form e
  test_form (guarded e c a) = absent
  test_form (allowed e) = absent

  -- the guard of an option
  abbrev pub guard_form : OutlineLine → Form
  guard_form (declare d) = absent
  guard_form skip = absent
  guard_form stop = absent
  guard_form (assign a e) = absent
  guard_form (input c a) = element_row 23 c (expression_form a)
  guard_form (output c e) = absent
  guard_form seq = absent
  guard_form par = absent
  guard_form ifs = absent
  guard_form alts = absent
  guard_form (while e) = absent
  guard_form (test e) = absent
  guard_form (guarded e c a) = row 43 (expression_form e) (element_row 23 c (expression_form a)) unused
  guard_form (allowed e) = row 43 (expression_form e) (bare_row 21) unused

  -- a declaration's block round the process after it: the name, and the process
  abbrev pub block_form : Option Declaration → Form → Form
  block_form none p = absent
  block_form (some d) p = row 35 (name_form (name_of d)) p unused

  -- the same where members stand: the block is the first of them
  abbrev pub in_first : Option Declaration → Form → Form
  in_first o absent = absent
  in_first o (number z) = absent
  in_first o (row k p later c) = row k (block_form o p) later c

  abbrev pub member_form : OutlineLine → Form → Form → Form
  member_form x b later = if_else (starts_block x) (in_first (declaration_in x) later) (row 40 (process_form x b) later unused)

  -- a line where something is expected, with what stands beneath it and what stands after it at its level
  abbrev pub line_form : Expect → OutlineLine → Form → Form → Form
  line_form members x b later = member_form x b later
  line_form choices x b later = row 41 b later (test_form x)
  line_form options x b later = row 42 b later (guard_form x)
  line_form nothing x b later = absent
  line_form one-process x b later = if_else (starts_block x) (block_form (declaration_in x) later) (process_form x b)
  line_form one-member x b later = member_form x b later
  line_form heads x b later = if_else (is_declaration x) later (process_form x b)

  abbrev pub or_nothing : Option Expect → Expect
  or_nothing none = nothing
  or_nothing (some e) = e

  -- the lines where something is expected; of the first of them by what comes after it
  unfoldable mutual
    pub tree_form : Tree → Expect → (Expect → Form) → Form
    tree_form (node x ps) e later = line_form e x (trees_form ps (or_nothing (expected_beneath e x))) (later (expected_after e x))

    pub trees_form : Trees → Expect → Form
    trees_form empty e = absent
    trees_form (also p qs) e = tree_form p e (trees_form qs)

-- the rows of a text's lines
unfoldable pub lines_rows : List Lined → List ℤ
lines_rows ls =
    let ds = declarations ls in
    flatten (map declaration_row ds) ++ rows_from (length ds) (trees_form (map name_of ds) (grown ls 0) heads)

abbrev pub or_none : Option (List Lined) → List Lined
or_none none = []
or_none (some ls) = ls

-- the lines of a text that is of the grammar
unfoldable pub text_lines : List ℕ → List Lined
text_lines text = or_none (all_some (map text_line (lines text)))

unfoldable pub text_rows : List ℕ → List ℤ
text_rows text = lines_rows (text_lines text)
