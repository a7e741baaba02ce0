-- Names resolved: in the tokens of a line and in the line itself, the row that a name means stands for its letters.
use Rattle.std.specs.Prelude.{◌≡◌, List, [], ◌∷◌, map, ℕ, zero, suc, ◌≤◌, length}
use Rattle.std.proofs.Math.Option.{none, some}
use Rattle.base_top_down.specs.Forms.{Form}
use Rattle.grammar.specs.Grammar.{Token, name, number, minus, not-word, given, arith, joins, round-open, round-close, square-open, square-close, mark, Syn, literal, bare, at, monadic, dyadic}
use Rattle.grammar.specs.Outline.{Declaration, variable, channel, source, sink, OutlineLine, declare, skip, stop, assign, input, output, seq, par, ifs, alts, while, test, guarded, allowed}
use Rattle.grammar.specs.Lines.{line_spelt}
use Rattle.grammar.specs.Names.{name_of, declaration_in}
use Rattle.grammar.specs.Classes.{class_of}
use Rattle.grammar.specs.TextBytes.{grammar_fault}
use Rattle.grammar.specs.TextRows.{name_row, process_form, test_form, guard_form, block_form, declarations, text_lines}
use Rattle.read_tokens.specs.Held.{row_limit, name_of_row}
use Rattle.read_levels.specs.Listing.{Listing, LinesListed}

-- as many names as rows can be meant: each is the number of its row
unfoldable pub numbered_from : ℕ → ℕ → List (List ℕ)
numbered_from k zero = []
numbered_from k (suc n) = (k ∷ []) ∷ numbered_from (suc k) n

unfoldable pub row_names : List (List ℕ)
row_names = numbered_from 0 row_limit

module _ (names : List (List ℕ)) where
  -- a name as the number of its row
  abbrev pub resolved_name : List ℕ → List ℕ
  resolved_name n = name_row names n ∷ []

  abbrev pub resolved_token : Token → Token
  resolved_token (name n) = name (resolved_name n)
  resolved_token (number z) = number z
  resolved_token minus = minus
  resolved_token not-word = not-word
  resolved_token given = given
  resolved_token (arith k) = arith k
  resolved_token (joins l) = joins l
  resolved_token round-open = round-open
  resolved_token round-close = round-close
  resolved_token square-open = square-open
  resolved_token square-close = square-close
  resolved_token (mark m) = mark m

  abbrev pub resolved_syn : Syn → Syn
  resolved_syn (literal z) = literal z
  resolved_syn (bare n) = bare (resolved_name n)
  resolved_syn (at n e) = at (resolved_name n) (resolved_syn e)
  resolved_syn (monadic k e) = monadic k (resolved_syn e)
  resolved_syn (dyadic k e f) = dyadic k (resolved_syn e) (resolved_syn f)

  abbrev pub resolved_declaration : Declaration → Declaration
  resolved_declaration (variable z n) = variable z (resolved_name n)
  resolved_declaration (channel z n) = channel z (resolved_name n)
  resolved_declaration (source n) = source (resolved_name n)
  resolved_declaration (sink z n) = sink z (resolved_name n)

  abbrev pub resolved_line : OutlineLine → OutlineLine
  resolved_line (declare d) = declare (resolved_declaration d)
  resolved_line skip = skip
  resolved_line stop = stop
  resolved_line (assign a e) = assign (resolved_syn a) (resolved_syn e)
  resolved_line (input c a) = input (resolved_syn c) (resolved_syn a)
  resolved_line (output c e) = output (resolved_syn c) (resolved_syn e)
  resolved_line seq = seq
  resolved_line par = par
  resolved_line ifs = ifs
  resolved_line alts = alts
  resolved_line (while e) = while (resolved_syn e)
  resolved_line (test e) = test (resolved_syn e)
  resolved_line (guarded e c a) = guarded (resolved_syn e) (resolved_syn c) (resolved_syn a)
  resolved_line (allowed e) = allowed (resolved_syn e)

-- the declared names of a text
abbrev pub declared_names : List ℕ → List (List ℕ)
declared_names text = map name_of (declarations (text_lines text))

-- a text of the grammar, its lines listed with names by their rows
pub record TextResolved (text : List ℕ) (count : ℕ) (g : Listing) : Type 0 where
  pub of-grammar : grammar_fault text ≡ none
  pub lines : LinesListed name_of_row (resolved_token (declared_names text)) (text_lines text) count g

-- Claims ------------------------------------------------------------------------------------------------------------------------------

-- the numbers of rows are found as themselves
abbrev pub RowNamed : Type 0
RowNamed = (k : ℕ) → k ≤ row_limit → name_row row_names (k ∷ []) ≡ k

-- resolved tokens spell the resolved line
abbrev pub LineResolved : Type 0
LineResolved = (names : List (List ℕ)) (ts : List Token) (x : OutlineLine) → line_spelt ts ≡ some x → line_spelt (map (resolved_token names) ts) ≡ some (resolved_line names x)

-- by the numbers of rows it has the forms that the line has by the names
pub record FormsResolved (names : List (List ℕ)) (x : OutlineLine) : Type 0 where
  pub as-process : (b : Form) → process_form row_names (resolved_line names x) b ≡ process_form names x b
  pub as-test : test_form row_names (resolved_line names x) ≡ test_form names x
  pub as-guard : guard_form row_names (resolved_line names x) ≡ guard_form names x
  pub as-block : (p : Form) → block_form row_names (declaration_in (resolved_line names x)) p ≡ block_form names (declaration_in x) p
  pub same_class : class_of (resolved_line names x) ≡ class_of x

abbrev pub LineForms : Type 0
LineForms = (names : List (List ℕ)) → length names ≤ row_limit → (x : OutlineLine) → FormsResolved names x
