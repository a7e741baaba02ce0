-- How many rows each line of a text makes, and that a text makes the rows of its lines.
use Rattle.std.specs.Prelude.{◌≡◌, true, ℕ, suc, ◌+◌, length}
use mathlib.Core.List.{List, [], ◌∷◌, ◌++◌, Memᴰ}
use Rattle.std.proofs.Math.Option.{none, some}
use Rattle.meaning.specs.Basics.{if_else}
use Rattle.meaning.specs.Rows.{row_count}
use Rattle.base_top_down.specs.Forms.{Form, form_size, is_row}
use Rattle.grammar.specs.Grammar.{Token, Syn, literal, bare, at, monadic, dyadic}
use Rattle.grammar.specs.Outline.{OutlineLine, declare, skip, stop, assign, input, output, seq, par, ifs, alts, while, test, guarded, allowed, Lined, lined, Expect, members, choices, options, nothing, one-process, one-member, heads, is_declaration, expected_beneath, expected_after, Trees, Block, Levels, outset}
use Rattle.grammar.specs.Lines.{Spells}
use Rattle.grammar.specs.OutlineClaims.{Text}
use Rattle.grammar.specs.TextBytes.{grammar_fault}
use Rattle.grammar.specs.TextRows.{expression_form, line_form, trees_form, text_lines, text_rows}
use Rattle.grammar.proofs.LinesComplete.{Above}
use Rattle.read_levels.specs.Kinds.{expectations}

-- Lines -----------------------------------------------------------------------------------------------------------------------------

-- the rows of an expression
abbrev pub syn_rows : Syn → ℕ
syn_rows (literal z) = 1
syn_rows (bare n) = 2
syn_rows (at n e) = suc (syn_rows e)
syn_rows (monadic k e) = suc (syn_rows e)
syn_rows (dyadic k e f) = suc (syn_rows e + syn_rows f)

-- the rows of the process, boolean or guard that a line is, without what stands beneath it; the row of an assigned element is that of the assignment
abbrev pub part_rows : OutlineLine → ℕ
part_rows (declare d) = 0
part_rows skip = 1
part_rows stop = 1
part_rows (assign a e) = syn_rows a + syn_rows e
part_rows (input c a) = syn_rows c + syn_rows a
part_rows (output c e) = syn_rows c + syn_rows e
part_rows seq = 1
part_rows par = 1
part_rows ifs = 1
part_rows alts = 1
part_rows (while e) = suc (syn_rows e)
part_rows (test e) = syn_rows e
part_rows (guarded e c a) = suc (syn_rows e + (syn_rows c + syn_rows a))
part_rows (allowed e) = suc (suc (syn_rows e))

-- the row of a member, choice or option
abbrev pub listed_rows : Expect → ℕ
listed_rows members = 1
listed_rows choices = 1
listed_rows options = 1
listed_rows nothing = 0
listed_rows one-process = 0
listed_rows one-member = 1
listed_rows heads = 0

-- the row of a declaration's block; there is none for a declaration before the process
abbrev pub block_rows : Expect → ℕ
block_rows members = 1
block_rows choices = 1
block_rows options = 1
block_rows nothing = 1
block_rows one-process = 1
block_rows one-member = 1
block_rows heads = 0

-- the rows that a line itself makes in the tree of processes, by what is expected where it stands
abbrev pub own_rows : Expect → OutlineLine → ℕ
own_rows e x = if_else (is_declaration x) (block_rows e) (listed_rows e + part_rows x)

-- the same with the row of its declaration
abbrev pub line_rows : Expect → OutlineLine → ℕ
line_rows e x = if_else (is_declaration x) 1 0 + own_rows e x

-- the sum over lines, each with what is expected where it stands
unfoldable pub sum_rows : (Expect → OutlineLine → ℕ) → List Expect → List Lined → ℕ
sum_rows f [] ls = 0
sum_rows f (e ∷ es) [] = 0
sum_rows f (e ∷ es) (lined l x ∷ ls) = let rest = sum_rows f es ls in f e x + rest

-- the rows that each line itself makes
unfoldable pub owns_from : List Expect → List Lined → List ℕ
owns_from [] ls = []
owns_from (e ∷ es) [] = []
owns_from (e ∷ es) (lined l x ∷ ls) = own_rows e x ∷ owns_from es ls

-- of the lines of a text
abbrev pub owns_of : List Lined → List ℕ
owns_of ls = owns_from (expectations outset ls) ls

-- What is claimed -------------------------------------------------------------------------------------------------------------------

-- an expression's form has its rows
abbrev pub SynSize : Type 0
SynSize = (names : List (List ℕ)) (e : Syn) → form_size (expression_form names e) ≡ syn_rows e

-- a form may stand for what is expected: no row for nothing, and a row where a member must come
abbrev pub Fits : Expect → Form → Type 0
Fits members f = Unit {0}
Fits choices f = Unit {0}
Fits options f = Unit {0}
Fits nothing f = form_size f ≡ 0
Fits one-process f = Unit {0}
Fits one-member f = is_row f ≡ true
Fits heads f = Unit {0}

-- a line's form has its own rows, those of what stands beneath it and those of what stands after it
abbrev pub LineSize : Type 0
LineSize = (names : List (List ℕ)) (e b : Expect) (ts : List Token) (x : OutlineLine) (beneath later : Form) → Spells ts x → expected_beneath e x ≡ some b
    → Fits b beneath → Fits (expected_after e x) later → form_size (line_form names e x beneath later) ≡ own_rows e x + form_size beneath + form_size later

-- what is expected has a form that may stand for it
abbrev pub TreesFit : Type 0
TreesFit = (names : List (List ℕ)) (e : Expect) (l : ℕ) (ls : List Lined) (ps : Trees) → Block e l ls ps → Fits e (trees_form names ps e)

-- a line is spelt by some tokens
abbrev pub SpeltLine : Lined → Type 0
SpeltLine (lined l x) = (ts : List Token) × Spells ts x

-- each of some lines is
abbrev pub AllSpelt : List Lined → Type 0
AllSpelt ls = (y : Lined) → Memᴰ y ls → SpeltLine y

-- the lines at a level and beneath it make the rows of their form; others may follow
abbrev pub BlockSize : Type 0
BlockSize = (names : List (List ℕ)) (e : Expect) (l : ℕ) (ls : List Lined) (ps : Trees) → Block e l ls ps → AllSpelt ls → (k : Levels) → length k ≡ l → (rest : List Lined) → Above l rest
    → sum_rows own_rows (expectations (some (e ∷ k)) (ls ++ rest)) (ls ++ rest) ≡ form_size (trees_form names ps e) + sum_rows own_rows (expectations (some k) rest) rest

-- the lines of a text make the rows of its form
abbrev pub TreesSize : Type 0
TreesSize = (names : List (List ℕ)) (ls : List Lined) (ps : Trees) → Text ls ps → AllSpelt ls
    → form_size (trees_form names ps heads) ≡ sum_rows own_rows (expectations outset ls) ls

-- a text of the grammar makes the rows of its lines
abbrev pub RowsCounted : Type 0
RowsCounted = (text : List ℕ) → grammar_fault text ≡ none → row_count (text_rows text) ≡ sum_rows line_rows (expectations outset (text_lines text)) (text_lines text)
