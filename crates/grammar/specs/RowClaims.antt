-- What is claimed of the rows that a text is read to: its declarations and its process stand in them, they are in top-down numbering, and they are a program.
use Rattle.std.specs.Prelude.{◌≡◌, List, map, ℕ, ◌<◌, length}
use Rattle.std.proofs.Math.Option.{none}
use Rattle.meaning.specs.Declarations as table
use Rattle.meaning.specs.Faults.{WellFormed}
use Rattle.meaning.specs.Verdict.{form_fault, tree_fault}
use Rattle.base_top_down.specs.Forms.{form_of, top_down}
use Rattle.grammar.specs.Outline.{heads, Trees}
use Rattle.grammar.specs.Names.{name_of}
use Rattle.grammar.specs.TextRows.{declarations, trees_form, text_lines, text_rows}
use Rattle.grammar.specs.TextClaims.{OfGrammar}
use Rattle.grammar.specs.TextRead.{text_fault}

-- of a text of the grammar there are as many declarations in its rows as in its lines, and the process at their root is that of its trees
abbrev pub RowsHold : Type 0
RowsHold = (text : List ℕ) (ps : Trees) → OfGrammar text ps
    → let ds = declarations (text_lines text) in
    (table.declarations (text_rows text) ≡ length ds) × (form_of (text_rows text) ≡ trees_form (map name_of ds) ps heads)

-- "Rows are numbered from the top, each row before the rows of its a, b and c in turn"
abbrev pub RowsTopDown : Type 0
RowsTopDown = (text : List ℕ) (ps : Trees) → OfGrammar text ps → top_down (text_rows text) ≡ text_rows text

-- "a text that is read" makes a program: if its declarations are right, the stages 4 and 5 find nothing
abbrev pub RowsRight : Type 0
RowsRight = (text : List ℕ) → text_fault text ≡ none → ((r : ℕ) → r < table.declarations (text_rows text) → WellFormed (text_rows text) r)
    → (form_fault (text_rows text) ≡ none) × (tree_fault (text_rows text) ≡ none)
