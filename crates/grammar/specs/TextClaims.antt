-- What is claimed of a text's bytes: which texts are of the grammar, that each is read in one way, and where the others are refused by 12.
use Rattle.std.specs.Prelude.{◌≡◌, ◌↔◌, ℕ, ◌<◌, ◌≤◌, length}
use mathlib.Core.List.{List, flatten}
use Rattle.std.proofs.Math.Option.{none, some}
use Rattle.meaning.specs.Lines.{lines}
use Rattle.grammar.specs.Outline.{Trees}
use Rattle.grammar.specs.Places.{Document, Fault}
use Rattle.grammar.specs.TextBytes.{max_text, IsTextLine, text_line, grammar_fault}

-- a text of the grammar and the trees of its lines: at most 32,768 bytes, which are lines one after the other, declarations and one process
abbrev pub OfGrammar : List ℕ → Trees → Type 0
OfGrammar text ps = (length text ≤ max_text) × ((ls : List (List ℕ)) × (text ≡ flatten ls) × Document IsTextLine text_line ls ps)

-- 12: a text that is too long, at 0; else the first line that no lines after it could mend, or the line after the last, if the text only begins one of the grammar
pub data NotOfGrammar (text : List ℕ) : ℕ → Type 0 where
  too_long : max_text < length text → NotOfGrammar text 0
  at-line : {n : ℕ} → length text ≤ max_text → Fault IsTextLine text_line (lines text) n → NotOfGrammar text n

-- a text is refused by 12 exactly so, and passes exactly if it is of the grammar
abbrev pub GrammarExactly : Type 0
GrammarExactly = (text : List ℕ) → (grammar_fault text ≡ none ↔ ((ps : Trees) × OfGrammar text ps)) × ((n : ℕ) → (grammar_fault text ≡ some n) ↔ NotOfGrammar text n)

-- "its reading is unique"
abbrev pub OneReading : Type 0
OneReading = (text : List ℕ) (ps qs : Trees) → OfGrammar text ps → OfGrammar text qs → ps ≡ qs
