-- Reading a text: the stages 12, 13 and 3, and what is claimed of them: "A text is read exactly if it is of this grammar, its names are in order and it makes at most
-- 1,024 rows (else 3)".
use Rattle.std.specs.Prelude.{◌≡◌, ◌↔◌, List, [], ◌∷◌, ℕ, suc, ◌<◌, ◌≤◌, length, ltb}
use Rattle.std.proofs.Math.Option.{Option, none, some, map}
use Rattle.meaning.specs.Basics.{if_else, Lowest}
use Rattle.meaning.specs.Limits.{max_rows}
use Rattle.meaning.specs.Rows.{row_count}
use Rattle.meaning.specs.Refusals.{Stage, first_fault}
use Rattle.grammar.specs.Outline.{Trees}
use Rattle.grammar.specs.TextBytes.{grammar_fault}
use Rattle.grammar.specs.TextClaims.{OfGrammar, NotOfGrammar}
use Rattle.grammar.specs.Names.{names_fault}
use Rattle.grammar.specs.NameClaims.{Misnamed}
use Rattle.grammar.specs.TextRows.{text_lines, text_rows}

-- 12, the line; 13, the line; 3, 1,024: "both after 1 and before 3"
abbrev pub grammar_stage : Stage (List ℕ)
grammar_stage text = map (λ n. (12, n)) (grammar_fault text)

abbrev pub name_stage : Stage (List ℕ)
name_stage text = map (λ n. (13, n)) (names_fault (text_lines text))

abbrev pub count_stage : Stage (List ℕ)
count_stage text = if_else (ltb max_rows (row_count (text_rows text))) (some (3, max_rows)) none

-- the refusal of a text
unfoldable pub text_fault : Stage (List ℕ)
text_fault = first_fault (grammar_stage ∷ name_stage ∷ count_stage ∷ [])

module _ (text : List ℕ) where
  -- the lowest line on which names are not in order, or none
  abbrev pub LowestMisnamed : Option ℕ → Type 0
  LowestMisnamed o = Lowest (Misnamed (text_lines text)) (suc (length (text_lines text))) o

  -- a text that is read
  pub record ReadText : Type 0 where
    pub trees : Trees
    pub of-grammar : OfGrammar text trees
    pub names-in-order : LowestMisnamed none
    pub few-rows : row_count (text_rows text) ≤ max_rows

  -- one that is refused
  pub data RefusedText : ℕ → ℕ → Type 0 where
    by-grammar : {n : ℕ} → NotOfGrammar text n → RefusedText 12 n
    by_names : {n : ℕ} {ps : Trees} → OfGrammar text ps → LowestMisnamed (some n) → RefusedText 13 n
    by_rows : {ps : Trees} → OfGrammar text ps → LowestMisnamed none → max_rows < row_count (text_rows text) → RefusedText 3 max_rows

-- a text is read exactly so, and refused exactly so
abbrev pub TextExactly : Type 0
TextExactly = (text : List ℕ) → ((text_fault text ≡ none) ↔ ReadText text) × ((number place : ℕ) → (text_fault text ≡ some (number, place)) ↔ RefusedText text number place)
