-- What the exported functions answer that join several leaves.
use Rattle.std.specs.Prelude.{List, [], ◌∷◌, ℕ, ℤ, pos, set, replicate, Result, Ok, Err}
use Rattle.meaning.specs.Basics.{if_else, is_some}
use Rattle.meaning.specs.Tree.{content_at}
use Rattle.meaning.specs.TableBytes.{bytes_fault, rows_of, numbers_fault}
use Rattle.meaning.specs.Verdict.{form_fault, tree_fault, limit_fault}
use Rattle.meaning.specs.Refusals.{Stage, first_fault}
use Rattle.meaning.specs.Values.{Message, value}
use Rattle.meaning.specs.Buffers.{decoded}
use Rattle.meaning.specs.Answers.{check}
use Rattle.meaning.specs.declared.Value.{Value}
use Rattle.meaning.specs.declared.Value.TheVariants.{Missing}
use Rattle.read_sheet.specs.declared.SheetError.{SheetError}
use Rattle.read_sheet.specs.declared.SheetError.TheVariants.{Full, Refused}
use Rattle.test_leaves.specs.Lent.{copied}

-- the stages 3 to 6 of the verdict on rows
abbrev pub form_stages : List (Stage (List ℤ))
form_stages = numbers_fault ∷ form_fault ∷ tree_fault ∷ limit_fault ∷ []

-- the first refusal of a table's bytes by the stages 2 to 6: the verdict on bytes, without usage
unfoldable pub form_of_bytes : Stage (List ℕ)
form_of_bytes bytes = first_fault (bytes_fault ∷ (λ b. first_fault form_stages (rows_of b)) ∷ []) bytes

-- the 256 cells that lent numbers and marks mean; a buffer of another length counts as zeros
abbrev pub cells_lent : List ℤ → List ℕ → List Message
cells_lent values marks = decoded (copied values (replicate 256 (pos 0))) (copied marks (replicate 256 0))

-- the value of the expression of row r of an accepted table; of a refused one there is none
unfoldable pub value_at : List ℤ → List Message → ℕ → Value
value_at rows cells r = let v = value cells (content_at rows r).expr in if_else (is_some (check rows)) (Missing 0) v

-- what reading a sheet answers and leaves in three lent buffers
pub record SheetAnswer : Type 0 where
  pub answer : ℕ
  pub values : List ℤ
  pub marks : List ℕ
  pub place : List ℕ

-- a refusal with its line; that there is no room; or the count of lines
abbrev pub sheet_answer : Result ℕ SheetError → List ℤ → List ℕ → List ℕ → SheetAnswer
sheet_answer (Ok n) values marks place = record { answer = 0; values = values; marks = marks; place = set place 0 n }
sheet_answer (Err Full) values marks place = record { answer = 1; values = values; marks = marks; place = place }
sheet_answer (Err (Refused p)) values marks place = record { answer = 10; values = values; marks = marks; place = set place 0 p }

-- with what the buffers hold
abbrev pub sheet_lent : Result ℕ SheetError × List ℤ × List ℕ → List ℕ → SheetAnswer
sheet_lent w place = sheet_answer w.0 w.1 w.2 place
