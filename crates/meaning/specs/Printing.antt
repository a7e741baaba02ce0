-- The lines that the sheet runner prints, as records and as bytes.
use mathlib.Core.List.{List, [], ◌∷◌, ◌++◌, map, flatten}
use Rattle.std.proofs.Math.Option.{none, some}
use Rattle.std.specs.Prelude.{ℕ, suc, ◌-◌, ℤ, pos, take, drop, leb}
use Rattle.meaning.specs.Texts.{bytes, line_feed, comma}
use Rattle.meaning.specs.Numerals.{decimal, printed}
use Rattle.meaning.specs.declared.Outcome.{Outcome}
use Rattle.meaning.specs.declared.Outcome.TheVariants.{Ended, Stuck, Broken, Spent}
use Rattle.meaning.specs.Basics.{if_else}
use Rattle.meaning.specs.Refusals.{Refusal}
use Rattle.meaning.specs.Declarations.{sum_below, cells_at}
use Rattle.meaning.specs.Declarations.{variables, channels}
use Rattle.meaning.specs.Values.{Message}
use Rattle.meaning.specs.State.{State}
use Rattle.meaning.specs.Run.{RunResult}

-- the first field of a line
pub data Word : Type 0 where
  outcome_word : Outcome → Word
  var_word : Word
  out_word : Word
  stop_word : Word
  refused_word : Word

-- a printed line: `what,name,at,value`
pub record Line : Type 0 where
  pub what : Word
  pub name : ℕ
  pub at : ℕ
  pub value : Message

abbrev pub line : Word → ℕ → ℕ → Message → Line
line w r i v = record { what = w; name = r; at = i; value = v }

-- a line for each element of a list, with its position from i on
unfoldable pub numbered : Word → ℕ → ℕ → List Message → List Line
numbered w r i [] = []
numbered w r i (v ∷ vs) = line w r i v ∷ numbered w r (suc i) vs

-- the cells of the variable of row r
abbrev pub cells_of : List ℤ → List Message → ℕ → List Message
cells_of rows cells r = take (cells_at rows r) (drop (sum_below (cells_at rows) r) cells)

-- "each cell (variable, cell number, value or empty)"
unfoldable pub cell_lines : List ℤ → List Message → List Line
cell_lines rows cells = flatten (map (λ r. numbered var_word r 0 (cells_of rows cells r)) (variables rows))

-- "each host output (channel, position, value)"; a list for each channel
unfoldable pub out_lines : List ℕ → List (List Message) → List Line
out_lines [] xss = []
out_lines (c ∷ cs) [] = []
out_lines (c ∷ cs) (xs ∷ xss) = numbered out_word c 0 xs ++ out_lines cs xss

-- "each stopped row as `stop`, row, 0, reason"; the states of the rows from r on
unfoldable pub stop_lines : ℕ → List ℕ → List Line
stop_lines r [] = []
stop_lines r (q ∷ qs) = if_else (leb 10 q) (line stop_word r 0 (some (pos (q - 10))) ∷ []) [] ++ stop_lines (suc r) qs

-- the line of a run: the outcome, 0, 0, steps
unfoldable pub outcome_line : Outcome → ℕ → Line
outcome_line o steps = line (outcome_word o) 0 0 (some (pos steps))

-- the lines of a run by its outcome, its steps and the state that it leaves: outcome and steps, cells, host outputs, stopped rows
unfoldable pub end_lines : List ℤ → Outcome → ℕ → State → List Line
end_lines rows o steps s =
    outcome_line o steps
    ∷ cell_lines rows s.store.cells
    ++ out_lines (channels rows 2) s.store.outputs
    ++ stop_lines 0 s.states

-- the lines of a run; how many steps are ready after it is not printed
abbrev pub run_lines : List ℤ → RunResult → List Line
run_lines rows r = end_lines rows r.outcome r.steps r.state

-- the line of a refusal: `refused`, number, place, 0
abbrev pub refused_line : Refusal → Line
refused_line f = line refused_word f.0 f.1 (some (pos 0))

-- words in bytes
unfoldable pub word_bytes : Word → List ℕ
word_bytes (outcome_word Ended) = bytes "ended"
word_bytes (outcome_word Stuck) = bytes "stuck"
word_bytes (outcome_word Broken) = bytes "broken"
word_bytes (outcome_word Spent) = bytes "spent"
word_bytes var_word = bytes "var"
word_bytes out_word = bytes "out"
word_bytes stop_word = bytes "stop"
word_bytes refused_word = bytes "refused"

-- a value, or an empty field
abbrev pub value_bytes : Message → List ℕ
value_bytes none = []
value_bytes (some z) = printed z

-- a line in bytes
unfoldable pub line_bytes : Line → List ℕ
line_bytes l = word_bytes l.what ++ (comma ∷ decimal l.name) ++ (comma ∷ decimal l.at) ++ (comma ∷ value_bytes l.value) ++ (line_feed ∷ [])

-- the line of names, `what,name,at,value`
abbrev pub names_line : List ℕ
names_line = bytes "what,name,at,value\n"

-- lines in bytes, after the line of names
unfoldable pub printed_lines : List Line → List ℕ
printed_lines ls = names_line ++ flatten (map line_bytes ls)
