-- What the sheet runner runs, and how its code holds what is printed.
use Rattle.std.specs.Prelude.{List, [], ◌++◌, ℕ, ◌-◌, ℤ, length, replicate}
use Rattle.meaning.specs.Limits.{max_budget}
use Rattle.meaning.specs.Answers.{Task}
use Rattle.call_runner.specs.declared.PrintedText.{PrintedText}

-- "Budget 65,536, no choices"
abbrev pub task_of : List ℤ → List ℕ → Task
task_of rows sheet = record { rows = rows; sheet = sheet; choices = []; budget = max_budget }

-- so many bytes hold whatever is printed
abbrev pub max_printed_text : ℕ
max_printed_text = 98304

-- the bytes that are printed, how many they are, and a 0 at every place after them
abbrev pub printed_bytes : List ℕ → PrintedText
printed_bytes bytes = record { bytes = bytes ++ replicate (max_printed_text - length bytes) 0; length = length bytes }
