-- The rows of a line, laid where its form goes.
use Rattle.std.specs.Prelude.{◌≡◌, List, ℕ, ◌*◌, ◌/◌, ◌≤◌, ℤ, length, eqb}
use Rattle.std.proofs.Math.Option.{Option, none, some}
use Rattle.meaning.specs.Basics.{if_else}
use Rattle.grammar.specs.Grammar.{Token}
use Rattle.grammar.specs.Outline.{OutlineLine, Expect, members, choices, options, nothing, one-process, one-member, heads, expected_beneath}
use Rattle.grammar.specs.Classes.{class_of}
use Rattle.read_resolved.specs.Resolved.{row_names}
use Rattle.read_levels.specs.Kinds.{kind_number}
use Rattle.read_layout.specs.Layout.{line_laid}
use Rattle.read_layout.specs.Room.{LineRoom}
use Rattle.read_parts.specs.PartForms.{line_listed}
use Rattle.read_rows.specs.declared.Spot.{Spot}

-- what is expected, by number
unfoldable pub expect_of : ℕ → Expect
expect_of n =
    if_else (eqb n 0) members (if_else (eqb n 1) choices (if_else (eqb n 2) options (if_else (eqb n 4) one-process (if_else (eqb n 5) one-member (if_else (eqb n 6) heads nothing)))))

-- a line may stand where its kind says, and its rows fit in what is lent
pub record Standable (kind : ℕ) (os : List (Option Token)) (spot : Spot) (rows : List ℤ) : Type 0 where
  pub line : OutlineLine
  pub expected : Expect
  pub under : Expect
  pub limit : ℕ
  pub is-line : line_listed os ≡ some line
  pub is-kind : kind ≡ kind_number expected (class_of line)
  pub may-stand : expected_beneath expected line ≡ some under
  pub room : LineRoom row_names limit expected line spot.row spot.beneath spot.later spot.rest
  pub few : limit ≤ 1024
  pub long : 4 * limit ≤ length rows

-- the rows with those of a line, if there is one
abbrev pub laid_as : Expect → Option OutlineLine → Spot → List ℤ → List ℤ
laid_as e none spot rows = rows
laid_as e (some x) spot rows = line_laid row_names e x spot.row spot.beneath spot.later spot.rest rows

-- the rows with those of the line that listed tokens spell
unfoldable pub laid_by : ℕ → List (Option Token) → Spot → List ℤ → List ℤ
laid_by kind os spot rows = laid_as (expect_of (kind / 16)) (line_listed os) spot rows
