-- The lines of a text where they stand, and how many rows the lines from one on leave open at a level.
use Rattle.std.specs.Prelude.{List, [], ◌∷◌, ℕ, suc, ◌+◌, eqb, ltb}
use Rattle.meaning.specs.Basics.{if_else}
use Rattle.grammar.specs.Outline.{OutlineLine, Lined, lined, Expect, starts_block, outset}
use Rattle.read_levels.specs.Kinds.{expectations}
use Rattle.read_counts.specs.OwnRows.{own_rows}

-- a line with what is expected where it stands and its level
pub data Standing : Type 0 where
  standing : Expect → ℕ → OutlineLine → Standing

-- lines with what is expected where each stands
unfoldable pub stand_all : List Expect → List Lined → List Standing
stand_all [] ls = []
stand_all (e ∷ es) [] = []
stand_all (e ∷ es) (lined l x ∷ ls) = standing e l x ∷ stand_all es ls

-- the lines of a text where they stand
unfoldable pub standings : List Lined → List Standing
standings ls = stand_all (expectations outset ls) ls

-- the rows of the form that the lines leave open at a level
unfoldable pub open_rows : List Standing → ℕ → ℕ
open_rows [] i = 0
open_rows (standing e l x ∷ ys) i =
    let deeper = open_rows ys i in
    let beneath = open_rows ys (suc l) in
    let later = open_rows ys l in
    if_else (ltb i l) deeper (if_else (eqb i l) (own_rows e x + beneath + later) 0)

-- the rows of the members after the first of some lines: after a block's declaration they follow the process of the block
unfoldable pub rest_rows : List Standing → ℕ
rest_rows [] = 0
rest_rows (standing e l x ∷ ys) =
    let block = rest_rows ys in
    if_else (starts_block x) block (open_rows ys l)
