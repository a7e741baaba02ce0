-- The steps of rows of a small table by computation: a PAR of an output and an ALT, whose options are an input on the same channel and TRUE & SKIP.
use mathlib.Core.Path.{◌≡◌, refl}
use mathlib.Core.Option.{some}
use mathlib.Core.List.{List, [], ◌∷◌, flatten}
use lib.IntN.{ℤ, pos, negsuc}
use Rattle.meaning.specs.Basics.{lowest, lowest_from, all_below}
use Rattle.meaning.specs.State.{program}
use Rattle.meaning.specs.Labels.{take_option, take_with_output}
use Rattle.meaning.specs.Settle.{start}
use Rattle.meaning.specs.Ready.{ready}
use Rattle.meaning.proofs.Computes.{computes}
use Rattle.machine.specs.RowSteps.{alt_of, waiting_at, own_step, option_step, step_at, steps_by_row, step_rows}

abbrev rows : List ℤ
rows =
    pos 1 ∷ pos 1 ∷ pos 0 ∷ pos 0 ∷ pos 2 ∷ pos 1 ∷ pos 0 ∷ pos 0 ∷ pos 31 ∷ pos 3 ∷ pos 0 ∷ pos 0 ∷ pos 40 ∷ pos 5 ∷ pos 4 ∷ pos 0 ∷ pos 40 ∷ pos 8 ∷ negsuc 0 ∷ pos 0
    ∷ pos 24 ∷ pos 1 ∷ pos 6 ∷ pos 7 ∷ pos 10 ∷ pos 0 ∷ pos 0 ∷ pos 0 ∷ pos 10 ∷ pos 42 ∷ pos 0 ∷ pos 0 ∷ pos 34 ∷ pos 9 ∷ pos 0 ∷ pos 0 ∷ pos 42 ∷ pos 10 ∷ pos 11 ∷ pos 12
    ∷ pos 21 ∷ pos 0 ∷ pos 0 ∷ pos 0 ∷ pos 42 ∷ pos 16 ∷ negsuc 0 ∷ pos 17 ∷ pos 23 ∷ pos 1 ∷ pos 13 ∷ pos 14 ∷ pos 10 ∷ pos 0 ∷ pos 0 ∷ pos 0 ∷ pos 11 ∷ pos 0 ∷ pos 15 ∷ pos 0
    ∷ pos 10 ∷ pos 0 ∷ pos 0 ∷ pos 0 ∷ pos 21 ∷ pos 0 ∷ pos 0 ∷ pos 0 ∷ pos 43 ∷ pos 18 ∷ pos 19 ∷ pos 0 ∷ pos 10 ∷ pos 1 ∷ pos 0 ∷ pos 0 ∷ pos 21 ∷ pos 0 ∷ pos 0 ∷ pos 0 ∷ []

-- rows 9 and 11 are options of the ALT at row 8; the output of row 5 waits at element 0
pub alt-of-option : alt_of (program rows) 11 ≡ some 8
unfolding computes alt_of lowest lowest_from
alt-of-option = refl

pub output-waits : waiting_at (program rows) [] (start (program rows)) 0 ≡ some 5
unfolding computes waiting_at lowest lowest_from
output-waits = refl

-- both options order a step
pub steps-are : steps_by_row (program rows) [] (start (program rows)) ≡ take_with_output 8 9 5 ∷ take_option 8 11 ∷ []
unfolding computes steps_by_row step_at own_step option_step alt_of waiting_at lowest lowest_from flatten
steps-are = refl

pub rows_are : step_rows (program rows) [] (start (program rows)) 20 ≡ 9 ∷ 11 ∷ []
unfolding computes step_rows step_at own_step option_step alt_of waiting_at lowest lowest_from all_below
rows_are = refl

pub ready-are : ready (program rows) [] (start (program rows)) ≡ take_with_output 8 9 5 ∷ take_option 8 11 ∷ []
unfolding computes
ready-are = refl
