-- Totals of small tables by computation.
use mathlib.Core.Path.{◌≡◌, refl}
use mathlib.Core.Option.{some}
use mathlib.Core.List.{List, [], ◌∷◌}
use lib.IntN.{ℤ, pos, negsuc}
use Rattle.meaning.specs.Basics.{lowest, lowest_from}
use Rattle.meaning.specs.State.{program}
use Rattle.meaning.specs.Labels.{take_option, take_with_output}
use Rattle.meaning.specs.Settle.{start}
use Rattle.meaning.specs.Ready.{after}
use Rattle.meaning.proofs.Computes.{computes}
use Rattle.machine.specs.RowSteps.{alt_of, waiting_at}
use Rattle.run_kept.specs.Kept.{count_below, option_note, waiting_input, ready_row, total}

-- a PAR of an output to element 0 (row 5) and an ALT (row 8), whose options are an input from element 0 (row 9) and TRUE & SKIP (row 11)
abbrev rows : List ℤ
rows =
    pos 1 ∷ pos 1 ∷ pos 0 ∷ pos 0 ∷ pos 2 ∷ pos 1 ∷ pos 0 ∷ pos 0 ∷ pos 31 ∷ pos 3 ∷ pos 0 ∷ pos 0 ∷ pos 40 ∷ pos 5 ∷ pos 4 ∷ pos 0 ∷ pos 40 ∷ pos 8 ∷ negsuc 0 ∷ pos 0
    ∷ pos 24 ∷ pos 1 ∷ pos 6 ∷ pos 7 ∷ pos 10 ∷ pos 0 ∷ pos 0 ∷ pos 0 ∷ pos 10 ∷ pos 42 ∷ pos 0 ∷ pos 0 ∷ pos 34 ∷ pos 9 ∷ pos 0 ∷ pos 0 ∷ pos 42 ∷ pos 10 ∷ pos 11 ∷ pos 12
    ∷ pos 21 ∷ pos 0 ∷ pos 0 ∷ pos 0 ∷ pos 42 ∷ pos 16 ∷ negsuc 0 ∷ pos 17 ∷ pos 23 ∷ pos 1 ∷ pos 13 ∷ pos 14 ∷ pos 10 ∷ pos 0 ∷ pos 0 ∷ pos 0 ∷ pos 11 ∷ pos 0 ∷ pos 15 ∷ pos 0
    ∷ pos 10 ∷ pos 0 ∷ pos 0 ∷ pos 0 ∷ pos 21 ∷ pos 0 ∷ pos 0 ∷ pos 0 ∷ pos 43 ∷ pos 18 ∷ pos 19 ∷ pos 0 ∷ pos 10 ∷ pos 1 ∷ pos 0 ∷ pos 0 ∷ pos 21 ∷ pos 0 ∷ pos 0 ∷ pos 0 ∷ []

-- the ALT waits at element 0; its two options have bits, the output has none: two steps
pub alt-waits : waiting_input (program rows) [] (start (program rows)) 0 ≡ some 8
unfolding computes waiting_input lowest lowest_from
alt-waits = refl

pub two_ready : total (program rows) [] (start (program rows)) ≡ 2
unfolding computes total count_below ready_row option_note alt_of waiting_at lowest lowest_from
two_ready = refl

-- after either of them none is left: the output has no partner, and both bits of the ALT are off
pub none-after-skip : total (program rows) [] (after (program rows) [] (take_option 8 11) (start (program rows))) ≡ 0
unfolding computes total count_below ready_row option_note alt_of waiting_at lowest lowest_from
none-after-skip = refl

pub none-after-input : total (program rows) [] (after (program rows) [] (take_with_output 8 9 5) (start (program rows))) ≡ 0
unfolding computes total count_below ready_row option_note alt_of waiting_at lowest lowest_from
none-after-input = refl
