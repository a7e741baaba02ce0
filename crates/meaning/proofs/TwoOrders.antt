-- A table with two different orders that both come to rest: PAR of x := 1 and y := 2.
use mathlib.Core.Path.{◌≡◌, refl}
use mathlib.Core.Option.{none, some}
use mathlib.Core.List.{List, [], ◌∷◌}
use lib.IntN.{ℤ, pos, negsuc}
use Rattle.meaning.specs.declared.Outcome.TheVariants.{Ended}
use Rattle.meaning.specs.Usage.{usage_fault}
use Rattle.meaning.specs.State.{program}
use Rattle.meaning.specs.Labels.{own}
use Rattle.meaning.specs.Settle.{start}
use Rattle.meaning.specs.Ready.{ready, after}
use Rattle.meaning.specs.Run.{RunResult, run}
use Rattle.meaning.proofs.Computes.{computes}

abbrev rows : List ℤ
rows =
    pos 1 ∷ pos 1 ∷ pos 0 ∷ pos 0 ∷ pos 1 ∷ pos 1 ∷ pos 0 ∷ pos 0 ∷ pos 31 ∷ pos 3 ∷ pos 0 ∷ pos 0
    ∷ pos 40 ∷ pos 4 ∷ pos 7 ∷ pos 0 ∷ pos 22 ∷ pos 0 ∷ pos 5 ∷ pos 6 ∷ pos 10 ∷ pos 0 ∷ pos 0 ∷ pos 0 ∷ pos 10 ∷ pos 1 ∷ pos 0 ∷ pos 0
    ∷ pos 40 ∷ pos 8 ∷ negsuc 0 ∷ pos 0 ∷ pos 22 ∷ pos 1 ∷ pos 9 ∷ pos 10 ∷ pos 10 ∷ pos 0 ∷ pos 0 ∷ pos 0 ∷ pos 10 ∷ pos 2 ∷ pos 0 ∷ pos 0 ∷ []

-- no clash
pub accepted : usage_fault rows ≡ none
unfolding computes
accepted = refl

-- both assignments are ready at the start; either leaves the other
pub both : ready (program rows) [] (start (program rows)) ≡ own 4 ∷ own 8 ∷ []
unfolding computes
both = refl

pub second : ready (program rows) [] (after (program rows) [] (own 4) (start (program rows))) ≡ own 8 ∷ []
unfolding computes
second = refl

pub first : ready (program rows) [] (after (program rows) [] (own 8) (start (program rows))) ≡ own 4 ∷ []
unfolding computes
first = refl

-- the two orders end alike
abbrev end : RunResult
end =
    record {
      outcome = Ended;
      steps = 2;
      ready = 0;
      state = record {
        states = 0 ∷ 0 ∷ 2 ∷ 0 ∷ 2 ∷ 0 ∷ 0 ∷ 0 ∷ 2 ∷ 0 ∷ 0 ∷ [];
        store = record { cells = some (pos 1) ∷ some (pos 2) ∷ []; places = []; outputs = [] };
      };
    }

pub one_way : run rows [] [] 2 ≡ end
unfolding computes
one_way = refl

pub other_way : run rows [] (1 ∷ []) 2 ≡ end
unfolding computes
other_way = refl
