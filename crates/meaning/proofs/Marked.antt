-- The marked cases hold, and so do those of the count: by computation.
use mathlib.Core.Path.{refl}
use Rattle.meaning.specs.Marked.{answered, printed_for, MarkedCases, checked_for, CountedCases}
use Rattle.meaning.proofs.ComputesAnswers.{computes_answers}

pub marked : MarkedCases
unfolding answered printed_for computes_answers
marked = (refl, refl)

pub counted-cases : CountedCases
unfolding checked_for computes_answers
counted-cases = refl
