use Rattle.base_numbers.proofs.Written.{Written}
use Rattle.base_numbers.proofs.numerals.put_digits.Given as goal

-- The measure is the number that is left. Assumes nothing.
abbrev pub invariant-loop-rest : goal.invariant-loop-rest
invariant-loop-rest l = Written l.initial.out l.end l.n l.out l.at l.rest

abbrev pub decreases-loop-rest : goal.decreases-loop-rest
decreases-loop-rest l = l.rest
