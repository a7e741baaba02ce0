-- The loop's invariant: bit k of the word is bit k less the turns taken of what is left of it.
use Rattle.std.proofs.Common.{◌≡◌, ◌-◌, get_or}
use Rattle.meaning.specs.Basics.{all_below}
use Rattle.run_ready_bits.specs.Bits.{on}
use Rattle.run_ready_bits.proofs.place.Given as goal

abbrev pub invariant-loop : goal.invariant-loop
invariant-loop l = get_or (all_below (on l.word) 64) l.k 64 ≡ get_or (all_below (on l.w) 64) (l.k - l.counter) 64
