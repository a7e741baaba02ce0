-- The loop's invariant: the rows of the words before word i are passed, and `left` more are to be passed.
use Rattle.std.proofs.Common.{◌≡◌, ◌+◌, ◌-◌, ◌*◌, length}
use Rattle.meaning.specs.Basics.{all_below}
use Rattle.run_ready_bits.specs.Bits.{has, BitsCounted, picked_from}
use Rattle.run_ready_bits.proofs.pick.Given as goal

abbrev pub invariant-loop-i : goal.invariant-loop-i
invariant-loop-i l = (BitsCounted l.bits → l.k ≡ length (all_below (has l.bits) (64 * l.i)) + l.left) × (picked_from l.bits 0 16 l.k ≡ picked_from l.bits l.i (16 - l.i) l.left)
