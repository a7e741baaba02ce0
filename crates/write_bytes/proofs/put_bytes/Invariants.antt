use mathlib.Core.Path.{◌≡◌}
use lib.ListN.{length, drop}
use Rattle.write_bytes.specs.Writing.{put_all}
use Rattle.write_bytes.proofs.put_bytes.Given as goal

abbrev pub invariant-loop-b : goal.invariant-loop-b
invariant-loop-b l = (length l.out ≡ length l.initial.out) × (put_all (drop l.b-index l.bytes) (l.place, l.out) ≡ put_all l.bytes (l.at, l.initial.out))
