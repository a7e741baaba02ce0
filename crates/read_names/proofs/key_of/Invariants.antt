use mathlib.Core.Path.{◌≡◌}
use Prim.Native.Nat.{◌<◌}
use lib.ListN.{drop}
use Rattle.read_names.specs.Keys.{key_limit, key_from, key_of}
use Rattle.read_names.proofs.key_of.Given as goal

abbrev pub invariant-loop-b : goal.invariant-loop-b
invariant-loop-b l = (l.key < key_limit) × (key_from l.key (drop l.b-index l.name) ≡ key_of l.name)
