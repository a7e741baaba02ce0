-- There is room on every line. Assumes nothing.
use mathlib.Core.Path.{refl}
use Prim.Native.Nat.{ℕ}
use native.Mathlib.Omega.{arith}
use lib.ListN.{length-replicate}
use Rattle.read_text.proofs.names.resolve_few.Goals as goal

pub resolve_with-requires : goal.resolve_with-requires
resolve_with-requires c =
    let long = length-replicate {A = ℕ} 1024 0 in
    (c.requires.0, record { froms-long = omega (arith, long, c.requires.1); sizes-long = omega (arith, long, c.requires.1); roles-long = omega (arith, long, c.requires.1); nexts-long = omega (arith, long, c.requires.1); few = omega (arith, c.requires.1) }, refl)
