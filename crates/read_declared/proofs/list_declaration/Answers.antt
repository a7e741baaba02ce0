-- Three stores. Assumes nothing.
use mathlib.Core.Path.{ap}
use Prim.Native.Nat.{ℕ, ◌/◌, ◌%◌}
use lib.ListN.{set}
use Rattle.read_declared.proofs.list_declaration.Goals as goal

pub returns : goal.returns
returns c =
    let n = c.name_in-place.ensures in
    let a = c.args in (
      ap (λ (k : ℕ). set a.froms.now a.at (k / 32)) n,
      ap (λ (k : ℕ). set a.sizes.now a.at (k % 32)) n,
      ap (set a.roles.now a.at) c.role_of.ensures,
    )
