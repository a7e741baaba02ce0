-- The sixteen words of a row are put in its place. Assumes nothing.
use mathlib.Core.Path.{ap, ◌∙◌}
use mathlib.Core.List.{List, ◌++◌}
use Prim.Native.Nat.{ℕ, ◌+◌, ◌-◌, ◌*◌}
use lib.ListN.{take, drop}
use Rattle.check_components.proofs.RowSets.{stored-part}
use Rattle.check_components.proofs.store.Goals as goal

pub returns : goal.returns
returns c =
    let at = 16 * c.args.r in
    ap (λ (ws : List ℕ). take at c.args.sets.now ++ (ws ++ drop (at + 16 - at) (drop at c.args.sets.now))) c.copy_from_slice.ensures.after ∙ stored-part c.args.sets.now c.args.own.now c.args.r
