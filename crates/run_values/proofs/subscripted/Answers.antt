-- `subscripted` meets its contract: the declaration that the row names is in the list.
use native.Mathlib.Omega.{arith}
use Rattle.run_code.proofs.Inside.{first-inside}
use Rattle.run_values.proofs.subscripted.Goals as goal

pub place-requires : goal.place-requires
place-requires c =
    record { inside = (rw c.place-d.ensures (first-inside c.requires.table.1 c.args.r c.requires.inside), omega arith) }

pub place-requires-2 : goal.place-requires-2
place-requires-2 c =
    record { inside = (rw c.place-d.ensures (first-inside c.requires.table.1 c.args.r c.requires.inside), omega arith) }
