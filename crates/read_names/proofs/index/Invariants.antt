use Rattle.read_names.specs.Listed.{names_at}
use Rattle.read_names.specs.Keys.{IndexedFrom}
use Rattle.read_names.proofs.index.Given as goal

abbrev pub invariant-loop-at : goal.invariant-loop-at
invariant-loop-at l = IndexedFrom (names_at l.text l.froms l.sizes) l.at l.heads l.nexts
