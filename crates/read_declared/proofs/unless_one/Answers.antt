-- By whether the size is 1. Assumes nothing.
use mathlib.Core.Path.{sym, ap}
use mathlib.Core.Bool.{Bool}
use lib.IntN.{pos}
use lib.Dec
use mir.Syntax.{w32}
use mir.Val.{SFits}
use Rattle.meaning.specs.Basics.{if_else}
use Rattle.base_numbers.proofs.Bits.{same-bits-equal, other-bits-differ}
use Rattle.read_declared.proofs.unless_one.Goals as goal

one-fits : SFits w32 (pos 1)
one-fits = record { sfits = lib.Dec.lit< tt }

pub returns-then-size-eq1 : goal.returns-then-size-eq1
returns-then-size-eq1 c = sym (ap (λ (b : Bool). if_else b 0 4) (same-bits-equal c.args.size (pos 1) c.ranges.size one-fits c.if-size-eq1.true))

pub returns-else-size-eq1 : goal.returns-else-size-eq1
returns-else-size-eq1 c = sym (ap (λ (b : Bool). if_else b 0 4) (other-bits-differ c.args.size (pos 1) c.ranges.size one-fits c.if-size-eq1.false))
