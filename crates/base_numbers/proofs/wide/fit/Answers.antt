-- `fit` meets its contract: a number that 32 bits hold passes both tests of `fitted`, any other fails one.
use mathlib.Core.Path.{sym}
use mir.Syntax.{w32, w64}
use mir.ValLaws.{to_z-of_z}
use Rattle.base_numbers.proofs.Ranges.{fitted-fits, fitted-unfit}
use Rattle.base_numbers.proofs.wide.fit.Goals as goal

pub returns-in-Ok : goal.returns-in-Ok
returns-in-Ok c =
    let small = rw (to_z-of_z w64 _ c.ranges.z) at c.in-Ok.ensures in
    rw (small.1, to_z-of_z w32 _ small.0) (sym (fitted-fits c.args.z small.0))

pub returns-in-Err : goal.returns-in-Err
returns-in-Err c =
    let large = rw (to_z-of_z w64 _ c.ranges.z) at c.in-Err.ensures in
    sym (fitted-unfit c.args.z large)
