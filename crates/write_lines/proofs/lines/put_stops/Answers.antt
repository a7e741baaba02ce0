-- What is left to write stays what all of it writes. Assumes nothing.
use mathlib.Core.Path.{refl, sym, ap, ◌∙◌}
use Prim.Native.Nat.{◌+◌}
use native.Mathlib.Omega.{arith}
use borrow.Author.Rules.{rules}
use mathlib.Core.List.{[], ◌∷◌}
use lib.ListN.{length, get_or, drop}
use Rattle.meaning.specs.Printing.{stop_lines}
use Rattle.write_bytes.specs.Writing.{Writer, put_lines}
use Rattle.write_bytes.proofs.Writers.{length-put_lines}
use Rattle.write_lines.proofs.LineSteps.{stops-next, stops-done}
use Rattle.write_lines.proofs.lines.put_stops.Goals as goal

pub loop-i-init : goal.loop-i-init
loop-i-init c = (refl, refl)

pub overflow_cast-i : goal.overflow_cast-i
overflow_cast-i c = omega arith

pub loop-i-preserved : goal.loop-i-preserved
loop-i-preserved c =
    let a = c.args in
    let e = c.put_stop-place.ensures in (
      ap (λ (w : Writer). length w.1) e ∙ length-put_lines (stop_lines c.loop-i.i (get_or a.states.now c.loop-i.i 0 ∷ [])) (c.loop-i.place, c.loop-i.out) ∙ c.loop-i.invariant.0,
      ap (put_lines (stop_lines (c.loop-i.i + 1) (drop (c.loop-i.i + 1) a.states.now))) e
          ∙ sym (stops-next a.states.now c.loop-i.i (c.loop-i.place, c.loop-i.out) (search rules))
          ∙ c.loop-i.invariant.1,
    )

pub shape_of-out : goal.shape_of-out
shape_of-out c = c.loop-i.invariant.0

pub returns : goal.returns
returns c = sym (stops-done c.args.states.now c.loop-i.i (c.loop-i.place, c.loop-i.out) (search rules)) ∙ c.loop-i.invariant.1
