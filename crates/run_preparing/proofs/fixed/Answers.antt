-- `fixed` meets its contract: the place that a subscript means is below 65,536.
use mathlib.Core.Path.{sym, ap, ◌∙◌}
use native.Mathlib.Omega.{arith}
use mir.Syntax.{w32}
use mir.ValLaws.{to_z-of_z}
use Rattle.run_code.specs.Prepared.{fixed}
use Rattle.run_preparing.proofs.RowLaws.{place-within}
use Rattle.run_preparing.proofs.fixed.Goals as goal

pub overflow_cast-n : goal.overflow_cast-n
overflow_cast-n c =
    let e = sym c.subscript-i.ensures ∙ c.in-At.is in
    record { fits = omega (arith, place-within c.args.first c.args.size _ _ e, c.requires) }

pub returns-in-At : goal.returns-in-At
returns-in-At c =
    let e = sym c.subscript-i.ensures ∙ c.in-At.is in
    c.plain.ensures ∙ ap fixed (sym (rw (to_z-of_z w32 c.args.x c.ranges.x) at e))

pub returns-in-Fails : goal.returns-in-Fails
returns-in-Fails c =
    let e = sym c.subscript-i.ensures ∙ c.in-Fails.is in
    c.plain-in-Fails.ensures ∙ ap fixed (sym (rw (to_z-of_z w32 c.args.x c.ranges.x) at e))
