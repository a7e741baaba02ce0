-- Without the role or the count there is no number. Assumes nothing.
use mathlib.Core.Path.{ap, sym, ◌∙◌}
use mathlib.Core.Bool.{Bool}
use native.Mathlib.Omega.{arith}
use lib.ListN.{get_or, get_or-eq_default}
use Rattle.meaning.specs.Basics.{if_else}
use Rattle.write_lines.proofs.lines.strip_count.Goals as goal

pub overflow_cast-result : goal.overflow_cast-result
overflow_cast-result c = omega (arith, c.shared_slice_known-then-port-counts-1.given c.args.port)

pub returns-then-port-counts : goal.returns-then-port-counts
returns-then-port-counts c = let a = c.args in ap (λ (t : Bool). if_else t (get_or a.counts.now a.port 0) 0) (sym c.if-has_role.true ∙ c.has_role.ensures)

pub returns-else-port-counts : goal.returns-else-port-counts
returns-else-port-counts c =
    let a = c.args in
    sym (get_or-eq_default a.counts.now 0 c.if-port-counts.false)
    ∙ ap (λ (t : Bool). if_else t (get_or a.counts.now a.port 0) 0) (sym c.if-has_role.true ∙ c.has_role.ensures)

pub returns-else-has_role : goal.returns-else-has_role
returns-else-has_role c = let a = c.args in ap (λ (t : Bool). if_else t (get_or a.counts.now a.port 0) 0) (sym c.if-has_role.false ∙ c.has_role.ensures)
