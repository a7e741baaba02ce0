-- `with_row` meets its contract, by kind and role. Within the limits no sum passes 16 bits.
use mathlib.Core.Path.{sym, ◌∙◌}
use native.Mathlib.Omega.{arith}
use Rattle.base_layout.proofs.RowSums.{size_fits, cells_fit, elements-fit, sources-fit, sinks-fit, with-variable, with-source, with-sink, with-inner}
use Rattle.base_layout.proofs.with_row.Goals as goal

pub overflow_cast-size : goal.overflow_cast-size
overflow_cast-size c =
    omega (arith, c.natural-size.ensures, size_fits c.args.rows.now c.args.r c.args.s c.requires)

pub overflow_add-result : goal.overflow_add-result
overflow_add-result c =
    let e = sym c.natural.ensures ∙ c.if-natural-eq1.true in
    omega (arith, c.natural-size.ensures, cells_fit c.args.rows.now c.args.r c.args.s c.requires e)

pub returns-then-natural-eq1 : goal.returns-then-natural-eq1
returns-then-natural-eq1 c =
    let e = sym c.natural.ensures ∙ c.if-natural-eq1.true in
    rw c.natural-size.ensures (with-variable c.args.rows.now c.args.r c.args.s c.requires e)

pub overflow_add-elements : goal.overflow_add-elements
overflow_add-elements c =
    omega (arith, c.natural-size.ensures, elements-fit c.args.rows.now c.args.r c.args.s c.requires (λ e. c.if-natural-eq1.false (c.natural.ensures ∙ e)))

pub overflow_add-result-in-1 : goal.overflow_add-result-in-1
overflow_add-result-in-1 c =
    omega (arith, sources-fit c.args.rows.now c.args.r c.args.s c.requires)

pub overflow_add-result-in-2 : goal.overflow_add-result-in-2
overflow_add-result-in-2 c =
    omega (arith, sinks-fit c.args.rows.now c.args.r c.args.s c.requires)

pub returns-in-1 : goal.returns-in-1
returns-in-1 c =
    rw c.natural-size.ensures (with-source c.args.rows.now c.args.r c.args.s c.requires (λ e. c.if-natural-eq1.false (c.natural.ensures ∙ e)) (sym c.natural-2.ensures ∙ c.in-1.is))

pub returns-in-2 : goal.returns-in-2
returns-in-2 c =
    rw c.natural-size.ensures (with-sink c.args.rows.now c.args.r c.args.s c.requires (λ e. c.if-natural-eq1.false (c.natural.ensures ∙ e)) (sym c.natural-2.ensures ∙ c.in-2.is))

pub returns-in_default : goal.returns-in_default
returns-in_default c =
    let n = c.natural-2.ensures in
    rw c.natural-size.ensures (with-inner c.args.rows.now c.args.r c.args.s c.requires (λ e. c.if-natural-eq1.false (c.natural.ensures ∙ e)) (λ e. c.in_default.in_default-own.rest.0.1 (n ∙ e)) (λ e. c.in_default.in_default-own.rest.1 (n ∙ e)))
