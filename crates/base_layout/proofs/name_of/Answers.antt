-- `name_of` meets its contract, by kind and role. Within the limits every number fits in 16 bits.
use mathlib.Core.Path.{sym, ◌∙◌}
use native.Mathlib.Omega.{arith}
use Rattle.base_layout.proofs.RowSums.{size_fits, capacity-fits, variable-name, inner_name, source_name, sink-name, no_name}
use Rattle.base_layout.proofs.name_of.Goals as goal

pub overflow_cast-size : goal.overflow_cast-size
overflow_cast-size c =
    omega (arith, c.natural-size.ensures, size_fits c.args.rows.now c.args.r c.args.s c.requires)

pub returns-then-natural-eq1 : goal.returns-then-natural-eq1
returns-then-natural-eq1 c =
    let e = sym c.natural.ensures ∙ c.if-natural-eq1.true in
    rw c.natural-size.ensures (variable-name c.args.rows.now c.args.r c.args.s c.requires e)

pub overflow_cast-result : goal.overflow_cast-result
overflow_cast-result c =
    omega (arith, c.natural-in-2.ensures, capacity-fits c.args.rows.now c.args.r c.args.s c.requires (λ e. c.if-natural-eq1.false (c.natural.ensures ∙ e)) (sym c.natural-2.ensures ∙ c.in-2.is))

pub returns-in-0 : goal.returns-in-0
returns-in-0 c =
    rw c.natural-size.ensures (inner_name c.args.rows.now c.args.r c.args.s c.requires (λ e. c.if-natural-eq1.false (c.natural.ensures ∙ e)) (sym c.natural-2.ensures ∙ c.in-0.is))

pub returns-in-1 : goal.returns-in-1
returns-in-1 c =
    rw c.natural-size.ensures (source_name c.args.rows.now c.args.r c.args.s c.requires (λ e. c.if-natural-eq1.false (c.natural.ensures ∙ e)) (sym c.natural-2.ensures ∙ c.in-1.is))

pub returns-in-2 : goal.returns-in-2
returns-in-2 c =
    rw (c.natural-size.ensures, c.natural-in-2.ensures) (sink-name c.args.rows.now c.args.r c.args.s c.requires (λ e. c.if-natural-eq1.false (c.natural.ensures ∙ e)) (sym c.natural-2.ensures ∙ c.in-2.is))

pub returns-in_default : goal.returns-in_default
returns-in_default c =
    let n = c.natural-2.ensures in
    no_name c.args.rows.now c.args.r c.args.s c.requires (λ e. c.if-natural-eq1.false (c.natural.ensures ∙ e)) (λ e. c.in_default.in_default-own.rest.0.0.1 (n ∙ e)) (λ e. c.in_default.in_default-own.rest.0.1 (n ∙ e)) (λ e. c.in_default.in_default-own.rest.1 (n ∙ e))
