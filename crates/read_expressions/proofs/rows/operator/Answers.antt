-- By the sort. Assumes nothing.
use mathlib.Core.Path.{sym, ap}
use Prim.Native.Nat.{ℕ}
use mir.Syntax.{w32}
use mir.ValLaws.{to_z-of_z}
use borrow.Author.Tests.{ne_eqb}
use Rattle.read_expressions.specs.TokenRows.{operator_by_sort}
use Rattle.read_expressions.proofs.rows.operator.Goals as goal

pub returns-in-3 : goal.returns-in-3
unfolding operator_by_sort
returns-in-3 c = ap (λ (s : ℕ). operator_by_sort s c.args.value) (sym c.in-3.is)

pub returns-in-7 : goal.returns-in-7
unfolding operator_by_sort
returns-in-7 c = ap (λ (s : ℕ). operator_by_sort s c.args.value) (sym c.in-7.is)

pub returns-in-8 : goal.returns-in-8
unfolding operator_by_sort
returns-in-8 c = ap (λ (s : ℕ). operator_by_sort s c.args.value) (sym c.in-8.is)

pub returns-in_default : goal.returns-in_default
unfolding operator_by_sort
returns-in_default c =
    let n = c.in_default.in_default-own.rest in
    rw (ne_eqb _ 3 n.0.0.1, ne_eqb _ 7 n.0.1, ne_eqb _ 8 n.1) (to_z-of_z w32 c.args.value c.ranges.value)
