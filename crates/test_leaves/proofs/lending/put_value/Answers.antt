-- A value is put where there is room; else its reason is told. Assumes nothing.
use mathlib.Core.Path.{ap}
use mir.Syntax.{w32}
use mir.ValLaws.{to_z-of_z}
use borrow.Author.Rules.{rules}
use Rattle.test_leaves.proofs.Copies.{set-nothing}
use Rattle.test_leaves.proofs.Packing.{reason-given}
use Rattle.test_leaves.proofs.lending.put_value.Goals as goal

pub returns-then-k-eq0 : goal.returns-then-k-eq0
returns-then-k-eq0 c = rw (c.in-Missing.is, c.if-k-eq0.true)

pub returns-then-out-gt0 : goal.returns-then-out-gt0
returns-then-out-gt0 c = rw c.in-Number.is (rw (to_z-of_z w32 c.in-Number.x (search rules)))

pub returns-else-out-gt0 : goal.returns-else-out-gt0
returns-else-out-gt0 c =
    let out = c.args.out.now in
    rw c.in-Number.is (ap (λ l. (0, l)) (set-nothing out c.in-Number.x c.if-out-gt0.false))

pub returns-else-k-eq0 : goal.returns-else-k-eq0
returns-else-k-eq0 c =
    let out = c.args.out.now in
    rw c.in-Missing.is (ap (λ k. (k, out)) (reason-given c.in-Missing.k c.if-k-eq0.false))
