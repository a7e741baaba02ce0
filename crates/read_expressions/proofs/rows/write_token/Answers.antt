-- By the sort. Assumes nothing.
use mathlib.Core.Path.{◌≡◌, refl, sym, ap}
use Prim.Native.Nat.{ℕ, ◌*◌}
use native.Mathlib.Omega.{arith}
use mir.Syntax.{w32}
use mir.ValLaws.{to_z-of_z}
use borrow.Author.Tests.{ne_eqb}
use Rattle.read_expressions.specs.TokenRows.{name_size, size_by_sort, rows_by_sort}
use Rattle.read_expressions.proofs.OverlayLaws.{overlay-nothing}
use Rattle.read_expressions.proofs.rows.write_token.Goals as goal

pub write_name-requires : goal.write_name-requires
unfolding size_by_sort
write_name-requires c =
    let e : size_by_sort c.args.sort c.args.subscripted ≡ name_size c.args.subscripted = ap (λ (s : ℕ). size_by_sort s c.args.subscripted) c.in-1.is in
    (omega (arith, c.requires.0, e), omega (arith, c.requires.1, e))

pub write_row-requires : goal.write_row-requires
unfolding size_by_sort
write_row-requires c =
    let e : size_by_sort c.args.sort c.args.subscripted ≡ 1 = ap (λ (s : ℕ). size_by_sort s c.args.subscripted) c.in-2.is in
    (omega (arith, c.requires.0, e), omega (arith, c.requires.1, e))

pub write_monadic-requires : goal.write_monadic-requires
unfolding size_by_sort
write_monadic-requires c =
    let e : size_by_sort c.args.sort c.args.subscripted ≡ 1 = ap (λ (s : ℕ). size_by_sort s c.args.subscripted) c.in-3.is in
    (omega (arith, c.requires.0, e), omega (arith, c.requires.1, e))

pub write_monadic-requires-in-4 : goal.write_monadic-requires-in-4
unfolding size_by_sort
write_monadic-requires-in-4 c =
    let e : size_by_sort c.args.sort c.args.subscripted ≡ 1 = ap (λ (s : ℕ). size_by_sort s c.args.subscripted) c.in-4.is in
    (omega (arith, c.requires.0, e), omega (arith, c.requires.1, e))

pub write_monadic-requires-in-5 : goal.write_monadic-requires-in-5
unfolding size_by_sort
write_monadic-requires-in-5 c =
    let e : size_by_sort c.args.sort c.args.subscripted ≡ 1 = ap (λ (s : ℕ). size_by_sort s c.args.subscripted) c.in-5.is in
    (omega (arith, c.requires.0, e), omega (arith, c.requires.1, e))

pub returns-in-1 : goal.returns-in-1
unfolding size_by_sort rows_by_sort
returns-in-1 c =
    rw c.in-1.is (rw (to_z-of_z w32 c.args.value c.ranges.value) at c.write_name.ensures)

pub returns-in-2 : goal.returns-in-2
unfolding size_by_sort rows_by_sort
returns-in-2 c =
    rw c.in-2.is (refl, rw (to_z-of_z w32 c.args.value c.ranges.value) at c.write_row.ensures)

pub returns-in-3 : goal.returns-in-3
unfolding size_by_sort rows_by_sort
returns-in-3 c = rw c.in-3.is c.write_monadic.ensures

pub returns-in-4 : goal.returns-in-4
unfolding size_by_sort rows_by_sort
returns-in-4 c = rw c.in-4.is c.write_monadic-in-4.ensures

pub returns-in-5 : goal.returns-in-5
unfolding size_by_sort rows_by_sort
returns-in-5 c = rw c.in-5.is c.write_monadic-in-5.ensures

pub returns-in_default : goal.returns-in_default
unfolding size_by_sort rows_by_sort
returns-in_default c =
    let n = c.in_default.in_default-own.rest in
    rw (ne_eqb c.args.sort 1 n.0.0.0.0.1, ne_eqb c.args.sort 2 n.0.0.0.1, ne_eqb c.args.sort 3 n.0.0.1, ne_eqb c.args.sort 4 n.0.1, ne_eqb c.args.sort 5 n.1)
    (omega arith, sym (overlay-nothing c.args.rows.now (4 * c.args.n)))
