-- By whether the token is an operator. Assumes nothing.
use mathlib.Core.Path.{refl, sym, ◌∙◌}
use Prim.Native.Nat.{◌+◌, ◌-◌}
use native.Mathlib.Omega.{arith}
use native.Mathlib.Numerals.{add-one}
use mir.Syntax.{w32}
use mir.ValLaws.{to_z-of_z, to_z_pos}
use lib.ListN.{get_or}
use Rattle.read_expressions.proofs.rows.fill.Goals as goal

pub returns-then-not-is_between : goal.returns-then-not-is_between
returns-then-not-is_between c = rw (sym c.is_between.ensures ∙ c.if-not-is_between.true) (refl, refl)

pub overflow_sub-r : goal.overflow_sub-r
overflow_sub-r c = (c.requires.2 (sym c.is_between.ensures ∙ c.if-not-is_between.false)).0

pub bounds-free-height : goal.bounds-free-height
bounds-free-height c =
    let p = c.requires in
    let q = p.2 (sym c.is_between.ensures ∙ c.if-not-is_between.false) in
    omega (arith, p.1, q.0)

pub overflow_cast-r : goal.overflow_cast-r
overflow_cast-r c = let q = c.requires.2 (sym c.is_between.ensures ∙ c.if-not-is_between.false) in record { fits = omega (arith, q.1) }

pub overflow_add-r : goal.overflow_add-r
overflow_add-r c = let q = c.requires.2 (sym c.is_between.ensures ∙ c.if-not-is_between.false) in record { fits = omega (arith, q.1) }

pub overflow_cast-r-2 : goal.overflow_cast-r-2
overflow_cast-r-2 c = let q = c.requires.2 (sym c.is_between.ensures ∙ c.if-not-is_between.false) in record { sfits = omega (arith, q.1) }

pub write_row-requires : goal.write_row-requires
write_row-requires c = let q = c.requires.2 (sym c.is_between.ensures ∙ c.if-not-is_between.false) in (q.1, q.2)

pub overflow_sub-result : goal.overflow_sub-result
overflow_sub-result c = (c.requires.2 (sym c.is_between.ensures ∙ c.if-not-is_between.false)).0

pub returns : goal.returns
returns c =
    let between = (sym c.is_between.ensures ∙ c.if-not-is_between.false) in
    let q = c.requires.2 between in
    let r = get_or c.args.free.now (c.args.height - 1) 0 in
    let o = c.operator in
    rw between
    (refl, rw (to_z-of_z w32 o.result (record { sfits = o.type_inv }), o.ensures, to_z-of_z w32 c.args.value c.ranges.value, to_z_pos w32 (r + 1) (omega (arith, q.1)), add-one r, to_z_pos w32 c.args.n (omega (arith, c.requires.0))) at c.write_row.ensures)
