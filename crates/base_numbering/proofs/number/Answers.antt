-- The invariant: the numbers of the root and of the rows that earlier rows refer to are right. Assumes nothing.
use mathlib.Core.Path.{refl, sym, ap, ◌∙◌, subst}
use Prim.Native.Nat.{ℕ, suc, ◌+◌, ◌-◌, ◌<◌}
use native.Mathlib.Omega.{arith}
use lib.ListN.{length, set, length-set}
use Rattle.meaning.specs.Declarations.{declarations}
use Rattle.base_top_down.proofs.Again.{declarations-le}
use Rattle.base_top_down.proofs.Kept.{has-root}
use Rattle.base_numbering.specs.Arrays.{numbered_rows}
use Rattle.base_numbering.proofs.Lists.{sizes-later, RightTo, right-first, reached, right-more, rows_next, rows-done, all-rows}
use Rattle.base_numbering.proofs.number.Goals as goal

pub overflow_cast-numbers : goal.overflow_cast-numbers
overflow_cast-numbers c =
    let near : (c.declarations-d.result < length c.args.numbers.now) × (c.declarations-d.result < 1024) = let h = has-root c.args.rows.now c.requires.0.form c.requires.0.tree in
    let e = c.declarations-d.ensures in
    let a = c.requires.1.1.0 in
    let b = c.requires.1.1.1 in
    (omega arith, omega arith) in
    omega (arith, near)

pub offset_bounds-numbers-d : goal.offset_bounds-numbers-d
offset_bounds-numbers-d c =
    let near : (c.declarations-d.result < length c.args.numbers.now) × (c.declarations-d.result < 1024) = let h = has-root c.args.rows.now c.requires.0.form c.requires.0.tree in
    let e = c.declarations-d.ensures in
    let a = c.requires.1.1.0 in
    let b = c.requires.1.1.1 in
    (omega arith, omega arith) in
    omega (arith, near)

pub bounds-numbers-d : goal.bounds-numbers-d
bounds-numbers-d c =
    let near : (c.declarations-d.result < length c.args.numbers.now) × (c.declarations-d.result < 1024) = let h = has-root c.args.rows.now c.requires.0.form c.requires.0.tree in
    let e = c.declarations-d.ensures in
    let a = c.requires.1.1.0 in
    let b = c.requires.1.1.1 in
    (omega arith, omega arith) in
    (near).0

pub loop-r-init : goal.loop-r-init
loop-r-init c =
    let near : (c.declarations-d.result < length c.args.numbers.now) × (c.declarations-d.result < 1024) = let h = has-root c.args.rows.now c.requires.0.form c.requires.0.tree in
    let e = c.declarations-d.ensures in
    let a = c.requires.1.1.0 in
    let b = c.requires.1.1.1 in
    (omega arith, omega arith) in
    let rows = c.args.rows.now in
    let e = c.row_count-n.ensures in
    let d = c.declarations-d.ensures in
    let h = declarations-le rows in
    (d, e, omega arith, omega arith, refl, subst (λ (x : ℕ). RightTo rows x (set c.args.numbers.now x x)) (sym d) (right-first rows c.args.numbers.now (omega (arith, near))), refl)

pub number_row-requires : goal.number_row-requires
number_row-requires c =
    let rows = c.args.rows.now in
    let m = c.loop-r-test.true in
    let i = c.loop-r.invariant in
    let i0 = i.0 in
    let i1 = i.1 in
    let i2 = i.2 in
    let e = length-set c.args.numbers.now c.declarations-d.result c.declarations-d.result in
    let q = i.4 in (
      c.kind_table-table.ensures.meaning,
      (
        c.requires.0,
        (
          sizes-later rows (declarations rows) (suc c.loop-r.r) c.args.sizes.now (omega arith) c.requires.1.0,
          (
            (omega arith, omega arith),
            ((omega (arith, c.requires.1.1.0), omega (arith, c.requires.1.1.1)), i.5 c.loop-r.r (reached rows c.requires.0.tree c.loop-r.r c.loop-r.r (omega arith) (omega arith) (omega arith))),
          ),
        ),
      ),
    )

pub loop-r-preserved : goal.loop-r-preserved
loop-r-preserved c =
    let m = c.loop-r-test.true in
    let i = c.loop-r.invariant in
    let i1 = i.1 in
    let i2 = i.2 in
    let n = c.number_row.ensures.meaning in
    let rows = c.args.rows.now in
    let count = c.row_count-n.result in (
      i.0,
      i.1,
      omega arith,
      omega arith,
      n.long ∙ i.4,
      right-more rows c.loop-r.r c.loop-r.numbers _ i.5 n,
      i.6 ∙ rows_next rows c.loop-r.r count c.loop-r.numbers m ∙ ap (numbered_rows rows (c.loop-r.r + 1) (count - (c.loop-r.r + 1))) (sym c.number_row.ensures.numbers),
    )

pub shape_of-numbers : goal.shape_of-numbers
shape_of-numbers c =
    c.loop-r.invariant.4 ∙ length-set c.args.numbers.now c.declarations-d.result c.declarations-d.result

pub returns : goal.returns
returns c =
    let rows = c.args.rows.now in
    let i = c.loop-r.invariant in
    let i1 = i.1 in
    let q = i.4 in
    let h = c.loop-r-test.false in
    let e = length-set c.args.numbers.now c.declarations-d.result c.declarations-d.result in
    let first = c.declarations-d in
    let count = c.row_count-n in record {
      numbers = sym (sym (all-rows rows c.args.numbers.now first.result count.result first.ensures count.ensures) ∙ i.6 ∙ rows-done rows c.loop-r.r count.result c.loop-r.numbers h);
      meaning = record {
        room = omega (arith, c.requires.1.1.0);
        short = omega (arith, c.requires.1.1.1);
        right = λ t d l. i.5 t (reached rows c.requires.0.tree c.loop-r.r t d l (omega arith));
      };
    }
