-- The invariant: the sizes from row r on are right. Assumes nothing.
use mathlib.Core.Path.{◌≡◌, refl, ap, ◌∙◌, subst}
use Prim.Native.Nat.{ℕ, suc, ◌-◌}
use native.Mathlib.Omega.{arith}
use lib.ListN.{length-set}
use Rattle.meaning.specs.Declarations.{declarations}
use Rattle.base_top_down.specs.New.{Sizes}
use Rattle.base_top_down.proofs.Again.{declarations-le}
use Rattle.base_numbering.specs.Arrays.{sizes_from}
use Rattle.base_numbering.proofs.Lists.{sizes-none, sizes-more, sizes-old, sizes-set}
use Rattle.base_numbering.proofs.measure.Goals as goal

pub loop-r-init : goal.loop-r-init
loop-r-init c =
    let rows = c.args.rows.now in
    let e = c.row_count-r.ensures in
    let d = c.declarations-d.ensures in
    let h = declarations-le rows in
    (d, omega arith, omega arith, refl, sizes-none rows c.row_count-r.result c.args.sizes.now c.requires.1.0 c.requires.1.1 (omega arith), sizes-old rows c.row_count-r.result c.args.sizes.now e)

pub row_size-v-requires : goal.row_size-v-requires
row_size-v-requires c =
    let m = c.loop-r-test.true in
    let i = c.loop-r.invariant in
    let e : c.loop-r.r ≡ suc (c.loop-r.r - 1) = omega arith in
    (c.kind_table-table.ensures.meaning, (c.requires.0, (subst (λ (x : ℕ). Sizes c.args.rows.now x c.loop-r.sizes) e i.4, (omega arith, omega arith))))

pub loop-r-preserved : goal.loop-r-preserved
loop-r-preserved c =
    let m = c.loop-r-test.true in
    let i = c.loop-r.invariant in
    let e : c.loop-r.r ≡ suc (c.loop-r.r - 1) = omega arith in
    let w = subst (λ (x : ℕ). Sizes c.args.rows.now x c.loop-r.sizes) e i.4 in
    let q = subst (λ (x : ℕ). c.loop-r.sizes ≡ sizes_from c.args.rows.now x c.args.sizes.now) e i.5 in (
      i.0,
      omega arith,
      omega arith,
      length-set c.loop-r.sizes (c.loop-r.r - 1) c.row_size-v.result ∙ i.3,
      sizes-more c.args.rows.now (c.loop-r.r - 1) c.loop-r.sizes c.row_size-v.result (omega arith) w c.row_size-v.ensures,
      sizes-set c.args.rows.now (c.loop-r.r - 1) c.args.sizes.now c.loop-r.sizes c.row_size-v.result (omega arith) c.requires.1.0 c.row_size-v.ensures q,
    )

pub returns : goal.returns
returns c =
    let i = c.loop-r.invariant in
    let h = c.loop-r-test.false in
    let e : c.loop-r.r ≡ declarations c.args.rows.now = omega arith in
    record { numbers = i.5 ∙ ap (λ (x : ℕ). sizes_from c.args.rows.now x c.args.sizes.now) e; meaning = subst (λ (x : ℕ). Sizes c.args.rows.now x c.loop-r.sizes) e i.4 }
