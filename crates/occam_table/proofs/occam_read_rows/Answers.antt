-- The rows read are put where there is room. Assumes nothing.
use mathlib.Core.Path.{◌≡◌, sym, ap, ◌∙◌}
use mathlib.Core.List.{List}
use Prim.Native.Nat.{ℕ, ◌*◌}
use native.Mathlib.Omega.{arith}
use lib.IntN.{ℤ}
use lib.ListN.{length}
use lib.Seq.{length-take-le}
use borrow.Author.Rules.{rules}
use Rattle.std.specs.Prelude.{Err}
use Rattle.read_table.specs.declared.TableError.{TableError}
use Rattle.read_table.specs.declared.TableError.TheVariants.{Full, Refused}
use Rattle.read_table.proofs.RowsRead.{RowsRead, refused-read, rows-read, never-full}
use Rattle.write_buffers.specs.Replies.{past}
use Rattle.occam_table.specs.RowsLent.{rows_lent}
use Rattle.occam_table.proofs.Numbers.{rows-without-room, rows-refused, rows-put}
use Rattle.occam_table.proofs.occam_read_rows.Goals as goal

pub returns-then-rows-lt4096 : goal.returns-then-rows-lt4096
returns-then-rows-lt4096 c = rows-without-room c.args.table.now c.args.rows.now c.if-rows-lt4096.true

pub overflow_mul-n : goal.overflow_mul-n
overflow_mul-n c =
    let read : RowsRead c.args.table.now c.read_table.new.rows c.in-Ok.count = rows-read _ _ _ _ c.read_table.ensures _ c.in-Ok.is in
    let few = read.few in omega arith

pub slice_bounds-held-end : goal.slice_bounds-held-end
slice_bounds-held-end c =
    let read : RowsRead c.args.table.now c.read_table.new.rows c.in-Ok.count = rows-read _ _ _ _ c.read_table.ensures _ c.in-Ok.is in
    read.fits

pub slice_bounds-copy_over-end : goal.slice_bounds-copy_over-end
slice_bounds-copy_over-end c =
    let read : RowsRead c.args.table.now c.read_table.new.rows c.in-Ok.count = rows-read _ _ _ _ c.read_table.ensures _ c.in-Ok.is in
    sym (length-take-le _ _ read.fits)

pub copy_over-requires : goal.copy_over-requires
copy_over-requires c =
    let read : RowsRead c.args.table.now c.read_table.new.rows c.in-Ok.count = rows-read _ _ _ _ c.read_table.ensures _ c.in-Ok.is in
    let r = read in
    let rows = ap length r.rows_are in
    let size = r.size in
    let few = r.few in
    omega (arith, c.if-rows-lt4096.false)

pub returns-in-Ok : goal.returns-in-Ok
returns-in-Ok c =
    let read : RowsRead c.args.table.now c.read_table.new.rows c.in-Ok.count = rows-read _ _ _ _ c.read_table.ensures _ c.in-Ok.is in
    let a = c.args in
    let r = read in
    rows-put a.table.now a.rows.now c.if-rows-lt4096.false (4 * c.in-Ok.count) _ r.no-fault r.size (c.copy_over.ensures ∙ ap (λ (l : List ℤ). past l a.rows.now) r.rows_are)

pub returns-in-Err : goal.returns-in-Err
returns-in-Err c = go c.in-Err.field-0 c.in-Err.is
  where
    go : (e : TableError) → c.read_table.result ≡ Err e → ◌≡◌ {A = ℕ × List ℤ} (0, c.args.rows.now) (rows_lent c.args.table.now c.args.rows.now)
    go Full i = absurd (never-full _ _ _ _ c.read_table.ensures (omega arith) i)
    go (Refused number place) i = rows-refused c.args.table.now c.args.rows.now c.if-rows-lt4096.false number place (refused-read _ _ _ _ c.read_table.ensures number place i)
