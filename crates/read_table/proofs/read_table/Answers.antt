-- The loop keeps what `Reading` says: none of the lines so far is at fault, and the rows so far are theirs. Assumes nothing.
use mathlib.Core.Path.{◌≡◌, sym, ap, ◌∙◌, subst}
use mathlib.Core.Bool.{Bool, true, false}
use mathlib.Core.List.{List}
use Prim.Native.Nat.{ℕ, ◌+◌, ◌<◌}
use native.Mathlib.Omega.{arith}
use borrow.Author.Tests.{lt-ltb, le-ltb}
use lib.ListN.{length, take, drop}
use lib.Seq.{length-take-le}
use Rattle.meaning.specs.Lines.{line_size, same}
use Rattle.meaning.specs.TableBytes.{header}
use Rattle.std.specs.Prelude.{Result, Err}
use Rattle.std.proofs.lemmas.Result.{err_from_is_err_and}
use Rattle.read_table.specs.declared.TableError.{TableError}
use Rattle.read_table.specs.declared.TableError.TheVariants.{Refused}
use Rattle.base_numbers.proofs.Options.{none-is, some-is}
use Rattle.read_table.specs.Fields.{first_line}
use Rattle.read_table.proofs.ScanSteps.{size-within}
use Rattle.read_table.proofs.LineRow.{row-advances}
use Rattle.read_table.proofs.Reading.{Reading, overlong-refused, header_refused, reading-starts, reading-ends, reading-malformed, reading-too-many, reading-full, reading-goes-on}
use Rattle.read_table.proofs.read_table.Goals as goal

-- the first line ends where the code looks for its end
first-line-end : (bytes : List ℕ) (first : ℕ) → first ≡ 0 + line_size (drop 0 bytes) → first ≡ line_size bytes
first-line-end bytes first e = omega arith

header-told : (bytes : List ℕ) (first : ℕ) (t : Bool) → first ≡ 0 + line_size (drop 0 bytes) → same (take first bytes) header ≡ t → same (first_line bytes) header ≡ t
header-told bytes first t e h = ap (λ (n : ℕ). same (take n bytes) header) (sym (first-line-end bytes first e)) ∙ h

pub returns-then-bytes-gt32768 : goal.returns-then-bytes-gt32768
returns-then-bytes-gt32768 c = let a = c.args in overlong-refused a.bytes.now a.rows.now (lt-ltb 32768 _ c.if-bytes-gt32768.true)

pub slice_bounds-same-end : goal.slice_bounds-same-end
slice_bounds-same-end c =
    let bytes = c.args.bytes.now in
    let within = size-within bytes in
    sym (length-take-le c.line_end-first.result bytes (omega (arith, c.line_end-first.ensures)))

pub returns-then-not-same : goal.returns-then-not-same
returns-then-not-same c =
    let a = c.args in
    let first = c.line_end-first in
    header_refused a.bytes.now a.rows.now (le-ltb 32768 (length a.bytes.now) c.if-bytes-gt32768.false) (header-told a.bytes.now first.result false first.ensures (sym c.same.ensures ∙ c.if-not-same.true))

pub loop-at-init : goal.loop-at-init
loop-at-init c =
    let a = c.args in
    let first = c.line_end-first in
    subst (λ (at : ℕ). Reading a.bytes.now a.rows.now a.rows.now 0 at) (sym (first-line-end a.bytes.now first.result first.ensures))
    (reading-starts a.bytes.now a.rows.now (le-ltb 32768 (length a.bytes.now) c.if-bytes-gt32768.false) (header-told a.bytes.now first.result true first.ensures (sym c.same.ensures ∙ c.if-not-same.false)))

pub returns-in_err-line : goal.returns-in_err-line
returns-in_err-line c =
    let e = c.in_err-line.ensures in
    let told = rw e.ok_part at e.value in
    let why : c.in_err-line.field-0.0 ≡ Refused 2 (c.loop-at.count + 2) = cc in
    let p = err_from_is_err_and c.from_residual.result c.from_residual.ensures.1 in
    ap (λ (r : Result ℕ TableError). (r, c.loop-at.rows)) (p.1 ∙ ap Err (p.2 ∙ why))
    ∙ reading-malformed _ _ _ _ _ c.loop-at.invariant c.loop-at-test.true (none-is _ (sym e.ok_part ∙ c.read_row.ensures))

pub returns-then-count-eq1024 : goal.returns-then-count-eq1024
returns-then-count-eq1024 c =
    let line = c.in_ok-line.line in
    let read = some-is _ line (sym c.in_ok-line.ensures.ok_part ∙ c.read_row.ensures) in
    reading-too-many _ _ _ _ _ c.loop-at.invariant c.loop-at-test.true line.0 line.1 read c.if-count-eq1024.true

pub returns-then-count-room : goal.returns-then-count-room
returns-then-count-room c =
    let line = c.in_ok-line.line in
    let read = some-is _ line (sym c.in_ok-line.ensures.ok_part ∙ c.read_row.ensures) in
    reading-full _ _ _ _ _ c.loop-at.invariant c.loop-at-test.true line.0 line.1 read c.if-count-eq1024.false c.if-count-room.true

pub loop-at-smaller : goal.loop-at-smaller
loop-at-smaller c =
    let line = c.in_ok-line.line in
    let read = some-is _ line (sym c.in_ok-line.ensures.ok_part ∙ c.read_row.ensures) in
    let on : c.loop-at.at < line.1 = row-advances _ _ _ _ c.loop-at-test.true read in
    omega (arith, c.loop-at-test.true)

pub loop-at-preserved : goal.loop-at-preserved
loop-at-preserved c =
    let line = c.in_ok-line.line in
    let read = some-is _ line (sym c.in_ok-line.ensures.ok_part ∙ c.read_row.ensures) in
    rw c.copy_from_slice.ensures.after
    (reading-goes-on _ _ _ _ _ c.loop-at.invariant c.loop-at-test.true line.0 line.1 read c.if-count-eq1024.false c.if-count-room.false)

pub returns : goal.returns
returns c = reading-ends _ _ _ _ _ c.loop-at.invariant c.loop-at-test.false
