-- `declare` meets its contract. The loop's invariant: the list holds the declarations below r, and then zeros; the sums and the capacities are those of the rows below r.
use mathlib.Core.Path.{◌≡◌, refl, sym, ap, ap₂, subst, ◌∙◌}
use Prim.Native.Nat.{ℕ, ◌+◌, ◌<◌, ◌≤◌}
use native.Mathlib.Numerals.{add-one}
use native.Mathlib.Omega.{arith}
use Rattle.meaning.specs.Declarations.{declarations, sum_below, capacity_at}
use Rattle.agreement.proofs.TableFit.{rows-limit}
use Rattle.base_layout.specs.declared.Name.{Name}
use Rattle.base_layout.specs.Names.{sums_below}
use Rattle.run_code.specs.Prepared.{row_at}
use Rattle.run_code.proofs.RowKinds.{declarations-few}
use Rattle.run_preparing.specs.Notes.{named_row, Filled}
use Rattle.run_preparing.proofs.StripStarts.{sum-next, sum-none, sum-small}
use Rattle.run_preparing.proofs.NamedRows.{declared-row, name-capacity, reached, number_small}
use Rattle.run_preparing.proofs.Filling.{none_filled, row_put_lem}
use Rattle.run_preparing.proofs.declare.Goals as goal

pub loop-r-init : goal.loop-r-init
unfolding sums_below sum_below
loop-r-init c =
    let rows = c.args.rows.now in (
      omega arith,
      c.declarations-n.ensures,
      omega (arith, c.declarations-n.ensures, declarations-few rows, rows-limit rows c.requires.accepted),
      refl,
      sym (sum-none (capacity_at rows)),
      subst (Filled rows 0) (sym c.requires.empty) (none_filled rows),
    )

pub name_of-name-requires : goal.name_of-name-requires
name_of-name-requires c =
    reached c.args.rows.now c.loop-r.r (omega (arith, c.loop-r.invariant.1, c.loop-r-test.true)) c.requires.accepted c.loop-r.invariant.3

pub named_row-requires : goal.named_row-requires
named_row-requires c =
    let l = c.loop-r in
    omega (arith, ap (λ (n : Name). n.number) c.name_of-name.ensures, number_small c.args.rows.now l.r (omega (arith, l.invariant.1, c.loop-r-test.true)) c.requires.accepted)

pub put-requires : goal.put-requires
put-requires c = let l = c.loop-r in omega (arith, l.invariant.2, c.loop-r-test.true)

pub overflow_add-strip : goal.overflow_add-strip
overflow_add-strip c =
    let l = c.loop-r in
    let rows = c.args.rows.now in
    let d : l.r < declarations rows = omega (arith, l.invariant.1, c.loop-r-test.true) in
    record { fits = omega (arith, l.invariant.4, ap (λ (n : Name). n.capacity) c.name_of-name.ensures, name-capacity rows l.r, sum-small rows c.requires.accepted l.r d) }

pub with_row-s-requires : goal.with_row-s-requires
with_row-s-requires c =
    let l = c.loop-r in
    reached c.args.rows.now l.r (omega (arith, l.invariant.1, c.loop-r-test.true)) c.requires.accepted l.invariant.3

pub loop-r-preserved : goal.loop-r-preserved
loop-r-preserved c =
    let l = c.loop-r in
    let rows = c.args.rows.now in
    let t = c.loop-r-test.true in
    let d : l.r < declarations rows = omega (arith, l.invariant.1, t) in
    let n = c.name_of-name in
    let w = c.named_row in
    let e : w.result ≡ row_at rows l.r = w.ensures ∙ ap₂ named_row n.ensures l.invariant.4 ∙ sym (declared-row rows l.r d) in
    let h : l.r ≤ 1024 = omega (arith, l.invariant.2, t) in (
      omega arith,
      l.invariant.1,
      l.invariant.2,
      rw add-one c.with_row-s.ensures,
      ap₂ (λ (a b : ℕ). a + b) l.invariant.4 (ap (λ (n : Name). n.capacity) n.ensures ∙ name-capacity rows l.r) ∙ sym (sum-next (capacity_at rows) l.r),
      subst (Filled rows (l.r + 1)) (sym c.put.ensures) (row_put_lem rows l.code l.r w.result e h l.invariant.5),
    )

pub returns : goal.returns
returns c =
    let l = c.loop-r in
    let rows = c.args.rows.now in
    let e : l.r ≡ declarations rows = omega (arith, l.invariant.0, l.invariant.1, c.loop-r-test.false) in
    subst (λ (n : ℕ). Filled rows n l.code) e l.invariant.5
