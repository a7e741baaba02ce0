-- The loop keeps which channels' numbers are matched. Assumes nothing.
use mathlib.Core.Path.{sym, ap, ◌∙◌}
use Prim.Native.Nat.{◌≤◌, ◌<◌}
use Rattle.meaning.specs.Declarations.{declarations}
use native.Mathlib.Omega.{arith}
use Rattle.base_numbers.specs.Reading.{option_of}
use Rattle.read_sheet.proofs.HeaderLaws.{nothing-matched, count-at-most, other_row, channel-found, channel-missing, line-unended, line-goes-on, line-ended}
use Rattle.read_sheet.proofs.header.read_header.Goals as goal
use Rattle.read_sheet.proofs.header.read_header.Goals.{then-has_role+in_ok-at, else-has_role, then-sheet-at-via-then-sheet-at, then-sheet-at-via-else-sheet-at+then-sheet-at-ne10}

pub loop-r-init : goal.loop-r-init
loop-r-init c = (c.declarations-declared.ensures, nothing-matched c.args.rows.now c.args.sheet.now)

pub returns-in_err-at : goal.returns-in_err-at
returns-in_err-at c =
    let a = c.args in
    let w = c.loop-r in
    let below : w.r < declarations a.rows.now = omega (arith, w.invariant.0, c.loop-r-test.true) in
    c.from_residual.ensures
    ∙ ap option_of (channel-missing a.rows.now a.sheet.now w.at w.count w.r w.invariant.1 below (sym c.has_role.ensures ∙ c.if-has_role.true) c.in_err-at.ensures)

pub overflow_add-count : goal.overflow_add-count
overflow_add-count c =
    let a = c.args in
    let few = count-at-most a.rows.now a.sheet.now c.loop-r.at c.loop-r.count c.loop-r.r c.loop-r.invariant.1 in
    omega arith

pub loop-r-preserved : goal.loop-r-preserved
loop-r-preserved c =
    let a = c.args in
    let l = c.loop-r in
    let below : l.r < declarations a.rows.now = omega (arith, l.invariant.0, c.loop-r-test.true) in (
      l.invariant.0,
      elim c.if-has_role.branch [
        | then-has_role+in_ok-at w ↦ rw (w.at-is, w.count-is)
            (channel-found a.rows.now a.sheet.now l.at l.count l.r l.invariant.1 below (sym c.has_role.ensures ∙ w.if-has_role.true) _ w.in_ok-at.ensures)
        | else-has_role w ↦ rw (w.at-is, w.count-is) (other_row a.rows.now a.sheet.now l.at l.count l.r l.invariant.1 below (sym c.has_role.ensures ∙ w.if-has_role.false))
      ],
    )

pub returns-then-sheet-at : goal.returns-then-sheet-at
returns-then-sheet-at c =
    let a = c.args in
    let l = c.loop-r in
    let all : declarations a.rows.now ≤ l.r = omega (arith, l.invariant.0, c.loop-r-test.false) in
    elim c.then-sheet-at.branch [
      | then-sheet-at-via-then-sheet-at w ↦ ap option_of (line-unended a.rows.now a.sheet.now l.at l.count l.r l.invariant.1 all w.if-sheet-at.true)
      | then-sheet-at-via-else-sheet-at+then-sheet-at-ne10 w ↦ ap option_of (line-goes-on a.rows.now a.sheet.now l.at l.count l.r l.invariant.1 all w.if-sheet-at.false w.if-sheet-at-ne10.true)
    ]

pub returns : goal.returns
returns c =
    let a = c.args in
    let l = c.loop-r in
    let all : declarations a.rows.now ≤ l.r = omega (arith, l.invariant.0, c.loop-r-test.false) in
    ap option_of (line-ended a.rows.now a.sheet.now l.at l.count l.r l.invariant.1 all c.if-sheet-at.false c.if-sheet-at-ne10.false)
