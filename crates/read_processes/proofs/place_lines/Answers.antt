-- The loop keeps what is still to be placed, of any text that has such lines. Assumes nothing.
use native.Mathlib.Omega.{arith}
use borrow.Author.Rules.{rules}
use Rattle.read_processes.proofs.PlaceSteps.{place_none, place-all, place-step}
use Rattle.read_processes.proofs.place_lines.Goals as goal

pub loop-line-init : goal.loop-line-init
loop-line-init c =
    let a = c.args in
    λ text h. place_none text a.declared a.lines.kinds.now a.lines.count a.lines.levels.now a.owns.now a.beneath.now a.starts.now h

pub overflow_cast-level : goal.overflow_cast-level
overflow_cast-level c =
    let step = place-step _ _ _ _ _ _ _ _ c.requires.1 _ _ _ (c.loop-line.invariant c.requires.0 c.requires.1) c.loop-line-test.true in
    search (rules, step.shallow)

pub offset_bounds-places-level : goal.offset_bounds-places-level
offset_bounds-places-level c =
    let step = place-step _ _ _ _ _ _ _ _ c.requires.1 _ _ _ (c.loop-line.invariant c.requires.0 c.requires.1) c.loop-line-test.true in
    search (rules, step.shallow)

pub bounds-places-level : goal.bounds-places-level
bounds-places-level c =
    let step = place-step _ _ _ _ _ _ _ _ c.requires.1 _ _ _ (c.loop-line.invariant c.requires.0 c.requires.1) c.loop-line-test.true in
    omega (arith, step.shallow)

pub bounds-lines-line-in-loop-line : goal.bounds-lines-line-in-loop-line
bounds-lines-line-in-loop-line c =
    let step = place-step _ _ _ _ _ _ _ _ c.requires.1 _ _ _ (c.loop-line.invariant c.requires.0 c.requires.1) c.loop-line-test.true in
    step.kind-there

pub next_places-onward-requires : goal.next_places-onward-requires
next_places-onward-requires c =
    let step = place-step _ _ _ _ _ _ _ _ c.requires.1 _ _ _ (c.loop-line.invariant c.requires.0 c.requires.1) c.loop-line-test.true in
    (step.own-few, step.row-few, step.beneath-few)

pub overflow_add-places : goal.overflow_add-places
overflow_add-places c =
    let step = place-step _ _ _ _ _ _ _ _ c.requires.1 _ _ _ (c.loop-line.invariant c.requires.0 c.requires.1) c.loop-line-test.true in
    search (rules, step.shallow)

pub offset_bounds-places-level-in-loop-line : goal.offset_bounds-places-level-in-loop-line
offset_bounds-places-level-in-loop-line c =
    let step = place-step _ _ _ _ _ _ _ _ c.requires.1 _ _ _ (c.loop-line.invariant c.requires.0 c.requires.1) c.loop-line-test.true in
    search (rules, step.shallow)

pub bounds-places-level-in-loop-line : goal.bounds-places-level-in-loop-line
bounds-places-level-in-loop-line c =
    let step = place-step _ _ _ _ _ _ _ _ c.requires.1 _ _ _ (c.loop-line.invariant c.requires.0 c.requires.1) c.loop-line-test.true in
    omega (arith, step.shallow)

pub offset_bounds-places-level-in-loop-line-2 : goal.offset_bounds-places-level-in-loop-line-2
offset_bounds-places-level-in-loop-line-2 c =
    let step = place-step _ _ _ _ _ _ _ _ c.requires.1 _ _ _ (c.loop-line.invariant c.requires.0 c.requires.1) c.loop-line-test.true in
    search (rules, step.shallow)

pub bounds-places-level-in-loop-line-2 : goal.bounds-places-level-in-loop-line-2
bounds-places-level-in-loop-line-2 c =
    let step = place-step _ _ _ _ _ _ _ _ c.requires.1 _ _ _ (c.loop-line.invariant c.requires.0 c.requires.1) c.loop-line-test.true in
    omega (arith, step.shallow)

pub loop-line-preserved : goal.loop-line-preserved
loop-line-preserved c =
    λ text h. (place-step _ _ _ _ _ _ _ _ h _ _ _ (c.loop-line.invariant text h) c.loop-line-test.true).later c.next_places-onward.result c.next_places-onward.ensures

pub returns : goal.returns
returns c =
    let a = c.args in
    λ text h. place-all text a.declared a.lines.kinds.now a.lines.count a.lines.levels.now a.owns.now a.beneath.now a.starts.now h c.loop-line.line c.loop-line.places c.loop-line.starts (c.loop-line.invariant text h) c.loop-line-test.false
