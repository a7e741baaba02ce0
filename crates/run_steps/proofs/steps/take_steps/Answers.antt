-- `take_steps` meets its contract. The records of the run and of a turn, at places of its code, are those of run_turns.
use mathlib.Core.Path.{◌≡◌, refl, sym, ap, subst, ◌∙◌}
use mathlib.Core.Option.{none}
use mathlib.Core.List.{List}
use Prim.Native.Nat.{ℕ, ◌≤◌}
use lib.IntN.{ℤ}
use borrow.Author.Rules.{rules}
use native.Mathlib.Omega.{arith}
use borrow.Author.Tests.{eqb-true}
use Rattle.std.proofs.lemmas.List.{nil_from_length}
use mir.ValLaws.{to_z-of_z}
use mir.Val.{SFits}
use mir.Syntax.{w32}
use Rattle.meaning.specs.Readings.{Sheet}
use Rattle.meaning.specs.Trace.{TraceLists}
use Rattle.meaning.specs.Answers.{check}
use Rattle.machine.specs.Held.{KeptReadings}
use Rattle.meaning.specs.State.{program, process_at}
use Rattle.machine.specs.Counts.{start_row}
use Rattle.machine.specs.Came.{listed_blocks}
use Rattle.run_turns.specs.Fits.{RowsBelow, BlocksBelow}
use Rattle.run_starting.specs.Kept.{kept_lists}
use Rattle.run_turns.specs.Showing.{lists_lent}
use Rattle.run_turns.specs.Results.{arrays_with}
use Rattle.run_turns.specs.Turns.{host_with, with_put, blocks_unset}
use Rattle.run_turns.proofs.ChangedRows.{root_is, root_below, root-is-process}
use Rattle.run_turns.proofs.Turn as turn
use Rattle.run_turns.proofs.Turn.{Setting, Begun, Standing, Counting, Picking, Changing, Settling}
use Rattle.run_steps.proofs.steps.take_steps.Goals as goal
use Rattle.run_steps.proofs.steps.take_steps.Goals.{After-begin, After-is_last, After-choose-j, After-change_of-c, After-change_states, in-None, in-Some-default-Some, in-Some-default-None, then-not-is_empty, else-not-is_empty}

-- a sheet whose readings are kept
abbrev Kept : List ℤ → List ℤ → List ℕ → ℕ → Type 0
Kept rows readings given lines = (sheet : Sheet) × KeptReadings rows sheet readings given lines

-- the records of a run and of its turns, on such a sheet
abbrev setting : (rows readings : List ℤ) (given : List ℕ) (lines : ℕ) (choices : List ℕ) (budget : ℕ) → TraceLists → check rows ≡ none → lines ≤ 128 → Kept rows readings given lines → Setting
setting rows readings given lines choices budget first ok few k =
    record {
      rows = rows;
      sheet = k.0;
      readings = readings;
      given = given;
      lines = lines;
      choices = choices;
      budget = budget;
      first = first;
      accepted = ok;
      kept = k.1;
      few = few;
    }

abbrev begun : (c : After-begin) → Kept c.args.rows.now c.args.readings.now c.args.given.now c.args.lines → Begun
begun c k =
    let at-root = root_is _ _ c.declarations-root.ensures in
    record {
      setting = setting c.args.rows.now c.args.readings.now c.args.given.now c.args.lines c.args.choices.now c.args.budget (lists_lent c.args.readied.now c.args.taken.now) c.requires.table.accepted c.requires.few k;
      row = c.declarations-root.result;
      states = c.begin.new.kept.states;
      left = c.begin.new.kept.left;
      came = (kept_lists c.begin.new.kept).came;
      root_is = at-root;
      up = c.begin.ensures c.args.rows.now c.requires.table (root-is-process _ c.requires.table.accepted _ at-root) ∙ ap (start_row (process_at (program c.args.rows.now) c.declarations-root.result)) c.new-kept.ensures;
    }

abbrev counting : (c : After-is_last) → Kept c.args.rows.now c.args.readings.now c.args.given.now c.args.lines → Counting
counting c k =
    let l = c.loop-notes in
    let t : Standing = record {
      setting = setting c.args.rows.now c.args.readings.now c.args.given.now c.args.lines c.args.choices.now c.args.budget (lists_lent c.args.readied.now c.args.taken.now) c.requires.table.accepted c.requires.few k;
      n = l.n;
      lists = lists_lent l.readied l.taken;
      arrays = arrays_with l.state l.kept.states l.outputs;
      left = l.kept.left;
      came = (kept_lists l.kept).came;
      notes = l.notes;
      stands = l.invariant.3 k.0 k.1;
    } in
    record { standing = t; count = c.total-ready.result; last = c.is_last.result; count-is = c.total-ready.ensures; last-is = c.is_last.ensures }

abbrev picking : (c : After-choose-j) → Kept c.args.rows.now c.args.readings.now c.args.given.now c.args.lines → Picking
picking c k =
    let l = c.loop-notes in
    let t : Standing = record {
      setting = setting c.args.rows.now c.args.readings.now c.args.given.now c.args.lines c.args.choices.now c.args.budget (lists_lent c.args.readied.now c.args.taken.now) c.requires.table.accepted c.requires.few k;
      n = l.n;
      lists = lists_lent l.readied l.taken;
      arrays = arrays_with l.state l.kept.states l.outputs;
      left = l.kept.left;
      came = (kept_lists l.kept).came;
      notes = l.notes;
      stands = l.invariant.3 k.0 k.1;
    } in
    let n : Counting = record { standing = t; count = c.total-ready.result; last = c.is_last.result; count-is = c.total-ready.ensures; last-is = c.is_last.ensures } in
    record { counting = n; choice = c.choice_at.result; row = c.choose-j.result; goes_on = c.if-is_last.false; choice-is = c.choice_at.ensures; row_is = c.choose-j.ensures.meaning }

abbrev changing : (c : After-change_of-c) → Kept c.args.rows.now c.args.readings.now c.args.given.now c.args.lines → Changing
changing c k =
    let l = c.loop-notes in
    let t : Standing = record {
      setting = setting c.args.rows.now c.args.readings.now c.args.given.now c.args.lines c.args.choices.now c.args.budget (lists_lent c.args.readied.now c.args.taken.now) c.requires.table.accepted c.requires.few k;
      n = l.n;
      lists = lists_lent l.readied l.taken;
      arrays = arrays_with l.state l.kept.states l.outputs;
      left = l.kept.left;
      came = (kept_lists l.kept).came;
      notes = l.notes;
      stands = l.invariant.3 k.0 k.1;
    } in
    let n : Counting = record { standing = t; count = c.total-ready.result; last = c.is_last.result; count-is = c.total-ready.ensures; last-is = c.is_last.ensures } in
    let p : Picking = record { counting = n; choice = c.choice_at.result; row = c.choose-j.result; goes_on = c.if-is_last.false; choice-is = c.choice_at.ensures; row_is = c.choose-j.ensures.meaning } in
    record { picking = p; change = c.change_of-c.result; change-is = c.change_of-c.ensures c.args.rows.now c.requires.table }

abbrev settling : (c : After-change_states) → Kept c.args.rows.now c.args.readings.now c.args.given.now c.args.lines → Settling
settling c k =
    let l = c.loop-notes in
    let t : Standing = record {
      setting = setting c.args.rows.now c.args.readings.now c.args.given.now c.args.lines c.args.choices.now c.args.budget (lists_lent c.args.readied.now c.args.taken.now) c.requires.table.accepted c.requires.few k;
      n = l.n;
      lists = lists_lent l.readied l.taken;
      arrays = arrays_with l.state l.kept.states l.outputs;
      left = l.kept.left;
      came = (kept_lists l.kept).came;
      notes = l.notes;
      stands = l.invariant.3 k.0 k.1;
    } in
    let n : Counting = record { standing = t; count = c.total-ready.result; last = c.is_last.result; count-is = c.total-ready.ensures; last-is = c.is_last.ensures } in
    let p : Picking = record { counting = n; choice = c.choice_at.result; row = c.choose-j.result; goes_on = c.if-is_last.false; choice-is = c.choice_at.ensures; row_is = c.choose-j.ensures.meaning } in
    let x : Changing = record { picking = p; change = c.change_of-c.result; change-is = c.change_of-c.ensures c.args.rows.now c.requires.table } in
    record { changing = x; states = c.change_states.new.kept.states; left = c.change_states.new.kept.left; came = (kept_lists c.change_states.new.kept).came; up = c.change_states.ensures c.args.rows.now c.requires.table (turn.change-processes x) }

pub begin-requires-clause-row : goal.begin-requires-clause-row
begin-requires-clause-row c =
    root_below _ c.requires.table.accepted _ (root_is _ _ c.declarations-root.ensures)

pub working-requires : goal.working-requires
working-requires c = turn.began-room (begun (goal.at.working-requires c).After-begin c.requires.kept)

pub note_all-requires-clause-listed : goal.note_all-requires-clause-listed
note_all-requires-clause-listed c =
    subst RowsBelow (sym c.working.ensures) (turn.began-below (begun (goal.at.note_all-requires-clause-listed c).After-begin c.requires.kept))

pub loop-notes-init : goal.loop-notes-init
loop-notes-init c =
    (omega arith, refl, refl, λ z K. turn.stands-first (begun (goal.at.loop-notes-init c).After-begin (z, K)) _ c.fresh-state.ensures.stored _ c.new-outputs.ensures _ c.new-notes.ensures _ (rw c.working.ensures at (c.note_all.ensures c.args.rows.now c.requires.table)))

pub outcome_with-outcome-requires : goal.outcome_with-outcome-requires
outcome_with-outcome-requires c =
    turn.rows-room (counting (goal.at.outcome_with-outcome-requires c).After-is_last c.requires.kept).standing

pub overflow_cast-result : goal.overflow_cast-result
overflow_cast-result c =
    (turn.count_fits (counting (goal.at.overflow_cast-result c).After-is_last c.requires.kept)).1

pub returns-then-is_last : goal.returns-then-is_last
returns-then-is_last c =
    λ z K. let (R, E) = turn.ends (counting (goal.at.returns-then-is_last c).After-is_last (z, K)) c.if-is_last.true _ (root_is _ _ c.declarations-root.ensures) _ c.outcome_with-outcome.ensures in
    (record { outcome = R.outcome; steps = R.steps; ready = R.ready; arrays = R.arrays }, E)

pub overflow_cast-ready : goal.overflow_cast-ready
overflow_cast-ready c =
    (turn.count_fits (counting (goal.at.overflow_cast-ready c).After-is_last c.requires.kept)).0

pub overflow_cast-j : goal.overflow_cast-j
overflow_cast-j c =
    turn.row_fits (picking (goal.at.overflow_cast-j c).After-choose-j c.requires.kept)

pub change_of-c-requires-clause-row : goal.change_of-c-requires-clause-row
change_of-c-requires-clause-row c =
    turn.row_below (picking (goal.at.change_of-c-requires-clause-row c).After-choose-j c.requires.kept)

pub leave_step-requires-clause-inside : goal.leave_step-requires-clause-inside
leave_step-requires-clause-inside c =
    let w = turn.change-within (changing (goal.at.leave_step-requires-clause-inside c).After-change_of-c c.requires.kept) in
    (w.0, w.2)

pub written_by-w-requires : goal.written_by-w-requires
written_by-w-requires c =
    turn.reading-fits (changing (goal.at.written_by-w-requires c).After-change_of-c c.requires.kept)

pub put_host-requires : goal.put_host-requires
put_host-requires c =
    turn.host-fits (changing (goal.at.put_host-requires c).After-change_of-c c.requires.kept)

pub change_states-requires-clause-table : goal.change_states-requires-clause-table
change_states-requires-clause-table c =
    (c.args.rows.now, (c.requires.table, turn.change-processes (changing (goal.at.change_states-requires-clause-table c).After-change_of-c c.requires.kept)))

pub change_states-requires-clause-inside : goal.change_states-requires-clause-inside
change_states-requires-clause-inside c =
    let w = turn.change-within (changing (goal.at.change_states-requires-clause-inside c).After-change_of-c c.requires.kept) in
    (w.1, w.2)

pub started-blocks-requires : goal.started-blocks-requires
started-blocks-requires c = turn.blocks-room (settling (goal.at.started-blocks-requires c).After-change_states c.requires.kept)

pub working-requires-in-loop-notes : goal.working-requires-in-loop-notes
working-requires-in-loop-notes c = turn.came-room (settling (goal.at.working-requires-in-loop-notes c).After-change_states c.requires.kept)

pub unset_blocks-state-requires-clause-listed : goal.unset_blocks-state-requires-clause-listed
unset_blocks-state-requires-clause-listed c =
    subst (BlocksBelow c.args.code.now) (sym c.started-blocks.ensures) (turn.blocks-below (settling (goal.at.unset_blocks-state-requires-clause-listed c).After-change_states c.requires.kept) c.args.code.now c.requires.table)

pub note_all-requires-in-loop-notes-clause-listed : goal.note_all-requires-in-loop-notes-clause-listed
note_all-requires-in-loop-notes-clause-listed c =
    subst RowsBelow (sym c.working-in-loop-notes.ensures) (turn.came-below (settling (goal.at.note_all-requires-in-loop-notes-clause-listed c).After-change_states c.requires.kept))

pub overflow_add-n : goal.overflow_add-n
overflow_add-n c =
    turn.next_fits (changing (goal.at.overflow_add-n c).After-change_of-c c.requires.kept).picking c.ranges.budget

pub loop-notes-smaller : goal.loop-notes-smaller
loop-notes-smaller c =
    (turn.budget-left (changing (goal.at.loop-notes-smaller c).After-change_of-c c.requires.kept).picking).1

pub loop-notes-preserved : goal.loop-notes-preserved
loop-notes-preserved c =
    let l = c.loop-notes in
    let rows = c.args.rows.now in
    let P = c.requires.table in
    let made : c.match-w.state ≡ with_put c.written_by-w.result (record { values = l.state.values; marks = l.state.marks; places = c.put_host.new.places }) =
    elim c.match-w.branch [
      | in-None w ↦ rw w.in-None.is w.state-is
      | in-Some-default-Some w ↦
          let f : SFits w32 w.in-Some-default-Some.x = search rules in
          let e = rw w.in-Some-default-Some.is at w.in-Some-default-Some.field-0-1-is in
          rw (w.in-Some-default-Some.is, e) (w.state-is ∙ rw (to_z-of_z w32 w.in-Some-default-Some.x f) at w.set-state.ensures.stored)
      | in-Some-default-None w ↦
          let e = rw w.in-Some-default-None.is at w.in-Some-default-None.field-0-1-is in
          rw (w.in-Some-default-None.is, e) (w.state-is ∙ w.unset-state.ensures.stored)
    ] in
    let cleared : c.if-not-is_empty.state ≡ blocks_unset rows (listed_blocks (kept_lists c.change_states.new.kept).came) c.match-w.state =
    elim c.if-not-is_empty.branch [
      | then-not-is_empty w ↦ w.state-is ∙ (rw c.started-blocks.ensures at (w.unset_blocks-state.ensures rows P))
      | else-not-is_empty w ↦ w.state-is ∙ ap (λ (l : List ℕ). blocks_unset rows l c.match-w.state) (sym (nil_from_length _ (eqb-true _ 0 (sym c.is_empty.ensures ∙ w.if-not-is_empty.false))) ∙ c.started-blocks.ensures)
    ] in
    let h = c.put_host.new in
    let k = c.leave_step.new in
    let m = c.note_all-in-loop-notes.new in (
      (turn.budget-left (changing (goal.at.loop-notes-preserved c).After-change_of-c c.requires.kept).picking).0,
      c.show.auto.list ∙ l.invariant.1,
      c.show-in-loop-notes.auto.list ∙ l.invariant.2,
      λ z K. turn.stands-further (settling (goal.at.loop-notes-preserved c).After-change_states (z, K)) (host_with h.places h.outputs) c.put_host.ensures _ c.written_by-w.ensures _ made _ cleared
          k.notes (c.leave_step.ensures rows P) m.notes (rw c.working-in-loop-notes.ensures at (c.note_all-in-loop-notes.ensures rows P)) _ _ c.show.ensures c.show-in-loop-notes.ensures,
    )
