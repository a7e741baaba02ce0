-- Where a run stands after n steps: a state of its order, which the arrays hold and the notes are of. So it is at the start and after each turn; from there what the machine's functions ask is met.
use mathlib.Core.Path.{◌≡◌, refl, sym, ap, subst, ◌∙◌}
use mathlib.Core.Logic.{◌⊎◌}
use mathlib.Core.Bool.{Bool, true, false}
use mathlib.Core.Option.{none, some}
use mathlib.Core.List.Memᴰ
use mathlib.Core.List.{List, [], ◌∷◌, Memᴰ}
use Prim.Native.Nat.{ℕ, zero, suc, ◌+◌, ◌-◌, ◌%◌, ◌<◌, ◌≤◌}
use native.Mathlib.Omega.{arith}
use lib.IntN.{ℤ, pos}
use lib.ListN.{length, get_or, set, replicate, length-replicate}
use Rattle.meaning.specs.Values.{Message}
use Rattle.meaning.specs.declared.Outcome.{Outcome}
use Rattle.meaning.specs.Basics.{all_below}
use Rattle.meaning.specs.Rows.{row_count}
use Rattle.meaning.specs.Declarations.{root}
use Rattle.meaning.specs.State.{State, program, process_at, whole, Effect}
use Rattle.meaning.specs.Labels.{Label}
use Rattle.meaning.specs.Readings.{Sheet}
use Rattle.meaning.specs.Settle.{start}
use Rattle.meaning.specs.Intent.{waits}
use Rattle.meaning.specs.Ready.{intent_at, is_live, ready, after}
use Rattle.meaning.specs.Run.{run}
use Rattle.meaning.specs.Trace.{TraceLists, trace}
use Rattle.meaning.specs.Buffers.{Buffers}
use Rattle.meaning.specs.Order.{OrderOf, chosen_step}
use Rattle.meaning.specs.Answers.{check}
use Rattle.agreement.specs.RowsOfSteps.{RowOf}
use Rattle.agreement.proofs.Active.{Active}
use Rattle.agreement.proofs.TableFit.{rows-limit}
use Rattle.machine.specs.RowSteps.{step_at}
use Rattle.machine.specs.Held.{HoldsState, blank, KeptReadings, put_unset}
use Rattle.machine.specs.Counts.{Kept, kept_of, Counted, start_row, change_up_counted, end_up_counted, forgotten}
use Rattle.machine.specs.Came.{listed_rows, listed_blocks, local_at}
use Rattle.machine.proofs.CameRows.{WorkListed, start-gathers}
use Rattle.machine.proofs.CountedSteps.{start-counted}
use Rattle.machine.proofs.RowReady.{step-ordered}
use Rattle.machine.proofs.MachineSteps.{start-held}
use Rattle.machine.proofs.StepEffects.{active-effect}
use Rattle.run_ready_bits.specs.Bits.{Shown, no_rows}
use Rattle.run_ready_bits.proofs.Raises.{shown-total}
use Rattle.run_ready_bits.proofs.Splits.{few-below}
use Rattle.run_code.specs.Prepared.{Prepared, place_at}
use Rattle.run_kept.specs.Kept.{ready_row}
use Rattle.run_kept.specs.Noting.{off}
use Rattle.run_values.specs.declared.store.State as store
use Rattle.run_values.specs.Cells.{cells_in, state_cells, unset_state}
use Rattle.run_values.proofs.ArrayCells.{state-array}
use Rattle.run_notes.specs.declared.Notes.{Notes}
use Rattle.run_notes.specs.Notes.{lists_of}
use Rattle.run_noted.specs.Noted.{noted_by}
use Rattle.run_changes.specs.declared.Change.{Change}
use Rattle.run_changes.specs.Changes.{change_in, changes_of, put_data, with_states, DataFits}
use Rattle.run_changes.proofs.Told.{Told}
use Rattle.run_changes.proofs.StepLaws.{data-fits, within, changes-are}
use Rattle.run_starting.specs.Parts.{IsProcess}
use Rattle.run_turns.specs.Results.{ResultReached, arrays_of}
use Rattle.run_turns.specs.Ending.{is_last, outcome_with}
use Rattle.run_turns.specs.Showing.{shown_from_place}
use Rattle.run_turns.specs.Turns.{leave_step, note_listed}
use Rattle.run_turns.specs.Fits.{RowsBelow, BlocksBelow}
use Rattle.run_turns.specs.Machine.{machine_of, HeldAt, Underway, Stands}
use Rattle.run_turns.proofs.Choosing.{total-counts, row_below, row-chosen}
use Rattle.run_turns.proofs.Underway.{underway-start, run_ends, some-ready, one_further}
use Rattle.run_turns.proofs.Turning.{turned-held, turned-listed, turned-begins}
use Rattle.run_turns.proofs.Unsetting.{block-place}
use Rattle.run_turns.proofs.ChangedRows.{changed-processes}
use Rattle.run_turns.proofs.Round.{NotesRight, start-noted-all, turn-noted-all}

-- what is used of the notes of states of orders
pub record NoteLaws (rows : List ℤ) (sheet : Sheet) (lines : ℕ) : Type 0 where
  pub tells : (l : List Label) (s : State) → OrderOf rows sheet l s → (m : Notes) → m ≡ noted_by rows (intent_at (program rows) sheet s) → Told (program rows) sheet s m.acts m.sent m.elements
  pub shows : (l : List Label) (s : State) → OrderOf rows sheet l s → (m : Notes) → m ≡ noted_by rows (intent_at (program rows) sheet s) → Shown (ready_row (program rows) sheet s) (row_count rows) m.bits
  pub leaves : (l : List Label) (s : State) → OrderOf rows sheet l s → {x : Label} {e : Effect} → Active (intent_at (program rows) sheet s) x e → (c : Change) → e.changes ≡ changes_of c
      → leave_step rows c.owner c.sender (noted_by rows (intent_at (program rows) sheet s)) ≡ noted_by rows (off x (intent_at (program rows) sheet s))
  pub notes : (l : List Label) (t : State) → OrderOf rows sheet l t → (b : Buffers) → HoldsState rows t b → NotesRight rows sheet lines t b
  pub starts : lists_of (replicate 3072 0) (replicate 1024 (pos 0)) (replicate 512 0) no_rows ≡ noted_by rows (λ r. waits)

-- what stands at a place of a list is in it
member-at : (l : List ℕ) (i : ℕ) → i < length l → Memᴰ (get_or l i 0) l
member-at [] i h = absurd (omega arith)
member-at (x ∷ l) zero h = Memᴰ.head refl
member-at (x ∷ l) (suc i) h = Memᴰ.tail (member-at l i (omega arith))

-- the rows that are listed are rows of the arrays
pub rows-listed : (rows : List ℤ) (ok : check rows ≡ none) (sheet : Sheet) (Those : ℕ → Type 0) (t : State) (came : List ℕ) → WorkListed rows ok sheet Those t came → RowsBelow (listed_rows came)
rows-listed rows ok sheet Those t came W = λ i h. let k = W.below (get_or (listed_rows came) i 0) (member-at (listed_rows came) i h) in omega (arith, k, rows-limit rows ok)

module _ (rows : List ℤ) (ok : check rows ≡ none) (sheet : Sheet) (readings : List ℤ) (given : List ℕ) (lines : ℕ) (K : KeptReadings rows sheet readings given lines) (few : lines ≤ 128) (N : NoteLaws rows sheet lines)
    (choices : List ℕ) (budget : ℕ) (first : TraceLists) where
  module _ (n : ℕ) (lists : TraceLists) (b : Buffers) (left came : List ℕ) (m : Notes) (S : Stands rows sheet choices budget first n lists (machine_of b left came m)) where
    abbrev s : State
    s = S.state

    shown : Shown (ready_row (program rows) sheet s) (row_count rows) m.bits
    shown = N.shows S.under.labels s S.under.order m S.noted

    -- the total is the number of ready steps
    pub total-is : get_or m.bits 32 0 ≡ length (ready (program rows) sheet s)
    total-is = total-counts rows ok sheet S.under.labels s S.under.order m.bits shown

    -- which is at most that of rows
    pub total-few : get_or m.bits 32 0 ≤ 1024
    total-few = omega (arith, shown-total (ready_row (program rows) sheet s) (row_count rows) m.bits shown, few-below (ready_row (program rows) sheet s) (row_count rows), rows-limit rows ok)

    -- a run that ends here
    pub stands-ends : (count : ℕ) → count ≡ get_or m.bits 32 0 → is_last count n budget ≡ true → (r : ℕ) → r ≡ root rows → (o : Outcome) → o ≡ outcome_with count r (row_count rows) b.states
        → ResultReached rows (run rows sheet choices budget) o n count b × (lists ≡ shown_from_place 0 (trace rows sheet choices budget) first)
    stands-ends count c l r i o j =
        let E = run_ends rows ok sheet choices budget first n s lists S.under count b S.held.holds (c ∙ total-is) l r i o j in (E.result, E.shown)

    module _ (count : ℕ) (c-is : count ≡ get_or m.bits 32 0) (some_is : count ≡ 0 → ⊥) (left_over : n < budget) (choice j : ℕ) (choice-is : choice ≡ get_or choices n 0)
        (means : (f : ℕ → Bool) (k : ℕ) → Shown f k m.bits → 0 < get_or m.bits 32 0 → j ≡ get_or (all_below f k) (choice % get_or m.bits 32 0) k) where
      above : 0 < get_or m.bits 32 0
      above = let k : get_or m.bits 32 0 ≡ 0 → ⊥ = λ e. some_is (c-is ∙ e) in omega arith

      picked : j ≡ get_or (all_below (ready_row (program rows) sheet s) (row_count rows)) (choice % get_or m.bits 32 0) (row_count rows)
      picked = means (ready_row (program rows) sheet s) (row_count rows) shown above

      abbrev T : Told (program rows) sheet s m.acts m.sent m.elements
      T = N.tells S.under.labels s S.under.order m S.noted

      -- the picked row is one of the table
      pub picked-below : j < row_count rows
      picked-below = row_below rows ok sheet S.under.labels s S.under.order m.bits shown choice j above picked

      first-ready : (x : Label) × (l : List Label) × (ready (program rows) sheet s ≡ x ∷ l)
      first-ready = some-ready rows ok sheet choices budget first n s lists S.under (ready (program rows) sheet s) (λ e. some_is (c-is ∙ total-is ∙ e))

      abbrev x : Label
      x = chosen_step (choice ∷ []) first-ready.0 first-ready.1

      step_is : step_at (program rows) sheet s j ≡ some x
      step_is = row-chosen rows ok sheet S.under.labels s S.under.order m.bits shown choice j above picked first-ready.0 first-ready.1 first-ready.2

      module _ (c : Change) (c-change : c ≡ change_in rows m.acts m.sent m.elements j) where
        -- the rows of its change are rows of the arrays, and its data fits into them
        pub change-within : (c.owner < row_count rows) × (c.at < row_count rows) × (c.sender ≤ row_count rows) × (c.next ≤ 14)
        change-within = within rows ok sheet S.under.labels s S.under.order b S.held.holds readings given lines K few m.acts m.sent m.elements T j picked-below x step_is c c-change

        pub change-fits : DataFits readings given c.written b
        change-fits = data-fits rows ok sheet S.under.labels s S.under.order b S.held.holds readings given lines K few m.acts m.sent m.elements T j picked-below x step_is c c-change

        -- they are rows of processes
        pub change-processes : IsProcess rows c.at × ((c.sender ≡ 0 → ⊥) → IsProcess rows (c.sender - 1))
        change-processes =
            let (e, a, q) = step-ordered (program rows) sheet s j x step_is in
            changed-processes rows ok sheet S.under.labels s S.under.order a c
            (changes-are rows ok sheet S.under.labels s S.under.order b S.held.holds readings given lines K few m.acts m.sent m.elements T j picked-below x step_is c c-change e (active-effect (intent_at (program rows) sheet s) a))

        module _ (states lefts cames : List ℕ)
            (up : kept_of states lefts cames ≡ end_up_counted (program rows) c.sender (change_up_counted (program rows) c.at c.next (kept_of b.states left (forgotten came)))) where
          listed : WorkListed rows ok sheet (λ r. RowOf x r ⊎ (is_live (program rows) sheet r s ≡ false)) (after (program rows) sheet x s) cames
          listed =
              turned-listed rows ok sheet S.under.labels s S.under.order b left came S.held readings given lines K few m.acts m.sent m.elements T j picked-below x step_is c c-change states lefts cames up

          -- the rows that came to work are rows of the arrays
          pub came-below : RowsBelow (listed_rows cames)
          came-below = rows-listed rows ok sheet (λ r. RowOf x r ⊎ (is_live (program rows) sheet r s ≡ false)) (after (program rows) sheet x s) cames listed

          -- there was room for them, and for the blocks that started
          pub came-room : get_or cames 0 0 ≤ 2048
          came-room = listed.few

          pub blocks-room : get_or cames 2049 0 ≤ 2048
          blocks-room = (turned-begins rows ok sheet S.under.labels s S.under.order b left came S.held readings given lines K few m.acts m.sent m.elements T j picked-below x step_is c c-change states lefts cames up).number

          -- the blocks that started are rows of blocks
          pub blocks-below : (code : List ℕ) → Prepared rows code → BlocksBelow code (listed_blocks cames)
          blocks-below code p =
              let B = turned-begins rows ok sheet S.under.labels s S.under.order b left came S.held readings given lines K few m.acts m.sent m.elements T j picked-below x step_is c c-change states lefts cames up in
              λ i h. let (v, (ms, u)) = B.blocks (get_or (listed_blocks cames) i 0) (member-at (listed_blocks cames) i h) in block-place rows ok code p v (get_or (listed_blocks cames) i 0) ms u

          -- after the turn
          pub stands-further : (d : Buffers) → d ≡ put_unset (local_at (program rows) (listed_blocks cames)) (with_states states (put_data readings given c.written b)) → (h : Notes) → h ≡ leave_step rows c.owner c.sender m
              → (k : Notes) → k ≡ note_listed rows (cells_in d.cells d.marks) d.places d.counts lines (listed_rows cames) h
              → (next : TraceLists) → next ≡ record { ready_counts = set lists.ready_counts n count; taken_rows = set lists.taken_rows n j }
              → Stands rows sheet choices budget first (n + 1) next (machine_of d lefts cames k)
          stands-further d d-is h h-is k k-is next next-is =
              let (e, a, q) = step-ordered (program rows) sheet s j x step_is in
              let H : HeldAt rows (after (program rows) sheet x s) d lefts cames =
              subst (λ (z : Buffers). HeldAt rows (after (program rows) sheet x s) z lefts cames) (sym d-is)
              (turned-held rows ok sheet S.under.labels s S.under.order b left came S.held readings given lines K few m.acts m.sent m.elements T j picked-below x step_is c c-change states lefts cames up) in
              let U = subst (Underway rows sheet choices budget first (n + 1) (after (program rows) sheet x s)) (sym next-is) (one_further rows ok sheet choices budget first n s lists S.under choice choice-is left_over first-ready.0 first-ready.1 first-ready.2 count j (c-is ∙ total-is) (sym q)) in
              record {
                state = after (program rows) sheet x s;
                under = U;
                held = H;
                noted =
                    k-is
                    ∙ ap (note_listed rows (cells_in d.cells d.marks) d.places d.counts lines (listed_rows cames)) h-is
                    ∙ ap (λ (z : Notes). note_listed rows (cells_in d.cells d.marks) d.places d.counts lines (listed_rows cames) (leave_step rows c.owner c.sender z)) S.noted
                    ∙ ap (note_listed rows (cells_in d.cells d.marks) d.places d.counts lines (listed_rows cames))
                    (N.leaves S.under.labels s S.under.order a c (changes-are rows ok sheet S.under.labels s S.under.order b S.held.holds readings given lines K few m.acts m.sent m.elements T j picked-below x step_is c c-change e (active-effect (intent_at (program rows) sheet s) a)))
                    ∙ turn-noted-all rows ok sheet lines S.under.labels s S.under.order a cames listed d (N.notes U.labels (after (program rows) sheet x s) U.order d H.holds);
              }

  -- at the start: the root has started on arrays of zeros, and the rows that came to work are noted
  module _ (r : ℕ) (root_is : r ≡ root rows) (states left came : List ℕ)
      (up : kept_of states left came ≡ start_row (process_at (program rows) r) (kept_of (replicate 1024 0) (replicate 1024 0) (replicate 4098 0))) where
    begun : kept_of states left came ≡ start_row (whole (program rows)) (kept_of (replicate 1024 0) (replicate 1024 0) (replicate 4098 0))
    unfolding whole program
    begun = up ∙ ap (λ (k : ℕ). start_row (process_at (program rows) k) (kept_of (replicate 1024 0) (replicate 1024 0) (replicate 4098 0))) root_is

    started : WorkListed rows ok sheet (λ q. Unit {0}) (start (program rows)) came
    started =
        subst (λ (k : Kept). WorkListed rows ok sheet (λ q. Unit {0}) (start (program rows)) k.came) (sym begun)
        (start-gathers rows ok sheet (replicate 1024 0) (replicate 4098 0) (omega (arith, length-replicate {A = ℕ} 1024 0)) refl refl (omega (arith, length-replicate {A = ℕ} 4098 0)))

    pub began-below : RowsBelow (listed_rows came)
    began-below = rows-listed rows ok sheet (λ q. Unit {0}) (start (program rows)) came started

    pub began-room : get_or came 0 0 ≤ 2048
    began-room = started.few

    pub stands-start : (d : Buffers) → d ≡ record { cells = replicate 256 (pos 0); marks = replicate 256 0; states = states; places = replicate 8 0; numbers = replicate 1024 (pos 0); counts = replicate 8 0; output_marks = replicate 1024 0 }
        → (k : Notes) → k ≡ note_listed rows (cells_in d.cells d.marks) d.places d.counts lines (listed_rows came) (lists_of (replicate 3072 0) (replicate 1024 (pos 0)) (replicate 512 0) no_rows)
        → Stands rows sheet choices budget first 0 first (machine_of d left came k)
    unfolding blank
    stands-start d d-is k k-is =
        let Z = start-counted rows ok 1024 (rows-limit rows ok) (replicate 1024 0) (replicate 4098 0) (omega (arith, length-replicate {A = ℕ} 1024 0)) in
        let h : HoldsState rows (start (program rows)) d =
        d-is ∙ ap (λ (t : List ℕ). record { cells = replicate 256 (pos 0); marks = replicate 256 0; states = t; places = replicate 8 0; numbers = replicate 1024 (pos 0); counts = replicate 8 0; output_marks = replicate 1024 0 }) (ap (λ (q : Kept). q.states) begun ∙ Z.states-are)
        ∙ start-held rows ok in
        let U = underway-start rows ok sheet choices budget first in
        record {
          state = start (program rows);
          under = U;
          held =
              record {
                holds = h;
                left-size = let e : length left ≡ 1024 = ap (λ (q : Kept). length q.left) begun ∙ Z.within.left-size ∙ length-replicate {A = ℕ} 1024 0 in omega arith;
                came-size = started.long;
                counted = subst (Counted (whole (program rows))) (ap (λ (z : Buffers). kept_of z.states left came) (sym d-is)) (subst (Counted (whole (program rows))) (sym begun) Z.counted);
              };
          noted =
              k-is ∙ ap (note_listed rows (cells_in d.cells d.marks) d.places d.counts lines (listed_rows came)) N.starts
              ∙ start-noted-all rows ok sheet lines d (N.notes U.labels (start (program rows)) U.order d h) came started;
        }

    -- the same by the state that a run begins with
    pub stands-first : (x : store.State) → x ≡ unset_state → (bits : List ℕ) → bits ≡ no_rows → (k : Notes)
        → k ≡ note_listed rows (state_cells x) x.places (replicate 8 0) lines (listed_rows came) (lists_of (replicate 3072 0) (replicate 1024 (pos 0)) (replicate 512 0) bits)
        → Stands rows sheet choices budget first 0 first (machine_of (arrays_of x states (replicate 1024 (pos 0)) (replicate 8 0) (replicate 1024 0)) left came k)
    stands-first x e bits f k g =
        let d = arrays_of x states (replicate 1024 (pos 0)) (replicate 8 0) (replicate 1024 0) in
        let z : d ≡ record { cells = replicate 256 (pos 0); marks = replicate 256 0; states = states; places = replicate 8 0; numbers = replicate 1024 (pos 0); counts = replicate 8 0; output_marks = replicate 1024 0 }
        = ap (λ (y : store.State). arrays_of y states (replicate 1024 (pos 0)) (replicate 8 0) (replicate 1024 0)) e in
        stands-start d z k (g ∙ ap (λ (c : List Message). note_listed rows c x.places (replicate 8 0) lines (listed_rows came) (lists_of (replicate 3072 0) (replicate 1024 (pos 0)) (replicate 512 0) bits)) (state-array x (ap (λ (y : store.State). length y.values) e ∙ length-replicate 256 (pos 0)) (ap (λ (y : store.State). length y.marks) e ∙ length-replicate {A = ℕ} 256 0)) ∙ ap (λ (y : List ℕ). note_listed rows (cells_in x.values x.marks) x.places (replicate 8 0) lines (listed_rows came) (lists_of (replicate 3072 0) (replicate 1024 (pos 0)) (replicate 512 0) y)) f)
