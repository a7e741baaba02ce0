-- A turn of the run, the row states and the data: after the change of the picked step the arrays hold the state that the step leaves, the counts of members
-- left are right, and the rows that come to work and the blocks that start are listed.
use mathlib.Core.Path.{◌≡◌, sym, ap, subst, ◌∙◌}
use mathlib.Core.Logic.{◌⊎◌}
use mathlib.Core.Bool.{false}
use mathlib.Core.Option.{none, some}
use mathlib.Core.List.{List}
use Prim.Native.Nat.{ℕ, ◌<◌, ◌≤◌}
use native.Mathlib.Omega.{arith}
use lib.IntN.{ℤ}
use lib.ListN.{length}
use Rattle.meaning.specs.Rows.{row_count}
use Rattle.meaning.specs.Settle.{settle}
use Rattle.meaning.specs.State.{State, Program, program, whole, change_states, Effect}
use Rattle.meaning.specs.Labels.{Label}
use Rattle.meaning.specs.Readings.{Sheet}
use Rattle.meaning.specs.Ready.{intent_at, is_live, after}
use Rattle.meaning.specs.Buffers.{Buffers}
use Rattle.meaning.specs.Order.{OrderOf}
use Rattle.meaning.specs.Answers.{check}
use Rattle.agreement.specs.RowsOfSteps.{RowOf}
use Rattle.agreement.proofs.Active.{Active}
use Rattle.machine.specs.RowSteps.{step_at}
use Rattle.machine.specs.Held.{KeptReadings, put_unset}
use Rattle.machine.specs.Came.{listed_blocks, local_at}
use Rattle.machine.specs.Counts.{Kept, kept_of, Counted, change_up_counted, end_up_counted, changes_up_counted, forgotten}
use Rattle.machine.proofs.HeldLaws.{states-long}
use Rattle.machine.proofs.Counting.{counted-listed}
use Rattle.machine.proofs.CountedSteps.{Steps, held-counted}
use Rattle.machine.proofs.CameRows.{WorkListed, BlocksListed, held-gathers, held-begins}
use Rattle.machine.proofs.StepEffects.{active-effect}
use Rattle.machine.proofs.RowReady.{step-ordered}
use Rattle.run_changes.specs.declared.Change.{Change}
use Rattle.run_changes.specs.Changes.{change_in, put_data, with_states}
use Rattle.run_changes.proofs.Told.{Told}
use Rattle.run_changes.proofs.StepLaws.{settles-up, state-held}
use Rattle.run_turns.specs.Machine.{HeldAt}
use Rattle.run_turns.proofs.Unsetting.{kept-unset, locals-in}

module _ (rows : List ℤ) (ok : check rows ≡ none) (sheet : Sheet) (l : List Label) (s : State) (o : OrderOf rows sheet l s) (b : Buffers) (left came : List ℕ) (H : HeldAt rows s b left came)
    (readings : List ℤ) (given : List ℕ) (lines : ℕ) (K : KeptReadings rows sheet readings given lines) (few : lines ≤ 128)
    (acts : List ℕ) (sent : List ℤ) (elements : List ℕ) (T : Told (program rows) sheet s acts sent elements)
    (j : ℕ) (below : j < row_count rows) (x : Label) (g : step_at (program rows) sheet s j ≡ some x) (c : Change) (is : c ≡ change_in rows acts sent elements j)
    (states lefts cames : List ℕ)
    (up : kept_of states lefts cames ≡ end_up_counted (program rows) c.sender (change_up_counted (program rows) c.at c.next (kept_of b.states left (forgotten came)))) where
  abbrev P : Program
  P = program rows

  abbrev t : State
  t = after P sheet x s

  -- the step's effect
  pub effect : (e : Effect) × Active (intent_at P sheet s) x e
  effect = let (e, a, q) = step-ordered P sheet s j x g in (e, a)

  abbrev before : Kept
  before = kept_of b.states left (forgotten came)

  long : length b.states ≡ 1024
  long = states-long rows s b H.holds

  counted-before : Counted (whole P) before
  counted-before = counted-listed (whole P) b.states left came (forgotten came) H.counted

  made : kept_of states lefts cames ≡ changes_up_counted P effect.0.changes before
  made = up ∙ sym (settles-up rows ok sheet l s o b H.holds readings given lines K few acts sent elements T j below x g c is effect.0 (active-effect (intent_at P sheet s) effect.1) before)

  steps : Steps rows ok before (changes_up_counted P effect.0.changes before) (settle (whole P) false (change_states effect.0.changes b.states))
  steps = held-counted rows ok sheet l s o b H.holds left (forgotten came) (omega (arith, long, H.left-size)) counted-before effect.1

  pub turned-listed : WorkListed rows ok sheet (λ r. RowOf x r ⊎ (is_live P sheet r s ≡ false)) t cames
  turned-listed =
      subst (λ (k : Kept). WorkListed rows ok sheet (λ r. RowOf x r ⊎ (is_live P sheet r s ≡ false)) t k.came) (sym made)
      (held-gathers rows ok sheet l s o b H.holds left came (omega (arith, long, H.left-size)) H.came-size counted-before x effect.0 (active-effect (intent_at P sheet s) effect.1))

  pub turned-begins : BlocksListed rows ok sheet (change_states effect.0.changes s.states) cames
  turned-begins =
      subst (λ (k : Kept). BlocksListed rows ok sheet (change_states effect.0.changes s.states) k.came) (sym made)
      (held-begins rows ok sheet l s o b H.holds left came (omega (arith, long, H.left-size)) H.came-size counted-before x effect.0 (active-effect (intent_at P sheet s) effect.1))

  pub turned-held : HeldAt rows t (put_unset (local_at P (listed_blocks cames)) (with_states states (put_data readings given c.written b))) lefts cames
  turned-held =
      record {
        holds =
            state-held rows ok sheet l s o b H.holds readings given lines K few acts sent elements T j below x g c is effect.0 (active-effect (intent_at P sheet s) effect.1) states (ap (λ (k : Kept). k.states) made ∙ steps.states-are)
            (local_at P (listed_blocks cames)) (locals-in rows (listed_blocks cames), turned-begins.begins);
        left-size = subst (λ (k : Kept). 1024 ≤ length k.left) (sym made) (omega (arith, steps.left-size, long));
        came-size = turned-listed.long;
        counted = subst (Counted (whole P)) (kept-unset (local_at P (listed_blocks cames)) (with_states states (put_data readings given c.written b)) lefts cames) (subst (Counted (whole P)) (sym made) steps.counted);
      }
