-- A run under way: after n steps it goes on from a state, and the two lists of a traced run hold what its steps showed. So it is at the start and after each step; where it takes no step it ends.
use mathlib.Core.Path.{◌≡◌, refl, sym, ap, subst, ◌∙◌}
use mathlib.Core.Bool.{Bool, true, false, ◌||◌}
use mathlib.Core.Option.{none}
use mathlib.Core.List.{List, [], ◌∷◌, ◌++◌, Memᴰ}
use Prim.Native.Nat.{ℕ, suc, ◌+◌, ◌-◌, ◌<◌}
use native.Mathlib.Numerals.{add-one}
use native.Mathlib.Omega.{arith}
use lib.IntN.{ℤ}
use lib.ListN.{length, get_or, set, drop}
use lib.Seq.{get_or-drop, drop-drop}
use lib.Dec.{eqb}
use borrow.Author.Tests.{eqb-true, eqb-false}
use Rattle.meaning.specs.declared.Outcome.{Outcome}
use Rattle.meaning.specs.declared.Outcome.TheVariants.{Spent}
use Rattle.meaning.specs.Basics.{if_else}
use Rattle.meaning.specs.Rows.{row_count}
use Rattle.meaning.specs.Declarations.{root}
use Rattle.meaning.specs.State.{State, program}
use Rattle.meaning.specs.Labels.{Label, order_row}
use Rattle.meaning.specs.Readings.{Sheet}
use Rattle.meaning.specs.Settle.{start}
use Rattle.meaning.specs.Ready.{ready, after}
use Rattle.meaning.specs.Run.{RunResult, go, run}
use Rattle.meaning.specs.Trace.{Shown, TraceLists, trace, shown_from}
use Rattle.meaning.specs.Order.{chosen_step, halt}
use Rattle.meaning.specs.Buffers.{Buffers}
use Rattle.meaning.specs.Answers.{check}
use Rattle.agreement.proofs.Steps.{ready-allowed}
use Rattle.agreement.proofs.Reached.{order-more}
use Rattle.agreement.proofs.TableFit.{fit}
use Rattle.agreement.proofs.Separate.{table-inv}
use Rattle.agreement.proofs.Beginning.{begins-at-start}
use Rattle.machine.specs.Held.{HoldsState}
use Rattle.run_turns.specs.Results.{rest_outcome, ResultReached}
use Rattle.run_turns.specs.Ending.{is_last, outcome_with}
use Rattle.run_turns.specs.Showing.{shown_from_place}
use Rattle.run_turns.specs.Machine.{Underway}
use Rattle.run_turns.proofs.Outcomes.{rest-is}
use Rattle.run_turns.proofs.Going.{goes-to-rest, goes-no-further, goes_on, chosen-first, chosen-ready, shows-none, shows-no-more, shows-one}

module _ (rows : List ℤ) (ok : check rows ≡ none) (sheet : Sheet) (choices : List ℕ) (budget : ℕ) (first : TraceLists) where
  -- at the start
  pub underway-start : Underway rows sheet choices budget first 0 (start (program rows)) first
  unfolding run trace
  underway-start =
      let e : budget ≡ budget - 0 = omega arith in
      record {
        labels = [];
        order = record { beginning = start (program rows); begins = begins-at-start (program rows) (row_count rows) (fit rows ok); order = halt };
        within = omega arith;
        goes = ap (λ (m : ℕ). go (program rows) sheet m 0 choices (start (program rows))) e;
        shows = ap (λ (m : ℕ). shown_from_place 0 (shown_from (program rows) sheet m choices (start (program rows)) (ready (program rows) sheet (start (program rows)))) first) e;
      }

  module _ (n : ℕ) (s : State) (lists : TraceLists) (U : Underway rows sheet choices budget first n s lists) where
    none-ready : (l : List Label) → 0 ≡ length l → l ≡ []
    none-ready [] e = refl
    none-ready (x ∷ l) e = absurd (omega arith)

    -- some step is ready
    pub some-ready : (l : List Label) → (length l ≡ 0 → ⊥) → (x : Label) × (m : List Label) × (l ≡ x ∷ m)
    some-ready [] h = absurd (h refl)
    some-ready (x ∷ m) h = (x, m, refl)

    -- what a run leaves that ends here: its outcome, its steps, its total, its arrays, and the lists
    pub record Ended (o : Outcome) (count : ℕ) (b : Buffers) : Type 0 where
      pub result : ResultReached rows (run rows sheet choices budget) o n count b
      pub shown : lists ≡ shown_from_place 0 (trace rows sheet choices budget) first

    -- no step is ready
    at_rest : (count : ℕ) (b : Buffers) → HoldsState rows s b → count ≡ length (ready (program rows) sheet s) → count ≡ 0
        → (r : ℕ) → r ≡ root rows → (o : Outcome) → o ≡ rest_outcome r (row_count rows) b.states → Ended o count b
    at_rest count b h c z r i o j =
        let e = none-ready (ready (program rows) sheet s) (sym z ∙ c) in
        let q = U.goes ∙ goes-to-rest (program rows) sheet n (drop n choices) s (budget - n) e in
        record {
          result =
              record {
                outcome = j ∙ ap (λ (k : ℕ). rest_outcome k (row_count rows) b.states) i ∙ rest-is rows ok sheet U.labels s U.order b h ∙ ap (λ (r : RunResult). r.outcome) (sym q);
                steps = ap (λ (r : RunResult). r.steps) (sym q);
                ready = z ∙ ap (λ (r : RunResult). r.ready) (sym q);
                arrays = subst (λ (r : RunResult). HoldsState rows r.state b) (sym q) h;
              };
          shown = sym (U.shows ∙ ap (λ (l : List Shown). shown_from_place n l lists) (shows-none (program rows) sheet n (drop n choices) s (budget - n) e));
        }

    -- a step is ready, and the budget is used
    spent : (count : ℕ) (b : Buffers) → HoldsState rows s b → count ≡ length (ready (program rows) sheet s) → (count ≡ 0 → ⊥) → n ≡ budget → Ended Spent count b
    spent count b h c z d =
        let (x, m, e) = some-ready (ready (program rows) sheet s) (λ y. z (c ∙ y)) in
        let k : budget - n ≡ 0 = omega arith in
        let q = U.goes ∙ ap (λ (b : ℕ). go (program rows) sheet b n (drop n choices) s) k ∙ goes-no-further (program rows) sheet n (drop n choices) s x m e in
        record {
          result =
              record {
                outcome = ap (λ (r : RunResult). r.outcome) (sym q);
                steps = ap (λ (r : RunResult). r.steps) (sym q);
                ready = c ∙ ap (λ (l : List Label). length l) e ∙ ap (λ (r : RunResult). r.ready) (sym q);
                arrays = subst (λ (r : RunResult). HoldsState rows r.state b) (sym q) h;
              };
          shown =
              sym
              (U.shows
              ∙ ap (λ (i : ℕ). shown_from_place n (shown_from (program rows) sheet i (drop n choices) s (ready (program rows) sheet s)) lists) k
              ∙ ap (λ (l : List Shown). shown_from_place n l lists) (shows-no-more (program rows) sheet n (drop n choices) s));
        }

    -- a run ends: at rest, or with its budget used
    pub run_ends : (count : ℕ) (b : Buffers) → HoldsState rows s b → count ≡ length (ready (program rows) sheet s) → is_last count n budget ≡ true
        → (r : ℕ) → r ≡ root rows → (o : Outcome) → o ≡ outcome_with count r (row_count rows) b.states → Ended o count b
    run_ends count b h c l r i o j = go (eqb count 0) refl
      where
        outcome-is : (t : Bool) → eqb count 0 ≡ t → o ≡ if_else t (rest_outcome r (row_count rows) b.states) Spent
        outcome-is t e = j ∙ ap (λ (t : Bool). if_else t (rest_outcome r (row_count rows) b.states) Spent) e

        go : (t : Bool) → eqb count 0 ≡ t → Ended o count b
        go true e = at_rest count b h c (eqb-true count 0 e) r i o (outcome-is true e)
        go false e =
            let d = eqb-true n budget (sym (ap (λ (t : Bool). t || eqb n budget) e) ∙ l) in
            subst (λ (q : Outcome). Ended q count b) (sym (outcome-is false e)) (spent count b h c (eqb-false count 0 e) d)

    -- a step is ready, and budget is left: after it
    pub one_further : (choice : ℕ) → choice ≡ get_or choices n 0 → n < budget → (x : Label) (m : List Label) → ready (program rows) sheet s ≡ x ∷ m
        → (count j : ℕ) → count ≡ length (ready (program rows) sheet s) → j ≡ order_row (chosen_step (choice ∷ []) x m)
        → Underway rows sheet choices budget first (n + 1) (after (program rows) sheet (chosen_step (choice ∷ []) x m) s)
        (record { ready_counts = set lists.ready_counts n count; taken_rows = set lists.taken_rows n j })
    one_further choice p d x m e count j c q =
        let P = program rows in
        let y = chosen_step (choice ∷ []) x m in
        let k : n + 0 ≡ n = omega arith in
        let v : y ≡ chosen_step (drop n choices) x m = chosen-first (drop n choices) choice (p ∙ sym (get_or-drop n choices 0 0 ∙ ap (λ (i : ℕ). get_or choices i 0) k)) x m in
        let f : budget - n ≡ suc (budget - (n + 1)) = omega arith in
        record {
          labels = U.labels ++ (y ∷ []);
          order = order-more rows sheet U.order (ready-allowed rows sheet (fit rows ok) s (table-inv rows sheet (fit rows ok) U.labels s U.order) y (subst (λ (l : List Label). Memᴰ y l) (sym e) (chosen-ready (choice ∷ []) x m)));
          within = omega arith;
          goes =
              U.goes ∙ ap (λ (i : ℕ). go P sheet i n (drop n choices) s) f ∙ goes_on P sheet n (drop n choices) s (budget - (n + 1)) x m e
              ∙ ap (λ (z : Label). go P sheet (budget - (n + 1)) (suc n) (drop 1 (drop n choices)) (after P sheet z s)) (sym v)
              ∙ ap (λ (l : List ℕ). go P sheet (budget - (n + 1)) (suc n) l (after P sheet y s)) (drop-drop 1 n choices)
              ∙ ap (λ (i : ℕ). go P sheet (budget - (n + 1)) i (drop (n + 1) choices) (after P sheet y s)) (sym (add-one n));
          shows =
              U.shows
              ∙ ap (λ (i : ℕ). shown_from_place n (shown_from P sheet i (drop n choices) s (ready P sheet s)) lists) f
              ∙ ap (λ (l : List Shown). shown_from_place n l lists)
              (shows-one P sheet n (drop n choices) s (budget - (n + 1)) x m e
              ∙ ap (λ (z : Label). record { ready = length (x ∷ m); row = order_row z } ∷ shown_from P sheet (budget - (n + 1)) (drop 1 (drop n choices)) (after P sheet z s) (ready P sheet (after P sheet z s))) (sym v)
              ∙ ap (λ (l : List ℕ). record { ready = length (x ∷ m); row = order_row y } ∷ shown_from P sheet (budget - (n + 1)) l (after P sheet y s) (ready P sheet (after P sheet y s))) (drop-drop 1 n choices))
              ∙ step-shown (sym (c ∙ ap (λ (l : List Label). length l) e)) (sym q) (shown_from P sheet (budget - (n + 1)) (drop (n + 1) choices) (after P sheet y s) (ready P sheet (after P sheet y s)));
        }
      where
        step-shown : {a b : ℕ} → a ≡ count → b ≡ j → (later : List Shown)
            → shown_from_place n (record { ready = a; row = b } ∷ later) lists ≡ shown_from_place (n + 1) later (record { ready_counts = set lists.ready_counts n count; taken_rows = set lists.taken_rows n j })
        step-shown z w later = rw (z, w, add-one n)
