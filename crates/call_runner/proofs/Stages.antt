-- What is done of the sheet runner's task tells the refusal or the run that it comes to, and what is printed for it.
use mathlib.Core.Path.{◌≡◌, refl, sym, ap, subst, ◌∙◌}
use mathlib.Core.List.{List, []}
use mathlib.Core.Option.{Option, none, some}
use Prim.Native.Nat.{ℕ, ◌-◌, ◌*◌, ◌<◌, ◌≤◌}
use native.Mathlib.Omega.{arith}
use lib.IntN.{ℤ}
use lib.ListN.{length, get_or, take, drop, length-drop}
use lib.Seq.{take_all}
use Rattle.meaning.specs.declared.Outcome.{Outcome}
use Rattle.meaning.specs.declared.Answer.{Answer}
use Rattle.meaning.specs.declared.Answer.TheVariants.{Refused, Ran}
use Rattle.meaning.specs.Limits.{max_rows, max_budget}
use Rattle.meaning.specs.TableBytes.{rows_of}
use Rattle.meaning.specs.Sheet.{sheet_fault, readings}
use Rattle.meaning.specs.Refusals.{Refusal}
use Rattle.meaning.specs.Stages.{budget_fault}
use Rattle.meaning.specs.Answers.{Result, refused, ran, Reply, reply_of, unless, check, result, result_of_bytes}
use Rattle.meaning.specs.Run as meaning
use Rattle.meaning.specs.Run.{run}
use Rattle.meaning.specs.Printing.{printed_lines, end_lines, line_bytes, refused_line}
use Rattle.meaning.specs.Runner.{printed_result, runner}
use Rattle.meaning.specs.Buffers.{Buffers}
use Rattle.meaning.specs.PrintedForms.{Each, In32}
use Rattle.meaning.proofs.AnswerLaws.{accepted, result-stages}
use Rattle.meaning.proofs.LentLaws.{blank-at}
use Rattle.agreement.proofs.VerdictStages.{whole-passes}
use Rattle.machine.specs.Held.{blank}
use Rattle.machine.proofs.HeldLaws.{states-are}
use Rattle.call_tasks.proofs.Stages.{task-run}
use Rattle.write_lines.specs.declared.Parts.{Parts}
use Rattle.write_lines.specs.Decoding.{table_rows, state_in}
use Rattle.write_lines.specs.Splitting.{Splits}
use Rattle.write_lines.proofs.Encoded.{Held, printed-text-said}
use Rattle.write_bytes.specs.Writing.{printed_in}
use Rattle.call_runner.specs.PrintedTexts.{task_of, max_printed_text}
use Rattle.call_runner.proofs.FinalState.{run-held}
use Rattle.call_runner.proofs.Lists.{each_of}
use Rattle.call_runner.proofs.Ranges.{run_short}

-- an accepted table has at most 1,024 rows
rows_short : (rows : List ℤ) → check rows ≡ none → length rows ≤ 4 * max_rows
rows_short rows ok = let w = (whole-passes rows).0 ((accepted rows).0 ok).0 in let d = w.0 in let k = w.1 in omega arith

-- an answer of a run comes from no refusal
ran-unrefused : (rows : List ℤ) (f g : Option Refusal) (q : meaning.RunResult) (o : Outcome) (k total : ℕ) → Ran o k total ≡ (reply_of rows blank (unless f (unless g (ran q)))).answer → (f ≡ none) × (g ≡ none)
ran-unrefused rows none none q o k total e = (refl, refl)
ran-unrefused rows none (some g) q o k total e = let z : ◌≡◌ {A = ℕ} 0 1 = cc in absurd (omega arith)
ran-unrefused rows (some f) g q o k total e = let z : ◌≡◌ {A = ℕ} 0 1 = cc in absurd (omega arith)

-- an answer of a refusal is that of a result that is refused
refused-answer : (rows : List ℤ) (r : Result) (n p : ℕ) → Refused n p ≡ (reply_of rows blank r).answer → r ≡ refused (n, p)
refused-answer rows (refused (m, q)) n p e = cc
refused-answer rows (ran q) n p e = let z : ◌≡◌ {A = ℕ} 0 1 = cc in absurd (omega arith)

module _ (rows : List ℤ) (sheet : List ℕ) (d : Reply) (e : d ≡ reply_of rows blank (result (task_of rows sheet))) where
  -- what is printed for the task
  abbrev printed : List ℕ
  printed = printed_result rows (result (task_of rows sheet))

  module _ (o : Outcome) (k total : ℕ) (a : d.answer ≡ Ran o k total) where
    -- the run of the task
    abbrev ending : meaning.RunResult
    ending = run rows (readings rows sheet) [] max_budget

    -- nothing is refused
    unrefused : (check rows ≡ none) × (sheet_fault rows sheet ≡ none)
    unfolding budget_fault
    unrefused = ran-unrefused rows (check rows) (sheet_fault rows sheet) ending o k total (sym a ∙ ap (λ (r : Reply). r.answer) (e ∙ ap (reply_of rows blank) (result-stages (task_of rows sheet))))

    -- so the task comes to that run
    runs : result (task_of rows sheet) ≡ ran ending
    runs = task-run rows sheet [] max_budget unrefused.0 unrefused.1 (omega arith)

    -- a printed text can be made of its state
    held : Held rows ending.state
    held = run-held rows unrefused.0 (readings rows sheet) [] max_budget

    -- the printed text of an answer and its arrays
    abbrev shown : Answer → Buffers → List ℕ
    shown (Refused n p) b = []
    shown (Ran o n m) b = printed_lines (end_lines (table_rows rows) o n (state_in (table_rows rows) b.cells b.marks b.states b.numbers b.counts b.output_marks))

    -- the printed text of what a run leaves
    run-printed : shown (Ran o k total) d.buffers ≡ printed
    run-printed =
        ap (λ (x : Answer). shown x d.buffers) (sym a)
        ∙ ap (λ (r : Reply). shown r.answer r.buffers) (e ∙ ap (reply_of rows blank) runs)
        ∙ printed-text-said rows ending.state blank held (rows_short rows unrefused.0) ending.outcome ending.steps ending.ready
        ∙ ap (printed_result rows) (sym runs)

    -- its row states are bytes
    states-bytes : ((i : ℕ) → get_or d.buffers.states i 0 < 256) → Each (λ n. n < 256) ending.state.states
    states-bytes b =
        let few : length ending.state.states ≤ max_rows = (let a = held.states-all in let c = held.rows_few in omega arith) in
        let is = states-are rows ending.state d.buffers (ap (λ (r : Reply). r.buffers) (e ∙ ap (reply_of rows blank) runs)) in
        each_of 0 ending.state.states (λ i. subst (λ (n : ℕ). n < 256) (ap (λ (l : List ℕ). get_or l i 0) is ∙ blank-at 0 max_rows i ending.state.states few) (b i))

    -- so its printed text is short
    run_fits : Each In32 rows → ((i : ℕ) → get_or d.buffers.states i 0 < 256) → length printed ≤ max_printed_text
    run_fits numbers b = rw runs (run_short rows numbers unrefused.0 sheet unrefused.1 (states-bytes b))

  module _ (old : List ℕ) where
    -- the line of a refusal, in a lent buffer
    pub refusal-done : (n p : ℕ) → d.answer ≡ Refused n p → (w : ℕ × List ℕ) → w ≡ printed_in (line_bytes (refused_line (n, p))) old → length (line_bytes (refused_line (n, p))) ≤ max_printed_text
        → (w ≡ printed_in printed old) × (Each In32 rows → length printed ≤ max_printed_text)
    refusal-done n p a w h short = rw (refused-answer rows (result (task_of rows sheet)) n p (sym a ∙ ap (λ (r : Reply). r.answer) e)) (h, λ i. short)

    -- the printed text of a run, in a lent buffer
    pub run-done : (o : Outcome) (k total : ℕ) → d.answer ≡ Ran o k total → (states : List ℕ) → states ≡ d.buffers.states → ((i : ℕ) → get_or d.buffers.states i 0 < 256) → (w : ℕ × List ℕ)
        → w ≡ printed_in (printed_lines (end_lines (table_rows rows) o k (state_in (table_rows rows) d.buffers.cells d.buffers.marks states d.buffers.numbers d.buffers.counts d.buffers.output_marks))) old → (w ≡ printed_in printed old) × (Each In32 rows → length printed ≤ max_printed_text)
    run-done o k total a states is bytes w h = (
      h
          ∙ ap (λ (l : List ℕ). printed_in (printed_lines (end_lines (table_rows rows) o k (state_in (table_rows rows) d.buffers.cells d.buffers.marks l d.buffers.numbers d.buffers.counts d.buffers.output_marks))) old) is
          ∙ ap (λ (l : List ℕ). printed_in l old) (run-printed o k total a),
      λ i. run_fits o k total a i bytes,
    )

-- what is printed for the two parts of standard input
pub parts-printed : (input : List ℕ) (p : Parts) → Splits input p
    → let table = take p.end input in
    printed_result (rows_of table) (result_of_bytes table (take (length input - p.start) (drop p.start input)) [] max_budget) ≡ runner input
unfolding runner
parts-printed input p h = rw (h.table, take_all (length input - p.start) (drop p.start input) (omega (arith, length-drop p.start input)), h.sheet)
