-- The answer to a call that nothing refuses is that of its run; so demand 3 holds of the answers, for rows and for bytes.
use mathlib.Core.Path.{◌≡◌, refl, ap, ◌∙◌}
use mathlib.Core.Bool.{Bool, true, false}
use mathlib.Core.Option.{Option, none, some}
use mathlib.Core.List.{List}
use Prim.Native.Nat.{ℕ, ◌≤◌}
use native.Mathlib.Omega.{arith}
use lib.IntN.{ℤ}
use lib.Dec.{ltb}
use Rattle.meaning.specs.Basics.{if_else}
use borrow.Author.Tests.{ltb-true}
use Rattle.meaning.specs.Limits.{max_budget}
use Rattle.meaning.specs.TableBytes.{bytes_fault, rows_of}
use Rattle.meaning.specs.State.{State}
use Rattle.meaning.specs.Run as R
use Rattle.meaning.specs.Run.{run}
use Rattle.meaning.specs.Sheet.{sheet_fault, readings}
use Rattle.meaning.specs.Buffers.{Buffers, too_short}
use Rattle.meaning.specs.Refusals.{Refusal}
use Rattle.meaning.specs.Labels.{Label}
use Rattle.meaning.specs.Stages.{budget_fault, buffer_fault}
use Rattle.meaning.specs.Answers.{Task, ran, check, result, Reply, reply_of, reply, reply_to_bytes}
use Rattle.meaning.specs.Order.{OrderOf, RestOf, outcome_of}
use Rattle.meaning.specs.Accepted.{BothAccepted}
use Rattle.meaning.proofs.AnswerLaws.{result-stages, result-of-bytes, reply-stages, reply-to-bytes}
use Rattle.agreement.specs.Statements.{NoAlt, OneRest, CallsAnswer, Demand3, Demand3Bytes}
use Rattle.agreement.proofs.TableFit.{fit}
use Rattle.agreement.proofs.TableOptions.{option-rows}
use Rattle.agreement.proofs.OneRest.{agreement}

pub buffers-suffice : (b : Buffers) → too_short b ≡ false → buffer_fault b ≡ none
unfolding buffer_fault
buffers-suffice b e = rw e

budget-allowed : (budget : ℕ) → budget ≤ max_budget → budget_fault max_budget budget ≡ none
unfolding budget_fault
budget-allowed budget h = go (ltb max_budget budget) refl
  where
    go : (t : Bool) → ltb max_budget budget ≡ t → if_else {A = Option Refusal} t (some (11, 0)) none ≡ none
    go true e = let l = ltb-true max_budget budget e in absurd (omega arith)
    go false e = refl

module _ (rows : List ℤ) (sheet : List ℕ) (accepted : check rows ≡ none) (read : sheet_fault rows sheet ≡ none) where
  -- what runs
  abbrev ending : List ℕ → ℕ → R.RunResult
  ending choices budget = run rows (readings rows sheet) choices budget

  abbrev task : List ℕ → ℕ → Task
  task choices budget = record { rows = rows; sheet = sheet; choices = choices; budget = budget }

  -- a task that nothing refuses runs
  runs : (choices : List ℕ) (budget : ℕ) → budget ≤ max_budget → result (task choices budget) ≡ ran (ending choices budget)
  runs choices budget h = result-stages (task choices budget) ∙ rw (accepted, read, budget-allowed budget h)

  pub replies : (choices : List ℕ) (budget : ℕ) (b : Buffers) → too_short b ≡ false → budget ≤ max_budget
      → reply (task choices budget) b ≡ reply_of rows b (ran (ending choices budget))
  replies choices budget b e h = reply-stages (task choices budget) b ∙ rw (buffers-suffice b e, runs choices budget h)

  module _ (w : NoAlt rows) (l : List Label) (s : State) (o : OrderOf rows (readings rows sheet) l s) (r : RestOf rows (readings rows sheet) s) where
    agreed : OneRest rows (readings rows sheet) l s
    agreed k t q =
        let (n, z) = (agreement BothAccepted (λ rows sheet a. (fit rows a.0, option-rows rows a.0)) rows (readings rows sheet) (accepted, (sheet, (read, refl))) w l s o r).0 k t q in
        (n, λ y. ((z y).0, (z y).1, ap (outcome_of rows) (z y).1))

    -- a call that answers as its run does
    answers : (call : List ℕ → ℕ → Buffers → Reply) → ((choices : List ℕ) (budget : ℕ) (b : Buffers) → too_short b ≡ false → budget ≤ max_budget → call choices budget b ≡ reply_of rows b (ran (ending choices budget)))
        → CallsAnswer call rows l s
    answers call h choices budget b e m =
        let (enough, less) = (agreement BothAccepted (λ rows sheet a. (fit rows a.0, option-rows rows a.0)) rows (readings rows sheet) (accepted, (sheet, (read, refl))) w l s o r).1 choices budget in (
          λ k. h choices budget b e m ∙ ap (λ (z : R.RunResult). reply_of rows b (ran z)) (enough k),
          λ k. let (p, q, d) = less k in ((ending choices budget).ready, d, ap (λ (z : Reply). z.answer) (h choices budget b e m) ∙ rw (p, q)),
        )

pub demand3 : Demand3
demand3 rows sheet accepted read w l s o r = (
  agreed rows sheet accepted read w l s o r,
  answers rows sheet accepted read w l s o r (λ choices budget b. reply (record { rows = rows; sheet = sheet; choices = choices; budget = budget }) b) (replies rows sheet accepted read),
)

-- the answer to bytes that are a table is the answer to its rows
bytes-reply : (table sheet : List ℕ) → bytes_fault table ≡ none → check (rows_of table) ≡ none → sheet_fault (rows_of table) sheet ≡ none
    → (choices : List ℕ) (budget : ℕ) (b : Buffers) → too_short b ≡ false → budget ≤ max_budget
    → reply_to_bytes table sheet choices budget b ≡ reply_of (rows_of table) b (ran (run (rows_of table) (readings (rows_of table) sheet) choices budget))
bytes-reply table sheet whole accepted read choices budget b e h =
    reply-to-bytes table sheet choices budget b ∙ rw (result-of-bytes table sheet choices budget, buffers-suffice b e, whole, runs (rows_of table) sheet accepted read choices budget h)

pub demand3-bytes : Demand3Bytes
demand3-bytes table sheet whole accepted read w l s o r = (
  agreed (rows_of table) sheet accepted read w l s o r,
  answers (rows_of table) sheet accepted read w l s o r (λ choices budget b. reply_to_bytes table sheet choices budget b) (bytes-reply table sheet whole accepted read),
)
