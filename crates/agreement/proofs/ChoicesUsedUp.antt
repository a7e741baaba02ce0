-- When the list of choices is used up, 0 is meant: zeros at its end change nothing.
use mathlib.Core.Path.{◌≡◌, refl, sym, ap, ◌∙◌}
use mathlib.Core.List.{List, [], ◌∷◌, ◌++◌}
use Prim.Native.Nat.{ℕ, zero, suc}
use lib.ListN.{replicate}
use Rattle.meaning.specs.Limits.{max_budget}
use Rattle.meaning.specs.State.{State, Program, program}
use Rattle.meaning.specs.Settle.{start}
use Rattle.meaning.specs.Labels.{Label}
use Rattle.meaning.specs.Readings.{Sheet}
use Rattle.meaning.specs.Ready.{ready, after}
use Rattle.meaning.specs.Order.{chosen_step}
use Rattle.meaning.specs.Run.{RunResult, go_from, go, run}
use Rattle.meaning.specs.Sheet.{sheet_fault, readings}
use Rattle.meaning.specs.Stages.{buffer_fault, budget_fault}
use Rattle.meaning.specs.Answers.{Task, check, reply_of, unless, ran, result}
use Rattle.meaning.proofs.AnswerLaws.{result-stages, reply-stages}
use Rattle.agreement.specs.ChoiceClaims.{with_zeros, ZeroIsMeant}

module _ (P : Program) (sheet : Sheet) where
  with-zeros : (budget n k : ℕ) (choices : List ℕ) (s : State) (l : List Label) → go_from P sheet budget n (choices ++ replicate k 0) s l ≡ go_from P sheet budget n choices s l
  unfolding go_from chosen_step
  with-zeros zero n k choices s [] = refl
  with-zeros (suc budget) n k choices s [] = refl
  with-zeros zero n k choices s (x ∷ l) = refl
  with-zeros (suc budget) n zero [] s (x ∷ l) = refl
  with-zeros (suc budget) n (suc k) [] s (x ∷ l) = let t = after P sheet (chosen_step [] x l) s in with-zeros budget (suc n) k [] t (ready P sheet t)
  with-zeros (suc budget) n zero (c ∷ cs) s (x ∷ l) = let t = after P sheet (chosen_step (c ∷ cs) x l) s in with-zeros budget (suc n) zero cs t (ready P sheet t)
  with-zeros (suc budget) n (suc k) (c ∷ cs) s (x ∷ l) = let t = after P sheet (chosen_step (c ∷ cs) x l) s in with-zeros budget (suc n) (suc k) cs t (ready P sheet t)

run-with-zeros : (t : Task) (n : ℕ) → let sheet = readings t.rows t.sheet in run t.rows sheet (with_zeros n t).choices t.budget ≡ run t.rows sheet t.choices t.budget
unfolding run go
run-with-zeros t n =
    let P = program t.rows in
    let sheet = readings t.rows t.sheet in
    with-zeros P sheet t.budget 0 n t.choices (start P) (ready P sheet (start P))

result-with-zeros : (t : Task) (n : ℕ) → result (with_zeros n t) ≡ result t
result-with-zeros t n =
    result-stages (with_zeros n t)
    ∙ ap (λ (r : RunResult). unless (check t.rows) (unless (sheet_fault t.rows t.sheet) (unless (budget_fault max_budget t.budget) (ran r)))) (run-with-zeros t n)
    ∙ sym (result-stages t)

pub zero-is-meant : ZeroIsMeant
zero-is-meant t n b = reply-stages (with_zeros n t) b ∙ ap (λ r. reply_of t.rows b (unless (buffer_fault b) r)) (result-with-zeros t n) ∙ sym (reply-stages t b)
