-- The verdict and the count on rows and on bytes: the refusal of the stages before, or what the stage that follows gives.
use mathlib.Core.Path.{◌≡◌, ap, ◌∙◌}
use mathlib.Core.List.{List, [], ◌∷◌}
use mathlib.Core.Option.{Option, none, some}
use Prim.Native.Nat.{ℕ}
use lib.IntN.{ℤ}
use Rattle.meaning.specs.PrintedForms.{Each, each_none, each_more}
use Rattle.meaning.specs.TableBytes.{bytes_fault, rows_of, numbers_fault}
use Rattle.meaning.specs.Verdict.{form_fault, tree_fault, limit_fault, block_fault}
use Rattle.meaning.specs.Usage.{usage_fault, pairs_compared}
use Rattle.meaning.specs.Refusals.{Refusal, Stage, either, first_fault}
use Rattle.meaning.specs.Answers.{if_passed, checked, check_counted, check_bytes_counted}
use Rattle.meaning.proofs.AnswerLaws.{or_nothing, first-of-both, check-bytes, rows_before_usage, check-usage, counted-rows, counted-bytes, none_found}
use Rattle.agreement.proofs.VerdictStages.{whole-passes}
use Rattle.base_top_down.specs.New.{FormPassed}

-- the stages 3 to 6
abbrev pub form_stages : List (Stage (List ℤ))
form_stages = numbers_fault ∷ form_fault ∷ tree_fault ∷ limit_fault ∷ []

module _ (rows : List ℤ) where
  before : first_fault rows_before_usage rows ≡ either (first_fault form_stages rows) (block_fault rows)
  unfolding first_fault
  before = first-of-both rows form_stages (block_fault ∷ []) ∙ ap (either (first_fault form_stages rows)) (or_nothing (block_fault rows))

  by-stages : check_counted rows ≡ checked (either (either (first_fault form_stages rows) (block_fault rows)) (usage_fault rows)) (if_passed (either (first_fault form_stages rows) (block_fault rows)) (pairs_compared rows))
  by-stages =
      counted-rows rows
      ∙ ap (λ (o : Option Refusal). checked o (if_passed (first_fault rows_before_usage rows) (pairs_compared rows))) (check-usage rows)
      ∙ ap (λ (o : Option Refusal). checked (either o (usage_fault rows)) (if_passed o (pairs_compared rows))) before

  pub form-refused : (n p : ℕ) → first_fault form_stages rows ≡ some (n, p) → checked (some (n, p)) 0 ≡ check_counted rows
  form-refused n p e = rw (by-stages, e)

  pub blocks-refused : (n p : ℕ) → first_fault form_stages rows ≡ none → block_fault rows ≡ some (n, p) → checked (some (n, p)) 0 ≡ check_counted rows
  blocks-refused n p e f = rw (by-stages, e, f)

  pub usage-judged : first_fault form_stages rows ≡ none → block_fault rows ≡ none → checked (usage_fault rows) (pairs_compared rows) ≡ check_counted rows
  usage-judged e f = rw (by-stages, e, f)

  -- rows that the stages 3 to 6 refuse nothing in are few, of right form and one tree, and within the limits
  pub form-limits : first_fault form_stages rows ≡ none → FormPassed rows × (limit_fault rows ≡ none)
  form-limits e = go (none_found rows form_stages e)
    where
      go : Each (λ (s : Stage (List ℤ)). s rows ≡ none) form_stages → FormPassed rows × (limit_fault rows ≡ none)
      go (each_more a (each_more b (each_more c (each_more d each_none)))) = (record { few = ((whole-passes rows).0 a).1; form = b; tree = c }, d)

module _ (bytes : List ℕ) where
  pub bytes-refused : (n p : ℕ) → bytes_fault bytes ≡ some (n, p) → checked (some (n, p)) 0 ≡ check_bytes_counted bytes
  bytes-refused n p e = rw (counted-bytes bytes, check-bytes bytes, e)

  pub rows-judged : bytes_fault bytes ≡ none → check_counted (rows_of bytes) ≡ check_bytes_counted bytes
  rows-judged e = counted-rows (rows_of bytes) ∙ rw (counted-bytes bytes, check-bytes bytes, e)
