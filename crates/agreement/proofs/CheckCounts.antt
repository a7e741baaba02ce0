-- The count that a check gives beside its verdict: of the pairs compared, and 0 if an earlier stage refuses.
use mathlib.Core.Path.{◌≡◌, refl, sym, ap, ◌∙◌, subst}
use mathlib.Core.Logic.{◌⊎◌, inl, inr}
use mathlib.Core.List.{List}
use mathlib.Core.Option.{Option, none, some, some-ne-none}
use Prim.Native.Nat.{ℕ, ◌<◌}
use native.Mathlib.Omega.{arith}
use lib.IntN.{ℤ}
use Rattle.meaning.specs.declared.Checked.{Checked}
use Rattle.meaning.specs.Refusals.{Refusal, Stage, either, first_fault}
use Rattle.meaning.specs.TableBytes.{bytes_fault, rows_of}
use Rattle.meaning.specs.Usage.{usage_fault, pairs_compared}
use Rattle.meaning.specs.Answers.{check, check_bytes, if_passed}
use Rattle.meaning.specs.PrintedForms.{Each, each_more}
use Rattle.meaning.proofs.AnswerLaws.{check-bytes, rows_before_usage, check-usage, counted-rows, counted-bytes, First, here, later, first_found, none_found}
use Rattle.agreement.specs.VerdictClaims.{Passed}
use Rattle.agreement.specs.PairClaims.{CountBeside, of-all-pairs, up-to-clash, refused-before, CountsOfChecks, CountOfAccepted}
use Rattle.agreement.proofs.VerdictStages.{whole-faults, form-faults, tree-faults, limit-faults, block-faults}
use Rattle.agreement.proofs.UsageExact.{usage-faults}
use Rattle.agreement.proofs.RefusalPlaces.{clash-par, bytes-place}
use Rattle.agreement.proofs.PairsCounted.{count-of-compared, count-of-all}
use Rattle.agreement.proofs.PairSums.{all-length}

-- the numbers of refusals before usage
abbrev Before : ℕ → Type 0
Before n = (n < 7) ⊎ (n ≡ 14)

module _ (rows : List ℤ) where
  passed-before : first_fault rows_before_usage rows ≡ none → Passed rows
  passed-before e = go (none_found rows rows_before_usage e)
    where
      go : Each (λ (s : Stage (List ℤ)). s rows ≡ none) rows_before_usage → Passed rows
      go (each_more a (each_more b (each_more c (each_more d rest)))) = (a, b, c, d)

  number-before : (f : Refusal) → first_fault rows_before_usage rows ≡ some f → Before f.0
  number-before f e = go (first_found rows rows_before_usage f e)
    where
      go : First rows f rows_before_usage → Before f.0
      go (here h) = let e = ((whole-faults rows f).0 h).1 in let n = ap (λ (g : Refusal). g.0) e in inl (omega arith)
      go (later _ (here h)) = let n = ((form-faults rows f).0 h).0 in inl (omega arith)
      go (later _ (later _ (here h))) = let n = ((tree-faults rows f).0 h).0 in inl (omega arith)
      go (later _ (later _ (later _ (here h)))) = let n = ((limit-faults rows f).0 h).0 in inl (omega arith)
      go (later _ (later _ (later _ (later _ (later _ x30))))) = elim x30 [ ]
      go (later _ (later _ (later _ (later _ (here h))))) = inr ((block-faults rows f).0 h).0

  -- the usage stage, where the stages before find nothing
  by-usage : Passed rows → (o : Option Refusal) → usage_fault rows ≡ o → CountBeside rows o (pairs_compared rows)
  by-usage p none e = of-all-pairs (count-of-all rows p e)
  by-usage p (some (n, r)) e = let (low, high, _, _) = clash-par rows ((usage-faults rows p n r).0 e).0.1 in up-to-clash low high (count-of-compared rows p)

  beside : (o : Option Refusal) → first_fault rows_before_usage rows ≡ o → CountBeside rows (either o (usage_fault rows)) (if_passed o (pairs_compared rows))
  beside none e = by-usage (passed-before e) (usage_fault rows) refl
  beside (some f) e = refused-before (number-before f e)

  pub beside-check : CountBeside rows (check rows) (if_passed (first_fault rows_before_usage rows) (pairs_compared rows))
  beside-check = subst (λ (o : Option Refusal). CountBeside rows o (if_passed (first_fault rows_before_usage rows) (pairs_compared rows))) (sym (check-usage rows)) (beside (first_fault rows_before_usage rows) refl)

-- of bytes: their own refusal, or the check of their rows
module _ (table : List ℕ) where
  of-bytes : (o : Option Refusal) → bytes_fault table ≡ o → CountBeside (rows_of table) (either o (check (rows_of table))) (if_passed (either o (first_fault rows_before_usage (rows_of table))) (pairs_compared (rows_of table)))
  of-bytes none e = beside-check (rows_of table)
  of-bytes (some f) e = let n = (bytes-place table f e).1 in let low : f.0 < 7 = omega arith in refused-before (inl low)

  beside-bytes : CountBeside (rows_of table) (check_bytes table) (if_passed (either (bytes_fault table) (first_fault rows_before_usage (rows_of table))) (pairs_compared (rows_of table)))
  beside-bytes =
      subst (λ (o : Option Refusal). CountBeside (rows_of table) o (if_passed (either (bytes_fault table) (first_fault rows_before_usage (rows_of table))) (pairs_compared (rows_of table)))) (sym (check-bytes table))
      (of-bytes (bytes_fault table) refl)

pub counts-of-checks : CountsOfChecks
counts-of-checks = (
  λ rows. let e = counted-rows rows in (ap (λ (c : Checked). c.verdict) e, subst (λ (c : Checked). CountBeside rows (check rows) c.pairs) (sym e) (beside-check rows)),
  λ table. let e = counted-bytes table in (ap (λ (c : Checked). c.verdict) e, subst (λ (c : Checked). CountBeside (rows_of table) (check_bytes table) c.pairs) (sym e) (beside-bytes table)),
)

-- the first of two refusals, where there is none
neither : (a b : Option Refusal) → either a b ≡ none → (a ≡ none) × (b ≡ none)
neither none b e = (refl, e)
neither (some f) b e = absurd (some-ne-none f e)

pub count-of-accepted : CountOfAccepted
count-of-accepted rows m e counts =
    let (before, usage) = neither (first_fault rows_before_usage rows) (usage_fault rows) (sym (check-usage rows) ∙ e) in
    all-length rows (passed-before rows before) m counts usage
