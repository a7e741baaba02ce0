-- The verdict on a table's bytes by the stages 2 to 6: that of the bytes, then that of the rows.
use mathlib.Core.Path.{◌≡◌, sym, ap}
use mathlib.Core.List.{List}
use mathlib.Core.Option.{none, some}
use Prim.Native.Nat.{ℕ}
use Rattle.meaning.specs.TableBytes.{bytes_fault, rows_of}
use Rattle.meaning.specs.Refusals.{first_fault}
use Rattle.meaning.specs.Answers.{verdict_of}
use Rattle.meaning.specs.declared.Verdict.TheVariants.{Rejected}
use Rattle.meaning.proofs.AnswerLaws.{or_nothing}
use Rattle.test_leaves.specs.Leaves.{form_stages, form_of_bytes}

module _ (bytes : List ℕ) where
  pub bytes-refused : (n p : ℕ) → bytes_fault bytes ≡ some (n, p) → Rejected n p ≡ verdict_of (form_of_bytes bytes)
  unfolding form_of_bytes first_fault
  bytes-refused n p e = rw e

  pub rows-judged : bytes_fault bytes ≡ none → verdict_of (first_fault form_stages (rows_of bytes)) ≡ verdict_of (form_of_bytes bytes)
  unfolding form_of_bytes first_fault
  rows-judged e = rw e (ap verdict_of (sym (or_nothing (first_fault form_stages (rows_of bytes)))))
