-- The note of each row's ALT, with one row more looked at.
use mathlib.Core.Path.{◌≡◌, sym, ap, ◌∙◌}
use mathlib.Core.List.{List}
use Prim.Native.Nat.{ℕ, ◌+◌, ◌<◌}
use lib.IntN.{ℤ}
use lib.ListN.{get_or}
use Rattle.meaning.specs.Basics.{among, lowest}
use Rattle.meaning.specs.Rows.{row_count, kind_at}
use Rattle.base_layout.specs.Operands.{operand_at}
use Rattle.run_parents.specs.Marks.{row_note, first_note}
use Rattle.run_parents.proofs.Below.{lowest-next}
use Rattle.run_parents.proofs.OptionLinks.{options_from, is_option_of, alt-options, no-options}
use Rattle.run_parents.proofs.Noting.{noted-none}

module _ (rows : List ℤ) (r n : ℕ) (h : r < row_count rows) (owners : List ℕ) (k : (j : ℕ) → j < n → get_or owners j 0 ≡ row_note (lowest (is_option_of rows j) r)) where
  -- an ALT
  pub with-alt : (b : ℕ) (next : List ℕ) → kind_at rows r ≡ 34 → b ≡ operand_at rows r 1 → ((j : ℕ) → j < n → get_or next j 0 ≡ first_note (among j (options_from rows b)) (r + 1) (get_or owners j 0))
      → (j : ℕ) → j < n → get_or next j 0 ≡ row_note (lowest (is_option_of rows j) (r + 1))
  with-alt b next e q f j l =
      let o = alt-options rows r h e ∙ ap (options_from rows) (sym q) in
      f j l ∙ ap (first_note (among j (options_from rows b)) (r + 1)) (k j l) ∙ ap (λ (m : List ℕ). first_note (among j m) (r + 1) (row_note (lowest (is_option_of rows j) r))) (sym o) ∙ sym (lowest-next (is_option_of rows j) r)

  -- any other row
  pub with-other : (kind_at rows r ≡ 34 → ⊥) → (j : ℕ) → j < n → get_or owners j 0 ≡ row_note (lowest (is_option_of rows j) (r + 1))
  with-other e j l = k j l ∙ sym (lowest-next (is_option_of rows j) r ∙ noted-none j (r + 1) (row_note (lowest (is_option_of rows j) r)) _ (no-options rows r h e))
