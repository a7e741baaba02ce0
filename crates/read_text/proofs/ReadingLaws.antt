-- What reading comes to, by the first of the stages 1, 12, 13 and 3 that finds a fault.
use mathlib.Core.Path.{◌≡◌}
use mathlib.Core.List.{List}
use mathlib.Core.Option.{none, some}
use Prim.Native.Nat.{ℕ, ◌≤◌, ◌<◌}
use borrow.Author.Tests.{lt-ltb, le-ltb}
use lib.IntN.{ℤ}
use lib.ListN.{length}
use Rattle.meaning.specs.Rows.{row_count}
use Rattle.meaning.specs.Refusals.{first_fault}
use Rattle.grammar.specs.TextBytes.{grammar_fault}
use Rattle.grammar.specs.Names.{names_fault}
use Rattle.grammar.specs.TextRows.{text_lines, text_rows}
use Rattle.grammar.specs.TextRead.{text_fault}
use Rattle.std.specs.Prelude.{Result, Ok}
use Rattle.read_text.specs.declared.Refused.{Refused}
use Rattle.read_text.specs.Reading.{rows_in, refused, text_read}

pub too_short : (text : List ℕ) (old : List ℤ) → length old < 4096 → (refused 1 0, old) ≡ text_read text old
unfolding text_read
too_short text old h = rw (lt-ltb (length old) 4096 h)

too_long : (text : List ℕ) → 32768 < length text → grammar_fault text ≡ some 0
unfolding grammar_fault
too_long text h = rw (lt-ltb 32768 (length text) h)

module _ (text : List ℕ) (old : List ℤ) (long : 4096 ≤ length old) where
  pub not-of-grammar : (n : ℕ) → grammar_fault text ≡ some n → (refused 12 n, old) ≡ text_read text old
  unfolding text_read text_fault first_fault
  not-of-grammar n e = rw (le-ltb (length old) 4096 long, e)

  pub overlong-refused : 32768 < length text → (refused 12 0, old) ≡ text_read text old
  overlong-refused h = not-of-grammar 0 (too_long text h)

  module _ (fine : grammar_fault text ≡ none) where
    pub names-wrong : (n : ℕ) → names_fault (text_lines text) ≡ some n → (refused 13 n, old) ≡ text_read text old
    unfolding text_read text_fault first_fault
    names-wrong n e = rw (le-ltb (length old) 4096 long, fine, e)

    module _ (named : names_fault (text_lines text) ≡ none) where
      pub too_many : 1024 < row_count (text_rows text) → (refused 3 1024, old) ≡ text_read text old
      unfolding text_read text_fault first_fault
      too_many h = rw (le-ltb (length old) 4096 long, fine, named, lt-ltb 1024 (row_count (text_rows text)) h)

      pub is_read : row_count (text_rows text) ≤ 1024 → ◌≡◌ {A = Result ℕ Refused × List ℤ} (Ok (row_count (text_rows text)), rows_in (text_rows text) old) (text_read text old)
      unfolding text_read text_fault first_fault
      is_read h = rw (le-ltb (length old) 4096 long, fine, named, le-ltb 1024 (row_count (text_rows text)) h)
