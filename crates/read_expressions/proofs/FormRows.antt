-- The rows of an expression, by its first row and its operands.
use mathlib.Core.Path.{◌≡◌, refl, ap}
use mathlib.Core.Bool.{true, false}
use mathlib.Core.List.{List, ◌++◌, append-nil}
use Prim.Native.Nat.{ℕ, suc, ◌+◌}
use native.Mathlib.Omega.{arith}
use lib.IntN.{ℤ, pos}
use Rattle.base_top_down.specs.Forms.{form_size, written_field, rows_from}
use Rattle.grammar.specs.Grammar.{Syn, literal, bare, at, monadic, dyadic}
use Rattle.grammar.specs.TextRows.{name_row, expression_form}
use Rattle.read_expressions.specs.TokenRows.{name_rows, monadic_row, dyadic_row}

module _ (names : List (List ℕ)) where
  -- how many rows an expression has
  abbrev pub size_of : Syn → ℕ
  size_of e = form_size (expression_form names e)

  -- its rows, the first of them row n
  abbrev pub rows_of : ℕ → Syn → List ℤ
  rows_of n e = rows_from n (expression_form names e)

  -- it is a row
  written : (n : ℕ) (e : Syn) → written_field n (expression_form names e) ≡ pos n
  written n (literal z) = refl
  written n (bare b) = refl
  written n (at b e) = refl
  written n (monadic k e) = refl
  written n (dyadic k e f) = refl

  no_more : (n : ℕ) → suc n + 0 ≡ suc n
  no_more n = omega arith

  pub rows-bare : (n : ℕ) (b : List ℕ) → rows_of n (bare b) ≡ name_rows (pos (name_row names b)) n false
  unfolding rows_from form_size
  rows-bare n b = rw (no_more n) refl

  pub rows_at : (n : ℕ) (b : List ℕ) (e : Syn) → rows_of n (at b e) ≡ name_rows (pos (name_row names b)) n true ++ rows_of (suc n) e
  unfolding rows_from form_size
  rows_at n b e = rw (no_more n, written (suc n) e) (ap (λ (l : List ℤ). name_rows (pos (name_row names b)) n true ++ l) (append-nil (rows_of (suc n) e)))

  pub rows-monadic : (n k : ℕ) (e : Syn) → rows_of n (monadic k e) ≡ monadic_row k n ++ rows_of (suc n) e
  unfolding rows_from form_size
  rows-monadic n k e = rw (no_more n, written (suc n) e) (ap (λ (l : List ℤ). monadic_row k n ++ l) (append-nil (rows_of (suc n) e)))

  pub rows-dyadic : (n k : ℕ) (e f : Syn) → rows_of n (dyadic k e f) ≡ dyadic_row (pos k) n (suc n + size_of e) ++ (rows_of (suc n) e ++ rows_of (suc n + size_of e) f)
  unfolding rows_from form_size
  rows-dyadic n k e f = rw (no_more n, written (suc n) e, written (suc n + size_of e) f) refl
