-- The rows that a prepared row refers to: higher rows, up to 1,024, with what stands there.
use mathlib.Core.Path.{◌≡◌, refl, sym, ◌∙◌}
use mathlib.Core.Bool.{Bool, true, false}
use mathlib.Core.List.{List}
use Prim.Native.Nat.{ℕ, ◌<◌, ◌≤◌}
use native.Mathlib.Omega.{arith}
use lib.IntN.{ℤ}
use lib.Dec.{ltb}
use borrow.Author.Tests.{ltb-true, ltb-false, lt-ltb, le-ltb}
use Rattle.meaning.specs.Basics.{if_else}
use Rattle.meaning.specs.Rows.{row_count, natural_at}
use Rattle.meaning.specs.Tree.{content_at}
use Rattle.meaning.specs.ContentClaims.{higher_content}
use Rattle.base_layout.specs.Operands.{operand_at}
use Rattle.base_layout.proofs.Parts.{part-past, operand-part, operand-higher}
use Rattle.run_code.specs.Prepared.{present_row, referred_row}

module _ (rows : List ℤ) where
  -- a row in the table
  pub present-here : (n : ℕ) → n < row_count rows → present_row rows n ≡ n
  unfolding present_row
  present-here n h = rw (lt-ltb _ _ h)

  pub present-past : (n : ℕ) → row_count rows ≤ n → present_row rows n ≡ 1024
  unfolding present_row
  present-past n h = rw (le-ltb _ _ h)

  -- a field that refers to a higher row
  pub referred-is : (r j t : ℕ) → natural_at rows r j ≡ t → r < t → t < row_count rows → referred_row rows r j ≡ t
  unfolding operand_at
  referred-is r j t e l h = rw (e, lt-ltb _ _ l) (present-here t h)

  module _ (few : row_count rows ≤ 1024) where
    pub present-inside : (n : ℕ) → present_row rows n ≤ 1024
    unfolding present_row
    present-inside n = go (ltb n (row_count rows)) refl
      where
        go : (t : Bool) → ltb n (row_count rows) ≡ t → if_else t n 1024 ≤ 1024
        go true e = let l = ltb-true n (row_count rows) e in omega arith
        go false e = omega arith

    pub present-part : (n : ℕ) → content_at rows (present_row rows n) ≡ content_at rows n
    unfolding present_row
    present-part n = go (ltb n (row_count rows)) refl
      where
        go : (t : Bool) → ltb n (row_count rows) ≡ t → content_at rows (if_else t n 1024) ≡ content_at rows n
        go true e = refl
        go false e = part-past rows 1024 few ∙ sym (part-past rows n (ltb-false _ _ e))

    pub present-above : (r n : ℕ) → r < row_count rows → r < n → r < present_row rows n
    unfolding present_row
    present-above r n l h = go (ltb n (row_count rows)) refl
      where
        go : (t : Bool) → ltb n (row_count rows) ≡ t → r < if_else t n 1024
        go true e = h
        go false e = omega arith

    pub referred-higher : (r j : ℕ) → r < row_count rows → (r < referred_row rows r j) × (referred_row rows r j ≤ 1024)
    referred-higher r j h = (present-above r (operand_at rows r j) h (operand-higher rows r j h), present-inside (operand_at rows r j))

    -- what a row sees at a field is what stands at the row that it refers to
    pub referred-part : (r j : ℕ) → higher_content rows r (natural_at rows r j) ≡ content_at rows (referred_row rows r j)
    referred-part r j = operand-part rows r j ∙ sym (present-part (operand_at rows r j))
