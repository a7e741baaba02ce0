-- What stands at a row, by the number of its kind, from what stands at its operands. An operand is a higher row.
use mathlib.Core.Path.{◌≡◌, refl, sym, ap, ◌∙◌}
use mathlib.Core.Bool.{Bool, true, false}
use mathlib.Core.List.{List}
use Prim.Native.Nat.{ℕ, ◌<◌, ◌≤◌}
use native.Mathlib.Omega.{arith}
use lib.IntN.{ℤ}
use lib.ListN.{length}
use lib.Dec.{ltb}
use Rattle.meaning.specs.Basics.{if_else}
use borrow.Author.Tests.{ltb-true}
use Rattle.meaning.specs.Rows.{row_count, field_at, natural_at, kind_at}
use Rattle.meaning.specs.Tree.{no_content, content_of, content_at}
pub use Rattle.meaning.specs.ContentClaims.{higher_content}
use Rattle.meaning.proofs.PartLaws.{part-unfolds}
use Rattle.base_layout.specs.Operands.{operand_at}
use Rattle.base_layout.proofs.RowNodes.{node_of, node-of-kind}

pub part-past : (rows : List ℤ) (r : ℕ) → row_count rows ≤ r → content_at rows r ≡ no_content
part-past rows r = (part-unfolds rows r).1

-- what stands at a row, by the number of its kind
pub part-of-kind : (rows : List ℤ) (r k : ℕ) → r < row_count rows → kind_at rows r ≡ k
    → content_at rows r ≡ content_of rows r (higher_content rows r) (node_of k (field_at rows r 1) (natural_at rows r 1) (natural_at rows r 2) (natural_at rows r 3))
part-of-kind rows r k h e = (part-unfolds rows r).0 h ∙ ap (content_of rows r (higher_content rows r)) (node-of-kind rows r k e)

-- an operand is a higher row
pub operand-higher : (rows : List ℤ) (r j : ℕ) → r < row_count rows → r < operand_at rows r j
unfolding operand_at
operand-higher rows r j h = go (ltb r (natural_at rows r j)) refl
  where
    go : (t : Bool) → ltb r (natural_at rows r j) ≡ t → r < if_else t (natural_at rows r j) (length rows)
    go true e = ltb-true _ _ e
    go false e = omega arith

-- what a row sees at a field is what stands at the operand
pub operand-part : (rows : List ℤ) (r j : ℕ) → higher_content rows r (natural_at rows r j) ≡ content_at rows (operand_at rows r j)
unfolding operand_at
operand-part rows r j = go (ltb r (natural_at rows r j))
  where
    go : (t : Bool) → if_else t (content_at rows (natural_at rows r j)) no_content ≡ content_at rows (if_else t (natural_at rows r j) (length rows))
    go true = refl
    go false = sym (part-past rows (length rows) (omega arith))
