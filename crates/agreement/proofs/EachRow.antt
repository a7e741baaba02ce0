-- What holds of the parts of no row, and goes on from the rows behind a row to that row with them, holds of the parts of all rows.
use mathlib.Core.Path.{◌≡◌, ap, ◌∙◌, subst, sym}
use mathlib.Core.List.{List, [], ◌∷◌}
use Prim.Native.Nat.{ℕ, suc, ◌+◌, ◌<◌}
use native.Mathlib.Omega.{arith}
use lib.IntN.{ℤ}
use lib.ListN.{length, get_or}
use Rattle.meaning.specs.Rows.{row_count}
use Rattle.meaning.specs.Nodes.{node_at}
use Rattle.meaning.specs.Tree.{Content, no_content, content_of, content_at, contents}
use Rattle.meaning.specs.HigherRows.{at_row}
use Rattle.meaning.proofs.HigherRows.{last_rows-length}

module _ (rows : List ℤ) where
  parts-length : length (contents rows) + 0 ≡ row_count rows
  unfolding contents
  parts-length = omega (arith, last_rows-length no_content (λ r at. content_of rows r at (node_at rows r)) (row_count rows) (row_count rows))

  parts_at : (k : ℕ) → get_or (contents rows) k no_content ≡ content_at rows (k + 0)
  unfolding contents content_at at_row
  parts_at k = ap (content_at rows) (omega arith)

  module _ (Holds : ℕ → List Content → Type 0) (at-end : Holds (row_count rows) [])
      (goes-up : (r : ℕ) (l : List Content) → r < row_count rows → Holds (suc r) l → Holds r (content_at rows r ∷ l)) where
    from_row : (l : List Content) (r : ℕ) → length l + r ≡ row_count rows → ((k : ℕ) → k < length l → get_or l k no_content ≡ content_at rows (k + r)) → Holds r l
    from_row [] r e f = let w : r ≡ row_count rows = omega arith in subst (λ (q : ℕ). Holds q []) (sym w) at-end
    from_row (x ∷ l) r e f = subst (λ (y : Content). Holds r (y ∷ l)) (sym here) (goes-up r l (omega arith) (from_row l (suc r) (omega arith) behind))
      where
        here : x ≡ content_at rows r
        here = f 0 (omega arith) ∙ ap (content_at rows) (omega arith)

        behind : (k : ℕ) → k < length l → get_or l k no_content ≡ content_at rows (k + suc r)
        behind k i = f (suc k) (omega arith) ∙ ap (content_at rows) (omega arith)

    pub each_row : Holds 0 (contents rows)
    each_row = from_row (contents rows) 0 parts-length (λ k l. parts_at k)
