-- What is claimed of the tree of a table: what stands at a row follows from what stands at rows of higher number only.
use Rattle.std.specs.Prelude.{◌≡◌, List, ℕ, ◌≤◌, ◌<◌, ℤ, ltb}
use Rattle.meaning.specs.Basics.{if_else}
use Rattle.meaning.specs.Rows.{row_count}
use Rattle.meaning.specs.Nodes.{node_at}
use Rattle.meaning.specs.Tree.{Content, no_content, content_of, content_at}

-- what stands at row b as row r may refer to it: nothing, if b is no higher row
abbrev pub higher_content : List ℤ → ℕ → ℕ → Content
higher_content rows r b = if_else (ltb r b) (content_at rows b) no_content

-- what stands at a row of the table, by its kind and fields; past the table nothing stands
abbrev pub ContentUnfolds : Type 0
ContentUnfolds = (rows : List ℤ) (r : ℕ)
    → (r < row_count rows → content_at rows r ≡ content_of rows r (higher_content rows r) (node_at rows r))
    × (row_count rows ≤ r → content_at rows r ≡ no_content)
