-- What stands at a row, by its kind and fields, from what stands at higher rows.
use Rattle.meaning.specs.Rows.{row_count}
use Rattle.meaning.specs.Nodes.{node_at}
use Rattle.meaning.specs.Tree.{no_content, content_of, content_at}
use Rattle.meaning.specs.ContentClaims.{ContentUnfolds}
use Rattle.meaning.proofs.HigherRows.{at_row-at, at_row-past}

pub part-unfolds : ContentUnfolds
unfolding content_at
part-unfolds rows r = (
  at_row-at no_content (λ r at. content_of rows r at (node_at rows r)) (row_count rows) r,
  at_row-past no_content (λ r at. content_of rows r at (node_at rows r)) (row_count rows) r,
)
