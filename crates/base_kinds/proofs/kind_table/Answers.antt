-- antt computes each line, and what it means. Assumes nothing.
use mathlib.Core.Path.{refl}
use Rattle.meaning.specs.Basics.{all_below}
use Rattle.meaning.specs.Kinds.{shapes, shape_in, shape_of}
use Rattle.meaning.specs.Usage.{numbers_from}
use Rattle.base_kinds.specs.Table.{numbers_in, field_meant, meant_shape, mask_of, table_of_kinds}
use Rattle.base_kinds.proofs.Tables.{shapes_from, kinds_from, table-means}
use Rattle.base_kinds.proofs.kind_table.Goals as goal

pub returns : goal.returns
unfolding all_below numbers_from shapes shape_in shape_of mask_of table_of_kinds numbers_in field_meant meant_shape shapes_from kinds_from
returns c = record { numbers = refl; meaning = table-means _ refl refl }
