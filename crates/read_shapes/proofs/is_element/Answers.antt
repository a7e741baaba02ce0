-- The number stands for the kind. Assumes nothing.
use Rattle.read_shapes.specs.Numbers.{kind_at}
use Rattle.read_shapes.proofs.is_element.Goals as goal

pub returns : goal.returns
unfolding kind_at
returns c = c.recognise_part.ensures
