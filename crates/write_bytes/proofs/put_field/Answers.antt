-- A comma, then the bytes of the text. Assumes nothing.
use mathlib.Core.Path.{ap₂, ◌∙◌}
use Rattle.write_bytes.specs.Writing.{put_all}
use Rattle.write_bytes.proofs.put_field.Goals as goal

pub returns : goal.returns
unfolding put_all
returns c =
    c.put_bytes.ensures
    ∙ ap₂ put_all c.part.ensures c.put_byte-place.ensures
