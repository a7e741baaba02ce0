-- The word, three fields and a line feed, one after another. Assumes nothing.
use Rattle.write_bytes.specs.Writing.{shown}
use Rattle.write_bytes.proofs.Writers.{line_made}
use Rattle.write_bytes.proofs.put_line.Goals as goal

pub returns : goal.returns
returns c =
    let a = c.args in
    line_made (a.at, a.out.now) a.word.now a.name a.position (shown a.value)
    c.put_bytes-place.ensures
    c.decimal.ensures
    c.put_field-place.ensures
    c.decimal-2.ensures
    c.put_field-place-2.ensures
    c.put_field-place-3.ensures
    c.put_byte.ensures
