-- The word, the number, the place and a zero, from the buffer's beginning. Assumes nothing.
use mathlib.Core.Path.{◌∙◌}
use mathlib.Core.Option.{some}
use lib.IntN.{pos}
use Rattle.meaning.specs.Numerals.{printed}
use Rattle.meaning.specs.Printing.{refused_word, word_bytes, refused_line, line_bytes}
use Rattle.write_bytes.proofs.Writers.{put_lines-one, put_all-first}
use Rattle.write_lines.proofs.LineSteps.{one_line}
use Rattle.write_lines.proofs.printed_texts.refusal_line.Goals as goal

pub returns : goal.returns
unfolding word_bytes printed
returns c =
    let a = c.args in
    c.put_line.ensures
    ∙ one_line refused_word a.number a.place (some (pos 0)) c.decimal.ensures (0, a.out.now)
    ∙ put_lines-one (refused_line (a.number, a.place)) (0, a.out.now)
    ∙ put_all-first (line_bytes (refused_line (a.number, a.place))) a.out.now
