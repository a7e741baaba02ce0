-- A row has a line only if it is stopped. Assumes nothing.
use mathlib.Core.Path.{ap, sym, ◌∙◌}
use mathlib.Core.Option.{some}
use mathlib.Core.List.{List}
use Prim.Native.Nat.{◌-◌}
use lib.IntN.{pos}
use Rattle.meaning.specs.Numerals.{printed}
use Rattle.meaning.specs.Printing.{Line, stop_word, word_bytes}
use Rattle.write_bytes.specs.Writing.{put_lines}
use Rattle.write_bytes.proofs.Writers.{put_lines-none}
use Rattle.write_lines.proofs.LineSteps.{one_line, stop-none, stop-one}
use Rattle.write_lines.proofs.lines.put_stop.Goals as goal

pub returns-then-state-lt10 : goal.returns-then-state-lt10
returns-then-state-lt10 c = let a = c.args in sym (ap (λ (l : List Line). put_lines l (a.at, a.out.now)) (stop-none a.row a.state c.if-state-lt10.true) ∙ put_lines-none (a.at, a.out.now))

pub returns : goal.returns
unfolding word_bytes printed
returns c = let a = c.args in
    c.put_line.ensures
    ∙ one_line stop_word a.row 0 (some (pos (a.state - 10))) c.decimal.ensures (a.at, a.out.now)
    ∙ ap (λ (l : List Line). put_lines l (a.at, a.out.now)) (sym (stop-one a.row a.state c.if-state-lt10.false))
