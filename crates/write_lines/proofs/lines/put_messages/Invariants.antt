use mathlib.Core.Path.{◌≡◌}
use lib.ListN.{length, drop}
use Rattle.meaning.specs.Buffers.{decoded}
use Rattle.write_bytes.specs.Writing.{put_all}
use Rattle.write_lines.specs.Decoding.{message_bytes}
use Rattle.write_lines.proofs.lines.put_messages.Given as goal

abbrev pub invariant-loop-i : goal.invariant-loop-i
invariant-loop-i l = (length l.out ≡ length l.initial.out) × (put_all (message_bytes l.word l.row l.i (drop l.i (decoded l.numbers l.marks))) (l.place, l.out) ≡ put_all (message_bytes l.word l.row 0 (decoded l.numbers l.marks)) (l.at, l.initial.out))
