-- A refusal's number has 8 bits and its place 32. Assumes nothing.
use Rattle.call_runner.proofs.PrintedTextSize.{refusal-short}
use Rattle.call_runner.proofs.refusal_printed_text.Goals as goal

pub returns : goal.returns
returns c =
    record { written = c.refusal_line.ensures; fits = refusal-short c.args.number c.args.place c.ranges.number.fits c.ranges.place.fits }
