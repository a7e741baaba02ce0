-- All of the states, each a byte. Assumes nothing.
use mathlib.Core.Path.{◌∙◌}
use native.Mathlib.Omega.{arith}
use lib.ListN.{length}
use lib.Seq.{take_all}
use Rattle.write_lines.proofs.printed_texts.row_states.Goals as goal

pub returns : goal.returns
returns c = let states = c.args.states.now in record { same = c.part.ensures ∙ take_all (length states) states (omega arith); bytes = λ i. (c.shared_slice_known-1.given i).fits }
