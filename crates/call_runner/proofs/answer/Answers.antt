-- The buffer holds every printed text, and zeros after it. Assumes nothing.
use Prim.Native.Nat.{ℕ}
use lib.ListN.{replicate}
use Rattle.meaning.specs.Runner.{runner}
use Rattle.call_runner.proofs.Whole.{printed-inside, printed-whole}
use Rattle.call_runner.proofs.answer.Goals as goal

pub returns : goal.returns
returns c =
    let r = c.answer_printed_text-length in
    let bytes = runner c.args.input.now in record { printed = printed-whole bytes 98304 r.result _ r.ensures.written r.ensures.fits; inside = printed-inside bytes (replicate {A = ℕ} 98304 0) r.result _ r.ensures.written }
