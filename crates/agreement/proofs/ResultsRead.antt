-- A call that ran has left the state that its order comes to, and that state can be read back: on rows and on a table's bytes.
use mathlib.Core.Path.{◌≡◌, sym, ap, subst, ◌∙◌}
use Prim.Native.Nat.{ℕ}
use Rattle.meaning.specs.declared.Outcome.{Outcome}
use Rattle.meaning.specs.Buffers.{Buffers}
use Rattle.meaning.specs.Decode.{decode}
use Rattle.meaning.specs.Sheet.{readings}
use Rattle.meaning.specs.Answers.{Task, Reply}
use Rattle.agreement.specs.Statements.{Reached}
use Rattle.agreement.specs.CallClaims.{task_of_bytes, RanAs}
use Rattle.agreement.specs.BufferClaims.{BuffersHold, ResultsReadBack}
use Rattle.agreement.proofs.Calls.{run-answered}
use Rattle.agreement.proofs.CallsOnBytes.{run-answered-bytes}
use Rattle.agreement.proofs.BuffersHold.{too-short-exactly}
use Rattle.agreement.proofs.BuffersExact.{buffers-exact}
use Rattle.agreement.proofs.DecodedStates.{decoded-state}

-- a run of an accepted table
of-run : (t : Task) (b : Buffers) (r : Reply) (o : Outcome) (n k : ℕ) (run : RanAs t b r o n k)
    → BuffersHold t.rows run.end b r.buffers × (decode t.rows r.buffers ≡ run.end)
of-run t b r o n k run =
    let sheet = readings t.rows t.sheet in
    let ok = run.table-accepted in
    let reached : Reached t.rows sheet run.end = (run.labels, run.order) in (
      subst (BuffersHold t.rows run.end b) (sym run.left) (buffers-exact t.rows sheet run.end ok reached b ((too-short-exactly b).0 run.buffers-long)).0,
      ap (decode t.rows) run.left ∙ decoded-state t.rows sheet run.end ok reached b,
    )

pub results-read-back : ResultsReadBack
results-read-back = (
  λ t b o n k e. let run = run-answered t b o n k e in let (held, back) = of-run t b _ o n k run in (run, held, back),
  λ table sheet choices budget b o n k e. let run = run-answered-bytes table sheet choices budget b o n k e in let (held, back) = of-run (task_of_bytes table sheet choices budget) b _ o n k run in (run, held, back),
)
