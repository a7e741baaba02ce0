-- Request 14 about calls: what two calls on one table and sheet leave of the host's output channels are beginnings of one another, channel by channel.
use mathlib.Core.Path.{◌≡◌, refl, sym, ap, ◌∙◌}
use mathlib.Core.List.{List}
use Prim.Native.Nat.{ℕ, ◌<◌}
use native.Mathlib.Omega.{arith}
use lib.IntN.{ℤ}
use lib.ListN.{length, length-map}
use Rattle.meaning.specs.declared.Outcome.{Outcome}
use Rattle.meaning.specs.Declarations.{channels, capacity_at, host_channels}
use Rattle.meaning.specs.Values.{Message}
use Rattle.meaning.specs.Buffers.{Buffers}
use Rattle.meaning.specs.Decode.{count_in, listed_in}
use Rattle.meaning.specs.Sheet.{readings}
use Rattle.meaning.specs.Answers.{Task, Reply}
use Rattle.agreement.specs.Statements.{NoAlt}
use Rattle.agreement.specs.MissingClaims.{list_at}
use Rattle.agreement.specs.CallClaims.{RanAs}
use Rattle.agreement.specs.CommonClaims.{StripsBegin, CallsBegin, CallsBeginBytes}
use Rattle.agreement.proofs.HostOutputs.{output-count}
use Rattle.agreement.proofs.WrittenLists.{left-written}
use Rattle.agreement.proofs.Calls.{run-answered}
use Rattle.agreement.proofs.CallsOnBytes.{run-answered-bytes}
use Rattle.agreement.proofs.CommonState.{lists-begin}

module _ {t : Task} {b : Buffers} {r : Reply} {o : Outcome} {n total : ℕ} (x : RanAs t b r o n total) (channel : ℕ) (h : channel < host_channels 2 t.rows) where
  written : (listed_in t.rows channel r.buffers ≡ list_at x.end channel) × (count_in channel r.buffers ≡ length (list_at x.end channel))
  written =
      let few : channel < length (channels t.rows 2) = omega (arith, output-count t.rows, length-map (channels t.rows 2) (capacity_at t.rows)) in
      let (e, f) = left-written t.rows x.table-accepted (readings t.rows t.sheet) x.labels x.end x.order b channel few in
      (ap (listed_in t.rows channel) x.left ∙ e, ap (count_in channel) x.left ∙ f)

  -- as many as counted
  counted : length (listed_in t.rows channel r.buffers) ≡ count_in channel r.buffers
  counted = ap (λ (l : List Message). length l) written.0 ∙ sym written.1

-- two tasks that differ in choices and budget alone
both-ran : (rows : List ℤ) (sheet : List ℕ) → NoAlt rows → {choices others : List ℕ} {budget bound : ℕ} {b c : Buffers} {r q : Reply} {o p : Outcome} {n m total left : ℕ}
    → RanAs (record { rows = rows; sheet = sheet; choices = choices; budget = budget }) b r o n total
    → RanAs (record { rows = rows; sheet = sheet; choices = others; budget = bound }) c q p m left → StripsBegin rows r.buffers q.buffers
both-ran rows sheet w x y channel h = (
  counted x channel h,
  counted y channel h,
  rw ((written x channel h).0, (written y channel h).0)
      (lists-begin rows (readings rows sheet) (x.table-accepted, (sheet, (x.sheet-accepted, refl))) w x.labels x.end x.order y.labels y.end y.order channel),
)

pub calls-begin : CallsBegin
calls-begin rows sheet w choices others budget bound b c o p n m total left e f =
    both-ran rows sheet w (run-answered (record { rows = rows; sheet = sheet; choices = choices; budget = budget }) b o n total e)
    (run-answered (record { rows = rows; sheet = sheet; choices = others; budget = bound }) c p m left f)

pub calls-begin-bytes : CallsBeginBytes
calls-begin-bytes table sheet w choices others budget bound b c o p n m total left e f =
    both-ran _ sheet w (run-answered-bytes table sheet choices budget b o n total e) (run-answered-bytes table sheet others bound c p m left f)
