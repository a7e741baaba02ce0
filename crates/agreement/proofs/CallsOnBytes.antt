-- The demands about calls, for a call on a table's bytes: it is the call on the rows read from them, or a refusal.
use mathlib.Core.Path.{◌≡◌, refl, sym, ap, subst, ◌∙◌}
use mathlib.Core.Bool.{Bool, true, false}
use mathlib.Core.Option.{Option, none, some}
use mathlib.Core.List.{List}
use Prim.Native.Nat.{ℕ}
use native.Mathlib.Omega.{arith}
use Rattle.meaning.specs.declared.Outcome.{Outcome}
use Rattle.meaning.specs.declared.Answer.TheVariants.{Refused, Ran}
use Rattle.meaning.specs.Refusals.{Refusal}
use Rattle.meaning.specs.TableBytes.{bytes_fault, rows_of}
use Rattle.meaning.specs.Buffers.{Buffers, too_short}
use Rattle.meaning.specs.Stages.{buffer_fault}
use Rattle.meaning.specs.Answers.{Reply, reply, reply_to_bytes}
use Rattle.meaning.proofs.AnswerLaws.{reply-stages, reply-to-bytes}
use Rattle.agreement.specs.CallClaims.{task_of_bytes, ShortRefused, RefusedUntouchedBytes, RunAnsweredBytes, RanUnrefused, OrderAnsweredBytes, RanAs, HandedCells, MissingAnsweredBytes}
use Rattle.agreement.proofs.Calls.{refused-untouched, bytes-as-rows, run-answered, order-answered, missing-answered}

-- a buffer that is too short is the first fault, on rows and on bytes
pub short-refused : ShortRefused
unfolding buffer_fault
short-refused = (λ t b e. rw (reply-stages t b, e), λ table sheet choices budget b e. rw (reply-to-bytes table sheet choices budget b, e))

no_run : (f : Refusal) (o : Outcome) (n k : ℕ) → Refused f.0 f.1 ≡ Ran o n k → ⊥
no_run f o n k e = let z : ◌≡◌ {A = ℕ} 0 1 = cc in omega arith

module _ (table sheet choices : List ℕ) (budget : ℕ) (b : Buffers) where
  abbrev answered : Reply
  answered = reply_to_bytes table sheet choices budget b

  abbrev on_rows : Reply
  on_rows = reply (task_of_bytes table sheet choices budget) b

  -- a call on bytes is one on rows, or a refusal that leaves the buffers
  data Bytes : Type 0 where
    read : bytes_fault table ≡ none → answered ≡ on_rows → Bytes
    turned-back : (f : Refusal) → answered ≡ record { answer = Refused f.0 f.1; buffers = b } → Bytes

  bytes : Bytes
  bytes = go (too_short b) refl (bytes_fault table) refl
    where
      go : (t : Bool) → too_short b ≡ t → (o : Option Refusal) → bytes_fault table ≡ o → Bytes
      go true e o g = turned-back (1, 0) (short-refused.1 table sheet choices budget b e)
      go false e none g = read g ((bytes-as-rows table sheet choices budget b).0 g)
      go false e (some f) g = turned-back f ((bytes-as-rows table sheet choices budget b).1 f e g)

  -- one that ran is one on rows
  pub ran-on-rows : (o : Outcome) (n k : ℕ) → answered.answer ≡ Ran o n k → (bytes_fault table ≡ none) × (answered ≡ on_rows) × (on_rows.answer ≡ Ran o n k)
  ran-on-rows o n k e = go bytes
    where
      go : Bytes → (bytes_fault table ≡ none) × (answered ≡ on_rows) × (on_rows.answer ≡ Ran o n k)
      go (read g w) = (g, w, ap (λ (r : Reply). r.answer) (sym w) ∙ e)
      go (turned-back f w) = absurd (no_run f o n k (ap (λ (r : Reply). r.answer) (sym w) ∙ e))

pub refused-untouched-bytes : RefusedUntouchedBytes
refused-untouched-bytes table sheet choices budget b number place e = go (bytes table sheet choices budget b)
  where
    go : Bytes table sheet choices budget b → (reply_to_bytes table sheet choices budget b).buffers ≡ b
    go (read g w) =
        ap (λ (r : Reply). r.buffers) w
        ∙ refused-untouched (task_of_bytes table sheet choices budget) b number place (ap (λ (r : Reply). r.answer) (sym w) ∙ e)
    go (turned-back f w) = ap (λ (r : Reply). r.buffers) w

pub ran-unrefused : RanUnrefused
ran-unrefused table sheet choices budget b o n k e = (ran-on-rows table sheet choices budget b o n k e).0

pub run-answered-bytes : RunAnsweredBytes
run-answered-bytes table sheet choices budget b o n k e =
    let (_, w, h) = ran-on-rows table sheet choices budget b o n k e in
    let t = task_of_bytes table sheet choices budget in
    subst (λ (r : Reply). RanAs t b r o n k) (sym w) (run-answered t b o n k h)

pub order-answered-bytes : OrderAnsweredBytes
order-answered-bytes table sheet whole accepted right l s o few b long =
    let (choices, small, (outcome, (total, listed, w))) = order-answered (rows_of table) sheet accepted right l s o few b long in
    (choices, small, (outcome, (total, listed, (bytes-as-rows table sheet choices _ b).0 whole ∙ w)))

pub missing-answered-bytes : MissingAnsweredBytes
missing-answered-bytes table sheet choices budget b o n k e =
    let (_, w, h) = ran-on-rows table sheet choices budget b o n k e in
    let t = task_of_bytes table sheet choices budget in
    subst (λ (r : Reply). HandedCells t b r o n k) (sym w) (missing-answered t b o n k h)
