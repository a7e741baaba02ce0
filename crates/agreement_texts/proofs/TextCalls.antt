-- The demands about calls on texts: such a call is the call on the rows that the text is read to, or a refusal.
use mathlib.Core.Path.{◌≡◌, refl, sym, ap, subst, ◌∙◌}
use mathlib.Core.Bool.{Bool, true, false}
use mathlib.Core.Logic.{◌⊎◌, inl, inr}
use mathlib.Core.Option.{Option, none, some, none-ne-some}
use mathlib.Core.List.{List}
use Prim.Native.Nat.{ℕ}
use native.Mathlib.Omega.{arith}
use Rattle.meaning.specs.declared.Outcome.{Outcome}
use Rattle.meaning.specs.declared.Answer.TheVariants.{Refused, Ran}
use Rattle.meaning.specs.Refusals.{Refusal, either}
use Rattle.meaning.specs.Buffers.{Buffers, too_short}
use Rattle.meaning.specs.Stages.{buffer_fault}
use Rattle.meaning.specs.Decode.{decode}
use Rattle.meaning.specs.Answers.{check, Reply, reply}
use Rattle.agreement.specs.CallClaims.{RanAs, HandedCells, HandedLists}
use Rattle.agreement.specs.BufferClaims.{BuffersHold}
use Rattle.agreement.proofs.Calls.{refused-untouched, run-answered, order-answered, missing-answered}
use Rattle.agreement.proofs.CallsOnBytes.{short-refused}
use Rattle.agreement.proofs.ResultsRead.{results-read-back}
use Rattle.agreement.proofs.ListsAnswered.{lists-answered}
use Rattle.agreement.proofs.Answered.{demand3}
use Rattle.agreement.proofs.CallsBegin.{calls-begin}
use Rattle.agreement.proofs.CallsMeet.{meets-alike, calls-meet}
use Rattle.agreement.specs.CommonClaims.{StripsBegin}
use Rattle.grammar.specs.TextRows.{text_rows}
use Rattle.grammar.specs.TextRead.{text_fault}
use Rattle.grammar.specs.TextCalls.{check_text, task_of_text, reply_to_text}
use Rattle.agreement_texts.specs.TextCallClaims.{TextAsRows, RefusedUntouchedText, ShortRefusedText, RanUnrefusedText, RunAnsweredText, OrderAnsweredText, ReadBackText, MissingAnsweredText, ListsAnsweredText, Demand3Text, CallsBeginText, CallsMeetText}

-- what stage 1 finds
short-fault : (b : Buffers) → too_short b ≡ true → buffer_fault b ≡ some (1, 0)
unfolding buffer_fault
short-fault b e = rw e

long-fault : (b : Buffers) → too_short b ≡ false → buffer_fault b ≡ none
unfolding buffer_fault
long-fault b e = rw e

pub short-refused-text : ShortRefusedText
unfolding reply_to_text
short-refused-text text sheet choices budget b e = rw (short-fault b e)

no_run : (f : Refusal) (o : Outcome) (n k : ℕ) → Refused f.0 f.1 ≡ Ran o n k → ⊥
no_run f o n k e = let z : ◌≡◌ {A = ℕ} 0 1 = cc in omega arith

module _ (text sheet choices : List ℕ) (budget : ℕ) (b : Buffers) where
  abbrev answered : Reply
  answered = reply_to_text text sheet choices budget b

  abbrev on_rows : Reply
  on_rows = reply (task_of_text text sheet choices budget) b

  long-read : too_short b ≡ false → text_fault text ≡ none → answered ≡ on_rows
  unfolding reply_to_text
  long-read e h = rw (long-fault b e, h)

  long-refused : (f : Refusal) → too_short b ≡ false → text_fault text ≡ some f → answered ≡ record { answer = Refused f.0 f.1; buffers = b }
  unfolding reply_to_text
  long-refused f e h = rw (long-fault b e, h)

  read_whole : text_fault text ≡ none → answered ≡ on_rows
  read_whole h = go (too_short b) refl
    where
      go : (t : Bool) → too_short b ≡ t → answered ≡ on_rows
      go true e = short-refused-text text sheet choices budget b e ∙ sym (short-refused.0 (task_of_text text sheet choices budget) b e)
      go false e = long-read e h

  -- a call on a text is one on rows, or a refusal that leaves the buffers
  pub data Called : Type 0 where
    read : text_fault text ≡ none → answered ≡ on_rows → Called
    turned-back : (f : Refusal) → (f ≡ (1, 0)) ⊎ (text_fault text ≡ some f) → answered ≡ record { answer = Refused f.0 f.1; buffers = b } → Called

  pub called : Called
  called = go (too_short b) refl (text_fault text) refl
    where
      go : (t : Bool) → too_short b ≡ t → (o : Option Refusal) → text_fault text ≡ o → Called
      go true e o g = turned-back (1, 0) (inl refl) (short-refused-text text sheet choices budget b e)
      go false e none g = read g (read_whole g)
      go false e (some f) g = turned-back f (inr g) (long-refused f e g)

  -- one that ran is one on rows
  ran-on-rows : (o : Outcome) (n k : ℕ) → answered.answer ≡ Ran o n k → (text_fault text ≡ none) × (answered ≡ on_rows) × (on_rows.answer ≡ Ran o n k)
  ran-on-rows o n k e = go called
    where
      go : Called → (text_fault text ≡ none) × (answered ≡ on_rows) × (on_rows.answer ≡ Ran o n k)
      go (read g w) = (g, w, ap (λ (r : Reply). r.answer) (sym w) ∙ e)
      go (turned-back f g w) = absurd (no_run f o n k (ap (λ (r : Reply). r.answer) (sym w) ∙ e))

pub text-as-rows : TextAsRows
text-as-rows text sheet choices budget b = (read_whole text sheet choices budget b, long-refused text sheet choices budget b)

pub refused-untouched-text : RefusedUntouchedText
refused-untouched-text text sheet choices budget b number place e = go (called text sheet choices budget b)
  where
    go : Called text sheet choices budget b → (reply_to_text text sheet choices budget b).buffers ≡ b
    go (read g w) = ap (λ (r : Reply). r.buffers) w ∙ refused-untouched (task_of_text text sheet choices budget) b number place (ap (λ (r : Reply). r.answer) (sym w) ∙ e)
    go (turned-back f g w) = ap (λ (r : Reply). r.buffers) w

pub ran-unrefused-text : RanUnrefusedText
ran-unrefused-text text sheet choices budget b o n k e = (ran-on-rows text sheet choices budget b o n k e).0

-- what holds of a call on rows that ran holds of the call on the text
module _ (text sheet choices : List ℕ) (budget : ℕ) (b : Buffers) (o : Outcome) (n k : ℕ) (P : Reply → Type 0) where
  as-on-rows : ((on_rows text sheet choices budget b).answer ≡ Ran o n k → P (on_rows text sheet choices budget b)) → (answered text sheet choices budget b).answer ≡ Ran o n k → P (answered text sheet choices budget b)
  as-on-rows p e = let (_, w, h) = ran-on-rows text sheet choices budget b o n k e in subst P (sym w) (p h)

pub run-answered-text : RunAnsweredText
run-answered-text text sheet choices budget b o n k =
    let t = task_of_text text sheet choices budget in
    as-on-rows text sheet choices budget b o n k (λ r. RanAs t b r o n k) (run-answered t b o n k)

pub missing-answered-text : MissingAnsweredText
missing-answered-text text sheet choices budget b o n k =
    let t = task_of_text text sheet choices budget in
    as-on-rows text sheet choices budget b o n k (λ r. HandedCells t b r o n k) (missing-answered t b o n k)

pub lists-answered-text : ListsAnsweredText
lists-answered-text text sheet choices budget b o n k =
    let t = task_of_text text sheet choices budget in
    as-on-rows text sheet choices budget b o n k (λ r. HandedLists t b r o n k) (lists-answered t b o n k)

pub read-back-text : ReadBackText
read-back-text text sheet choices budget b o n k =
    let t = task_of_text text sheet choices budget in
    as-on-rows text sheet choices budget b o n k (λ r. (run : RanAs t b r o n k) × BuffersHold t.rows run.end b r.buffers × (decode t.rows r.buffers ≡ run.end)) (results-read-back.0 t b o n k)

-- of an accepted text, the text and its rows pass
passed : (o p : Option Refusal) → either o p ≡ none → (o ≡ none) × (p ≡ none)
passed none p e = (refl, e)
passed (some f) p e = absurd (none-ne-some f (sym e))

accepted-text : (text : List ℕ) → check_text text ≡ none → (text_fault text ≡ none) × (check (text_rows text) ≡ none)
unfolding check_text
accepted-text text e = passed (text_fault text) (check (text_rows text)) e

pub order-answered-text : OrderAnsweredText
order-answered-text text sheet accepted right l s o few b long =
    let (whole, fine) = accepted-text text accepted in
    let (choices, small, (outcome, (total, listed, w))) = order-answered (text_rows text) sheet fine right l s o few b long in
    (choices, small, (outcome, (total, listed, read_whole text sheet choices _ b whole ∙ w)))

pub demand3-text : Demand3Text
demand3-text text sheet accepted right w l s o r =
    let (whole, fine) = accepted-text text accepted in
    let (one, calls) = demand3 (text_rows text) sheet fine right w l s o r in
    let same : (choices : List ℕ) (budget : ℕ) (b : Buffers) → answered text sheet choices budget b ≡ on_rows text sheet choices budget b = λ choices budget b. read_whole text sheet choices budget b whole in (
      one,
      λ choices budget b e m. let (enough, less) = calls choices budget b e m in (
        λ k. same choices budget b ∙ enough k,
        λ k. let (total, some-ready, z) = less k in (total, some-ready, ap (λ (r : Reply). r.answer) (same choices budget b) ∙ z),
      ),
    )

pub calls-begin-text : CallsBeginText
calls-begin-text text sheet w choices others budget bound b c o p n m total left e f =
    let (_, u, h) = ran-on-rows text sheet choices budget b o n total e in
    let (_, v, k) = ran-on-rows text sheet others bound c p m left f in
    let begun = calls-begin (text_rows text) sheet w choices others budget bound b c o p n m total left h k in
    subst (λ (r : Reply). StripsBegin (text_rows text) r.buffers (answered text sheet others bound c).buffers) (sym u)
    (subst (λ (r : Reply). StripsBegin (text_rows text) (on_rows text sheet choices budget b).buffers r.buffers) (sym v) begun)

pub calls-meet-text : CallsMeetText
calls-meet-text text sheet w choices others budget bound b c o p n m total left e =
    let whole = ran-unrefused-text text sheet choices budget b o n total e in
    meets-alike (on_rows text sheet) (answered text sheet) (λ choices budget b. read_whole text sheet choices budget b whole) (calls-meet (text_rows text) sheet w) choices others budget bound b c o p n m total left e
