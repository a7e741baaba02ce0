-- A number means one answer: those that can be given differ in their numbers.
use mathlib.Core.Path.{◌≡◌, refl, sym, ap, ap₂, subst}
use mathlib.Core.Logic.{◌⊎◌, inl, inr}
use mathlib.Core.Bool.{Bool, true, false}
use mathlib.Core.List.{List}
use mathlib.Core.Option.{Option, none, some}
use Prim.Native.Nat.{ℕ, ◌+◌, ◌*◌, ◌≤◌, ◌<◌}
use native.Mathlib.Decide.{dec_lt}
use native.Mathlib.Nat.{mul-suc, mul-le-mul_left}
use native.Mathlib.Omega.{arith}
use lib.IntN.{ℤ}
use Rattle.meaning.specs.Refusals.{Refusal}
use Rattle.meaning.specs.Buffers.{Buffers}
use Rattle.meaning.specs.Answers.{Task, check, check_bytes, verdict_of, Reply, reply, reply_to_bytes}
use Rattle.meaning.specs.Trace.{TraceLists, TracedReply, lists_too_short, reply_traced, reply_to_bytes_traced}
use Rattle.meaning.specs.TableBytes.{rows_of}
use Rattle.meaning.specs.declared.Outcome.{Outcome}
use Rattle.meaning.specs.declared.Outcome.TheVariants.{Ended, Stuck, Broken, Spent}
use Rattle.meaning.specs.declared.Answer.{Answer}
use Rattle.meaning.specs.declared.Answer.TheVariants.{Refused, Ran}
use Rattle.meaning.specs.declared.Verdict.{Verdict}
use Rattle.meaning.specs.declared.Verdict.TheVariants.{Accepted, Rejected}
use Rattle.meaning.specs.declared.Checked.{Checked}
use Rattle.meaning.proofs.AnswerLaws.{counted-rows, counted-bytes}
use Rattle.agreement.specs.CallClaims.{task_of_bytes, RanAs}
use Rattle.agreement.specs.RefusalClaims.{TableRefusal, CallRefusal}
use Rattle.agreement.proofs.TableFit.{rows-limit}
use Rattle.agreement.proofs.Calls.{run-answered}
use Rattle.agreement.proofs.CallsOnBytes.{run-answered-bytes}
use Rattle.agreement.proofs.TracedCalls.{traced-as-untraced}
use Rattle.agreement.proofs.RefusalPlaces.{rows-refused, bytes-refused, rows-call-refused, bytes-call-refused, table-known, numbers-known}
use Rattle.occam_table.specs.Packing.{outcome_number, verdict_number}
use Rattle.occam_table.specs.PackingClaims.{PossibleAnswer, PossibleVerdict, PlaceWithin, PossibleChecked, AnswersTold, VerdictsTold, ChecksTold, CallsPossible, TracedPossible, ChecksPossible, CountedPossible}
use Rattle.occam_table.proofs.Outcomes.{outcome-some, outcome-small}

-- outcomes by their numbers
outcomes-told : (o p : Outcome) → outcome_number o ≡ outcome_number p → o ≡ p
outcomes-told Ended Ended e = refl
outcomes-told Ended Stuck e = absurd (omega arith)
outcomes-told Ended Broken e = absurd (omega arith)
outcomes-told Ended Spent e = absurd (omega arith)
outcomes-told Stuck Ended e = absurd (omega arith)
outcomes-told Stuck Stuck e = refl
outcomes-told Stuck Broken e = absurd (omega arith)
outcomes-told Stuck Spent e = absurd (omega arith)
outcomes-told Broken Ended e = absurd (omega arith)
outcomes-told Broken Stuck e = absurd (omega arith)
outcomes-told Broken Broken e = refl
outcomes-told Broken Spent e = absurd (omega arith)
outcomes-told Spent Ended e = absurd (omega arith)
outcomes-told Spent Stuck e = absurd (omega arith)
outcomes-told Spent Broken e = absurd (omega arith)
outcomes-told Spent Spent e = refl

-- what stands from a bit on, and what stands below it: the ready steps, the count of pairs
upper-told : (b x y m n : ℕ) → x < b → y < b → x + b * m ≡ y + b * n → (x ≡ y) × (m ≡ n)
upper-told b x y m n small little e = go (dec_lt m n) (dec_lt n m)
  where
    higher : {k l : ℕ} → k < l → b * k + b ≤ b * l
    higher {k} {l} h = let f = mul-le-mul_left b h in let g = mul-suc b k in omega arith

    go : Dec (m < n) → Dec (n < m) → (x ≡ y) × (m ≡ n)
    go (yes h) d = let f = higher h in absurd (omega arith)
    go (no h) (yes g) = let f = higher g in absurd (omega arith)
    go (no h) (no g) = let same : m ≡ n = omega arith in let f = ap (λ (k : ℕ). b * k) same in (omega arith, same)

-- the steps, and so the outcome's number
parts-told : (a b k l : ℕ) → a ≤ 4 → b ≤ 4 → 256 * a + 65536 * k ≡ 256 * b + 65536 * l → (a ≡ b) × (k ≡ l)
parts-told a b k l small little e = go (dec_lt k l) (dec_lt l k)
  where
    go : Dec (k < l) → Dec (l < k) → (a ≡ b) × (k ≡ l)
    go (yes h) d = absurd (omega arith)
    go (no h) (yes g) = absurd (omega arith)
    go (no h) (no g) = let same : k ≡ l = omega arith in (omega arith, same)

-- the numbers of refusals are small
pub few-numbers : {n m : ℕ} → (n ≤ m) ⊎ (n ≡ 14) → m ≤ 11 → n ≤ 14
few-numbers (inl l) h = omega arith
few-numbers (inr e) h = omega arith

pub answers-told : AnswersTold
answers-told (Refused n p) (Refused m q) h k e =
    let small = h.1 in let little = k.1 in
    ap₂ Refused (omega arith) (omega arith)
answers-told (Refused n p) (Ran o k m) h u e =
    let low = h.0 in let small = h.1 in let a = outcome-some o in let b = outcome-small o in
    absurd (omega arith)
answers-told (Ran o k m) (Refused n p) u h e =
    let low = h.0 in let small = h.1 in let a = outcome-some o in let b = outcome-small o in
    absurd (omega arith)
answers-told (Ran o k m) (Ran p l n) (few, _) (less, _) e =
    let (rest, total) = upper-told 1099511627776 (256 * outcome_number o + 65536 * k) (256 * outcome_number p + 65536 * l) m n (omega (arith, outcome-small o)) (omega (arith, outcome-small p)) e in
    let (outcome, steps) = parts-told (outcome_number o) (outcome_number p) k l (outcome-small o) (outcome-small p) rest in
    λ i. Ran (outcomes-told o p outcome i) (steps i) (total i)

pub verdicts-told : VerdictsTold
verdicts-told Accepted Accepted h k e = refl
verdicts-told Accepted (Rejected n p) h k e = let low = k.0 in absurd (omega arith)
verdicts-told (Rejected n p) Accepted h k e = let low = h.0 in absurd (omega arith)
verdicts-told (Rejected n p) (Rejected m q) h k e =
    let small = h.1 in let little = k.1 in
    ap₂ Rejected (omega arith) (omega arith)

-- a verdict stands below bit 32
place-small : (v : Verdict) → PossibleVerdict v → PlaceWithin v → verdict_number v < 4294967296
place-small Accepted h k = omega arith
place-small (Rejected n p) h k = let small = h.1 in omega arith

pub checked-small : (c : Checked) → PossibleChecked c → verdict_number c.verdict < 4294967296
checked-small c h = place-small c.verdict h.0 h.1

pub checks-told : ChecksTold
checks-told c d h k e =
    let (verdict, pairs) = upper-told 4294967296 (verdict_number c.verdict) (verdict_number d.verdict) c.pairs d.pairs (checked-small c h) (checked-small d k) e in
    let same = verdicts-told c.verdict d.verdict h.0 k.0 verdict in
    λ i. record { verdict = same i; pairs = pairs i }

-- a run takes no more steps than its budget, and no more are ready than there are rows
pub possible-run : (t : Task) (b : Buffers) (r : Reply) (o : Outcome) (k n : ℕ) → RanAs t b r o k n → (k ≤ 65536) × (n ≤ 1024)
possible-run t b r o k n a = (omega (arith, a.steps-within, a.budget-allowed), omega (arith, a.total-within, rows-limit t.rows a.table-accepted))

-- an answer that is a refusal only if that is a call's, and a run only if that is possible
possible-answer : (rows : List ℤ) (a : Answer) → ((number place : ℕ) → a ≡ Refused number place → CallRefusal rows number place)
    → ((o : Outcome) (k n : ℕ) → a ≡ Ran o k n → (k ≤ 65536) × (n ≤ 1024)) → PossibleAnswer a
possible-answer rows (Refused n p) h g = let (low, high, _) = numbers-known rows n p (h n p refl) in (low, few-numbers high (omega arith))
possible-answer rows (Ran o k n) h g = g o k n refl

pub calls-possible : CallsPossible
calls-possible = (
  λ t b. possible-answer t.rows (reply t b).answer (λ number place e. (rows-call-refused t b number place e).0) (λ o k n e. possible-run t b (reply t b) o k n (run-answered t b o k n e)),
  λ table sheet choices budget b. possible-answer (rows_of table) (reply_to_bytes table sheet choices budget b).answer (bytes-call-refused table sheet choices budget b) (λ o k n e. possible-run (task_of_bytes table sheet choices budget) b (reply_to_bytes table sheet choices budget b) o k n (run-answered-bytes table sheet choices budget b o k n e)),
)

-- a traced call answers as the untraced one does, or refuses by 1
possible-traced : (l : TraceLists) (a q : Answer) → (lists_too_short l ≡ false → a ≡ q) → (lists_too_short l ≡ true → a ≡ Refused 1 0) → PossibleAnswer q → PossibleAnswer a
possible-traced l a q long short h = go (lists_too_short l) refl
  where
    go : (t : Bool) → lists_too_short l ≡ t → PossibleAnswer a
    go true e = subst PossibleAnswer (sym (short e)) (omega arith, omega arith)
    go false e = subst PossibleAnswer (sym (long e)) h

pub traced-possible : TracedPossible
traced-possible = (
  λ t b l.
      possible-traced l (reply_traced t b l).reply.answer (reply t b).answer (λ e. ap (λ (r : Reply). r.answer) ((traced-as-untraced.0 t b l).0 e))
      (λ e. ap (λ (r : TracedReply). r.reply.answer) ((traced-as-untraced.0 t b l).1 e)) (calls-possible.0 t b),
  λ table sheet choices budget b l.
      possible-traced l (reply_to_bytes_traced table sheet choices budget b l).reply.answer (reply_to_bytes table sheet choices budget b).answer
      (λ e. ap (λ (r : Reply). r.answer) ((traced-as-untraced.1 table sheet choices budget b l).0 e))
      (λ e. ap (λ (r : TracedReply). r.reply.answer) ((traced-as-untraced.1 table sheet choices budget b l).1 e)) (calls-possible.1 table sheet choices budget b),
)

possible-verdict : (rows : List ℤ) (o : Option Refusal) → ((number place : ℕ) → o ≡ some (number, place) → TableRefusal rows number place) → PossibleVerdict (verdict_of o)
possible-verdict rows none h = tt
possible-verdict rows (some f) h = let (low, high, _) = table-known (h f.0 f.1 refl) in (low, few-numbers high (omega arith))

pub checks-possible : ChecksPossible
checks-possible = (
  λ rows. possible-verdict rows (check rows) (λ number place e. (rows-refused rows number place e).0),
  λ table. possible-verdict (rows_of table) (check_bytes table) (bytes-refused table),
)

possible-checked : (rows : List ℤ) (o : Option Refusal) → ((number place : ℕ) → o ≡ some (number, place) → TableRefusal rows number place) → PossibleVerdict (verdict_of o) × PlaceWithin (verdict_of o)
possible-checked rows none h = (tt, tt)
possible-checked rows (some f) h = let (low, high, place) = table-known (h f.0 f.1 refl) in ((low, few-numbers high (omega arith)), place)

pub counted-possible : CountedPossible
counted-possible = (
  λ rows. subst PossibleChecked (sym (counted-rows rows)) (possible-checked rows (check rows) (λ number place e. (rows-refused rows number place e).0)),
  λ table. subst PossibleChecked (sym (counted-bytes table)) (possible-checked (rows_of table) (check_bytes table) (bytes-refused table)),
)
