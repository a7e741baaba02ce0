-- Request 14 about calls: two calls can be gone on with to one number of steps, at which both answer and leave the same.
use mathlib.Core.Path.{◌≡◌, refl, sym, ap, subst, ◌∙◌}
use mathlib.Core.Bool.{false}
use mathlib.Core.Logic.{inl, inr}
use mathlib.Core.Option.{none}
use mathlib.Core.List.{List, [], ◌++◌, append-nil, Memᴰ}
use Prim.Native.Nat.{ℕ, ◌+◌, ◌≤◌, ◌<◌}
use native.Mathlib.Omega.{arith}
use lib.IntN.{ℤ}
use lib.ListN.{length, length-append}
use Rattle.meaning.specs.declared.Outcome.{Outcome}
use Rattle.meaning.specs.Limits.{max_budget}
use Rattle.meaning.specs.TableBytes.{rows_of}
use Rattle.meaning.specs.State.{State, program}
use Rattle.meaning.specs.Labels.{Label}
use Rattle.meaning.specs.Ready.{ready}
use Rattle.meaning.specs.Step.{Step}
use Rattle.meaning.specs.Run.{RunResult, run}
use Rattle.meaning.specs.Order.{Order, OrderOf, outcome_of}
use Rattle.meaning.specs.Sheet.{sheet_fault, readings}
use Rattle.meaning.specs.Buffers.{Buffers, too_short, encode}
use Rattle.meaning.specs.Accepted.{BothAccepted}
use Rattle.meaning.specs.Answers.{check, Task, ran, Reply, reply_of, reply, reply_to_bytes}
use Rattle.agreement.specs.Statements.{NoAlt}
use Rattle.agreement.specs.CallClaims.{task_of_bytes, RanAs}
use Rattle.agreement.specs.CommonClaims.{GoOn, CallsMeet, CallsMeetBytes, RunsMeet}
use Rattle.agreement.proofs.Claims.{Finish}
use Rattle.agreement.proofs.TableFit.{fit, rows-limit}
use Rattle.agreement.proofs.TableOptions.{option-rows}
use Rattle.agreement.proofs.Choosable.{picked}
use Rattle.agreement.proofs.Running
use Rattle.agreement.proofs.Running.{Fits}
use Rattle.agreement.proofs.OneRest.{result-is}
use Rattle.agreement.proofs.Answered.{replies}
use Rattle.agreement.proofs.Calls.{run-answered, bytes-as-rows}
use Rattle.agreement.proofs.CallsOnBytes.{ran-unrefused}
use Rattle.agreement.proofs.CommonState.{common-state, goes_on}

module _ (rows : List ℤ) (sheet : List ℕ) where
  abbrev ending : List ℕ → ℕ → RunResult
  ending choices budget = run rows (readings rows sheet) choices budget

  abbrev task : List ℕ → ℕ → Task
  task choices budget = record { rows = rows; sheet = sheet; choices = choices; budget = budget }

  -- an order to s and steps more, to v, as calls: with as many steps as the order has a call leaves s, and with all of them a run is at v
  record Further (l : List Label) (s : State) (more : List Label) (v : State) : Type 0 where
    pub choices : List ℕ
    pub small : (c : ℕ) → Memᴰ c choices → c < 65536
    pub then-there : (b : Buffers) → too_short b ≡ false → length l ≤ max_budget → (reply (task choices (length l)) b).buffers ≡ encode rows s b
    pub end-there : (ending choices (length l + length more)).state ≡ v
    pub steps-there : (ending choices (length l + length more)).steps ≡ length l + length more

module _ (rows : List ℤ) (sheet : List ℕ) (accepted : check rows ≡ none) (read : sheet_fault rows sheet ≡ none) where
  -- runs with one budget that end in one state after equally many steps are the same
  one-result : (choices others : List ℕ) (budget : ℕ) → (ending rows sheet choices budget).state ≡ (ending rows sheet others budget).state → (ending rows sheet choices budget).steps ≡ (ending rows sheet others budget).steps → ending rows sheet choices budget ≡ ending rows sheet others budget
  one-result choices others budget e f =
      let a : BothAccepted rows (readings rows sheet) = (accepted, (sheet, (read, refl))) in
      let (_, _, _, _, _, x, listed) = Running.runs BothAccepted fits rows (readings rows sheet) choices budget a in
      let (_, _, _, _, _, y, listed') = Running.runs BothAccepted fits rows (readings rows sheet) others budget a in
      let total = listed ∙ ap (λ (s : State). length (ready (program rows) (readings rows sheet) s)) e ∙ sym listed' in
      result-is (ending rows sheet choices budget) (ending rows sheet others budget).outcome (ending rows sheet others budget).steps (ending rows sheet others budget).ready (ending rows sheet others budget).state (one-outcome x y) f total e
    where
      fits : Fits BothAccepted
      fits rows sheet a = (fit rows a.0, option-rows rows a.0)

      one-outcome : Finish BothAccepted rows (readings rows sheet) budget (ending rows sheet choices budget) → Finish BothAccepted rows (readings rows sheet) budget (ending rows sheet others budget)
          → (ending rows sheet choices budget).outcome ≡ (ending rows sheet others budget).outcome
      one-outcome (inl (_, o, _)) (inl (_, o', _)) = o ∙ ap (outcome_of rows) e ∙ sym o'
      one-outcome (inr (_, o, _, _)) (inr (_, o', _, _)) = o ∙ sym o'
      one-outcome (inl (z, _, _)) (inr (_, _, _, (x, (t, h)))) = absurd (z x t (subst (λ (s : State). Step (program rows) (readings rows sheet) s x t) (sym e) h))
      one-outcome (inr (_, _, _, (x, (t, h)))) (inl (z, _, _)) = absurd (z x t (subst (λ (s : State). Step (program rows) (readings rows sheet) s x t) e h))

  further : (l : List Label) (s : State) (more : List Label) (v : State) → OrderOf rows (readings rows sheet) l s → Order (program rows) (readings rows sheet) s more v → Further rows sheet l s more v
  further l s more v o q =
      let whole = goes_on rows (readings rows sheet) o q in
      let (choices, small, _, comes) = picked rows (readings rows sheet) (fit rows accepted) (option-rows rows accepted) (let h = rows-limit rows accepted in omega arith) (l ++ more) v whole in
      let (here, _) = comes l more s refl o in
      let (there, steps) = comes (l ++ more) [] v (sym (append-nil (l ++ more))) whole in
      let e = length-append l more in
      record {
        choices = choices;
        small = small;
        then-there = λ b long few. ap (λ (r : Reply). r.buffers) (replies rows sheet accepted read choices (length l) b long few) ∙ ap (λ (t : State). encode rows t b) here;
        end-there = subst (λ (n : ℕ). (ending rows sheet choices n).state ≡ v) e there;
        steps-there = subst (λ (n : ℕ). (ending rows sheet choices n).steps ≡ n) e steps;
      }

  alike_at : (one two : List ℕ) (steps : ℕ) → (ending rows sheet one steps).state ≡ (ending rows sheet two steps).state → (ending rows sheet one steps).steps ≡ (ending rows sheet two steps).steps → steps ≤ max_budget
      → (lent : Buffers) → too_short lent ≡ false → reply (task rows sheet one steps) lent ≡ reply (task rows sheet two steps) lent
  alike_at one two steps e f few lent long =
      replies rows sheet accepted read one steps lent long few ∙ ap (λ (r : RunResult). reply_of rows lent (ran r)) (one-result one two steps e f) ∙ sym (replies rows sheet accepted read two steps lent long few)

-- two tasks that differ in choices and budget alone
both-go-on : (rows : List ℤ) (sheet : List ℕ) → NoAlt rows → {choices others : List ℕ} {budget bound : ℕ} {b c : Buffers} {r q : Reply} {o p : Outcome} {n m total left : ℕ}
    → RanAs (record { rows = rows; sheet = sheet; choices = choices; budget = budget }) b r o n total
    → RanAs (record { rows = rows; sheet = sheet; choices = others; budget = bound }) c q p m left → n + m ≤ max_budget
    → GoOn (λ choices budget b. reply (record { rows = rows; sheet = sheet; choices = choices; budget = budget }) b) n b r.buffers m c q.buffers
both-go-on rows sheet w {b} {c} {n} {m} x y few =
    let ok = x.table-accepted in
    let read = x.sheet-accepted in
    let v = common-state rows (readings rows sheet) (ok, (sheet, (read, refl))) w x.labels x.end x.order y.labels y.end y.order in
    let one = further rows sheet ok read x.labels x.end v.first_more v.state x.order v.first-comes in
    let two = further rows sheet ok read y.labels y.end v.second_more v.state y.order v.second-comes in
    let i = x.steps-taken in
    let j = y.steps-taken in
    let steps = length x.labels + length v.first_more in
    let second-end = subst (λ (k : ℕ). (ending rows sheet two.choices k).state ≡ v.state) (sym v.equally-long) two.end-there in
    let second-steps = subst (λ (k : ℕ). (ending rows sheet two.choices k).steps ≡ k) (sym v.equally-long) two.steps-there in
    let within : steps ≤ max_budget = omega (arith, v.first-bound, i, j, few) in
    record {
      first = one.choices;
      second = two.choices;
      steps = steps;
      first_small = one.small;
      second-small = two.small;
      first-left = subst (λ (k : ℕ). (reply (task rows sheet one.choices k) b).buffers ≡ encode rows x.end b) i (one.then-there b x.buffers-long (omega (arith, i, few))) ∙ sym x.left;
      second-left = subst (λ (k : ℕ). (reply (task rows sheet two.choices k) c).buffers ≡ encode rows y.end c) j (two.then-there c y.buffers-long (omega (arith, j, few))) ∙ sym y.left;
      first-further = omega (arith, i);
      second-further = omega (arith, j, v.equally-long);
      steps-bound = omega (arith, v.first-bound, i, j);
      alike = alike_at rows sheet ok read one.choices two.choices steps (one.end-there ∙ sym second-end) (one.steps-there ∙ sym second-steps) within;
    }

pub calls-meet : CallsMeet
calls-meet rows sheet w choices others budget bound b c o p n m total left e f few =
    both-go-on rows sheet w (run-answered (record { rows = rows; sheet = sheet; choices = choices; budget = budget }) b o n total e)
    (run-answered (record { rows = rows; sheet = sheet; choices = others; budget = bound }) c p m left f) few

-- a call that answers and leaves as another does
pub meets-alike : (call other : List ℕ → ℕ → Buffers → Reply) → ((choices : List ℕ) (budget : ℕ) (b : Buffers) → other choices budget b ≡ call choices budget b) → RunsMeet call → RunsMeet other
meets-alike call other same meet choices others budget bound b c o p n m total left e f few =
    let g = meet choices others budget bound b c o p n m total left (ap (λ (r : Reply). r.answer) (sym (same choices budget b)) ∙ e) (ap (λ (r : Reply). r.answer) (sym (same others bound c)) ∙ f) few in
    let left_by : (choices : List ℕ) (budget : ℕ) (b : Buffers) → (other choices budget b).buffers ≡ (call choices budget b).buffers = λ choices budget b. ap (λ (r : Reply). r.buffers) (same choices budget b) in
    record {
      first = g.first;
      second = g.second;
      steps = g.steps;
      first_small = g.first_small;
      second-small = g.second-small;
      first-left = left_by g.first n b ∙ g.first-left ∙ sym (left_by choices budget b);
      second-left = left_by g.second m c ∙ g.second-left ∙ sym (left_by others bound c);
      first-further = g.first-further;
      second-further = g.second-further;
      steps-bound = g.steps-bound;
      alike = λ lent long. same g.first g.steps lent ∙ g.alike lent long ∙ sym (same g.second g.steps lent);
    }

pub calls-meet-bytes : CallsMeetBytes
calls-meet-bytes table sheet w choices others budget bound b c o p n m total left e =
    let whole = ran-unrefused table sheet choices budget b o n total e in
    meets-alike (λ choices budget b. reply (task_of_bytes table sheet choices budget) b) (λ choices budget b. reply_to_bytes table sheet choices budget b) (λ choices budget b. (bytes-as-rows table sheet choices budget b).0 whole)
    (calls-meet (rows_of table) sheet w) choices others budget bound b c o p n m total left e
