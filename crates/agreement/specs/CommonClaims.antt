-- Two orders of an accepted table without ALT come to a common state, and what they have given to the host agrees as far as both have come.
-- Each statement is a type that a proof fills. Nothing is said of rest: the table may go on for ever.
use Rattle.std.specs.Prelude.{◌≡◌, false, ◌⊎◌, ℕ, ◌+◌, ◌-◌, ◌<◌, ◌≤◌, ℤ, length}
use mathlib.Core.List.{List, [], ◌∷◌, ◌++◌, Memᴰ}
use Rattle.std.proofs.Math.Decide.{ℕ_discrete}
use Rattle.meaning.specs.declared.Outcome.{Outcome}
use Rattle.meaning.specs.declared.Answer.TheVariants.{Ran}
use Rattle.meaning.specs.Limits.{max_budget}
use Rattle.meaning.specs.Declarations.{host_channels}
use Rattle.meaning.specs.TableBytes.{rows_of}
use Rattle.meaning.specs.State.{State, Program, program}
use Rattle.meaning.specs.Labels.{Label, label-discrete}
use Rattle.meaning.specs.Readings.{Sheet}
use Rattle.meaning.specs.Order.{Order, OrderOf, RestOf}
use Rattle.meaning.specs.Buffers.{Buffers, too_short}
use Rattle.meaning.specs.Decode.{count_in, listed_in}
use Rattle.meaning.specs.Answers.{Reply, reply, reply_to_bytes}
use Rattle.meaning.specs.Accepted.{BothAccepted}
use Rattle.agreement.specs.Statements.{NoAlt}
use Rattle.agreement.specs.MissingClaims.{list_at}

-- "For an accepted table without ALT, accepted readings and two orders of steps, of whatever length": the orders are l, to s, and k, to t
abbrev pub OfTwoOrders : ((rows : List ℤ) (sheet : Sheet) (l : List Label) (s : State) (k : List Label) (t : State) → Type 0) → Type 0
OfTwoOrders Claim = (rows : List ℤ) (sheet : Sheet) → BothAccepted rows sheet → NoAlt rows
    → (l : List Label) (s : State) → OrderOf rows sheet l s → (k : List Label) (t : State) → OrderOf rows sheet k t → Claim rows sheet l s k t

-- The common state --------------------------------------------------------------------------------------------------------------

-- 1 if two steps are the same, else 0
abbrev pub one_if : {x y : Label} → Dec (x ≡ y) → ℕ
one_if (yes e) = 1
one_if (no n) = 0

-- how often a step is taken in an order
abbrev pub times : Label → List Label → ℕ
times x [] = 0
times x (y ∷ l) = one_if (label-discrete ℕ_discrete x y) + times x l

-- "a state shown that both come to by some more steps or none": each goes on by the steps that only the other has taken, as often as the
-- other is ahead; so by at most as many as the other has taken, and both ways are equally long
pub record Common (P : Program) (sheet : Sheet) (l : List Label) (s : State) (k : List Label) (t : State) : Type 0 where
  pub state : State
  pub first_more : List Label
  pub second_more : List Label
  pub first-comes : Order P sheet s first_more state
  pub second-comes : Order P sheet t second_more state
  pub first-bound : length first_more ≤ length k
  pub second-bound : length second_more ≤ length l
  pub equally-long : length l + length first_more ≡ length k + length second_more
  pub first-takes : (x : Label) → times x first_more ≡ times x k - times x l
  pub second-takes : (x : Label) → times x second_more ≡ times x l - times x k

abbrev pub CommonState : Type 0
CommonState = OfTwoOrders (λ rows sheet l s k t. Common (program rows) sheet l s k t)

-- there is one such state
abbrev pub OneCommon : Type 0
OneCommon = OfTwoOrders (λ rows sheet l s k t. (c d : Common (program rows) sheet l s k t) → c.state ≡ d.state)

-- orders that take each step equally often end in one state
abbrev pub SameSteps : Type 0
SameSteps = OfTwoOrders (λ rows sheet l s k t. ((x : Label) → times x l ≡ times x k) → s ≡ t)

-- if the first is at rest, the second goes on to it
abbrev pub RestReached : Type 0
RestReached = OfTwoOrders (λ rows sheet l s k t. RestOf rows sheet s → (more : List Label) × Order (program rows) sheet t more s × (length k + length more ≡ length l))

-- The lists of the host's output channels -------------------------------------------------------------------------------------------

-- a list is a beginning of another
abbrev pub Beginning : {A : Type 0} → List A → List A → Type 0
Beginning {A} xs ys = (more : List A) × (ys ≡ xs ++ more)

-- one of two lists is a beginning of the other
abbrev pub EitherBeginning : {A : Type 0} → List A → List A → Type 0
EitherBeginning xs ys = Beginning xs ys ⊎ Beginning ys xs

-- "On each host output channel one order's list is then the beginning of the other's": values and absences; by channel, so that each order may be ahead on another
abbrev pub ListsBegin : Type 0
ListsBegin = OfTwoOrders (λ rows sheet l s k t. (channel : ℕ) → EitherBeginning (list_at s channel) (list_at t channel))

-- About calls -------------------------------------------------------------------------------------------------------------------

-- what two calls leave: channel by channel the messages in the strip, values and absences, are as many as counted, and those of the one are a beginning of
-- those of the other
abbrev pub StripsBegin : List ℤ → Buffers → Buffers → Type 0
StripsBegin rows b c = (channel : ℕ) → channel < host_channels 2 rows
    → (length (listed_in rows channel b) ≡ count_in channel b) × (length (listed_in rows channel c) ≡ count_in channel c)
    × EitherBeginning (listed_in rows channel b) (listed_in rows channel c)

-- two calls that ran, whatever their choices, budgets and lent buffers
abbrev pub RunsBegin : List ℤ → (List ℕ → ℕ → Buffers → Reply) → Type 0
RunsBegin rows call = (choices choices' : List ℕ) (budget budget' : ℕ) (b b' : Buffers) (o o' : Outcome) (n n' ready ready' : ℕ)
    → (call choices budget b).answer ≡ Ran o n ready → (call choices' budget' b').answer ≡ Ran o' n' ready'
    → StripsBegin rows (call choices budget b).buffers (call choices' budget' b').buffers

-- for rows lent as numbers
abbrev pub CallsBegin : Type 0
CallsBegin = (rows : List ℤ) (sheet : List ℕ) → NoAlt rows → RunsBegin rows (λ choices budget b. reply (record { rows = rows; sheet = sheet; choices = choices; budget = budget }) b)

-- for a table's bytes
abbrev pub CallsBeginBytes : Type 0
CallsBeginBytes = (table sheet : List ℕ) → NoAlt (rows_of table) → RunsBegin (rows_of table) (λ choices budget b. reply_to_bytes table sheet choices budget b)

-- two calls that ran n and n' steps can be gone on with: choices by which n steps leave what the first left, choices by which n' steps leave what the second left, and
-- a number of steps, no more than both took, at which the two answer and leave the same
pub record GoOn (call : List ℕ → ℕ → Buffers → Reply) (n : ℕ) (b left : Buffers) (n' : ℕ) (b' left' : Buffers) : Type 0 where
  pub first : List ℕ
  pub second : List ℕ
  pub steps : ℕ
  pub first_small : (choice : ℕ) → Memᴰ choice first → choice < 65536
  pub second-small : (choice : ℕ) → Memᴰ choice second → choice < 65536
  pub first-left : (call first n b).buffers ≡ left
  pub second-left : (call second n' b').buffers ≡ left'
  pub first-further : n ≤ steps
  pub second-further : n' ≤ steps
  pub steps-bound : steps ≤ n + n'
  pub alike : (lent : Buffers) → too_short lent ≡ false → call first steps lent ≡ call second steps lent

-- two calls that ran, with no more than 65,536 steps together
abbrev pub RunsMeet : (List ℕ → ℕ → Buffers → Reply) → Type 0
RunsMeet call = (choices choices' : List ℕ) (budget budget' : ℕ) (b b' : Buffers) (o o' : Outcome) (n n' ready ready' : ℕ)
    → (call choices budget b).answer ≡ Ran o n ready → (call choices' budget' b').answer ≡ Ran o' n' ready' → n + n' ≤ max_budget
    → GoOn call n b (call choices budget b).buffers n' b' (call choices' budget' b').buffers

-- for rows lent as numbers
abbrev pub CallsMeet : Type 0
CallsMeet = (rows : List ℤ) (sheet : List ℕ) → NoAlt rows → RunsMeet (λ choices budget b. reply (record { rows = rows; sheet = sheet; choices = choices; budget = budget }) b)

-- for a table's bytes
abbrev pub CallsMeetBytes : Type 0
CallsMeetBytes = (table sheet : List ℕ) → NoAlt (rows_of table) → RunsMeet (λ choices budget b. reply_to_bytes table sheet choices budget b)
