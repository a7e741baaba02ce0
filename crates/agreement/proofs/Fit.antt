-- What the proofs about orders use of an accepted table: the shape of its whole process, and that the members of a PAR keep apart.
use mathlib.Core.Path.{◌≡◌}
use mathlib.Core.Logic.{◌≢◌}
use mathlib.Core.Bool.{true}
use mathlib.Core.Option.{Option, none, some}
use mathlib.Core.List.{List, [], ◌∷◌}
use Prim.Native.Nat.{ℕ}
use lib.ListN.{length}
use Rattle.meaning.specs.Declarations.{Variable, Channel}
use Rattle.meaning.specs.Tree.{IfChoice, AltOption, ChannelInput, Action, stop, skip, sequence, parallel, assign, input, output, conditional, loop, alternation, block, Process, node, Processes, empty, also, action_of, row_of, rows_beneath}
use Rattle.meaning.specs.Usage.{cells_of_variable, changes, uses, input_elements, output_elements}
use Rattle.meaning.specs.State.{Program, process_at, whole}
use Rattle.agreement.proofs.Frame.{Off}
use Rattle.agreement.proofs.Again.{Out, Sound}
use Rattle.agreement.proofs.Commute.{Child}
use Rattle.agreement.proofs.Reach.{Sub, Apart}
use Rattle.agreement.proofs.Settled.{Plain}

-- each choice's process, each option's process is one of the members
abbrev pub ChoicesIn : List IfChoice → Processes → Type 0
ChoicesIn [] ms = Unit {0}
ChoicesIn (t ∷ l) ms = Child t.process ms × ChoicesIn l ms

abbrev pub OptionsIn : List AltOption → Processes → Type 0
OptionsIn [] ms = Unit {0}
OptionsIn (b ∷ l) ms = Child b.process ms × OptionsIn l ms

-- what a step of a process may start is one of its members; a block has one process
abbrev pub Starts : Action → Processes → Type 0
Starts stop ms = Unit {0}
Starts skip ms = Unit {0}
Starts sequence ms = Unit {0}
Starts parallel ms = Unit {0}
Starts (assign v e f) ms = Unit {0}
Starts (input i) ms = Unit {0}
Starts (output c e f) ms = Unit {0}
Starts (conditional ts) ms = ChoicesIn ts ms
Starts (loop e b) ms = Child b ms
Starts (alternation bs) ms = OptionsIn bs ms
Starts (block v) ms = (q : Process) × (ms ≡ also q empty)

-- a host channel has one element, which its number among the channels of its role tells
abbrev pub HostAt : (ℕ → ℕ) → Channel → Type 0
HostAt element c = c.host ≡ true → (c.first ≡ element c.number) × (c.size ≡ 1)

abbrev pub GuardAt : (ℕ → ℕ) → Option ChannelInput → Type 0
GuardAt element none = Unit {0}
GuardAt element (some i) = HostAt element i.channel

abbrev pub GuardsAt : (ℕ → ℕ) → List AltOption → Type 0
GuardsAt element [] = Unit {0}
GuardsAt element (b ∷ l) = GuardAt element b.guard.input × GuardsAt element l

-- the host channels of an action: those it inputs from, and those it outputs to
abbrev pub HostsAt : (ℕ → ℕ) → (ℕ → ℕ) → Action → Type 0
HostsAt source sink stop = Unit {0}
HostsAt source sink skip = Unit {0}
HostsAt source sink sequence = Unit {0}
HostsAt source sink parallel = Unit {0}
HostsAt source sink (assign v e f) = Unit {0}
HostsAt source sink (input i) = HostAt source i.channel
HostsAt source sink (output c e f) = HostAt sink c
HostsAt source sink (conditional ts) = Unit {0}
HostsAt source sink (loop e b) = Unit {0}
HostsAt source sink (alternation bs) = GuardsAt source bs
HostsAt source sink (block v) = Unit {0}

-- two actions that may stand in two members of a PAR
pub record Apt (k j : Action) : Type 0 where
  pub there : Off (changes k) (uses j)
  pub back : Off (changes j) (uses k)
  pub in-in : Off (input_elements k) (input_elements j)
  pub out-out : Off (output_elements k) (output_elements j)

pub record Fit (P : Program) (n : ℕ) : Type 0 where
  -- there is a process for each row, and the whole process stands at the root
  pub size : length P.processes ≡ n
  pub at-root : row_of (whole P) ≡ P.root
  -- the rows of the whole process are each another, and below n
  pub sound : Sound (whole P) n
  -- STOP, SKIP and actions have no members
  pub plain : Plain (whole P)
  -- what stands at a row of the whole process is the process that the table has there
  pub placed : (k : Action) (r : ℕ) (ms : Processes) → Sub k r ms (whole P) → process_at P r ≡ node k r ms
  -- what it may start is one of its members, and a block has one
  pub starts : (k : Action) (r : ℕ) (ms : Processes) → Sub k r ms (whole P) → Starts k ms
  -- the usage rules: rows of two members of a PAR touch nothing in common
  pub apart : (a b : ℕ) → Apart a b (whole P) → Apt (action_of (process_at P a)) (action_of (process_at P b))
  -- an action that is not beneath a block uses none of its cells, and two blocks have none in common
  pub local : (v : Variable) (q : ℕ) (ms : Processes) → Sub (block v) q ms (whole P) → (k : Action) (r : ℕ) (ns : Processes) → Sub k r ns (whole P)
      → Out r (rows_beneath ms) → Off (cells_of_variable v) (uses k)
  pub locals-apart : (v : Variable) (q : ℕ) (ms : Processes) → Sub (block v) q ms (whole P) → (w : Variable) (p : ℕ) (ns : Processes) → Sub (block w) p ns (whole P)
      → q ≢ p → Off (cells_of_variable v) (cells_of_variable w)
  -- the elements of host channels
  pub source : ℕ → ℕ
  pub sink : ℕ → ℕ
  pub hosts : (k : Action) (r : ℕ) (ms : Processes) → Sub k r ms (whole P) → HostsAt source sink k
