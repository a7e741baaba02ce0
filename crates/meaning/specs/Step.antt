-- Steps as rules, one for each line of the paper's list, and the state after settling. They name no list of ready steps, no order and no walk.
use Rattle.std.specs.Prelude.{◌≡◌, true, false, ℕ, suc, ◌+◌, ◌<◌, ℤ, length, get_or}
use Rattle.std.proofs.Math.Option.{none, some}
use mathlib.Core.List.{List, [], ◌∷◌, ◌++◌, Memᴰ}
use Rattle.std.proofs.Math.ListN.{get_elem?}
use Rattle.meaning.specs.declared.Value.TheVariants.{Number, Missing}
use Rattle.meaning.specs.declared.Index.{Index}
use Rattle.meaning.specs.declared.Index.TheVariants.{At, Fails}
use Rattle.meaning.specs.Declarations.{Variable, Channel}
use Rattle.meaning.specs.Tree.{Expr, element, ChannelInput, IfChoice, AltOption, Action, assign, input, output, conditional, loop, alternation, node, Processes, rows_beneath}
use Rattle.meaning.specs.Values.{Message, is_true, value, index}
use Rattle.meaning.specs.State.{Store, State, Program, process_at, whole, Write, write_cell, write_place, write_output, StateChange, Effect, changed}
use Rattle.meaning.specs.Labels.{Label, own, pass, take_option, take_with_output}
use Rattle.meaning.specs.Readings.{Sheet}
use Rattle.meaning.specs.SettlingRules.{SettlesTo}

-- the subscripts of an input, and of an output or assignment, and an expression's truth, in a store of cells
abbrev pub channel_element : List Message → ChannelInput → Index
channel_element cells i = index cells i.channel.first i.channel.size i.subscript

abbrev pub target_cell : List Message → ChannelInput → Index
target_cell cells i = index cells i.target.name.first i.target.name.size i.target.subscript

pub data Holds (cells : List Message) (e : Expr) : Type 0 where
  holds : {x : ℤ} → value cells e ≡ Number x → is_true x ≡ true → Holds cells e

pub data Refuted (cells : List Message) (e : Expr) : Type 0 where
  refuted : {x : ℤ} → value cells e ≡ Number x → is_true x ≡ false → Refuted cells e

-- an input that lacks a value: its channel subscript's, then its target subscript's
pub data LacksIn (cells : List Message) (i : ChannelInput) (k : ℕ) : Type 0 where
  channel-lacks : channel_element cells i ≡ Fails k → LacksIn cells i k
  target_lacks : {e : ℕ} → channel_element cells i ≡ At e → target_cell cells i ≡ Fails k → LacksIn cells i k

-- the first true choice, and the row of its process
pub data FirstTrue (cells : List Message) : List IfChoice → ℕ → Type 0 where
  true-first : {t : IfChoice} {l : List IfChoice} → Holds cells t.boolean → FirstTrue cells (t ∷ l) t.process
  false-before : {t : IfChoice} {l : List IfChoice} {q : ℕ} → Refuted cells t.boolean → FirstTrue cells l q → FirstTrue cells (t ∷ l) q

-- a choice with no value before any true one
pub data LacksTest (cells : List Message) : List IfChoice → ℕ → Type 0 where
  test-lacks : {t : IfChoice} {l : List IfChoice} {k : ℕ} → value cells t.boolean ≡ Missing k → LacksTest cells (t ∷ l) k
  false-before-lack : {t : IfChoice} {l : List IfChoice} {k : ℕ} → Refuted cells t.boolean → LacksTest cells l k → LacksTest cells (t ∷ l) k

-- an option that lacks a value: "boolean first; if false the rest of that option isn't looked at"
pub data LacksGuard (cells : List Message) (b : AltOption) (k : ℕ) : Type 0 where
  boolean-lacks : value cells b.guard.boolean ≡ Missing k → LacksGuard cells b k
  input-lacks : {i : ChannelInput} → Holds cells b.guard.boolean → b.guard.input ≡ some i → LacksIn cells i k → LacksGuard cells b k

-- an option that lacks none
pub data Complete (cells : List Message) (b : AltOption) : Type 0 where
  closed : Refuted cells b.guard.boolean → Complete cells b
  open-skip : Holds cells b.guard.boolean → b.guard.input ≡ none → Complete cells b
  open-input : {i : ChannelInput} {e a : ℕ} → Holds cells b.guard.boolean → b.guard.input ≡ some i → channel_element cells i ≡ At e → target_cell cells i ≡ At a → Complete cells b

-- the first option that lacks a value; and options of which none does
pub data LacksOption (cells : List Message) : List AltOption → ℕ → Type 0 where
  option-lacks : {b : AltOption} {l : List AltOption} {k : ℕ} → LacksGuard cells b k → LacksOption cells (b ∷ l) k
  pass-over : {b : AltOption} {l : List AltOption} {k : ℕ} → Complete cells b → LacksOption cells l k → LacksOption cells (b ∷ l) k

pub data AllComplete (cells : List Message) : List AltOption → Type 0 where
  complete-none : AllComplete cells []
  complete-more : {b : AltOption} {l : List AltOption} → Complete cells b → AllComplete cells l → AllComplete cells (b ∷ l)

-- what an output passes: its expression's value; or, where the expression "is one element, unset but inside its array", the absence
pub data Passes (cells : List Message) : Expr → Message → Type 0 where
  passes-value : {f : Expr} {z : ℤ} → value cells f ≡ Number z → Passes cells f (some z)
  passes-absence : {v : Variable} {e : Expr} {a : ℕ} → index cells v.first v.size e ≡ At a → get_or cells a none ≡ none → Passes cells (element v e) none

-- "an action, test or guard that needs a value which doesn't exist"; an output that passes an absence needs none
pub data Lacks (cells : List Message) : Action → ℕ → Type 0 where
  assign-subscript : {v : Variable} {e f : Expr} {k : ℕ} → index cells v.first v.size e ≡ Fails k → Lacks cells (assign v e f) k
  assign-value : {v : Variable} {e f : Expr} {a k : ℕ} → index cells v.first v.size e ≡ At a → value cells f ≡ Missing k → Lacks cells (assign v e f) k
  input-subscript : {i : ChannelInput} {k : ℕ} → LacksIn cells i k → Lacks cells (input i) k
  output-subscript : {c : Channel} {e f : Expr} {k : ℕ} → index cells c.first c.size e ≡ Fails k → Lacks cells (output c e f) k
  output-value : {c : Channel} {e f : Expr} {a k : ℕ} → index cells c.first c.size e ≡ At a → value cells f ≡ Missing k → ¬ Passes cells f none → Lacks cells (output c e f) k
  while-test : {e : Expr} {b k : ℕ} → value cells e ≡ Missing k → Lacks cells (loop e b) k
  if-test : {ts : List IfChoice} {k : ℕ} → LacksTest cells ts k → Lacks cells (conditional ts) k
  alt-guard : {bs : List AltOption} {k : ℕ} → LacksOption cells bs k → Lacks cells (alternation bs) k

-- an input that could take place from an inner channel: its element and its cell; and from the host: its cell, the reading, and the place after it
pub data InnerInput (x : Store) (i : ChannelInput) (e a : ℕ) : Type 0 where
  inner-input : i.channel.host ≡ false → channel_element x.cells i ≡ At e → target_cell x.cells i ≡ At a → InnerInput x i e a

pub data HostInput (sheet : Sheet) (x : Store) (i : ChannelInput) (a : ℕ) (v : Message) (n : ℕ) : Type 0 where
  host-input : {e : ℕ} → i.channel.host ≡ true → channel_element x.cells i ≡ At e → target_cell x.cells i ≡ At a
      → get_or x.places i.channel.number 0 ≡ n → get_elem? (get_or sheet i.channel.number []) n ≡ some v → HostInput sheet x i a v n

-- an output that could take place to an inner channel
pub data InnerOutput (x : Store) (c : Channel) (e f : Expr) (d : ℕ) (m : Message) : Type 0 where
  inner-output : c.host ≡ false → index x.cells c.first c.size e ≡ At d → Passes x.cells f m → InnerOutput x c e f d m

-- row r is running with action a, and every row beneath it is idle
pub data Live (P : Program) (s : State) (r : ℕ) (a : Action) : Type 0 where
  live : {q : ℕ} {ms : Processes} → process_at P r ≡ node a q ms → get_or s.states r 0 ≡ 1
      → ((b : ℕ) → Memᴰ b (rows_beneath ms) → get_or s.states b 0 ≡ 0) → Live P s r a

-- the changes of a step: of row states, each made by a running row, and of data
abbrev pub becomes : ℕ → ℕ → ℕ → StateChange
becomes r x v = record { by = r; at = x; become = v }

abbrev pub effect : List StateChange → List Write → Effect
effect ms ws = record { changes = ms; writes = ws }

module _ (P : Program) (sheet : Sheet) where
  -- "One step is one of these, in a running row": a rule allows the step of a label, which has this effect
  pub data Allows (s : State) : Label → Effect → Type 0 where
    -- an assignment; subscript before expression
    assignment : {r a : ℕ} {v : Variable} {e f : Expr} {z : ℤ} → Live P s r (assign v e f)
        → index s.store.cells v.first v.size e ≡ At a → value s.store.cells f ≡ Number z
        → Allows s (own r) (effect (becomes r r 2 ∷ []) (write_cell a (some z) ∷ []))
    -- a WHILE test: false ends it
    while-false : {r b : ℕ} {e : Expr} → Live P s r (loop e b) → Refuted s.store.cells e
        → Allows s (own r) (effect (becomes r r 2 ∷ []) [])
    -- otherwise its body starts
    while-true : {r b : ℕ} {e : Expr} → Live P s r (loop e b) → Holds s.store.cells e
        → Allows s (own r) (effect (becomes r b 1 ∷ []) [])
    -- an IF starting its first true choice
    if-true : {r q : ℕ} {ts : List IfChoice} → Live P s r (conditional ts) → FirstTrue s.store.cells ts q
        → Allows s (own r) (effect (becomes r q 1 ∷ []) [])
    -- an input and an output on the same channel element: the value passes, or the absence, and both end
    communication : {r o d a : ℕ} {i : ChannelInput} {c : Channel} {e f : Expr} {m : Message} → Live P s r (input i) → Live P s o (output c e f)
        → InnerInput s.store i d a → InnerOutput s.store c e f d m
        → Allows s (pass r o) (effect (becomes r r 2 ∷ becomes o o 2 ∷ []) (write_cell a m ∷ []))
    -- a host read, if values are left
    host-read : {r a n : ℕ} {i : ChannelInput} {v : Message} → Live P s r (input i) → HostInput sheet s.store i a v n
        → Allows s (own r) (effect (becomes r r 2 ∷ []) (write_cell a v ∷ write_place i.channel.number (suc n) ∷ []))
    -- a host write, if capacity is left
    host-write : {r d : ℕ} {c : Channel} {e f : Expr} {m : Message} {l : List Message} → Live P s r (output c e f) → c.host ≡ true
        → index s.store.cells c.first c.size e ≡ At d → Passes s.store.cells f m
        → get_or s.store.outputs c.number [] ≡ l → length l < c.capacity
        → Allows s (own r) (effect (becomes r r 2 ∷ []) (write_output c.number (l ++ (m ∷ [])) ∷ []))
    -- an ALT taking an option whose boolean is true and whose guard is SKIP
    alt-skip : {r : ℕ} {bs : List AltOption} {b : AltOption} → Live P s r (alternation bs) → AllComplete s.store.cells bs → Memᴰ b bs
        → Holds s.store.cells b.guard.boolean → b.guard.input ≡ none
        → Allows s (take_option r b.row) (effect (becomes r b.process 1 ∷ []) [])
    -- or whose input could now take place, from the host
    alt-read : {r a n : ℕ} {bs : List AltOption} {b : AltOption} {i : ChannelInput} {v : Message} → Live P s r (alternation bs) → AllComplete s.store.cells bs → Memᴰ b bs
        → Holds s.store.cells b.guard.boolean → b.guard.input ≡ some i → HostInput sheet s.store i a v n
        → Allows s (take_option r b.row) (effect (becomes r b.process 1 ∷ []) (write_cell a v ∷ write_place i.channel.number (suc n) ∷ []))
    -- or from an output
    alt-communication : {r o d a : ℕ} {bs : List AltOption} {b : AltOption} {i : ChannelInput} {c : Channel} {e f : Expr} {m : Message}
        → Live P s r (alternation bs) → AllComplete s.store.cells bs → Memᴰ b bs → Live P s o (output c e f)
        → Holds s.store.cells b.guard.boolean → b.guard.input ≡ some i → InnerInput s.store i d a → InnerOutput s.store c e f d m
        → Allows s (take_with_output r b.row o) (effect (becomes r b.process 1 ∷ becomes o o 2 ∷ []) (write_cell a m ∷ []))
    -- a stop
    stopping : {r k : ℕ} {a : Action} → Live P s r a → Lacks s.store.cells a k
        → Allows s (own r) (effect (becomes r r (10 + k) ∷ []) [])

-- "after settling": the effect's changes are made, and then the state settles; nothing else changes
abbrev pub Leaves : Program → State → Effect → State → Type 0
Leaves P s e t = SettlesTo (whole P) (changed e s) t

-- a step from a state to the next: some rule allows it, and its effect leaves that state
pub record Step (P : Program) (sheet : Sheet) (s : State) (x : Label) (t : State) : Type 0 where
  pub does : Effect
  pub allowed : Allows P sheet s x does
  pub leaves : Leaves P s does t
