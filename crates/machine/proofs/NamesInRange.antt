-- What the process at a row names is declared: its variables' elements are cells, its host channels have host channels. It holds of every table.
use mathlib.Core.Path.{◌≡◌}
use mathlib.Core.Logic.{inl, inr}
use mathlib.Core.Bool.{true}
use mathlib.Core.Option.{Option, none, some}
use mathlib.Core.List.{List, [], ◌∷◌}
use Prim.Native.Nat.{ℕ, ◌<◌}
use native.Mathlib.Omega.{arith}
use lib.IntN.{ℤ}
use lib.ListN.{get_or}
use Rattle.meaning.specs.declared.Node.{Node}
use Rattle.meaning.specs.declared.Node.TheVariants.{Literal, Element, Monadic, Dyadic, Stop, Skip, Assignment, Input, Output, Seq, Par, If, While, Alt, Block, Member, Choice, OptionRow, Guard, Other}
use Rattle.meaning.specs.Declarations.{Channel, sink_at, host_channels}
use Rattle.meaning.specs.Nodes.{node_at}
use Rattle.meaning.specs.Tree.{ChannelInput, AltOption, Action, stop, skip, sequence, parallel, assign, input, output, conditional, loop, alternation, block, Process, Content, no_content, content_of, content_at, or_stop, action_of}
use Rattle.meaning.specs.State.{program, process_at}
use Rattle.meaning.specs.Buffers.{capacities}
use Rattle.meaning.specs.ContentClaims.{higher_content}
use Rattle.agreement.proofs.TableTree.{process-is, Known, every-row}
use Rattle.machine.proofs.Declared.{CellsIn, variable-in, source-below, sink-below, sink-capacity}

module _ (rows : List ℤ) where
  -- the port of a channel from the host; that of one to the host, and its capacity
  abbrev pub SourceIn : Channel → Type 0
  SourceIn c = c.host ≡ true → c.number < host_channels 1 rows

  abbrev pub SinkIn : Channel → Type 0
  SinkIn c = c.host ≡ true → (c.number < host_channels 2 rows) × (get_or (capacities rows) c.number 0 ≡ c.capacity)

  abbrev pub ReceiveIn : ChannelInput → Type 0
  ReceiveIn i = SourceIn i.channel × CellsIn rows i.target.name

  abbrev pub GuardIn : Option ChannelInput → Type 0
  GuardIn none = Unit {0}
  GuardIn (some i) = ReceiveIn i

  abbrev pub OptionsIn : List AltOption → Type 0
  OptionsIn [] = Unit {0}
  OptionsIn (b ∷ l) = GuardIn b.guard.input × OptionsIn l

  -- what an action names
  abbrev pub ActionIn : Action → Type 0
  ActionIn stop = Unit {0}
  ActionIn skip = Unit {0}
  ActionIn sequence = Unit {0}
  ActionIn parallel = Unit {0}
  ActionIn (assign v e f) = CellsIn rows v
  ActionIn (input i) = ReceiveIn i
  ActionIn (output c e f) = SinkIn c
  ActionIn (conditional ts) = Unit {0}
  ActionIn (loop e b) = Unit {0}
  ActionIn (alternation bs) = OptionsIn bs
  ActionIn (block v) = CellsIn rows v

  abbrev ProcessIn : Option Process → Type 0
  ProcessIn none = Unit {0}
  ProcessIn (some p) = ActionIn (action_of p)

  abbrev PartIn : ℕ → Content → Type 0
  PartIn r p = CellsIn rows p.target.name × GuardIn p.guard.input × OptionsIn p.options × ProcessIn p.process

  no_cells : CellsIn rows no_content.target.name
  no_cells i l = absurd (omega arith)

  nothing : (r : ℕ) → PartIn r no_content
  nothing r = (no_cells, tt, tt, tt)

  sink-in : (a : ℕ) → SinkIn (sink_at rows a)
  sink-in a h = (sink-below rows a h, sink-capacity rows a h)

  part_in : (r : ℕ) (at : ℕ → Content) → ((b : ℕ) → PartIn b (at b)) → (k : Node) → PartIn r (content_of rows r at k)
  part_in r at h (Literal x) = nothing r
  part_in r at h (Element a b) = (variable-in rows a, tt, tt, tt)
  part_in r at h (Monadic a b) = nothing r
  part_in r at h (Dyadic a b c) = nothing r
  part_in r at h Stop = nothing r
  part_in r at h Skip = nothing r
  part_in r at h (Assignment a b c) = (no_cells, tt, tt, variable-in rows a)
  part_in r at h (Input a b c) = (no_cells, (source-below rows a, (h c).0), tt, (source-below rows a, (h c).0))
  part_in r at h (Output a b c) = (no_cells, tt, tt, sink-in a)
  part_in r at h (Seq a) = nothing r
  part_in r at h (Par a) = nothing r
  part_in r at h (If a) = nothing r
  part_in r at h (While a b) = nothing r
  part_in r at h (Alt a) = (no_cells, tt, tt, (h a).2)
  part_in r at h (Block a b) = (no_cells, tt, tt, variable-in rows a)
  part_in r at h (Member a b) = nothing r
  part_in r at h (Choice a b c) = nothing r
  part_in r at h (OptionRow a b c) = (no_cells, tt, ((h c).1, (h b).2), tt)
  part_in r at h (Guard a b) = (no_cells, (h b).1, tt, tt)
  part_in r at h Other = nothing r

  of-known : (r b : ℕ) (p : Content) → Known rows PartIn r b p → PartIn b p
  of-known r b p (inl e) = rw e (nothing b)
  of-known r b p (inr h) = h.3

  every-part : (r : ℕ) → PartIn r (content_at rows r)
  every-part = every-row rows PartIn nothing (λ r l e h. part_in r (higher_content rows r) (λ b. of-known r b (higher_content rows r b) (h b)) (node_at rows r))

  or-stop : (o : Option Process) → ProcessIn o → ActionIn (action_of (or_stop o))
  or-stop none h = tt
  or-stop (some p) h = h

  -- what the process at a row names
  pub names_in : (r : ℕ) → ActionIn (action_of (process_at (program rows) r))
  names_in r = rw (process-is rows r) (or-stop (content_at rows r).process (every-part r).3)
