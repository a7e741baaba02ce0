-- In an accepted table what a row and its options would do is in range: cells, elements, host channels, and the rows that start.
use mathlib.Core.Path.{◌≡◌, refl, sym, ap, subst, ◌∙◌}
use mathlib.Core.Logic.{inl, inr}
use mathlib.Core.Bool.{Bool, true, false, ◌&&◌, ◌||◌, false≢true}
use mathlib.Core.Option.{Option, none, some}
use mathlib.Core.List.{List, [], ◌∷◌}
use Prim.Native.Nat.{ℕ, suc, ◌+◌, ◌<◌, ◌≤◌}
use native.Mathlib.Omega.{arith}
use lib.IntN.{ℤ, pos, negsuc}
use lib.Dec.{ltb, eqb}
use lib.ListN.{get_or}
use borrow.Author.Tests.{ltb-true}
use Rattle.meaning.specs.declared.Node.{Node}
use Rattle.meaning.specs.declared.Node.TheVariants.{Literal, Element, Monadic, Dyadic, Stop, Skip, Assignment, Input, Output, Seq, Par, If, While, Alt, Block, Member, Choice, OptionRow, Guard, Other}
use Rattle.meaning.specs.declared.Value.{Value}
use Rattle.meaning.specs.declared.Value.TheVariants.{Number, Missing}
use Rattle.meaning.specs.declared.Index.{Index}
use Rattle.meaning.specs.declared.Index.TheVariants.{At, Fails}
use Rattle.meaning.specs.Basics.{if_else}
use Rattle.meaning.specs.Rows.{row_count, natural_of, natural_at, kind_at}
use Rattle.meaning.specs.Declarations.{declarations, Variable, Channel, no_channel, sum_below, has_role, is_channel, elements_at, host_channels_at, capacity_at, channel_at, source_at, sink_at, host_channels}
use Rattle.meaning.specs.Faults.{WithinLimits, Leads}
use Rattle.meaning.specs.Kinds.{Shape, processes, reference}
use Rattle.meaning.specs.References.{Column, of-a, of-b, field_of, number_of}
use Rattle.meaning.specs.Nodes.{node_at}
use Rattle.meaning.specs.Tree.{Expr, ChannelInput, IfChoice, AltOption, Action, stop, skip, sequence, parallel, assign, input, output, conditional, loop, alternation, block, Process, Content, no_content, content_of, content_at, or_stop, action_of}
use Rattle.meaning.specs.Values.{Message, is_true, in_array, value, index, Sent, gives, lacking, passed}
use Rattle.meaning.specs.State.{program, process_at}
use Rattle.meaning.specs.Answers.{check}
use Rattle.meaning.specs.ContentClaims.{higher_content}
use Rattle.meaning.proofs.AnswerLaws.{RightRows, accepted}
use Rattle.agreement.proofs.TableFit.{rows-limit}
use Rattle.agreement.proofs.TableTree.{process-is, Known, every-row}
use Rattle.agreement.proofs.TableReferences.{while-shape, choice-shape, option-shape, Shaped, Holding, Fields, fields-are, leads-at}
use Rattle.machine.proofs.Declared.{CellsIn, cell_below, room}
use Rattle.machine.proofs.NamesInRange.{SinkIn, ReceiveIn, GuardIn, OptionsIn, ActionIn, names_in}
use Rattle.machine.proofs.Numbered.{sum_past, sum_bound}
use Rattle.run_code.specs.Prepared.{host_note}
use Rattle.run_values.specs.Sending.{coded}
use Rattle.run_intents.specs.declared.Does.{Does}
use Rattle.run_intents.specs.declared.Does.TheVariants.{Waits, Stops, Assigns, Ends, Starts, Reads, Writes, InputsFrom, OutputsTo, Selects}
use Rattle.run_intents.specs.Does.{on_host, assignment, tested, when_true, host_read, host_write, received, sent, choices_do, input_does, output_does, guard_does, guarded_does, does_of}
use Rattle.run_intents.specs.Stands.{OptionNote, options_of, option_notes}

abbrev pub InRange : Does → Type 0
InRange Waits = Unit {0}
InRange (Stops k) = Unit {0}
InRange (Assigns a v) = a < 256
InRange Ends = Unit {0}
InRange (Starts q) = q < 1024
InRange (Reads a p) = (a < 256) × (p < 8)
InRange (Writes p m) = p < 8
InRange (InputsFrom e a) = (e < 256) × (a < 256)
InRange (OutputsTo e m) = e < 256
InRange Selects = Unit {0}

-- the same of each option's note, and the rows of its process
abbrev pub NotesInRange : List OptionNote → Type 0
NotesInRange [] = Unit {0}
NotesInRange (n ∷ ns) = InRange n.does × (n.process < 1024) × NotesInRange ns

-- ---- the elements of a channel

abbrev ElementsIn : Channel → Type 0
ElementsIn c = (i : ℕ) → i < c.size → c.first + i < 256

and_first : (s t : Bool) → (s && t) ≡ true → s ≡ true
and_first true t e = refl
and_first false t e = absurd (false≢true e)

-- an element that a subscript means
element-in : (cells : List Message) (c : Channel) (e : Expr) (a : ℕ) → ElementsIn c → index cells c.first c.size e ≡ At a → a < 256
unfolding index in_array
element-in cells c e a f q = go (value cells e) q
  where
    at-is : (x y : ℕ) → At x ≡ At y → x ≡ y
    at-is x y p = cc

    go : (v : Value) → in_array c.first c.size v ≡ At a → a < 256
    go (Number (pos i)) q = by (ltb i c.size) refl q
      where
        by : (t : Bool) → ltb i c.size ≡ t → if_else t (At (c.first + i)) (Fails 2) ≡ At a → a < 256
        by true l p = rw (sym (at-is (c.first + i) a p)) (f i (ltb-true i c.size l))
        by false l p = let z : ◌≡◌ {A = ℕ} 0 1 = cc in absurd (omega arith)
    go (Number (negsuc i)) q = let z : ◌≡◌ {A = ℕ} 0 1 = cc in absurd (omega arith)
    go (Missing k) q = let z : ◌≡◌ {A = ℕ} 0 1 = cc in absurd (omega arith)

module _ (rows : List ℤ) (ok : check rows ≡ none) where
  A : RightRows rows
  A = (accepted rows).0 ok

  all-elements : sum_below (elements_at rows) (declarations rows) ≤ 256
  unfolding WithinLimits
  all-elements = sum_bound (elements_at rows) 256 (declarations rows) (λ r l. (A.3 r l).1)

  channel-in : (role a : ℕ) → ElementsIn (channel_at role rows a)
  unfolding channel_at elements_at
  channel-in role a = go (has_role 0 rows a || has_role role rows a)
    where
      c : Channel
      c = record { first = sum_below (elements_at rows) a; size = elements_at rows a; host = has_role role rows a; number = sum_below (host_channels_at role rows) a; capacity = capacity_at rows a }

      inner : (t : Bool) → is_channel rows a ≡ t → (i : ℕ) → i < if_else t (natural_at rows a 1) 0 → sum_below (elements_at rows) a + i < 256
      inner true e i l = let s = sum_past (elements_at rows) a (declarations rows) (ltb-true a (declarations rows) (and_first (ltb a (declarations rows)) (eqb (kind_at rows a) 2) e)) in let z : elements_at rows a ≡ natural_at rows a 1 = rw e in omega (arith, all-elements)
      inner false e i l = absurd (omega arith)

      go : (t : Bool) → ElementsIn (if_else t c no_channel)
      go true i l = inner (is_channel rows a) refl i l
      go false i l = absurd (omega arith)

  -- ---- what an action names beside its cells and host channels

  abbrev GuardFits : Option ChannelInput → Type 0
  GuardFits none = Unit {0}
  GuardFits (some i) = ElementsIn i.channel

  abbrev TestsFit : List IfChoice → Type 0
  TestsFit [] = Unit {0}
  TestsFit (t ∷ l) = (t.process < 1024) × TestsFit l

  abbrev OptionsFit : List AltOption → Type 0
  OptionsFit [] = Unit {0}
  OptionsFit (b ∷ l) = (b.process < 1024) × GuardFits b.guard.input × OptionsFit l

  abbrev ActionFits : Action → Type 0
  ActionFits stop = Unit {0}
  ActionFits skip = Unit {0}
  ActionFits sequence = Unit {0}
  ActionFits parallel = Unit {0}
  ActionFits (assign v e f) = Unit {0}
  ActionFits (input i) = ElementsIn i.channel
  ActionFits (output c e f) = ElementsIn c
  ActionFits (conditional ts) = TestsFit ts
  ActionFits (loop e b) = b < 1024
  ActionFits (alternation bs) = OptionsFit bs
  ActionFits (block v) = Unit {0}

  abbrev ProcessFits : Option Process → Type 0
  ProcessFits none = Unit {0}
  ProcessFits (some p) = ActionFits (action_of p)

  abbrev PartFits : ℕ → Content → Type 0
  PartFits r p = GuardFits p.guard.input × TestsFit p.tests × OptionsFit p.options × ProcessFits p.process

  nothing : (r : ℕ) → PartFits r no_content
  nothing r = (tt, tt, tt, tt)

  -- a field that must refer to a process holds a row of the table
  held-row : (r k b : ℕ) (s : Shape) (c : Column) → r < row_count rows → Shaped rows r k s → field_of s c ≡ reference processes → Holding rows r c b → b < 1024
  unfolding Leads
  held-row r k b s c l e q f =
      let a = subst (λ x. Leads rows r x (number_of rows r c)) q (leads-at rows A r k s l e c) in
      let i : b ≡ a.0 = sym f ∙ ap natural_of a.1 in
      let few = rows-limit rows ok in
      let m = a.2.1 in
      omega arith

  part-fits : (r : ℕ) → r < row_count rows → (at : ℕ → Content) → ((b : ℕ) → PartFits b (at b)) → (k : Node) → Fields rows r k → PartFits r (content_of rows r at k)
  unfolding source_at sink_at
  part-fits r l at h (Literal x) f = nothing r
  part-fits r l at h (Element a b) f = nothing r
  part-fits r l at h (Monadic a b) f = nothing r
  part-fits r l at h (Dyadic a b c) f = nothing r
  part-fits r l at h Stop f = nothing r
  part-fits r l at h Skip f = nothing r
  part-fits r l at h (Assignment a b c) f = nothing r
  part-fits r l at h (Input a b c) f = (channel-in 1 a, tt, tt, channel-in 1 a)
  part-fits r l at h (Output a b c) f = (tt, tt, tt, channel-in 2 a)
  part-fits r l at h (Seq a) f = nothing r
  part-fits r l at h (Par a) f = nothing r
  part-fits r l at h (If a) f = (tt, tt, tt, (h a).1)
  part-fits r l at h (While a b) f = (tt, tt, tt, held-row r 33 b while-shape of-b l f.0 refl f.1)
  part-fits r l at h (Alt a) f = (tt, tt, tt, (h a).2)
  part-fits r l at h (Block a b) f = nothing r
  part-fits r l at h (Member a b) f = nothing r
  part-fits r l at h (Choice a b c) f = (tt, (held-row r 41 a choice-shape of-a l f.0 refl f.1, (h b).1), tt, tt)
  part-fits r l at h (OptionRow a b c) f = (tt, tt, (held-row r 42 a option-shape of-a l f.0 refl f.1, (h c).0, (h b).2), tt)
  part-fits r l at h (Guard a b) f = ((h b).0, tt, tt, tt)
  part-fits r l at h Other f = nothing r

  of-known : (r b : ℕ) (p : Content) → Known rows PartFits r b p → PartFits b p
  of-known r b p (inl e) = rw e (nothing b)
  of-known r b p (inr h) = h.3

  every-part : (r : ℕ) → PartFits r (content_at rows r)
  every-part = every-row rows PartFits nothing (λ r l e h. part-fits r l (higher_content rows r) (λ b. of-known r b (higher_content rows r b) (h b)) (node_at rows r) (fields-are rows r))

  or-stop : (o : Option Process) → ProcessFits o → ActionFits (action_of (or_stop o))
  or-stop none h = tt
  or-stop (some p) h = h

  action-fits : (r : ℕ) → ActionFits (action_of (process_at (program rows) r))
  action-fits r = rw (process-is rows r) (or-stop (content_at rows r).process (every-part r).3)

  -- ---- what is done is in range

  module _ (lines : ℕ) (cells : List Message) (places counts : List ℕ) where
    few-cells : (v : Variable) (e : Expr) (a : ℕ) → CellsIn rows v → index cells v.first v.size e ≡ At a → a < 256
    few-cells v e a k q = let b = cell_below rows cells v a e k q in let R = (room rows ok).cells in omega arith

    assignment-in : (v : Variable) (e : Expr) (w : Value) → CellsIn rows v → InRange (assignment (index cells v.first v.size e) w)
    assignment-in v e w k = go (index cells v.first v.size e) refl w
      where
        go : (i : Index) → index cells v.first v.size e ≡ i → (w : Value) → InRange (assignment i w)
        go (Fails k) q w = tt
        go (At a) q (Missing k) = tt
        go (At a) q (Number x) = few-cells v e a k q

    tested-in : (b : ℕ) (v : Value) → b < 1024 → InRange (tested b v)
    tested-in b (Missing k) h = tt
    tested-in b (Number x) h = go (is_true x)
      where
        go : (t : Bool) → InRange (if_else t (Starts b) Ends)
        go true = h
        go false = tt

    when-in : (v : Value) (d e : Does) → InRange d → InRange e → InRange (when_true v d e)
    when-in (Missing k) d e f g = tt
    when-in (Number x) d e f g = go (is_true x)
      where
        go : (t : Bool) → InRange (if_else t d e)
        go true = f
        go false = g

    choices-in : (ts : List IfChoice) → TestsFit ts → InRange (choices_do cells ts)
    choices-in [] h = tt
    choices-in (t ∷ l) h = when-in (value cells t.boolean) (Starts t.process) (choices_do cells l) h.0 (choices-in l h.1)

    input-in : (i : ChannelInput) → ReceiveIn rows i → ElementsIn i.channel → InRange (input_does lines cells places i)
    unfolding input_does
    input-in i k f = go (index cells i.channel.first i.channel.size i.subscript) refl (index cells i.target.name.first i.target.name.size i.target.subscript) refl
      where
        go : (e : Index) → index cells i.channel.first i.channel.size i.subscript ≡ e → (t : Index) → index cells i.target.name.first i.target.name.size i.target.subscript ≡ t
            → InRange (received places lines (host_note i.channel) e t)
        go (Fails n) p t q = tt
        go (At e) p (Fails n) q = tt
        go (At e) p (At a) q = by i.channel.host k.0
          where
            left : (t : Bool) → i.channel.number < 8 → InRange (if_else t (Reads a i.channel.number) Waits)
            left true l = (few-cells i.target.name i.target.subscript a k.1 q, l)
            left false l = tt

            by : (t : Bool) → (t ≡ true → i.channel.number < host_channels 1 rows) → InRange (on_host (if_else t (suc i.channel.number) 0) (host_read places lines a) (InputsFrom e a))
            by true s = let m = s refl in let R = (room rows ok).places in left (ltb (get_or places i.channel.number 0) lines) (omega arith)
            by false s = (element-in cells i.channel i.subscript e f p, few-cells i.target.name i.target.subscript a k.1 q)

    output-in : (c : Channel) (e f : Expr) → SinkIn rows c → ElementsIn c → InRange (output_does cells counts c e f)
    unfolding output_does
    output-in c e f k g = go (index cells c.first c.size e) refl (passed cells f)
      where
        go : (i : Index) → index cells c.first c.size e ≡ i → (v : Sent) → InRange (sent counts (host_note c) c.capacity i v)
        go (Fails n) q v = tt
        go (At a) q (lacking n) = tt
        go (At a) q (gives w) = by c.host (λ h. (k h).0)
          where
            left : (t : Bool) → c.number < 8 → InRange (if_else t (Writes c.number (coded w)) Waits)
            left true l = l
            left false l = tt

            by : (t : Bool) → (t ≡ true → c.number < host_channels 2 rows) → InRange (on_host (if_else t (suc c.number) 0) (host_write counts c.capacity (coded w)) (OutputsTo a (coded w)))
            by true s = let m = s refl in let R = (room rows ok).outputs in left (ltb (get_or counts c.number 0) c.capacity) (omega arith)
            by false s = element-in cells c e a g q

    guard-in : (q : ℕ) (i : Option ChannelInput) → q < 1024 → GuardIn rows i → GuardFits i → InRange (guard_does lines cells places q i)
    guard-in q none l k f = l
    guard-in q (some i) l k f = input-in i k f

    options-in : (bs : List AltOption) → OptionsIn rows bs → OptionsFit bs → NotesInRange (option_notes lines cells places bs)
    unfolding guarded_does
    options-in [] k f = tt
    options-in (b ∷ l) k f = (when-in (value cells b.guard.boolean) (guard_does lines cells places b.process b.guard.input) Waits (guard-in b.process b.guard.input f.0 k.0 f.1) tt, f.0, options-in l k.1 f.2)

    action-in : (a : Action) → ActionIn rows a → ActionFits a → InRange (does_of lines cells places counts a) × NotesInRange (option_notes lines cells places (options_of a))
    unfolding does_of
    action-in stop k f = (tt, tt)
    action-in skip k f = (tt, tt)
    action-in sequence k f = (tt, tt)
    action-in parallel k f = (tt, tt)
    action-in (assign v e w) k f = (assignment-in v e (value cells w) k, tt)
    action-in (input i) k f = (input-in i k f, tt)
    action-in (output c e w) k f = (output-in c e w k f, tt)
    action-in (conditional ts) k f = (choices-in ts f, tt)
    action-in (loop e b) k f = (tested-in b (value cells e) f, tt)
    action-in (alternation bs) k f = (tt, options-in bs k f)
    action-in (block v) k f = (tt, tt)

    -- what row r would do, and its options
    pub row-in-range : (r : ℕ) → let a = action_of (process_at (program rows) r) in InRange (does_of lines cells places counts a) × NotesInRange (option_notes lines cells places (options_of a))
    row-in-range r = action-in (action_of (process_at (program rows) r)) (names_in rows r) (action-fits r)
