-- What stands at each row of a table, by induction from its end. Of every table: each process of the tree stands at its own row, and STOP, SKIP and actions have no members.
use mathlib.Core.Path.{◌≡◌, refl, sym, ap, subst, ◌∙◌}
use mathlib.Core.Logic.{◌⊎◌, inl, inr}
use mathlib.Core.Bool.{Bool, true, false}
use mathlib.Core.Option.{Option, none, some}
use mathlib.Core.List.{List}
use Prim.Native.Nat.{ℕ, zero, suc, ◌-◌, ◌<◌, ◌≤◌}
use native.Mathlib.Omega.{arith}
use native.Mathlib.Decide.{dec_lt}
use lib.IntN.{ℤ}
use lib.ListN.{get_or-map}
use lib.Dec.{ltb}
use borrow.Author.Tests.{ltb-true}
use Rattle.meaning.specs.declared.Node.{Node}
use Rattle.meaning.specs.declared.Node.TheVariants.{Literal, Element, Monadic, Dyadic, Stop, Skip, Assignment, Input, Output, Seq, Par, If, While, Alt, Block, Member, Choice, OptionRow, Guard, Other}
use Rattle.meaning.specs.Basics.{if_else}
use Rattle.meaning.specs.Rows.{row_count}
use Rattle.meaning.specs.Tree.{Action, stop, skip, sequence, parallel, assign, input, output, conditional, loop, alternation, block, Process, node, Processes, empty, also, Content, no_content, and_process, input_of, content_of, content_at, contents, or_stop, row_of, processes_in}
use Rattle.meaning.specs.ContentClaims.{higher_content}
use Rattle.meaning.specs.Declarations.{variable_at, sink_at}
use Rattle.meaning.specs.Nodes.{node_at}
use Rattle.meaning.specs.HigherRows.{last_rows, at_row}
use Rattle.meaning.proofs.PartLaws.{part-unfolds}
use Rattle.meaning.specs.State.{program, process_at}
use Rattle.agreement.proofs.Reach.{Sub, SubM, self, inside, front, back}
use Rattle.agreement.proofs.Settled.{PlainA, Plain, PlainM}

-- a process that is there, and one of those inside it
abbrev pub SubO : Action → ℕ → Processes → Option Process → Type 0
SubO k r ms none = ⊥
SubO k r ms (some p) = Sub k r ms p

abbrev PlainO : Option Process → Type 0
PlainO none = Unit {0}
PlainO (some p) = Plain p

abbrev Occupied : Processes → Type 0
Occupied empty = ⊥
Occupied (also p ps) = Unit {0}

occupied : {k : Action} {r : ℕ} {ms : Processes} (ps : Processes) → SubM k r ms ps → Occupied ps
occupied {k = k} {r = r} {ms = ms} empty h = elim h [ ]
occupied (also p ps) h = tt

module _ (rows : List ℤ) where
  pub part_at : (r : ℕ) → r < row_count rows → content_at rows r ≡ content_of rows r (higher_content rows r) (node_at rows r)
  part_at r = (part-unfolds rows r).0

  pub part-past : (r : ℕ) → row_count rows ≤ r → content_at rows r ≡ no_content
  part-past r = (part-unfolds rows r).1

  pub process-is : (r : ℕ) → process_at (program rows) r ≡ or_stop (content_at rows r).process
  unfolding process_at program contents content_at at_row
  process-is r = get_or-map (λ (p : Content). or_stop p.process) (last_rows no_content (λ r at. content_of rows r at (node_at rows r)) (row_count rows) (row_count rows)) r no_content

  -- of the row that a field of row r names: it is no higher row, or it is known already
  abbrev pub Known : (ℕ → Content → Type 0) → ℕ → ℕ → Content → Type 0
  Known Q r b p = (p ≡ no_content) ⊎ ((r < b) × (b < row_count rows) × (p ≡ content_at rows b) × Q b p)

  -- what holds of a row if it holds of the rows that it may refer to, and where nothing stands, holds of every row
  module _ (Q : ℕ → Content → Type 0) (nothing : (r : ℕ) → Q r no_content)
      (step : (r : ℕ) → r < row_count rows → content_at rows r ≡ content_of rows r (higher_content rows r) (node_at rows r) → ((b : ℕ) → Known Q r b (higher_content rows r b)) → Q r (content_of rows r (higher_content rows r) (node_at rows r))) where
    known : (r b : ℕ) (t : Bool) → ltb r b ≡ t → Dec (b < row_count rows) → ((c : ℕ) → r < c → Q c (content_at rows c)) → Known Q r b (if_else t (content_at rows b) no_content)
    known r b true e (yes l) f = inr (ltb-true r b e, l, refl, f b (ltb-true r b e))
    known r b true e (no l) f = inl (part-past b (omega arith))
    known r b false e d f = inl refl

    from_end : (k r : ℕ) → row_count rows - r ≤ k → Q r (content_at rows r)
    from_end zero r h = rw (part-past r (omega arith)) (nothing r)
    from_end (suc k) r h = go (dec_lt r (row_count rows)) (λ c l m. from_end k c (omega arith))
      where
        go : Dec (r < row_count rows) → ((c : ℕ) → r < row_count rows → r < c → Q c (content_at rows c)) → Q r (content_at rows r)
        go (yes l) f = subst (Q r) (sym (part_at r l)) (step r l (part_at r l) (λ b. known r b (ltb r b) refl (dec_lt b (row_count rows)) (λ c. f c l)))
        go (no l) f = rw (part-past r (omega arith)) (nothing r)

    pub every-row : (r : ℕ) → Q r (content_at rows r)
    every-row r = from_end (row_count rows - r) r (omega arith)

  -- the process stands at its row
  abbrev Stands : Action → ℕ → Processes → Type 0
  Stands k q ms = (content_at rows q).process ≡ some (node k q ms)

  abbrev ProcessOk : Option Process → Type 0
  ProcessOk o = ((k : Action) (q : ℕ) (ms : Processes) → SubO k q ms o → Stands k q ms) × PlainO o

  abbrev MembersOk : Processes → Type 0
  MembersOk ps = ((k : Action) (q : ℕ) (ms : Processes) → SubM k q ms ps → Stands k q ms) × PlainM ps

  abbrev PartOk : ℕ → Content → Type 0
  PartOk r p = ProcessOk p.process × MembersOk p.listed

  nothing : ProcessOk none
  nothing = (λ k q ms h. absurd h, tt)

  none_in : MembersOk empty
  none_in = (λ k q ms h. absurd (occupied empty h), tt)

  and-member : (o : Option Process) (ps : Processes) → ProcessOk o → MembersOk ps → MembersOk (and_process o ps)
  and-member none ps f g = g
  and-member (some p) ps f g = (both, (f.1, g.1))
    where
      both : (k : Action) (q : ℕ) (ms : Processes) → SubM k q ms (also p ps) → Stands k q ms
      both k q ms (front h) = f.0 k q ms h
      both k q ms (back h) = g.0 k q ms h

  one : (k : Action) (r : ℕ) (ps : Processes) → Stands k r ps → PlainA k ps → MembersOk ps → ProcessOk (some (node k r ps))
  one k r ps e a g = (λ j q ms h. here (node k r ps) h e g, (a, g.1))
    where
      here : {j : Action} {q : ℕ} {ms : Processes} (p : Process) → Sub j q ms p → (content_at rows (row_of p)).process ≡ some p → MembersOk (processes_in p) → Stands j q ms
      here (node j q ms) self e g = e
      here {j} {q} {ms} (node k r ps) (inside h) e g = g.0 j q ms h

  module _ (r : ℕ) (at : ℕ → Content) (h : (b : ℕ) → PartOk b (at b)) where
    at_one : (k : Action) (ps : Processes) (p : Content) → content_at rows r ≡ p → p.process ≡ some (node k r ps) → PlainA k ps → MembersOk ps → ProcessOk (some (node k r ps))
    at_one k ps p e i = one k r ps (ap (λ (q : Content). q.process) e ∙ i)

    part-ok : (k : Node) → content_at rows r ≡ content_of rows r at k → PartOk r (content_of rows r at k)
    part-ok (Literal x) e = (nothing, none_in)
    part-ok (Element a b) e = (nothing, none_in)
    part-ok (Monadic a b) e = (nothing, none_in)
    part-ok (Dyadic a b c) e = (nothing, none_in)
    part-ok Stop e = (at_one stop empty (content_of rows r at Stop) e refl tt none_in, none_in)
    part-ok Skip e = (at_one skip empty (content_of rows r at Skip) e refl tt none_in, none_in)
    part-ok (Assignment a b c) e = (at_one (assign (variable_at rows a) (at b).expr (at c).expr) empty (content_of rows r at (Assignment a b c)) e refl tt none_in, none_in)
    part-ok (Input a b c) e = (at_one (input (input_of rows r at a b c)) empty (content_of rows r at (Input a b c)) e refl tt none_in, none_in)
    part-ok (Output a b c) e = (at_one (output (sink_at rows a) (at b).expr (at c).expr) empty (content_of rows r at (Output a b c)) e refl tt none_in, none_in)
    part-ok (Seq a) e = (at_one sequence (at a).listed (content_of rows r at (Seq a)) e refl tt (h a).1, none_in)
    part-ok (Par a) e = (at_one parallel (at a).listed (content_of rows r at (Par a)) e refl tt (h a).1, none_in)
    part-ok (If a) e = (at_one (conditional (at a).tests) (at a).listed (content_of rows r at (If a)) e refl tt (h a).1, none_in)
    part-ok (While a b) e = (at_one (loop (at a).expr b) (and_process (at b).process empty) (content_of rows r at (While a b)) e refl tt (and-member (at b).process empty (h b).0 none_in), none_in)
    part-ok (Alt a) e = (at_one (alternation (at a).options) (at a).listed (content_of rows r at (Alt a)) e refl tt (h a).1, none_in)
    part-ok (Block a b) e = (at_one (block (variable_at rows a)) (and_process (at b).process empty) (content_of rows r at (Block a b)) e refl tt (and-member (at b).process empty (h b).0 none_in), none_in)
    part-ok (Member a b) e = (nothing, and-member (at a).process (at b).listed (h a).0 (h b).1)
    part-ok (Choice a b c) e = (nothing, and-member (at a).process (at b).listed (h a).0 (h b).1)
    part-ok (OptionRow a b c) e = (nothing, and-member (at a).process (at b).listed (h a).0 (h b).1)
    part-ok (Guard a b) e = (nothing, none_in)
    part-ok Other e = (nothing, none_in)

  of-known : (r b : ℕ) (p : Content) → Known PartOk r b p → PartOk b p
  of-known r b p (inl e) = rw e (nothing, none_in)
  of-known r b p (inr h) = h.3

  every-part : (r : ℕ) → PartOk r (content_at rows r)
  every-part = every-row PartOk (λ r. (nothing, none_in)) (λ r l e h. part-ok r (higher_content rows r) (λ b. of-known r b (higher_content rows r b) (h b)) (node_at rows r) e)

  -- a process inside that of a row stands at its own row
  pub stands : (r : ℕ) (k : Action) (q : ℕ) (ms : Processes) → SubO k q ms (content_at rows r).process → (content_at rows q).process ≡ some (node k q ms)
  stands r = (every-part r).0.0

  plain-or-stop : (o : Option Process) → PlainO o → Plain (or_stop o)
  plain-or-stop none h = (tt, tt)
  plain-or-stop (some p) h = h

  -- in the process of a row STOP, SKIP and actions have no members
  pub plain : (r : ℕ) → Plain (process_at (program rows) r)
  plain r = rw (process-is r) (plain-or-stop (content_at rows r).process (every-part r).0.1)
