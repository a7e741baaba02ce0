-- In an accepted table a process is a member of one process, and the root of none: each row is referred to once.
use mathlib.Core.Path.{◌≡◌, refl, sym, ap, subst, ◌∙◌}
use mathlib.Core.Logic.{◌≢◌, ◌⊎◌, inl, inr}
use mathlib.Core.Bool.{Bool}
use mathlib.Core.Option.{Option, none, some}
use mathlib.Core.List.Memᴰ
use mathlib.Core.List.{List, [], Memᴰ}
use Prim.Native.Nat.{ℕ, ◌<◌}
use native.Mathlib.Omega.{arith}
use native.Mathlib.Decide.{dec_lt}
use lib.IntN.{ℤ}
use lib.ListN.{length}
use lib.Dec.{T}
use Rattle.meaning.specs.declared.Node.{Node}
use Rattle.meaning.specs.declared.Node.TheVariants.{Literal, Element, Monadic, Dyadic, Stop, Skip, Assignment, Input, Output, Seq, Par, If, While, Alt, Block, Member, Choice, OptionRow, Guard, Other}
use Rattle.meaning.specs.Basics.{among, lowest, Lowest}
use Rattle.meaning.specs.Rows.{row_count}
use Rattle.meaning.specs.Kinds.{Shape}
use Rattle.meaning.specs.Declarations.{declarations, root}
use Rattle.meaning.specs.Nodes.{node_at}
use Rattle.meaning.specs.References.{of-a, of-b, field_of, Refers}
use Rattle.meaning.specs.Faults.{Placed}
use Rattle.meaning.specs.Tree.{Process, Processes, empty, Content, no_content, and_process, content_of, content_at, or_stop, row_of, processes_in, process_rows}
use Rattle.meaning.specs.State.{Program, program, process_at}
use Rattle.meaning.specs.Answers.{check}
use Rattle.meaning.proofs.AnswerLaws.{RightRows, accepted}
use Rattle.meaning.proofs.LowestLaws.{lowest-is}
use Rattle.meaning.proofs.ReferenceCounts.{a-not-b}
use Rattle.agreement.proofs.Separate.{processes-length}
use Rattle.meaning.specs.ContentClaims.{higher_content}
use Rattle.agreement.proofs.TableTree.{part-past, process-is, Known, every-row}
use Rattle.agreement.proofs.TableReferences.{members-shape, while-shape, block-shape, member-shape, choice-shape, option-shape, Leading, Shaped, Holding, Fields, fields-are, refers_to, refers-up, placed_at, once}
use Rattle.machine.specs.Upward.{parent_of}
use Rattle.machine.proofs.Parents.{among-is, is_among, own_row, parent-has}

module _ (rows : List ℤ) (A : RightRows rows) where
  -- row c that holds a member, and the rows after it that hold the next ones
  data Links (c : ℕ) : ℕ → Type 0 where
    this : Links c c
    next : {i j : ℕ} → Links c i → Refers rows i of-b j → Links c j

  links-from : (r : ℕ) {c j : ℕ} → Refers rows r of-b c → Links c j → Links r j
  links-from r f this = next this f
  links-from r f (next h g) = next (links-from r f h) g

  -- rows of members that begin at two processes have no row in common
  one-first : (r q : ℕ) {c d j : ℕ} → Refers rows r of-a c → Refers rows q of-a d → Links c j → Links d j → r ≡ q
  one-first r q {c} f g this this = (once rows A r q c of-a of-a f g).0
  one-first r q {c} f g this (next {i} h k) = absurd (a-not-b (once rows A r i c of-a of-b f k).1)
  one-first r q {d} f g (next {i} h k) this = absurd (a-not-b (once rows A q i d of-a of-b g k).1)
  one-first r q f g (next {i} {j} h k) (next {i = i'} h' k') = one-first r q f g h (rw (once rows A i i' j of-b of-b k k').0 h')

  -- x is a member that a row of members holds, of those that begin at row c
  abbrev HeldFrom : ℕ → ℕ → Type 0
  HeldFrom c x = (j : ℕ) × Links c j × Refers rows j of-a x

  -- x is a member of the process at row q: one that a row of members holds, or the process of a WHILE
  abbrev MemberOf : ℕ → ℕ → Type 0
  MemberOf q x = ((c : ℕ) × Refers rows q of-a c × HeldFrom c x) ⊎ Refers rows q of-b x

  -- so it is of no other process
  one_of : (q r x : ℕ) → MemberOf q x → MemberOf r x → q ≡ r
  one_of q r x (inl (c, f, (j, h, k))) (inl (d, g, (i, h', k'))) = one-first q r f g h (rw (once rows A j i x of-a of-a k k').0 h')
  one_of q r x (inl (c, f, (j, h, k))) (inr g) = absurd (a-not-b (once rows A j r x of-a of-b k g).1)
  one_of q r x (inr f) (inl (d, g, (i, h, k))) = absurd (a-not-b (once rows A i q x of-a of-b k f).1)
  one_of q r x (inr f) (inr g) = (once rows A q r x of-b of-b f g).0

  no-root : (q x : ℕ) → MemberOf q x → x ≢ declarations rows
  unfolding Placed
  no-root q x (inl (c, f, (j, h, k))) e = (placed_at rows A x (omega arith) (refers-up rows A j x of-a k).1).2 e j of-a k
  no-root q x (inr f) e = (placed_at rows A x (omega arith) (refers-up rows A q x of-b f).1).2 e q of-b f

  -- ---- what stands at each row

  abbrev ProcessHeld : ℕ → Option Process → Type 0
  ProcessHeld r none = Unit {0}
  ProcessHeld r (some p) = (x : ℕ) → Memᴰ x (process_rows (processes_in p)) → MemberOf r x

  abbrev PartHeld : ℕ → Content → Type 0
  PartHeld r p = ((x : ℕ) → Memᴰ x (process_rows p.listed) → HeldFrom r x) × ProcessHeld r p.process

  nothing : (r : ℕ) → PartHeld r no_content
  nothing r = (λ x m. absurd (Memᴰ.not-nil m), tt)

  -- a process without members
  alone : (r : ℕ) (x : ℕ) → Memᴰ x [] → MemberOf r x
  alone r x m = absurd (Memᴰ.not-nil m)

  module _ (r : ℕ) (l : r < row_count rows) (at : ℕ → Content) (known : (b : ℕ) → Known rows PartHeld r b (at b)) where
    -- the members that begin at a field of a process
    group : (k a : ℕ) (s : Shape) → Shaped rows r k s → Leading (field_of s of-a) → Holding rows r of-a a → (x : ℕ) → Memᴰ x (process_rows (at a).listed) → MemberOf r x
    group k a s h u e x = go (at a) (known a)
      where
        go : (p : Content) → Known rows PartHeld r a p → Memᴰ x (process_rows p.listed) → MemberOf r x
        go p (inl z) m = absurd (Memᴰ.not-nil (rw z at m))
        go p (inr i) m = inl (a, refers_to rows A r k a s of-a l h u e i.1, i.3.0 x m)

    -- the row of a process is that which the field holds
    its-row : (a x : ℕ) (o : Option Process) (ms : Processes) → ((p : Process) → o ≡ some p → row_of p ≡ a) → Memᴰ x (process_rows (and_process o ms)) → (x ≡ a) ⊎ Memᴰ x (process_rows ms)
    its-row a x none ms f m = inr m
    its-row a x (some p) ms f (Memᴰ.head e) = inl (e ∙ f p refl)
    its-row a x (some p) ms f (Memᴰ.tail m) = inr m

    -- a process that a field refers to, before other members
    first-or : (k a x : ℕ) (s : Shape) (ms : Processes) (W : Type 0) → (Refers rows r of-a x → W) → (Memᴰ x (process_rows ms) → W) → Shaped rows r k s → Leading (field_of s of-a) → Holding rows r of-a a
        → Memᴰ x (process_rows (and_process (at a).process ms)) → W
    first-or k a x s ms W f g h u e = go (at a) (known a)
      where
        pick : (b : ℕ) → b < row_count rows → Holding rows r of-a b → (x ≡ b) ⊎ Memᴰ x (process_rows ms) → W
        pick b z e (inl q) = f (rw q (refers_to rows A r k b s of-a l h u e z))
        pick b z e (inr m) = g m

        go : (p : Content) → Known rows PartHeld r a p → Memᴰ x (process_rows (and_process p.process ms)) → W
        go p (inl z) m = g (rw z at m)
        go p (inr i) m = pick a i.1 e (its-row a x p.process ms (λ q z. own_row rows a q (sym (ap (λ (c : Content). c.process) i.2) ∙ z)) m)

    -- the process of a WHILE or a block
    body : (k b : ℕ) (s : Shape) → Leading (field_of s of-b) → Shaped rows r k s × Holding rows r of-b b → (x : ℕ) → Memᴰ x (process_rows (and_process (at b).process empty)) → MemberOf r x
    body k b s u f x = go (at b) (known b)
      where
        pick : b < row_count rows → (x ≡ b) ⊎ Memᴰ x [] → MemberOf r x
        pick z (inl q) = inr (rw q (refers_to rows A r k b s of-b l f.0 u f.1 z))
        pick z (inr m) = absurd (Memᴰ.not-nil m)

        go : (p : Content) → Known rows PartHeld r b p → Memᴰ x (process_rows (and_process p.process empty)) → MemberOf r x
        go p (inl z) m = absurd (Memᴰ.not-nil (rw z at m))
        go p (inr i) m = pick i.1 (its-row b x p.process empty (λ q z. own_row rows b q (sym (ap (λ (c : Content). c.process) i.2) ∙ z)) m)

    -- a row that holds a member, and refers to the next one
    linked : (k a b : ℕ) (s : Shape) → Shaped rows r k s → Leading (field_of s of-a) → Leading (field_of s of-b) → Holding rows r of-a a → Holding rows r of-b b
        → (x : ℕ) → Memᴰ x (process_rows (and_process (at a).process (at b).listed)) → HeldFrom r x
    linked k a b s h u v e d x = first-or k a x s (at b).listed (HeldFrom r x) (λ g. (r, this, g)) (later (at b) (known b)) h u e
      where
        later : (p : Content) → Known rows PartHeld r b p → Memᴰ x (process_rows p.listed) → HeldFrom r x
        later p (inl z) m = absurd (Memᴰ.not-nil (rw z at m))
        later p (inr i) m = let (j, g, t) = i.3.0 x m in (j, links-from r (refers_to rows A r k b s of-b l h v d i.1) g, t)

    part_held : (k : Node) → Fields rows r k → PartHeld r (content_of rows r at k)
    part_held (Literal x) f = nothing r
    part_held (Element a b) f = nothing r
    part_held (Monadic a b) f = nothing r
    part_held (Dyadic a b c) f = nothing r
    part_held Stop f = ((nothing r).0, alone r)
    part_held Skip f = ((nothing r).0, alone r)
    part_held (Assignment a b c) f = ((nothing r).0, alone r)
    part_held (Input a b c) f = ((nothing r).0, alone r)
    part_held (Output a b c) f = ((nothing r).0, alone r)
    part_held (Seq a) f = ((nothing r).0, group 30 a (members-shape 30 40) f.0 tt f.1)
    part_held (Par a) f = ((nothing r).0, group 31 a (members-shape 31 40) f.0 tt f.1)
    part_held (If a) f = ((nothing r).0, group 32 a (members-shape 32 41) f.0 tt f.1)
    part_held (While a b) f = ((nothing r).0, body 33 b while-shape tt f)
    part_held (Alt a) f = ((nothing r).0, group 34 a (members-shape 34 42) f.0 tt f.1)
    part_held (Block a b) f = ((nothing r).0, body 35 b block-shape tt f)
    part_held (Member a b) f = (linked 40 a b member-shape f.0 tt tt f.1 f.2, tt)
    part_held (Choice a b c) f = (linked 41 a b choice-shape f.0 tt tt f.1 f.2, tt)
    part_held (OptionRow a b c) f = (linked 42 a b option-shape f.0 tt tt f.1 f.2, tt)
    part_held (Guard a b) f = nothing r
    part_held Other f = nothing r

  every_held : (r : ℕ) → PartHeld r (content_at rows r)
  every_held = every-row rows PartHeld nothing (λ r l e h. part_held r l (higher_content rows r) h (node_at rows r) (fields-are rows r))

  or-stop-held : (q x : ℕ) (o : Option Process) → ProcessHeld q o → Memᴰ x (process_rows (processes_in (or_stop o))) → MemberOf q x
  or-stop-held q x none h m = absurd (Memᴰ.not-nil m)
  or-stop-held q x (some p) h m = h x m

  held_by : (q x : ℕ) → Memᴰ x (process_rows (processes_in (process_at (program rows) q))) → MemberOf q x
  held_by q x m = or-stop-held q x (content_at rows q).process (every_held q).1 (subst (λ (p : Process). Memᴰ x (process_rows (processes_in p))) (process-is rows q) m)

  -- past the last row there is no member
  member_below : (q x : ℕ) → Memᴰ x (process_rows (processes_in (process_at (program rows) q))) → q < row_count rows
  member_below q x m = go (dec_lt q (row_count rows))
    where
      go : Dec (q < row_count rows) → q < row_count rows
      go (yes l) = l
      go (no l) = absurd (Memᴰ.not-nil (rw (process-is rows q, part-past rows q (omega arith)) at m))

module _ (rows : List ℤ) (ok : check rows ≡ none) where
  abbrev P : Program
  P = program rows

  A : RightRows rows
  A = (accepted rows).0 ok

  -- a process is a member of one process
  pub one_parent : (q r x : ℕ) → Memᴰ x (process_rows (processes_in (process_at P q))) → Memᴰ x (process_rows (processes_in (process_at P r))) → q ≡ r
  one_parent q r x m n = one_of rows A q r x (held_by rows A q x m) (held_by rows A r x n)

  -- which is its parent
  pub parent-of-member : (q r : ℕ) → Memᴰ r (process_rows (processes_in (process_at P q))) → parent_of P r ≡ some q
  unfolding parent_of
  parent-of-member q r m = go (lowest test n) (lowest-is test n)
    where
      test : ℕ → Bool
      test j = among r (process_rows (processes_in (process_at P j)))

      n : ℕ
      n = length P.processes

      go : (o : Option ℕ) → Lowest (λ j. T (test j)) n o → o ≡ some q
      go none f = absurd (f q (rw (processes-length rows) (member_below rows A q r m)) (is_among r (process_rows (processes_in (process_at P q))) m))
      go (some j) f = ap some (one_parent j q r (among-is r (process_rows (processes_in (process_at P j))) f.1) m)

  -- the root is a member of no process
  pub root-alone : parent_of P P.root ≡ none
  unfolding program root
  root-alone = go (parent_of P (declarations rows)) refl
    where
      go : (o : Option ℕ) → parent_of P (declarations rows) ≡ o → o ≡ none
      go none e = refl
      go (some q) e = absurd (no-root rows A q (declarations rows) (held_by rows A q (declarations rows) (parent-has P (declarations rows) q e).1) refl)
