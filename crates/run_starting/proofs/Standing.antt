-- What stands at a row of a prepared table, by its part in settling. A row that is referred to as a process is one, for the table is accepted.
use mathlib.Core.Path.{◌≡◌, refl, sym, ap, subst, ◌∙◌}
use mathlib.Core.Logic.{◌⊎◌, inl, inr}
use mathlib.Core.Bool.{Bool, true, false}
use mathlib.Core.Option.{Option, some, some-ne-none}
use mathlib.Core.List.Memᴰ
use mathlib.Core.List.{List, [], ◌∷◌, Memᴰ}
use Prim.Native.Nat.{ℕ, ◌-◌, ◌<◌, ◌≤◌}
use native.Mathlib.Omega.{arith}
use native.Mathlib.Decide.{dec_lt}
use lib.IntN.{ℤ}
use lib.ListN.{length}
use lib.Dec.{ltb, leb}
use borrow.Author.Tests.{lt-ltb, leb-false}
use Rattle.meaning.specs.declared.Node.{Node}
use Rattle.meaning.specs.declared.Node.TheVariants.{Literal, Element, Monadic, Dyadic, Stop, Skip, Assignment, Input, Output, Seq, Par, If, While, Alt, Block, Member, Choice, OptionRow, Guard, Other}
use Rattle.meaning.specs.Basics.{if_else}
use Rattle.meaning.specs.Rows.{row_count, field_at, natural_of, natural_at, kind_at}
use Rattle.meaning.specs.Declarations.{variable_at}
use Rattle.meaning.specs.Kinds as kinds
use Rattle.meaning.specs.Kinds.{Field, reference, link, processes}
use Rattle.meaning.specs.Nodes.{node_at}
use Rattle.meaning.specs.References.{Column, of-a, of-b, field_of, number_of}
use Rattle.meaning.specs.Faults.{Leads}
use Rattle.meaning.specs.Tree.{Action, skip, sequence, parallel, loop, block, Process, node, Processes, empty, also, Content, and_process, content_of, content_at, or_stop, action_of}
use Rattle.meaning.specs.Settle.{mode}
use Rattle.meaning.proofs.AnswerLaws.{RightRows, accepted}
use Rattle.agreement.proofs.TableTree.{part-past}
use Rattle.agreement.proofs.TableReferences.{few-rows, members-shape, while-shape, block-shape, member-shape, choice-shape, option-shape, Shaped, Holding, Fields, fields-are, leads-at}
use Rattle.agreement.proofs.TableStarts.{is-process}
use Rattle.agreement.proofs.TableFit.{rows-limit}
use Rattle.base_layout.proofs.RowNodes.{node_of}
use Rattle.base_layout.proofs.Parts.{higher_content}
use Rattle.run_parents.specs.declared.shape.Mode as code
use Rattle.run_parents.specs.declared.shape.Mode.TheVariants.{InTurn, Together, ByStep}
use Rattle.run_parents.specs.declared.shape.Shape.{Shape}
use Rattle.run_parents.specs.declared.shape.Shape.TheVariants.{Ending, Single, Link, Neither}
use Rattle.run_parents.specs.Shapes.{higher_row, settling_shape, shape_at}
use Rattle.run_parents.specs.Members.{mode_of, only_process}
use Rattle.run_parents.proofs.Standing.{NeitherAt, Stands, stands}
use Rattle.run_code.specs.declared.Row.{Row}
use Rattle.run_code.specs.Prepared.{Prepared, present_row, row_of_kind, place_at, shape_to, shape_in}
use Rattle.run_code.proofs.Entries.{what-at}
use Rattle.run_code.proofs.RowKinds.{kind_from, row-of-kind, kind-in, nothing-past}
use Rattle.run_code.proofs.Codes.{content-is}
use Rattle.run_code.proofs.Referred.{present-here, present-past, present-inside, present-part, present-above}
use Rattle.run_code.proofs.Shapes.{by-leaf, by-inner, by-link, by-while, by-block}
use Rattle.run_code.proofs.NoLinks.{listed-none}
use Rattle.run_starting.specs.Parts.{IsLink, Links, IsProcess}

module _ (rows : List ℤ) where
  -- ---- rows that are referred to as processes

  -- row f is a link, or past the table
  abbrev Linked : ℕ → Type 0
  Linked f = (row_count rows ≤ f) ⊎ ((f < row_count rows) × IsLink (kind_at rows f))

  -- of a row's part in settling
  abbrev Refers : Shape → Type 0
  Refers (Ending m f) = Linked f
  Refers (Single b) = IsProcess rows b
  Refers (Link p q) = IsProcess rows p × Linked q
  Refers Neither = Unit {0}

  no-link : Linked (length rows)
  no-link = inl (omega arith)

  module _ (A : RightRows rows) (r : ℕ) (l : r < row_count rows) where
    field-process : (k b : ℕ) (s : kinds.Shape) (p : Column) → Shaped rows r k s → field_of s p ≡ reference processes → Holding rows r p b → IsProcess rows (higher_row rows r b)
    unfolding Leads higher_row
    field-process k b s p h f e =
        let (t, z, i) = subst (λ (g : Field). Leads rows r g (number_of rows r p)) f (leads-at rows A r k s l h p) in
        let j : t ≡ b = sym (ap natural_of z) ∙ e in
        let (a, ms, w) = is-process rows t i.1 i.2 in
        rw (← j, lt-ltb r t i.0) (node a t ms, w)

    field-link : (k b m : ℕ) (s : kinds.Shape) (p : Column) → Shaped rows r k s → field_of s p ≡ link (m ∷ []) → IsLink m → Holding rows r p b → Linked (higher_row rows r b)
    unfolding Leads higher_row
    field-link k b m s p h f g e = go (subst (λ (g : Field). Leads rows r g (number_of rows r p)) f (leads-at rows A r k s l h p))
      where
        only : (t : ℕ) → Memᴰ (kind_at rows t) (m ∷ []) → IsLink (kind_at rows t)
        only t (Memᴰ.head i) = subst IsLink (sym i) g
        only t (Memᴰ.tail i) = absurd (Memᴰ.not-nil i)

        go : Leads rows r (link (m ∷ [])) (number_of rows r p) → Linked (if_else (ltb r b) b (length rows))
        go (inl n) = let i : 4294967295 ≡ b = sym (ap natural_of n) ∙ e in rw (lt-ltb r b (omega (arith, few-rows rows A))) (inl (omega (arith, few-rows rows A)))
        go (inr (t, z, i)) = let j : t ≡ b = sym (ap natural_of z) ∙ e in rw (← j, lt-ltb r t i.0) (inr (i.1, only t i.2))

    refers-node : (k : Node) → Fields rows r k → Refers (settling_shape rows r k)
    refers-node (Literal x) f = tt
    refers-node (Element a b) f = tt
    refers-node (Monadic a b) f = tt
    refers-node (Dyadic a b c) f = tt
    refers-node Stop f = no-link
    refers-node Skip f = no-link
    refers-node (Assignment a b c) f = no-link
    refers-node (Input a b c) f = no-link
    refers-node (Output a b c) f = no-link
    refers-node (Seq a) f = field-link 30 a 40 (members-shape 30 40) of-a f.0 refl (inl refl) f.1
    refers-node (Par a) f = field-link 31 a 40 (members-shape 31 40) of-a f.0 refl (inl refl) f.1
    refers-node (If a) f = field-link 32 a 41 (members-shape 32 41) of-a f.0 refl (inr (inl refl)) f.1
    refers-node (While a b) f = field-process 33 b while-shape of-b f.0 refl f.1
    refers-node (Alt a) f = field-link 34 a 42 (members-shape 34 42) of-a f.0 refl (inr (inr refl)) f.1
    refers-node (Block a b) f = field-process 35 b block-shape of-b f.0 refl f.1
    refers-node (Member a b) f = (field-process 40 a member-shape of-a f.0 refl f.1, field-link 40 b 40 member-shape of-b f.0 refl (inl refl) f.2)
    refers-node (Choice a b c) f = (field-process 41 a choice-shape of-a f.0 refl f.1, field-link 41 b 41 choice-shape of-b f.0 refl (inr (inl refl)) f.2)
    refers-node (OptionRow a b c) f = (field-process 42 a option-shape of-a f.0 refl f.1, field-link 42 b 42 option-shape of-b f.0 refl (inr (inr refl)) f.2)
    refers-node (Guard a b) f = tt
    refers-node Other f = tt

  refers : RightRows rows → (r : ℕ) → Refers (shape_at rows r)
  unfolding shape_at
  refers A r = go (leb (row_count rows) r) refl
    where
      go : (t : Bool) → leb (row_count rows) r ≡ t → Refers (if_else t Neither (settling_shape rows r (node_at rows r)))
      go true e = tt
      go false e = refers-node A r (omega (arith, leb-false (row_count rows) r e)) (node_at rows r) (fields-are rows r)

  -- a process stands in the table
  process-in : (r : ℕ) → IsProcess rows r → r < row_count rows
  process-in r (p, e) = go (dec_lt r (row_count rows))
    where
      go : Dec (r < row_count rows) → r < row_count rows
      go (yes l) = l
      go (no l) = absurd (some-ne-none p (sym e ∙ ap (λ (c : Content). c.process) (part-past rows r (omega arith))))

  -- ---- what stands at a row

  -- a process that ends when it closes, with members by mode m from link f on
  pub record EndingIn (r : ℕ) (m : code.Mode) (f : ℕ) : Type 0 where
    pub action : Action
    pub process-is : (content_at rows r).process ≡ some (node action r (content_at rows f).listed)
    pub mode-is : mode action ≡ mode_of m
    pub higher : r < f
    pub inside : f ≤ 1024

  -- a WHILE or a block, with the process of row b as its only member
  pub record SingleIn (r b : ℕ) : Type 0 where
    pub action : Action
    pub process-is : (content_at rows r).process ≡ some (node action r (only_process (content_at rows b).process))
    pub member_is : IsProcess rows b
    pub higher : r < b
    pub inside : b < 1024

  -- a link to the member of row p, and from link q on
  pub record LinkIn (r p q : ℕ) : Type 0 where
    pub member : Process
    pub member_is : (content_at rows p).process ≡ some member
    pub members-are : (content_at rows r).listed ≡ also member (content_at rows q).listed
    pub higher : r < p
    pub inside : p < 1024
    pub higher-next : r < q
    pub inside-next : q ≤ 1024

  abbrev pub StandsIn : ℕ → Shape → Type 0
  StandsIn r (Ending m f) = EndingIn r m f
  StandsIn r (Single b) = SingleIn r b
  StandsIn r (Link p q) = LinkIn r p q
  StandsIn r Neither = NeitherAt rows r

  module _ (few : row_count rows ≤ 1024) where
    -- the row that stands in for a higher row, or one past the table
    present-between : (r n : ℕ) → row_count rows - n < row_count rows - r → (r < present_row rows n) × (present_row rows n ≤ 1024)
    present-between r n h = (present-above rows few r n (omega arith) (omega arith), present-inside rows few n)

    there : (n : ℕ) → content_at rows n ≡ content_at rows (present_row rows n)
    there n = sym (present-part rows few n)

    by_shape : (r : ℕ) (s : Shape) → Stands rows r s → Refers s → StandsIn r (shape_to rows s)
    by_shape r (Ending m f) h u =
        let (higher, inside) = present-between r f h.fewer in
        record {
          action = h.action;
          process-is = h.process-is ∙ ap (λ (c : Content). some (node h.action r c.listed)) (there f);
          mode-is = h.mode-is;
          higher = higher;
          inside = inside;
        }
    by_shape r (Single b) h u =
        let l = process-in b u in
        let i = present-here rows b l in
        record {
          action = h.action;
          process-is = h.process-is ∙ ap (λ (c : Content). some (node h.action r (only_process c.process))) (there b);
          member_is = rw i u;
          higher = (present-between r b h.fewer).0;
          inside = rw i (omega arith);
        }
    by_shape r (Link p q) h u =
        let l = process-in p u.0 in
        let i = present-here rows p l in
        let (higher-next, inside-next) = present-between r q h.fewer-next in
        record {
          member = u.0.0;
          member_is = rw i u.0.1;
          members-are = h.members-are ∙ ap (λ (o : Option Process). and_process o (content_at rows q).listed) u.0.1 ∙ ap (λ (c : Content). also u.0.0 c.listed) (there q);
          higher = (present-between r p h.fewer-process).0;
          inside = rw i (omega arith);
          higher-next = higher-next;
          inside-next = inside-next;
        }
    by_shape r Neither h u = h

-- what stands at a row, from what the code found of its part in settling
pub found_in : {rows : List ℤ} {list : List ℕ} → Prepared rows list → (r : ℕ) {s k : Shape} → s ≡ shape_in rows r → s ≡ k → StandsIn rows r k
unfolding shape_in
found_in {rows} P r e i = rw (sym i ∙ e) (by_shape rows (rows-limit rows P.accepted) r (shape_at rows r) (stands rows r) (refers rows ((accepted rows).0 P.accepted) r))

-- ---- the links that a row's part in settling refers to

abbrev pub LinksTo : List ℕ → Shape → Type 0
LinksTo list (Ending m f) = Links list f
LinksTo list (Single b) = Unit {0}
LinksTo list (Link p q) = Links list q
LinksTo list Neither = Unit {0}

module _ {rows : List ℤ} {list : List ℕ} (P : Prepared rows list) where
  few : row_count rows ≤ 1024
  few = rows-limit rows P.accepted

  -- what a row of this kind is
  pub kind-place : (r k : ℕ) → r < row_count rows → kind_at rows r ≡ k → place_at list r 0 ≡ (row_of_kind rows r k).what
  kind-place r k l e = what-at P r (omega (arith, few)) ∙ ap (λ (w : Row). w.what) (row-of-kind rows r k (kind-in rows r k l e))

  links-there : (f : ℕ) → Linked rows f → Links list (present_row rows f)
  links-there f (inl l) = rw (present-past rows f l) (inl (what-at P 1024 (omega arith) ∙ ap (λ (w : Row). w.what) (nothing-past rows 1024 few)))
  links-there f (inr (l, inl e)) = rw (present-here rows f l) (inr (inl (kind-place f 40 l e)))
  links-there f (inr (l, inr (inl e))) = rw (present-here rows f l) (inr (inr (inl (kind-place f 41 l e))))
  links-there f (inr (l, inr (inr e))) = rw (present-here rows f l) (inr (inr (inr (kind-place f 42 l e))))

  links-by : (s : Shape) → Refers rows s → LinksTo list (shape_to rows s)
  links-by (Ending m f) u = links-there f u
  links-by (Single b) u = tt
  links-by (Link p q) u = links-there q u.1
  links-by Neither u = tt

  pub links-in : (r : ℕ) {s k : Shape} → s ≡ shape_in rows r → s ≡ k → LinksTo list k
  unfolding shape_in
  links-in r e i = rw (sym i ∙ e) (links-by (shape_at rows r) (refers rows ((accepted rows).0 P.accepted) r))

  -- ---- a link, from what the code found of its row

  module _ (m : ℕ) (h : m ≤ 1024) {n : ℕ} (e : n ≡ place_at list m 0) where
    pub no-members : n ≡ 0 → (content_at rows m).listed ≡ empty
    no-members z = let i : place_at list m 0 ≡ 0 = sym e ∙ z in listed-none P m h (λ j. omega arith) (λ j. omega arith) (λ j. omega arith)

    module _ (u : Links list m) (z : n ≡ 0 → ⊥) where
      is-link : IsLink (place_at list m 0)
      is-link = go u
        where
          go : Links list m → IsLink (place_at list m 0)
          go (inl i) = absurd (z (e ∙ i))
          go (inr g) = g

      link-shape : {p q : ℕ} → p ≡ place_at list m 1 → q ≡ place_at list m 2 → Link p q ≡ shape_in rows m
      link-shape {p} {q} a b = go is-link
        where
          go : IsLink (place_at list m 0) → Link p q ≡ shape_in rows m
          go (inl i) = by-link P m h 40 i (λ z. omega arith) a b refl refl refl
          go (inr (inl i)) = by-link P m h 41 i (λ z. omega arith) a b refl refl refl
          go (inr (inr i)) = by-link P m h 42 i (λ z. omega arith) a b refl refl refl

      pub link-in : {p q : ℕ} → p ≡ place_at list m 1 → q ≡ place_at list m 2 → LinkIn rows m p q
      link-in a b = found_in P m (link-shape a b) refl

      pub next-links : {q : ℕ} → q ≡ place_at list m 2 → Links list q
      next-links b = links-in m (link-shape refl b) refl

  -- ---- a process, from what the code found of its row

  module _ (r : ℕ) (h : r ≤ 1024) {n : ℕ} (e : n ≡ place_at list r 0) where
    pub skip-shape : n ≡ 21 → Ending InTurn 1024 ≡ shape_in rows r
    skip-shape i = by-leaf P r h 21 (sym e ∙ i) (λ z. omega arith) InTurn refl

    pub seq-shape : n ≡ 30 → {a : ℕ} → a ≡ place_at list r 1 → Ending InTurn a ≡ shape_in rows r
    seq-shape i a = by-inner P r h 30 (sym e ∙ i) (λ z. omega arith) InTurn a refl refl

    pub par-shape : n ≡ 31 → {a : ℕ} → a ≡ place_at list r 1 → Ending Together a ≡ shape_in rows r
    par-shape i a = by-inner P r h 31 (sym e ∙ i) (λ z. omega arith) Together a refl refl

    pub if-shape : n ≡ 32 → {a : ℕ} → a ≡ place_at list r 1 → Ending ByStep a ≡ shape_in rows r
    if-shape i a = by-inner P r h 32 (sym e ∙ i) (λ z. omega arith) ByStep a refl refl

    pub alt-shape : n ≡ 34 → {a : ℕ} → a ≡ place_at list r 1 → Ending ByStep a ≡ shape_in rows r
    alt-shape i a = by-inner P r h 34 (sym e ∙ i) (λ z. omega arith) ByStep a refl refl

    pub while-shape-in : n ≡ 33 → {b : ℕ} → b ≡ place_at list r 2 → Single b ≡ shape_in rows r
    while-shape-in i b = by-while P r h (sym e ∙ i) b

    pub block-shape-in : n ≡ 35 → {b : ℕ} → b ≡ place_at list r 2 → Single b ≡ shape_in rows r
    block-shape-in i b = by-block P r h (sym e ∙ i) b

    -- what the process of this row does
    module _ {a : Action} {ms : Processes} (p : (content_at rows r).process ≡ some (node a r ms)) where
      action-at : (k : ℕ) → n ≡ k → (kind_from k ≡ 0 → ⊥)
          → a ≡ action_of (or_stop (content_of rows r (higher_content rows r) (node_of (kind_from k) (field_at rows r 1) (natural_at rows r 1) (natural_at rows r 2) (natural_at rows r 3))).process)
      action-at k i z = ap (λ (o : Option Process). action_of (or_stop o)) (sym p ∙ ap (λ (c : Content). c.process) (content-is P r h k (sym e ∙ i) z))

      pub skip-action : n ≡ 21 → a ≡ skip
      skip-action i = action-at 21 i (λ z. omega arith)

      pub seq-action : n ≡ 30 → a ≡ sequence
      seq-action i = action-at 30 i (λ z. omega arith)

      pub par-action : n ≡ 31 → a ≡ parallel
      par-action i = action-at 31 i (λ z. omega arith)

      pub while-action : n ≡ 33 → a ≡ loop (higher_content rows r (natural_at rows r 1)).expr (natural_at rows r 2)
      while-action i = action-at 33 i (λ z. omega arith)

      pub block-action : n ≡ 35 → a ≡ block (variable_at rows (natural_at rows r 1))
      block-action i = action-at 35 i (λ z. omega arith)

-- a kind from 40 to 42 is that of a link
pub link-kind : (n : ℕ) → 40 ≤ n → n < 43 → IsLink n
link-kind n a b = go (dec_lt n 41) (dec_lt n 42)
  where
    go : Dec (n < 41) → Dec (n < 42) → IsLink n
    go (yes x) y = inl (omega arith)
    go (no x) (yes y) = inr (inl (omega arith))
    go (no x) (no y) = inr (inr (omega arith))
