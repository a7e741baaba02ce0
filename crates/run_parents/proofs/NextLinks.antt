-- The numbers that are noted: each row's parent and next link, in an accepted table, where a row is referred to once.
use mathlib.Core.Path.{◌≡◌, refl, sym, ap, subst, ◌∙◌}
use mathlib.Core.Logic.{◌⊎◌, inl, inr}
use mathlib.Core.Bool.{Bool, true, false}
use mathlib.Core.Option.{Option, none, some}
use mathlib.Core.List.{List}
use Prim.Native.Nat.{ℕ, ◌+◌, ◌<◌}
use native.Mathlib.Omega.{arith}
use lib.IntN.{ℤ}
use lib.ListN.{length, get_or, set}
use lib.Seq.{get_or-set_same, get_or-set_other}
use lib.Dec.{T, ltb, eqb, eqb→eq}
use borrow.Author.Tests.{le-ltb, lt-leb, eqb-true, eqb-false, eq-eqb}
use Rattle.meaning.specs.declared.Node.{Node}
use Rattle.meaning.specs.declared.Node.TheVariants.{Literal, Element, Monadic, Dyadic, Stop, Skip, Assignment, Input, Output, Seq, Par, If, While, Alt, Block, Member, Choice, OptionRow, Guard, Other}
use Rattle.meaning.specs.Basics.{if_else, lowest, Lowest}
use Rattle.meaning.specs.Rows.{row_count}
use Rattle.meaning.specs.Nodes.{node_at}
use Rattle.meaning.specs.References.{of-a, of-b, Refers}
use Rattle.meaning.specs.State.{program}
use Rattle.meaning.specs.Answers.{check}
use Rattle.meaning.proofs.AnswerLaws.{RightRows, accepted}
use Rattle.meaning.proofs.LowestLaws.{lowest-is}
use Rattle.meaning.proofs.ReferenceCounts.{a-not-b}
use Rattle.agreement.proofs.TableReferences.{while-shape, block-shape, member-shape, choice-shape, option-shape, Fields, fields-are, refers_to, once}
use Rattle.run_parents.specs.declared.shape.Mode.{Mode}
use Rattle.run_parents.specs.declared.shape.Mode.TheVariants.{InTurn, Together, ByStep}
use Rattle.run_parents.specs.declared.shape.Shape.{Shape}
use Rattle.run_parents.specs.declared.shape.Shape.TheVariants.{Ending, Single, Link, Neither}
use Rattle.run_parents.specs.Shapes.{higher_row, settling_shape, shape_at}
use Rattle.machine.specs.Upward.{parent_of}
use Rattle.run_parents.specs.Marks.{row_note}
use Rattle.run_parents.proofs.ByRow.{by_row}
use Rattle.run_parents.specs.Parents.{in_table, is_link_to, link_after, link_after_row, next_link, if_parent, parent_notes, next_notes, where_free, ParentsNumbered, NextOf, NextIs}

-- ---- notes after notes

module _ (At : ℕ → ℕ → Type 0) where
  pub numbered-none : (parents nexts : List ℕ) → ParentsNumbered At parents nexts parents nexts
  numbered-none parents nexts = record { number = λ j. inl (refl, refl) }

  pub numbered-then : (parents nexts parents₁ nexts₁ parents₂ nexts₂ : List ℕ) → ParentsNumbered At parents nexts parents₁ nexts₁ → ParentsNumbered At parents₁ nexts₁ parents₂ nexts₂ → ParentsNumbered At parents nexts parents₂ nexts₂
  numbered-then parents nexts parents₁ nexts₁ parents₂ nexts₂ f g = record { number = λ j. go j (f.number j) (g.number j) }
    where
      Same : ℕ → List ℕ → List ℕ → List ℕ → List ℕ → Type 0
      Same j p n p' n' = (get_or p' j 0 ≡ get_or p j 0) × (get_or n' j 0 ≡ get_or n j 0)

      New : ℕ → List ℕ → List ℕ → Type 0
      New j p n = (get_or p j 0 ≡ 0 → ⊥) × At j (get_or n j 0)

      go : (j : ℕ) → Same j parents nexts parents₁ nexts₁ ⊎ New j parents₁ nexts₁ → Same j parents₁ nexts₁ parents₂ nexts₂ ⊎ New j parents₂ nexts₂ → Same j parents nexts parents₂ nexts₂ ⊎ New j parents₂ nexts₂
      go j x (inr k) = inr k
      go j (inl h) (inl k) = inl (k.0 ∙ h.0, k.1 ∙ h.1)
      go j (inr h) (inl k) = inr (λ z. h.0 (sym k.0 ∙ z), subst (At j) (sym k.1) h.1)

pub numbered_more : (At By : ℕ → ℕ → Type 0) (parents nexts parents₁ nexts₁ : List ℕ) → ((j n : ℕ) → At j n → By j n) → ParentsNumbered At parents nexts parents₁ nexts₁ → ParentsNumbered By parents nexts parents₁ nexts₁
numbered_more At By parents nexts parents₁ nexts₁ k f = record { number = λ j. go j (f.number j) }
  where
    go : (j : ℕ) → ((get_or parents₁ j 0 ≡ get_or parents j 0) × (get_or nexts₁ j 0 ≡ get_or nexts j 0)) ⊎ ((get_or parents₁ j 0 ≡ 0 → ⊥) × At j (get_or nexts₁ j 0))
        → ((get_or parents₁ j 0 ≡ get_or parents j 0) × (get_or nexts₁ j 0 ≡ get_or nexts j 0)) ⊎ ((get_or parents₁ j 0 ≡ 0 → ⊥) × By j (get_or nexts₁ j 0))
    go j (inl h) = inl h
    go j (inr h) = inr (h.0, k j (get_or nexts₁ j 0) h.1)

-- a note at row p, where it has no parent yet
module _ (rows : List ℤ) (p t note next : ℕ) (parents nexts : List ℕ) (here : p < row_count rows) (lp : p < length parents) (ln : p < length nexts) (real : 0 < note) (e : next ≡ in_table rows t) where
  one-numbered : ParentsNumbered (NextIs rows p t) parents nexts (where_free parents p parents note) (where_free parents p nexts next)
  one-numbered = record { number = λ j. go j (eqb (get_or parents p 0) 0) (eqb j p) refl }
    where
      go : (j : ℕ) (s b : Bool) → eqb j p ≡ b
          → ((get_or (if_else s (set parents p note) parents) j 0 ≡ get_or parents j 0) × (get_or (if_else s (set nexts p next) nexts) j 0 ≡ get_or nexts j 0))
          ⊎ ((get_or (if_else s (set parents p note) parents) j 0 ≡ 0 → ⊥) × NextIs rows p t j (get_or (if_else s (set nexts p next) nexts) j 0))
      go j false b i = inl (refl, refl)
      go j true true i =
          let q : j ≡ p = eqb-true j p i in
          inr (
            (λ z. let n : note ≡ 0 = sym (get_or-set_same parents p note 0 lp) ∙ ap (λ (k : ℕ). get_or (set parents p note) k 0) (sym q) ∙ z in omega arith),
            (q, here, ap (λ (k : ℕ). get_or (set nexts p next) k 0) q ∙ get_or-set_same nexts p next 0 ln ∙ e),
          )
      go j true false i = inl (get_or-set_other parents p j note 0 (eqb-false j p i), get_or-set_other nexts p j next 0 (eqb-false j p i))

  pub member-numbered : (parents₁ nexts₁ : List ℕ) → parents₁ ≡ where_free parents p parents note → nexts₁ ≡ where_free parents p nexts next → ParentsNumbered (NextIs rows p t) parents nexts parents₁ nexts₁
  member-numbered parents₁ nexts₁ i k = rw (i, k) one-numbered

-- ---- the rows that a link, a WHILE and a block refer to

module _ (rows : List ℤ) (A : RightRows rows) where
  -- a row in the table that a row's field holds
  holds : (r a p : ℕ) → higher_row rows r a ≡ p → p < row_count rows → a ≡ p
  unfolding higher_row
  holds r a p e l = go (ltb r a) e
    where
      go : (t : Bool) → if_else t a (length rows) ≡ p → a ≡ p
      go true e = e
      go false e = absurd (omega arith)

  module _ (t p : ℕ) (l : t < row_count rows) (lp : p < row_count rows) where
    abbrev Links : Shape → Type 0
    Links s = (q : ℕ) → s ≡ Link p q → Refers rows t of-a p

    abbrev Holds : Shape → Type 0
    Holds s = s ≡ Single p → Refers rows t of-b p

    -- neither a link nor a WHILE or block
    ends : (m : Mode) (f : ℕ) → Links (Ending m f) × Holds (Ending m f)
    ends m f = (λ q e. absurd (let z : ◌≡◌ {A = ℕ} 0 1 = cc in omega arith), λ e. absurd (let z : ◌≡◌ {A = ℕ} 0 1 = cc in omega arith))

    neither : Links Neither × Holds Neither
    neither = (λ q e. absurd (let z : ◌≡◌ {A = ℕ} 0 1 = cc in omega arith), λ e. absurd (let z : ◌≡◌ {A = ℕ} 0 1 = cc in omega arith))

    -- a link
    links : (a b : ℕ) → (a ≡ p → Refers rows t of-a p) → Links (Link a b) × Holds (Link a b)
    links a b f = (λ q e. let i : a ≡ p = cc in f i, λ e. absurd (let z : ◌≡◌ {A = ℕ} 0 1 = cc in omega arith))

    -- a WHILE or a block
    single : (b : ℕ) → (b ≡ p → Refers rows t of-b p) → Links (Single b) × Holds (Single b)
    single b f = (λ q e. absurd (let z : ◌≡◌ {A = ℕ} 0 1 = cc in omega arith), λ e. let i : b ≡ p = cc in f i)

    by-node : (k : Node) → Fields rows t k → Links (settling_shape rows t k) × Holds (settling_shape rows t k)
    by-node (Literal x) f = neither
    by-node (Element a b) f = neither
    by-node (Monadic a b) f = neither
    by-node (Dyadic a b c) f = neither
    by-node Stop f = ends ByStep (length rows)
    by-node Skip f = ends InTurn (length rows)
    by-node (Assignment a b c) f = ends ByStep (length rows)
    by-node (Input a b c) f = ends ByStep (length rows)
    by-node (Output a b c) f = ends ByStep (length rows)
    by-node (Seq a) f = ends InTurn (higher_row rows t a)
    by-node (Par a) f = ends Together (higher_row rows t a)
    by-node (If a) f = ends ByStep (higher_row rows t a)
    by-node (While a b) f = single (higher_row rows t b) (λ i. refers_to rows A t 33 p while-shape of-b l f.0 tt (f.1 ∙ holds t b p i lp) lp)
    by-node (Alt a) f = ends ByStep (higher_row rows t a)
    by-node (Block a b) f = single (higher_row rows t b) (λ i. refers_to rows A t 35 p block-shape of-b l f.0 tt (f.1 ∙ holds t b p i lp) lp)
    by-node (Member a b) f = links (higher_row rows t a) (higher_row rows t b) (λ i. refers_to rows A t 40 p member-shape of-a l f.0 tt (f.1 ∙ holds t a p i lp) lp)
    by-node (Choice a b c) f = links (higher_row rows t a) (higher_row rows t b) (λ i. refers_to rows A t 41 p choice-shape of-a l f.0 tt (f.1 ∙ holds t a p i lp) lp)
    by-node (OptionRow a b c) f = links (higher_row rows t a) (higher_row rows t b) (λ i. refers_to rows A t 42 p option-shape of-a l f.0 tt (f.1 ∙ holds t a p i lp) lp)
    by-node (Guard a b) f = neither
    by-node Other f = neither

    shape_is : shape_at rows t ≡ settling_shape rows t (node_at rows t)
    unfolding shape_at
    shape_is = rw (lt-leb (row_count rows) t l)

    link-refers : (q : ℕ) → shape_at rows t ≡ Link p q → Refers rows t of-a p
    link-refers q e = (by-node (node_at rows t) (fields-are rows t)).0 q (sym shape_is ∙ e)

    single-refers : shape_at rows t ≡ Single p → Refers rows t of-b p
    single-refers e = (by-node (node_at rows t) (fields-are rows t)).1 (sym shape_is ∙ e)

-- what is noted of a link's member, and of the process of a WHILE or a block
module _ (rows : List ℤ) (t p : ℕ) (l : t < row_count rows) where
  pub link-next : (q : ℕ) → shape_at rows t ≡ Link p q → (j n : ℕ) → NextIs rows p q j n → NextOf rows j n
  link-next q e j n h = (rw h.0 h.1, inl (t, q, l, e ∙ ap (λ (x : ℕ). Link x q) (sym h.0), h.2))

  pub single-next : shape_at rows t ≡ Single p → (j n : ℕ) → NextIs rows p (length rows) j n → NextOf rows j n
  single-next e j n h =
      let past : in_table rows (length rows) ≡ row_count rows = rw (le-ltb (length rows) (row_count rows) (omega arith)) in
      (rw h.0 h.1, inr (t, l, e ∙ ap Single (sym h.0), h.2 ∙ past))

-- ---- each row has one next link

link-of : (j : ℕ) (s : Shape) → T (is_link_to j s) → (q : ℕ) × (s ≡ Link j q)
link-of j (Ending m f) h = absurd h
link-of j (Single b) h = absurd h
link-of j (Link p q) h = (q, ap (λ (x : ℕ). Link x q) (eqb→eq p j h))
link-of j Neither h = absurd h

module _ (rows : List ℤ) (A : RightRows rows) (j : ℕ) (lj : j < row_count rows) where
  abbrev test : ℕ → Bool
  test t = is_link_to j (shape_at rows t)

  found-refers : (u : ℕ) → u < row_count rows → T (test u) → Refers rows u of-a j
  found-refers u lu h = let k = link-of j (shape_at rows u) h in link-refers rows A u j lu lj k.0 k.1

  after-link : (t q : ℕ) → t < row_count rows → shape_at rows t ≡ Link j q → in_table rows q ≡ next_link rows j
  unfolding next_link
  after-link t q l e = go (lowest test (row_count rows)) (lowest-is test (row_count rows))
    where
      passes : T (test t)
      passes = rw (e, eq-eqb j j refl) tt

      go : (o : Option ℕ) → Lowest (λ i. T (test i)) (row_count rows) o → in_table rows q ≡ link_after_row rows o
      go none f = absurd (f t l passes)
      go (some u) f =
          let same : u ≡ t = (once rows A u t j of-a of-a (found-refers u f.0 f.1) (link-refers rows A t j l lj q e)).0 in
          sym (ap (link_after rows) (ap (shape_at rows) same ∙ e))

  after-single : (w : ℕ) → w < row_count rows → shape_at rows w ≡ Single j → row_count rows ≡ next_link rows j
  unfolding next_link
  after-single w l e = go (lowest test (row_count rows)) (lowest-is test (row_count rows))
    where
      go : (o : Option ℕ) → Lowest (λ i. T (test i)) (row_count rows) o → row_count rows ≡ link_after_row rows o
      go none f = refl
      go (some u) f = absurd (a-not-b (once rows A u w j of-a of-b (found-refers u f.0 f.1) (single-refers rows A w j l lj e)).1)

pub next-is : (rows : List ℤ) → RightRows rows → (j n : ℕ) → NextOf rows j n → n ≡ next_link rows j
next-is rows A j n (lj, inl (t, q, l, e, i)) = i ∙ after-link rows A j lj t q l e
next-is rows A j n (lj, inr (w, l, e, i)) = i ∙ after-single rows A j lj w l e

-- ---- all notes of an accepted table

module _ (rows : List ℤ) (parents : List ℕ) (h : (j : ℕ) → get_or parents j 0 ≡ row_note (parent_of (program rows) j)) where
  pub parents-are : (n : ℕ) → length parents ≡ n → parents ≡ parent_notes rows n
  unfolding parent_notes
  parents-are n e = by_row (λ r. row_note (parent_of (program rows) r)) n parents e (λ j l. h j)

  pub nexts-are : check rows ≡ none → (zeros old nexts : List ℕ) → ((j : ℕ) → get_or zeros j 0 ≡ 0) → length nexts ≡ length old → ParentsNumbered (NextOf rows) zeros old parents nexts → nexts ≡ next_notes rows old
  unfolding next_notes
  nexts-are ok zeros old nexts z e f = by_row (λ r. if_parent (parent_of (program rows) r) (next_link rows r) (get_or old r 0)) (length old) nexts e (λ j l. go j (parent_of (program rows) j) (h j) (f.number j))
    where
      go : (j : ℕ) (o : Option ℕ) → get_or parents j 0 ≡ row_note o → ((get_or parents j 0 ≡ get_or zeros j 0) × (get_or nexts j 0 ≡ get_or old j 0)) ⊎ ((get_or parents j 0 ≡ 0 → ⊥) × NextOf rows j (get_or nexts j 0))
          → get_or nexts j 0 ≡ if_parent o (next_link rows j) (get_or old j 0)
      go j none e (inl k) = k.1
      go j none e (inr k) = absurd (k.0 e)
      go j (some q) e (inl k) = absurd (let c : ◌≡◌ {A = ℕ} 0 (q + 1) = sym (k.0 ∙ z j) ∙ e in omega arith)
      go j (some q) e (inr k) = next-is rows ((accepted rows).0 ok) j (get_or nexts j 0) k.1
