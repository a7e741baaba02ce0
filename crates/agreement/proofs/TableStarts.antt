-- In an accepted table a field that should refer to a process does, so what a process may start is one of its members; and the root is a process.
use mathlib.Core.Path.{◌≡◌, refl, sym, ap, subst, ◌∙◌}
use mathlib.Core.Logic.{inl, inr}
use mathlib.Core.Bool.{Bool, true, false}
use mathlib.Core.Option.{Option, none, some}
use mathlib.Core.List.{List, [], ◌∷◌, Memᴰ}
use Prim.Native.Nat.{ℕ, zero, suc, ◌+◌, ◌<◌, ◌≤◌}
use native.Mathlib.Omega.{arith}
use native.Mathlib.Decide.{dec_lt}
use lib.IntN.{ℤ}
use borrow.Author.Tests.{lt-ltb}
use Rattle.meaning.specs.declared.Node.{Node}
use Rattle.meaning.specs.declared.Node.TheVariants.{Literal, Element, Monadic, Dyadic, Stop, Skip, Assignment, Input, Output, Seq, Par, If, While, Alt, Block, Member, Choice, OptionRow, Guard, Other}
use Rattle.meaning.specs.Basics.{if_else}
use Rattle.meaning.specs.Rows.{row_count, natural_of, natural_at, kind_at}
use Rattle.meaning.specs.Kinds.{Field, reference, Shape, processes}
use Rattle.meaning.specs.Declarations.{declares, leading, declarations, root}
use Rattle.meaning.specs.Nodes.{node_at}
use Rattle.meaning.specs.PrintedForms.{Each, each_none, each_more}
use Rattle.meaning.specs.References.{Column, of-a, of-b, field_of, number_of}
use Rattle.meaning.specs.Faults.{Leads, Placed, WellPlaced}
use Rattle.meaning.specs.Tree.{IfChoice, AltOption, Action, Process, node, Processes, empty, Content, no_content, and_process, content_of, content_at, action_of, processes_in, row_of}
use Rattle.meaning.proofs.AnswerLaws.{RightRows}
use Rattle.agreement.proofs.Commute.{Child, eldest, younger}
use Rattle.agreement.proofs.Fit.{ChoicesIn, OptionsIn, Starts}
use Rattle.meaning.specs.ContentClaims.{higher_content}
use Rattle.agreement.proofs.TableTree.{part_at, Known, every-row}
use Rattle.agreement.proofs.TableReferences.{while-shape, block-shape, choice-shape, option-shape, Shaped, Holding, Fields, fields-are, placed_at, leads-at}

all_in : (P : ℕ → Type 0) (ks : List ℕ) → Each P ks → (k : ℕ) → Memᴰ k ks → P k
all_in P [] _ k x3 = elim x3 [ ]
all_in P (j ∷ ks) (each_more h f) k (Memᴰ.head e) = subst P (sym e) h
all_in P (j ∷ ks) (each_more h f) k (Memᴰ.tail m) = all_in P ks f k m

abbrev StartsO : Option Process → Type 0
StartsO none = Unit {0}
StartsO (some p) = Starts (action_of p) (processes_in p)

module _ (rows : List ℤ) where
  -- a process stands at row b, as of that row
  abbrev pub IsProcess : ℕ → Type 0
  IsProcess b = (k : Action) × (ms : Processes) × ((content_at rows b).process ≡ some (node k b ms))

  module _ (b : ℕ) (l : b < row_count rows) where
    there : (N : Node) (k : Action) (ms : Processes) → node_at rows b ≡ N → (content_of rows b (higher_content rows b) N).process ≡ some (node k b ms) → IsProcess b
    there N k ms e h = (k, ms, ap (λ (q : Content). q.process) (part_at rows b l ∙ ap (content_of rows b (higher_content rows b)) e) ∙ h)

    -- a row of one of the kinds 20 to 35 is a process
    pub is-process : Memᴰ (kind_at rows b) processes → IsProcess b
    unfolding node_at
    is-process m =
        let x = natural_at rows b 1 in
        let y = natural_at rows b 2 in
        let z = natural_at rows b 3 in
        all_in (λ k. kind_at rows b ≡ k → IsProcess b) processes
        (each_more {x = 20} (λ e. there Stop _ _ (rw e) refl)
        (each_more {x = 21} (λ e. there Skip _ _ (rw e) refl)
        (each_more {x = 22} (λ e. there (Assignment x y z) _ _ (rw e) refl)
        (each_more {x = 23} (λ e. there (Input x y z) _ _ (rw e) refl)
        (each_more {x = 24} (λ e. there (Output x y z) _ _ (rw e) refl)
        (each_more {x = 30} (λ e. there (Seq x) _ _ (rw e) refl)
        (each_more {x = 31} (λ e. there (Par x) _ _ (rw e) refl)
        (each_more {x = 32} (λ e. there (If x) _ _ (rw e) refl)
        (each_more {x = 33} (λ e. there (While x y) _ _ (rw e) refl)
        (each_more {x = 34} (λ e. there (Alt x) _ _ (rw e) refl)
        (each_more {x = 35} (λ e. there (Block x y) _ _ (rw e) refl)
        each_none))))))))))) (kind_at rows b) m refl

  pub leading_le : (k r : ℕ) → leading rows k r ≤ r + k
  unfolding leading
  leading_le zero r = omega arith
  leading_le (suc k) r = go (declares rows r) (leading_le k (suc r))
    where
      go : (t : Bool) → leading rows k (suc r) ≤ suc r + k → if_else t (leading rows k (suc r)) r ≤ r + suc k
      go true h = omega arith
      go false h = omega arith

-- the first process before the members
child-first : (o : Option Process) (ms : Processes) (a : ℕ) (q : Process) → o ≡ some q → row_of q ≡ a → Child a (and_process o ms)
child-first o ms a q e f = rw e (eldest (sym f))

choices-later : (o : Option Process) (ms : Processes) (ts : List IfChoice) → ChoicesIn ts ms → ChoicesIn ts (and_process o ms)
choices-later none ms ts h = h
choices-later (some q) ms [] h = tt
choices-later (some q) ms (t ∷ ts) h = (younger h.0, choices-later (some q) ms ts h.1)

options-later : (o : Option Process) (ms : Processes) (bs : List AltOption) → OptionsIn bs ms → OptionsIn bs (and_process o ms)
options-later none ms bs h = h
options-later (some q) ms [] h = tt
options-later (some q) ms (b ∷ bs) h = (younger h.0, options-later (some q) ms bs h.1)

module _ (rows : List ℤ) (A : RightRows rows) where
  -- the root is a row, and a process
  pub root_below : declarations rows < row_count rows
  unfolding WellPlaced declarations
  root_below =
      let l : declarations rows ≤ row_count rows = (let h = leading_le rows (row_count rows) 0 in omega arith) in
      let ne : declarations rows ≡ row_count rows → ⊥ = (A.2 (row_count rows) (omega arith)).0 refl in
      go l ne (dec_lt (declarations rows) (row_count rows))
    where
      go : declarations rows ≤ row_count rows → (declarations rows ≡ row_count rows → ⊥) → Dec (declarations rows < row_count rows) → declarations rows < row_count rows
      go l ne (yes h) = h
      go l ne (no h) = absurd (ne (omega arith))

  pub root-process : IsProcess rows (root rows)
  unfolding Placed root
  root-process = is-process rows (declarations rows) root_below ((placed_at rows A (declarations rows) (omega arith) root_below).1 refl)

  -- where a field should refer to a process it does
  field-process : (r k b : ℕ) (s : Shape) (p : Column) → r < row_count rows → Shaped rows r k s → field_of s p ≡ reference processes → Holding rows r p b → (r < b) × (b < row_count rows) × IsProcess rows b
  unfolding Leads
  field-process r k b s p l h f e =
      let (t, z, i) = subst (λ (g : Field). Leads rows r g (number_of rows r p)) f (leads-at rows A r k s l h p) in
      let j : t ≡ b = sym (ap natural_of z) ∙ e in
      subst (λ (y : ℕ). (r < y) × (y < row_count rows) × IsProcess rows y) j (i.0, i.1, is-process rows t i.1 i.2)

  abbrev StartsOk : ℕ → Content → Type 0
  StartsOk r p = ChoicesIn p.tests p.listed × OptionsIn p.options p.listed × StartsO p.process

  of-known : (r b : ℕ) (p : Content) → Known rows StartsOk r b p → StartsOk b p
  of-known r b p (inl e) = rw e (tt, tt, tt)
  of-known r b p (inr h) = h.3

  module _ (r : ℕ) (l : r < row_count rows) (known : (b : ℕ) → StartsOk b (higher_content rows r b)) where
    abbrev at : ℕ → Content
    at = higher_content rows r

    -- a field refers to a process at a higher row
    at_field : (k b : ℕ) (s : Shape) (p : Column) → Shaped rows r k s → field_of s p ≡ reference processes → Holding rows r p b → (q : Process) × ((at b).process ≡ some q) × (row_of q ≡ b)
    at_field k b s p h f e =
        let (g, m, (j, ps, i)) = field-process r k b s p l h f e in
        (node j b ps, ap (λ (t : Bool). (if_else t (content_at rows b) no_content).process) (lt-ltb r b g) ∙ i, refl)

    -- the process that a field refers to comes first among the members
    comes-first : (k b : ℕ) (s : Shape) (p : Column) (ms : Processes) → Shaped rows r k s → field_of s p ≡ reference processes → Holding rows r p b → Child b (and_process (at b).process ms)
    comes-first k b s p ms h f e = let (q, g, i) = at_field k b s p h f e in child-first (at b).process ms b q g i

    part-ok : (k : Node) → Fields rows r k → StartsOk r (content_of rows r at k)
    part-ok (Literal x) f = (tt, tt, tt)
    part-ok (Element a b) f = (tt, tt, tt)
    part-ok (Monadic a b) f = (tt, tt, tt)
    part-ok (Dyadic a b c) f = (tt, tt, tt)
    part-ok Stop f = (tt, tt, tt)
    part-ok Skip f = (tt, tt, tt)
    part-ok (Assignment a b c) f = (tt, tt, tt)
    part-ok (Input a b c) f = (tt, tt, tt)
    part-ok (Output a b c) f = (tt, tt, tt)
    part-ok (Seq a) f = (tt, tt, tt)
    part-ok (Par a) f = (tt, tt, tt)
    part-ok (If a) f = (tt, tt, (known a).0)
    part-ok (While a b) f = (tt, tt, comes-first 33 b while-shape of-b empty f.0 refl f.1)
    part-ok (Alt a) f = (tt, tt, (known a).1)
    part-ok (Block a b) f = (tt, tt, let (q, e, i) = at_field 35 b block-shape of-b f.0 refl f.1 in (q, ap (λ (o : Option Process). and_process o empty) e))
    part-ok (Member a b) f = (tt, tt, tt)
    part-ok (Choice a b c) f = ((comes-first 41 a choice-shape of-a (at b).listed f.0 refl f.1, choices-later (at a).process (at b).listed (at b).tests (known b).0), tt, tt)
    part-ok (OptionRow a b c) f = (tt, (comes-first 42 a option-shape of-a (at b).listed f.0 refl f.1, options-later (at a).process (at b).listed (at b).options (known b).1), tt)
    part-ok (Guard a b) f = (tt, tt, tt)
    part-ok Other f = (tt, tt, tt)

  every-part : (r : ℕ) → StartsOk r (content_at rows r)
  every-part = every-row rows StartsOk (λ r. (tt, tt, tt)) (λ r l e h. part-ok r l (λ b. of-known r b (higher_content rows r b) (h b)) (node_at rows r) (fields-are rows r))

  -- what the process at a row may start is one of its members
  pub starts-at : (r : ℕ) (k : Action) (ms : Processes) → (content_at rows r).process ≡ some (node k r ms) → Starts k ms
  starts-at r k ms e = subst StartsO e (every-part r).2
