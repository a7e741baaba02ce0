-- A process of a prepared table goes on after its member, and so on up, as the code goes.
use mathlib.Core.Path.{◌≡◌, refl, sym, ap, subst, ◌∙◌}
use mathlib.Core.Bool.{false}
use mathlib.Core.Option.{Option, none, some}
use mathlib.Core.List.Memᴰ
use mathlib.Core.List.{List, [], Memᴰ}
use Prim.Native.Nat.{ℕ, suc, ◌-◌, ◌<◌}
use native.Mathlib.Omega.{arith}
use native.Mathlib.Decide.{dec_lt}
use lib.IntN.{ℤ}
use lib.ListN.{get_or}
use borrow.Author.Tests.{eq-eqb, ne_eqb}
use Rattle.meaning.specs.declared.Node.{Node}
use Rattle.meaning.specs.Rows.{row_count, natural_at, kind_at}
use Rattle.meaning.specs.Tree.{Expr, Action, loop, Process, node, Content, content_of, content_at, or_stop, row_of, action_of, processes_in, process_rows}
use Rattle.meaning.specs.Settle.{is_ended, mode, ends_when_closed}
use Rattle.meaning.specs.State.{program, process_at}
use Rattle.base_layout.proofs.Parts.{higher_content, part-past, part-of-kind}
use Rattle.run_parents.proofs.KindCases.{kind-cases}
use Rattle.machine.specs.Upward.{processes_after, reset, parent_of}
use Rattle.machine.specs.Counts.{Kept, kept_of, comes_to, row_comes, state_set, remain, start_members, goes_on_counted, goes_on_counted_at, upward_counted, change_up_counted, end_up_counted}
use Rattle.machine.proofs.Parents.{parent-has, parent-below}
use Rattle.machine.proofs.Starting.{start_none}
use Rattle.machine.proofs.CountedClimbs.{counted-rests, counted-top, counted-goes, counted-enough}
use Rattle.run_parents.specs.declared.shape.Mode.TheVariants.{InTurn, Together}
use Rattle.run_parents.specs.Members.{only_process}
use Rattle.run_code.specs.Prepared.{Prepared, place_at}
use Rattle.run_starting.specs.Parts.{starts_if}
use Rattle.run_starting.proofs.Standing.{EndingIn, SingleIn, kind-place}
use Rattle.run_starting.proofs.Starting.{not-ended, process-there}
use Rattle.run_starting.proofs.Resetting.{body-resets}

module _ (rows : List ℤ) (q r : ℕ) (k : Kept) where
  of-process : {p : Process} {w : Kept} → (content_at rows q).process ≡ some p → w ≡ goes_on_counted (mode (action_of p)) (ends_when_closed (action_of p)) q r (processes_in p) k → w ≡ goes_on_counted_at (program rows) q r k
  of-process {p} {w} e h = subst (λ (p : Process). w ≡ goes_on_counted (mode (action_of p)) (ends_when_closed (action_of p)) q r (processes_in p) k) (sym (process-there rows q e)) h

  -- a SEQ: the members from the next link on start
  pub in-turn-goes-on : (n : ℕ) {f : ℕ} {w : Kept} → EndingIn rows q InTurn f → (content_at rows n).listed ≡ processes_after r (processes_in (process_at (program rows) q))
      → w ≡ start_members (content_at rows n).listed false q 0 k → w ≡ goes_on_counted_at (program rows) q r k
  in-turn-goes-on n h a g =
      let m = a ∙ ap (λ (p : Process). processes_after r (processes_in p)) (process-there rows q h.process-is) in
      of-process h.process-is (rw (h.mode-is, ← m) g)

  -- a PAR has one member fewer left
  pub together-goes-on : {f : ℕ} {w : Kept} → EndingIn rows q Together f → w ≡ remain q (get_or k.left q 0 - 1) k → w ≡ goes_on_counted_at (program rows) q r k
  together-goes-on h g = of-process h.process-is (rw h.mode-is g)

  -- every row beneath a WHILE becomes idle, and it comes to work again
  pub repeating-goes-on : {b : ℕ} {t : List ℕ} {w : Kept} (h : SingleIn rows q b) {x : Expr} {n : ℕ} → h.action ≡ loop x n → t ≡ reset (process_at (program rows) b) k.states → w ≡ row_comes q (kept_of t k.left k.came)
      → w ≡ goes_on_counted_at (program rows) q r k
  repeating-goes-on {b} h a g i =
      of-process (h.process-is ∙ ap (λ (y : Action). some (node y q (only_process (content_at rows b).process))) a) (i ∙ ap (λ (t : List ℕ). kept_of t k.left (comes_to q k.came)) (body-resets rows q k.states h g))

-- an IF, an ALT or a block ends; no other row has a member
module _ {rows : List ℤ} {list : List ℕ} (P : Prepared rows list) (q r : ℕ) (k : Kept) {n : ℕ} (e : n ≡ place_at list q 0) (n30 : n ≡ 30 → ⊥) (n31 : n ≡ 31 → ⊥) (n33 : n ≡ 33 → ⊥) where
  abbrev Ends : Process → Type 0
  Ends p = Memᴰ r (process_rows (processes_in p)) → state_set q 2 k ≡ goes_on_counted (mode (action_of p)) (ends_when_closed (action_of p)) q r (processes_in p) k

  none_in : {A : Type 0} → Memᴰ r [] → A
  none_in m = absurd (Memᴰ.not-nil m)

  -- the process of a block is its only member
  only-ends : (o : Option Process) → Memᴰ r (process_rows (only_process o)) → state_set q 2 k ≡ start_members (processes_after r (only_process o)) false q 0 k
  only-ends none m = none_in m
  only-ends (some p) (Memᴰ.head i) = rw (eq-eqb r (row_of p) i, start_none false q 0 k)
  only-ends (some p) (Memᴰ.tail m) = none_in m

  ends : Ends (process_at (program rows) q)
  ends = go (dec_lt q (row_count rows))
    where
      go : Dec (q < row_count rows) → Ends (process_at (program rows) q)
      go (no l) = subst Ends (sym (process-there rows q (ap (λ (c : Content). c.process) (part-past rows q (omega arith))))) none_in
      go (yes l) =
          subst Ends (sym (process-there rows q (ap (λ (c : Content). c.process) (part-of-kind rows q (kind_at rows q) l refl))))
          (kind-cases (λ (m : Node). Ends (or_stop (content_of rows q (higher_content rows q) m).process)) (kind_at rows q) _ _ _ _
          (λ i. none_in) (λ i. none_in) (λ i. none_in) (λ i. none_in) (λ i. none_in) (λ i. none_in) (λ i. none_in) (λ i. none_in) (λ i. none_in)
          (λ i. absurd (n30 (e ∙ kind-place P q 30 l i))) (λ i. absurd (n31 (e ∙ kind-place P q 31 l i))) (λ i m. refl) (λ i. absurd (n33 (e ∙ kind-place P q 33 l i))) (λ i m. refl)
          (λ i. only-ends (higher_content rows q (natural_at rows q 2)).process) (λ i. none_in) (λ i. none_in) (λ i. none_in) (λ i. none_in) none_in)

  pub other-goes-on : parent_of (program rows) r ≡ some q → state_set q 2 k ≡ goes_on_counted_at (program rows) q r k
  other-goes-on i = ends (parent-has (program rows) r q i).1

module _ (rows : List ℤ) (r : ℕ) (k : Kept) where
  pub up-not-ended : (get_or k.states r 0 ≡ 2 → ⊥) → k ≡ upward_counted (program rows) (suc r) r k
  up-not-ended f = sym (counted-rests (program rows) (suc r) r k (not-ended (get_or k.states r 0) f))

  pub up-no-parent : parent_of (program rows) r ≡ none → k ≡ upward_counted (program rows) (suc r) r k
  up-no-parent e = sym (counted-top (program rows) (suc r) r k e)

  pub up-parent : get_or k.states r 0 ≡ 2 → {q : ℕ} {t w : Kept} → parent_of (program rows) r ≡ some q → t ≡ goes_on_counted_at (program rows) q r k → w ≡ upward_counted (program rows) (suc q) q t → w ≡ upward_counted (program rows) (suc r) r k
  up-parent i {q} {t} {w} p g h =
      h ∙ counted-enough rows (suc q) r q t (omega arith) (parent-below rows r q p) ∙ ap (upward_counted (program rows) r q) g ∙ sym (counted-goes (program rows) r r q k (ap is_ended i) p)

-- row r gets state n, its process starts where that is "running", and so on up
module _ (rows : List ℤ) (r n : ℕ) (k : Kept) where
  pub change-goes-up : {u w : Kept} → u ≡ starts_if n r (process_at (program rows) r) (state_set r n k) → w ≡ upward_counted (program rows) (suc r) r u → w ≡ change_up_counted (program rows) r n k
  unfolding change_up_counted
  change-goes-up f h = h ∙ ap (upward_counted (program rows) (suc r) r) f

module _ (rows : List ℤ) (r n note : ℕ) (k : Kept) {t : Kept} (e : t ≡ change_up_counted (program rows) r n k) where
  pub noted-ends : (note ≡ 0 → ⊥) → {w : Kept} → w ≡ change_up_counted (program rows) (note - 1) 2 t → w ≡ end_up_counted (program rows) note (change_up_counted (program rows) r n k)
  unfolding end_up_counted
  noted-ends f h = rw (ne_eqb note 0 f, ← e) h

  pub none-ends : note ≡ 0 → t ≡ end_up_counted (program rows) note (change_up_counted (program rows) r n k)
  unfolding end_up_counted
  none-ends i = rw i e
