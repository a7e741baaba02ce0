-- The parent and the next link of a prepared row: number 4 is the note of the row's parent, of an option that of its ALT; from the link of number 5 on follow the members after the row.
use mathlib.Core.Path.{◌≡◌, refl, sym, ap, subst, ◌∙◌}
use mathlib.Core.Logic.{inl, inr}
use mathlib.Core.Bool.{Bool, true, false}
use mathlib.Core.Option.{Option as Maybe, none, some}
use mathlib.Core.List.Memᴰ
use mathlib.Core.List.{List, Memᴰ}
use Prim.Native.Nat.{ℕ, zero, suc, ◌-◌, ◌<◌, ◌≤◌}
use native.Mathlib.Omega.{arith}
use lib.IntN.{ℤ}
use lib.Dec.{ltb, eqb}
use borrow.Author.Tests.{eqb-true, eqb-false, eq-eqb, ne_eqb, ltb-true, ltb-false}
use Rattle.meaning.specs.Basics.{if_else, is_some}
use Rattle.meaning.specs.Rows.{row_count, field_at, natural_at, kind_at}
use Rattle.meaning.specs.Kinds.{processes}
use Rattle.meaning.specs.Tree.{Process, Processes, empty, also, and_process, content_at, or_stop, row_of, processes_in, process_rows}
use Rattle.meaning.specs.State.{program, process_at}
use Rattle.meaning.proofs.AnswerLaws.{accepted}
use Rattle.agreement.proofs.TableTree.{process-is}
use Rattle.agreement.proofs.TreeRows.{process-kind}
use Rattle.run_parents.specs.Members.{only_process}
use Rattle.run_parents.specs.Shapes.{shape_at}
use Rattle.run_parents.specs.declared.shape.Shape.{Shape}
use Rattle.run_parents.specs.declared.shape.Shape.TheVariants.{Ending, Single, Link, Neither}
use Rattle.run_parents.proofs.Standing.{Stands, stands}
use Rattle.machine.specs.Upward.{parent_of, processes_after}
use Rattle.machine.specs.RowSteps.{alt_of}
use Rattle.machine.proofs.Parents.{own_row, parent-has}
use Rattle.run_parents.specs.Marks.{row_note}
use Rattle.run_parents.specs.Parents.{in_table, next_link, if_parent, NextOf}
use Rattle.run_parents.proofs.MemberNotes.{in-table-members, none-past, row-alone}
use Rattle.run_parents.proofs.NextLinks.{next-is}
use Rattle.run_code.specs.declared.Row.{Row}
use Rattle.run_code.specs.Prepared.{row, no_row, literal_row, kind_in, referred_row, owner_note, next_note, declared_row, element_row, assigned_row, kept_row, row_at, Prepared, place_at}
use Rattle.run_code.proofs.Entries.{parent-at, next-at}
use Rattle.run_code.proofs.RowKinds.{kind-in}
use Rattle.run_code.proofs.Codes.{parent_is}

-- ---- the members after a row

module _ (rows : List ℤ) (r : ℕ) where
  -- a process stands at row r, and from link n on follow the members after it
  pub record After (ms : Processes) : Type 0 where
    pub found : Process
    pub stands-there : (content_at rows r).process ≡ some found
    pub next : ℕ
    pub next_of : NextOf rows r next
    pub after-it : (content_at rows next).listed ≡ processes_after r ms

  -- nothing is among no members
  none-among : {A : Type 0} (ms : Processes) → ms ≡ empty → Memᴰ r (process_rows ms) → A
  none-among ms e m = absurd (Memᴰ.not-nil (subst (λ (ms : Processes). Memᴰ r (process_rows ms)) e m))

  -- a later member than the first
  later : (x : Process) (ms : Processes) → (r ≡ row_of x → ⊥) → Memᴰ r (process_rows (also x ms)) → Memᴰ r (process_rows ms)
  later x ms n (Memᴰ.head e) = absurd (n e)
  later x ms n (Memᴰ.tail m) = m

  module _ (f p t : ℕ) (l : f < row_count rows) (s : shape_at rows f ≡ Link p t) (rec : Memᴰ r (process_rows (content_at rows t).listed) → After (content_at rows t).listed) where
    at_first : (x : Process) → (content_at rows p).process ≡ some x → r ≡ row_of x → After (also x (content_at rows t).listed)
    at_first x e i =
        let q : r ≡ p = i ∙ own_row rows p x e in
        record {
          found = x;
          stands-there = ap (λ (n : ℕ). (content_at rows n).process) q ∙ e;
          next = in_table rows t;
          next_of = (rw q (row-alone rows p (ap is_some e)).1, inl (f, t, l, s ∙ ap (λ (n : ℕ). Link n t) (sym q), refl));
          after-it = in-table-members rows t ∙ sym (ap (λ (b : Bool). if_else b (content_at rows t).listed (processes_after r (content_at rows t).listed)) (eq-eqb r (row_of x) i));
        }

    at-later : (x : Process) → (r ≡ row_of x → ⊥) → After (content_at rows t).listed → After (also x (content_at rows t).listed)
    at-later x n a =
        record {
          found = a.found;
          stands-there = a.stands-there;
          next = a.next;
          next_of = a.next_of;
          after-it = a.after-it ∙ sym (ap (λ (b : Bool). if_else b (content_at rows t).listed (processes_after r (content_at rows t).listed)) (ne_eqb r (row_of x) n));
        }

    at-link : (o : Maybe Process) → (content_at rows p).process ≡ o → Memᴰ r (process_rows (and_process o (content_at rows t).listed)) → After (and_process o (content_at rows t).listed)
    at-link none e m = rec m
    at-link (some x) e m = go (eqb r (row_of x)) refl
      where
        go : (b : Bool) → eqb r (row_of x) ≡ b → After (also x (content_at rows t).listed)
        go true i = at_first x e (eqb-true r (row_of x) i)
        go false i = at-later x (eqb-false r (row_of x) i) (rec (later x (content_at rows t).listed (eqb-false r (row_of x) i) m))

  from-link : (k f : ℕ) → row_count rows - f ≤ k → Memᴰ r (process_rows (content_at rows f).listed) → After (content_at rows f).listed
  from-link zero f h m = none-among (content_at rows f).listed (none-past rows f (omega arith)) m
  from-link (suc k) f h m = go (shape_at rows f) refl (stands rows f) (λ t l. from-link k t l)
    where
      go : (s : Shape) → shape_at rows f ≡ s → Stands rows f s → ((t : ℕ) → row_count rows - t ≤ k → Memᴰ r (process_rows (content_at rows t).listed) → After (content_at rows t).listed) → After (content_at rows f).listed
      go (Ending q g) e s rec = none-among (content_at rows f).listed s.no-members m
      go (Single b) e s rec = none-among (content_at rows f).listed s.no-members m
      go (Link p t) e s rec =
          subst After (sym s.members-are)
          (at-link f p t (let l = s.fewer-next in omega arith) e (rec t (let l = s.fewer-next in omega arith)) (content_at rows p).process refl (subst (λ (ms : Processes). Memᴰ r (process_rows ms)) s.members-are m))
      go Neither e s rec = none-among (content_at rows f).listed s.no-members m

  -- the process of a WHILE or a block
  at-single : (w b : ℕ) → w < row_count rows → shape_at rows w ≡ Single b → (o : Maybe Process) → (content_at rows b).process ≡ o → Memᴰ r (process_rows (only_process o)) → After (only_process o)
  at-single w b l s none e m = none-among empty refl m
  at-single w b l s (some x) e (Memᴰ.tail m) = none-among empty refl m
  at-single w b l s (some x) e (Memᴰ.head i) =
      let q : r ≡ b = i ∙ own_row rows b x e in
      record {
        found = x;
        stands-there = ap (λ (n : ℕ). (content_at rows n).process) q ∙ e;
        next = row_count rows;
        next_of = (rw q (row-alone rows b (ap is_some e)).1, inr (w, l, s ∙ ap Single (sym q), refl));
        after-it = none-past rows (row_count rows) (omega arith) ∙ sym (ap (λ (t : Bool). if_else t empty empty) (eq-eqb r (row_of x) i));
      }

  -- the members of a process after its member of row r
  members-after : (q : ℕ) → Memᴰ r (process_rows (processes_in (process_at (program rows) q))) → After (processes_in (process_at (program rows) q))
  members-after q m = go (shape_at rows q) refl (stands rows q)
    where
      inner : {ms : Processes} → processes_in (process_at (program rows) q) ≡ ms → (Memᴰ r (process_rows ms) → After ms) → After (processes_in (process_at (program rows) q))
      inner e f = subst After (sym e) (f (subst (λ (ms : Processes). Memᴰ r (process_rows ms)) e m))

      is : {o : Maybe Process} → (content_at rows q).process ≡ o → processes_in (process_at (program rows) q) ≡ processes_in (or_stop o)
      is e = ap processes_in (process-is rows q ∙ ap or_stop e)

      go : (s : Shape) → shape_at rows q ≡ s → Stands rows q s → After (processes_in (process_at (program rows) q))
      go (Ending k f) e s = inner (is s.process-is) (from-link (row_count rows) f (omega arith))
      go (Single b) e s = inner (is s.process-is) (at-single q b (let l = s.fewer in omega arith) e (content_at rows b).process refl)
      go (Link p t) e s = inner (is s.no-process) (none-among empty refl)
      go Neither e s = inner (is s.no-process) (none-among empty refl)

-- ---- numbers 4 and 5

process-kinds : (k : ℕ) → Memᴰ k processes → (20 ≤ k) × (k < 42)
process-kinds k (Memᴰ.head e) = (omega arith, omega arith)
process-kinds k (Memᴰ.tail (Memᴰ.head e)) = (omega arith, omega arith)
process-kinds k (Memᴰ.tail (Memᴰ.tail (Memᴰ.head e))) = (omega arith, omega arith)
process-kinds k (Memᴰ.tail (Memᴰ.tail (Memᴰ.tail (Memᴰ.head e)))) = (omega arith, omega arith)
process-kinds k (Memᴰ.tail (Memᴰ.tail (Memᴰ.tail (Memᴰ.tail (Memᴰ.head e))))) = (omega arith, omega arith)
process-kinds k (Memᴰ.tail (Memᴰ.tail (Memᴰ.tail (Memᴰ.tail (Memᴰ.tail (Memᴰ.head e)))))) = (omega arith, omega arith)
process-kinds k (Memᴰ.tail (Memᴰ.tail (Memᴰ.tail (Memᴰ.tail (Memᴰ.tail (Memᴰ.tail (Memᴰ.head e))))))) = (omega arith, omega arith)
process-kinds k (Memᴰ.tail (Memᴰ.tail (Memᴰ.tail (Memᴰ.tail (Memᴰ.tail (Memᴰ.tail (Memᴰ.tail (Memᴰ.head e)))))))) = (omega arith, omega arith)
process-kinds k (Memᴰ.tail (Memᴰ.tail (Memᴰ.tail (Memᴰ.tail (Memᴰ.tail (Memᴰ.tail (Memᴰ.tail (Memᴰ.tail (Memᴰ.head e))))))))) = (omega arith, omega arith)
process-kinds k (Memᴰ.tail (Memᴰ.tail (Memᴰ.tail (Memᴰ.tail (Memᴰ.tail (Memᴰ.tail (Memᴰ.tail (Memᴰ.tail (Memᴰ.tail (Memᴰ.head e)))))))))) = (omega arith, omega arith)
process-kinds k (Memᴰ.tail (Memᴰ.tail (Memᴰ.tail (Memᴰ.tail (Memᴰ.tail (Memᴰ.tail (Memᴰ.tail (Memᴰ.tail (Memᴰ.tail (Memᴰ.tail (Memᴰ.tail x44))))))))))) = elim x44 [ ]
process-kinds k (Memᴰ.tail (Memᴰ.tail (Memᴰ.tail (Memᴰ.tail (Memᴰ.tail (Memᴰ.tail (Memᴰ.tail (Memᴰ.tail (Memᴰ.tail (Memᴰ.tail (Memᴰ.head e))))))))))) = (omega arith, omega arith)

-- a row has the two notes, or is no process, link or guard
data Notes (owner next : ℕ) (low : Type 0) (w : Row) : Type 0 where
  noted : w.parent ≡ owner → w.next ≡ next → Notes owner next low w
  not_noted : low → Notes owner next low w

module _ (rows : List ℤ) (r : ℕ) where
  abbrev Low : ℕ → Type 0
  Low k = (20 ≤ k) × (k < 44) → ⊥

  by_kind : (k : ℕ) (a b c d e f g h x y : Bool) → eqb k 10 ≡ a → eqb k 11 ≡ b → eqb k 12 ≡ c → eqb k 13 ≡ d → eqb k 22 ≡ e → eqb k 23 ≡ f → eqb k 24 ≡ g → eqb k 35 ≡ h → ltb k 20 ≡ x → ltb k 44 ≡ y
      → Notes (owner_note rows k r) (next_note rows r) (Low k)
      (if_else a (literal_row (field_at rows r 1))
      (if_else b (element_row rows r)
      (if_else c (row 5 (natural_at rows r 1) (referred_row rows r 2) 0)
      (if_else d (row 6 (natural_at rows r 1) (referred_row rows r 2) (referred_row rows r 3))
      (if_else e (assigned_row rows r (element_row rows r))
      (if_else f (kept_row rows r 23 (natural_at rows r 1))
      (if_else g (kept_row rows r 24 (natural_at rows r 1))
      (if_else h (kept_row rows r 35 (natural_at rows r 1))
      (if_else x (declared_row rows r)
      (if_else y (kept_row rows r k (referred_row rows r 1))
      no_row))))))))))
  by_kind k true b c d e f g h x y p1 p2 p3 p4 p5 p6 p7 p8 p9 p10 = not_noted (λ l. omega (arith, eqb-true k 10 p1, l.0))
  by_kind k false true c d e f g h x y p1 p2 p3 p4 p5 p6 p7 p8 p9 p10 = not_noted (λ l. omega (arith, eqb-true k 11 p2, l.0))
  by_kind k false false true d e f g h x y p1 p2 p3 p4 p5 p6 p7 p8 p9 p10 = not_noted (λ l. omega (arith, eqb-true k 12 p3, l.0))
  by_kind k false false false true e f g h x y p1 p2 p3 p4 p5 p6 p7 p8 p9 p10 = not_noted (λ l. omega (arith, eqb-true k 13 p4, l.0))
  by_kind k false false false false true f g h x y p1 p2 p3 p4 p5 p6 p7 p8 p9 p10 = noted (ap (λ (k : ℕ). owner_note rows k r) (sym (eqb-true k 22 p5))) refl
  by_kind k false false false false false true g h x y p1 p2 p3 p4 p5 p6 p7 p8 p9 p10 = noted (ap (λ (k : ℕ). owner_note rows k r) (sym (eqb-true k 23 p6))) refl
  by_kind k false false false false false false true h x y p1 p2 p3 p4 p5 p6 p7 p8 p9 p10 = noted (ap (λ (k : ℕ). owner_note rows k r) (sym (eqb-true k 24 p7))) refl
  by_kind k false false false false false false false true x y p1 p2 p3 p4 p5 p6 p7 p8 p9 p10 = noted (ap (λ (k : ℕ). owner_note rows k r) (sym (eqb-true k 35 p8))) refl
  by_kind k false false false false false false false false true y p1 p2 p3 p4 p5 p6 p7 p8 p9 p10 = not_noted (λ l. omega (arith, ltb-true k 20 p9, l.0))
  by_kind k false false false false false false false false false true p1 p2 p3 p4 p5 p6 p7 p8 p9 p10 = noted refl refl
  by_kind k false false false false false false false false false false p1 p2 p3 p4 p5 p6 p7 p8 p9 p10 = not_noted (λ l. omega (arith, ltb-false k 44 p10, l.1))

  notes-are : Notes (owner_note rows (kind_in rows r) r) (next_note rows r) (Low (kind_in rows r)) (row_at rows r)
  unfolding row_at
  notes-are = let k = kind_in rows r in by_kind k (eqb k 10) (eqb k 11) (eqb k 12) (eqb k 13) (eqb k 22) (eqb k 23) (eqb k 24) (eqb k 35) (ltb k 20) (ltb k 44) refl refl refl refl refl refl refl refl refl refl

module _ {rows : List ℤ} {code : List ℕ} (p : Prepared rows code) (r : ℕ) (h : r ≤ 1024) where
  process-kind-in : (x : Process) → (content_at rows r).process ≡ some x → (20 ≤ kind_in rows r) × (kind_in rows r < 42)
  process-kind-in x e = let (l, m) = process-kind rows ((accepted rows).0 p.accepted) r x e in rw (kind-in rows r (kind_at rows r) l refl) (process-kinds (kind_at rows r) m)

  -- number 4 of a process
  pub parent-note : (x : Process) → (content_at rows r).process ≡ some x → place_at code r 4 ≡ row_note (parent_of (program rows) r)
  unfolding owner_note
  parent-note x e = let k = process-kind-in x e in parent-at p r h ∙ go k (notes-are rows r)
    where
      go : (20 ≤ kind_in rows r) × (kind_in rows r < 42) → Notes (owner_note rows (kind_in rows r) r) (next_note rows r) (Low rows r (kind_in rows r)) (row_at rows r) → (row_at rows r).parent ≡ row_note (parent_of (program rows) r)
      go k (noted i j) = i ∙ ap (λ (t : Bool). if_else t (row_note (alt_of (program rows) r)) (row_note (parent_of (program rows) r))) (ne_eqb (kind_in rows r) 42 (λ z. omega (arith, k.1)))
      go k (not_noted l) = absurd (l (k.0, omega (arith, k.1)))

  -- number 4 of an option
  pub option-note : place_at code r 0 ≡ 42 → place_at code r 4 ≡ row_note (alt_of (program rows) r)
  unfolding owner_note
  option-note e = parent_is p r h 42 e (λ z. omega arith)

  -- number 5 of a row that has a parent
  pub next-members : (q : ℕ) → parent_of (program rows) r ≡ some q → (content_at rows (place_at code r 5)).listed ≡ processes_after r (processes_in (process_at (program rows) q))
  unfolding next_note
  next-members q e = ap (λ (n : ℕ). (content_at rows n).listed) (next-at p r h ∙ go (notes-are rows r)) ∙ after.after-it
    where
      after : After rows r (processes_in (process_at (program rows) q))
      after = members-after rows r q (parent-has (program rows) r q e).1

      go : Notes (owner_note rows (kind_in rows r) r) (next_note rows r) (Low rows r (kind_in rows r)) (row_at rows r) → (row_at rows r).next ≡ after.next
      go (noted i j) = j ∙ ap (λ (o : Maybe ℕ). if_parent o (next_link rows r) 0) e ∙ sym (next-is rows ((accepted rows).0 p.accepted) r after.next after.next_of)
      go (not_noted l) = let k = process-kind-in after.found after.stands-there in absurd (l (k.0, omega (arith, k.1)))
