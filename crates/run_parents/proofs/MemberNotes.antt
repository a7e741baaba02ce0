-- Notes of parents: at one member, at the members of a link, at those of a row, and at those of all rows below one.
use mathlib.Core.Path.{◌≡◌, refl, sym, ap, ◌∙◌}
use mathlib.Core.Bool.{Bool, true, false, ◌||◌, true≢false}
use mathlib.Core.Option.{Option, none, some}
use mathlib.Core.List.{List, [], ◌∷◌}
use Prim.Native.Nat.{ℕ, zero, suc, ◌+◌, ◌<◌, ◌≤◌}
use native.Mathlib.Omega.{arith}
use lib.IntN.{ℤ}
use lib.ListN.{length, get_or, set}
use lib.Seq.{get_or-set_same, get_or-set_other}
use lib.Dec.{ltb, eqb}
use borrow.Author.Tests.{ltb-false, eqb-true, eqb-false}
use Rattle.meaning.specs.Basics.{if_else, is_some, any_passes, among, lowest}
use Rattle.meaning.specs.Rows.{row_count}
use Rattle.meaning.specs.Tree.{Process, Processes, empty, Content, and_process, content_at, or_stop, row_of, processes_in, process_rows}
use Rattle.meaning.specs.State.{program, process_at}
use Rattle.agreement.proofs.TableTree.{part-past, process-is}
use Rattle.agreement.proofs.Separate.{processes-length}
use Rattle.run_parents.specs.Members.{only_process}
use Rattle.run_parents.specs.Shapes.{shape_at}
use Rattle.run_parents.specs.declared.shape.Mode as code
use Rattle.run_parents.specs.declared.shape.Shape.{Shape}
use Rattle.run_parents.specs.declared.shape.Shape.TheVariants.{Ending, Single, Link, Neither}
use Rattle.run_parents.proofs.Standing.{EndingAt, SingleAt, LinkAt, Stands, stands}
use Rattle.machine.specs.Upward.{parent_of}
use Rattle.run_parents.specs.Marks.{row_note, first_note}
use Rattle.run_parents.proofs.Below.{lowest-none, lowest-next}
use Rattle.run_parents.specs.Parents.{in_table, where_free, NotedAtEach, ProcessesNoted, ProcessNoted, RowNoted}

-- ---- one member

module _ (rows : List ℤ) where
  -- past the table no members follow
  pub none-past : (t : ℕ) → row_count rows ≤ t → (content_at rows t).listed ≡ empty
  none-past t l = ap (λ (p : Content). p.listed) (part-past rows t l)

  -- a link past the table may be any other such
  pub in-table-members : (t : ℕ) → (content_at rows (in_table rows t)).listed ≡ (content_at rows t).listed
  in-table-members t = go (ltb t (row_count rows)) refl
    where
      go : (b : Bool) → ltb t (row_count rows) ≡ b → (content_at rows (if_else b t (row_count rows))).listed ≡ (content_at rows t).listed
      go true e = refl
      go false e = none-past (row_count rows) (omega arith) ∙ sym (none-past t (ltb-false t (row_count rows) e))

  -- a process that stands at row p is of row p, which is in the table
  pub row-alone : (p : ℕ) → is_some (content_at rows p).process ≡ true → (process_rows (only_process (content_at rows p).process) ≡ p ∷ []) × (p < row_count rows)
  row-alone p e = go (shape_at rows p) (stands rows p) e
    where
      go : (s : Shape) → Stands rows p s → is_some (content_at rows p).process ≡ true → (process_rows (only_process (content_at rows p).process) ≡ p ∷ []) × (p < row_count rows)
      go (Ending m f) h e = (ap (λ (o : Option Process). process_rows (only_process o)) h.process-is, omega (arith, h.fewer))
      go (Single b) h e = (ap (λ (o : Option Process). process_rows (only_process o)) h.process-is, omega (arith, h.fewer))
      go (Link q t) h e = let z : ◌≡◌ {A = Bool} true false = sym e ∙ ap is_some h.no-process in absurd (true≢false z)
      go Neither h e = let z : ◌≡◌ {A = Bool} true false = sym e ∙ ap is_some h.no-process in absurd (true≢false z)

-- the note at row p, where it has no parent yet
module _ (p note : ℕ) (parents : List ℕ) (l : p < length parents) where
  one_parent : (j : ℕ) (t : Bool) → eqb (get_or parents p 0) 0 ≡ t → get_or (if_else t (set parents p note) parents) j 0 ≡ first_note (eqb j p || false) note (get_or parents j 0)
  one_parent j t e = go (eqb j p) refl t e
    where
      go : (s : Bool) → eqb j p ≡ s → (t : Bool) → eqb (get_or parents p 0) 0 ≡ t → get_or (if_else t (set parents p note) parents) j 0 ≡ first_note (s || false) note (get_or parents j 0)
      go true i true e =
          let q : j ≡ p = eqb-true j p i in
          rw (q, eqb-true (get_or parents p 0) 0 e) (get_or-set_same parents p note 0 l)
      go true i false e =
          let q : j ≡ p = eqb-true j p i in
          rw q (stays (get_or parents p 0) (eqb-false (get_or parents p 0) 0 e))
        where
          stays : (old : ℕ) → (old ≡ 0 → ⊥) → old ≡ first_note true note old
          stays zero h = absurd (h refl)
          stays (suc n) h = refl
      go false i true e = get_or-set_other parents p j note 0 (λ q. eqb-false j p i q)
      go false i false e = refl

  one-noted : NotedAtEach (p ∷ []) note parents (where_free parents p parents note)
  unfolding any_passes
  one-noted = record { parent = λ j. one_parent j (eqb (get_or parents p 0) 0) refl }

-- no member, no note
none-noted : (list : List ℕ) (note : ℕ) (parents : List ℕ) → list ≡ [] → NotedAtEach list note parents parents
unfolding any_passes
none-noted list note parents e = rw e (record { parent = λ j. refl })

module _ (rows : List ℤ) (p note : ℕ) (parents : List ℕ) where
  -- a process stands at row p
  pub member-noted : (parents₁ : List ℕ) → is_some (content_at rows p).process ≡ true → row_count rows ≤ length parents → parents₁ ≡ where_free parents p parents note → ProcessNoted rows p note parents parents₁
  member-noted parents₁ h l i =
      let (alone-is, here) = row-alone rows p h in
      rw (alone-is, i) (one-noted p note parents (omega arith))

  -- none does
  pub no-member-noted : is_some (content_at rows p).process ≡ false → ProcessNoted rows p note parents parents
  no-member-noted h = none-noted (process_rows (only_process (content_at rows p).process)) note parents (go (content_at rows p).process h)
    where
      go : (o : Option Process) → is_some o ≡ false → process_rows (only_process o) ≡ []
      go none e = refl
      go (some q) e = absurd (true≢false e)

-- ---- members

pub no-members-noted : (ms : Processes) (note : ℕ) (parents : List ℕ) → ms ≡ empty → ProcessesNoted ms note parents parents
no-members-noted ms note parents e = none-noted (process_rows ms) note parents (ap process_rows e)

-- a note and then more of the same
both-notes : (s t : Bool) (note old : ℕ) → 0 < note → first_note t note (first_note (s || false) note old) ≡ first_note (s || t) note old
both-notes false t note old l = refl
both-notes true t zero old l = absurd (omega arith)
both-notes true true (suc n) zero l = refl
both-notes true false (suc n) zero l = refl
both-notes true true (suc n) (suc o) l = refl
both-notes true false (suc n) (suc o) l = refl

module _ (rows : List ℤ) (note : ℕ) (l : 0 < note) (parents parents₁ parents₂ : List ℕ) where
  -- a member, if there is one, and those after it
  both-noted : (o : Option Process) (ms : Processes) → ProcessesNoted (only_process o) note parents parents₁ → ProcessesNoted ms note parents₁ parents₂ → ProcessesNoted (and_process o ms) note parents parents₂
  unfolding any_passes
  both-noted none ms f g = record { parent = λ j. g.parent j ∙ ap (first_note (among j (process_rows ms)) note) (f.parent j) }
  both-noted (some p) ms f g = record { parent = λ j. g.parent j ∙ ap (first_note (among j (process_rows ms)) note) (f.parent j) ∙ both-notes (eqb j (row_of p)) (among j (process_rows ms)) note (get_or parents j 0) l }

  -- those of a link
  pub link-noted : {t p q : ℕ} → LinkAt rows t p q → ProcessNoted rows p note parents parents₁ → ProcessesNoted (content_at rows q).listed note parents₁ parents₂ → ProcessesNoted (content_at rows t).listed note parents parents₂
  link-noted {t} {p} {q} h f g = rw h.members-are (both-noted (content_at rows p).process (content_at rows q).listed f g)

-- ---- the members of a row's process

module _ (rows : List ℤ) (r : ℕ) (parents parents₁ : List ℕ) where
  row_is : (ms : Processes) → processes_in (or_stop (content_at rows r).process) ≡ ms → ProcessesNoted ms (r + 1) parents parents₁ → RowNoted rows r parents parents₁
  row_is ms e f = rw (process-is rows r, e) f

  pub ending-noted : {m : code.Mode} {f : ℕ} → EndingAt rows r m f → ProcessesNoted (content_at rows f).listed (r + 1) parents parents₁ → RowNoted rows r parents parents₁
  ending-noted {m} {f} h = row_is (content_at rows f).listed (ap (λ (o : Option Process). processes_in (or_stop o)) h.process-is)

  pub single-noted : {b : ℕ} → SingleAt rows r b → ProcessNoted rows b (r + 1) parents parents₁ → RowNoted rows r parents parents₁
  single-noted {b} h = row_is (only_process (content_at rows b).process) (ap (λ (o : Option Process). processes_in (or_stop o)) h.process-is)

pub bare-noted : (rows : List ℤ) (r : ℕ) (parents : List ℕ) → (content_at rows r).process ≡ none → RowNoted rows r parents parents
bare-noted rows r parents e = row_is rows r parents parents empty (ap (λ (o : Option Process). processes_in (or_stop o)) e) (none-noted [] (r + 1) parents refl)

-- ---- all rows

module _ (rows : List ℤ) where
  -- has the process of row q a member of row j
  abbrev has_member : ℕ → ℕ → Bool
  has_member j q = among j (process_rows (processes_in (process_at (program rows) q)))

  parent-lowest : (j : ℕ) → parent_of (program rows) j ≡ lowest (has_member j) (length (program rows).processes)
  unfolding parent_of
  parent-lowest j = refl

  -- what is noted once the rows below r have been gone through
  pub record NotedBelow (r : ℕ) (parents : List ℕ) : Type 0 where
    pub parent : (j : ℕ) → get_or parents j 0 ≡ row_note (lowest (has_member j) r)

  pub noted-first : (parents : List ℕ) → ((j : ℕ) → get_or parents j 0 ≡ 0) → NotedBelow 0 parents
  noted-first parents z = record { parent = λ j. z j ∙ sym (lowest-none (has_member j)) }

  pub noted-next : (r : ℕ) (parents parents₁ : List ℕ) → NotedBelow r parents → RowNoted rows r parents parents₁ → NotedBelow (r + 1) parents₁
  noted-next r parents parents₁ k f = record { parent = λ j. f.parent j ∙ ap (first_note (has_member j r) (r + 1)) (k.parent j) ∙ sym (lowest-next (has_member j) r) }

  -- each row has the note of its parent
  pub noted-parent : (r : ℕ) (parents : List ℕ) → r ≡ row_count rows → NotedBelow r parents → (j : ℕ) → get_or parents j 0 ≡ row_note (parent_of (program rows) j)
  noted-parent r parents e k j = k.parent j ∙ ap row_note (ap (lowest (has_member j)) (e ∙ sym (processes-length rows)) ∙ sym (parent-lowest j))
