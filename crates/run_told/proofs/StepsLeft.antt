-- The rows of a step are taken off the lists of the notes of a state: its owner first, then the row that outputs, if there is one.
use mathlib.Core.Path.{◌≡◌, refl, sym, ap, ◌∙◌}
use mathlib.Core.Bool.{Bool, true, false}
use mathlib.Core.Option.{none}
use mathlib.Core.List.{List, [], ◌∷◌}
use Prim.Native.Nat.{ℕ, suc, ◌-◌}
use native.Mathlib.Omega.{arith}
use lib.IntN.{ℤ}
use lib.ListN.{length}
use lib.Dec.{eqb}
use borrow.Author.Tests.{eqb-true, eqb-false}
use Rattle.meaning.specs.Basics.{if_else}
use Rattle.meaning.specs.State.{State, program, StateChange, Effect}
use Rattle.meaning.specs.Step.{becomes}
use Rattle.meaning.specs.Labels.{Label}
use Rattle.meaning.specs.Readings.{Sheet}
use Rattle.meaning.specs.Intent.{Intent}
use Rattle.meaning.specs.Ready.{intent_at}
use Rattle.meaning.specs.Order.{OrderOf}
use Rattle.meaning.specs.Answers.{check}
use Rattle.agreement.proofs.Active.{Active, acts-alone, passes_on, takes-open, takes-input}
use Rattle.run_kept.specs.Noting.{off}
use Rattle.run_notes.specs.declared.Notes.{Notes}
use Rattle.run_notes.specs.Notes.{leave_row}
use Rattle.run_noted.specs.Noted.{noted_by, NotesFit}
use Rattle.run_noted.proofs.NotesFit.{notes-fit}
use Rattle.run_noted.proofs.StepLeft as noted
use Rattle.run_changes.specs.declared.Change.{Change}
use Rattle.run_changes.specs.Changes.{changes_of}

-- ---- the rows of a change

-- the row that makes the first change, and the one that makes the second
abbrev first_by : List StateChange → ℕ
first_by [] = 0
first_by (k ∷ l) = k.by

abbrev second_by : List StateChange → ℕ
second_by [] = 0
second_by (k ∷ l) = first_by l

module _ (c : Change) where
  one-change : (r x v : ℕ) → becomes r x v ∷ [] ≡ changes_of c → (r ≡ c.owner) × (c.sender ≡ 0)
  one-change r x v e = (ap first_by e, go (eqb c.sender 0) refl (ap (λ (l : List StateChange). length l) e))
    where
      go : (t : Bool) → eqb c.sender 0 ≡ t → 1 ≡ length (becomes c.owner c.at c.next ∷ if_else t [] (becomes (c.sender - 1) (c.sender - 1) 2 ∷ [])) → c.sender ≡ 0
      go true q h = eqb-true c.sender 0 q
      go false q h = absurd (omega arith)

  two-changes : (r x v p : ℕ) → becomes r x v ∷ becomes p p 2 ∷ [] ≡ changes_of c → (r ≡ c.owner) × (c.sender ≡ suc p)
  two-changes r x v p e = (ap first_by e, go (eqb c.sender 0) refl (ap (λ (l : List StateChange). length l) e) (ap second_by e))
    where
      go : (t : Bool) → eqb c.sender 0 ≡ t → 2 ≡ length (becomes c.owner c.at c.next ∷ if_else t [] (becomes (c.sender - 1) (c.sender - 1) 2 ∷ []))
          → p ≡ second_by (becomes c.owner c.at c.next ∷ if_else t [] (becomes (c.sender - 1) (c.sender - 1) 2 ∷ [])) → c.sender ≡ suc p
      go true q h g = absurd (omega arith)
      go false q h g = let z = eqb-false c.sender 0 q in omega arith

-- ---- a step

-- the lists after the rows of a change are off: one row, or two
pub data StepLeft (rows : List ℤ) (m k : Notes) (c : Change) : Type 0 where
  left_one : c.sender ≡ 0 → leave_row rows c.owner m ≡ k → StepLeft rows m k c
  left_both : (p : ℕ) → c.sender ≡ suc p → leave_row rows p (leave_row rows c.owner m) ≡ k → StepLeft rows m k c

module _ (rows : List ℤ) (ok : check rows ≡ none) (sheet : Sheet) (l : List Label) (s : State) (o : OrderOf rows sheet l s) where
  abbrev W : ℕ → Intent
  W = intent_at (program rows) sheet s

  F : NotesFit rows (intent_at (program rows) sheet s)
  F = notes-fit rows ok sheet l s o

  -- its rows by its changes
  pub step_left : {x : Label} {e : Effect} → Active (intent_at (program rows) sheet s) x e → (c : Change) → e.changes ≡ changes_of c
      → StepLeft rows (noted_by rows (intent_at (program rows) sheet s)) (noted_by rows (off x (intent_at (program rows) sheet s))) c
  step_left (acts-alone {r} {x} {v} q) c e =
      let (a, b) = one-change c r x v e in
      left_one b (ap (λ (k : ℕ). leave_row rows k (noted_by rows W)) (sym a) ∙ noted.step_left_lem rows ok W F (acts-alone q))
  step_left (passes_on {i} {o = p} q g) c e =
      let (b, f) = two-changes c i i 2 p e in
      left_both p f (ap (λ (k : ℕ). leave_row rows p (leave_row rows k (noted_by rows W))) (sym b) ∙ noted.step_left_lem rows ok W F (passes_on q g))
  step_left (takes-open {r} {q = b} q g) c e =
      let (a, f) = one-change c r b 1 e in
      left_one f (ap (λ (k : ℕ). leave_row rows k (noted_by rows W)) (sym a) ∙ noted.step_left_lem rows ok W F (takes-open q g))
  step_left (takes-input {r} {o = p} {q = b} q g h) c e =
      let (k, f) = two-changes c r b 1 p e in
      left_both p f (ap (λ (k : ℕ). leave_row rows p (leave_row rows k (noted_by rows W))) (sym k) ∙ noted.step_left_lem rows ok W F (takes-input q g h))
