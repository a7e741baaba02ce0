-- To take the notes of a step's rows off the lists leaves the notes without them.
use mathlib.Core.Path.{◌≡◌, refl, sym, ap, subst, fun_ext, ◌∙◌}
use mathlib.Core.Logic.{◌≢◌}
use mathlib.Core.Bool.{Bool, true, false, ◌||◌}
use mathlib.Core.Option.{none}
use mathlib.Core.List.{List}
use Prim.Native.Nat.{ℕ}
use native.Mathlib.Omega.{arith}
use lib.IntN.{ℤ}
use lib.Dec.{T, eqb, eqb→eq}
use Rattle.meaning.specs.Basics.{if_else}
use Rattle.meaning.specs.Values.{Message}
use Rattle.meaning.specs.State.{Effect}
use Rattle.meaning.specs.Labels.{Label}
use Rattle.meaning.specs.Intent.{Intent, waits, outputs_to}
use Rattle.meaning.specs.Answers.{check}
use Rattle.agreement.proofs.Active.{Active, acts-alone, passes_on, takes-open, takes-input}
use Rattle.machine.specs.RowSteps.{is_output_to}
use Rattle.run_kept.specs.Kept.{is_input_from, offer_of, offer_wants}
use Rattle.run_kept.specs.Noting.{noted, off}
use Rattle.run_kept.proofs.Partners.{option-wants}
use Rattle.run_kept.proofs.Noting.{noted-itself}
use Rattle.run_notes.specs.Notes.{leave_row}
use Rattle.run_noted.specs.Noted.{noted_by, NotesFit, step_left}
use Rattle.run_noted.proofs.Blocks.{same_row}
use Rattle.run_noted.proofs.Left.{leave-row}
use Rattle.run_noted.proofs.NotesFit.{acting-row, off-under, kept, fit-under}

module _ (rows : List ℤ) (ok : check rows ≡ none) where
  -- a row that outputs nowhere
  one_left : (w : ℕ → Intent) → NotesFit rows w → (r : ℕ) → w r ≢ waits → ((e : ℕ) → T (is_output_to e (w r)) → ⊥) → leave_row rows r (noted_by rows w) ≡ noted_by rows (noted r waits w)
  one_left w F r z out =
      let (l, plain) = acting-row rows w F r z in
      leave-row rows ok w F r l plain (λ e q t h. out e t)

  -- a receiver and its sender
  module _ (w : ℕ → Intent) (F : NotesFit rows w) (r o e : ℕ) (m : Message) (t : T (is_input_from e (w r))) (h : w o ≡ outputs_to e m) where
    there : (d : ℕ) → T (is_output_to d (noted r waits w o)) → d ≡ e
    there d x = eqb→eq d e (subst (λ (i : Intent). T (is_output_to d i)) h (kept rows w (noted r waits w) F (off-under w r) (is_output_to d) (λ y. y) o x))

    alone : (d q : ℕ) → T (is_output_to d (noted r waits w o)) → T (is_input_from d (noted r waits w q)) → ⊥
    alone d q x y =
        let z = kept rows w (noted r waits w) F (off-under w r) (is_input_from d) (λ y. y) q y in
        let k : q ≡ r = F.one-receiver d q r z (subst (λ (d : ℕ). T (is_input_from d (w r))) (sym (there d x)) t) in
        subst (λ (i : Intent). T (is_input_from d i)) (ap (noted r waits w) k ∙ noted-itself r waits w) y

    both_left : ((d : ℕ) → T (is_output_to d (w r)) → ⊥) → leave_row rows o (leave_row rows r (noted_by rows w)) ≡ noted_by rows (noted o waits (noted r waits w))
    both_left out =
        let (l, plain) = acting-row rows w F o (λ z. let y : ◌≡◌ {A = ℕ} 0 1 = cc in omega arith) in
        ap (leave_row rows o) (one_left w F r (λ z. subst (λ (i : Intent). T (is_input_from e i)) z t) out)
        ∙ leave-row rows ok (noted r waits w) (fit-under rows w (noted r waits w) F (off-under w r)) o l plain alone

  two-off : (w : ℕ → Intent) (r o q : ℕ) → noted o waits (noted r waits w) q ≡ if_else (eqb r q || eqb o q) waits (w q)
  two-off w r o q = go (eqb r q) (eqb o q)
    where
      go : (s t : Bool) → if_else t waits (if_else s waits (w q)) ≡ if_else (s || t) waits (w q)
      go true true = refl
      go true false = refl
      go false true = refl
      go false false = refl

  -- the notes that a step takes off
  pub step_left_lem : (w : ℕ → Intent) → NotesFit rows w → {x : Label} {e : Effect} → Active w x e → step_left rows x (noted_by rows w) ≡ noted_by rows (off x w)
  step_left_lem w F (acts-alone {r} h) = one_left w F r (λ z. let y : ◌≡◌ {A = ℕ} 0 1 = cc in omega arith) (λ e t. subst (λ (i : Intent). T (is_output_to e i)) h t)
  step_left_lem w F (passes_on {i} {o} {e} {z = z} h g) =
      both_left w F i o e z (subst (λ (k : Intent). T (is_input_from e k)) (sym h) (subst (λ (t : Bool). T t) (sym (same_row e)) tt)) g (λ d t. subst (λ (k : Intent). T (is_output_to d k)) h t)
      ∙ ap (noted_by rows) (fun_ext (two-off w i o))
  step_left_lem w F (takes-open {r} h g) = one_left w F r (λ z. let y : ◌≡◌ {A = ℕ} 0 1 = cc in omega arith) (λ e t. subst (λ (i : Intent). T (is_output_to e i)) h t)
  step_left_lem w F (takes-input {r} {j} {o} {e = e} {z = z} h g f) =
      both_left w F r o e z (option-wants j e (w r) (ap (λ (k : Intent). offer_wants (offer_of j k)) h ∙ ap offer_wants g)) f (λ d t. subst (λ (k : Intent). T (is_output_to d k)) h t)
      ∙ ap (noted_by rows) (fun_ext (two-off w r o))
