-- A note is taken off the lists: of a row, and of options one after another.
use mathlib.Core.Path.{◌≡◌, refl, sym, ap, ap₂, subst, ◌∙◌}
use mathlib.Core.Logic.{◌≢◌}
use mathlib.Core.Bool.{Bool, true, false, ◌&&◌, ◌||◌}
use mathlib.Core.List.{List, [], ◌∷◌, Memᴰ}
use Prim.Native.Nat.{ℕ, suc, ◌<◌, ◌≤◌}
use native.Mathlib.Omega.{arith}
use native.Mathlib.Decide.{ℕ_discrete}
use lib.Dec.{eqb}
use Rattle.meaning.specs.Basics.{if_else, any_passes, among}
use Rattle.meaning.specs.Tree.{AltOption}
use Rattle.agreement.specs.RowsOfSteps.{rows_of_options}
use Rattle.agreement.proofs.Options.{Rising}
use Rattle.run_intents.specs.declared.Does.TheVariants.{Waits}
use Rattle.run_notes.specs.declared.Note.{Note}
use Rattle.run_notes.specs.declared.Notes.{Notes}
use Rattle.run_notes.specs.Notes.{note_numbers, stored, what_of, where_of, receiving, sending, lowering, leave_element, leave_note, leave_options}
use Rattle.run_notes.proofs.Changes.{test-yes, test-no}
use Rattle.run_noted.specs.Noted.{no_note, lists_for}
use Rattle.run_noted.proofs.Blocks.{swap-rows}
use Rattle.run_noted.proofs.Contents.{put, put_other, lists-same, what-for, where-for, stored-for, lowering-for, receiving-for, sending-for}
use Rattle.run_noted.proofs.Offers.{rising-member, any_same, waits_at}

module _ (n : ℕ) (few : n ≤ 1024) where
  -- the rest of it, once the element is left
  off_rest : (f : ℕ → Note) (g h : ℕ → ℕ) (b : ℕ → Bool) (j : ℕ) → j < n → {m : Notes} → m ≡ lists_for n f g h b → stored j (note_numbers Waits) (lowering j m) ≡ lists_for n (put f j no_note) g h (put b j false)
  off_rest f g h b j l e =
      ap (λ (m : Notes). stored j no_note (lowering j m)) e
      ∙ ap (stored j no_note) (lowering-for n f g h b j (omega arith) l few)
      ∙ stored-for n f g h (put b j false) j (omega arith) no_note

  module _ (f : ℕ → Note) (g h : ℕ → ℕ) (b : ℕ → Bool) (j : ℕ) (l : j < n) where
    abbrev M : Notes
    M = lists_for n f g h b

    what : what_of (lists_for n f g h b) j ≡ (f j).what
    what = what-for n f g h b j (omega arith)

    -- a row that outputs nowhere
    pub left-for : (f j).what ≢ 8 → ((f j).what ≡ 7 → (f j).at < 256) → leave_note j (lists_for n f g h b) ≡ lists_for n (put f j no_note) (λ e. if_else (waits_at e (f j)) 0 (g e)) h (put b j false)
    unfolding leave_note leave_element
    left-for x y = go (ℕ_discrete (f j).what 7)
      where
        go : Dec ((f j).what ≡ 7) → stored j (note_numbers Waits) (lowering j (if_else (eqb (what_of M j) 7) (receiving (where_of M j) 0 M) (if_else (eqb (what_of M j) 8) (sending (where_of M j) 0 M) M)))
            ≡ lists_for n (put f j no_note) (λ e. if_else (waits_at e (f j)) 0 (g e)) h (put b j false)
        go (yes z) =
            off_rest f (put g (f j).at 0) h b j l
            (ap (λ (t : Bool). if_else t (receiving (where_of M j) 0 M) (if_else (eqb (what_of M j) 8) (sending (where_of M j) 0 M) M)) (test-yes (what ∙ z))
            ∙ ap (λ (e : ℕ). receiving e 0 M) (where-for n f g h b j (omega arith))
            ∙ receiving-for n f g h b (f j).at (y z) 0)
            ∙ lists-same n (λ i. refl) (λ e. ap (λ (t : Bool). if_else t 0 (g e)) (swap-rows (f j).at e ∙ ap (λ (t : Bool). t && eqb e (f j).at) (sym (test-yes z)))) (λ e. refl) (λ i o. refl)
        go (no z) =
            off_rest f g h b j l
            (ap₂ (λ (s t : Bool). if_else s (receiving (where_of M j) 0 M) (if_else t (sending (where_of M j) 0 M) M)) (test-no (λ i. z (sym what ∙ i))) (test-no (λ i. x (sym what ∙ i))))
            ∙ lists-same n (λ i. refl) (λ e. ap (λ (t : Bool). if_else (t && eqb e (f j).at) 0 (g e)) (sym (test-no z))) (λ e. refl) (λ i o. refl)

    -- a row that outputs
    pub sender-left-for : (f j).what ≡ 8 → (f j).at < 256 → leave_note j (lists_for n f g h b) ≡ lists_for n (put f j no_note) g (put h (f j).at 0) (put b j false)
    unfolding leave_note leave_element
    sender-left-for x y =
        let z : (f j).what ≢ 7 = λ i. omega arith in
        off_rest f g (put h (f j).at 0) b j l
        (ap₂ (λ (s t : Bool). if_else s (receiving (where_of M j) 0 M) (if_else t (sending (where_of M j) 0 M) M)) (test-no (λ i. z (sym what ∙ i))) (test-yes (what ∙ x))
        ∙ ap (λ (e : ℕ). sending e 0 M) (where-for n f g h b j (omega arith))
        ∙ sending-for n f g h b (f j).at y 0)

  -- a choice of two tests, one after the other
  either : {A : Type 0} (s t : Bool) (a c : A) → if_else t a (if_else s a c) ≡ if_else (s || t) a c
  either true true a c = refl
  either true false a c = refl
  either false true a c = refl
  either false false a c = refl

  -- options one after another
  pub options-left : (bs : List AltOption) (lo : ℕ) → Rising n lo bs → (f : ℕ → Note) (g h : ℕ → ℕ) (b : ℕ → Bool)
      → ((j : ℕ) → Memᴰ j (rows_of_options bs) → ((f j).what ≢ 8) × ((f j).what ≡ 7 → (f j).at < 256))
      → leave_options bs (lists_for n f g h b)
      ≡ lists_for n (λ q. if_else (among q (rows_of_options bs)) no_note (f q)) (λ e. if_else (any_passes (λ j. waits_at e (f j)) (rows_of_options bs)) 0 (g e)) h (λ q. if_else (among q (rows_of_options bs)) false (b q))
  unfolding leave_options any_passes
  options-left [] lo R f g h b fine = refl
  options-left (o ∷ bs) lo R f g h b fine =
      ap (leave_options bs) (left-for f g h b o.row R.1 (fine o.row (Memᴰ.head refl)).0 (fine o.row (Memᴰ.head refl)).1)
      ∙ options-left bs (suc o.row) R.2 (put f o.row no_note) (λ e. if_else (waits_at e (f o.row)) 0 (g e)) h (put b o.row false)
      (λ j m. subst (λ (k : Note). (k.what ≢ 8) × (k.what ≡ 7 → k.at < 256)) (sym (later j m)) (fine j (Memᴰ.tail m)))
      ∙ lists-same n (λ q. notes q) (λ e. receivers e) (λ e. refl) (λ q i. bits q)
    where
      later : (j : ℕ) → Memᴰ j (rows_of_options bs) → put f o.row no_note j ≡ f j
      later j m = let l = rising-member n (suc o.row) bs R.2 j m in put_other f o.row no_note j (λ z. omega (arith, l.0))

      notes : (q : ℕ) → if_else (any_passes (eqb q) (rows_of_options bs)) no_note (put f o.row no_note q) ≡ if_else (eqb q o.row || any_passes (eqb q) (rows_of_options bs)) no_note (f q)
      notes q =
          ap (λ (t : Bool). if_else (any_passes (eqb q) (rows_of_options bs)) no_note (if_else t no_note (f q))) (swap-rows o.row q)
          ∙ either (eqb q o.row) (any_passes (eqb q) (rows_of_options bs)) no_note (f q)

      bits : (q : ℕ) → if_else (any_passes (eqb q) (rows_of_options bs)) false (put b o.row false q) ≡ if_else (eqb q o.row || any_passes (eqb q) (rows_of_options bs)) false (b q)
      bits q =
          ap (λ (t : Bool). if_else (any_passes (eqb q) (rows_of_options bs)) false (if_else t false (b q))) (swap-rows o.row q)
          ∙ either (eqb q o.row) (any_passes (eqb q) (rows_of_options bs)) false (b q)

      receivers : (e : ℕ) → if_else (any_passes (λ j. waits_at e (put f o.row no_note j)) (rows_of_options bs)) 0 (if_else (waits_at e (f o.row)) 0 (g e))
          ≡ if_else (waits_at e (f o.row) || any_passes (λ j. waits_at e (f j)) (rows_of_options bs)) 0 (g e)
      receivers e =
          ap (λ (t : Bool). if_else t 0 (if_else (waits_at e (f o.row)) 0 (g e))) (any_same (λ j. waits_at e (put f o.row no_note j)) (λ j. waits_at e (f j)) (rows_of_options bs) (λ j m. ap (waits_at e) (later j m)))
          ∙ either (waits_at e (f o.row)) (any_passes (λ j. waits_at e (f j)) (rows_of_options bs)) 0 (g e)
