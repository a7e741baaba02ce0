-- What the code does to the notes when rows are noted is what the definitions say.
use mathlib.Core.Path.{◌≡◌, sym, ap, ◌∙◌}
use mathlib.Core.List.{List, [], ◌∷◌}
use Prim.Native.Nat.{ℕ}
use native.Mathlib.Omega.{arith}
use lib.IntN.{ℤ}
use Rattle.meaning.specs.Tree.{AltOption}
use Rattle.run_notes.specs.declared.Note.{Note}
use Rattle.run_notes.specs.declared.Notes.{Notes}
use Rattle.run_intents.specs.declared.Does.TheVariants.{Selects}
use Rattle.run_notes.proofs.Changes.{test-yes, test-no}
use Rattle.run_notes.specs.Notes.{noted_of, note_numbers, stored, raising, wait_input, wake_option, wake_options, options_at, wait_output, note_as, note_options, note_alt, note_row}

-- options one after another
pub none-woken : (e : ℕ) (m : Notes) {bs : List AltOption} → bs ≡ [] → m ≡ wake_options e bs m
unfolding wake_options
none-woken e m h = ap (λ (bs : List AltOption). wake_options e bs m) (sym h)

pub next-woken : (e j : ℕ) (m : Notes) {o p : Notes} {b : AltOption} {bs l : List AltOption} → l ≡ b ∷ bs → b.row ≡ j → o ≡ wake_option e j m → p ≡ wake_options e bs o → p ≡ wake_options e l m
unfolding wake_options
next-woken e j m {b = b} {bs = bs} h i f g =
    g ∙ ap (wake_options e bs) (f ∙ ap (λ (k : ℕ). wake_option e k m) (sym i)) ∙ ap (λ (l : List AltOption). wake_options e l m) (sym h)

module _ (rows : List ℤ) where
  -- a row or option is noted
  module _ (m : Notes) (r j : ℕ) (n : Note) {k : Notes} (f : k ≡ stored j n m) where
    pub noted-waits : n.what ≡ 0 → k ≡ note_as rows r j n m
    unfolding note_as
    noted-waits h = rw (test-yes h) f

    pub noted-input : n.what ≡ 7 → {o : Notes} → o ≡ wait_input r j n.at k → o ≡ note_as rows r j n m
    unfolding note_as
    noted-input h e =
        let z : n.what ≡ 0 → ⊥ = λ z. omega arith in
        rw (test-no z, test-yes h) (e ∙ ap (wait_input r j n.at) f)

    pub noted-output : n.what ≡ 8 → {o : Notes} → o ≡ wait_output rows j n.at k → o ≡ note_as rows r j n m
    unfolding note_as
    noted-output h e =
        let z : n.what ≡ 0 → ⊥ = λ z. omega arith in
        let y : n.what ≡ 7 → ⊥ = λ z. omega arith in
        rw (test-no z, test-no y, test-yes h) (e ∙ ap (wait_output rows j n.at) f)

    pub noted-ready : (n.what ≡ 0 → ⊥) → (n.what ≡ 7 → ⊥) → (n.what ≡ 8 → ⊥) → {o : Notes} → o ≡ raising j k → o ≡ note_as rows r j n m
    unfolding note_as
    noted-ready x y z e = rw (test-no x, test-no y, test-no z) (e ∙ ap (raising j) f)

  -- options are noted one after another
  module _ (f : AltOption → Note) (r : ℕ) where
    pub no-options : {n : Note} {bs : List AltOption} (m : Notes) → bs ≡ [] → n ≡ note_numbers Selects → noted_of n m ≡ note_options rows f r bs m
    unfolding note_options
    no-options m h e = rw (h, e)

    module _ {n : Note} {o : AltOption} {l bs : List AltOption} (m : Notes) (h : l ≡ o ∷ bs) (e : n ≡ f o) where
      pub option-lacks : n.what ≡ 1 → noted_of n m ≡ note_options rows f r l m
      unfolding note_options
      option-lacks w = rw (h, ← e, test-yes w)

      pub later-lacks : (n.what ≡ 1 → ⊥) → {z : Note} {k : Notes} → noted_of z k ≡ note_options rows f r bs m → z.what ≡ 1 → noted_of z k ≡ note_options rows f r l m
      unfolding note_options
      later-lacks w p v = rw (h, ← e, test-no w, ← p, test-yes v)

      pub option-noted : (n.what ≡ 1 → ⊥) → {z : Note} {k i : Notes} → noted_of z k ≡ note_options rows f r bs m → (z.what ≡ 1 → ⊥) → {j : ℕ} → o.row ≡ j → i ≡ note_as rows r j n k
          → noted_of z i ≡ note_options rows f r l m
      unfolding note_options
      option-noted w p v q d = rw (h, ← e, test-no w, ← p, test-no v, q, ← d)

    -- and then their ALT
    module _ {n : Note} {l : List AltOption} (m : Notes) {k o : Notes} (h : l ≡ options_at rows r) (p : noted_of n k ≡ note_options rows f r l m) (g : o ≡ stored r n k) where
      pub alt-stops : n.what ≡ 1 → {i : Notes} → i ≡ raising r o → i ≡ note_alt rows f r m
      unfolding note_alt
      alt-stops w e = rw (← h, ← p, test-yes w, e, g)

      pub alt-selects : (n.what ≡ 1 → ⊥) → o ≡ note_alt rows f r m
      unfolding note_alt
      alt-selects w = rw (← h, ← p, test-no w, g)

    -- a row that came to work
    pub row-selects : (n : Note) (m : Notes) {k : Notes} → n.what ≡ 9 → k ≡ note_alt rows f r m → k ≡ note_row rows f r n m
    unfolding note_row
    row-selects n m w h = rw (test-yes w) h

    pub row-noted : (n : Note) (m : Notes) {k : Notes} → (n.what ≡ 9 → ⊥) → k ≡ note_as rows r r n m → k ≡ note_row rows f r n m
    unfolding note_row
    row-noted n m w h = rw (test-no w) h
