-- Notes at some rows: a note that was made stays.
use mathlib.Core.Path.{◌≡◌, refl, sym, ap, ◌∙◌}
use mathlib.Core.Bool.{Bool, true, false, ◌||◌, ◌&&◌, true≢false}
use mathlib.Core.List.{List, [], ◌∷◌, ◌++◌, append-nil}
use Prim.Native.Nat.{ℕ, zero, suc, ◌<◌, ◌≤◌}
use native.Mathlib.Nat.{le_antisymm}
use lib.ListN.{length, get_or, set, length-set, drop, replicate}
use lib.Seq.{drop-length, get_or-set_same, get_or-set_other}
use lib.Dec.{ltb, eqb}
use borrow.Author.Tests.{eqb-true, eqb-false, ltb-true, le-ltb, lt-ltb, eq-eqb, ne_eqb}
use Rattle.meaning.specs.Basics.{if_else, any_passes, among}
use Rattle.run_parents.specs.Marks.{first_note, note_at}

-- none is due
pub noted-none : (j note old : ℕ) (l : List ℕ) → l ≡ [] → first_note (among j l) note old ≡ old
unfolding any_passes
noted-none j note old l e = rw e

stays : (t : Bool) (note : ℕ) → first_note t note note ≡ note
stays true zero = refl
stays true (suc n) = refl
stays false n = refl

kept_by : (s t : Bool) (note old : ℕ) → (old ≡ 0 → ⊥) → first_note s note old ≡ first_note t note old
kept_by s t note zero h = absurd (h refl)
kept_by true true note (suc n) h = refl
kept_by true false note (suc n) h = refl
kept_by false true note (suc n) h = refl
kept_by false false note (suc n) h = refl

module _ (j t note : ℕ) (m owners : List ℕ) (l : j < length owners) where
  -- row t has a note, or no place for one
  pub note-kept : (t < length owners → get_or owners t 0 ≡ 0 → ⊥) → first_note (among j (t ∷ m)) note (get_or owners j 0) ≡ first_note (among j m) note (get_or owners j 0)
  unfolding any_passes
  note-kept h = go (eqb j t) refl
    where
      go : (s : Bool) → eqb j t ≡ s → first_note (s || any_passes (eqb j) m) note (get_or owners j 0) ≡ first_note (any_passes (eqb j) m) note (get_or owners j 0)
      go false e = refl
      go true e =
          let q : j ≡ t = eqb-true j t e in
          kept_by true (any_passes (eqb j) m) note (get_or owners j 0) (λ z. h (rw q at l) (rw q at z))

  -- row t gets its note
  pub note-made : t < length owners → get_or owners t 0 ≡ 0 → first_note (among j (t ∷ m)) note (get_or owners j 0) ≡ first_note (among j m) note (get_or (set owners t note) j 0)
  unfolding any_passes
  note-made h z = go (eqb j t) refl
    where
      go : (s : Bool) → eqb j t ≡ s → first_note (s || any_passes (eqb j) m) note (get_or owners j 0) ≡ first_note (any_passes (eqb j) m) note (get_or (set owners t note) j 0)
      go false e = ap (first_note (any_passes (eqb j) m) note) (sym (get_or-set_other owners t j note 0 (λ q. eqb-false j t e q)))
      go true e =
          let q : j ≡ t = eqb-true j t e in
          rw (q, z, get_or-set_same owners t note 0 h) (sym (stays (any_passes (eqb t) m) note))

  -- so with what the code leaves
  pub note-given : first_note (among j (t ∷ m)) note (get_or owners j 0) ≡ first_note (among j m) note (get_or (note_at owners t note) j 0)
  note-given = go (ltb t (length owners)) (eqb (get_or owners t 0) 0) refl refl
    where
      go : (a b : Bool) → ltb t (length owners) ≡ a → eqb (get_or owners t 0) 0 ≡ b
          → first_note (among j (t ∷ m)) note (get_or owners j 0) ≡ first_note (among j m) note (get_or (if_else (a && b) (set owners t note) owners) j 0)
      go true true e f = note-made (ltb-true t (length owners) e) (eqb-true (get_or owners t 0) 0 f)
      go true false e f = note-kept (λ h z. eqb-false (get_or owners t 0) 0 f z)
      go false b e f = note-kept (λ h z. let q : ◌≡◌ {A = Bool} true false = sym (lt-ltb t (length owners) h) ∙ e in absurd (true≢false q))

-- what the code leaves, by its tests
module _ (notes : List ℕ) (t note : ℕ) where
  pub note-past : length notes ≤ t → notes ≡ note_at notes t note
  note-past h = rw (le-ltb t (length notes) h)

  pub note-there : t < length notes → (get_or notes t 0 ≡ 0 → ⊥) → notes ≡ note_at notes t note
  note-there h n = rw (lt-ltb t (length notes) h, ne_eqb (get_or notes t 0) 0 n)

  pub note-new : t < length notes → get_or notes t 0 ≡ 0 → set notes t note ≡ note_at notes t note
  note-new h e = rw (lt-ltb t (length notes) h, eq-eqb (get_or notes t 0) 0 e)

  pub note-length : length (note_at notes t note) ≡ length notes
  note-length = go (ltb t (length notes) && eqb (get_or notes t 0) 0)
    where
      go : (b : Bool) → length (if_else b (set notes t note) notes) ≡ length notes
      go true = length-set notes t note
      go false = refl

-- notes that are cleared to their end
pub all-cleared : (s t : List ℕ) (i : ℕ) → s ≡ replicate i 0 ++ drop i t → i ≤ length t → length t ≤ i → s ≡ replicate (length t) 0
all-cleared s t i e h g =
    e
    ∙ ap (λ (k : ℕ). replicate k 0 ++ drop k t) (le_antisymm h g)
    ∙ ap (λ (l : List ℕ). replicate (length t) 0 ++ l) (drop-length t)
    ∙ append-nil (replicate (length t) 0)
