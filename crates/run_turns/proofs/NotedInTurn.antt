-- Rows that came to work noted one after another: from notes that are those of a state or bare, all notes become those of that state.
use mathlib.Core.Path.{◌≡◌, refl, sym, ap, subst, ◌∙◌, fun_ext}
use mathlib.Core.Bool.{Bool, true, false}
use mathlib.Core.List.{List, [], ◌∷◌, Memᴰ}
use Prim.Native.Nat.{ℕ}
use Rattle.meaning.specs.Basics.{among}
use Rattle.meaning.specs.Intent.{Intent, waits}
use Rattle.meaning.proofs.Decides.{Decides, holding, failing}
use Rattle.machine.specs.Came.{Distinct}
use Rattle.run_kept.specs.Noting.{noted}
use Rattle.run_kept.proofs.Noting.{noted-itself, noted_other}
use Rattle.run_noted.specs.Noted.{Under}
use Rattle.run_noted.proofs.Offers.{decides-among}
use Rattle.run_noted.proofs.NotesFit.{noted-under}

-- these rows noted, one after another
abbrev pub noted_all : List ℕ → (ℕ → Intent) → (ℕ → Intent) → ℕ → Intent
noted_all [] v w = w
noted_all (r ∷ l) v w = noted_all l v (noted r (v r) w)

module _ (v : ℕ → Intent) where
  -- rows that are not listed keep their notes
  all-other : (l : List ℕ) (w : ℕ → Intent) (q : ℕ) → (Memᴰ q l → ⊥) → noted_all l v w q ≡ w q
  all-other [] w q h = refl
  all-other (r ∷ l) w q h =
      all-other l (noted r (v r) w) q (λ m. h (Memᴰ.tail m)) ∙ noted_other r (v r) w q (λ e. h (Memᴰ.head (sym e)))

  -- those that are get their notes of v
  all_same : (l : List ℕ) → Distinct l → (w : ℕ → Intent) (q : ℕ) → Memᴰ q l → noted_all l v w q ≡ v q
  all_same [] d w q x'' = elim x'' [ ]
  all_same (r ∷ l) d w q (Memᴰ.head e) = rw e (all-other l (noted r (v r) w) r d.0 ∙ noted-itself r (v r) w)
  all_same (r ∷ l) d w q (Memᴰ.tail m) = all_same l d.1 (noted r (v r) w) q m

  -- where notes that are not listed are those of v, all are in the end
  pub all_are : (l : List ℕ) → Distinct l → (w : ℕ → Intent) → ((q : ℕ) → (Memᴰ q l → ⊥) → w q ≡ v q) → noted_all l v w ≡ v
  all_are l d w h = fun_ext (λ q. go q (among q l) (decides-among q l))
    where
      go : (q : ℕ) (b : Bool) → Decides (Memᴰ q l) b → noted_all l v w q ≡ v q
      go q true (holding m) = all_same l d w q m
      go q false (failing m) = all-other l w q m ∙ h q m

  -- what `shown` tells of notes follows them, if it follows each row that is noted
  module _ {A : Type 0} (shown : (ℕ → Intent) → A) (step : ℕ → A → A) where
    abbrev pub step_all : List ℕ → A → A
    step_all [] m = m
    step_all (r ∷ l) m = step_all l (step r m)

    pub all_shown : (l : List ℕ) → Distinct l → ((r : ℕ) (w : ℕ → Intent) → Memᴰ r l → Under w v → w r ≡ waits → step r (shown w) ≡ shown (noted r (v r) w)) → (w : ℕ → Intent) → Under w v → ((r : ℕ) → Memᴰ r l → w r ≡ waits)
        → step_all l (shown w) ≡ shown (noted_all l v w)
    all_shown [] d one w u bare = refl
    all_shown (r ∷ l) d one w u bare =
        ap (step_all l) (one r w (Memᴰ.head refl) u (bare r (Memᴰ.head refl)))
        ∙ all_shown l d.1 (λ q x m. one q x (Memᴰ.tail m)) (noted r (v r) w) (noted-under v w u r)
        (λ q m. noted_other r (v r) w q (λ e. d.0 (subst (λ (k : ℕ). Memᴰ k l) (sym e) m)) ∙ bare q (Memᴰ.tail m))
