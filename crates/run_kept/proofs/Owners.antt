-- The steps that an owner has are the same after a step, unless the owner is noted anew or a sender comes where it waits.
use mathlib.Core.Path.{◌≡◌, refl, sym, ap, ap₂, subst, ◌∙◌}
use mathlib.Core.Logic.{◌≢◌, ◌⊎◌, inl, inr, ⊎_elim, ◌↔◌}
use mathlib.Core.Bool.{Bool, true, false}
use mathlib.Core.Option
use mathlib.Core.Option.{Option, none, some, none-ne-some, some-injective}
use mathlib.Core.List.Memᴰ
use mathlib.Core.List.{List, [], ◌∷◌, ◌++◌, map, flatten, Memᴰ}
use Prim.Native.Nat.{ℕ}
use native.Mathlib.Decide.{ℕ_discrete}
use lib.IntN.{ℤ}
use lib.Dec.{eqb}
use Rattle.meaning.specs.Basics.{if_else}
use borrow.Author.Tests.{eqb-true, eqb-false}
use Rattle.meaning.specs.Rows.{row_count}
use Rattle.meaning.specs.Usage.{numbers_from}
use Rattle.meaning.specs.State.{State, Program, program, Effect}
use Rattle.meaning.specs.Labels.{Label, own, pass, take_option, take_with_output}
use Rattle.meaning.specs.Readings.{Sheet}
use Rattle.meaning.specs.Intent.{Offer, open_offer, input_offer, Intent, waits, moves, inputs_from, outputs_to, selects}
use Rattle.meaning.specs.Ready.{is_live, intent_at, ready, after}
use Rattle.meaning.specs.Order.{OrderOf}
use Rattle.meaning.specs.Answers.{check}
use Rattle.agreement.proofs.Active.{RowOf, offer_at, Active}
use Rattle.agreement.proofs.Freedom.{NoneOf}
use Rattle.machine.specs.RowSteps.{alt_of, own_step_by, offer_step, option_step_by, first_step, list_of, waiting_at, own_step, option_step_of, option_step, step_at}
use Rattle.machine.proofs.RowTables.{ready-is}
use Rattle.machine.proofs.LiveRows.{intent-is}
use Rattle.machine.proofs.Unmoved.{order-after}
use Rattle.run_kept.specs.Kept.{offer_of, note_if, option_note, waiting_input, Moved}
use Rattle.run_kept.specs.ReadyClaims.{owner}
use Rattle.run_kept.proofs.Partners.{wants-waits, option-wants-waits, partner-steps, option-idle}
use Rattle.run_kept.proofs.Locality.{one-or-none, PartnerKept, own-step-kept, option-step-kept}

-- ---- the steps of an owner, in lists

-- the steps of owner r
abbrev pub owned_by : ℕ → List Label → List Label
owned_by r [] = []
owned_by r (x ∷ l) = let m = owned_by r l in if_else (eqb (owner x) r) (x ∷ m) m

unfoldable pub own_steps : Program → Sheet → State → ℕ → List Label
own_steps P sheet s r = owned_by r (ready P sheet s)

-- what is in it
pub owned-is : (r : ℕ) (y : Label) (l : List Label) → Memᴰ y (owned_by r l) ↔ ((owner y ≡ r) × Memᴰ y l)
owned-is r y [] = (λ m. absurd (Memᴰ.not-nil m), λ h. absurd (Memᴰ.not-nil h.1))
owned-is r y (x ∷ l) = go (eqb (owner x) r) refl (owned-is r y l)
  where
    go : (t : Bool) → eqb (owner x) r ≡ t → Memᴰ y (owned_by r l) ↔ ((owner y ≡ r) × Memᴰ y l)
        → Memᴰ y (if_else t (x ∷ owned_by r l) (owned_by r l)) ↔ ((owner y ≡ r) × Memᴰ y (x ∷ l))
    go true e (to, from) = (
      λ m. ⊎_elim (λ z. (ap owner z ∙ eqb-true (owner x) r e, Memᴰ.head z)) (λ i. let (o, n) = to i in (o, Memᴰ.tail n)) (Memᴰ.cases_cons m),
      λ (o, m). ⊎_elim (λ z. Memᴰ.head z) (λ i. Memᴰ.tail (from (o, i))) (Memᴰ.cases_cons m),
    )
    go false e (to, from) = (
      λ m. let (o, n) = to m in (o, Memᴰ.tail n),
      λ (o, m). ⊎_elim (λ z. absurd (eqb-false (owner x) r e (ap owner (sym z) ∙ o))) (λ i. from (o, i)) (Memᴰ.cases_cons m),
    )

owned-append : (r : ℕ) (a b : List Label) → owned_by r (a ++ b) ≡ owned_by r a ++ owned_by r b
owned-append r [] b = refl
owned-append r (x ∷ a) b = go (eqb (owner x) r) (owned-append r a b)
  where
    go : (t : Bool) → owned_by r (a ++ b) ≡ owned_by r a ++ owned_by r b → if_else t (x ∷ owned_by r (a ++ b)) (owned_by r (a ++ b)) ≡ if_else t (x ∷ owned_by r a) (owned_by r a) ++ owned_by r b
    go true e = ap (λ (m : List Label). x ∷ m) e
    go false e = e

owned-concat : (r : ℕ) (f g : ℕ → List Label) → ((j : ℕ) → owned_by r (f j) ≡ owned_by r (g j)) → (ks : List ℕ) → owned_by r (flatten (map f ks)) ≡ owned_by r (flatten (map g ks))
unfolding flatten
owned-concat r f g h [] = refl
owned-concat r f g h (k ∷ ks) =
    owned-append r (f k) (flatten (map f ks)) ∙ ap₂ (λ (a b : List Label). a ++ b) (h k) (owned-concat r f g h ks) ∙ sym (owned-append r (g k) (flatten (map g ks)))

-- a step of another owner is left out
owned-not : (r : ℕ) (x : Label) → owner x ≢ r → owned_by r (x ∷ []) ≡ []
owned-not r x ne = go (eqb (owner x) r) refl
  where
    go : (t : Bool) → eqb (owner x) r ≡ t → if_else t (x ∷ []) [] ≡ []
    go true e = absurd (ne (eqb-true (owner x) r e))
    go false e = refl

-- the owner of a row's own step is the row; that of an option's step is the ALT
map-owner : (f : ℕ → Label) (r : ℕ) → ((p : ℕ) → owner (f p) ≡ r) → (a : Option ℕ) (x : Label) → Option.map f a ≡ some x → owner x ≡ r
map-owner f r h none x e = absurd (none-ne-some x e)
map-owner f r h (some p) x e = ap owner (sym (some-injective (f p) x e)) ∙ h p

own-owner : (sender : ℕ → Option ℕ) (j : ℕ) (w : Intent) (x : Label) → own_step_by sender j w ≡ some x → owner x ≡ j
own-owner sender j waits x e = absurd (none-ne-some x e)
own-owner sender j (moves y v ws) x e = ap owner (sym (some-injective (own j) x e))
own-owner sender j (inputs_from d a) x e = map-owner (pass j) j (λ p. refl) (sender d) x e
own-owner sender j (outputs_to d v) x e = absurd (none-ne-some x e)
own-owner sender j (selects os) x e = absurd (none-ne-some x e)

offer-owner : (sender : ℕ → Option ℕ) (r j : ℕ) (o : Option Offer) (x : Label) → offer_step sender r j o ≡ some x → owner x ≡ r
offer-owner sender r j none x e = absurd (none-ne-some x e)
offer-owner sender r j (some (open_offer i q ws)) x e = ap owner (sym (some-injective (take_option r j) x e))
offer-owner sender r j (some (input_offer i q d a)) x e = map-owner (take_with_output r j) r (λ p. refl) (sender d) x e

option-owner : (sender : ℕ → Option ℕ) (r j : ℕ) (w : Intent) (x : Label) → option_step_by sender r j w ≡ some x → (owner x ≡ r) × ((o : Offer) × (offer_of j w ≡ some o))
option-owner sender r j waits x e = absurd (none-ne-some x e)
option-owner sender r j (moves y v ws) x e = absurd (none-ne-some x e)
option-owner sender r j (inputs_from d a) x e = absurd (none-ne-some x e)
option-owner sender r j (outputs_to d v) x e = absurd (none-ne-some x e)
option-owner sender r j (selects os) x e = (offer-owner sender r j (offer_at j os) x e, there (offer_at j os) e)
  where
    there : (o : Option Offer) → offer_step sender r j o ≡ some x → (p : Offer) × (o ≡ some p)
    there none e = absurd (none-ne-some x e)
    there (some p) e = (p, refl)

module _ (P : Program) (sheet : Sheet) (s : State) (j : ℕ) where
  own-step-owner : (x : Label) → own_step P sheet s j ≡ some x → owner x ≡ j
  unfolding own_step
  own-step-owner x e = own-owner (waiting_at P sheet s) j (intent_at P sheet s j) x e

  -- an option's step: its owner is the ALT, and the option offers something
  pub option-step-owner : (x : Label) → option_step P sheet s j ≡ some x → (alt_of P j ≡ some (owner x)) × ((o : Offer) × (option_note P sheet s j ≡ some o))
  unfolding option_step option_note
  option-step-owner x e = go (alt_of P j) e
    where
      go : (a : Option ℕ) → option_step_of P sheet s j a ≡ some x → (a ≡ some (owner x)) × ((o : Offer) × (offer_of j (note_if P sheet s a) ≡ some o))
      go none e = absurd (none-ne-some x e)
      go (some r) e = let (q, p) = option-owner (waiting_at P sheet s) r j (intent_at P sheet s r) x e in (ap some (sym q), p)

-- a row that is not at work has no step by itself
pub idle-own : (rows : List ℤ) (sheet : Sheet) (s : State) (j : ℕ) → is_live (program rows) sheet j s ≡ false → own_step (program rows) sheet s j ≡ none
unfolding own_step
idle-own rows sheet s j h = rw (intent-is rows sheet s j false h)

-- which of the two steps of a row has an owner
pick-owned : (r : ℕ) (a b : Option Label) → ((x : Label) → a ≡ some x → owner x ≢ r) → ((x : Label) → b ≡ some x → owner x ≢ r) → owned_by r (list_of (first_step a b)) ≡ []
pick-owned r none none f g = refl
pick-owned r none (some y) f g = owned-not r y (g y refl)
pick-owned r (some x) b f g = owned-not r x (f x refl)

module _ (rows : List ℤ) (ok : check rows ≡ none) (sheet : Sheet) (l : List Label) (s : State) (o : OrderOf rows sheet l s)
    {x : Label} {e : Effect} (A : Active (intent_at (program rows) sheet s) x e) where
  abbrev P : Program
  P = program rows

  abbrev t : State
  t = after (program rows) sheet x s

  later : OrderOf rows sheet (l ++ (x ∷ [])) (after (program rows) sheet x s)
  later = order-after rows ok sheet l s o A

  -- no sender that is noted anew waits where row r waits to input
  abbrev pub NoneWakes : ℕ → Type 0
  NoneWakes r = (d p : ℕ) → waiting_input (program rows) sheet s d ≡ some r → waiting_at (program rows) sheet (after (program rows) sheet x s) d ≡ some p
      → ¬ Moved (program rows) sheet s x (after (program rows) sheet x s) p

  -- then its partners are kept: a partner of the step would have this row in the step
  partners : (r : ℕ) → ¬ RowOf x r → NoneWakes r → (d : ℕ) → waiting_input (program rows) sheet s d ≡ some r → PartnerKept rows ok sheet l s o A d
  partners r n f d h = (λ p g. go p g (one-or-none x p), λ p g. f d p h g)
    where
      go : (p : ℕ) → waiting_at P sheet s d ≡ some p → RowOf x p ⊎ NoneOf x p → NoneOf x p
      go p g (inl m) = absurd (n (partner-steps rows ok sheet l s o A d p r g m h))
      go p g (inr k) = k

  module _ (r : ℕ) (own-kept : own_step (program rows) sheet (after (program rows) sheet x s) r ≡ own_step (program rows) sheet s r)
      (option-kept : (j : ℕ) → alt_of (program rows) j ≡ some r → option_step (program rows) sheet (after (program rows) sheet x s) j ≡ option_step (program rows) sheet s j) where
    at-row : (j : ℕ) → owned_by r (list_of (step_at (program rows) sheet (after (program rows) sheet x s) j)) ≡ owned_by r (list_of (step_at (program rows) sheet s j))
    unfolding step_at
    at-row j = by-alt (ℕ_discrete j r) (is-alt (alt_of P j))
      where
        not-alt : (u : State) → (alt_of P j ≡ some r → ⊥) → (y : Label) → option_step P sheet u j ≡ some y → owner y ≢ r
        not-alt u z y h q = z ((option-step-owner P sheet u j y h).0 ∙ ap some q)

        not_own : (u : State) → j ≢ r → (y : Label) → own_step P sheet u j ≡ some y → owner y ≢ r
        not_own u z y h q = z (sym (own-step-owner P sheet u j y h) ∙ q)

        -- the row itself, an option of which it is not
        alone : j ≡ r → (alt_of P j ≡ some r → ⊥) → (c : Option Label) → own_step P sheet s j ≡ c → owned_by r (list_of (first_step (own_step P sheet t j) (option_step P sheet t j))) ≡ owned_by r (list_of (first_step (own_step P sheet s j) (option_step P sheet s j)))
        alone q z c h = rw (subst (λ (k : ℕ). own_step P sheet t k ≡ own_step P sheet s k) (sym q) own-kept, h) (rest c)
          where
            rest : (c : Option Label) → owned_by r (list_of (first_step c (option_step P sheet t j))) ≡ owned_by r (list_of (first_step c (option_step P sheet s j)))
            rest (some y) = refl
            rest none = pick-owned r none (option_step P sheet t j) (λ y h. absurd (none-ne-some y h)) (not-alt t z) ∙ sym (pick-owned r none (option_step P sheet s j) (λ y h. absurd (none-ne-some y h)) (not-alt s z))

        -- one of its options
        option : alt_of P j ≡ some r → (c : Option Label) → option_step P sheet s j ≡ c → owned_by r (list_of (first_step (own_step P sheet t j) (option_step P sheet t j))) ≡ owned_by r (list_of (first_step (own_step P sheet s j) (option_step P sheet s j)))
        option z (some y) h =
            let (p, g) = (option-step-owner P sheet s j y h).1 in
            rw (idle-own rows sheet s j (option-idle rows ok sheet l l s s o o j p g), idle-own rows sheet t j (option-idle rows ok sheet l (l ++ (x ∷ [])) s t o later j p g), option-kept j z)
        option z none h = rw (option-kept j z, h) (bare (ℕ_discrete j r))
          where
            bare : Dec (j ≡ r) → owned_by r (list_of (first_step (own_step P sheet t j) none)) ≡ owned_by r (list_of (first_step (own_step P sheet s j) none))
            bare (yes q) = rw (subst (λ (k : ℕ). own_step P sheet t k ≡ own_step P sheet s k) (sym q) own-kept)
            bare (no q) =
                pick-owned r (own_step P sheet t j) none (not_own t q) (λ y h. absurd (none-ne-some y h))
                ∙ sym (pick-owned r (own_step P sheet s j) none (not_own s q) (λ y h. absurd (none-ne-some y h)))

        neither : j ≢ r → (alt_of P j ≡ some r → ⊥) → owned_by r (list_of (first_step (own_step P sheet t j) (option_step P sheet t j))) ≡ owned_by r (list_of (first_step (own_step P sheet s j) (option_step P sheet s j)))
        neither q z = pick-owned r (own_step P sheet t j) (option_step P sheet t j) (not_own t q) (not-alt t z) ∙ sym (pick-owned r (own_step P sheet s j) (option_step P sheet s j) (not_own s q) (not-alt s z))

        by-alt : Dec (j ≡ r) → Dec (alt_of P j ≡ some r) → owned_by r (list_of (first_step (own_step P sheet t j) (option_step P sheet t j))) ≡ owned_by r (list_of (first_step (own_step P sheet s j) (option_step P sheet s j)))
        by-alt d (yes z) = option z (option_step P sheet s j) refl
        by-alt (yes q) (no z) = alone q z (own_step P sheet s j) refl
        by-alt (no q) (no z) = neither q z

        is-alt : (c : Option ℕ) → Dec (c ≡ some r)
        is-alt none = no (λ h. none-ne-some r h)
        is-alt (some k) = which (ℕ_discrete k r)
          where
            which : Dec (k ≡ r) → Dec (◌≡◌ {A = Option ℕ} (some k) (some r))
            which (yes q) = yes (ap some q)
            which (no q) = no (λ h. q (some-injective k r h))

    -- an owner has the same steps, where it has the same by itself and by each of its options
    pub owner-kept : own_steps (program rows) sheet (after (program rows) sheet x s) r ≡ own_steps (program rows) sheet s r
    unfolding own_steps
    owner-kept =
        ap (owned_by r) (ready-is rows ok sheet (l ++ (x ∷ [])) t later)
        ∙ owned-concat r (λ j. list_of (step_at P sheet t j)) (λ j. list_of (step_at P sheet s j)) at-row (numbers_from 0 (row_count rows))
        ∙ ap (owned_by r) (sym (ready-is rows ok sheet l s o))

  module _ (r : ℕ) (n : ¬ Moved (program rows) sheet s x (after (program rows) sheet x s) r) (f : NoneWakes r) where
    own-kept : own_step (program rows) sheet (after (program rows) sheet x s) r ≡ own_step (program rows) sheet s r
    own-kept = own-step-kept rows ok sheet l s o A r n (λ d h. partners r (λ m. n (inl m)) f d (wants-waits rows ok sheet l s o d r h))

    option-kept : (j : ℕ) → alt_of (program rows) j ≡ some r → option_step (program rows) sheet (after (program rows) sheet x s) j ≡ option_step (program rows) sheet s j
    option-kept j z =
        option-step-kept rows ok sheet l s o A j (λ q y. subst (λ (k : ℕ). ¬ Moved P sheet s x t k) (some-injective r q (sym z ∙ y)) n)
        (λ d h. partners r (λ m. n (inl m)) f d (option-wants-waits rows ok sheet l s o d r j z h))

    -- an owner that is not noted anew, and that no sender wakes, has the same steps: the labels, in order
    pub own-steps-kept : own_steps (program rows) sheet (after (program rows) sheet x s) r ≡ own_steps (program rows) sheet s r
    own-steps-kept = owner-kept r own-kept option-kept
