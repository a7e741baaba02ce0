-- What an ALT offers along its options: their rows rise, so each option has one offer at most.
use mathlib.Core.Path.{◌≡◌, refl, sym, ap, ap₂, subst, ◌∙◌}
use mathlib.Core.Logic.{◌⊎◌, inl, inr}
use mathlib.Core.Bool.{Bool, false, ◌&&◌, ◌||◌}
use mathlib.Core.Option.{Option, none, some}
use mathlib.Core.List.Memᴰ
use mathlib.Core.List.{List, [], ◌∷◌, Memᴰ}
use Prim.Native.Nat.{ℕ, suc, ◌<◌, ◌≤◌}
use native.Mathlib.Omega.{arith}
use lib.IntN.{ℤ}
use lib.Dec.{eqb}
use Rattle.meaning.specs.Basics.{if_else, any_passes, among}
use Rattle.meaning.specs.Rows.{row_count}
use Rattle.meaning.specs.Tree.{AltOption, Action, stop, skip, sequence, parallel, assign, input, output, conditional, loop, alternation, block, action_of}
use Rattle.meaning.specs.State.{Write, write_cell, write_place, write_output, program, process_at}
use Rattle.meaning.specs.Intent.{Offer, open_offer, input_offer}
use Rattle.meaning.specs.Ready.{option_row}
use Rattle.meaning.specs.Answers.{check}
use Rattle.meaning.proofs.AnswerLaws.{accepted}
use Rattle.meaning.proofs.Decides.{Decides, decides_eq, decides-any, decides-iff}
use Rattle.agreement.specs.RowsOfSteps.{rows_of_options, option_rows, offer_at}
use Rattle.agreement.proofs.Options.{Rising, ActionOk, options-rise}
use Rattle.agreement.proofs.TableOptions.{one-alt-row}
use Rattle.machine.specs.RowSteps.{alt_of}
use Rattle.machine.proofs.RowReady.{alt-found, alt-is}
use Rattle.run_kept.specs.Kept.{offers_input}
use Rattle.run_intents.specs.Stands.{options_of}
use Rattle.run_notes.specs.declared.Note.{Note}
use Rattle.run_notes.specs.Notes.{options_at}
use Rattle.run_noted.specs.Noted.{note_of_open, note_of_offer, Offered, offers-none, passed, taken}
use Rattle.run_noted.proofs.Blocks.{same_row, other_row}

-- the rows of options that rise
pub rising-member : (n lo : ℕ) (bs : List AltOption) → Rising n lo bs → (j : ℕ) → Memᴰ j (rows_of_options bs) → (lo ≤ j) × (j < n)
rising-member n lo [] R j m = absurd (Memᴰ.not-nil m)
rising-member n lo (b ∷ bs) R j m = go (rising-member n (suc b.row) bs R.2 j) (Memᴰ.cases_cons m)
  where
    go : (Memᴰ j (rows_of_options bs) → (suc b.row ≤ j) × (j < n)) → (j ≡ b.row) ⊎ Memᴰ j (rows_of_options bs) → (lo ≤ j) × (j < n)
    go later (inl e) = rw e (R.0, R.1)
    go later (inr k) = let l = later k in (omega (arith, l.0, R.0), l.1)

rising-options : (n : ℕ) (k : Action) → ActionOk n k → Rising n 0 (options_of k)
rising-options n stop h = tt
rising-options n skip h = tt
rising-options n sequence h = tt
rising-options n parallel h = tt
rising-options n (assign v e f) h = tt
rising-options n (input i) h = tt
rising-options n (output c e f) h = tt
rising-options n (conditional ts) h = tt
rising-options n (loop e b) h = tt
rising-options n (alternation bs) h = h
rising-options n (block v) h = tt

option-rows : (k : Action) → rows_of_options (options_of k) ≡ option_rows k
option-rows stop = refl
option-rows skip = refl
option-rows sequence = refl
option-rows parallel = refl
option-rows (assign v e f) = refl
option-rows (input i) = refl
option-rows (output c e f) = refl
option-rows (conditional ts) = refl
option-rows (loop e b) = refl
option-rows (alternation bs) = refl
option-rows (block v) = refl

-- tests that agree on a list
pub any_same : (p q : ℕ → Bool) (l : List ℕ) → ((i : ℕ) → Memᴰ i l → p i ≡ q i) → any_passes p l ≡ any_passes q l
unfolding any_passes
any_same p q [] h = refl
any_same p q (x ∷ l) h = ap₂ (λ (a b : Bool). a || b) (h x (Memᴰ.head refl)) (any_same p q l (λ i m. h i (Memᴰ.tail m)))

pub decides-among : (j : ℕ) (l : List ℕ) → Decides (Memᴰ j l) (among j l)
decides-among j l = decides-iff (λ h. subst (λ (x : ℕ). Memᴰ x l) (sym h.2) h.1) (λ m. (j, m, refl)) (decides-any (λ x. j ≡ x) (eqb j) (λ x. decides_eq j x) l)

module _ (rows : List ℤ) (ok : check rows ≡ none) (r : ℕ) where
  -- the options of a row rise, and a row is one of them exactly if that is its ALT
  pub options-rising : Rising (row_count rows) 0 (options_at rows r)
  unfolding options_at
  options-rising = rising-options (row_count rows) (action_of (process_at (program rows) r)) (options-rise rows r)

  pub option-alt : (j : ℕ) → Memᴰ j (rows_of_options (options_at rows r)) → alt_of (program rows) j ≡ some r
  unfolding options_at
  option-alt j m = alt-found (program rows) (one-alt-row rows ((accepted rows).0 ok)) r j (subst (λ (l : List ℕ). Memᴰ j l) (option-rows (action_of (process_at (program rows) r))) m)

  pub alt-option : (j : ℕ) → alt_of (program rows) j ≡ some r → Memᴰ j (rows_of_options (options_at rows r))
  unfolding options_at
  alt-option j e = subst (λ (l : List ℕ). Memᴰ j l) (sym (option-rows (action_of (process_at (program rows) r)))) (alt-is (program rows) r j e)

  pub decides-alt : (j : ℕ) → Decides (alt_of (program rows) j ≡ some r) (among j (rows_of_options (options_at rows r)))
  decides-alt j = decides-iff (option-alt j) (alt-option j) (decides-among j (rows_of_options (options_at rows r)))

-- a row below all options offers nothing
pub offer-below : (n lo : ℕ) (bs : List AltOption) (os : List Offer) → Offered bs os → Rising n lo bs → (j : ℕ) → j < lo → offer_at j os ≡ none
offer-below n lo [] (o ∷ os) x6 R j l = elim x6 [ ]
offer-below n lo [] [] offers-none R j l = refl
offer-below n lo (b ∷ bs) os (passed F) R j l = offer-below n (suc b.row) bs os F R.2 j (omega (arith, R.0))
offer-below n lo (b ∷ bs) (o ∷ os) (taken e F) R j l =
    ap (λ (t : Bool). if_else t (some o) (offer_at j os)) (other_row (option_row o) j (λ z. omega (arith, R.0)))
    ∙ offer-below n (suc b.row) bs os F R.2 j (omega (arith, R.0))

-- nor does a row that is none of them
pub offer-outside : (bs : List AltOption) (os : List Offer) → Offered bs os → (j : ℕ) → (Memᴰ j (rows_of_options bs) → ⊥) → offer_at j os ≡ none
offer-outside [] (o ∷ os) x4 j z = elim x4 [ ]
offer-outside [] [] offers-none j z = refl
offer-outside (b ∷ bs) os (passed F) j z = offer-outside bs os F j (λ m. z (Memᴰ.tail m))
offer-outside (b ∷ bs) (o ∷ os) (taken e F) j z =
    ap (λ (t : Bool). if_else t (some o) (offer_at j os)) (other_row (option_row o) j (λ y. z (Memᴰ.head (sym y ∙ e))))
    ∙ offer-outside bs os F j (λ m. z (Memᴰ.tail m))

-- whether a note waits to input at element e
abbrev pub waits_at : ℕ → Note → Bool
waits_at e k = eqb k.what 7 && eqb e k.at

pub open-waits : (e q : ℕ) (ws : List Write) → waits_at e (note_of_open q ws) ≡ false
open-waits e q [] = refl
open-waits e q (write_cell a m ∷ []) = refl
open-waits e q (write_cell a m ∷ write_cell b k ∷ ws) = refl
open-waits e q (write_cell a m ∷ write_place p n ∷ ws) = refl
open-waits e q (write_cell a m ∷ write_output p l ∷ ws) = refl
open-waits e q (write_place p n ∷ ws) = refl
open-waits e q (write_output p l ∷ ws) = refl

pub offer-waits : (e : ℕ) (o : Offer) → waits_at e (note_of_offer (some o)) ≡ offers_input e o
offer-waits e (open_offer j q ws) = open-waits e q ws
offer-waits e (input_offer j q f a) = refl

-- the options of an ALT that wait to input at an element are its offers that do
pub offered-inputs : (n lo : ℕ) (bs : List AltOption) (os : List Offer) → Offered bs os → Rising n lo bs → (e : ℕ)
    → any_passes (λ j. waits_at e (note_of_offer (offer_at j os))) (rows_of_options bs) ≡ any_passes (offers_input e) os
unfolding any_passes
offered-inputs n lo [] (o ∷ os) x4 R e = elim x4 [ ]
offered-inputs n lo [] [] offers-none R e = refl
offered-inputs n lo (b ∷ bs) os (passed F) R e =
    ap₂ (λ (x y : Bool). x || y) (ap (λ (c : Option Offer). waits_at e (note_of_offer c)) (offer-below n (suc b.row) bs os F R.2 b.row (omega arith)))
    (offered-inputs n (suc b.row) bs os F R.2 e)
offered-inputs n lo (b ∷ bs) (o ∷ os) (taken i F) R e =
    ap₂ (λ (x y : Bool). x || y)
    (ap (λ (t : Bool). waits_at e (note_of_offer (if_else t (some o) (offer_at b.row os)))) (ap (λ (j : ℕ). eqb (option_row o) j) (sym i) ∙ same_row (option_row o)) ∙ offer-waits e o)
    (any_same (λ j. waits_at e (note_of_offer (offer_at j (o ∷ os)))) (λ j. waits_at e (note_of_offer (offer_at j os))) (rows_of_options bs)
    (λ j m. ap (λ (t : Bool). waits_at e (note_of_offer (if_else t (some o) (offer_at j os)))) (other_row (option_row o) j (λ z. let l = rising-member n (suc b.row) bs R.2 j m in omega (arith, l.0))))
    ∙ offered-inputs n (suc b.row) bs os F R.2 e)
