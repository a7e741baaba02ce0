-- What the code does to the lists is what their definitions say.
use mathlib.Core.Path.{◌≡◌, ap, ap₂, ◌∙◌}
use mathlib.Core.Bool.{true, false}
use mathlib.Core.List.{List, [], ◌∷◌}
use Prim.Native.Nat.{ℕ}
use lib.IntN.{ℤ}
use lib.Dec.{eqb}
use borrow.Author.Tests.{eq-eqb, ne_eqb}
use Rattle.meaning.specs.Tree.{AltOption}
use Rattle.run_notes.specs.declared.Note.{Note}
use Rattle.run_notes.specs.declared.Notes.{Notes}
use Rattle.run_notes.specs.Notes.{note, what_of, options_at, leave_note, leave_options, leave_offers, leave_row}

-- a test of two numbers, by what is known of them
pub test-yes : {x n : ℕ} → x ≡ n → eqb x n ≡ true
test-yes e = eq-eqb _ _ e

pub test-no : {x n : ℕ} → (x ≡ n → ⊥) → eqb x n ≡ false
test-no f = ne_eqb _ _ f

-- a note by its numbers
pub same-note : {n : Note} {w p q c d : ℕ} {x y : ℤ} → n ≡ note w p c x → p ≡ q → c ≡ d → x ≡ y → n ≡ note w q d y
same-note {w = w} {q = q} {c = c} {x = x} h e f g = h ∙ ap (λ (p : ℕ). note w p c x) e ∙ ap₂ (λ (c : ℕ) (x : ℤ). note w q c x) f g

-- options one after another
pub none_left : (m : Notes) {bs : List AltOption} → bs ≡ [] → m ≡ leave_options bs m
unfolding leave_options
none_left m h = rw h

pub next-left : (j : ℕ) (m : Notes) {o p : Notes} {b : AltOption} {bs l : List AltOption} → l ≡ b ∷ bs → b.row ≡ j → o ≡ leave_note j m → p ≡ leave_options bs o → p ≡ leave_options l m
unfolding leave_options
next-left j m h i f g = rw (h, i, ← f) g

module _ (rows : List ℤ) (r : ℕ) (m : Notes) where
  pub offers-left : {k : Notes} {bs : List AltOption} → what_of m r ≡ 9 → bs ≡ options_at rows r → k ≡ leave_options bs m → k ≡ leave_offers rows r m
  unfolding leave_offers
  offers-left f g h = rw (test-yes f, ← g) h

  pub no-offers : (what_of m r ≡ 9 → ⊥) → m ≡ leave_offers rows r m
  unfolding leave_offers
  no-offers f = rw (test-no f)

  pub row-left : {k o : Notes} → k ≡ leave_offers rows r m → o ≡ leave_note r k → o ≡ leave_row rows r m
  unfolding leave_row
  row-left f g = rw (← f) g
