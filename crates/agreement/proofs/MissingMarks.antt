-- Marks and stored numbers stand for cells: the lent buffers give back the cells, and the number stored for an unset cell is never looked at.
use mathlib.Core.Path.{◌≡◌, refl, sym, ap, ap₂, ◌∙◌}
use mathlib.Core.Logic.{◌≢◌}
use mathlib.Core.Bool.{Bool, true, false}
use mathlib.Core.Option.{none, some}
use mathlib.Core.List.{List, [], ◌∷◌, ◌++◌, map}
use Prim.Native.Nat.{ℕ, zero, suc, ◌<◌, ◌≤◌}
use native.Mathlib.Nat.{suc_inj, suc-ne-zero}
use lib.IntN.{ℤ}
use lib.ListN.{length, get_or, take, replicate, get_or-map, length-map}
use lib.Dec.{eqb}
use Rattle.meaning.specs.Basics.{if_else}
use borrow.Author.Tests.{eqb-false}
use Rattle.meaning.specs.Limits.{max_cells}
use Rattle.meaning.specs.Values.{Message, value}
use Rattle.meaning.specs.State.{State}
use Rattle.meaning.specs.Intent.{intent}
use Rattle.meaning.specs.Ready.{ready, after}
use Rattle.meaning.specs.Run.{go}
use Rattle.meaning.specs.Buffers.{sized, lent, mark, number_in, cell_of, decoded, encode}
use Rattle.meaning.proofs.LentLaws.{lent_at, lent-front, lent-whole}
use Rattle.agreement.specs.MissingClaims.{EncodedCells, EncodedDecodes, StoredZeroUnseen, state_with, SameAnswers}

module _ {A B : Type 0} (f : A → B) (d : A) where
  -- a function of each element, of a list that is cut
  cut-map : (n k : ℕ) (xs : List A) → take n (map f xs ++ replicate k (f d)) ≡ map f (take n (xs ++ replicate k d))
  cut-map zero k xs = refl
  cut-map (suc n) zero [] = refl
  cut-map (suc n) (suc k) [] = ap (λ (l : List B). f d ∷ l) (cut-map n k [])
  cut-map (suc n) k (x ∷ xs) = ap (λ (l : List B). f x ∷ l) (cut-map n k xs)

  -- the part of a lent buffer that a list fills: the list at that length
  front-map : (n : ℕ) (xs : List A) (old : List B) → take n (lent n (f d) (map f xs) old) ≡ map f (sized n d xs)
  unfolding sized
  front-map n xs old = lent-front (f d) n (map f xs) old ∙ cut-map n n xs

  -- an element of it, and the list
  lent-map-at : (n i : ℕ) (xs : List A) (old : List B) → i < n → get_or (lent n (f d) (map f xs) old) i (f d) ≡ f (get_or xs i d)
  lent-map-at n i xs old h = lent_at (f d) n i (map f xs) old h ∙ get_or-map f xs i d

  lent_map : (n : ℕ) (xs : List A) (old : List B) → length xs ≤ n → take (length xs) (lent n (f d) (map f xs) old) ≡ map f xs
  lent_map n xs old h = lent-whole (f d) n (length xs) (map f xs) old (length-map xs f) h

-- cell by cell, the buffers hold mark and number
pub encoded-cells : EncodedCells
unfolding encode
encoded-cells rows s b i h = (lent-map-at mark none max_cells i s.store.cells b.marks h, lent-map-at number_in none max_cells i s.store.cells b.cells h)

-- numbers and marks of cells stand for the cells
pub decoded-cells : (l : List Message) → decoded (map number_in l) (map mark l) ≡ l
decoded-cells [] = refl
decoded-cells (none ∷ l) = ap (λ (r : List Message). none ∷ r) (decoded-cells l)
decoded-cells (some z ∷ l) = ap (λ (r : List Message). some z ∷ r) (decoded-cells l)

-- the buffers give back the cells
pub encoded-decodes : EncodedDecodes
unfolding encode
encoded-decodes rows s b = (
  ap₂ decoded (front-map number_in none max_cells s.store.cells b.cells) (front-map mark none max_cells s.store.cells b.marks) ∙ decoded-cells (sized max_cells none s.store.cells),
  λ h. ap₂ decoded (lent_map number_in none max_cells s.store.cells b.cells h) (lent_map mark none max_cells s.store.cells b.marks h) ∙ decoded-cells s.store.cells,
)

same-cell : (m : ℕ) (z y : ℤ) → (m ≢ 0 → z ≡ y) → cell_of z m ≡ cell_of y m
same-cell m z y h = go (eqb m 0) refl
  where
    go : (t : Bool) → eqb m 0 ≡ t → if_else t none (some z) ≡ if_else t none (some y)
    go true e = refl
    go false e = ap {B = Message} some (h (eqb-false m 0 e))

-- numbers that are equal where the mark is not 0 stand for the same cells
pub stored-zero-unseen : StoredZeroUnseen
stored-zero-unseen ms [] [] h = refl
stored-zero-unseen ms [] (y ∷ w) h = absurd (suc-ne-zero (length w) (sym h.0))
stored-zero-unseen ms (z ∷ v) [] h = absurd (suc-ne-zero (length v) h.0)
stored-zero-unseen [] (z ∷ v) (y ∷ w) h = refl
stored-zero-unseen (m ∷ ms) (z ∷ v) (y ∷ w) h =
    ap₂ (λ (c : Message) (r : List Message). c ∷ r) (same-cell m z y (h.1 0)) (stored-zero-unseen ms v w (suc_inj h.0, λ i. h.1 (suc i)))

-- so whatever is computed from them is the same
pub same-answers : SameAnswers
same-answers P sheet states marks places outputs v w h =
    let e : state_with states marks v places outputs ≡ state_with states marks w places outputs =
    ap (λ (c : List Message). let x : State = record { states = states; store = record { cells = c; places = places; outputs = outputs } } in x) (stored-zero-unseen marks v w h) in (
      λ x. ap (λ (s : State). value s.store.cells x) e,
      λ a r. ap (λ (s : State). intent sheet a r s.store) e,
      ap (λ (s : State). ready P sheet s) e,
      λ x. ap (λ (s : State). after P sheet x s) e,
      λ budget n choices. ap (λ (s : State). go P sheet budget n choices s) e,
    )
