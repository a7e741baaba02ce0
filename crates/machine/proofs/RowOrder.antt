-- The ready steps in row order are the steps of the rows, one row after another, where each row orders at most one.
use mathlib.Core.Path.{◌≡◌, refl, sym, ap, ap₂, subst, ◌∙◌}
use mathlib.Core.Logic.{⊎_elim}
use mathlib.Core.Bool.{Bool, true, false}
use mathlib.Core.Option.{Option, none, some}
use mathlib.Core.List.Memᴰ
use mathlib.Core.List.{List, [], ◌∷◌, ◌++◌, map, Memᴰ, flatten}
use Prim.Native.Nat.{ℕ, zero, suc, ◌+◌, ◌<◌, ◌≤◌}
use native.Mathlib.Nat.{eq-or-lt_of_le}
use native.Mathlib.Omega.{arith}
use lib.ListN.{length}
use lib.Dec.{eqb}
use Rattle.meaning.specs.Basics.{if_else}
use borrow.Author.Tests.{eqb-true}
use Rattle.meaning.specs.Usage.{numbers_from}
use Rattle.meaning.specs.Labels.{Label, order_row}
use Rattle.meaning.specs.Ready.{steps_at, by_row}
use Rattle.machine.specs.RowSteps.{list_of}

-- a step that is ordered by a row has it
pub at-row : (j : ℕ) (x : Label) (l : List Label) → Memᴰ x (steps_at j l) → order_row x ≡ j
at-row j x [] m = absurd (Memᴰ.not-nil m)
at-row j x (y ∷ l) m = go (eqb (order_row y) j) refl m (at-row j x l)
  where
    go : (t : Bool) → eqb (order_row y) j ≡ t → Memᴰ x (if_else t (y ∷ steps_at j l) (steps_at j l)) → (Memᴰ x (steps_at j l) → order_row x ≡ j) → order_row x ≡ j
    go true e (Memᴰ.head q) k = ap order_row q ∙ eqb-true (order_row y) j e
    go true e (Memᴰ.tail n) k = k n
    go false e n k = k n

-- a step of all rows is ordered by its row
pub of-its-row : (k j : ℕ) (x : Label) (l : List Label) → Memᴰ x (by_row k j l) → Memᴰ x (steps_at (order_row x) l)
of-its-row zero j x l m = absurd (Memᴰ.not-nil m)
of-its-row (suc k) j x l m =
    ⊎_elim (λ (h : Memᴰ x (steps_at j l)). subst (λ (i : ℕ). Memᴰ x (steps_at i l)) (sym (at-row j x l h)) h) (of-its-row k (suc j) x l) (Memᴰ.append_cases (steps_at j l) m)

pub of-all-rows : (k i j : ℕ) (x : Label) (l : List Label) → i ≤ j → j < i + k → Memᴰ x (steps_at j l) → Memᴰ x (by_row k i l)
of-all-rows zero i j x l a b m = absurd (omega arith)
of-all-rows (suc k) i j x l a b m =
    ⊎_elim (λ (e : i ≡ j). Memᴰ.append_left (by_row k (suc i) l) (subst (λ (z : ℕ). Memᴰ x (steps_at z l)) (sym e) m))
    (λ (h : i < j). Memᴰ.append_right (steps_at i l) (of-all-rows k (suc i) j x l h (omega arith) m)) (eq-or-lt_of_le a)

-- a list of at most one step is that of the step that it holds
pub one-or-none : (m : List Label) (o : Option Label) → length m ≤ 1 → ((x : Label) → Memᴰ x m → o ≡ some x) → ((x : Label) → o ≡ some x → Memᴰ x m) → m ≡ list_of o
one-or-none [] none h f g = refl
one-or-none [] (some x) h f g = absurd (Memᴰ.not-nil (g x refl))
one-or-none (x ∷ []) o h f g = rw (f x (Memᴰ.head refl))
one-or-none (x ∷ y ∷ m) o h f g = absurd (omega arith)

-- so the steps of all rows are those of each row in turn
pub row-by-row : (step : ℕ → Option Label) (l : List Label) (k j : ℕ) → ((i : ℕ) → j ≤ i → i < j + k → steps_at i l ≡ list_of (step i)) → by_row k j l ≡ flatten (map (λ i. list_of (step i)) (numbers_from j k))
unfolding flatten numbers_from
row-by-row step l zero j h = refl
row-by-row step l (suc k) j h = ap₂ (λ (a b : List Label). a ++ b) (h j (omega arith) (omega arith)) (row-by-row step l k (suc j) (λ i a b. h i (omega arith) (omega arith)))
