-- Steps by row as a list: as many as the rows that order one, and the k-th is that of the k-th such row.
use mathlib.Core.Path.{◌≡◌, refl, sym, ap, ap₂, ◌∙◌}
use mathlib.Core.Option.{Option, none, some}
use mathlib.Core.List.{List, [], ◌∷◌, ◌++◌, map, map-append, append-nil, append_assoc, flatten}
use Prim.Native.Nat.{ℕ, zero, suc, ◌+◌, ◌<◌}
use native.Mathlib.Omega.{arith}
use lib.ListN.{length, get_or, length-map, get_or-map}
use Rattle.meaning.specs.Basics.{if_else, is_some, all_below}
use Rattle.meaning.specs.Usage.{numbers_from}
use Rattle.meaning.specs.Labels.{Label}
use Rattle.machine.specs.RowSteps.{list_of}

-- in range the default doesn't matter
pub any-default : {A : Type 0} (l : List A) (k : ℕ) (a b : A) → k < length l → get_or l k a ≡ get_or l k b
any-default [] k a b h = absurd (omega arith)
any-default (x ∷ l) zero a b h = refl
any-default (x ∷ l) (suc k) a b h = any-default l k a b (omega arith)

-- the last of a range of rows comes last
last_row : {A : Type 0} (f : ℕ → List A) (j k : ℕ) → flatten (map f (numbers_from j (suc k))) ≡ flatten (map f (numbers_from j k)) ++ f (j + k)
unfolding flatten numbers_from
last_row f j zero = append-nil (f j) ∙ ap f (omega arith)
last_row f j (suc k) =
    let e : suc j + k ≡ j + suc k = omega arith in
    ap (λ (l : List _). f j ++ l) (last_row f (suc j) k ∙ ap (λ (i : ℕ). flatten (map f (numbers_from (suc j) k)) ++ f i) e) ∙ sym (append_assoc (f j) (flatten (map f (numbers_from (suc j) k))) (f (j + suc k)))

module _ (step : ℕ → Option Label) where
  -- the steps of the rows below n, and those rows
  abbrev pub steps_below : ℕ → List Label
  steps_below n = flatten (map (λ j. list_of (step j)) (numbers_from 0 n))

  abbrev pub rows_below : ℕ → List ℕ
  rows_below n = all_below (λ j. is_some (step j)) n

  -- one row more
  pub steps_next : (j : ℕ) → steps_below (suc j) ≡ steps_below j ++ list_of (step j)
  steps_next j = last_row (λ i. list_of (step i)) 0 j ∙ ap (λ (i : ℕ). steps_below j ++ list_of (step i)) (omega arith)

  pub rows_next : (j : ℕ) → rows_below (suc j) ≡ rows_below j ++ if_else (is_some (step j)) (j ∷ []) []
  unfolding all_below
  rows_next j = refl

  none_below : steps_below 0 ≡ []
  unfolding flatten numbers_from
  none_below = refl

  no-rows-below : rows_below 0 ≡ []
  unfolding all_below
  no-rows-below = refl

  -- each step is that of its row
  pub steps-of-rows : (n : ℕ) → map step (rows_below n) ≡ map some (steps_below n)
  steps-of-rows zero = ap (map step) no-rows-below ∙ ap (map {B = Option Label} some) (sym none_below)
  steps-of-rows (suc n) =
      ap (map step) (rows_next n) ∙ map-append step (rows_below n) (if_else (is_some (step n)) (n ∷ []) [])
      ∙ ap₂ (λ (a b : List (Option Label)). a ++ b) (steps-of-rows n) (go (step n) refl)
      ∙ sym (map-append {B = Option Label} some (steps_below n) (list_of (step n))) ∙ ap (map {B = Option Label} some) (sym (steps_next n))
    where
      go : (o : Option Label) → step n ≡ o → map step (if_else (is_some o) (n ∷ []) []) ≡ map some (list_of o)
      go none e = refl
      go (some x) e = ap (λ (y : Option Label). y ∷ []) e

  -- there are as many steps as rows that order one
  pub count-steps : (n : ℕ) → length (steps_below n) ≡ length (rows_below n)
  count-steps n = sym (length-map {B = Option Label} (steps_below n) some) ∙ ap (λ (l : List (Option Label)). length l) (sym (steps-of-rows n)) ∙ length-map (rows_below n) step

  -- the k-th step is that of the k-th such row
  pub step-of-row : (n k : ℕ) (d : Label) → k < length (rows_below n) → step (get_or (rows_below n) k 0) ≡ some (get_or (steps_below n) k d)
  step-of-row n k d h =
      sym (get_or-map step (rows_below n) k 0) ∙ ap (λ (l : List (Option Label)). get_or l k (step 0)) (steps-of-rows n)
      ∙ any-default (map {B = Option Label} some (steps_below n)) k (step 0) (some d) (rw (length-map {B = Option Label} (steps_below n) some, count-steps n) h)
      ∙ get_or-map {B = Option Label} some (steps_below n) k d
