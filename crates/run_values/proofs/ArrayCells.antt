-- The cells of two arrays: what stands at a place, and that they are those decoded from arrays of 256.
use mathlib.Core.Path.{◌≡◌, refl, sym, ap, ◌∙◌}
use mathlib.Core.Option.{none}
use mathlib.Core.List.{List, [], ◌∷◌}
use Prim.Native.Nat.{ℕ, zero, suc, ◌<◌, ◌≤◌}
use native.Mathlib.Omega.{arith}
use lib.IntN.{ℤ, pos}
use lib.ListN.{length, get_or, drop}
use borrow.Author.Tests.{eq-eqb, ne_eqb}
use Rattle.meaning.specs.declared.Value.TheVariants.{Number, Missing}
use Rattle.meaning.specs.Buffers.{cell_of, decoded}
use Rattle.meaning.specs.Values.{Message, cell_value}
use Rattle.run_values.specs.declared.store.State.{State}
use Rattle.run_values.specs.Cells.{cells_to, cells_in, state_cells}

after_first : {A : Type 0} (l : List A) (i : ℕ) (d : A) → get_or (drop 1 l) i d ≡ get_or l (suc i) d
after_first [] i d = refl
after_first (x ∷ l) i d = refl

cell-to : (n : ℕ) (xs : List ℤ) (ms : List ℕ) (i : ℕ) → i < n → get_or (cells_to n xs ms) i none ≡ cell_of (get_or xs i (pos 0)) (get_or ms i 0)
unfolding cells_to
cell-to zero xs ms i l = absurd (omega arith)
cell-to (suc n) xs ms zero l = refl
cell-to (suc n) xs ms (suc i) l = cell-to n (drop 1 xs) (drop 1 ms) i (omega arith) ∙ rw (after_first xs i (pos 0), after_first ms i 0)

past_to : (n : ℕ) (xs : List ℤ) (ms : List ℕ) (i : ℕ) → n ≤ i → get_or (cells_to n xs ms) i none ≡ none
unfolding cells_to
past_to zero xs ms i l = refl
past_to (suc n) xs ms zero l = absurd (omega arith)
past_to (suc n) xs ms (suc i) l = past_to n (drop 1 xs) (drop 1 ms) i (omega arith)

decoded-to : (n : ℕ) (xs : List ℤ) (ms : List ℕ) → length xs ≡ n → length ms ≡ n → cells_to n xs ms ≡ decoded xs ms
unfolding cells_to
decoded-to zero [] ms e f = refl
decoded-to zero (x ∷ xs) ms e f = absurd (omega arith)
decoded-to (suc n) [] ms e f = absurd (omega arith)
decoded-to (suc n) (x ∷ xs) [] e f = absurd (omega arith)
decoded-to (suc n) (x ∷ xs) (m ∷ ms) e f = ap (λ (l : List Message). cell_of x m ∷ l) (decoded-to n xs ms (omega arith) (omega arith))

-- of arrays of 256 they are those that the lent buffers mean
pub cells-decoded : (xs : List ℤ) (ms : List ℕ) → length xs ≡ 256 → length ms ≡ 256 → cells_in xs ms ≡ decoded xs ms
unfolding cells_in
cells-decoded xs ms e f = decoded-to 256 xs ms e f

pub past-cells : (xs : List ℤ) (ms : List ℕ) (i : ℕ) → 256 ≤ i → get_or (cells_in xs ms) i none ≡ none
unfolding cells_in
past-cells xs ms i l = past_to 256 xs ms i l

module _ (xs : List ℤ) (ms : List ℕ) (i : ℕ) (l : i < 256) where
  pub cell_in : get_or (cells_in xs ms) i none ≡ cell_of (get_or xs i (pos 0)) (get_or ms i 0)
  unfolding cells_in
  cell_in = cell-to 256 xs ms i l

  pub unset-cell : get_or ms i 0 ≡ 0 → cell_value (get_or (cells_in xs ms) i none) ≡ Missing 1
  unset-cell e = rw (cell_in, eq-eqb _ _ e)

  pub set-cell : (get_or ms i 0 ≡ 0 → ⊥) → cell_value (get_or (cells_in xs ms) i none) ≡ Number (get_or xs i (pos 0))
  set-cell e = rw (cell_in, ne_eqb _ _ e)

-- the cells of a state, whose two arrays are of 256
pub state-array : (s : State) → length s.values ≡ 256 → length s.marks ≡ 256 → state_cells s ≡ cells_in s.values s.marks
state-array s v m = sym (cells-decoded s.values s.marks v m)

module _ (s : State) (v : length s.values ≡ 256) (m : length s.marks ≡ 256) (i : ℕ) where
  as-array : cell_value (get_or (state_cells s) i none) ≡ cell_value (get_or (cells_in s.values s.marks) i none)
  as-array = ap (λ (l : List Message). cell_value (get_or l i none)) (state-array s v m)

  pub past-state : 256 ≤ i → Missing 1 ≡ cell_value (get_or (state_cells s) i none)
  past-state l = sym (as-array ∙ ap cell_value (past-cells s.values s.marks i l))

  pub unset-state : i < 256 → get_or s.marks i 0 ≡ 0 → Missing 1 ≡ cell_value (get_or (state_cells s) i none)
  unset-state l e = sym (as-array ∙ unset-cell s.values s.marks i l e)

  pub set-state : i < 256 → (get_or s.marks i 0 ≡ 0 → ⊥) → Number (get_or s.values i (pos 0)) ≡ cell_value (get_or (state_cells s) i none)
  set-state l e = sym (as-array ∙ set-cell s.values s.marks i l e)
