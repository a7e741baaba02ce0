-- Ready steps stand in strictly ascending rows: the machine's list of them is the one list of the ready steps.
use mathlib.Core.Path.{◌≡◌, refl, sym, ap, ap₂, subst}
use mathlib.Core.Logic.{◌↔◌}
use mathlib.Core.Bool.{Bool, true, false}
use mathlib.Core.List.Memᴰ
use mathlib.Core.List.{List, [], ◌∷◌, ◌++◌, map, Memᴰ}
use Prim.Native.Nat.{ℕ, zero, suc, ◌≤◌}
use native.Mathlib.Omega.{arith}
use lib.IntN.{ℤ}
use lib.ListN.{length}
use lib.Dec.{eqb, T, eqb→eq}
use Rattle.meaning.specs.Basics.{if_else}
use Rattle.meaning.specs.Rows.{row_count}
use Rattle.meaning.specs.State.{State, program}
use Rattle.meaning.specs.Labels.{Label, order_row, Ascending}
use Rattle.meaning.specs.Readings.{Sheet}
use Rattle.meaning.specs.Order.{ReadyList}
use Rattle.meaning.specs.Ready.{steps_at, by_row, running_rows, steps_all, ready, after}
use Rattle.agreement.specs.Statements.{RowsAscend, ReadyListed}
use Rattle.agreement.proofs.Steps.{offers-rise, ready-allowed, allowed-ready}
use Rattle.agreement.proofs.Fit.{Fit}
use Rattle.agreement.proofs.OptionRows.{OptionRows}
use Rattle.agreement.proofs.Working.{Inv}
use Rattle.agreement.proofs.Separate.{table-inv}
use Rattle.agreement.proofs.FewReady.{All, RowsOnce, at_most_one, ready-once}
use Rattle.agreement.proofs.TableFit.{fit}
use Rattle.agreement.proofs.TableOptions.{option-rows}

-- the steps ordered by row j have that row
at-row : (j : ℕ) (l : List Label) → All (λ x. order_row x ≡ j) (steps_at j l)
at-row j [] = tt
at-row j (x ∷ l) = go (eqb (order_row x) j) (λ t. eqb→eq (order_row x) j t) (at-row j l)
  where
    go : (t : Bool) → (T t → order_row x ≡ j) → All (λ y. order_row y ≡ j) (steps_at j l) → All (λ y. order_row y ≡ j) (if_else t (x ∷ steps_at j l) (steps_at j l))
    go true e h = (e tt, h)
    go false e h = h

lower : (lo hi : ℕ) (l : List ℕ) → lo ≤ hi → Ascending hi l → Ascending lo l
lower lo hi [] h g = tt
lower lo hi (n ∷ l) h g = (omega (arith, g.0), g.1)

-- one step of row j, or none, in front of steps of higher rows
front : (j : ℕ) (m l : List Label) → length m ≤ 1 → All (λ x. order_row x ≡ j) m → Ascending (suc j) (map order_row l) → Ascending j (map order_row (m ++ l))
front j [] l n h a = lower j (suc j) (map order_row l) (omega arith) a
front j (x ∷ []) l n h a =
    let e = h.0 in
    (omega arith, subst (λ (k : ℕ). Ascending (suc k) (map order_row l)) (sym e) a)
front j (x ∷ y ∷ m) l n h a = absurd (omega arith)

by-row-ascends : (k j : ℕ) (l : List Label) → RowsOnce l → Ascending j (map order_row (by_row k j l))
by-row-ascends zero j l h = tt
by-row-ascends (suc k) j l h = front j (steps_at j l) (by_row k (suc j) l) (at_most_one j l h) (at-row j l) (by-row-ascends k (suc j) l h)

module _ (rows : List ℤ) (sheet : Sheet) (F : Fit (program rows) (row_count rows)) (O : OptionRows (program rows)) (s : State) (i : Inv (program rows) (row_count rows) F sheet s) where
  ready-ascends : Ascending 0 (map order_row (ready (program rows) sheet s))
  unfolding ready
  ready-ascends =
      let once = ready-once (program rows) (row_count rows) F sheet s i O (offers-rise rows sheet s) in
      by-row-ascends (length s.states) 0 (steps_all (running_rows (program rows) sheet s) (running_rows (program rows) sheet s)) once

  -- the machine's list is the list of the ready steps
  pub ready-list : ReadyList (program rows) sheet s (ready (program rows) sheet s)
  ready-list = record {
    just-these = λ x. (λ m. (after (program rows) sheet x s, ready-allowed rows sheet F s i x m), λ h. (allowed-ready rows sheet F s i x h.0 h.1).0);
    in_order = ready-ascends;
  }

pub rows-ascend : RowsAscend
rows-ascend rows sheet a s (l, o) = let F = fit rows a.0 in ready-ascends rows sheet F (option-rows rows a.0) s (table-inv rows sheet F l s o)

-- two lists in ascending rows with the same members are one

row-above : (from : ℕ) (l : List Label) → Ascending from (map order_row l) → (x : Label) → Memᴰ x l → from ≤ order_row x
row-above from [] a x x4 = elim x4 [ ]
row-above from (y ∷ l) a x (Memᴰ.head e) = rw e a.0
row-above from (y ∷ l) a x (Memᴰ.tail m) = let h = row-above (suc (order_row y)) l a.1 x m in omega (arith, a.0)

-- the members of one list are those of the other
abbrev Same : List Label → List Label → Type 0
Same l k = (x : Label) → Memᴰ x l ↔ Memᴰ x k

first-same : (x y : Label) (l k : List Label) → Ascending (suc (order_row x)) (map order_row l) → Ascending (suc (order_row y)) (map order_row k) → Memᴰ x (y ∷ k) → Memᴰ y (x ∷ l) → x ≡ y
first-same x y l k a b (Memᴰ.head e) n = e
first-same x y l k a b (Memᴰ.tail m) (Memᴰ.head e) = sym e
first-same x y l k a b (Memᴰ.tail m) (Memᴰ.tail n) =
    let g = row-above (suc (order_row y)) k b x m in
    let h = row-above (suc (order_row x)) l a y n in
    absurd (omega arith)

later_same : (x z : Label) (l k : List Label) → Ascending (suc (order_row x)) (map order_row l) → Memᴰ z l → Memᴰ z (x ∷ k) → Memᴰ z k
later_same x z l k a m (Memᴰ.head e) = let h = row-above (suc (order_row x)) l a z m in absurd (omega (arith, ap order_row e))
later_same x z l k a m (Memᴰ.tail n) = n

one_list : (from : ℕ) (l k : List Label) → Ascending from (map order_row l) → Ascending from (map order_row k) → Same l k → l ≡ k
one_list from [] [] a b h = refl
one_list from [] (y ∷ k) a b h = absurd (Memᴰ.not-nil ((h y).1 (Memᴰ.head refl)))
one_list from (x ∷ l) [] a b h = absurd (Memᴰ.not-nil ((h x).0 (Memᴰ.head refl)))
one_list from (x ∷ l) (y ∷ k) a b h =
    let e = first-same x y l k a.1 b.1 ((h x).0 (Memᴰ.head refl)) ((h y).1 (Memᴰ.head refl)) in
    let c : Ascending (suc (order_row x)) (map order_row k) = subst (λ (z : Label). Ascending (suc (order_row z)) (map order_row k)) (sym e) b.1 in
    let t = one_list (suc (order_row x)) l k a.1 c
    (λ z. (
      λ m. later_same x z l k a.1 m (subst (λ (w : Label). Memᴰ z (w ∷ k)) (sym e) ((h z).0 (Memᴰ.tail m))),
      λ m. later_same x z k l c m ((h z).1 (Memᴰ.tail m)),
    )) in
    ap₂ (λ (w : Label) (m : List Label). w ∷ m) e t

pub ready-listed : ReadyListed
ready-listed rows ok sheet s (l, o) k =
    let F = fit rows ok in
    let R = ready-list rows sheet F (option-rows rows ok) s (table-inv rows sheet F l s o) in (
      λ h. one_list 0 k (ready (program rows) sheet s) h.in_order R.in_order (λ x. (λ m. (R.just-these x).1 ((h.just-these x).0 m), λ m. (h.just-these x).1 ((R.just-these x).0 m))),
      λ e. subst (λ (m : List Label). ReadyList (program rows) sheet s m) (sym e) R,
    )
