-- Accepted tables without ALT with two orders to rest: PAR of x := 1 and y := 2, PAR of two IFs with a block in each, PAR of two writes by constant subscripts.
use mathlib.Core.Path.{◌≡◌, refl, ap}
use mathlib.Core.Logic.{inl}
use mathlib.Core.Option.{none}
use mathlib.Core.List.{List, [], ◌∷◌, Memᴰ}
use Prim.Native.Nat.{ℕ, ◌<◌}
use native.Mathlib.Omega.{arith}
use lib.IntN.{ℤ, pos, negsuc}
use lib.Dec.{eqb}
use Rattle.meaning.specs.Basics.{lowest}
use Rattle.meaning.specs.Rows.{row_count, kind_at}
use Rattle.meaning.specs.declared.Node.TheVariants.{Assignment}
use Rattle.meaning.specs.Nodes.{node_at}
use Rattle.meaning.specs.References.{Refers, RefersBy}
use Rattle.meaning.specs.Clash.{IsMember, member-first, member-next, Components, components, changed-by-assignment, Changed, cell-clash}
use Rattle.meaning.specs.State.{State}
use Rattle.meaning.specs.Labels.{Label, own, order_row}
use Rattle.meaning.specs.Ready.{after}
use Rattle.meaning.specs.Order.{halt, OrderOf}
use Rattle.meaning.specs.Sheet.{sheet_fault}
use Rattle.meaning.specs.Answers.{check}
use Rattle.meaning.proofs.ComputesAnswers.{computes_answers}
use Rattle.agreement.specs.SubscriptClaims.{LiteralCounts, not-literal}
use Rattle.agreement_instances.specs.NotEmptyClaims.{LongOrder, TwoOrders, TwoOrdersOfBlocks, TwoOrdersOfConstants}
use Rattle.agreement_instances.proofs.Concrete.{empty_sheet, sheet_of, at_start, ready_in, after_step, no-alt, from_start, rests, one_more}

-- the row of an order's first step
first_row : List Label → ℕ
first_row [] = 0
first_row (x ∷ l) = order_row x

module _ (rows : List ℤ) where
  -- the state after a step of row r by itself
  abbrev after_own : ℕ → State → State
  after_own r s = after_step rows (own r) s

  -- an order of the steps of rows r and q
  two_steps : check rows ≡ none → (r q : ℕ) (l m : List Label) → ready_in rows (at_start rows) ≡ l → Memᴰ (own r) l → ready_in rows (after_own r (at_start rows)) ≡ m → Memᴰ (own q) m
      → ready_in rows (after_own q (after_own r (at_start rows))) ≡ [] → LongOrder rows empty_sheet
  two_steps ok r q l m e h d g z =
      let none = from_start rows ok [] (at_start rows) halt in
      let o : OrderOf rows (sheet_of rows) (own r ∷ own q ∷ []) (after_own q (after_own r (at_start rows))) = one_more rows ok (one_more rows ok none (own r) l e h) (own q) m d g in
      record {
        labels = own r ∷ own q ∷ [];
        end = after_own q (after_own r (at_start rows));
        long = omega arith;
        order = o;
        rest = rests rows ok (own r ∷ own q ∷ []) (after_own q (after_own r (at_start rows))) o z;
      }

  -- a table whose rows r and q have one step each, taken in either order
  unfoldable both-orders : check rows ≡ none → sheet_fault rows empty_sheet ≡ none → lowest (λ q. eqb (kind_at rows q) 34) (row_count rows) ≡ none
      → (r q : ℕ) → r < q → ready_in rows (at_start rows) ≡ own r ∷ own q ∷ [] → ready_in rows (after_own r (at_start rows)) ≡ own q ∷ [] → ready_in rows (after_own q (at_start rows)) ≡ own r ∷ []
      → ready_in rows (after_own q (after_own r (at_start rows))) ≡ [] → ready_in rows (after_own r (after_own q (at_start rows))) ≡ [] → TwoOrders
  unfolding two_steps first_row
  both-orders ok sheet-ok alt r q l both q-left r-left none_left none-left-too =
      record {
        rows = rows;
        sheet = empty_sheet;
        table-accepted = ok;
        sheet-accepted = sheet-ok;
        without-alt = no-alt rows alt;
        one = two_steps ok r q _ _ both (Memᴰ.head refl) q-left (Memᴰ.head refl) none_left;
        two = two_steps ok q r _ _ both (Memᴰ.tail (Memᴰ.head refl)) r-left (Memᴰ.head refl) none-left-too;
        differ = λ e. let h : r ≡ q = ap first_row e in omega arith;
      }

-- ---- PAR of x := 1 and y := 2

abbrev par_rows : List ℤ
par_rows =
    pos 1 ∷ pos 1 ∷ pos 0 ∷ pos 0 ∷ pos 1 ∷ pos 1 ∷ pos 0 ∷ pos 0 ∷ pos 31 ∷ pos 3 ∷ pos 0 ∷ pos 0
    ∷ pos 40 ∷ pos 4 ∷ pos 7 ∷ pos 0 ∷ pos 22 ∷ pos 0 ∷ pos 5 ∷ pos 6 ∷ pos 10 ∷ pos 0 ∷ pos 0 ∷ pos 0 ∷ pos 10 ∷ pos 1 ∷ pos 0 ∷ pos 0
    ∷ pos 40 ∷ pos 8 ∷ negsuc 0 ∷ pos 0 ∷ pos 22 ∷ pos 1 ∷ pos 9 ∷ pos 10 ∷ pos 10 ∷ pos 0 ∷ pos 0 ∷ pos 0 ∷ pos 10 ∷ pos 2 ∷ pos 0 ∷ pos 0 ∷ []

pub two-orders : TwoOrders
unfolding computes_answers
two-orders = both-orders par_rows refl refl refl 4 8 (omega arith) refl refl refl refl refl

-- ---- PAR of two IFs, each with one choice, that starts a block: the block's SKIP ends at once

abbrev block_rows : List ℤ
block_rows =
    pos 1 ∷ pos 1 ∷ pos 0 ∷ pos 0 ∷ pos 1 ∷ pos 1 ∷ pos 0 ∷ pos 0 ∷ pos 31 ∷ pos 3 ∷ pos 0 ∷ pos 0
    ∷ pos 40 ∷ pos 4 ∷ pos 9 ∷ pos 0 ∷ pos 32 ∷ pos 5 ∷ pos 0 ∷ pos 0 ∷ pos 41 ∷ pos 6 ∷ negsuc 0 ∷ pos 8
    ∷ pos 35 ∷ pos 0 ∷ pos 7 ∷ pos 0 ∷ pos 21 ∷ pos 0 ∷ pos 0 ∷ pos 0 ∷ pos 10 ∷ pos 1 ∷ pos 0 ∷ pos 0
    ∷ pos 40 ∷ pos 10 ∷ negsuc 0 ∷ pos 0 ∷ pos 32 ∷ pos 11 ∷ pos 0 ∷ pos 0 ∷ pos 41 ∷ pos 12 ∷ negsuc 0 ∷ pos 14
    ∷ pos 35 ∷ pos 1 ∷ pos 13 ∷ pos 0 ∷ pos 21 ∷ pos 0 ∷ pos 0 ∷ pos 0 ∷ pos 10 ∷ pos 1 ∷ pos 0 ∷ pos 0 ∷ []

-- row 6 is a block
pub two-orders-of-blocks : TwoOrdersOfBlocks
unfolding computes_answers both-orders
two-orders-of-blocks = (both-orders block_rows refl refl refl 4 10 (omega arith) refl refl refl refl refl, (6, omega arith, refl))

-- ---- each writes to its neighbour: PAR of a[(0 + 1) REM 2] := 0 and a[(1 + 1) REM 2] := 1

abbrev ring_rows : List ℤ
ring_rows =
    pos 1 ∷ pos 2 ∷ pos 0 ∷ pos 0 ∷ pos 31 ∷ pos 2 ∷ pos 0 ∷ pos 0 ∷ pos 40 ∷ pos 3 ∷ pos 10 ∷ pos 0
    ∷ pos 22 ∷ pos 0 ∷ pos 4 ∷ pos 9 ∷ pos 13 ∷ pos 4 ∷ pos 5 ∷ pos 8 ∷ pos 13 ∷ pos 0 ∷ pos 6 ∷ pos 7
    ∷ pos 10 ∷ pos 0 ∷ pos 0 ∷ pos 0 ∷ pos 10 ∷ pos 1 ∷ pos 0 ∷ pos 0 ∷ pos 10 ∷ pos 2 ∷ pos 0 ∷ pos 0
    ∷ pos 10 ∷ pos 0 ∷ pos 0 ∷ pos 0 ∷ pos 40 ∷ pos 11 ∷ negsuc 0 ∷ pos 0 ∷ pos 22 ∷ pos 0 ∷ pos 12 ∷ pos 17
    ∷ pos 13 ∷ pos 4 ∷ pos 13 ∷ pos 16 ∷ pos 13 ∷ pos 0 ∷ pos 14 ∷ pos 15 ∷ pos 10 ∷ pos 1 ∷ pos 0 ∷ pos 0
    ∷ pos 10 ∷ pos 1 ∷ pos 0 ∷ pos 0 ∷ pos 10 ∷ pos 2 ∷ pos 0 ∷ pos 0 ∷ pos 10 ∷ pos 1 ∷ pos 0 ∷ pos 0 ∷ []

-- the members of the PAR
ring-members : Components ring_rows 1 3 11
unfolding computes_answers Refers RefersBy
ring-members =
    let first : IsMember ring_rows 1 2 = member-first refl (_, refl, (refl, (omega arith, omega arith, Memᴰ.head refl))) in
    let next : IsMember ring_rows 1 10 = member-next first (_, refl, (refl, (omega arith, omega arith, Memᴰ.head refl))) in
    components first next (λ e. omega arith) (_, refl, (refl, (omega arith, omega arith, Memᴰ.tail (Memᴰ.tail (Memᴰ.head refl)))))
    (_, refl, (refl, (omega arith, omega arith, Memᴰ.tail (Memᴰ.tail (Memᴰ.head refl)))))

-- by literals alone both assignments change cell 0
ring-changes : (r b c : ℕ) → node_at ring_rows r ≡ Assignment 0 b c → kind_at ring_rows b ≡ 13 → Changed ring_rows (LiteralCounts ring_rows) r 0 0
unfolding computes_answers
ring-changes r b c e k = (r, inl refl, changed-by-assignment e (not-literal (λ f. omega arith) (omega arith)))

pub two-orders-of-constants : TwoOrdersOfConstants
unfolding computes_answers both-orders
two-orders-of-constants = (
  both-orders ring_rows refl refl refl 3 11 (omega arith) refl refl refl refl refl,
  (1, (7, cell-clash ring-members (ring-changes 3 4 9 refl refl) (inl (ring-changes 11 12 17 refl refl)))),
)
