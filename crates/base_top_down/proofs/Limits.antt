-- Stage 6 looks at declarations only, and these are the same.
use mathlib.Core.Path.{◌≡◌, refl, ap, ap₂, ◌∙◌}
use mathlib.Core.Bool.{Bool, ◌&&◌, ◌||◌}
use mathlib.Core.List.{List}
use mathlib.Core.Option.{some, map}
use Prim.Native.Nat.{ℕ, zero, suc, ◌+◌, ◌≤◌, ◌<◌}
use native.Mathlib.Omega.{arith}
use lib.IntN.{ℤ}
use lib.Dec.{ltb, eqb}
use Rattle.meaning.specs.Rows.{natural_of, natural_at}
use Rattle.meaning.specs.Basics.{if_else, lowest_from, lowest}
use Rattle.meaning.specs.Limits.{max_cells, max_elements, max_host_channels, max_capacity}
use Rattle.meaning.specs.Refusals.{Refusal}
use Rattle.meaning.specs.Declarations.{declarations, sum_below, is_variable, is_channel, has_role, cells_at, elements_at, host_channels_at, capacity_at}
use Rattle.meaning.specs.Verdict.{over_limit, limit_fault}
use Rattle.base_top_down.specs.Forms.{top_down}
use Rattle.base_top_down.specs.Laid.{LimitKept}
use Rattle.base_top_down.proofs.Again.{declared-fields, same-declarations}

same_sum : (f g : ℕ → ℕ) (n : ℕ) → ((q : ℕ) → q < n → f q ≡ g q) → sum_below f n ≡ sum_below g n
unfolding sum_below
same_sum f g zero h = refl
same_sum f g (suc n) h = ap₂ (λ (x y : ℕ). x + y) (same_sum f g n (λ q l. h q (omega arith))) (h n (omega arith))

same-lowest : (p q : ℕ → Bool) (at k : ℕ) → ((i : ℕ) → at ≤ i → i < at + k → p i ≡ q i) → lowest_from p at k ≡ lowest_from q at k
unfolding lowest_from
same-lowest p q at zero h = refl
same-lowest p q at (suc k) h = λ j. if_else (h at (omega arith) (omega arith) j) (some at) (same-lowest p q (suc at) k (λ i a b. h i (omega arith) (omega arith)) j)

module _ (rows : List ℤ) where
  abbrev T : List ℤ
  T = top_down rows

  module _ (q : ℕ) (l : q < declarations rows) where
    field : (j : ℕ) → j < 4 → natural_at T q j ≡ natural_at rows q j
    field j h = ap natural_of (declared-fields rows q j l h)

    variable : is_variable T q ≡ is_variable rows q
    variable = λ i. ltb q (same-declarations rows i) && eqb (field 0 (omega arith) i) 1

    channel : is_channel T q ≡ is_channel rows q
    channel = λ i. ltb q (same-declarations rows i) && eqb (field 0 (omega arith) i) 2

    role : (n : ℕ) → has_role n T q ≡ has_role n rows q
    role n = λ i. channel i && eqb (field 2 (omega arith) i) n

    cells : cells_at T q ≡ cells_at rows q
    unfolding cells_at
    cells = λ i. if_else (variable i) (field 1 (omega arith) i) 0

    elements : elements_at T q ≡ elements_at rows q
    unfolding elements_at
    elements = λ i. if_else (channel i) (field 1 (omega arith) i) 0

    host-channels : (n : ℕ) → host_channels_at n T q ≡ host_channels_at n rows q
    unfolding host_channels_at
    host-channels n = ap (λ (b : Bool). if_else b 1 0) (role n)

    capacity : capacity_at T q ≡ capacity_at rows q
    unfolding capacity_at
    capacity = λ i. if_else (role 2 i) (field 3 (omega arith) i) 0

  over : (r : ℕ) → r < declarations rows → over_limit T r ≡ over_limit rows r
  over r l =
      let a = same_sum (cells_at T) (cells_at rows) (suc r) (λ q h. cells q (omega arith)) in
      let b = same_sum (elements_at T) (elements_at rows) (suc r) (λ q h. elements q (omega arith)) in
      let c = same_sum (host_channels_at 1 T) (host_channels_at 1 rows) (suc r) (λ q h. host-channels q (omega arith) 1) in
      let d = same_sum (host_channels_at 2 T) (host_channels_at 2 rows) (suc r) (λ q h. host-channels q (omega arith) 2) in
      let e = same_sum (capacity_at T) (capacity_at rows) (suc r) (λ q h. capacity q (omega arith)) in
      λ i. ltb max_cells (a i) || ltb max_elements (b i) || ltb max_host_channels (c i) || ltb max_host_channels (d i) || ltb max_capacity (e i)

pub limit-kept : LimitKept
unfolding LimitKept limit_fault lowest
limit-kept rows =
    ap (λ (n : ℕ). map {B = Refusal} (λ r. (6, r)) (lowest_from (over_limit (top_down rows)) 0 n)) (same-declarations rows)
    ∙ ap (map {B = Refusal} (λ r. (6, r))) (same-lowest (over_limit (top_down rows)) (over_limit rows) 0 (declarations rows) (λ i a b. over rows i (omega arith)))
