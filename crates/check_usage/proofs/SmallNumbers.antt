-- In a table within the limits the cells of a variable and the elements of a channel have numbers below 256, and so has what a subscript counts for.
use mathlib.Core.Path.{◌≡◌, refl, sym, ap, ◌∙◌}
use mathlib.Core.Bool.{Bool, true, false, ◌||◌, false≢true}
use mathlib.Core.List.{List, [], ◌∷◌, ◌++◌}
use Prim.Native.Nat.{ℕ, zero, suc, ◌+◌, ◌*◌, ◌<◌, ◌≤◌}
use native.Mathlib.Omega.{arith}
use lib.IntN.{ℤ, pos, negsuc}
use lib.Dec.{ltb, eqb}
use borrow.Author.Tests.{ltb-true, eqb-true}
use Rattle.meaning.specs.declared.Value.{Value}
use Rattle.meaning.specs.declared.Value.TheVariants.{Number, Missing}
use Rattle.meaning.specs.Rows.{natural_at, kind_at}
use Rattle.meaning.specs.Basics.{if_else, any_passes, among}
use Rattle.meaning.specs.Declarations.{declarations, Variable, Channel, no_variable, no_channel, sum_below, is_variable, is_channel, has_role, cells_at, elements_at, host_channels_at, capacity_at, variable_at, channel_at, source_at, sink_at}
use Rattle.meaning.specs.Faults.{WithinLimits}
use Rattle.meaning.specs.Tree.{Expr}
use Rattle.meaning.specs.Usage.{numbers_from, only_if, constant, counts_by_value, counts_for}
use Rattle.meaning.specs.Values.{value}
use Rattle.meaning.proofs.Decides.{both_true}
use Rattle.base_sets.specs.Sets.{in_sort}
use Rattle.base_sets.proofs.Bools.{among-append}

-- Lists ---------------------------------------------------------------------------------------------------------------------------

-- every mark is of a number below 256
abbrev pub Small : List ℕ → Type 0
Small l = (n : ℕ) → among n l ≡ true → n < 1024

pub small-right : (l m : List ℕ) → Small (l ++ m) → Small m
small-right l m h n e = h n (among-append n l m ∙ other-true (among n l) (among n m) e)
  where
    other-true : (s t : Bool) → t ≡ true → (s || t) ≡ true
    other-true true t e = refl
    other-true false t e = e

pub small-append : (l m : List ℕ) → Small l → Small m → Small (l ++ m)
small-append l m h g n e = go (among n l) refl (sym (among-append n l m) ∙ e)
  where
    go : (b : Bool) → among n l ≡ b → (among n l || among n m) ≡ true → n < 1024
    go true f p = h n f
    go false f p = g n (sym (ap (λ (b : Bool). b || among n m) f) ∙ p)

pub none-small : Small []
unfolding any_passes
none-small n e = absurd (false≢true e)

cons-small : (m : ℕ) (l : List ℕ) → m < 1024 → Small l → Small (m ∷ l)
unfolding any_passes
cons-small m l h g n e = go (eqb n m) refl e
  where
    go : (b : Bool) → eqb n m ≡ b → (b || among n l) ≡ true → n < 1024
    go true p q = let i = eqb-true n m p in omega arith
    go false p q = g n q

module _ (s : ℕ) (hs : s < 4) where
  range_small : (first n : ℕ) → first + n ≤ 256 → Small (in_sort s (numbers_from first n))
  unfolding numbers_from
  range_small first zero h = none-small
  range_small first (suc n) h = cons-small (4 * first + s) (in_sort s (numbers_from (suc first) n)) (omega arith) (range_small (suc first) n (omega arith))

  one-small : (first n k : ℕ) → first + n ≤ 256 → (b : Bool) → ltb k n ≡ b → Small (in_sort s (only_if b (first + k)))
  one-small first n k h true e = let l = ltb-true k n e in cons-small (4 * (first + k) + s) [] (omega arith) none-small
  one-small first n k h false e = none-small

  value-small : (first n : ℕ) (v : Value) → first + n ≤ 256 → Small (in_sort s (counts_by_value first n v))
  unfolding counts_by_value
  value-small first n (Number (pos k)) h = one-small first n k h (ltb k n) refl
  value-small first n (Number (negsuc k)) h = none-small
  value-small first n (Missing k) h = range_small first n h

  pub counts-small : (first n : ℕ) (e : Expr) → first + n ≤ 256 → Small (in_sort s (counts_for first n e))
  unfolding counts_for
  counts-small first n e h = go (constant e)
    where
      go : (t : Bool) → Small (in_sort s (if_else t (counts_by_value first n (value [] e)) (numbers_from first n)))
      go true = value-small first n (value [] e) h
      go false = range_small first n h

-- Names ---------------------------------------------------------------------------------------------------------------------------

abbrev InVariable : Variable → Type 0
InVariable v = v.first + v.size ≤ 256

abbrev InChannel : Channel → Type 0
InChannel c = c.first + c.size ≤ 256

module _ (rows : List ℤ) (limits : (r : ℕ) → r < declarations rows → WithinLimits rows r) where
  pub variable-small : (a : ℕ) → InVariable (variable_at rows a)
  unfolding variable_at WithinLimits sum_below
  variable-small a = go (is_variable rows a) refl
    where
      within : a < declarations rows → sum_below (cells_at rows) a + cells_at rows a ≤ 256
      within h = (limits a h).0

      go : (b : Bool) → is_variable rows a ≡ b → InVariable (if_else b (record { first = sum_below (cells_at rows) a; size = cells_at rows a }) no_variable)
      go true e = within (ltb-true a (declarations rows) (both_true (ltb a (declarations rows)) (eqb (kind_at rows a) 1) e).0)
      go false e = omega arith

  channel-small : (role a : ℕ) → InChannel (channel_at role rows a)
  unfolding channel_at WithinLimits sum_below
  channel-small role a = go (has_role 0 rows a || has_role role rows a) refl
    where
      within : a < declarations rows → sum_below (elements_at rows) a + elements_at rows a ≤ 256
      within h = (limits a h).1

      declared : (s t : Bool) → (s ≡ true → a < declarations rows) → (t ≡ true → a < declarations rows) → (s || t) ≡ true → a < declarations rows
      declared true t f g e = f refl
      declared false t f g e = g e

      is-channel : (k : ℕ) → has_role k rows a ≡ true → a < declarations rows
      is-channel k e = ltb-true a (declarations rows) (both_true (ltb a (declarations rows)) (eqb (kind_at rows a) 2) (both_true (is_channel rows a) (eqb (natural_at rows a 2) k) e).0).0

      go : (b : Bool) → (has_role 0 rows a || has_role role rows a) ≡ b
          → InChannel (if_else b (record { first = sum_below (elements_at rows) a; size = elements_at rows a; host = has_role role rows a; number = sum_below (host_channels_at role rows) a; capacity = capacity_at rows a }) no_channel)
      go true e = within (declared (has_role 0 rows a) (has_role role rows a) (is-channel 0) (is-channel role) e)
      go false e = omega arith

  pub source-small : (a : ℕ) → InChannel (source_at rows a)
  unfolding source_at
  source-small a = channel-small 1 a

  pub sink-small : (a : ℕ) → InChannel (sink_at rows a)
  unfolding sink_at
  sink-small a = channel-small 2 a
