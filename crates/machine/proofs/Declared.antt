-- What declarations tell of a state's arrays: the lists of host channels and capacities, the bounds of cells and host channels, and the limits of an accepted table.
use mathlib.Core.Path.{◌≡◌, refl, sym, ap, subst, ◌∙◌}
use mathlib.Core.Bool.{Bool, true, false, ◌&&◌, ◌||◌, false≢true}
use mathlib.Core.Option.{none}
use mathlib.Core.List.{List, map}
use Prim.Native.Nat.{ℕ, ◌+◌, ◌<◌}
use native.Mathlib.Omega.{arith}
use lib.IntN.{ℤ, pos, negsuc}
use lib.ListN.{length, get_or, length-map, get_or-map}
use lib.Dec.{ltb, eqb}
use borrow.Author.Tests.{ltb-true}
use Rattle.meaning.specs.declared.Value.{Value}
use Rattle.meaning.specs.declared.Value.TheVariants.{Number, Missing}
use Rattle.meaning.specs.declared.Index.TheVariants.{At, Fails}
use Rattle.meaning.specs.Rows.{natural_at, kind_at}
use Rattle.meaning.specs.Basics.{if_else, all_below}
use Rattle.meaning.specs.Declarations.{declarations, Variable, Channel, no_variable, no_channel, sum_below, is_variable, is_channel, has_role, cells_at, elements_at, host_channels_at, capacity_at, variable_at, channel_at, source_at, sink_at, total_cells, host_channels, channels}
use Rattle.meaning.specs.Tree.{Expr}
use Rattle.meaning.specs.Values.{Message, in_array, value, index}
use Rattle.meaning.specs.Buffers.{capacities}
use Rattle.meaning.specs.Faults.{WithinLimits}
use Rattle.meaning.specs.Answers.{check}
use Rattle.meaning.proofs.AnswerLaws.{accepted}
use Rattle.agreement.proofs.TableFit.{rows-limit}
use Rattle.machine.specs.Held.{sum_of, strip_start, Room}
use Rattle.machine.proofs.Lists.{take-map}
use Rattle.machine.proofs.Numbered.{sum_past, sum_bound, below-count, below-sum, below-first, below-place}

and-true : (s t : Bool) → (s && t) ≡ true → (s ≡ true) × (t ≡ true)
and-true true t e = (refl, e)
and-true false t e = absurd (false≢true e)

module _ (rows : List ℤ) where
  -- ---- channels of a role

  host-channels-are : (role r : ℕ) → host_channels_at role rows r ≡ if_else (has_role role rows r) 1 0
  unfolding host_channels_at
  host-channels-are role r = refl

  -- as many as there are
  pub channels-length : (role : ℕ) → length (channels rows role) ≡ host_channels role rows
  unfolding channels host_channels
  channels-length role = below-count (has_role role rows) (host_channels_at role rows) (host-channels-are role) (declarations rows)

  pub capacities-length : length (capacities rows) ≡ host_channels 2 rows
  capacities-length = length-map (channels rows 2) (capacity_at rows) ∙ channels-length 2

  no-capacity : (r : ℕ) → has_role 2 rows r ≡ false → capacity_at rows r ≡ 0
  unfolding capacity_at
  no-capacity r e = rw e

  -- all capacities together
  pub capacities-sum : sum_of (capacities rows) ≡ sum_below (capacity_at rows) (declarations rows)
  unfolding channels
  capacities-sum = below-sum (has_role 2 rows) (capacity_at rows) no-capacity (declarations rows)

  declared-below : (role r : ℕ) → has_role role rows r ≡ true → r < declarations rows
  declared-below role r h =
      let (c, e) = and-true (is_channel rows r) (eqb (natural_at rows r 2) role) h in
      ltb-true r (declarations rows) (and-true (ltb r (declarations rows)) (eqb (kind_at rows r) 2) c).0

  -- a channel's number is below the number of such channels
  pub port-below : (role r : ℕ) → has_role role rows r ≡ true → sum_below (host_channels_at role rows) r < host_channels role rows
  unfolding host_channels
  port-below role r h =
      let e : host_channels_at role rows r ≡ 1 = rw (host-channels-are role r, h) in
      omega (arith, sum_past (host_channels_at role rows) r (declarations rows) (declared-below role r h))

  -- the capacity of the output channel that row r declares, and where its strip begins
  pub capacity-at : (r : ℕ) → has_role 2 rows r ≡ true → get_or (capacities rows) (sum_below (host_channels_at 2 rows) r) 0 ≡ capacity_at rows r
  unfolding channels
  capacity-at r h =
      let n = below-count (has_role 2 rows) (host_channels_at 2 rows) (host-channels-are 2) r in
      let (a, b) = below-place (has_role 2 rows) r (declarations rows) (declarations rows) h (declared-below 2 r h) in
      let z : capacity_at rows (declarations rows) ≡ 0 = no-capacity (declarations rows) (past (has_role 2 rows (declarations rows)) refl) in
      subst (λ (k : ℕ). get_or (capacities rows) k 0 ≡ capacity_at rows r) n
      (subst (λ (k : ℕ). get_or (capacities rows) (length (all_below (has_role 2 rows) r)) k ≡ capacity_at rows r) z
      (get_or-map (capacity_at rows) (all_below (has_role 2 rows) (declarations rows)) (length (all_below (has_role 2 rows) r)) (declarations rows) ∙ ap (capacity_at rows) b))
    where
      past : (t : Bool) → has_role 2 rows (declarations rows) ≡ t → t ≡ false
      past true e = absurd (omega (arith, declared-below 2 (declarations rows) e))
      past false e = refl

  pub strip-start : (r : ℕ) → has_role 2 rows r ≡ true → strip_start rows (sum_below (host_channels_at 2 rows) r) ≡ sum_below (capacity_at rows) r
  unfolding strip_start channels
  strip-start r h =
      let n = below-count (has_role 2 rows) (host_channels_at 2 rows) (host-channels-are 2) r in
      let d = declared-below 2 r h in
      rw (← n) (ap sum_of (take-map (capacity_at rows) (length (all_below (has_role 2 rows) r)) (all_below (has_role 2 rows) (declarations rows)) ∙ ap (map (capacity_at rows)) (below-first (has_role 2 rows) r (declarations rows) (omega arith)))
      ∙ below-sum (has_role 2 rows) (capacity_at rows) no-capacity r)

  -- ---- cells and host channels are in range

  -- an element that a subscript means
  in-array : (first n a : ℕ) (v : Value) → in_array first n v ≡ At a → (i : ℕ) × (i < n) × (a ≡ first + i)
  unfolding in_array
  in-array first n a (Number (pos i)) e = go (ltb i n) refl e
    where
      at-is : (x y : ℕ) → At x ≡ At y → x ≡ y
      at-is x y p = cc

      go : (t : Bool) → ltb i n ≡ t → if_else t (At (first + i)) (Fails 2) ≡ At a → (j : ℕ) × (j < n) × (a ≡ first + j)
      go true l p = (i, ltb-true i n l, sym (at-is (first + i) a p))
      go false l p = let z : ◌≡◌ {A = ℕ} 0 1 = cc in absurd (omega arith)
  in-array first n a (Number (negsuc i)) e = let z : ◌≡◌ {A = ℕ} 0 1 = cc in absurd (omega arith)
  in-array first n a (Missing k) e = let z : ◌≡◌ {A = ℕ} 0 1 = cc in absurd (omega arith)

  -- every element of a variable is a cell
  abbrev pub CellsIn : Variable → Type 0
  CellsIn v = (i : ℕ) → i < v.size → v.first + i < total_cells rows

  pub variable-in : (r : ℕ) → CellsIn (variable_at rows r)
  unfolding variable_at total_cells
  variable-in r = go (is_variable rows r) refl
    where
      v : Variable
      v = record { first = sum_below (cells_at rows) r; size = cells_at rows r }

      go : (t : Bool) → is_variable rows r ≡ t → (i : ℕ) → i < (if_else t v no_variable).size → (if_else t v no_variable).first + i < sum_below (cells_at rows) (declarations rows)
      go true h i l = omega (arith, sum_past (cells_at rows) r (declarations rows) (ltb-true r (declarations rows) (and-true (ltb r (declarations rows)) (eqb (kind_at rows r) 1) h).0))
      go false h i l = absurd (omega arith)

  -- so is the cell that it and a subscript mean
  pub cell_below : (cells : List Message) (v : Variable) (a : ℕ) (e : Expr) → CellsIn v → index cells v.first v.size e ≡ At a → a < total_cells rows
  unfolding index
  cell_below cells v a e k h = let (i, l, q) = in-array v.first v.size a (value cells e) h in rw q (k i l)

  -- the number of a host channel that an input or output names
  host-role : (role r : ℕ) → (channel_at role rows r).host ≡ true → (has_role role rows r ≡ true) × ((channel_at role rows r).number ≡ sum_below (host_channels_at role rows) r) × ((channel_at role rows r).capacity ≡ capacity_at rows r)
  unfolding channel_at
  host-role role r = go (has_role 0 rows r || has_role role rows r)
    where
      c : Channel
      c = record { first = sum_below (elements_at rows) r; size = elements_at rows r; host = has_role role rows r; number = sum_below (host_channels_at role rows) r; capacity = capacity_at rows r }

      go : (t : Bool) → (if_else t c no_channel).host ≡ true → (has_role role rows r ≡ true) × ((if_else t c no_channel).number ≡ sum_below (host_channels_at role rows) r) × ((if_else t c no_channel).capacity ≡ capacity_at rows r)
      go true h = (h, refl, refl)
      go false h = absurd (false≢true h)

  pub source-below : (r : ℕ) → (source_at rows r).host ≡ true → (source_at rows r).number < host_channels 1 rows
  unfolding source_at
  source-below r h = let (t, p, c) = host-role 1 r h in rw p (port-below 1 r t)

  pub sink-below : (r : ℕ) → (sink_at rows r).host ≡ true → (sink_at rows r).number < host_channels 2 rows
  unfolding sink_at
  sink-below r h = let (t, p, c) = host-role 2 r h in rw p (port-below 2 r t)

  -- its capacity
  pub sink-capacity : (r : ℕ) → (sink_at rows r).host ≡ true → get_or (capacities rows) (sink_at rows r).number 0 ≡ (sink_at rows r).capacity
  unfolding sink_at
  sink-capacity r h = let (t, p, c) = host-role 2 r h in rw (p, c) (capacity-at r t)

  -- ---- an accepted table is within the limits
  pub room : check rows ≡ none → Room rows
  unfolding total_cells host_channels WithinLimits
  room ok =
      let w = ((accepted rows).0 ok).3 in
      record {
        cells = sum_bound (cells_at rows) 256 (declarations rows) (λ r l. (w r l).0);
        places = sum_bound (host_channels_at 1 rows) 8 (declarations rows) (λ r l. (w r l).2);
        outputs = sum_bound (host_channels_at 2 rows) 8 (declarations rows) (λ r l. (w r l).3);
        states = rows-limit rows ok;
        numbers = rw capacities-sum (sum_bound (capacity_at rows) 1024 (declarations rows) (λ r l. (w r l).4));
      }
