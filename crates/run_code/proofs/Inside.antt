-- The rows that a prepared row names are among 1,025: numbers 1 and 5 are at most 1,024, and 2 and 3 but of a literal or a declaration.
use mathlib.Core.Path.{◌≡◌, refl, sym, subst, ◌∙◌}
use mathlib.Core.Bool.{Bool, true, false, ◌||◌}
use mathlib.Core.Option.{Option as Maybe, none, some}
use mathlib.Core.List.{List}
use Prim.Native.Nat.{ℕ, ◌+◌, ◌<◌, ◌≤◌}
use native.Mathlib.Omega.{arith}
use native.Mathlib.Decide.{dec_lt}
use lib.IntN.{ℤ, pos, negsuc}
use lib.ListN.{take}
use lib.Dec.{ltb, eqb}
use borrow.Author.Tests.{ltb-true, eqb-true}
use Rattle.meaning.specs.declared.Value.TheVariants.{Number}
use Rattle.meaning.specs.declared.Index.TheVariants.{At, Fails}
use Rattle.meaning.specs.Basics.{if_else, lowest}
use Rattle.meaning.specs.Rows.{row_count, field_at, natural_at, kind_at}
use Rattle.meaning.specs.Faults.{WithinLimits}
use Rattle.meaning.specs.Declarations.{declarations, Variable, Channel, no_variable, no_channel, sum_below, is_variable, has_role, cells_at, elements_at, host_channels_at, capacity_at, variable_at, channel_at, source_at, sink_at, host_channels}
use Rattle.meaning.specs.Values.{in_array}
use Rattle.meaning.specs.State.{program}
use Rattle.meaning.specs.Buffers.{capacities}
use Rattle.meaning.specs.Answers.{check}
use Rattle.meaning.proofs.AnswerLaws.{accepted}
use Rattle.agreement.proofs.TableFit.{rows-limit}
use Rattle.run_parents.specs.Shapes.{shape_at}
use Rattle.run_parents.specs.declared.shape.Shape.{Shape}
use Rattle.run_parents.specs.declared.shape.Shape.TheVariants.{Ending, Single, Link, Neither}
use Rattle.machine.specs.Upward.{parent_of}
use Rattle.machine.specs.Held.{sum_of, strip_start}
use Rattle.machine.proofs.Strips.{strip-within}
use Rattle.machine.proofs.Declared.{capacities-length, variable-in, sink-below, room}
use Rattle.run_parents.specs.Parents.{in_table, is_link_to, link_after, link_after_row, next_link, if_parent}
use Rattle.base_layout.specs.Operands.{operand_at}
use Rattle.run_code.specs.declared.Row.{Row}
use Rattle.run_code.specs.Prepared.{row, no_row, literal_row, fixed, variable_row, channel_row, kind_in, referred_row, subscripted_row, next_note, strip_of, declared_row, element_row, assigned_row, kept_row, row_at, Prepared, place_at}
use Rattle.run_code.proofs.Entries.{what-at, first-at, second_at, third_at, next-at}
use Rattle.run_code.proofs.RowKinds.{IsElement, is_cell, is_outside, is_subscripted, element-what, declared-past, declarations-few, in-table}
use Rattle.run_code.proofs.Names.{element-names, assignment-names, block-names, input-names, output-names, monadic-number, dyadic-number}
use Rattle.run_code.proofs.Referred.{present-inside}

record Within (w : Row) : Type 0 where
  first : w.first ≤ 1024
  second : 2 ≤ w.what → w.second ≤ 1024
  third : 2 ≤ w.what → w.third ≤ 1024
  next : w.next ≤ 1024

-- a row of an expression
plain : (w a b c : ℕ) → a ≤ 1024 → b ≤ 1024 → c ≤ 1024 → Within (row w a b c)
plain w a b c f g h = record { first = f; second = λ l. g; third = λ l. h; next = omega arith }

module _ (rows : List ℤ) (ok : check rows ≡ none) where
  few : row_count rows ≤ 1024
  few = rows-limit rows ok

  -- ---- declarations
  sums-small : (a : ℕ) → a < declarations rows → (sum_below (elements_at rows) a ≤ 1024) × (sum_below (capacity_at rows) a ≤ 1024)
  unfolding WithinLimits sum_below
  sums-small a d = let w = ((accepted rows).0 ok).3 a d in (omega (arith, w.1), omega (arith, w.4))

  module _ (a : ℕ) (d : a < declarations rows) where
    -- the cells of a variable are among 256
    pub variable-within : (variable_at rows a).first + (variable_at rows a).size ≤ 256
    unfolding variable_at WithinLimits sum_below
    variable-within = go (is_variable rows a)
      where
        v : Variable
        v = record { first = sum_below (cells_at rows) a; size = cells_at rows a }

        go : (t : Bool) → (if_else t v no_variable).first + (if_else t v no_variable).size ≤ 256
        go true = (((accepted rows).0 ok).3 a d).0
        go false = omega arith

    channel-first : (role : ℕ) → (channel_at role rows a).first ≤ 1024
    unfolding channel_at
    channel-first role = go (has_role 0 rows a || has_role role rows a)
      where
        c : Channel
        c = record { first = sum_below (elements_at rows) a; size = elements_at rows a; host = has_role role rows a; number = sum_below (host_channels_at role rows) a; capacity = capacity_at rows a }

        go : (t : Bool) → (if_else t c no_channel).first ≤ 1024
        go true = (sums-small a d).0
        go false = omega arith

    sink-first : (sink_at rows a).first ≤ 1024
    unfolding sink_at
    sink-first = channel-first 2

    strip-small : (c : Channel) → (c.host ≡ true → c.number < host_channels 2 rows) → strip_of rows c ≤ 1024
    unfolding strip_of strip_start
    strip-small c f = go c.host refl
      where
        go : (t : Bool) → c.host ≡ t → if_else t (sum_of (take c.number (capacities rows))) 0 ≤ 1024
        go true e = let n = f e in omega (arith, strip-within (capacities rows) c.number (omega (arith, capacities-length rows)), (room rows ok).numbers)
        go false e = omega arith

    declared-within : Within (declared_row rows a)
    unfolding declared_row source_at
    declared-within = go (is_variable rows a) (has_role 2 rows a)
      where
        go : (t u : Bool) → Within (if_else t (variable_row (variable_at rows a)) (if_else u (channel_row (sink_at rows a) (strip_of rows (sink_at rows a))) (channel_row (channel_at 1 rows a) 0)))
        go true u = record { first = omega (arith, variable-within); second = λ l. absurd (omega arith); third = λ l. absurd (omega arith); next = omega arith }
        go false true = record { first = sink-first; second = λ l. absurd (omega arith); third = λ l. absurd (omega arith); next = strip-small (sink_at rows a) (sink-below rows a) }
        go false false = record { first = channel-first 1; second = λ l. absurd (omega arith); third = λ l. absurd (omega arith); next = omega arith }

  -- ---- elements
  cell-small : (first n : ℕ) (x : ℤ) → ((i : ℕ) → i < n → first + i ≤ 1024) → Within (fixed (in_array first n (Number x)))
  unfolding in_array
  cell-small first n (negsuc i) f = plain 3 0 0 0 (omega arith) (omega arith) (omega arith)
  cell-small first n (pos i) f = go (ltb i n) refl
    where
      go : (t : Bool) → ltb i n ≡ t → Within (fixed (if_else t (At (first + i)) (Fails 2)))
      go true e = plain 2 (first + i) 0 0 (f i (ltb-true i n e)) (omega arith) (omega arith)
      go false e = plain 3 0 0 0 (omega arith) (omega arith) (omega arith)

  element-within : (a b : ℕ) → a ≤ 1024 → b ≤ 1024 → Within (subscripted_row rows a b)
  unfolding subscripted_row
  element-within a b h k = go (eqb (kind_in rows b) 10)
    where
      v : Variable
      v = variable_at rows a

      go : (t : Bool) → Within (if_else t (fixed (in_array v.first v.size (Number (field_at rows b 1)))) (row 4 a b 0))
      go true = cell-small v.first v.size (field_at rows b 1) (λ i l. omega (arith, variable-in rows a i l, (room rows ok).cells))
      go false = plain 4 a b 0 h k (omega arith)

  in-table-within : (t : ℕ) → in_table rows t ≤ 1024
  in-table-within t = go (ltb t (row_count rows)) refl
    where
      go : (b : Bool) → ltb t (row_count rows) ≡ b → if_else b t (row_count rows) ≤ 1024
      go true e = let h = ltb-true t (row_count rows) e in omega (arith, few)
      go false e = few

  link-within : (s : Shape) → link_after rows s ≤ 1024
  link-within (Ending m f) = few
  link-within (Single b) = few
  link-within (Link q t) = in-table-within t
  link-within Neither = few

  next-within : (r : ℕ) → next_note rows r ≤ 1024
  unfolding next_note next_link
  next-within r = go (parent_of (program rows) r)
    where
      after : (o : Maybe ℕ) → link_after_row rows o ≤ 1024
      after none = few
      after (some t) = link-within (shape_at rows t)

      go : (o : Maybe ℕ) → if_parent o (link_after_row rows (lowest (λ t. is_link_to r (shape_at rows t)) (row_count rows))) 0 ≤ 1024
      go none = omega arith
      go (some q) = after (lowest (λ t. is_link_to r (shape_at rows t)) (row_count rows))

  module _ (r : ℕ) where
    refers : (j : ℕ) → referred_row rows r j ≤ 1024
    refers j = present-inside rows few (operand_at rows r j)

    -- number 1 of a row that names a declaration or an operator
    names-inside : (k : ℕ) → (k ≡ 0 → ⊥) → (r < row_count rows → kind_at rows r ≡ k → natural_at rows r 1 ≤ 1024) → kind_in rows r ≡ k → natural_at rows r 1 ≤ 1024
    names-inside k z f e = let (h, i) = in-table rows r k e z in f h i

    declaration-inside : natural_at rows r 1 < declarations rows → natural_at rows r 1 ≤ 1024
    declaration-inside d = omega (arith, declarations-few rows, few)

    what-least : {n : ℕ} → IsElement n → 2 ≤ n
    what-least (is_cell e) = omega arith
    what-least (is_outside e) = omega arith
    what-least (is_subscripted e) = omega arith

    by_kind : (k : ℕ) (a b c d e f g h x y : Bool) → kind_in rows r ≡ k → eqb k 11 ≡ b → eqb k 12 ≡ c → eqb k 13 ≡ d → eqb k 22 ≡ e → eqb k 23 ≡ f → eqb k 24 ≡ g → eqb k 35 ≡ h
        → Within
        (if_else a (literal_row (field_at rows r 1))
        (if_else b (element_row rows r)
        (if_else c (row 5 (natural_at rows r 1) (referred_row rows r 2) 0)
        (if_else d (row 6 (natural_at rows r 1) (referred_row rows r 2) (referred_row rows r 3))
        (if_else e (assigned_row rows r (element_row rows r))
        (if_else f (kept_row rows r 23 (natural_at rows r 1))
        (if_else g (kept_row rows r 24 (natural_at rows r 1))
        (if_else h (kept_row rows r 35 (natural_at rows r 1))
        (if_else x (declared_row rows r)
        (if_else y (kept_row rows r k (referred_row rows r 1))
        no_row))))))))))
    by_kind k true b c d e f g h x y i p2 p3 p4 p5 p6 p7 p8 = record { first = omega arith; second = λ l. absurd (omega arith); third = λ l. absurd (omega arith); next = omega arith }
    by_kind k false true c d e f g h x y i p2 p3 p4 p5 p6 p7 p8 =
        element-within (natural_at rows r 1) (referred_row rows r 2) (names-inside 11 (λ z. omega arith) (λ h j. declaration-inside (element-names rows ok r h j).0) (i ∙ eqb-true k 11 p2)) (refers 2)
    by_kind k false false true d e f g h x y i p2 p3 p4 p5 p6 p7 p8 =
        plain 5 (natural_at rows r 1) (referred_row rows r 2) 0 (names-inside 12 (λ z. omega arith) (λ h j. omega (arith, monadic-number rows ok r h j)) (i ∙ eqb-true k 12 p3)) (refers 2) (omega arith)
    by_kind k false false false true e f g h x y i p2 p3 p4 p5 p6 p7 p8 =
        plain 6 (natural_at rows r 1) (referred_row rows r 2) (referred_row rows r 3) (names-inside 13 (λ z. omega arith) (λ h j. omega (arith, dyadic-number rows ok r h j)) (i ∙ eqb-true k 13 p4)) (refers 2) (refers 3)
    by_kind k false false false false true f g h x y i p2 p3 p4 p5 p6 p7 p8 =
        let w = element-within (natural_at rows r 1) (referred_row rows r 2) (names-inside 22 (λ z. omega arith) (λ h j. declaration-inside (assignment-names rows ok r h j).0) (i ∙ eqb-true k 22 p5)) (refers 2) in
        record { first = w.first; second = λ l. w.second (what-least (element-what rows (natural_at rows r 1) (referred_row rows r 2))); third = λ l. refers 3; next = next-within r }
    by_kind k false false false false false true g h x y i p2 p3 p4 p5 p6 p7 p8 =
        record { first = names-inside 23 (λ z. omega arith) (λ h j. declaration-inside (input-names rows ok r h j).0) (i ∙ eqb-true k 23 p6); second = λ l. refers 2; third = λ l. refers 3; next = next-within r }
    by_kind k false false false false false false true h x y i p2 p3 p4 p5 p6 p7 p8 =
        record { first = names-inside 24 (λ z. omega arith) (λ h j. declaration-inside (output-names rows ok r h j).0) (i ∙ eqb-true k 24 p7); second = λ l. refers 2; third = λ l. refers 3; next = next-within r }
    by_kind k false false false false false false false true x y i p2 p3 p4 p5 p6 p7 p8 =
        record { first = names-inside 35 (λ z. omega arith) (λ h j. declaration-inside (block-names rows ok r h j).0) (i ∙ eqb-true k 35 p8); second = λ l. refers 2; third = λ l. refers 3; next = next-within r }
    by_kind k false false false false false false false false true y i p2 p3 p4 p5 p6 p7 p8 = declaration (dec_lt r (declarations rows))
      where
        declaration : Dec (r < declarations rows) → Within (declared_row rows r)
        declaration (yes d) = declared-within r d
        declaration (no d) = subst Within (sym (declared-past rows r (omega arith))) (plain 0 0 0 0 (omega arith) (omega arith) (omega arith))
    by_kind k false false false false false false false false false true i p2 p3 p4 p5 p6 p7 p8 = record { first = refers 1; second = λ l. refers 2; third = λ l. refers 3; next = next-within r }
    by_kind k false false false false false false false false false false i p2 p3 p4 p5 p6 p7 p8 = plain 0 0 0 0 (omega arith) (omega arith) (omega arith)

    within : Within (row_at rows r)
    unfolding row_at
    within = let k = kind_in rows r in by_kind k (eqb k 10) (eqb k 11) (eqb k 12) (eqb k 13) (eqb k 22) (eqb k 23) (eqb k 24) (eqb k 35) (ltb k 20) (ltb k 44) refl refl refl refl refl refl refl refl

module _ {rows : List ℤ} {code : List ℕ} (p : Prepared rows code) (r : ℕ) (h : r ≤ 1024) where
  pub first-inside : place_at code r 1 ≤ 1024
  first-inside = rw (first-at p r h) (within rows p.accepted r).first

  -- of every row but a literal or a declaration
  pub second-inside : 2 ≤ place_at code r 0 → place_at code r 2 ≤ 1024
  second-inside l = rw (second_at p r h) ((within rows p.accepted r).second (rw (← what-at p r h) l))

  pub third-inside : 2 ≤ place_at code r 0 → place_at code r 3 ≤ 1024
  third-inside l = rw (third_at p r h) ((within rows p.accepted r).third (rw (← what-at p r h) l))

  pub next-inside : place_at code r 5 ≤ 1024
  next-inside = rw (next-at p r h) (within rows p.accepted r).next
