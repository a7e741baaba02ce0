-- The prepared row of a declaration, from its name and the capacities before it.
use mathlib.Core.Path.{◌≡◌, refl, sym, ap, ◌∙◌}
use mathlib.Core.Bool.{Bool, true, false, ◌&&◌, ◌||◌, false≢true}
use mathlib.Core.Logic.{◌⊎◌, inl, inr}
use mathlib.Core.Option.{none}
use mathlib.Core.List.{List}
use Prim.Native.Nat.{ℕ, zero, suc, ◌<◌}
use native.Mathlib.Omega.{arith}
use lib.IntN.{ℤ}
use lib.Dec.{ltb, eqb}
use borrow.Author.Tests.{eqb-true, ne_eqb}
use Rattle.meaning.specs.Basics.{if_else}
use Rattle.meaning.specs.Rows.{natural_at, kind_at}
use Rattle.meaning.specs.Declarations.{declarations, Variable, Channel, no_variable, no_channel, sum_below, is_variable, is_channel, cells_at, elements_at, host_channels_at, capacity_at, variable_at, channel_at, source_at, sink_at}
use Rattle.meaning.specs.Faults.{WithinLimits}
use Rattle.meaning.specs.Answers.{check}
use Rattle.meaning.proofs.AnswerLaws.{accepted}
use Rattle.meaning.proofs.OneTreeLaw.{declared}
use Rattle.machine.specs.Held.{strip_start}
use Rattle.machine.proofs.Declared.{strip-start}
use Rattle.base_layout.specs.declared.Name.{Name}
use Rattle.base_layout.specs.declared.Sums.{Sums}
use Rattle.base_layout.specs.Names.{sums_below, DeclarationReached, no_name, variable_name, inner_name, source_name, sink_name, name_at}
use Rattle.run_code.specs.declared.Row.{Row}
use Rattle.run_code.specs.Prepared.{variable_row, channel_row, strip_of, declared_row, row_at}
use Rattle.run_code.proofs.RowKinds.{declarations-few, row-of-kind, kind-in}
use Rattle.run_preparing.specs.Notes.{named_row}

module _ (rows : List ℤ) (r : ℕ) where
  -- by whether it declares a variable, whether a channel, and the role
  abbrev name_by : Bool → Bool → ℕ → Name
  name_by v t role = if_else v (variable_name rows r) (if_else (t && eqb role 0) (inner_name rows r) (if_else (t && eqb role 1) (source_name rows r) (if_else (t && eqb role 2) (sink_name rows r) no_name)))

  abbrev variable_by : Bool → Variable
  variable_by v = if_else v (record { first = sum_below (cells_at rows) r; size = cells_at rows r }) no_variable

  abbrev channel_by : ℕ → Bool → ℕ → Channel
  channel_by own t role =
      if_else ((t && eqb role 0) || (t && eqb role own))
      (record { first = sum_below (elements_at rows) r; size = elements_at rows r; host = t && eqb role own; number = sum_below (host_channels_at own rows) r; capacity = capacity_at rows r }) no_channel

  abbrev declared_by : Bool → Bool → ℕ → Row
  declared_by v t role =
      if_else v (variable_row (variable_by v))
      (if_else (t && eqb role 2) (channel_row (channel_by 2 t role) (if_else (channel_by 2 t role).host (strip_start rows (channel_by 2 t role).number) 0))
      (channel_row (channel_by 1 t role) 0))

  no-capacity : (is_channel rows r && eqb (natural_at rows r 2) 2) ≡ false → capacity_at rows r ≡ 0
  unfolding capacity_at
  no-capacity e = ap (λ (t : Bool). if_else t (natural_at rows r 3) 0) e

  -- no row is a variable and a channel
  one-sort : is_variable rows r ≡ true → is_channel rows r ≡ false
  one-sort e = go (ltb r (declarations rows)) (kind_at rows r) e
    where
      go : (d : Bool) (k : ℕ) → (d && eqb k 1) ≡ true → (d && eqb k 2) ≡ false
      go false k e = refl
      go true k e = ap (λ (k : ℕ). eqb k 2) (eqb-true k 1 e)

  -- the declaration that a name stands for
  named-is : declared_row rows r ≡ named_row (name_at rows r) (sum_below (capacity_at rows) r)
  unfolding declared_row name_at variable_at source_at sink_at channel_at strip_of
  named-is = go (is_variable rows r) (is_channel rows r) (natural_at rows r 2) no-capacity (strip-start rows r)
    where
      go : (v t : Bool) (role : ℕ) → ((t && eqb role 2) ≡ false → capacity_at rows r ≡ 0) → ((t && eqb role 2) ≡ true → strip_start rows (sum_below (host_channels_at 2 rows) r) ≡ sum_below (capacity_at rows) r)
          → declared_by v t role ≡ named_row (name_by v t role) (sum_below (capacity_at rows) r)
      go true t role y z = refl
      go false false role y z = refl
      go false true zero y z = let e = y refl in cc
      go false true (suc zero) y z = let e = y refl in cc
      go false true (suc (suc zero)) y z = let e = z refl in cc
      go false true (suc (suc (suc k))) y z = simp (ne_eqb (suc (suc (suc k))) 0 (λ e. omega arith), ne_eqb (suc (suc (suc k))) 1 (λ e. omega arith), ne_eqb (suc (suc (suc k))) 2 (λ e. omega arith))

  -- its capacity
  pub name-capacity : (name_at rows r).capacity ≡ capacity_at rows r
  unfolding name_at
  name-capacity = go (is_variable rows r) (is_channel rows r) (natural_at rows r 2) one-sort no-capacity
    where
      go : (v t : Bool) (role : ℕ) → (v ≡ true → t ≡ false) → ((t && eqb role 2) ≡ false → capacity_at rows r ≡ 0) → (name_by v t role).capacity ≡ capacity_at rows r
      go true true role x y = absurd (false≢true (sym (x refl)))
      go true false role x y = sym (y refl)
      go false false role x y = sym (y refl)
      go false true zero x y = sym (y refl)
      go false true (suc zero) x y = sym (y refl)
      go false true (suc (suc zero)) x y = refl
      go false true (suc (suc (suc k))) x y =
          simp (ne_eqb (suc (suc (suc k))) 0 (λ e. omega arith), ne_eqb (suc (suc (suc k))) 1 (λ e. omega arith), ne_eqb (suc (suc (suc k))) 2 (λ e. omega arith)) (sym (y (ne_eqb (suc (suc (suc k))) 2 (λ e. omega arith))))

  module _ (d : r < declarations rows) where
    -- a declaration's row
    pub declared-row : row_at rows r ≡ named_row (name_at rows r) (sum_below (capacity_at rows) r)
    declared-row = go (declared rows r d) ∙ named-is
      where
        go : (kind_at rows r ≡ 1) ⊎ (kind_at rows r ≡ 2) → row_at rows r ≡ declared_row rows r
        go (inl e) = row-of-kind rows r 1 (kind-in rows r 1 (omega (arith, declarations-few rows)) e)
        go (inr e) = row-of-kind rows r 2 (kind-in rows r 2 (omega (arith, declarations-few rows)) e)

    module _ (ok : check rows ≡ none) where
      -- what its name is found from
      pub reached : {s : Sums} → s ≡ sums_below rows r → DeclarationReached rows r s
      reached e = record { declared = d; present = omega (arith, declarations-few rows); limits = ((accepted rows).0 ok).3 r d; sums = e }

      -- host channels are few
      pub number_small : (name_at rows r).number < 65535
      unfolding name_at WithinLimits sum_below
      number_small = let w = ((accepted rows).0 ok).3 r d in go (is_variable rows r) (is_channel rows r) (natural_at rows r 2) (omega (arith, w.2)) (omega (arith, w.3))
        where
          go : (v t : Bool) (role : ℕ) → sum_below (host_channels_at 1 rows) r < 65535 → sum_below (host_channels_at 2 rows) r < 65535 → (name_by v t role).number < 65535
          go true t role x y = omega arith
          go false false role x y = omega arith
          go false true zero x y = omega arith
          go false true (suc zero) x y = x
          go false true (suc (suc zero)) x y = y
          go false true (suc (suc (suc k))) x y =
              simp (ne_eqb (suc (suc (suc k))) 0 (λ e. omega arith), ne_eqb (suc (suc (suc k))) 1 (λ e. omega arith), ne_eqb (suc (suc (suc k))) 2 (λ e. omega arith)) (omega arith)
