-- A list that holds the names of a table's declarations, and then no names, stands for what its rows declare.
use mathlib.Core.Path.{◌≡◌, refl, sym, ap, ◌∙◌}
use mathlib.Core.Bool.{Bool, true, false, ◌&&◌, ◌||◌, false≢true}
use mathlib.Core.List.{List}
use Prim.Native.Nat.{ℕ, zero, suc, ◌<◌}
use native.Mathlib.Omega.{arith}
use native.Mathlib.Decide.{dec_lt}
use lib.IntN.{ℤ}
use lib.ListN.{get_or, get_or-eq_default}
use lib.Dec.{ltb, eqb}
use Rattle.meaning.specs.Basics.{if_else}
use borrow.Author.Tests.{ne_eqb, eqb-true}
use Rattle.meaning.specs.Rows.{natural_at, kind_at}
use Rattle.meaning.specs.Declarations as declared
use Rattle.meaning.specs.Declarations.{declarations, no_variable, no_channel, sum_below, is_variable, is_channel, cells_at, elements_at, host_channels_at, capacity_at, variable_at, channel_at, source_at, sink_at}
use Rattle.base_layout.specs.declared.Name.{Name}
use Rattle.base_layout.specs.declared.Sort.TheVariants.{Source, Sink}
use Rattle.base_layout.specs.Names.{variable_name, inner_name, source_name, sink_name, name_at, no_name, names_of, name_in, named_variable, named_channel, host_number, Named}
use Rattle.base_layout.proofs.NameLists.{Begins, late-name, names-length, name-among}

module _ (rows : List ℤ) (a : ℕ) where
  -- what a row names, by whether it declares a variable, whether a channel, and the role
  abbrev name_by : Bool → Bool → ℕ → Name
  name_by v t role = if_else v (variable_name rows a) (if_else (t && eqb role 0) (inner_name rows a) (if_else (t && eqb role 1) (source_name rows a) (if_else (t && eqb role 2) (sink_name rows a) no_name)))

  -- the channel that it declares, where its own role or role 0 may be named
  abbrev channel_with : ℕ → Bool → ℕ → declared.Channel
  channel_with capacity host port = record { first = sum_below (elements_at rows) a; size = elements_at rows a; host = host; number = port; capacity = capacity }

  abbrev channel_by : ℕ → Bool → ℕ → declared.Channel
  channel_by own t role = if_else ((t && eqb role 0) || (t && eqb role own)) (channel_with (capacity_at rows a) (t && eqb role own) (sum_below (host_channels_at own rows) a)) no_channel

  no-capacity : (is_channel rows a && eqb (natural_at rows a 2) 2) ≡ false → capacity_at rows a ≡ 0
  unfolding capacity_at
  no-capacity e = ap (λ (t : Bool). if_else t (natural_at rows a 3) 0) e

  -- no row is a variable and a channel
  one-sort : is_variable rows a ≡ true → is_channel rows a ≡ false
  one-sort e = go (ltb a (declarations rows)) (kind_at rows a) e
    where
      go : (d : Bool) (k : ℕ) → (d && eqb k 1) ≡ true → (d && eqb k 2) ≡ false
      go false k e = refl
      go true k e = ap (λ (k : ℕ). eqb k 2) (eqb-true k 1 e)

  -- what a declaration names is what it declares
  variable-declared : named_variable (name_at rows a) ≡ variable_at rows a
  unfolding name_at variable_at
  variable-declared = go (is_variable rows a) (is_channel rows a) (natural_at rows a 2)
    where
      go : (v t : Bool) (role : ℕ) → named_variable (name_by v t role) ≡ if_else v (record { first = sum_below (cells_at rows) a; size = cells_at rows a }) no_variable
      go true t role = refl
      go false false role = refl
      go false true zero = refl
      go false true (suc zero) = refl
      go false true (suc (suc zero)) = refl
      go false true (suc (suc (suc k))) = simp (ne_eqb (suc (suc (suc k))) 0 (λ e. omega arith), ne_eqb (suc (suc (suc k))) 1 (λ e. omega arith), ne_eqb (suc (suc (suc k))) 2 (λ e. omega arith))

  source-declared : named_channel Source (name_at rows a) ≡ host_number (source_at rows a)
  unfolding name_at source_at channel_at
  source-declared = go (is_variable rows a) (is_channel rows a) (natural_at rows a 2) one-sort no-capacity
    where
      go : (v t : Bool) (role : ℕ) → (v ≡ true → t ≡ false) → ((t && eqb role 2) ≡ false → capacity_at rows a ≡ 0) → named_channel Source (name_by v t role) ≡ host_number (channel_by 1 t role)
      go true true role x y = absurd (false≢true (sym (x refl)))
      go true false role x y = refl
      go false false role x y = refl
      go false true zero x y = ap (λ (c : ℕ). channel_with c false 0) (sym (y refl))
      go false true (suc zero) x y = ap (λ (c : ℕ). channel_with c true (sum_below (host_channels_at 1 rows) a)) (sym (y refl))
      go false true (suc (suc zero)) x y = refl
      go false true (suc (suc (suc k))) x y = simp (ne_eqb (suc (suc (suc k))) 0 (λ e. omega arith), ne_eqb (suc (suc (suc k))) 1 (λ e. omega arith), ne_eqb (suc (suc (suc k))) 2 (λ e. omega arith))

  sink-declared : named_channel Sink (name_at rows a) ≡ host_number (sink_at rows a)
  unfolding name_at sink_at channel_at
  sink-declared = go (is_variable rows a) (is_channel rows a) (natural_at rows a 2) one-sort no-capacity
    where
      go : (v t : Bool) (role : ℕ) → (v ≡ true → t ≡ false) → ((t && eqb role 2) ≡ false → capacity_at rows a ≡ 0) → named_channel Sink (name_by v t role) ≡ host_number (channel_by 2 t role)
      go true true role x y = absurd (false≢true (sym (x refl)))
      go true false role x y = refl
      go false false role x y = refl
      go false true zero x y = ap (λ (c : ℕ). channel_with c false 0) (sym (y refl))
      go false true (suc zero) x y = refl
      go false true (suc (suc zero)) x y = refl
      go false true (suc (suc (suc k))) x y = simp (ne_eqb (suc (suc (suc k))) 0 (λ e. omega arith), ne_eqb (suc (suc (suc k))) 1 (λ e. omega arith), ne_eqb (suc (suc (suc k))) 2 (λ e. omega arith))

-- what a row names is what stands in the list
name-there : (rows : List ℤ) (names : List Name) → Begins names (names_of rows (declarations rows)) → (a : ℕ) → name_in names a ≡ name_at rows a
name-there rows names begins a = begins a ∙ go (dec_lt a (declarations rows))
  where
    go : Dec (a < declarations rows) → get_or (names_of rows (declarations rows)) a no_name ≡ name_at rows a
    go (yes h) = name-among rows (declarations rows) a h
    go (no h) = get_or-eq_default (names_of rows (declarations rows)) no_name (omega (arith, names-length rows (declarations rows))) ∙ sym (late-name rows a (omega arith))

pub named : (rows : List ℤ) (names : List Name) → Begins names (names_of rows (declarations rows)) → Named rows names
named rows names begins = record {
  variables = λ a. ap named_variable (name-there rows names begins a) ∙ variable-declared rows a;
  sources = λ a. ap (named_channel Source) (name-there rows names begins a) ∙ source-declared rows a;
  sinks = λ a. ap (named_channel Sink) (name-there rows names begins a) ∙ sink-declared rows a;
}
