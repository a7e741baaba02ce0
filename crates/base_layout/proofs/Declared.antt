-- What a declaration declares, by its kind and role.
use mathlib.Core.Path.{◌≡◌, ap}
use mathlib.Core.Bool.{Bool, true, false, ◌&&◌}
use mathlib.Core.Logic.{⊎_elim}
use mathlib.Core.List.{List}
use Prim.Native.Nat.{ℕ, ◌<◌}
use lib.IntN.{ℤ}
use lib.Dec.{eqb}
use Rattle.meaning.specs.Basics.{if_else}
use borrow.Author.Tests.{lt-ltb, eq-eqb, ne_eqb}
use Rattle.meaning.specs.Rows.{natural_at, kind_at}
use Rattle.meaning.specs.Declarations.{declarations, is_variable, is_channel, has_role, cells_at, elements_at, host_channels_at, capacity_at}
use Rattle.meaning.proofs.OneTreeLaw.{declared}

-- a declaration that is no variable is a channel
module _ (rows : List ℤ) (r : ℕ) (d : r < declarations rows) where
  pub is-variable : kind_at rows r ≡ 1 → is_variable rows r ≡ true
  is-variable e = simp (lt-ltb _ _ d, eq-eqb _ _ e)

  pub no-variable : (kind_at rows r ≡ 1 → ⊥) → is_variable rows r ≡ false
  no-variable p = simp (lt-ltb _ _ d, ne_eqb _ _ p)

  pub no-channel : kind_at rows r ≡ 1 → is_channel rows r ≡ false
  no-channel e = simp (lt-ltb _ _ d, e)

  pub is-channel : (kind_at rows r ≡ 1 → ⊥) → is_channel rows r ≡ true
  is-channel p = ⊎_elim (λ e. absurd (p e)) second (declared rows r d)
    where
      second : kind_at rows r ≡ 2 → is_channel rows r ≡ true
      second e = simp (lt-ltb _ _ d, eq-eqb _ _ e)

  module _ (e : kind_at rows r ≡ 1) where
    pub variable-cells : cells_at rows r ≡ natural_at rows r 1
    unfolding cells_at
    variable-cells = ap (λ (t : Bool). if_else t (natural_at rows r 1) 0) (is-variable e)

    pub variable-elements : elements_at rows r ≡ 0
    unfolding elements_at
    variable-elements = ap (λ (t : Bool). if_else t (natural_at rows r 1) 0) (no-channel e)

    pub variable-host-channels : (role : ℕ) → host_channels_at role rows r ≡ 0
    unfolding host_channels_at
    variable-host-channels role = ap (λ (t : Bool). if_else (t && eqb (natural_at rows r 2) role) 1 0) (no-channel e)

  module _ (p : kind_at rows r ≡ 1 → ⊥) where
    pub channel-cells : cells_at rows r ≡ 0
    unfolding cells_at
    channel-cells = ap (λ (t : Bool). if_else t (natural_at rows r 1) 0) (no-variable p)

    pub channel-elements : elements_at rows r ≡ natural_at rows r 1
    unfolding elements_at
    channel-elements = ap (λ (t : Bool). if_else t (natural_at rows r 1) 0) (is-channel p)

    pub channel-role : (role : ℕ) → has_role role rows r ≡ eqb (natural_at rows r 2) role
    channel-role role = ap (λ (t : Bool). t && eqb (natural_at rows r 2) role) (is-channel p)

    pub channel-host-channels : (role : ℕ) → host_channels_at role rows r ≡ if_else (eqb (natural_at rows r 2) role) 1 0
    unfolding host_channels_at
    channel-host-channels role = ap (λ (t : Bool). if_else t 1 0) (channel-role role)

    pub channel-capacity : capacity_at rows r ≡ if_else (eqb (natural_at rows r 2) 2) (natural_at rows r 3) 0
    unfolding capacity_at
    channel-capacity = ap (λ (t : Bool). if_else t (natural_at rows r 3) 0) (channel-role 2)
