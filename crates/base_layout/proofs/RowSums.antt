-- What a declaration adds to the sums, and what it names, by its kind and role; in a table within the limits each number fits.
use mathlib.Core.Path.{◌≡◌, refl, sym, ap, ◌∙◌}
use mathlib.Core.Bool.{Bool, true, false}
use mathlib.Core.List.{List}
use Prim.Native.Nat.{ℕ, suc, ◌+◌, ◌≤◌}
use native.Mathlib.Nat.{add-zero}
use native.Mathlib.Omega.{arith}
use lib.IntN.{ℤ}
use lib.Dec.{eqb}
use Rattle.meaning.specs.Basics.{if_else}
use borrow.Author.Tests.{eq-eqb, ne_eqb, eqb-true, eqb-false}
use Rattle.meaning.specs.Rows.{natural_at, kind_at}
use Rattle.meaning.specs.Declarations.{sum_below, cells_at, elements_at, host_channels_at}
use Rattle.meaning.specs.Faults.{WithinLimits}
use Rattle.base_layout.specs.declared.Sort.{Sort}
use Rattle.base_layout.specs.declared.Sort.TheVariants.{Nothing, Variable, Inner, Source, Sink}
use Rattle.base_layout.specs.declared.Name.{Name}
use Rattle.base_layout.specs.declared.Sums.{Sums}
use Rattle.base_layout.specs.Names.{sums_below, DeclarationReached, name_at}
use Rattle.base_layout.proofs.Declared as row

-- a sort and four numbers as a name, four as sums
abbrev pub name : Sort → ℕ → ℕ → ℕ → ℕ → Name
name sort first size port capacity = record { sort = sort; first = first; size = size; number = port; capacity = capacity }

abbrev pub sums : ℕ → ℕ → ℕ → ℕ → Sums
sums cells elements sources sinks = record { cells = cells; elements = elements; sources = sources; sinks = sinks }

same-sums : {a b c d a' b' c' d' : ℕ} → a ≡ a' → b ≡ b' → c ≡ c' → d ≡ d' → sums a b c d ≡ sums a' b' c' d'
same-sums p q r s = cc

plus_none : (f : ℕ → ℕ) (r : ℕ) → f r ≡ 0 → sum_below f r ≡ sum_below f (suc r)
unfolding sum_below
plus_none f r e = rw (e, add-zero)

plus-some : (f : ℕ → ℕ) (r n : ℕ) → f r ≡ n → sum_below f r + n ≡ sum_below f (suc r)
unfolding sum_below
plus-some f r n e = ap (λ (m : ℕ). sum_below f r + m) (sym e)

module _ (rows : List ℤ) (r : ℕ) (s : Sums) (k : DeclarationReached rows r s) where
  -- the sums with those of row r
  grown : {a b c d : ℕ} → a ≡ sum_below (cells_at rows) (suc r) → b ≡ sum_below (elements_at rows) (suc r) → c ≡ sum_below (host_channels_at 1 rows) (suc r) → d ≡ sum_below (host_channels_at 2 rows) (suc r)
      → sums a b c d ≡ sums_below rows (suc r)
  unfolding sums_below
  grown p q t u = same-sums p q t u

  pub cells_are : s.cells ≡ sum_below (cells_at rows) r
  unfolding sums_below
  cells_are = ap (λ (s : Sums). s.cells) k.sums

  pub elements-are : s.elements ≡ sum_below (elements_at rows) r
  unfolding sums_below
  elements-are = ap (λ (s : Sums). s.elements) k.sums

  pub sources-are : s.sources ≡ sum_below (host_channels_at 1 rows) r
  unfolding sums_below
  sources-are = ap (λ (s : Sums). s.sources) k.sums

  pub sinks-are : s.sinks ≡ sum_below (host_channels_at 2 rows) r
  unfolding sums_below
  sinks-are = ap (λ (s : Sums). s.sinks) k.sums

  pub sources-fit : s.sources ≤ 8
  unfolding WithinLimits sum_below
  sources-fit = omega (arith, sources-are, k.limits.2)

  pub sinks-fit : s.sinks ≤ 8
  unfolding WithinLimits sum_below
  sinks-fit = omega (arith, sinks-are, k.limits.3)

  module _ (e : kind_at rows r ≡ 1) where
    pub cells_fit : s.cells + natural_at rows r 1 ≤ 256
    unfolding WithinLimits sum_below
    cells_fit = omega (arith, cells_are, row.variable-cells rows r k.declared e, k.limits.0)

    pub with-variable : sums (s.cells + natural_at rows r 1) s.elements s.sources s.sinks ≡ sums_below rows (suc r)
    with-variable =
        grown
        (ap (λ (n : ℕ). n + natural_at rows r 1) cells_are ∙ plus-some (cells_at rows) r _ (row.variable-cells rows r k.declared e))
        (elements-are ∙ plus_none (elements_at rows) r (row.variable-elements rows r k.declared e))
        (sources-are ∙ plus_none (host_channels_at 1 rows) r (row.variable-host-channels rows r k.declared e 1))
        (sinks-are ∙ plus_none (host_channels_at 2 rows) r (row.variable-host-channels rows r k.declared e 2))

    pub variable-name : name Variable s.cells (natural_at rows r 1) 0 0 ≡ name_at rows r
    unfolding name_at
    variable-name = simp (row.is-variable rows r k.declared e, cells_are, row.variable-cells rows r k.declared e)

  module _ (p : kind_at rows r ≡ 1 → ⊥) where
    pub elements-fit : s.elements + natural_at rows r 1 ≤ 256
    unfolding WithinLimits sum_below
    elements-fit = omega (arith, elements-are, row.channel-elements rows r k.declared p, k.limits.1)

    channel-sums : {sources sinks : ℕ} → sources ≡ sum_below (host_channels_at 1 rows) (suc r) → sinks ≡ sum_below (host_channels_at 2 rows) (suc r)
        → sums s.cells (s.elements + natural_at rows r 1) sources sinks ≡ sums_below rows (suc r)
    channel-sums u v =
        grown
        (cells_are ∙ plus_none (cells_at rows) r (row.channel-cells rows r k.declared p))
        (ap (λ (n : ℕ). n + natural_at rows r 1) elements-are ∙ plus-some (elements_at rows) r _ (row.channel-elements rows r k.declared p))
        u
        v

    host-channels : (role : ℕ) {t : Bool} → eqb (natural_at rows r 2) role ≡ t → host_channels_at role rows r ≡ if_else t 1 0
    host-channels role h = row.channel-host-channels rows r k.declared p role ∙ ap (λ (t : Bool). if_else t 1 0) h

    pub with-source : natural_at rows r 2 ≡ 1 → sums s.cells (s.elements + natural_at rows r 1) (s.sources + 1) s.sinks ≡ sums_below rows (suc r)
    with-source h =
        channel-sums
        (ap (λ (n : ℕ). n + 1) sources-are ∙ plus-some (host_channels_at 1 rows) r 1 (host-channels 1 (eq-eqb _ _ h)))
        (sinks-are ∙ plus_none (host_channels_at 2 rows) r (host-channels 2 (ap (λ (n : ℕ). eqb n 2) h)))

    pub with-sink : natural_at rows r 2 ≡ 2 → sums s.cells (s.elements + natural_at rows r 1) s.sources (s.sinks + 1) ≡ sums_below rows (suc r)
    with-sink h =
        channel-sums
        (sources-are ∙ plus_none (host_channels_at 1 rows) r (host-channels 1 (ap (λ (n : ℕ). eqb n 1) h)))
        (ap (λ (n : ℕ). n + 1) sinks-are ∙ plus-some (host_channels_at 2 rows) r 1 (host-channels 2 (eq-eqb _ _ h)))

    pub with-inner : (natural_at rows r 2 ≡ 1 → ⊥) → (natural_at rows r 2 ≡ 2 → ⊥) → sums s.cells (s.elements + natural_at rows r 1) s.sources s.sinks ≡ sums_below rows (suc r)
    with-inner h g =
        channel-sums
        (sources-are ∙ plus_none (host_channels_at 1 rows) r (host-channels 1 (ne_eqb _ _ h)))
        (sinks-are ∙ plus_none (host_channels_at 2 rows) r (host-channels 2 (ne_eqb _ _ g)))

    pub capacity-fits : natural_at rows r 2 ≡ 2 → natural_at rows r 3 ≤ 1024
    unfolding WithinLimits sum_below
    capacity-fits h = omega (arith, row.channel-capacity rows r k.declared p ∙ ap (λ (t : Bool). if_else t (natural_at rows r 3) 0) (eq-eqb _ _ h), k.limits.4)

    pub inner_name : natural_at rows r 2 ≡ 0 → name Inner s.elements (natural_at rows r 1) 0 0 ≡ name_at rows r
    unfolding name_at
    inner_name h = simp (row.no-variable rows r k.declared p, row.is-channel rows r k.declared p, h, elements-are, row.channel-elements rows r k.declared p)

    pub source_name : natural_at rows r 2 ≡ 1 → name Source s.elements (natural_at rows r 1) s.sources 0 ≡ name_at rows r
    unfolding name_at
    source_name h = simp (row.no-variable rows r k.declared p, row.is-channel rows r k.declared p, h, elements-are, sources-are, row.channel-elements rows r k.declared p)

    pub sink-name : natural_at rows r 2 ≡ 2 → name Sink s.elements (natural_at rows r 1) s.sinks (natural_at rows r 3) ≡ name_at rows r
    unfolding name_at
    sink-name h = simp (row.no-variable rows r k.declared p, row.is-channel rows r k.declared p, row.channel-capacity rows r k.declared p, h, elements-are, sinks-are, row.channel-elements rows r k.declared p)

    pub no_name : (natural_at rows r 2 ≡ 0 → ⊥) → (natural_at rows r 2 ≡ 1 → ⊥) → (natural_at rows r 2 ≡ 2 → ⊥) → name Nothing 0 0 0 0 ≡ name_at rows r
    unfolding name_at
    no_name f g h = simp (row.no-variable rows r k.declared p, row.is-channel rows r k.declared p, ne_eqb _ 0 f, ne_eqb _ 1 g, ne_eqb _ 2 h)

  -- a size fits
  pub size_fits : natural_at rows r 1 ≤ 256
  size_fits = go (eqb (kind_at rows r) 1) refl
    where
      go : (t : Bool) → eqb (kind_at rows r) 1 ≡ t → natural_at rows r 1 ≤ 256
      go true e = omega (arith, cells_fit (eqb-true _ _ e))
      go false e = omega (arith, elements-fit (eqb-false _ _ e))
