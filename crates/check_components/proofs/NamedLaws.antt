-- The first number and the size of what a row's field a names, as the layout gives them.
use mathlib.Core.Path.{◌≡◌, ap, ◌∙◌}
use mathlib.Core.List.{List}
use Prim.Native.Nat.{ℕ}
use lib.IntN.{ℤ}
use Rattle.meaning.specs.Rows.{natural_at}
use Rattle.meaning.specs.Declarations as declared
use Rattle.meaning.specs.Declarations.{variable_at, source_at, sink_at}
use Rattle.base_layout.specs.Names.{Named, variable_in, channel_in, extent_of, channel_of}
use Rattle.base_layout.specs.declared.Sort.TheVariants.{Source, Sink}
use Rattle.base_layout.specs.declared.Name.{Name}
use Rattle.base_layout.specs.declared.Extent.{Extent}
use Rattle.base_layout.specs.declared.Channel.{Channel}

module _ (rows : List ℤ) (names : List Name) (named : Named rows names) (r : ℕ) {a : ℕ} (e : a ≡ natural_at rows r 1) where
  pub variable-named : {v : Extent} → v ≡ extent_of (variable_in names a) → (v.first ≡ (variable_at rows (natural_at rows r 1)).first) × (v.size ≡ (variable_at rows (natural_at rows r 1)).size)
  variable-named p =
      let q = named.variables a ∙ ap (variable_at rows) e in
      (ap (λ (v : Extent). v.first) p ∙ ap (λ (v : declared.Variable). v.first) q, ap (λ (v : Extent). v.size) p ∙ ap (λ (v : declared.Variable). v.size) q)

  pub source-named : {v : Channel} → v ≡ channel_of (channel_in names Source a) → (v.first ≡ (source_at rows (natural_at rows r 1)).first) × (v.size ≡ (source_at rows (natural_at rows r 1)).size)
  source-named p = (
    ap (λ (v : Channel). v.first) p ∙ ap (λ (v : declared.Channel). v.first) (named.sources a) ∙ ap (λ (n : ℕ). (source_at rows n).first) e,
    ap (λ (v : Channel). v.size) p ∙ ap (λ (v : declared.Channel). v.size) (named.sources a) ∙ ap (λ (n : ℕ). (source_at rows n).size) e,
  )

  pub sink-named : {v : Channel} → v ≡ channel_of (channel_in names Sink a) → (v.first ≡ (sink_at rows (natural_at rows r 1)).first) × (v.size ≡ (sink_at rows (natural_at rows r 1)).size)
  sink-named p = (
    ap (λ (v : Channel). v.first) p ∙ ap (λ (v : declared.Channel). v.first) (named.sinks a) ∙ ap (λ (n : ℕ). (sink_at rows n).first) e,
    ap (λ (v : Channel). v.size) p ∙ ap (λ (v : declared.Channel). v.size) (named.sinks a) ∙ ap (λ (n : ℕ). (sink_at rows n).size) e,
  )
