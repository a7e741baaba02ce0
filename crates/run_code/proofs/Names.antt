-- What number 1 of a row is in an accepted table: the row of a declaration that it names, or an operator; and the prepared rows of declarations.
use mathlib.Core.Path.{◌≡◌, refl, ap, ◌∙◌}
use mathlib.Core.Logic.{◌⊎◌, inl, inr}
use mathlib.Core.Option.{none, some}
use mathlib.Core.List.Memᴰ
use mathlib.Core.List.{List, [], ◌∷◌, Memᴰ}
use Prim.Native.Nat.{ℕ, ◌<◌, ◌≤◌}
use native.Mathlib.Omega.{arith}
use lib.IntN.{ℤ, pos, negsuc}
use lib.Signed.{◌≤ℤ◌}
use lib.Dec.{leb→le}
use borrow.Author.Tests.{lt-ltb}
use Rattle.meaning.specs.Limits.{min_number}
use Rattle.meaning.specs.Rows.{row_count, field_at, natural_of, natural_at, kind_at}
use Rattle.meaning.specs.Kinds.{Shape, shape_of, shapes, shape_in}
use Rattle.meaning.specs.Faults.{MayHold}
use Rattle.meaning.specs.Declarations.{declarations, channel_at, variable_at, source_at, sink_at}
use Rattle.meaning.specs.Answers.{check}
use Rattle.meaning.proofs.FaultLaws.{holds-a}
use Rattle.meaning.proofs.AnswerLaws.{accepted}
use Rattle.run_code.specs.Prepared.{variable_row, channel_row, strip_of, declared_row, row_at}
use Rattle.run_code.proofs.RowKinds.{declarations-few, row-of-kind, kind-in}

-- one of two
one_of : {k a b : ℕ} → Memᴰ k (a ∷ b ∷ []) → (k ≡ a) ⊎ (k ≡ b)
one_of (Memᴰ.head e) = inl e
one_of (Memᴰ.tail (Memᴰ.head e)) = inr e
one_of (Memᴰ.tail (Memᴰ.tail m)) = absurd (Memᴰ.not-nil m)

-- ---- the names of an accepted table

-- a declares a variable, a channel of one of two roles
abbrev pub DeclaresVariable : List ℤ → ℕ → Type 0
DeclaresVariable rows a = (a < declarations rows) × (kind_at rows a ≡ 1)

abbrev pub DeclaresChannel : List ℤ → ℕ → ℕ → Type 0
DeclaresChannel rows role a = (a < declarations rows) × (kind_at rows a ≡ 2) × ((natural_at rows a 2 ≡ 0) ⊎ (natural_at rows a 2 ≡ role))

natural-most : (z : ℤ) (n : ℕ) → pos 0 ≤ℤ z → z ≤ℤ pos n → natural_of z ≤ n
natural-most (pos m) n h k = leb→le m n k.le
natural-most (negsuc m) n h k = absurd h.le

module _ (rows : List ℤ) (ok : check rows ≡ none) (r : ℕ) (l : r < row_count rows) where
  held : (k : ℕ) (s : Shape) → shape_of k ≡ some s → kind_at rows r ≡ k → MayHold rows r s.a (field_at rows r 1)
  held k s e i = holds-a rows r s (((accepted rows).0 ok).1 r l) (ap shape_of i ∙ e)

  pub literal-least : kind_at rows r ≡ 10 → min_number ≤ℤ field_at rows r 1
  unfolding shape_of shapes shape_in MayHold
  literal-least i = (held 10 _ refl i).0

  pub element-names : kind_at rows r ≡ 11 → DeclaresVariable rows (natural_at rows r 1)
  unfolding shape_of shapes shape_in MayHold
  element-names i = let (q, (e, d, k)) = held 11 _ refl i in rw (ap natural_of e) (d, k)

  pub assignment-names : kind_at rows r ≡ 22 → DeclaresVariable rows (natural_at rows r 1)
  unfolding shape_of shapes shape_in MayHold
  assignment-names i = let (q, (e, d, k)) = held 22 _ refl i in rw (ap natural_of e) (d, k)

  pub block-names : kind_at rows r ≡ 35 → DeclaresVariable rows (natural_at rows r 1)
  unfolding shape_of shapes shape_in MayHold
  block-names i = let (q, (e, d, k)) = held 35 _ refl i in rw (ap natural_of e) (d, k)

  pub input-names : kind_at rows r ≡ 23 → DeclaresChannel rows 1 (natural_at rows r 1)
  unfolding shape_of shapes shape_in MayHold
  input-names i = let (q, (e, d, k), (role, m, f)) = held 23 _ refl i in rw (ap natural_of e, f) (d, k, one_of m)

  pub output-names : kind_at rows r ≡ 24 → DeclaresChannel rows 2 (natural_at rows r 1)
  unfolding shape_of shapes shape_in MayHold
  output-names i = let (q, (e, d, k), (role, m, f)) = held 24 _ refl i in rw (ap natural_of e, f) (d, k, one_of m)

  pub monadic-number : kind_at rows r ≡ 12 → natural_at rows r 1 ≤ 2
  unfolding shape_of shapes shape_in MayHold
  monadic-number i = let ((h, k), o) = held 12 _ refl i in natural-most (field_at rows r 1) 2 h k

  pub dyadic-number : kind_at rows r ≡ 13 → natural_at rows r 1 ≤ 15
  unfolding shape_of shapes shape_in MayHold
  dyadic-number i = let (h, k) = held 13 _ refl i in natural-most (field_at rows r 1) 15 h k

-- ---- the rows of declarations

module _ (rows : List ℤ) (a : ℕ) where
  pub variable-row : DeclaresVariable rows a → row_at rows a ≡ variable_row (variable_at rows a)
  unfolding declared_row
  variable-row (d, k) = row-of-kind rows a 1 (kind-in rows a 1 (omega (arith, declarations-few rows)) k) ∙ rw (lt-ltb _ _ d, k)

  channel-row : a < declarations rows → kind_at rows a ≡ 2 → row_at rows a ≡ declared_row rows a
  channel-row d k = row-of-kind rows a 2 (kind-in rows a 2 (omega (arith, declarations-few rows)) k)

  -- as an input names it, as an output does
  pub source_row : DeclaresChannel rows 1 a → row_at rows a ≡ channel_row (source_at rows a) 0
  unfolding declared_row
  source_row (d, k, inl e) = channel-row d k ∙ rw (lt-ltb _ _ d, k, e)
  source_row (d, k, inr e) = channel-row d k ∙ rw (lt-ltb _ _ d, k, e)

  pub sink-row : DeclaresChannel rows 2 a → row_at rows a ≡ channel_row (sink_at rows a) (strip_of rows (sink_at rows a))
  unfolding declared_row strip_of source_at sink_at channel_at
  sink-row (d, k, inl e) = channel-row d k ∙ rw (lt-ltb _ _ d, k, e)
  sink-row (d, k, inr e) = channel-row d k ∙ rw (lt-ltb _ _ d, k, e)
