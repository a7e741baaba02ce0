-- A row's part in settling, from what a prepared row is.
use mathlib.Core.Path.{◌≡◌, refl, sym, ap, ap₂, ◌∙◌}
use mathlib.Core.List.{List}
use Prim.Native.Nat.{ℕ, ◌<◌, ◌≤◌}
use native.Mathlib.Omega.{arith}
use lib.IntN.{ℤ}
use lib.ListN.{length}
use Rattle.meaning.specs.Rows.{row_count, field_at, natural_at, kind_at}
use Rattle.base_layout.proofs.RowNodes.{node_of}
use Rattle.run_parents.specs.Shapes.{higher_row, settling_shape}
use Rattle.run_parents.specs.declared.shape.Mode.{Mode}
use Rattle.run_parents.specs.declared.shape.Shape.{Shape}
use Rattle.run_parents.specs.declared.shape.Shape.TheVariants.{Ending, Single, Link}
use Rattle.run_parents.proofs.Standing.{told, operand-is}
use Rattle.run_code.specs.Prepared.{present_row, referred_row, row_of_kind, Prepared, place_at, shape_to, shape_in}
use Rattle.run_code.proofs.RowKinds.{kind_from}
use Rattle.run_code.proofs.Referred.{present-past}
use Rattle.run_code.proofs.Codes.{here, kind-is, first-is, second_is}

module _ (rows : List ℤ) (r : ℕ) where
  shape-of : (k : ℕ) → r < row_count rows → kind_at rows r ≡ k → shape_in rows r ≡ shape_to rows (settling_shape rows r (node_of k (field_at rows r 1) (natural_at rows r 1) (natural_at rows r 2) (natural_at rows r 3)))
  unfolding shape_in
  shape-of k l e = ap (shape_to rows) (sym (told rows r k l e))

  refers : (j : ℕ) → referred_row rows r j ≡ present_row rows (higher_row rows r (natural_at rows r j))
  refers j = ap (present_row rows) (operand-is rows r j refl)

  none-there : present_row rows (length rows) ≡ 1024
  none-there = present-past rows (length rows) (omega arith)

  module _ (l : r < row_count rows) where
    -- a process with no members, with those of a link, a WHILE or a block, a link
    leaf-shape : (k : ℕ) (m : Mode) → kind_at rows r ≡ k
        → shape_to rows (settling_shape rows r (node_of k (field_at rows r 1) (natural_at rows r 1) (natural_at rows r 2) (natural_at rows r 3))) ≡ Ending m (present_row rows (length rows)) → Ending m 1024 ≡ shape_in rows r
    leaf-shape k m e i = ap (Ending m) (sym none-there) ∙ sym i ∙ sym (shape-of k l e)

    inner-shape : (k : ℕ) (m : Mode) (a : ℕ) → kind_at rows r ≡ k → a ≡ referred_row rows r 1
        → shape_to rows (settling_shape rows r (node_of k (field_at rows r 1) (natural_at rows r 1) (natural_at rows r 2) (natural_at rows r 3))) ≡ Ending m (present_row rows (higher_row rows r (natural_at rows r 1)))
        → Ending m a ≡ shape_in rows r
    inner-shape k m a e q i = ap (Ending m) (q ∙ refers 1) ∙ sym i ∙ sym (shape-of k l e)

    single-shape : (k b : ℕ) → kind_at rows r ≡ k → b ≡ referred_row rows r 2
        → shape_to rows (settling_shape rows r (node_of k (field_at rows r 1) (natural_at rows r 1) (natural_at rows r 2) (natural_at rows r 3))) ≡ Single (present_row rows (higher_row rows r (natural_at rows r 2)))
        → Single b ≡ shape_in rows r
    single-shape k b e q i = ap Single (q ∙ refers 2) ∙ sym i ∙ sym (shape-of k l e)

    link-shape : (k a b : ℕ) → kind_at rows r ≡ k → a ≡ referred_row rows r 1 → b ≡ referred_row rows r 2
        → shape_to rows (settling_shape rows r (node_of k (field_at rows r 1) (natural_at rows r 1) (natural_at rows r 2) (natural_at rows r 3)))
        ≡ Link (present_row rows (higher_row rows r (natural_at rows r 1))) (present_row rows (higher_row rows r (natural_at rows r 2)))
        → Link a b ≡ shape_in rows r
    link-shape k a b e p q i = ap₂ Link (p ∙ refers 1) (q ∙ refers 2) ∙ sym i ∙ sym (shape-of k l e)

module _ {rows : List ℤ} {code : List ℕ} (p : Prepared rows code) (r : ℕ) (h : r ≤ 1024) where
  -- the shape of kind k, with these fields
  abbrev shape_by : ℕ → Shape
  shape_by k = shape_to rows (settling_shape rows r (node_of k (field_at rows r 1) (natural_at rows r 1) (natural_at rows r 2) (natural_at rows r 3)))

  module _ (n : ℕ) (e : place_at code r 0 ≡ n) (z : kind_from n ≡ 0 → ⊥) where
    pub by-leaf : (m : Mode) → shape_by (kind_from n) ≡ Ending m (present_row rows (length rows)) → Ending m 1024 ≡ shape_in rows r
    by-leaf m = leaf-shape rows r (here p r h n e z) (kind_from n) m (kind-is p r h n e z)

    pub by-inner : (m : Mode) {a : ℕ} → a ≡ place_at code r 1 → (row_of_kind rows r (kind_from n)).first ≡ referred_row rows r 1
        → shape_by (kind_from n) ≡ Ending m (present_row rows (higher_row rows r (natural_at rows r 1))) → Ending m a ≡ shape_in rows r
    by-inner m q i = inner-shape rows r (here p r h n e z) (kind_from n) m _ (kind-is p r h n e z) (q ∙ first-is p r h n e z ∙ i)

    pub by-link : {a b : ℕ} → a ≡ place_at code r 1 → b ≡ place_at code r 2 → (row_of_kind rows r (kind_from n)).first ≡ referred_row rows r 1 → (row_of_kind rows r (kind_from n)).second ≡ referred_row rows r 2
        → shape_by (kind_from n) ≡ Link (present_row rows (higher_row rows r (natural_at rows r 1))) (present_row rows (higher_row rows r (natural_at rows r 2))) → Link a b ≡ shape_in rows r
    by-link q s i j = link-shape rows r (here p r h n e z) (kind_from n) _ _ (kind-is p r h n e z) (q ∙ first-is p r h n e z ∙ i) (s ∙ second_is p r h n e z ∙ j)

    by-single : {b : ℕ} → b ≡ place_at code r 2 → (row_of_kind rows r (kind_from n)).second ≡ referred_row rows r 2 → shape_by (kind_from n) ≡ Single (present_row rows (higher_row rows r (natural_at rows r 2))) → Single b ≡ shape_in rows r
    by-single q i = single-shape rows r (here p r h n e z) (kind_from n) _ (kind-is p r h n e z) (q ∙ second_is p r h n e z ∙ i)

  pub by-while : place_at code r 0 ≡ 33 → {b : ℕ} → b ≡ place_at code r 2 → Single b ≡ shape_in rows r
  by-while e q = by-single 33 e (λ z. omega arith) q refl refl

  pub by-block : place_at code r 0 ≡ 35 → {b : ℕ} → b ≡ place_at code r 2 → Single b ≡ shape_in rows r
  by-block e q = by-single 35 e (λ z. omega arith) q refl refl
