-- The cell that an element or an assignment means, from the numbers of its prepared row and of the declaration that it names.
use mathlib.Core.Path.{◌≡◌, refl, sym, ap, ◌∙◌}
use mathlib.Core.Bool.{Bool, true, false}
use mathlib.Core.List.{List}
use Prim.Native.Nat.{ℕ, ◌+◌, ◌≤◌}
use native.Mathlib.Omega.{arith}
use lib.IntN.{ℤ, pos, negsuc}
use lib.Dec.{ltb, eqb}
use borrow.Author.Tests.{eqb-true}
use Rattle.meaning.specs.declared.Value.{Value}
use Rattle.meaning.specs.declared.Value.TheVariants.{Number}
use Rattle.meaning.specs.declared.Index.{Index}
use Rattle.meaning.specs.declared.Index.TheVariants.{At, Fails}
use Rattle.meaning.specs.Basics.{if_else}
use Rattle.meaning.specs.Rows.{field_at, natural_at}
use Rattle.meaning.specs.Declarations.{Variable, variable_at}
use Rattle.meaning.specs.Tree.{Content, of_element, content_at}
use Rattle.meaning.specs.Values.{Message, in_array, value}
use Rattle.base_layout.proofs.Parts.{part-of-kind}
use Rattle.run_code.specs.declared.Row.{Row}
use Rattle.run_code.specs.Prepared.{row, fixed, kind_in, referred_row, subscripted_row, row_of_kind, row_at, Prepared, place_at, first_of, size_of}
use Rattle.run_code.proofs.Entries.{first-at, second_at, what-at}
use Rattle.run_code.proofs.RowKinds.{kind_from, in-table}
use Rattle.run_code.proofs.Referred.{referred-part}
use Rattle.run_code.proofs.Codes.{few, here, kind-is, row_is, element-first, element-size, assigned-first, assigned-size}

module _ (rows : List ℤ) (cells : List Message) where
  abbrev pub at : ℕ → Value
  at b = value cells (content_at rows b).expr

  -- the cell, from numbers of a row and of its array
  abbrev pub index_by : ℕ → ℕ → ℕ → ℕ → ℕ → Index
  index_by k a b first size = if_else (eqb k 2) (At a) (if_else (eqb k 4) (in_array first size (at b)) (Fails 2))

  abbrev element_by : Variable → Row → Index
  element_by v e = index_by e.what e.first e.second v.first v.size

  fixed-index : (v : Variable) (x : ℤ) → in_array v.first v.size (Number x) ≡ element_by v (fixed (in_array v.first v.size (Number x)))
  unfolding in_array
  fixed-index v (negsuc i) = refl
  fixed-index v (pos i) = go (ltb i v.size)
    where
      go : (t : Bool) → if_else t (At (v.first + i)) (Fails 2) ≡ element_by v (fixed (if_else t (At (v.first + i)) (Fails 2)))
      go true = refl
      go false = refl

  module _ (a b : ℕ) where
    abbrev variable : Variable
    variable = variable_at rows a

    abbrev cell_row : Row
    cell_row = fixed (in_array variable.first variable.size (Number (field_at rows b 1)))

    -- a literal subscript is turned into its cell
    element-index : in_array variable.first variable.size (at b) ≡ element_by variable (subscripted_row rows a b)
    unfolding subscripted_row value
    element-index = go (eqb (kind_in rows b) 10) refl
      where
        go : (t : Bool) → eqb (kind_in rows b) 10 ≡ t → in_array variable.first variable.size (at b) ≡ element_by variable (if_else t cell_row (row 4 a b 0))
        go false q = refl
        go true q =
            let (l, e) = in-table rows b 10 (eqb-true (kind_in rows b) 10 q) (λ z. omega arith) in
            ap (λ (c : Content). in_array variable.first variable.size (value cells c.expr)) (part-of-kind rows b 10 l e) ∙ fixed-index variable (field_at rows b 1)

  -- the array counts for an element only
  of_array : (k a b : ℕ) {f n g m : ℕ} → (k ≡ 4 → (f ≡ g) × (n ≡ m)) → index_by k a b f n ≡ index_by k a b g m
  of_array k a b {f} {n} {g} {m} h = go (eqb k 4) refl
    where
      go : (t : Bool) → eqb k 4 ≡ t → if_else (eqb k 2) (At a) (if_else t (in_array f n (at b)) (Fails 2)) ≡ if_else (eqb k 2) (At a) (if_else t (in_array g m (at b)) (Fails 2))
      go true q = let (x, y) = h (eqb-true k 4 q) in rw (x, y)
      go false q = refl

module _ {rows : List ℤ} {code : List ℕ} (p : Prepared rows code) (r : ℕ) (h : r ≤ 1024) where
  abbrev named : Variable
  named = variable_at rows (natural_at rows r 1)

  abbrev element : Row
  element = subscripted_row rows (natural_at rows r 1) (referred_row rows r 2)

  -- an element
  module _ (n : ℕ) (e : place_at code r 0 ≡ n) (i : kind_from n ≡ 11) where
    present : kind_from n ≡ 0 → ⊥
    present z = let q : ◌≡◌ {A = ℕ} 11 0 = sym i ∙ z in omega arith

    pub element-content : content_at rows r ≡ of_element named (content_at rows (referred_row rows r 2)).expr
    element-content = part-of-kind rows r 11 (here p r h n e present) (kind-is p r h n e present ∙ i) ∙ ap (λ (c : Content). of_element named c.expr) (referred-part rows (few p) r 2)

    pub element-row : row_at rows r ≡ element
    element-row = row_is p r h n e present ∙ ap (row_of_kind rows r) i

    pub element-found : (cells : List Message)
        → in_array named.first named.size (at rows cells (referred_row rows r 2)) ≡ index_by rows cells n (place_at code r 1) (place_at code r 2) (first_of code r) (size_of code r)
    element-found cells =
        element-index rows cells (natural_at rows r 1) (referred_row rows r 2)
        ∙ ap (element_by rows cells named) (sym element-row)
        ∙ sym (rw (first-at p r h, second_at p r h) (ap (λ (k : ℕ). index_by rows cells k (row_at rows r).first (row_at rows r).second named.first named.size) (sym e ∙ what-at p r h)))
        ∙ of_array rows cells n (place_at code r 1) (place_at code r 2) (λ q. (sym (element-first p r h (e ∙ q)), sym (element-size p r h (e ∙ q))))

  -- an assignment
  pub assigned-found : (m : ℕ) → place_at code r 0 ≡ 44 + m → kind_from (44 + m) ≡ 22 → (cells : List Message)
      → in_array named.first named.size (at rows cells (referred_row rows r 2)) ≡ index_by rows cells m (place_at code r 1) (place_at code r 2) (first_of code r) (size_of code r)
  assigned-found m e i cells =
      let present : kind_from (44 + m) ≡ 0 → ⊥ = λ z. let q : ◌≡◌ {A = ℕ} 22 0 = sym i ∙ z in omega arith in
      let w = row_is p r h (44 + m) e present ∙ ap (row_of_kind rows r) i in
      let k : m ≡ element.what = let q : 44 + m ≡ 44 + element.what = sym e ∙ what-at p r h ∙ ap (λ (w : Row). w.what) w in omega arith in
      element-index rows cells (natural_at rows r 1) (referred_row rows r 2)
      ∙ sym (ap (λ (k : ℕ). index_by rows cells k (place_at code r 1) (place_at code r 2) named.first named.size) k ∙ rw (first-at p r h, second_at p r h, w))
      ∙ of_array rows cells m (place_at code r 1) (place_at code r 2) (λ q. let f : place_at code r 0 ≡ 48 = omega (arith, e, q) in (sym (assigned-first p r h f), sym (assigned-size p r h f)))
