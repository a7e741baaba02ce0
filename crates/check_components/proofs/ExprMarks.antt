-- What the expression, the target, the input or the output of a row counts for, from what its operands do.
use mathlib.Core.Path.{◌≡◌, refl, sym, ap, ap₂, ◌∙◌, subst}
use mathlib.Core.Bool.{Bool, true, false}
use mathlib.Core.List.{List, [], ◌++◌}
use Prim.Native.Nat.{ℕ, ◌<◌, ◌≤◌}
use native.Mathlib.Decide.{dec_lt}
use native.Mathlib.Omega.{arith}
use lib.IntN.{ℤ}
use lib.Dec.{eqb}
use borrow.Author.Tests.{eqb-true}
use Rattle.meaning.specs.Basics.{if_else}
use Rattle.meaning.specs.Rows.{row_count, field_at, natural_at, kind_at}
use Rattle.meaning.specs.Declarations.{variable_at, source_at, sink_at}
use Rattle.meaning.specs.Tree.{monadic, given, Content, operation, content_of, content_at}
use Rattle.meaning.specs.Usage.{numbers_from, constant, counts_for, stands_in}
use Rattle.base_layout.specs.Operands.{operand_at, GivenElements}
use Rattle.base_layout.proofs.Parts.{part-past, higher_content, part-of-kind}
use Rattle.base_layout.proofs.RowKinds.{each-kind, above-operand, by_kind}
use Rattle.base_sets.specs.Sets.{in_sort}
use Rattle.check_components.specs.Marks.{mark_expr, mark_target, mark_input, marks}
use Rattle.check_components.specs.Fields.{target_in, cells_in, input_in, output_in}
use Rattle.base_sets.proofs.SetLaws.{sort-append}

module _ (rows : List ℤ) (r : ℕ) where
  pub past-expr : row_count rows ≤ r → mark_expr (content_at rows r).expr ≡ []
  unfolding mark_expr stands_in
  past-expr h = ap (λ (p : Content). mark_expr p.expr) (part-past rows r h)

  pub past-target : row_count rows ≤ r → mark_target (content_at rows r).target ≡ []
  unfolding mark_target mark_expr stands_in constant counts_for numbers_from
  past-target h = ap (λ (p : Content). mark_target p.target) (part-past rows r h)

  -- by its fields
  pub cells_are : {f n b : ℕ} → f ≡ (variable_at rows (natural_at rows r 1)).first → n ≡ (variable_at rows (natural_at rows r 1)).size → b ≡ operand_at rows r 2 → cells_in rows r ≡ counts_for f n (content_at rows b).expr
  unfolding cells_in target_in
  cells_are p q s = rw (p, q, s)

  pub target-marks : {b : ℕ} → b ≡ operand_at rows r 2 → mark_target (target_in rows r) ≡ in_sort 0 (cells_in rows r) ++ (in_sort 1 (cells_in rows r) ++ mark_expr (content_at rows b).expr)
  unfolding mark_target target_in cells_in
  target-marks p = rw p

  pub of-input-marks : {f n b c : ℕ} → f ≡ (source_at rows (natural_at rows r 1)).first → n ≡ (source_at rows (natural_at rows r 1)).size → b ≡ operand_at rows r 2 → c ≡ operand_at rows r 3
      → mark_input (input_in rows r) ≡ mark_target (content_at rows c).target ++ (mark_expr (content_at rows b).expr ++ in_sort 2 (counts_for f n (content_at rows b).expr))
  unfolding mark_input input_in
  of-input-marks p q s t = rw (p, q, s, t)

  pub of-output-marks : {f n b c : ℕ} → f ≡ (sink_at rows (natural_at rows r 1)).first → n ≡ (sink_at rows (natural_at rows r 1)).size → b ≡ operand_at rows r 2 → c ≡ operand_at rows r 3
      → marks (output_in rows r) ≡ in_sort 3 (counts_for f n (content_at rows b).expr) ++ (mark_expr (content_at rows b).expr ++ mark_expr (content_at rows c).expr)
  unfolding marks output_in
  of-output-marks p q s t = rw (p, q, s, t)

  -- what GIVEN refers to is an element, or is not there
  given-marks : (b : ℕ) → (b < row_count rows → kind_at rows b ≡ 11) → mark_expr (given (content_at rows b).target.name (content_at rows b).target.subscript) ≡ mark_expr (content_at rows b).expr
  unfolding mark_expr stands_in constant counts_for numbers_from
  given-marks b f = go (dec_lt b (row_count rows))
    where
      Same : Content → Type 0
      Same p = mark_expr (given p.target.name p.target.subscript) ≡ mark_expr p.expr

      go : Dec (b < row_count rows) → Same (content_at rows b)
      go (yes l) = subst Same (sym (part-of-kind rows b 11 l (f l))) refl
      go (no l) = subst Same (sym (part-past rows b (omega arith))) refl

  module _ (h : r < row_count rows) where
    pub element-marks : kind_at rows r ≡ 11 → {b : ℕ} → b ≡ operand_at rows r 2 → mark_expr (content_at rows r).expr ≡ in_sort 1 (cells_in rows r) ++ mark_expr (content_at rows b).expr
    unfolding mark_expr stands_in cells_in target_in
    element-marks e p =
        let v = variable_at rows (natural_at rows r 1) in
        let x = (higher_content rows r (natural_at rows r 2)).expr in
        ap (λ (p : Content). mark_expr p.expr) (part-of-kind rows r 11 h e)
        ∙ sort-append 1 (counts_for v.first v.size x) (stands_in x)
        ∙ ap₂ (λ (p q : Content). in_sort 1 (counts_for v.first v.size p.expr) ++ in_sort 1 (stands_in q.expr)) (above-operand rows r 2 refl) (above-operand rows r 2 p)

    pub monadic-marks : GivenElements rows → kind_at rows r ≡ 12 → {b : ℕ} → b ≡ operand_at rows r 2 → mark_expr (content_at rows r).expr ≡ mark_expr (content_at rows b).expr
    unfolding mark_expr stands_in
    monadic-marks elements e {b} p =
        ap (λ (p : Content). mark_expr p.expr) (part-of-kind rows r 12 h e)
        ∙ ap (λ (p : Content). mark_expr (operation (natural_at rows r 1) p)) (above-operand rows r 2 p)
        ∙ go (eqb (natural_at rows r 1) 2) refl
      where
        q : Content
        q = content_at rows b

        go : (t : Bool) → eqb (natural_at rows r 1) 2 ≡ t → mark_expr (if_else t (given q.target.name q.target.subscript) (monadic (natural_at rows r 1) q.expr)) ≡ mark_expr q.expr
        go true i = given-marks b (λ l. ap (kind_at rows) p ∙ elements r h e (eqb-true _ 2 i) (omega arith))
        go false i = refl

    pub dyadic-marks : kind_at rows r ≡ 13 → {b c : ℕ} → b ≡ operand_at rows r 2 → c ≡ operand_at rows r 3 → mark_expr (content_at rows r).expr ≡ mark_expr (content_at rows b).expr ++ mark_expr (content_at rows c).expr
    unfolding mark_expr stands_in
    dyadic-marks e p q =
        ap (λ (p : Content). mark_expr p.expr) (part-of-kind rows r 13 h e)
        ∙ sort-append 1 (stands_in (higher_content rows r (natural_at rows r 2)).expr) (stands_in (higher_content rows r (natural_at rows r 3)).expr)
        ∙ ap₂ (λ (p q : Content). mark_expr p.expr ++ mark_expr q.expr) (above-operand rows r 2 p) (above-operand rows r 3 q)

    pub no-expr-marks : (kind_at rows r ≡ 11 → ⊥) → (kind_at rows r ≡ 12 → ⊥) → (kind_at rows r ≡ 13 → ⊥) → mark_expr (content_at rows r).expr ≡ []
    unfolding mark_expr stands_in
    no-expr-marks n11 n12 n13 =
        by_kind rows r h (λ p. mark_expr p.expr ≡ [])
        (each-kind (λ x. mark_expr (content_of rows r (higher_content rows r) x).expr ≡ []) (kind_at rows r) (field_at rows r 1) (natural_at rows r 1) (natural_at rows r 2) (natural_at rows r 3)
        (λ q. refl) (λ q. absurd (n11 q)) (λ q. absurd (n12 q)) (λ q. absurd (n13 q)) (λ q. refl) (λ q. refl) (λ q. refl) (λ q. refl) (λ q. refl)
        (λ q. refl) (λ q. refl) (λ q. refl) (λ q. refl) (λ q. refl) (λ q. refl) (λ q. refl) (λ q. refl) (λ q. refl) (λ q. refl) refl)

    -- an element is a target
    pub target_is : kind_at rows r ≡ 11 → (content_at rows r).target ≡ target_in rows r
    unfolding target_in
    target_is e =
        ap (λ (p : Content). p.target) (part-of-kind rows r 11 h e)
        ∙ ap (λ (p : Content). record { name = variable_at rows (natural_at rows r 1); subscript = p.expr }) (above-operand rows r 2 refl)

    pub no-target-marks : (kind_at rows r ≡ 11 → ⊥) → mark_target (content_at rows r).target ≡ []
    unfolding mark_target mark_expr stands_in constant counts_for numbers_from
    no-target-marks n11 =
        by_kind rows r h (λ p. mark_target p.target ≡ [])
        (each-kind (λ x. mark_target (content_of rows r (higher_content rows r) x).target ≡ []) (kind_at rows r) (field_at rows r 1) (natural_at rows r 1) (natural_at rows r 2) (natural_at rows r 3)
        (λ q. refl) (λ q. absurd (n11 q)) (λ q. refl) (λ q. refl) (λ q. refl) (λ q. refl) (λ q. refl) (λ q. refl) (λ q. refl)
        (λ q. refl) (λ q. refl) (λ q. refl) (λ q. refl) (λ q. refl) (λ q. refl) (λ q. refl) (λ q. refl) (λ q. refl) (λ q. refl) refl)
