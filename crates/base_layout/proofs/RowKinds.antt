-- What stands at a row by the number of the row's kind, from what stands at its operands.
use mathlib.Core.Path.{◌≡◌, refl, sym, ap, ◌∙◌}
use mathlib.Core.Bool.{Bool, true, false}
use mathlib.Core.List.{List}
use Prim.Native.Nat.{ℕ, ◌<◌}
use lib.IntN.{ℤ}
use lib.Dec.{eqb}
use borrow.Author.Tests.{eqb-true}
use Rattle.meaning.specs.declared.Node.{Node}
use Rattle.meaning.specs.declared.Node.TheVariants.{Literal, Element, Monadic, Dyadic, Stop, Skip, Assignment, Input, Output, Seq, Par, If, While, Alt, Block, Member, Choice, OptionRow, Guard, Other}
use Rattle.meaning.specs.Basics.{if_else}
use Rattle.meaning.specs.Rows.{row_count, field_at, natural_at, kind_at}
use Rattle.meaning.specs.Tree.{Content, content_of, content_at}
use Rattle.base_layout.specs.Operands.{operand_at}
use Rattle.base_layout.proofs.RowNodes.{node_of}
use Rattle.base_layout.proofs.Parts.{higher_content, part-of-kind, operand-part}

module _ (P : Node → Type 0) where
  choose : (x y : Node) (t : Bool) → (t ≡ true → P x) → P y → P (if_else t x y)
  choose x y true f g = f refl
  choose x y false f g = g

  -- what holds of the node of each kind holds of the node of any kind
  pub each-kind : (k : ℕ) (z : ℤ) (a b c : ℕ)
      → (k ≡ 10 → P (Literal z))
      → (k ≡ 11 → P (Element a b))
      → (k ≡ 12 → P (Monadic a b))
      → (k ≡ 13 → P (Dyadic a b c))
      → (k ≡ 20 → P Stop)
      → (k ≡ 21 → P Skip)
      → (k ≡ 22 → P (Assignment a b c))
      → (k ≡ 23 → P (Input a b c))
      → (k ≡ 24 → P (Output a b c))
      → (k ≡ 30 → P (Seq a))
      → (k ≡ 31 → P (Par a))
      → (k ≡ 32 → P (If a))
      → (k ≡ 33 → P (While a b))
      → (k ≡ 34 → P (Alt a))
      → (k ≡ 35 → P (Block a b))
      → (k ≡ 40 → P (Member a b))
      → (k ≡ 41 → P (Choice a b c))
      → (k ≡ 42 → P (OptionRow a b c))
      → (k ≡ 43 → P (Guard a b))
      → P Other
      → P (node_of k z a b c)
  each-kind k z a b c p10 p11 p12 p13 p20 p21 p22 p23 p24 p30 p31 p32 p33 p34 p35 p40 p41 p42 p43 other =
      (choose (Literal z) _ (eqb k 10) (λ e. p10 (eqb-true k 10 e))
      (choose (Element a b) _ (eqb k 11) (λ e. p11 (eqb-true k 11 e))
      (choose (Monadic a b) _ (eqb k 12) (λ e. p12 (eqb-true k 12 e))
      (choose (Dyadic a b c) _ (eqb k 13) (λ e. p13 (eqb-true k 13 e))
      (choose Stop _ (eqb k 20) (λ e. p20 (eqb-true k 20 e))
      (choose Skip _ (eqb k 21) (λ e. p21 (eqb-true k 21 e))
      (choose (Assignment a b c) _ (eqb k 22) (λ e. p22 (eqb-true k 22 e))
      (choose (Input a b c) _ (eqb k 23) (λ e. p23 (eqb-true k 23 e))
      (choose (Output a b c) _ (eqb k 24) (λ e. p24 (eqb-true k 24 e))
      (choose (Seq a) _ (eqb k 30) (λ e. p30 (eqb-true k 30 e))
      (choose (Par a) _ (eqb k 31) (λ e. p31 (eqb-true k 31 e))
      (choose (If a) _ (eqb k 32) (λ e. p32 (eqb-true k 32 e))
      (choose (While a b) _ (eqb k 33) (λ e. p33 (eqb-true k 33 e))
      (choose (Alt a) _ (eqb k 34) (λ e. p34 (eqb-true k 34 e))
      (choose (Block a b) _ (eqb k 35) (λ e. p35 (eqb-true k 35 e))
      (choose (Member a b) _ (eqb k 40) (λ e. p40 (eqb-true k 40 e))
      (choose (Choice a b c) _ (eqb k 41) (λ e. p41 (eqb-true k 41 e))
      (choose (OptionRow a b c) _ (eqb k 42) (λ e. p42 (eqb-true k 42 e))
      (choose (Guard a b) _ (eqb k 43) (λ e. p43 (eqb-true k 43 e))
      other)))))))))))))))))))

module _ (rows : List ℤ) (r : ℕ) where
  -- what row r sees at a field is what stands at the field's operand
  pub above-operand : (j : ℕ) {b : ℕ} → b ≡ operand_at rows r j → higher_content rows r (natural_at rows r j) ≡ content_at rows b
  above-operand j e = operand-part rows r j ∙ ap (content_at rows) (sym e)

  -- what holds of a row of each kind
  pub by_kind : r < row_count rows → (P : Content → Type 0) → P (content_of rows r (higher_content rows r) (node_of (kind_at rows r) (field_at rows r 1) (natural_at rows r 1) (natural_at rows r 2) (natural_at rows r 3))) → P (content_at rows r)
  by_kind h P p = rw (part-of-kind rows r (kind_at rows r) h refl) p
