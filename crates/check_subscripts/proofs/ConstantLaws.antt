-- The expression of a row as a constant, by the row's kind, from those of its operands.
use mathlib.Core.Path.{◌≡◌, refl, sym, ap, ap₂, ◌∙◌}
use mathlib.Core.Bool.{Bool, true, false, ◌&&◌}
use mathlib.Core.List.{List, []}
use Prim.Native.Nat.{ℕ, ◌<◌, ◌≤◌}
use lib.IntN.{ℤ}
use lib.Dec.{eqb}
use Rattle.meaning.specs.declared.Value.{Value}
use Rattle.meaning.specs.declared.Value.TheVariants.{Number}
use Rattle.meaning.specs.Basics.{if_else}
use Rattle.meaning.specs.Rows.{row_count, field_at, natural_at, kind_at}
use Rattle.meaning.specs.Tree.{Expr, monadic, given, dyadic, Content, operation, content_of, content_at}
use Rattle.meaning.specs.Usage.{constant}
use Rattle.meaning.specs.Values.{value, when_number, monadic_of, dyadic_of}
use Rattle.base_layout.specs.Operands.{operand_at}
use Rattle.base_layout.proofs.Parts.{part-past, higher_content, part-of-kind}
use Rattle.base_layout.proofs.RowKinds.{each-kind, above-operand, by_kind}
use Rattle.std.specs.Prelude.{Option, Some, None}
use Rattle.check_subscripts.specs.Constants.{constant_of, monadic_constant, dyadic_constant}

-- a monadic operation on what stands at the operand's row: GIVEN varies, any other is as its operand
module _ (op : ℕ) where
  given-varies : eqb op 2 ≡ true → (c : Option Value) → monadic_constant op c ≡ None
  given-varies i (Some v) = rw i
  given-varies i None = refl

  as-operand : eqb op 2 ≡ false → (e : Expr) → constant_of (monadic op e) ≡ monadic_constant op (constant_of e)
  unfolding constant_of constant value
  as-operand i e = go (constant e)
    where
      go : (t : Bool) → if_else t (Some (when_number (value [] e) (monadic_of op))) None ≡ monadic_constant op (if_else t (Some (value [] e)) None)
      go true = rw i
      go false = refl

  operation-constant : (p : Content) → constant_of (operation op p) ≡ monadic_constant op (constant_of p.expr)
  unfolding constant_of constant
  operation-constant p = go (eqb op 2) refl
    where
      go : (t : Bool) → eqb op 2 ≡ t → constant_of (if_else t (given p.target.name p.target.subscript) (monadic op p.expr)) ≡ monadic_constant op (constant_of p.expr)
      go true i = sym (given-varies i (constant_of p.expr))
      go false i = as-operand i p.expr

both-operands : (op : ℕ) (e f : Expr) → constant_of (dyadic op e f) ≡ dyadic_constant op (constant_of e) (constant_of f)
unfolding constant_of constant value
both-operands op e f = go (constant e) (constant f)
  where
    go : (s t : Bool) → if_else (s && t) (Some (dyadic_of op (value [] e) (value [] f))) None ≡ dyadic_constant op (if_else s (Some (value [] e)) None) (if_else t (Some (value [] f)) None)
    go true true = refl
    go true false = refl
    go false t = refl

module _ (rows : List ℤ) (e : ℕ) where
  abbrev here : Content → Option Value
  here p = constant_of p.expr

  pub past-varies : row_count rows ≤ e → None ≡ constant_of (content_at rows e).expr
  unfolding constant_of constant
  past-varies h = sym (ap here (part-past rows e h))

  module _ (h : e < row_count rows) where
    pub literal-constant : kind_at rows e ≡ 10 → {x : ℤ} → x ≡ field_at rows e 1 → Some (Number x) ≡ constant_of (content_at rows e).expr
    unfolding constant_of constant value
    literal-constant k p = ap (λ (x : ℤ). Some (Number x)) p ∙ sym (ap here (part-of-kind rows e 10 h k))

    pub monadic-constant : kind_at rows e ≡ 12 → {b op : ℕ} {c d : Option Value} → b ≡ operand_at rows e 2 → c ≡ constant_of (content_at rows b).expr → op ≡ natural_at rows e 1 → d ≡ monadic_constant op c
        → d ≡ constant_of (content_at rows e).expr
    monadic-constant k {b} p i q j =
        j
        ∙ ap₂ monadic_constant q i
        ∙ sym (ap here (part-of-kind rows e 12 h k) ∙ ap (λ (p : Content). constant_of (operation (natural_at rows e 1) p)) (above-operand rows e 2 p) ∙ operation-constant (natural_at rows e 1) (content_at rows b))

    pub dyadic-constant : kind_at rows e ≡ 13 → {a b op : ℕ} {c d g : Option Value} → a ≡ operand_at rows e 2 → c ≡ constant_of (content_at rows a).expr → b ≡ operand_at rows e 3 → d ≡ constant_of (content_at rows b).expr
        → op ≡ natural_at rows e 1 → g ≡ dyadic_constant op c d → g ≡ constant_of (content_at rows e).expr
    dyadic-constant k p i q j s l =
        rw (i, j, s) at l
        ∙ sym (ap here (part-of-kind rows e 13 h k) ∙ ap₂ (λ (p q : Content). constant_of (dyadic (natural_at rows e 1) p.expr q.expr)) (above-operand rows e 2 p) (above-operand rows e 3 q) ∙ both-operands (natural_at rows e 1) _ _)

    pub other-varies : (kind_at rows e ≡ 10 → ⊥) → (kind_at rows e ≡ 12 → ⊥) → (kind_at rows e ≡ 13 → ⊥) → None ≡ constant_of (content_at rows e).expr
    unfolding constant_of constant
    other-varies n10 n12 n13 =
        by_kind rows e h (λ p. None ≡ here p)
        (each-kind (λ x. None ≡ here (content_of rows e (higher_content rows e) x)) (kind_at rows e) (field_at rows e 1) (natural_at rows e 1) (natural_at rows e 2) (natural_at rows e 3)
        (λ q. absurd (n10 q)) (λ q. refl) (λ q. absurd (n12 q)) (λ q. absurd (n13 q)) (λ q. refl) (λ q. refl) (λ q. refl) (λ q. refl) (λ q. refl)
        (λ q. refl) (λ q. refl) (λ q. refl) (λ q. refl) (λ q. refl) (λ q. refl) (λ q. refl) (λ q. refl) (λ q. refl) (λ q. refl) refl)
