-- A row that is no link has no members, no choices and no options; a choice or member has no options, an option or member no choices.
use mathlib.Core.Path.{◌≡◌, refl, ap, ◌∙◌}
use mathlib.Core.List.{List, []}
use Prim.Native.Nat.{ℕ, ◌<◌, ◌≤◌}
use native.Mathlib.Omega.{arith}
use native.Mathlib.Decide.{dec_lt}
use lib.IntN.{ℤ}
use Rattle.meaning.specs.declared.Node.{Node}
use Rattle.meaning.specs.declared.Node.TheVariants.{Literal, Element, Monadic, Dyadic, Stop, Skip, Assignment, Input, Output, Seq, Par, If, While, Alt, Block, Member, Choice, OptionRow, Guard, Other}
use Rattle.meaning.specs.Rows.{row_count, kind_at}
use Rattle.meaning.specs.Nodes.{node_at}
use Rattle.meaning.specs.Tree.{empty, Content, no_content, content_of, content_at}
use Rattle.meaning.specs.ContentClaims.{higher_content}
use Rattle.agreement.proofs.TableTree.{part_at, part-past}
use Rattle.agreement.proofs.TableReferences.{Fields, fields-are}
use Rattle.run_code.specs.declared.Row.{Row}
use Rattle.run_code.specs.Prepared.{Prepared, row_of_kind, place_at}
use Rattle.run_code.proofs.Entries.{what-at}
use Rattle.run_code.proofs.RowKinds.{row-of-kind, kind-in}

module _ {rows : List ℤ} {code : List ℕ} (p : Prepared rows code) (r : ℕ) (h : r ≤ 1024) where
  -- what is left out of a row that is none of these
  record Lists (c : Content) : Type 0 where
    no-members : (place_at code r 0 ≡ 40 → ⊥) → (place_at code r 0 ≡ 41 → ⊥) → (place_at code r 0 ≡ 42 → ⊥) → c.listed ≡ empty
    no-choices : (place_at code r 0 ≡ 41 → ⊥) → c.tests ≡ []
    no-options : (place_at code r 0 ≡ 42 → ⊥) → c.options ≡ []

  neither : (c : Content) → c.listed ≡ empty → c.tests ≡ [] → c.options ≡ [] → Lists c
  neither c e f g = record { no-members = λ x y z. e; no-choices = λ y. f; no-options = λ z. g }

  module _ (l : r < row_count rows) where
    what : (k : ℕ) → kind_at rows r ≡ k → place_at code r 0 ≡ (row_of_kind rows r k).what
    what k e = what-at p r h ∙ ap (λ (w : Row). w.what) (row-of-kind rows r k (kind-in rows r k l e))

    by-node : (k : Node) → Fields rows r k → Lists (content_of rows r (higher_content rows r) k)
    by-node (Literal x) f = neither (content_of rows r (higher_content rows r) (Literal x)) refl refl refl
    by-node (Element a b) f = neither (content_of rows r (higher_content rows r) (Element a b)) refl refl refl
    by-node (Monadic a b) f = neither (content_of rows r (higher_content rows r) (Monadic a b)) refl refl refl
    by-node (Dyadic a b c) f = neither (content_of rows r (higher_content rows r) (Dyadic a b c)) refl refl refl
    by-node Stop f = neither (content_of rows r (higher_content rows r) Stop) refl refl refl
    by-node Skip f = neither (content_of rows r (higher_content rows r) Skip) refl refl refl
    by-node (Assignment a b c) f = neither (content_of rows r (higher_content rows r) (Assignment a b c)) refl refl refl
    by-node (Input a b c) f = neither (content_of rows r (higher_content rows r) (Input a b c)) refl refl refl
    by-node (Output a b c) f = neither (content_of rows r (higher_content rows r) (Output a b c)) refl refl refl
    by-node (Seq a) f = neither (content_of rows r (higher_content rows r) (Seq a)) refl refl refl
    by-node (Par a) f = neither (content_of rows r (higher_content rows r) (Par a)) refl refl refl
    by-node (If a) f = neither (content_of rows r (higher_content rows r) (If a)) refl refl refl
    by-node (While a b) f = neither (content_of rows r (higher_content rows r) (While a b)) refl refl refl
    by-node (Alt a) f = neither (content_of rows r (higher_content rows r) (Alt a)) refl refl refl
    by-node (Block a b) f = neither (content_of rows r (higher_content rows r) (Block a b)) refl refl refl
    by-node (Member a b) f = record { no-members = λ x y z. absurd (x (what 40 f.0.0)); no-choices = λ y. refl; no-options = λ z. refl }
    by-node (Choice a b c) f = record { no-members = λ x y z. absurd (y (what 41 f.0.0)); no-choices = λ y. absurd (y (what 41 f.0.0)); no-options = λ z. refl }
    by-node (OptionRow a b c) f = record { no-members = λ x y z. absurd (z (what 42 f.0.0)); no-choices = λ y. refl; no-options = λ z. absurd (z (what 42 f.0.0)) }
    by-node (Guard a b) f = neither (content_of rows r (higher_content rows r) (Guard a b)) refl refl refl
    by-node Other f = neither (content_of rows r (higher_content rows r) Other) refl refl refl

  lists : Lists (content_at rows r)
  lists = go (dec_lt r (row_count rows))
    where
      go : Dec (r < row_count rows) → Lists (content_at rows r)
      go (yes l) = rw (part_at rows r l) (by-node l (node_at rows r) (fields-are rows r))
      go (no l) = rw (part-past rows r (omega arith)) (neither no_content refl refl refl)

  pub listed-none : (place_at code r 0 ≡ 40 → ⊥) → (place_at code r 0 ≡ 41 → ⊥) → (place_at code r 0 ≡ 42 → ⊥) → (content_at rows r).listed ≡ empty
  listed-none = lists.no-members

  pub tests-none : (place_at code r 0 ≡ 41 → ⊥) → (content_at rows r).tests ≡ []
  tests-none = lists.no-choices

  pub options-none : (place_at code r 0 ≡ 42 → ⊥) → (content_at rows r).options ≡ []
  options-none = lists.no-options
