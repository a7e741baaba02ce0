-- What holds of the node of each kind holds of a row's node.
use mathlib.Core.Path.{◌≡◌, refl}
use mathlib.Core.Bool.{Bool, true, false}
use Prim.Native.Nat.{ℕ}
use lib.IntN.{ℤ}
use lib.Dec.{eqb}
use borrow.Author.Tests.{eqb-true}
use Rattle.meaning.specs.declared.Node.{Node}
use Rattle.meaning.specs.declared.Node.TheVariants.{Literal, Element, Monadic, Dyadic, Stop, Skip, Assignment, Input, Output, Seq, Par, If, While, Alt, Block, Member, Choice, OptionRow, Guard, Other}
use Rattle.meaning.specs.Basics.{if_else}
use Rattle.base_layout.proofs.RowNodes.{node_of}

module _ (Q : Node → Type 0) (k : ℕ) where
  either : (j : ℕ) (m n : Node) → (k ≡ j → Q m) → Q n → Q (if_else (eqb k j) m n)
  either j m n p q = go (eqb k j) refl
    where
      go : (t : Bool) → eqb k j ≡ t → Q (if_else t m n)
      go true e = p (eqb-true k j e)
      go false e = q

  pub kind-cases : (x : ℤ) (a b c : ℕ) → (k ≡ 10 → Q (Literal x)) → (k ≡ 11 → Q (Element a b)) → (k ≡ 12 → Q (Monadic a b)) → (k ≡ 13 → Q (Dyadic a b c))
      → (k ≡ 20 → Q Stop) → (k ≡ 21 → Q Skip) → (k ≡ 22 → Q (Assignment a b c)) → (k ≡ 23 → Q (Input a b c)) → (k ≡ 24 → Q (Output a b c))
      → (k ≡ 30 → Q (Seq a)) → (k ≡ 31 → Q (Par a)) → (k ≡ 32 → Q (If a)) → (k ≡ 33 → Q (While a b)) → (k ≡ 34 → Q (Alt a)) → (k ≡ 35 → Q (Block a b))
      → (k ≡ 40 → Q (Member a b)) → (k ≡ 41 → Q (Choice a b c)) → (k ≡ 42 → Q (OptionRow a b c)) → (k ≡ 43 → Q (Guard a b)) → Q Other → Q (node_of k x a b c)
  kind-cases x a b c literal element monadic dyadic stop skip assignment input output seq par if' while' alt block member choice option guard other =
      either 10 _ _ literal
      (either 11 _ _ element
      (either 12 _ _ monadic
      (either 13 _ _ dyadic
      (either 20 _ _ stop
      (either 21 _ _ skip
      (either 22 _ _ assignment
      (either 23 _ _ input
      (either 24 _ _ output
      (either 30 _ _ seq
      (either 31 _ _ par
      (either 32 _ _ if'
      (either 33 _ _ while'
      (either 34 _ _ alt
      (either 35 _ _ block
      (either 40 _ _ member
      (either 41 _ _ choice
      (either 42 _ _ option
      (either 43 _ _ guard
      other))))))))))))))))))
