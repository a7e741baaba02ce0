-- A row as a node, by the number of its kind.
use mathlib.Core.Path.{◌≡◌, ap}
use mathlib.Core.List.{List}
use Prim.Native.Nat.{ℕ}
use lib.IntN.{ℤ}
use lib.Dec.{eqb}
use Rattle.meaning.specs.declared.Node.{Node}
use Rattle.meaning.specs.declared.Node.TheVariants.{Literal, Element, Monadic, Dyadic, Stop, Skip, Assignment, Input, Output, Seq, Par, If, While, Alt, Block, Member, Choice, OptionRow, Guard, Other}
use Rattle.meaning.specs.Basics.{if_else}
use Rattle.meaning.specs.Rows.{field_at, natural_at, kind_at}
use Rattle.meaning.specs.Nodes.{node_at}

-- the node of kind k whose fields are a, b, c; x is field a with its sign
abbrev pub node_of : ℕ → ℤ → ℕ → ℕ → ℕ → Node
node_of k x a b c =
    if_else (eqb k 10) (Literal x)
    (if_else (eqb k 11) (Element a b)
    (if_else (eqb k 12) (Monadic a b)
    (if_else (eqb k 13) (Dyadic a b c)
    (if_else (eqb k 20) Stop
    (if_else (eqb k 21) Skip
    (if_else (eqb k 22) (Assignment a b c)
    (if_else (eqb k 23) (Input a b c)
    (if_else (eqb k 24) (Output a b c)
    (if_else (eqb k 30) (Seq a)
    (if_else (eqb k 31) (Par a)
    (if_else (eqb k 32) (If a)
    (if_else (eqb k 33) (While a b)
    (if_else (eqb k 34) (Alt a)
    (if_else (eqb k 35) (Block a b)
    (if_else (eqb k 40) (Member a b)
    (if_else (eqb k 41) (Choice a b c)
    (if_else (eqb k 42) (OptionRow a b c)
    (if_else (eqb k 43) (Guard a b)
    Other))))))))))))))))))

pub node-of-kind : (rows : List ℤ) (r k : ℕ) → kind_at rows r ≡ k → node_at rows r ≡ node_of k (field_at rows r 1) (natural_at rows r 1) (natural_at rows r 2) (natural_at rows r 3)
unfolding node_at
node-of-kind rows r k e = ap (λ (k : ℕ). node_of k (field_at rows r 1) (natural_at rows r 1) (natural_at rows r 2) (natural_at rows r 3)) e

-- the same of fields that were read
pub node-read : (rows : List ℤ) (r k a b c : ℕ) → kind_at rows r ≡ k → a ≡ natural_at rows r 1 → b ≡ natural_at rows r 2 → c ≡ natural_at rows r 3
    → node_of k (field_at rows r 1) a b c ≡ node_at rows r
node-read rows r k a b c e p q s = rw (node-of-kind rows r k e, p, q, s)
