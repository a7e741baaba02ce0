-- A row's kind with its fields, as one value.
use Rattle.std.specs.Prelude.{List, ℕ, ℤ, eqb}
use Rattle.meaning.specs.declared.Node.{Node}
use Rattle.meaning.specs.declared.Node.TheVariants.{Literal, Element, Monadic, Dyadic, Stop, Skip, Assignment, Input, Output, Seq, Par, If, While, Alt, Block, Member, Choice, OptionRow, Guard, Other}
use Rattle.meaning.specs.Basics.{if_else}
use Rattle.meaning.specs.Rows.{field_at, natural_at, kind_at}

-- a row's kind with its fields
unfoldable pub node_at : List ℤ → ℕ → Node
node_at rows r =
    let k = kind_at rows r in
    let a = natural_at rows r 1 in
    let b = natural_at rows r 2 in
    let c = natural_at rows r 3 in
    if_else (eqb k 10) (Literal (field_at rows r 1))
    (if_else (eqb k 11) (Element a b)
    (if_else (eqb k 12) (Monadic a b)
    (if_else (eqb k 13) (Dyadic a b c)
    (if_else (eqb k 20) Stop
    (if_else (eqb k 21) Skip
    (if_else (eqb k 22) (Assignment a b c)
    (if_else (eqb k 23) (Input a b c)
    (if_else (eqb k 24) (Output a b c)
    (if_else (eqb k 30) (Seq a)
    (if_else (eqb k 31) (Par a)
    (if_else (eqb k 32) (If a)
    (if_else (eqb k 33) (While a b)
    (if_else (eqb k 34) (Alt a)
    (if_else (eqb k 35) (Block a b)
    (if_else (eqb k 40) (Member a b)
    (if_else (eqb k 41) (Choice a b c)
    (if_else (eqb k 42) (OptionRow a b c)
    (if_else (eqb k 43) (Guard a b)
    Other))))))))))))))))))
