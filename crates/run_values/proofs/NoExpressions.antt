-- A row that is no expression has no value, one that is no element is no target, and one that is no assignment assigns to none.
use mathlib.Core.Path.{◌≡◌, refl, sym, ap, ◌∙◌}
use mathlib.Core.Bool.{Bool, true, false}
use mathlib.Core.List.{List}
use Prim.Native.Nat.{ℕ, ◌+◌, ◌<◌, ◌≤◌}
use native.Mathlib.Omega.{arith}
use native.Mathlib.Decide.{dec_lt}
use lib.IntN.{ℤ}
use lib.Dec.{eqb}
use borrow.Author.Tests.{eqb-true}
use Rattle.meaning.specs.declared.Node.{Node}
use Rattle.meaning.specs.declared.Node.TheVariants.{Literal, Element, Monadic, Dyadic, Stop, Skip, Assignment, Input, Output, Seq, Par, If, While, Alt, Block, Member, Choice, OptionRow, Guard, Other}
use Rattle.meaning.specs.declared.Value.TheVariants.{Missing}
use Rattle.meaning.specs.declared.Index.TheVariants.{Fails}
use Rattle.meaning.specs.Basics.{if_else}
use Rattle.meaning.specs.Rows.{row_count, natural_at, kind_at}
use Rattle.meaning.specs.Nodes.{node_at}
use Rattle.meaning.specs.Tree.{Expr, monadic, given, Process, Content, operation, content_of, content_at, action_of, or_stop}
use Rattle.meaning.specs.State.{program, process_at}
use Rattle.meaning.specs.ContentClaims.{higher_content}
use Rattle.meaning.specs.Values.{Message, in_array, value, index, value_sent, passed}
use Rattle.agreement.proofs.TableReferences.{if-else}
use Rattle.agreement.proofs.TableTree.{part_at, part-past, process-is}
use Rattle.run_code.specs.declared.Row.{Row}
use Rattle.run_code.specs.Prepared.{referred_row, subscripted_row, row_of_kind, Prepared, place_at}
use Rattle.run_code.proofs.Entries.{what-at}
use Rattle.run_code.proofs.RowKinds.{IsElement, is_cell, is_outside, is_subscripted, element-what, row-of-kind, kind-in}
use Rattle.run_values.specs.Targets.{target_index, assigned_index}

-- the kinds of expressions and assignments
abbrev Kind : ℕ → Node → Type 0
Kind k (Literal x) = k ≡ 10
Kind k (Element a b) = k ≡ 11
Kind k (Monadic a b) = k ≡ 12
Kind k (Dyadic a b c) = k ≡ 13
Kind k Stop = Unit {0}
Kind k Skip = Unit {0}
Kind k (Assignment a b c) = k ≡ 22
Kind k (Input a b c) = Unit {0}
Kind k (Output a b c) = Unit {0}
Kind k (Seq a) = Unit {0}
Kind k (Par a) = Unit {0}
Kind k (If a) = Unit {0}
Kind k (While a b) = Unit {0}
Kind k (Alt a) = Unit {0}
Kind k (Block a b) = Unit {0}
Kind k (Member a b) = Unit {0}
Kind k (Choice a b c) = Unit {0}
Kind k (OptionRow a b c) = Unit {0}
Kind k (Guard a b) = Unit {0}
Kind k Other = Unit {0}

kind-of : (rows : List ℤ) (r : ℕ) → Kind (kind_at rows r) (node_at rows r)
unfolding node_at
kind-of rows r =
    let k = kind_at rows r in
    if-else (Kind k) (eqb k 10) (λ e. eqb-true k 10 e)
    (if-else (Kind k) (eqb k 11) (λ e. eqb-true k 11 e)
    (if-else (Kind k) (eqb k 12) (λ e. eqb-true k 12 e)
    (if-else (Kind k) (eqb k 13) (λ e. eqb-true k 13 e)
    (if-else (Kind k) (eqb k 20) (λ e. tt)
    (if-else (Kind k) (eqb k 21) (λ e. tt)
    (if-else (Kind k) (eqb k 22) (λ e. eqb-true k 22 e)
    (if-else (Kind k) (eqb k 23) (λ e. tt)
    (if-else (Kind k) (eqb k 24) (λ e. tt)
    (if-else (Kind k) (eqb k 30) (λ e. tt)
    (if-else (Kind k) (eqb k 31) (λ e. tt)
    (if-else (Kind k) (eqb k 32) (λ e. tt)
    (if-else (Kind k) (eqb k 33) (λ e. tt)
    (if-else (Kind k) (eqb k 34) (λ e. tt)
    (if-else (Kind k) (eqb k 35) (λ e. tt)
    (if-else (Kind k) (eqb k 40) (λ e. tt)
    (if-else (Kind k) (eqb k 41) (λ e. tt)
    (if-else (Kind k) (eqb k 42) (λ e. tt)
    (if-else (Kind k) (eqb k 43) (λ e. tt)
    tt))))))))))))))))))

-- a monadic operation passes its value
value-passed : (cells : List Message) (op : ℕ) (c : Content) → value_sent (value cells (operation op c)) ≡ passed cells (operation op c)
unfolding passed
value-passed cells op c = go (eqb op 2)
  where
    go : (t : Bool) → let e : Expr = if_else t (given c.target.name c.target.subscript) (monadic op c.expr) in value_sent (value cells e) ≡ passed cells e
    go true = refl
    go false = refl

module _ {rows : List ℤ} {code : List ℕ} (p : Prepared rows code) (r : ℕ) (h : r ≤ 1024) (cells : List Message) where
  abbrev Not : ℕ → Type 0
  Not n = place_at code r 0 ≡ n → ⊥

  -- what is left out of a row that is none of these
  record Without (c : Content) : Type 0 where
    no_value : Not 1 → Not 2 → Not 3 → Not 4 → Not 5 → Not 6 → Missing 0 ≡ value cells c.expr
    no_cell : Not 2 → Not 3 → Not 4 → Fails 0 ≡ target_index cells c.target
    no-passing : Not 2 → Not 3 → Not 4 → value_sent (value cells c.expr) ≡ passed cells c.expr
    no-assignment : Not 46 → Not 47 → Not 48 → assigned_index cells (action_of (or_stop c.process)) ≡ Fails 2

  module _ (l : r < row_count rows) where
    what : (k : ℕ) → kind_at rows r ≡ k → place_at code r 0 ≡ (row_of_kind rows r k).what
    what k e = what-at p r h ∙ ap (λ (w : Row). w.what) (row-of-kind rows r k (kind-in rows r k l e))

    an-element : kind_at rows r ≡ 11 → {A : Type 0} → Not 2 → Not 3 → Not 4 → A
    an-element e x y z = go (element-what rows (natural_at rows r 1) (referred_row rows r 2))
      where
        go : {A : Type 0} → IsElement (subscripted_row rows (natural_at rows r 1) (referred_row rows r 2)).what → A
        go (is_cell i) = absurd (x (what 11 e ∙ i))
        go (is_outside i) = absurd (y (what 11 e ∙ i))
        go (is_subscripted i) = absurd (z (what 11 e ∙ i))

    an-assignment : kind_at rows r ≡ 22 → {A : Type 0} → Not 46 → Not 47 → Not 48 → A
    an-assignment e x y z = go (element-what rows (natural_at rows r 1) (referred_row rows r 2))
      where
        go : {A : Type 0} → IsElement (subscripted_row rows (natural_at rows r 1) (referred_row rows r 2)).what → A
        go (is_cell i) = absurd (x (what 22 e ∙ ap (λ (n : ℕ). 44 + n) i))
        go (is_outside i) = absurd (y (what 22 e ∙ ap (λ (n : ℕ). 44 + n) i))
        go (is_subscripted i) = absurd (z (what 22 e ∙ ap (λ (n : ℕ). 44 + n) i))

    by-node : (k : Node) → Kind (kind_at rows r) k → Without (content_of rows r (higher_content rows r) k)
    unfolding value index in_array passed
    by-node (Literal x) e = record { no_value = λ a b c d f g. absurd (a (what 10 e)); no_cell = λ b c d. refl; no-passing = λ b c d. refl; no-assignment = λ x y z. refl }
    by-node (Element a b) e = record { no_value = λ a b c d f g. an-element e b c d; no_cell = λ b c d. an-element e b c d; no-passing = λ b c d. an-element e b c d; no-assignment = λ x y z. refl }
    by-node (Monadic a b) e = record { no_value = λ a b c d f g. absurd (f (what 12 e)); no_cell = λ b c d. refl; no-passing = λ c d f. value-passed cells a (higher_content rows r b); no-assignment = λ x y z. refl }
    by-node (Dyadic a b c) e = record { no_value = λ a b c d f g. absurd (g (what 13 e)); no_cell = λ b c d. refl; no-passing = λ b c d. refl; no-assignment = λ x y z. refl }
    by-node Stop e = record { no_value = λ a b c d f g. refl; no_cell = λ b c d. refl; no-passing = λ b c d. refl; no-assignment = λ x y z. refl }
    by-node Skip e = record { no_value = λ a b c d f g. refl; no_cell = λ b c d. refl; no-passing = λ b c d. refl; no-assignment = λ x y z. refl }
    by-node (Assignment a b c) e = record { no_value = λ a b c d f g. refl; no_cell = λ b c d. refl; no-passing = λ b c d. refl; no-assignment = λ x y z. an-assignment e x y z }
    by-node (Input a b c) e = record { no_value = λ a b c d f g. refl; no_cell = λ b c d. refl; no-passing = λ b c d. refl; no-assignment = λ x y z. refl }
    by-node (Output a b c) e = record { no_value = λ a b c d f g. refl; no_cell = λ b c d. refl; no-passing = λ b c d. refl; no-assignment = λ x y z. refl }
    by-node (Seq a) e = record { no_value = λ a b c d f g. refl; no_cell = λ b c d. refl; no-passing = λ b c d. refl; no-assignment = λ x y z. refl }
    by-node (Par a) e = record { no_value = λ a b c d f g. refl; no_cell = λ b c d. refl; no-passing = λ b c d. refl; no-assignment = λ x y z. refl }
    by-node (If a) e = record { no_value = λ a b c d f g. refl; no_cell = λ b c d. refl; no-passing = λ b c d. refl; no-assignment = λ x y z. refl }
    by-node (While a b) e = record { no_value = λ a b c d f g. refl; no_cell = λ b c d. refl; no-passing = λ b c d. refl; no-assignment = λ x y z. refl }
    by-node (Alt a) e = record { no_value = λ a b c d f g. refl; no_cell = λ b c d. refl; no-passing = λ b c d. refl; no-assignment = λ x y z. refl }
    by-node (Block a b) e = record { no_value = λ a b c d f g. refl; no_cell = λ b c d. refl; no-passing = λ b c d. refl; no-assignment = λ x y z. refl }
    by-node (Member a b) e = record { no_value = λ a b c d f g. refl; no_cell = λ b c d. refl; no-passing = λ b c d. refl; no-assignment = λ x y z. refl }
    by-node (Choice a b c) e = record { no_value = λ a b c d f g. refl; no_cell = λ b c d. refl; no-passing = λ b c d. refl; no-assignment = λ x y z. refl }
    by-node (OptionRow a b c) e = record { no_value = λ a b c d f g. refl; no_cell = λ b c d. refl; no-passing = λ b c d. refl; no-assignment = λ x y z. refl }
    by-node (Guard a b) e = record { no_value = λ a b c d f g. refl; no_cell = λ b c d. refl; no-passing = λ b c d. refl; no-assignment = λ x y z. refl }
    by-node Other e = record { no_value = λ a b c d f g. refl; no_cell = λ b c d. refl; no-passing = λ b c d. refl; no-assignment = λ x y z. refl }

  without : Without (content_at rows r)
  unfolding value index in_array passed
  without = go (dec_lt r (row_count rows))
    where
      go : Dec (r < row_count rows) → Without (content_at rows r)
      go (yes l) = rw (part_at rows r l) (by-node l (node_at rows r) (kind-of rows r))
      go (no l) = rw (part-past rows r (omega arith)) (record { no_value = λ a b c d f g. refl; no_cell = λ b c d. refl; no-passing = λ b c d. refl; no-assignment = λ x y z. refl })

  pub no-expr : Not 1 → Not 2 → Not 3 → Not 4 → Not 5 → Not 6 → Missing 0 ≡ value cells (content_at rows r).expr
  no-expr = without.no_value

  pub no_target : Not 2 → Not 3 → Not 4 → Fails 0 ≡ target_index cells (content_at rows r).target
  no_target = without.no_cell

  pub no-element : Not 2 → Not 3 → Not 4 → value_sent (value cells (content_at rows r).expr) ≡ passed cells (content_at rows r).expr
  no-element = without.no-passing

  pub no-assigned : Not 46 → Not 47 → Not 48 → Fails 2 ≡ assigned_index cells (action_of (process_at (program rows) r))
  no-assigned x y z = sym (without.no-assignment x y z) ∙ ap (λ (q : Process). assigned_index cells (action_of q)) (sym (process-is rows r))
