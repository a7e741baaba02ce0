-- The value of the expression of a row, and the cell of a target, as the code comes to them from the numbers of a prepared table. An operand is a higher row, up to 1,024.
use mathlib.Core.Path.{◌≡◌, refl, sym, ap, ap₂, ◌∙◌}
use mathlib.Core.Bool.{Bool, true, false}
use mathlib.Core.Option.{none}
use mathlib.Core.List.{List}
use Prim.Native.Nat.{ℕ, ◌+◌, ◌<◌, ◌≤◌}
use native.Mathlib.Omega.{arith}
use lib.IntN.{ℤ}
use lib.ListN.{get_or}
use lib.Dec.{eqb}
use borrow.Author.Tests.{eqb-true, eqb-false}
use Rattle.meaning.specs.declared.Value.{Value}
use Rattle.meaning.specs.declared.Value.TheVariants.{Number, Missing}
use Rattle.meaning.specs.declared.Index.{Index}
use Rattle.meaning.specs.declared.Index.TheVariants.{At, Fails}
use Rattle.meaning.specs.Basics.{if_else}
use Rattle.meaning.specs.Rows.{row_count, natural_at}
use Rattle.meaning.specs.Tree.{Process, monadic, given, Content, operation, content_at, action_of, or_stop}
use Rattle.meaning.specs.State.{program, process_at}
use Rattle.meaning.specs.Values.{Message, is_true, truth, operate, monadic_of, decides, when_number, dyadic_of, in_array, cell_value, read_cell, given_value, value, index, Sent, cell_sent, value_sent, passed}
use Rattle.agreement.proofs.TableTree.{process-is}
use Rattle.run_code.specs.declared.Row.{Row}
use Rattle.run_code.specs.Prepared.{referred_row, Prepared, place_at, literal_of, first_of, size_of}
use Rattle.run_code.proofs.Entries.{what-at, second_at}
use Rattle.run_code.proofs.RowKinds.{kind_from}
use Rattle.run_code.proofs.Referred.{referred-higher}
use Rattle.run_code.proofs.Codes.{subscripted, few, here, literal-is, first-is, second_is, third-is, content-is, seen, assign-row}
use Rattle.run_values.specs.Targets.{target_index, assigned_index, fixed_cell}
use Rattle.run_values.proofs.NoExpressions.{no-expr, no_target, no-element, no-assigned}
use Rattle.run_values.proofs.Elements.{at, index_by, element-content, element-row, element-found, assigned-found}

module _ {rows : List ℤ} {code : List ℕ} (p : Prepared rows code) (r : ℕ) (h : r ≤ 1024) where
  -- what an expression's row refers to
  abbrev Above : ℕ → Type 0
  Above b = (r < b) × (b ≤ 1024)

  above : (j : ℕ) → r < row_count rows → Above (referred_row rows r j)
  above j l = referred-higher rows (few p) r j l

  -- the rows of operands
  pub subscript-higher : {b : ℕ} → place_at code r 0 ≡ 4 → b ≡ place_at code r 2 → Above b
  subscript-higher e q =
      let w = element-row p r h 4 e refl in
      rw (q ∙ second_at p r h ∙ ap (λ (w : Row). w.second) w ∙ (subscripted rows (natural_at rows r 1) (referred_row rows r 2) (sym (what-at p r h ∙ ap (λ (w : Row). w.what) w) ∙ e)).1) (above 2 (here p r h 4 e (λ z. omega arith)))

  pub operand-higher : {b : ℕ} → place_at code r 0 ≡ 5 → b ≡ place_at code r 2 → Above b
  operand-higher e q = rw (q ∙ second_is p r h 5 e (λ z. omega arith)) (above 2 (here p r h 5 e (λ z. omega arith)))

  pub first-higher : {b : ℕ} → place_at code r 0 ≡ 6 → b ≡ place_at code r 2 → Above b
  first-higher e q = rw (q ∙ second_is p r h 6 e (λ z. omega arith)) (above 2 (here p r h 6 e (λ z. omega arith)))

  pub second-higher : {b : ℕ} → place_at code r 0 ≡ 6 → b ≡ place_at code r 3 → Above b
  second-higher e q = rw (q ∙ third-is p r h 6 e (λ z. omega arith)) (above 3 (here p r h 6 e (λ z. omega arith)))

  module _ (cells : List Message) where
    -- the value of row r from what stands there
    of : {c : Content} → content_at rows r ≡ c → at rows cells r ≡ value cells c.expr
    of e = ap (λ (c : Content). value cells c.expr) e

    pub literal-value : place_at code r 0 ≡ 1 → {x : ℤ} → x ≡ literal_of code r → Number x ≡ at rows cells r
    unfolding value
    literal-value e q =
        ap Number (q ∙ literal-is p r h e) ∙ sym (of (content-is p r h 1 e (λ z. omega arith)))

    -- an element, by its numbers
    element-at : (n : ℕ) → place_at code r 0 ≡ n → kind_from n ≡ 11 → at rows cells r ≡ read_cell cells (index_by rows cells n (place_at code r 1) (place_at code r 2) (first_of code r) (size_of code r))
    unfolding value
    element-at n e i = of (element-content p r h n e i) ∙ ap (read_cell cells) (element-found p r h n e i cells)

    pub cell-value : place_at code r 0 ≡ 2 → {n : ℕ} {v : Value} → n ≡ place_at code r 1 → v ≡ cell_value (get_or cells n none) → v ≡ at rows cells r
    cell-value e q s = s ∙ ap (λ (n : ℕ). cell_value (get_or cells n none)) q ∙ sym (element-at 2 e refl)

    pub outside-value : place_at code r 0 ≡ 3 → Missing 2 ≡ at rows cells r
    outside-value e = sym (element-at 3 e refl)

    pub element-value : place_at code r 0 ≡ 4 → {b : ℕ} {u v : Value} → b ≡ place_at code r 2 → u ≡ at rows cells b → v ≡ read_cell cells (in_array (first_of code r) (size_of code r) u) → v ≡ at rows cells r
    element-value e m n t = t ∙ rw (n, m) (sym (element-at 4 e refl))

    -- a monadic operation, by its numbers
    operation-at : place_at code r 0 ≡ 5 → {op b : ℕ} → op ≡ place_at code r 1 → b ≡ place_at code r 2 → value cells (operation op (content_at rows b)) ≡ at rows cells r
    operation-at e {op} {b} q m =
        ap₂ (λ (o : ℕ) (c : Content). value cells (operation o c)) (q ∙ first-is p r h 5 e (λ z. omega arith)) (ap (content_at rows) m)
        ∙ sym (of (content-is p r h 5 e (λ z. omega arith)) ∙ ap (λ (c : Content). value cells (operation (natural_at rows r 1) c)) (seen p r h 2 (second_is p r h 5 e (λ z. omega arith))))

    pub monadic-value : place_at code r 0 ≡ 5 → {op b : ℕ} {u v : Value} → op ≡ place_at code r 1 → (op ≡ 2 → ⊥) → b ≡ place_at code r 2 → u ≡ at rows cells b
        → v ≡ when_number u (monadic_of op) → v ≡ at rows cells r
    unfolding value
    monadic-value e {op} {b} {u} {v} q ne m n t = t ∙ ap (λ (w : Value). when_number w (monadic_of op)) n ∙ go (eqb op 2) refl ∙ operation-at e q m
      where
        c : Content
        c = content_at rows b

        go : (o : Bool) → eqb op 2 ≡ o → when_number (at rows cells b) (monadic_of op) ≡ value cells (if_else o (given c.target.name c.target.subscript) (monadic op c.expr))
        go true i = absurd (ne (eqb-true op 2 i))
        go false i = refl

    -- GIVEN of what the operand's row means as a target
    pub given-value : place_at code r 0 ≡ 5 → {op b : ℕ} {i : Index} {v : Value} → op ≡ place_at code r 1 → op ≡ 2 → b ≡ place_at code r 2
        → i ≡ target_index cells (content_at rows b).target → v ≡ given_value cells i → v ≡ at rows cells r
    unfolding value index
    given-value e {op} {b} {i} {v} q two m f t = t ∙ ap (given_value cells) f ∙ sym (ap (λ (o : ℕ). value cells (operation o (content_at rows b))) two) ∙ operation-at e q m

    module _ (e : place_at code r 0 ≡ 6) {op b : ℕ} {u : Value} (q : op ≡ place_at code r 1) (m : b ≡ place_at code r 2) (n : u ≡ at rows cells b) where
      combined : (w : Value) → w ≡ at rows cells (place_at code r 3) → dyadic_of op u w ≡ at rows cells r
      unfolding value
      combined w s =
          ap (λ (o : ℕ). dyadic_of o u w) (q ∙ first-is p r h 6 e (λ z. omega arith))
          ∙ ap₂ (dyadic_of (natural_at rows r 1)) (n ∙ ap (at rows cells) m) s
          ∙ sym (of (content-is p r h 6 e (λ z. omega arith))
          ∙ ap₂ (λ (b c : Content). dyadic_of (natural_at rows r 1) (value cells b.expr) (value cells c.expr)) (seen p r h 2 (second_is p r h 6 e (λ z. omega arith))) (seen p r h 3 (third-is p r h 6 e (λ z. omega arith))))

      pub first-missing : {j : ℕ} → u ≡ Missing j → Missing j ≡ at rows cells r
      unfolding dyadic_of
      first-missing s = ap (λ (v : Value). dyadic_of op v (at rows cells (place_at code r 3))) (sym s) ∙ combined _ refl

      pub first-decides : {x : ℤ} {v : Value} → u ≡ Number x → decides op x ≡ true → v ≡ truth (is_true x) → v ≡ at rows cells r
      unfolding dyadic_of
      first-decides {x} s d t =
          t
          ∙ sym (ap (λ (b : Bool). if_else b (truth (is_true x)) (when_number (at rows cells (place_at code r 3)) (operate op x))) d)
          ∙ ap (λ (v : Value). dyadic_of op v (at rows cells (place_at code r 3))) (sym s)
          ∙ combined _ refl

      pub both-operands : {x : ℤ} {c : ℕ} {v w : Value} → u ≡ Number x → decides op x ≡ false → c ≡ place_at code r 3 → w ≡ at rows cells c
          → v ≡ when_number w (operate op x) → v ≡ at rows cells r
      unfolding dyadic_of
      both-operands {x} {c} {v} {w} s d f g t =
          t
          ∙ sym (ap (λ (b : Bool). if_else b (truth (is_true x)) (when_number w (operate op x))) d)
          ∙ ap (λ (v : Value). dyadic_of op v w) (sym s)
          ∙ combined w (g ∙ ap (at rows cells) f)

    -- ---- the cell of a target
    target_at : (n : ℕ) → place_at code r 0 ≡ n → kind_from n ≡ 11 → index_by rows cells n (place_at code r 1) (place_at code r 2) (first_of code r) (size_of code r) ≡ target_index cells (content_at rows r).target
    unfolding index
    target_at n e i = sym (element-found p r h n e i cells) ∙ sym (ap (λ (c : Content). target_index cells c.target) (element-content p r h n e i))

    pub cell-target : place_at code r 0 ≡ 2 → {n : ℕ} → n ≡ place_at code r 1 → At n ≡ target_index cells (content_at rows r).target
    cell-target e q = ap At q ∙ target_at 2 e refl

    pub outside-target : place_at code r 0 ≡ 3 → Fails 2 ≡ target_index cells (content_at rows r).target
    outside-target e = target_at 3 e refl

    pub element-target : place_at code r 0 ≡ 4 → {i : Index} → i ≡ index cells (first_of code r) (size_of code r) (content_at rows (place_at code r 2)).expr → i ≡ target_index cells (content_at rows r).target
    unfolding index
    element-target e q = q ∙ target_at 4 e refl

    pub element-index : place_at code r 0 ≡ 4 → {b : ℕ} {u : Value} {i : Index} → b ≡ place_at code r 2 → u ≡ at rows cells b → i ≡ in_array (first_of code r) (size_of code r) u → i ≡ target_index cells (content_at rows r).target
    unfolding index
    element-index e m n t = t ∙ rw (n, m) (target_at 4 e refl)

    -- a row that is no element with a subscript to evaluate
    pub fixed-target : {k : ℕ} {i : Index} → k ≡ place_at code r 0 → (k ≡ 4 → ⊥) → i ≡ fixed_cell code r → i ≡ target_index cells (content_at rows r).target
    unfolding fixed_cell
    fixed-target {k} {i} e ne f = f ∙ go (eqb (place_at code r 0) 2) refl (eqb (place_at code r 0) 3) refl
      where
        go : (t : Bool) → eqb (place_at code r 0) 2 ≡ t → (u : Bool) → eqb (place_at code r 0) 3 ≡ u
            → if_else t (At (place_at code r 1)) (if_else u (Fails 2) (Fails 0)) ≡ target_index cells (content_at rows r).target
        go true a u b = cell-target (eqb-true _ 2 a) refl
        go false a true b = outside-target (eqb-true _ 3 b)
        go false a false b = no_target p r h cells (eqb-false _ 2 a) (eqb-false _ 3 b) (λ z. ne (e ∙ z))

    -- what an output passes of an element; of any other expression
    pub element-passed : (n : ℕ) → place_at code r 0 ≡ n → kind_from n ≡ 11 → {i : Index} {s : Sent} → i ≡ target_index cells (content_at rows r).target
        → s ≡ cell_sent cells i → s ≡ passed cells (content_at rows r).expr
    unfolding passed
    element-passed n e i f t =
        let c = element-content p r h n e i in
        t ∙ ap (cell_sent cells) (f ∙ ap (λ (c : Content). target_index cells c.target) c) ∙ sym (ap (λ (c : Content). passed cells c.expr) c)

    pub other-passed : {k : ℕ} {v : Value} {s : Sent} → k ≡ place_at code r 0 → (k ≡ 2 → ⊥) → (k ≡ 3 → ⊥) → (k ≡ 4 → ⊥) → v ≡ at rows cells r
        → s ≡ value_sent v → s ≡ passed cells (content_at rows r).expr
    other-passed e a b c f t = t ∙ ap value_sent f ∙ no-element p r h cells (λ i. a (e ∙ i)) (λ i. b (e ∙ i)) (λ i. c (e ∙ i))

    -- ---- the cell that is assigned to
    assigned-at : (m : ℕ) → place_at code r 0 ≡ 44 + m → kind_from (44 + m) ≡ 22 → index_by rows cells m (place_at code r 1) (place_at code r 2) (first_of code r) (size_of code r) ≡ assigned_index cells (action_of (process_at (program rows) r))
    unfolding index
    assigned-at m e i =
        sym (assigned-found p r h m e i cells)
        ∙ sym (ap (λ (c : Content). assigned_index cells (action_of (or_stop c.process))) (assign-row p r h (44 + m) e i))
        ∙ ap (λ (q : Process). assigned_index cells (action_of q)) (sym (process-is rows r))

    pub cell-assigned : place_at code r 0 ≡ 46 → {n : ℕ} → n ≡ place_at code r 1 → At n ≡ assigned_index cells (action_of (process_at (program rows) r))
    cell-assigned e q = ap At q ∙ assigned-at 2 e refl

    pub element-assigned : place_at code r 0 ≡ 48 → {i : Index} → i ≡ index cells (first_of code r) (size_of code r) (content_at rows (place_at code r 2)).expr → i ≡ assigned_index cells (action_of (process_at (program rows) r))
    unfolding index
    element-assigned e q = q ∙ assigned-at 4 e refl

    pub outside-assigned : place_at code r 0 ≡ 47 → Fails 2 ≡ assigned_index cells (action_of (process_at (program rows) r))
    outside-assigned e = assigned-at 3 e refl

    -- ---- what the code found is none of these
    pub other-value : {k : ℕ} → k ≡ place_at code r 0 → (k ≡ 1 → ⊥) → (k ≡ 2 → ⊥) → (k ≡ 3 → ⊥) → (k ≡ 4 → ⊥) → (k ≡ 5 → ⊥) → (k ≡ 6 → ⊥) → Missing 0 ≡ at rows cells r
    other-value e a b c d f g = no-expr p r h cells (λ i. a (e ∙ i)) (λ i. b (e ∙ i)) (λ i. c (e ∙ i)) (λ i. d (e ∙ i)) (λ i. f (e ∙ i)) (λ i. g (e ∙ i))

    pub other-target : {k : ℕ} → k ≡ place_at code r 0 → (k ≡ 2 → ⊥) → (k ≡ 3 → ⊥) → (k ≡ 4 → ⊥) → Fails 0 ≡ target_index cells (content_at rows r).target
    other-target e a b c = no_target p r h cells (λ i. a (e ∙ i)) (λ i. b (e ∙ i)) (λ i. c (e ∙ i))

    pub other-assigned : {k : ℕ} → k ≡ place_at code r 0 → (k ≡ 46 → ⊥) → (k ≡ 48 → ⊥) → Fails 2 ≡ assigned_index cells (action_of (process_at (program rows) r))
    other-assigned e a b = go (eqb (place_at code r 0) 47) refl
      where
        go : (t : Bool) → eqb (place_at code r 0) 47 ≡ t → Fails 2 ≡ assigned_index cells (action_of (process_at (program rows) r))
        go true i = outside-assigned (eqb-true _ 47 i)
        go false i = no-assigned p r h cells (λ j. a (e ∙ j)) (eqb-false _ 47 i) (λ j. b (e ∙ j))
