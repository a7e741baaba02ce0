-- What the part of a row in settling says of the process and the members that stand there.
use mathlib.Core.Path.{◌≡◌, refl, sym, ap, ◌∙◌}
use mathlib.Core.Bool.{Bool, true, false}
use mathlib.Core.Option.{Option as Maybe, none, some}
use mathlib.Core.List.{List}
use Prim.Native.Nat.{ℕ, ◌-◌, ◌<◌, ◌≤◌}
use native.Mathlib.Omega.{arith}
use lib.IntN.{ℤ}
use lib.ListN.{length}
use lib.Dec.{ltb, leb, eqb}
use borrow.Author.Tests.{ltb-true, leb-true, leb-false, le-leb, lt-leb, ne_eqb}
use Rattle.meaning.specs.declared.Node.{Node}
use Rattle.meaning.specs.declared.Node.TheVariants.{Literal, Element, Monadic, Dyadic, Stop, Skip, Assignment, Input, Output, Seq, Par, If, While, Alt, Block, Member, Choice, OptionRow, Guard, Other}
use Rattle.meaning.specs.Rows.{row_count, field_at, natural_at, kind_at}
use Rattle.meaning.specs.Basics.{if_else}
use Rattle.meaning.specs.Declarations.{variable_at, sink_at}
use Rattle.meaning.specs.Nodes.{node_at}
use Rattle.meaning.specs.Tree.{Action, stop, skip, sequence, parallel, assign, input, output, conditional, loop, alternation, block, Process, node, Processes, empty, Content, no_content, and_process, input_of, content_of, content_at}
use Rattle.meaning.specs.Settle.{mode, ends_when_closed}
use Rattle.meaning.specs.ContentClaims.{higher_content}
use Rattle.agreement.proofs.TableTree.{part_at, part-past}
use Rattle.base_layout.specs.Operands.{operand_at}
use Rattle.base_layout.proofs.RowNodes.{node_of, node-of-kind}
use Rattle.run_parents.specs.declared.shape.Mode as code
use Rattle.run_parents.specs.declared.shape.Mode.TheVariants.{InTurn, Together, ByStep}
use Rattle.run_parents.specs.declared.shape.Shape.{Shape}
use Rattle.run_parents.specs.declared.shape.Shape.TheVariants.{Ending, Single, Link, Neither}
use Rattle.run_parents.specs.Shapes.{higher_row, settling_shape, shape_at}
use Rattle.run_parents.specs.Members.{mode_of, only_process}

module _ (rows : List ℤ) where
  -- what row b says to row r stands at the row that the code goes to
  higher-part : (r b : ℕ) → higher_content rows r b ≡ content_at rows (higher_row rows r b)
  unfolding higher_row
  higher-part r b = go (ltb r b)
    where
      go : (t : Bool) → if_else t (content_at rows b) no_content ≡ content_at rows (if_else t b (length rows))
      go true = refl
      go false = sym (part-past rows (length rows) (omega arith))

  -- rows left to the end fall
  higher-left : (r b : ℕ) → r < row_count rows → row_count rows - higher_row rows r b < row_count rows - r
  unfolding higher_row
  higher-left r b l = go (ltb r b) refl
    where
      go : (t : Bool) → ltb r b ≡ t → row_count rows - if_else t b (length rows) < row_count rows - r
      go true e = let h = ltb-true r b e in omega arith
      go false e = omega arith

  -- at row r a process that ends when it closes, with members by mode m from link f on
  pub record EndingAt (r : ℕ) (m : code.Mode) (f : ℕ) : Type 0 where
    pub action : Action
    pub process-is : (content_at rows r).process ≡ some (node action r (content_at rows f).listed)
    pub no-members : (content_at rows r).listed ≡ empty
    pub mode-is : mode action ≡ mode_of m
    pub ends : ends_when_closed action ≡ true
    pub fewer : row_count rows - f < row_count rows - r

  -- at row r a WHILE or a block, with the process of row b
  pub record SingleAt (r b : ℕ) : Type 0 where
    pub action : Action
    pub process-is : (content_at rows r).process ≡ some (node action r (only_process (content_at rows b).process))
    pub no-members : (content_at rows r).listed ≡ empty
    pub fewer : row_count rows - b < row_count rows - r

  -- at row r a link to the member of row p, and from link q on
  pub record LinkAt (r p q : ℕ) : Type 0 where
    pub no-process : (content_at rows r).process ≡ none
    pub members-are : (content_at rows r).listed ≡ and_process (content_at rows p).process (content_at rows q).listed
    pub fewer-process : row_count rows - p < row_count rows - r
    pub fewer-next : row_count rows - q < row_count rows - r

  -- at row r neither
  pub record NeitherAt (r : ℕ) : Type 0 where
    pub no-process : (content_at rows r).process ≡ none
    pub no-members : (content_at rows r).listed ≡ empty

  abbrev pub Stands : ℕ → Shape → Type 0
  Stands r (Ending m f) = EndingAt r m f
  Stands r (Single b) = SingleAt r b
  Stands r (Link p q) = LinkAt r p q
  Stands r Neither = NeitherAt r

  module _ (r : ℕ) (l : r < row_count rows) where
    processes : {p q : Content} → p ≡ q → p.process ≡ q.process
    processes = ap (λ (p : Content). p.process)

    members : {p q : Content} → p ≡ q → p.listed ≡ q.listed
    members = ap (λ (p : Content). p.listed)

    -- a process with no members
    leaf : (a : Action) (m : code.Mode) → (content_at rows r).process ≡ some (node a r empty) → (content_at rows r).listed ≡ empty → mode a ≡ mode_of m → ends_when_closed a ≡ true → EndingAt r m (length rows)
    leaf a m e n i x =
        record {
          action = a;
          process-is = e ∙ ap (λ (ms : Processes). some (node a r ms)) (sym (members (part-past rows (length rows) (omega arith))));
          no-members = n;
          mode-is = i;
          ends = x;
          fewer = omega arith;
        }

    -- a process with the members of link b
    inner : (a : Action) (m : code.Mode) (b : ℕ) → (content_at rows r).process ≡ some (node a r (higher_content rows r b).listed) → (content_at rows r).listed ≡ empty → mode a ≡ mode_of m → ends_when_closed a ≡ true → EndingAt r m (higher_row rows r b)
    inner a m b e n i x =
        record {
          action = a;
          process-is = e ∙ ap (λ (ms : Processes). some (node a r ms)) (members (higher-part r b));
          no-members = n;
          mode-is = i;
          ends = x;
          fewer = higher-left r b l;
        }

    -- a process with that of row b alone
    single : (a : Action) (b : ℕ) → (content_at rows r).process ≡ some (node a r (only_process (higher_content rows r b).process)) → (content_at rows r).listed ≡ empty → SingleAt r (higher_row rows r b)
    single a b e n =
        record {
          action = a;
          process-is = e ∙ ap (λ (o : Maybe Process). some (node a r (only_process o))) (processes (higher-part r b));
          no-members = n;
          fewer = higher-left r b l;
        }

    link : (a b : ℕ) → (content_at rows r).process ≡ none → (content_at rows r).listed ≡ and_process (higher_content rows r a).process (higher_content rows r b).listed → LinkAt r (higher_row rows r a) (higher_row rows r b)
    link a b n e =
        record {
          no-process = n;
          members-are =
              e
              ∙ ap (λ (o : Maybe Process). and_process o (higher_content rows r b).listed) (processes (higher-part r a))
              ∙ ap (λ (ms : Processes). and_process (content_at rows (higher_row rows r a)).process ms) (members (higher-part r b));
          fewer-process = higher-left r a l;
          fewer-next = higher-left r b l;
        }

    by-node : (k : Node) → content_at rows r ≡ content_of rows r (higher_content rows r) k → Stands r (settling_shape rows r k)
    by-node (Literal x) e = record { no-process = processes e; no-members = members e }
    by-node (Element a b) e = record { no-process = processes e; no-members = members e }
    by-node (Monadic a b) e = record { no-process = processes e; no-members = members e }
    by-node (Dyadic a b c) e = record { no-process = processes e; no-members = members e }
    by-node Stop e = leaf stop ByStep (processes e) (members e) refl refl
    by-node Skip e = leaf skip InTurn (processes e) (members e) refl refl
    by-node (Assignment a b c) e = leaf (assign (variable_at rows a) (higher_content rows r b).expr (higher_content rows r c).expr) ByStep (processes e) (members e) refl refl
    by-node (Input a b c) e = leaf (input (input_of rows r (higher_content rows r) a b c)) ByStep (processes e) (members e) refl refl
    by-node (Output a b c) e = leaf (output (sink_at rows a) (higher_content rows r b).expr (higher_content rows r c).expr) ByStep (processes e) (members e) refl refl
    by-node (Seq a) e = inner sequence InTurn a (processes e) (members e) refl refl
    by-node (Par a) e = inner parallel Together a (processes e) (members e) refl refl
    by-node (If a) e = inner (conditional (higher_content rows r a).tests) ByStep a (processes e) (members e) refl refl
    by-node (While a b) e = single (loop (higher_content rows r a).expr b) b (processes e) (members e)
    by-node (Alt a) e = inner (alternation (higher_content rows r a).options) ByStep a (processes e) (members e) refl refl
    by-node (Block a b) e = single (block (variable_at rows a)) b (processes e) (members e)
    by-node (Member a b) e = link a b (processes e) (members e)
    by-node (Choice a b c) e = link a b (processes e) (members e)
    by-node (OptionRow a b c) e = link a b (processes e) (members e)
    by-node (Guard a b) e = record { no-process = processes e; no-members = members e }
    by-node Other e = record { no-process = processes e; no-members = members e }

  -- what stands at a row, by its part in settling
  pub stands : (r : ℕ) → Stands r (shape_at rows r)
  unfolding shape_at
  stands r = go (leb (row_count rows) r) refl
    where
      go : (t : Bool) → leb (row_count rows) r ≡ t → Stands r (if_else t Neither (settling_shape rows r (node_at rows r)))
      go true e =
          let h : content_at rows r ≡ no_content = part-past rows r (leb-true (row_count rows) r e) in
          record { no-process = ap (λ (p : Content). p.process) h; no-members = ap (λ (p : Content). p.listed) h }
      go false e =
          let l : r < row_count rows = omega (arith, leb-false (row_count rows) r e) in
          by-node r l (node_at rows r) (part_at rows r l)

  -- the same, from what the code found
  pub found : (r : ℕ) {s k : Shape} → s ≡ shape_at rows r → s ≡ k → Stands r k
  found r e i = rw (sym e ∙ i) at (stands r)

  -- the part of a row in settling, from the kind that the code found
  pub told : (r k : ℕ) → r < row_count rows → kind_at rows r ≡ k → settling_shape rows r (node_of k (field_at rows r 1) (natural_at rows r 1) (natural_at rows r 2) (natural_at rows r 3)) ≡ shape_at rows r
  unfolding shape_at
  told r k l e = rw (lt-leb (row_count rows) r l) (ap (settling_shape rows r) (sym (node-of-kind rows r k e)))

  -- a field as the code reads it
  pub operand-is : (r j : ℕ) {b : ℕ} → b ≡ operand_at rows r j → b ≡ higher_row rows r (natural_at rows r j)
  unfolding higher_row operand_at
  operand-is r j e = e

  pub told-past : (r : ℕ) → row_count rows ≤ r → Neither ≡ shape_at rows r
  unfolding shape_at
  told-past r l = rw (le-leb (row_count rows) r l)

  -- expressions, guards and what is no kind
  no_part : (r : ℕ) (x : ℤ) (a b c : ℕ) (t10 t11 t12 t13 t43 : Bool)
      → settling_shape rows r (if_else t10 (Literal x) (if_else t11 (Element a b) (if_else t12 (Monadic a b) (if_else t13 (Dyadic a b c) (if_else t43 (Guard a b) Other))))) ≡ Neither
  no_part r x a b c true t11 t12 t13 t43 = refl
  no_part r x a b c false true t12 t13 t43 = refl
  no_part r x a b c false false true t13 t43 = refl
  no_part r x a b c false false false true t43 = refl
  no_part r x a b c false false false false true = refl
  no_part r x a b c false false false false false = refl

  -- a kind that is none of a process or a link
  pub told-neither : (r k : ℕ) → r < row_count rows → kind_at rows r ≡ k → (k ≡ 20 → ⊥) → (k ≡ 21 → ⊥) → (k ≡ 22 → ⊥) → (k ≡ 23 → ⊥) → (k ≡ 24 → ⊥)
      → (k ≡ 30 → ⊥) → (k ≡ 31 → ⊥) → (k ≡ 32 → ⊥) → (k ≡ 33 → ⊥) → (k ≡ 34 → ⊥) → (k ≡ 35 → ⊥) → (k ≡ 40 → ⊥) → (k ≡ 41 → ⊥) → (k ≡ 42 → ⊥) → Neither ≡ shape_at rows r
  told-neither r k l e a b c d f g h i j m q n o p =
      sym (simp (ne_eqb k 20 a, ne_eqb k 21 b, ne_eqb k 22 c, ne_eqb k 23 d, ne_eqb k 24 f, ne_eqb k 30 g, ne_eqb k 31 h, ne_eqb k 32 i, ne_eqb k 33 j, ne_eqb k 34 m, ne_eqb k 35 q, ne_eqb k 40 n, ne_eqb k 41 o, ne_eqb k 42 p)
      (no_part r (field_at rows r 1) (natural_at rows r 1) (natural_at rows r 2) (natural_at rows r 3) (eqb k 10) (eqb k 11) (eqb k 12) (eqb k 13) (eqb k 43)))
      ∙ told r k l e
