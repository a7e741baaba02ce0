-- In a table that the stages 3 to 5 pass, every reference leads to a higher row of a kind that its place wants.
use mathlib.Core.Path.{◌≡◌, refl, sym, ap, ◌∙◌, subst}
use mathlib.Core.Logic.{◌⊎◌, inl, inr, ⊎_elim}
use mathlib.Core.Bool.{true}
use mathlib.Core.List.{List, [], ◌∷◌, Memᴰ}
use mathlib.Core.Option.{some}
use Prim.Native.Nat.{ℕ, suc, ◌≤◌, ◌<◌}
use native.Mathlib.Decide.{ℕ_discrete, dec_lt}
use native.Mathlib.Omega.{arith}
use lib.IntN.{ℤ, pos, negsuc}
use lib.Dec.{eqb}
use borrow.Author.Tests.{eqb-true}
use Rattle.meaning.specs.declared.Node.{Node}
use Rattle.meaning.specs.declared.Node.TheVariants.{Literal, Element, Monadic, Dyadic, Stop, Skip, Assignment, Input, Output, Seq, Par, If, While, Alt, Block, Member, Choice, OptionRow, Guard, Other}
use Rattle.meaning.specs.Basics.{if_else}
use Rattle.meaning.specs.Rows.{natural_of, row_count, field_at, natural_at, kind_at}
use Rattle.meaning.specs.Kinds.{operator, Shape, shapes, shape_in, shape_of, expressions, processes}
use Rattle.meaning.specs.Declarations.{declarations}
use Rattle.meaning.specs.Nodes.{node_at}
use Rattle.meaning.specs.References.{IsOf, IsTarget, Column, of-a, of-b, of_c, field_of, number_of}
use Rattle.meaning.specs.Faults.{MayHold, WellFormed, Leads, Placed, WellPlaced}
use Rattle.meaning.proofs.FaultLaws.{holds-a}
use Rattle.meaning.proofs.OneTreeLaw.{declared}
use Rattle.agreement.proofs.TableReferences.{if-else}

-- a row's kind with its fields, from its numbers
abbrev pub node_of : ℕ → ℤ → ℕ → ℕ → ℕ → Node
node_of k x a b c =
    if_else (eqb k 10) (Literal x)
    (if_else (eqb k 11) (Element a b)
    (if_else (eqb k 12) (Monadic a b)
    (if_else (eqb k 13) (Dyadic a b c)
    (if_else (eqb k 20) Stop
    (if_else (eqb k 21) Skip
    (if_else (eqb k 22) (Assignment a b c)
    (if_else (eqb k 23) (Input a b c)
    (if_else (eqb k 24) (Output a b c)
    (if_else (eqb k 30) (Seq a)
    (if_else (eqb k 31) (Par a)
    (if_else (eqb k 32) (If a)
    (if_else (eqb k 33) (While a b)
    (if_else (eqb k 34) (Alt a)
    (if_else (eqb k 35) (Block a b)
    (if_else (eqb k 40) (Member a b)
    (if_else (eqb k 41) (Choice a b c)
    (if_else (eqb k 42) (OptionRow a b c)
    (if_else (eqb k 43) (Guard a b)
    Other))))))))))))))))))

module _ (rows : List ℤ) where
  -- a row of kind k is the node of that kind
  pub node-of-kind : (r k : ℕ) → kind_at rows r ≡ k → node_at rows r ≡ node_of k (field_at rows r 1) (natural_at rows r 1) (natural_at rows r 2) (natural_at rows r 3)
  unfolding node_at
  node-of-kind r k e = ap (λ (j : ℕ). node_of j (field_at rows r 1) (natural_at rows r 1) (natural_at rows r 2) (natural_at rows r 3)) e

  -- a link goes to a higher row of one of the kinds, or past the table
  abbrev pub ToLink : ℕ → List ℕ → ℕ → Type 0
  ToLink r kinds c = (r < c) × (c < row_count rows → Memᴰ (kind_at rows c) kinds)

  -- row c declares a channel of one of the roles
  abbrev pub ToChannel : List ℕ → ℕ → Type 0
  ToChannel roles c = (c < declarations rows) × (kind_at rows c ≡ 2) × ((role : ℕ) × Memᴰ role roles × (natural_at rows c 2 ≡ role))

  abbrev pub ToExpr : ℕ → ℕ → Type 0
  ToExpr r c = IsTarget rows r expressions c

  abbrev pub ToProcess : ℕ → ℕ → Type 0
  ToProcess r c = IsTarget rows r processes c

  -- operator 2, GIVEN, has an element as its operand
  abbrev pub ToOperand : ℕ → ℕ → ℕ → Type 0
  ToOperand r op c = ToExpr r c × (op ≡ 2 → IsTarget rows r (11 ∷ []) c)

  -- what the fields of row r lead to
  abbrev pub Fits : ℕ → Node → Type 0
  Fits r (Literal x) = Unit {0}
  Fits r (Element a b) = ToExpr r b
  Fits r (Monadic a b) = ToOperand r a b
  Fits r (Dyadic a b c) = ToExpr r b × ToExpr r c
  Fits r Stop = Unit {0}
  Fits r Skip = Unit {0}
  Fits r (Assignment a b c) = ToExpr r b × ToExpr r c
  Fits r (Input a b c) = ToChannel (0 ∷ 1 ∷ []) a × ToExpr r b × IsTarget rows r (11 ∷ []) c
  Fits r (Output a b c) = ToChannel (0 ∷ 2 ∷ []) a × ToExpr r b × ToExpr r c
  Fits r (Seq a) = ToLink r (40 ∷ []) a
  Fits r (Par a) = ToLink r (40 ∷ []) a
  Fits r (If a) = ToLink r (41 ∷ []) a
  Fits r (While a b) = ToExpr r a × ToProcess r b
  Fits r (Alt a) = ToLink r (42 ∷ []) a
  Fits r (Block a b) = ToProcess r b
  Fits r (Member a b) = ToProcess r a × ToLink r (40 ∷ []) b
  Fits r (Choice a b c) = ToProcess r a × ToLink r (41 ∷ []) b × ToExpr r c
  Fits r (OptionRow a b c) = ToProcess r a × ToLink r (42 ∷ []) b × IsTarget rows r (23 ∷ 43 ∷ []) c
  Fits r (Guard a b) = ToExpr r a × IsTarget rows r (21 ∷ 23 ∷ []) b
  Fits r Other = Unit {0}

  -- a field that leads to a row
  to-target : (r : ℕ) (kinds : List ℕ) (z : ℤ) → ((t : ℕ) × (z ≡ pos t) × IsTarget rows r kinds t) → IsTarget rows r kinds (natural_of z)
  to-target r kinds z h = subst (λ (y : ℤ). IsTarget rows r kinds (natural_of y)) (sym h.1) h.2

  -- the operand of an operator
  two_is : (z : ℤ) → natural_of z ≡ 2 → z ≡ pos 2
  two_is (pos n) e = ap pos e
  two_is (negsuc n) e = absurd (omega arith)

  to-operand : (r : ℕ) (y z : ℤ) → MayHold rows r operator y → field_at rows r 2 ≡ z → ((t : ℕ) × (z ≡ pos t) × ToExpr r t) → ToOperand r (natural_of y) (natural_of z)
  unfolding MayHold
  to-operand r y z m f h = (to-target r expressions z h, λ e. let t = to-target r expressions z h in (t.0, t.1, go e t (ℕ_discrete (kind_at rows (natural_of z)) 11)))
    where
      go : natural_of y ≡ 2 → ToExpr r (natural_of z) → Dec (kind_at rows (natural_of z) ≡ 11) → Memᴰ (kind_at rows (natural_of z)) (11 ∷ [])
      go e t (yes k) = Memᴰ.head k
      go e t (no k) = absurd (m.1 (two_is y e, (natural_of z, (f ∙ (h.1 ∙ ap pos (sym (ap natural_of h.1))), t.1, k))))

  to-channel : (roles : List ℕ) (z : ℤ) → ((q : ℕ) × ((z ≡ pos q) × (q < declarations rows) × (kind_at rows q ≡ 2)) × ((role : ℕ) × Memᴰ role roles × (natural_at rows q 2 ≡ role))) → ToChannel roles (natural_of z)
  to-channel roles z h = subst (λ (y : ℤ). ToChannel roles (natural_of y)) (sym h.1.0) (h.1.1, h.1.2, h.2)

  module _ (few : row_count rows ≤ 1024) (formed : (r : ℕ) → r < row_count rows → WellFormed rows r) (placed : (r : ℕ) → r < suc (row_count rows) → WellPlaced rows r) where
    to-link : (r : ℕ) (kinds : List ℕ) (z : ℤ) → r < row_count rows → ((z ≡ negsuc 0) ⊎ ((t : ℕ) × (z ≡ pos t) × IsTarget rows r kinds t)) → ToLink r kinds (natural_of z)
    to-link r kinds z l (inl e) = subst (λ (y : ℤ). ToLink r kinds (natural_of y)) (sym e) (omega arith, λ i. absurd (omega arith))
    to-link r kinds z l (inr h) = let g = to-target r kinds z h in (g.0, λ i. g.2)

    module _ (r : ℕ) (l : r < row_count rows) (d : declarations rows ≤ r) where
      leads-to : (s : Shape) → IsOf rows r s → (p : Column) → Leads rows r (field_of s p) (number_of rows r p)
      unfolding WellPlaced Placed
      leads-to = ((placed r (omega arith)).1 (d, l)).0

      holds : (s : Shape) → IsOf rows r s → MayHold rows r s.a (field_at rows r 1)
      holds s = holds-a rows r s (formed r l)

      is-of : (k : ℕ) (s : Shape) → shape_of k ≡ some s → eqb (kind_at rows r) k ≡ true → IsOf rows r s
      is-of k s e h = ap shape_of (eqb-true (kind_at rows r) k h) ∙ e

      fits-later : Fits r (node_at rows r)
      unfolding node_at Leads MayHold shape_of shape_in shapes
      fits-later =
          let k = kind_at rows r in
          let i = is-of in
          if-else (Fits r) (eqb k 10) (λ e. tt)
          (if-else (Fits r) (eqb k 11) (λ e. to-target r expressions (field_at rows r 2) (leads-to _ (i 11 _ refl e) of-b))
          (if-else (Fits r) (eqb k 12) (λ e. to-operand r (field_at rows r 1) (field_at rows r 2) (holds _ (i 12 _ refl e)) refl (leads-to _ (i 12 _ refl e) of-b))
          (if-else (Fits r) (eqb k 13) (λ e. (to-target r expressions (field_at rows r 2) (leads-to _ (i 13 _ refl e) of-b), to-target r expressions (field_at rows r 3) (leads-to _ (i 13 _ refl e) of_c)))
          (if-else (Fits r) (eqb k 20) (λ e. tt)
          (if-else (Fits r) (eqb k 21) (λ e. tt)
          (if-else (Fits r) (eqb k 22) (λ e. (to-target r expressions (field_at rows r 2) (leads-to _ (i 22 _ refl e) of-b), to-target r expressions (field_at rows r 3) (leads-to _ (i 22 _ refl e) of_c)))
          (if-else (Fits r) (eqb k 23) (λ e. (to-channel (0 ∷ 1 ∷ []) (field_at rows r 1) (holds _ (i 23 _ refl e)), to-target r expressions (field_at rows r 2) (leads-to _ (i 23 _ refl e) of-b), to-target r (11 ∷ []) (field_at rows r 3) (leads-to _ (i 23 _ refl e) of_c)))
          (if-else (Fits r) (eqb k 24) (λ e. (to-channel (0 ∷ 2 ∷ []) (field_at rows r 1) (holds _ (i 24 _ refl e)), to-target r expressions (field_at rows r 2) (leads-to _ (i 24 _ refl e) of-b), to-target r expressions (field_at rows r 3) (leads-to _ (i 24 _ refl e) of_c)))
          (if-else (Fits r) (eqb k 30) (λ e. to-link r (40 ∷ []) (field_at rows r 1) l (leads-to _ (i 30 _ refl e) of-a))
          (if-else (Fits r) (eqb k 31) (λ e. to-link r (40 ∷ []) (field_at rows r 1) l (leads-to _ (i 31 _ refl e) of-a))
          (if-else (Fits r) (eqb k 32) (λ e. to-link r (41 ∷ []) (field_at rows r 1) l (leads-to _ (i 32 _ refl e) of-a))
          (if-else (Fits r) (eqb k 33) (λ e. (to-target r expressions (field_at rows r 1) (leads-to _ (i 33 _ refl e) of-a), to-target r processes (field_at rows r 2) (leads-to _ (i 33 _ refl e) of-b)))
          (if-else (Fits r) (eqb k 34) (λ e. to-link r (42 ∷ []) (field_at rows r 1) l (leads-to _ (i 34 _ refl e) of-a))
          (if-else (Fits r) (eqb k 35) (λ e. to-target r processes (field_at rows r 2) (leads-to _ (i 35 _ refl e) of-b))
          (if-else (Fits r) (eqb k 40) (λ e. (to-target r processes (field_at rows r 1) (leads-to _ (i 40 _ refl e) of-a), to-link r (40 ∷ []) (field_at rows r 2) l (leads-to _ (i 40 _ refl e) of-b)))
          (if-else (Fits r) (eqb k 41) (λ e. (to-target r processes (field_at rows r 1) (leads-to _ (i 41 _ refl e) of-a), to-link r (41 ∷ []) (field_at rows r 2) l (leads-to _ (i 41 _ refl e) of-b), to-target r expressions (field_at rows r 3) (leads-to _ (i 41 _ refl e) of_c)))
          (if-else (Fits r) (eqb k 42) (λ e. (to-target r processes (field_at rows r 1) (leads-to _ (i 42 _ refl e) of-a), to-link r (42 ∷ []) (field_at rows r 2) l (leads-to _ (i 42 _ refl e) of-b), to-target r (23 ∷ 43 ∷ []) (field_at rows r 3) (leads-to _ (i 42 _ refl e) of_c)))
          (if-else (Fits r) (eqb k 43) (λ e. (to-target r expressions (field_at rows r 1) (leads-to _ (i 43 _ refl e) of-a), to-target r (21 ∷ 23 ∷ []) (field_at rows r 2) (leads-to _ (i 43 _ refl e) of-b)))
          tt))))))))))))))))))

    -- each row's fields lead to where they may
    pub fits : (r : ℕ) → r < row_count rows → Fits r (node_at rows r)
    fits r l = go (dec_lt r (declarations rows))
      where
        plain : (k : ℕ) → kind_at rows r ≡ k → Fits r (node_of k (field_at rows r 1) (natural_at rows r 1) (natural_at rows r 2) (natural_at rows r 3)) → Fits r (node_at rows r)
        plain k e h = subst (Fits r) (sym (node-of-kind r k e)) h

        go : Dec (r < declarations rows) → Fits r (node_at rows r)
        go (yes d) = ⊎_elim (λ e. plain 1 e tt) (λ e. plain 2 e tt) (declared rows r d)
        go (no d) = fits-later r l (omega arith)
