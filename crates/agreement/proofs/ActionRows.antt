-- In an accepted table, a cell that an action uses is one of a variable that a row of the action names: its process's row, or a row beneath it that is reached by expressions, links and guards only.
use mathlib.Core.Path.{◌≡◌, refl, sym, ap, ◌∙◌, subst}
use mathlib.Core.Logic.{◌⊎◌, inl, inr, ⊎_elim}
use mathlib.Core.Bool.{Bool, true, false, false≢true}
use mathlib.Core.List.Memᴰ
use mathlib.Core.List.{List, [], ◌∷◌, Memᴰ}
use mathlib.Core.Option.{Option, none, some}
use Prim.Native.Nat.{ℕ, zero, suc, ◌+◌, ◌≤◌, ◌<◌}
use native.Mathlib.Decide.{dec_lt}
use native.Mathlib.Omega.{arith}
use lib.IntN.{ℤ, pos, negsuc}
use lib.Dec.{eqb}
use borrow.Author.Tests.{eqb-true}
use Rattle.meaning.specs.declared.Node.{Node}
use Rattle.meaning.specs.declared.Node.TheVariants.{Literal, Element, Monadic, Dyadic, Stop, Skip, Assignment, Input, Output, Seq, Par, If, While, Alt, Block, Member, Choice, OptionRow, Guard, Other}
use Rattle.meaning.specs.Rows.{natural_of, row_count, natural_at, kind_at}
use Rattle.meaning.specs.Kinds.{Field, reference, link, variable, channel, unused, expression, process, Shape, shape, shapes, shape_in, shape_of, expressions, processes}
use Rattle.meaning.specs.Declarations.{cells_at, variable_at, source_at}
use Rattle.meaning.specs.Nodes.{node_at}
use Rattle.meaning.specs.Tree.{ChannelInput, Action, Process, node, Processes, Content, no_content, content_of, content_at, element, action_of}
use Rattle.meaning.specs.References.{Column, of-a, of-b, of_c, field_of, number_of, IsTarget, RefersBy, Refers, Beneath, direct, further}
use Rattle.meaning.specs.Faults.{Leads, NamesIt}
use Rattle.meaning.specs.Usage.{uses}
use Rattle.meaning.specs.Clash.{Within, changed-by-assignment, changed-by-input, stands}
use Rattle.meaning.proofs.AnswerLaws.{RightRows}
use Rattle.meaning.proofs.StageLaws.{form-none, tree-none, limit-none}
use Rattle.agreement.specs.TreeClaims.{IsProcess, OfGuard, of-option, of_guard}
use Rattle.agreement.specs.VerdictClaims.{Passed}
use Rattle.agreement.proofs.TableTree.{part-past}
use Rattle.agreement.proofs.TableReferences.{if-else, members-shape, while-shape, choice-shape, option-shape, unguarded, Shaped, few-rows, leads-at}
use Rattle.agreement.proofs.UsageRows.{Fits, fits, node-of-kind}
use Rattle.agreement.proofs.UsageParts.{of-each, part-is, part_by}
use Rattle.agreement.proofs.UsageTree.{Mark, InExpr, InReceive, InChoices, InInput, InGuard, InOptions, InAction, in-expr}
use Rattle.agreement.proofs.UsageWithin.{At, at_some, target_at, within-below}
use Rattle.agreement.proofs.UsageGather.{mark_uses, uses-is}
use Rattle.agreement.proofs.UsageNumbers.{Numbers}
use Rattle.agreement.proofs.UsageNames.{cells_is}
use Rattle.agreement.proofs.UsageBearers.{Touches, bears-uses}
use Rattle.agreement.proofs.TreeBeneath.{not-false, upper}
use Rattle.agreement.proofs.TreeRows.{process-kind}

module _ (rows : List ℤ) where
  -- an expression, a link, or a row of a guard: no process of the tree
  abbrev pub PartRow : ℕ → Type 0
  PartRow t = (kind_at rows t < 20) ⊎ ((40 ≤ kind_at rows t) ⊎ OfGuard rows t)

  -- the rows of the action at row r: it, and those beneath it that are reached by such rows only
  pub data OfAction (r : ℕ) : ℕ → Type 0 where
    its-row : OfAction r r
    its-part : {s t : ℕ} (p : Column) → OfAction r s → Refers rows s p t → PartRow t → OfAction r t

  -- an expression refers to expressions
  low-refers : (s t : ℕ) (p : Column) → Refers rows s p t → kind_at rows s < 20 → kind_at rows t < 20
  low-refers s t p h l = go (dec_lt (kind_at rows t) 20)
    where
      free : (p : Column) → unguarded (kind_at rows s) p ≡ false → ⊥
      free of-a e = false≢true (sym e)
      free of-b e = let i = eqb-true (kind_at rows s) 43 (not-false (eqb (kind_at rows s) 43) e) in omega arith
      free of_c e = let i = eqb-true (kind_at rows s) 42 (not-false (eqb (kind_at rows s) 42) e) in omega arith

      by : 20 ≤ kind_at rows t → (b : Bool) → unguarded (kind_at rows s) p ≡ b → ⊥
      by m true e = let u = upper rows s t m p h e in omega (arith, u.0)
      by m false e = free p e

      go : Dec (kind_at rows t < 20) → kind_at rows t < 20
      go (yes i) = i
      go (no i) = absurd (by (omega arith) (unguarded (kind_at rows s) p) refl)

  -- so all beneath an expression of an action is of the action
  low-beneath : {r s t : ℕ} → OfAction r s → kind_at rows s < 20 → Beneath rows s t → OfAction r t × (kind_at rows t < 20)
  low-beneath {r} {s} {t} o l (direct p g) = let i = low-refers s t p g l in (its-part p o g (inl i), i)
  low-beneath {r} {s} o l (further {s = u} {t} p w g) = let h = low-beneath o l w in let i = low-refers u t p g h.1 in (its-part p h.0 g (inl i), i)

  low-within : {r s t : ℕ} → OfAction r s → kind_at rows s < 20 → Within rows s t → OfAction r t × (kind_at rows t < 20)
  low-within {r} o l (inl e) = (subst (OfAction r) (sym e) o, rw e l)
  low-within o l (inr w) = low-beneath o l w

  -- the kind and the name of a row that names a variable
  abbrev Naming : ℕ → Node → Type 0
  Naming r (Literal x) = Unit {0}
  Naming r (Element a b) = (kind_at rows r ≡ 11) × (natural_at rows r 1 ≡ a)
  Naming r (Monadic a b) = Unit {0}
  Naming r (Dyadic a b c) = Unit {0}
  Naming r Stop = Unit {0}
  Naming r Skip = Unit {0}
  Naming r (Assignment a b c) = (kind_at rows r ≡ 22) × (natural_at rows r 1 ≡ a)
  Naming r (Input a b c) = kind_at rows r ≡ 23
  Naming r (Output a b c) = Unit {0}
  Naming r (Seq a) = Unit {0}
  Naming r (Par a) = Unit {0}
  Naming r (If a) = Unit {0}
  Naming r (While a b) = Unit {0}
  Naming r (Alt a) = Unit {0}
  Naming r (Block a b) = Unit {0}
  Naming r (Member a b) = Unit {0}
  Naming r (Choice a b c) = Unit {0}
  Naming r (OptionRow a b c) = Unit {0}
  Naming r (Guard a b) = Unit {0}
  Naming r Other = Unit {0}

  naming : (r : ℕ) → Naming r (node_at rows r)
  unfolding node_at
  naming r =
      let k = kind_at rows r in
      if-else (Naming r) (eqb k 10) (λ e. tt)
      (if-else (Naming r) (eqb k 11) (λ e. (eqb-true k 11 e, refl))
      (if-else (Naming r) (eqb k 12) (λ e. tt)
      (if-else (Naming r) (eqb k 13) (λ e. tt)
      (if-else (Naming r) (eqb k 20) (λ e. tt)
      (if-else (Naming r) (eqb k 21) (λ e. tt)
      (if-else (Naming r) (eqb k 22) (λ e. (eqb-true k 22 e, refl))
      (if-else (Naming r) (eqb k 23) (λ e. eqb-true k 23 e)
      (if-else (Naming r) (eqb k 24) (λ e. tt)
      (if-else (Naming r) (eqb k 30) (λ e. tt)
      (if-else (Naming r) (eqb k 31) (λ e. tt)
      (if-else (Naming r) (eqb k 32) (λ e. tt)
      (if-else (Naming r) (eqb k 33) (λ e. tt)
      (if-else (Naming r) (eqb k 34) (λ e. tt)
      (if-else (Naming r) (eqb k 35) (λ e. tt)
      (if-else (Naming r) (eqb k 40) (λ e. tt)
      (if-else (Naming r) (eqb k 41) (λ e. tt)
      (if-else (Naming r) (eqb k 42) (λ e. tt)
      (if-else (Naming r) (eqb k 43) (λ e. tt)
      tt))))))))))))))))))

  named_by : (r : ℕ) (x : Node) → node_at rows r ≡ x → Naming r x
  named_by r x e = subst (Naming r) e (naming r)

module _ (rows : List ℤ) (A : RightRows rows) where
  -- the stages before usage and blocks pass it
  pub passed : Passed rows
  passed = (A.0, (form-none rows).1 A.1, (tree-none rows).1 A.2, (limit-none rows).1 A.3)

  -- the fields of each row lead to where they may
  pub each_fits : (s : ℕ) → s < row_count rows → Fits rows s (node_at rows s)
  each_fits = fits rows (few-rows rows A) A.1 A.2

  -- what stands at a row of a kind
  pub content-by : (a k : ℕ) → a < row_count rows → kind_at rows a ≡ k → content_at rows a ≡ part_by rows a k
  content-by a k l e = part-is rows a l (each_fits a l) ∙ ap (content_of rows a (content_at rows)) (node-of-kind rows a k e)

  module _ (n r : ℕ) where
    -- a row of the action at row r names a variable with cell n
    abbrev pub Named : Type 0
    Named = (t : ℕ) × (d : ℕ) × (i : ℕ) × OfAction rows r t × NamesIt rows d t × Numbers (cells_at rows) n d i

    abbrev M : Mark
    M = mark_uses n

    -- in an expression
    low-named : (s : ℕ) → s < row_count rows → OfAction rows r s → kind_at rows s < 20 → At rows M s → Named
    low-named s l o k h =
        let (t, w, b) = (at_some rows M passed s l).0 h in
        let (p, low) = low-within rows o k w in
        let (d, (i, u, c)) = (bears-uses rows passed n t (within-below rows M passed l w)).0 b in
        (t, d, i, p, names t d i low c, u)
      where
        names : (t d i : ℕ) → kind_at rows t < 20 → Touches rows t d i → NamesIt rows d t
        names t d i low (inl (changed-by-assignment {b} {c} e k)) = let (f, g) = named_by rows t (Assignment d b c) e in (inr f, g)
        names t d i low (inl (changed-by-input {a} {b} {c} e f k)) = absurd (let g = named_by rows t (Input a b c) e in omega arith)
        names t d i low (inr (stands {b} e k)) = let (f, g) = named_by rows t (Element d b) e in (inl f, g)

    -- where a field refers, and to which kinds
    module _ (s k : ℕ) (sh : Shape) (p : Column) (l : s < row_count rows) (h : Shaped rows s k sh) where
      abbrev to : ℕ
      to = natural_of (number_of rows s p)

      field-refers : (kinds : List ℕ) → field_of sh p ≡ reference kinds → Refers rows s p to × IsTarget rows s kinds to
      unfolding Leads Refers RefersBy
      field-refers kinds f =
          let (t, z, i) = subst (λ (g : Field). Leads rows s g (number_of rows s p)) f (leads-at rows A s k sh l h p) in
          let e : t ≡ to = sym (ap natural_of z) in
          let j = subst (IsTarget rows s kinds) e i in
          ((sh, rw h.0 h.2, subst (λ (g : Field). RefersBy rows s g (number_of rows s p) to) (sym f) (z ∙ ap pos e, j)), j)

      link-refers : (kinds : List ℕ) → field_of sh p ≡ link kinds → (row_count rows ≤ to) ⊎ (Refers rows s p to × IsTarget rows s kinds to)
      unfolding Leads Refers RefersBy
      link-refers kinds f = go (subst (λ (g : Field). Leads rows s g (number_of rows s p)) f (leads-at rows A s k sh l h p))
        where
          go : ((number_of rows s p ≡ negsuc 0) ⊎ ((t : ℕ) × (number_of rows s p ≡ pos t) × IsTarget rows s kinds t)) → (row_count rows ≤ to) ⊎ (Refers rows s p to × IsTarget rows s kinds to)
          go (inl z) = inl (let e : to ≡ 4294967295 = ap natural_of z in let m = few-rows rows A in omega arith)
          go (inr (t, z, i)) =
              let e : t ≡ to = sym (ap natural_of z) in
              let j = subst (IsTarget rows s kinds) e i in
              inr ((sh, rw h.0 h.2, subst (λ (g : Field). RefersBy rows s g (number_of rows s p) to) (sym f) (z ∙ ap pos e, j)), j)

      -- to an expression, to an element as a target
      expression-named : field_of sh p ≡ expression → OfAction rows r s → InExpr M (content_at rows to).expr → Named
      expression-named f o i =
          let (g, t) = field-refers expressions f in
          let low = of-each (λ j. j < 20) (kind_at rows to) expressions t.2 (omega arith, (omega arith, (omega arith, (omega arith, tt)))) in
          low-named to t.1 (its-part p o g (inl low)) low (in-expr i)

      target-named : field_of sh p ≡ reference (11 ∷ []) → OfAction rows r s → InExpr M (element (content_at rows to).target.name (content_at rows to).target.subscript) → Named
      target-named f o i =
          let (g, t) = field-refers (11 ∷ []) f in
          let low : kind_at rows to < 20 = (let e = Memᴰ.eq_of_singleton t.2 in omega arith) in
          low-named to t.1 (its-part p o g (inl low)) low (target_at rows M passed s to t i)

      -- to a link of kind j
      link-named : (P : Content → Type 0) → (P no_content → ⊥) → (j : ℕ) → 40 ≤ j → field_of sh p ≡ link (j ∷ []) → OfAction rows r s
          → ((a : ℕ) → s < a → a < row_count rows → OfAction rows r a → kind_at rows a ≡ j → P (content_at rows a) → Named) → P (content_at rows to) → Named
      link-named P none-there j m f o rest i = go (link-refers (j ∷ []) f)
        where
          go : (row_count rows ≤ to) ⊎ (Refers rows s p to × IsTarget rows s (j ∷ []) to) → Named
          go (inl past) = absurd (none-there (subst P (part-past rows to past) i))
          go (inr (g, t)) = let e = Memᴰ.eq_of_singleton t.2 in rest to t.0 t.1 (its-part p o g (inr (inl (omega arith)))) e i

    -- the fields of a row, by its kind
    abbrev input-shape : Shape
    input-shape = shape 23 (channel (0 ∷ 1 ∷ [])) expression (reference (11 ∷ []))

    abbrev guard-shape : Shape
    guard-shape = shape 43 expression (reference (21 ∷ 23 ∷ [])) unused

    -- in an input
    abbrev input_at : ℕ → ChannelInput
    input_at s = record { channel = source_at rows (natural_at rows s 1); subscript = (content_at rows (natural_at rows s 2)).expr; target = (content_at rows (natural_at rows s 3)).target }

    input-named : (s : ℕ) → s < row_count rows → kind_at rows s ≡ 23 → OfAction rows r s → InReceive M (input_at s) → Named
    unfolding shape_of shape_in shapes
    input-named s l e o h = ⊎_elim (λ i. target (inl i)) (λ i. ⊎_elim (expression-named s 23 input-shape of-b l (e, omega arith, refl) refl o) target i) h
      where
        target : InExpr M (element (input_at s).target.name (input_at s).target.subscript) → Named
        target = target-named s 23 input-shape of_c l (e, omega arith, refl) refl o

    -- in a guard
    guard-input-named : (c : ℕ) → c < row_count rows → OfAction rows r c → Memᴰ (kind_at rows c) (21 ∷ 23 ∷ []) → InInput M (content_at rows c).guard.input → Named
    guard-input-named c l o m = of-each Of-kind (kind_at rows c) (21 ∷ 23 ∷ []) m (plain, (an-input, tt)) refl
      where
        Of-kind : ℕ → Type 0
        Of-kind k = kind_at rows c ≡ k → InInput M (content_at rows c).guard.input → Named

        plain : Of-kind 21
        plain e h = absurd (subst (λ (x : Content). InInput M x.guard.input) (content-by c 21 l e) h)

        an-input : Of-kind 23
        an-input e h = input-named c l e o (subst (λ (x : Content). InInput M x.guard.input) (content-by c 23 l e) h)

    guard-named : (c : ℕ) → c < row_count rows → OfAction rows r c → Memᴰ (kind_at rows c) (23 ∷ 43 ∷ []) → InGuard M (content_at rows c).guard → Named
    unfolding shape_of shape_in shapes
    guard-named c l o m = of-each Of-kind (kind_at rows c) (23 ∷ 43 ∷ []) m (an-input, (a-guard, tt)) refl
      where
        Of-kind : ℕ → Type 0
        Of-kind k = kind_at rows c ≡ k → InGuard M (content_at rows c).guard → Named

        an-input : Of-kind 23
        an-input e h = ⊎_elim (λ i. absurd i) (input-named c l e o) (subst (λ (x : Content). InGuard M x.guard) (content-by c 23 l e) h)

        a-guard : Of-kind 43
        a-guard e h = ⊎_elim (expression-named c 43 guard-shape of-a l (e, omega arith, refl) refl o) inner (subst (λ (x : Content). InGuard M x.guard) (content-by c 43 l e) h)
          where
            inner : InInput M (content_at rows (natural_at rows c 2)).guard.input → Named
            inner i =
                let (g, t) = field-refers c 43 guard-shape of-b l (e, omega arith, refl) (21 ∷ 23 ∷ []) refl in
                guard-input-named (natural_at rows c 2) t.1 (its-part of-b o g (inr (inr (of_guard c e g)))) t.2 i

    -- in choices and options, by the distance to the table's end
    choices-named : (k a : ℕ) → row_count rows ≤ a + k → a < row_count rows → OfAction rows r a → kind_at rows a ≡ 41 → InChoices M (content_at rows a).tests → Named
    unfolding shape_of shape_in shapes
    choices-named zero a m l o e h = absurd (omega arith)
    choices-named (suc k) a m l o e h =
        ⊎_elim (expression-named a 41 choice-shape of_c l (e, omega arith, refl) refl o)
        (link-named a 41 choice-shape of-b l (e, omega arith, refl) (λ x. InChoices M x.tests) (λ z. z) 41 (omega arith) refl o (λ b u. choices-named k b (omega arith)))
        (subst (λ (x : Content). InChoices M x.tests) (content-by a 41 l e) h)

    options-named : (k a : ℕ) → row_count rows ≤ a + k → a < row_count rows → OfAction rows r a → kind_at rows a ≡ 42 → InOptions M (content_at rows a).options → Named
    unfolding shape_of shape_in shapes
    options-named zero a m l o e h = absurd (omega arith)
    options-named (suc k) a m l o e h =
        ⊎_elim guarded
        (link-named a 42 option-shape of-b l (e, omega arith, refl) (λ x. InOptions M x.options) (λ z. z) 42 (omega arith) refl o (λ b u. options-named k b (omega arith)))
        (subst (λ (x : Content). InOptions M x.options) (content-by a 42 l e) h)
      where
        guarded : InGuard M (content_at rows (natural_at rows a 3)).guard → Named
        guarded i =
            let (g, t) = field-refers a 42 option-shape of_c l (e, omega arith, refl) (23 ∷ 43 ∷ []) refl in
            guard-named (natural_at rows a 3) t.1 (its-part of_c o g (inr (inr (of-option a e g)))) t.2 i

    -- in the action at row r, by its kind
    abbrev InActionOf : Option Process → Type 0
    InActionOf none = ⊥
    InActionOf (some p) = InAction M (action_of p)

    action-named : r < row_count rows → IsProcess rows r → InActionOf (content_at rows r).process → Named
    unfolding shape_of shape_in shapes
    action-named l m =
        of-each Of-kind (kind_at rows r) processes m
        (none_in 20 (λ h. h), (none_in 21 (λ h. h), (assigns, (inputs, (outputs, (none_in 30 (λ h. h), (none_in 31 (λ h. h), (chooses, (loops, (selects, (none_in 35 (λ h. h), tt))))))))))) refl
      where
        Of-kind : ℕ → Type 0
        Of-kind k = kind_at rows r ≡ k → InActionOf (content_at rows r).process → Named

        of-kind : (k : ℕ) → (InActionOf (part_by rows r k).process → Named) → Of-kind k
        of-kind k f e h = f (subst (λ (x : Content). InActionOf x.process) (content-by r k l e) h)

        none_in : (k : ℕ) → (InActionOf (part_by rows r k).process → ⊥) → Of-kind k
        none_in k f = of-kind k (λ h. absurd (f h))

        two : (k : ℕ) → kind_at rows r ≡ k → (sh : Shape) → Shaped rows r k sh → sh.b ≡ expression → sh.c ≡ expression
            → InExpr M (content_at rows (natural_at rows r 2)).expr ⊎ InExpr M (content_at rows (natural_at rows r 3)).expr → Named
        two k e sh h f g = ⊎_elim (expression-named r k sh of-b l h f its-row) (expression-named r k sh of_c l h g its-row)

        assigns : Of-kind 22
        assigns e = of-kind 22 (λ h. ⊎_elim itself (two 22 e (shape 22 variable expression expression) (e, omega arith, refl) refl refl) h) e
          where
            itself : M.at_assignment (variable_at rows (natural_at rows r 1)) (content_at rows (natural_at rows r 2)).expr → Named
            itself i =
                let (g, t) = field-refers r 22 (shape 22 variable expression expression) of-b l (e, omega arith, refl) expressions refl in
                let (j, u, c) = (cells_is rows passed n r (natural_at rows r 1) (natural_at rows r 2) t).0 i in
                (r, natural_at rows r 1, j, its-row, (inr e, refl), u)

        inputs : Of-kind 23
        inputs e = of-kind 23 (input-named r l e its-row) e

        outputs : Of-kind 24
        outputs e = of-kind 24 (λ h. ⊎_elim (λ i. absurd i) (two 24 e (shape 24 (channel (0 ∷ 2 ∷ [])) expression expression) (e, omega arith, refl) refl refl) h) e

        chooses : Of-kind 32
        chooses e =
            of-kind 32
            (link-named r 32 (members-shape 32 41) of-a l (e, omega arith, refl) (λ x. InChoices M x.tests) (λ z. z) 41 (omega arith) refl its-row (λ b u. choices-named (row_count rows) b (omega arith))) e

        loops : Of-kind 33
        loops e = of-kind 33 (expression-named r 33 while-shape of-a l (e, omega arith, refl) refl its-row) e

        selects : Of-kind 34
        selects e =
            of-kind 34
            (link-named r 34 (members-shape 34 42) of-a l (e, omega arith, refl) (λ x. InOptions M x.options) (λ z. z) 42 (omega arith) refl its-row (λ b u. options-named (row_count rows) b (omega arith))) e

    -- what the action uses
    pub uses-named : (k : Action) (ms : Processes) → (content_at rows r).process ≡ some (node k r ms) → Memᴰ n (uses k) → Named
    uses-named k ms e m =
        let (l, i) = process-kind rows A r (node k r ms) e in
        action-named l i (subst InActionOf (sym e) ((uses-is n k).0 m))
