-- Of rows whose references lead to where they may: something at a row bears a mark exactly if a row within it does.
use mathlib.Core.Path.{◌≡◌, refl, sym, subst}
use mathlib.Core.Logic.{◌⊎◌, inl, inr, ⊎_elim, ◌↔◌}
use mathlib.Core.List.Memᴰ
use mathlib.Core.List.{List, [], ◌∷◌, Memᴰ}
use mathlib.Core.Bool.{Bool, true, false}
use Prim.Native.Nat.{ℕ, zero, suc, ◌+◌, ◌≤◌, ◌<◌}
use native.Mathlib.Decide.{dec_lt}
use native.Mathlib.Omega.{arith}
use lib.IntN.{ℤ}
use lib.Dec.{eqb}
use borrow.Author.Tests.{eqb-true}
use Rattle.meaning.specs.declared.Node.{Node}
use Rattle.meaning.specs.declared.Node.TheVariants.{Literal, Element, Monadic, Dyadic, Stop, Skip, Assignment, Input, Output, Seq, Par, If, While, Alt, Block, Member, Choice, OptionRow, Guard, Other}
use Rattle.meaning.specs.Basics.{if_else}
use Rattle.meaning.specs.Rows.{row_count, kind_at}
use Rattle.meaning.specs.Kinds.{expressions, processes}
use Rattle.meaning.specs.Declarations.{variable_at, source_at, sink_at}
use Rattle.meaning.specs.Nodes.{node_at}
use Rattle.meaning.specs.Tree.{element, monadic, given, Process, empty, Content, of_process, and_process, operation, content_of, content_at}
use Rattle.meaning.specs.References.{Column, field_of, number_of, IsTarget, Refers, Beneath, direct, further}
use Rattle.meaning.specs.Clash.{Within}
use Rattle.meaning.proofs.PartLaws.{part-unfolds}
use Rattle.meaning.proofs.ReferenceCounts.{bounds}
use Rattle.meaning.proofs.BlockLaws.{beneath-first}
use Rattle.agreement.specs.VerdictClaims.{Passed}
use Rattle.agreement.proofs.UsageRows.{ToLink, ToOperand, Fits}
use Rattle.agreement.proofs.UsageLists.{references, one, two, three, m0, m1, m2}
use Rattle.agreement.proofs.UsageReferences.{refers-listed, passed-fits, listed-refers}
use Rattle.agreement.proofs.UsageParts.{fits-higher, part-is, OfEach, part_by, part-by-kind}
use Rattle.agreement.proofs.UsageTree.{Mark, InExpr, InReceive, InChoices, InInput, InGuard, InOptions, InProcess, InMembers, InOption, InPart, in-expr, in-process, in_members, in-choices, in-options, in-guard, in-no-part, in-expr-part, in-element-part, in-process-part, in-guarded-part, in-guard-part, in-link-part, split-member, join-member}

module _ (rows : List ℤ) (M : Mark) where
  -- row r itself bears the mark
  abbrev pub Bears : Node → Type 0
  Bears (Literal x) = ⊥
  Bears (Element a b) = M.at_element (variable_at rows a) (content_at rows b).expr
  Bears (Monadic a b) = ⊥
  Bears (Dyadic a b c) = ⊥
  Bears Stop = ⊥
  Bears Skip = ⊥
  Bears (Assignment a b c) = M.at_assignment (variable_at rows a) (content_at rows b).expr
  Bears (Input a b c) = M.at_input (record { channel = source_at rows a; subscript = (content_at rows b).expr; target = (content_at rows c).target })
  Bears (Output a b c) = M.at_output (sink_at rows a) (content_at rows b).expr
  Bears (Seq a) = ⊥
  Bears (Par a) = ⊥
  Bears (If a) = ⊥
  Bears (While a b) = ⊥
  Bears (Alt a) = ⊥
  Bears (Block a b) = ⊥
  Bears (Member a b) = ⊥
  Bears (Choice a b c) = ⊥
  Bears (OptionRow a b c) = ⊥
  Bears (Guard a b) = ⊥
  Bears Other = ⊥

  -- something at a row bears it
  abbrev pub At : ℕ → Type 0
  At r = InPart M (content_at rows r)

  pub at-below : (r : ℕ) → At r → r < row_count rows
  at-below r h = go (dec_lt r (row_count rows))
    where
      go : Dec (r < row_count rows) → r < row_count rows
      go (yes l) = l
      go (no l) = absurd (in-no-part M (subst (InPart M) ((part-unfolds rows r).1 (omega arith)) h))

  module _ (passed : Passed rows) where
    fits : (r : ℕ) → r < row_count rows → Fits rows r (node_at rows r)
    fits = passed-fits rows passed

    -- where it is, in a row of given kinds
    by_kind : (P : Content → Type 0) (c : ℕ) (kinds : List ℕ) → c < row_count rows → Memᴰ (kind_at rows c) kinds → OfEach (λ k. P (part_by rows c k)) kinds → P (content_at rows c)
    by_kind P c kinds l m h = part-by-kind rows P c l (fits c l) kinds m h

    at-expr : (r c : ℕ) → IsTarget rows r expressions c → At c → InExpr M (content_at rows c).expr
    at-expr r c t = by_kind (λ x. InPart M x → InExpr M x.expr) c expressions t.1 t.2
        (in-expr-part M _, (in-element-part M _ _, (in-expr-part M _, (in-expr-part M _, tt))))

    pub at-process : (c : ℕ) → c < row_count rows → Memᴰ (kind_at rows c) processes → At c → InOption M (content_at rows c).process
    at-process c l m = by_kind (λ x. InPart M x → InOption M x.process) c processes l m
        (p _, (guarded, (p _, (input, (p _, (p _, (p _, (p _, (p _, (p _, (p _, tt)))))))))))
      where
        p : (x : Process) → InPart M (of_process x) → InProcess M x
        p = in-process-part M

        guarded : InPart M (part_by rows c 21) → InOption M (part_by rows c 21).process
        guarded h = ⊎_elim (λ z. z) (λ z. absurd z) (in-guarded-part M _ _ h)

        input : InPart M (part_by rows c 23) → InOption M (part_by rows c 23).process
        input h = ⊎_elim (λ z. z) (λ z. inl z) (in-guarded-part M _ _ h)

    -- an element as a target
    at_target : (r c : ℕ) → IsTarget rows r (11 ∷ []) c → At c → InExpr M (element (content_at rows c).target.name (content_at rows c).target.subscript)
    at_target r c t = by_kind (λ x. InPart M x → InExpr M (element x.target.name x.target.subscript)) c (11 ∷ []) t.1 t.2 (in-element-part M _ _, tt)

    pub target_at : (r c : ℕ) → IsTarget rows r (11 ∷ []) c → InExpr M (element (content_at rows c).target.name (content_at rows c).target.subscript) → At c
    target_at r c t = by_kind (λ x. InExpr M (element x.target.name x.target.subscript) → InPart M x) c (11 ∷ []) t.1 t.2 (in-expr, tt)

    -- a guard, and the input of a guard
    at-guard : (r c : ℕ) → IsTarget rows r (23 ∷ 43 ∷ []) c → At c → InGuard M (content_at rows c).guard
    at-guard r c t = by_kind (λ x. InPart M x → InGuard M x.guard) c (23 ∷ 43 ∷ []) t.1 t.2 (input, (in-guard-part M _, tt))
      where
        input : InPart M (part_by rows c 23) → InGuard M (part_by rows c 23).guard
        input h = inr (⊎_elim (λ z. ⊎_elim (λ i. i) (λ i. absurd i) z) (λ z. z) (in-guarded-part M _ _ h))

    at-input : (r c : ℕ) → IsTarget rows r (21 ∷ 23 ∷ []) c → At c → InInput M (content_at rows c).guard.input
    at-input r c t = by_kind (λ x. InPart M x → InInput M x.guard.input) c (21 ∷ 23 ∷ []) t.1 t.2 (plain, (input, tt))
      where
        plain : InPart M (part_by rows c 21) → InInput M (part_by rows c 21).guard.input
        plain h = ⊎_elim (λ z. ⊎_elim (λ i. i) (λ i. i) z) (λ z. z) (in-guarded-part M _ _ h)

        input : InPart M (part_by rows c 23) → InInput M (part_by rows c 23).guard.input
        input h = ⊎_elim (λ z. ⊎_elim (λ i. i) (λ i. absurd i) z) (λ z. z) (in-guarded-part M _ _ h)

    -- the links of members, choices, options
    at-members : (r c : ℕ) → ToLink rows r (40 ∷ []) c → At c → InMembers M (content_at rows c).listed
    at-members r c t h = by_kind (λ x. InPart M x → InMembers M x.listed) c (40 ∷ []) (at-below c h) (t.1 (at-below c h)) (link, tt) h
      where
        link : InPart M (part_by rows c 40) → InMembers M (part_by rows c 40).listed
        link i = ⊎_elim (λ z. z) (λ z. ⊎_elim (λ j. absurd j) (λ j. absurd j) z) (in-link-part M _ _ _ i)

    at-choices : (r c : ℕ) → ToLink rows r (41 ∷ []) c → At c → InMembers M (content_at rows c).listed ⊎ InChoices M (content_at rows c).tests
    at-choices r c t h = by_kind (λ x. InPart M x → InMembers M x.listed ⊎ InChoices M x.tests) c (41 ∷ []) (at-below c h) (t.1 (at-below c h)) (link, tt) h
      where
        link : InPart M (part_by rows c 41) → InMembers M (part_by rows c 41).listed ⊎ InChoices M (part_by rows c 41).tests
        link i = ⊎_elim (λ z. inl z) (λ z. ⊎_elim (λ j. inr j) (λ j. absurd j) z) (in-link-part M _ _ _ i)

    at-options : (r c : ℕ) → ToLink rows r (42 ∷ []) c → At c → InMembers M (content_at rows c).listed ⊎ InOptions M (content_at rows c).options
    at-options r c t h = by_kind (λ x. InPart M x → InMembers M x.listed ⊎ InOptions M x.options) c (42 ∷ []) (at-below c h) (t.1 (at-below c h)) (link, tt) h
      where
        link : InPart M (part_by rows c 42) → InMembers M (part_by rows c 42).listed ⊎ InOptions M (part_by rows c 42).options
        link i = ⊎_elim (λ z. inl z) (λ z. ⊎_elim (λ j. absurd j) (λ j. inr j) z) (in-link-part M _ _ _ i)

    -- a row itself, and what it refers to, bear the mark in it
    up-own : (r : ℕ) (x : Node) → Bears x → InPart M (content_of rows r (content_at rows) x)
    up-own r (Literal x) h = absurd h
    up-own r (Element a b) h = in-expr (inl h)
    up-own r (Monadic a b) h = absurd h
    up-own r (Dyadic a b c) h = absurd h
    up-own r Stop h = absurd h
    up-own r Skip h = absurd h
    up-own r (Assignment a b c) h = in-process (inl (inl h))
    up-own r (Input a b c) h = in-process (inl (inl h))
    up-own r (Output a b c) h = in-process (inl (inl h))
    up-own r (Seq a) h = absurd h
    up-own r (Par a) h = absurd h
    up-own r (If a) h = absurd h
    up-own r (While a b) h = absurd h
    up-own r (Alt a) h = absurd h
    up-own r (Block a b) h = absurd h
    up-own r (Member a b) h = absurd h
    up-own r (Choice a b c) h = absurd h
    up-own r (OptionRow a b c) h = absurd h
    up-own r (Guard a b) h = absurd h
    up-own r Other h = absurd h

    member : (r a b : ℕ) → IsTarget rows r processes a → At a → InMembers M (and_process (content_at rows a).process (content_at rows b).listed)
    member r a b t h = join-member M (content_at rows a).process (content_at rows b).listed (inl (at-process a t.1 t.2 h))

    others : (a b : ℕ) → InMembers M (content_at rows b).listed → InMembers M (and_process (content_at rows a).process (content_at rows b).listed)
    others a b h = join-member M (content_at rows a).process (content_at rows b).listed (inr h)

    -- what row r bears as node x, if row c does
    abbrev Up : ℕ → Node → ℕ → Type 0
    Up r x c = At c → InPart M (content_of rows r (content_at rows) x)

    -- an operation bears the mark exactly if its operand does
    operation-up : (r a b : ℕ) → ToOperand rows r a b → At b → InExpr M (operation a (content_at rows b))
    operation-up r a b f h = go (eqb a 2) refl
      where
        go : (t : Bool) → eqb a 2 ≡ t → InExpr M (if_else t (given (content_at rows b).target.name (content_at rows b).target.subscript) (monadic a (content_at rows b).expr))
        go true e = at_target r b (f.1 (eqb-true a 2 e)) h
        go false e = at-expr r b f.0 h

    operation-down : (r a b : ℕ) → ToOperand rows r a b → InExpr M (operation a (content_at rows b)) → At b
    operation-down r a b f h = go (eqb a 2) refl h
      where
        go : (t : Bool) → eqb a 2 ≡ t → InExpr M (if_else t (given (content_at rows b).target.name (content_at rows b).target.subscript) (monadic a (content_at rows b).expr)) → At b
        go true e i = target_at r b (f.1 (eqb-true a 2 e)) i
        go false e i = in-expr i

    up : (r : ℕ) (x : Node) → Fits rows r x → (c : ℕ) → Memᴰ c (references x) → Up r x c
    up r (Literal x) f = λ c m. absurd (Memᴰ.not-nil m)
    up r (Element a b) f = one (Up r (Element a b)) b (λ h. in-expr (inr (at-expr r b f h)))
    up r (Monadic a b) f = one (Up r (Monadic a b)) b (λ h. in-expr (operation-up r a b f h))
    up r (Dyadic a b c) f = two (Up r (Dyadic a b c)) b c (λ h. in-expr (inl (at-expr r b f.0 h))) (λ h. in-expr (inr (at-expr r c f.1 h)))
    up r Stop f = λ c m. absurd (Memᴰ.not-nil m)
    up r Skip f = λ c m. absurd (Memᴰ.not-nil m)
    up r (Assignment a b c) f =
        two (Up r (Assignment a b c)) b c (λ h. in-process (inl (inr (inl (at-expr r b f.0 h))))) (λ h. in-process (inl (inr (inr (at-expr r c f.1 h)))))
    up r (Input a b c) f =
        two (Up r (Input a b c)) b c (λ h. in-process (inl (inr (inl (at-expr r b f.1 h))))) (λ h. in-process (inl (inr (inr (at_target r c f.2 h)))))
    up r (Output a b c) f =
        two (Up r (Output a b c)) b c (λ h. in-process (inl (inr (inl (at-expr r b f.1 h))))) (λ h. in-process (inl (inr (inr (at-expr r c f.2 h)))))
    up r (Seq a) f = one (Up r (Seq a)) a (λ h. in-process (inr (at-members r a f h)))
    up r (Par a) f = one (Up r (Par a)) a (λ h. in-process (inr (at-members r a f h)))
    up r (If a) f = one (Up r (If a)) a (λ h. ⊎_elim (λ i. in-process (inr i)) (λ i. in-process (inl i)) (at-choices r a f h))
    up r (While a b) f =
        two (Up r (While a b)) a b (λ h. in-process (inl (at-expr r a f.0 h)))
        (λ h. in-process (inr (join-member M (content_at rows b).process empty (inl (at-process b f.1.1 f.1.2 h)))))
    up r (Alt a) f = one (Up r (Alt a)) a (λ h. ⊎_elim (λ i. in-process (inr i)) (λ i. in-process (inl i)) (at-options r a f h))
    up r (Block a b) f =
        one (Up r (Block a b)) b (λ h. in-process (inr (join-member M (content_at rows b).process empty (inl (at-process b f.1 f.2 h)))))
    up r (Member a b) f = two (Up r (Member a b)) a b (λ h. in_members (member r a b f.0 h)) (λ h. in_members (others a b (at-members r b f.1 h)))
    up r (Choice a b c) f =
        three (Up r (Choice a b c)) a b c (λ h. in_members (member r a b f.0 h))
        (λ h. ⊎_elim (λ i. in_members (others a b i)) (λ i. in-choices (inr i)) (at-choices r b f.1 h))
        (λ h. in-choices (inl (at-expr r c f.2 h)))
    up r (OptionRow a b c) f =
        three (Up r (OptionRow a b c)) a b c (λ h. in_members (member r a b f.0 h))
        (λ h. ⊎_elim (λ i. in_members (others a b i)) (λ i. in-options (inr i)) (at-options r b f.1 h))
        (λ h. in-options (inl (at-guard r c f.2 h)))
    up r (Guard a b) f = two (Up r (Guard a b)) a b (λ h. in-guard (inl (at-expr r a f.0 h))) (λ h. in-guard (inr (at-input r b f.1 h)))
    up r Other f = λ c m. absurd (Memᴰ.not-nil m)

    -- what bears the mark at row r is the row itself, or stands at a row that it refers to
    abbrev Down : Node → Type 0
    Down x = Bears x ⊎ ((c : ℕ) × Memᴰ c (references x) × At c)

    down-member : (x : Node) (a b : ℕ) → Memᴰ a (references x) → Memᴰ b (references x) → InMembers M (and_process (content_at rows a).process (content_at rows b).listed) → Down x
    down-member x a b m n h =
        ⊎_elim (λ i. inr (a, m, in-process i)) (λ i. inr (b, n, in_members i)) (split-member M (content_at rows a).process (content_at rows b).listed h)

    down : (r : ℕ) (x : Node) → Fits rows r x → InPart M (content_of rows r (content_at rows) x) → Down x
    down r (Literal x) f h = absurd (in-expr-part M _ h)
    down r (Element a b) f h = ⊎_elim (λ i. inl i) (λ i. inr (b, m0, in-expr i)) (in-element-part M _ _ h)
    down r (Monadic a b) f h = inr (b, m0, operation-down r a b f (in-expr-part M _ h))
    down r (Dyadic a b c) f h = ⊎_elim (λ i. inr (b, m0, in-expr i)) (λ i. inr (c, m1, in-expr i)) (in-expr-part M _ h)
    down r Stop f h = absurd (⊎_elim (λ i. i) (λ i. i) (in-process-part M _ h))
    down r Skip f h = absurd (⊎_elim (λ i. ⊎_elim (λ j. j) (λ j. j) i) (λ i. i) (in-guarded-part M _ _ h))
    down r (Assignment a b c) f h =
        ⊎_elim (λ i. ⊎_elim (λ j. inl j) (λ j. ⊎_elim (λ k. inr (b, m0, in-expr k)) (λ k. inr (c, m1, in-expr k)) j) i) (λ i. absurd i) (in-process-part M _ h)
    down r (Input a b c) f h = ⊎_elim (λ i. ⊎_elim input (λ j. absurd j) i) input (in-guarded-part M _ _ h)
      where
        input : InReceive M (record { channel = source_at rows a; subscript = (content_at rows b).expr; target = (content_at rows c).target }) → Down (Input a b c)
        input i = ⊎_elim (λ j. inl j) (λ j. ⊎_elim (λ k. inr (b, m0, in-expr k)) (λ k. inr (c, m1, target_at r c f.2 k)) j) i
    down r (Output a b c) f h =
        ⊎_elim (λ i. ⊎_elim (λ j. inl j) (λ j. ⊎_elim (λ k. inr (b, m0, in-expr k)) (λ k. inr (c, m1, in-expr k)) j) i) (λ i. absurd i) (in-process-part M _ h)
    down r (Seq a) f h = ⊎_elim (λ i. absurd i) (λ i. inr (a, m0, in_members i)) (in-process-part M _ h)
    down r (Par a) f h = ⊎_elim (λ i. absurd i) (λ i. inr (a, m0, in_members i)) (in-process-part M _ h)
    down r (If a) f h = ⊎_elim (λ i. inr (a, m0, in-choices i)) (λ i. inr (a, m0, in_members i)) (in-process-part M _ h)
    down r (While a b) f h =
        ⊎_elim (λ i. inr (a, m0, in-expr i))
        (λ i. ⊎_elim (λ j. inr (b, m1, in-process j)) (λ j. absurd j) (split-member M (content_at rows b).process empty i)) (in-process-part M _ h)
    down r (Alt a) f h = ⊎_elim (λ i. inr (a, m0, in-options i)) (λ i. inr (a, m0, in_members i)) (in-process-part M _ h)
    down r (Block a b) f h =
        ⊎_elim (λ i. absurd i)
        (λ i. ⊎_elim (λ j. inr (b, m0, in-process j)) (λ j. absurd j) (split-member M (content_at rows b).process empty i)) (in-process-part M _ h)
    down r (Member a b) f h = ⊎_elim (down-member (Member a b) a b m0 m1) (λ i. ⊎_elim (λ j. absurd j) (λ j. absurd j) i) (in-link-part M _ _ _ h)
    down r (Choice a b c) f h =
        ⊎_elim (down-member (Choice a b c) a b m0 m1)
        (λ i. ⊎_elim (λ j. ⊎_elim (λ k. inr (c, m2, in-expr k)) (λ k. inr (b, m1, in-choices k)) j) (λ j. absurd j) i) (in-link-part M _ _ _ h)
    down r (OptionRow a b c) f h =
        ⊎_elim (down-member (OptionRow a b c) a b m0 m1)
        (λ i. ⊎_elim (λ j. absurd j) (λ j. ⊎_elim (λ k. inr (c, m2, in-guard k)) (λ k. inr (b, m1, in-options k)) j) i) (in-link-part M _ _ _ h)
    down r (Guard a b) f h = ⊎_elim (λ i. inr (a, m0, in-expr i)) (λ i. inr (b, m1, in-guard (inr i))) (in-guard-part M _ h)
    down r Other f h = absurd (in-no-part M h)

    -- a row that bears the mark, within row r
    abbrev pub Some : ℕ → Type 0
    Some r = (d : ℕ) × Within rows r d × Bears (node_at rows d)

    within_first : {r c d : ℕ} (p : Column) → Refers rows r p c → Within rows c d → Within rows r d
    within_first {r} p f (inl e) = inr (direct p (subst (Refers rows r p) (sym e) f))
    within_first p f (inr w) = inr (beneath-first rows p f w)

    refers-below : (r c : ℕ) (p : Column) → Refers rows r p c → c < row_count rows
    unfolding Refers
    refers-below r c p h = (bounds rows c r (field_of h.0 p) (number_of rows r p) h.2).1

    beneath-below : {r d : ℕ} → Beneath rows r d → d < row_count rows
    beneath-below {r} {d} (direct p g) = refers-below r d p g
    beneath-below {r} (further {s} {t} p w g) = refers-below s t p g

    pub within-below : {r d : ℕ} → r < row_count rows → Within rows r d → d < row_count rows
    within-below l (inl e) = rw e l
    within-below l (inr w) = beneath-below w

    -- by the distance to the table's end
    some_at : (k r : ℕ) → row_count rows ≤ r + k → At r → Some r
    some_at zero r l h = absurd (let i = at-below r h in omega arith)
    some_at (suc k) r l h =
        let i = at-below r h in
        go (down r (node_at rows r) (fits r i) (subst (InPart M) (part-is rows r i (fits r i)) h)) (λ c g. some_at k c g)
      where
        go : Down (node_at rows r) → ((c : ℕ) → row_count rows ≤ c + k → At c → Some c) → Some r
        go (inl b) f = (r, inl refl, b)
        go (inr d) f =
            let i = at-below r h in
            let up = fits-higher rows r (node_at rows r) (fits r i) d.0 d.1 in
            let w = f d.0 (omega arith) d.2 in
            let g = listed-refers rows passed r i d.0 d.1 (at-below d.0 d.2) in
            (w.0, within_first g.0 g.1 w.1, w.2)

    at-refers : (r c : ℕ) (p : Column) → r < row_count rows → Refers rows r p c → At c → At r
    at-refers r c p l g h = subst (InPart M) (sym (part-is rows r l (fits r l))) (up r (node_at rows r) (fits r l) c (refers-listed rows r c p g) h)

    at-beneath : {r d : ℕ} → r < row_count rows → Beneath rows r d → At d → At r
    at-beneath {r} {d} l (direct p g) h = at-refers r d p l g h
    at-beneath l (further {s} {t} p w g) h = at-beneath l w (at-refers s t p (beneath-below w) g h)

    at-within : {r d : ℕ} → r < row_count rows → Within rows r d → At d → At r
    at-within l (inl e) h = subst At e h
    at-within l (inr w) h = at-beneath l w h

    -- something at a row bears the mark exactly if a row within it does
    pub at_some : (r : ℕ) → r < row_count rows → At r ↔ Some r
    at_some r l = (some_at (row_count rows) r (omega arith), from)
      where
        from : Some r → At r
        from h =
            let i = within-below l h.1 in
            at-within l h.1 (subst (InPart M) (sym (part-is rows h.0 i (fits h.0 i))) (up-own h.0 (node_at rows h.0) h.2))
