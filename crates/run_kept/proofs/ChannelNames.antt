-- Channels by name: an element that a row may input from or output to is one of a channel that the row names, so rows with an element in common have a channel in common.
-- And the rows beneath a process in the tree are beneath its row in the table.
use mathlib.Core.Path.{◌≡◌, refl, ap, ◌∙◌, subst}
use mathlib.Core.Logic.{◌⊎◌, inl, inr, ⊎_elim}
use mathlib.Core.List.Memᴰ
use mathlib.Core.List.{List, [], ◌∷◌, Memᴰ}
use mathlib.Core.Option.{Option, none, some}
use Prim.Native.Nat.{ℕ, zero, suc, ◌+◌, ◌≤◌, ◌<◌}
use native.Mathlib.Decide.{dec_lt}
use native.Mathlib.Omega.{arith}
use lib.IntN.{ℤ}
use Rattle.meaning.specs.declared.Node.{Node}
use Rattle.meaning.specs.declared.Node.TheVariants.{Literal, Element, Monadic, Dyadic, Stop, Skip, Assignment, Input, Output, Seq, Par, If, While, Alt, Block, Member, Choice, OptionRow, Guard, Other}
use Rattle.meaning.specs.Rows.{row_count, natural_at, kind_at}
use Rattle.meaning.specs.Declarations.{elements_at, source_at, sink_at}
use Rattle.meaning.specs.Nodes.{node_at}
use Rattle.meaning.specs.References.{Beneath}
use Rattle.meaning.specs.Tree.{Process, Content, input_of, content_of, content_at, or_stop, action_of, processes_in, rows_beneath}
use Rattle.meaning.specs.Usage.{counts_for, inputs_by, of_guard, of_guards, input_elements, output_elements}
use Rattle.meaning.specs.State.{program, process_at}
use Rattle.meaning.proofs.AnswerLaws.{RightRows}
use Rattle.agreement.specs.VerdictClaims.{Passed}
use Rattle.agreement.proofs.UsageRows.{node-of-kind}
use Rattle.agreement.proofs.UsageParts.{fits_by, content-by}
use Rattle.agreement.proofs.UsageNumbers.{Numbers, numbers-one}
use Rattle.agreement.proofs.UsageNames.{elements-is}
use Rattle.agreement.proofs.ActionRows.{passed}
use Rattle.agreement.proofs.TableTree.{process-is, part-past}
use Rattle.agreement.proofs.TreeRows.{process-kind}
use Rattle.agreement.proofs.TreeBeneath.{beneath-rows}
use Rattle.run_kept.specs.ReadyClaims.{OptionOf, option-first, option-next, GuardInput, input-alone, input-guarded, ChannelOf, named-by-input, named-by-output, named-by-guard}

module _ (rows : List ℤ) (A : RightRows rows) where
  abbrev pass : Passed rows
  pass = passed rows A

  module _ (d : ℕ) where
    -- element d is one of the channel that row c declares
    abbrev ElementOf : ℕ → Type 0
    ElementOf c = (i : ℕ) × Numbers (elements_at rows) d c i

    -- it is one of a channel of row r
    abbrev pub Named : ℕ → Type 0
    Named r = (c : ℕ) × ChannelOf rows r c × ElementOf c

    input-element : (r a b c : ℕ) → r < row_count rows → node_at rows r ≡ Input a b c → Memᴰ d (inputs_by (input_of rows r (content_at rows) a b c)) → ElementOf a
    unfolding source_at
    input-element r a b c l e m =
        let f = fits_by rows pass r (Input a b c) l e in let p = (elements-is rows pass d r 1 a b f.0 f.1).0 m in (p.0, p.1)

    output-element : (r a b c : ℕ) → r < row_count rows → node_at rows r ≡ Output a b c → Memᴰ d (counts_for (sink_at rows a).first (sink_at rows a).size (content_at rows b).expr) → ElementOf a
    unfolding sink_at
    output-element r a b c l e m =
        let f = fits_by rows pass r (Output a b c) l e in let p = (elements-is rows pass d r 2 a b f.0 f.1).0 m in (p.0, p.1)

    -- in the guard at a row
    abbrev InGuard : ℕ → Type 0
    InGuard g = Memᴰ d (of_guard inputs_by (content_at rows g).guard.input)

    -- row i is an input from a channel with element d
    abbrev InputNamed : ℕ → Type 0
    InputNamed i = (c : ℕ) × ((b : ℕ) × ((e : ℕ) × (node_at rows i ≡ Input c b e))) × ElementOf c

    at-input : (i : ℕ) → i < row_count rows → kind_at rows i ≡ 23 → InGuard i → InputNamed i
    at-input i l k m =
        let a = natural_at rows i 1 in
        let b = natural_at rows i 2 in
        let c = natural_at rows i 3 in
        let e : node_at rows i ≡ Input a b c = node-of-kind rows i 23 k in
        (a, (b, (c, e)), input-element i a b c l e (subst (λ (x : Content). Memᴰ d (of_guard inputs_by x.guard.input)) (content-by rows pass i (Input a b c) l e) m))

    at-skip : (i : ℕ) → i < row_count rows → kind_at rows i ≡ 21 → InGuard i → ⊥
    at-skip i l k m = Memᴰ.not-nil (subst (λ (x : Content). Memᴰ d (of_guard inputs_by x.guard.input)) (content-by rows pass i Skip l (node-of-kind rows i 21 k)) m)

    -- in the guard of an option
    option-named : (j a b g : ℕ) → j < row_count rows → node_at rows j ≡ OptionRow a b g → InGuard g → (i : ℕ) × GuardInput rows j i × InputNamed i
    option-named j a b g l e m = go (fits_by rows pass j (OptionRow a b g) l e).2
      where
        go : (j < g) × (g < row_count rows) × Memᴰ (kind_at rows g) (23 ∷ 43 ∷ []) → (i : ℕ) × GuardInput rows j i × InputNamed i
        go (u, v, w) = ⊎_elim (λ k. (g, input-alone e, at-input g v k m)) (λ k. guarded (Memᴰ.eq_of_singleton k)) (Memᴰ.cases_cons w)
          where
            guarded : kind_at rows g ≡ 43 → (i : ℕ) × GuardInput rows j i × InputNamed i
            guarded k =
                let y = natural_at rows g 1 in
                let i = natural_at rows g 2 in
                let h : node_at rows g ≡ Guard y i = node-of-kind rows g 43 k in
                let n : InGuard i = subst (λ (x : Content). Memᴰ d (of_guard inputs_by x.guard.input)) (content-by rows pass g (Guard y i) v h) m in
                let f = (fits_by rows pass g (Guard y i) v h).1 in
                ⊎_elim (λ q. absurd (at-skip i f.1 q n)) (λ q. (i, input-guarded e h, at-input i f.1 (Memᴰ.eq_of_singleton q) n)) (Memᴰ.cases_cons f.2)

    -- in the guards of the options from row j on
    options-named : (r k j : ℕ) → row_count rows ≤ j + k → OptionOf rows r j → (j < row_count rows → Memᴰ (kind_at rows j) (42 ∷ [])) → Memᴰ d (of_guards inputs_by (content_at rows j).options) → Named r
    options-named r zero j t o h m = absurd (Memᴰ.not-nil (subst (λ (x : Content). Memᴰ d (of_guards inputs_by x.options)) (part-past rows j (omega arith)) m))
    options-named r (suc k) j t o h m = go (dec_lt j (row_count rows)) (λ b u v w n. options-named r k b u v w n)
      where
        go : Dec (j < row_count rows) → ((b : ℕ) → row_count rows ≤ b + k → OptionOf rows r b → (b < row_count rows → Memᴰ (kind_at rows b) (42 ∷ [])) → Memᴰ d (of_guards inputs_by (content_at rows b).options) → Named r) → Named r
        go (no l) f = absurd (Memᴰ.not-nil (subst (λ (x : Content). Memᴰ d (of_guards inputs_by x.options)) (part-past rows j (omega arith)) m))
        go (yes l) f =
            let a = natural_at rows j 1 in
            let b = natural_at rows j 2 in
            let g = natural_at rows j 3 in
            let e : node_at rows j ≡ OptionRow a b g = node-of-kind rows j 42 (Memᴰ.eq_of_singleton (h l)) in
            let u = (fits_by rows pass j (OptionRow a b g) l e).1 in
            ⊎_elim
            (λ i. let (q, z, w) = option-named j a b g l e i in (w.0, named-by-guard o z w.1.1.1, w.2))
            (λ i. f b (let w = u.0 in omega arith) (option-next o e) u.1 i)
            (Memᴰ.append_cases (of_guard inputs_by (content_at rows g).guard.input) (subst (λ (x : Content). Memᴰ d (of_guards inputs_by x.options)) (content-by rows pass j (OptionRow a b g) l e) m))

    -- an element that a process may input from or output to
    abbrev Reaches : Process → Type 0
    Reaches p = Memᴰ d (input_elements (action_of p)) ⊎ Memᴰ d (output_elements (action_of p))

    no-element : {X : Type 0} → Memᴰ d [] ⊎ Memᴰ d [] → X
    no-element h = absurd (⊎_elim Memᴰ.not-nil Memᴰ.not-nil h)

    node-named : (r : ℕ) → r < row_count rows → (x : Node) → node_at rows r ≡ x → Reaches (or_stop (content_of rows r (content_at rows) x).process) → Named r
    node-named r l (Literal x) e h = no-element h
    node-named r l (Element a b) e h = no-element h
    node-named r l (Monadic a b) e h = no-element h
    node-named r l (Dyadic a b c) e h = no-element h
    node-named r l Stop e h = no-element h
    node-named r l Skip e h = no-element h
    node-named r l (Assignment a b c) e h = no-element h
    node-named r l (Input a b c) e (inl h) = (a, named-by-input e, input-element r a b c l e h)
    node-named r l (Input a b c) e (inr h) = absurd (Memᴰ.not-nil h)
    node-named r l (Output a b c) e (inl h) = absurd (Memᴰ.not-nil h)
    node-named r l (Output a b c) e (inr h) = (a, named-by-output e, output-element r a b c l e h)
    node-named r l (Seq a) e h = no-element h
    node-named r l (Par a) e h = no-element h
    node-named r l (If a) e h = no-element h
    node-named r l (While a b) e h = no-element h
    node-named r l (Alt a) e (inl h) = options-named r (row_count rows) a (omega arith) (option-first e) (fits_by rows pass r (Alt a) l e).1 h
    node-named r l (Alt a) e (inr h) = absurd (Memᴰ.not-nil h)
    node-named r l (Block a b) e h = no-element h
    node-named r l (Member a b) e h = no-element h
    node-named r l (Choice a b c) e h = no-element h
    node-named r l (OptionRow a b c) e h = no-element h
    node-named r l (Guard a b) e h = no-element h
    node-named r l Other e h = no-element h

    named : (r : ℕ) → Reaches (process_at (program rows) r) → Named r
    named r h = go (dec_lt r (row_count rows))
      where
        there : (x : Content) → content_at rows r ≡ x → Reaches (or_stop x.process)
        there x e = subst Reaches (process-is rows r ∙ ap (λ (y : Content). or_stop y.process) e) h

        go : Dec (r < row_count rows) → Named r
        go (yes l) = node-named r l (node_at rows r) refl (there (content_of rows r (content_at rows) (node_at rows r)) (content-by rows pass r (node_at rows r) l refl))
        go (no l) = no-element (there _ (part-past rows r (omega arith)))

    -- an element in common means a channel in common
    pub common-channel : (r p : ℕ) → Memᴰ d (input_elements (action_of (process_at (program rows) r))) → Memᴰ d (output_elements (action_of (process_at (program rows) p))) → (c : ℕ) × ChannelOf rows r c × ChannelOf rows p c
    common-channel r p h g =
        let (c, u, m) = named r (inl h) in
        let (e, v, n) = named p (inr g) in
        (c, u, subst (ChannelOf rows p) (numbers-one (elements_at rows) d e n.0 c m.0 n.1 m.1).0 v)

  -- rows beneath in the tree are beneath in the table
  pub tree-beneath : (r b : ℕ) → Memᴰ b (rows_beneath (processes_in (process_at (program rows) r))) → Beneath rows r b
  tree-beneath r b m = go (content_at rows r).process refl
    where
      go : (o : Option Process) → (content_at rows r).process ≡ o → Beneath rows r b
      go none e = absurd (Memᴰ.not-nil (subst (λ (p : Process). Memᴰ b (rows_beneath (processes_in p))) (process-is rows r ∙ ap or_stop e) m))
      go (some p) e = let (l, k) = process-kind rows A r p e in ((beneath-rows rows A r l k b).0 m).0
