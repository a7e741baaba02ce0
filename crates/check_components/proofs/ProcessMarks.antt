-- What the choices, options, members and the process of a row count for, from what the rows that it refers to do.
use mathlib.Core.Path.{◌≡◌, refl, ap, ap₂, ◌∙◌}
use mathlib.Core.Logic.{◌⊎◌, inl, inr}
use mathlib.Core.List.{List, [], ◌++◌, append-nil, append_assoc}
use Prim.Native.Nat.{ℕ, ◌<◌, ◌≤◌}
use lib.IntN.{ℤ}
use Rattle.meaning.specs.Rows.{row_count, field_at, natural_at, kind_at}
use Rattle.meaning.specs.Declarations.{variable_at, source_at, sink_at}
use Rattle.meaning.specs.Tree.{empty, assign, output, Content, content_of, content_at, input_of}
use Rattle.meaning.specs.Usage.{stands_in, of_guard, gather, gather_all}
use Rattle.base_layout.specs.Operands.{operand_at}
use Rattle.base_layout.proofs.Parts.{part-past, higher_content, part-of-kind}
use Rattle.base_layout.proofs.RowKinds.{each-kind, above-operand, by_kind}
use Rattle.check_components.specs.Marks.{mark_expr, mark_target, mark_input, mark_choices, mark_guard, mark_options, marks, own_marks, all_marks}
use Rattle.check_components.specs.Fields.{target_in, input_in, output_in}
use Rattle.check_components.proofs.Links.{and-member}

-- the kinds that have one process, in field b: a WHILE and a block
abbrev pub Single : ℕ → Type 0
Single k = (k ≡ 33) ⊎ (k ≡ 35)

module _ (rows : List ℤ) (r : ℕ) where
  -- past the table nothing counts
  module _ (h : row_count rows ≤ r) where
    pub past-choices : mark_choices (content_at rows r).tests ≡ []
    unfolding mark_choices
    past-choices = ap (λ (p : Content). mark_choices p.tests) (part-past rows r h)

    pub past-input : of_guard mark_input (content_at rows r).guard.input ≡ []
    past-input = ap (λ (p : Content). of_guard mark_input p.guard.input) (part-past rows r h)

    pub past-boolean : mark_expr (content_at rows r).guard.boolean ≡ []
    unfolding mark_expr stands_in
    past-boolean = ap (λ (p : Content). mark_expr p.guard.boolean) (part-past rows r h)

    pub past-options : mark_options (content_at rows r).options ≡ []
    unfolding mark_options
    past-options = ap (λ (p : Content). mark_options p.options) (part-past rows r h)

    pub past-process : all_marks (content_at rows r).process ≡ []
    past-process = ap (λ (p : Content). all_marks p.process) (part-past rows r h)

  -- an input by its operands
  of-input-is : input_of rows r (higher_content rows r) (natural_at rows r 1) (natural_at rows r 2) (natural_at rows r 3) ≡ input_in rows r
  unfolding input_in
  of-input-is =
      ap₂ (λ (p q : Content). record { channel = source_at rows (natural_at rows r 1); subscript = p.expr; target = q.target }) (above-operand rows r 2 refl) (above-operand rows r 3 refl)

  module _ (h : r < row_count rows) where
    -- choices and options
    pub choice-marks : kind_at rows r ≡ 41 → {b c : ℕ} → b ≡ operand_at rows r 2 → c ≡ operand_at rows r 3 → mark_choices (content_at rows r).tests ≡ mark_expr (content_at rows c).expr ++ mark_choices (content_at rows b).tests
    unfolding mark_choices
    choice-marks e p q =
        ap (λ (p : Content). mark_choices p.tests) (part-of-kind rows r 41 h e)
        ∙ ap₂ (λ (p q : Content). mark_expr q.expr ++ mark_choices p.tests) (above-operand rows r 2 p) (above-operand rows r 3 q)

    pub no-choices : (kind_at rows r ≡ 41 → ⊥) → mark_choices (content_at rows r).tests ≡ []
    unfolding mark_choices
    no-choices n41 =
        by_kind rows r h (λ p. mark_choices p.tests ≡ [])
        (each-kind (λ x. mark_choices (content_of rows r (higher_content rows r) x).tests ≡ []) (kind_at rows r) (field_at rows r 1) (natural_at rows r 1) (natural_at rows r 2) (natural_at rows r 3)
        (λ q. refl) (λ q. refl) (λ q. refl) (λ q. refl) (λ q. refl) (λ q. refl) (λ q. refl) (λ q. refl) (λ q. refl)
        (λ q. refl) (λ q. refl) (λ q. refl) (λ q. refl) (λ q. refl) (λ q. refl) (λ q. refl) (λ q. absurd (n41 q)) (λ q. refl) (λ q. refl) refl)

    pub input-marks : kind_at rows r ≡ 23 → of_guard mark_input (content_at rows r).guard.input ≡ mark_input (input_in rows r)
    input-marks e = ap (λ (p : Content). of_guard mark_input p.guard.input) (part-of-kind rows r 23 h e) ∙ ap mark_input of-input-is

    pub guard-marks : kind_at rows r ≡ 43 → {b : ℕ} → b ≡ operand_at rows r 2 → of_guard mark_input (content_at rows r).guard.input ≡ of_guard mark_input (content_at rows b).guard.input
    guard-marks e p = ap (λ (p : Content). of_guard mark_input p.guard.input) (part-of-kind rows r 43 h e) ∙ ap (λ (p : Content). of_guard mark_input p.guard.input) (above-operand rows r 2 p)

    pub no-input : (kind_at rows r ≡ 23 → ⊥) → (kind_at rows r ≡ 43 → ⊥) → of_guard mark_input (content_at rows r).guard.input ≡ []
    unfolding mark_input
    no-input n23 n43 =
        by_kind rows r h (λ p. of_guard mark_input p.guard.input ≡ [])
        (each-kind (λ x. of_guard mark_input (content_of rows r (higher_content rows r) x).guard.input ≡ []) (kind_at rows r) (field_at rows r 1) (natural_at rows r 1) (natural_at rows r 2) (natural_at rows r 3)
        (λ q. refl) (λ q. refl) (λ q. refl) (λ q. refl) (λ q. refl) (λ q. refl) (λ q. refl) (λ q. absurd (n23 q)) (λ q. refl)
        (λ q. refl) (λ q. refl) (λ q. refl) (λ q. refl) (λ q. refl) (λ q. refl) (λ q. refl) (λ q. refl) (λ q. refl) (λ q. absurd (n43 q)) refl)

    pub boolean-marks : kind_at rows r ≡ 43 → {b : ℕ} → b ≡ operand_at rows r 1 → mark_expr (content_at rows r).guard.boolean ≡ mark_expr (content_at rows b).expr
    boolean-marks e p = ap (λ (p : Content). mark_expr p.guard.boolean) (part-of-kind rows r 43 h e) ∙ ap (λ (p : Content). mark_expr p.expr) (above-operand rows r 1 p)

    pub no-boolean : (kind_at rows r ≡ 43 → ⊥) → mark_expr (content_at rows r).guard.boolean ≡ []
    unfolding mark_expr stands_in
    no-boolean n43 =
        by_kind rows r h (λ p. mark_expr p.guard.boolean ≡ [])
        (each-kind (λ x. mark_expr (content_of rows r (higher_content rows r) x).guard.boolean ≡ []) (kind_at rows r) (field_at rows r 1) (natural_at rows r 1) (natural_at rows r 2) (natural_at rows r 3)
        (λ q. refl) (λ q. refl) (λ q. refl) (λ q. refl) (λ q. refl) (λ q. refl) (λ q. refl) (λ q. refl) (λ q. refl)
        (λ q. refl) (λ q. refl) (λ q. refl) (λ q. refl) (λ q. refl) (λ q. refl) (λ q. refl) (λ q. refl) (λ q. refl) (λ q. absurd (n43 q)) refl)

    pub option-marks : kind_at rows r ≡ 42 → {b c : ℕ} → b ≡ operand_at rows r 2 → c ≡ operand_at rows r 3
        → mark_options (content_at rows r).options ≡ mark_expr (content_at rows c).guard.boolean ++ (of_guard mark_input (content_at rows c).guard.input ++ mark_options (content_at rows b).options)
    unfolding mark_options mark_guard
    option-marks e {b} {c} p q =
        ap (λ (p : Content). mark_options p.options) (part-of-kind rows r 42 h e)
        ∙ ap₂ (λ (p q : Content). mark_guard q.guard ++ mark_options p.options) (above-operand rows r 2 p) (above-operand rows r 3 q)
        ∙ append_assoc (mark_expr (content_at rows c).guard.boolean) (of_guard mark_input (content_at rows c).guard.input) (mark_options (content_at rows b).options)

    pub no-options : (kind_at rows r ≡ 42 → ⊥) → mark_options (content_at rows r).options ≡ []
    unfolding mark_options
    no-options n42 =
        by_kind rows r h (λ p. mark_options p.options ≡ [])
        (each-kind (λ x. mark_options (content_of rows r (higher_content rows r) x).options ≡ []) (kind_at rows r) (field_at rows r 1) (natural_at rows r 1) (natural_at rows r 2) (natural_at rows r 3)
        (λ q. refl) (λ q. refl) (λ q. refl) (λ q. refl) (λ q. refl) (λ q. refl) (λ q. refl) (λ q. refl) (λ q. refl)
        (λ q. refl) (λ q. refl) (λ q. refl) (λ q. refl) (λ q. refl) (λ q. refl) (λ q. refl) (λ q. refl) (λ q. absurd (n42 q)) (λ q. refl) refl)

    -- what a process does by itself
    pub assign-marks : kind_at rows r ≡ 22 → {c : ℕ} → c ≡ operand_at rows r 3 → own_marks (content_at rows r).process ≡ mark_target (target_in rows r) ++ mark_expr (content_at rows c).expr
    unfolding marks target_in
    assign-marks e q =
        ap (λ (p : Content). own_marks p.process) (part-of-kind rows r 22 h e)
        ∙ ap₂ (λ (p q : Content). marks (assign (variable_at rows (natural_at rows r 1)) p.expr q.expr)) (above-operand rows r 2 refl) (above-operand rows r 3 q)

    pub own-input : kind_at rows r ≡ 23 → own_marks (content_at rows r).process ≡ mark_input (input_in rows r)
    unfolding marks
    own-input e = ap (λ (p : Content). own_marks p.process) (part-of-kind rows r 23 h e) ∙ ap mark_input of-input-is

    pub own-output : kind_at rows r ≡ 24 → own_marks (content_at rows r).process ≡ marks (output_in rows r)
    unfolding output_in
    own-output e =
        ap (λ (p : Content). own_marks p.process) (part-of-kind rows r 24 h e)
        ∙ ap₂ (λ (p q : Content). marks (output (sink_at rows (natural_at rows r 1)) p.expr q.expr)) (above-operand rows r 2 refl) (above-operand rows r 3 refl)

    pub own-choices : kind_at rows r ≡ 32 → {b : ℕ} → b ≡ operand_at rows r 1 → own_marks (content_at rows r).process ≡ mark_choices (content_at rows b).tests
    unfolding marks
    own-choices e p = ap (λ (p : Content). own_marks p.process) (part-of-kind rows r 32 h e) ∙ ap (λ (p : Content). mark_choices p.tests) (above-operand rows r 1 p)

    pub own-loop : kind_at rows r ≡ 33 → {b : ℕ} → b ≡ operand_at rows r 1 → own_marks (content_at rows r).process ≡ mark_expr (content_at rows b).expr
    unfolding marks
    own-loop e p = ap (λ (p : Content). own_marks p.process) (part-of-kind rows r 33 h e) ∙ ap (λ (p : Content). mark_expr p.expr) (above-operand rows r 1 p)

    pub own-options : kind_at rows r ≡ 34 → {b : ℕ} → b ≡ operand_at rows r 1 → own_marks (content_at rows r).process ≡ mark_options (content_at rows b).options
    unfolding marks
    own-options e p = ap (λ (p : Content). own_marks p.process) (part-of-kind rows r 34 h e) ∙ ap (λ (p : Content). mark_options p.options) (above-operand rows r 1 p)

    pub own-none : (kind_at rows r ≡ 22 → ⊥) → (kind_at rows r ≡ 23 → ⊥) → (kind_at rows r ≡ 24 → ⊥) → (kind_at rows r ≡ 32 → ⊥) → (kind_at rows r ≡ 33 → ⊥) → (kind_at rows r ≡ 34 → ⊥) → own_marks (content_at rows r).process ≡ []
    unfolding marks
    own-none n22 n23 n24 n32 n33 n34 =
        by_kind rows r h (λ p. own_marks p.process ≡ [])
        (each-kind (λ x. own_marks (content_of rows r (higher_content rows r) x).process ≡ []) (kind_at rows r) (field_at rows r 1) (natural_at rows r 1) (natural_at rows r 2) (natural_at rows r 3)
        (λ q. refl) (λ q. refl) (λ q. refl) (λ q. refl) (λ q. refl) (λ q. refl) (λ q. absurd (n22 q)) (λ q. absurd (n23 q)) (λ q. absurd (n24 q))
        (λ q. refl) (λ q. refl) (λ q. absurd (n32 q)) (λ q. absurd (n33 q)) (λ q. absurd (n34 q)) (λ q. refl) (λ q. refl) (λ q. refl) (λ q. refl) (λ q. refl) refl)

    -- a process with its members
    pub all-of-seq : kind_at rows r ≡ 30 → {a : ℕ} → a ≡ operand_at rows r 1 → all_marks (content_at rows r).process ≡ own_marks (content_at rows r).process ++ gather_all (content_at rows a).listed marks
    unfolding gather
    all-of-seq e p = rw (part-of-kind rows r 30 h e, above-operand rows r 1 p)

    pub all-of-if : kind_at rows r ≡ 32 → {a : ℕ} → a ≡ operand_at rows r 1 → all_marks (content_at rows r).process ≡ own_marks (content_at rows r).process ++ gather_all (content_at rows a).listed marks
    unfolding gather
    all-of-if e p = rw (part-of-kind rows r 32 h e, above-operand rows r 1 p)

    pub all-of-alt : kind_at rows r ≡ 34 → {a : ℕ} → a ≡ operand_at rows r 1 → all_marks (content_at rows r).process ≡ own_marks (content_at rows r).process ++ gather_all (content_at rows a).listed marks
    unfolding gather
    all-of-alt e p = rw (part-of-kind rows r 34 h e, above-operand rows r 1 p)

    all-of-while : kind_at rows r ≡ 33 → {b : ℕ} → b ≡ operand_at rows r 2 → all_marks (content_at rows r).process ≡ own_marks (content_at rows r).process ++ all_marks (content_at rows b).process
    unfolding gather gather_all
    all-of-while e {b} p = rw (part-of-kind rows r 33 h e, above-operand rows r 2 p, and-member (content_at rows b).process empty, append-nil (all_marks (content_at rows b).process))

    all-of-block : kind_at rows r ≡ 35 → {b : ℕ} → b ≡ operand_at rows r 2 → all_marks (content_at rows r).process ≡ own_marks (content_at rows r).process ++ all_marks (content_at rows b).process
    unfolding gather gather_all
    all-of-block e {b} p = rw (part-of-kind rows r 35 h e, above-operand rows r 2 p, and-member (content_at rows b).process empty, append-nil (all_marks (content_at rows b).process))

    pub all-of-single : Single (kind_at rows r) → {b : ℕ} → b ≡ operand_at rows r 2 → all_marks (content_at rows r).process ≡ own_marks (content_at rows r).process ++ all_marks (content_at rows b).process
    all-of-single (inl e) p = all-of-while e p
    all-of-single (inr e) p = all-of-block e p

    alone : (l : List ℕ) → l ++ [] ≡ l
    alone l = append-nil l

    pub all-alone : (kind_at rows r ≡ 30 → ⊥) → (kind_at rows r ≡ 31 → ⊥) → (kind_at rows r ≡ 32 → ⊥) → (Single (kind_at rows r) → ⊥) → (kind_at rows r ≡ 34 → ⊥) → all_marks (content_at rows r).process ≡ own_marks (content_at rows r).process
    unfolding gather gather_all
    all-alone n30 n31 n32 n n34 =
        by_kind rows r h (λ p. all_marks p.process ≡ own_marks p.process)
        (each-kind (λ x. all_marks (content_of rows r (higher_content rows r) x).process ≡ own_marks (content_of rows r (higher_content rows r) x).process) (kind_at rows r) (field_at rows r 1) (natural_at rows r 1) (natural_at rows r 2) (natural_at rows r 3)
        (λ q. refl) (λ q. refl) (λ q. refl) (λ q. refl) (λ q. alone _) (λ q. alone _) (λ q. alone _) (λ q. alone _) (λ q. alone _)
        (λ q. absurd (n30 q)) (λ q. absurd (n31 q)) (λ q. absurd (n32 q)) (λ q. absurd (n (inl q))) (λ q. absurd (n34 q)) (λ q. absurd (n (inr q))) (λ q. refl) (λ q. refl) (λ q. refl) (λ q. refl) refl)
