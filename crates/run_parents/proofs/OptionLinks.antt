-- The options of an ALT along their links, by the kinds of rows.
use mathlib.Core.Path.{◌≡◌, refl, ap, ◌∙◌}
use mathlib.Core.Bool.{Bool}
use mathlib.Core.List.{List, [], ◌∷◌}
use Prim.Native.Nat.{ℕ, ◌<◌, ◌≤◌}
use lib.IntN.{ℤ}
use Rattle.meaning.specs.Basics.{among, lowest}
use Rattle.meaning.specs.declared.Node.{Node}
use Rattle.meaning.specs.Rows.{row_count, kind_at}
use Rattle.meaning.specs.Tree.{Content, content_of, content_at, or_stop, action_of}
use Rattle.meaning.specs.State.{program, process_at}
use Rattle.agreement.proofs.OptionRows.{rows_of_options, option_rows}
use Rattle.agreement.proofs.TableTree.{part-past, process-is}
use Rattle.base_layout.specs.Operands.{operand_at}
use Rattle.base_layout.proofs.Parts.{higher_content, part-of-kind, operand-part}
use Rattle.agreement.proofs.Separate.{processes-length}
use Rattle.machine.specs.RowSteps.{alt_of}
use Rattle.run_parents.proofs.KindCases.{kind-cases}

module _ (rows : List ℤ) where
  -- the rows of the options from row t on
  abbrev pub options_from : ℕ → List ℕ
  options_from t = rows_of_options (content_at rows t).options

  pub options-past : (t : ℕ) → row_count rows ≤ t → options_from t ≡ []
  options-past t l = ap (λ (p : Content). rows_of_options p.options) (part-past rows t l)

  -- is row j an option of row r
  abbrev pub is_option_of : ℕ → ℕ → Bool
  is_option_of j r = among j (option_rows (action_of (process_at (program rows) r)))

  -- the ALT of an option is the lowest row that it is an option of
  pub alt-lowest : (j : ℕ) → alt_of (program rows) j ≡ lowest (is_option_of j) (row_count rows)
  unfolding alt_of
  alt-lowest j = ap (lowest (is_option_of j)) (processes-length rows)

  module _ (t : ℕ) (h : t < row_count rows) where
    pub options-here : kind_at rows t ≡ 42 → options_from t ≡ t ∷ options_from (operand_at rows t 2)
    options-here e = ap (λ (p : Content). rows_of_options p.options) (part-of-kind rows t 42 h e) ∙ ap (λ (p : Content). t ∷ rows_of_options p.options) (operand-part rows t 2)

    pub options-none : (kind_at rows t ≡ 42 → ⊥) → options_from t ≡ []
    options-none n =
        ap (λ (p : Content). rows_of_options p.options) (part-of-kind rows t (kind_at rows t) h refl)
        ∙ kind-cases (λ (m : Node). rows_of_options (content_of rows t (higher_content rows t) m).options ≡ []) (kind_at rows t) _ _ _ _
        (λ e. refl) (λ e. refl) (λ e. refl) (λ e. refl) (λ e. refl) (λ e. refl) (λ e. refl) (λ e. refl) (λ e. refl) (λ e. refl)
        (λ e. refl) (λ e. refl) (λ e. refl) (λ e. refl) (λ e. refl) (λ e. refl) (λ e. refl) (λ e. absurd (n e)) (λ e. refl) refl

    -- an ALT has those from its first option on, any other row none
    pub alt-options : kind_at rows t ≡ 34 → option_rows (action_of (process_at (program rows) t)) ≡ options_from (operand_at rows t 1)
    alt-options e =
        rw (process-is rows t) (ap (λ (p : Content). option_rows (action_of (or_stop p.process))) (part-of-kind rows t 34 h e)
        ∙ ap (λ (p : Content). rows_of_options p.options) (operand-part rows t 1))

    pub no-options : (kind_at rows t ≡ 34 → ⊥) → option_rows (action_of (process_at (program rows) t)) ≡ []
    no-options n =
        rw (process-is rows t) (ap (λ (p : Content). option_rows (action_of (or_stop p.process))) (part-of-kind rows t (kind_at rows t) h refl)
        ∙ kind-cases (λ (m : Node). option_rows (action_of (or_stop (content_of rows t (higher_content rows t) m).process)) ≡ []) (kind_at rows t) _ _ _ _
        (λ e. refl) (λ e. refl) (λ e. refl) (λ e. refl) (λ e. refl) (λ e. refl) (λ e. refl) (λ e. refl) (λ e. refl) (λ e. refl)
        (λ e. refl) (λ e. refl) (λ e. refl) (λ e. absurd (n e)) (λ e. refl) (λ e. refl) (λ e. refl) (λ e. refl) (λ e. refl) refl)
