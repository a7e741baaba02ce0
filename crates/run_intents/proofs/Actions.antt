-- What a running row would do, by what its prepared row is.
use mathlib.Core.Path.{◌≡◌, refl, sym, ap, ap₂, ◌∙◌}
use mathlib.Core.List.{List}
use Prim.Native.Nat.{ℕ, ◌+◌, ◌<◌, ◌≤◌}
use native.Mathlib.Omega.{arith}
use native.Mathlib.Decide.{dec_lt}
use lib.IntN.{ℤ}
use Rattle.meaning.specs.declared.Node.{Node}
use Rattle.meaning.specs.declared.Value.{Value}
use Rattle.meaning.specs.declared.Index.{Index}
use Rattle.meaning.specs.Rows.{row_count, natural_at, kind_at}
use Rattle.meaning.specs.Tree.{Action, Process, Content, content_of, content_at, or_stop, action_of}
use Rattle.meaning.specs.Values.{Message, value}
use Rattle.meaning.specs.State.{program, process_at}
use Rattle.base_layout.proofs.Parts.{higher_content, part-past, part-of-kind}
use Rattle.agreement.proofs.TableTree.{process-is}
use Rattle.run_parents.proofs.KindCases.{kind-cases}
use Rattle.run_code.specs.Prepared.{referred_row, subscripted_row, Prepared, place_at}
use Rattle.run_code.proofs.RowKinds.{IsElement, is_cell, is_outside, is_subscripted, element-what, kind_from}
use Rattle.run_code.proofs.Codes.{second_is, third-is, input-row, output_row, if-row, while-row, alt-row, assign-row}
use Rattle.run_values.specs.Targets.{assigned_index}
use Rattle.run_values.proofs.CodeValues.{outside-assigned}
use Rattle.run_intents.specs.declared.Does.{Does}
use Rattle.run_intents.specs.declared.Does.TheVariants.{Waits, Stops, Selects}
use Rattle.run_intents.specs.Does.{assignment, tested, choices_do, input_does, does_of}
use Rattle.run_intents.specs.Rows.{input_at, output_at}
use Rattle.run_intents.proofs.RowFacts.{what-here}

abbrev action_in : Content → Action
action_in q = action_of (or_stop q.process)

module _ {rows : List ℤ} {code : List ℕ} (p : Prepared rows code) (lines : ℕ) (cells : List Message) (places counts : List ℕ) (r : ℕ) (h : r ≤ 1024) where
  abbrev does : Action → Does
  does = does_of lines cells places counts

  abbrev all : Does
  all = does (action_of (process_at (program rows) r))

  all_in : {q : Content} → content_at rows r ≡ q → does (action_in q) ≡ all
  all_in e = sym (ap (λ (a : Process). does (action_of a)) (process-is rows r) ∙ ap (λ (q : Content). does (action_in q)) e)

  module _ {w : ℕ} (e : w ≡ place_at code r 0) where
    -- an assignment: what it assigns to, and the value
    pub assigns : (n : ℕ) → w ≡ n → kind_from n ≡ 22 → {d : ℕ} {t : Index} {v : Value} {o : Does}
        → t ≡ assigned_index cells (action_of (process_at (program rows) r)) → d ≡ place_at code r 3 → v ≡ value cells (content_at rows d).expr → o ≡ assignment t v → o ≡ all
    unfolding does_of
    assigns n i f a b g s =
        let part = assign-row p r h n (sym e ∙ i) f in
        s
        ∙ ap₂ assignment (a ∙ ap (λ (q : Process). assigned_index cells (action_of q)) (process-is rows r) ∙ ap (λ (q : Content). assigned_index cells (action_in q)) part)
        (g ∙ ap (λ (d : ℕ). value cells (content_at rows d).expr) b)
        ∙ all_in part

    -- one that is outside the array stops
    pub outside-stops : w ≡ 47 → Stops 2 ≡ all
    outside-stops i = assigns 47 i refl {v = value cells (content_at rows (place_at code r 3)).expr} (outside-assigned p r h cells (sym e ∙ i)) refl refl refl

    pub input-does : w ≡ 23 → {o : Does} → o ≡ input_does lines cells places (input_at rows r) → o ≡ all
    unfolding does_of
    input-does i s =
        let k = sym e ∙ i in
        s ∙ rw (← second_is p r h 23 k (λ z. omega arith), ← third-is p r h 23 k (λ z. omega arith)) (all_in (input-row p r h k))

    pub output-does : w ≡ 24 → {o : Does} → o ≡ output_at rows cells counts r → o ≡ all
    unfolding does_of
    output-does i s =
        let k = sym e ∙ i in
        s ∙ rw (← second_is p r h 24 k (λ z. omega arith), ← third-is p r h 24 k (λ z. omega arith)) (all_in (output_row p r h k))

    pub if-does : w ≡ 32 → {b : ℕ} {o : Does} → b ≡ place_at code r 1 → o ≡ choices_do cells (content_at rows b).tests → o ≡ all
    unfolding does_of
    if-does i a s = s ∙ ap (λ (b : ℕ). choices_do cells (content_at rows b).tests) a ∙ all_in (if-row p r h (sym e ∙ i))

    pub while-does : w ≡ 33 → {b d : ℕ} {v : Value} {o : Does} → b ≡ place_at code r 2 → d ≡ place_at code r 1 → v ≡ value cells (content_at rows d).expr → o ≡ tested b v → o ≡ all
    unfolding does_of
    while-does i a b f s = s ∙ ap₂ tested a (f ∙ ap (λ (d : ℕ). value cells (content_at rows d).expr) b) ∙ all_in (while-row p r h (sym e ∙ i))

    pub alt-does : w ≡ 34 → Selects ≡ all
    unfolding does_of
    alt-does i = all_in (alt-row p r h (sym e ∙ i))

    -- a row that is none of these waits
    pub other-does : (w ≡ 46 → ⊥) → (w ≡ 47 → ⊥) → (w ≡ 48 → ⊥) → (w ≡ 23 → ⊥) → (w ≡ 24 → ⊥) → (w ≡ 32 → ⊥) → (w ≡ 33 → ⊥) → (w ≡ 34 → ⊥) → Waits ≡ all
    unfolding does_of
    other-does a b c d f g i j = go (dec_lt r (row_count rows))
      where
        no-assignment : r < row_count rows → kind_at rows r ≡ 22 → ⊥
        no-assignment l k = cases (element-what rows (natural_at rows r 1) (referred_row rows r 2))
          where
            is : w ≡ 44 + (subscripted_row rows (natural_at rows r 1) (referred_row rows r 2)).what
            is = e ∙ what-here p r h 22 l k

            cases : IsElement (subscripted_row rows (natural_at rows r 1) (referred_row rows r 2)).what → ⊥
            cases (is_cell q) = a (is ∙ ap (λ (n : ℕ). 44 + n) q)
            cases (is_outside q) = b (is ∙ ap (λ (n : ℕ). 44 + n) q)
            cases (is_subscripted q) = c (is ∙ ap (λ (n : ℕ). 44 + n) q)

        go : Dec (r < row_count rows) → Waits ≡ all
        go (yes l) =
            sym (kind-cases (λ (m : Node). does (action_in (content_of rows r (higher_content rows r) m)) ≡ Waits) (kind_at rows r) _ _ _ _
            (λ e. refl) (λ e. refl) (λ e. refl) (λ e. refl) (λ e. refl) (λ e. refl) (λ k. absurd (no-assignment l k)) (λ k. absurd (d (e ∙ what-here p r h 23 l k))) (λ k. absurd (f (e ∙ what-here p r h 24 l k))) (λ e. refl)
            (λ e. refl) (λ k. absurd (g (e ∙ what-here p r h 32 l k))) (λ k. absurd (i (e ∙ what-here p r h 33 l k))) (λ k. absurd (j (e ∙ what-here p r h 34 l k))) (λ e. refl) (λ e. refl) (λ e. refl) (λ e. refl) (λ e. refl) refl)
            ∙ all_in (part-of-kind rows r (kind_at rows r) l refl)
        go (no l) = all_in (part-past rows r (omega arith))
