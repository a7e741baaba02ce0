-- The options of an ALT along their links, by what is prepared of each row.
use mathlib.Core.Path.{◌≡◌, refl, sym, ap, ◌∙◌}
use mathlib.Core.List.{List, [], ◌∷◌}
use Prim.Native.Nat.{ℕ, ◌<◌, ◌≤◌}
use native.Mathlib.Omega.{arith}
use native.Mathlib.Decide.{dec_lt}
use lib.IntN.{ℤ}
use Rattle.meaning.specs.Rows.{row_count}
use Rattle.meaning.specs.Tree.{Action, stop, skip, sequence, parallel, assign, input, output, conditional, loop, alternation, block, Content, content_at, or_stop, action_of}
use Rattle.meaning.specs.State.{program, process_at}
use Rattle.agreement.specs.RowsOfSteps.{option_rows}
use Rattle.agreement.proofs.TableTree.{part-past, process-is}
use Rattle.run_parents.proofs.OptionLinks.{no-options}
use Rattle.run_code.specs.declared.Row.{Row}
use Rattle.run_code.specs.Prepared.{Prepared, place_at}
use Rattle.run_code.proofs.Entries.{what-at}
use Rattle.run_code.proofs.RowKinds.{row-of-kind, kind-in}
use Rattle.run_code.proofs.Referred.{referred-higher}
use Rattle.run_code.proofs.Codes.{few, here, second_is, alt-row}
use Rattle.run_code.proofs.NoLinks.{options-none}
use Rattle.run_intents.specs.Rows.{option_at}
use Rattle.run_intents.proofs.Guards.{option-first}
use Rattle.run_intents.specs.Stands.{options_of}
use Rattle.run_notes.specs.Notes.{options_at}

module _ {rows : List ℤ} {code : List ℕ} (p : Prepared rows code) where
  module _ (m : ℕ) (l : m ≤ 1024) {w : ℕ} (e : w ≡ place_at code m 0) where
    module _ (h : w ≡ 42) where
      -- an option is a row of the table; the next link is a higher row, up to 1,024
      pub option-row : m < 1024
      option-row = let i = here p m l 42 (sym e ∙ h) (λ z. omega arith) in omega (arith, i, few p)

      pub next-link : {n : ℕ} → n ≡ place_at code m 2 → (m < n) × (n ≤ 1024)
      next-link f = rw (f ∙ second_is p m l 42 (sym e ∙ h) (λ z. omega arith)) (referred-higher rows (few p) m 2 (here p m l 42 (sym e ∙ h) (λ z. omega arith)))

      -- the options from an option on: itself, and those from the next link on
      pub option-here : {n : ℕ} → n ≡ place_at code m 2 → (content_at rows m).options ≡ option_at rows m ∷ (content_at rows n).options
      option-here f = option-first p m l (sym e ∙ h) ∙ ap (λ (i : ℕ). option_at rows m ∷ (content_at rows i).options) (sym f)

    -- from any other row on there are none
    pub no-option : (w ≡ 42 → ⊥) → (content_at rows m).options ≡ []
    no-option h = options-none p m l (λ z. h (e ∙ z))

    -- an ALT has the options from its first on
    module _ (h : w ≡ 34) where
      pub first-options : {n : ℕ} → n ≡ place_at code m 1 → (content_at rows n).options ≡ options_at rows m
      unfolding options_at
      first-options f = rw (f, process-is rows m) (sym (ap (λ (c : Content). options_of (action_of (or_stop c.process))) (alt-row p m l (sym e ∙ h))))

    -- and any other row has none, as row 1,024
    pub no-alt : (w ≡ 34 → ⊥) → (content_at rows 1024).options ≡ options_at rows m
    unfolding options_at
    no-alt h = ap (λ (c : Content). c.options) (part-past rows 1024 (few p)) ∙ sym (none_in (action_of (process_at (program rows) m)) (go (dec_lt m (row_count rows))))
      where
        none_in : (a : Action) → option_rows a ≡ [] → options_of a ≡ []
        none_in stop h = refl
        none_in skip h = refl
        none_in sequence h = refl
        none_in parallel h = refl
        none_in (assign v e f) h = refl
        none_in (input i) h = refl
        none_in (output c e f) h = refl
        none_in (conditional ts) h = refl
        none_in (loop e b) h = refl
        none_in (alternation []) h = refl
        none_in (alternation (b ∷ bs)) h = let z : ◌≡◌ {A = ℕ} 0 1 = cc in absurd (omega arith)
        none_in (block v) h = refl

        go : Dec (m < row_count rows) → option_rows (action_of (process_at (program rows) m)) ≡ []
        go (yes i) = no-options rows m i (λ k. h (e ∙ what-at p m l ∙ ap (λ (w : Row). w.what) (row-of-kind rows m 34 (kind-in rows m 34 i k))))
        go (no i) = rw (process-is rows m) (ap (λ (c : Content). option_rows (action_of (or_stop c.process))) (part-past rows m (omega arith)))
