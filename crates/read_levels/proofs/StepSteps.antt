-- What a line does at a level, test by test.
use mathlib.Core.Path.{◌≡◌, refl, sym, ap, ◌∙◌}
use mathlib.Core.Bool.{Bool, true, false}
use mathlib.Core.List.{List}
use Rattle.std.specs.Prelude as found
use Rattle.std.specs.Prelude.{Some, None}
use Prim.Native.Nat.{ℕ, suc, ◌+◌, ◌*◌, ◌≤◌, ◌<◌}
use native.Mathlib.Numerals.{add-one}
use lib.ListN.{get_or}
use borrow.Author.Tests.{lt-ltb, le-ltb, eq-eqb, ne_eqb}
use Rattle.meaning.specs.Basics.{if_else}
use Rattle.read_levels.specs.declared.Step.{Step}
use Rattle.read_levels.specs.Steps.{beneath_table, after_table, table_at, ended_to, step_for, step_at, none_number}

module _ (stack : List ℕ) (depth l c : ℕ) where
  -- the level is not open
  pub step-too-deep : depth ≤ l → None ≡ step_at stack depth l c
  unfolding step_at
  step-too-deep h = rw (le-ltb l depth h)

  module _ (there : l < depth) (t : Bool) (ended : t ≡ ended_to stack (l + 1) depth) where
    by-ended : if_else t (step_for (get_or stack l 0) c) None ≡ step_at stack depth l c
    unfolding step_at
    by-ended =
        ap (λ (b : Bool). if_else b (step_for (get_or stack l 0) c) None) (ended ∙ ap (λ (n : ℕ). ended_to stack n depth) (add-one l))
        ∙ sym (ap (λ (b : Bool). if_else b (if_else (ended_to stack (suc l) depth) (step_for (get_or stack l 0) c) None) None) (lt-ltb l depth there))

    -- a deeper level may not end
    pub step-unended : t ≡ false → None ≡ step_at stack depth l c
    step-unended h = ap (λ (b : Bool). if_else b (step_for (get_or stack l 0) c) None) (sym h) ∙ by-ended

    module _ (b : ℕ) (e : b ≡ table_at beneath_table (get_or stack l 0) c) where
      by-table : t ≡ true → (r : found.Option Step) → r ≡ step_for (get_or stack l 0) c → r ≡ step_at stack depth l c
      by-table h r i = i ∙ ap (λ (b : Bool). if_else b (step_for (get_or stack l 0) c) None) (sym h) ∙ by-ended

      -- nothing may stand there
      pub step-untold : t ≡ true → b ≡ none_number → None ≡ step_at stack depth l c
      step-untold h z = by-table h None (rw (eq-eqb (table_at beneath_table (get_or stack l 0) c) none_number (sym e ∙ z)) refl)

      -- by the tables
      pub step-told : t ≡ true → (b ≡ none_number → ⊥) → (a : ℕ) → a ≡ table_at after_table (get_or stack l 0) c
          → Some (record { kind = 16 * get_or stack l 0 + c; beneath = b; after = a }) ≡ step_at stack depth l c
      step-told h n a f = by-table h (Some (record { kind = 16 * get_or stack l 0 + c; beneath = b; after = a }))
          (rw (e, f, ne_eqb (table_at beneath_table (get_or stack l 0) c) none_number (λ z. n (e ∙ z))) refl)
