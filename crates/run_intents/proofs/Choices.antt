-- The choices of an IF from a prepared row on: what the first comes to, or else the next ones.
use mathlib.Core.Path.{◌≡◌, sym, ap, ◌∙◌}
use mathlib.Core.Bool.{Bool, true, false}
use mathlib.Core.List.{List}
use Prim.Native.Nat.{ℕ, ◌<◌, ◌≤◌}
use native.Mathlib.Omega.{arith}
use lib.IntN.{ℤ}
use Rattle.meaning.specs.declared.Value.{Value}
use Rattle.meaning.specs.declared.Value.TheVariants.{Number, Missing}
use Rattle.meaning.specs.Basics.{if_else}
use Rattle.meaning.specs.Tree.{Content, content_at}
use Rattle.meaning.specs.Values.{Message, is_true, value}
use Rattle.run_code.specs.Prepared.{Prepared, place_at}
use Rattle.run_code.proofs.Referred.{referred-higher}
use Rattle.run_code.proofs.Codes.{few, here, second_is, choice-row}
use Rattle.run_code.proofs.NoLinks.{tests-none}
use Rattle.run_intents.specs.declared.Does.{Does}
use Rattle.run_intents.specs.declared.Does.TheVariants.{Waits, Stops, Starts}
use Rattle.run_intents.specs.Does.{when_true, choices_do}

module _ {rows : List ℤ} {code : List ℕ} (p : Prepared rows code) (m : ℕ) (h : m ≤ 1024) where
  -- the next choices are in a higher row
  pub next-higher : {w b : ℕ} → w ≡ place_at code m 0 → w ≡ 41 → b ≡ place_at code m 2 → (m < b) × (b ≤ 1024)
  next-higher e i q = rw (q ∙ second_is p m h 41 (sym e ∙ i) (λ z. omega arith)) (referred-higher rows (few p) m 2 (here p m h 41 (sym e ∙ i) (λ z. omega arith)))

  module _ (cells : List Message) where
    abbrev all : Does
    all = choices_do cells (content_at rows m).tests

    pub no-choice : {w : ℕ} → w ≡ place_at code m 0 → (w ≡ 41 → ⊥) → Waits ≡ all
    no-choice e n = sym (ap (choices_do cells) (tests-none p m h (λ i. n (e ∙ i))))

    -- the choice of row m comes first
    module _ {w d : ℕ} {v : Value} (e : w ≡ place_at code m 0) (i : w ≡ 41) (q : d ≡ place_at code m 3) (s : v ≡ value cells (content_at rows d).expr) where
      abbrev later : Does
      later = choices_do cells (content_at rows (place_at code m 2)).tests

      first : when_true v (Starts (place_at code m 1)) later ≡ all
      first =
          ap (λ (v : Value). when_true v (Starts (place_at code m 1)) later) (s ∙ ap (λ (d : ℕ). value cells (content_at rows d).expr) q)
          ∙ sym (ap (λ (c : Content). choices_do cells c.tests) (choice-row p m h (sym e ∙ i)))

      pub choice-stops : {n : ℕ} → v ≡ Missing n → Stops n ≡ all
      choice-stops a = ap (λ (v : Value). when_true v (Starts (place_at code m 1)) later) (sym a) ∙ first

      decided : {x : ℤ} (t : Bool) → v ≡ Number x → is_true x ≡ t → if_else t (Starts (place_at code m 1)) later ≡ all
      decided t a b =
          ap (λ (t : Bool). if_else t (Starts (place_at code m 1)) later) (sym b)
          ∙ ap (λ (v : Value). when_true v (Starts (place_at code m 1)) later) (sym a)
          ∙ first

      pub choice-starts : {x : ℤ} {a : ℕ} → v ≡ Number x → is_true x ≡ true → a ≡ place_at code m 1 → Starts a ≡ all
      choice-starts a b c = ap Starts c ∙ decided true a b

      pub choice-passed : {x : ℤ} {b : ℕ} {o : Does} → v ≡ Number x → is_true x ≡ false → b ≡ place_at code m 2 → o ≡ choices_do cells (content_at rows b).tests → o ≡ all
      choice-passed a b c f = f ∙ ap (λ (b : ℕ). choices_do cells (content_at rows b).tests) c ∙ decided false a b
