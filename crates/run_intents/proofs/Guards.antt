-- What an option would do, by what the prepared row of its guard is.
use mathlib.Core.Path.{◌≡◌, refl, sym, ap, ap₂, ◌∙◌}
use mathlib.Core.Bool.{Bool, true, false}
use mathlib.Core.List.Memᴰ
use mathlib.Core.List.{List, [], ◌∷◌, Memᴰ}
use Prim.Native.Nat.{ℕ, ◌<◌, ◌≤◌}
use native.Mathlib.Omega.{arith}
use native.Mathlib.Decide.{dec_lt}
use lib.IntN.{ℤ, pos}
use Rattle.meaning.specs.declared.Node.{Node}
use Rattle.meaning.specs.declared.Value.{Value}
use Rattle.meaning.specs.declared.Value.TheVariants.{Number, Missing}
use Rattle.meaning.specs.Basics.{if_else}
use Rattle.meaning.specs.Rows.{row_count, kind_at}
use Rattle.meaning.specs.Tree.{literal, AltGuard, no_guard, Content, content_of, content_at}
use Rattle.meaning.specs.Values.{Message, is_true, value}
use Rattle.base_layout.proofs.Parts.{higher_content, part-past, part-of-kind}
use Rattle.run_parents.proofs.KindCases.{kind-cases}
use Rattle.run_code.specs.Prepared.{Prepared, place_at}
use Rattle.run_code.proofs.Codes.{second_is, third-is, first-is, kind-is, skip-row, input-row, option-row, guard-row}
use Rattle.run_code.proofs.Inside.{second-inside, third-inside}
use Rattle.run_intents.specs.declared.Does.{Does}
use Rattle.run_intents.specs.declared.Does.TheVariants.{Waits, Stops, Starts}
use Rattle.run_intents.specs.Does.{when_true, input_does, guard_does, guarded_does, option_does}
use Rattle.run_intents.specs.Rows.{input_at, option_at}
use Rattle.run_intents.proofs.RowFacts.{what-here, guard-input}

-- a guard that has no boolean but the literal 1
abbrev bare : AltGuard → AltGuard
bare g = record { boolean = literal (pos 1); input = g.input }

-- a SKIP or an input as a guard
bare-guard : (rows : List ℤ) (g : ℕ) → g < row_count rows → Memᴰ (kind_at rows g) (21 ∷ 23 ∷ []) → (content_at rows g).guard ≡ bare (content_at rows g).guard
bare-guard rows g l (Memᴰ.head e) = rw (part-of-kind rows g 21 l e)
bare-guard rows g l (Memᴰ.tail (Memᴰ.head e)) = rw (part-of-kind rows g 23 l e)
bare-guard rows g l (Memᴰ.tail (Memᴰ.tail m)) = absurd (Memᴰ.not-nil m)

module _ {rows : List ℤ} {code : List ℕ} (p : Prepared rows code) where
  -- what a guard's row refers to has no boolean
  pub guarded-bare : (g : ℕ) → g ≤ 1024 → {w b : ℕ} → w ≡ place_at code g 0 → w ≡ 43 → b ≡ place_at code g 2 → (b ≤ 1024) × (place_at code b 0 ≡ 43 → ⊥)
  guarded-bare g h {w} {b} e i q = (k, λ f. apart (rw (sym q) at (guard-input p g h (sym e ∙ i)).1) (kind-is p b k 43 f (λ z. omega arith)))
    where
      k : b ≤ 1024
      k = rw q (second-inside p g h (omega (arith, e, i)))

      apart : Memᴰ (kind_at rows b) (21 ∷ 23 ∷ []) → kind_at rows b ≡ 43 → ⊥
      apart (Memᴰ.head e) i = omega arith
      apart (Memᴰ.tail (Memᴰ.head e)) i = omega arith
      apart (Memᴰ.tail (Memᴰ.tail m)) i = Memᴰ.not-nil m

  module _ (j : ℕ) (h : j ≤ 1024) (is : place_at code j 0 ≡ 42) where
    pub guard-inside : {g : ℕ} → g ≡ place_at code j 3 → g ≤ 1024
    guard-inside q = rw q (third-inside p j h (omega (arith, is)))

    -- the option of row j is the first of the options from there on
    pub option-first : (content_at rows j).options ≡ option_at rows j ∷ (content_at rows (place_at code j 2)).options
    option-first =
        ap (λ (c : Content). c.options) (option-row p j h is)
        ∙ rw (third-is p j h 42 is (λ z. omega arith), first-is p j h 42 is (λ z. omega arith))

  module _ (lines : ℕ) (cells : List Message) (places : List ℕ) where
    module _ (g : ℕ) (h : g ≤ 1024) (process : ℕ) where
      abbrev all : Does
      all = guarded_does lines cells places process (content_at rows g).guard

      module _ {w : ℕ} (e : w ≡ place_at code g 0) where
        pub guard-starts : w ≡ 21 → Starts process ≡ all
        unfolding guarded_does value
        guard-starts i = sym (ap (λ (c : Content). guarded_does lines cells places process c.guard) (skip-row p g h (sym e ∙ i)))

        pub guard-inputs : w ≡ 23 → {o : Does} → o ≡ input_does lines cells places (input_at rows g) → o ≡ all
        unfolding guarded_does value
        guard-inputs i f =
            let k = sym e ∙ i in
            f
            ∙ rw (← second_is p g h 23 k (λ z. omega arith), ← third-is p g h 23 k (λ z. omega arith)) (sym (ap (λ (c : Content). guarded_does lines cells places process c.guard) (input-row p g h k)))

        pub guard-closed : (w ≡ 21 → ⊥) → (w ≡ 23 → ⊥) → (place_at code g 0 ≡ 43 → ⊥) → Waits ≡ all
        unfolding guarded_does value
        guard-closed a b c = sym (ap (guarded_does lines cells places process) (go (dec_lt g (row_count rows))))
          where
            go : Dec (g < row_count rows) → (content_at rows g).guard ≡ no_guard
            go (yes l) =
                ap (λ (q : Content). q.guard) (part-of-kind rows g (kind_at rows g) l refl)
                ∙ kind-cases (λ (k : Node). (content_of rows g (higher_content rows g) k).guard ≡ no_guard) (kind_at rows g) _ _ _ _
                (λ e. refl) (λ e. refl) (λ e. refl) (λ e. refl) (λ e. refl) (λ k. absurd (a (e ∙ what-here p g h 21 l k))) (λ e. refl) (λ k. absurd (b (e ∙ what-here p g h 23 l k))) (λ e. refl) (λ e. refl)
                (λ e. refl) (λ e. refl) (λ e. refl) (λ e. refl) (λ e. refl) (λ e. refl) (λ e. refl) (λ e. refl) (λ k. absurd (c (what-here p g h 43 l k))) refl
            go (no l) = ap (λ (q : Content). q.guard) (part-past rows g (omega arith))

    module _ (j : ℕ) (h : j ≤ 1024) (is : place_at code j 0 ≡ 42) where
      abbrev option : Does
      option = option_does lines cells places (option_at rows j)

      -- the option, from its guard's row and its process
      pub option-bare : {g q : ℕ} {o : Does} → g ≡ place_at code j 3 → q ≡ place_at code j 1 → o ≡ guarded_does lines cells places q (content_at rows g).guard → o ≡ option
      option-bare a b c =
          c
          ∙ ap₂ (λ (q g : ℕ). guarded_does lines cells places q (content_at rows g).guard) (b ∙ first-is p j h 42 is (λ z. omega arith)) (a ∙ third-is p j h 42 is (λ z. omega arith))

      -- a guard with a boolean
      module _ {g q w d : ℕ} {v : Value} (a : g ≡ place_at code j 3) (b : q ≡ place_at code j 1) (l : g ≤ 1024) (e : w ≡ place_at code g 0) (i : w ≡ 43)
          (f : d ≡ place_at code g 1) (s : v ≡ value cells (content_at rows d).expr) where
        abbrev further : Does
        further = guard_does lines cells places q (content_at rows (place_at code g 2)).guard.input

        boolean-first : when_true v further Waits ≡ option
        unfolding guarded_does
        boolean-first =
            ap (λ (v : Value). when_true v further Waits) (s ∙ ap (λ (d : ℕ). value cells (content_at rows d).expr) f)
            ∙ option-bare a b (sym (ap (λ (c : Content). guarded_does lines cells places q c.guard) (guard-row p g l (sym e ∙ i))))

        pub option-stops : {n : ℕ} → v ≡ Missing n → Stops n ≡ option
        option-stops c = ap (λ (v : Value). when_true v further Waits) (sym c) ∙ boolean-first

        decided : {x : ℤ} (t : Bool) → v ≡ Number x → is_true x ≡ t → if_else t further Waits ≡ option
        decided t c n = ap (λ (t : Bool). if_else t further Waits) (sym n) ∙ ap (λ (v : Value). when_true v further Waits) (sym c) ∙ boolean-first

        pub option-closed : {x : ℤ} → v ≡ Number x → is_true x ≡ false → Waits ≡ option
        option-closed = decided false

        -- what is guarded has no boolean of its own
        bare-further : guarded_does lines cells places q (content_at rows (place_at code g 2)).guard ≡ further
        unfolding guarded_does value
        bare-further = let (u, m) = guard-input p g l (sym e ∙ i) in ap (guarded_does lines cells places q) (bare-guard rows (place_at code g 2) u m)

        pub option-open : {x : ℤ} {u : ℕ} {o : Does} → v ≡ Number x → is_true x ≡ true → u ≡ place_at code g 2 → o ≡ guarded_does lines cells places q (content_at rows u).guard → o ≡ option
        option-open c n m k = k ∙ ap (λ (u : ℕ). guarded_does lines cells places q (content_at rows u).guard) m ∙ bare-further ∙ decided true c n
