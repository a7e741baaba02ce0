-- Each channel element has at most one live input and at most one live output, in tables with ALT too.
use mathlib.Core.Path.{◌≡◌, refl, sym, subst}
use mathlib.Core.Option.{some}
use mathlib.Core.List.Memᴰ
use mathlib.Core.List.{List, ◌∷◌, Memᴰ}
use Prim.Native.Nat.{ℕ}
use lib.IntN.{ℤ}
use Rattle.meaning.specs.Rows.{row_count}
use Rattle.meaning.specs.Tree.{ChannelInput, AltOption, Action, input, output, alternation}
use Rattle.meaning.specs.Usage.{input_elements, output_elements, inputs_by, of_guard, of_guards}
use Rattle.meaning.specs.State.{State, program}
use Rattle.meaning.specs.Readings.{Sheet}
use Rattle.agreement.specs.Statements.{InputsAt, by-input, by-guard, OutputsAt, by-output, OnePerElement}
use Rattle.agreement.proofs.Fit.{Fit}
use Rattle.agreement.proofs.Footprint.{index-counts}
use Rattle.agreement.proofs.Working.{Inv, Works, live-works}
use Rattle.agreement.proofs.Separate.{one-input-row, one-output-row, table-inv}
use Rattle.agreement.proofs.TableFit.{fit}

-- what the input of an option counts for, its ALT counts for
guard-counts : (f : ChannelInput → List ℕ) (e : ℕ) (i : ChannelInput) (b : AltOption) → b.guard.input ≡ some i → Memᴰ e (f i) → (bs : List AltOption) → Memᴰ b bs → Memᴰ e (of_guards f bs)
guard-counts f e i b q m mathlib.Core.List.[] x' = elim x' [ ]
guard-counts f e i b q m (c ∷ l) (Memᴰ.head z) = Memᴰ.append_left {s = of_guard f c.guard.input} (of_guards f l) (rw (← z, q) m)
guard-counts f e i b q m (c ∷ l) (Memᴰ.tail n) = Memᴰ.append_right (of_guard f c.guard.input) (guard-counts f e i b q m l n)

module _ (rows : List ℤ) (sheet : Sheet) (F : Fit (program rows) (row_count rows)) (s : State) (inv : Inv (program rows) (row_count rows) F sheet s) where
  -- row r works, and its action counts for e among what f says
  abbrev Counted : (Action → List ℕ) → ℕ → ℕ → Type 0
  Counted f e r = (W : Works (program rows) (row_count rows) F sheet s r) × Memᴰ e (f W.action)

  counted : (f : Action → List ℕ) (e r : ℕ) (a : Action) → (W : Works (program rows) (row_count rows) F sheet s r) × (W.action ≡ a) → Memᴰ e (f a) → Counted f e r
  counted f e r a (W, q) m = (W, subst (λ (k : Action). Memᴰ e (f k)) (sym q) m)

  input-counted : (e r : ℕ) → InputsAt (program rows) s e r → Counted input_elements e r
  input-counted e r (by-input {i} l q) =
      counted input_elements e r (input i) (live-works (program rows) (row_count rows) F sheet s r (input i) inv l refl) (index-counts s.store.cells i.channel.first i.channel.size i.subscript e q)
  input-counted e r (by-guard {bs} {b} {i} l m g q) =
      counted input_elements e r (alternation bs) (live-works (program rows) (row_count rows) F sheet s r (alternation bs) inv l refl)
      (guard-counts inputs_by e i b g (index-counts s.store.cells i.channel.first i.channel.size i.subscript e q) bs m)

  output-counted : (e r : ℕ) → OutputsAt (program rows) s e r → Counted output_elements e r
  output-counted e r (by-output {c} {f} {g} l q) =
      counted output_elements e r (output c f g) (live-works (program rows) (row_count rows) F sheet s r (output c f g) inv l refl) (index-counts s.store.cells c.first c.size f e q)

  one-of-each : (e r q : ℕ) → (InputsAt (program rows) s e r → InputsAt (program rows) s e q → r ≡ q) × (OutputsAt (program rows) s e r → OutputsAt (program rows) s e q → r ≡ q)
  one-of-each e r q = (
    λ h g. (let (A, m) = input-counted e r h in let (B, l) = input-counted e q g in one-input-row (program rows) (row_count rows) F sheet s inv r q e A B m l),
    λ h g. (let (A, m) = output-counted e r h in let (B, l) = output-counted e q g in one-output-row (program rows) (row_count rows) F sheet s inv r q e A B m l),
  )

pub one-per-element : OnePerElement
one-per-element rows sheet a s (l, o) e r q = let F = fit rows a.0 in one-of-each rows sheet F s (table-inv rows sheet F l s o) e r q
