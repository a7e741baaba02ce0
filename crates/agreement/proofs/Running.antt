-- A run takes the order that its choices pick, up to rest or its budget, and reports its length.
use mathlib.Core.Path.{◌≡◌, refl, sym, ap, subst, ◌∙◌}
use mathlib.Core.Logic.{◌⊎◌, inl, inr}
use mathlib.Core.List.Memᴰ
use mathlib.Core.List.{List, [], ◌∷◌, Memᴰ}
use Prim.Native.Nat.{ℕ, zero, suc, ◌+◌, ◌<◌, ◌≤◌, ◌%◌}
use native.Mathlib.Omega.{arith}
use lib.IntN.{ℤ}
use lib.ListN.{length, get_or, drop}
use Rattle.meaning.specs.declared.Outcome.TheVariants.{Spent}
use Rattle.meaning.specs.Rows.{row_count}
use Rattle.meaning.specs.State.{State, Program, program}
use Rattle.meaning.specs.Labels.{Label}
use Rattle.meaning.specs.Readings.{Sheet}
use Rattle.meaning.specs.Settle.{start}
use Rattle.meaning.specs.Ready.{ready, after}
use Rattle.meaning.specs.Step.{Step}
use Rattle.meaning.specs.Run.{RunResult, go_from, go, run}
use Rattle.meaning.specs.Order.{outcome_at_rest, chosen_step, Order, halt, next-step, ReadyList, Chosen, none_left, chosen, RestOf, outcome_of}
use Rattle.agreement.proofs.Claims.{Finish, Runs}
use Rattle.agreement.proofs.Fit.{Fit}
use Rattle.agreement.proofs.OptionRows.{OptionRows}
use Rattle.agreement.proofs.Working.{Inv}
use Rattle.agreement.proofs.Invariant.{start-inv, step-inv}
use Rattle.agreement.proofs.Beginning.{begins-at-start}
use Rattle.agreement.proofs.Steps.{distinct-options, ready-allowed, allowed-ready}
use Rattle.agreement.proofs.RowsAscend.{ready-list}

mem-get_d : (x : Label) (l : List Label) (i : ℕ) → Memᴰ (get_or l i x) (x ∷ l)
mem-get_d x [] i = Memᴰ.head refl
mem-get_d x (y ∷ l) zero = Memᴰ.tail (Memᴰ.head refl)
mem-get_d x (y ∷ l) (suc i) = elim (mem-get_d x l i) [ Memᴰ.head e ↦ Memᴰ.head e | Memᴰ.tail m ↦ Memᴰ.tail (Memᴰ.tail m) ]

fold : (x y : Label) (l : List Label) → Memᴰ y (x ∷ x ∷ l) → Memᴰ y (x ∷ l)
fold x y l (Memᴰ.head e) = Memᴰ.head e
fold x y l (Memᴰ.tail m) = m

picked-mem : (choices : List ℕ) (x : Label) (l : List Label) → Memᴰ (chosen_step choices x l) (x ∷ l)
unfolding chosen_step
picked-mem choices x l = fold x _ l (mem-get_d x (x ∷ l) (get_or choices 0 0 % length (x ∷ l)))

module _ (rows : List ℤ) (sheet : Sheet) (F : Fit (program rows) (row_count rows)) (O : OptionRows (program rows)) where
  abbrev P : Program
  P = program rows

  abbrev I : State → Type 0
  I s = Inv P (row_count rows) F sheet s

  -- what holds of the rest of a run, from s with n steps taken and b left
  abbrev Goes : ℕ → ℕ → List ℕ → State → RunResult → Type 0
  Goes b n choices s r =
      (l : List Label) × (Order P sheet s l r.state × Chosen P sheet s choices l r.state × (n + length l ≡ r.steps) × (length l ≤ b)
      × ((RestOf rows sheet r.state × (r.outcome ≡ outcome_of rows r.state) × (r.ready ≡ 0))
      ⊎ ((length l ≡ b) × (r.outcome ≡ Spent) × (0 < r.ready) × ((x : Label) × ((t : State) × Step P sheet r.state x t))))
      × (r.ready ≡ length (ready P sheet r.state)))

  at_rest : (s : State) → I s → ready P sheet s ≡ [] → RestOf rows sheet s
  at_rest s i e x t h = Memᴰ.not-nil (subst (λ (l : List Label). Memᴰ x l) e (allowed-ready rows sheet F s i x t h).0)

  stays : (b n : ℕ) (choices : List ℕ) (s : State) → I s → ready P sheet s ≡ [] → Goes b n choices s (record { outcome = outcome_at_rest P s; steps = n; ready = 0; state = s })
  stays b n choices s k e = ([], (halt, none_left, omega arith, omega arith, inl (at_rest s k e, refl, refl), rw e))

  -- one more step in front
  longer : (b n : ℕ) (choices : List ℕ) (s : State) (x : Label) (m : List Label) (r : RunResult) → I s → ready P sheet s ≡ x ∷ m → Step P sheet s (chosen_step choices x m) (after P sheet (chosen_step choices x m) s)
      → Goes b (suc n) (drop 1 choices) (after P sheet (chosen_step choices x m) s) r → Goes (suc b) n choices s r
  longer b n choices s x m r i e h (l, (o, c, q, k, f, g)) =
      (chosen_step choices x m ∷ l, (next-step h o, chosen (subst (λ (j : List Label). ReadyList P sheet s j) e (ready-list rows sheet F O s i)) h c, omega arith, omega arith, ends f, g))
    where
      ends : (RestOf rows sheet r.state × (r.outcome ≡ outcome_of rows r.state) × (r.ready ≡ 0)) ⊎ ((length l ≡ b) × (r.outcome ≡ Spent) × (0 < r.ready) × ((x : Label) × ((t : State) × Step P sheet r.state x t)))
          → (RestOf rows sheet r.state × (r.outcome ≡ outcome_of rows r.state) × (r.ready ≡ 0)) ⊎ ((suc (length l) ≡ suc b) × (r.outcome ≡ Spent) × (0 < r.ready) × ((x : Label) × ((t : State) × Step P sheet r.state x t)))
      ends (inl z) = inl z
      ends (inr z) = inr (ap suc z.0, z.1, z.2, z.3)

  goes : (b n : ℕ) (choices : List ℕ) (s : State) → I s → (l : List Label) → ready P sheet s ≡ l → Goes b n choices s (go_from P sheet b n choices s l)
  unfolding go_from
  goes zero n choices s k [] e = stays zero n choices s k e
  goes (suc b) n choices s k [] e = stays (suc b) n choices s k e
  goes zero n choices s k (x ∷ l) e =
      ([], (halt, none_left, omega arith, omega arith, inr (refl, refl, omega arith, (x, (after P sheet x s, ready-allowed rows sheet F s k x (rw e (Memᴰ.head refl))))), rw e))
  goes (suc b) n choices s k (x ∷ m) e =
      let y = chosen_step choices x m in
      let t = after P sheet y s in
      let h = ready-allowed rows sheet F s k y (rw e (picked-mem choices x m)) in
      longer b n choices s x m (go_from P sheet b (suc n) (drop 1 choices) t (ready P sheet t)) k e h
      (goes b (suc n) (drop 1 choices) t (step-inv P (row_count rows) F sheet (distinct-options rows sheet) s y t k h) (ready P sheet t) refl)

  run-goes : (choices : List ℕ) (budget : ℕ) → Goes budget 0 choices (start P) (run rows sheet choices budget)
  unfolding run go
  run-goes choices budget = goes budget 0 choices (start P) (start-inv P (row_count rows) F sheet) (ready P sheet (start P)) refl

-- the end of a run, as `Order` words it
ending : (Accepted : List ℤ → Sheet → Type 0) (rows : List ℤ) (sheet : Sheet) (b n : ℕ) (r : RunResult) → n ≡ r.steps
    → (RestOf rows sheet r.state × (r.outcome ≡ outcome_of rows r.state) × (r.ready ≡ 0)) ⊎ ((n ≡ b) × (r.outcome ≡ Spent) × (0 < r.ready) × ((x : Label) × ((t : State) × Step (program rows) sheet r.state x t)))
    → Finish Accepted rows sheet b r
ending Accepted rows sheet b n r e (inl z) = inl z
ending Accepted rows sheet b n r e (inr z) = inr (sym e ∙ z.0, z.1, z.2, z.3)

-- the claim of `Order`, for any meaning of accepted that gives what the proofs use of a table
abbrev pub Fits : (List ℤ → Sheet → Type 0) → Type 0
Fits Accepted = (rows : List ℤ) (sheet : Sheet) → Accepted rows sheet → Fit (program rows) (row_count rows) × OptionRows (program rows)

pub runs : (Accepted : List ℤ → Sheet → Type 0) → Fits Accepted → Runs Accepted
runs Accepted fit rows sheet choices budget a =
    let r = run rows sheet choices budget in
    let (F, O) = fit rows sheet a in
    let (l, g) = run-goes rows sheet F O choices budget in
    let e : length l ≡ r.steps = omega (arith, g.2) in
    let b = begins-at-start (program rows) (row_count rows) F in
    (l, record { beginning = start (program rows); begins = b; order = g.0 }, record { beginning = start (program rows); begins = b; picked = g.1 }, e, omega (arith, g.3), ending Accepted rows sheet budget (length l) r e g.4, g.5)
