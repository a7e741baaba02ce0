-- A trace shows the order that its run takes: entry by entry the row that orders the step, and how many steps are ready before it.
use mathlib.Core.Path.{◌≡◌, refl, sym, ap, ap₂, subst, ◌∙◌}
use mathlib.Core.Option.{none}
use mathlib.Core.List.{List, [], ◌∷◌, ◌++◌, map}
use Prim.Native.Nat.{ℕ, zero, suc, ◌+◌}
use native.Mathlib.Omega.{arith}
use lib.IntN.{ℤ}
use lib.ListN.{length, drop}
use Rattle.meaning.specs.Rows.{row_count}
use Rattle.meaning.specs.State.{State, Program, program}
use Rattle.meaning.specs.Labels.{Label, order_row}
use Rattle.meaning.specs.Readings.{Sheet}
use Rattle.meaning.specs.Settle.{start}
use Rattle.meaning.specs.Ready.{ready, after}
use Rattle.meaning.specs.Step.{Step}
use Rattle.meaning.specs.Order.{chosen_step, Order, halt, next-step, Chosen, none_left, chosen}
use Rattle.meaning.specs.Run.{go_from, go, run}
use Rattle.meaning.specs.Trace.{Shown, shown_from, trace}
use Rattle.meaning.specs.Answers.{check}
use Rattle.agreement.specs.Statements.{Reached, ReadyTotal}
use Rattle.agreement.specs.BufferClaims.{HoldsAt}
use Rattle.agreement.specs.TraceClaims.{TraceLength, TraceShows}
use Rattle.agreement.proofs.Reached.{order-more}
use Rattle.agreement.proofs.Beginning.{begins-at-start, begins-start}
use Rattle.agreement.proofs.RowsAscend.{ready-listed}
use Rattle.agreement.proofs.TableFit.{fit}
use Rattle.agreement.proofs.Demands.{ready-exactly, after-is-step}

-- As long as the run has steps -------------------------------------------------------------------------------------------------------

shown-length : (P : Program) (sheet : Sheet) (b n : ℕ) (choices : List ℕ) (s : State) (l : List Label)
    → n + length (shown_from P sheet b choices s l) ≡ (go_from P sheet b n choices s l).steps
unfolding shown_from go_from
shown-length P sheet zero n choices s [] = omega arith
shown-length P sheet zero n choices s (x ∷ l) = omega arith
shown-length P sheet (suc b) n choices s [] = omega arith
shown-length P sheet (suc b) n choices s (x ∷ l) =
    let t = after P sheet (chosen_step choices x l) s in
    let h = shown-length P sheet b (suc n) (drop 1 choices) t (ready P sheet t) in
    let e : n + suc (length (shown_from P sheet b (drop 1 choices) t (ready P sheet t))) ≡ suc n + length (shown_from P sheet b (drop 1 choices) t (ready P sheet t)) = omega arith in
    e ∙ h

pub trace-length : TraceLength
unfolding trace run go
trace-length rows sheet choices budget =
    let P = program rows in
    let n = length (shown_from P sheet budget choices (start P) (ready P sheet (start P))) in
    let e : n ≡ 0 + n = omega arith in
    e ∙ shown-length P sheet budget 0 choices (start P) (ready P sheet (start P))

-- The order that is shown ------------------------------------------------------------------------------------------------------------

module _ (rows : List ℤ) (ok : check rows ≡ none) (sheet : Sheet) where
  abbrev P : Program
  P = program rows

  -- entries for the steps of an order from a state
  data ShownFrom : State → List Label → List Shown → Type 0 where
    nothing-more : {s : State} → ShownFrom s [] []
    one_more : {s t : State} {x : Label} {l : List Label} {k : Shown} {shown : List Shown} → Step P sheet s x t → k.row ≡ order_row x → ReadyTotal rows sheet s k.ready
        → ShownFrom t l shown → ShownFrom s (x ∷ l) (k ∷ shown)

  further : (s t : State) (x : Label) → Reached rows sheet s → Step P sheet s x t → Reached rows sheet t
  further s t x (l, o) h = (l ++ (x ∷ []), order-more rows sheet o h)

  -- a step leads to one state
  one_end : (s t u : State) (x : Label) → Reached rows sheet s → Step P sheet s x t → Step P sheet s x u → t ≡ u
  one_end s t u x r = (ready-exactly rows ok sheet s r x).1 t u

  shown-more : (b : ℕ) (choices : List ℕ) (s t : State) (x : Label) (m : List Label) → x ∷ m ≡ ready P sheet s → t ≡ after P sheet (chosen_step choices x m) s
      → shown_from P sheet (suc b) choices s (ready P sheet s)
      ≡ record { ready = length (x ∷ m); row = order_row (chosen_step choices x m) } ∷ shown_from P sheet b (drop 1 choices) t (ready P sheet t)
  unfolding shown_from
  shown-more b choices s t x m e z = rw (← e, z)

  nothing : (shown : List Shown) → length shown ≡ 0 → shown ≡ []
  nothing [] e = refl
  nothing (k ∷ shown) e = absurd (omega arith)

  none-shown : (choices : List ℕ) (s : State) (l : List Label) → shown_from P sheet zero choices s l ≡ []
  unfolding shown_from
  none-shown choices s l = refl

  -- the order that choices pick is shown, where the trace is as long as it
  shown-from : (b : ℕ) {s u : State} {choices : List ℕ} {l : List Label} → Reached rows sheet s → Chosen P sheet s choices l u
      → length (shown_from P sheet b choices s (ready P sheet s)) ≡ length l → ShownFrom s l (shown_from P sheet b choices s (ready P sheet s))
  shown-from b {s} {u} {choices} r none_left e = subst (ShownFrom s []) (sym (nothing (shown_from P sheet b choices s (ready P sheet s)) e)) nothing-more
  shown-from zero r (chosen {s} {t} {u} {choices} {x} {l} {m} all h c) e =
      let k : ◌≡◌ {A = ℕ} 0 (suc (length l)) = ap (λ (j : List Shown). length j) (sym (none-shown choices s (ready P sheet s))) ∙ e in
      absurd (omega arith)
  shown-from (suc b) r (chosen {s} {t} {u} {choices} {x} {l} {m} all h c) e =
      let y = chosen_step choices x m in
      let q = (ready-listed rows ok sheet s r (x ∷ m)).0 all in
      let z = (after-is-step rows ok sheet s r y ((ready-exactly rows ok sheet s r y).0.1 (t, h))).1 t h in
      let w = shown-more b choices s t x m q z in
      let k : suc (length (shown_from P sheet b (drop 1 choices) t (ready P sheet t))) ≡ suc (length l) = ap (λ (j : List Shown). length j) (sym w) ∙ e in
      subst (ShownFrom s (y ∷ l)) (sym w) (one_more h refl (x ∷ m, all, refl) (shown-from b (further s t y r h) c (omega (arith, k))))

  rows-shown : {s : State} {l : List Label} {shown : List Shown} → ShownFrom s l shown → map (λ (x : Shown). x.row) shown ≡ map order_row l
  rows-shown nothing-more = refl
  rows-shown (one_more h e n f) = ap₂ (λ (r : ℕ) (rs : List ℕ). r ∷ rs) e (rows-shown f)

  -- before each step: the steps before it come to the state in which it is taken
  counts-shown : {s u : State} {l before : List Label} {shown : List Shown} → Reached rows sheet s → ShownFrom s l shown → Order P sheet s before u
      → (x : Label) (later : List Label) → l ≡ before ++ (x ∷ later)
      → (total : ℕ) × HoldsAt (map (λ (x : Shown). x.ready) shown) (length before) total × ReadyTotal rows sheet u total
  counts-shown r nothing-more halt x later e = let z : ◌≡◌ {A = ℕ} 0 (suc (length later)) = ap (λ (j : List Label). length j) e in absurd (omega arith)
  counts-shown r nothing-more (next-step {l = before} h o) x later e = let z : ◌≡◌ {A = ℕ} 0 (suc (length (before ++ (x ∷ later)))) = ap (λ (j : List Label). length j) e in absurd (omega arith)
  counts-shown r (one_more {k = k} h i n f) halt x later e = (k.ready, refl, n)
  counts-shown r (one_more {s} {t} {x = y} {l} h i n f) (next-step {t = v} {u = u} {x = w} {l = before} g o) x later e =
      let same : y ≡ w = cc in
      let rest : l ≡ before ++ (x ∷ later) = cc in
      let end = one_end s v t w r g (subst (λ (j : Label). Step P sheet s j t) same h) in
      counts-shown (further s t y r h) f (subst (λ (j : State). Order P sheet j before u) end o) x later rest

pub trace-shows : TraceShows
unfolding trace
trace-shows rows ok sheet choices budget l s c n =
    let P = program rows in
    let F = fit rows ok in
    let here : Reached rows sheet (start P) = ([], record { beginning = start P; begins = begins-at-start P (row_count rows) F; order = halt }) in
    let picked : Chosen P sheet (start P) choices l s = subst (λ (j : State). Chosen P sheet j choices l s) (begins-start P (row_count rows) F c.beginning c.begins) c.picked in
    let long = trace-length rows sheet choices budget ∙ sym n in
    let f = shown-from rows ok sheet budget here picked long in
    record {
      entries = long;
      taken-rows = rows-shown rows ok sheet f;
      ready-counts = λ before later x e u o.
          let order = subst (λ (j : State). Order P sheet j before u) (begins-start P (row_count rows) F o.beginning o.begins) o.order in
          counts-shown rows ok sheet here f order x later e;
    }
