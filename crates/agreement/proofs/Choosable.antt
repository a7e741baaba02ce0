-- Every order is some run's, and so are its beginnings: for each of its steps there is a choice below 65,536 that picks it.
use mathlib.Core.Path.{◌≡◌, refl, sym, ap, subst, ◌∙◌}
use mathlib.Core.List.Memᴰ
use mathlib.Core.List.{List, [], ◌∷◌, ◌++◌, append-nil, Memᴰ}
use Prim.Native.Nat.{ℕ, suc, ◌+◌, ◌<◌, ◌≤◌}
use native.Mathlib.Omega.{arith}
use native.Mathlib.Nat.{mod-eq_of_lt}
use lib.IntN.{ℤ}
use lib.ListN.{length, get_or, drop}
use Rattle.meaning.specs.Rows.{row_count}
use Rattle.meaning.specs.State.{State, program}
use Rattle.meaning.specs.Labels.{Label}
use Rattle.meaning.specs.Readings.{Sheet}
use Rattle.meaning.specs.Ready.{ready, after}
use Rattle.meaning.specs.Run.{go_from, go, run}
use Rattle.meaning.specs.Settle.{start}
use Rattle.meaning.specs.Step.{Step}
use Rattle.meaning.specs.Order.{chosen_step, Order, halt, next-step, ReadyList, Chosen, none_left, chosen, OrderOf, ChosenOf}
use Rattle.agreement.proofs.Claims.{Choosable}
use Rattle.agreement.proofs.Steps.{distinct-options, allowed-ready, offers-rise}
use Rattle.agreement.proofs.Fit.{Fit}
use Rattle.agreement.proofs.OptionRows.{OptionRows}
use Rattle.agreement.proofs.Working.{Inv}
use Rattle.agreement.proofs.Invariant.{step-inv, start-inv}
use Rattle.agreement.proofs.Beginning.{begins-at-start, begins-start}
use Rattle.agreement.proofs.RowsAscend.{ready-list}
use Rattle.agreement.proofs.FewReady.{few-ready}

-- where a step stands in a list
place : (x d : Label) (l : List Label) → Memᴰ x l → (p : ℕ) × (p < length l) × (get_or l p d ≡ x)
place x d [] x'' = elim x'' [ ]
place x d (y ∷ l) (Memᴰ.head e) = (0, omega arith, sym e)
place x d (y ∷ l) (Memᴰ.tail m) = let (p, h, e) = place x d l m in (suc p, omega arith, e)

-- the choice that is the place of a step picks it
picks : (p : ℕ) (rest : List ℕ) (x y : Label) (m : List Label) → p < length (y ∷ m) → get_or (y ∷ m) p y ≡ x → chosen_step (p ∷ rest) y m ≡ x
unfolding chosen_step
picks p rest x y m h e = rw (mod-eq_of_lt h) e

module _ (rows : List ℤ) (sheet : Sheet) (F : Fit (program rows) (row_count rows)) (O : OptionRows (program rows)) (small : row_count rows ≤ 65536) where
  abbrev I : State → Type 0
  I s = Inv (program rows) (row_count rows) F sheet s

  -- a run that goes on from s after n steps, by choices, comes to u after a list of steps
  abbrev Comes : State → ℕ → List ℕ → List Label → State → Type 0
  Comes s n choices l u = let r = go_from (program rows) sheet (length l) n choices s (ready (program rows) sheet s) in (r.state ≡ u) × (r.steps ≡ n + length l)

  -- choices that pick an order from s to t, and what a run does with them after n steps: it follows the order
  abbrev Follows : State → List Label → State → List ℕ → Type 0
  Follows s l t choices =
      ((c : ℕ) → Memᴰ c choices → c < 65536) × Chosen (program rows) sheet s choices l t
      × ((before later : List Label) (u : State) → l ≡ before ++ later → Order (program rows) sheet s before u → (n : ℕ) → Comes s n choices before u)

  stops : (s : State) (n : ℕ) (choices : List ℕ) (l : List Label) → let r = go_from (program rows) sheet 0 n choices s l in (r.state ≡ s) × (r.steps ≡ n + 0)
  unfolding go_from
  stops s n choices [] = (refl, omega arith)
  stops s n choices (x ∷ l) = (refl, omega arith)

  below : (p : ℕ) (rest : List ℕ) → p < 65536 → ((c : ℕ) → Memᴰ c rest → c < 65536) → (c : ℕ) → Memᴰ c (p ∷ rest) → c < 65536
  below p rest h g c (Memᴰ.head e) = rw e h
  below p rest h g c (Memᴰ.tail m) = g c m

  go_on : (b n : ℕ) (choices : List ℕ) (s : State) (y : Label) (m : List Label)
      → let t = after (program rows) sheet (chosen_step choices y m) s in go_from (program rows) sheet (suc b) n choices s (y ∷ m) ≡ go_from (program rows) sheet b (suc n) (drop 1 choices) t (ready (program rows) sheet t)
  unfolding go_from
  go_on b n choices s y m = refl

  -- one more step in front
  step-first : (s : State) (x : Label) (t u : State) (l : List Label) (y : Label) (m : List Label) → ready (program rows) sheet s ≡ y ∷ m → (p : ℕ) → p < length (y ∷ m) → p < 65536 → get_or (y ∷ m) p y ≡ x
      → I s → Step (program rows) sheet s x t → t ≡ after (program rows) sheet x s → (rest : List ℕ) → Follows t l u rest → Follows s (x ∷ l) u (p ∷ rest)
  step-first s x t u l y m e p h g q i w z rest (b, c, f) =
      let k = picks p rest x y m h q in
      let all : ReadyList (program rows) sheet s (y ∷ m) = subst (λ (j : List Label). ReadyList (program rows) sheet s j) e (ready-list rows sheet F O s i) in
      let first : Chosen (program rows) sheet s (p ∷ rest) (chosen_step (p ∷ rest) y m ∷ l) u
      = chosen {choices = p ∷ rest} {l = l} all (subst (λ (j : Label). Step (program rows) sheet s j t) (sym k) w) c in (
        below p rest g b,
        rw k at first,
        further,
      )
    where
      one_end : (r : State) → Step (program rows) sheet s x r → r ≡ t
      one_end r j = (allowed-ready rows sheet F s i x r j).1 ∙ sym z

      further : (before later : List Label) (r : State) → x ∷ l ≡ before ++ later → Order (program rows) sheet s before r → (n : ℕ) → Comes s n (p ∷ rest) before r
      further before later r a halt n = stops s n (p ∷ rest) (ready (program rows) sheet s)
      further before later r a (next-step {t = j} {x = o} {l = k} d k-order) n =
          let same : x ≡ o = cc in
          let there : j ≡ t = one_end j (subst (λ (a : Label). Step (program rows) sheet s a j) (sym same) d) in
          let rest_of : l ≡ k ++ later = cc in
          let goes = f k later r rest_of (subst (λ (a : State). Order (program rows) sheet a k r) there k-order) (suc n) in
          let v : after (program rows) sheet (chosen_step (p ∷ rest) y m) s ≡ t = ap (λ (w : Label). after (program rows) sheet w s) (picks p rest x y m h q) ∙ sym z in
          rw (e, go_on (length k) n (p ∷ rest) s y m, v) (goes.0, goes.1 ∙ omega arith)

  -- by the place of the step among the ready ones
  by-list : (s : State) (x : Label) (t u : State) (l r : List Label) → ready (program rows) sheet s ≡ r → length r ≤ row_count rows → Memᴰ x r → I s → Step (program rows) sheet s x t → t ≡ after (program rows) sheet x s → (rest : List ℕ) → Follows t l u rest
      → (choices : List ℕ) × Follows s (x ∷ l) u choices
  by-list s x t u l [] e k m i w z rest f = absurd (Memᴰ.not-nil m)
  by-list s x t u l (y ∷ r) e k m i w z rest f = let (p, h, q) = place x y (y ∷ r) m in (p ∷ rest, step-first s x t u l y r e p h (omega arith) q i w z rest f)

  pub follows : {s t : State} {l : List Label} → I s → Order (program rows) sheet s l t → (choices : List ℕ) × Follows s l t choices
  follows {s} i halt = ([], (λ c m. absurd (Memᴰ.not-nil m), none_left, nothing_left))
    where
      nothing_left : (before later : List Label) (u : State) → [] ≡ before ++ later → Order (program rows) sheet s before u → (n : ℕ) → Comes s n [] before u
      nothing_left before later u e halt n = stops s n [] (ready (program rows) sheet s)
      nothing_left before later u e (next-step h o) n = let z : ◌≡◌ {A = ℕ} 0 1 = cc in absurd (omega arith)
  follows i (next-step {s} {t} {u} {x} {l} h o) =
      let (a, z) = allowed-ready rows sheet F s i x t h in
      let j = step-inv (program rows) (row_count rows) F sheet (distinct-options rows sheet) s x t i h in
      let few : length (ready (program rows) sheet s) ≤ row_count rows = few-ready (program rows) (row_count rows) F sheet s i O (offers-rise rows sheet s) in
      let (rest, f) = follows j o in
      by-list s x t u l (ready (program rows) sheet s) refl few a i h z rest f

  -- choices that pick an order: with as many steps as one of its beginnings has, a run comes where that beginning does
  pub picked : (l : List Label) (s : State) → OrderOf rows sheet l s → (choices : List ℕ) × ((c : ℕ) → Memᴰ c choices → c < 65536) × ChosenOf rows sheet choices l s
      × ((before later : List Label) (u : State) → l ≡ before ++ later → OrderOf rows sheet before u
      → ((run rows sheet choices (length before)).state ≡ u) × ((run rows sheet choices (length before)).steps ≡ length before))
  unfolding run go
  picked l s o =
      let (choices, (b, c, f)) = follows (start-inv (program rows) (row_count rows) F sheet) (from_start o) in
      (choices, b, record { beginning = start (program rows); begins = begins-at-start (program rows) (row_count rows) F; picked = c }, λ before later u e q. let (x, y) = f before later u e (from_start q) 0 in (x, y ∙ omega arith))
    where
      from_start : {k : List Label} {t : State} → OrderOf rows sheet k t → Order (program rows) sheet (start (program rows)) k t
      from_start {k} {t} q = subst (λ (p : State). Order (program rows) sheet p k t) (begins-start (program rows) (row_count rows) F q.beginning q.begins) q.order

-- the claim of `Order`: every step that is allowed can be chosen
pub choosable : (Accepted : List ℤ → Sheet → Type 0)
    → ((rows : List ℤ) (sheet : Sheet) → Accepted rows sheet → Fit (program rows) (row_count rows) × OptionRows (program rows) × (row_count rows ≤ 65536)) → Choosable Accepted
choosable Accepted fit rows sheet l s a o =
    let (F, O, k) = fit rows sheet a in
    let (choices, small, order, comes) = picked rows sheet F O k l s o in
    let (x, y) = comes l [] s (sym (append-nil l)) o in
    (choices, small, order, x, y)
