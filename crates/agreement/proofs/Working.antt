-- A row that would do something stands in the whole process, at its frontier: it is running and all beneath it is idle.
use mathlib.Core.Path.{◌≡◌, refl, sym, ap, subst, ◌∙◌}
use mathlib.Core.Logic.{◌≢◌, ◌⊎◌, inl, inr, ⊎_elim}
use mathlib.Core.Bool.{Bool, true, false, ◌&&◌}
use mathlib.Core.List.{List, [], ◌∷◌, Memᴰ}
use Prim.Native.Nat.{ℕ}
use native.Mathlib.Omega.{arith}
use native.Mathlib.Decide.{ℕ_discrete}
use lib.ListN.{length, get_or}
use lib.Dec.{eqb, T, eqb→eq}
use Rattle.meaning.specs.Basics.{if_else}
use Rattle.meaning.specs.Tree.{Action, stop, skip, sequence, parallel, assign, input, output, conditional, loop, alternation, block, Process, node, Processes, empty, also, action_of, processes_in, rows_in, rows_beneath}
use Rattle.meaning.specs.Settle.{by_step, mode}
use Rattle.meaning.specs.State.{State, Program, process_at, whole}
use Rattle.meaning.specs.Readings.{Sheet}
use Rattle.meaning.specs.Intent.{Intent, waits, moves, inputs_from, outputs_to, selects, intent}
use Rattle.meaning.specs.Ready.{all_idle, is_live, intent_at}
use Rattle.meaning.specs.Step.{Live}
use Rattle.meaning.proofs.Decides.{both_true}
use Rattle.agreement.proofs.Again.{Out, Idle}
use Rattle.agreement.proofs.Commute.{Legal, own, At, AtM, here, under, first, later}
use Rattle.agreement.proofs.Reach.{Good, Sub, SubM, self, inside, front, back, frontier, apart}
use Rattle.agreement.proofs.Fit.{Apt, Fit}
use Rattle.agreement.proofs.Proper.{Proper, proper}

-- ---- rows and processes

mutual
  pub sub_at : (p : Process) (r : ℕ) → Memᴰ r (rows_in p) → (k : Action) × ((ms : Processes) × Sub k r ms p)
  sub_at (node k q ms) r (mathlib.Core.List.Memᴰ.head e) = (k, (ms, rw e self))
  sub_at (node k q ms) r (mathlib.Core.List.Memᴰ.tail m) = let (j, (ns, h)) = sub_m-at ms r m in (j, (ns, inside h))

  pub sub_m-at : (ps : Processes) (r : ℕ) → Memᴰ r (rows_beneath ps) → (k : Action) × ((ms : Processes) × SubM k r ms ps)
  sub_m-at empty r m = absurd (mathlib.Core.List.Memᴰ.not-nil m)
  sub_m-at (also p ps) r m =
      ⊎_elim (λ (h : Memᴰ r (rows_in p)). let (k, (ms, q)) = sub_at p r h in (k, (ms, front q)))
      (λ (h : Memᴰ r (rows_beneath ps)). let (k, (ms, q)) = sub_m-at ps r h in (k, (ms, back q))) (mathlib.Core.List.Memᴰ.append_cases (rows_in p) m)

pub in-or-out : (r : ℕ) (l : List ℕ) → Memᴰ r l ⊎ Out r l
in-or-out r [] = inr (λ m. mathlib.Core.List.Memᴰ.not-nil m)
in-or-out r (x ∷ l) = go (ℕ_discrete r x) (in-or-out r l)
  where
    go : Dec (r ≡ x) → Memᴰ r l ⊎ Out r l → Memᴰ r (x ∷ l) ⊎ Out r (x ∷ l)
    go (yes e) k = inl (mathlib.Core.List.Memᴰ.head e)
    go (no e) (inl m) = inl (mathlib.Core.List.Memᴰ.tail m)
    go (no e) (inr o) = inr (λ m. elim m [ mathlib.Core.List.Memᴰ.head q ↦ e q | mathlib.Core.List.Memᴰ.tail n ↦ o n ])

-- the process at the frontier
abbrev Frontier : ℕ → List ℕ → (Action → Processes → Type 0) → Type 0
Frontier b s F = (k : Action) × ((ms : Processes) × (F k ms × (get_or s b 0 ≡ 1) × Idle (rows_beneath ms) s))

module _ {b x v : ℕ} {s : List ℕ} where
  mutual
    pub at-sub : {p : Process} → At b x v s p → Frontier b s (λ k ms. Sub k b ms p)
    at-sub (here {k} {r} {ms} e h m i l) = (k, (ms, (rw (← e) self, rw (← e) h, i)))
    at-sub (under h m) = let (k, (ms, (q, e, i))) = at_m-sub m in (k, (ms, (inside q, e, i)))

    at_m-sub : {ps : Processes} → AtM b x v s ps → Frontier b s (λ k ms. SubM k b ms ps)
    at_m-sub (first h) = let (k, (ms, (q, e, i))) = at-sub h in (k, (ms, (front q, e, i)))
    at_m-sub (later h) = let (k, (ms, (q, e, i))) = at_m-sub h in (k, (ms, (back q, e, i)))

-- ---- live rows

-- 0 where nothing would be done
abbrev pub acts : Intent → ℕ
acts waits = 0
acts (moves x v ws) = 1
acts (inputs_from e a) = 1
acts (outputs_to e v) = 1
acts (selects l) = 1

-- a row that would do something starts no member by itself
acts-by-step : (sheet : Sheet) (k : Action) (s : State) (r : ℕ) → acts (intent sheet k r s.store) ≡ 1 → mode k ≡ by_step
unfolding intent
acts-by-step sheet stop s r e = refl
acts-by-step sheet skip s r e = absurd (omega arith)
acts-by-step sheet sequence s r e = absurd (omega arith)
acts-by-step sheet parallel s r e = absurd (omega arith)
acts-by-step sheet (assign v a b) s r e = refl
acts-by-step sheet (input i) s r e = refl
acts-by-step sheet (output c a b) s r e = refl
acts-by-step sheet (conditional ts) s r e = refl
acts-by-step sheet (loop a b) s r e = refl
acts-by-step sheet (alternation bs) s r e = refl
acts-by-step sheet (block v) s r e = absurd (omega arith)

eqb_is : (m n : ℕ) → eqb m n ≡ true → m ≡ n
eqb_is m n e = eqb→eq m n (subst (λ (t : Bool). T t) (sym e) tt)

pub idle-all : (l s : List ℕ) → all_idle l s ≡ true → Idle l s
idle-all [] s e b x3 = elim x3 [ ]
idle-all (r ∷ l) s e b (mathlib.Core.List.Memᴰ.head q) = rw q (eqb_is (get_or s r 0) 0 (both_true (eqb (get_or s r 0) 0) (all_idle l s) e).0)
idle-all (r ∷ l) s e b (mathlib.Core.List.Memᴰ.tail m) = idle-all l s (both_true (eqb (get_or s r 0) 0) (all_idle l s) e).1 b m

pub all-idle : (l s : List ℕ) → Idle l s → all_idle l s ≡ true
all-idle [] s h = refl
all-idle (r ∷ l) s h = rw (h r (mathlib.Core.List.Memᴰ.head refl), all-idle l s (λ b m. h b (mathlib.Core.List.Memᴰ.tail m)))

module _ (P : Program) (n : ℕ) (F : Fit P n) (sheet : Sheet) where
  -- what holds in every state that an order reaches
  pub record Inv (s : State) : Type 0 where
    pub size : length s.states ≡ n
    pub good : Good s.states (whole P)
    pub outside : (y : ℕ) → Out y (rows_in (whole P)) → get_or s.states y 0 ≡ 0

  -- row r is at the frontier, and would do what its action does
  pub record Works (s : State) (r : ℕ) : Type 0 where
    pub action : Action
    pub listed : Processes
    pub sub : Sub action r listed (whole P)
    pub runs : get_or s.states r 0 ≡ 1
    pub idle : Idle (rows_beneath listed) s.states
    pub by-step : mode action ≡ by_step
    pub does : intent_at P sheet s r ≡ intent sheet action r s.store

  -- a live row would do what its action does
  live-does : (s : State) (r : ℕ) (k : Action) (ms : Processes) → process_at P r ≡ node k r ms → get_or s.states r 0 ≡ 1 → Idle (rows_beneath ms) s.states → intent_at P sheet s r ≡ intent sheet k r s.store
  unfolding intent_at is_live
  live-does s r k ms e u i = rw (e, u, all-idle (rows_beneath ms) s.states i)

  -- a row that would do something is live
  acts-live : (s : State) (r : ℕ) → acts (intent_at P sheet s r) ≡ 1 → (get_or s.states r 0 ≡ 1) × Idle (rows_beneath (processes_in (process_at P r))) s.states
  unfolding intent_at is_live
  acts-live s r = go (eqb (get_or s.states r 0) 1) (all_idle (rows_beneath (processes_in (process_at P r))) s.states) refl refl
    where
      go : (t u : Bool) → eqb (get_or s.states r 0) 1 ≡ t → all_idle (rows_beneath (processes_in (process_at P r))) s.states ≡ u
          → acts (if_else (t && u) (intent sheet (action_of (process_at P r)) r s.store) waits) ≡ 1 → (get_or s.states r 0 ≡ 1) × Idle (rows_beneath (processes_in (process_at P r))) s.states
      go true true e f h = (eqb_is (get_or s.states r 0) 1 e, idle-all (rows_beneath (processes_in (process_at P r))) s.states f)
      go true false e f h = absurd (omega arith)
      go false u e f h = absurd (omega arith)

  pub works : (s : State) (r : ℕ) → Inv s → acts (intent_at P sheet s r) ≡ 1 → Works s r
  works s r i h = go (in-or-out r (rows_in (whole P)))
    where
      u : get_or s.states r 0 ≡ 1
      u = (acts-live s r h).0

      found : (k : Action) (ms : Processes) → Sub k r ms (whole P) → Works s r
      found k ms q =
          let e = F.placed k r ms q in
          let f : Idle (rows_beneath ms) s.states = rw e at (acts-live s r h).1 in
          let d = live-does s r k ms e u f in
          record { action = k; listed = ms; sub = q; runs = u; idle = f; by-step = acts-by-step sheet k s r (sym (ap acts d) ∙ h); does = d }

      go : Memᴰ r (rows_in (whole P)) ⊎ Out r (rows_in (whole P)) → Works s r
      go (inl m) = let (k, (ms, q)) = sub_at (whole P) r m in found k ms q
      go (inr o) = absurd (omega (arith, u, i.outside r o))

  -- a row that is live by the rules works, with that action
  pub live-works : (s : State) (r : ℕ) (a : Action) → Inv s → Live P s r a → mode a ≡ by_step → (W : Works s r) × (W.action ≡ a)
  live-works s r a i (Live.live {q = q₀} {ms = ms₀} e u h) b = go (in-or-out r (rows_in (whole P)))
    where
      found : (k : Action) (ms : Processes) → Sub k r ms (whole P) → (W : Works s r) × (W.action ≡ a)
      found k ms q =
          let p = F.placed k r ms q in
          let z : node k r ms ≡ node a q₀ ms₀ = sym p ∙ e in
          let ka : k ≡ a = ap action_of z in
          let f : Idle (rows_beneath ms) s.states = λ y m. h y (subst (λ (x : Processes). Memᴰ y (rows_beneath x)) (ap processes_in z) m) in
          (record { action = k; listed = ms; sub = q; runs = u; idle = f; by-step = ap mode ka ∙ b; does = live-does s r k ms p u f }, ka)

      go : Memᴰ r (rows_in (whole P)) ⊎ Out r (rows_in (whole P)) → (W : Works s r) × (W.action ≡ a)
      go (inl m) = let (k, (ms, q)) = sub_at (whole P) r m in found k ms q
      go (inr o) = absurd (omega (arith, u, i.outside r o))

  -- it may make the changes that are its own
  pub works_at : (s : State) (r x v : ℕ) → Inv s → (W : Works s r) → Legal x v r W.listed → At r x v s.states (whole P)
  works_at s r x v i W l = frontier s.states W.action r W.listed x v W.runs W.by-step W.idle l (whole P) W.sub i.good

  -- it does what is its own to do
  pub works-proper : (s : State) (r : ℕ) (W : Works s r) {w : Intent} → intent_at P sheet s r ≡ w → Proper F.source F.sink W.action W.listed r w
  works-proper s r W h =
      rw (← h, W.does) (proper F.source F.sink sheet s.store r W.listed W.action (F.hosts W.action r W.listed W.sub) (F.starts W.action r W.listed W.sub))

  -- two such rows stand in two members of a PAR, and touch nothing in common
  pub works-apart : (s : State) (a b : ℕ) → Inv s → (A : Works s a) (B : Works s b) → a ≢ b → Apt A.action B.action
  works-apart s a b i A B ne =
      let h = apart a a 2 b b 2 s.states ne (whole P) i.good (works_at s a a 2 i A (own 0 refl refl)) (works_at s b b 2 i B (own 0 refl refl)) in
      let q = F.apart a b h in
      rw (F.placed A.action a A.listed A.sub, F.placed B.action b B.listed B.sub) at q

  -- a row at the frontier would do what its action does
  pub frontier-does : (s : State) (r x v : ℕ) → At r x v s.states (whole P) → intent_at P sheet s r ≡ intent sheet (action_of (process_at P r)) r s.store
  frontier-does s r x v h =
      let (k, (ms, (q, e, i))) = at-sub h in
      let z = F.placed k r ms q in
      rw z (live-does s r k ms z e i)
