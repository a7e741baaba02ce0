-- Every state that an order of an accepted table reaches is coherent; and in none has the root ended while a row is stopped.
use mathlib.Core.Path.{◌≡◌, refl, sym, ap, subst, ◌∙◌}
use mathlib.Core.Logic.{◌⊎◌, inl, inr, ⊎_elim}
use mathlib.Core.Bool.{false}
use mathlib.Core.Option.{none}
use mathlib.Core.List.Memᴰ
use mathlib.Core.List.{List, [], ◌∷◌, map, Memᴰ}
use Prim.Native.Nat.{ℕ, zero, suc}
use native.Mathlib.Omega.{arith}
use lib.IntN.{ℤ}
use lib.ListN.{length, get_or, replicate}
use Rattle.meaning.specs.Rows.{row_count}
use Rattle.meaning.specs.Declarations.{sink_at}
use Rattle.meaning.specs.Tree.{Process, node, Processes, empty, also, row_of, rows_in, rows_beneath}
use Rattle.meaning.specs.Values.{Message}
use Rattle.meaning.specs.Settle.{begun, start, settled}
use Rattle.meaning.specs.SettlingRules.{Among, All, Inside}
use Rattle.meaning.specs.State.{State, state_of, any_of, Program, program, whole, change_states, write_all}
use Rattle.meaning.specs.Labels.{Label}
use Rattle.meaning.specs.Readings.{Sheet}
use Rattle.meaning.specs.Step.{Step}
use Rattle.meaning.specs.Order.{is_stopped, root_started, Order, halt, next-step, OrderOf}
use Rattle.meaning.specs.Answers.{check}
use Rattle.agreement.specs.Coherence.{RowState, AllIdle, CoherentRows, OrdersCoherent, EndedOrBroken, ProcessesTell}
use Rattle.agreement.proofs.Allowed.{allowed}
use Rattle.agreement.proofs.Steps.{distinct-options}
use Rattle.agreement.proofs.Fit.{Fit}
use Rattle.agreement.proofs.Working.{Inv, in-or-out}
use Rattle.agreement.proofs.Invariant.{length-marks, step-effect, step-inv, start-inv}
use Rattle.agreement.proofs.TableFit.{fit}
use Rattle.agreement.proofs.KnownStates.{Known, set_known, changes-known, settle-known}
use Rattle.agreement.proofs.CoherentRows.{coherent-rows}
use Rattle.agreement.proofs.DataKept.{Bounded, writes-bounded, unset-bounded, step_ok}
use Rattle.agreement.proofs.Beginning.{resting-idle, started-length, start_is, begins-start}
use Rattle.agreement.proofs.OrdersSettle.{whole_row}

default-everywhere : {A : Type 0} (k : ℕ) (d : A) (x : ℕ) → get_or (replicate k d) x d ≡ d
default-everywhere zero d x = refl
default-everywhere (suc k) d zero = refl
default-everywhere (suc k) d (suc x) = default-everywhere k d x

module _ (rows : List ℤ) (ok : check rows ≡ none) (sheet : Sheet) where
  abbrev P : Program
  P = program rows

  abbrev n : ℕ
  n = row_count rows

  abbrev F : Fit P n
  F = fit rows ok

  -- what an order keeps
  record Kept (s : State) : Type 0 where
    inv : Inv P n F sheet s
    known : Known s.states
    bounded : Bounded rows sheet s.store

  start-known : Known (start P).states
  start-known =
      subst Known (sym (start_is P n F))
      (settle-known (whole P) n F.sound F.plain (root_started P).states (started-length P n F)
      (set_known (map (λ (p : Process). 0) P.processes) P.root 1 RowState.running (λ x. subst RowState (sym (resting-idle P n F x)) RowState.idle)))

  start-bounded : Bounded rows sheet (start P).store
  unfolding start
  start-bounded =
      record {
        places-left = λ c. omega (arith, default-everywhere {A = ℕ} P.inputs 0 c);
        room-kept = λ r h. let e = ap (λ (l : List Message). length l) (default-everywhere {A = List Message} P.outputs [] (sink_at rows r).number) in omega arith;
      }

  step_kept : (s : State) (x : Label) (t : State) → Kept s → Step P sheet s x t → Kept t
  unfolding settled
  step_kept s x t k h =
      let (e, q, z) = step-effect P n F sheet (distinct-options rows sheet) s x t k.inv h in
      let (c, w) = step_ok rows sheet s x e (allowed P sheet s x e q) in
      record {
        inv = step-inv P n F sheet (distinct-options rows sheet) s x t k.inv h;
        known = subst (λ (u : State). Known u.states) (sym z)
            (settle-known (whole P) n F.sound F.plain (change_states e.changes s.states) (length-marks e.changes s.states ∙ k.inv.size) (changes-known e.changes s.states c k.known));
        bounded = subst (λ (u : State). Bounded rows sheet u.store) (sym z)
            (unset-bounded rows sheet (begun (whole P) false (change_states e.changes s.states)) (write_all e.writes s.store) (writes-bounded rows sheet e.writes s.store w k.bounded));
      }

  order-kept : {s t : State} {l : List Label} → Kept s → Order P sheet s l t → Kept t
  order-kept k halt = k
  order-kept k (next-step {s} {t} {x} h o) = order-kept (step_kept s x t k h) o

  reached-kept : {s : State} {l : List Label} → OrderOf rows sheet l s → Kept s
  reached-kept o =
      order-kept (subst Kept (sym (begins-start P n F o.beginning o.begins)) (record { inv = start-inv P n F sheet; known = start-known; bounded = start-bounded })) o.order

pub orders-coherent : OrdersCoherent
orders-coherent rows ok sheet l s o =
    let k = reached-kept rows ok sheet o in
    record {
      size = k.inv.size;
      rows-coherent = coherent-rows (whole (program rows)) s.states k.inv.good k.known k.inv.outside;
      places-left = k.bounded.places-left;
      room-kept = k.bounded.room-kept;
    }

-- ---- ended or broken

none-stopped : (l : List ℕ) → ((x : ℕ) → (get_or l x 0 ≡ 0) ⊎ (get_or l x 0 ≡ 2)) → any_of is_stopped l ≡ false
none-stopped [] h = refl
none-stopped (a ∷ l) h = go (h 0) (none-stopped l (λ x. h (suc x)))
  where
    go : (a ≡ 0) ⊎ (a ≡ 2) → any_of is_stopped l ≡ false → any_of is_stopped (a ∷ l) ≡ false
    go (inl e) k = rw (e, k)
    go (inr e) k = rw (e, k)

-- where the whole process has ended, every row is idle or has ended
all-over : (whole : Process) (s : List ℕ) → CoherentRows s whole → get_or s (row_of whole) 0 ≡ 2 → (x : ℕ) → (get_or s x 0 ≡ 0) ⊎ (get_or s x 0 ≡ 2)
all-over (node a r ms) s c e x = go (in-or-out x (rows_in (node a r ms)))
  where
    go : Memᴰ x (rows_in (node a r ms)) ⊎ (Memᴰ x (rows_in (node a r ms)) → ⊥) → (get_or s x 0 ≡ 0) ⊎ (get_or s x 0 ≡ 2)
    go (inl (Memᴰ.head q)) = inr (ap (λ (y : ℕ). get_or s y 0) q ∙ e)
    go (inl (Memᴰ.tail m)) = c.beneath-ended a r ms Inside.itself e x m
    go (inr o) = inl (c.no-process x o)

pub ended-or-broken : EndedOrBroken
ended-or-broken rows ok sheet l s o e =
    none-stopped s.states (all-over (whole (program rows)) s.states (orders-coherent rows ok sheet l s o).rows-coherent (ap (λ (r : ℕ). get_or s.states r 0) (whole_row rows ok) ∙ e))

-- ---- idle members have only idle rows beneath them

idle-process : (q : Process) (s : List ℕ) (whole : Process) → CoherentRows s whole → Inside whole q → state_of s q ≡ 0 → AllIdle s (rows_in q)
idle-process (node a r ms) s whole c i e x (Memᴰ.head q) = ap (λ (y : ℕ). get_or s y 0) q ∙ e
idle-process (node a r ms) s whole c i e x (Memᴰ.tail m) = c.beneath-idle a r ms i e x m

idle-members : (s : List ℕ) (whole : Process) → CoherentRows s whole → (ms : Processes) → ((q : Process) → Among q ms → Inside whole q) → All 0 s ms → AllIdle s (rows_beneath ms)
idle-members s whole c empty i h x m = absurd (Memᴰ.not-nil m)
idle-members s whole c (also p ms) i (All.all_more e h) x m =
    ⊎_elim (idle-process p s whole c (i p Among.among_first) e x) (idle-members s whole c ms (λ q a. i q (Among.among_later a)) h x) (Memᴰ.append_cases (rows_in p) m)

pub members-tell : ProcessesTell
members-tell rows ok sheet l s o a r ms i h =
    idle-members s.states (whole (program rows)) (orders-coherent rows ok sheet l s o).rows-coherent ms (λ q m. Inside.beneath i m) h
