-- A step of an accepted table leaves as it was what every other live row would do.
use mathlib.Core.Path.{◌≡◌, refl, ap, ◌∙◌}
use mathlib.Core.Logic.{◌⊎◌, inl, inr}
use mathlib.Core.Bool.{true}
use mathlib.Core.Option.{none}
use mathlib.Core.List.Memᴰ
use mathlib.Core.List.{List, [], ◌∷◌, ◌++◌, Memᴰ}
use Prim.Native.Nat.{ℕ}
use native.Mathlib.Omega.{arith}
use lib.IntN.{ℤ}
use lib.ListN.{get_or}
use lib.Dec.{eqb}
use borrow.Author.Tests.{eqb-true}
use Rattle.meaning.specs.Rows.{row_count}
use Rattle.meaning.specs.Tree.{stop, skip, sequence, parallel, assign, input, output, conditional, loop, alternation, block, Process, node, empty, also, row_of, action_of, processes_in, rows_in, rows_beneath}
use Rattle.meaning.specs.Settle.{by_step, mode, settled}
use Rattle.meaning.specs.SettlingRules.{Among, All, Next, Inside, Settles, Final}
use Rattle.meaning.specs.State.{State, Program, program, process_at, whole, Effect}
use Rattle.meaning.specs.Labels.{Label}
use Rattle.meaning.specs.Readings.{Sheet}
use Rattle.meaning.specs.Ready.{all_idle, is_live, intent_at, after}
use Rattle.meaning.specs.Step.{Live}
use Rattle.meaning.specs.Order.{OrderOf}
use Rattle.meaning.specs.Answers.{check}
use Rattle.agreement.proofs.Again.{Out, Idle}
use Rattle.agreement.proofs.Frame.{row_in}
use Rattle.agreement.proofs.Reached.{order-more}
use Rattle.agreement.proofs.Fit.{Fit}
use Rattle.agreement.proofs.Active.{Active}
use Rattle.agreement.proofs.Working.{Inv, Works, idle-all, sub_at, in-or-out, live-works}
use Rattle.agreement.proofs.Invariant.{effect-step}
use Rattle.agreement.proofs.Separate.{table-inv}
use Rattle.agreement.proofs.TableFit.{fit}
use Rattle.agreement.proofs.Freedom.{NoneOf, works-same}
use Rattle.agreement.proofs.OrdersSettle.{orders-settled}
use Rattle.machine.proofs.StepEffects.{active-effect, after-effect}
use Rattle.machine.proofs.LiveRows.{both, running-inside}

-- ---- live rows, by the rules

node-is : (p : Process) → p ≡ node (action_of p) (row_of p) (processes_in p)
node-is (node a r ms) = refl

module _ (P : Program) (sheet : Sheet) (s : State) (r : ℕ) where
  -- a live row is running, and all beneath it is idle
  pub live-tells : is_live P sheet r s ≡ true → (get_or s.states r 0 ≡ 1) × Idle (rows_beneath (processes_in (process_at P r))) s.states
  unfolding is_live
  live-tells h =
      let rs = rows_beneath (processes_in (process_at P r)) in
      let (u, i) = both (eqb (get_or s.states r 0) 1) (all_idle rs s.states) h in
      (eqb-true (get_or s.states r 0) 1 u, idle-all rs s.states i)

  -- so it is live by the rules, with its own action
  live-rule : is_live P sheet r s ≡ true → Live P s r (action_of (process_at P r))
  live-rule h = Live.live (node-is (process_at P r)) (live-tells h).0 (live-tells h).1

-- a running process with all beneath it idle, to which no rule of settling applies, starts no member by itself
final-by-step : (top p : Process) (s : State) → Final top s → Inside top p → get_or s.states (row_of p) 0 ≡ 1 → Idle (rows_beneath (processes_in p)) s.states → mode (action_of p) ≡ by_step
final-by-step top (node stop r ms) s f i u h = refl
final-by-step top (node skip r ms) s f i u h = absurd (f _ (Settles.skip-ends (i, u)))
final-by-step top (node sequence r empty) s f i u h = absurd (f _ (Settles.seq-ends (i, u) All.all_none))
final-by-step top (node sequence r (also p ms)) s f i u h = absurd (f _ (Settles.seq-starts (i, u) Next.next_here (h (row_of p) (Memᴰ.append_left (rows_beneath ms) (row_in p)))))
final-by-step top (node parallel r empty) s f i u h = absurd (f _ (Settles.par-ends (i, u) All.all_none))
final-by-step top (node parallel r (also p ms)) s f i u h = absurd (f _ (Settles.par-starts (i, u) Among.among_first (h (row_of p) (Memᴰ.append_left (rows_beneath ms) (row_in p)))))
final-by-step top (node (assign v a b) r ms) s f i u h = refl
final-by-step top (node (input c) r ms) s f i u h = refl
final-by-step top (node (output c a b) r ms) s f i u h = refl
final-by-step top (node (conditional ts) r ms) s f i u h = refl
final-by-step top (node (loop a b) r ms) s f i u h = refl
final-by-step top (node (alternation bs) r ms) s f i u h = refl
final-by-step top (node (block v) r empty) s f i u h = absurd (f _ (Settles.block-ends (i, u) All.all_none))
final-by-step top (node (block v) r (also p ms)) s f i u h = absurd (f _ (Settles.block-starts (i, u) Next.next_here (h (row_of p) (Memᴰ.append_left (rows_beneath ms) (row_in p)))))

-- ---- accepted tables

module _ (rows : List ℤ) (ok : check rows ≡ none) (sheet : Sheet) (l : List Label) (s : State) (o : OrderOf rows sheet l s) where
  abbrev P : Program
  P = program rows

  abbrev F : Fit P (row_count rows)
  F = fit rows ok

  -- the invariant of the order's state
  inv : Inv P (row_count rows) F sheet s
  inv = table-inv rows sheet F l s o

  -- the process of a running row stands at that row
  running-row : (r : ℕ) → get_or s.states r 0 ≡ 1 → row_of (process_at P r) ≡ r
  running-row r u = go (in-or-out r (rows_in (whole P)))
    where
      go : Memᴰ r (rows_in (whole P)) ⊎ Out r (rows_in (whole P)) → row_of (process_at P r) ≡ r
      go (inl m) = let (k, (ms, h)) = sub_at (whole P) r m in ap row_of (F.placed k r ms h)
      go (inr n) = absurd (omega (arith, u, inv.outside r n))

  -- a live row works: it is no SKIP, SEQ or PAR, since the state is settled
  pub live-row-works : (r : ℕ) → is_live P sheet r s ≡ true → Works P (row_count rows) F sheet s r
  live-row-works r h =
      let (u, i) = live-tells P sheet s r h in
      let m = final-by-step (whole P) (process_at P r) s (orders-settled rows ok sheet l s o) (running-inside rows ok sheet l s o r u) (ap (λ (y : ℕ). get_or s.states y 0) (running-row r u) ∙ u) i in
      (live-works P (row_count rows) F sheet s r (action_of (process_at P r)) inv (live-rule P sheet s r h) m).0

  module _ {x : Label} {e : Effect} (A : Active (intent_at P sheet s) x e) where
    abbrev t : State
    t = after P sheet x s

    -- what the step leaves
    left : t ≡ settled P e s
    left = after-effect P sheet s x e (active-effect (intent_at P sheet s) A)

    -- the order that takes the step too
    pub order-after : OrderOf rows sheet (l ++ (x ∷ [])) t
    order-after = rw left (order-more rows sheet o (effect-step P (row_count rows) F sheet s inv x e (active-effect (intent_at P sheet s) A)))

    module _ (r : ℕ) (d : NoneOf x r) where
      -- a live row that is none of the step's rows would do the same after it
      pub live_same : is_live P sheet r s ≡ true → intent_at P sheet t r ≡ intent_at P sheet s r
      live_same h = rw left (works-same P (row_count rows) F sheet s inv A r d (live-row-works r h))
