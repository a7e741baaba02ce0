-- The cells of blocks in accepted tables: a block unsets them when it starts, and no step unsets them else; a block that starts and ends within one
-- settling has no row beneath it that ever set one; and what a step hands to a cell is there when the state has settled.
use mathlib.Core.Path.{◌≡◌, refl, sym, ap, subst, ◌∙◌}
use mathlib.Core.Logic.{◌≢◌, ◌⊎◌, inl, inr}
use mathlib.Core.Bool.{Bool, true, false, true≢false}
use mathlib.Core.Option.{none, some}
use mathlib.Core.List.Memᴰ
use mathlib.Core.List.{List, [], ◌∷◌, Memᴰ}
use Prim.Native.Nat.{ℕ}
use native.Mathlib.Omega.{arith}
use native.Mathlib.Decide.{ℕ_discrete}
use lib.IntN.{ℤ}
use lib.ListN.{get_or}
use lib.Seq.{get_or-set_same}
use Rattle.meaning.specs.Rows.{row_count}
use Rattle.meaning.specs.Declarations.{Variable}
use Rattle.meaning.specs.Tree.{block, Process, node, Processes, empty, also, action_of, row_of, rows_beneath}
use Rattle.meaning.specs.Values.{Message}
use Rattle.meaning.specs.Usage.{cells_of_variable, cells_of_all}
use Rattle.meaning.specs.State.{Store, State, Program, program, whole, Effect, changed}
use Rattle.meaning.specs.Settle.{in_turn, by_step, mode, starts, is_ended, all_of, begun, settled}
use Rattle.meaning.specs.Labels.{Label}
use Rattle.meaning.specs.Readings.{Sheet}
use Rattle.meaning.specs.Ready.{intent_at}
use Rattle.meaning.specs.Step.{Allows, Step}
use Rattle.meaning.specs.Order.{OrderOf}
use Rattle.meaning.specs.Answers.{check}
use Rattle.meaning.proofs.AnswerLaws.{accepted}
use Rattle.meaning.proofs.UnsetLaws.{holds_cell, among-mem, mem-among, not-among, cell-held, cell-kept}
use Rattle.agreement.specs.MissingClaims.{cell_at, Delivers, TakesAbsent, LocalCell, BlockStarts, block-started, OnlyStartUnsets, StartUnsets, StartAndEndShowsNothing, OnlyTheseUnset, DeliveredHolds}
use Rattle.agreement.proofs.Frame.{row_in}
use Rattle.agreement.proofs.Again.{Idle}
use Rattle.agreement.proofs.Reach.{Good, idle, over, run, Sub}
use Rattle.agreement.proofs.Inside.{within_of, inside_of, sub-under}
use Rattle.agreement.proofs.Fit.{Fit}
use Rattle.agreement.proofs.Active.{Active, active}
use Rattle.agreement.proofs.Takeable.{takeable}
use Rattle.agreement.proofs.Steps.{distinct-options}
use Rattle.agreement.proofs.Working.{sub_m-at, Inv}
use Rattle.agreement.proofs.Invariant.{settled-store, changed-good, only-settled}
use Rattle.agreement.proofs.Separate.{table-inv}
use Rattle.agreement.proofs.TableFit.{fit}
use Rattle.agreement.proofs.TableBlocks.{blocks-apart}
use Rattle.agreement.proofs.CoherentRows.{good-inside}
use Rattle.agreement.proofs.OrdersSettle.{settled-again}
use Rattle.agreement.proofs.SettlingData.{settling-cells}
use Rattle.agreement.proofs.UnsetApart.{cell-of, cell_in}
use Rattle.agreement.proofs.MissingSteps.{writes-only, absent-delivery, stored_at, set-in-order}
use Rattle.agreement.proofs.BlocksStarted.{NoStep, OneProcess, StartedIn}
use Rattle.agreement.proofs.BlocksListed.{begins-see}
use Rattle.agreement.proofs.BlockChanges.{delivers-beneath, changed-beneath, changed-size, started}

-- a cell after a step is as it was, or holds a message that the step hands to it, or its block starts
abbrev KeptHandedOrStarts : Program → Sheet → State → Label → State → ℕ → Type 0
KeptHandedOrStarts P sheet s x t a = (cell_at t a ≡ cell_at s a) ⊎ ((m : Message) × Delivers P sheet s x a m × (cell_at t a ≡ m)) ⊎ BlockStarts P s t a

module _ (rows : List ℤ) (ok : check rows ≡ none) (sheet : Sheet) where
  abbrev P : Program
  P = program rows

  abbrev n : ℕ
  n = row_count rows

  abbrev F : Fit P n
  F = fit rows ok

  one-process : OneProcess (whole P)
  one-process v r ms u = F.starts (block v) r ms u

  module _ (l : List Label) (s : State) (o : OrderOf rows sheet l s) where
    inv : Inv P n F sheet s
    inv = table-inv rows sheet F l s o

    -- a cell of a block beneath which no row takes a step of its own has never been set
    never-set : (v : Variable) (q : ℕ) (ms : Processes) → Sub (block v) q ms (whole P) → NoStep ms → (a : ℕ) → Memᴰ a (cells_of_variable v) → cell_at s a ≡ none
    never-set v q ms u f a h = go (cell_at s a) refl
      where
        none-delivers : (k : List Label) (w : State) → OrderOf rows sheet k w → (x : Label) (m : Message) → Delivers P sheet w x a m → ⊥
        none-delivers k w p x m d =
            let (r, (j, (ns, (i, g, b, e)))) = delivers-beneath P n F sheet w (table-inv rows sheet F k w p) x a m d v q ms u h in
            let (j', (ns', g')) = sub_m-at ms r i in
            f j' r ns' g' (ap (λ (z : Process). mode (action_of z)) (sym (F.placed j' r ns' (sub-under g' (whole P) u)) ∙ F.placed j r ns g) ∙ b)

        go : (m : Message) → cell_at s a ≡ m → cell_at s a ≡ none
        go none e = e
        go (some z) e = let (before, (x, (later, (w, (q, p, d))))) = set-in-order rows sheet l s o a z e in absurd (none-delivers before w p x (some z) d)

    -- a block beneath which all is idle is idle: had it started, so would its process
    idle-over : (v : Variable) (q : ℕ) (p : Process) → Sub (block v) q (also p empty) (whole P) → Idle (rows_beneath (also p empty)) s.states → get_or s.states q 0 ≡ 0
    idle-over v q p u i = go (good-inside (whole P) u inv.good)
      where
        never : {A : Type 0} → in_turn ≡ by_step → A
        never e = absurd (true≢false (ap starts e))

        go : Good s.states (node (block v) q (also p empty)) → get_or s.states q 0 ≡ 0
        go (idle h) = h q (Memᴰ.head refl)
        go (over j z w h (inl (a, c, x))) = absurd (true≢false (sym c ∙ ap (λ (k : ℕ). all_of is_ended (k ∷ [])) (i (row_of p) (Memᴰ.append_left [] (row_in p)))))
        go (over j z w h (inr (m, k))) = never m
        go (run z h) =
            let (same, none-begun) = settled-again rows ok sheet l s o in
            absurd (Memᴰ.not-nil (subst (λ (vs : List Variable). Memᴰ v vs) none-begun
            (begins-see n v q p (whole P) F.sound false s.states inv.size inv.good u i (omega arith) (λ e. omega (arith, ap (λ (t : List ℕ). get_or t q 0) same)))))

    idle-block : (v : Variable) (q : ℕ) (ms : Processes) → Sub (block v) q ms (whole P) → Idle (rows_beneath ms) s.states → get_or s.states q 0 ≡ 0
    idle-block v q ms u =
        let (p, e) = one-process v q ms u in
        subst (λ (ps : Processes). Sub (block v) q ps (whole P) → Idle (rows_beneath ps) s.states → get_or s.states q 0 ≡ 0) (sym e) (idle-over v q p) u

    module _ (x : Label) (e : Effect) (allowed : Allows P sheet s x e) where
      act : Active (intent_at P sheet s) x e
      act = active (intent_at P sheet s) x e (takeable P sheet s (distinct-options rows sheet s) x e allowed)

      -- the blocks that start in the settling of a step
      abbrev starting : List Variable
      starting = begun (whole P) false (changed e s).states

      -- a cell of none of them is as the step's own changes left it; one of them is unset
      cell-left : (a : ℕ) → holds_cell a starting ≡ false → cell_at (settled P e s) a ≡ cell_at (changed e s) a
      cell-left a h = ap (λ (y : Store). get_or y.cells a none) (settled-store P n F sheet e s) ∙ cell-kept starting (changed e s).store a h

      cell-unset : (v : Variable) → Memᴰ v starting → (a : ℕ) → Memᴰ a (cells_of_variable v) → cell_at (settled P e s) a ≡ none
      cell-unset v m a h =
          ap (λ (y : Store). get_or y.cells a none) (settled-store P n F sheet e s) ∙ cell-held starting (changed e s).store a (mem-among a (cells_of_all starting) (cell_in a v starting m h))

      -- a block that is idle before the step and not after it starts in this
      begins-over : (v : Variable) (q : ℕ) (p : Process) → Sub (block v) q (also p empty) (whole P) → get_or s.states q 0 ≡ 0 → get_or (settled P e s).states q 0 ≢ 0 → Memᴰ v starting
      unfolding settled
      begins-over v q p u z ne =
          let (i, lt) = changed-beneath P n F sheet s inv act u z in
          begins-see n v q p (whole P) F.sound false (changed e s).states (changed-size P n F sheet s inv act) (changed-good P n F sheet s inv act) u i lt ne

      begins-block : (v : Variable) (q : ℕ) (ms : Processes) → Sub (block v) q ms (whole P) → get_or s.states q 0 ≡ 0 → get_or (settled P e s).states q 0 ≢ 0 → Memᴰ v starting
      begins-block v q ms u =
          let (p, i) = one-process v q ms u in
          subst (λ (ps : Processes). Sub (block v) q ps (whole P) → get_or s.states q 0 ≡ 0 → get_or (settled P e s).states q 0 ≢ 0 → Memᴰ v starting) (sym i) (begins-over v q p) u

      -- a block that starts in this is running after it, or nothing shows
      shown-or-not : (v : Variable) → Memᴰ v starting → (a : ℕ) → Memᴰ a (cells_of_variable v) → BlockStarts P s (settled P e s) a ⊎ (cell_at s a ≡ none)
      shown-or-not v m a h = go (started P n F sheet s inv act v m)
        where
          go : StartedIn v (whole P) s.states (settled P e s).states → BlockStarts P s (settled P e s) a ⊎ (cell_at s a ≡ none)
          go (q, (ms, (u, i, inl z))) = inl (block-started (inside_of u) h (idle-block v q ms u i) z (cell-unset v m a h))
          go (q, (ms, (u, i, inr f))) = inr (never-set v q ms u f a h)

      -- a step hands nothing to a cell of a block that starts in its settling
      handed-kept : (a : ℕ) (m : Message) → Delivers P sheet s x a m → holds_cell a starting ≡ false
      handed-kept a m d = not-among a (cells_of_all starting) (λ h. let (v, (i, k)) = cell-of a starting h in idle-there v i k)
        where
          idle-there : (v : Variable) → Memᴰ v starting → Memᴰ a (cells_of_variable v) → ⊥
          idle-there v i k =
              let (q, (ms, (u, j, f))) = started P n F sheet s inv act v i in
              let (r, (b, (ns, (g, w, c, z)))) = delivers-beneath P n F sheet s inv x a m d v q ms u k in
              omega (arith, j r g, z)

      kept-handed-or-starts : (a : ℕ) → KeptHandedOrStarts P sheet s x (settled P e s) a
      kept-handed-or-starts a = go (holds_cell a starting) refl
        where
          kept : holds_cell a starting ≡ false → let c = cell_at (changed e s) a in (c ≡ cell_at s a) ⊎ ((m : Message) × Delivers P sheet s x a m × (c ≡ m)) → KeptHandedOrStarts P sheet s x (settled P e s) a
          kept h (inl k) = inl (cell-left a h ∙ k)
          kept h (inr (m, d, k)) = inr (inl (m, d, cell-left a h ∙ k))

          starts-here : cell_at (settled P e s) a ≡ none → BlockStarts P s (settled P e s) a ⊎ (cell_at s a ≡ none) → KeptHandedOrStarts P sheet s x (settled P e s) a
          starts-here z (inl b) = inr (inr b)
          starts-here z (inr k) = inl (z ∙ sym k)

          go : (b : Bool) → holds_cell a starting ≡ b → KeptHandedOrStarts P sheet s x (settled P e s) a
          go false h = kept h (writes-only P sheet s x e allowed a)
          go true h = let (v, (m, k)) = cell-of a starting (among-mem a (cells_of_all starting) h) in starts-here (cell-unset v m a k) (shown-or-not v m a k)

    -- what a step leaves, by its effect
    left_by : (x : Label) (t : State) (h : Step P sheet s x t) → t ≡ settled P h.does s
    left_by x t h = only-settled P n F sheet s inv (act x h.does h.allowed) t h.leaves

pub only-start-unsets : OnlyStartUnsets
only-start-unsets rows ok sheet s (l, o) x t h a =
    subst (λ (y : State). KeptHandedOrStarts (program rows) sheet s x y a) (sym (left_by rows ok sheet l s o x t h))
    (kept-handed-or-starts rows ok sheet l s o x h.does h.allowed a)

pub start-unsets : StartUnsets
start-unsets rows ok sheet s (l, o) x t h v r ms i z ne a m =
    let q = left_by rows ok sheet l s o x t h in
    let b = begins-block rows ok sheet l s o x h.does h.allowed v r ms (within_of i) z (λ k. ne (ap (λ (y : State). get_or y.states r 0) q ∙ k)) in
    ap (λ (y : State). cell_at y a) q ∙ cell-unset rows ok sheet l s o x h.does h.allowed v b a m

pub start-and-end-shows-nothing : StartAndEndShowsNothing
start-and-end-shows-nothing rows ok sheet s (l, o) x e h v r ms i m ne a k = (
  go (started (program rows) (row_count rows) (fit rows ok) sheet s (inv rows ok sheet l s o) (act rows ok sheet l s o x e h) v m),
  cell-unset rows ok sheet l s o x e h v m a k,
)
  where
    go : StartedIn v (whole (program rows)) s.states (settled (program rows) e s).states → cell_at s a ≡ none
    go (q, (ns, (u, j, inr f))) = never-set rows ok sheet l s o v q ns u f a k
    go (q, (ns, (u, j, inl z))) = same (ℕ_discrete q r)
      where
        same : Dec (q ≡ r) → cell_at s a ≡ none
        same (yes p) = absurd (ne (ap (λ (y : ℕ). get_or (settled (program rows) e s).states y 0) (sym p) ∙ z))
        same (no p) = absurd (blocks-apart rows ((accepted rows).0 ok) v q ns u v r ms (within_of i) p a k k)

pub only-these-unset : OnlyTheseUnset
only-these-unset rows ok sheet s reached x t h a e = go (only-start-unsets rows ok sheet s reached x t h a)
  where
    go : KeptHandedOrStarts (program rows) sheet s x t a → (cell_at s a ≡ none) ⊎ TakesAbsent (program rows) sheet s x a ⊎ BlockStarts (program rows) s t a
    go (inl q) = inl (sym q ∙ e)
    go (inr (inl (m, d, q))) = inr (inl (absent-delivery (program rows) sheet s x a m d (sym q ∙ e)))
    go (inr (inr b)) = inr (inr b)

pub delivered-holds : DeliveredHolds
delivered-holds rows sheet s x t h a m d lt accepts = go (settling-cells (program rows) h.leaves.by-rules a)
  where
    stored : cell_at (changed h.does s) a ≡ m
    stored = ap (λ (c : List Message). get_or c a none) (stored_at rows sheet s x a m h.does h.allowed d) ∙ get_or-set_same s.store.cells a m none lt

    go : (cell_at t a ≡ cell_at (changed h.does s) a) ⊎ (LocalCell (program rows) a × (cell_at t a ≡ none)) → cell_at t a ≡ m
    go (inl k) = k ∙ stored
    go (inr (c, k)) =
        let (ok, (l, o)) = accepts c in
        ap (λ (y : State). cell_at y a) (left_by rows ok sheet l s o x t h)
        ∙ cell-left rows ok sheet l s o x h.does h.allowed a (handed-kept rows ok sheet l s o x h.does h.allowed a m d) ∙ stored
