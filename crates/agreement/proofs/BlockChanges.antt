-- A step and the blocks of an accepted table: its own changes start nothing beneath an idle block and make no row idle, and what it hands to a
-- cell of a block comes from a row beneath the block.
use mathlib.Core.Path.{◌≡◌, refl, sym, ap, subst, ◌∙◌}
use mathlib.Core.Logic.{◌≢◌, ◌⊎◌, inl, inr, ⊎_elim}
use mathlib.Core.Bool.{false}
use mathlib.Core.Option.{some}
use mathlib.Core.List.Memᴰ
use mathlib.Core.List.{List, [], ◌∷◌, Memᴰ}
use Prim.Native.Nat.{ℕ, ◌<◌}
use native.Mathlib.Omega.{arith}
use lib.ListN.{length, get_or}
use lib.Seq.{get_or-set_other, get_or-set_same}
use Rattle.meaning.specs.Declarations.{Variable}
use Rattle.meaning.specs.Tree.{ChannelInput, AltOption, Action, assign, input, alternation, block, Process, node, Processes, empty, also, rows_in, rows_beneath}
use Rattle.meaning.specs.Values.{Message}
use Rattle.meaning.specs.Usage.{cells_of_variable, changes_by, of_guard, of_guards, changes, uses}
use Rattle.meaning.specs.State.{State, Program, whole, Effect, changed}
use Rattle.meaning.specs.Settle.{by_step, mode, begun, settled}
use Rattle.meaning.specs.Labels.{Label}
use Rattle.meaning.specs.Readings.{Sheet}
use Rattle.meaning.specs.Ready.{intent_at}
use Rattle.meaning.specs.Step.{InnerInput, inner-input, HostInput, host-input, Live}
use Rattle.agreement.specs.MissingClaims.{Delivers, by-assignment, by-communication, by-reading, by-option-reading, by-option-communication}
use Rattle.agreement.proofs.Again.{Out, Sound, SoundM, Idle}
use Rattle.agreement.proofs.Commute.{Legal, own, child, At, AtM, here, under, first, later, at_in}
use Rattle.agreement.proofs.Reach.{Good, good-set, Sub}
use Rattle.agreement.proofs.Parts.{Part, put, puts, Each}
use Rattle.agreement.proofs.Fit.{Fit}
use Rattle.agreement.proofs.Footprint.{index-counts}
use Rattle.agreement.proofs.Writes.{changed-used}
use Rattle.agreement.proofs.Working.{in-or-out, Inv, live-works}
use Rattle.agreement.proofs.Active.{Active}
use Rattle.agreement.proofs.Invariant.{parts_of, puts-changes, length-marks, step-parts, changed-good}
use Rattle.agreement.proofs.RulesAbsorbed.{sound-at}
use Rattle.agreement.proofs.CoherentRows.{good-inside, idle-beneath}
use Rattle.agreement.proofs.SettlingData.{stored-or-same}
use Rattle.agreement.proofs.BlocksStarted.{StartedIn, started-see}

-- ---- what a step stores

-- at its own running row, or 1 elsewhere; never 0
module _ {x v : ℕ} (s : List ℕ) where
  legal-stores : {r : ℕ} {ms : Processes} → Legal x v r ms → get_or s r 0 ≡ 1 → ((get_or s x 0 ≡ 1) ⊎ (v ≡ 1)) × (v ≢ 0)
  legal-stores (own i e ev) z = (inl (ap (λ (y : ℕ). get_or s y 0) e ∙ z), λ q. omega arith)
  legal-stores (child h ev) z = (inr ev, λ q. omega arith)

module _ {b x v : ℕ} {s : List ℕ} where
  mutual
    at-stores : {p : Process} → At b x v s p → ((get_or s x 0 ≡ 1) ⊎ (v ≡ 1)) × (v ≢ 0)
    at-stores (here eb e m i h) = legal-stores s h e
    at-stores (under e h) = at_m-stores h

    at_m-stores : {ms : Processes} → AtM b x v s ms → ((get_or s x 0 ≡ 1) ⊎ (v ≡ 1)) × (v ≢ 0)
    at_m-stores (first h) = at-stores h
    at_m-stores (later h) = at_m-stores h

module _ (y : ℕ) (p : Process) (s : List ℕ) where
  -- an idle row is idle or running after it
  puts-below : (l : List Part) (t : List ℕ) → Each p l s → get_or s y 0 ≡ 0 → get_or t y 0 < 2 → get_or (puts l t) y 0 < 2
  puts-below [] t h z lt = lt
  puts-below (q ∷ l) t h z lt = puts-below l (put q t) h.1 z (go (stored-or-same 0 q.v t q.x y) (at-stores h.0).0)
    where
      go : (get_or (put q t) y 0 ≡ get_or t y 0) ⊎ ((q.x ≡ y) × (get_or (put q t) y 0 ≡ q.v)) → (get_or s q.x 0 ≡ 1) ⊎ (q.v ≡ 1) → get_or (put q t) y 0 < 2
      go (inl e) k = omega arith
      go (inr (e, f)) (inl k) = absurd (omega (arith, ap (λ (i : ℕ). get_or s i 0) e))
      go (inr (e, f)) (inr k) = omega arith

  -- and a row that is idle after it was so before
  puts-idle : (l : List Part) (t : List ℕ) → Each p l s → get_or (puts l t) y 0 ≡ 0 → get_or t y 0 ≡ 0
  puts-idle [] t h z = z
  puts-idle (q ∷ l) t h z = go (stored-or-same 0 q.v t q.x y) (at-stores h.0).1 (puts-idle l (put q t) h.1 z)
    where
      go : (get_or (put q t) y 0 ≡ get_or t y 0) ⊎ ((q.x ≡ y) × (get_or (put q t) y 0 ≡ q.v)) → q.v ≢ 0 → get_or (put q t) y 0 ≡ 0 → get_or t y 0 ≡ 0
      go (inl e) ne f = sym e ∙ f
      go (inr (e, g)) ne f = absurd (ne (sym g ∙ f))

  puts-other : (l : List Part) (t : List ℕ) → Each p l s → ((b x v : ℕ) → At b x v s p → x ≢ y) → get_or (puts l t) y 0 ≡ get_or t y 0
  puts-other [] t h o = refl
  puts-other (q ∷ l) t h o = puts-other l (put q t) h.1 o ∙ get_or-set_other t q.x y q.v 0 (λ e. o q.b q.x q.v h.0 (sym e))

-- ---- rows of a sound process are below n

mutual
  rows-below : (n : ℕ) (p : Process) → Sound p n → (y : ℕ) → Memᴰ y (rows_in p) → y < n
  rows-below n (node k r ms) d y (Memᴰ.head e) = rw e d.0
  rows-below n (node k r ms) d y (Memᴰ.tail m) = beneath-below n ms d.2 y m

  beneath-below : (n : ℕ) (ms : Processes) → SoundM ms n → (y : ℕ) → Memᴰ y (rows_beneath ms) → y < n
  beneath-below n empty d y m = absurd (Memᴰ.not-nil m)
  beneath-below n (also p ms) d y m =
      ⊎_elim (λ (h : Memᴰ y (rows_in p)). rows-below n p d.0 y h) (λ (h : Memᴰ y (rows_beneath ms)). beneath-below n ms d.1 y h) (Memᴰ.append_cases (rows_in p) m)

-- ---- nothing is stored beneath an idle process: the state after the store would not be good
module _ (n : ℕ) (p : Process) (d : Sound p n) (s : List ℕ) (l : length s ≡ n) (g : Good s p) {k : Action} {r : ℕ} {ms : Processes} (u : Sub k r ms p) (z : get_or s r 0 ≡ 0) where
  idle-untouched : (b x v : ℕ) → At b x v s p → Out x (rows_beneath ms)
  idle-untouched b x v h m =
      let o = (sound-at p n u d).1 in
      let i = idle-beneath (good-inside p u (good-set b x v n s l p d g h)) (get_or-set_other s x r v 0 (λ e. o (Memᴰ.cast e m)) ∙ z) in
      (at-stores h).1 (sym (get_or-set_same s x v 0 (rw l (rows-below n p d x (at_in h)))) ∙ i x m)

  pub idle-stays : (parts : List Part) → Each p parts s → Idle (rows_beneath ms) (puts parts s)
  idle-stays parts h y m = puts-other y p s parts s h (λ b x v a e. idle-untouched b x v a (Memᴰ.cast e m)) ∙ idle-beneath (good-inside p u g) z y m

-- ---- what a step hands to a cell

guard-counts : (a : ℕ) (b : AltOption) (i : ChannelInput) (bs : List AltOption) → Memᴰ b bs → b.guard.input ≡ some i → Memᴰ a (changes_by i) → Memᴰ a (of_guards changes_by bs)
guard-counts a b i [] x3 q m = elim x3 [ ]
guard-counts a b i (o ∷ bs) (Memᴰ.head e) q m =
    Memᴰ.append_left (of_guards changes_by bs) (subst (λ (c : AltOption). Memᴰ a (of_guard changes_by c.guard.input)) e (rw q m))
guard-counts a b i (o ∷ bs) (Memᴰ.tail h) q m = Memᴰ.append_right (of_guard changes_by o.guard.input) (guard-counts a b i bs h q m)

-- the cell is one that the action of a live row changes
module _ (P : Program) (sheet : Sheet) (s : State) where
  inner-counts : (i : ChannelInput) (d a : ℕ) → InnerInput s.store i d a → Memᴰ a (changes_by i)
  inner-counts i d a (inner-input h p q) = index-counts s.store.cells i.target.name.first i.target.name.size i.target.subscript a q

  host-counts : (i : ChannelInput) (a n : ℕ) (m : Message) → HostInput sheet s.store i a m n → Memᴰ a (changes_by i)
  host-counts i a n m (host-input h p q k e) = index-counts s.store.cells i.target.name.first i.target.name.size i.target.subscript a q

  delivers-changes : (x : Label) (a : ℕ) (m : Message) → Delivers P sheet s x a m → (r : ℕ) × ((k : Action) × (Live P s r k × (mode k ≡ by_step) × Memᴰ a (changes k)))
  delivers-changes x a m (by-assignment {r} {v} {e} {f} g p q) = (r, (assign v e f, (g, refl, index-counts s.store.cells v.first v.size e a p)))
  delivers-changes x a m (by-communication {r} {d} {i} g k h w) = (r, (input i, (g, refl, inner-counts i d a h)))
  delivers-changes x a m (by-reading {r} {n} {i} g h) = (r, (input i, (g, refl, host-counts i a n m h)))
  delivers-changes x a m (by-option-reading {r} {n} {bs} {b} {i} g c j h q k) = (r, (alternation bs, (g, refl, guard-counts a b i bs j q (host-counts i a n m k))))
  delivers-changes x a m (by-option-communication {r} {d} {bs} {b} {i} g c j k h q w y) = (r, (alternation bs, (g, refl, guard-counts a b i bs j q (inner-counts i d a w))))

module _ (P : Program) (n : ℕ) (F : Fit P n) (sheet : Sheet) (s : State) (inv : Inv P n F sheet s) where
  -- a row beneath a block that is running, and takes a step of its own
  abbrev pub RunsBeneath : Processes → Type 0
  RunsBeneath ms = (r : ℕ) × ((k : Action) × ((ns : Processes) × (Memᴰ r (rows_beneath ms) × Sub k r ns (whole P) × (mode k ≡ by_step) × (get_or s.states r 0 ≡ 1))))

  -- only such a row hands something to a cell of the block
  pub delivers-beneath : (x : Label) (a : ℕ) (m : Message) → Delivers P sheet s x a m → (v : Variable) (q : ℕ) (ms : Processes) → Sub (block v) q ms (whole P) → Memᴰ a (cells_of_variable v)
      → RunsBeneath ms
  delivers-beneath x a m d v q ms u h =
      let (r, (k, (g, b, c))) = delivers-changes P sheet s x a m d in
      let (W, e) = live-works P n F sheet s r k inv g b in
      go r k W.listed (subst (λ (j : Action). Sub j r W.listed (whole P)) e W.sub) b W.runs (changed-used k a c) (in-or-out r (rows_beneath ms))
    where
      go : (r : ℕ) (k : Action) (ns : Processes) → Sub k r ns (whole P) → mode k ≡ by_step → get_or s.states r 0 ≡ 1 → Memᴰ a (uses k) → Memᴰ r (rows_beneath ms) ⊎ Out r (rows_beneath ms) → RunsBeneath ms
      go r k ns w b z i (inl j) = (r, (k, (ns, (j, w, b, z))))
      go r k ns w b z i (inr o) = absurd (F.local v q ms u k r ns w o a h i)

  module _ {x : Label} {e : Effect} (active : Active (intent_at P sheet s) x e) where
    changes-each : Each (whole P) (parts_of e.changes) s.states
    changes-each = (step-parts P n F sheet s inv active).0

    -- a row that the changes of a step leave idle was idle before
    pub changed-idle : (y : ℕ) → get_or (changed e s).states y 0 ≡ 0 → get_or s.states y 0 ≡ 0
    changed-idle y z = puts-idle y (whole P) s.states (parts_of e.changes) s.states changes-each (ap (λ (t : List ℕ). get_or t y 0) (puts-changes e.changes s.states) ∙ z)

    -- of a process that is idle before a step, its changes leave all beneath it idle, and itself idle or running
    pub changed-beneath : {k : Action} {r : ℕ} {ms : Processes} → Sub k r ms (whole P) → get_or s.states r 0 ≡ 0 → Idle (rows_beneath ms) (changed e s).states × (get_or (changed e s).states r 0 < 2)
    changed-beneath {r} {ms} u z =
        let parts = parts_of e.changes in
        let same = puts-changes e.changes s.states in (
          subst (λ (t : List ℕ). Idle (rows_beneath ms) t) same (idle-stays n (whole P) F.sound s.states inv.size inv.good u z parts changes-each),
          subst (λ (t : List ℕ). get_or t r 0 < 2) same (puts-below r (whole P) s.states parts s.states changes-each z (omega arith)),
        )

    pub changed-size : length (changed e s).states ≡ n
    changed-size = length-marks e.changes s.states ∙ inv.size

    -- all beneath a block that starts in the settling of the step was idle before it, and after it the block is running, or no row beneath it takes a step of its own
    pub started : (v : Variable) → Memᴰ v (begun (whole P) false (changed e s).states) → StartedIn v (whole P) s.states (settled P e s).states
    unfolding settled
    started v m =
        let (q, (ms, (u, i, h))) = started-see n v (whole P) F.sound (λ w r ns b. F.starts (block w) r ns b) false (changed e s).states changed-size (changed-good P n F sheet s inv active) m in
        (q, (ms, (u, λ y z. changed-idle y (i y z), h)))
