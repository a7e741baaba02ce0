-- A step leaves as it was what every other row at work would do; so two ready steps with no row in common leave one another ready, and commute.
use mathlib.Core.Path.{◌≡◌, refl, sym, ap, ◌∙◌}
use mathlib.Core.Logic.{◌≢◌}
use mathlib.Core.Bool.{false}
use mathlib.Core.Option.{some}
use mathlib.Core.List.{List, [], ◌∷◌}
use Prim.Native.Nat.{ℕ}
use native.Mathlib.Omega.{arith}
use Rattle.meaning.specs.Tree.{Action, Process, node, action_of}
use Rattle.meaning.specs.State.{Store, State, Program, process_at, whole, Write, write_cell, write_all, StateChange, Effect, changed, unset_all}
use Rattle.meaning.specs.Labels.{Label}
use Rattle.meaning.specs.Readings.{Sheet}
use Rattle.meaning.specs.Settle.{begun, settled}
use Rattle.meaning.specs.Usage.{uses}
use Rattle.meaning.specs.Declarations.{Variable}
use Rattle.meaning.proofs.UnsetLaws.{unset-writes}
use Rattle.meaning.specs.Intent.{open_offer, input_offer, Intent, intent}
use Rattle.meaning.specs.Ready.{effect_of, intent_at}
use Rattle.meaning.specs.Step.{Step}
pub use Rattle.agreement.specs.RowsOfSteps.{NoneOf}
use Rattle.agreement.proofs.Commute.{own, At}
use Rattle.agreement.proofs.Parts.{Part, puts, Differ, Cross, leap, leap-stays, leap-comm}
use Rattle.agreement.proofs.BegunParts.{begun-comm}
use Rattle.agreement.proofs.Takeable.{DistinctOptions}
use Rattle.agreement.proofs.Fit.{Apt, Fit}
use Rattle.agreement.proofs.Near.{near, near-then}
use Rattle.agreement.proofs.Proper.{AllOwned, offer-proper}
use Rattle.agreement.proofs.Active.{RowOf, of-own, of-input, of_output, of-alt, of-alt-input, of-alt-output, offer_at-is, Active, acts-alone, passes_on, takes-open, takes-input, active, effect-same}
use Rattle.agreement.proofs.Working.{acts, Inv, Works, works, works_at, works-proper, works-apart, frontier-does}
use Rattle.agreement.proofs.Invariant.{same-state, parts_of, puts-changes, step-parts, settled-leaps, keeps-inv, effect-step, step-effect}
use Rattle.agreement.proofs.Writes.{AllBy, near-writes, writes-comm}
use Rattle.agreement.proofs.BlockChanges.{started}
use Rattle.agreement.proofs.UnsetApart.{NoCellIn, no-cell-in, same-unset, near-unset, writes-off}

-- two steps have no row in common
abbrev pub RowsApart : Label → Label → Type 0
RowsApart x y = (r q : ℕ) → RowOf x r → RowOf y q → r ≢ q

-- ---- the rows that make a step's changes

abbrev MadeBy : Label → List StateChange → Type 0
MadeBy x [] = Unit {0}
MadeBy x (m ∷ l) = RowOf x m.by × MadeBy x l

made_by : {w : ℕ → Intent} {x : Label} {e : Effect} → Active w x e → MadeBy x e.changes
made_by (acts-alone h) = (of-own, tt)
made_by (passes_on h g) = (of-input, (of_output, tt))
made_by (takes-open h g) = (of-alt, tt)
made_by (takes-input h g f) = (of-alt-input, (of-alt-output, tt))

differ_of : (x y : Label) → RowsApart x y → (r : ℕ) → RowOf x r → (q : Part) → q.b ≡ r → (m : List StateChange) → MadeBy y m → Differ q (parts_of m)
differ_of x y d r h q e [] g = tt
differ_of x y d r h q e (c ∷ m) g = (λ z. d r c.by h g.0 (sym e ∙ z), differ_of x y d r h q e m g.1)

cross-of : (x y : Label) → RowsApart x y → (l m : List StateChange) → MadeBy x l → MadeBy y m → Cross (parts_of l) (parts_of m)
cross-of x y d [] m h g = tt
cross-of x y d (c ∷ l) m h g = (differ_of x y d c.by h.0 (record { b = c.by; x = c.at; v = c.become }) refl m g, cross-of x y d l m h.1 g)

-- a row that is none of a step's rows makes none of its changes
cross-row : (x : Label) (r : ℕ) → NoneOf x r → (l : List StateChange) → MadeBy x l → Cross (parts_of l) (record { b = r; x = r; v = 2 } ∷ [])
cross-row x r d [] h = tt
cross-row x r d (c ∷ l) h = ((d c.by h.0, tt), cross-row x r d l h.1)

module _ (P : Program) (n : ℕ) (F : Fit P n) (sheet : Sheet) where
  -- the actions of the rows of a step
  abbrev Of : State → Label → Action → Type 0
  Of s x k = (r : ℕ) × RowOf x r × ((A : Works P n F sheet s r) × (A.action ≡ k))

  row-works : (s : State) {x : Label} {e : Effect} → Inv P n F sheet s → Active (intent_at P sheet s) x e → (r : ℕ) → RowOf x r → Works P n F sheet s r
  row-works s i (acts-alone h) r of-own = works P n F sheet s r i (ap acts h)
  row-works s i (passes_on h g) r of-input = works P n F sheet s r i (ap acts h)
  row-works s i (passes_on h g) r of_output = works P n F sheet s r i (ap acts g)
  row-works s i (takes-open h g) r of-alt = works P n F sheet s r i (ap acts h)
  row-works s i (takes-input h g f) r of-alt-input = works P n F sheet s r i (ap acts h)
  row-works s i (takes-input h g f) r of-alt-output = works P n F sheet s r i (ap acts f)

  owned_by : (s : State) (x : Label) (r : ℕ) → RowOf x r → (A : Works P n F sheet s r) (ws : List Write) → AllOwned F.source F.sink A.action ws → AllBy F.source F.sink (Of s x) ws
  owned_by s x r m A [] h = tt
  owned_by s x r m A (w ∷ ws) h = ((A.action, (r, m, (A, refl)), h.0), owned_by s x r m A ws h.1)

  -- every write of a step is of one of its rows
  writes-by : (s : State) {x : Label} {e : Effect} → Inv P n F sheet s → Active (intent_at P sheet s) x e → AllBy F.source F.sink (Of s x) e.writes
  writes-by s i (acts-alone {r} {ws} h) =
      let A = works P n F sheet s r i (ap acts h) in
      owned_by s _ r of-own A ws (works-proper P n F sheet s r A h).1
  writes-by s i (passes_on {i = r} {a} {z} h g) =
      let A = works P n F sheet s r i (ap acts h) in
      owned_by s _ r of-input A (write_cell a z ∷ []) ((works-proper P n F sheet s r A h).1, tt)
  writes-by s i (takes-open {r} {j} {q} {i = k} {ws} {os} h g) =
      let A = works P n F sheet s r i (ap acts h) in
      owned_by s _ r of-alt A ws (offer-proper F.source F.sink A.action A.listed (open_offer k q ws) os (works-proper P n F sheet s r A h) (offer_at-is j (open_offer k q ws) os g).0).2
  writes-by s i (takes-input {r} {j} {q} {i = k} {e = d} {a} {z} {os} h g f) =
      let A = works P n F sheet s r i (ap acts h) in
      owned_by s _ r of-alt-input A (write_cell a z ∷ []) ((offer-proper F.source F.sink A.action A.listed (input_offer k q d a) os (works-proper P n F sheet s r A h) (offer_at-is j (input_offer k q d a) os g).0).3, tt)

  -- the variables of the blocks that start after the changes of a step
  abbrev begun_by : Effect → State → List Variable
  begun_by e s = begun (whole P) false (changed e s).states

  store_of : (e : Effect) (s : State) → (settled P e s).store ≡ unset_all (begun_by e s) (write_all e.writes s.store)
  unfolding settled
  store_of e s = refl

  -- the blocks that start, from the parts of a step, and of one that comes after another
  begun-parts : (e : Effect) (s : State) → begun_by e s ≡ begun (whole P) false (puts (parts_of e.changes) s.states)
  begun-parts e s = ap (begun (whole P) false) (sym (puts-changes e.changes s.states))

  begun-next : (e f : Effect) (s : State) → begun_by f (settled P e s) ≡ begun (whole P) false (puts (parts_of f.changes) (leap (whole P) n F.sound (parts_of e.changes) s.states))
  begun-next e f s = begun-parts f (settled P e s) ∙ ap (λ (t : List ℕ). begun (whole P) false (puts (parts_of f.changes) t)) (settled-leaps P n F sheet e s)

  module _ (s : State) (i : Inv P n F sheet s) where
    actions-apart : (x y : Label) → RowsApart x y → (k j : Action) → Of s x k → Of s y j → Apt k j
    actions-apart x y d k j (r, h, (A, e)) (q, g, (B, f)) = rw (← e, ← f) (works-apart P n F sheet s r q i A B (d r q h g))

    -- a row at work uses no cell of the blocks that start
    begun-off : {x : Label} {e : Effect} → Active (intent_at P sheet s) x e → (r : ℕ) (C : Works P n F sheet s r) → NoCellIn (begun_by e s) (uses C.action)
    begun-off {e} A r C =
        no-cell-in (begun_by e s) (uses C.action) (λ v m.
        let (q, (ms, (h, idle, running))) = started P n F sheet s i A v m in
        F.local v q ms h C.action r C.listed C.sub (λ y. omega (arith, idle r y, C.runs)))

    -- so it would do the same with those unset
    pub unset-does : {x : Label} {e : Effect} → Active (intent_at P sheet s) x e → (r : ℕ) (C : Works P n F sheet s r)
        → intent sheet C.action r (unset_all (begun (whole P) false (changed e s).states) s.store) ≡ intent sheet C.action r s.store
    unset-does {e} A r C =
        sym (near F.source F.sink sheet s.store (unset_all (begun_by e s) s.store) C.action r (F.hosts C.action r C.listed C.sub)
        (near-unset F.source F.sink C.action (begun_by e s) s.store (begun-off A r C)))

    -- a row at work that is none of the step's rows stays at work
    pub works-stays : {x : Label} {e : Effect} → Active (intent_at P sheet s) x e → (r : ℕ) → NoneOf x r → Works P n F sheet s r → At r r 2 (settled P e s).states (whole P)
    works-stays {x} {e} A r d C =
        let (ea, pa) = step-parts P n F sheet s i A in
        rw (settled-leaps P n F sheet e s)
        (leap-stays (whole P) n F.sound (parts_of e.changes) (record { b = r; x = r; v = 2 } ∷ []) s.states i.size ea pa (works_at P n F sheet s r r 2 i C (own 0 refl refl), tt) (tt, tt)
        (cross-row x r d e.changes (made_by A))).0

    -- and would do the same after it
    pub works-same : {x : Label} {e : Effect} → Active (intent_at P sheet s) x e → (r : ℕ) → NoneOf x r → Works P n F sheet s r → intent_at P sheet (settled P e s) r ≡ intent_at P sheet s r
    works-same {x} {e} A r d C =
        let k = C.action in
        let t = settled P e s in
        let z : process_at P r ≡ node k r C.listed = F.placed k r C.listed C.sub in
        let w = write_all e.writes s.store in
        let g = near F.source F.sink sheet s.store (unset_all (begun_by e s) w) k r (F.hosts k r C.listed C.sub)
        (near-then F.source F.sink k s.store w (unset_all (begun_by e s) w)
        (near-writes F.source F.sink (Of s x) k (λ j (q, h, (B, f)). rw (← f) (works-apart P n F sheet s q r i B C (d q h))) e.writes s.store (writes-by s i A))
        (near-unset F.source F.sink k (begun_by e s) w (begun-off A r C))) in
        frontier-does P n F sheet t r r 2 (works-stays A r d C) ∙ ap (λ (p : Process). intent sheet (action_of p) r t.store) z ∙ ap (intent sheet k r) (store_of e s) ∙ sym g ∙ sym C.does

    -- the data after two steps: what both wrote, and unset what either unset
    one_store : (x y : Label) (e f : Effect) → Active (intent_at P sheet s) x e → Active (intent_at P sheet s) y f → RowsApart x y
        → (settled P f (settled P e s)).store ≡ unset_all (begun_by f (settled P e s)) (unset_all (begun_by e s) (write_all f.writes (write_all e.writes s.store)))
    one_store x y e f A B d =
        store_of f (settled P e s)
        ∙ ap (λ (z : Store). unset_all (begun_by f (settled P e s)) (write_all f.writes z)) (store_of e s)
        ∙ ap (unset_all (begun_by f (settled P e s)))
        (sym (unset-writes (begun_by e s) f.writes (write_all e.writes s.store)
        (writes-off F.source F.sink (Of s y) (begun_by e s) (λ k (r, h, (C, q)). rw (← q) (begun-off A r C)) f.writes (writes-by s i B))))

    module _ (x y : Label) (e f : Effect) (qe : effect_of x (intent_at P sheet s) ≡ some e) (qf : effect_of y (intent_at P sheet s) ≡ some f) (d : RowsApart x y) where
      abbrev A : Active (intent_at P sheet s) x e
      A = active (intent_at P sheet s) x e qe

      abbrev B : Active (intent_at P sheet s) y f
      B = active (intent_at P sheet s) y f qf

      -- the second step does the same after the first
      pub stays-ready : effect_of y (intent_at P sheet (settled P e s)) ≡ some f
      stays-ready = effect-same y (intent_at P sheet (settled P e s)) (intent_at P sheet s) (λ q h. works-same A q (λ p g. d p q g h) (row-works s i B q h)) ∙ qf

      -- the two, in either order, leave one state
      pub one_state : settled P f (settled P e s) ≡ settled P e (settled P f s)
      one_state =
          let l = parts_of e.changes in
          let m = parts_of f.changes in
          let (ea, pa) = step-parts P n F sheet s i A in
          let (eb, pb) = step-parts P n F sheet s i B in
          let back : RowsApart y x = λ r q h g z. d q r g h (sym z) in
          let there = cross-of x y d e.changes f.changes (made_by A) (made_by B) in
          let again = cross-of y x back f.changes e.changes (made_by B) (made_by A) in
          same-state
          (settled-leaps P n F sheet f (settled P e s) ∙ ap (leap (whole P) n F.sound m) (settled-leaps P n F sheet e s)
          ∙ leap-comm (whole P) n F.sound l m s.states i.size ea pa eb pb there again
          ∙ sym (settled-leaps P n F sheet e (settled P f s) ∙ ap (leap (whole P) n F.sound l) (settled-leaps P n F sheet f s)))
          (one_store x y e f A B d
          ∙ ap (λ (z : Store). unset_all (begun_by f (settled P e s)) (unset_all (begun_by e s) z))
          (writes-comm F.source F.sink (Of s x) (Of s y) (actions-apart x y d) e.writes f.writes s.store (writes-by s i A) (writes-by s i B))
          ∙ same-unset (begun_by f (settled P e s)) (begun_by e s) (begun_by e (settled P f s)) (begun_by f s) (write_all e.writes (write_all f.writes s.store))
          (λ a. rw (begun-next e f s, begun-next f e s, begun-parts e s, begun-parts f s) (begun-comm (whole P) n F.sound l m s.states i.size ea pa eb pb there again a))
          ∙ sym (one_store y x f e B A back))

    meet : (x y : Label) (t u : State) (e f : Effect) → effect_of x (intent_at P sheet s) ≡ some e → effect_of y (intent_at P sheet s) ≡ some f → t ≡ settled P e s → u ≡ settled P f s → RowsApart x y
        → (v : State) × Step P sheet t y v × Step P sheet u x v
    meet x y t u e f qe qf ze zf d =
        let back : RowsApart y x = λ r q h g z. d q r g h (sym z) in (
          settled P f (settled P e s),
          rw ze (effect-step P n F sheet (settled P e s) (keeps-inv P n F sheet s i (A x y e f qe qf d)) y f (stays-ready x y e f qe qf d)),
          rw (zf, one_state x y e f qe qf d) (effect-step P n F sheet (settled P f s) (keeps-inv P n F sheet s i (B x y e f qe qf d)) x e (stays-ready y x f e qf qe back)),
        )

    -- two steps with no row in common: each is allowed after the other, and they lead to one state
    pub apart-diamond : ((s : State) → DistinctOptions P sheet s) → (x y : Label) (t u : State) → Step P sheet s x t → Step P sheet s y u → RowsApart x y → (v : State) × Step P sheet t y v × Step P sheet u x v
    apart-diamond D x y t u hx hy d =
        let (e, qe, ze) = step-effect P n F sheet D s x t i hx in
        let (f, qf, zf) = step-effect P n F sheet D s y u i hy in
        meet x y t u e f qe qf ze zf d
