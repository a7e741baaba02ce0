-- Every state that an order reaches is good for the whole process, has a state for each row, and leaves idle the rows that are no process of it;
-- so what a step leaves after settling is what the machine's walk leaves.
use mathlib.Core.Path.{◌≡◌, refl, sym, ap, ap₂, subst, ◌∙◌}
use mathlib.Core.Bool.{true, false}
use mathlib.Core.Option.{some}
use mathlib.Core.List.Memᴰ
use mathlib.Core.List.{List, [], ◌∷◌, map}
use Prim.Native.Nat.{ℕ, zero, suc}
use lib.ListN.{length, get_or, set, length-set, length-map}
use lib.Seq.{get_or-set_other}
use Rattle.meaning.specs.Tree.{Process, rows_in}
use Rattle.meaning.specs.Settle.{settle, begun, start, settled}
use Rattle.meaning.specs.State.{Store, State, Program, whole, StateChange, change_state, change_states, write_all, Effect, changed, unset_all}
use Rattle.meaning.specs.Labels.{Label}
use Rattle.meaning.specs.Readings.{Sheet}
use Rattle.meaning.specs.Intent.{open_offer, input_offer}
use Rattle.meaning.specs.Ready.{intent_at, effect_of}
use Rattle.meaning.specs.Step.{Leaves, Step}
use Rattle.meaning.specs.Order.{Order, halt, next-step}
use Rattle.agreement.proofs.Frame.{see-local, length-local, off-look}
use Rattle.agreement.proofs.Again.{Out}
use Rattle.agreement.proofs.Commute.{own, child, at_in}
use Rattle.agreement.proofs.Reach.{Good, idle, good-see, good-body}
use Rattle.agreement.proofs.Parts.{Part, puts, Each, Pairwise, good-puts, leap, leap-good, leap-length}
use Rattle.agreement.proofs.Allowed.{allowed}
use Rattle.agreement.proofs.Takeable.{takeable, DistinctOptions}
use Rattle.agreement.proofs.Fit.{Fit}
use Rattle.agreement.proofs.Proper.{offer-proper}
use Rattle.agreement.proofs.Active.{offer_at-is, Active, acts-alone, passes_on, takes-open, takes-input, active, input-output, output-selects}
use Rattle.agreement.proofs.Working.{acts, Inv, works, works_at, works-proper}
use Rattle.agreement.specs.SettlingClaims.{NormalForm}
use Rattle.agreement.proofs.NormalForm.{normal-form}

-- changes of row states, as stores at frontier rows
abbrev pub parts_of : List StateChange → List Part
parts_of [] = []
parts_of (m ∷ l) = record { b = m.by; x = m.at; v = m.become } ∷ parts_of l

pub puts-changes : (l : List StateChange) (s : List ℕ) → puts (parts_of l) s ≡ change_states l s
puts-changes [] s = refl
puts-changes (m ∷ l) s = puts-changes l (change_state m s)

pub length-marks : (l : List StateChange) (s : List ℕ) → length (change_states l s) ≡ length s
length-marks [] s = refl
length-marks (m ∷ l) s = length-marks l (change_state m s) ∙ length-set s m.at m.become

pub same-state : {s t : State} → s.states ≡ t.states → s.store ≡ t.store → s ≡ t
same-state e f = ap₂ (λ (a : List ℕ) (b : Store). record { states = a; store = b }) e f

module _ (P : Program) (n : ℕ) (F : Fit P n) (sheet : Sheet) where
  -- the changes of a step are each made by a frontier row, and by different ones
  pub step-parts : (s : State) {x : Label} {e : Effect} → Inv P n F sheet s → Active (intent_at P sheet s) x e → Each (whole P) (parts_of e.changes) s.states × Pairwise (parts_of e.changes)
  step-parts s i (acts-alone {r} {x} {v} h) =
      let W = works P n F sheet s r i (ap acts h) in
      let q = works-proper P n F sheet s r W h in
      ((works_at P n F sheet s r x v i W q.0, tt), (tt, tt))
  step-parts s i (passes_on {i = r} {o} h g) = (
    (works_at P n F sheet s r r 2 i (works P n F sheet s r i (ap acts h)) (own 0 refl refl), (works_at P n F sheet s o o 2 i (works P n F sheet s o i (ap acts g)) (own 0 refl refl), tt)),
    ((λ e. input-output h (ap (intent_at P sheet s) e ∙ g), tt), (tt, tt)),
  )
  step-parts s i (takes-open {r} {j} {q} {i = k} {ws} {os} h g) =
      let W = works P n F sheet s r i (ap acts h) in
      let p = offer-proper F.source F.sink W.action W.listed (open_offer k q ws) os (works-proper P n F sheet s r W h) (offer_at-is j (open_offer k q ws) os g).0 in
      ((works_at P n F sheet s r q 1 i W (child p.1 refl), tt), (tt, tt))
  step-parts s i (takes-input {r} {j} {o} {q} {i = k} {e = d} {a} {os} h g f) =
      let W = works P n F sheet s r i (ap acts h) in
      let p = offer-proper F.source F.sink W.action W.listed (input_offer k q d a) os (works-proper P n F sheet s r W h) (offer_at-is j (input_offer k q d a) os g).0 in (
        (works_at P n F sheet s r q 1 i W (child p.1 refl), (works_at P n F sheet s o o 2 i (works P n F sheet s o i (ap acts f)) (own 0 refl refl), tt)),
        ((λ e. output-selects (ap (intent_at P sheet s) e ∙ f) h, tt), (tt, tt)),
      )

  -- the row states that a step leaves
  pub settled-leaps : (e : Effect) (s : State) → (settled P e s).states ≡ leap (whole P) n F.sound (parts_of e.changes) s.states
  unfolding settled leap
  settled-leaps e s = ap (settle (whole P) false) (sym (puts-changes e.changes s.states))

  -- the data that it leaves
  pub settled-store : (e : Effect) (s : State) → (settled P e s).store ≡ unset_all (begun (whole P) false (change_states e.changes s.states)) (write_all e.writes s.store)
  unfolding settled
  settled-store e s = refl

  outside-puts : (y : ℕ) → Out y (rows_in (whole P)) → (l : List Part) (s t : List ℕ) → Each (whole P) l t → get_or (puts l s) y 0 ≡ get_or s y 0
  outside-puts y o [] s t h = refl
  outside-puts y o (q ∷ l) s t h = outside-puts y o l (set s q.x q.v) t h.1 ∙ get_or-set_other s q.x y q.v 0 (λ e. o (Memᴰ.cast e (at_in h.0)))

  -- a step keeps the invariant
  pub keeps-inv : (s : State) {x : Label} {e : Effect} → Inv P n F sheet s → Active (intent_at P sheet s) x e → Inv P n F sheet (settled P e s)
  unfolding settled
  keeps-inv s {e} i a =
      let l = parts_of e.changes in
      let h = step-parts s i a in
      record {
        size = rw (settled-leaps e s) (leap-length (whole P) n F.sound l s.states ∙ i.size);
        good = rw (settled-leaps e s) (leap-good (whole P) n F.sound l s.states i.size i.good h.0 h.1);
        outside = λ y o. off-look (see-local (whole P) false) (change_states e.changes s.states) y o
            ∙ ap (λ (t : List ℕ). get_or t y 0) (sym (puts-changes e.changes s.states)) ∙ outside-puts y o l s.states s.states h.0 ∙ i.outside y o;
      }

  module _ (s : State) {x : Label} {e : Effect} (i : Inv P n F sheet s) (a : Active (intent_at P sheet s) x e) where
    -- the changes of a step keep a good state
    pub changed-good : Good (changed e s).states (whole P)
    changed-good =
        let (each, pairs) = step-parts s i a in
        subst (λ (v : List ℕ). Good v (whole P)) (puts-changes e.changes s.states) (good-puts (whole P) n F.sound (parts_of e.changes) s.states i.size i.good each pairs)

    -- from them the rules of settling lead to one state, where the walk goes
    pub step-normal : NormalForm (whole P) (changed e s) (settled P e s)
    unfolding settled
    step-normal = normal-form (whole P) n F.sound F.plain (changed e s) (length-marks e.changes s.states ∙ i.size) changed-good

    -- so that is what the step leaves
    pub leaves-settled : Leaves P s e (settled P e s)
    leaves-settled = record { by-rules = step-normal.reached; final = step-normal.final }

    -- and nothing else
    pub only-settled : (t : State) → Leaves P s e t → t ≡ settled P e s
    only-settled t h = step-normal.only t h.by-rules h.final

  -- a step that the machine can take is one that a rule allows
  pub effect-step : (s : State) → Inv P n F sheet s → (x : Label) (e : Effect) → effect_of x (intent_at P sheet s) ≡ some e → Step P sheet s x (settled P e s)
  effect-step s i x e q = record { does = e; allowed = allowed P sheet s x e q; leaves = leaves-settled s i (active (intent_at P sheet s) x e q) }

  zeros : (l : List Process) (y : ℕ) → get_or (map {B = ℕ} (λ (p : Process). 0) l) y 0 ≡ 0
  zeros [] y = refl
  zeros (p ∷ l) zero = refl
  zeros (p ∷ l) (suc y) = zeros l y

  -- the start has it
  pub start-inv : Inv P n F sheet (start P)
  unfolding start
  start-inv =
      let z = map {B = ℕ} (λ (p : Process). 0) P.processes in
      let l : length z ≡ n = length-map {B = ℕ} P.processes (λ (p : Process). 0) ∙ F.size in
      record {
        size = length-local (see-local (whole P) true) z ∙ l;
        good = good-see n (whole P) (good-body n (whole P) F.sound) F.sound true z l (idle (λ y m. zeros P.processes y));
        outside = λ y o. off-look (see-local (whole P) true) z y o ∙ zeros P.processes y;
      }

  module _ (D : (s : State) → DistinctOptions P sheet s) where
    -- a step that a rule allows is one that the machine takes
    pub step-effect : (s : State) (x : Label) (t : State) → Inv P n F sheet s → Step P sheet s x t → (e : Effect) × (effect_of x (intent_at P sheet s) ≡ some e) × (t ≡ settled P e s)
    step-effect s x t i h =
        let q = takeable P sheet s (D s) x h.does h.allowed in
        (h.does, q, only-settled s i (active (intent_at P sheet s) x h.does q) t h.leaves)

    pub step-active : (s : State) (x : Label) (t : State) → Inv P n F sheet s → Step P sheet s x t → (e : Effect) × Active (intent_at P sheet s) x e × (t ≡ settled P e s)
    step-active s x t i h = let (e, q, z) = step-effect s x t i h in (e, active (intent_at P sheet s) x e q, z)

    pub step-inv : (s : State) (x : Label) (t : State) → Inv P n F sheet s → Step P sheet s x t → Inv P n F sheet t
    step-inv s x t i h = let (e, a, z) = step-active s x t i h in rw z (keeps-inv s i a)

    pub order-inv : {s t : State} {l : List Label} → Inv P n F sheet s → Order P sheet s l t → Inv P n F sheet t
    order-inv i halt = i
    order-inv i (next-step {s} {t} {x} h o) = order-inv (step-inv s x t i h) o
