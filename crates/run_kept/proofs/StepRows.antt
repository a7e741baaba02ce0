-- What a step leaves of its own rows: one that ended or stopped is not running; one that started a member is an IF or WHILE that wrote nothing, or an ALT, which then is not running or has a member that is not idle.
use mathlib.Core.Path.{◌≡◌, refl, sym, ap, subst, ◌∙◌}
use mathlib.Core.Logic.{◌≢◌, ◌⊎◌}
use mathlib.Core.Bool.{Bool, true, false}
use mathlib.Core.Option.{none}
use mathlib.Core.List.Memᴰ
use mathlib.Core.List.{List, [], ◌∷◌, Memᴰ}
use Prim.Native.Nat.{ℕ, zero, suc, ◌<◌, ◌≤◌}
use native.Mathlib.Omega.{arith}
use lib.IntN.{ℤ}
use lib.ListN.{length, get_or, set, length-set}
use lib.Seq.{get_or-set_same, get_or-set_other}
use lib.Dec.{ltb}
use Rattle.meaning.specs.declared.Value.{Value}
use Rattle.meaning.specs.declared.Value.TheVariants.{Number, Missing}
use Rattle.meaning.specs.declared.Index.{Index}
use Rattle.meaning.specs.declared.Index.TheVariants.{At, Fails}
use Rattle.meaning.specs.Basics.{if_else}
use Rattle.meaning.specs.Rows.{row_count}
use Rattle.meaning.specs.Declarations.{Channel}
use Rattle.meaning.specs.Tree.{IfChoice, Action, stop, skip, sequence, parallel, assign, input, output, conditional, loop, alternation, block}
use Rattle.meaning.specs.Values.{Message, is_true, value, index, Sent, gives, lacking, passed}
use Rattle.meaning.specs.Settle.{ends_when_closed, settle, settled, begun}
use Rattle.meaning.specs.State.{Store, State, Program, program, whole, Write, write_all, change_states, Effect, changed, unset_all}
use Rattle.meaning.specs.Labels.{Label, own}
use Rattle.meaning.specs.Readings.{Sheet}
use Rattle.meaning.specs.Intent.{open_offer, input_offer, Intent, waits, moves, inputs_from, outputs_to, selects, assigning, testing, choosing, host_write, outputting, InputResult, lacks, not_yet, reads, from_element, inputting, OptionsResult, fails, offers, selecting, input_result, tests, options_result, intent}
use Rattle.meaning.specs.Ready.{intent_at, after}
use Rattle.meaning.specs.Order.{OrderOf}
use Rattle.meaning.specs.Answers.{check}
use Rattle.agreement.proofs.Freedom.{unset-does}
use Rattle.agreement.proofs.Commute.{Child, Legal, own as itself, child, child-in}
use Rattle.agreement.proofs.Fit.{Fit}
use Rattle.agreement.proofs.OptionRows.{option_rows}
use Rattle.agreement.proofs.Proper.{offer-proper}
use Rattle.agreement.proofs.Active.{RowOf, of-own, of-input, of_output, of-alt, of-alt-input, of-alt-output, offer_at-is, Active, acts-alone, passes_on, takes-open, takes-input, output-selects}
use Rattle.agreement.proofs.Working.{acts, Inv, Works, works, works-proper}
use Rattle.agreement.proofs.Separate.{table-inv}
use Rattle.agreement.proofs.TableFit.{fit}
use Rattle.machine.proofs.RowReady.{in-range}
use Rattle.machine.proofs.StepEffects.{active-effect, after-effect}
use Rattle.machine.proofs.MachineSteps.{changes-below}
use Rattle.run_kept.proofs.Over.{settle-not}
use Rattle.run_kept.proofs.Started.{settle-pair}

-- ---- a row that starts a member by a test writes nothing

abbrev Calm : Intent → Type 0
Calm waits = Unit {0}
Calm (moves x v ws) = v ≡ 1 → ws ≡ []
Calm (inputs_from e a) = Unit {0}
Calm (outputs_to e v) = Unit {0}
Calm (selects os) = Unit {0}

calm-if : (t : Bool) (a b : Intent) → Calm a → Calm b → Calm (if_else t a b)
calm-if true a b f g = f
calm-if false a b f g = g

two-not : {A : Type 0} → ◌≡◌ {A = ℕ} 2 1 → A
two-not e = absurd (omega arith)

calm-assign : (r : ℕ) (i : Index) (v : Value) → Calm (assigning r i v)
calm-assign r (Fails k) v = λ e. refl
calm-assign r (At a) (Missing k) = λ e. refl
calm-assign r (At a) (Number z) = λ e. two-not e

calm-test : (r b : ℕ) (v : Value) → Calm (testing r b v)
calm-test r b (Missing k) = λ e. refl
calm-test r b (Number z) = calm-if (is_true z) (moves b 1 []) (moves r 2 []) (λ e. refl) (λ e. refl)

calm-choose : (r p : ℕ) (v : Value) (w : Intent) → Calm w → Calm (choosing r p v w)
calm-choose r p (Missing k) w h = λ e. refl
calm-choose r p (Number z) w h = calm-if (is_true z) (moves p 1 []) w (λ e. refl) h

calm-send : (r : ℕ) (c : Channel) (o : List (List Message)) (i : Index) (v : Sent) → Calm (outputting r c o i v)
calm-send r c o (Fails k) v = λ e. refl
calm-send r c o (At a) (lacking k) = λ e. refl
calm-send r c o (At a) (gives m) =
    calm-if c.host (host_write r c (get_or o c.number []) m) (outputs_to a m) (calm-if (ltb (length (get_or o c.number [])) c.capacity) (moves r 2 _) waits (λ e. two-not e) tt) tt

calm-input : (r : ℕ) (i : InputResult) → Calm (inputting r i)
calm-input r (lacks k) = λ e. refl
calm-input r not_yet = tt
calm-input r (reads ws) = λ e. two-not e
calm-input r (from_element e a) = tt

calm-select : (r : ℕ) (l : OptionsResult) → Calm (selecting r l)
calm-select r (fails k) = λ e. refl
calm-select r (offers os) = tt

calm-tests : (sheet : Sheet) (x : Store) (r : ℕ) (l : List IfChoice) → Calm (tests sheet r l x)
calm-tests sheet x r [] = tt
calm-tests sheet x r (t ∷ l) = calm-choose r t.process (value x.cells t.boolean) (tests sheet r l x) (calm-tests sheet x r l)

calm : (sheet : Sheet) (x : Store) (r : ℕ) (k : Action) → Calm (intent sheet k r x)
unfolding intent
calm sheet x r stop = tt
calm sheet x r skip = tt
calm sheet x r sequence = tt
calm sheet x r parallel = tt
calm sheet x r (assign v e f) = calm-assign r (index x.cells v.first v.size e) (value x.cells f)
calm sheet x r (input i) = calm-input r (input_result sheet i x)
calm sheet x r (output c e f) = calm-send r c x.outputs (index x.cells c.first c.size e) (passed x.cells f)
calm sheet x r (conditional ts) = calm-tests sheet x r ts
calm sheet x r (loop e b) = calm-test r b (value x.cells e)
calm sheet x r (alternation bs) = calm-select r (options_result sheet bs x)
calm sheet x r (block v) = tt

-- ---- states that a step sets

set-over : (l : List ℕ) (i y : ℕ) → 2 ≤ get_or l y 0 → 2 ≤ get_or (set l i 2) y 0
set-over [] i y h = h
set-over (x ∷ l) zero zero h = omega arith
set-over (x ∷ l) zero (suc y) h = h
set-over (x ∷ l) (suc i) zero h = h
set-over (x ∷ l) (suc i) (suc y) h = set-over l i y h

set-some : (l : List ℕ) (i y : ℕ) → get_or l y 0 ≢ 0 → get_or (set l i 2) y 0 ≢ 0
set-some [] i y h = h
set-some (x ∷ l) zero zero h = λ e. omega arith
set-some (x ∷ l) zero (suc y) h = h
set-some (x ∷ l) (suc i) zero h = h
set-some (x ∷ l) (suc i) (suc y) h = set-some l i y h

-- a process with options ends when it closes
options-end : (k : Action) (j : ℕ) → Memᴰ j (option_rows k) → ends_when_closed k ≡ true
options-end stop j m = refl
options-end skip j m = refl
options-end sequence j m = refl
options-end parallel j m = refl
options-end (assign v e f) j m = refl
options-end (input i) j m = refl
options-end (output c e f) j m = refl
options-end (conditional ts) j m = refl
options-end (loop e b) j m = absurd (Memᴰ.not-nil m)
options-end (alternation bs) j m = refl
options-end (block v) j m = refl

module _ (rows : List ℤ) (ok : check rows ≡ none) (sheet : Sheet) (l : List Label) (s : State) (o : OrderOf rows sheet l s) where
  abbrev P : Program
  P = program rows

  abbrev F : Fit (program rows) (row_count rows)
  F = fit rows ok

  abbrev W : ℕ → Intent
  W = intent_at (program rows) sheet s

  inv : Inv (program rows) (row_count rows) (fit rows ok) sheet s
  inv = table-inv rows sheet (fit rows ok) l s o

  -- ---- what a step leaves

  states-after : {x : Label} {e : Effect} → Active (intent_at (program rows) sheet s) x e → (after (program rows) sheet x s).states ≡ settle (whole (program rows)) false (change_states e.changes s.states)
  unfolding settled
  states-after {x} {e} A = ap (λ (u : State). u.states) (after-effect P sheet s x e (active-effect W A))

  -- a step that writes nothing leaves what a row at work would do by its action
  does-after : {x : Label} {e : Effect} → Active (intent_at (program rows) sheet s) x e → e.writes ≡ [] → (r : ℕ) (B : Works (program rows) (row_count rows) (fit rows ok) sheet s r)
      → intent sheet B.action r (after (program rows) sheet x s).store ≡ intent sheet B.action r s.store
  unfolding settled
  does-after {x} {e} A q r B =
      ap (intent sheet B.action r) (ap (λ (u : State). u.store) (after-effect P sheet s x e (active-effect W A)) ∙ ap (λ (us : List Write). unset_all (begun (whole P) false (changed e s).states) (write_all us s.store)) q)
      ∙ unset-does P (row_count rows) F sheet s inv A r B

  over : {x : Label} {e : Effect} → Active (intent_at (program rows) sheet s) x e → (y : ℕ) → 2 ≤ get_or (change_states e.changes s.states) y 0 → get_or (after (program rows) sheet x s).states y 0 ≢ 1
  over {x} {e} A y h = rw (states-after A) (settle-not (whole P) (row_count rows) F.sound false (change_states e.changes s.states) y h)

  -- what becomes of a row of the step: it is over; or it started its member q by a test, and would do the same by its action; or it is an ALT that started its member q
  pub data Left (x : Label) (p : ℕ) : Type 0 where
    is-over : Works (program rows) (row_count rows) (fit rows ok) sheet s p → get_or (after (program rows) sheet x s).states p 0 ≢ 1 → Left x p
    by-test : (B : Works (program rows) (row_count rows) (fit rows ok) sheet s p) (q : ℕ) → Child q B.listed → intent_at (program rows) sheet s p ≡ moves q 1 []
        → intent sheet B.action p (after (program rows) sheet x s).store ≡ intent sheet B.action p s.store → Left x p
    by-option : (B : Works (program rows) (row_count rows) (fit rows ok) sheet s p) (q j : ℕ) → Child q B.listed → Memᴰ j (option_rows B.action)
        → (get_or (after (program rows) sheet x s).states p 0 ≢ 1) ⊎ (get_or (after (program rows) sheet x s).states q 0 ≢ 0) → Left x p

  runs-below : (r : ℕ) → Works (program rows) (row_count rows) (fit rows ok) sheet s r → r < length s.states
  runs-below r B = in-range r s.states B.runs

  -- an ALT that starts a member
  started : {x : Label} {e : Effect} (A : Active (intent_at (program rows) sheet s) x e) (r q j : ℕ) (B : Works (program rows) (row_count rows) (fit rows ok) sheet s r) → Child q B.listed → Memᴰ j (option_rows B.action)
      → length (change_states e.changes s.states) ≡ row_count rows → get_or (change_states e.changes s.states) r 0 ≡ 1 → get_or (change_states e.changes s.states) q 0 ≢ 0 → Left x r
  started {x} {e} A r q j B c m n a g =
      by-option B q j c m (subst (λ (u : List ℕ). (get_or u r 0 ≢ 1) ⊎ (get_or u q 0 ≢ 0)) (sym (states-after A))
      (settle-pair B.action r q B.listed (options-end B.action j m) c (whole P) (row_count rows) F.sound B.sub false (change_states e.changes s.states) n a g))

  -- a member of a row at work is idle, so it is another row
  other : (r q : ℕ) (B : Works (program rows) (row_count rows) (fit rows ok) sheet s r) → Child q B.listed → r ≢ q
  other r q B c e = let z = B.idle q (child-in c) in let y = B.runs in let w = ap (λ (k : ℕ). get_or s.states k 0) e in omega arith

  pub step-leaves : {x : Label} {e : Effect} → Active (intent_at (program rows) sheet s) x e → (p : ℕ) → RowOf x p → Left x p
  step-leaves (acts-alone {r} {x = y} {v} {ws} h) p of-own = go (works-proper P (row_count rows) F sheet s r B h).0
    where
      B : Works P (row_count rows) F sheet s r
      B = works P (row_count rows) F sheet s r inv (ap acts h)

      quiet : v ≡ 1 → ws ≡ []
      quiet = subst Calm (sym B.does ∙ h) (calm sheet s.store r B.action)

      go : Legal y v r B.listed → Left (own r) r
      go (itself i a b) = is-over B (over (acts-alone h) r (rw (a, b, get_or-set_same s.states r (suc (suc i)) 0 (runs-below r B)) (omega arith)))
      go (child c b) = by-test B y c (h ∙ ap (λ (k : ℕ). moves y k ws) b ∙ ap (moves y 1) (quiet b)) (does-after (acts-alone h) (quiet b) r B)
  step-leaves (passes_on {i} {o = q} h g) p of-input =
      is-over (works P (row_count rows) F sheet s i inv (ap acts h)) (over (passes_on h g) i (set-over (set s.states i 2) q i (rw (get_or-set_same s.states i 2 0 (runs-below i (works P (row_count rows) F sheet s i inv (ap acts h)))) (omega arith))))
  step-leaves (passes_on {i} {o = q} h g) p of_output =
      is-over (works P (row_count rows) F sheet s q inv (ap acts g)) (over (passes_on h g) q (rw (get_or-set_same (set s.states i 2) q 2 0 (rw (length-set s.states i 2) (runs-below q (works P (row_count rows) F sheet s q inv (ap acts g))))) (omega arith)))
  step-leaves (takes-open {r} {j} {q} {i} {ws} {os} h g) p of-alt =
      let B = works P (row_count rows) F sheet s r inv (ap acts h) in
      let z = offer-proper F.source F.sink B.action B.listed (open_offer i q ws) os (works-proper P (row_count rows) F sheet s r B h) (offer_at-is j (open_offer i q ws) os g).0 in
      let k : q < length s.states = rw inv.size (changes-below rows ok sheet l s o (takes-open h g)).0 in
      started (takes-open h g) r q i B z.1 z.0 (length-set s.states q 1 ∙ inv.size) (get_or-set_other s.states q r 1 0 (other r q B z.1) ∙ B.runs)
      (λ y. let w = get_or-set_same s.states q 1 0 k in omega arith)
  step-leaves (takes-input {r} {j} {o = u} {q} {i} {e} {a} {os} h g f) p of-alt-input =
      let B = works P (row_count rows) F sheet s r inv (ap acts h) in
      let z = offer-proper F.source F.sink B.action B.listed (input_offer i q e a) os (works-proper P (row_count rows) F sheet s r B h) (offer_at-is j (input_offer i q e a) os g).0 in
      let k : q < length s.states = rw inv.size (changes-below rows ok sheet l s o (takes-input h g f)).0 in
      started (takes-input h g f) r q i B z.1 z.0 (length-set (set s.states q 1) u 2 ∙ length-set s.states q 1 ∙ inv.size)
      (get_or-set_other (set s.states q 1) u r 2 0 (λ y. output-selects f (ap W (sym y) ∙ h)) ∙ get_or-set_other s.states q r 1 0 (other r q B z.1) ∙ B.runs)
      (set-some (set s.states q 1) u q (λ y. let w = get_or-set_same s.states q 1 0 k in omega arith))
  step-leaves (takes-input {r} {o = u} {q} h g f) p of-alt-output =
      is-over (works P (row_count rows) F sheet s u inv (ap acts f)) (over (takes-input h g f) u (rw (get_or-set_same (set s.states q 1) u 2 0 (rw (length-set s.states q 1) (runs-below u (works P (row_count rows) F sheet s u inv (ap acts f))))) (omega arith)))
