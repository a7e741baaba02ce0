-- A running row that lacks a value has one step, the stop, and lacks it for one reason. It holds of every table.
use mathlib.Core.Path.{◌≡◌, refl, sym, ap, subst, ◌∙◌}
use mathlib.Core.Bool.{Bool, true, false}
use mathlib.Core.Option.{some, none-ne-some}
use mathlib.Core.List.{List, [], ◌∷◌}
use Prim.Native.Nat.{ℕ, ◌+◌}
use native.Mathlib.Omega.{arith}
use lib.IntN.{ℤ}
use lib.Dec.{eqb}
use Rattle.meaning.specs.Basics.{if_else}
use Rattle.meaning.specs.Tree.{Action}
use Rattle.meaning.specs.State.{State, Program, program, Effect}
use Rattle.meaning.specs.Labels.{Label, own, pass, take_option, take_with_output}
use Rattle.meaning.specs.Readings.{Sheet}
use Rattle.meaning.specs.Settle.{settled}
use Rattle.meaning.specs.Intent.{Offer, open_offer, input_offer, Intent, waits, moves, inputs_from, outputs_to, selects}
use Rattle.meaning.specs.Ready.{intent_at, take_with_output_effect, option_row, offer_effect_at, offer_effect, pass_effect, effect_of}
use Rattle.meaning.specs.Step.{Lacks, Live, Allows, Leaves, Step, stopping}
use Rattle.agreement.specs.RowsOfSteps.{RowOf, of-own, of-input, of_output, of-alt, of-alt-input, of-alt-output}
use Rattle.agreement.specs.MissingClaims.{OneReason, stop_effect, LackingOnlyStops}
use Rattle.agreement.proofs.Takeable.{takeable, live-want, lacks-want}
use Rattle.agreement.proofs.Steps.{distinct-options, allowed-step}
use Rattle.agreement.proofs.MissingSteps.{one-effect}
use Rattle.agreement.proofs.Separate.{table-inv}
use Rattle.agreement.proofs.TableFit.{fit}

-- what a row becomes by its own step
becomes_state : Intent → ℕ
becomes_state waits = 0
becomes_state (moves x v ws) = v
becomes_state (inputs_from e a) = 0
becomes_state (outputs_to e v) = 0
becomes_state (selects l) = 0

-- an action lacks a value for one reason
pub one-reason : OneReason
unfolding becomes_state
one-reason cells a k l h g =
    let s : State = record { states = []; store = record { cells = cells; places = []; outputs = [] } } in
    let P : Program = record { processes = []; root = 0; cells = 0; inputs = 0; outputs = 0 } in
    let e : 10 + k ≡ 10 + l = ap becomes_state (sym (lacks-want P [] s 0 k a h) ∙ lacks-want P [] s 0 l a g) in
    omega arith

module _ (rows : List ℤ) (sheet : Sheet) (s : State) (r reason : ℕ) (a : Action) where
  abbrev P : Program
  P = program rows

  -- what the row would do is to stop, and nothing else
  would-stop : Live P s r a → Lacks s.store.cells a reason → intent_at P sheet s r ≡ moves r (10 + reason) []
  would-stop g h = live-want P sheet s r a g ∙ lacks-want P sheet s r reason a h

  -- a receiver meets no output of the row
  nothing-sent : (i : ℕ) (w u : Intent) (e : Effect) → u ≡ moves r (10 + reason) [] → ¬ (pass_effect i r w u ≡ some e)
  nothing-sent i waits u e q p = none-ne-some e p
  nothing-sent i (moves x v ws) u e q p = none-ne-some e p
  nothing-sent i (inputs_from d c) u e q p = none-ne-some e (rw q at p)
  nothing-sent i (outputs_to d v) u e q p = none-ne-some e p
  nothing-sent i (selects l) u e q p = none-ne-some e p

  -- nor does an offer of an ALT
  nothing-taken : (q j : ℕ) (l : List Offer) (e : Effect) → ¬ (offer_effect_at j (take_with_output_effect q r (moves r (10 + reason) [])) l ≡ some e)
  nothing-taken q j [] e p = none-ne-some e p
  nothing-taken q j (o ∷ l) e p = here o (eqb (option_row o) j) p (λ h. nothing-taken q j l e h)
    where
      here : (o : Offer) (t : Bool) → if_else t (take_with_output_effect q r (moves r (10 + reason) []) o) (offer_effect_at j (take_with_output_effect q r (moves r (10 + reason) [])) l) ≡ some e
          → ¬ (offer_effect_at j (take_with_output_effect q r (moves r (10 + reason) [])) l ≡ some e) → ⊥
      here (open_offer k x ws) true p h = none-ne-some e p
      here (input_offer k x d c) true p h = none-ne-some e p
      here (open_offer k x ws) false p h = h p
      here (input_offer k x d c) false p h = h p

  nothing-taken-from : (q j : ℕ) (w u : Intent) (e : Effect) → u ≡ moves r (10 + reason) [] → ¬ (offer_effect j (take_with_output_effect q r u) w ≡ some e)
  nothing-taken-from q j waits u e z p = none-ne-some e p
  nothing-taken-from q j (moves x v ws) u e z p = none-ne-some e p
  nothing-taken-from q j (inputs_from d c) u e z p = none-ne-some e p
  nothing-taken-from q j (outputs_to d v) u e z p = none-ne-some e p
  nothing-taken-from q j (selects l) u e z p = nothing-taken q j l e (rw z at p)

  -- so a step of the row is its own
  own-step : intent_at P sheet s r ≡ moves r (10 + reason) [] → (x : Label) (e : Effect) → effect_of x (intent_at P sheet s) ≡ some e → RowOf x r → x ≡ own r
  own-step z (own q) e p of-own = refl
  own-step z (pass i o) e p of-input = absurd (none-ne-some e (rw z at p))
  own-step z (pass i o) e p of_output = absurd (nothing-sent i (intent_at P sheet s i) (intent_at P sheet s r) e z p)
  own-step z (take_option q j) e p of-alt = absurd (none-ne-some e (rw z at p))
  own-step z (take_with_output q j o) e p of-alt-input = absurd (none-ne-some e (rw z at p))
  own-step z (take_with_output q j o) e p of-alt-output = absurd (nothing-taken-from q j (intent_at P sheet s q) (intent_at P sheet s r) e z p)

  only-stops : Live P s r a → Lacks s.store.cells a reason → (x : Label) (t : State) → Step P sheet s x t → RowOf x r → (x ≡ own r) × Leaves P s (stop_effect r reason) t
  only-stops g h x t k o =
      let z = own-step (would-stop g h) x k.does (takeable P sheet s (distinct-options rows sheet s) x k.does k.allowed) o in
      let e = one-effect rows sheet s (own r) k.does (stop_effect r reason) (subst (λ (y : Label). Allows P sheet s y k.does) z k.allowed) (stopping g h) in
      (z, subst (λ (f : Effect). Leaves P s f t) e k.leaves)

-- a running row that lacks a value has one step, the stop
pub lacking-only-stops : LackingOnlyStops
lacking-only-stops rows sheet s r reason a g h = (
  stopping g h,
  λ ok (l, o). (settled (program rows) (stop_effect r reason) s, allowed-step rows sheet (fit rows ok) s (table-inv rows sheet (fit rows ok) l s o) (own r) (stop_effect r reason) (stopping g h)),
  only-stops rows sheet s r reason a g h,
)
