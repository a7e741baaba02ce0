-- The statements, proved.
use mathlib.Core.Path.{◌≡◌, refl, sym, subst}
use mathlib.Core.Logic.{◌↔◌}
use mathlib.Core.Option.{none}
use mathlib.Core.List.{List, [], ◌∷◌, ◌++◌, Memᴰ}
use Prim.Native.Nat.{ℕ}
use lib.IntN.{ℤ}
use Rattle.meaning.specs.Rows.{row_count}
use Rattle.meaning.specs.State.{State, program, Effect}
use Rattle.meaning.specs.Labels.{Label}
use Rattle.meaning.specs.Readings.{Sheet}
use Rattle.meaning.specs.Ready.{intent_at, ready, after}
use Rattle.meaning.specs.Order.{OrderOf}
use Rattle.meaning.specs.Answers.{check}
use Rattle.agreement.specs.Statements.{Reached, StepOf, ReadyTotal}
use Rattle.agreement.proofs.Active.{Active}
use Rattle.agreement.proofs.Steps.{distinct-options, allowed-ready}
use Rattle.agreement.proofs.Invariant.{step-active}
use Rattle.agreement.proofs.Separate.{table-inv}
use Rattle.agreement.proofs.TableFit.{fit}
use Rattle.agreement.proofs.RowsAscend.{ready-listed}
use Rattle.agreement.proofs.ReadyTotals.{rest-total}
use Rattle.agreement.proofs.Demands.{ready-exactly}
use Rattle.machine.proofs.Unmoved.{order-after}
use Rattle.run_kept.specs.Kept.{total}
use Rattle.run_kept.specs.Statements.{RowReady, NotesKept, WaitsKept, NoPartnerLost, BitsKept, TotalMended}
use Rattle.run_kept.specs.ReadyClaims.{TotalKept, owner, IsReady, Untouched, OwnStepsLocal}
use Rattle.run_kept.proofs.ReadyRows.{row-ready, total-is}
use Rattle.run_kept.proofs.Locality.{note-kept, option-kept, same-or-moved, sender-same, receiver-same}
use Rattle.run_kept.proofs.Partners.{partner-steps}
use Rattle.run_kept.proofs.Mending.{bit_kept, total-mended}
use Rattle.run_kept.proofs.Owners.{own_steps, owned-is}
use Rattle.run_kept.proofs.OwnSteps.{own-steps-local}

-- a step that a rule allows is one that can be taken, and leads to the state after it
module _ (rows : List ℤ) (ok : check rows ≡ none) (sheet : Sheet) (l : List Label) (s : State) (o : OrderOf rows sheet l s) (x : Label) (t : State) (h : StepOf rows sheet s x t) where
  taken : (e : Effect) × Active (intent_at (program rows) sheet s) x e
  taken = let (e, A, z) = step-active (program rows) (row_count rows) (fit rows ok) sheet (distinct-options rows sheet) s x t (table-inv rows sheet (fit rows ok) l s o) h in (e, A)

  leads : t ≡ after (program rows) sheet x s
  leads = (allowed-ready rows sheet (fit rows ok) s (table-inv rows sheet (fit rows ok) l s o) x t h).1

pub row-bit : RowReady
row-bit rows sheet a s (l, o) j = row-ready rows a.0 sheet l s o j

pub total_kept : TotalKept
total_kept rows sheet a s (l, o) =
    let k = ready (program rows) sheet s in
    let here : ReadyTotal rows sheet s (total (program rows) sheet s) = (k, (ready-listed rows a.0 sheet s (l, o) k).1 refl, sym (total-is rows a.0 sheet l s o)) in
    (here, rest-total rows sheet s (total (program rows) sheet s) here)

pub notes-kept : NotesKept
notes-kept rows sheet a s (l, o) x t h r =
    let A = (taken rows a.0 sheet l s o x t h).1 in
    rw (leads rows a.0 sheet l s o x t h)
    (λ v d. note-kept rows a.0 sheet l s o A r v d, λ j z v d. option-kept rows a.0 sheet l s o A r j z v d, same-or-moved rows a.0 sheet l s o A r)

pub waits_kept : WaitsKept
waits_kept rows sheet a s (l, o) x t h d =
    let A = (taken rows a.0 sheet l s o x t h).1 in
    rw (leads rows a.0 sheet l s o x t h) (sender-same rows a.0 sheet l s o A d, receiver-same rows a.0 sheet l s o A d)

pub no-partner-lost : NoPartnerLost
no-partner-lost rows sheet a s (l, o) x t h d p r f m g = partner-steps rows a.0 sheet l s o (taken rows a.0 sheet l s o x t h).1 d p r f m g

pub bits-kept : BitsKept
bits-kept rows sheet a s (l, o) x t h j = rw (leads rows a.0 sheet l s o x t h) (bit_kept rows a.0 sheet l s o (taken rows a.0 sheet l s o x t h).1 j)

pub total-is-mended : TotalMended
total-is-mended rows sheet a s (l, o) x t h = rw (leads rows a.0 sheet l s o x t h) (total-mended rows a.0 sheet l s o (taken rows a.0 sheet l s o x t h).1)

-- the ready steps of an owner are those of its list
own-step-is : (rows : List ℤ) → check rows ≡ none → (sheet : Sheet) (s : State) → Reached rows sheet s → (r : ℕ) (y : Label) → owner y ≡ r → IsReady rows sheet s y ↔ Memᴰ y (own_steps (program rows) sheet s r)
unfolding own_steps
own-step-is rows ok sheet s o r y e =
    let (is, one) = ready-exactly rows ok sheet s o y in
    let (to, from) = owned-is r y (ready (program rows) sheet s) in
    (λ h. from (e, is.1 h), λ m. is.0 (to m).1)

pub own-steps-are-local : OwnStepsLocal
own-steps-are-local rows sheet a s (l, o) x t h r N y w =
    let A = (taken rows a.0 sheet l s o x t h).1 in
    let e = leads rows a.0 sheet l s o x t h in
    let same = own-steps-local rows a.0 sheet l s o A r (subst (λ (u : State). Untouched rows s u r) e N) in
    let later : Reached rows sheet t = (l ++ (x ∷ []), subst (OrderOf rows sheet (l ++ (x ∷ []))) (sym e) (order-after rows a.0 sheet l s o A)) in
    let kept : own_steps (program rows) sheet t r ≡ own_steps (program rows) sheet s r = rw e same in
    let (to, from) = own-step-is rows a.0 sheet s (l, o) r y w in
    let (up, down) = own-step-is rows a.0 sheet t later r y w in
    (λ u. down (subst (Memᴰ y) (sym kept) (to u)), λ u. from (subst (Memᴰ y) kept (up u)))
