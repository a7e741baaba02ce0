-- Demands 2 and 3 as `Statements` words them, with nothing left to assume.
use mathlib.Core.Path.{◌≡◌, sym, ◌∙◌}
use mathlib.Core.Option.{none}
use native.Mathlib.Omega.{arith}
use Rattle.meaning.specs.Accepted.{BothAccepted}
use Rattle.meaning.specs.Answers.{check}
use Rattle.agreement.specs.Statements.{AllowedExactly, ReadyExactly, AfterIsStep, EveryOrderChosen, OneStepDiamond, ListsGrow}
use Rattle.agreement.proofs.Reached.{ready-steps}
use Rattle.agreement.proofs.Steps.{distinct-options, ready-effect, effect-ready, ready-allowed, allowed-ready}
use Rattle.agreement.proofs.Allowed.{allowed}
use Rattle.agreement.proofs.Takeable.{takeable}
use Rattle.agreement.proofs.MissingSteps.{one-effect}
use Rattle.agreement.proofs.Separate.{table-inv}
use Rattle.agreement.proofs.TableFit.{fit, rows-limit}
use Rattle.agreement.proofs.TableOptions.{option-rows}
use Rattle.agreement.proofs.Choosable.{choosable}
use Rattle.agreement.proofs.WithoutAlt
use Rattle.agreement.proofs.OutputsGrow.{step-grows}
use Rattle.meaning.specs.State.{program}
pub use Rattle.agreement.proofs.RowsAscend.{rows-ascend, ready-listed}
pub use Rattle.agreement.proofs.Elements.{one-per-element}
pub use Rattle.agreement.proofs.RunTakesOrder.{run-takes-order}
pub use Rattle.agreement.proofs.Answered.{demand3, demand3-bytes}

pub allowed-exactly : AllowedExactly
allowed-exactly rows sheet s n x = (
  (
    λ m. (let (e, q) = ready-effect rows sheet s x m in (e, allowed (program rows) sheet s x e q)),
    λ (e, h). effect-ready rows sheet s n x e (takeable (program rows) sheet s (distinct-options rows sheet s) x e h),
  ),
  one-effect rows sheet s x,
)

pub ready-exactly : ReadyExactly
ready-exactly rows ok sheet s (l, o) x =
    let (both, one) = ready-steps (λ rows sheet. check rows ≡ none) (λ rows sheet a. fit rows a) rows sheet l s ok o x in
    (both, λ t u h g. one t h ∙ sym (one u g))

pub after-is-step : AfterIsStep
after-is-step rows ok sheet s (l, o) x m =
    let F = fit rows ok in
    let i = table-inv rows sheet F l s o in
    (ready-allowed rows sheet F s i x m, λ t h. (allowed-ready rows sheet F s i x t h).1)

pub every-order-chosen : EveryOrderChosen
every-order-chosen rows sheet a l s o =
    choosable BothAccepted (λ rows sheet a. (fit rows a.0, option-rows rows a.0, (let h = rows-limit rows a.0 in omega arith))) rows sheet l s a o

pub one-step-diamond : OneStepDiamond
one-step-diamond rows sheet a w s (l, o) = WithoutAlt.one-step-diamond rows sheet (fit rows a.0) w l s o

pub lists-grow : ListsGrow
lists-grow rows sheet s t x h port = step-grows (program rows) sheet s x t h port
