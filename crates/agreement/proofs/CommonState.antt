-- Request 14: the common state of two orders of an accepted table without ALT, and the lists of the host's output channels.
use mathlib.Core.Path.{◌≡◌, refl, sym, ◌∙◌}
use mathlib.Core.Logic.{inl, inr}
use mathlib.Core.List.{List, [], ◌∷◌, ◌++◌}
use native.Mathlib.Omega.{arith}
use lib.IntN.{ℤ}
use Rattle.meaning.specs.State.{State, program}
use Rattle.meaning.specs.Labels.{Label}
use Rattle.meaning.specs.Readings.{Sheet}
use Rattle.meaning.specs.Order.{Order, OrderOf}
use Rattle.agreement.specs.MissingClaims.{list_at}
use Rattle.agreement.specs.CommonClaims.{CommonState, OneCommon, SameSteps, RestReached, EitherBeginning, ListsBegin}
use Rattle.agreement.proofs.TableFit.{fit}
use Rattle.agreement.proofs.Join.{times-append, stays, order-on}
use Rattle.agreement.proofs.OneRest.{orders-join, comes-to-rest}
use Rattle.agreement.proofs.OutputsGrow.{order-grows}

pub common-state : CommonState
common-state rows sheet a w = orders-join rows sheet (fit rows a.0) w

pub same-steps : SameSteps
same-steps rows sheet a w l s o k t q e =
    let c = common-state rows sheet a w l s o k t q in
    stays c.first-comes (λ x. omega (arith, c.first-takes x, e x)) ∙ sym (stays c.second-comes (λ x. omega (arith, c.second-takes x, e x)))

-- an order that goes on
pub goes_on : (rows : List ℤ) (sheet : Sheet) {s t : State} {l k : List Label} → OrderOf rows sheet l s → Order (program rows) sheet s k t → OrderOf rows sheet (l ++ k) t
goes_on rows sheet o q = record { beginning = o.beginning; begins = o.begins; order = order-on (program rows) sheet o.order q }

pub one-common : OneCommon
one-common rows sheet a w l s o k t q c d =
    same-steps rows sheet a w (l ++ c.first_more) c.state (goes_on rows sheet o c.first-comes) (l ++ d.first_more) d.state (goes_on rows sheet o d.first-comes)
    (λ x. omega (arith, times-append x l c.first_more, times-append x l d.first_more, c.first-takes x, d.first-takes x))

pub rest-reached : RestReached
rest-reached rows sheet a w l s o k t q r = comes-to-rest rows sheet (fit rows a.0) w l s o r k t q

-- two beginnings of one list
either-beginning : {A : Type 0} (xs ys more less : List A) → xs ++ more ≡ ys ++ less → EitherBeginning xs ys
either-beginning [] ys more less e = inl (ys, refl)
either-beginning (x ∷ xs) [] more less e = inr (x ∷ xs, refl)
either-beginning (x ∷ xs) (y ∷ ys) more less e = let h : x ≡ y = cc in go h (either-beginning xs ys more less cc)
  where
    go : x ≡ y → EitherBeginning xs ys → EitherBeginning (x ∷ xs) (y ∷ ys)
    go h (inl (m, f)) = inl (m, rw (h, f) refl)
    go h (inr (m, f)) = inr (m, rw (h, f) refl)

pub lists-begin : ListsBegin
lists-begin rows sheet a w l s o k t q channel =
    let c = common-state rows sheet a w l s o k t q in
    let (x, e) = order-grows (program rows) sheet c.first-comes channel in
    let (y, f) = order-grows (program rows) sheet c.second-comes channel in
    either-beginning (list_at s channel) (list_at t channel) x y (sym e ∙ f)
