-- How many steps are ready: where orders come one number, at most as many as there are rows; 0 exactly at rest.
use mathlib.Core.Path.{◌≡◌, refl, sym, ap, subst, ◌∙◌}
use mathlib.Core.Option.{none}
use mathlib.Core.List.Memᴰ
use mathlib.Core.List.{List, [], ◌∷◌}
use Prim.Native.Nat.{ℕ, ◌≤◌}
use native.Mathlib.Omega.{arith}
use lib.IntN.{ℤ}
use lib.ListN.{length}
use Rattle.meaning.specs.Rows.{row_count}
use Rattle.meaning.specs.State.{State, program}
use Rattle.meaning.specs.Labels.{Label}
use Rattle.meaning.specs.Readings.{Sheet}
use Rattle.meaning.specs.Ready.{ready}
use Rattle.meaning.specs.Order.{ReadyList, RestOf}
use Rattle.meaning.specs.Answers.{check}
use Rattle.agreement.specs.Statements.{Reached, ReadyTotal}
use Rattle.agreement.specs.TraceClaims.{OneTotal, RestTotal}
use Rattle.agreement.proofs.Steps.{offers-rise}
use Rattle.agreement.proofs.Separate.{table-inv}
use Rattle.agreement.proofs.FewReady.{few-ready}
use Rattle.agreement.proofs.RowsAscend.{ready-listed}
use Rattle.agreement.proofs.TableFit.{fit}
use Rattle.agreement.proofs.TableOptions.{option-rows}

module _ (rows : List ℤ) (ok : check rows ≡ none) (sheet : Sheet) (s : State) (r : Reached rows sheet s) where
  -- it is the length of the machine's list
  pub total-is : (n : ℕ) → ReadyTotal rows sheet s n → length (ready (program rows) sheet s) ≡ n
  total-is n (l, h, e) = ap (λ (k : List Label). length k) (sym ((ready-listed rows ok sheet s r l).0 h)) ∙ e

  pub total-few : (n : ℕ) → ReadyTotal rows sheet s n → n ≤ row_count rows
  total-few n h =
      let (l, o) = r in
      let F = fit rows ok in
      let i = table-inv rows sheet F l s o in
      subst (λ (k : ℕ). k ≤ row_count rows) (total-is n h) (few-ready (program rows) (row_count rows) F sheet s i (option-rows rows ok) (offers-rise rows sheet s))

pub one-total : OneTotal
one-total rows ok sheet s r =
    let l = ready (program rows) sheet s in
    let here : ReadyTotal rows sheet s (length l) = (l, (ready-listed rows ok sheet s r l).1 refl, refl) in
    (length l, here, total-few rows ok sheet s r (length l) here, λ other h. sym (total-is rows ok sheet s r other h))

pub rest-total : RestTotal
rest-total rows sheet s total (l, h, e) = (λ z x t k. none l h (e ∙ z) x t k, λ r. sym e ∙ empty l h r)
  where
    none : (l : List Label) → ReadyList (program rows) sheet s l → length l ≡ 0 → RestOf rows sheet s
    none [] h z x t k = Memᴰ.not-nil ((h.just-these x).1 (t, k))
    none (y ∷ l) h z x t k = absurd (omega arith)

    empty : (l : List Label) → ReadyList (program rows) sheet s l → RestOf rows sheet s → length l ≡ 0
    empty [] h r = refl
    empty (y ∷ l) h r = let (t, k) = (h.just-these y).0 (Memᴰ.head refl) in absurd (r y t k)
