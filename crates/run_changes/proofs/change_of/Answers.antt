-- `change_of` meets its contract, by whether the row is an option.
use mathlib.Core.Path.{sym, ap, ◌∙◌}
use mathlib.Core.List.{List}
use Prim.Native.Nat.{ℕ, ◌≤◌}
use native.Mathlib.Omega.{arith}
use Rattle.run_code.specs.Prepared.{strip_at}
use Rattle.run_code.proofs.Entries.{what-at, first-at, parent-at}
use Rattle.run_changes.specs.Changes.{row_noted}
use Rattle.run_changes.proofs.ChangesMade.{as-option, by_itself}
use Rattle.run_changes.proofs.change_of.Goals as goal

pub returns-then-place-eq42 : goal.returns-then-place-eq42
returns-then-place-eq42 c rows P =
    let args = c.args in
    let below = c.requires.row in
    let h : ◌≤◌ args.j 1024 = omega arith in
    as-option args.notes.now.acts args.notes.now.sent args.notes.now.elements args.j _ rows _ _
    (sym (what-at P args.j h) ∙ sym c.place.ensures ∙ c.if-place-eq42.true)
    (c.row_of-owner.ensures ∙ ap row_noted (c.place-then-place-eq42.ensures ∙ parent-at P args.j h))
    (c.place-then-place-eq42-2.ensures ∙ first-at P args.j h)
    c.option_change.ensures

pub returns : goal.returns
returns c rows P =
    let args = c.args in
    let below = c.requires.row in
    let h : ◌≤◌ args.j 1024 = omega arith in
    by_itself args.notes.now.acts args.notes.now.sent args.notes.now.elements args.j _ rows _
    (λ e. c.if-place-eq42.false (c.place.ensures ∙ what-at P args.j h ∙ e))
    (ap (λ (l : List ℕ). strip_at l args.j) P.same)
    c.own_change.ensures
