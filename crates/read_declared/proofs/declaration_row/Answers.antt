-- By the first mark and the number. Assumes nothing.
use mathlib.Core.Path.{◌≡◌, ap, ◌∙◌}
use mathlib.Core.List.{[], ◌∷◌}
use Prim.Native.Nat.{ℕ}
use native.Mathlib.Omega.{arith}
use lib.IntN.{pos}
use lib.ListN.{get_or}
use mir.Syntax.{w32}
use mir.Val.{SFits}
use mir.ValLaws.{to_z-of_z}
use borrow.Author.Rules.{rules}
use Rattle.read_classes.specs.Parts.{mark_in}
use Rattle.read_declared.specs.Declarations.{row_by}
use Rattle.read_declared.proofs.HeaderLaws.{by_int, by-chan, by-hostin, by-other}
use Rattle.read_declared.proofs.declaration_row.Goals as goal

pub number_in-number-requires : goal.number_in-number-requires
number_in-number-requires c = c.requires.0

pub bounds-sorts-first_mark : goal.bounds-sorts-first_mark
bounds-sorts-first_mark c =
    let e = c.first_mark.ensures in
    let h = c.requires.1 in
    omega (arith, e, h)

pub returns-in-24 : goal.returns-in-24
returns-in-24 c =
    let a = c.args in
    let z = c.number_in-number.result in
    let s = get_or a.sorts.now c.first_mark.result 0 in
    let told : row_by s z ≡ row_by (mark_in a.sorts.now) z = ap (λ (k : ℕ). row_by (get_or a.sorts.now k 0) z) c.first_mark.ensures in
    let fits : SFits w32 z = search rules in
    rw (to_z-of_z w32 _ fits)
    (by_int s (pos 1 ∷ z ∷ pos 0 ∷ pos 0 ∷ []) (pos 2 ∷ z ∷ pos 0 ∷ pos 0 ∷ []) (pos 2 ∷ pos 1 ∷ pos 1 ∷ pos 0 ∷ []) (pos 2 ∷ pos 1 ∷ pos 2 ∷ z ∷ []) c.in-24.is ∙ told ∙ ap (row_by (mark_in a.sorts.now)) c.number_in-number.ensures)

pub returns-in-25 : goal.returns-in-25
returns-in-25 c =
    let a = c.args in
    let z = c.number_in-number.result in
    let s = get_or a.sorts.now c.first_mark.result 0 in
    let told : row_by s z ≡ row_by (mark_in a.sorts.now) z = ap (λ (k : ℕ). row_by (get_or a.sorts.now k 0) z) c.first_mark.ensures in
    let fits : SFits w32 z = search rules in
    rw (to_z-of_z w32 _ fits)
    (by-chan s (pos 1 ∷ z ∷ pos 0 ∷ pos 0 ∷ []) (pos 2 ∷ z ∷ pos 0 ∷ pos 0 ∷ []) (pos 2 ∷ pos 1 ∷ pos 1 ∷ pos 0 ∷ []) (pos 2 ∷ pos 1 ∷ pos 2 ∷ z ∷ []) c.in-25.is ∙ told ∙ ap (row_by (mark_in a.sorts.now)) c.number_in-number.ensures)

pub returns-in-26 : goal.returns-in-26
returns-in-26 c =
    let a = c.args in
    let z = c.number_in-number.result in
    let s = get_or a.sorts.now c.first_mark.result 0 in
    let told : row_by s z ≡ row_by (mark_in a.sorts.now) z = ap (λ (k : ℕ). row_by (get_or a.sorts.now k 0) z) c.first_mark.ensures in
    by-hostin s (pos 1 ∷ z ∷ pos 0 ∷ pos 0 ∷ []) (pos 2 ∷ z ∷ pos 0 ∷ pos 0 ∷ []) (pos 2 ∷ pos 1 ∷ pos 1 ∷ pos 0 ∷ []) (pos 2 ∷ pos 1 ∷ pos 2 ∷ z ∷ []) c.in-26.is ∙ told ∙ ap (row_by (mark_in a.sorts.now)) c.number_in-number.ensures

pub returns-in_default : goal.returns-in_default
returns-in_default c =
    let a = c.args in
    let z = c.number_in-number.result in
    let s = get_or a.sorts.now c.first_mark.result 0 in
    let told : row_by s z ≡ row_by (mark_in a.sorts.now) z = ap (λ (k : ℕ). row_by (get_or a.sorts.now k 0) z) c.first_mark.ensures in
    let fits : SFits w32 z = search rules in
    rw (to_z-of_z w32 _ fits)
    (by-other s (pos 1 ∷ z ∷ pos 0 ∷ pos 0 ∷ []) (pos 2 ∷ z ∷ pos 0 ∷ pos 0 ∷ []) (pos 2 ∷ pos 1 ∷ pos 1 ∷ pos 0 ∷ []) (pos 2 ∷ pos 1 ∷ pos 2 ∷ z ∷ []) c.in_default.in_default-own.rest.0.0.1 c.in_default.in_default-own.rest.0.1 c.in_default.in_default-own.rest.1 ∙ told ∙ ap (row_by (mark_in a.sorts.now)) c.number_in-number.ensures)
