-- By the first mark and the number. Assumes nothing.
use mathlib.Core.Path.{◌≡◌, ap, ap₂, ◌∙◌}
use Prim.Native.Nat.{ℕ, ◌+◌}
use native.Mathlib.Omega.{arith}
use lib.IntN.{ℤ}
use lib.ListN.{get_or}
use mir.Syntax.{w32}
use mir.Val.{SFits, to_z, of_z}
use mir.ValLaws.{to_z-of_z}
use borrow.Author.Rules.{rules}
use Rattle.read_declared.specs.Declarations.{by_mark, unless_one, role_by, role_listed}
use Rattle.read_declared.proofs.HeaderLaws.{unless-one-small, by_int, by-chan, by-hostin, by-other}
use Rattle.read_declared.proofs.role_of.Goals as goal

pub number_in-requires : goal.number_in-requires
number_in-requires c = c.requires.0

pub bounds-sorts-first_mark : goal.bounds-sorts-first_mark
bounds-sorts-first_mark c =
    let e = c.first_mark.ensures in
    let h = c.requires.1 in
    omega (arith, e, h)

pub overflow_add-result : goal.overflow_add-result
overflow_add-result c =
    let e = c.unless_one-more.ensures in
    let h = unless-one-small (to_z w32 (of_z w32 c.number_in.result)) in
    omega (arith, e, h)

pub returns-in-24 : goal.returns-in-24
returns-in-24 c =
    let a = c.args in
    let z = c.number_in.result in
    let s = get_or a.sorts.now c.first_mark.result 0 in
    let fits : SFits w32 z = search rules in
    let told : by_mark s (unless_one z) (unless_one z + 1) 2 3 ≡ role_listed a.sorts.now a.values.now =
    ap₂ (λ (k : ℕ) (y : ℤ). role_by (get_or a.sorts.now k 0) y) c.first_mark.ensures c.number_in.ensures in
    let more : c.unless_one-more.result ≡ unless_one z = rw (to_z-of_z w32 _ fits) at c.unless_one-more.ensures in
    more ∙ by_int s (unless_one z) (unless_one z + 1) 2 3 c.in-24.is ∙ told

pub returns-in-25 : goal.returns-in-25
returns-in-25 c =
    let a = c.args in
    let z = c.number_in.result in
    let s = get_or a.sorts.now c.first_mark.result 0 in
    let fits : SFits w32 z = search rules in
    let told : by_mark s (unless_one z) (unless_one z + 1) 2 3 ≡ role_listed a.sorts.now a.values.now =
    ap₂ (λ (k : ℕ) (y : ℤ). role_by (get_or a.sorts.now k 0) y) c.first_mark.ensures c.number_in.ensures in
    let more : c.unless_one-more.result ≡ unless_one z = rw (to_z-of_z w32 _ fits) at c.unless_one-more.ensures in
    ap (λ (k : ℕ). k + 1) more ∙ by-chan s (unless_one z) (unless_one z + 1) 2 3 c.in-25.is ∙ told

pub returns-in-26 : goal.returns-in-26
returns-in-26 c =
    let a = c.args in
    let z = c.number_in.result in
    let s = get_or a.sorts.now c.first_mark.result 0 in
    let told : by_mark s (unless_one z) (unless_one z + 1) 2 3 ≡ role_listed a.sorts.now a.values.now =
    ap₂ (λ (k : ℕ) (y : ℤ). role_by (get_or a.sorts.now k 0) y) c.first_mark.ensures c.number_in.ensures in
    by-hostin s (unless_one z) (unless_one z + 1) 2 3 c.in-26.is ∙ told

pub returns-in_default : goal.returns-in_default
returns-in_default c =
    let a = c.args in
    let z = c.number_in.result in
    let s = get_or a.sorts.now c.first_mark.result 0 in
    let told : by_mark s (unless_one z) (unless_one z + 1) 2 3 ≡ role_listed a.sorts.now a.values.now =
    ap₂ (λ (k : ℕ) (y : ℤ). role_by (get_or a.sorts.now k 0) y) c.first_mark.ensures c.number_in.ensures in
    by-other s (unless_one z) (unless_one z + 1) 2 3 c.in_default.in_default-own.rest.0.0.1 c.in_default.in_default-own.rest.0.1 c.in_default.in_default-own.rest.1 ∙ told
