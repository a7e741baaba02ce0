-- Stage by stage: the first that finds a fault answers. Assumes nothing.
use mathlib.Core.Path.{◌≡◌, refl, sym, ◌∙◌}
use mathlib.Core.Option.{none, some}
use Prim.Native.Nat.{suc}
use Rattle.meaning.specs.Basics.{lowest}
use Rattle.meaning.specs.Rows.{row_count}
use Rattle.meaning.specs.TableBytes.{numbers_fault}
use Rattle.meaning.specs.Declarations.{declarations}
use Rattle.meaning.specs.Verdict.{form_fault_at, form_fault, targets_below, tree_fault_at, tree_fault, over_limit}
use Rattle.std.specs.Prelude.{Some}
use Rattle.base_rows.specs.Places.{place_of}
use Rattle.base_rows.proofs.Leading.{declarations-at-most}
use Rattle.base_rows.proofs.LowestFound.{place-some, place_none}
use Rattle.check_form.proofs.VerdictLaws.{place-below, too_many, not-four, numbers-right, form-found, tree-found, limit-found, first-of-four}
use native.Mathlib.Omega.{arith}
use Rattle.check_form.proofs.check_form.Goals as goal

pub returns-then-n-gt1024 : goal.returns-then-n-gt1024
returns-then-n-gt1024 c = first-of-four c.args.rows.now (some (3, 1024)) _ _ _ (too_many c.args.rows.now (omega (arith, c.if-n-gt1024.true, c.row_count-n.ensures))) refl refl refl

pub returns-then-rows-ne0 : goal.returns-then-rows-ne0
returns-then-rows-ne0 c =
    let rows = c.args.rows.now in
    rw c.row_count-n.ensures
    (first-of-four rows (some (3, row_count rows)) _ _ _ (not-four rows (omega (arith, c.if-n-gt1024.false, c.row_count-n.ensures)) c.if-rows-ne0.true) refl refl refl)

pub overflow_cast-result-in-Some : goal.overflow_cast-result-in-Some
overflow_cast-result-in-Some c =
    let form-place : let rows = c.args.rows.now in Some c.in-Some.r ≡ place_of (lowest (form_fault_at rows (declarations rows)) (row_count rows)) = sym c.in-Some.is ∙ c.form_fault.ensures in
    let rows = c.args.rows.now in
    let l = place-below (form_fault_at rows (declarations rows)) (row_count rows) c.in-Some.r (form-place) in
    omega (arith, c.row_count-n.ensures, c.if-n-gt1024.false)

pub overflow_cast-result-in-Some-tree_fault : goal.overflow_cast-result-in-Some-tree_fault
overflow_cast-result-in-Some-tree_fault c =
    let tree-place : let rows = c.args.rows.now in Some c.in-Some-tree_fault.r ≡ place_of (lowest (tree_fault_at rows (declarations rows) (targets_below rows (row_count rows))) (suc (row_count rows))) = sym c.in-Some-tree_fault.is ∙ c.tree_fault.ensures in
    let rows = c.args.rows.now in
    let l = place-below (tree_fault_at rows (declarations rows) (targets_below rows (row_count rows))) (suc (row_count rows)) c.in-Some-tree_fault.r (tree-place) in
    omega (arith, c.row_count-n.ensures, c.if-n-gt1024.false)

pub overflow_cast-result-in-Some-limit_fault : goal.overflow_cast-result-in-Some-limit_fault
overflow_cast-result-in-Some-limit_fault c =
    let limit-place : let rows = c.args.rows.now in Some c.in-Some-limit_fault.r ≡ place_of (lowest (over_limit rows) (declarations rows)) = sym c.in-Some-limit_fault.is ∙ c.limit_fault.ensures in
    let rows = c.args.rows.now in
    let l = place-below (over_limit rows) (declarations rows) c.in-Some-limit_fault.r (limit-place) in
    omega (arith, declarations-at-most rows, c.row_count-n.ensures, c.if-n-gt1024.false)

pub returns-in-Some : goal.returns-in-Some
returns-in-Some c =
    let form-place : let rows = c.args.rows.now in Some c.in-Some.r ≡ place_of (lowest (form_fault_at rows (declarations rows)) (row_count rows)) = sym c.in-Some.is ∙ c.form_fault.ensures in
    let numbers-fine : numbers_fault c.args.rows.now ≡ none = numbers-right c.args.rows.now (omega (arith, c.if-n-gt1024.false, c.row_count-n.ensures)) c.if-rows-ne0.false in
    let rows = c.args.rows.now in
    first-of-four rows none (some (4, c.in-Some.r)) _ _ (numbers-fine) (form-found rows (some c.in-Some.r) (place-some _ c.in-Some.r (form-place))) refl refl

pub returns-in-Some-tree_fault : goal.returns-in-Some-tree_fault
returns-in-Some-tree_fault c =
    let tree-place : let rows = c.args.rows.now in Some c.in-Some-tree_fault.r ≡ place_of (lowest (tree_fault_at rows (declarations rows) (targets_below rows (row_count rows))) (suc (row_count rows))) = sym c.in-Some-tree_fault.is ∙ c.tree_fault.ensures in
    let form-fine : form_fault c.args.rows.now ≡ none = form-found c.args.rows.now none (place_none _ (sym c.in_default.is ∙ c.form_fault.ensures)) in
    let numbers-fine : numbers_fault c.args.rows.now ≡ none = numbers-right c.args.rows.now (omega (arith, c.if-n-gt1024.false, c.row_count-n.ensures)) c.if-rows-ne0.false in
    let rows = c.args.rows.now in
    first-of-four rows none none (some (5, c.in-Some-tree_fault.r)) _ (numbers-fine) (form-fine) (tree-found rows (some c.in-Some-tree_fault.r) (place-some _ c.in-Some-tree_fault.r (tree-place))) refl

pub returns-in-Some-limit_fault : goal.returns-in-Some-limit_fault
returns-in-Some-limit_fault c =
    let limit-place : let rows = c.args.rows.now in Some c.in-Some-limit_fault.r ≡ place_of (lowest (over_limit rows) (declarations rows)) = sym c.in-Some-limit_fault.is ∙ c.limit_fault.ensures in
    let tree-fine : tree_fault c.args.rows.now ≡ none = tree-found c.args.rows.now none (place_none _ (sym c.in_default-tree_fault.is ∙ c.tree_fault.ensures)) in
    let form-fine : form_fault c.args.rows.now ≡ none = form-found c.args.rows.now none (place_none _ (sym c.in_default.is ∙ c.form_fault.ensures)) in
    let numbers-fine : numbers_fault c.args.rows.now ≡ none = numbers-right c.args.rows.now (omega (arith, c.if-n-gt1024.false, c.row_count-n.ensures)) c.if-rows-ne0.false in
    let rows = c.args.rows.now in
    first-of-four rows none none none (some (6, c.in-Some-limit_fault.r)) (numbers-fine) (form-fine) (tree-fine) (limit-found rows (some c.in-Some-limit_fault.r) (place-some _ c.in-Some-limit_fault.r (limit-place)))

pub returns : goal.returns
returns c =
    let tree-fine : tree_fault c.args.rows.now ≡ none = tree-found c.args.rows.now none (place_none _ (sym c.in_default-tree_fault.is ∙ c.tree_fault.ensures)) in
    let form-fine : form_fault c.args.rows.now ≡ none = form-found c.args.rows.now none (place_none _ (sym c.in_default.is ∙ c.form_fault.ensures)) in
    let numbers-fine : numbers_fault c.args.rows.now ≡ none = numbers-right c.args.rows.now (omega (arith, c.if-n-gt1024.false, c.row_count-n.ensures)) c.if-rows-ne0.false in
    let rows = c.args.rows.now in
    first-of-four rows none none none none (numbers-fine) (form-fine) (tree-fine) (limit-found rows none (place_none _ (sym c.in_default-limit_fault.is ∙ c.limit_fault.ensures)))
