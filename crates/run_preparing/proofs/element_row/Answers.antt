-- `element_row` meets its contract: the variable that it names stands in the list.
use mathlib.Core.Path.{◌≡◌, ap, ap₂, ◌∙◌}
use mathlib.Core.List.{List}
use Prim.Native.Nat.{ℕ, ◌<◌, ◌≤◌}
use native.Mathlib.Omega.{arith}
use lib.IntN.{ℤ}
use lib.ListN.{get_or}
use mir.Syntax.{w32}
use mir.ValLaws.{to_z-of_z}
use mathlib.Core.Option.{none}
use Rattle.meaning.specs.Answers.{check}
use Rattle.meaning.specs.Rows.{natural_at, row_count, kind_at}
use Rattle.meaning.specs.Declarations.{variable_at, declarations}
use Rattle.run_preparing.specs.Notes.{Filled}
use Rattle.agreement.proofs.TableFit.{rows-limit}
use Rattle.run_code.specs.declared.Row.{Row}
use Rattle.run_code.specs.Prepared.{variable_row, subscripted_row, numbers_of, place_at}
use Rattle.run_code.proofs.Names.{variable-row}
use Rattle.run_code.proofs.Inside.{variable-within}
use Rattle.run_preparing.proofs.Filling.{filled_at}
use Rattle.run_preparing.proofs.RowLaws.{fixed-element, other-element}
use Rattle.run_preparing.proofs.element_row.Goals as goal

-- the variable that it names
module _ (rows : List ℤ) (code : List ℕ) (r : ℕ) (ok : check rows ≡ none) (filled : (declarations rows ≤ r) × (r < row_count rows) × Filled rows r code) (named : (natural_at rows r 1 < declarations rows) × (kind_at rows (natural_at rows r 1) ≡ 1)) {n : ℕ} (e : n ≡ natural_at rows r 1) where
  inside : n ≤ 1024
  inside = let l = rows-limit rows ok in omega (arith, named.0, filled.0, filled.1)

  there : (j : ℕ) → j < 6 → place_at code n j ≡ get_or (numbers_of (variable_row (variable_at rows (natural_at rows r 1)))) j 0
  there j k =
      ap (λ (i : ℕ). place_at code i j) e
      ∙ filled_at rows code r (natural_at rows r 1) j filled.2 (omega (arith, named.0, filled.0)) k
      ∙ ap (λ (w : Row). get_or (numbers_of w) j 0) (variable-row rows (natural_at rows r 1) named)

pub referred-b-requires : goal.referred-b-requires
referred-b-requires c =
    record { few = rows-limit c.args.rows.now c.requires.accepted; inside = (c.requires.filled.1, omega arith) }

pub place-requires : goal.place-requires
place-requires c = record { inside = (inside c.args.rows.now c.args.code.now c.args.r c.requires.accepted c.requires.filled c.requires.named c.natural-a.ensures, omega arith) }

pub place-requires-then-kind_in-eq10 : goal.place-requires-then-kind_in-eq10
place-requires-then-kind_in-eq10 c = record { inside = (inside c.args.rows.now c.args.code.now c.args.r c.requires.accepted c.requires.filled c.requires.named c.natural-a.ensures, omega arith) }

pub fixed-requires : goal.fixed-requires
fixed-requires c =
    omega (arith, c.place.ensures ∙ there c.args.rows.now c.args.code.now c.args.r c.requires.accepted c.requires.filled c.requires.named c.natural-a.ensures 1 (omega arith), c.place-then-kind_in-eq10.ensures ∙ there c.args.rows.now c.args.code.now c.args.r c.requires.accepted c.requires.filled c.requires.named c.natural-a.ensures 2 (omega arith), variable-within c.args.rows.now c.requires.accepted (natural_at c.args.rows.now c.args.r 1) c.requires.named.0)

pub returns-then-kind_in-eq10 : goal.returns-then-kind_in-eq10
returns-then-kind_in-eq10 c =
    let f = c.field in
    let b = c.referred-b in
    (rw (to_z-of_z w32 f.result (record { sfits = f.type_inv }), c.place.ensures ∙ there c.args.rows.now c.args.code.now c.args.r c.requires.accepted c.requires.filled c.requires.named c.natural-a.ensures 1 (omega arith), c.place-then-kind_in-eq10.ensures ∙ there c.args.rows.now c.args.code.now c.args.r c.requires.accepted c.requires.filled c.requires.named c.natural-a.ensures 2 (omega arith), f.ensures) at c.fixed.ensures)
    ∙ fixed-element c.args.rows.now (natural_at c.args.rows.now c.args.r 1) b.result c.kind_in.ensures c.if-kind_in-eq10.true
    ∙ ap (subscripted_row c.args.rows.now (natural_at c.args.rows.now c.args.r 1)) b.ensures

pub overflow_cast-a-2 : goal.overflow_cast-a-2
overflow_cast-a-2 c = record { fits = omega (arith, inside c.args.rows.now c.args.code.now c.args.r c.requires.accepted c.requires.filled c.requires.named c.natural-a.ensures) }

pub returns : goal.returns
returns c =
    c.plain.ensures
    ∙ other-element c.args.rows.now c.natural-a.result c.referred-b.result c.kind_in.ensures c.if-kind_in-eq10.false
    ∙ ap₂ (subscripted_row c.args.rows.now) c.natural-a.ensures c.referred-b.ensures
