-- The loop keeps that the tokens before a place are in order and resolved. Assumes nothing.
use mathlib.Core.Path.{◌≡◌, sym, ap, ◌∙◌}
use mathlib.Core.List.{List}
use Prim.Native.Nat.{ℕ}
use native.Mathlib.Omega.{arith}
use lib.IntN.{ℤ, pos}
use lib.ListN.{get_or, set}
use mir.Syntax.{w32}
use mir.Val.{SFits, to_z, of_z}
use mir.ValLaws.{to_z-of_z}
use Rattle.meaning.specs.Rows.{natural_of}
use Rattle.grammar.specs.TextRows.{name_row}
use Rattle.read_tokens.specs.Held.{letters_at}
use Rattle.read_names.specs.Listed.{names_at}
use Rattle.read_uses.proofs.LineSteps.{resolving-start, resolving-end, in-values, natural-value, resolving-other, resolving-fault, found-small, resolving-name, resolving-same}
use borrow.Author.Rules.{rules}
use Rattle.read_uses.proofs.resolve_line.Goals as goal
use Rattle.read_uses.proofs.resolve_line.Goals.{then-sorts-at-eq-NAME+else-is_misnamed, else-sorts-at-eq-NAME}

-- the row by the number itself
found-is : (text froms sizes : List ℕ) (found : ℕ) (v : ℤ) → SFits w32 v → found ≡ name_row (names_at text froms sizes) (letters_at text (natural_of (to_z w32 (of_z w32 v))))
    → found ≡ name_row (names_at text froms sizes) (letters_at text (natural_of v))
found-is text froms sizes found v f e = rw (to_z-of_z w32 v f) at e

pub loop-at-init : goal.loop-at-init
loop-at-init c =
    resolving-start c.args.text.now c.args.declares c.args.seen c.args.sorts.now c.args.values.now c.requires.0 c.mark_in-mark.result c.mark_in-mark.ensures

pub mark_past-past-requires : goal.mark_past-past-requires
mark_past-past-requires c = c.loop-at-test.true

pub bounds-sorts-at : goal.bounds-sorts-at
bounds-sorts-at c = c.loop-at-test.true

pub slice_copy_out-row_of : goal.slice_copy_out-row_of
slice_copy_out-row_of c =
    in-values c.args.text.now c.args.declares c.args.seen c.args.sorts.now c.args.values.now c.requires.0 c.loop-at.mark c.loop-at.at c.loop-at.values c.loop-at.invariant c.loop-at-test.true

pub row_of-found-requires : goal.row_of-found-requires
row_of-found-requires c =
    let (k, e) = natural-value c.args.text.now c.args.declares c.args.seen c.args.sorts.now c.args.values.now c.requires.0 c.loop-at.mark c.loop-at.at c.loop-at.values c.loop-at.invariant c.loop-at-test.true c.if-sorts-at-eq-NAME.true in
    let d = c.requires.1.0 in
    ((k, to_z-of_z w32 (get_or c.loop-at.values c.loop-at.at (pos 0)) (search rules) ∙ e), d.froms-counted ∙ sym d.sizes-counted, c.requires.1.1)

pub shape_of-values-then-is_misnamed : goal.shape_of-values-then-is_misnamed
shape_of-values-then-is_misnamed c = c.loop-at.invariant.same_length

pub returns-then-is_misnamed : goal.returns-then-is_misnamed
returns-then-is_misnamed c =
    let h = c.loop-at-test.true in
    let is = found-is c.args.text.now c.args.names.froms.now c.args.names.sizes.now c.row_of-found.result (get_or c.loop-at.values c.loop-at.at (pos 0)) (search rules) c.row_of-found.ensures in
    resolving-fault c.args.text.now c.args.declares c.args.seen c.args.sorts.now c.args.values.now c.requires.0 c.loop-at.mark c.loop-at.at c.loop-at.values c.loop-at.invariant h c.if-sorts-at-eq-NAME.true c.args.names.froms.now c.args.names.sizes.now c.args.names.roles.now c.args.names.heads.now c.args.names.nexts.now c.requires.1
    c.row_of-found.result is c.is_bare.result c.is_bare.ensures c.is_misnamed.result c.is_misnamed.ensures c.if-is_misnamed.true

pub overflow_cast-values : goal.overflow_cast-values
overflow_cast-values c =
    let h = c.loop-at-test.true in
    let is = found-is c.args.text.now c.args.names.froms.now c.args.names.sizes.now c.row_of-found.result (get_or c.loop-at.values c.loop-at.at (pos 0)) (search rules) c.row_of-found.ensures in
    let s = found-small c.args.text.now c.args.declares c.args.seen c.args.sorts.now c.args.values.now c.requires.0 c.loop-at.mark c.loop-at.at c.loop-at.values c.loop-at.invariant h c.if-sorts-at-eq-NAME.true c.args.names.froms.now c.args.names.sizes.now c.args.names.roles.now c.args.names.heads.now c.args.names.nexts.now c.requires.1
    c.row_of-found.result is c.is_bare.result c.is_bare.ensures c.is_misnamed.result c.is_misnamed.ensures c.if-is_misnamed.false in
    record { sfits = omega (arith, s) }

pub bounds-values-at : goal.bounds-values-at
bounds-values-at c =
    in-values c.args.text.now c.args.declares c.args.seen c.args.sorts.now c.args.values.now c.requires.0 c.loop-at.mark c.loop-at.at c.loop-at.values c.loop-at.invariant c.loop-at-test.true

pub loop-at-preserved : goal.loop-at-preserved
loop-at-preserved c =
    let a = c.args in
    let h = c.loop-at-test.true in
    elim c.if-sorts-at-eq-NAME.branch [
      | then-sorts-at-eq-NAME+else-is_misnamed w ↦
          let is = found-is a.text.now a.names.froms.now a.names.sizes.now w.row_of-found.result (get_or c.loop-at.values c.loop-at.at (pos 0)) (search rules) w.row_of-found.ensures in
          let s = found-small a.text.now a.declares a.seen a.sorts.now a.values.now c.requires.0 c.loop-at.mark c.loop-at.at c.loop-at.values c.loop-at.invariant h w.if-sorts-at-eq-NAME.true a.names.froms.now a.names.sizes.now a.names.roles.now a.names.heads.now a.names.nexts.now c.requires.1
          w.row_of-found.result is w.is_bare.result w.is_bare.ensures w.is_misnamed.result w.is_misnamed.ensures w.if-is_misnamed.false in
          let f : SFits w32 (pos w.row_of-found.result) = record { sfits = omega (arith, s) } in
          resolving-same (w.values-is ∙ ap (set c.loop-at.values c.loop-at.at) (to_z-of_z w32 (pos w.row_of-found.result) f))
          (resolving-name a.text.now a.declares a.seen a.sorts.now a.values.now c.requires.0 c.loop-at.mark c.loop-at.at c.loop-at.values c.loop-at.invariant h w.if-sorts-at-eq-NAME.true a.names.froms.now a.names.sizes.now a.names.roles.now a.names.heads.now a.names.nexts.now c.requires.1
          w.row_of-found.result is w.is_bare.result w.is_bare.ensures w.is_misnamed.result w.is_misnamed.ensures w.if-is_misnamed.false
          c.mark_past-past.result c.mark_past-past.ensures)
      | else-sorts-at-eq-NAME w ↦
          resolving-same w.values-is
          (resolving-other a.text.now a.declares a.seen a.sorts.now a.values.now c.requires.0 c.loop-at.mark c.loop-at.at c.loop-at.values c.loop-at.invariant h w.if-sorts-at-eq-NAME.false c.mark_past-past.result c.mark_past-past.ensures)
    ]

pub shape_of-values : goal.shape_of-values
shape_of-values c = c.loop-at.invariant.same_length

pub returns : goal.returns
returns c =
    resolving-end c.args.text.now c.args.declares c.args.seen c.args.sorts.now c.args.values.now c.requires.0 c.loop-at.mark c.loop-at.at c.loop-at.values c.loop-at.invariant c.loop-at-test.false
