-- The line of the kind, or none past the table's end. Assumes nothing.
use Rattle.std.proofs.Common.{rules, ◌≡◌, ℕ, List, [], get_or, sym, ap, ◌∙◌}
use Rattle.base_kinds.specs.declared.Shape.{Shape}
use Rattle.base_kinds.specs.Table.{meant_shape, entries_of, no_entries, table_shape, KindTable}
use Rattle.base_kinds.proofs.shape_of.Goals as goal

abbrev shape_in_line : List ℕ → Shape
shape_in_line l = record { a = get_or l 0 0; b = get_or l 1 0; c = get_or l 2 0 }

pub returns-in-Some : goal.returns-in-Some
unfolding KindTable table_shape
returns-in-Some c =
    let k = c.args.k in
    let table = c.args.table.now in
    let line : c.in-Some.line.now ≡ get_or table k [] = search rules in
    let there : table_shape table k ≡ entries_of table k = simp (sym c.in-Some.ensures.lookup.0) in
    let e : shape_in_line c.in-Some.line.now ≡ table_shape table k = ap shape_in_line line ∙ sym there in
    record { numbers = e; meaning = ap (meant_shape k) e ∙ c.requires k }

pub returns-in-None : goal.returns-in-None
unfolding KindTable table_shape
returns-in-None c =
    let k = c.args.k in
    let e : table_shape c.args.table.now k ≡ no_entries = simp (sym c.in-None.ensures.lookup.0) in
    record { numbers = sym e; meaning = ap (meant_shape k) (sym e) ∙ c.requires k }
