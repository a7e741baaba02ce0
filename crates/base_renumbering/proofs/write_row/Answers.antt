-- Field by field: what is written is what stands there in the new table. Assumes nothing.
use mathlib.Core.Path.{◌≡◌, sym, ap, ◌∙◌, subst}
use mathlib.Core.Bool.{true}
use Prim.Native.Nat.{◌<◌}
use native.Mathlib.Omega.{arith}
use lib.IntN.{ℤ}
use lib.ListN.{get_or}
use mir.Syntax.{w32}
use mir.ValLaws.{to_z-of_z}
use Rattle.meaning.specs.Rows.{natural_of, row_count}
use Rattle.meaning.specs.References.{Column, of-a, of-b, of_c, number_of}
use Rattle.base_kinds.specs.Table.{field_meant}
use Rattle.base_top_down.specs.Forms.{is_reference}
use Rattle.base_top_down.specs.New.{Wrote}
use Rattle.base_renumbering.specs.Written.{renumbered_in}
use Rattle.base_numbering.proofs.RowLaws.{entry_of}
use Rattle.base_renumbering.proofs.WriteLaws.{number_small, row_small, wrote}
use Rattle.base_renumbering.proofs.write_row.Goals as goal

pub renumbered-a-requires : goal.renumbered-a-requires
renumbered-a-requires c =
    let small : (p : Column) → is_reference (field_meant (entry_of c.shape_of-s.result p)) ≡ true → get_or c.args.numbers.now (natural_of (number_of c.args.rows.now c.args.r p)) 0 < 2147483648 = λ p. let h = c.requires.1 in
    number_small c.args.rows.now h.0 c.args.r h.1.1.0.0 h.1.1.0.1 c.kind.result c.kind.ensures c.shape_of-s.result c.shape_of-s.ensures.meaning c.args.numbers.now h.1.0 p in
    λ x.
    let z = to_z-of_z w32 c.field.result (record { sfits = c.field.type_inv }) ∙ c.field.ensures in
    subst (λ (y : ℤ). get_or c.args.numbers.now (natural_of y) 0 < 2147483648) (sym z) (small of-a x)

pub renumbered-b-requires : goal.renumbered-b-requires
renumbered-b-requires c =
    let small : (p : Column) → is_reference (field_meant (entry_of c.shape_of-s.result p)) ≡ true → get_or c.args.numbers.now (natural_of (number_of c.args.rows.now c.args.r p)) 0 < 2147483648 = λ p. let h = c.requires.1 in
    number_small c.args.rows.now h.0 c.args.r h.1.1.0.0 h.1.1.0.1 c.kind.result c.kind.ensures c.shape_of-s.result c.shape_of-s.ensures.meaning c.args.numbers.now h.1.0 p in
    λ x.
    let z = to_z-of_z w32 c.field-2.result (record { sfits = c.field-2.type_inv }) ∙ c.field-2.ensures in
    subst (λ (y : ℤ). get_or c.args.numbers.now (natural_of y) 0 < 2147483648) (sym z) (small of-b x)

pub renumbered-c-requires : goal.renumbered-c-requires
renumbered-c-requires c =
    let small : (p : Column) → is_reference (field_meant (entry_of c.shape_of-s.result p)) ≡ true → get_or c.args.numbers.now (natural_of (number_of c.args.rows.now c.args.r p)) 0 < 2147483648 = λ p. let h = c.requires.1 in
    number_small c.args.rows.now h.0 c.args.r h.1.1.0.0 h.1.1.0.1 c.kind.result c.kind.ensures c.shape_of-s.result c.shape_of-s.ensures.meaning c.args.numbers.now h.1.0 p in
    λ x.
    let z = to_z-of_z w32 c.field-3.result (record { sfits = c.field-3.type_inv }) ∙ c.field-3.ensures in
    subst (λ (y : ℤ). get_or c.args.numbers.now (natural_of y) 0 < 2147483648) (sym z) (small of_c x)

pub overflow_cast-numbers : goal.overflow_cast-numbers
overflow_cast-numbers c =
    let own : get_or c.args.numbers.now c.args.r 0 < row_count c.args.rows.now = let h = c.requires.1 in
    row_small c.args.rows.now h.0 c.args.r h.1.1.0.0 h.1.1.0.1 c.kind.result c.kind.ensures c.shape_of-s.result c.shape_of-s.ensures.meaning c.args.numbers.now h.1.0 in
    let n = c.requires.1.0.few in
    let o = own in
    let l = c.requires.1.1.1.1 in
    omega arith

pub overflow_mul-numbers : goal.overflow_mul-numbers
overflow_mul-numbers c =
    let own : get_or c.args.numbers.now c.args.r 0 < row_count c.args.rows.now = let h = c.requires.1 in
    row_small c.args.rows.now h.0 c.args.r h.1.1.0.0 h.1.1.0.1 c.kind.result c.kind.ensures c.shape_of-s.result c.shape_of-s.ensures.meaning c.args.numbers.now h.1.0 in
    let n = c.requires.1.0.few in
    let o = own in
    let l = c.requires.1.1.1.1 in
    omega arith

pub write_four-requires : goal.write_four-requires
write_four-requires c =
    let own : get_or c.args.numbers.now c.args.r 0 < row_count c.args.rows.now = let h = c.requires.1 in
    row_small c.args.rows.now h.0 c.args.r h.1.1.0.0 h.1.1.0.1 c.kind.result c.kind.ensures c.shape_of-s.result c.shape_of-s.ensures.meaning c.args.numbers.now h.1.0 in
    let n = c.requires.1.0.few in
    let o = own in
    let l = c.requires.1.1.1.1 in
    omega arith

pub returns : goal.returns
returns c =
    let h = c.requires.1 in
    let u = c.shape_of-s.result in
    let numbers = c.args.numbers.now in
    let zk = to_z-of_z w32 c.field-k.result (record { sfits = c.field-k.type_inv }) ∙ c.field-k.ensures in
    let za = to_z-of_z w32 c.field.result (record { sfits = c.field.type_inv }) ∙ c.field.ensures in
    let zb = to_z-of_z w32 c.field-2.result (record { sfits = c.field-2.type_inv }) ∙ c.field-2.ensures in
    let zc = to_z-of_z w32 c.field-3.result (record { sfits = c.field-3.type_inv }) ∙ c.field-3.ensures in
    let ea = to_z-of_z w32 c.renumbered-a.result (record { sfits = c.renumbered-a.type_inv }) ∙ c.renumbered-a.ensures ∙ ap (renumbered_in numbers (is_reference (field_meant u.a))) za in
    let eb = to_z-of_z w32 c.renumbered-b.result (record { sfits = c.renumbered-b.type_inv }) ∙ c.renumbered-b.ensures ∙ ap (renumbered_in numbers (is_reference (field_meant u.b))) zb in
    let ec = to_z-of_z w32 c.renumbered-c.result (record { sfits = c.renumbered-c.type_inv }) ∙ c.renumbered-c.ensures ∙ ap (renumbered_in numbers (is_reference (field_meant u.c))) zc in
    subst (Wrote c.args.rows.now (get_or numbers c.args.r 0) c.args.out.now) (sym c.write_four.ensures)
    (wrote c.args.rows.now h.0 c.args.r h.1.1.0.0 h.1.1.0.1 c.kind.result c.kind.ensures u c.shape_of-s.ensures.meaning numbers h.1.0 c.args.out.now _ _ _ _ h.1.1.1 zk ea eb ec)
