-- Field by field: each row that the row refers to gets its number. Assumes nothing.
use mathlib.Core.Path.{◌≡◌, sym, ap, ◌∙◌, subst}
use Prim.Native.Nat.{◌+◌, ◌≤◌}
use native.Mathlib.Omega.{arith}
use lib.IntN.{ℤ}
use lib.ListN.{get_or}
use mir.Syntax.{w32}
use mir.ValLaws.{to_z-of_z}
use Rattle.meaning.specs.References.{of-a, of-b}
use Rattle.base_kinds.specs.Table.{field_meant}
use Rattle.base_top_down.specs.Forms.{is_reference, form_size}
use Rattle.base_top_down.specs.New.{item_of_row, Numbered}
use Rattle.base_numbering.specs.Fields.{held_in, placed_in}
use Rattle.base_numbering.proofs.RowLaws.{held-size, numbered, number-room, numbered-row}
use Rattle.base_numbering.proofs.number_row.Goals as goal

pub overflow_add-at_a : goal.overflow_add-at_a
overflow_add-at_a c =
    let room : get_or c.args.numbers.now c.args.r 0 + 1 + form_size (item_of_row c.args.rows.now c.args.r of-a) + form_size (item_of_row c.args.rows.now c.args.r of-b) ≤ 1024 = let p = c.requires.1 in
    number-room c.args.rows.now p.0 c.args.r p.1.1.0.0 p.1.1.0.1 c.kind.result c.kind.ensures c.shape_of-s.result c.shape_of-s.ensures.meaning c.args.numbers.now p.1.1.1.1 in
    omega (arith, room)

pub overflow_add-at_b : goal.overflow_add-at_b
overflow_add-at_b c =
    let room : get_or c.args.numbers.now c.args.r 0 + 1 + form_size (item_of_row c.args.rows.now c.args.r of-a) + form_size (item_of_row c.args.rows.now c.args.r of-b) ≤ 1024 = let p = c.requires.1 in
    number-room c.args.rows.now p.0 c.args.r p.1.1.0.0 p.1.1.0.1 c.kind.result c.kind.ensures c.shape_of-s.result c.shape_of-s.ensures.meaning c.args.numbers.now p.1.1.1.1 in
    let sized_a : c.held.result ≡ form_size (item_of_row c.args.rows.now c.args.r of-a) = let p = c.requires.1 in
    let z = to_z-of_z w32 c.field-a.result (record { sfits = c.field-a.type_inv }) ∙ c.field-a.ensures in
    c.held.ensures
    ∙ ap (λ (y : ℤ). held_in c.args.sizes.now (is_reference (field_meant c.shape_of-s.result.a)) y) z
    ∙ held-size c.args.rows.now p.0 c.args.r p.1.1.0.0 p.1.1.0.1 c.kind.result c.kind.ensures c.shape_of-s.result c.shape_of-s.ensures.meaning c.args.sizes.now p.1.0 of-a in
    omega (arith, room, sized_a)

pub overflow_add-at_c : goal.overflow_add-at_c
overflow_add-at_c c =
    let room : get_or c.args.numbers.now c.args.r 0 + 1 + form_size (item_of_row c.args.rows.now c.args.r of-a) + form_size (item_of_row c.args.rows.now c.args.r of-b) ≤ 1024 = let p = c.requires.1 in
    number-room c.args.rows.now p.0 c.args.r p.1.1.0.0 p.1.1.0.1 c.kind.result c.kind.ensures c.shape_of-s.result c.shape_of-s.ensures.meaning c.args.numbers.now p.1.1.1.1 in
    let sized_b : c.held-2.result ≡ form_size (item_of_row c.args.rows.now c.args.r of-b) = let p = c.requires.1 in
    let z = to_z-of_z w32 c.field-b.result (record { sfits = c.field-b.type_inv }) ∙ c.field-b.ensures in
    c.held-2.ensures
    ∙ ap (λ (y : ℤ). held_in c.args.sizes.now (is_reference (field_meant c.shape_of-s.result.b)) y) z
    ∙ held-size c.args.rows.now p.0 c.args.r p.1.1.0.0 p.1.1.0.1 c.kind.result c.kind.ensures c.shape_of-s.result c.shape_of-s.ensures.meaning c.args.sizes.now p.1.0 of-b in
    let sized_a : c.held.result ≡ form_size (item_of_row c.args.rows.now c.args.r of-a) = let p = c.requires.1 in
    let z = to_z-of_z w32 c.field-a.result (record { sfits = c.field-a.type_inv }) ∙ c.field-a.ensures in
    c.held.ensures
    ∙ ap (λ (y : ℤ). held_in c.args.sizes.now (is_reference (field_meant c.shape_of-s.result.a)) y) z
    ∙ held-size c.args.rows.now p.0 c.args.r p.1.1.0.0 p.1.1.0.1 c.kind.result c.kind.ensures c.shape_of-s.result c.shape_of-s.ensures.meaning c.args.sizes.now p.1.0 of-a in
    omega (arith, room, sized_a, sized_b)

pub returns : goal.returns
returns c =
    let sized_b : c.held-2.result ≡ form_size (item_of_row c.args.rows.now c.args.r of-b) = let p = c.requires.1 in
    let z = to_z-of_z w32 c.field-b.result (record { sfits = c.field-b.type_inv }) ∙ c.field-b.ensures in
    c.held-2.ensures
    ∙ ap (λ (y : ℤ). held_in c.args.sizes.now (is_reference (field_meant c.shape_of-s.result.b)) y) z
    ∙ held-size c.args.rows.now p.0 c.args.r p.1.1.0.0 p.1.1.0.1 c.kind.result c.kind.ensures c.shape_of-s.result c.shape_of-s.ensures.meaning c.args.sizes.now p.1.0 of-b in
    let sized_a : c.held.result ≡ form_size (item_of_row c.args.rows.now c.args.r of-a) = let p = c.requires.1 in
    let z = to_z-of_z w32 c.field-a.result (record { sfits = c.field-a.type_inv }) ∙ c.field-a.ensures in
    c.held.ensures
    ∙ ap (λ (y : ℤ). held_in c.args.sizes.now (is_reference (field_meant c.shape_of-s.result.a)) y) z
    ∙ held-size c.args.rows.now p.0 c.args.r p.1.1.0.0 p.1.1.0.1 c.kind.result c.kind.ensures c.shape_of-s.result c.shape_of-s.ensures.meaning c.args.sizes.now p.1.0 of-a in
    let p = c.requires.1 in
    let u = c.shape_of-s.result in
    let numbers = c.args.numbers.now in
    let va = get_or numbers c.args.r 0 + 1 in
    let vb = va + c.held.result in
    let vc = vb + c.held-2.result in
    let za = to_z-of_z w32 c.field-a.result (record { sfits = c.field-a.type_inv }) ∙ c.field-a.ensures in
    let zb = to_z-of_z w32 c.field-b.result (record { sfits = c.field-b.type_inv }) ∙ c.field-b.ensures in
    let zc = to_z-of_z w32 c.field-c.result (record { sfits = c.field-c.type_inv }) ∙ c.field-c.ensures in
    let ea = c.place.ensures ∙ ap (λ (z : ℤ). placed_in numbers (is_reference (field_meant u.a)) z va) za in
    let eb = c.place-2.ensures ∙ (λ i. placed_in (ea i) (is_reference (field_meant u.b)) (zb i) vb) in
    let ec = c.place-3.ensures ∙ (λ i. placed_in (eb i) (is_reference (field_meant u.c)) (zc i) vc) in
    let law = numbered c.args.rows.now p.0 c.args.r p.1.1.0.0 p.1.1.0.1 c.kind.result c.kind.ensures u c.shape_of-s.ensures.meaning numbers va vb vc in record {
      numbers = ec ∙ numbered-row c.args.rows.now p.0 c.args.r p.1.1.0.0 p.1.1.0.1 c.kind.result c.kind.ensures u c.shape_of-s.ensures.meaning numbers va vb vc (omega arith) (omega (arith, sized_a)) (omega (arith, sized_b));
      meaning = subst (Numbered c.args.rows.now c.args.r numbers) (sym ec)
          (law p.1.1.1.0.0 p.1.1.1.0.1 p.1.1.1.1 (omega arith) (omega (arith, sized_a)) (omega (arith, sized_b)));
    }
