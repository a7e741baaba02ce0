-- Field by field. Assumes nothing.
use mathlib.Core.Path.{◌≡◌, ap, ◌∙◌}
use Prim.Native.Nat.{◌+◌, ◌≤◌}
use lib.IntN.{ℤ}
use mir.Syntax.{w32}
use mir.ValLaws.{to_z-of_z}
use Rattle.meaning.specs.References.{of-a, of-b, of_c}
use Rattle.base_kinds.specs.Table.{field_meant}
use Rattle.base_top_down.specs.Forms.{is_reference, form_at, form_size}
use Rattle.base_top_down.proofs.New.{fields-sum, size-within}
use Rattle.base_numbering.specs.Fields.{held_in}
use Rattle.base_numbering.proofs.RowLaws.{held-size}
use native.Mathlib.Omega.{arith}
use Rattle.base_numbering.proofs.row_size.Goals as goal

pub overflow_add-result : goal.overflow_add-result
overflow_add-result c =
    let whole : (1 + c.held-a.result + c.held-b.result + c.held-c.result ≡ form_size (form_at c.args.rows.now c.args.r)) × (form_size (form_at c.args.rows.now c.args.r) ≤ 1024) = let rows = c.args.rows.now in
    let r = c.args.r in
    let sizes = c.args.sizes.now in
    let sound = c.requires.1.0 in
    let d = c.requires.1.1.1.0 in
    let l = c.requires.1.1.1.1 in
    let law = held-size rows sound r d l c.kind.result c.kind.ensures c.shape_of-s.result c.shape_of-s.ensures.meaning sizes c.requires.1.1.0 in
    let za = to_z-of_z w32 c.field.result (record { sfits = c.field.type_inv }) ∙ c.field.ensures in
    let zb = to_z-of_z w32 c.field-2.result (record { sfits = c.field-2.type_inv }) ∙ c.field-2.ensures in
    let zc = to_z-of_z w32 c.field-3.result (record { sfits = c.field-3.type_inv }) ∙ c.field-3.ensures in
    let ea = c.held-a.ensures ∙ ap (λ (z : ℤ). held_in sizes (is_reference (field_meant c.shape_of-s.result.a)) z) za ∙ law of-a in
    let eb = c.held-b.ensures ∙ ap (λ (z : ℤ). held_in sizes (is_reference (field_meant c.shape_of-s.result.b)) z) zb ∙ law of-b in
    let ec = c.held-c.ensures ∙ ap (λ (z : ℤ). held_in sizes (is_reference (field_meant c.shape_of-s.result.c)) z) zc ∙ law of_c in
    let f = fields-sum rows r l in
    let w = size-within rows sound.tree r d l in
    let n = sound.few in
    (omega arith, omega arith) in
    omega (arith, whole)

pub overflow_add-result-2 : goal.overflow_add-result-2
overflow_add-result-2 c =
    let whole : (1 + c.held-a.result + c.held-b.result + c.held-c.result ≡ form_size (form_at c.args.rows.now c.args.r)) × (form_size (form_at c.args.rows.now c.args.r) ≤ 1024) = let rows = c.args.rows.now in
    let r = c.args.r in
    let sizes = c.args.sizes.now in
    let sound = c.requires.1.0 in
    let d = c.requires.1.1.1.0 in
    let l = c.requires.1.1.1.1 in
    let law = held-size rows sound r d l c.kind.result c.kind.ensures c.shape_of-s.result c.shape_of-s.ensures.meaning sizes c.requires.1.1.0 in
    let za = to_z-of_z w32 c.field.result (record { sfits = c.field.type_inv }) ∙ c.field.ensures in
    let zb = to_z-of_z w32 c.field-2.result (record { sfits = c.field-2.type_inv }) ∙ c.field-2.ensures in
    let zc = to_z-of_z w32 c.field-3.result (record { sfits = c.field-3.type_inv }) ∙ c.field-3.ensures in
    let ea = c.held-a.ensures ∙ ap (λ (z : ℤ). held_in sizes (is_reference (field_meant c.shape_of-s.result.a)) z) za ∙ law of-a in
    let eb = c.held-b.ensures ∙ ap (λ (z : ℤ). held_in sizes (is_reference (field_meant c.shape_of-s.result.b)) z) zb ∙ law of-b in
    let ec = c.held-c.ensures ∙ ap (λ (z : ℤ). held_in sizes (is_reference (field_meant c.shape_of-s.result.c)) z) zc ∙ law of_c in
    let f = fields-sum rows r l in
    let w = size-within rows sound.tree r d l in
    let n = sound.few in
    (omega arith, omega arith) in
    omega (arith, whole)

pub overflow_add-result-3 : goal.overflow_add-result-3
overflow_add-result-3 c =
    let whole : (1 + c.held-a.result + c.held-b.result + c.held-c.result ≡ form_size (form_at c.args.rows.now c.args.r)) × (form_size (form_at c.args.rows.now c.args.r) ≤ 1024) = let rows = c.args.rows.now in
    let r = c.args.r in
    let sizes = c.args.sizes.now in
    let sound = c.requires.1.0 in
    let d = c.requires.1.1.1.0 in
    let l = c.requires.1.1.1.1 in
    let law = held-size rows sound r d l c.kind.result c.kind.ensures c.shape_of-s.result c.shape_of-s.ensures.meaning sizes c.requires.1.1.0 in
    let za = to_z-of_z w32 c.field.result (record { sfits = c.field.type_inv }) ∙ c.field.ensures in
    let zb = to_z-of_z w32 c.field-2.result (record { sfits = c.field-2.type_inv }) ∙ c.field-2.ensures in
    let zc = to_z-of_z w32 c.field-3.result (record { sfits = c.field-3.type_inv }) ∙ c.field-3.ensures in
    let ea = c.held-a.ensures ∙ ap (λ (z : ℤ). held_in sizes (is_reference (field_meant c.shape_of-s.result.a)) z) za ∙ law of-a in
    let eb = c.held-b.ensures ∙ ap (λ (z : ℤ). held_in sizes (is_reference (field_meant c.shape_of-s.result.b)) z) zb ∙ law of-b in
    let ec = c.held-c.ensures ∙ ap (λ (z : ℤ). held_in sizes (is_reference (field_meant c.shape_of-s.result.c)) z) zc ∙ law of_c in
    let f = fields-sum rows r l in
    let w = size-within rows sound.tree r d l in
    let n = sound.few in
    (omega arith, omega arith) in
    omega (arith, whole)

pub returns : goal.returns
returns c =
    let whole : (1 + c.held-a.result + c.held-b.result + c.held-c.result ≡ form_size (form_at c.args.rows.now c.args.r)) × (form_size (form_at c.args.rows.now c.args.r) ≤ 1024) = let rows = c.args.rows.now in
    let r = c.args.r in
    let sizes = c.args.sizes.now in
    let sound = c.requires.1.0 in
    let d = c.requires.1.1.1.0 in
    let l = c.requires.1.1.1.1 in
    let law = held-size rows sound r d l c.kind.result c.kind.ensures c.shape_of-s.result c.shape_of-s.ensures.meaning sizes c.requires.1.1.0 in
    let za = to_z-of_z w32 c.field.result (record { sfits = c.field.type_inv }) ∙ c.field.ensures in
    let zb = to_z-of_z w32 c.field-2.result (record { sfits = c.field-2.type_inv }) ∙ c.field-2.ensures in
    let zc = to_z-of_z w32 c.field-3.result (record { sfits = c.field-3.type_inv }) ∙ c.field-3.ensures in
    let ea = c.held-a.ensures ∙ ap (λ (z : ℤ). held_in sizes (is_reference (field_meant c.shape_of-s.result.a)) z) za ∙ law of-a in
    let eb = c.held-b.ensures ∙ ap (λ (z : ℤ). held_in sizes (is_reference (field_meant c.shape_of-s.result.b)) z) zb ∙ law of-b in
    let ec = c.held-c.ensures ∙ ap (λ (z : ℤ). held_in sizes (is_reference (field_meant c.shape_of-s.result.c)) z) zc ∙ law of_c in
    let f = fields-sum rows r l in
    let w = size-within rows sound.tree r d l in
    let n = sound.few in
    (omega arith, omega arith) in
    (whole).0
