-- A member, a choice and an option: what their functions need, and that their rows are those of the definitions.
use mathlib.Core.Path.{◌≡◌, sym, ap, ap₂, subst, ◌∙◌}
use mathlib.Core.Bool.{Bool, true}
use mathlib.Core.List.{List, [], ◌∷◌}
use mathlib.Core.Option.{Option, some}
use Prim.Native.Nat.{ℕ, suc, ◌+◌, ◌-◌, ◌*◌, ◌%◌, ◌≤◌, ◌<◌}
use native.Mathlib.Omega.{arith}
use lib.IntN.{ℤ, pos}
use lib.ListN.{length}
use lib.Seq.{sets, length-sets}
use Rattle.meaning.specs.Basics.{if_else, is_some}
use Rattle.base_top_down.specs.Forms.{Form, number, form_size, rows_from}
use Rattle.base_top_down.proofs.Flat.{flat-length}
use Rattle.grammar.specs.Grammar.{Token}
use Rattle.grammar.specs.Outline.{Declaration, members, choices, options, nothing, one-member, process_beneath, expected_beneath, expected_after}
use Rattle.grammar.specs.TextRows.{block_form, test_form, guard_form}
use Rattle.read_resolved.specs.Resolved.{row_names}
use Rattle.read_classes.specs.Parts.{part_at_mark}
use Rattle.read_layout.specs.Layout.{link_to, listed_row, process_size, process_rows, block_row, member_rows, member_block}
use Rattle.read_expressions.specs.Overlay.{overlay}
use Rattle.read_expressions.specs.Expressions.{form_in, with_rows, Writable}
use Rattle.read_expressions.proofs.OverlayLaws.{overlay-length}
use Rattle.read_rows.specs.declared.Spot.{Spot}
use Rattle.read_parts.specs.PartForms.{with_form, FormFits, declaration_listed, part_laid, size_by, guard_by, ProcessWritable, GuardWritable}
use Rattle.read_rows.specs.LinesLaid.{laid_by}
use Rattle.read_parts.proofs.OverlaySteps.{sets-laid}
use Rattle.read_parts.proofs.FormSteps.{row_before}
use Rattle.read_rows.proofs.LineTold.{ProcessTold, line-process, line-guard, line-test}
use Rattle.read_rows.proofs.StandSteps.{At, rows-length, process-writable, process-rows, process-end}
use Rattle.read_rows.proofs.LineCases.{block-length, declares-some, starts, starts-not, on-os}

-- Choices and options -------------------------------------------------------------------------------------------------------------------

-- the row of a choice or an option, number by number
pub listed-row : (k n b t : ℕ) (rows : List ℤ) {w x y z : ℤ} → w ≡ pos k → x ≡ link_to b (n + 1) → y ≡ link_to t (n + 1 + b) → z ≡ pos (n + 1 + b + t)
    → overlay rows (4 * n) (w ∷ x ∷ y ∷ z ∷ []) ≡ overlay rows (4 * n) (listed_row k n b t)
listed-row k n b t rows e f g h =
    let s : n + 1 ≡ suc n = omega arith in
    (λ i. overlay rows (4 * n) (e i ∷ f i ∷ g i ∷ h i ∷ [])) ∙ ap (λ (m : ℕ). overlay rows (4 * n) (pos k ∷ link_to b m ∷ link_to t (m + b) ∷ pos (m + b + t) ∷ [])) s

module _ (k : ℕ) (F : Form) (p b t limit : ℕ) (rows : List ℤ) (f : suc p + b + t + form_size F ≤ limit) (few : limit ≤ 1024) (long : 4 * limit ≤ length rows) where
  pub listed-room : (p + b + t < 1024) × (4 * p + 4 ≤ length rows)
  listed-room = (omega (arith, f, few), omega (arith, f, long))

  module _ (one : List ℤ) (e1 : one ≡ overlay rows (4 * p) (listed_row k p b t)) where
    pub listed-fits : FormFits F (p + 1 + b + t) one
    listed-fits =
        let l = ap length e1 ∙ overlay-length rows (4 * p) (listed_row k p b t) (omega (arith, f, long)) in
        (omega (arith, f, few), omega (arith, f, long, l))

    pub listed-laid : (out : List ℤ) → out ≡ with_form F (p + 1 + b + t) one → out ≡ sets (sets rows (4 * p) (listed_row k p b t)) (4 * (suc p + b + t)) (rows_from (suc p + b + t) F)
    listed-laid out e =
        let n : p + 1 + b + t ≡ suc p + b + t = omega arith in
        let q : one ≡ sets rows (4 * p) (listed_row k p b t) = e1 ∙ sym (sets-laid rows (4 * p) (listed_row k p b t) (omega (arith, f, long))) in
        let w = sets rows (4 * p) (listed_row k p b t) in
        e ∙ ap₂ (λ (m : ℕ) (l : List ℤ). with_form F m l) n q
        ∙ sym (sets-laid w (4 * (suc p + b + t)) (rows_from (suc p + b + t) F) (omega (arith, f, long, length-sets rows (4 * p) (listed_row k p b t), flat-length (suc p + b + t) F)))

module _ (kind : ℕ) (os : List (Option Token)) (spot : Spot) (rows : List ℤ) where
  abbrev place : ℕ
  place = spot.row + 1 + spot.beneath + spot.later

  module _ (a : At kind os spot rows choices) where
    abbrev Test : Form
    Test = test_form row_names a.line

    test_in : Test ≡ form_in os
    unfolding expected_beneath
    test_in = (line-test os a.line a.is-line a.under a.may-stand).0

    pub choice-room : (spot.row + spot.beneath + spot.later < 1024) × (4 * spot.row + 4 ≤ length rows)
    choice-room = listed-room 41 Test spot.row spot.beneath spot.later a.limit rows a.room.ends a.few a.long

    module _ (one : List ℤ) (e1 : one ≡ overlay rows (4 * spot.row) (listed_row 41 spot.row spot.beneath spot.later)) where
      pub choice-fits : Writable os place one
      unfolding expected_beneath
      choice-fits =
          let g = listed-fits 41 Test spot.row spot.beneath spot.later a.limit rows a.room.ends a.few a.long one e1 in
          let s : form_size Test ≡ form_size (form_in os) = ap form_size test_in in
          ((line-test os a.line a.is-line a.under a.may-stand).1, omega (arith, g.0, s), omega (arith, g.1, s))

      pub choice-laid : (out : List ℤ) → out ≡ with_rows os place one → out ≡ laid_by kind os spot rows
      choice-laid out e =
          a.laid out (listed-laid 41 Test spot.row spot.beneath spot.later a.limit rows a.room.ends a.few a.long one e1 out
          (e ∙ ap (λ (f : Form). with_form f place one) (sym test_in)))

  module _ (a : At kind os spot rows options) where
    abbrev Guard : Form
    Guard = guard_form row_names a.line

    guard-in : Guard ≡ guard_by (part_at_mark os)
    unfolding expected_beneath
    guard-in = (line-guard os a.line a.is-line a.under a.may-stand).0

    pub option-room : (spot.row + spot.beneath + spot.later < 1024) × (4 * spot.row + 4 ≤ length rows)
    option-room = listed-room 42 Guard spot.row spot.beneath spot.later a.limit rows a.room.ends a.few a.long

    module _ (one : List ℤ) (e1 : one ≡ overlay rows (4 * spot.row) (listed_row 42 spot.row spot.beneath spot.later)) where
      pub option-fits : GuardWritable (part_at_mark os) place one
      unfolding expected_beneath
      option-fits = (
        (line-guard os a.line a.is-line a.under a.may-stand).1,
        subst (λ (f : Form). FormFits f place one) guard-in (listed-fits 42 Guard spot.row spot.beneath spot.later a.limit rows a.room.ends a.few a.long one e1),
      )

      pub option-laid : (out : List ℤ) → out ≡ with_form (guard_by (part_at_mark os)) place one → out ≡ laid_by kind os spot rows
      option-laid out e =
          a.laid out (listed-laid 42 Guard spot.row spot.beneath spot.later a.limit rows a.room.ends a.few a.long one e1 out
          (e ∙ ap (λ (f : Form). with_form f place one) (sym guard-in)))

  -- Members -------------------------------------------------------------------------------------------------------------------------

  module _ (a : At kind os spot rows members) where
    -- a block among members
    module _ (h : kind % 16 ≡ 1) where
      block-ends : suc spot.row + spot.later ≤ a.limit
      block-ends = subst (λ (t : Bool). if_else t (suc spot.row + spot.later) (suc spot.row + process_size row_names a.line + spot.beneath + spot.later) ≤ a.limit) (starts kind os spot rows a h) a.room.ends

      block-follows : (1 ≤ spot.later) × (spot.rest ≤ spot.later)
      unfolding expected_after
      block-follows = a.room.follows (starts kind os spot rows a h) (ap (λ (t : Bool). if_else t one-member members) (starts kind os spot rows a h))

      pub member-declares : is_some (declaration_listed os) ≡ true
      member-declares = declares-some os a.line (on-os kind os spot rows a) (starts kind os spot rows a h)

      pub member-low : (spot.row + 1 + spot.later ≤ 1024) × (spot.row + 1 < 1024) × (4 * (spot.row + 1) + 4 ≤ length rows) × (spot.rest ≤ spot.later)
      member-low =
          let f = block-ends in
          let g = block-follows in
          (omega (arith, f, a.few), omega (arith, f, g.0, a.few), omega (arith, f, g.0, a.long), g.1)

      module _ (one : List ℤ) (e1 : one ≡ with_form (block_form row_names (declaration_listed os) (number (pos (suc (spot.row + 1))))) (spot.row + 1) rows) where
        one-is : one ≡ overlay rows (4 * (spot.row + 1)) (block_row row_names a.line (spot.row + 1))
        one-is = e1 ∙ ap (λ (o : Option Declaration). with_form (block_form row_names o (number (pos (suc (spot.row + 1))))) (spot.row + 1) rows) (on-os kind os spot rows a)

        pub member-block-room : 4 * spot.row + 4 ≤ length one
        member-block-room =
            let l = block-length a.line (spot.row + 1) (starts kind os spot rows a h) in
            let m = ap length one-is ∙ overlay-length rows (4 * (spot.row + 1)) (block_row row_names a.line (spot.row + 1)) (omega (arith, l, member-low.2)) in
            omega (arith, m, member-low.2)

        pub member-block-laid : (out : List ℤ) → out ≡ overlay one (4 * spot.row) (pos 40 ∷ pos (spot.row + 1) ∷ link_to spot.rest (spot.row + 1 + spot.later - spot.rest) ∷ pos 0 ∷ [])
            → out ≡ laid_by kind os spot rows
        member-block-laid out e =
            let s : spot.row + 1 ≡ suc spot.row = omega arith in
            let d = starts kind os spot rows a h in
            let l = block-length a.line (suc spot.row) d in
            let l1 = block-length a.line (spot.row + 1) d in
            a.laid out (row_before rows one out spot.row (pos 40) _ _ (pos 0) (block_row row_names a.line (spot.row + 1)) (omega (arith, l1, member-low.2)) one-is e
            ∙ ap (λ (m : ℕ). overlay rows (4 * spot.row) (pos 40 ∷ pos m ∷ link_to spot.rest (m + spot.later - spot.rest) ∷ pos 0 ∷ block_row row_names a.line m)) s
            ∙ sym (sets-laid rows (4 * spot.row) (member_block row_names a.line spot.row spot.later spot.rest) (omega (arith, l, member-low.2)))
            ∙ ap (λ (t : Bool). sets rows (4 * spot.row) (if_else t (member_block row_names a.line spot.row spot.later spot.rest) (member_rows row_names a.line spot.row spot.beneath spot.later))) (sym d))

    -- a process among them
    module _ (h : kind % 16 ≡ 1 → ⊥) where
      process-ends : suc spot.row + process_size row_names a.line + spot.beneath + spot.later ≤ a.limit
      process-ends = subst (λ (t : Bool). if_else t (suc spot.row + spot.later) (suc spot.row + process_size row_names a.line + spot.beneath + spot.later) ≤ a.limit) (starts-not kind os spot rows a h) a.room.ends

      may-be : process_beneath a.line ≡ some a.under
      unfolding expected_beneath
      may-be = ap (λ (t : Bool). if_else t (some nothing) (process_beneath a.line)) (sym (starts-not kind os spot rows a h)) ∙ a.may-stand

      told : ProcessTold a.line (part_at_mark os)
      told = line-process os a.line a.is-line a.under may-be

      pub member-writable : ProcessWritable (part_at_mark os) (spot.row + 1) spot.beneath rows
      member-writable = process-writable os a.line told (spot.row + 1) spot.beneath rows a.limit a.few a.long (omega (arith, process-ends))

      pub member-small : spot.row + 1 < 1025
      member-small = omega (arith, process-ends, a.few)

      module _ (r : ℕ) (one : List ℤ) (er : r ≡ spot.row + 1 + size_by (part_at_mark os)) (e1 : one ≡ part_laid (part_at_mark os) (spot.row + 1) spot.beneath rows) where
        end_is : r ≡ spot.row + 1 + process_size row_names a.line
        end_is = process-end os a.line told (spot.row + 1) spot.beneath rows r er

        first-is : one ≡ overlay rows (4 * (spot.row + 1)) (process_rows row_names a.line (spot.row + 1) spot.beneath)
        first-is = process-rows os a.line told (spot.row + 1) spot.beneath rows one e1

        pub member-room : (r + spot.beneath ≤ 1024) × (spot.row < 1024) × (4 * spot.row + 4 ≤ length one)
        member-room =
            let f = process-ends in
            let l = rows-length a.line (spot.row + 1) spot.beneath in
            let m = ap length first-is ∙ overlay-length rows (4 * (spot.row + 1)) (process_rows row_names a.line (spot.row + 1) spot.beneath) (omega (arith, l, f, a.long)) in
            (omega (arith, f, end_is, a.few), omega (arith, f, a.few), omega (arith, f, a.long, m))

        pub member-laid : (out : List ℤ) → out ≡ overlay one (4 * spot.row) (pos 40 ∷ pos (spot.row + 1) ∷ link_to spot.later (r + spot.beneath) ∷ pos 0 ∷ []) → out ≡ laid_by kind os spot rows
        member-laid out e =
            let s : spot.row + 1 ≡ suc spot.row = omega arith in
            let d = starts-not kind os spot rows a h in
            let f = process-ends in
            let l1 = rows-length a.line (spot.row + 1) spot.beneath in
            let l = rows-length a.line (suc spot.row) spot.beneath in
            a.laid out (row_before rows one out spot.row (pos 40) _ _ (pos 0) (process_rows row_names a.line (spot.row + 1) spot.beneath) (omega (arith, l1, f, a.long)) first-is e
            ∙ ap (λ (m : ℕ). overlay rows (4 * spot.row) (pos 40 ∷ pos (spot.row + 1) ∷ link_to spot.later (m + spot.beneath) ∷ pos 0 ∷ process_rows row_names a.line (spot.row + 1) spot.beneath)) end_is
            ∙ ap (λ (m : ℕ). overlay rows (4 * spot.row) (pos 40 ∷ pos m ∷ link_to spot.later (m + process_size row_names a.line + spot.beneath) ∷ pos 0 ∷ process_rows row_names a.line m spot.beneath)) s
            ∙ sym (sets-laid rows (4 * spot.row) (member_rows row_names a.line spot.row spot.beneath spot.later) (omega (arith, l, f, a.long)))
            ∙ ap (λ (t : Bool). sets rows (4 * spot.row) (if_else t (member_block row_names a.line spot.row spot.later spot.rest) (member_rows row_names a.line spot.row spot.beneath spot.later))) (sym d))
