-- A line by what is expected where it stands: what its functions need, and that its rows are those of the definitions.
use mathlib.Core.Path.{◌≡◌, refl, sym, ap, subst, ◌∙◌}
use mathlib.Core.Bool.{Bool, true, false}
use mathlib.Core.List.{List, []}
use mathlib.Core.Option.{Option, some, none-ne-some}
use Prim.Native.Nat.{ℕ, suc, ◌+◌, ◌*◌, ◌/◌, ◌%◌, ◌≤◌, ◌<◌}
use native.Mathlib.Omega.{arith}
use lib.IntN.{ℤ, pos}
use lib.ListN.{length}
use lib.Seq.{sets}
use borrow.Author.Tests.{eq-eqb, ne_eqb, le-leb, lt-leb}
use lib.Dec.{eqb, leb}
use Rattle.meaning.specs.Basics.{if_else, is_some}
use Rattle.base_top_down.specs.Forms.{number, form_size}
use Rattle.base_top_down.proofs.Flat.{flat-length}
use Rattle.grammar.specs.Grammar.{Token}
use Rattle.grammar.specs.Outline.{Declaration, OutlineLine, Expect, members, nothing, one-process, one-member, heads, is_declaration, starts_block, process_beneath, expected_beneath, expected_after}
use Rattle.grammar.specs.Names.{declaration_in}
use Rattle.grammar.specs.TextRows.{block_form}
use Rattle.read_resolved.specs.Resolved.{row_names}
use Rattle.read_classes.specs.Parts.{part_at_mark}
use Rattle.read_layout.specs.Layout.{process_size, process_rows, block_row}
use Rattle.read_layout.proofs.LinePut.{declared, starts-declares}
use Rattle.read_rows.specs.declared.Spot.{Spot}
use Rattle.read_parts.specs.PartForms.{with_form, declaration_of, declaration_listed, part_laid, ProcessWritable}
use Rattle.read_rows.specs.LinesLaid.{expect_of, Standable, laid_by}
use Rattle.read_parts.proofs.OverlaySteps.{sets-laid}
use Rattle.read_rows.proofs.LineTold.{line-process}
use Rattle.read_rows.proofs.StandSteps.{At, stands_at, starts-told, declares-told, process-writable, process-sets}

-- a block's row is one row
pub block-length : (x : OutlineLine) (n : ℕ) → starts_block x ≡ true → length (block_row row_names x n) ≡ 4
unfolding form_size
block-length x n h =
    let (d, q) = declared x (starts-declares x h) in
    flat-length n (block_form row_names (declaration_in x) (number (pos (suc n)))) ∙ ap (λ (o : Option Declaration). 4 * form_size (block_form row_names o (number (pos (suc n))))) q

pub declares-some : (os : List (Option Token)) (x : OutlineLine) → declaration_listed os ≡ declaration_in x → starts_block x ≡ true → is_some (declaration_listed os) ≡ true
declares-some os x e h = let (d, q) = declared x (starts-declares x h) in ap is_some (e ∙ q)

module _ (kind : ℕ) (os : List (Option Token)) (spot : Spot) (rows : List ℤ) where
  -- what a block's row needs at row n, and what is left
  pub record BlockCase (n : ℕ) : Type 0 where
    pub declares : is_some (declaration_listed os) ≡ true
    pub low : n < 1024
    pub fits : 4 * n + 4 ≤ length rows
    pub laid : (out : List ℤ) → out ≡ with_form (block_form row_names (declaration_listed os) (number (pos (suc n)))) n rows → out ≡ laid_by kind os spot rows

  -- and a process
  pub record ProcessCase (n : ℕ) : Type 0 where
    pub writable : ProcessWritable (part_at_mark os) n spot.beneath rows
    pub laid : (out : List ℤ) → out ≡ part_laid (part_at_mark os) n spot.beneath rows → out ≡ laid_by kind os spot rows

  module _ {e : Expect} (a : At kind os spot rows e) where
    pub starts : kind % 16 ≡ 1 → starts_block a.line ≡ true
    starts h = starts-told a.line ∙ eq-eqb _ 1 (sym a.is-class ∙ h)

    pub starts-not : (kind % 16 ≡ 1 → ⊥) → starts_block a.line ≡ false
    starts-not h = starts-told a.line ∙ ne_eqb _ 1 (λ q. h (a.is-class ∙ q))

    pub on-os : declaration_listed os ≡ declaration_in a.line
    on-os = ap declaration_of a.is-line

    -- a block's row that the line writes first
    block-sets : (n : ℕ) → starts_block a.line ≡ true → 4 * n + 4 ≤ length rows → (out : List ℤ) → out ≡ with_form (block_form row_names (declaration_listed os) (number (pos (suc n)))) n rows
        → out ≡ sets rows (4 * n) (block_row row_names a.line n)
    block-sets n h k out q =
        q ∙ ap (λ (o : Option Declaration). with_form (block_form row_names o (number (pos (suc n)))) n rows) on-os
        ∙ sym (sets-laid rows (4 * n) (block_row row_names a.line n) (omega (arith, k, block-length a.line n h)))

  -- One process ---------------------------------------------------------------------------------------------------------------------

  plain-case : {e : Expect} (a : At kind os spot rows e) → process_beneath a.line ≡ some a.under → spot.row + process_size row_names a.line + spot.beneath ≤ a.limit
      → ((out : List ℤ) → out ≡ sets rows (4 * spot.row) (process_rows row_names a.line spot.row spot.beneath) → out ≡ laid_by kind os spot rows) → ProcessCase spot.row
  plain-case a k f g =
      let told = line-process os a.line a.is-line a.under k in
      record {
        writable = process-writable os a.line told spot.row spot.beneath rows a.limit a.few a.long f;
        laid = λ out q. g out (process-sets os a.line told spot.row spot.beneath rows a.limit a.long f out q);
      }

  module _ (a : At kind os spot rows heads) where
    pub head-declares : kind % 16 ≤ 2 → rows ≡ laid_by kind os spot rows
    head-declares h =
        let d : is_declaration a.line ≡ true = declares-told a.line ∙ ap (λ (n : ℕ). leb n 2) (sym a.is-class) ∙ le-leb (kind % 16) 2 h in
        a.laid rows (sym (ap (λ (t : Bool). sets rows (4 * spot.row) (if_else t [] (process_rows row_names a.line spot.row spot.beneath))) d))

    pub head-process : 2 < kind % 16 → ProcessCase spot.row
    unfolding expected_beneath
    head-process h =
        let d : is_declaration a.line ≡ false = declares-told a.line ∙ ap (λ (n : ℕ). leb n 2) (sym a.is-class) ∙ lt-leb (kind % 16) 2 h in
        plain-case a (ap (λ (t : Bool). if_else t (some nothing) (process_beneath a.line)) (sym d) ∙ a.may-stand)
        (subst (λ (t : Bool). if_else t (spot.row + spot.later) (spot.row + process_size row_names a.line + spot.beneath) ≤ a.limit) d a.room.ends)
        (λ out q. a.laid out (q ∙ ap (λ (t : Bool). sets rows (4 * spot.row) (if_else t [] (process_rows row_names a.line spot.row spot.beneath))) (sym d)))

  -- what must come: a block or a process
  pub record SingleCase : Type 0 where
    pub block : kind % 16 ≡ 1 → BlockCase spot.row
    pub process : (kind % 16 ≡ 1 → ⊥) → ProcessCase spot.row

  first-single : At kind os spot rows one-process → SingleCase
  unfolding expected_beneath
  first-single a = record { block = one; process = two }
    where
      one : kind % 16 ≡ 1 → BlockCase spot.row
      one h =
          let d = starts a h in
          let f : suc spot.row + spot.later ≤ a.limit = subst (λ (t : Bool). if_else t (suc spot.row + spot.later) (spot.row + process_size row_names a.line + spot.beneath) ≤ a.limit) d a.room.ends in
          let k : 4 * spot.row + 4 ≤ length rows = omega (arith, f, a.long) in
          record {
            declares = declares-some os a.line (on-os a) d;
            low = omega (arith, f, a.few);
            fits = k;
            laid = λ out q. a.laid out (block-sets a spot.row d k out q ∙ ap (λ (t : Bool). sets rows (4 * spot.row) (if_else t (block_row row_names a.line spot.row) (process_rows row_names a.line spot.row spot.beneath))) (sym d));
          }

      two : (kind % 16 ≡ 1 → ⊥) → ProcessCase spot.row
      two h =
          let d = starts-not a h in
          plain-case a (ap (λ (t : Bool). if_else t (some nothing) (process_beneath a.line)) (sym d) ∙ a.may-stand)
          (subst (λ (t : Bool). if_else t (suc spot.row + spot.later) (spot.row + process_size row_names a.line + spot.beneath) ≤ a.limit) d a.room.ends)
          (λ out q. a.laid out (q ∙ ap (λ (t : Bool). sets rows (4 * spot.row) (if_else t (block_row row_names a.line spot.row) (process_rows row_names a.line spot.row spot.beneath))) (sym d)))

  next-single : At kind os spot rows one-member → SingleCase
  unfolding expected_beneath expected_after
  next-single a = record { block = one; process = two }
    where
      one : kind % 16 ≡ 1 → BlockCase spot.row
      one h =
          let d = starts a h in
          let f : spot.row + spot.later ≤ a.limit = subst (λ (t : Bool). if_else t (spot.row + spot.later) (spot.row + process_size row_names a.line + spot.beneath + spot.later) ≤ a.limit) d a.room.ends in
          let g = a.room.follows d (ap (λ (t : Bool). if_else t one-member members) d) in
          let k : 4 * spot.row + 4 ≤ length rows = omega (arith, f, g.0, a.long) in
          record {
            declares = declares-some os a.line (on-os a) d;
            low = omega (arith, f, g.0, a.few);
            fits = k;
            laid = λ out q. a.laid out (block-sets a spot.row d k out q ∙ ap (λ (t : Bool). sets rows (4 * spot.row) (if_else t (block_row row_names a.line spot.row) (process_rows row_names a.line spot.row spot.beneath))) (sym d));
          }

      two : (kind % 16 ≡ 1 → ⊥) → ProcessCase spot.row
      two h =
          let d = starts-not a h in
          let f = subst (λ (t : Bool). if_else t (spot.row + spot.later) (spot.row + process_size row_names a.line + spot.beneath + spot.later) ≤ a.limit) d a.room.ends in
          plain-case a (ap (λ (t : Bool). if_else t (some nothing) (process_beneath a.line)) (sym d) ∙ a.may-stand) (omega (arith, f))
          (λ out q. a.laid out (q ∙ ap (λ (t : Bool). sets rows (4 * spot.row) (if_else t (block_row row_names a.line spot.row) (process_rows row_names a.line spot.row spot.beneath))) (sym d)))

  pub single-case : Standable kind os spot rows → (kind / 16 ≡ 0 → ⊥) → (kind / 16 ≡ 1 → ⊥) → (kind / 16 ≡ 2 → ⊥) → (kind / 16 ≡ 6 → ⊥) → SingleCase
  unfolding expect_of expected_beneath
  single-case s n0 n1 n2 n6 = go (eqb (kind / 16) 4) (eqb (kind / 16) 5) refl refl
    where
      told : (b c : Bool) → eqb (kind / 16) 4 ≡ b → eqb (kind / 16) 5 ≡ c → expect_of (kind / 16) ≡ if_else b one-process (if_else c one-member nothing)
      told b c p q = rw (ne_eqb (kind / 16) 0 n0, ne_eqb (kind / 16) 1 n1, ne_eqb (kind / 16) 2 n2, ne_eqb (kind / 16) 6 n6, p, q) refl

      go : (b c : Bool) → eqb (kind / 16) 4 ≡ b → eqb (kind / 16) 5 ≡ c → SingleCase
      go true c p q = first-single (stands_at kind os spot rows s one-process (told true c p q))
      go false true p q = next-single (stands_at kind os spot rows s one-member (told false true p q))
      go false false p q = let a = stands_at kind os spot rows s nothing (told false false p q) in absurd (none-ne-some a.under a.may-stand)
