-- A line with its names resolved writes the rows that the line writes, and within the same limit.
use mathlib.Core.Path.{◌≡◌, refl, sym, ap, ◌∙◌}
use mathlib.Core.List.{List}
use Prim.Native.Nat.{ℕ, suc, ◌+◌, ◌≤◌}
use lib.Dec.{eqb, leb}
use lib.IntN.{ℤ}
use lib.ListN.{length}
use Rattle.base_top_down.specs.Forms.{absent, number, form_size}
use Rattle.grammar.specs.Outline.{OutlineLine, Expect, members, choices, options, nothing, one-process, one-member, heads, is_declaration, starts_block, expected_beneath, expected_after}
use Rattle.grammar.specs.Classes.{Class, class_of, variable-line, beneath_by_class, after_by_class}
use Rattle.grammar.proofs.ClassesTold.{expected-by-class}
use Rattle.read_tokens.specs.Held.{row_limit}
use Rattle.read_classes.specs.ClassNumbers.{number_of}
use Rattle.read_resolved.specs.Resolved.{row_names, resolved_line}
use Rattle.read_resolved.proofs.ResolvedLaws.{line-forms}
use Rattle.read_layout.specs.Layout.{process_size, process_rows, block_row, head_rows, tail_rows, line_laid}
use Rattle.read_layout.specs.Room.{line_end, LineRoom}
use Rattle.read_sizes.proofs.MeasuredLaws.{class-starts}
use Rattle.read_processes.proofs.OnwardLaws.{class-declares}

module _ (names : List (List ℕ)) (few : length names ≤ row_limit) (x : OutlineLine) where
  abbrev y : OutlineLine
  y = resolved_line names x

  same_class : class_of y ≡ class_of x
  same_class = (line-forms names few x).same_class

  starts-kept : starts_block y ≡ starts_block x
  starts-kept = sym (class-starts y) ∙ ap (λ (c : Class). eqb (number_of c) (number_of variable-line)) same_class ∙ class-starts x

  declares-kept : is_declaration y ≡ is_declaration x
  declares-kept = sym (class-declares y) ∙ ap (λ (c : Class). leb (number_of c) 2) same_class ∙ class-declares x

  pub beneath-kept : (e : Expect) → expected_beneath e y ≡ expected_beneath e x
  beneath-kept e = (expected-by-class e y).0 ∙ ap (beneath_by_class e) same_class ∙ sym (expected-by-class e x).0

  after_kept : (e : Expect) → expected_after e y ≡ expected_after e x
  after_kept e = (expected-by-class e y).1 ∙ ap (after_by_class e) same_class ∙ sym (expected-by-class e x).1

  size-kept : process_size row_names y ≡ process_size names x
  size-kept = ap form_size ((line-forms names few x).as-process absent)

  process-kept : (n b : ℕ) → process_rows row_names y n b ≡ process_rows names x n b
  process-kept n b = rw (size-kept, (line-forms names few x).as-process (number _)) refl

  block-kept : (p : ℕ) → block_row row_names y p ≡ block_row names x p
  block-kept p = rw ((line-forms names few x).as-block (number _)) refl

  head-kept : (e : Expect) (p b t r : ℕ) → head_rows row_names e y p b t r ≡ head_rows names e x p b t r
  head-kept members p b t r = rw (starts-kept, block-kept (suc p), process-kept (suc p) b, size-kept) refl
  head-kept choices p b t r = refl
  head-kept options p b t r = refl
  head-kept nothing p b t r = refl
  head-kept one-process p b t r = rw (starts-kept, block-kept p, process-kept p b) refl
  head-kept one-member p b t r = rw (starts-kept, block-kept p, process-kept p b) refl
  head-kept heads p b t r = rw (declares-kept, process-kept p b) refl

  tail-kept : (e : Expect) (n : ℕ) → tail_rows row_names e y n ≡ tail_rows names e x n
  tail-kept members n = refl
  tail-kept choices n = rw (line-forms names few x).as-test refl
  tail-kept options n = rw (line-forms names few x).as-guard refl
  tail-kept nothing n = refl
  tail-kept one-process n = refl
  tail-kept one-member n = refl
  tail-kept heads n = refl

  pub laid-resolved : (e : Expect) (p b t r : ℕ) (rows : List ℤ) → line_laid row_names e y p b t r rows ≡ line_laid names e x p b t r rows
  laid-resolved e p b t r rows = rw (head-kept e p b t r, tail-kept e (suc p + b + t)) refl

  end_kept : (e : Expect) (p b t : ℕ) → line_end row_names e y p b t ≡ line_end names e x p b t
  end_kept members p b t = rw (starts-kept, size-kept) refl
  end_kept choices p b t = rw (line-forms names few x).as-test refl
  end_kept options p b t = rw (line-forms names few x).as-guard refl
  end_kept nothing p b t = refl
  end_kept one-process p b t = rw (starts-kept, size-kept) refl
  end_kept one-member p b t = rw (starts-kept, size-kept) refl
  end_kept heads p b t = rw (declares-kept, size-kept) refl

  pub room-resolved : (limit : ℕ) (e : Expect) (p b t r : ℕ) → LineRoom names limit e x p b t r → LineRoom row_names limit e y p b t r
  room-resolved limit e p b t r h =
      record {
        beneath = h.beneath;
        stands = beneath-kept e ∙ h.stands;
        ends = rw (end_kept e p b t) h.ends;
        follows = λ s a. h.follows (sym starts-kept ∙ s) (sym (after_kept e) ∙ a);
      }
