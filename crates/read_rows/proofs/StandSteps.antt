-- A line where it stands: what its kind tells, and that its rows are laid as the definitions say.
use mathlib.Core.Path.{◌≡◌, refl, sym, ap, ap₂, subst, ◌∙◌}
use mathlib.Core.List.{List}
use mathlib.Core.Option.{Option, some}
use Prim.Native.Nat.{ℕ, ◌+◌, ◌*◌, ◌/◌, ◌%◌, ◌≤◌}
use native.Mathlib.Omega.{arith}
use lib.IntN.{ℤ}
use lib.ListN.{length}
use lib.Seq.{sets}
use lib.Dec.{eqb, leb}
use Rattle.base_top_down.specs.Forms.{Form, absent, number, form_size}
use Rattle.base_top_down.proofs.Flat.{flat-length}
use Rattle.grammar.specs.Grammar.{Token}
use Rattle.grammar.specs.Outline.{variable, channel, source, sink, OutlineLine, declare, skip, stop, assign, input, output, seq, par, ifs, alts, while, test, guarded, allowed, Expect, members, choices, options, nothing, one-process, one-member, heads, is_declaration, starts_block, expected_beneath}
use Rattle.grammar.specs.Classes.{Class, variable-line, other-declaration, leaf, input-line, member-lines, choice-lines, option-lines, while-line, test-line, guard-line, class_of}
use Rattle.grammar.specs.TextRows.{process_form}
use Rattle.read_classes.specs.ClassNumbers.{number_of}
use Rattle.read_classes.specs.Parts.{part_at_mark}
use Rattle.read_resolved.specs.Resolved.{row_names}
use Rattle.read_levels.specs.Kinds.{expect_number}
use Rattle.read_layout.specs.Layout.{link_to, process_size, process_rows, line_laid}
use Rattle.read_layout.specs.Room.{LineRoom}
use Rattle.read_expressions.specs.Overlay.{overlay}
use Rattle.read_rows.specs.declared.Spot.{Spot}
use Rattle.read_parts.specs.PartForms.{with_form, line_listed, process_by, size_by, part_laid, ProcessWritable}
use Rattle.read_rows.specs.LinesLaid.{expect_of, Standable, laid_as, laid_by}
use Rattle.read_parts.proofs.OverlaySteps.{sets-laid}
use Rattle.read_rows.proofs.LineTold.{ProcessTold}

-- Kinds -------------------------------------------------------------------------------------------------------------------------------

number_small : (c : Class) → number_of c ≤ 10
number_small variable-line = omega arith
number_small other-declaration = omega arith
number_small leaf = omega arith
number_small input-line = omega arith
number_small member-lines = omega arith
number_small choice-lines = omega arith
number_small option-lines = omega arith
number_small while-line = omega arith
number_small test-line = omega arith
number_small guard-line = omega arith

-- what is expected, by its number
pub expect-back : (e : Expect) → expect_of (expect_number e) ≡ e
unfolding expect_of
expect-back members = refl
expect-back choices = refl
expect-back options = refl
expect-back nothing = refl
expect-back one-process = refl
expect-back one-member = refl
expect-back heads = refl

-- a block begins where the class is a variable's declaration
pub starts-told : (x : OutlineLine) → starts_block x ≡ eqb (number_of (class_of x)) 1
starts-told (declare (variable z n)) = refl
starts-told (declare (channel z n)) = refl
starts-told (declare (source n)) = refl
starts-told (declare (sink z n)) = refl
starts-told skip = refl
starts-told stop = refl
starts-told (assign a e) = refl
starts-told (input c a) = refl
starts-told (output c e) = refl
starts-told seq = refl
starts-told par = refl
starts-told ifs = refl
starts-told alts = refl
starts-told (while e) = refl
starts-told (test e) = refl
starts-told (guarded e c a) = refl
starts-told (allowed e) = refl

pub declares-told : (x : OutlineLine) → is_declaration x ≡ leb (number_of (class_of x)) 2
declares-told (declare (variable z n)) = refl
declares-told (declare (channel z n)) = refl
declares-told (declare (source n)) = refl
declares-told (declare (sink z n)) = refl
declares-told skip = refl
declares-told stop = refl
declares-told (assign a e) = refl
declares-told (input c a) = refl
declares-told (output c e) = refl
declares-told seq = refl
declares-told par = refl
declares-told ifs = refl
declares-told alts = refl
declares-told (while e) = refl
declares-told (test e) = refl
declares-told (guarded e c a) = refl
declares-told (allowed e) = refl

-- a line that stands where something is expected
pub record At (kind : ℕ) (os : List (Option Token)) (spot : Spot) (rows : List ℤ) (e : Expect) : Type 0 where
  pub line : OutlineLine
  pub under : Expect
  pub limit : ℕ
  pub is-line : line_listed os ≡ some line
  pub is-class : kind % 16 ≡ number_of (class_of line)
  pub may-stand : expected_beneath e line ≡ some under
  pub room : LineRoom row_names limit e line spot.row spot.beneath spot.later spot.rest
  pub few : limit ≤ 1024
  pub long : 4 * limit ≤ length rows
  pub laid : (out : List ℤ) → out ≡ line_laid row_names e line spot.row spot.beneath spot.later spot.rest rows → out ≡ laid_by kind os spot rows

pub stands_at : (kind : ℕ) (os : List (Option Token)) (spot : Spot) (rows : List ℤ) → Standable kind os spot rows → (e : Expect) → expect_of (kind / 16) ≡ e → At kind os spot rows e
unfolding laid_by
stands_at kind os spot rows s e h =
    let small = number_small (class_of s.line) in
    let d : kind / 16 ≡ expect_number s.expected = omega (arith, s.is-kind, small) in
    let q : s.expected ≡ e = sym (expect-back s.expected) ∙ ap expect_of (sym d) ∙ h in
    record {
      line = s.line;
      under = s.under;
      limit = s.limit;
      is-line = s.is-line;
      is-class = omega (arith, s.is-kind, small);
      may-stand = subst (λ (w : Expect). expected_beneath w s.line ≡ some s.under) q s.may-stand;
      room = subst (λ (w : Expect). LineRoom row_names s.limit w s.line spot.row spot.beneath spot.later spot.rest) q s.room;
      few = s.few;
      long = s.long;
      laid = λ out k. k ∙ ap₂ (λ (w : Expect) (o : Option OutlineLine). laid_as w o spot rows) (sym h) (sym s.is-line);
    }

-- Processes ---------------------------------------------------------------------------------------------------------------------------

-- a reference instead of what stands beneath adds no row
size_number : (x : OutlineLine) (z : ℤ) → form_size (process_form row_names x (number z)) ≡ process_size row_names x
unfolding form_size
size_number (declare d) z = refl
size_number skip z = refl
size_number stop z = refl
size_number (assign a e) z = refl
size_number (input c a) z = refl
size_number (output c e) z = refl
size_number seq z = refl
size_number par z = refl
size_number ifs z = refl
size_number alts z = refl
size_number (while e) z = refl
size_number (test e) z = refl
size_number (guarded e c a) z = refl
size_number (allowed e) z = refl

pub rows-length : (x : OutlineLine) (n b : ℕ) → length (process_rows row_names x n b) ≡ 4 * process_size row_names x
rows-length x n b = flat-length n (process_form row_names x (number (link_to b (n + process_size row_names x)))) ∙ ap (λ (s : ℕ). 4 * s) (size_number x (link_to b (n + process_size row_names x)))

module _ (os : List (Option Token)) (x : OutlineLine) (told : ProcessTold x (part_at_mark os)) (n b : ℕ) (rows : List ℤ) where
  same_size : size_by (part_at_mark os) ≡ process_size row_names x
  same_size = sym (ap form_size (told.0 absent))

  -- a process can be written where it fits
  pub process-writable : (limit : ℕ) → limit ≤ 1024 → 4 * limit ≤ length rows → n + process_size row_names x + b ≤ limit → ProcessWritable (part_at_mark os) n b rows
  process-writable limit h k f = record { read = told.1; few = omega (arith, h, f, same_size); long = omega (arith, k, f, same_size) }

  -- and its rows are those of the line
  pub process-rows : (out : List ℤ) → out ≡ part_laid (part_at_mark os) n b rows → out ≡ overlay rows (4 * n) (process_rows row_names x n b)
  process-rows out e =
      e ∙ ap (λ (m : ℕ). with_form (process_by (part_at_mark os) (number (link_to b (n + m)))) n rows) same_size
      ∙ ap (λ (f : Form). with_form f n rows) (sym (told.0 (number (link_to b (n + process_size row_names x)))))

  pub process-end : (r : ℕ) → r ≡ n + size_by (part_at_mark os) → r ≡ n + process_size row_names x
  process-end r e = omega (arith, e, same_size)

  pub process-sets : (limit : ℕ) → 4 * limit ≤ length rows → n + process_size row_names x + b ≤ limit → (out : List ℤ) → out ≡ part_laid (part_at_mark os) n b rows → out ≡ sets rows (4 * n) (process_rows row_names x n b)
  process-sets limit k f out e = process-rows out e ∙ sym (sets-laid rows (4 * n) (process_rows row_names x n b) (omega (arith, k, f, rows-length x n b)))
