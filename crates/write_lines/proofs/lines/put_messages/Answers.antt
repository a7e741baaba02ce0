-- What is left to write stays what all of it writes. Assumes nothing.
use mathlib.Core.Path.{refl, sym, ap, ◌∙◌}
use mathlib.Core.List.{List}
use Prim.Native.Nat.{ℕ, ◌+◌}
use native.Mathlib.Omega.{arith}
use borrow.Author.Rules.{rules}
use lib.IntN.{ℤ, pos}
use mir.Syntax.{w32}
use mir.ValLaws.{to_z-of_z}
use lib.ListN.{length, get_or, drop}
use Rattle.base_numbers.specs.Printing.{text_of}
use Rattle.meaning.specs.Printing.{value_bytes}
use Rattle.meaning.specs.Buffers.{cell_of, decoded}
use Rattle.write_bytes.specs.Writing.{Writer, put_all, line_of}
use Rattle.write_bytes.proofs.Writers.{shown-text, length-put_all}
use Rattle.write_lines.specs.Decoding.{message_bytes}
use Rattle.write_lines.proofs.LineSteps.{message-next, messages-done, cells-next, cells-done, cells_out}
use Rattle.write_lines.proofs.lines.put_messages.Goals as goal

pub loop-i-init : goal.loop-i-init
loop-i-init c = (refl, refl)

pub shape_of-out-then-marks-i : goal.shape_of-out-then-marks-i
shape_of-out-then-marks-i c = c.loop-i.invariant.0

pub returns-then-marks-i : goal.returns-then-marks-i
returns-then-marks-i c =
    let a = c.args in
    let k = c.loop-i in
    sym (messages-done a.word.now a.row (decoded a.numbers.now a.marks.now) k.i (k.place, k.out) (cells-done a.marks.now a.numbers.now k.i c.if-marks-i.true)) ∙ k.invariant.1

pub overflow_cast-i : goal.overflow_cast-i
overflow_cast-i c = omega arith

pub loop-i-preserved : goal.loop-i-preserved
loop-i-preserved c =
    let k = c.loop-i in
    let a = c.args in
    let xs = decoded a.numbers.now a.marks.now in
    let v = cell_of (get_or a.numbers.now k.i (pos 0)) (get_or a.marks.now k.i 0) in
    let number = to_z-of_z w32 _ (record { sfits = c.number_at.type_inv }) ∙ c.number_at.ensures in
    let text = c.message_text-text.ensures ∙ ap (λ (z : ℤ). text_of (value_bytes (cell_of z (get_or a.marks.now k.i 0)))) number in
    let e = c.put_line-place.ensures ∙ ap (λ (l : List ℕ). put_all (line_of a.word.now a.row k.i l) (k.place, k.out)) (shown-text (value_bytes v) text) in (
      ap (λ (w : Writer). length w.1) e ∙ length-put_all (line_of a.word.now a.row k.i (value_bytes v)) (k.place, k.out) ∙ k.invariant.0,
      ap (put_all (message_bytes a.word.now a.row (k.i + 1) (drop (k.i + 1) xs))) e
          ∙ sym (message-next a.word.now a.row xs k.i (k.place, k.out) v (cells-next a.marks.now a.numbers.now k.i (search rules) (search rules)))
          ∙ k.invariant.1,
    )

pub shape_of-out : goal.shape_of-out
shape_of-out c = c.loop-i.invariant.0

pub returns : goal.returns
returns c =
    let a = c.args in
    let k = c.loop-i in
    sym (messages-done a.word.now a.row (decoded a.numbers.now a.marks.now) k.i (k.place, k.out) (cells_out a.marks.now a.numbers.now k.i (search rules))) ∙ k.invariant.1
