-- The two parts of standard input, and what they come to. Assumes nothing.
use mathlib.Core.Path.{sym, ap, subst, ◌∙◌}
use mathlib.Core.List.{List}
use Prim.Native.Nat.{ℕ, ◌≤◌}
use lib.ListN.{length}
use lib.Seq.{length-take-le}
use Rattle.write_bytes.specs.Writing.{printed_in}
use Rattle.call_runner.specs.PrintedTexts.{max_printed_text}
use Rattle.call_runner.proofs.Stages.{parts-printed}
use Rattle.call_runner.proofs.answer_printed_text.Goals as goal

pub slice_bounds-table_printed_text-end : goal.slice_bounds-table_printed_text-end
slice_bounds-table_printed_text-end c = sym (length-take-le _ _ c.split-parts.ensures.meaning.table-inside)

pub returns : goal.returns
returns c =
    let a = c.args in
    let e = parts-printed a.input.now _ c.split-parts.ensures.meaning in
    let p = c.table_printed_text.ensures in
    record { written = p.written ∙ ap (λ (l : List ℕ). printed_in l a.out.now) e; fits = subst (λ (l : List ℕ). length l ≤ max_printed_text) e p.fits }
