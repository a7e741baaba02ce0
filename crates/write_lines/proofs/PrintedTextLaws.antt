-- A printed text: the line of names and the lines of a run's parts, one after another, from the buffer's beginning.
use mathlib.Core.Path.{◌≡◌, sym, ap, ◌∙◌}
use mathlib.Core.List.{List, [], ◌∷◌, ◌++◌, map, flatten}
use Prim.Native.Nat.{ℕ, ◌/◌, ◌≤◌}
use native.Mathlib.Omega.{arith}
use lib.IntN.{ℤ}
use lib.ListN.{length, take, length-take}
use Rattle.meaning.specs.declared.Outcome.{Outcome}
use Rattle.meaning.specs.Buffers.{decoded, capacities}
use Rattle.meaning.specs.Printing.{Line, line_bytes, names_line, printed_lines, end_lines}
use Rattle.write_bytes.specs.Writing.{printed_in, Writer, put_all, put_lines}
use Rattle.write_lines.specs.Decoding.{outputs_in, table_rows, part_lines, state_in}
use Rattle.write_bytes.proofs.Writers.{put_all-append, put_all-first, put_lines-append}

pub printed-text-made : (a : Line) (cells outs stops : List Line) (old : List ℕ) {w₁ w₂ w₃ w₄ w₅ : Writer}
    → w₁ ≡ put_all names_line (0, old) → w₂ ≡ put_lines (a ∷ []) w₁ → w₃ ≡ put_lines cells w₂ → w₄ ≡ put_lines outs w₃ → w₅ ≡ put_lines stops w₄ → w₅ ≡ printed_in (printed_lines (a ∷ cells ++ outs ++ stops)) old
unfolding printed_lines put_lines
printed-text-made a cells outs stops old e₁ e₂ e₃ e₄ e₅ =
    e₅
    ∙ ap (put_lines stops) (e₄ ∙ ap (put_lines outs) (e₃ ∙ ap (put_lines cells) (e₂ ∙ ap (put_lines (a ∷ [])) e₁)))
    ∙ sym (
    put_all-append names_line (flatten (map line_bytes (a ∷ cells ++ outs ++ stops))) (0, old)
    ∙ put_lines-append (a ∷ cells ++ outs) stops x
    ∙ ap (put_lines stops) (put_lines-append (a ∷ cells) outs x ∙ ap (put_lines outs) (put_lines-append (a ∷ []) cells x))
    )
    ∙ put_all-first (printed_lines (a ∷ cells ++ outs ++ stops)) old
  where
    x : Writer
    x = put_all names_line (0, old)

-- what is taken is no longer than asked for
pub take_short : {A : Type 0} (n : ℕ) (l : List A) → length (take n l) ≤ n
take_short n l = omega (arith, length-take n l)

-- the arrays that a run leaves, cut off at their limits
pub run-made : (rows : List ℤ) (o : Outcome) (n : ℕ) (values : List ℤ) (marks states : List ℕ) (numbers : List ℤ) (counts output_marks old : List ℕ) {w : Writer}
    {T cut_values cut_numbers : List ℤ} {cut_marks cut_states cut_counts cut_output_marks : List ℕ}
    → T ≡ take 4096 rows → cut_values ≡ take 256 values → cut_marks ≡ take 256 marks → cut_states ≡ take (length T / 4) states → cut_numbers ≡ take 1024 numbers → cut_counts ≡ take 8 counts → cut_output_marks ≡ take 1024 output_marks
    → w ≡ printed_in (printed_lines (part_lines T o n (decoded cut_values cut_marks) (outputs_in (capacities T) cut_counts (decoded cut_numbers cut_output_marks)) cut_states)) old
    → w ≡ printed_in (printed_lines (end_lines (table_rows rows) o n (state_in (table_rows rows) values marks states numbers counts output_marks))) old
unfolding end_lines
run-made rows o n values marks states numbers counts output_marks old t v m s z k l e = rw (s, t, v, m, z, k, l) at e
