-- The lines that a text has from a place on, and the line of the grammar that a line is.
use mathlib.Core.Path.{◌≡◌, refl, ap, ◌∙◌}
use mathlib.Core.List.{List, [], ◌∷◌}
use mathlib.Core.Option.{Option, none, some}
use Prim.Native.Nat.{ℕ, suc}
use native.Mathlib.Omega.{arith}
use lib.ListN.{length, get_or, take, drop, drop_of_length-le}
use lib.Seq.{drop-cons, drop-drop}
use Rattle.meaning.specs.Lines as bytes
use Rattle.meaning.specs.Lines.{lines, line_size}
use Rattle.meaning.proofs.FirstLine.{lines-first}
use Rattle.grammar.specs.LineBytes.{lined_of, line_of_bytes}
use Rattle.grammar.specs.TextBytes.{read_line}
use Rattle.read_lines.specs.LineParts.{line_from, FirstLine, NoLine}
use Rattle.read_lines.specs.LineRead.{written_in, TextLine}

pub first-line : FirstLine
first-line text at h = begins (drop at text) (drop-cons text at 0 h) ∙ ap (λ (s : List ℕ). line_from text at ∷ lines s) (drop-drop (line_size (drop at text)) at text)
  where
    begins : (s : List ℕ) → s ≡ get_or text at 0 ∷ drop (suc at) text → lines s ≡ take (line_size s) s ∷ lines (drop (line_size s) s)
    begins [] i = absurd (let z : ◌≡◌ {A = ℕ} 0 (suc (length (drop (suc at) text))) = ap length i in omega arith)
    begins (b ∷ s) i = lines-first b s

pub no_line : NoLine
unfolding lines
no_line text at h = ap lines (drop_of_length-le text h)

pub text-line : TextLine
unfolding line_of_bytes
text-line line = go (bytes.text line)
  where
    go : (o : Option (List ℕ)) → read_line o ≡ lined_of (written_in o)
    go none = refl
    go (some t) = refl
