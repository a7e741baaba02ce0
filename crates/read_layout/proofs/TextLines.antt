-- The lines of a text of the grammar: declarations and one process, each spelt by tokens.
use mathlib.Core.Path.{◌≡◌}
use mathlib.Core.List.{List}
use mathlib.Core.Option.{none}
use Prim.Native.Nat.{ℕ}
use Rattle.grammar.specs.Outline.{Trees}
use Rattle.grammar.specs.OutlineClaims.{Text}
use Rattle.grammar.specs.TextBytes.{grammar_fault}
use Rattle.grammar.specs.TextRows.{text_lines}
use Rattle.grammar.proofs.TextPlaces as places
use Rattle.read_counts.specs.OwnRows.{AllSpelt}
use Rattle.read_counts.proofs.RowsCounted.{all-spelt}

pub trees-read : (text : List ℕ) → grammar_fault text ≡ none → (ps : Trees) × Text (text_lines text) ps × AllSpelt (text_lines text)
trees-read text h = let (_, s, (ps, t)) = places.text-lines text h in (ps, t, all-spelt s)
