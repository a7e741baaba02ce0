-- What is claimed of the reader of one line.
use Rattle.std.specs.Prelude.{◌≡◌, List}
use Rattle.std.proofs.Math.Option.{some}
use Rattle.grammar.specs.Grammar.{Token}
use Rattle.grammar.specs.Outline.{OutlineLine}
use Rattle.grammar.specs.Lines.{Spells, line_spelt}

abbrev pub LineComplete : Type 0
LineComplete = (ts : List Token) (x : OutlineLine) → Spells ts x → line_spelt ts ≡ some x

abbrev pub LineSound : Type 0
LineSound = (ts : List Token) (x : OutlineLine) → line_spelt ts ≡ some x → Spells ts x

abbrev pub LineUnique : Type 0
LineUnique = (ts : List Token) (x y : OutlineLine) → Spells ts x → Spells ts y → x ≡ y
