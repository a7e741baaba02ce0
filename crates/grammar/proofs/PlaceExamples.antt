-- The place at which a text is refused, on the examples of the request.
use mathlib.Core.Path.{◌≡◌, refl}
use mathlib.Core.List.{List, [], ◌∷◌, map}
use mathlib.Core.Option.{Option, none, some}
use Prim.Native.String.{String}
use Prim.Native.Nat.{ℕ}
use Rattle.meaning.specs.Texts.{bytes}
use Rattle.meaning.specs.Lines.{text}
use Rattle.grammar.specs.Outline.{place}
use Rattle.grammar.specs.TextBytes.{grammar_fault}
use Rattle.grammar.proofs.ComputesText.{computes_text}

-- a text, and the line at which it is refused, or none
record Example : Type 0 where
  written : String
  place : Option ℕ

abbrev reads : String → Example
reads s = record { written = s; place = none }

abbrev refuses : String → ℕ → Example
refuses s n = record { written = s; place = some n }

abbrev examples : List Example
examples =
    reads "INT x:\nSEQ\n  x := 1\n  SKIP\n"
    ∷ reads "SEQ\n"
    ∷ refuses "" 1
    ∷ refuses "INT x:\n" 2
    ∷ refuses "WHILE 1\n" 2
    ∷ refuses "INT x:\nWHILE x\n" 3
    ∷ refuses "SKIP\nSKIP\n" 2
    ∷ refuses "SKIP\nINT x:\n" 2
    ∷ refuses "SEQ\n    SKIP\n" 2
    ∷ refuses "SEQ\n SKIP\n" 2
    ∷ refuses "IF\n  1\nSKIP\n" 3
    ∷ reads "IF\n  1\n    SKIP\n  0\n    STOP\n"
    ∷ refuses "IF\n  IF\n" 2
    ∷ refuses "SEQ\n\n  SKIP\n" 2
    ∷ refuses "ALT\n  SKIP\n" 2
    ∷ reads "ALT\n  c ? x\n    SKIP\n  x = 1 & c ? x\n    SKIP\n  1 & SKIP\n    STOP\n"
    ∷ refuses "SEQ\n  y := 1\n  SKIP SKIP\n" 3
    ∷ refuses "WHILE 1\n  SKIP\n  SKIP\n" 3
    ∷ refuses "SKIP" 1
    ∷ refuses "SEQ\n  SKIP" 2
    ∷ reads "SEQ\n  INT x:\n  x := 1\n  SKIP\n"
    ∷ reads "WHILE 1\n  INT x:\n  [2]INT y:\n  SKIP\n"
    ∷ refuses "SEQ\n  INT x:\n" 3
    ∷ refuses "SEQ\n  CHAN c:\n  SKIP\n" 2
    ∷ refuses "IF\n  INT x:\n" 2
    ∷ refuses "WHILE 1\n  INT x:\n  SKIP\n  SKIP\n" 4
    ∷ refuses "SEQ\n  INT x:\n    SKIP\n" 3
    ∷ reads "SEQ\n  INT x:\n  SEQ\n  SKIP\n"
    ∷ refuses "SEQ\n  INT x:\nSKIP\n" 3
    ∷ []

examples-placed : map (λ (e : Example). grammar_fault (bytes e.written)) examples ≡ map (λ (e : Example). e.place) examples
unfolding computes_text
examples-placed = refl
