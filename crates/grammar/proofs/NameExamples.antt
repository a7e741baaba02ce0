-- The line at which names are not in order, on the examples of the request.
use mathlib.Core.Path.{◌≡◌, refl}
use mathlib.Core.List.{List, [], ◌∷◌, map}
use mathlib.Core.Option.{Option, none, some}
use Prim.Native.Nat.{ℕ}
use Prim.Native.String.{String}
use Rattle.meaning.specs.Texts.{bytes}
use Rattle.grammar.specs.Names.{names_fault}
use Rattle.grammar.specs.TextRows.{text_lines}
use Rattle.grammar.proofs.ComputesText.{computes_text}

-- a text, and the line at which it is refused by 13, or none
record Example : Type 0 where
  written : String
  place : Option ℕ

abbrev reads : String → Example
reads s = record { written = s; place = none }

abbrev refuses : String → ℕ → Example
refuses s n = record { written = s; place = some n }

abbrev examples : List Example
examples =
    reads "INT x:\nx := 1\n"
    ∷ refuses "INT x:\nx := y\n" 2
    ∷ refuses "INT x:\nX := 1\n" 2
    ∷ refuses "HOSTIN h:\nh ! 1\n" 2
    ∷ refuses "HOSTOUT 4 h:\nINT x:\nh ? x\n" 3
    ∷ refuses "CHAN c:\nc := 1\n" 2
    ∷ refuses "[2]INT a:\na := 1\n" 2
    ∷ reads "[2]INT a:\na[0] := a[1]\n"
    ∷ refuses "[0]INT x:\nx := 1\n" 2
    ∷ reads "[0]INT x:\nSKIP\n"
    ∷ refuses "INT x:\nCHAN x:\nSKIP\n" 2
    ∷ refuses "INT x:\nSEQ\n  y := 1\n  x ? x\n" 3
    ∷ refuses "SEQ\n  INT x:\n  SKIP\n  INT x:\n  SKIP\n" 4
    ∷ reads "SEQ\n  x := 1\n  INT x:\n  SKIP\n"
    ∷ refuses "CHAN c:\nINT x:\nALT\n  1 & c ? c\n    SKIP\n" 4
    ∷ refuses "[2]CHAN c:\nc ! 1\n" 2
    ∷ refuses "INT x:\nWHILE GIVEN y\n  SKIP\n" 2
    ∷ []

examples-named : map (λ (e : Example). names_fault (text_lines (bytes e.written))) examples ≡ map (λ (e : Example). e.place) examples
unfolding computes_text
examples-named = refl
