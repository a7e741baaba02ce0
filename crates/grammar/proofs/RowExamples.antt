-- The rows that texts are read to, on the examples of the request: each beside the table that it stands for.
use mathlib.Core.Path.{◌≡◌, refl}
use mathlib.Core.List.{List, [], ◌∷◌, map}
use Prim.Native.String.{String}
use Rattle.meaning.specs.Texts.{bytes}
use Rattle.meaning.specs.TableBytes.{rows_of}
use Rattle.grammar.specs.TextRows.{text_rows}
use Rattle.grammar.proofs.ComputesText.{computes_text}

-- a text, and the table that it is read to
record Example : Type 0 where
  written : String
  table : String

abbrev example : String → String → Example
example s t = record { written = s; table = t }

abbrev examples : List Example
examples =
    example "HOSTIN a:\nHOSTOUT 4 b:\nINT x:\nSEQ\n  a ? x\n  b ! x + 5\n"
    "kind,a,b,c\n2,1,1,0\n2,1,2,4\n1,1,0,0\n30,4,0,0\n40,5,9,0\n23,0,6,7\n10,0,0,0\n11,2,8,0\n10,0,0,0\n40,10,-1,0\n24,1,11,12\n10,0,0,0\n13,0,13,15\n11,2,14,0\n10,0,0,0\n10,5,0,0\n"
    ∷ example "INT x:\nIF\n  x = 1\n    SKIP\n  1\n    STOP\n"
    "kind,a,b,c\n1,1,0,0\n32,2,0,0\n41,3,4,7\n21,0,0,0\n41,5,-1,6\n20,0,0,0\n10,1,0,0\n13,8,8,10\n11,0,9,0\n10,0,0,0\n10,1,0,0\n"
    ∷ example "IF\n  1\n    SKIP\n  0\n    STOP\n"
    "kind,a,b,c\n32,1,0,0\n41,2,3,6\n21,0,0,0\n41,4,-1,5\n20,0,0,0\n10,0,0,0\n10,1,0,0\n"
    ∷ example "INT x:\nx:=x--5\n"
    "kind,a,b,c\n1,1,0,0\n22,0,2,3\n10,0,0,0\n13,1,4,6\n11,0,5,0\n10,0,0,0\n10,-5,0,0\n"
    ∷ example "INT x:\nx:=- 5\n"
    "kind,a,b,c\n1,1,0,0\n22,0,2,3\n10,0,0,0\n12,0,4,0\n10,5,0,0\n"
    ∷ example "INT x:\nx := 1 AND 2 AND 3\n"
    "kind,a,b,c\n1,1,0,0\n22,0,2,3\n10,0,0,0\n13,14,4,5\n10,1,0,0\n13,14,6,7\n10,2,0,0\n10,3,0,0\n"
    ∷ example "CHAN c:\nINT x:\nALT\n  c ? x\n    SKIP\n  x = 1 & c ? x\n    SKIP\n  1 & SKIP\n    STOP\n"
    "kind,a,b,c\n2,1,0,0\n1,1,0,0\n34,3,0,0\n42,4,5,21\n21,0,0,0\n42,6,7,12\n21,0,0,0\n42,8,-1,9\n20,0,0,0\n43,10,11,0\n10,1,0,0\n21,0,0,0\n43,13,17,0\n13,8,14,16\n11,1,15,0\n10,0,0,0\n10,1,0,0\n23,0,18,19\n10,0,0,0\n11,1,20,0\n10,0,0,0\n23,0,22,23\n10,0,0,0\n11,1,24,0\n10,0,0,0\n"
    ∷ example "SEQ\n  INT x:\n  SKIP\n  x := 1\n"
    "kind,a,b,c\n1,1,0,0\n30,2,0,0\n40,3,5,0\n35,0,4,0\n21,0,0,0\n40,6,-1,0\n22,0,7,8\n10,0,0,0\n10,1,0,0\n"
    ∷ example "INT y:\nSEQ\n  [2]INT a:\n  a[0] := y\n"
    "kind,a,b,c\n1,1,0,0\n1,2,0,0\n30,3,0,0\n40,4,-1,0\n35,1,5,0\n22,1,6,7\n10,0,0,0\n11,0,8,0\n10,0,0,0\n"
    ∷ example "WHILE 1\n  INT x:\n  INT y:\n  SKIP\n"
    "kind,a,b,c\n1,1,0,0\n1,1,0,0\n33,3,4,0\n10,1,0,0\n35,0,5,0\n35,1,6,0\n21,0,0,0\n"
    ∷ example "SEQ\n"
    "kind,a,b,c\n30,-1,0,0\n"
    ∷ []

examples-read : map (λ (e : Example). text_rows (bytes e.written)) examples ≡ map (λ (e : Example). rows_of (bytes e.table)) examples
unfolding computes_text
examples-read = refl
