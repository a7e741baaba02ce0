-- The class of a line tells whether it is a declaration.
use mathlib.Core.Path.{◌≡◌, refl}
use mathlib.Core.Bool.{Bool, true, false}
use mathlib.Core.Option.{none, some}
use Prim.Native.Nat.{◌≤◌, ◌<◌}
use native.Mathlib.Omega.{arith}
use Rattle.meaning.specs.Basics.{if_else}
use Rattle.grammar.specs.Outline.{Declaration, declares_variable, OutlineLine, declare, skip, stop, assign, input, output, seq, par, ifs, alts, while, test, guarded, allowed}
use Rattle.grammar.specs.Classes.{variable-line, other-declaration, class_of}
use Rattle.grammar.specs.Names.{declaration_in}
use Rattle.read_classes.specs.ClassNumbers.{number_of}

-- a declaration's class is 1 or 2
pub declares-below : (x : OutlineLine) → number_of (class_of x) ≤ 2 → (d : Declaration) × (x ≡ declare d)
declares-below (declare d) h = (d, refl)
declares-below skip h = absurd (omega arith)
declares-below stop h = absurd (omega arith)
declares-below (assign a e) h = absurd (omega arith)
declares-below (input c a) h = absurd (omega arith)
declares-below (output c e) h = absurd (omega arith)
declares-below seq h = absurd (omega arith)
declares-below par h = absurd (omega arith)
declares-below ifs h = absurd (omega arith)
declares-below alts h = absurd (omega arith)
declares-below (while e) h = absurd (omega arith)
declares-below (test e) h = absurd (omega arith)
declares-below (guarded e c a) h = absurd (omega arith)
declares-below (allowed e) h = absurd (omega arith)

-- the others declare nothing
pub declares-not : (x : OutlineLine) → 2 < number_of (class_of x) → declaration_in x ≡ none
declares-not (declare d) h = go (declares_variable d) h
  where
    go : (t : Bool) → 2 < number_of (if_else t variable-line other-declaration) → some d ≡ none
    go true h = absurd (omega arith)
    go false h = absurd (omega arith)
declares-not skip h = refl
declares-not stop h = refl
declares-not (assign a e) h = refl
declares-not (input c a) h = refl
declares-not (output c e) h = refl
declares-not seq h = refl
declares-not par h = refl
declares-not ifs h = refl
declares-not alts h = refl
declares-not (while e) h = refl
declares-not (test e) h = refl
declares-not (guarded e c a) h = refl
declares-not (allowed e) h = refl
