-- What is kept of each line of a text: what is expected where it stands, and its class, in one number.
use Rattle.std.specs.Prelude.{List, [], ◌∷◌, ℕ, ◌+◌, ◌*◌, length, eqb}
use Rattle.std.proofs.Math.Option.{Option, none, some}
use Rattle.meaning.specs.Basics.{if_else}
use Rattle.grammar.specs.Outline.{Lined, lined, Expect, members, choices, options, nothing, one-process, one-member, heads, Levels, accept_line, outset}
use Rattle.grammar.specs.Classes.{Class, class_of}
use Rattle.read_classes.specs.ClassNumbers.{number_of}

-- the number of what is expected
abbrev pub expect_number : Expect → ℕ
expect_number members = 0
expect_number choices = 1
expect_number options = 2
expect_number nothing = 3
expect_number one-process = 4
expect_number one-member = 5
expect_number heads = 6

-- a line's kind: what is expected where it stands, and its class
abbrev pub kind_number : Expect → Class → ℕ
kind_number e c = 16 * expect_number e + number_of c

-- what is expected at a level
unfoldable pub expect_at : Levels → ℕ → Expect
expect_at [] l = nothing
expect_at (e ∷ k) l = let rest = expect_at k l in if_else (eqb (length k) l) e rest

-- what is expected where a line stands, before what is expected where the later ones stand
abbrev pub expect_first : Option Levels → Lined → List Expect → List Expect
expect_first none y rest = []
expect_first (some k) (lined l x) rest = expect_at k l ∷ rest

-- what is expected where each line stands
unfoldable pub expectations : Option Levels → List Lined → List Expect
expectations o [] = []
expectations o (y ∷ ls) = let rest = expectations (accept_line o y) ls in expect_first o y rest

-- the kinds of some lines
unfoldable pub kinds_from : List Expect → List Lined → List ℕ
kinds_from [] ls = []
kinds_from (e ∷ es) [] = []
kinds_from (e ∷ es) (lined l x ∷ ls) = kind_number e (class_of x) ∷ kinds_from es ls

-- the kinds of the lines of a text
unfoldable pub kinds_of : List Lined → List ℕ
kinds_of ls = kinds_from (expectations outset ls) ls
