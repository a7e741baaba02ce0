-- Examples: refusals with their places, computed from the definitions.
use mathlib.Core.Path.{◌≡◌, refl}
use mathlib.Core.List.{List, [], ◌∷◌, ◌++◌, map}
use mathlib.Core.Option.{Option, none, some}
use Prim.Native.Nat.{ℕ}
use Prim.Native.String.{String}
use lib.IntN.{ℤ, pos, negsuc}
use lib.ListN.{replicate}
use Rattle.meaning.specs.Texts.{bytes}
use Rattle.meaning.specs.Refusals.{Refusal}
use Rattle.meaning.specs.TableBytes.{rows_of, numbers_fault}
use Rattle.meaning.specs.Sheet.{sheet_fault, readings}
use Rattle.meaning.specs.Answers.{check, check_bytes}
use Rattle.meaning.proofs.ComputesAnswers.{computes_answers}

-- the table of some rows, by their text
abbrev table : String → List ℕ
table rows = bytes "kind,a,b,c\n" ++ bytes rows

-- refusal 10, beside the table of some rows
abbrev sheet_refused : String → String → Option Refusal
sheet_refused rows sheet = sheet_fault (rows_of (table rows)) (bytes sheet)

-- an example: a text and what it is answered by
pub record Example : Type 0 where
  pub given : List ℕ
  pub answer : Option Refusal

abbrev ex : List ℕ → Option Refusal → Example
ex t a = record { given = t; answer = a }

abbrev examples : List Example
examples =
    ex [] (some (2, 1))
    ∷ ex (bytes "kind,a,b,c\n") (some (5, 0))
    ∷ ex (bytes "kind,a,b,c") (some (2, 1))
    ∷ ex (table "20,0,0,0") (some (2, 2))
    ∷ ex (table "20,0,0,0\n\n") (some (2, 3))
    ∷ ex (table "20,0,0,-0\n") (some (2, 2))
    ∷ ex (table "20,0,00,0\n") (some (2, 2))
    ∷ ex (table "20,0,+1,0\n") (some (2, 2))
    ∷ ex (table "20,0,,0\n") (some (2, 2))
    ∷ ex (table "20,0,0\n") (some (2, 2))
    ∷ ex (table "10,2147483648,0,0\n") (some (2, 2))
    ∷ ex (table "10,-2147483649,0,0\n") (some (2, 2))
    ∷ ex (table "10,99999999999999999999,0,0\n") (some (2, 2))
    ∷ ex (table "10,-2147483648,0,0\n") (some (5, 0))
    ∷ ex (table "22,1,2,3\n1,1,0,0\n10,0,0,0\n10,5,0,0\n") (some (4, 0))
    ∷ ex (table "33,-1,1,0\n21,0,0,0\n") (some (5, 0))
    ∷ ex (table "30,0,0,0\n") (some (5, 0))
    ∷ ex (table "33,-1,1,0\n21,0,0,7\n") (some (4, 1))
    ∷ ex (table "30,1,0,0\n40,2,-1,0\n33,3,4,0\n12,0,2,0\n21,0,0,0\n") (some (5, 3))
    ∷ ex (table "33,1,2,0\n13,0,3,3\n21,0,0,0\n10,1,0,0\n") (some (5, 3))
    ∷ ex (table "21,0,0,0\n10,1,0,0\n") (some (5, 1))
    ∷ ex (table "34,1,0,0\n42,2,-1,3\n21,0,0,0\n21,0,0,0\n") (some (5, 1))
    ∷ ex (table "30,1,0,0\n40,3,2,0\n40,4,-1,0\n33,5,6,0\n21,0,0,0\n10,0,0,0\n21,0,0,0\n") none
    ∷ ex (table "2,64,0,0\n2,64,0,0\n2,64,0,0\n2,64,0,0\n2,1,1,0\n21,0,0,0\n") (some (6, 4))
    ∷ ex (table "1,64,0,0\n1,64,0,0\n1,64,0,0\n1,64,0,0\n21,0,0,0\n") none
    ∷ ex (table "2,1,2,256\n2,1,2,256\n2,1,2,256\n2,1,2,256\n2,1,2,0\n21,0,0,0\n") none
    ∷ ex (table "2,1,2,256\n2,1,2,256\n2,1,2,256\n2,1,2,256\n2,1,2,0\n2,1,2,1\n21,0,0,0\n") (some (6, 5))
    ∷ ex (table "1,1,0,0\n35,0,2,0\n21,0,0,0\n") (some (14, 1))
    ∷ ex (table "1,1,0,0\n30,2,0,0\n40,4,3,0\n40,5,-1,0\n35,0,6,0\n35,0,7,0\n21,0,0,0\n21,0,0,0\n") (some (14, 5))
    ∷ ex (table "1,1,0,0\n30,2,0,0\n40,3,5,0\n35,0,4,0\n21,0,0,0\n40,6,-1,0\n22,0,7,8\n10,0,0,0\n10,1,0,0\n") (some (14, 6))
    ∷ ex (table "1,1,0,0\n1,1,0,0\n30,3,0,0\n40,4,6,0\n35,0,5,0\n21,0,0,0\n40,7,-1,0\n22,1,8,9\n10,0,0,0\n11,0,10,0\n10,0,0,0\n") (some (14, 9))
    ∷ ex (table "1,1,0,0\n31,2,0,0\n40,3,6,0\n22,0,4,5\n10,0,0,0\n10,1,0,0\n40,7,-1,0\n35,0,8,0\n22,0,9,10\n10,0,0,0\n10,1,0,0\n") (some (14, 3))
    ∷ ex (table "1,64,0,0\n1,64,0,0\n1,64,0,0\n1,64,0,0\n1,1,0,0\n35,0,6,0\n21,0,0,0\n") (some (6, 4))
    ∷ ex (table "2,1,0,0\n30,2,0,0\n40,3,-1,0\n35,0,4,0\n21,0,0,0\n") (some (4, 3))
    ∷ ex (table "1,1,0,0\n33,2,3,0\n10,1,0,0\n35,0,4,0\n22,0,5,6\n10,0,0,0\n10,1,0,0\n") none
    ∷ []

-- every example is answered so
agree : map (λ e. check_bytes e.given) examples ≡ map (λ e. e.answer) examples
unfolding computes_answers
agree = refl

-- sheets beside tables with no channel, one and two channels from the host
abbrev none_rows : String
none_rows = "20,0,0,0\n"

abbrev one-row : String
one-row = "2,1,1,0\n20,0,0,0\n"

abbrev two-rows : String
two-rows = "2,1,1,0\n1,1,0,0\n2,1,1,0\n20,0,0,0\n"

-- the readings of a sheet
abbrev readings_in : String → String → List (List (Option ℤ))
readings_in rows sheet = readings (rows_of (table rows)) (bytes sheet)

sheets :
    (sheet_refused none_rows "\n" ≡ none)
    × (sheet_refused none_rows "\n\n" ≡ some (10, 2))
    × (sheet_refused none_rows "0\n" ≡ some (10, 1))
    × (sheet_refused one-row "0\n120\n\n" ≡ none)
    × (sheet_refused one-row "0" ≡ some (10, 1))
    × (sheet_refused one-row "0\n1,2\n" ≡ some (10, 2))
    × (sheet_refused one-row "0\n1\n-0\n" ≡ some (10, 3))
    × (sheet_refused two-rows "0,2\n,\n" ≡ none)
    × (sheet_refused two-rows "0,2\n\n" ≡ some (10, 2))
    × (sheet_refused two-rows "2,0\n" ≡ some (10, 1))
unfolding computes_answers
sheets = (refl, refl, refl, refl, refl, refl, refl, refl, refl, refl)

absent : readings_in two-rows "0,2\n1,\n,-4\n" ≡ (some (pos 1) ∷ none ∷ []) ∷ (none ∷ some (negsuc 3) ∷ []) ∷ []
unfolding computes_answers
absent = refl

-- rows lent as numbers
lent_rows :
    (numbers_fault [] ≡ none)
    × (numbers_fault (replicate 5 (pos 0)) ≡ some (3, 1))
    × (numbers_fault (replicate 4096 (pos 0)) ≡ none)
    × (numbers_fault (replicate 4097 (pos 0)) ≡ some (3, 1024))
    × (numbers_fault (replicate 4100 (pos 0)) ≡ some (3, 1024))
unfolding numbers_fault
lent_rows = (refl, refl, refl, refl, refl)

-- a WHILE with a literal, lent as numbers: "value out of range" outside 32 bits
abbrev while_rows : ℤ → List ℤ
while_rows z = pos 33 ∷ pos 1 ∷ pos 2 ∷ pos 0 ∷ pos 10 ∷ z ∷ pos 0 ∷ pos 0 ∷ pos 21 ∷ pos 0 ∷ pos 0 ∷ pos 0 ∷ []

literals :
    (check (while_rows (pos 2147483647)) ≡ none)
    × (check (while_rows (pos 2147483648)) ≡ some (4, 1))
    × (check (while_rows (negsuc 2147483647)) ≡ none)
    × (check (while_rows (negsuc 2147483648)) ≡ some (4, 1))
unfolding computes_answers
literals = (refl, refl, refl, refl)
