-- Examples of totals of ready steps and of traces.
use mathlib.Core.Path.{◌≡◌, refl}
use mathlib.Core.List.{List, [], ◌∷◌, ◌++◌}
use Prim.Native.Nat.{ℕ}
use Prim.Native.String.{String}
use lib.IntN.{ℤ}
use Rattle.meaning.specs.Texts.{bytes}
use Rattle.meaning.specs.declared.Answer.TheVariants.{Refused}
use Rattle.meaning.specs.TableBytes.{rows_of}
use Rattle.meaning.specs.Run.{run}
use Rattle.meaning.specs.Trace.{Shown, shown_from, trace, lists_fault, reply_to_bytes_traced}
use Rattle.meaning.proofs.ComputesAnswers.{computes_answers}

abbrev table : String → List ℤ
table rows = rows_of (bytes "kind,a,b,c\n" ++ bytes rows)

-- the totals after 0, 1, 2 and 3 steps, and what a run of three steps shows
abbrev totals : String → List ℕ
totals rows = (run (table rows) [] [] 0).ready ∷ (run (table rows) [] [] 1).ready ∷ (run (table rows) [] [] 2).ready ∷ (run (table rows) [] [] 3).ready ∷ []

abbrev shows : String → List ℕ → List Shown
shows rows choices = trace (table rows) [] choices 3

abbrev entry : ℕ → ℕ → Shown
entry n r = record { ready = n; row = r }

-- PAR of x := 1, y := 2 and z := 3
abbrev three : String
three = "1,1,0,0\n1,1,0,0\n1,1,0,0\n31,4,0,0\n40,5,8,0\n22,0,6,7\n10,0,0,0\n10,1,0,0\n40,9,12,0\n22,1,10,11\n10,0,0,0\n10,2,0,0\n40,13,-1,0\n22,2,14,15\n10,0,0,0\n10,3,0,0\n"

assignments :
    (totals three ≡ 3 ∷ 2 ∷ 1 ∷ 0 ∷ [])
    × (shows three [] ≡ entry 3 5 ∷ entry 2 9 ∷ entry 1 13 ∷ [])
    × (shows three (2 ∷ 3 ∷ []) ≡ entry 3 13 ∷ entry 2 9 ∷ entry 1 5 ∷ [])
unfolding computes_answers shown_from trace
assignments = (refl, refl, refl)

-- an ALT of two options 1 & SKIP, each with STOP: both are ready, and after one none is; the option's row orders its step
abbrev options : String
options = "34,1,0,0\n42,2,3,8\n20,0,0,0\n42,4,-1,5\n20,0,0,0\n43,6,7,0\n10,1,0,0\n21,0,0,0\n43,9,10,0\n10,1,0,0\n21,0,0,0\n"

alternatives : (totals options ≡ 2 ∷ 0 ∷ 0 ∷ 0 ∷ []) × (shows options (1 ∷ []) ≡ entry 2 3 ∷ [])
unfolding computes_answers shown_from trace
alternatives = (refl, refl)

-- PAR of c ! 1 and c ? x: a communication is one step, and its input orders it
abbrev communication : String
communication = "2,1,0,0\n1,1,0,0\n31,3,0,0\n40,4,7,0\n24,0,5,6\n10,0,0,0\n10,1,0,0\n40,8,-1,0\n23,0,9,10\n10,0,0,0\n11,1,11,0\n10,0,0,0\n"

passing : (totals communication ≡ 1 ∷ 0 ∷ 0 ∷ 0 ∷ []) × (shows communication [] ≡ entry 1 8 ∷ [])
unfolding computes_answers shown_from trace
passing = (refl, refl)

-- lists that are too short are refused before anything else, as buffers are
short : (reply_to_bytes_traced (bytes "1\n") [] [] 65537 (record { cells = []; marks = []; states = []; places = []; numbers = []; counts = []; output_marks = [] }) (record { ready_counts = 9 ∷ []; taken_rows = [] })).reply.answer ≡ Refused 1 0
unfolding computes_answers lists_fault reply_to_bytes_traced
short = refl
