-- The marked cases (●), the run on paper and cases of requests 01 and 07: whole sheets, each with the answer that the paper expects, the state that is left and what
-- the sheet runner prints. Then tables of request 03, each with its verdict and the count beside it.
use Rattle.std.specs.Prelude.{◌≡◌, List, [], ◌∷◌, ◌++◌, map, ℕ, pos, negsuc}
use Rattle.std.proofs.Math.Option.{none, some}
use Prim.Native.String.{String}
use Rattle.meaning.specs.declared.Outcome.{Outcome}
use Rattle.meaning.specs.declared.Outcome.TheVariants.{Ended, Stuck, Broken}
use Rattle.meaning.specs.declared.Verdict.{Verdict}
use Rattle.meaning.specs.declared.Verdict.TheVariants.{Accepted, Rejected}
use Rattle.meaning.specs.declared.Checked.{Checked}
use Rattle.meaning.specs.Texts.{bytes}
use Rattle.meaning.specs.TableBytes.{header}
use Rattle.meaning.specs.Values.{Message}
use Rattle.meaning.specs.State.{State}
use Rattle.meaning.specs.Answers.{Result, refused, ran, result_of_bytes, check_bytes_counted}
use Rattle.meaning.specs.Runner.{separator, runner}

-- a sheet: the table's rows and the readings as texts, the budget, and what is expected; what the sheet runner prints for it
pub record MarkedCase : Type 0 where
  pub rows : String
  pub readings : String
  pub budget : ℕ
  pub expected : Result
  pub prints : String

abbrev pub marked_case : String → String → ℕ → Result → String → MarkedCase
marked_case rows readings budget expected prints = record { rows = rows; readings = readings; budget = budget; expected = expected; prints = prints }

-- a state by its row states, cells, places in the readings and output lists
abbrev pub left : List ℕ → List Message → List ℕ → List (List Message) → State
left states cells places outputs = record { states = states; store = record { cells = cells; places = places; outputs = outputs } }

-- a run that ends at rest so, after so many steps, in this state: no step is ready
abbrev pub at_end : Outcome → ℕ → State → Result
at_end outcome steps state = ran (record { outcome = outcome; steps = steps; ready = 0; state = state })

-- the answer to a case, with no choices
unfoldable pub answered : MarkedCase → Result
answered e = result_of_bytes (header ++ bytes e.rows) (bytes e.readings) [] e.budget

-- what the sheet runner prints for an entry: table, the line `=`, readings
unfoldable pub printed_for : MarkedCase → List ℕ
printed_for e = runner ((header ++ bytes e.rows) ++ (separator ++ bytes e.readings))

abbrev pub marked_cases : List MarkedCase
marked_cases =
    -- the run on paper
    marked_case "2,1,1,0\n2,1,2,4\n1,1,0,0\n30,4,0,0\n40,5,9,0\n23,0,6,7\n10,0,0,0\n11,2,8,0\n10,0,0,0\n40,10,-1,0\n24,1,11,12\n10,0,0,0\n13,0,13,15\n11,2,14,0\n10,0,0,0\n10,5,0,0\n"
    "0\n120\n" 65536
    (at_end Ended 2 (left (0 ∷ 0 ∷ 0 ∷ 2 ∷ 0 ∷ 2 ∷ 0 ∷ 0 ∷ 0 ∷ 0 ∷ 2 ∷ 0 ∷ 0 ∷ 0 ∷ 0 ∷ 0 ∷ []) (some (pos 120) ∷ []) (1 ∷ []) ((some (pos 125) ∷ []) ∷ [])))
    "what,name,at,value\nended,0,0,2\nvar,2,0,120\nout,1,0,125\n"
    -- the same with an absent reading
    ∷ marked_case "2,1,1,0\n2,1,2,4\n1,1,0,0\n30,4,0,0\n40,5,9,0\n23,0,6,7\n10,0,0,0\n11,2,8,0\n10,0,0,0\n40,10,-1,0\n24,1,11,12\n10,0,0,0\n13,0,13,15\n11,2,14,0\n10,0,0,0\n10,5,0,0\n"
    "0\n\n" 65536
    (at_end Broken 2 (left (0 ∷ 0 ∷ 0 ∷ 1 ∷ 0 ∷ 2 ∷ 0 ∷ 0 ∷ 0 ∷ 0 ∷ 11 ∷ 0 ∷ 0 ∷ 0 ∷ 0 ∷ 0 ∷ []) (none ∷ []) (1 ∷ []) ([] ∷ [])))
    "what,name,at,value\nbroken,0,0,2\nvar,2,0,\nstop,10,0,1\n"
    -- −7 / 2 is −3
    ∷ marked_case "1,1,0,0\n22,0,2,3\n10,0,0,0\n13,3,4,5\n10,-7,0,0\n10,2,0,0\n"
    "\n" 65536
    (at_end Ended 1 (left (0 ∷ 2 ∷ 0 ∷ 0 ∷ 0 ∷ 0 ∷ []) (some (negsuc 2) ∷ []) [] []))
    "what,name,at,value\nended,0,0,1\nvar,0,0,-3\n"
    -- −7 REM 2 is −1
    ∷ marked_case "1,1,0,0\n22,0,2,3\n10,0,0,0\n13,4,4,5\n10,-7,0,0\n10,2,0,0\n"
    "\n" 65536
    (at_end Ended 1 (left (0 ∷ 2 ∷ 0 ∷ 0 ∷ 0 ∷ 0 ∷ []) (some (negsuc 0) ∷ []) [] []))
    "what,name,at,value\nended,0,0,1\nvar,0,0,-1\n"
    -- −2147483648 REM −1 is 0
    ∷ marked_case "1,1,0,0\n22,0,2,3\n10,0,0,0\n13,4,4,5\n10,-2147483648,0,0\n10,-1,0,0\n"
    "\n" 65536
    (at_end Ended 1 (left (0 ∷ 2 ∷ 0 ∷ 0 ∷ 0 ∷ 0 ∷ []) (some (pos 0) ∷ []) [] []))
    "what,name,at,value\nended,0,0,1\nvar,0,0,0\n"
    -- with / reason 3
    ∷ marked_case "1,1,0,0\n22,0,2,3\n10,0,0,0\n13,3,4,5\n10,-2147483648,0,0\n10,-1,0,0\n"
    "\n" 65536
    (at_end Broken 1 (left (0 ∷ 13 ∷ 0 ∷ 0 ∷ 0 ∷ 0 ∷ []) (none ∷ []) [] []))
    "what,name,at,value\nbroken,0,0,1\nvar,0,0,\nstop,1,0,3\n"
    -- 2147483647 + 1 reason 3
    ∷ marked_case "1,1,0,0\n22,0,2,3\n10,0,0,0\n13,0,4,5\n10,2147483647,0,0\n10,1,0,0\n"
    "\n" 65536
    (at_end Broken 1 (left (0 ∷ 13 ∷ 0 ∷ 0 ∷ 0 ∷ 0 ∷ []) (none ∷ []) [] []))
    "what,name,at,value\nbroken,0,0,1\nvar,0,0,\nstop,1,0,3\n"
    -- PLUS gives −2147483648
    ∷ marked_case "1,1,0,0\n22,0,2,3\n10,0,0,0\n13,5,4,5\n10,2147483647,0,0\n10,1,0,0\n"
    "\n" 65536
    (at_end Ended 1 (left (0 ∷ 2 ∷ 0 ∷ 0 ∷ 0 ∷ 0 ∷ []) (some (negsuc 2147483647) ∷ []) [] []))
    "what,name,at,value\nended,0,0,1\nvar,0,0,-2147483648\n"
    -- 0 AND (1/0) is 0
    ∷ marked_case "1,1,0,0\n22,0,2,3\n10,0,0,0\n13,14,4,5\n10,0,0,0\n13,3,6,7\n10,1,0,0\n10,0,0,0\n"
    "\n" 65536
    (at_end Ended 1 (left (0 ∷ 2 ∷ 0 ∷ 0 ∷ 0 ∷ 0 ∷ 0 ∷ 0 ∷ []) (some (pos 0) ∷ []) [] []))
    "what,name,at,value\nended,0,0,1\nvar,0,0,0\n"
    -- PAR of x:=1 and y:=x is 7
    ∷ marked_case "1,1,0,0\n1,1,0,0\n31,3,0,0\n40,4,7,0\n22,0,5,6\n10,0,0,0\n10,1,0,0\n40,8,-1,0\n22,1,9,10\n10,0,0,0\n11,0,11,0\n10,0,0,0\n"
    "\n" 65536
    (refused (7, 2))
    "refused,7,2,0\n"
    -- PAR of a[0]:=1 and a[1]:=2 is accepted
    ∷ marked_case "1,2,0,0\n31,2,0,0\n40,3,6,0\n22,0,4,5\n10,0,0,0\n10,1,0,0\n40,7,-1,0\n22,0,8,9\n10,1,0,0\n10,2,0,0\n"
    "\n" 65536
    (at_end Ended 2 (left (0 ∷ 2 ∷ 0 ∷ 2 ∷ 0 ∷ 0 ∷ 0 ∷ 2 ∷ 0 ∷ 0 ∷ []) (some (pos 1) ∷ some (pos 2) ∷ []) [] []))
    "what,name,at,value\nended,0,0,2\nvar,0,0,1\nvar,0,1,2\n"
    -- PAR of c!1 and c?x ends in 1 step
    ∷ marked_case "1,1,0,0\n2,1,0,0\n31,3,0,0\n40,4,7,0\n24,1,5,6\n10,0,0,0\n10,1,0,0\n40,8,-1,0\n23,1,9,10\n10,0,0,0\n11,0,11,0\n10,0,0,0\n"
    "\n" 65536
    (at_end Ended 1 (left (0 ∷ 0 ∷ 2 ∷ 0 ∷ 2 ∷ 0 ∷ 0 ∷ 0 ∷ 2 ∷ 0 ∷ 0 ∷ 0 ∷ []) (some (pos 1) ∷ []) [] []))
    "what,name,at,value\nended,0,0,1\nvar,0,0,1\n"
    -- SEQ of the same is stuck at 0
    ∷ marked_case "1,1,0,0\n2,1,0,0\n30,3,0,0\n40,4,7,0\n24,1,5,6\n10,0,0,0\n10,1,0,0\n40,8,-1,0\n23,1,9,10\n10,0,0,0\n11,0,11,0\n10,0,0,0\n"
    "\n" 65536
    (at_end Stuck 0 (left (0 ∷ 0 ∷ 1 ∷ 0 ∷ 1 ∷ 0 ∷ 0 ∷ 0 ∷ 0 ∷ 0 ∷ 0 ∷ 0 ∷ []) (none ∷ []) [] []))
    "what,name,at,value\nstuck,0,0,0\nvar,0,0,\n"
    -- An empty PAR with budget 0 is ended
    ∷ marked_case "31,-1,0,0\n"
    "\n" 0
    (at_end Ended 0 (left (2 ∷ []) [] [] []))
    "what,name,at,value\nended,0,0,0\n"
    -- request 01: the run on paper with b!x and an absent reading: the absence is handed on
    ∷ marked_case "2,1,1,0\n2,1,2,4\n1,1,0,0\n30,4,0,0\n40,5,9,0\n23,0,6,7\n10,0,0,0\n11,2,8,0\n10,0,0,0\n40,10,-1,0\n24,1,11,12\n10,0,0,0\n11,2,13,0\n10,0,0,0\n"
    "0\n\n" 65536
    (at_end Ended 2 (left (0 ∷ 0 ∷ 0 ∷ 2 ∷ 0 ∷ 2 ∷ 0 ∷ 0 ∷ 0 ∷ 0 ∷ 2 ∷ 0 ∷ 0 ∷ 0 ∷ []) (none ∷ []) (1 ∷ []) ((none ∷ []) ∷ [])))
    "what,name,at,value\nended,0,0,2\nvar,2,0,\nout,1,0,\n"
    -- the same with a reading of 0
    ∷ marked_case "2,1,1,0\n2,1,2,4\n1,1,0,0\n30,4,0,0\n40,5,9,0\n23,0,6,7\n10,0,0,0\n11,2,8,0\n10,0,0,0\n40,10,-1,0\n24,1,11,12\n10,0,0,0\n11,2,13,0\n10,0,0,0\n"
    "0\n0\n" 65536
    (at_end Ended 2 (left (0 ∷ 0 ∷ 0 ∷ 2 ∷ 0 ∷ 2 ∷ 0 ∷ 0 ∷ 0 ∷ 0 ∷ 2 ∷ 0 ∷ 0 ∷ 0 ∷ []) (some (pos 0) ∷ []) (1 ∷ []) ((some (pos 0) ∷ []) ∷ [])))
    "what,name,at,value\nended,0,0,2\nvar,2,0,0\nout,1,0,0\n"
    -- with b!GIVEN x, after an absent reading, is 0
    ∷ marked_case "2,1,1,0\n2,1,2,4\n1,1,0,0\n30,4,0,0\n40,5,9,0\n23,0,6,7\n10,0,0,0\n11,2,8,0\n10,0,0,0\n40,10,-1,0\n24,1,11,12\n10,0,0,0\n12,2,13,0\n11,2,14,0\n10,0,0,0\n"
    "0\n\n" 65536
    (at_end Ended 2 (left (0 ∷ 0 ∷ 0 ∷ 2 ∷ 0 ∷ 2 ∷ 0 ∷ 0 ∷ 0 ∷ 0 ∷ 2 ∷ 0 ∷ 0 ∷ 0 ∷ 0 ∷ []) (none ∷ []) (1 ∷ []) ((some (pos 0) ∷ []) ∷ [])))
    "what,name,at,value\nended,0,0,2\nvar,2,0,\nout,1,0,0\n"
    -- PAR of c!x, x unset, and SEQ of y:=7 and c?y: y becomes unset
    ∷ marked_case "1,1,0,0\n1,1,0,0\n2,1,0,0\n31,4,0,0\n40,5,9,0\n24,2,6,7\n10,0,0,0\n11,0,8,0\n10,0,0,0\n40,10,-1,0\n30,11,0,0\n40,12,15,0\n22,1,13,14\n10,0,0,0\n10,7,0,0\n40,16,-1,0\n23,2,17,18\n10,0,0,0\n11,1,19,0\n10,0,0,0\n"
    "\n" 65536
    (at_end Ended 2 (left (0 ∷ 0 ∷ 0 ∷ 2 ∷ 0 ∷ 2 ∷ 0 ∷ 0 ∷ 0 ∷ 0 ∷ 2 ∷ 0 ∷ 2 ∷ 0 ∷ 0 ∷ 0 ∷ 2 ∷ 0 ∷ 0 ∷ 0 ∷ []) (none ∷ none ∷ []) [] []))
    "what,name,at,value\nended,0,0,2\nvar,0,0,\nvar,1,0,\n"
    -- PAR of c!x, x unset, and ALT of c?y SKIP ends in 1 step
    ∷ marked_case "1,1,0,0\n1,1,0,0\n2,1,0,0\n31,4,0,0\n40,5,9,0\n24,2,6,7\n10,0,0,0\n11,0,8,0\n10,0,0,0\n40,10,-1,0\n34,11,0,0\n42,12,-1,13\n21,0,0,0\n23,2,14,15\n10,0,0,0\n11,1,16,0\n10,0,0,0\n"
    "\n" 65536
    (at_end Ended 1 (left (0 ∷ 0 ∷ 0 ∷ 2 ∷ 0 ∷ 2 ∷ 0 ∷ 0 ∷ 0 ∷ 0 ∷ 2 ∷ 0 ∷ 2 ∷ 0 ∷ 0 ∷ 0 ∷ 0 ∷ []) (none ∷ none ∷ []) [] []))
    "what,name,at,value\nended,0,0,1\nvar,0,0,\nvar,1,0,\n"
    -- b!x with capacity 0, x unset, is stuck at 0
    ∷ marked_case "2,1,2,0\n1,1,0,0\n24,0,3,4\n10,0,0,0\n11,1,5,0\n10,0,0,0\n"
    "\n" 65536
    (at_end Stuck 0 (left (0 ∷ 0 ∷ 1 ∷ 0 ∷ 0 ∷ 0 ∷ []) (none ∷ []) [] ([] ∷ [])))
    "what,name,at,value\nstuck,0,0,0\nvar,1,0,\n"
    -- y:=GIVEN x[1], x of 1, is reason 2
    ∷ marked_case "1,1,0,0\n1,1,0,0\n22,1,3,4\n10,0,0,0\n12,2,5,0\n11,0,6,0\n10,1,0,0\n"
    "\n" 65536
    (at_end Broken 1 (left (0 ∷ 0 ∷ 12 ∷ 0 ∷ 0 ∷ 0 ∷ 0 ∷ []) (none ∷ none ∷ []) [] []))
    "what,name,at,value\nbroken,0,0,1\nvar,0,0,\nvar,1,0,\nstop,2,0,2\n"
    -- GIVEN of a literal is 4
    ∷ marked_case "1,1,0,0\n22,0,2,3\n10,0,0,0\n12,2,4,0\n10,5,0,0\n"
    "\n" 65536
    (refused (4, 3))
    "refused,4,3,0\n"
    -- PAR of a[0]:=1 and a[1]:=GIVEN a[0] is 7
    ∷ marked_case "1,2,0,0\n31,2,0,0\n40,3,6,0\n22,0,4,5\n10,0,0,0\n10,1,0,0\n40,7,-1,0\n22,0,8,9\n10,1,0,0\n12,2,10,0\n11,0,11,0\n10,0,0,0\n"
    "\n" 65536
    (refused (7, 1))
    "refused,7,1,0\n"
    -- request 07: PAR of a[1 + 1]:=1 and a[3]:=2 is accepted: a constant subscript counts as its value
    ∷ marked_case "1,4,0,0\n31,2,0,0\n40,3,8,0\n22,0,4,7\n13,0,5,6\n10,1,0,0\n10,1,0,0\n10,1,0,0\n40,9,-1,0\n22,0,10,11\n10,3,0,0\n10,2,0,0\n"
    "\n" 65536
    (at_end Ended 2 (left (0 ∷ 2 ∷ 0 ∷ 2 ∷ 0 ∷ 0 ∷ 0 ∷ 0 ∷ 0 ∷ 2 ∷ 0 ∷ 0 ∷ []) (none ∷ none ∷ some (pos 1) ∷ some (pos 2) ∷ []) [] []))
    "what,name,at,value\nended,0,0,2\nvar,0,0,\nvar,0,1,\nvar,0,2,1\nvar,0,3,2\n"
    -- PAR of a[1 + 1]:=1 and a[2]:=2 is 7
    ∷ marked_case "1,4,0,0\n31,2,0,0\n40,3,8,0\n22,0,4,7\n13,0,5,6\n10,1,0,0\n10,1,0,0\n10,1,0,0\n40,9,-1,0\n22,0,10,11\n10,2,0,0\n10,2,0,0\n"
    "\n" 65536
    (refused (7, 1))
    "refused,7,1,0\n"
    -- PAR of a[1 / 0]:=1 and a[0]:=2 is 7: without a value it counts as every number
    ∷ marked_case "1,4,0,0\n31,2,0,0\n40,3,8,0\n22,0,4,7\n13,3,5,6\n10,1,0,0\n10,0,0,0\n10,1,0,0\n40,9,-1,0\n22,0,10,11\n10,0,0,0\n10,2,0,0\n"
    "\n" 65536
    (refused (7, 1))
    "refused,7,1,0\n"
    -- PAR of a[9 + 9]:=1 and a[0]:=2 is accepted: outside the array it counts for nothing, and stops with reason 2
    ∷ marked_case "1,4,0,0\n31,2,0,0\n40,3,8,0\n22,0,4,7\n13,0,5,6\n10,9,0,0\n10,9,0,0\n10,1,0,0\n40,9,-1,0\n22,0,10,11\n10,0,0,0\n10,2,0,0\n"
    "\n" 65536
    (at_end Broken 2 (left (0 ∷ 1 ∷ 0 ∷ 12 ∷ 0 ∷ 0 ∷ 0 ∷ 0 ∷ 0 ∷ 2 ∷ 0 ∷ 0 ∷ []) (some (pos 2) ∷ none ∷ none ∷ none ∷ []) [] []))
    "what,name,at,value\nbroken,0,0,2\nvar,0,0,2\nvar,0,1,\nvar,0,2,\nvar,0,3,\nstop,3,0,2\n"
    -- PAR of a[-(1)]:=1 and a[1]:=2 is accepted, and stops with reason 2
    ∷ marked_case "1,4,0,0\n31,2,0,0\n40,3,7,0\n22,0,4,6\n12,0,5,0\n10,1,0,0\n10,1,0,0\n40,8,-1,0\n22,0,9,10\n10,1,0,0\n10,2,0,0\n"
    "\n" 65536
    (at_end Broken 2 (left (0 ∷ 1 ∷ 0 ∷ 12 ∷ 0 ∷ 0 ∷ 0 ∷ 0 ∷ 2 ∷ 0 ∷ 0 ∷ []) (none ∷ some (pos 2) ∷ none ∷ none ∷ []) [] []))
    "what,name,at,value\nbroken,0,0,2\nvar,0,0,\nvar,0,1,2\nvar,0,2,\nvar,0,3,\nstop,3,0,2\n"
    -- PAR of a[0 AND (1 / 0)]:=1 and a[1]:=2 is accepted: AND does not look at the second
    ∷ marked_case "1,4,0,0\n31,2,0,0\n40,3,10,0\n22,0,4,9\n13,14,5,6\n10,0,0,0\n13,3,7,8\n10,1,0,0\n10,0,0,0\n10,1,0,0\n40,11,-1,0\n22,0,12,13\n10,1,0,0\n10,2,0,0\n"
    "\n" 65536
    (at_end Ended 2 (left (0 ∷ 2 ∷ 0 ∷ 2 ∷ 0 ∷ 0 ∷ 0 ∷ 0 ∷ 0 ∷ 0 ∷ 0 ∷ 2 ∷ 0 ∷ 0 ∷ []) (some (pos 1) ∷ some (pos 2) ∷ none ∷ none ∷ []) [] []))
    "what,name,at,value\nended,0,0,2\nvar,0,0,1\nvar,0,1,2\nvar,0,2,\nvar,0,3,\n"
    -- PAR of a[2147483647 + 1]:=1 and a[0]:=1 is 7
    ∷ marked_case "1,4,0,0\n31,2,0,0\n40,3,8,0\n22,0,4,7\n13,0,5,6\n10,2147483647,0,0\n10,1,0,0\n10,1,0,0\n40,9,-1,0\n22,0,10,11\n10,0,0,0\n10,1,0,0\n"
    "\n" 65536
    (refused (7, 1))
    "refused,7,1,0\n"
    -- with PLUS it is accepted: the value is outside the array
    ∷ marked_case "1,4,0,0\n31,2,0,0\n40,3,8,0\n22,0,4,7\n13,5,5,6\n10,2147483647,0,0\n10,1,0,0\n10,1,0,0\n40,9,-1,0\n22,0,10,11\n10,0,0,0\n10,1,0,0\n"
    "\n" 65536
    (at_end Broken 2 (left (0 ∷ 1 ∷ 0 ∷ 12 ∷ 0 ∷ 0 ∷ 0 ∷ 0 ∷ 0 ∷ 2 ∷ 0 ∷ 0 ∷ []) (some (pos 1) ∷ none ∷ none ∷ none ∷ []) [] []))
    "what,name,at,value\nbroken,0,0,2\nvar,0,0,1\nvar,0,1,\nvar,0,2,\nvar,0,3,\nstop,3,0,2\n"
    -- PAR of a[0 AND a[0]]:=1 and a[1]:=2 is 7: with an element it is no constant
    ∷ marked_case "1,4,0,0\n31,2,0,0\n40,3,9,0\n22,0,4,8\n13,14,5,6\n10,0,0,0\n11,0,7,0\n10,0,0,0\n10,1,0,0\n40,10,-1,0\n22,0,11,12\n10,1,0,0\n10,2,0,0\n"
    "\n" 65536
    (refused (7, 1))
    "refused,7,1,0\n"
    -- PAR of a[a[0] * 0]:=1 and a[1]:=2 is 7
    ∷ marked_case "1,4,0,0\n31,2,0,0\n40,3,9,0\n22,0,4,8\n13,2,5,7\n11,0,6,0\n10,0,0,0\n10,0,0,0\n10,1,0,0\n40,10,-1,0\n22,0,11,12\n10,1,0,0\n10,2,0,0\n"
    "\n" 65536
    (refused (7, 1))
    "refused,7,1,0\n"
    -- each of two writes to its neighbour: PAR of a[(0 + 1) REM 2]:=0 and a[(1 + 1) REM 2]:=1 is accepted
    ∷ marked_case "1,2,0,0\n31,2,0,0\n40,3,10,0\n22,0,4,9\n13,4,5,8\n13,0,6,7\n10,0,0,0\n10,1,0,0\n10,2,0,0\n10,0,0,0\n40,11,-1,0\n22,0,12,17\n13,4,13,16\n13,0,14,15\n10,1,0,0\n10,1,0,0\n10,2,0,0\n10,1,0,0\n"
    "\n" 65536
    (at_end Ended 2 (left (0 ∷ 2 ∷ 0 ∷ 2 ∷ 0 ∷ 0 ∷ 0 ∷ 0 ∷ 0 ∷ 0 ∷ 0 ∷ 2 ∷ 0 ∷ 0 ∷ 0 ∷ 0 ∷ 0 ∷ 0 ∷ []) (some (pos 1) ∷ some (pos 0) ∷ []) [] []))
    "what,name,at,value\nended,0,0,2\nvar,0,0,1\nvar,0,1,0\n"
    -- PAR of c[2 - 1]?x and c[0]?y is accepted, and stuck at 0
    ∷ marked_case "1,1,0,0\n1,1,0,0\n2,2,0,0\n31,4,0,0\n40,5,11,0\n23,2,6,9\n13,1,7,8\n10,2,0,0\n10,1,0,0\n11,0,10,0\n10,0,0,0\n40,12,-1,0\n23,2,13,14\n10,0,0,0\n11,1,15,0\n10,0,0,0\n"
    "\n" 65536
    (at_end Stuck 0 (left (0 ∷ 0 ∷ 0 ∷ 1 ∷ 0 ∷ 1 ∷ 0 ∷ 0 ∷ 0 ∷ 0 ∷ 0 ∷ 0 ∷ 1 ∷ 0 ∷ 0 ∷ 0 ∷ []) (none ∷ none ∷ []) [] []))
    "what,name,at,value\nstuck,0,0,0\nvar,0,0,\nvar,1,0,\n"
    -- PAR of y:=GIVEN a[1 + 1] and a[3]:=1 is accepted
    ∷ marked_case "1,4,0,0\n1,1,0,0\n31,3,0,0\n40,4,11,0\n22,1,5,6\n10,0,0,0\n12,2,7,0\n11,0,8,0\n13,0,9,10\n10,1,0,0\n10,1,0,0\n40,12,-1,0\n22,0,13,14\n10,3,0,0\n10,1,0,0\n"
    "\n" 65536
    (at_end Ended 2 (left (0 ∷ 0 ∷ 2 ∷ 0 ∷ 2 ∷ 0 ∷ 0 ∷ 0 ∷ 0 ∷ 0 ∷ 0 ∷ 0 ∷ 2 ∷ 0 ∷ 0 ∷ []) (none ∷ none ∷ none ∷ some (pos 1) ∷ some (pos 0) ∷ []) [] []))
    "what,name,at,value\nended,0,0,2\nvar,0,0,\nvar,0,1,\nvar,0,2,\nvar,0,3,1\nvar,1,0,0\n"
    ∷ []

-- every case is answered as the paper expects, and printed so byte for byte
abbrev pub MarkedCases : Type 0
MarkedCases = (map answered marked_cases ≡ map (λ (e : MarkedCase). e.expected) marked_cases) × (map printed_for marked_cases ≡ map (λ (e : MarkedCase). bytes e.prints) marked_cases)

-- a table of request 03: its rows as text, the verdict, and the count of pairs compared
pub record CountedCase : Type 0 where
  pub rows : String
  pub expected : Checked

abbrev pub counted_case : String → Verdict → ℕ → CountedCase
counted_case rows verdict pairs = record { rows = rows; expected = record { verdict = verdict; pairs = pairs } }

-- the answer to it
unfoldable pub checked_for : CountedCase → Checked
checked_for e = check_bytes_counted (header ++ bytes e.rows)

abbrev pub counted_cases : List CountedCase
counted_cases =
    -- PAR of x:=1 and y:=x: one pair
    counted_case "1,1,0,0\n1,1,0,0\n31,3,0,0\n40,4,7,0\n22,0,5,6\n10,0,0,0\n10,1,0,0\n40,8,-1,0\n22,1,9,10\n10,0,0,0\n11,0,11,0\n10,0,0,0\n" (Rejected 7 2) 1
    -- a 7 of the second and the third of three: (0,1), (0,2), (1,2)
    ∷ counted_case "1,1,0,0\n31,2,0,0\n40,3,4,0\n21,0,0,0\n40,5,8,0\n22,0,6,7\n10,0,0,0\n10,1,0,0\n40,9,-1,0\n22,0,10,11\n10,0,0,0\n10,2,0,0\n" (Rejected 7 1) 3
    -- a 7 of the first and the third: (0,1), (0,2)
    ∷ counted_case "1,1,0,0\n31,2,0,0\n40,3,6,0\n22,0,4,5\n10,0,0,0\n10,1,0,0\n40,7,8,0\n21,0,0,0\n40,9,-1,0\n22,0,10,11\n10,0,0,0\n10,2,0,0\n" (Rejected 7 1) 2
    -- an 8 of the first two: three pairs for cells, and one
    ∷ counted_case "1,1,0,0\n1,1,0,0\n2,1,0,0\n31,4,0,0\n40,5,9,0\n23,2,6,7\n10,0,0,0\n11,0,8,0\n10,0,0,0\n40,10,14,0\n23,2,11,12\n10,0,0,0\n11,1,13,0\n10,0,0,0\n40,15,-1,0\n21,0,0,0\n" (Rejected 8 3) 4
    -- an 8 of the first and the third
    ∷ counted_case "1,1,0,0\n1,1,0,0\n2,1,0,0\n31,4,0,0\n40,5,9,0\n23,2,6,7\n10,0,0,0\n11,0,8,0\n10,0,0,0\n40,10,11,0\n21,0,0,0\n40,12,-1,0\n23,2,13,14\n10,0,0,0\n11,1,15,0\n10,0,0,0\n" (Rejected 8 3) 5
    -- a 9 of the last pair: all nine
    ∷ counted_case "2,1,0,0\n31,2,0,0\n40,3,4,0\n21,0,0,0\n40,5,8,0\n24,0,6,7\n10,0,0,0\n10,1,0,0\n40,9,-1,0\n24,0,10,11\n10,0,0,0\n10,2,0,0\n" (Rejected 9 1) 9
    -- no clash: all pairs in each of the three sorts
    ∷ counted_case "1,1,0,0\n1,1,0,0\n1,1,0,0\n31,4,0,0\n40,5,8,0\n22,0,6,7\n10,0,0,0\n10,1,0,0\n40,9,12,0\n22,1,10,11\n10,0,0,0\n10,2,0,0\n40,13,-1,0\n22,2,14,15\n10,0,0,0\n10,3,0,0\n" Accepted 9
    -- a PAR of four, and a clash in a higher one: six pairs, and one
    ∷ counted_case "1,1,0,0\n30,2,0,0\n40,3,12,0\n31,4,0,0\n40,5,6,0\n21,0,0,0\n40,7,8,0\n21,0,0,0\n40,9,10,0\n21,0,0,0\n40,11,-1,0\n21,0,0,0\n40,13,-1,0\n31,14,0,0\n40,15,18,0\n22,0,16,17\n10,0,0,0\n10,1,0,0\n40,19,-1,0\n22,0,20,21\n10,0,0,0\n10,2,0,0\n" (Rejected 7 13) 7
    -- the same with the clash in the lower one
    ∷ counted_case "1,1,0,0\n30,2,0,0\n40,3,12,0\n31,4,0,0\n40,5,8,0\n22,0,6,7\n10,0,0,0\n10,1,0,0\n40,9,-1,0\n22,0,10,11\n10,0,0,0\n10,2,0,0\n40,13,-1,0\n31,14,0,0\n40,15,16,0\n21,0,0,0\n40,17,18,0\n21,0,0,0\n40,19,20,0\n21,0,0,0\n40,21,-1,0\n21,0,0,0\n" (Rejected 7 3) 1
    -- an 8 in the lower PAR and a 7 in the higher: the cells of both PARs are compared first
    ∷ counted_case "1,1,0,0\n1,1,0,0\n1,1,0,0\n2,1,0,0\n30,5,0,0\n40,6,17,0\n31,7,0,0\n40,8,12,0\n23,3,9,10\n10,0,0,0\n11,0,11,0\n10,0,0,0\n40,13,-1,0\n23,3,14,15\n10,0,0,0\n11,1,16,0\n10,0,0,0\n40,18,-1,0\n31,19,0,0\n40,20,23,0\n22,2,21,22\n10,0,0,0\n10,1,0,0\n40,24,-1,0\n22,2,25,26\n10,0,0,0\n10,2,0,0\n" (Rejected 7 18) 2
    -- a PAR of one: nothing to compare
    ∷ counted_case "30,1,0,0\n40,2,3,0\n21,0,0,0\n40,4,-1,0\n31,5,0,0\n40,6,-1,0\n21,0,0,0\n" Accepted 0
    -- a clash in a table that is refused before, as 6
    ∷ counted_case "1,64,0,0\n1,64,0,0\n1,64,0,0\n1,64,0,0\n1,1,0,0\n31,6,0,0\n40,7,10,0\n22,0,8,9\n10,0,0,0\n10,1,0,0\n40,11,-1,0\n22,0,12,13\n10,0,0,0\n10,2,0,0\n" (Rejected 6 4) 0
    -- as 14: a block as root
    ∷ counted_case "1,1,0,0\n35,0,2,0\n31,3,0,0\n40,4,7,0\n22,0,5,6\n10,0,0,0\n10,1,0,0\n40,8,-1,0\n22,0,9,10\n10,0,0,0\n10,2,0,0\n" (Rejected 14 1) 0
    ∷ []

-- every one is answered so
abbrev pub CountedCases : Type 0
CountedCases = map checked_for counted_cases ≡ map (λ (e : CountedCase). e.expected) counted_cases
