-- Examples of calls: what is answered, and what is then in the lent buffers.
use mathlib.Core.Path.{◌≡◌, refl}
use mathlib.Core.List.{[], ◌∷◌, ◌++◌}
use mathlib.Core.Option.{none, some}
use Prim.Native.Nat.{ℕ}
use Prim.Native.String.{String}
use lib.IntN.{pos}
use lib.ListN.{replicate}
use Rattle.meaning.specs.Texts.{bytes}
use Rattle.meaning.specs.declared.Answer.TheVariants.{Refused, Ran}
use Rattle.meaning.specs.declared.Outcome.TheVariants.{Ended, Stuck, Spent}
use Rattle.meaning.specs.Buffers.{Buffers}
use Rattle.meaning.specs.Decode.{decode}
use Rattle.meaning.specs.TableBytes.{rows_of}
use Rattle.meaning.specs.Answers.{Reply, reply, reply_to_bytes}
use Rattle.meaning.proofs.ComputesAnswers.{computes_answers}

-- buffers as long as their limits, the cells and the marks of outputs by some more or fewer
abbrev lent : ℕ → ℕ → Buffers
lent n m =
    record {
      cells = replicate n (pos 9);
      marks = replicate 256 9;
      states = replicate 1024 9;
      places = replicate 8 9;
      numbers = replicate 1024 (pos 9);
      counts = replicate 8 9;
      output_marks = replicate m 9;
    }

abbrev buffers : ℕ → Buffers
buffers n = lent n 1024

abbrev call : String → String → ℕ → ℕ → Reply
call rows sheet budget n = reply_to_bytes (bytes "kind,a,b,c\n" ++ bytes rows) (bytes sheet) [] budget (buffers n)

answers :
    -- 1 goes before all
    ((call "1\n" "" 65537 255).answer ≡ Refused 1 0)
    × ((call "1\n" "" 65537 256).answer ≡ Refused 2 2)
    -- 10 before 11
    × ((call "20,0,0,0\n" "" 65537 256).answer ≡ Refused 10 1)
    × ((call "20,0,0,0\n" "\n" 65537 256).answer ≡ Refused 11 0)
    × ((call "20,0,0,0\n" "\n" 65536 256).answer ≡ Ran Stuck 0 0)
    -- WHILE 1 SKIP is spent
    × ((call "33,1,2,0\n10,1,0,0\n21,0,0,0\n" "\n" 3 256).answer ≡ Ran Spent 3 1)
unfolding computes_answers
answers = (refl, refl, refl, refl, refl, refl)

-- rows lent as numbers
numbers :
    ((reply (record { rows = pos 20 ∷ pos 0 ∷ pos 0 ∷ []; sheet = bytes "\n"; choices = []; budget = 0 }) (buffers 256)).answer ≡ Refused 3 0)
    × ((reply (record { rows = []; sheet = bytes "\n"; choices = []; budget = 0 }) (buffers 256)).answer ≡ Refused 5 0)
unfolding computes_answers
numbers = (refl, refl)

-- a refused call writes to no lent buffer
untouched : (call "20,0,0,0\n" "" 0 257).buffers ≡ buffers 257
unfolding computes_answers
untouched = refl

-- x := 5: a set cell, unused places 0, and what is past the limit as it was
left :
    ((call "1,2,0,0\n22,0,2,3\n10,1,0,0\n10,5,0,0\n" "\n" 9 258).buffers.cells ≡ pos 0 ∷ pos 5 ∷ replicate 254 (pos 0) ++ (pos 9 ∷ pos 9 ∷ []))
    × ((call "1,2,0,0\n22,0,2,3\n10,1,0,0\n10,5,0,0\n" "\n" 9 258).buffers.marks ≡ 0 ∷ 1 ∷ replicate 254 0)
    × ((call "1,2,0,0\n22,0,2,3\n10,1,0,0\n10,5,0,0\n" "\n" 9 258).buffers.states ≡ 0 ∷ 2 ∷ replicate 1022 0)
unfolding computes_answers
left = (refl, refl, refl)

-- two strips of capacity 2 and 1: the first takes a value, the second begins after its capacity
strips :
    ((call "2,1,2,2\n2,1,2,1\n31,3,0,0\n40,4,5,0\n24,0,6,7\n40,8,-1,0\n10,0,0,0\n10,7,0,0\n24,1,9,10\n10,0,0,0\n10,8,0,0\n" "\n" 9 256).buffers.numbers ≡ pos 7 ∷ pos 0 ∷ pos 8 ∷ replicate 1021 (pos 0))
    × ((call "2,1,2,2\n2,1,2,1\n31,3,0,0\n40,4,5,0\n24,0,6,7\n40,8,-1,0\n10,0,0,0\n10,7,0,0\n24,1,9,10\n10,0,0,0\n10,8,0,0\n" "\n" 9 256).buffers.counts ≡ 1 ∷ 1 ∷ replicate 6 0)
unfolding computes_answers
strips = (refl, refl)

-- the same read back: no cell, no place, and the two lists
back :
    let rows : String = "2,1,2,2\n2,1,2,1\n31,3,0,0\n40,4,5,0\n24,0,6,7\n40,8,-1,0\n10,0,0,0\n10,7,0,0\n24,1,9,10\n10,0,0,0\n10,8,0,0\n" in
    decode (rows_of (bytes "kind,a,b,c\n" ++ bytes rows)) (call rows "\n" 9 256).buffers
    ≡ record {
      states = 0 ∷ 0 ∷ 2 ∷ 0 ∷ 2 ∷ 0 ∷ 0 ∷ 0 ∷ 2 ∷ 0 ∷ 0 ∷ [];
      store = record { cells = []; places = []; outputs = (some (pos 7) ∷ []) ∷ (some (pos 8) ∷ []) ∷ [] };
    }
unfolding computes_answers decode
back = refl

-- a seventh buffer of 1,023 marks is too short
few-marks :
    (reply_to_bytes (bytes "kind,a,b,c\n20,0,0,0\n") (bytes "\n") [] 0 (lent 256 1023) ≡ record { answer = Refused 1 0; buffers = lent 256 1023 })
    × ((reply_to_bytes (bytes "kind,a,b,c\n20,0,0,0\n") (bytes "\n") [] 0 (lent 256 1024)).answer ≡ Ran Stuck 0 0)
unfolding computes_answers
few-marks = (refl, refl)

-- b!x, x unset, then b!7: the absence has mark 0 and number 0 and is counted, and what is past the limit is as it was; read back, it is an absence
absence :
    let rows = bytes "kind,a,b,c\n2,1,2,2\n1,1,0,0\n30,3,0,0\n40,4,8,0\n24,0,5,6\n10,0,0,0\n11,1,7,0\n10,0,0,0\n40,9,-1,0\n24,0,10,11\n10,0,0,0\n10,7,0,0\n" in
    let r : Reply = reply_to_bytes rows (bytes "\n") [] 9 (lent 256 1026) in
    (r.answer ≡ Ran Ended 2 0)
    × (r.buffers.output_marks ≡ 0 ∷ 1 ∷ replicate 1022 0 ++ (9 ∷ 9 ∷ []))
    × (r.buffers.numbers ≡ pos 0 ∷ pos 7 ∷ replicate 1022 (pos 0))
    × (r.buffers.counts ≡ 2 ∷ replicate 7 0)
    × (decode (rows_of rows) r.buffers
    ≡ record {
      states = 0 ∷ 0 ∷ 2 ∷ 0 ∷ 2 ∷ 0 ∷ 0 ∷ 0 ∷ 0 ∷ 2 ∷ 0 ∷ 0 ∷ [];
      store = record { cells = none ∷ []; places = []; outputs = (none ∷ some (pos 7) ∷ []) ∷ [] };
    })
unfolding computes_answers decode
absence = (refl, refl, refl, refl, refl)
