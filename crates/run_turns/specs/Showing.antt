-- The two lists of a traced run: a number in each for each step, as far as they have room.
use Rattle.std.specs.Prelude.{List, [], ◌∷◌, map, ℕ, suc, set}
use Rattle.meaning.specs.Trace.{Shown, TraceLists}

-- numbers stored one after another from place n on; past the end nothing is stored
abbrev pub stored_from : ℕ → List ℕ → List ℕ → List ℕ
stored_from n [] l = l
stored_from n (x ∷ xs) l = stored_from (suc n) xs (set l n x)

-- what steps show, stored in the two lists from place n on
abbrev pub shown_from_place : ℕ → List Shown → TraceLists → TraceLists
shown_from_place n shown l =
    record {
      ready_counts = stored_from n (map (λ (x : Shown). x.ready) shown) l.ready_counts;
      taken_rows = stored_from n (map (λ (x : Shown). x.row) shown) l.taken_rows;
    }

-- the two lists as they are lent
abbrev pub lists_lent : List ℕ → List ℕ → TraceLists
lists_lent readied taken = record { ready_counts = readied; taken_rows = taken }
