-- The rows of a line's tokens, token by token.
use mathlib.Core.Path.{◌≡◌, ap}
use mathlib.Core.Bool.{Bool, true, false, ◌&&◌, ◌||◌}
use mathlib.Core.List.{List, [], ◌∷◌}
use Prim.Native.Nat.{ℕ, suc, ◌+◌, ◌-◌, ◌*◌, ◌≤◌, ◌<◌}
use native.Mathlib.Omega.{arith}
use native.Mathlib.Numerals.{add-one}
use lib.ListN.{length, get_or, drop, drop_of_length-le}
use lib.Seq.{drop-cons}
use lib.Dec.{eqb, leb}
use Rattle.meaning.specs.Basics.{if_else}
use Rattle.read_tokens.specs.Sorts as sorts
use Rattle.read_counts.specs.TokenRows.{sort_rows, sort_less, full_rows, less_rows, rows_by_sorts}

-- Few rows --------------------------------------------------------------------------------------------------------------------------

-- a token adds at most two rows, and takes at most one away
at_most_two : (s : ℕ) → sort_rows s ≤ 2
at_most_two s = go (eqb s sorts.name) ((leb sorts.number s && leb s sorts.or) || ((leb sorts.skip s && leb s sorts.while) || eqb s sorts.ampersand))
  where
    go : (t u : Bool) → if_else t 2 (if_else u 1 0) ≤ 2
    go true u = omega arith
    go false true = omega arith
    go false false = omega arith

at_most_one : (s : ℕ) → sort_less s ≤ 1
at_most_one s = go (eqb s sorts.square_open)
  where
    go : (t : Bool) → if_else t 1 0 ≤ 1
    go true = omega arith
    go false = omega arith

-- so do tokens of some sorts
pub rows_few : (ss : List ℕ) → full_rows ss ≤ 2 * length ss
unfolding full_rows
rows_few [] = omega arith
rows_few (s ∷ ss) = omega (arith, at_most_two s, rows_few ss)

pub less-few : (ss : List ℕ) → less_rows ss ≤ length ss
unfolding less_rows
less-few [] = omega arith
less-few (s ∷ ss) = omega (arith, at_most_one s, less-few ss)

-- The loop --------------------------------------------------------------------------------------------------------------------------

-- the rows that the tokens before a place add, and those that they take away
pub record Counted (ss : List ℕ) (rows less at : ℕ) : Type 0 where
  pub full : rows + full_rows (drop at ss) ≡ full_rows ss
  pub taken : less + less_rows (drop at ss) ≡ less_rows ss

module _ (ss : List ℕ) where
  pub counted-nothing : Counted ss 0 0 0
  counted-nothing = record { full = omega arith; taken = omega arith }

  module _ (rows less at : ℕ) (h : Counted ss rows less at) where
    -- no token is left
    pub counted-all : length ss ≤ at → rows - less ≡ rows_by_sorts ss
    unfolding full_rows less_rows
    counted-all k = let e = drop_of_length-le ss k in omega (arith, ap full_rows e, ap less_rows e, h.full, h.taken)

    -- a token more
    pub counted_next : at < length ss → Counted ss (rows + sort_rows (get_or ss at 0)) (less + sort_less (get_or ss at 0)) (at + 1)
    unfolding full_rows less_rows
    counted_next k =
        let e = drop-cons ss at 0 k in
        let n : drop (at + 1) ss ≡ drop (suc at) ss = ap (λ (i : ℕ). drop i ss) (add-one at) in
        record { full = omega (arith, ap full_rows e, ap full_rows n, h.full); taken = omega (arith, ap less_rows e, ap less_rows n, h.taken) }
