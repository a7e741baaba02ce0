-- Laws for code that reads bytes from left to right: where a field ends, and whether bytes are equal.
use mathlib.Core.Path.{◌≡◌, refl, ap}
use mathlib.Core.Bool.{Bool, true, false, ◌&&◌}
use mathlib.Core.List.{List, [], ◌∷◌}
use Prim.Native.Nat.{ℕ, suc, ◌+◌, ◌≤◌, ◌<◌}
use native.Mathlib.Numerals.{add-one}
use native.Mathlib.Omega.{arith}
use lib.ListN.{length, get_or, drop, drop_of_length-le}
use lib.Seq.{drop-cons}
use lib.Dec.{eqb}
use lib.Pointwise.{pointwise}
use Rattle.meaning.specs.Basics.{if_else}
use borrow.Author.Tests.{eq-eqb, ne_eqb}
use Rattle.meaning.specs.Texts.{line_feed, comma}
use Rattle.meaning.specs.Lines.{line_size, same}
use Rattle.read_table.specs.Fields.{field_size}

-- Lines -------------------------------------------------------------------------------------------------------------------------

-- a line ends within the bytes
pub size-within : (s : List ℕ) → line_size s ≤ length s
unfolding line_size
size-within [] = omega arith
size-within (b ∷ bs) = go (eqb b line_feed) (size-within bs)
  where
    go : (t : Bool) → line_size bs ≤ length bs → if_else t 1 (suc (line_size bs)) ≤ suc (length bs)
    go true h = omega arith
    go false h = omega arith

-- Fields ------------------------------------------------------------------------------------------------------------------------

module _ (s : List ℕ) (at : ℕ) where
  -- nothing is left
  pub field-past-end : length s ≤ at → field_size (drop at s) ≡ 0
  unfolding field_size
  field-past-end h = ap field_size (drop_of_length-le s h)

  module _ (h : at < length s) where
    -- a comma is next
    pub field-at-comma : get_or s at 0 ≡ comma → field_size (drop at s) ≡ 0
    unfolding field_size
    field-at-comma e = rw (drop-cons s at 0 h, eq-eqb (get_or s at 0) comma e)

    -- a line feed is next
    pub field-at-feed : (get_or s at 0 ≡ comma → ⊥) → get_or s at 0 ≡ line_feed → field_size (drop at s) ≡ 0
    unfolding field_size
    field-at-feed n e = rw (drop-cons s at 0 h, ne_eqb (get_or s at 0) comma n, eq-eqb (get_or s at 0) line_feed e)

    -- another byte is next
    pub field-goes-on : (get_or s at 0 ≡ comma → ⊥) → (get_or s at 0 ≡ line_feed → ⊥) → field_size (drop at s) ≡ suc (field_size (drop (at + 1) s))
    unfolding field_size
    field-goes-on n m = rw (add-one at, drop-cons s at 0 h, ne_eqb (get_or s at 0) comma n, ne_eqb (get_or s at 0) line_feed m)

-- Equal bytes -------------------------------------------------------------------------------------------------------------------

pub equal-same : (a b : List ℕ) → pointwise eqb a b ≡ same a b
unfolding same
equal-same [] [] = refl
equal-same [] (c ∷ cs) = refl
equal-same (b ∷ bs) [] = refl
equal-same (b ∷ bs) (c ∷ cs) = go (eqb b c) (equal-same bs cs)
  where
    go : (t : Bool) → pointwise eqb bs cs ≡ same bs cs → t && pointwise eqb bs cs ≡ if_else t (same bs cs) false
    go true e = e
    go false e = refl
