-- The spaces at a place of some bytes, byte by byte.
use mathlib.Core.Path.{◌≡◌, ap}
use mathlib.Core.List.{List}
use Prim.Native.Nat.{ℕ, suc, ◌+◌, ◌≤◌, ◌<◌, max}
use native.Mathlib.Decide.{dec_lt}
use native.Mathlib.Omega.{arith}
use native.Mathlib.Numerals.{add-one}
use lib.ListN.{length, get_or, drop, drop_of_length-le}
use lib.Seq.{drop-cons}
use borrow.Author.Tests.{eq-eqb, ne_eqb}
use Rattle.grammar.specs.Scan.{space}
use Rattle.read_scan.specs.Nexts.{blanks}

-- nothing is left
blanks_none : (s : List ℕ) (at : ℕ) → length s ≤ at → blanks (drop at s) ≡ 0
unfolding blanks
blanks_none s at h = ap blanks (drop_of_length-le s h)

module _ (s : List ℕ) (at : ℕ) where
  pub blanks-past-end : length s ≤ at → blanks (drop at s) ≡ 0
  blanks-past-end h = blanks_none s at h

  module _ (h : at < length s) where
    -- another byte is next
    pub blanks-stop : (get_or s at 0 ≡ space → ⊥) → blanks (drop at s) ≡ 0
    unfolding blanks
    blanks-stop n = rw (drop-cons s at 0 h, ne_eqb (get_or s at 0) space n)

    -- a space is next
    pub blanks-go-on : get_or s at 0 ≡ space → blanks (drop at s) ≡ suc (blanks (drop (at + 1) s))
    unfolding blanks
    blanks-go-on e = rw (add-one at, drop-cons s at 0 h, eq-eqb (get_or s at 0) space e)

  -- no space is left from a place on, where the spaces from an earlier one have been passed
  pub blanks-ended : (from : ℕ) → (from ≤ length s → at ≤ length s) → length s ≤ at → at + blanks (drop at s) ≡ from + blanks (drop from s) → max from (length s) ≡ from + blanks (drop from s)
  blanks-ended from w h i = go (dec_lt (length s) from)
    where
      go : Dec (length s < from) → max from (length s) ≡ from + blanks (drop from s)
      go (yes l) = let e = blanks_none s from (omega arith) in omega arith
      go (no l) = let e = blanks-past-end h in let k = w (omega arith) in omega arith
