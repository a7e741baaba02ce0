-- What the tests of 4 come to where some of them are known.
use mathlib.Core.Path.{◌≡◌, refl, sym, ap}
use mathlib.Core.Bool.{Bool, true, false, not, ◌&&◌}
use mathlib.Core.List.{List}
use mathlib.Core.Option.{Option}
use Prim.Native.Nat.{ℕ, ◌≤◌, ◌<◌}
use native.Mathlib.Omega.{arith}
use lib.IntN.{ℤ, pos, negsuc}
use lib.Dec.{eqb, leb}
use mir.Syntax.{w32}
use mir.Val.{SFits}
use borrow.Author.Tests.{ltb-true, le-leb, lt-leb}
use Rattle.meaning.specs.Basics.{inside}
use Rattle.meaning.specs.Limits.{min_number, max_number}
use Rattle.meaning.specs.Rows.{kind_at}
use Rattle.meaning.specs.Declarations.{declares, declarations, is_channel}
use Rattle.meaning.specs.Kinds.{Shape, shape_of}
use Rattle.meaning.specs.Verdict.{fits, form_fault_at}
use Rattle.base_kinds.proofs.Truth.{and-false, both_true}

-- a channel is one of the declarations
pub channel-below : (rows : List ℤ) (q : ℕ) → is_channel rows q ≡ true → q < declarations rows
channel-below rows q e = ltb-true q (declarations rows) (both_true _ (eqb (kind_at rows q) 2) e).0

module _ (rows : List ℤ) (d r : ℕ) where
  -- a late declaration
  pub late : declares rows r ≡ true → d ≤ r → true ≡ form_fault_at rows d r
  late e h = simp (e, le-leb d r h)

  module _ (t : Bool) (o : Option Shape) (f : t ≡ fits rows d r o) (s : o ≡ shape_of (kind_at rows r)) where
    by_fits : (declares rows r && leb d r) ≡ false → not t ≡ form_fault_at rows d r
    by_fits e = rw (e, ← s) (ap not f)

    -- a declaration in its place, and a row that is none
    pub early : r < d → not t ≡ form_fault_at rows d r
    early h = by_fits (rw (lt-leb d r h) (and-false (declares rows r)))

    pub none-declared : declares rows r ≡ false → not t ≡ form_fault_at rows d r
    none-declared e = by_fits (rw e)

-- every number of 32 bits is in the range of a value
pub value-inside : (z : ℤ) → SFits w32 z → true ≡ inside min_number max_number z
value-inside (pos n) h = let l = h.sfits in sym (le-leb n 2147483647 (omega arith))
value-inside (negsuc n) h = let l = h.sfits in sym (rw (le-leb n 2147483647 (omega arith)) refl)
