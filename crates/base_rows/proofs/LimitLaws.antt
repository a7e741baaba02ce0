-- Sums that pass no limit are small.
use mathlib.Core.Path.{◌≡◌, refl}
use mathlib.Core.Bool.{Bool, true, false, ◌||◌, false≢true}
use mathlib.Core.Path.{sym}
use Prim.Native.Nat.{◌≤◌}
use lib.Dec.{ltb}
use borrow.Author.Tests.{ltb-false}
use Rattle.base_rows.specs.declared.limits.Sums.{Sums}
use Rattle.base_rows.specs.Sums.{sums_over}

neither : (s t : Bool) → (s || t) ≡ false → (s ≡ false) × (t ≡ false)
neither true t e = absurd (false≢true (sym e))
neither false t e = (refl, e)

pub record Small (s : Sums) : Type 0 where
  pub cells : s.cells ≤ 256
  pub elements : s.elements ≤ 256
  pub sources : s.sources ≤ 8
  pub sinks : s.sinks ≤ 8
  pub capacity : s.capacity ≤ 1024

pub small : (s : Sums) → sums_over s ≡ false → Small s
small s e =
    let e5 = neither _ (ltb 1024 s.capacity) e in
    let e4 = neither _ (ltb 8 s.sinks) e5.0 in
    let e3 = neither _ (ltb 8 s.sources) e4.0 in
    let e2 = neither (ltb 256 s.cells) (ltb 256 s.elements) e3.0 in
    record {
      cells = ltb-false 256 s.cells e2.0;
      elements = ltb-false 256 s.elements e2.1;
      sources = ltb-false 8 s.sources e3.1;
      sinks = ltb-false 8 s.sinks e4.1;
      capacity = ltb-false 1024 s.capacity e5.1;
    }
