-- `turn` meets its contract: its two tests are those of `turned`, and what it gives fits in 32 bits.
use mathlib.Core.Path.{◌≡◌}
use mathlib.Core.Bool.{true, false}
use lib.IntN.{pos, negsuc, ◌+ℤ◌, ◌-ℤ◌}
use lib.Signed.{lt_z}
use mir.Syntax.{w32, w64}
use mir.Val.{SFits}
use mir.ValLaws.{to_z-of_z}
use Rattle.base_numbers.proofs.Ranges.{in-range, wider}
use Rattle.base_numbers.proofs.Turning.{turned-up-fits, turned-down-fits}
use Rattle.base_numbers.proofs.wide.turn.Goals as goal

pub overflow_add-result : goal.overflow_add-result
overflow_add-result c =
    let low : lt_z c.args.r (negsuc 2147483647) ≡ true = rw (to_z-of_z w64 _ c.ranges.r) at c.if-r-ltminus2147483648.true in
    let up : SFits w32 (c.args.r +ℤ pos 4294967296) = turned-up-fits c.args.r c.requires (low) in
    rw (to_z-of_z w64 _ c.ranges.r) (wider (up))

pub overflow_cast-result : goal.overflow_cast-result
overflow_cast-result c =
    let low : lt_z c.args.r (negsuc 2147483647) ≡ true = rw (to_z-of_z w64 _ c.ranges.r) at c.if-r-ltminus2147483648.true in
    let up : SFits w32 (c.args.r +ℤ pos 4294967296) = turned-up-fits c.args.r c.requires (low) in
    rw (to_z-of_z w64 _ c.ranges.r, to_z-of_z w64 _ (wider (up))) (up)

pub returns-then-r-ltminus2147483648 : goal.returns-then-r-ltminus2147483648
returns-then-r-ltminus2147483648 c =
    let low : lt_z c.args.r (negsuc 2147483647) ≡ true = rw (to_z-of_z w64 _ c.ranges.r) at c.if-r-ltminus2147483648.true in
    let up : SFits w32 (c.args.r +ℤ pos 4294967296) = turned-up-fits c.args.r c.requires (low) in
    rw (to_z-of_z w64 _ c.ranges.r, to_z-of_z w64 _ (wider (up)), to_z-of_z w32 _ (up)) (simp (low))

pub overflow_sub-result : goal.overflow_sub-result
overflow_sub-result c =
    let high : lt_z (pos 2147483647) c.args.r ≡ true = rw (to_z-of_z w64 _ c.ranges.r) at c.if-r-gt2147483647.true in
    let down : SFits w32 (c.args.r -ℤ pos 4294967296) = turned-down-fits c.args.r c.requires (high) in
    rw (to_z-of_z w64 _ c.ranges.r) (wider (down))

pub overflow_cast-result-then-r-gt2147483647 : goal.overflow_cast-result-then-r-gt2147483647
overflow_cast-result-then-r-gt2147483647 c =
    let high : lt_z (pos 2147483647) c.args.r ≡ true = rw (to_z-of_z w64 _ c.ranges.r) at c.if-r-gt2147483647.true in
    let down : SFits w32 (c.args.r -ℤ pos 4294967296) = turned-down-fits c.args.r c.requires (high) in
    rw (to_z-of_z w64 _ c.ranges.r, to_z-of_z w64 _ (wider (down))) (down)

pub returns-then-r-gt2147483647 : goal.returns-then-r-gt2147483647
returns-then-r-gt2147483647 c =
    let high : lt_z (pos 2147483647) c.args.r ≡ true = rw (to_z-of_z w64 _ c.ranges.r) at c.if-r-gt2147483647.true in
    let down : SFits w32 (c.args.r -ℤ pos 4294967296) = turned-down-fits c.args.r c.requires (high) in
    let not_low : lt_z c.args.r (negsuc 2147483647) ≡ false = rw (to_z-of_z w64 _ c.ranges.r) at c.if-r-ltminus2147483648.false in
    rw (to_z-of_z w64 _ c.ranges.r, to_z-of_z w64 _ (wider (down)), to_z-of_z w32 _ (down)) (simp (not_low, high))

pub overflow_cast-result-2 : goal.overflow_cast-result-2
overflow_cast-result-2 c =
    let not-high : lt_z (pos 2147483647) c.args.r ≡ false = rw (to_z-of_z w64 _ c.ranges.r) at c.if-r-gt2147483647.false in
    let not-low-2 : lt_z c.args.r (negsuc 2147483647) ≡ false = rw (to_z-of_z w64 _ c.ranges.r) at c.if-r-ltminus2147483648.false in
    rw (to_z-of_z w64 _ c.ranges.r) (in-range _ (not-low-2) (not-high))

pub returns : goal.returns
returns c =
    let not-high : lt_z (pos 2147483647) c.args.r ≡ false = rw (to_z-of_z w64 _ c.ranges.r) at c.if-r-gt2147483647.false in
    let not-low-2 : lt_z c.args.r (negsuc 2147483647) ≡ false = rw (to_z-of_z w64 _ c.ranges.r) at c.if-r-ltminus2147483648.false in
    rw (to_z-of_z w64 _ c.ranges.r, to_z-of_z w32 _ (in-range _ (not-low-2) (not-high))) (simp (not-low-2, not-high))
