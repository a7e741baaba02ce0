-- `put_digits` meets its contract. The loop's invariant: the last digits are written, and those of what is left have their room.
use mathlib.Core.Path.{◌≡◌}
use Prim.Native.Nat.{◌≤◌}
use borrow.Author.Rules.{rules}
use native.Mathlib.Omega.{arith}
use lib.ListN.{length}
use Rattle.base_numbers.proofs.Written.{nothing_written, digit-before, one_written, all-written}
use Rattle.base_numbers.proofs.numerals.put_digits.Goals as goal

pub loop-rest-init : goal.loop-rest-init
loop-rest-init c = nothing_written c.args.bytes c.args.end c.args.n

pub overflow_sub-at : goal.overflow_sub-at
overflow_sub-at c =
    let room : c.args.end ≤ length c.args.bytes = let e : length c.args.bytes ≡ 11 = search rules in omega (arith, c.requires.1) in
    let w = c.loop-rest in
    digit-before _ _ _ _ _ _ w.invariant c.requires.0 (room)

pub overflow_cast-out : goal.overflow_cast-out
overflow_cast-out c = omega arith

pub overflow_add-out : goal.overflow_add-out
overflow_add-out c = omega arith

pub bounds-out-at : goal.bounds-out-at
bounds-out-at c = omega (arith, c.loop-rest.invariant.within, c.requires.1)

pub loop-rest-smaller : goal.loop-rest-smaller
loop-rest-smaller c = omega arith

pub loop-rest-preserved : goal.loop-rest-preserved
loop-rest-preserved c =
    let room : c.args.end ≤ length c.args.bytes = let e : length c.args.bytes ≡ 11 = search rules in omega (arith, c.requires.1) in
    let w = c.loop-rest in
    one_written _ _ _ _ _ _ w.invariant c.requires.0 (room) c.loop-rest-test.true

pub overflow_sub-at-2 : goal.overflow_sub-at-2
overflow_sub-at-2 c =
    let room : c.args.end ≤ length c.args.bytes = let e : length c.args.bytes ≡ 11 = search rules in omega (arith, c.requires.1) in
    let w = c.loop-rest in
    digit-before _ _ _ _ _ _ w.invariant c.requires.0 (room)

pub overflow_cast-out-2 : goal.overflow_cast-out-2
overflow_cast-out-2 c = omega arith

pub overflow_add-out-2 : goal.overflow_add-out-2
overflow_add-out-2 c = omega arith

pub bounds-out-at-2 : goal.bounds-out-at-2
bounds-out-at-2 c = omega (arith, c.loop-rest.invariant.within, c.requires.1)

pub returns : goal.returns
returns c =
    let room : c.args.end ≤ length c.args.bytes = let e : length c.args.bytes ≡ 11 = search rules in omega (arith, c.requires.1) in
    let w = c.loop-rest in
    all-written _ _ _ _ _ _ w.invariant c.requires.0 (room) c.loop-rest-test.false
