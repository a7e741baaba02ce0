-- `go_on` meets its contract, by what stands at the row: a SEQ, a PAR, a WHILE; an IF, an ALT or a block. No other row has a member.
use Rattle.run_settling.proofs.GoingUp.{in-turn-goes-on, together-goes-on, repeating-goes-on, other-goes-on}
use Rattle.run_starting.proofs.Standing.{found_in, seq-shape, par-shape, while-shape-in, while-action}
use Rattle.run_code.proofs.Owners.{next-members}
use Rattle.run_code.proofs.Inside.{next-inside}
use Rattle.run_starting.specs.Kept.{kept_lists}
use native.Mathlib.Omega.{arith}
use mathlib.Core.Path.{refl}
use Rattle.run_settling.proofs.go_on.Goals as goal

pub start_next-requires : goal.start_next-requires
start_next-requires c =
    let P = c.requires.table in
    record { table = P; inside = (rw c.place-in-30.ensures (next-inside P.1 c.args.r (omega (arith, c.requires.inside.1))), c.requires.inside.0) }

pub reset-requires : goal.reset-requires
reset-requires c =
    let P = c.requires.table in
    record { table = P; row = (found_in P.1 c.args.q (while-shape-in P.1 c.args.q (omega (arith, c.requires.inside.0)) c.place.ensures c.in-33.is c.place-in-33.ensures) refl).inside }

pub returns-in-30 : goal.returns-in-30
returns-in-30 c =
    λ rows P i. in-turn-goes-on rows c.args.q c.args.r (kept_lists c.args.kept.now) c.place-in-30.result (found_in P c.args.q (seq-shape P c.args.q (omega (arith, c.requires.inside.0)) c.place.ensures c.in-30.is refl) refl) (rw c.place-in-30.ensures (next-members P c.args.r (omega (arith, c.requires.inside.1)) c.args.q i)) (c.start_next.ensures rows P)

pub returns-in-31 : goal.returns-in-31
returns-in-31 c =
    λ rows P i. together-goes-on rows c.args.q c.args.r (kept_lists c.args.kept.now) (found_in P c.args.q (par-shape P c.args.q (omega (arith, c.requires.inside.0)) c.place.ensures c.in-31.is refl) refl) c.lower.ensures

pub returns-in-33 : goal.returns-in-33
returns-in-33 c =
    λ rows P i.
    let h = found_in P c.args.q (while-shape-in P c.args.q (omega (arith, c.requires.inside.0)) c.place.ensures c.in-33.is c.place-in-33.ensures) refl in
    let a = while-action P c.args.q (omega (arith, c.requires.inside.0)) c.place.ensures h.process-is c.in-33.is in
    repeating-goes-on rows c.args.q c.args.r (kept_lists c.args.kept.now) h a (c.reset.ensures rows P h.member_is) c.comes.ensures

pub returns-in_default : goal.returns-in_default
returns-in_default c =
    let m = c.in_default.in_default-own.rest in
    λ rows P i. other-goes-on P c.args.q c.args.r (kept_lists c.args.kept.now) c.place.ensures m.0.0.1 m.0.1 m.1 i
