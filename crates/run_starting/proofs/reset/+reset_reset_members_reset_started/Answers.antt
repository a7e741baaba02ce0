-- `reset`, `reset_members` and `reset_started` meet their contracts. The measure is what is left of 1,025 rows.
use Rattle.run_starting.proofs.Resetting.{idle-resets, ending-resets, single-resets, itself-resets, none-reset, none-started, link-resets, link-passes, link-stops}
use Rattle.run_starting.proofs.Standing.{found_in, links-in, no-members, link-in, next-links, seq-shape, par-shape, if-shape, alt-shape, while-shape-in, block-shape-in}
use native.Mathlib.Omega.{arith}
use mathlib.Core.Path.{refl}
use Rattle.run_starting.proofs.reset.+reset_reset_members_reset_started.Goals as goal

pub reset-returns-then-states-r-eq0 : goal.reset-returns-then-states-r-eq0
reset-returns-then-states-r-eq0 t c =
    λ rows P. idle-resets rows c.args.r c.args.states.now c.if-states-r-eq0.true

pub reset-reset_members-requires : goal.reset-reset_members-requires
reset-reset_members-requires t c =
    let P = c.requires.table in
    let s = seq-shape P.1 c.args.r (omega (arith, c.requires.row)) c.place.ensures c.in-30.is c.place-in-30.ensures in
    let h = found_in P.1 c.args.r s refl in
    (rw (← c.decreases) (omega (arith, h.higher, c.requires.row)), (P, (h.inside, links-in P.1 c.args.r s refl)))

pub reset-reset_members-requires-in-31 : goal.reset-reset_members-requires-in-31
reset-reset_members-requires-in-31 t c =
    let P = c.requires.table in
    let s = par-shape P.1 c.args.r (omega (arith, c.requires.row)) c.place.ensures c.in-31.is c.place-in-31.ensures in
    let h = found_in P.1 c.args.r s refl in
    (rw (← c.decreases) (omega (arith, h.higher, c.requires.row)), (P, (h.inside, links-in P.1 c.args.r s refl)))

pub reset-reset_started-requires : goal.reset-reset_started-requires
reset-reset_started-requires t c =
    let P = c.requires.table in
    let s = if-shape P.1 c.args.r (omega (arith, c.requires.row)) c.place.ensures c.in-32.is c.place-in-32.ensures in
    let h = found_in P.1 c.args.r s refl in
    (rw (← c.decreases) (omega (arith, h.higher, c.requires.row)), (P, (h.inside, links-in P.1 c.args.r s refl)))

pub reset-reset-requires : goal.reset-reset-requires
reset-reset-requires t c =
    let P = c.requires.table in
    let h = found_in P.1 c.args.r (while-shape-in P.1 c.args.r (omega (arith, c.requires.row)) c.place.ensures c.in-33.is c.place-in-33.ensures) refl in
    (rw (← c.decreases) (omega (arith, h.higher, c.requires.row)), (P, h.inside))

pub reset-reset_started-requires-in-34 : goal.reset-reset_started-requires-in-34
reset-reset_started-requires-in-34 t c =
    let P = c.requires.table in
    let s = alt-shape P.1 c.args.r (omega (arith, c.requires.row)) c.place.ensures c.in-34.is c.place-in-34.ensures in
    let h = found_in P.1 c.args.r s refl in
    (rw (← c.decreases) (omega (arith, h.higher, c.requires.row)), (P, (h.inside, links-in P.1 c.args.r s refl)))

pub reset-reset-requires-in-35 : goal.reset-reset-requires-in-35
reset-reset-requires-in-35 t c =
    let P = c.requires.table in
    let h = found_in P.1 c.args.r (block-shape-in P.1 c.args.r (omega (arith, c.requires.row)) c.place.ensures c.in-35.is c.place-in-35.ensures) refl in
    (rw (← c.decreases) (omega (arith, h.higher, c.requires.row)), (P, h.inside))

pub reset-returns-in-30 : goal.reset-returns-in-30
reset-returns-in-30 t c =
    λ rows P i. ending-resets rows c.args.r c.args.states.now c.if-states-r-eq0.false (found_in P c.args.r (seq-shape P c.args.r (omega (arith, c.requires.row)) c.place.ensures c.in-30.is c.place-in-30.ensures) refl) (c.reset_members.ensures rows P)

pub reset-returns-in-31 : goal.reset-returns-in-31
reset-returns-in-31 t c =
    λ rows P i. ending-resets rows c.args.r c.args.states.now c.if-states-r-eq0.false (found_in P c.args.r (par-shape P c.args.r (omega (arith, c.requires.row)) c.place.ensures c.in-31.is c.place-in-31.ensures) refl) (c.reset_members-in-31.ensures rows P)

pub reset-returns-in-32 : goal.reset-returns-in-32
reset-returns-in-32 t c =
    λ rows P i. ending-resets rows c.args.r c.args.states.now c.if-states-r-eq0.false (found_in P c.args.r (if-shape P c.args.r (omega (arith, c.requires.row)) c.place.ensures c.in-32.is c.place-in-32.ensures) refl) (c.reset_started.ensures rows P)

pub reset-returns-in-33 : goal.reset-returns-in-33
reset-returns-in-33 t c =
    λ rows P i.
    let h = found_in P c.args.r (while-shape-in P c.args.r (omega (arith, c.requires.row)) c.place.ensures c.in-33.is c.place-in-33.ensures) refl in
    single-resets rows c.args.r c.args.states.now c.if-states-r-eq0.false h (c.reset.ensures rows P h.member_is)

pub reset-returns-in-34 : goal.reset-returns-in-34
reset-returns-in-34 t c =
    λ rows P i. ending-resets rows c.args.r c.args.states.now c.if-states-r-eq0.false (found_in P c.args.r (alt-shape P c.args.r (omega (arith, c.requires.row)) c.place.ensures c.in-34.is c.place-in-34.ensures) refl) (c.reset_started-in-34.ensures rows P)

pub reset-returns-in-35 : goal.reset-returns-in-35
reset-returns-in-35 t c =
    λ rows P i.
    let h = found_in P c.args.r (block-shape-in P c.args.r (omega (arith, c.requires.row)) c.place.ensures c.in-35.is c.place-in-35.ensures) refl in
    single-resets rows c.args.r c.args.states.now c.if-states-r-eq0.false h (c.reset-in-35.ensures rows P h.member_is)

pub reset-returns-in_default : goal.reset-returns-in_default
reset-returns-in_default t c =
    let m = c.in_default.in_default-own.rest in
    λ rows P. itself-resets rows c.args.r c.args.states.now c.if-states-r-eq0.false P c.place.ensures m.0.0.0.0.0.1 m.0.0.0.0.1 m.0.0.0.1 m.0.0.1 m.0.1 m.1

pub reset_members-returns-then-place-eq0 : goal.reset_members-returns-then-place-eq0
reset_members-returns-then-place-eq0 t c =
    λ rows P. none-reset c.args.states.now (no-members P c.args.m c.requires.inside c.place.ensures c.if-place-eq0.true)

pub reset_members-reset-requires : goal.reset_members-reset-requires
reset_members-reset-requires t c =
    let P = c.requires.table in
    let l = c.requires.inside in
    let u = c.requires.links in
    let h = link-in P.1 c.args.m l c.place.ensures u c.if-place-eq0.false c.place-2.ensures refl in
    (rw (← c.decreases) (omega (arith, h.higher, l)), (P, h.inside))

pub reset_members-reset_members-requires : goal.reset_members-reset_members-requires
reset_members-reset_members-requires t c =
    let P = c.requires.table in
    let l = c.requires.inside in
    let u = c.requires.links in
    let h = link-in P.1 c.args.m l c.place.ensures u c.if-place-eq0.false c.place-2.ensures c.place-3.ensures in
    (rw (← c.decreases) (omega (arith, h.higher-next, l)), (P, (h.inside-next, next-links P.1 c.args.m l c.place.ensures u c.if-place-eq0.false c.place-3.ensures)))

pub reset_members-returns : goal.reset_members-returns
reset_members-returns t c =
    let l = c.requires.inside in
    let u = c.requires.links in
    λ rows P.
    let h = link-in P c.args.m l c.place.ensures u c.if-place-eq0.false c.place-2.ensures c.place-3.ensures in
    link-resets rows c.args.m c.args.states.now h (c.reset.ensures rows P (h.member, h.member_is)) (c.reset_members.ensures rows P)

pub reset_started-returns-then-place-eq0 : goal.reset_started-returns-then-place-eq0
reset_started-returns-then-place-eq0 t c =
    λ rows P. none-started c.args.states.now (no-members P c.args.m c.requires.inside c.place.ensures c.if-place-eq0.true)

pub reset_started-bounds-states-p : goal.reset_started-bounds-states-p
reset_started-bounds-states-p t c =
    let P = c.requires.table in
    let l = c.requires.inside in
    let u = c.requires.links in
    (link-in P.1 c.args.m l c.place.ensures u c.if-place-eq0.false c.place-p.ensures refl).inside

pub reset_started-reset_started-requires : goal.reset_started-reset_started-requires
reset_started-reset_started-requires t c =
    let P = c.requires.table in
    let l = c.requires.inside in
    let u = c.requires.links in
    let h = link-in P.1 c.args.m l c.place.ensures u c.if-place-eq0.false c.place-p.ensures c.place-then-states-p-eq0.ensures in
    (rw (← c.decreases) (omega (arith, h.higher-next, l)), (P, (h.inside-next, next-links P.1 c.args.m l c.place.ensures u c.if-place-eq0.false c.place-then-states-p-eq0.ensures)))

pub reset_started-returns-then-states-p-eq0 : goal.reset_started-returns-then-states-p-eq0
reset_started-returns-then-states-p-eq0 t c =
    let l = c.requires.inside in
    let u = c.requires.links in
    λ rows P. link-passes rows c.args.m c.args.states.now (link-in P c.args.m l c.place.ensures u c.if-place-eq0.false c.place-p.ensures c.place-then-states-p-eq0.ensures) c.if-states-p-eq0.true (c.reset_started.ensures rows P)

pub reset_started-reset-requires : goal.reset_started-reset-requires
reset_started-reset-requires t c =
    let P = c.requires.table in
    let l = c.requires.inside in
    let u = c.requires.links in
    let h = link-in P.1 c.args.m l c.place.ensures u c.if-place-eq0.false c.place-p.ensures refl in
    (rw (← c.decreases) (omega (arith, h.higher, l)), (P, h.inside))

pub reset_started-returns : goal.reset_started-returns
reset_started-returns t c =
    let l = c.requires.inside in
    let u = c.requires.links in
    λ rows P.
    let h = link-in P c.args.m l c.place.ensures u c.if-place-eq0.false c.place-p.ensures refl in
    link-stops rows c.args.m c.args.states.now h c.if-states-p-eq0.false (c.reset.ensures rows P (h.member, h.member_is))
