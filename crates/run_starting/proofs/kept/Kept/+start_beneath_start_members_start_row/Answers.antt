-- `start_beneath`, `start_members` and `start_row` meet their contracts. The measure is what is left of 1,025 rows.
use Rattle.run_starting.proofs.Starting.{ending-starts, block-ends, block_runs, comes-itself, none-starts, next-starts, more-starts, one-starts}
use Rattle.run_starting.proofs.Standing.{found_in, links-in, no-members, link-in, next-links}
use Rattle.run_starting.proofs.Standing.{skip-shape, seq-shape, par-shape, block-shape-in, skip-action, seq-action, par-action, block-action}
use Rattle.meaning.specs.Settle.{local_of}
use Rattle.run_starting.specs.Kept.{kept_lists}
use native.Mathlib.Omega.{arith}
use mathlib.Core.Path.{refl, ap}
use Rattle.run_starting.proofs.kept.Kept.+start_beneath_start_members_start_row.Goals as goal

pub start_beneath-start_members-requires : goal.start_beneath-start_members-requires
start_beneath-start_members-requires t c =
    let P = c.requires.table in
    let s = skip-shape P.1 c.args.r (omega (arith, c.requires.row)) c.place.ensures c.in-21.is in
    let h = found_in P.1 c.args.r s refl in
    (rw (← c.decreases) (omega (arith, h.higher, c.requires.row)), (P, ((h.inside, c.requires.row, omega arith), links-in P.1 c.args.r s refl)))

pub start_beneath-start_members-requires-in-30 : goal.start_beneath-start_members-requires-in-30
start_beneath-start_members-requires-in-30 t c =
    let P = c.requires.table in
    let s = seq-shape P.1 c.args.r (omega (arith, c.requires.row)) c.place.ensures c.in-30.is c.place-in-30.ensures in
    let h = found_in P.1 c.args.r s refl in
    (rw (← c.decreases) (omega (arith, h.higher, c.requires.row)), (P, ((h.inside, c.requires.row, omega arith), links-in P.1 c.args.r s refl)))

pub start_beneath-start_members-requires-in-31 : goal.start_beneath-start_members-requires-in-31
start_beneath-start_members-requires-in-31 t c =
    let P = c.requires.table in
    let s = par-shape P.1 c.args.r (omega (arith, c.requires.row)) c.place.ensures c.in-31.is c.place-in-31.ensures in
    let h = found_in P.1 c.args.r s refl in
    (rw (← c.decreases) (omega (arith, h.higher, c.requires.row)), (P, ((h.inside, c.requires.row, omega arith), links-in P.1 c.args.r s refl)))

pub start_beneath-start_row-requires : goal.start_beneath-start_row-requires
start_beneath-start_row-requires t c =
    let l = c.requires.row in
    let P = c.requires.table in
    let h = found_in P.1 c.args.r (block-shape-in P.1 c.args.r (omega (arith, l)) c.place.ensures c.in-35.is c.place-p.ensures) refl in
    (rw (← c.decreases) (omega (arith, h.higher, l)), (P, h.inside))

pub start_beneath-bounds-self-p : goal.start_beneath-bounds-self-p
start_beneath-bounds-self-p t c =
    let l = c.requires.row in
    let P = c.requires.table in
    (found_in P.1 c.args.r (block-shape-in P.1 c.args.r (omega (arith, l)) c.place.ensures c.in-35.is c.place-p.ensures) refl).inside

pub start_beneath-returns-in-21 : goal.start_beneath-returns-in-21
start_beneath-returns-in-21 t c =
    let l = c.requires.row in
    λ rows P.
    let h = found_in P c.args.r (skip-shape P c.args.r (omega (arith, l)) c.place.ensures c.in-21.is) refl in
    let i = ap local_of (skip-action P c.args.r (omega (arith, l)) c.place.ensures h.process-is c.in-21.is) in
    ending-starts rows c.args.r (kept_lists c.args.self.now) h i (c.start_members.ensures rows P)

pub start_beneath-returns-in-30 : goal.start_beneath-returns-in-30
start_beneath-returns-in-30 t c =
    let l = c.requires.row in
    λ rows P.
    let h = found_in P c.args.r (seq-shape P c.args.r (omega (arith, l)) c.place.ensures c.in-30.is c.place-in-30.ensures) refl in
    let i = ap local_of (seq-action P c.args.r (omega (arith, l)) c.place.ensures h.process-is c.in-30.is) in
    ending-starts rows c.args.r (kept_lists c.args.self.now) h i (c.start_members-in-30.ensures rows P)

pub start_beneath-returns-in-31 : goal.start_beneath-returns-in-31
start_beneath-returns-in-31 t c =
    let l = c.requires.row in
    λ rows P.
    let h = found_in P c.args.r (par-shape P c.args.r (omega (arith, l)) c.place.ensures c.in-31.is c.place-in-31.ensures) refl in
    let i = ap local_of (par-action P c.args.r (omega (arith, l)) c.place.ensures h.process-is c.in-31.is) in
    ending-starts rows c.args.r (kept_lists c.args.self.now) h i (c.start_members-in-31.ensures rows P)

pub start_beneath-returns-then-self-p-eq2 : goal.start_beneath-returns-then-self-p-eq2
start_beneath-returns-then-self-p-eq2 t c =
    let l = c.requires.row in
    λ rows P.
    let h = found_in P c.args.r (block-shape-in P c.args.r (omega (arith, l)) c.place.ensures c.in-35.is c.place-p.ensures) refl in
    let a = block-action P c.args.r (omega (arith, l)) c.place.ensures h.process-is c.in-35.is in
    block-ends rows c.args.r (kept_lists c.args.self.now) h a c.begins.ensures (c.start_row.ensures rows P) c.if-self-p-eq2.true c.remain.ensures

pub start_beneath-returns-else-self-p-eq2 : goal.start_beneath-returns-else-self-p-eq2
start_beneath-returns-else-self-p-eq2 t c =
    let l = c.requires.row in
    λ rows P.
    let h = found_in P c.args.r (block-shape-in P c.args.r (omega (arith, l)) c.place.ensures c.in-35.is c.place-p.ensures) refl in
    let a = block-action P c.args.r (omega (arith, l)) c.place.ensures h.process-is c.in-35.is in
    block_runs rows c.args.r (kept_lists c.args.self.now) h a c.begins.ensures (c.start_row.ensures rows P) c.if-self-p-eq2.false

pub start_beneath-returns-in_default : goal.start_beneath-returns-in_default
start_beneath-returns-in_default t c =
    let m = c.in_default.in_default-own.rest in
    λ rows P. comes-itself P c.args.r (omega (arith, c.requires.row)) (kept_lists c.args.self.now) c.place.ensures m.0.0.0.1 m.0.0.1 m.0.1 m.1 c.comes.ensures

pub start_members-returns-then-place-eq0 : goal.start_members-returns-then-place-eq0
start_members-returns-then-place-eq0 t c =
    λ rows P. none-starts rows c.args.m c.args.all c.args.r c.args.n (kept_lists c.args.self.now) (no-members P c.args.m c.requires.inside.0 c.place.ensures c.if-place-eq0.true) c.remain.ensures

pub start_members-start_row-requires : goal.start_members-start_row-requires
start_members-start_row-requires t c =
    let P = c.requires.table in
    let l = c.requires.inside.0 in
    let u = c.requires.links in
    let h = link-in P.1 c.args.m l c.place.ensures u c.if-place-eq0.false c.place-p.ensures refl in
    (rw (← c.decreases) (omega (arith, h.higher, l)), (P, h.inside))

pub start_members-bounds-self-p : goal.start_members-bounds-self-p
start_members-bounds-self-p t c =
    let P = c.requires.table in
    let l = c.requires.inside.0 in
    let u = c.requires.links in
    (link-in P.1 c.args.m l c.place.ensures u c.if-place-eq0.false c.place-p.ensures refl).inside

pub start_members-start_members-requires : goal.start_members-start_members-requires
start_members-start_members-requires t c =
    let P = c.requires.table in
    let l = c.requires.inside.0 in
    let u = c.requires.links in
    let h = link-in P.1 c.args.m l c.place.ensures u c.if-place-eq0.false c.place-p.ensures c.place-next.ensures in
    (rw (← c.decreases) (omega (arith, h.higher-next, l)), (P, ((h.inside-next, c.requires.inside.1, omega (arith, h.higher-next, c.requires.inside.2)), next-links P.1 c.args.m l c.place.ensures u c.if-place-eq0.false c.place-next.ensures)))

pub start_members-returns-then-self-p-eq2 : goal.start_members-returns-then-self-p-eq2
start_members-returns-then-self-p-eq2 t c =
    let l = c.requires.inside.0 in
    let u = c.requires.links in
    λ rows P. next-starts rows c.args.m c.args.all c.args.r c.args.n (kept_lists c.args.self.now) (link-in P c.args.m l c.place.ensures u c.if-place-eq0.false c.place-p.ensures c.place-next.ensures) (c.start_row.ensures rows P) c.if-self-p-eq2.true (c.start_members.ensures rows P)

pub start_members-start_members-requires-then-all : goal.start_members-start_members-requires-then-all
start_members-start_members-requires-then-all t c =
    let P = c.requires.table in
    let l = c.requires.inside.0 in
    let u = c.requires.links in
    let h = link-in P.1 c.args.m l c.place.ensures u c.if-place-eq0.false c.place-p.ensures c.place-next.ensures in
    (rw (← c.decreases) (omega (arith, h.higher-next, l)), (P, ((h.inside-next, c.requires.inside.1, omega (arith, h.higher-next, c.requires.inside.2)), next-links P.1 c.args.m l c.place.ensures u c.if-place-eq0.false c.place-next.ensures)))

pub start_members-returns-then-all : goal.start_members-returns-then-all
start_members-returns-then-all t c =
    let l = c.requires.inside.0 in
    let u = c.requires.links in
    λ rows P. more-starts rows c.args.m c.args.all c.args.r c.args.n (kept_lists c.args.self.now) (link-in P c.args.m l c.place.ensures u c.if-place-eq0.false c.place-p.ensures c.place-next.ensures) (c.start_row.ensures rows P) c.if-self-p-eq2.false c.if-all.true (c.start_members-then-all.ensures rows P)

pub start_members-returns-else-all : goal.start_members-returns-else-all
start_members-returns-else-all t c =
    let l = c.requires.inside.0 in
    let u = c.requires.links in
    λ rows P. one-starts rows c.args.m c.args.all c.args.r c.args.n (kept_lists c.args.self.now) (link-in P c.args.m l c.place.ensures u c.if-place-eq0.false c.place-p.ensures c.place-next.ensures) (c.start_row.ensures rows P) c.if-self-p-eq2.false c.if-all.false

pub start_row-start_beneath-requires : goal.start_row-start_beneath-requires
start_row-start_beneath-requires t c =
    (rw (← c.decreases) (omega arith), (c.requires.table, c.requires.row))
