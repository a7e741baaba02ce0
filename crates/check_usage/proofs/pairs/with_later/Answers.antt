-- `pairs::with_later` meets its contract. The members before j have been tested, and no test held; the measure is what is left of them.
use mathlib.Core.Path.{refl, sym, ◌∙◌}
use native.Mathlib.Omega.{arith}
use lib.ListN.{get_or}
use Rattle.check_usage.specs.Search.{meet_by}
use Rattle.check_usage.proofs.SearchLaws.{next-fails, next-holds, none_left}
use Rattle.check_usage.proofs.pairs.with_later.Goals as goal

pub overflow_cast-p : goal.overflow_cast-p
overflow_cast-p c = omega (arith, c.shared_slice_known-3-1.given c.args.i)

pub loop-j-init : goal.loop-j-init
loop-j-init c = (refl, omega arith)

pub overflow_cast-members : goal.overflow_cast-members
overflow_cast-members c = omega (arith, c.shared_slice_known-in-loop-j-1.given c.loop-j.j)

pub clash-requires : goal.clash-requires
clash-requires c =
    (c.requires.2 c.args.i c.requires.0, c.requires.2 c.loop-j.j (omega arith))

pub returns-then-clash : goal.returns-then-clash
returns-then-clash c =
    sym (c.loop-j.invariant.0 ∙ next-holds (meet_by c.args.sets.now c.args.number (get_or c.args.members.now c.args.i 0)) c.args.members.now c.loop-j.j c.loop-j.pairs (omega arith) (sym c.clash.ensures ∙ c.if-clash.true))

pub loop-j-preserved : goal.loop-j-preserved
loop-j-preserved c =
    (c.loop-j.invariant.0 ∙ next-fails (meet_by c.args.sets.now c.args.number (get_or c.args.members.now c.args.i 0)) c.args.members.now c.loop-j.j c.loop-j.pairs (omega arith) (sym c.clash.ensures ∙ c.if-clash.false), omega arith)

pub returns : goal.returns
returns c =
    sym (c.loop-j.invariant.0 ∙ none_left (meet_by c.args.sets.now c.args.number (get_or c.args.members.now c.args.i 0)) c.args.members.now c.loop-j.j c.loop-j.pairs (omega arith))
