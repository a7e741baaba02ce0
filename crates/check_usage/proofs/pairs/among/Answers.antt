-- The members before i have been tested with those after them, and no test held. Assumes nothing.
use Rattle.std.proofs.Common.{rules, arith, ◌≡◌, Err, sym, ◌∙◌}
use Rattle.check_usage.specs.Search.{meet_by}
use Rattle.check_usage.proofs.SearchLaws.{member-searched, member-most, no-member-left}
use Rattle.check_usage.proofs.pairs.among.Goals as goal

pub returns-in_err-pairs : goal.returns-in_err-pairs
returns-in_err-pairs c =
    let found : c.from_residual.result ≡ Err c.in_err-pairs.field-0.0 = search rules in
    found ∙ sym (c.loop-i.invariant.0 ∙ (rw c.in_err-pairs.was at (member-searched (meet_by c.args.sets.now c.args.number) c.args.members.now c.loop-i.i c.loop-i.pairs (omega arith) c.with_later.ensures)))

pub loop-i-preserved : goal.loop-i-preserved
loop-i-preserved c =
    let test = meet_by c.args.sets.now c.args.number in
    let most = rw c.in_ok-pairs.was at (member-most test c.args.members.now c.loop-i.i c.loop-i.pairs c.with_later.ensures) in
    (c.loop-i.invariant.0 ∙ (rw c.in_ok-pairs.was at (member-searched test c.args.members.now c.loop-i.i c.loop-i.pairs (omega arith) c.with_later.ensures)), omega (arith, most))

pub returns : goal.returns
returns c = sym (c.loop-i.invariant.0 ∙ no-member-left (meet_by c.args.sets.now c.args.number) c.args.members.now c.loop-i.i c.loop-i.pairs (omega arith))
