-- The row, then the boolean behind the rows after it. Assumes nothing.
use mathlib.Core.Path.{ap}
use native.Mathlib.Omega.{arith}
use Rattle.grammar.specs.Outline.{choices}
use Rattle.read_tokens.specs.Held.{tokens_resolved}
use Rattle.read_rows.specs.LinesLaid.{expect_of}
use Rattle.read_rows.proofs.StandSteps.{stands_at}
use Rattle.read_rows.proofs.ListCases.{choice-room, choice-fits, choice-laid}
use Rattle.read_rows.proofs.lists.write_choice.Goals as goal

pub write_listed-requires : goal.write_listed-requires
unfolding expect_of
write_listed-requires c =
    let os = tokens_resolved c.args.sorts.now c.args.values.now in
    let at = stands_at c.args.kind os c.args.spot c.args.rows.now c.requires.1 choices (ap expect_of c.requires.0) in
    choice-room c.args.kind os c.args.spot c.args.rows.now at

pub overflow_add-n : goal.overflow_add-n
unfolding expect_of
overflow_add-n c =
    let os = tokens_resolved c.args.sorts.now c.args.values.now in
    let at = stands_at c.args.kind os c.args.spot c.args.rows.now c.requires.1 choices (ap expect_of c.requires.0) in
    record { fits = omega (arith, (choice-room c.args.kind os c.args.spot c.args.rows.now at).0) }

pub overflow_add-n-2 : goal.overflow_add-n-2
unfolding expect_of
overflow_add-n-2 c =
    let os = tokens_resolved c.args.sorts.now c.args.values.now in
    let at = stands_at c.args.kind os c.args.spot c.args.rows.now c.requires.1 choices (ap expect_of c.requires.0) in
    record { fits = omega (arith, (choice-room c.args.kind os c.args.spot c.args.rows.now at).0) }

pub overflow_add-n-3 : goal.overflow_add-n-3
unfolding expect_of
overflow_add-n-3 c =
    let os = tokens_resolved c.args.sorts.now c.args.values.now in
    let at = stands_at c.args.kind os c.args.spot c.args.rows.now c.requires.1 choices (ap expect_of c.requires.0) in
    record { fits = omega (arith, (choice-room c.args.kind os c.args.spot c.args.rows.now at).0) }

pub write_phrase-requires : goal.write_phrase-requires
unfolding expect_of
write_phrase-requires c =
    let os = tokens_resolved c.args.sorts.now c.args.values.now in
    let at = stands_at c.args.kind os c.args.spot c.args.rows.now c.requires.1 choices (ap expect_of c.requires.0) in
    let w = c.write_listed in
    let (i, j, k) = choice-fits c.args.kind os c.args.spot c.args.rows.now at _ w.ensures in
    ((i, j, k), c.requires.2)

pub returns : goal.returns
unfolding expect_of
returns c =
    let os = tokens_resolved c.args.sorts.now c.args.values.now in
    let at = stands_at c.args.kind os c.args.spot c.args.rows.now c.requires.1 choices (ap expect_of c.requires.0) in
    let w = c.write_listed in
    let v = c.write_phrase in
    (v.ensures.0, choice-laid c.args.kind os c.args.spot c.args.rows.now at _ w.ensures _ v.ensures.2)
