-- Line by line, no line so far is the line `=`. Assumes nothing.
use mathlib.Core.Path.{sym, ◌∙◌}
use native.Mathlib.Omega.{arith}
use Rattle.write_lines.proofs.Splits.{passed_none, passed-more, line-inside, splits-at, splits-nowhere, split-is}
use Rattle.write_lines.proofs.splitting.split.Goals as goal

pub loop-at-init : goal.loop-at-init
loop-at-init c = passed_none _

pub slice_bounds-is_separator-count : goal.slice_bounds-is_separator-count
slice_bounds-is_separator-count c = let h = line-inside c.args.input.now c.loop-at.at c.line_end-end.result c.loop-at-test.true c.line_end-end.ensures in omega arith

pub slice_bounds-is_separator-end : goal.slice_bounds-is_separator-end
slice_bounds-is_separator-end c = (line-inside c.args.input.now c.loop-at.at c.line_end-end.result c.loop-at-test.true c.line_end-end.ensures).1

pub returns-then-is_separator : goal.returns-then-is_separator
returns-then-is_separator c = let p = split-is _ _ (splits-at c.args.input.now c.loop-at.at c.line_end-end.result c.loop-at-test.true c.line_end-end.ensures c.loop-at.invariant (sym c.is_separator.ensures ∙ c.if-is_separator.true)) in record { numbers = p.0; meaning = p.1 }

pub loop-at-smaller : goal.loop-at-smaller
loop-at-smaller c = let h = line-inside c.args.input.now c.loop-at.at c.line_end-end.result c.loop-at-test.true c.line_end-end.ensures in omega arith

pub loop-at-preserved : goal.loop-at-preserved
loop-at-preserved c = passed-more c.args.input.now c.loop-at.at c.line_end-end.result c.loop-at-test.true c.line_end-end.ensures c.loop-at.invariant (sym c.is_separator.ensures ∙ c.if-is_separator.false)

pub returns : goal.returns
returns c = let p = split-is _ _ (splits-nowhere c.args.input.now c.loop-at.at c.loop-at.invariant c.loop-at-test.false) in record { numbers = p.0; meaning = p.1 }
