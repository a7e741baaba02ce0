-- The loop keeps which token the table has for the bytes. Assumes nothing.
use mathlib.Core.Path.{refl, sym, ap, ◌∙◌}
use native.Mathlib.Omega.{arith}
use Rattle.std.specs.Prelude.{Some}
use Rattle.read_tokens.specs.declared.Lexeme.{Lexeme}
use Rattle.read_tokens.proofs.TableSteps.{not_there, line-short, line-found, line-passed}
use Rattle.read_tokens.proofs.table.look_up.Goals as goal

pub loop-line-init : goal.loop-line-init
loop-line-init c = (refl, c.requires)

pub spells-requires : goal.spells-requires
spells-requires c = (line-short c.args.table.now c.args.chunk.now c.loop-line.line-index (omega arith) c.loop-line.invariant.1).0

pub returns-then-spells : goal.returns-then-spells
returns-then-spells c =
    let a = c.args in
    ap (λ (l : Lexeme). Some l) c.lexeme.ensures
    ∙ sym
    (c.loop-line.invariant.0
    ∙ line-found a.table.now a.chunk.now c.loop-line.line-index (omega arith)
    (sym c.spells.ensures ∙ c.if-spells.true))

pub loop-line-preserved : goal.loop-line-preserved
loop-line-preserved c =
    let a = c.args in (
      c.loop-line.invariant.0 ∙ line-passed a.table.now a.chunk.now c.loop-line.line-index (omega arith) (sym c.spells.ensures ∙ c.if-spells.false),
      (line-short a.table.now a.chunk.now c.loop-line.line-index (omega arith) c.loop-line.invariant.1).1,
    )

pub returns : goal.returns
returns c = let a = c.args in sym (c.loop-line.invariant.0 ∙ not_there a.table.now a.chunk.now c.loop-line.line-index (omega arith))
