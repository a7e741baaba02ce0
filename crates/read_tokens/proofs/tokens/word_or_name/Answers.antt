-- By whether the table has the word, and by how many bytes there are if not. Assumes nothing.
use mathlib.Core.Path.{sym, ◌∙◌}
use native.Mathlib.Omega.{arith}
use mir.Syntax.{w32}
use mir.ValLaws.{to_z_pos}
use lib.ListN.{length}
use Rattle.grammar.specs.Tokens.{words, token_spelt}
use Rattle.read_tokens.proofs.TokenCases.{word-found, name-found, name-too-long}
use Rattle.read_tokens.proofs.tokens.word_or_name.Goals as goal

pub returns-in-Some : goal.returns-in-Some
returns-in-Some c = let s = c.args.chunk.now in word-found (token_spelt words s) s _ c.in-Some.ensures

pub returns-then-chunk-le31 : goal.returns-then-chunk-le31
returns-then-chunk-le31 c =
    let s = c.args.chunk.now in
    rw (to_z_pos w32 (length s) (let h = c.if-chunk-le31.true in omega arith))
    (name-found (token_spelt words s) s (sym c.in_default.is ∙ c.word.ensures) c.if-chunk-le31.true)

pub returns : goal.returns
returns c =
    let s = c.args.chunk.now in
    name-too-long (token_spelt words s) s (sym c.in_default.is ∙ c.word.ensures) c.if-chunk-le31.false
