-- By whether the table has the symbol, and by what is read as a number if not. Assumes nothing.
use mathlib.Core.Path.{sym, ◌∙◌}
use mir.Syntax.{w32}
use mir.Val.{SFits}
use mir.ValLaws.{to_z-of_z}
use Rattle.meaning.specs.Numerals.{number}
use Rattle.grammar.specs.Tokens.{symbols, token_spelt}
use Rattle.read_tokens.proofs.TokenCases.{symbol-found, number-found, none_found}
use borrow.Author.Rules.{rules}
use Rattle.read_tokens.proofs.tokens.symbol_or_number.Goals as goal

pub returns-in-Some : goal.returns-in-Some
returns-in-Some c = let s = c.args.chunk.now in symbol-found (token_spelt symbols s) (number s) _ c.in-Some.ensures

pub returns-in_err-z : goal.returns-in_err-z
returns-in_err-z c =
    let s = c.args.chunk.now in
    c.from_residual.ensures ∙ none_found (token_spelt symbols s) (number s) (sym c.in_default.is ∙ c.symbol.ensures) (sym c.in_err-z.ensures)

pub returns : goal.returns
returns c =
    let s = c.args.chunk.now in
    let fits : SFits w32 c.in_ok-z.z = search rules in
    rw (to_z-of_z w32 _ fits)
    (number-found (token_spelt symbols s) (number s) (sym c.in_default.is ∙ c.symbol.ensures) c.in_ok-z.z (sym c.in_ok-z.ensures))
