-- By the byte before. Assumes nothing.
use mathlib.Core.Path.{refl}
use Rattle.meaning.specs.Lines.{same}
use Rattle.grammar.specs.Tokens.{token_spelt, symbols}
use Rattle.read_tokens.proofs.SymbolCases.{first-known, more-other}
use Rattle.read_tokens.proofs.table.with_more.Goals as goal

pub returns-in-60 : goal.returns-in-60
unfolding token_spelt symbols same
returns-in-60 c = first-known c.args.b 62 60 _ _ c.in-60.is c.lexeme.ensures refl

pub returns-in_default : goal.returns-in_default
returns-in_default c = let n = c.in_default.in_default-own.rest in more-other c.args.b n.1
