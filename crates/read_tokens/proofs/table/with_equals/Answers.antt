-- By the byte before. Assumes nothing.
use mathlib.Core.Path.{refl}
use Rattle.meaning.specs.Lines.{same}
use Rattle.grammar.specs.Tokens.{token_spelt, symbols}
use Rattle.read_tokens.proofs.SymbolCases.{first-known, equals-other}
use Rattle.read_tokens.proofs.table.with_equals.Goals as goal

pub returns-in-58 : goal.returns-in-58
unfolding token_spelt symbols same
returns-in-58 c = first-known c.args.b 61 58 _ _ c.in-58.is c.lexeme.ensures refl

pub returns-in-60 : goal.returns-in-60
unfolding token_spelt symbols same
returns-in-60 c = first-known c.args.b 61 60 _ _ c.in-60.is c.lexeme-in-60.ensures refl

pub returns-in-62 : goal.returns-in-62
unfolding token_spelt symbols same
returns-in-62 c = first-known c.args.b 61 62 _ _ c.in-62.is c.lexeme-in-62.ensures refl

pub returns-in_default : goal.returns-in_default
returns-in_default c = let n = c.in_default.in_default-own.rest in equals-other c.args.b n.0.0.1 n.0.1 n.1
