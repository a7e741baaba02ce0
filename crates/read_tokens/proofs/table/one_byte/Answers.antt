-- By the byte. Assumes nothing.
use mathlib.Core.Path.{refl}
use Rattle.meaning.specs.Lines.{same}
use Rattle.grammar.specs.Tokens.{token_spelt, symbols}
use Rattle.read_tokens.proofs.SymbolCases.{one_known, one-other}
use Rattle.read_tokens.proofs.table.one_byte.Goals as goal

pub returns-in-58 : goal.returns-in-58
unfolding token_spelt symbols same
returns-in-58 c = one_known c.args.b 58 _ _ c.in-58.is c.lexeme.ensures refl

pub returns-in-61 : goal.returns-in-61
unfolding token_spelt symbols same
returns-in-61 c = one_known c.args.b 61 _ _ c.in-61.is c.lexeme-in-61.ensures refl

pub returns-in-60 : goal.returns-in-60
unfolding token_spelt symbols same
returns-in-60 c = one_known c.args.b 60 _ _ c.in-60.is c.lexeme-in-60.ensures refl

pub returns-in-62 : goal.returns-in-62
unfolding token_spelt symbols same
returns-in-62 c = one_known c.args.b 62 _ _ c.in-62.is c.lexeme-in-62.ensures refl

pub returns-in-91 : goal.returns-in-91
unfolding token_spelt symbols same
returns-in-91 c = one_known c.args.b 91 _ _ c.in-91.is c.lexeme-in-91.ensures refl

pub returns-in-93 : goal.returns-in-93
unfolding token_spelt symbols same
returns-in-93 c = one_known c.args.b 93 _ _ c.in-93.is c.lexeme-in-93.ensures refl

pub returns-in-40 : goal.returns-in-40
unfolding token_spelt symbols same
returns-in-40 c = one_known c.args.b 40 _ _ c.in-40.is c.lexeme-in-40.ensures refl

pub returns-in-41 : goal.returns-in-41
unfolding token_spelt symbols same
returns-in-41 c = one_known c.args.b 41 _ _ c.in-41.is c.lexeme-in-41.ensures refl

pub returns-in-43 : goal.returns-in-43
unfolding token_spelt symbols same
returns-in-43 c = one_known c.args.b 43 _ _ c.in-43.is c.lexeme-in-43.ensures refl

pub returns-in-45 : goal.returns-in-45
unfolding token_spelt symbols same
returns-in-45 c = one_known c.args.b 45 _ _ c.in-45.is c.lexeme-in-45.ensures refl

pub returns-in-42 : goal.returns-in-42
unfolding token_spelt symbols same
returns-in-42 c = one_known c.args.b 42 _ _ c.in-42.is c.lexeme-in-42.ensures refl

pub returns-in-47 : goal.returns-in-47
unfolding token_spelt symbols same
returns-in-47 c = one_known c.args.b 47 _ _ c.in-47.is c.lexeme-in-47.ensures refl

pub returns-in-63 : goal.returns-in-63
unfolding token_spelt symbols same
returns-in-63 c = one_known c.args.b 63 _ _ c.in-63.is c.lexeme-in-63.ensures refl

pub returns-in-33 : goal.returns-in-33
unfolding token_spelt symbols same
returns-in-33 c = one_known c.args.b 33 _ _ c.in-33.is c.lexeme-in-33.ensures refl

pub returns-in-38 : goal.returns-in-38
unfolding token_spelt symbols same
returns-in-38 c = one_known c.args.b 38 _ _ c.in-38.is c.lexeme-in-38.ensures refl

pub returns-in_default : goal.returns-in_default
returns-in_default c = let n = c.in_default.in_default-own.rest in one-other c.args.b n.0.0.0.0.0.0.0.0.0.0.0.0.0.0.1 n.0.0.0.0.0.0.0.0.0.0.0.0.0.1 n.0.0.0.0.0.0.0.0.0.0.0.0.1 n.0.0.0.0.0.0.0.0.0.0.0.1 n.0.0.0.0.0.0.0.0.0.0.1 n.0.0.0.0.0.0.0.0.0.1 n.0.0.0.0.0.0.0.0.1 n.0.0.0.0.0.0.0.1 n.0.0.0.0.0.0.1 n.0.0.0.0.0.1 n.0.0.0.0.1 n.0.0.0.1 n.0.0.1 n.0.1 n.1
