-- By whether the bytes are a word. Assumes nothing.
use mathlib.Core.Path.{sym, ap, ◌∙◌}
use Rattle.read_tokens.specs.Lexemes.{lexeme_of}
use Rattle.read_tokens.proofs.TokenCases.{token-of-word, token-of-other}
use Rattle.read_tokens.proofs.tokens.token_of.Goals as goal

pub returns-then-is_word : goal.returns-then-is_word
returns-then-is_word c =
    c.word_or_name.ensures ∙ ap lexeme_of (token-of-word c.args.chunk.now (sym c.is_word.ensures ∙ c.if-is_word.true))

pub returns-else-is_word : goal.returns-else-is_word
returns-else-is_word c =
    c.symbol_or_number.ensures ∙ ap lexeme_of (token-of-other c.args.chunk.now (sym c.is_word.ensures ∙ c.if-is_word.false))
