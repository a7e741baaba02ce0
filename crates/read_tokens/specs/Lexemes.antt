-- A token as the code holds it: its sort, and what the sort does not say of it.
use Rattle.std.specs.Prelude as found
use Rattle.std.specs.Prelude.{◌≡◌, List, ℕ, ℤ, pos, length, Some, None}
use Rattle.std.proofs.Math.Option.{Option, none, some}
use Rattle.grammar.specs.Grammar.{both, either, Mark, a-skip, a-stop, a-seq, a-par, an-if, an-alt, a-while, becomes, asks, tells, ampersand, an_int, a-chan, a-hostin, a-hostout, colon, unused, Token, name, number, minus, not-word, given, arith, joins, round-open, round-close, square-open, square-close, mark}
use Rattle.read_tokens.specs.Sorts as sorts
use Rattle.read_tokens.specs.declared.Lexeme.{Lexeme}

-- a sort and a value
abbrev pub valued : ℕ → ℤ → Lexeme
valued s z = record { sort = s; value = z }

-- a sort that says all
abbrev pub plain : ℕ → Lexeme
plain s = valued s (pos 0)

-- a word or symbol that stands in no expression
abbrev pub mark_lexeme : Mark → Lexeme
mark_lexeme a-skip = plain sorts.skip
mark_lexeme a-stop = plain sorts.stop
mark_lexeme a-seq = plain sorts.seq
mark_lexeme a-par = plain sorts.par
mark_lexeme an-if = plain sorts.if
mark_lexeme an-alt = plain sorts.alt
mark_lexeme a-while = plain sorts.while
mark_lexeme becomes = plain sorts.becomes
mark_lexeme asks = plain sorts.asks
mark_lexeme tells = plain sorts.tells
mark_lexeme ampersand = plain sorts.ampersand
mark_lexeme an_int = plain sorts.int
mark_lexeme a-chan = plain sorts.chan
mark_lexeme a-hostin = plain sorts.hostin
mark_lexeme a-hostout = plain sorts.hostout
mark_lexeme colon = plain sorts.colon
mark_lexeme (unused k) = valued sorts.unused (pos k)

-- a token: of a name how many bytes it has, of a number the number, of an operator its number, of an unused word which it is
abbrev pub token_lexeme : Token → Lexeme
token_lexeme (name n) = valued sorts.name (pos (length n))
token_lexeme (number z) = valued sorts.number z
token_lexeme minus = plain sorts.minus
token_lexeme not-word = plain sorts.not
token_lexeme given = plain sorts.given
token_lexeme (arith k) = valued sorts.arith (pos k)
token_lexeme (joins both) = plain sorts.and
token_lexeme (joins either) = plain sorts.or
token_lexeme round-open = plain sorts.round_open
token_lexeme round-close = plain sorts.round_close
token_lexeme square-open = plain sorts.square_open
token_lexeme square-close = plain sorts.square_close
token_lexeme (mark m) = mark_lexeme m

-- a token, or that there is none
abbrev pub lexeme_of : Option Token → found.Option Lexeme
lexeme_of none = None
lexeme_of (some t) = Some (token_lexeme t)

-- no name
abbrev pub Unnamed : Option Token → Type 0
Unnamed o = (n : List ℕ) → o ≡ some (name n) → ⊥
