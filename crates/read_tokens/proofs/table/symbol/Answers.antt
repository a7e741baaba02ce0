-- By how many bytes there are. Assumes nothing.
use Rattle.read_tokens.proofs.SymbolCases.{one_of, two-of, no_symbol}
use Rattle.read_tokens.proofs.table.symbol.Goals as goal

pub returns-in-1 : goal.returns-in-1
returns-in-1 c = one_of _ _ c.in-1.is c.one_byte.ensures

pub returns-in-2 : goal.returns-in-2
returns-in-2 c = two-of _ _ c.in-2.is c.two_bytes.ensures

pub returns-in_default : goal.returns-in_default
returns-in_default c = let n = c.in_default.in_default-own.rest in no_symbol _ n.0.1 n.1
