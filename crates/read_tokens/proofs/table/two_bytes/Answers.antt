-- By the second byte. Assumes nothing.
use Rattle.read_tokens.proofs.SymbolCases.{second-known, second-other}
use Rattle.read_tokens.proofs.table.two_bytes.Goals as goal

pub returns-in-61 : goal.returns-in-61
returns-in-61 c = second-known c.args.b c.args.c 61 _ c.in-61.is c.with_equals.ensures

pub returns-in-62 : goal.returns-in-62
returns-in-62 c = second-known c.args.b c.args.c 62 _ c.in-62.is c.with_more.ensures

pub returns-in_default : goal.returns-in_default
returns-in_default c = let n = c.in_default.in_default-own.rest in second-other c.args.b c.args.c n.0.1 n.1
