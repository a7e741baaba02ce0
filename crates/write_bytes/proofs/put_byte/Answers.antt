-- `put_byte` meets its contract. Assumes nothing.
use mathlib.Core.Path.{sym}
use Rattle.write_bytes.proofs.Writers.{put-inside, put-outside}
use borrow.Author.Rules.{rules}
use Rattle.write_bytes.proofs.put_byte.Goals as goal

pub returns-then-at-out : goal.returns-then-at-out
returns-then-at-out c = sym (put-inside c.args.b c.args.at c.args.out.now (search rules))

pub returns : goal.returns
returns c = sym (put-outside c.args.b c.args.at c.args.out.now (search rules))
