use mathlib.Core.Path.{◌≡◌}
use mathlib.Core.Bool.{true}
use lib.ListN.{drop}
use Rattle.read_tokens.specs.Table.{all_short, lexeme_in}
use Rattle.read_tokens.proofs.table.look_up.Given as goal

abbrev pub invariant-loop-line : goal.invariant-loop-line
invariant-loop-line l = (lexeme_in l.table l.chunk ≡ lexeme_in (drop l.line-index l.table) l.chunk) × (all_short (drop l.line-index l.table) ≡ true)
