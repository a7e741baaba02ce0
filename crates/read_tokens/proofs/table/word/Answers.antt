-- By the first byte: the table for a letter has a line for each word that begins with it, in their order. Assumes nothing.
use mathlib.Core.Path.{refl, sym, ◌∙◌}
use Rattle.grammar.specs.Tokens.{words}
use Rattle.read_tokens.specs.Table.{all_short}
use Rattle.read_tokens.proofs.WordCases.{begins, beginning, no_bytes, first-letter, first-other}
use Rattle.read_tokens.proofs.table.word.Goals as goal

pub returns-then-is_empty : goal.returns-then-is_empty
returns-then-is_empty c = no_bytes _ (sym c.is_empty.ensures ∙ c.if-is_empty.true)

pub look_up-requires : goal.look_up-requires
unfolding all_short
look_up-requires c = refl

pub look_up-requires-in-67 : goal.look_up-requires-in-67
unfolding all_short
look_up-requires-in-67 c = refl

pub look_up-requires-in-70 : goal.look_up-requires-in-70
unfolding all_short
look_up-requires-in-70 c = refl

pub look_up-requires-in-71 : goal.look_up-requires-in-71
unfolding all_short
look_up-requires-in-71 c = refl

pub look_up-requires-in-72 : goal.look_up-requires-in-72
unfolding all_short
look_up-requires-in-72 c = refl

pub look_up-requires-in-73 : goal.look_up-requires-in-73
unfolding all_short
look_up-requires-in-73 c = refl

pub look_up-requires-in-77 : goal.look_up-requires-in-77
unfolding all_short
look_up-requires-in-77 c = refl

pub look_up-requires-in-78 : goal.look_up-requires-in-78
unfolding all_short
look_up-requires-in-78 c = refl

pub look_up-requires-in-79 : goal.look_up-requires-in-79
unfolding all_short
look_up-requires-in-79 c = refl

pub look_up-requires-in-80 : goal.look_up-requires-in-80
unfolding all_short
look_up-requires-in-80 c = refl

pub look_up-requires-in-82 : goal.look_up-requires-in-82
unfolding all_short
look_up-requires-in-82 c = refl

pub look_up-requires-in-83 : goal.look_up-requires-in-83
unfolding all_short
look_up-requires-in-83 c = refl

pub look_up-requires-in-84 : goal.look_up-requires-in-84
unfolding all_short
look_up-requires-in-84 c = refl

pub look_up-requires-in-87 : goal.look_up-requires-in-87
unfolding all_short
look_up-requires-in-87 c = refl

pub returns-in-65 : goal.returns-in-65
unfolding words begins beginning
returns-in-65 c = first-letter c.args.chunk.now 65 _ _ (sym c.is_empty.ensures ∙ c.if-is_empty.false) c.in-65.is refl c.look_up.ensures

pub returns-in-67 : goal.returns-in-67
unfolding words begins beginning
returns-in-67 c = first-letter c.args.chunk.now 67 _ _ (sym c.is_empty.ensures ∙ c.if-is_empty.false) c.in-67.is refl c.look_up-in-67.ensures

pub returns-in-70 : goal.returns-in-70
unfolding words begins beginning
returns-in-70 c = first-letter c.args.chunk.now 70 _ _ (sym c.is_empty.ensures ∙ c.if-is_empty.false) c.in-70.is refl c.look_up-in-70.ensures

pub returns-in-71 : goal.returns-in-71
unfolding words begins beginning
returns-in-71 c = first-letter c.args.chunk.now 71 _ _ (sym c.is_empty.ensures ∙ c.if-is_empty.false) c.in-71.is refl c.look_up-in-71.ensures

pub returns-in-72 : goal.returns-in-72
unfolding words begins beginning
returns-in-72 c = first-letter c.args.chunk.now 72 _ _ (sym c.is_empty.ensures ∙ c.if-is_empty.false) c.in-72.is refl c.look_up-in-72.ensures

pub returns-in-73 : goal.returns-in-73
unfolding words begins beginning
returns-in-73 c = first-letter c.args.chunk.now 73 _ _ (sym c.is_empty.ensures ∙ c.if-is_empty.false) c.in-73.is refl c.look_up-in-73.ensures

pub returns-in-77 : goal.returns-in-77
unfolding words begins beginning
returns-in-77 c = first-letter c.args.chunk.now 77 _ _ (sym c.is_empty.ensures ∙ c.if-is_empty.false) c.in-77.is refl c.look_up-in-77.ensures

pub returns-in-78 : goal.returns-in-78
unfolding words begins beginning
returns-in-78 c = first-letter c.args.chunk.now 78 _ _ (sym c.is_empty.ensures ∙ c.if-is_empty.false) c.in-78.is refl c.look_up-in-78.ensures

pub returns-in-79 : goal.returns-in-79
unfolding words begins beginning
returns-in-79 c = first-letter c.args.chunk.now 79 _ _ (sym c.is_empty.ensures ∙ c.if-is_empty.false) c.in-79.is refl c.look_up-in-79.ensures

pub returns-in-80 : goal.returns-in-80
unfolding words begins beginning
returns-in-80 c = first-letter c.args.chunk.now 80 _ _ (sym c.is_empty.ensures ∙ c.if-is_empty.false) c.in-80.is refl c.look_up-in-80.ensures

pub returns-in-82 : goal.returns-in-82
unfolding words begins beginning
returns-in-82 c = first-letter c.args.chunk.now 82 _ _ (sym c.is_empty.ensures ∙ c.if-is_empty.false) c.in-82.is refl c.look_up-in-82.ensures

pub returns-in-83 : goal.returns-in-83
unfolding words begins beginning
returns-in-83 c = first-letter c.args.chunk.now 83 _ _ (sym c.is_empty.ensures ∙ c.if-is_empty.false) c.in-83.is refl c.look_up-in-83.ensures

pub returns-in-84 : goal.returns-in-84
unfolding words begins beginning
returns-in-84 c = first-letter c.args.chunk.now 84 _ _ (sym c.is_empty.ensures ∙ c.if-is_empty.false) c.in-84.is refl c.look_up-in-84.ensures

pub returns-in-87 : goal.returns-in-87
unfolding words begins beginning
returns-in-87 c = first-letter c.args.chunk.now 87 _ _ (sym c.is_empty.ensures ∙ c.if-is_empty.false) c.in-87.is refl c.look_up-in-87.ensures

pub returns-in_default : goal.returns-in_default
returns-in_default c = let n = c.in_default.in_default-own.rest in first-other _ n.0.0.0.0.0.0.0.0.0.0.0.0.0.1 n.0.0.0.0.0.0.0.0.0.0.0.0.1 n.0.0.0.0.0.0.0.0.0.0.0.1 n.0.0.0.0.0.0.0.0.0.0.1 n.0.0.0.0.0.0.0.0.0.1 n.0.0.0.0.0.0.0.0.1 n.0.0.0.0.0.0.0.1 n.0.0.0.0.0.0.1 n.0.0.0.0.0.1 n.0.0.0.0.1 n.0.0.0.1 n.0.0.1 n.0.1 n.1
