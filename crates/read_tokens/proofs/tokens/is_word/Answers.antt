-- By whether the first byte is a letter. Assumes nothing.
use mathlib.Core.Path.{sym, ◌∙◌}
use lib.ListN.{length}
use borrow.Author.Tests.{eqb-true}
use Rattle.read_tokens.proofs.WordSteps.{no_word, no-letter, after-letter, rest-told}
use Rattle.read_tokens.proofs.tokens.is_word.Goals as goal
use Rattle.read_tokens.proofs.tokens.is_word.Goals.{then-not-is_empty, else-not-is_empty}

pub returns-then-is_letter : goal.returns-then-is_letter
returns-then-is_letter c =
    elim c.if-not-is_empty.branch [
      | then-not-is_empty w ↦ rest-told c.args.chunk.now _ c.are_word_bytes.ensures ∙ sym (after-letter c.args.chunk.now (sym w.is_letter.ensures ∙ sym w.value-is ∙ c.if-is_letter.true))
      | else-not-is_empty w ↦ cc
    ]

pub returns-else-is_letter : goal.returns-else-is_letter
returns-else-is_letter c =
    elim c.if-not-is_empty.branch [
      | then-not-is_empty w ↦ c.if-is_letter.false ∙ sym (no-letter c.args.chunk.now (sym w.is_letter.ensures ∙ sym w.value-is ∙ c.if-is_letter.false))
      | else-not-is_empty w ↦ c.if-is_letter.false ∙ sym (no_word c.args.chunk.now (eqb-true (length c.args.chunk.now) 0 (sym c.is_empty.ensures ∙ w.if-not-is_empty.false)))
    ]
