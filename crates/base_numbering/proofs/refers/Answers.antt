-- By the sort of the entry. Assumes nothing.
use mathlib.Core.Path.{sym}
use Rattle.base_kinds.specs.Table.{field_meant}
use Rattle.base_top_down.specs.Forms.{is_reference}
use Rattle.base_numbering.proofs.Entries.{no-reference}
use Rattle.base_numbering.proofs.refers.Goals as goal

pub returns-in-7 : goal.returns-in-7
unfolding is_reference field_meant
returns-in-7 c = rw c.in-7.is

pub returns-in-8 : goal.returns-in-8
unfolding is_reference field_meant
returns-in-8 c = rw c.in-8.is

pub returns-in_default : goal.returns-in_default
returns-in_default c = sym (no-reference c.args.entry c.in_default.in_default-own.rest.0.1 c.in_default.in_default-own.rest.1)
