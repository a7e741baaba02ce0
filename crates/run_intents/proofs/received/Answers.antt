-- `received` meets its contract where a reading is left: answered by hand, so that a reading past the last line is refused by the fact.
use Rattle.run_intents.proofs.HostReads.{read_left}
use mathlib.Core.Path.{sym, ◌∙◌}
use Rattle.run_intents.proofs.received.Goals as goal

pub returns-then-is_left : goal.returns-then-is_left
returns-then-is_left c =
    let s = c.args in
    rw (c.in-At.is, c.in-At-t.is) (read_left s.state.now.places s.lines s.channel _ _ c.if-channel-eq0.false (sym c.is_left.ensures ∙ c.if-is_left.true))
