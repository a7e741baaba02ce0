-- `wake_options` meets its contract. A next link is a higher row, so the distance to row 1,025 falls.
use native.Mathlib.Omega.{arith}
use mathlib.Core.Path.{refl}
use Rattle.run_noting.proofs.Changes.{none-woken, next-woken}
use Rattle.run_notes.proofs.Links.{option-row, next-link, option-here, no-option}
use Rattle.run_noting.proofs.+wake_options.Goals as goal

pub wake_option-requires : goal.wake_option-requires
wake_option-requires t c = option-row c.requires.table.1 c.args.m c.requires.inside c.place.ensures c.if-place-eq42.true

pub wake_options-requires : goal.wake_options-requires
wake_options-requires t c =
    let l = next-link c.requires.table.1 c.args.m c.requires.inside c.place.ensures c.if-place-eq42.true c.place-then-place-eq42.ensures in
    (omega (arith, c.decreases, l), (c.requires.table, l.1))

pub returns-then-place-eq42 : goal.returns-then-place-eq42
returns-then-place-eq42 t c = λ rows p.
    let o = option-here p c.args.m c.requires.inside c.place.ensures c.if-place-eq42.true c.place-then-place-eq42.ensures in
    next-woken _ _ _ o refl c.wake_option.ensures (c.wake_options.ensures rows p)

pub returns-else-place-eq42 : goal.returns-else-place-eq42
returns-else-place-eq42 t c = λ rows p. none-woken _ _ (no-option p c.args.m c.requires.inside c.place.ensures c.if-place-eq42.false)
