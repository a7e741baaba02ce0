-- `note_options` meets its contract. The invariant: what is left to note is due to the options from t on.
use mathlib.Core.Path.{◌≡◌, refl, sym, ap, ◌∙◌}
use mathlib.Core.List.{List, ◌∷◌}
use Prim.Native.Nat.{ℕ}
use native.Mathlib.Omega.{arith}
use lib.ListN.{length, get_or}
use Rattle.meaning.specs.Basics.{among}
use Rattle.base_layout.proofs.Parts.{operand-higher}
use Rattle.run_parents.specs.Marks.{first_note}
use Rattle.run_parents.proofs.OptionLinks.{options_from, options-past, options-here, options-none}
use Rattle.run_parents.proofs.Noting.{noted-none, note-given, note-length}
use Rattle.run_parents.proofs.owners.note_options.Goals as goal

pub loop-t-init : goal.loop-t-init
loop-t-init c = (refl, λ j l. refl)

pub returns-then-natural-ne42 : goal.returns-then-natural-ne42
returns-then-natural-ne42 c j l =
    let args = c.args in
    sym (c.loop-t.invariant.1 j l ∙ noted-none j args.note (get_or c.loop-t.owners j 0) _ (options-none args.rows.now c.loop-t.t c.loop-t-test.true (λ e. c.if-natural-ne42.true (c.natural.ensures ∙ e))))

pub loop-t-smaller : goal.loop-t-smaller
loop-t-smaller c =
    let rows = c.args.rows.now in
    omega (arith, operand-higher rows c.loop-t.t 2 c.loop-t-test.true, c.operand-t.ensures)

pub loop-t-preserved : goal.loop-t-preserved
loop-t-preserved c =
    let args = c.args in
    let rows = args.rows.now in
    let t = c.loop-t.t in
    let owners = c.loop-t.owners in
    let m = options_from rows c.operand-t.result in
    let links : options_from rows t ≡ t ∷ m = options-here rows t c.loop-t-test.true (sym c.natural.ensures ∙ c.if-natural-ne42.false) ∙ ap (λ (b : ℕ). t ∷ options_from rows b) (sym c.operand-t.ensures) in
    (ap (λ (l : List ℕ). length l) c.note_at.ensures ∙ note-length owners t args.note ∙ c.loop-t.invariant.0, λ j l. c.loop-t.invariant.1 j l ∙ ap (λ (l : List ℕ). first_note (among j l) args.note (get_or owners j 0)) links ∙ note-given j t args.note m owners (rw c.loop-t.invariant.0 l) ∙ ap (λ (o : List ℕ). first_note (among j m) args.note (get_or o j 0)) (sym c.note_at.ensures))

pub returns : goal.returns
returns c j l =
    let args = c.args in
    sym (c.loop-t.invariant.1 j l ∙ noted-none j args.note (get_or c.loop-t.owners j 0) _ (options-past args.rows.now c.loop-t.t c.loop-t-test.false))
