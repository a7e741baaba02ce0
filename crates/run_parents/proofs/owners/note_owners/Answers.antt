-- `note_owners` meets its contract. The invariant: each row has the note of its lowest ALT below r.
use mathlib.Core.Path.{◌≡◌, refl, sym, ap, ◌∙◌}
use mathlib.Core.List.{List}
use Prim.Native.Nat.{ℕ, ◌<◌}
use native.Mathlib.Omega.{arith}
use lib.ListN.{length, get_or, length-replicate}
use Rattle.meaning.specs.Basics.{lowest}
use Rattle.meaning.specs.Rows.{row_count}
use Rattle.meaning.specs.State.{program}
use Rattle.meaning.proofs.LentLaws.{defaults-at}
use Rattle.machine.specs.RowSteps.{alt_of}
use Rattle.run_parents.specs.Marks.{row_note, owner_notes}
use Rattle.run_parents.proofs.Below.{lowest-none}
use Rattle.run_parents.proofs.OptionLinks.{is_option_of, alt-lowest}
use Rattle.run_parents.proofs.ByRow.{by_row}
use Rattle.run_parents.proofs.OwnerNotes.{with-alt, with-other}
use Rattle.run_parents.proofs.owners.note_owners.Goals as goal
use Rattle.run_parents.proofs.owners.note_owners.Goals.{then-natural-eq34, else-natural-eq34}

pub loop-r-init : goal.loop-r-init
loop-r-init c =
    let args = c.args in
    (omega arith, refl, λ j l. ap (λ (o : List ℕ). get_or o j 0) (c.fill.ensures.after (λ y e. e)) ∙ defaults-at 0 (length args.owners.now) j ∙ sym (lowest-none (is_option_of args.rows.now j)))

pub loop-r-preserved : goal.loop-r-preserved
loop-r-preserved c =
    let rows = c.args.rows.now in
    let l = c.loop-r in
    let n = length c.fill.new.self in
    let h : l.r < row_count rows = c.loop-r-test.true in
    elim c.if-natural-eq34.branch [
      | then-natural-eq34 w ↦ (omega arith, ap (λ (o : List ℕ). length o) w.owners-is ∙ w.note_options.auto.owners ∙ l.invariant.1, λ j m. ap (λ (o : List ℕ). get_or o j 0) w.owners-is ∙ with-alt rows l.r n h l.owners l.invariant.2 _ _ (sym c.natural.ensures ∙ w.if-natural-eq34.true) w.operand.ensures (λ i k. w.note_options.ensures i (rw l.invariant.1 k)) j m)
      | else-natural-eq34 w ↦ (omega arith, ap (λ (o : List ℕ). length o) w.owners-is ∙ l.invariant.1, λ j m. ap (λ (o : List ℕ). get_or o j 0) w.owners-is ∙ with-other rows l.r n h l.owners l.invariant.2 (λ e. w.if-natural-eq34.false (c.natural.ensures ∙ e)) j m)
    ]

pub returns : goal.returns
unfolding owner_notes
returns c =
    let args = c.args in
    let rows = args.rows.now in
    let e : c.loop-r.r ≡ row_count rows = omega (arith, c.loop-r.invariant.0) in
    let n : length c.fill.new.self ≡ length args.owners.now = ap (λ (o : List ℕ). length o) (c.fill.ensures.after (λ y e. e)) ∙ length-replicate (length args.owners.now) 0 in
    by_row (λ j. row_note (alt_of (program rows) j)) (length args.owners.now) c.loop-r.owners (c.loop-r.invariant.1 ∙ n)
    (λ j l. c.loop-r.invariant.2 j (rw n l) ∙ ap row_note (ap (lowest (is_option_of rows j)) e ∙ sym (alt-lowest rows j)))
