-- `note_parents` meets its contract. The invariant: each row has the note of its lowest parent below r.
use mathlib.Core.Path.{◌≡◌, refl, ap, ◌∙◌}
use mathlib.Core.List.{List}
use Prim.Native.Nat.{ℕ, zero-le}
use native.Mathlib.Omega.{arith}
use lib.ListN.{length, get_or, length-replicate}
use borrow.Author.Rules.{rules}
use Rattle.meaning.specs.Rows.{row_count}
use Rattle.meaning.proofs.LentLaws.{defaults-at}
use Rattle.agreement.proofs.TableFit.{rows-limit}
use Rattle.run_parents.specs.Parents.{NextOf}
use Rattle.run_parents.proofs.MemberNotes.{noted-first, noted-next, noted-parent}
use Rattle.run_parents.proofs.NextLinks.{numbered-none, numbered-then, parents-are, nexts-are}
use Rattle.run_parents.proofs.parents.note_parents.Goals as goal

pub loop-r-init : goal.loop-r-init
loop-r-init c =
    let a = c.args in
    (zero-le, refl, refl, noted-first a.rows.now _ (λ j. ap (λ (o : List ℕ). get_or o j 0) (c.fill.ensures.after (λ y e. e)) ∙ defaults-at 0 (length a.parents.now) j), numbered-none (NextOf a.rows.now) c.fill.new.self a.nexts.now)

pub note_row-requires : goal.note_row-requires
note_row-requires c =
    let rows = c.args.rows.now in
    let cleared = c.fill in
    let same : length cleared.new.self ≡ length c.args.parents.now = ap (λ (o : List ℕ). length o) (cleared.ensures.after (λ y e. e)) ∙ length-replicate (length c.args.parents.now) 0 in
    record { few = rows-limit rows c.requires.accepted; room = (omega (arith, c.loop-r.invariant.1, same, c.requires.room.0), omega (arith, c.loop-r.invariant.2, c.requires.room.1)); inside = c.loop-r-test.true }

pub loop-r-preserved : goal.loop-r-preserved
loop-r-preserved c =
    let rows = c.args.rows.now in
    (search rules, search rules, search rules, noted-next rows c.loop-r.r c.loop-r.parents _ c.loop-r.invariant.3 c.note_row.ensures.noted, numbered-then (NextOf rows) _ _ c.loop-r.parents c.loop-r.nexts _ _ c.loop-r.invariant.4 c.note_row.ensures.numbers)

pub returns : goal.returns
returns c =
    let rows = c.args.rows.now in
    let l = c.loop-r in
    let end : l.r ≡ row_count rows = omega (arith, l.invariant.0) in
    let each = noted-parent rows l.r l.parents end l.invariant.3 in
    let size : length l.parents ≡ length c.args.parents.now = l.invariant.1 ∙ ap (λ (o : List ℕ). length o) (c.fill.ensures.after (λ y e. e)) ∙ length-replicate (length c.args.parents.now) 0 in record {
      notes = parents-are rows l.parents each (length c.args.parents.now) size;
      links = nexts-are rows l.parents each c.requires.accepted c.fill.new.self c.args.nexts.now l.nexts
          (λ j. ap (λ (o : List ℕ). get_or o j 0) (c.fill.ensures.after (λ y e. e)) ∙ defaults-at 0 (length c.args.parents.now) j)
          l.invariant.2
          l.invariant.4;
    }
