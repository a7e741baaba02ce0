-- The loop has gathered the sets of the PARs from row r on. The measure is what is left of the rows. Assumes nothing.
use mathlib.Core.Path.{◌≡◌, sym, ◌∙◌, subst}
use borrow.Author.Rules.{rules}
use Rattle.check_components.specs.RowSets.{SetsFrom}
use Rattle.check_components.proofs.Gathering.{none_yet, next-higher, no-par-there}
use Rattle.check_components.proofs.gather_all.Goals as goal

pub loop-r-init : goal.loop-r-init
loop-r-init c =
    (none_yet c.args.rows.now c.args.sets.now _ c.requires.1 (search rules), search rules, c.requires.1)

pub gather_par-requires : goal.gather_par-requires
gather_par-requires c =
    let l = c.loop-r in
    (c.requires.0, search rules, sym c.natural.ensures ∙ c.if-natural-eq31.true, next-higher c.args.rows.now l.sets l.r l.invariant.0 (search rules))

pub loop-r-preserved-then-natural-eq31 : goal.loop-r-preserved-then-natural-eq31
loop-r-preserved-then-natural-eq31 c = (c.gather_par.ensures, search rules, c.loop-r.invariant.2)

pub loop-r-preserved : goal.loop-r-preserved
loop-r-preserved c =
    let l = c.loop-r in
    (no-par-there c.args.rows.now l.sets l.r l.invariant.0 (λ e. c.if-natural-eq31.false (c.natural.ensures ∙ e)), search rules, l.invariant.2)

pub shape_of-sets : goal.shape_of-sets
shape_of-sets c = c.loop-r.invariant.0.pars.0 ∙ sym c.loop-r.invariant.2

pub returns : goal.returns
returns c =
    let z : c.loop-r.r ≡ 0 = search rules in
    subst (SetsFrom c.args.rows.now c.loop-r.sets) z c.loop-r.invariant.0
