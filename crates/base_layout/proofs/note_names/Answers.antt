-- `note_names` meets its contract. The loop's invariant: the list holds the names of the rows below r, and then no names; the sums are those of the rows below r.
use mathlib.Core.Path.{◌≡◌, refl, ap, subst, ◌∙◌}
use mathlib.Core.List.{List}
use Prim.Native.Nat.{ℕ, ◌<◌}
use native.Mathlib.Numerals.{add-one}
use native.Mathlib.Omega.{arith}
use lib.ListN.{get_or, length-set}
use Rattle.meaning.specs.Declarations.{declarations, sum_below}
use Rattle.base_layout.specs.declared.Name.{Name}
use Rattle.base_layout.specs.Names.{no_name, sums_below, names_of}
use Rattle.base_rows.proofs.Leading.{declarations-at-most}
use Rattle.base_layout.proofs.Layouts.{named}
use Rattle.base_layout.proofs.NameLists.{Begins, begins-sized, put_one, next_row, names-length}
use Rattle.base_layout.proofs.note_names.Goals as goal

pub loop-r-init : goal.loop-r-init
unfolding sums_below sum_below names_of
loop-r-init c = (refl, refl, c.requires.room.1)

pub name_of-name-requires : goal.name_of-name-requires
name_of-name-requires c =
    let rows = c.args.rows.now in
    let d : c.loop-r.r < declarations rows = omega (arith, c.declarations-r-end.ensures) in
    record { declared = d; present = omega (arith, declarations-at-most rows); limits = c.requires.limits _ d; sums = c.loop-r.invariant.0 }

pub bounds-names-r : goal.bounds-names-r
bounds-names-r c = omega (arith, c.declarations-r-end.ensures, c.requires.room.0, c.loop-r.invariant.1)

pub with_row-s-requires : goal.with_row-s-requires
with_row-s-requires c =
    let rows = c.args.rows.now in
    let d : c.loop-r.r < declarations rows = omega (arith, c.declarations-r-end.ensures) in
    record { declared = d; present = omega (arith, declarations-at-most rows); limits = c.requires.limits _ d; sums = c.loop-r.invariant.0 }

pub loop-r-preserved : goal.loop-r-preserved
loop-r-preserved c =
    let rows = c.args.rows.now in
    let r = c.loop-r.r in
    let n = c.name_of-name.result in
    let one = put_one no_name c.loop-r.names (names_of rows r) n r (names-length rows r) (omega (arith, c.declarations-r-end.ensures, c.requires.room.0, c.loop-r.invariant.1)) c.loop-r.invariant.2 in
    let next = next_row rows r n c.name_of-name.ensures in
    (rw add-one c.with_row-s.ensures, length-set _ _ _ ∙ c.loop-r.invariant.1, λ i. one i ∙ ap (λ (x : List Name). get_or x i no_name) next)

pub returns : goal.returns
returns c =
    let rows = c.args.rows.now in
    let l = c.loop-r in
    let e : l.r ≡ declarations rows = omega (arith, c.declarations-r-end.ensures) in
    let b : Begins l.names (names_of rows (declarations rows)) = subst (λ (r : ℕ). Begins l.names (names_of rows r)) e l.invariant.2 in
    record { numbers = begins-sized l.names _ _ l.invariant.1 b; meaning = named rows l.names b }
