-- `search_in` meets its contract: the first words of the list are the sets of the rows.
use mathlib.Core.Path.{sym, ap, ◌∙◌, subst}
use mathlib.Core.List.{List}
use Prim.Native.Nat.{ℕ, ◌*◌}
use native.Mathlib.Omega.{arith}
use lib.ListN.{length, length-take}
use lib.Seq.{take_at}
use Rattle.meaning.specs.Rows.{row_count}
use Rattle.meaning.proofs.StageLaws.{limit-none}
use Rattle.base_rows.proofs.Leading.{declarations-at-most}
use Rattle.base_layout.proofs.GivenOperands.{given-elements}
use Rattle.check_components.specs.RowSets.{SetsFrom}
use Rattle.check_usage.proofs.search_in.Goals as goal

pub note_names-requires : goal.note_names-requires
note_names-requires c =
    record { limits = (limit-none c.args.rows.now).0 c.requires.table.2; room = (omega (arith, declarations-at-most c.args.rows.now, c.requires.room.0), c.requires.empty) }

pub overflow_mul-end : goal.overflow_mul-end
overflow_mul-end c = omega arith

pub slice_bounds-gather_all-end : goal.slice_bounds-gather_all-end
slice_bounds-gather_all-end c = omega arith

pub slice_bounds-gather_all-end-2 : goal.slice_bounds-gather_all-end-2
slice_bounds-gather_all-end-2 c =
    omega (arith, length-take (16 * row_count c.args.rows.now) c.args.sets.now, c.requires.room.1)

pub gather_all-requires : goal.gather_all-requires
gather_all-requires c =
    let rows = c.args.rows.now in
    (record { named = c.note_names.ensures.meaning; given = given-elements rows c.requires.table.0 c.requires.table.1 }, omega (arith, length-take (16 * row_count rows) c.args.sets.now, c.requires.room.1))

pub slice_bounds-search-end : goal.slice_bounds-search-end
slice_bounds-search-end c = omega arith

pub slice_bounds-search-end-2 : goal.slice_bounds-search-end-2
slice_bounds-search-end-2 c =
    let e = c.gather_all.ensures.pars.0 in
    sym (ap length (take_at c.gather_all.new.sets _ _ e) ∙ e)

pub search-requires : goal.search-requires
search-requires c =
    let e = c.gather_all.ensures in
    record { few = c.requires.table.0; limits = c.requires.table.2; gathered = subst (λ (ws : List ℕ). SetsFrom c.args.rows.now ws 0) (sym (take_at c.gather_all.new.sets _ _ e.pars.0)) e }

pub shape_of-names : goal.shape_of-names
shape_of-names c = omega arith

pub shape_of-sets : goal.shape_of-sets
shape_of-sets c = omega arith

pub returns : goal.returns
returns c = c.search.ensures
