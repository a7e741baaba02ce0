-- The walk gathers into sets that hold nothing yet; they are joined to those of the PAR, and stored. Assumes nothing.
use Rattle.meaning.specs.Tree.{content_at}
use Rattle.check_components.specs.Marks.{all_marks}
use Rattle.check_components.proofs.Gathering.{component-joined, component-stored, component-past}
use Rattle.check_components.proofs.gather_component.Goals as goal

pub returns-then-p-rows : goal.returns-then-p-rows
returns-then-p-rows c =
    let rows = c.args.rows.now in
    let w = c.walk_process in
    (component-joined rows c.args.all.now _ (all_marks (content_at rows c.args.p).process) c.requires.2 w.ensures c.join.ensures, component-stored rows c.args.sets.now c.requires.1.0 c.args.p c.if-p-rows.true w.ensures c.store.ensures)

pub returns-else-p-rows : goal.returns-else-p-rows
returns-else-p-rows c =
    let rows = c.args.rows.now in
    let w = c.walk_process in
    (component-joined rows c.args.all.now _ (all_marks (content_at rows c.args.p).process) c.requires.2 w.ensures c.join.ensures, component-past rows c.args.sets.now c.requires.1.0 c.args.p c.if-p-rows.false)
