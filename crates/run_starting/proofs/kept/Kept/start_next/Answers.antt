-- `start_next` meets its contract.
use mathlib.Core.Bool.{false}
use mathlib.Core.Logic.{inr}
use mathlib.Core.Path.{◌≡◌, subst}
use native.Mathlib.Omega.{arith}
use Rattle.meaning.specs.Tree.{empty, content_at}
use Rattle.run_code.proofs.NoLinks.{listed-none}
use Rattle.run_starting.specs.Kept.{kept_lists}
use Rattle.run_starting.specs.Parts.{IsLink}
use Rattle.run_starting.proofs.Starting.{none-starts}
use Rattle.run_starting.proofs.Standing.{link-kind}
use Rattle.run_starting.proofs.kept.Kept.start_next.Goals as goal
use Rattle.run_starting.proofs.kept.Kept.start_next.Goals.{in_default-via-then-place-lt40, in_default-via-else-place-lt40+else-this-lt43}

pub start_members-requires : goal.start_members-requires
start_members-requires c = record { table = c.requires.table; inside = (c.requires.inside.0, c.requires.inside.1, omega arith); links = inr (subst IsLink c.place.ensures (link-kind c.place.result (omega arith) (omega arith))) }

pub returns-in_default : goal.returns-in_default
returns-in_default c =
    let e = c.place.ensures in
    λ rows P.
    let none-listed : (content_at rows c.args.m).listed ≡ empty = elim c.in_default.branch [
      | in_default-via-then-place-lt40 w ↦ listed-none P c.args.m c.requires.inside.0 (λ z. omega arith) (λ z. omega arith) (λ z. omega arith)
      | in_default-via-else-place-lt40+else-this-lt43 w ↦ listed-none P c.args.m c.requires.inside.0 (λ z. omega arith) (λ z. omega arith) (λ z. omega arith)
    ] in
    none-starts rows c.args.m false c.args.r 0 (kept_lists c.args.self.now) none-listed c.remain.ensures
