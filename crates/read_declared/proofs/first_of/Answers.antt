-- The place that is found, or the end. Assumes nothing.
use mathlib.Core.Path.{ap, ◌∙◌}
use Prim.Native.Nat.{ℕ}
use lib.ListN.{length}
use Rattle.std.specs.Prelude.{Option}
use Rattle.std.specs.Option.{unwrap_or}
use Rattle.read_declared.proofs.FirstSteps.{place-position}
use Rattle.read_declared.proofs.first_of.Goals as goal

pub returns : goal.returns
returns c =
    let a = c.args in
    c.unwrap_or.ensures ∙ ap (λ (o : Option ℕ). unwrap_or o (length a.sorts.now)) c.find_sort.ensures ∙ place-position a.sort a.sorts.now
