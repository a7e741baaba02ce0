use mathlib.Core.Path.{◌≡◌}
use mathlib.Core.Bool.{false}
use Prim.Native.Nat.{ℕ, ◌<◌}
use Rattle.meaning.specs.Rows.{row_count}
use Rattle.meaning.specs.Verdict.{form_fault_at}
use Rattle.check_form.proofs.fields.first_form_fault_at.Given as goal

abbrev pub invariant-loop-r : goal.invariant-loop-r
invariant-loop-r l = (l.n ≡ row_count l.rows) × ((j : ℕ) → j < l.r → form_fault_at l.rows l.d j ≡ false)
