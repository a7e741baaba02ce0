use Rattle.std.proofs.Common.{◌≡◌, ℕ, ◌<◌, false}
use Rattle.meaning.specs.Declarations.{declarations}
use Rattle.meaning.specs.Verdict.{over_limit}
use Rattle.base_rows.specs.Sums.{limit_sums, sums_over}
use Rattle.base_rows.proofs.limits.limit_fault.Given as goal

abbrev pub invariant-loop-r : goal.invariant-loop-r
invariant-loop-r l = (l.d ≡ declarations l.rows) × (l.s ≡ limit_sums l.rows l.r) × (sums_over l.s ≡ false) × ((j : ℕ) → j < l.r → over_limit l.rows j ≡ false)
