-- The rows of the tree of an accepted table are its process rows, but for those of guards.
use mathlib.Core.Path.{◌∙◌, subst}
use mathlib.Core.Logic.{⊎_elim, ◌↔◌}
use mathlib.Core.List.{Memᴰ}
use Prim.Native.Nat.{ℕ, ◌<◌}
use native.Mathlib.Decide.{dec_lt}
use native.Mathlib.Omega.{arith}
use Rattle.meaning.specs.Rows.{row_count}
use Rattle.meaning.specs.Declarations.{declarations, root}
use Rattle.meaning.specs.References.{Beneath}
use Rattle.meaning.specs.Tree.{Process, node, processes_in, rows_in, rows_beneath}
use Rattle.meaning.specs.State.{program, whole}
use Rattle.meaning.proofs.AnswerLaws.{RightRows, accepted}
use Rattle.meaning.proofs.OneTreeLaw.{declared}
use Rattle.agreement.specs.TreeClaims.{IsProcess, OfGuard, BeneathInTree, RowsOfTree}
use Rattle.agreement.proofs.TableStarts.{root_below}
use Rattle.agreement.proofs.TableWhole.{whole_row, root-kind, tree-row}
use Rattle.agreement.proofs.Frame.{row_in}
use Rattle.agreement.proofs.VerdictExact.{one-tree-of-rows}
use Rattle.agreement.proofs.TreeBeneath.{process-low, beneath-rows}

pub beneath-in-tree : BeneathInTree
beneath-in-tree rows e = beneath-rows rows ((accepted rows).0 e)

pub rows-of-tree : RowsOfTree
unfolding whole program root
rows-of-tree rows e b = (tree-row rows A b, λ h. from h (dec_lt b d) (dec_lt d b))
  where
    A : RightRows rows
    A = (accepted rows).0 e

    d : ℕ
    d = declarations rows

    beneath : Memᴰ b (rows_beneath (processes_in (whole (program rows)))) ↔ (Beneath rows d b × IsProcess rows b × (¬ OfGuard rows b))
    beneath = beneath-in-tree rows e d (root_below rows A) (root-kind rows A) b

    from : (b < row_count rows) × IsProcess rows b × (¬ OfGuard rows b) → Dec (b < d) → Dec (d < b) → Memᴰ b (rows_in (whole (program rows)))
    from h (yes l) u = absurd (let k = process-low rows A b h.1 in ⊎_elim (λ f. omega arith) (λ f. omega arith) (declared rows b l))
    from h (no l) (yes u) = later (whole (program rows)) (beneath.1 ((one-tree-of-rows rows e b u h.0).0, h.1, h.2))
      where
        later : (p : Process) → Memᴰ b (rows_beneath (processes_in p)) → Memᴰ b (rows_in p)
        later (node k r ms) m = Memᴰ.tail m
    from h (no l) (no u) = subst (λ (x : ℕ). Memᴰ x (rows_in (whole (program rows)))) (whole_row rows A ∙ omega arith) (row_in (whole (program rows)))
