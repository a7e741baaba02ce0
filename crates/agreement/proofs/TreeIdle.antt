-- In every state that an order reaches, the rows that are no processes and those of guards are idle; so the rows beneath a process in the tree are idle exactly if all rows beneath it are.
use mathlib.Core.Path.{◌≡◌}
use mathlib.Core.Logic.{◌⊎◌, inl, inr}
use mathlib.Core.Bool.{Bool}
use mathlib.Core.List.{Memᴰ}
use Prim.Native.Nat.{ℕ, ◌<◌}
use lib.ListN.{get_or}
use Rattle.meaning.specs.Rows.{row_count}
use Rattle.meaning.specs.References.{Beneath}
use Rattle.meaning.specs.Tree.{processes_in, rows_beneath}
use Rattle.meaning.specs.State.{program, process_at}
use Rattle.meaning.proofs.Decides.{Decides, holding, failing}
use Rattle.meaning.proofs.ReferenceCounts.{decides-among}
use Rattle.agreement.specs.Coherence.{AllIdle}
use Rattle.agreement.specs.TreeClaims.{IsProcess, OfGuard, OtherRowsIdle, BeneathIdle}
use Rattle.agreement.proofs.OrdersCoherent.{orders-coherent}
use Rattle.agreement.proofs.TreeExact.{beneath-in-tree, rows-of-tree}

pub other-rows-idle : OtherRowsIdle
other-rows-idle rows ok sheet l s o x h = (orders-coherent rows ok sheet l s o).rows-coherent.no-process x (λ m. go ((rows-of-tree rows ok x).0 m) h)
  where
    go : (x < row_count rows) × IsProcess rows x × (¬ OfGuard rows x) → ¬ IsProcess rows x ⊎ OfGuard rows x → ⊥
    go t (inl n) = n t.1
    go t (inr g) = t.2 g

pub beneath-idle : BeneathIdle
beneath-idle rows ok sheet l s o r i m = (λ h b w. to h b w (decides-among b (rows_beneath (processes_in (process_at (program rows) r)))), λ h b n. h b ((beneath-in-tree rows ok r i m b).0 n).0)
  where
    to : AllIdle s.states (rows_beneath (processes_in (process_at (program rows) r))) → (b : ℕ) → Beneath rows r b → {t : Bool} → Decides (Memᴰ b (rows_beneath (processes_in (process_at (program rows) r)))) t → get_or s.states b 0 ≡ 0
    to h b w (holding n) = h b n
    to h b w (failing n) =
        (orders-coherent rows ok sheet l s o).rows-coherent.no-process b
        (λ k. let t = (rows-of-tree rows ok b).0 k in n ((beneath-in-tree rows ok r i m b).1 (w, t.1, t.2)))
