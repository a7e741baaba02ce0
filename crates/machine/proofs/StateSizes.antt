-- Every state of an order has as many cells, places, output lists and row states as its table says; of an accepted table they fit the arrays.
use mathlib.Core.Path.{◌≡◌, ap, ◌∙◌}
use mathlib.Core.Option.{none}
use mathlib.Core.List.{List, [], ◌∷◌}
use Prim.Native.Nat.{ℕ}
use lib.IntN.{ℤ}
use lib.ListN.{length, length-set, length-replicate}
use Rattle.meaning.specs.Declarations.{total_cells, host_channels}
use Rattle.meaning.specs.Values.{Message}
use Rattle.meaning.specs.State.{Store, State, program, whole, Write, write_cell, write_place, write_output, write, write_all}
use Rattle.meaning.specs.Labels.{Label}
use Rattle.meaning.specs.Readings.{Sheet}
use Rattle.meaning.specs.SettlingRules.{Settling}
use Rattle.meaning.specs.Step.{Step}
use Rattle.meaning.specs.Order.{Begins, Order, halt, next-step, OrderOf}
use Rattle.meaning.specs.Answers.{check}
use Rattle.agreement.proofs.SettlingData.{settling-places, settling-outputs, settling-length}
use Rattle.machine.specs.Held.{Lengths}
use Rattle.machine.proofs.RowTables.{states-length}

-- a store has as many cells, places and output lists
pub record Stored (rows : List ℤ) (x : Store) : Type 0 where
  pub cells : length x.cells ≡ total_cells rows
  pub places : length x.places ≡ host_channels 1 rows
  pub outputs : length x.outputs ≡ host_channels 2 rows

module _ (rows : List ℤ) where
  pub write-stored : (w : Write) (x : Store) → Stored rows x → Stored rows (write w x)
  write-stored (write_cell a m) x h = record { cells = length-set x.cells a m ∙ h.cells; places = h.places; outputs = h.outputs }
  write-stored (write_place p k) x h = record { cells = h.cells; places = length-set x.places p k ∙ h.places; outputs = h.outputs }
  write-stored (write_output p l) x h = record { cells = h.cells; places = h.places; outputs = length-set x.outputs p l ∙ h.outputs }

  writes-stored : (ws : List Write) (x : Store) → Stored rows x → Stored rows (write_all ws x)
  writes-stored [] x h = h
  writes-stored (w ∷ ws) x h = writes-stored ws (write w x) (write-stored w x h)

  -- settling leaves as many
  settling-stored : {s t : State} → Settling (whole (program rows)) s t → Stored rows s.store → Stored rows t.store
  settling-stored p k =
      record {
        cells = settling-length (program rows) p ∙ k.cells;
        places = ap length (settling-places (program rows) p) ∙ k.places;
        outputs = ap length (settling-outputs (program rows) p) ∙ k.outputs;
      }

  begins-stored : (s : State) → Begins (program rows) s → Stored rows s.store
  unfolding program
  begins-stored s b =
      settling-stored b.by-rules
      (record {
        cells = length-replicate {A = Message} (total_cells rows) none;
        places = length-replicate {A = ℕ} (host_channels 1 rows) 0;
        outputs = length-replicate {A = List Message} (host_channels 2 rows) [];
      })

  module _ (sheet : Sheet) where
    step-stored : (s : State) (x : Label) (t : State) → Step (program rows) sheet s x t → Stored rows s.store → Stored rows t.store
    step-stored s x t h k = settling-stored h.leaves.by-rules (writes-stored h.does.writes s.store k)

    order-stored : {s t : State} {l : List Label} → Order (program rows) sheet s l t → Stored rows s.store → Stored rows t.store
    order-stored halt k = k
    order-stored (next-step {s} {t} {x} h o) k = order-stored o (step-stored s x t h k)

-- of an accepted table
pub lengths : (rows : List ℤ) → check rows ≡ none → (sheet : Sheet) (l : List Label) (s : State) → OrderOf rows sheet l s → Lengths rows s
lengths rows ok sheet l s o =
    let k = order-stored rows sheet o.order (begins-stored rows o.beginning o.begins) in
    record { cells = k.cells; places = k.places; outputs = k.outputs; states = states-length rows ok sheet l s o }
