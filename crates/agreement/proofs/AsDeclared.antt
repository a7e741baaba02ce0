-- A reached state has what the table declares: a state for each row, a message for each cell, a place for each channel from the host, and
-- for each channel to the host a list of messages. Every step keeps it.
use mathlib.Core.Path.{◌≡◌, ap, ◌∙◌}
use mathlib.Core.Option.{none, some}
use mathlib.Core.List.{List, [], ◌∷◌, ◌++◌}
use Prim.Native.Nat.{ℕ, suc}
use lib.IntN.{ℤ}
use lib.ListN.{length, length-set, length-replicate}
use Rattle.meaning.specs.Declarations.{total_cells, host_channels}
use Rattle.meaning.specs.Values.{Message}
use Rattle.meaning.specs.State.{Store, State, program, whole, write_cell, write_place, write_output, write, write_all, Effect}
use Rattle.meaning.specs.Labels.{Label}
use Rattle.meaning.specs.Readings.{Sheet}
use Rattle.meaning.specs.SettlingRules.{Settling}
use Rattle.meaning.specs.Step.{Allows, Step, assignment, while-false, while-true, if-true, communication, host-read, host-write, alt-skip, alt-read, alt-communication, stopping}
use Rattle.meaning.specs.Order.{Begins, Order, halt, next-step}
use Rattle.agreement.specs.BufferClaims.{ReachedAsDeclared}
use Rattle.agreement.proofs.SettlingData.{settling-places, settling-outputs, settling-length}
use Rattle.agreement.proofs.OrdersCoherent.{orders-coherent}

module _ (rows : List ℤ) (sheet : Sheet) where
  record Kept (x : Store) : Type 0 where
    cells : length x.cells ≡ total_cells rows
    places : length x.places ≡ host_channels 1 rows
    outputs : length x.outputs ≡ host_channels 2 rows

  cell-kept : (a : ℕ) (m : Message) (x : Store) → Kept x → Kept (write (write_cell a m) x)
  cell-kept a m x k = record { cells = length-set x.cells a m ∙ k.cells; places = k.places; outputs = k.outputs }

  place_kept : (c n : ℕ) (x : Store) → Kept x → Kept (write (write_place c n) x)
  place_kept c n x k = record { cells = k.cells; places = length-set x.places c n ∙ k.places; outputs = k.outputs }

  list-kept : (c : ℕ) (l : List Message) (x : Store) → Kept x → Kept (write (write_output c l) x)
  list-kept c l x k = record { cells = k.cells; places = k.places; outputs = length-set x.outputs c l ∙ k.outputs }

  effect-kept : (s : State) (x : Label) (e : Effect) → Allows (program rows) sheet s x e → Kept s.store → Kept (write_all e.writes s.store)
  effect-kept s x e (assignment {a} {z} g p q) k = cell-kept a (some z) s.store k
  effect-kept s x e (while-false g h) k = k
  effect-kept s x e (while-true g h) k = k
  effect-kept s x e (if-true g h) k = k
  effect-kept s x e (communication {a} {m} g o h w) k = cell-kept a m s.store k
  effect-kept s x e (host-read {a} {n} {i} {v} g h) k = place_kept i.channel.number (suc n) _ (cell-kept a v s.store k)
  effect-kept s x e (host-write {c} {m} {l} g h p q o n) k = list-kept c.number (l ++ (m ∷ [])) s.store k
  effect-kept s x e (alt-skip g c m h q) k = k
  effect-kept s x e (alt-read {a} {n} {i} {v} g c m h q o) k = place_kept i.channel.number (suc n) _ (cell-kept a v s.store k)
  effect-kept s x e (alt-communication {a} {m} g c d o h q w y) k = cell-kept a m s.store k
  effect-kept s x e (stopping g h) k = k

  -- settling keeps how many they are
  settling-kept : {s t : State} → Settling (whole (program rows)) s t → Kept s.store → Kept t.store
  settling-kept p k =
      let P = program rows in
      record {
        cells = settling-length P p ∙ k.cells;
        places = ap length (settling-places P p) ∙ k.places;
        outputs = ap length (settling-outputs P p) ∙ k.outputs;
      }

  step_kept : (s : State) (x : Label) (t : State) → Step (program rows) sheet s x t → Kept s.store → Kept t.store
  step_kept s x t h k = settling-kept h.leaves.by-rules (effect-kept s x h.does h.allowed k)

  order-kept : {s t : State} {l : List Label} → Order (program rows) sheet s l t → Kept s.store → Kept t.store
  order-kept halt k = k
  order-kept (next-step {s} {t} {x} h o) k = order-kept o (step_kept s x t h k)

  begins-kept : (s : State) → Begins (program rows) s → Kept s.store
  unfolding program
  begins-kept s h =
      settling-kept h.by-rules
      record {
        cells = length-replicate (total_cells rows) none;
        places = length-replicate (host_channels 1 rows) 0;
        outputs = length-replicate (host_channels 2 rows) [];
      }

pub reached-as-declared : ReachedAsDeclared
reached-as-declared rows sheet s ok (l, o) =
    let k = order-kept rows sheet o.order (begins-kept rows sheet o.beginning o.begins) in
    record { states = (orders-coherent rows ok sheet l s o).size; cells = k.cells; places = k.places; outputs = k.outputs }
