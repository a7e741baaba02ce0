-- What lists of notes tell of what each row would do, form by form, of what options offer, and of who waits to output.
use mathlib.Core.Path.{◌≡◌}
use mathlib.Core.Option.{some}
use mathlib.Core.List.{List, [], ◌∷◌, ◌++◌}
use Prim.Native.Nat.{ℕ, ◌+◌, ◌*◌, ◌<◌, ◌≤◌}
use lib.IntN.{ℤ, pos}
use lib.ListN.{get_or}
use Rattle.meaning.specs.Values.{Message}
use Rattle.meaning.specs.Buffers.{number_in, mark}
use Rattle.meaning.specs.State.{Program, State, write_cell, write_place, write_output}
use Rattle.meaning.specs.Readings.{Sheet}
use Rattle.meaning.specs.Intent.{open_offer, input_offer, Offer, moves, halts, inputs_from, outputs_to, selects}
use Rattle.meaning.specs.Ready.{intent_at}
use Rattle.agreement.specs.RowsOfSteps.{offer_at}
use Rattle.machine.specs.RowSteps.{alt_of, waiting_at}
use Rattle.run_changes.specs.Changes.{what_at, act_at, mark_at}

pub record Told (P : Program) (sheet : Sheet) (s : State) (acts : List ℕ) (sent : List ℤ) (elements : List ℕ) : Type 0 where
  -- a row by itself
  pub stops : (j n : ℕ) → n ≤ 4 → intent_at P sheet s j ≡ halts j n → (what_at acts j ≡ 1) × (act_at acts j 1 ≡ n)
  pub assigns : (j a : ℕ) (z : ℤ) → intent_at P sheet s j ≡ moves j 2 (write_cell a (some z) ∷ []) → (what_at acts j ≡ 2) × (act_at acts j 2 ≡ a) × (get_or sent j (pos 0) ≡ z)
  pub ends : (j : ℕ) → intent_at P sheet s j ≡ moves j 2 [] → what_at acts j ≡ 3
  pub starts : (j q : ℕ) → intent_at P sheet s j ≡ moves q 1 [] → (what_at acts j ≡ 4) × (act_at acts j 1 ≡ q)
  pub reads : (j a p n : ℕ) (m : Message) → intent_at P sheet s j ≡ moves j 2 (write_cell a m ∷ write_place p n ∷ []) → (what_at acts j ≡ 5) × (act_at acts j 1 ≡ p) × (act_at acts j 2 ≡ a)
  pub writes : (j p : ℕ) (l : List Message) (m : Message) → intent_at P sheet s j ≡ moves j 2 (write_output p (l ++ (m ∷ [])) ∷ [])
      → (what_at acts j ≡ 6) × (act_at acts j 1 ≡ p) × (mark_at acts j ≡ mark m) × (get_or sent j (pos 0) ≡ number_in m)
  pub inputs : (j e a : ℕ) → intent_at P sheet s j ≡ inputs_from e a → (what_at acts j ≡ 7) × (act_at acts j 1 ≡ e) × (act_at acts j 2 ≡ a)
  pub outputs : (j e : ℕ) (m : Message) → intent_at P sheet s j ≡ outputs_to e m → (mark_at acts j ≡ mark m) × (get_or sent j (pos 0) ≡ number_in m)
  -- an option of row r
  pub opens : (r j i q : ℕ) (os : List Offer) → alt_of P j ≡ some r → intent_at P sheet s r ≡ selects os → offer_at j os ≡ some (open_offer i q []) → what_at acts j ≡ 4
  pub offers-read : (r j i q a p n : ℕ) (m : Message) (os : List Offer) → alt_of P j ≡ some r → intent_at P sheet s r ≡ selects os → offer_at j os ≡ some (open_offer i q (write_cell a m ∷ write_place p n ∷ []))
      → (what_at acts j ≡ 5) × (act_at acts j 1 ≡ p) × (act_at acts j 2 ≡ a)
  pub offers-input : (r j i q e a : ℕ) (os : List Offer) → alt_of P j ≡ some r → intent_at P sheet s r ≡ selects os → offer_at j os ≡ some (input_offer i q e a)
      → (what_at acts j ≡ 7) × (act_at acts j 1 ≡ e) × (act_at acts j 2 ≡ a)
  -- who waits to output to an element
  pub sender : (e i : ℕ) → waiting_at P sheet s e ≡ some i → (get_or elements (2 * e + 1) 0 ≡ i + 1) × (e < 256)
