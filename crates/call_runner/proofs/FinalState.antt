-- Every state of an order of an accepted table is one that a printed text can be made of: its sizes agree, and each output list is within its capacity.
use mathlib.Core.Path.{◌≡◌, sym, ap, subst, ◌∙◌}
use mathlib.Core.Bool.{true}
use mathlib.Core.List.{List, [], ◌∷◌, ◌++◌}
use mathlib.Core.Option.{none}
use Prim.Native.Nat.{ℕ, suc, ◌<◌, ◌≤◌}
use native.Mathlib.Omega.{arith}
use lib.IntN.{ℤ}
use lib.ListN.{length, get_or, set, length-append}
use Rattle.meaning.specs.Declarations.{Channel, host_channels}
use Rattle.meaning.specs.Tree.{Expr, Process, action_of, output}
use Rattle.meaning.specs.Values.{Message}
use Rattle.meaning.specs.State.{Store, State, program, write_all, Effect}
use Rattle.meaning.specs.Labels.{Label}
use Rattle.meaning.specs.Readings.{Sheet}
use Rattle.meaning.specs.Step.{Live, live, Allows, Step, assignment, while-false, while-true, if-true, communication, host-read, host-write, alt-skip, alt-read, alt-communication, stopping}
use Rattle.meaning.specs.Order.{Begins, Order, halt, next-step, OrderOf}
use Rattle.meaning.specs.Buffers.{capacities}
use Rattle.meaning.specs.Answers.{check}
use Rattle.meaning.specs.Run.{run}
use Rattle.meaning.proofs.LentLaws.{defaults-at}
use Rattle.agreement.proofs.SettlingData.{settling-outputs}
use Rattle.agreement.proofs.KnownStates.{set_keeps}
use Rattle.agreement.proofs.RunTakesOrder.{run-takes-order}
use Rattle.machine.proofs.Declared.{capacities-length, capacities-sum, room}
use Rattle.machine.proofs.NamesInRange.{SinkIn, ActionIn, names_in}
use Rattle.machine.proofs.StateSizes.{lengths}
use Rattle.write_lines.proofs.Encoded.{Within, within_none, within_more, Held}

-- a list that is within a capacity
abbrev Fits : ℕ → List Message → Type 0
Fits k xs = length xs ≤ k

-- lists one by one
within : (ks : List ℕ) (xss : List (List Message)) → length xss ≡ length ks → ((p : ℕ) → Fits (get_or ks p 0) (get_or xss p [])) → Within ks xss
within [] [] e h = within_none
within [] (xs ∷ xss) e h = absurd (omega (arith, e))
within (k ∷ ks) [] e h = absurd (omega (arith, e))
within (k ∷ ks) (xs ∷ xss) e h = within_more (h 0) (within ks xss (omega (arith, e)) (λ p. h (suc p)))

module _ (rows : List ℤ) where
  -- every output list of a store
  abbrev ListsFit : Store → Type 0
  ListsFit x = (p : ℕ) → Fits (get_or (capacities rows) p 0) (get_or x.outputs p [])

  begins-fits : (s : State) → Begins (program rows) s → ListsFit s.store
  unfolding program
  begins-fits s b p = rw (settling-outputs (program rows) b.by-rules, defaults-at {A = List Message} [] (host_channels 2 rows) p) (omega arith)

  sink-in : (s : State) (r : ℕ) (c : Channel) (e f : Expr) → Live (program rows) s r (output c e f) → SinkIn rows c
  sink-in s r c e f (live p z i) = subst (λ (q : Process). ActionIn rows (action_of q)) p (names_in rows r)

  -- a host write appends a message where capacity is left
  write-fits : (s : State) → ListsFit s.store → (c : Channel) → SinkIn rows c → c.host ≡ true → (l : List Message) (m : Message) → length l < c.capacity
      → (p : ℕ) → Fits (get_or (capacities rows) p 0) (get_or (set s.store.outputs c.number (l ++ (m ∷ []))) p [])
  write-fits s h c k i l m n p =
      set_keeps (Fits (get_or (capacities rows) p 0)) [] s.store.outputs c.number (l ++ (m ∷ [])) p (h p)
      (λ q. let b = (k i).1 in let d = ap (λ (a : ℕ). get_or (capacities rows) a 0) q in omega (arith, length-append l (m ∷ [])))

  module _ (sheet : Sheet) where
    effect-fits : (s : State) (x : Label) (e : Effect) → Allows (program rows) sheet s x e → ListsFit s.store → ListsFit (write_all e.writes s.store)
    effect-fits s x t (assignment g p q) h = h
    effect-fits s x t (while-false g k) h = h
    effect-fits s x t (while-true g k) h = h
    effect-fits s x t (if-true g k) h = h
    effect-fits s x t (communication g k i w) h = h
    effect-fits s x t (host-read g k) h = h
    effect-fits s x t (host-write {r} {c} {e} {f} {m} {l} g k p q o n) h = write-fits s h c (sink-in s r c e f g) k l m n
    effect-fits s x t (alt-skip g c m k q) h = h
    effect-fits s x t (alt-read g c m k q i) h = h
    effect-fits s x t (alt-communication g c m k i q w y) h = h
    effect-fits s x t (stopping g k) h = h

    step_fits : (s : State) (x : Label) (t : State) → Step (program rows) sheet s x t → ListsFit s.store → ListsFit t.store
    step_fits s x t k h p = rw (settling-outputs (program rows) k.leaves.by-rules) (effect-fits s x k.does k.allowed h p)

    order-fits : {s t : State} {l : List Label} → Order (program rows) sheet s l t → ListsFit s.store → ListsFit t.store
    order-fits halt h = h
    order-fits (next-step {s} {t} {x} k o) h = order-fits o (step_fits s x t k h)

-- of an accepted table
pub order-held : (rows : List ℤ) → check rows ≡ none → (sheet : Sheet) (l : List Label) (s : State) → OrderOf rows sheet l s → Held rows s
order-held rows ok sheet l s o =
    let n = lengths rows ok sheet l s o in
    let k = room rows ok in
    record {
      rows_few = k.states;
      states-all = n.states;
      cells-few = k.cells;
      cells-all = n.cells;
      host-channels-few = k.outputs;
      capacity-few = subst (λ (m : ℕ). m ≤ 1024) (capacities-sum rows) k.numbers;
      outputs-within = within (capacities rows) s.store.outputs (n.outputs ∙ sym (capacities-length rows)) (order-fits rows sheet o.order (begins-fits rows o.beginning o.begins));
    }

-- and so the state that a run leaves
pub run-held : (rows : List ℤ) → check rows ≡ none → (sheet : Sheet) (choices : List ℕ) (budget : ℕ) → Held rows (run rows sheet choices budget).state
run-held rows ok sheet choices budget = let q = run-takes-order rows ok sheet choices budget in order-held rows ok sheet q.0 (run rows sheet choices budget).state q.1
