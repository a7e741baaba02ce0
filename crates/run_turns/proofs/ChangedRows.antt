-- The rows whose states a step changes are rows of processes, and so is the root.
use mathlib.Core.Path.{◌≡◌, sym, subst}
use mathlib.Core.Option.{none}
use mathlib.Core.List.Memᴰ
use mathlib.Core.List.{List, [], ◌∷◌, Memᴰ}
use mathlib.Core.Logic.{⊎_elim}
use Prim.Native.Nat.{ℕ, ◌-◌, ◌<◌}
use native.Mathlib.Omega.{arith}
use lib.IntN.{ℤ}
use lib.Dec.{eqb}
use borrow.Author.Tests.{ne_eqb}
use Rattle.meaning.specs.Basics.{if_else}
use Rattle.meaning.specs.Rows.{row_count}
use Rattle.meaning.specs.Declarations.{declarations, root}
use Rattle.meaning.specs.Tree.{Action, Process, node, Processes, empty, also, rows_in, rows_beneath}
use Rattle.meaning.specs.State.{State, program, whole, StateChange, Effect}
use Rattle.meaning.specs.Step.{becomes}
use Rattle.meaning.specs.Labels.{Label}
use Rattle.meaning.specs.Readings.{Sheet}
use Rattle.meaning.specs.Ready.{intent_at}
use Rattle.meaning.specs.Order.{OrderOf}
use Rattle.meaning.specs.Answers.{check}
use Rattle.meaning.proofs.AnswerLaws.{accepted}
use Rattle.agreement.proofs.Commute.{at_in}
use Rattle.agreement.proofs.Active.{Active}
use Rattle.agreement.proofs.Parts.{Each}
use Rattle.agreement.proofs.Invariant.{parts_of, step-parts}
use Rattle.agreement.proofs.Reach.{Sub, SubM, self, inside, front, back}
use Rattle.agreement.proofs.TableFit.{fit, inside-stands, whole_is, rows-limit}
use Rattle.agreement.proofs.TableStarts as starts
use Rattle.agreement.proofs.Separate.{table-inv}
use Rattle.run_starting.specs.Parts.{IsProcess}
use Rattle.run_changes.specs.declared.Change.{Change}
use Rattle.run_changes.specs.Changes.{changes_of}

module _ (r : ℕ) where
  mutual
    row_sub : (p : Process) → Memᴰ r (rows_in p) → (k : Action) × (ms : Processes) × Sub k r ms p
    row_sub (node k q ps) (Memᴰ.head e) = (k, ps, subst (λ (y : ℕ). Sub k y ps (node k q ps)) (sym e) self)
    row_sub (node k q ps) (Memᴰ.tail m) = let (a, b, u) = rows-sub ps m in (a, b, inside u)

    rows-sub : (ps : Processes) → Memᴰ r (rows_beneath ps) → (k : Action) × (ms : Processes) × SubM k r ms ps
    rows-sub empty m = absurd (Memᴰ.not-nil m)
    rows-sub (also p ps) m =
        ⊎_elim (λ h. let (a, b, u) = row_sub p h in (a, b, front u)) (λ h. let (a, b, u) = rows-sub ps h in (a, b, back u)) (Memᴰ.append_cases (rows_in p) m)

-- each row that is changed is a process's
abbrev ProcessesAt : List ℤ → List StateChange → Type 0
ProcessesAt rows [] = Unit {0}
ProcessesAt rows (m ∷ ms) = IsProcess rows m.at × ProcessesAt rows ms

-- "The root is the first row after the declarations"
pub root_is : (rows : List ℤ) (r : ℕ) → r ≡ declarations rows → r ≡ root rows
unfolding root
root_is rows r e = e

module _ (rows : List ℤ) (ok : check rows ≡ none) where
  -- it is a row of the arrays
  pub root_below : (r : ℕ) → r ≡ root rows → r < 1024
  unfolding root
  root_below r e = omega (arith, e, starts.root_below rows ((accepted rows).0 ok), rows-limit rows ok)

  -- the root is
  pub root-is-process : (r : ℕ) → r ≡ root rows → IsProcess rows r
  root-is-process r e = subst (IsProcess rows) (sym e) (whole (program rows), whole_is rows ((accepted rows).0 ok))

  in_whole : (r : ℕ) → Memᴰ r (rows_in (whole (program rows))) → IsProcess rows r
  in_whole r m = let (k, ms, u) = row_sub r (whole (program rows)) m in (node k r ms, inside-stands rows ((accepted rows).0 ok) k r ms u)

  each-process : (cs : List StateChange) (s : List ℕ) → Each (whole (program rows)) (parts_of cs) s → ProcessesAt rows cs
  each-process [] s h = tt
  each-process (m ∷ ms) s h = (in_whole m.at (at_in h.0), each-process ms s h.1)

  -- the rows of a step's change
  pub changed-processes : (sheet : Sheet) (l : List Label) (s : State) (o : OrderOf rows sheet l s) {x : Label} {e : Effect} → Active (intent_at (program rows) sheet s) x e → (c : Change) → e.changes ≡ changes_of c
      → IsProcess rows c.at × ((c.sender ≡ 0 → ⊥) → IsProcess rows (c.sender - 1))
  changed-processes sheet l s o {x} {e} A c q =
      let P = program rows in
      let h = subst (ProcessesAt rows) q (each-process e.changes s.states (step-parts P (row_count rows) (fit rows ok) sheet s (table-inv rows sheet (fit rows ok) l s o) A).0) in
      (h.0, λ n. let z : if_else (eqb c.sender 0) [] (becomes (c.sender - 1) (c.sender - 1) 2 ∷ []) ≡ becomes (c.sender - 1) (c.sender - 1) 2 ∷ [] = rw (ne_eqb c.sender 0 n) in (subst (ProcessesAt rows) z h.1).0)
