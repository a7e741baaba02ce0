-- The note of the parent of a process in a prepared table: it is of a lower row.
use mathlib.Core.Path.{◌≡◌, refl, sym, ap, subst, ◌∙◌}
use mathlib.Core.Option.{Option, none, some}
use mathlib.Core.List.Memᴰ
use mathlib.Core.List.{List, Memᴰ}
use Prim.Native.Nat.{ℕ, ◌-◌, ◌<◌, ◌≤◌}
use native.Mathlib.Omega.{arith}
use lib.IntN.{ℤ}
use Rattle.meaning.specs.Tree.{Process, content_at, or_stop, processes_in, process_rows}
use Rattle.meaning.specs.State.{program}
use Rattle.agreement.proofs.TableTree.{process-is}
use Rattle.machine.specs.Upward.{parent_of}
use Rattle.machine.proofs.Parents.{parent-has, parent-below}
use Rattle.run_parents.specs.Marks.{row_note}
use Rattle.run_code.specs.Prepared.{Prepared, place_at}
use Rattle.run_code.proofs.Owners.{parent-note}
use Rattle.run_starting.specs.Parts.{IsProcess}

noted-none : (o : Option ℕ) → row_note o ≡ 0 → o ≡ none
noted-none none e = refl
noted-none (some q) e = absurd (omega arith)

noted-some : (o : Option ℕ) → (row_note o ≡ 0 → ⊥) → o ≡ some (row_note o - 1)
noted-some none f = absurd (f refl)
noted-some (some q) f = ap some (omega arith)

note-after : (r : ℕ) (o : Option ℕ) → ((q : ℕ) → o ≡ some q → q < r) → row_note o ≤ r
note-after r none f = omega arith
note-after r (some q) f = let h = f q refl in omega arith

-- a row that has a member is a process
pub parent-process : (rows : List ℤ) (q r : ℕ) → parent_of (program rows) r ≡ some q → IsProcess rows q
parent-process rows q r e = go (content_at rows q).process refl
  where
    go : (o : Option Process) → (content_at rows q).process ≡ o → IsProcess rows q
    go none i = absurd (Memᴰ.not-nil (subst (λ (p : Process). Memᴰ r (process_rows (processes_in p))) (process-is rows q ∙ ap or_stop i) (parent-has (program rows) r q e).1))
    go (some p) i = (p, i)

module _ {rows : List ℤ} {list : List ℕ} (P : Prepared rows list) (r : ℕ) (l : r < 1024) {n : ℕ} (e : n ≡ place_at list r 4) (h : IsProcess rows r) where
  note-is : n ≡ row_note (parent_of (program rows) r)
  note-is = e ∙ parent-note P r (omega arith) h.0 h.1

  -- no note: no parent
  pub no-parent-noted : n ≡ 0 → parent_of (program rows) r ≡ none
  no-parent-noted i = noted-none (parent_of (program rows) r) (sym note-is ∙ i)

  -- a note: the parent is the row before it
  pub parent-noted : (n ≡ 0 → ⊥) → parent_of (program rows) r ≡ some (n - 1)
  parent-noted f = noted-some (parent_of (program rows) r) (λ z. f (note-is ∙ z)) ∙ ap (λ (m : ℕ). some (m - 1)) (sym note-is)

  pub note-below : n ≤ r
  note-below = rw note-is (note-after r (parent_of (program rows) r) (parent-below rows r))
