-- What a call leaves of host outputs: each mark and number was written by a step of the order that the run took, an absence as an absence.
use mathlib.Core.Path.{◌≡◌, sym, subst}
use mathlib.Core.Logic.{◌≢◌}
use mathlib.Core.Option.{none, some}
use mathlib.Core.List.{[]}
use Prim.Native.Nat.{ℕ, ◌+◌}
use native.Mathlib.Omega.{arith}
use lib.IntN.{ℤ, pos}
use lib.ListN.{length, get_or}
use Rattle.meaning.specs.declared.Outcome.{Outcome}
use Rattle.meaning.specs.Values.{Message}
use Rattle.meaning.specs.Sheet.{readings}
use Rattle.meaning.specs.Buffers.{Buffers}
use Rattle.meaning.specs.Answers.{Task, Reply, reply, reply_to_bytes}
use Rattle.meaning.proofs.LentLaws.{entry_at, entry-is}
use Rattle.agreement.specs.CallClaims.{task_of_bytes, RanAs, WrittenToHost, HandedLists, KeepsAbsences, ListsAnswered, ListsAnsweredBytes}
use Rattle.agreement.specs.BufferClaims.{HoldsAt, ToHost, output_number, strip_begins, list_in, BuffersHold, LeavesState}
use Rattle.agreement.proofs.MissingPassed.{written-in-order}
use Rattle.agreement.proofs.ResultsRead.{results-read-back}

module _ (t : Task) (b : Buffers) (r : Reply) (o : Outcome) (n k : ℕ) (run : RanAs t b r o n k) (held : BuffersHold t.rows run.end b r.buffers) where
  -- a message of a list was written by a step of the run's order
  written : (p i : ℕ) (m : Message) → HoldsAt (get_or run.end.store.outputs p []) i m → WrittenToHost t.rows t.sheet run.labels p i m
  written p i m e =
      let (before, (x, (later, (u, (parts, order, writes, held))))) = written-in-order t.rows (readings t.rows t.sheet) run.labels run.end run.order p i m e in
      record { before = before; label = x; later = later; at = u; parts = parts; order = order; written = writes; held = held }

  -- its mark and number
  abbrev mark_at : ℕ → ℕ
  mark_at i = get_or r.buffers.output_marks i 0

  abbrev number_at : ℕ → ℤ
  number_at i = get_or r.buffers.numbers i (pos 0)

  list_at : (c : ℕ) → ToHost t.rows c → (i : ℕ) (m : Message) → HoldsAt (list_in t.rows c run.end) i m
      → let a = strip_begins t.rows c + i in
      (mark_at a ≢ 0 → (mark_at a ≡ 1) × WrittenToHost t.rows t.sheet run.labels (output_number t.rows c) i (some (number_at a)))
      × (mark_at a ≡ 0 → (number_at a ≡ pos 0) × WrittenToHost t.rows t.sheet run.labels (output_number t.rows c) i none)
  list_at c h i none e =
      let (x, y) = held.absence-in-strip c h i e in
      let a = strip_begins t.rows c + i in
      let number : number_at a ≡ pos 0 = (entry-is r.buffers.numbers a (pos 0) (pos 0) x).1 in
      let mark : mark_at a ≡ 0 = (entry-is r.buffers.output_marks a 0 0 y).1 in
      (λ u. absurd (u mark), λ u. (number, written (output_number t.rows c) i none e))
  list_at c h i (some z) e =
      let (x, y) = held.strip c h i z e in
      let a = strip_begins t.rows c + i in
      let number : number_at a ≡ z = (entry-is r.buffers.numbers a (pos 0) z x).1 in
      let mark : mark_at a ≡ 1 = (entry-is r.buffers.output_marks a 0 1 y).1 in (
        λ u. (mark, subst (λ (w : ℤ). WrittenToHost t.rows t.sheet run.labels (output_number t.rows c) i (some w)) (sym number) (written (output_number t.rows c) i (some z) e)),
        λ u. absurd (omega arith),
      )

  handed-lists : HandedLists t b r o n k
  handed-lists = (
    run,
    λ c h i l.
        let list = list_in t.rows c run.end in
        let count : get_or r.buffers.counts (output_number t.rows c) 0 ≡ length list = (entry-is r.buffers.counts (output_number t.rows c) 0 (length list) (held.count c h)).1 in
        list_at c h i (get_or list i none) (entry_at list i none (omega arith)),
  )

-- of a call that leaves the state of its run
keeps : (call : Buffers → Reply) (t : Task) → LeavesState call t → KeepsAbsences call t
keeps call t h b o n k e = let (run, held, back) = h b o n k e in handed-lists t b (call b) o n k run held

pub lists-answered : ListsAnswered
lists-answered t = keeps (reply t) t (results-read-back.0 t)

pub lists-answered-bytes : ListsAnsweredBytes
lists-answered-bytes table sheet choices budget = keeps (reply_to_bytes table sheet choices budget) (task_of_bytes table sheet choices budget) (results-read-back.1 table sheet choices budget)
