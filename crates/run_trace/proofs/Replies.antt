-- A traced call: one with a list that is too short is refused; else its reply is that of the untraced call, and the lists are those of its result.
use mathlib.Core.Path.{◌≡◌, sym, ap, ◌∙◌}
use mathlib.Core.Bool.{true, false}
use mathlib.Core.List.{List}
use mathlib.Core.Option.{none}
use Prim.Native.Nat.{ℕ}
use lib.IntN.{ℤ}
use Rattle.meaning.specs.TableBytes.{rows_of}
use Rattle.meaning.specs.Sheet.{readings}
use Rattle.meaning.specs.Buffers.{Buffers}
use Rattle.meaning.specs.Refusals.{first_fault}
use Rattle.meaning.specs.Stages.{buffer_fault}
use Rattle.meaning.specs.Answers.{Result, ran, unless, run_of, Task, on_rows, on_bytes, result, result_of_bytes, Reply, reply_of, reply, reply_to_bytes}
use Rattle.meaning.specs.declared.Answer.TheVariants.{Refused}
use Rattle.meaning.specs.Trace.{Shown, trace, TraceLists, lists_too_short, lists_fault, lists_after, TracedReply, traced_reply_of, reply_traced, reply_to_bytes_traced}
use Rattle.meaning.proofs.AnswerLaws.{unless-either, reply-stages, reply-to-bytes}

traced-stages : (t : Task) (b : Buffers) (l : TraceLists)
    → reply_traced t b l ≡ traced_reply_of t.rows b l (trace t.rows (readings t.rows t.sheet) t.choices t.budget) (unless (lists_fault l) (unless (buffer_fault b) (result t)))
unfolding reply_traced result first_fault
traced-stages t b l =
    ap (λ (r : Result). traced_reply_of t.rows b l (trace t.rows (readings t.rows t.sheet) t.choices t.budget) (unless (lists_fault l) r))
    (unless-either (buffer_fault b) _ (ran (run_of (on_rows t none))))

traced-to-bytes : (table sheet choices : List ℕ) (budget : ℕ) (b : Buffers) (l : TraceLists)
    → reply_to_bytes_traced table sheet choices budget b l
    ≡ traced_reply_of (rows_of table) b l (trace (rows_of table) (readings (rows_of table) sheet) choices budget) (unless (lists_fault l) (unless (buffer_fault b) (result_of_bytes table sheet choices budget)))
unfolding reply_to_bytes_traced result_of_bytes first_fault
traced-to-bytes table sheet choices budget b l =
    ap (λ (r : Result). traced_reply_of (rows_of table) b l (trace (rows_of table) (readings (rows_of table) sheet) choices budget) (unless (lists_fault l) r))
    (unless-either (buffer_fault b) _ (ran (run_of (on_bytes table sheet choices budget none))))

module _ (rows : List ℤ) (b : Buffers) (l : TraceLists) (shown : List Shown) (q : Result) where
  short-refused : lists_too_short l ≡ true → ◌≡◌ {A = TracedReply} (record { reply = record { answer = Refused 1 0; buffers = b }; lists = l }) (traced_reply_of rows b l shown (unless (lists_fault l) q))
  unfolding lists_fault
  short-refused e = rw e

  long-replies : lists_too_short l ≡ false → (r : Reply) (m : TraceLists) → r ≡ reply_of rows b q → m ≡ lists_after q shown l → ◌≡◌ {A = TracedReply} (record { reply = r; lists = m }) (traced_reply_of rows b l shown (unless (lists_fault l) q))
  unfolding lists_fault
  long-replies e r m i j = rw e (λ k. record { reply = i k; lists = j k })

module _ (t : Task) (b : Buffers) (l : TraceLists) where
  abbrev shown : List Shown
  shown = trace t.rows (readings t.rows t.sheet) t.choices t.budget

  pub rows-lists-short : lists_too_short l ≡ true → ◌≡◌ {A = TracedReply} (record { reply = record { answer = Refused 1 0; buffers = b }; lists = l }) (reply_traced t b l)
  rows-lists-short e = short-refused t.rows b l shown (unless (buffer_fault b) (result t)) e ∙ sym (traced-stages t b l)

  pub rows-traced : lists_too_short l ≡ false → (r : Reply) (m : TraceLists) → r ≡ reply t b → m ≡ lists_after (unless (buffer_fault b) (result t)) shown l → ◌≡◌ {A = TracedReply} (record { reply = r; lists = m }) (reply_traced t b l)
  rows-traced e r m i j = long-replies t.rows b l shown (unless (buffer_fault b) (result t)) e r m (i ∙ reply-stages t b) j ∙ sym (traced-stages t b l)

module _ (table sheet choices : List ℕ) (budget : ℕ) (b : Buffers) (l : TraceLists) where
  abbrev shown-by-bytes : List Shown
  shown-by-bytes = trace (rows_of table) (readings (rows_of table) sheet) choices budget

  pub bytes-lists-short : lists_too_short l ≡ true → ◌≡◌ {A = TracedReply} (record { reply = record { answer = Refused 1 0; buffers = b }; lists = l }) (reply_to_bytes_traced table sheet choices budget b l)
  bytes-lists-short e = short-refused (rows_of table) b l shown-by-bytes (unless (buffer_fault b) (result_of_bytes table sheet choices budget)) e ∙ sym (traced-to-bytes table sheet choices budget b l)

  pub bytes-traced : lists_too_short l ≡ false → (r : Reply) (m : TraceLists) → r ≡ reply_to_bytes table sheet choices budget b → m ≡ lists_after (unless (buffer_fault b) (result_of_bytes table sheet choices budget)) shown-by-bytes l
      → ◌≡◌ {A = TracedReply} (record { reply = r; lists = m }) (reply_to_bytes_traced table sheet choices budget b l)
  bytes-traced e r m i j =
      long-replies (rows_of table) b l shown-by-bytes (unless (buffer_fault b) (result_of_bytes table sheet choices budget)) e r m (i ∙ reply-to-bytes table sheet choices budget b) j
      ∙ sym (traced-to-bytes table sheet choices budget b l)
