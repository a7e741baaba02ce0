-- A traced call whose lists have room: one with a buffer that is too short is refused; else the task's reply is put, and its lists hold the trace.
use mathlib.Core.Path.{◌≡◌, sym, ap, ◌∙◌}
use mathlib.Core.Bool.{Bool, true, false}
use mathlib.Core.List.{List}
use Prim.Native.Nat.{ℕ}
use Rattle.meaning.specs.Buffers.{Buffers, too_short}
use Rattle.meaning.specs.Stages.{buffer_fault}
use Rattle.meaning.specs.TableBytes.{rows_of}
use Rattle.meaning.specs.Sheet.{readings}
use Rattle.meaning.specs.Answers.{Result, unless, Task, result, result_of_bytes, Reply}
use Rattle.meaning.specs.declared.Answer.TheVariants.{Refused}
use Rattle.meaning.specs.Trace.{Shown, trace, TraceLists, lists_too_short, lists_after, TracedReply, reply_traced, reply_to_bytes_traced}
use Rattle.agreement.proofs.TracedCalls.{lists-short-exactly}
use Rattle.write_buffers.specs.Replies.{put_reply}
use Rattle.write_buffers.proofs.RepliesPut.{rows_short, rows_long, bytes-short, bytes-long}
use Rattle.run_trace.proofs.Shown.{lists-left, lists-left-by-bytes}
use Rattle.run_trace.proofs.Replies.{rows-traced, bytes-traced}
use Rattle.call_tasks.specs.Tasks.{task_done, table_done}

module _ (b : Buffers) (l : TraceLists) (shown : List Shown) (q : Result) where
  lists-untouched : too_short b ≡ true → l ≡ lists_after (unless (buffer_fault b) q) shown l
  unfolding buffer_fault
  lists-untouched e = rw e

  lists-of-result : too_short b ≡ false → lists_after q shown l ≡ lists_after (unless (buffer_fault b) q) shown l
  unfolding buffer_fault
  lists-of-result e = rw e

module _ (t : Task) (b : Buffers) (l : TraceLists) (few : Bool) (counted : few ≡ lists_too_short l) (roomy : few ≡ false) (short : Bool) (told : short ≡ too_short b) where
  abbrev shown-by-rows : List Shown
  shown-by-rows = trace t.rows (readings t.rows t.sheet) t.choices t.budget

  pub traced-rows-short : short ≡ true → ◌≡◌ {A = TracedReply} (record { reply = record { answer = Refused 1 0; buffers = b }; lists = l }) (reply_traced t b l)
  traced-rows-short e = rows-traced t b l (sym counted ∙ roomy) _ l (rows_short t b short told e) (lists-untouched b l shown-by-rows (result t) (sym told ∙ e))

  pub traced-rows-long : (d r : Reply) (m : TraceLists) → short ≡ false → record { reply = d; lists = m } ≡ task_done t l → r ≡ put_reply d b → ◌≡◌ {A = TracedReply} (record { reply = r; lists = m }) (reply_traced t b l)
  traced-rows-long d r m e done put =
      let long = (lists-short-exactly l).0 (sym counted ∙ roomy) in
      rows-traced t b l (sym counted ∙ roomy) r m (rows_long t b short told d r e (ap (λ (x : TracedReply). x.reply) done) put)
      (ap (λ (x : TracedReply). x.lists) done ∙ lists-left l long.ready-counts long.taken-rows t ∙ lists-of-result b l shown-by-rows (result t) (sym told ∙ e))

module _ (table sheet choices : List ℕ) (budget : ℕ) (b : Buffers) (l : TraceLists) (few : Bool) (counted : few ≡ lists_too_short l) (roomy : few ≡ false) (short : Bool) (told : short ≡ too_short b) where
  abbrev shown-by-bytes : List Shown
  shown-by-bytes = trace (rows_of table) (readings (rows_of table) sheet) choices budget

  pub traced-bytes-short : short ≡ true → ◌≡◌ {A = TracedReply} (record { reply = record { answer = Refused 1 0; buffers = b }; lists = l }) (reply_to_bytes_traced table sheet choices budget b l)
  traced-bytes-short e =
      bytes-traced table sheet choices budget b l (sym counted ∙ roomy) _ l (bytes-short table sheet choices budget b short told e) (lists-untouched b l shown-by-bytes (result_of_bytes table sheet choices budget) (sym told ∙ e))

  pub traced-bytes-long : (d r : Reply) (m : TraceLists) → short ≡ false → record { reply = d; lists = m } ≡ table_done table sheet choices budget l → r ≡ put_reply d b
      → ◌≡◌ {A = TracedReply} (record { reply = r; lists = m }) (reply_to_bytes_traced table sheet choices budget b l)
  traced-bytes-long d r m e done put =
      let long = (lists-short-exactly l).0 (sym counted ∙ roomy) in
      bytes-traced table sheet choices budget b l (sym counted ∙ roomy) r m (bytes-long table sheet choices budget b short told d r e (ap (λ (x : TracedReply). x.reply) done) put)
      (ap (λ (x : TracedReply). x.lists) done ∙ lists-left-by-bytes l long.ready-counts long.taken-rows table sheet choices budget ∙ lists-of-result b l shown-by-bytes (result_of_bytes table sheet choices budget) (sym told ∙ e))
