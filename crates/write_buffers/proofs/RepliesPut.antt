-- A reply put into lent buffers is the reply to the call that lent them; and what holds of buffers that are not too short.
use mathlib.Core.Path.{◌≡◌, refl, sym, ap, ◌∙◌}
use mathlib.Core.Bool.{Bool, true, false, ◌||◌, false≢true}
use mathlib.Core.List.{List, map}
use Prim.Native.Nat.{ℕ}
use lib.IntN.{ℤ, pos}
use lib.ListN.{length, replicate}
use lib.Dec.{ltb}
use borrow.Author.Tests.{ltb-false}
use Rattle.meaning.specs.Limits.{max_rows, max_cells, max_host_channels, max_capacity}
use Rattle.meaning.specs.State.{State}
use Rattle.meaning.specs.Buffers.{Buffers, too_short, mark, number_in, capacities, strips, lent, encode}
use Rattle.meaning.specs.TableBytes.{rows_of}
use Rattle.meaning.specs.Stages.{buffer_fault}
use Rattle.meaning.specs.Answers.{Task, Result, Reply, refused, ran, reply_of, unless, result, result_of_bytes, reply, reply_to_bytes}
use Rattle.meaning.specs.declared.Answer.TheVariants.{Refused, Ran}
use Rattle.meaning.proofs.AnswerLaws.{reply-stages, reply-to-bytes}
use Rattle.meaning.proofs.LentLaws.{sized-length, lent-blank}
use Rattle.machine.specs.Held.{blank}
use Rattle.write_buffers.specs.Replies.{past, over, put_reply, Long}

module _ {A : Type 0} where
  -- a list in a lent buffer is what it is over zeros, with what is past the limit
  lent-past : (n : ℕ) (d : A) (xs old : List A) → past (lent n d xs (replicate n d)) old ≡ lent n d xs old
  unfolding lent
  lent-past n d xs old = rw (lent-blank d n xs, sized-length d n xs)

-- a run's arrays over the first places of the buffers are what the run leaves there
over-encoded : (rows : List ℤ) (s : State) (b : Buffers) → over (encode rows s blank) b ≡ encode rows s b
unfolding encode blank
over-encoded rows s b = λ i. record {
  cells = lent-past max_cells (pos 0) (map number_in s.store.cells) b.cells i;
  marks = lent-past max_cells 0 (map mark s.store.cells) b.marks i;
  states = lent-past max_rows 0 s.states b.states i;
  places = lent-past max_host_channels 0 s.store.places b.places i;
  numbers = lent-past max_capacity (pos 0) (map number_in (strips (capacities rows) s.store.outputs)) b.numbers i;
  counts = lent-past max_host_channels 0 (map length s.store.outputs) b.counts i;
  output_marks = lent-past max_capacity 0 (map mark (strips (capacities rows) s.store.outputs)) b.output_marks i;
}

put-reply : (rows : List ℤ) (b : Buffers) (q : Result) → put_reply (reply_of rows blank q) b ≡ reply_of rows b q
put-reply rows b (refused f) = refl
put-reply rows b (ran r) = λ i. record { answer = Ran r.outcome r.steps r.ready; buffers = over-encoded rows r.state b i }

module _ (rows : List ℤ) (b : Buffers) (q : Result) where
  short-refused : too_short b ≡ true → ◌≡◌ {A = Reply} (record { answer = Refused 1 0; buffers = b }) (reply_of rows b (unless (buffer_fault b) q))
  unfolding buffer_fault
  short-refused e = rw e

  long-replies : too_short b ≡ false → put_reply (reply_of rows blank q) b ≡ reply_of rows b (unless (buffer_fault b) q)
  unfolding buffer_fault
  long-replies e = rw e (put-reply rows b q)

-- a call with a buffer that is too short is refused, whatever its task; else the task's reply is put
module _ (t : Task) (b : Buffers) (short : Bool) (told : short ≡ too_short b) where
  pub rows_short : short ≡ true → ◌≡◌ {A = Reply} (record { answer = Refused 1 0; buffers = b }) (reply t b)
  rows_short e = short-refused t.rows b (result t) (sym told ∙ e) ∙ sym (reply-stages t b)

  pub rows_long : (d r : Reply) → short ≡ false → d ≡ reply_of t.rows blank (result t) → r ≡ put_reply d b → r ≡ reply t b
  rows_long d r e done put = put ∙ ap (λ (x : Reply). put_reply x b) done ∙ long-replies t.rows b (result t) (sym told ∙ e) ∙ sym (reply-stages t b)

module _ (table sheet choices : List ℕ) (budget : ℕ) (b : Buffers) (short : Bool) (told : short ≡ too_short b) where
  pub bytes-short : short ≡ true → ◌≡◌ {A = Reply} (record { answer = Refused 1 0; buffers = b }) (reply_to_bytes table sheet choices budget b)
  bytes-short e = short-refused (rows_of table) b (result_of_bytes table sheet choices budget) (sym told ∙ e) ∙ sym (reply-to-bytes table sheet choices budget b)

  pub bytes-long : (d r : Reply) → short ≡ false → d ≡ reply_of (rows_of table) blank (result_of_bytes table sheet choices budget) → r ≡ put_reply d b → r ≡ reply_to_bytes table sheet choices budget b
  bytes-long d r e done put =
      put ∙ ap (λ (x : Reply). put_reply x b) done ∙ long-replies (rows_of table) b (result_of_bytes table sheet choices budget) (sym told ∙ e) ∙ sym (reply-to-bytes table sheet choices budget b)

-- no test of seven holds
none-holds : (a b c d e f g : Bool) → (a || b || c || d || e || f || g) ≡ false → (a ≡ false) × (b ≡ false) × (c ≡ false) × (d ≡ false) × (e ≡ false) × (f ≡ false) × (g ≡ false)
none-holds true b c d e f g h = absurd (false≢true (sym h))
none-holds false true c d e f g h = absurd (false≢true (sym h))
none-holds false false true d e f g h = absurd (false≢true (sym h))
none-holds false false false true e f g h = absurd (false≢true (sym h))
none-holds false false false false true f g h = absurd (false≢true (sym h))
none-holds false false false false false true g h = absurd (false≢true (sym h))
none-holds false false false false false false g h = (refl, refl, refl, refl, refl, refl, h)

pub all-long : (b : Buffers) (short : Bool) → short ≡ too_short b → short ≡ false → Long b
all-long b short told h =
    let n = none-holds (ltb (length b.cells) max_cells) (ltb (length b.marks) max_cells) (ltb (length b.states) max_rows) (ltb (length b.places) max_host_channels) (ltb (length b.numbers) max_capacity) (ltb (length b.counts) max_host_channels) (ltb (length b.output_marks) max_capacity) (sym told ∙ h) in
    record {
      cells = ltb-false (length b.cells) max_cells n.0;
      marks = ltb-false (length b.marks) max_cells n.1;
      states = ltb-false (length b.states) max_rows n.2;
      places = ltb-false (length b.places) max_host_channels n.3;
      numbers = ltb-false (length b.numbers) max_capacity n.4;
      counts = ltb-false (length b.counts) max_host_channels n.5;
      output_marks = ltb-false (length b.output_marks) max_capacity n.6;
    }
