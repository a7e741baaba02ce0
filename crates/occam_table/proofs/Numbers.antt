-- A call's number belongs to its reply; and rows that are read, in a lent buffer.
use mathlib.Core.Path.{◌≡◌, ap, ◌∙◌}
use mathlib.Core.List.{List}
use mathlib.Core.Option.{none, some}
use Prim.Native.Nat.{ℕ, ◌≤◌, ◌<◌}
use lib.IntN.{ℤ}
use lib.ListN.{length}
use borrow.Author.Tests.{lt-ltb, le-ltb}
use Rattle.meaning.specs.TableBytes.{bytes_fault, rows_of}
use Rattle.meaning.specs.Answers.{Reply}
use Rattle.meaning.specs.Trace.{TracedReply}
use Rattle.occam_table.specs.Packing.{answer_number}
use Rattle.occam_table.specs.Exports.{Packed, packed, PackedTraced, packed_traced}
use Rattle.write_buffers.specs.Replies.{past}
use Rattle.occam_table.specs.RowsLent.{rows_lent}

pub packed-reply : (n : ℕ) (r q : Reply) → n ≡ answer_number r.answer → r ≡ q → ◌≡◌ {A = Packed} (record { number = n; buffers = r.buffers }) (packed q)
packed-reply n r q e h = λ i. record { number = (e ∙ ap (λ (x : Reply). answer_number x.answer) h) i; buffers = (h i).buffers }

pub packed-traced : (n : ℕ) (r q : TracedReply) → n ≡ answer_number r.reply.answer → r ≡ q → ◌≡◌ {A = PackedTraced} (record { reply = record { number = n; buffers = r.reply.buffers }; lists = r.lists }) (packed_traced q)
packed-traced n r q e h = λ i. record { reply = packed-reply n r.reply q.reply e (ap (λ (x : TracedReply). x.reply) h) i; lists = (h i).lists }

module _ (table : List ℕ) (out : List ℤ) where
  pub rows-without-room : length out < 4096 → ◌≡◌ {A = ℕ × List ℤ} (0, out) (rows_lent table out)
  unfolding rows_lent
  rows-without-room h = rw (lt-ltb (length out) 4096 h)

  module _ (h : 4096 ≤ length out) where
    pub rows-refused : (n p : ℕ) → bytes_fault table ≡ some (n, p) → ◌≡◌ {A = ℕ × List ℤ} (0, out) (rows_lent table out)
    unfolding rows_lent
    rows-refused n p e = rw (le-ltb (length out) 4096 h, e)

    pub rows-put : (n : ℕ) (l : List ℤ) → bytes_fault table ≡ none → n ≡ length (rows_of table) → l ≡ past (rows_of table) out → ◌≡◌ {A = ℕ × List ℤ} (n, l) (rows_lent table out)
    unfolding rows_lent
    rows-put n l e i j = rw (le-ltb (length out) 4096 h, e) (λ k. (i k, j k))
