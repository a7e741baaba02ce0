-- What a call does with what reading came to.
use mathlib.Core.Path.{◌≡◌, refl, sym, ap, ap₂, ◌∙◌}
use mathlib.Core.Bool.{Bool, true, false}
use mathlib.Core.List.{List}
use mathlib.Core.Option.{Option, none, some}
use Prim.Native.Nat.{ℕ, ◌*◌, ◌≤◌}
use native.Mathlib.Omega.{arith}
use borrow.Author.Tests.{le-ltb}
use lib.IntN.{ℤ, pos}
use lib.ListN.{length, take, length-take}
use Rattle.std.specs.Prelude.{Result, Ok}
use Rattle.meaning.specs.Refusals.{Refusal}
use Rattle.meaning.specs.Rows.{row_count}
use Rattle.meaning.specs.Buffers.{Buffers, too_short}
use Rattle.meaning.specs.Answers.{verdict_of, check, Reply, reply}
use Rattle.meaning.specs.declared.Verdict.TheVariants.{Rejected}
use Rattle.meaning.specs.declared.Answer.TheVariants.{Refused}
use Rattle.meaning.proofs.LentLaws.{lent-whole, lent_length}
use Rattle.grammar.specs.TextRows.{text_rows}
use Rattle.grammar.specs.TextRead.{text_fault}
use Rattle.grammar.specs.TextCalls.{check_text, reply_to_text}
use Rattle.agreement_texts.proofs.TextCalls.{short-refused-text, text-as-rows}
use Rattle.agreement_texts.proofs.TextRefusals.{rows_whole}
use Rattle.read_text.specs.Reading.{max_numbers, rows_in, refused, read_unless, text_read}
use Rattle.read_text.specs.declared.Refused as read

module _ (text : List ℕ) (old : List ℤ) (long : 4096 ≤ length old) (r : Result ℕ read.Refused) (rows : List ℤ) (is : (r, rows) ≡ text_read text old) where
  by-fault : (r, rows) ≡ read_unless (text_fault text) (text_rows text) old
  unfolding text_read
  by-fault = is ∙ rw (le-ltb (length old) 4096 long)

  -- refused as the text is
  pub fault-told : (number place : ℕ) → r ≡ refused number place → text_fault text ≡ some (number, place)
  fault-told number place e = go (text_fault text) refl by-fault
    where
      go : (o : Option Refusal) → text_fault text ≡ o → (r, rows) ≡ read_unless o (text_rows text) old → text_fault text ≡ some (number, place)
      go none q w = let a = ap (λ (x : Result ℕ read.Refused × List ℤ). x.0) w in absurd cc
      go (some (n, p)) q w =
          let a = ap (λ (x : Result ℕ read.Refused × List ℤ). x.0) w in
          let f : ◌≡◌ {A = read.Refused} (record { number = n; place = p }) (record { number = number; place = place }) = cc in
          q ∙ ap (λ (x : read.Refused). some (x.number, x.place)) f

  -- or its rows stand in the lent ones
  module _ (count : ℕ) (e : r ≡ Ok count) where
    found : (text_fault text ≡ none) × (count ≡ row_count (text_rows text)) × (rows ≡ rows_in (text_rows text) old)
    found = go (text_fault text) refl by-fault
      where
        go : (o : Option Refusal) → text_fault text ≡ o → (r, rows) ≡ read_unless o (text_rows text) old → (text_fault text ≡ none) × (count ≡ row_count (text_rows text)) × (rows ≡ rows_in (text_rows text) old)
        go none q w = let a = ap (λ (x : Result ℕ read.Refused × List ℤ). x.0) w in (q, cc, ap (λ (x : Result ℕ read.Refused × List ℤ). x.1) w)
        go (some (n, p)) q w = let a = ap (λ (x : Result ℕ read.Refused × List ℤ). x.0) w in absurd cc

    pub is-fine : text_fault text ≡ none
    is-fine = found.0

    sized : length (text_rows text) ≡ 4 * count
    sized = let (w, few) = rows_whole text is-fine in omega (arith, w, found.1)

    pub within : 4 * count ≤ 4096
    within = let (w, few) = rows_whole text is-fine in omega (arith, few, found.1)

    pub room : 4 * count ≤ length rows
    room = omega (arith, within, ap (λ (l : List ℤ). length l) found.2, lent_length (pos 0) max_numbers (text_rows text) old long, long)

    pub part-long : 4 * count ≡ length (take (4 * count) rows)
    part-long = omega (arith, room, length-take (4 * count) rows)

    pub rows-there : take (4 * count) rows ≡ text_rows text
    rows-there = ap (take (4 * count)) found.2 ∙ lent-whole (pos 0) max_numbers (4 * count) (text_rows text) old sized within

-- the verdict
pub verdict-refused : (text : List ℕ) (number place : ℕ) → text_fault text ≡ some (number, place) → Rejected number place ≡ verdict_of (check_text text)
unfolding check_text
verdict-refused text number place e = rw e

pub verdict-on-rows : (text : List ℕ) → text_fault text ≡ none → verdict_of (check (text_rows text)) ≡ verdict_of (check_text text)
unfolding check_text
verdict-on-rows text e = rw e

-- the reply
pub reply-short : (text sheet choices : List ℕ) (budget : ℕ) (b : Buffers) (short : Bool) → short ≡ too_short b → short ≡ true
    → ◌≡◌ {A = Reply} (record { answer = Refused 1 0; buffers = b }) (reply_to_text text sheet choices budget b)
reply-short text sheet choices budget b short told e = sym (short-refused-text text sheet choices budget b (sym told ∙ e))

pub reply-refused : (text sheet choices : List ℕ) (budget : ℕ) (b : Buffers) (number place : ℕ) → too_short b ≡ false → text_fault text ≡ some (number, place)
    → ◌≡◌ {A = Reply} (record { answer = Refused number place; buffers = b }) (reply_to_text text sheet choices budget b)
reply-refused text sheet choices budget b number place long e = sym ((text-as-rows text sheet choices budget b).1 (number, place) long e)

pub reply-on-rows : (text sheet choices : List ℕ) (budget : ℕ) (b : Buffers) (rows : List ℤ) → text_fault text ≡ none → rows ≡ text_rows text
    → (r : Reply) → r ≡ reply (record { rows = rows; sheet = sheet; choices = choices; budget = budget }) b → r ≡ reply_to_text text sheet choices budget b
reply-on-rows text sheet choices budget b rows fine e r w =
    w
    ∙ ap (λ (l : List ℤ). reply (record { rows = l; sheet = sheet; choices = choices; budget = budget }) b) e
    ∙ sym ((text-as-rows text sheet choices budget b).0 fine)
