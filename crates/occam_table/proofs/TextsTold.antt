-- A number means one reading of a text, and texts are answered with such numbers.
use mathlib.Core.Path.{◌≡◌, refl, ap, ap₂}
use mathlib.Core.Bool.{Bool, true, false}
use mathlib.Core.Logic.{◌⊎◌, inl, inr}
use mathlib.Core.List.{List}
use mathlib.Core.Option.{Option, none, some}
use Prim.Native.Nat.{ℕ, ◌≤◌}
use native.Mathlib.Omega.{arith}
use lib.IntN.{ℤ}
use lib.ListN.{length}
use lib.Dec.{ltb}
use Rattle.std.specs.Prelude.{Ok, Err}
use Rattle.meaning.specs.Basics.{if_else}
use Rattle.meaning.specs.Refusals.{Refusal}
use Rattle.meaning.specs.Buffers.{Buffers}
use Rattle.meaning.specs.Answers.{verdict_of}
use Rattle.meaning.specs.declared.Answer.{Answer}
use Rattle.meaning.specs.declared.Answer.TheVariants.{Refused, Ran}
use Rattle.agreement.specs.RefusalClaims.{TableRefusal, CallRefusal}
use Rattle.agreement.proofs.RefusalPlaces.{table-known, numbers-known}
use Rattle.grammar.specs.TextRows.{text_rows}
use Rattle.grammar.specs.TextRead.{text_fault}
use Rattle.grammar.specs.TextCalls.{check_text, task_of_text, reply_to_text}
use Rattle.grammar.proofs.TextRead.{text-exactly}
use Rattle.agreement_texts.specs.TextCallClaims.{TextRefusal, wrong-line, misnamed-line, too_many_rows, OfReadText}
use Rattle.agreement_texts.proofs.TextCalls.{run-answered-text}
use Rattle.agreement_texts.proofs.TextRefusals.{text-place, text-refused, text-call-refused, rows_whole}
use Rattle.read_text.specs.Reading.{max_numbers, refused, read_unless, text_read}
use Rattle.occam_table.specs.PackingClaims.{PossibleAnswer, PossibleVerdict, PossibleRead, ReadsTold, TextsPossible}
use Rattle.occam_table.proofs.Told.{few-numbers, possible-run}

pub reads-told : ReadsTold
reads-told (Ok n) (Ok m) h k e = ap (λ (i : ℕ). Ok i) (omega arith)
reads-told (Ok n) (Err g) h k e = let low = k.0 in let small = k.1 in absurd (omega arith)
reads-told (Err f) (Ok m) h k e = let low = h.0 in let small = h.1 in absurd (omega arith)
reads-told (Err f) (Err g) h k e = let small = h.1 in let little = k.1 in ap₂ refused (omega arith) (omega arith)

-- a refusal of a text
text-known : {text : List ℕ} {number place : ℕ} → TextRefusal text number place → (2 ≤ number) × (number ≤ 14)
text-known (wrong-line h) = (omega arith, omega arith)
text-known (misnamed-line h k) = (omega arith, omega arith)
text-known too_many_rows = (omega arith, omega arith)

possible-verdict : (text : List ℕ) → PossibleVerdict (verdict_of (check_text text))
possible-verdict text = go (check_text text) refl
  where
    known : {number place : ℕ} → TextRefusal text number place ⊎ (TableRefusal (text_rows text) number place × OfReadText (text_rows text) number place) → (2 ≤ number) × (number ≤ 14)
    known (inl h) = text-known h
    known (inr (h, _)) = let (low, high, _) = table-known h in (low, few-numbers high (omega arith))

    go : (o : Option Refusal) → check_text text ≡ o → PossibleVerdict (verdict_of o)
    go none e = tt
    go (some (n, p)) e = known (text-refused text n p e)

possible-answer : (text sheet choices : List ℕ) (budget : ℕ) (b : Buffers) → PossibleAnswer (reply_to_text text sheet choices budget b).answer
possible-answer text sheet choices budget b = go (reply_to_text text sheet choices budget b).answer refl
  where
    known : {number place : ℕ} → TextRefusal text number place ⊎ (CallRefusal (text_rows text) number place × OfReadText (text_rows text) number place) → (1 ≤ number) × (number ≤ 14)
    known (inl h) = let (low, high) = text-known h in (omega arith, high)
    known {number} {place} (inr (h, _)) = let (low, high, _) = numbers-known (text_rows text) number place h in (low, few-numbers high (omega arith))

    go : (a : Answer) → (reply_to_text text sheet choices budget b).answer ≡ a → PossibleAnswer a
    go (Refused n p) e = known (text-call-refused text sheet choices budget b n p e)
    go (Ran o k n) e = possible-run (task_of_text text sheet choices budget) b (reply_to_text text sheet choices budget b) o k n (run-answered-text text sheet choices budget b o k n e)

possible-read : (text : List ℕ) (rows : List ℤ) → PossibleRead (text_read text rows).0
unfolding text_read
possible-read text rows = go (ltb (length rows) max_numbers) (text_fault text) refl
  where
    go : (short : Bool) (o : Option Refusal) → text_fault text ≡ o → PossibleRead (if_else short (refused 1 0, rows) (read_unless o (text_rows text) rows)).0
    go true o e = (omega arith, omega arith)
    go false none e = (rows_whole text e).1
    go false (some (n, p)) e = let (low, high) = text-known (text-place text (((text-exactly text).1 n p).0 e)) in (omega arith, high)

pub texts-possible : TextsPossible
texts-possible = (possible-verdict, possible-answer, possible-read)
