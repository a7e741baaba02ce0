-- The numbers and places with which texts and calls on them are refused.
use mathlib.Core.Path.{◌≡◌, refl, sym, ap, subst, ◌∙◌}
use mathlib.Core.Logic.{◌⊎◌, inl, inr, ⊎_elim}
use mathlib.Core.Bool.{Bool, true, false}
use mathlib.Core.Option
use mathlib.Core.Option.{Option, none, some, none-ne-some, some-injective}
use mathlib.Core.List.{List, [], ◌∷◌, map, flatten}
use Prim.Native.Nat.{ℕ, suc, ◌*◌, ◌+◌, ◌≤◌, ◌<◌}
use native.Mathlib.Decide.{dec_lt}
use native.Mathlib.Omega.{arith}
use lib.IntN.{ℤ}
use lib.Dec.{ltb}
use lib.ListN.{length, length-append}
use Rattle.meaning.specs.Basics.{if_else, with_first, all_some, lowest}
use Rattle.meaning.specs.Rows.{row_count}
use Rattle.meaning.specs.Declarations.{declarations as declared, channels}
use Rattle.meaning.specs.Faults.{WellFormed, WellPlaced}
use Rattle.meaning.specs.Buffers.{Buffers, too_short}
use Rattle.meaning.specs.Refusals.{Refusal, either}
use Rattle.meaning.specs.Limits.{max_sheet, max_budget}
use Rattle.meaning.specs.Sheet.{sheet_line_wrong, sheet_fault, readings}
use Rattle.meaning.specs.Stages.{buffer_fault, budget_fault}
use Rattle.meaning.specs.Run.{run}
use Rattle.meaning.proofs.AnswerLaws.{result-stages, reply-stages}
use Rattle.meaning.proofs.Decides.{not-wrong}
use Rattle.meaning.proofs.FaultLaws.{well-formed as well-formed-decided}
use Rattle.meaning.specs.Lines.{lines}
use Rattle.meaning.specs.Answers.{check, Result, ran, unless, Task, Reply, reply_of, reply}
use Rattle.meaning.specs.declared.Answer.TheVariants.{Refused}
use Rattle.agreement.specs.VerdictClaims.{WholeRows, EachFormed, LowestWrong, RefusedWith, not-whole, not-formed, not-placed, over-limit, not-blocked, clash}
use Rattle.agreement.specs.RefusalClaims.{TableRefusal, CallRefusal, short-buffer}
use Rattle.agreement.proofs.VerdictExact.{refusal-least}
use Rattle.agreement.proofs.RefusalPlaces.{clash-par, rows-refused, rows-call-refused}
use Rattle.base_top_down.specs.Forms.{form_size, rows_from}
use Rattle.base_top_down.proofs.Flat.{flat-length}
use Rattle.base_top_down.proofs.Again.{declarations-le}
use Rattle.base_top_down.proofs.Stages.{well-formed, well-placed}
use Rattle.grammar.specs.Outline.{Lined, heads, grown}
use Rattle.grammar.specs.TextBytes.{text_line}
use Rattle.grammar.specs.Places.{Fault, inside, missing}
use Rattle.grammar.specs.TextClaims.{NotOfGrammar, too_long, at-line}
use Rattle.grammar.specs.Names.{name_of}
use Rattle.grammar.specs.NameClaims.{Misnamed, again, nowhere, other-sort, not-one}
use Rattle.grammar.specs.TextRows.{declaration_row, declarations, trees_form, lines_rows, or_none, text_lines, text_rows}
use Rattle.grammar.specs.TextRead.{text_fault, RefusedText, by-grammar, by_names, by_rows}
use Rattle.grammar.specs.TextCalls.{check_text, task_of_text, reply_to_text}
use Rattle.grammar.proofs.RowsRead.{rows-sized}
use Rattle.grammar.proofs.TextRead.{text-exactly}
use Rattle.grammar.proofs.RowsRight.{rows_right}
use Rattle.agreement_texts.proofs.TextCalls.{Called, read, turned-back, called}
use Rattle.agreement_texts.specs.TextCallClaims.{TextRefusal, wrong-line, misnamed-line, too_many_rows, OfReadText, TextRefused, TextCallRefused}

-- 12: a line of the text, or the one after the last
fault-within : {B : Type 0} {Is : B → Lined → Type 0} {line_of : B → Option Lined} {bs : List B} {n : ℕ} → Fault Is line_of bs n → n ≤ suc (length bs)
fault-within (inside cs b ds m k) = let e = length-append cs (b ∷ ds) in omega arith
fault-within (missing {bs} m k) = omega arith

grammar-place : (text : List ℕ) {n : ℕ} → NotOfGrammar text n → n ≤ suc (length (lines text))
grammar-place text (too_long h) = omega arith
grammar-place text (at-line h f) = fault-within f

-- 13: a line
first_more : (y : Lined) (o : Option (List Lined)) (n : ℕ) → length (or_none o) ≤ n → length (or_none (with_first y o)) ≤ suc n
first_more y none n h = omega arith
first_more y (some ls) n h = omega arith

lines-within : (bs : List (List ℕ)) → length (or_none (all_some (map text_line bs))) ≤ length bs
unfolding all_some
lines-within [] = omega arith
lines-within (b ∷ bs) = go (text_line b) (lines-within bs)
  where
    go : (o : Option Lined) → length (or_none (all_some (map text_line bs))) ≤ length bs → length (or_none (all_some (o ∷ map text_line bs))) ≤ suc (length bs)
    go none h = omega arith
    go (some y) h = first_more y (all_some (map text_line bs)) (length bs) h

misnamed-first : (ls : List Lined) (n : ℕ) → Misnamed ls n → 1 ≤ n
misnamed-first ls n (again h c d) = omega arith
misnamed-first ls n (nowhere u h) = omega arith
misnamed-first ls n (other-sort u f h) = omega arith
misnamed-first ls n (not-one u f b h) = omega arith

pub text-place : (text : List ℕ) {number place : ℕ} → RefusedText text number place → TextRefusal text number place
unfolding text_lines
text-place text (by-grammar f) = wrong-line (grammar-place text f)
text-place text (by_names {n} g (b, m, l)) = misnamed-line (misnamed-first (text_lines text) n m) (let w = lines-within (lines text) in omega (arith, b, w))
text-place text (by_rows g m k) = too_many_rows

-- its rows are whole
rows-length : (text : List ℕ) → (k : ℕ) × (length (text_rows text) ≡ 4 * k)
unfolding text_rows lines_rows
rows-length text =
    let ds = declarations (text_lines text) in
    let f = trees_form (map name_of ds) (grown (text_lines text) 0) heads in
    let a = rows-sized ds in
    let b = flat-length (length ds) f in
    let c = length-append (flatten (map declaration_row ds)) (rows_from (length ds) f) in
    (length ds + form_size f, omega (arith, a, b, c))

pub rows_whole : (text : List ℕ) → text_fault text ≡ none → WholeRows (text_rows text)
rows_whole text e = let (k, l) = rows-length text in (omega (arith, l), ((text-exactly text).0.0 e).few-rows)

-- of a text that is read, 4 is found at a declaration only, and 5 nowhere
form-declared : (text : List ℕ) → text_fault text ≡ none → {r : ℕ} → LowestWrong (WellFormed (text_rows text)) (row_count (text_rows text)) r → r < declared (text_rows text)
form-declared text e {r} (l, n, before) = go (dec_lt r (declared (text_rows text)))
  where
    go : Dec (r < declared (text_rows text)) → r < declared (text_rows text)
    go (yes k) = k
    go (no k) =
        let right = rows_right text e (λ q h. not-wrong (well-formed-decided (text_rows text) q) (before q (omega arith))) in
        absurd (n (well-formed (text_rows text) right.0 r l))

all_placed : (text : List ℕ) → text_fault text ≡ none → EachFormed (text_rows text) → {r : ℕ} → LowestWrong (WellPlaced (text_rows text)) (suc (row_count (text_rows text))) r → ⊥
all_placed text e f {r} (l, n, before) =
    let few = declarations-le (text_rows text) in
    n (well-placed (text_rows text) (rows_right text e (λ q h. f q (omega arith))).1 r l)

read_number : (text : List ℕ) → text_fault text ≡ none → {number place : ℕ} → RefusedWith (text_rows text) number place → OfReadText (text_rows text) number place
read_number text e (not-whole h) = absurd (h (rows_whole text e))
read_number text e (not-formed w l) = (λ k. omega arith, λ k. omega arith, λ k. omega arith, λ k. form-declared text e l)
read_number text e (not-placed w f l) = absurd (all_placed text e f l)
read_number text e (over-limit w f t l) = (λ k. omega arith, λ k. omega arith, λ k. omega arith, λ k. absurd (omega arith))
read_number text e (not-blocked w f t l k) = (λ k. omega arith, λ k. omega arith, λ k. omega arith, λ k. absurd (omega arith))
read_number text e (clash w f t l b c) =
    let low = (clash-par (text_rows text) c.0.1).0 in
    (λ k. omega (arith, low), λ k. omega (arith, low), λ k. omega (arith, low), λ k. absurd (omega (arith, low, k)))

rows-found : (text : List ℕ) → text_fault text ≡ none → (number place : ℕ) → check (text_rows text) ≡ some (number, place) → OfReadText (text_rows text) number place
rows-found text e number place c = read_number text e ((refusal-least (text_rows text) number place).0 c)

pub text-refused : TextRefused
unfolding check_text
text-refused text number place e = go (text_fault text) refl
  where
    go : (o : Option Refusal) → text_fault text ≡ o → TextRefusal text number place ⊎ (TableRefusal (text_rows text) number place × OfReadText (text_rows text) number place)
    go (some f) h = inl (text-place text (((text-exactly text).1 number place).0 (h ∙ ap (λ o. either o (check (text_rows text))) (sym h) ∙ e)))
    go none h =
        let c : check (text_rows text) ≡ some (number, place) = ap (λ o. either o (check (text_rows text))) (sym h) ∙ e in
        inr ((rows-refused (text_rows text) number place c).0, rows-found text h number place c)

-- Calls -----------------------------------------------------------------------------------------------------------------------------

-- 1, 10 and 11
abbrev OfCall : ℕ → Type 0
OfCall number = (number ≡ 1) ⊎ (9 < number)

one_place : (t : Bool) (g f : Refusal) → if_else t (some g) none ≡ some f → g ≡ f
one_place true g f e = some-injective g f e
one_place false g f e = absurd (none-ne-some f e)

one_number : (n : ℕ) (o : Option ℕ) (f : Refusal) → Option.map (λ i. (n, i)) o ≡ some f → f.0 ≡ n
one_number n none f e = absurd (none-ne-some f e)
one_number n (some i) f e = ap (λ (g : Refusal). g.0) (sym (some-injective (n, i) f e))

sheet-number : (rows : List ℤ) (sheet : List ℕ) (f : Refusal) → sheet_fault rows sheet ≡ some f → f.0 ≡ 10
unfolding sheet_fault
sheet-number rows sheet f e = one_number 10 (lowest (sheet_line_wrong (ltb max_sheet (length sheet)) (channels rows 1) (lines sheet)) (2 + length (lines sheet))) f e

refusal-same : (f : Refusal) (number place : ℕ) → Refused f.0 f.1 ≡ Refused number place → f ≡ (number, place)
refusal-same (m, q) number place e = cc

-- a call on rows is refused as its rows are, or with 1, 10 or 11
call-number : (t : Task) (b : Buffers) (number place : ℕ) → (reply t b).answer ≡ Refused number place → (check t.rows ≡ some (number, place)) ⊎ OfCall number
unfolding buffer_fault budget_fault
call-number t b number place e =
    go (buffer_fault b) (check t.rows) (sheet_fault t.rows t.sheet) (budget_fault max_budget t.budget) refl refl refl refl
    (ap (λ (r : Result). (reply_of t.rows b (unless (buffer_fault b) r)).answer) (sym (result-stages t)) ∙ ap (λ (r : Reply). r.answer) (sym (reply-stages t b)) ∙ e)
  where
    told : (f : Refusal) {n : ℕ} → Refused f.0 f.1 ≡ Refused number place → f.0 ≡ n → number ≡ n
    told f e h = ap (λ (g : Refusal). g.0) (sym (refusal-same f number place e)) ∙ h

    go : (o p q s : Option Refusal) → buffer_fault b ≡ o → check t.rows ≡ p → sheet_fault t.rows t.sheet ≡ q → budget_fault max_budget t.budget ≡ s
        → (reply_of t.rows b (unless o (unless p (unless q (unless s (ran (run t.rows (readings t.rows t.sheet) t.choices t.budget))))))).answer ≡ Refused number place
        → (check t.rows ≡ some (number, place)) ⊎ OfCall number
    go (some f) p q s h i j k e = inr (inl (told f e (ap (λ (g : Refusal). g.0) (sym (one_place (too_short b) (1, 0) f h)))))
    go none (some f) q s h i j k e = inl (i ∙ ap some (refusal-same f number place e))
    go none none (some f) s h i j k e = inr (inr (let n = told f e (sheet-number t.rows t.sheet f j) in omega arith))
    go none none none (some f) h i j k e = inr (inr (let n = told f e (ap (λ (g : Refusal). g.0) (sym (one_place (ltb max_budget t.budget) (11, 0) f k))) in omega arith))
    go none none none none h i j k e = let z : ◌≡◌ {A = ℕ} 0 1 = cc in absurd (omega arith)

call-found : (rows : List ℤ) (number place : ℕ) → OfCall number → OfReadText rows number place
call-found rows number place (inl h) = (λ k. omega arith, λ k. omega arith, λ k. omega arith, λ k. absurd (omega arith))
call-found rows number place (inr h) = (λ k. omega arith, λ k. omega arith, λ k. omega arith, λ k. absurd (omega arith))

pub text-call-refused : TextCallRefused
text-call-refused text sheet choices budget b number place e = go (called text sheet choices budget b)
  where
    same : (f : Refusal) → reply_to_text text sheet choices budget b ≡ record { answer = Refused f.0 f.1; buffers = b } → f ≡ (number, place)
    same f w = refusal-same f number place (ap (λ (r : Reply). r.answer) (sym w) ∙ e)

    go : Called text sheet choices budget b → TextRefusal text number place ⊎ (CallRefusal (text_rows text) number place × OfReadText (text_rows text) number place)
    go (read g w) =
        let t = task_of_text text sheet choices budget in
        let a : (reply t b).answer ≡ Refused number place = ap (λ (r : Reply). r.answer) (sym w) ∙ e in
        inr ((rows-call-refused t b number place a).0, ⊎_elim (rows-found text g number place) (call-found (text_rows text) number place) (call-number t b number place a))
    go (turned-back f (inl h) w) =
        let rows = text_rows text in
        inr (subst (λ (g : Refusal). CallRefusal rows g.0 g.1 × OfReadText rows g.0 g.1) (sym h ∙ same f w) (short-buffer, call-found rows 1 0 (inl refl)))
    go (turned-back f (inr h) w) = inl (text-place text (((text-exactly text).1 number place).0 (h ∙ ap some (same f w))))
