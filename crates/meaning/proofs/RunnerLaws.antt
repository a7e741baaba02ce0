-- What comes after the bytes that settle everything changes nothing.
use mathlib.Core.Path.{◌≡◌, refl, sym, ap, ap₂, ◌∙◌, subst}
use mathlib.Core.Logic.{◌⊎◌, inl, inr}
use mathlib.Core.Bool.{Bool, true, false, ◌||◌, false≢true}
use mathlib.Core.List.{List, [], ◌∷◌, ◌++◌, append-nil, flatten}
use mathlib.Core.Option.{Option, none, some, map}
use Prim.Native.Nat.{ℕ, zero, suc, ◌+◌, ◌-◌, ◌≤◌, ◌<◌}
use native.Mathlib.Decide.{dec_lt}
use native.Mathlib.Omega.{arith}
use lib.IntN.{ℤ}
use lib.ListN.{length, take, length-append}
use lib.Seq.{take-nil, take_all, take-append-le, take-append-add, length-take-le}
use lib.Dec.{eqb, ltb}
use borrow.Author.Tests.{lt-ltb}
use Rattle.meaning.specs.Limits.{max_table, max_sheet, max_budget}
use Rattle.meaning.specs.Texts.{line_feed}
use Rattle.meaning.specs.Basics.{if_else, lowest_from, lowest}
use Rattle.meaning.specs.Lines.{onto, lines, ending, text, same}
use Rattle.meaning.specs.TableBytes.{bytes_fault, rows_of, overlong, malformed, one_too_many, refusal_at}
use Rattle.meaning.specs.Declarations.{channels}
use Rattle.meaning.specs.Sheet.{sheet_line_wrong, sheet_fault}
use Rattle.meaning.specs.Refusals.{Refusal}
use Rattle.meaning.specs.Answers.{Result, refused, Task, check, unless, result, result_of_bytes}
use Rattle.meaning.specs.Printing.{line_bytes, refused_line}
use Rattle.meaning.specs.Runner.{separator, table_part, sheet_part, printed_result, runner, enough}
use Rattle.meaning.specs.PrintedForms.{Each, each_none, each_more}
use Rattle.meaning.specs.PrintedClaims.{Bounded}
use Rattle.meaning.proofs.LineLaws.{Plain, whole-line, concat-lines}
use Rattle.meaning.proofs.NoFault.{same-is}
use Rattle.meaning.proofs.AnswerLaws.{result-stages, result-of-bytes}

-- Lists -------------------------------------------------------------------------------------------------------------------------

take-each : {P : ℕ → Type 0} (n : ℕ) {l : List ℕ} → Each P l → Each P (take n l)
take-each zero h = each_none
take-each (suc n) each_none = each_none
take-each (suc n) (each_more p h) = each_more p (take-each n h)

-- Lines -------------------------------------------------------------------------------------------------------------------------

-- lines that end with a line feed, but for the last
data Lined : List (List ℕ) → Type 0 where
  lined-none : Lined []
  lined-last : {l : List ℕ} → Each Plain l → Lined (l ∷ [])
  lined-more : {l : List ℕ} {ls : List (List ℕ)} (t : List ℕ) → text l ≡ some t → Each Plain t → Lined ls → Lined (l ∷ ls)

lines-lined : (bs : List ℕ) → Lined (lines bs)
unfolding lines text
lines-lined [] = lined-none
lines-lined (b ∷ bs) = go (eqb b line_feed) refl (lines-lined bs)
  where
    go : {ls : List (List ℕ)} (c : Bool) → eqb b line_feed ≡ c → Lined ls → Lined (if_else c ((b ∷ []) ∷ ls) (onto b ls))
    go true e h = lined-more [] (ap (λ (c : Bool). if_else c (some []) (map (λ t. b ∷ t) none)) e) each_none h
    go false e lined-none = lined-last (each_more e each_none)
    go false e (lined-last p) = lined-last (each_more e p)
    go false e (lined-more {l = l} t i p h) = lined-more (b ∷ t) (ap₂ (λ (c : Bool) (o : Option (List ℕ)). if_else c (ending l) (map (λ u. b ∷ u) o)) e i) (each_more e p) h

-- bytes with no line feed are one line at most
plain_lines : (b : ℕ) (l : List ℕ) → Each Plain (b ∷ l) → lines (b ∷ l) ≡ (b ∷ l) ∷ []
unfolding lines
plain_lines b [] (each_more p h) = ap (λ (c : Bool). if_else c ((b ∷ []) ∷ []) ((b ∷ []) ∷ [])) p
plain_lines b (c ∷ cs) (each_more p h) = ap (λ (t : Bool). if_else t ((b ∷ []) ∷ lines (c ∷ cs)) (onto b (lines (c ∷ cs)))) p ∙ ap (onto b) (plain_lines c cs h)

-- and not the line `=`
plain_other : (l : List ℕ) → Each Plain l → same l separator ≡ false
plain_other l h = go (same l separator) refl
  where
    bad : Each Plain separator → ⊥
    bad (each_more p (each_more q k)) = false≢true (sym q)

    go : (c : Bool) → same l separator ≡ c → c ≡ false
    go true e = absurd (bad (subst (Each Plain) (same-is l separator e) h))
    go false e = refl

plain-part : (l : List ℕ) → Each Plain l → (table_part (lines l) ≡ l) × (sheet_part (lines l) ≡ [])
unfolding table_part sheet_part lines flatten
plain-part [] h = (refl, refl)
plain-part (b ∷ l) h = (
  ap table_part (plain_lines b l h) ∙ ap (λ (c : Bool). if_else c [] ((b ∷ l) ++ [])) (plain_other (b ∷ l) h) ∙ append-nil (b ∷ l),
  ap sheet_part (plain_lines b l h) ∙ ap (λ (c : Bool). if_else c [] []) (plain_other (b ∷ l) h),
)

-- The cut -----------------------------------------------------------------------------------------------------------------------

-- of n bytes: either the table is whole and the sheet is cut after m bytes, or the table is cut
abbrev Cut : ℕ → List ℕ → List ℕ → List ℕ → List ℕ → Type 0
Cut n T S T' S' = ((T' ≡ T) × ((m : ℕ) × (S' ≡ take m S) × (n ≤ length T + 2 + m))) ⊎ ((n < length T + 2) × (n ≤ length T' + 2))

-- what n of some bytes hold
abbrev Of : ℕ → List ℕ → List ℕ → List ℕ → Type 0
Of n T S bs = Cut n T S (table_part (lines (take n bs))) (sheet_part (lines (take n bs)))

move : {T U S R bs cs : List ℕ} (n : ℕ) → T ≡ U → S ≡ R → bs ≡ cs → Of n U R cs → Of n T S bs
move {T} {U} {S} {R} {bs} {cs} n e f g h =
    subst (λ (X : List ℕ). Of n X S bs) (sym e) (subst (λ (X : List ℕ). Of n U X bs) (sym f) (subst (Of n U R) (sym g) h))

cut-plain : (l : List ℕ) → Each Plain l → (n : ℕ) → Of n l [] l
cut-plain l h n = go (dec_lt (length l + 1) n) (dec_lt n (length l))
  where
    q : (table_part (lines (take n l)) ≡ take n l) × (sheet_part (lines (take n l)) ≡ [])
    q = plain-part (take n l) (take-each n h)

    go : Dec (length l + 1 < n) → Dec (n < length l) → Of n l [] l
    go (yes i) j = inl (q.0 ∙ take_all n l (omega arith), (n, q.1 ∙ sym (take-nil n), omega arith))
    go (no i) (yes j) = inr (omega arith, (let z = ap length q.0 ∙ length-take-le n l (omega arith) in omega arith))
    go (no i) (no j) = inr (omega arith, (let z = ap length q.0 ∙ ap length (take_all n l (omega arith)) in omega arith))

-- a whole line in front
in-front : (l t : List ℕ) → text l ≡ some t → (X : List ℕ) (n k : ℕ) → n ≡ length l + k
    → (table_part (lines (take n (l ++ X))) ≡ if_else (same l separator) [] (l ++ table_part (lines (take k X)))) × (sheet_part (lines (take n (l ++ X))) ≡ if_else (same l separator) (flatten (lines (take k X))) (sheet_part (lines (take k X))))
unfolding table_part sheet_part
in-front l t e X n k i = (ap table_part z, ap sheet_part z)
  where
    z : lines (take n (l ++ X)) ≡ l ∷ lines (take k X)
    z = ap (λ (m : ℕ). lines (take m (l ++ X))) i ∙ ap lines (take-append-add l X k) ∙ (whole-line l t e).1 (take k X)

-- the line `=` in front
cut-parting : (l t : List ℕ) → text l ≡ some t → same l separator ≡ true → (X : List ℕ) (n : ℕ) → Of n [] X (l ++ X)
cut-parting l t e i X n = go (dec_lt 1 n)
  where
    size : length l ≡ 2
    size = ap length (same-is l separator i)

    go : Dec (1 < n) → Of n [] X (l ++ X)
    go (yes h) =
        let f = in-front l t e X n (n - 2) (omega (arith, size)) in
        inl (
          f.0 ∙ ap (λ (c : Bool). if_else c [] (l ++ table_part (lines (take (n - 2) X)))) i,
          (n - 2, f.1 ∙ ap (λ (c : Bool). if_else c (flatten (lines (take (n - 2) X))) (sheet_part (lines (take (n - 2) X)))) i ∙ concat-lines (take (n - 2) X), omega (arith, size)),
        )
    go (no h) = inr (omega (arith, size), omega (arith, size))

-- another line in front
cut_line : (l t : List ℕ) → text l ≡ some t → Each Plain t → same l separator ≡ false → (T S X : List ℕ) (n : ℕ) → ((k : ℕ) → Of k T S X) → Of n (l ++ T) S (l ++ X)
cut_line l t e p i T S X n ih = go (dec_lt n (length l))
  where
    size : length l ≡ length t + 1
    size = ap length (whole-line l t e).0 ∙ length-append t (line_feed ∷ [])

    long : length (l ++ T) ≡ length l + length T
    long = length-append l T

    back : (k : ℕ) → n ≡ length l + k → Of k T S X → Of n (l ++ T) S (l ++ X)
    back k j (inl h) =
        let f = in-front l t e X n k j in
        inl (
          f.0 ∙ ap (λ (c : Bool). if_else c [] (l ++ table_part (lines (take k X)))) i ∙ ap {B = List ℕ} (λ m. l ++ m) h.0,
          (h.1.0, f.1 ∙ ap (λ (c : Bool). if_else c (flatten (lines (take k X))) (sheet_part (lines (take k X)))) i ∙ h.1.1, (let z = h.1.2 in omega (arith, size, long))),
        )
    back k j (inr h) =
        let f = in-front l t e X n k j in
        let z = ap length (f.0 ∙ ap (λ (c : Bool). if_else c [] (l ++ table_part (lines (take k X)))) i) ∙ length-append l (table_part (lines (take k X))) in
        inr ((let y = h.0 in omega (arith, size, long)), (let y = h.1 in omega (arith, size, long)))

    go : Dec (n < length l) → Of n (l ++ T) S (l ++ X)
    go (yes h) =
        let c = take-append-le n l X (omega (arith, size, long)) ∙ ap {B = List ℕ} (take n) (whole-line l t e).0 ∙ take-append-le n t (line_feed ∷ []) (omega (arith, size, long)) in
        let z = ap length (ap (λ (m : List ℕ). table_part (lines m)) c ∙ (plain-part (take n t) (take-each n p)).0) ∙ length-take-le n t (omega (arith, size, long)) in
        inr (omega (arith, size, long), omega (arith, size, long))
    go (no h) = back (n - length l) (omega (arith, size, long)) (ih (n - length l))

cut : (ls : List (List ℕ)) → Lined ls → (n : ℕ) → Of n (table_part ls) (sheet_part ls) (flatten ls)
unfolding table_part sheet_part flatten
cut [] lined-none n = cut-plain [] each_none n
cut (l ∷ []) (lined-last p) n =
    move n (ap (λ (c : Bool). if_else c [] (l ++ [])) (plain_other l p) ∙ append-nil l) (ap (λ (c : Bool). if_else c (flatten []) []) (plain_other l p)) (append-nil l) (cut-plain l p n)
cut (l ∷ ls) (lined-more t e p h) n = go (same l separator) refl (cut ls h)
  where
    go : (c : Bool) → same l separator ≡ c → ((k : ℕ) → Of k (table_part ls) (sheet_part ls) (flatten ls)) → Of n (if_else c [] (l ++ table_part ls)) (if_else c (flatten ls) (sheet_part ls)) (l ++ flatten ls)
    go true i ih = cut-parting l t e i (flatten ls) n
    go false i ih = cut_line l t e p i (table_part ls) (sheet_part ls) (flatten ls) n ih

-- The answer --------------------------------------------------------------------------------------------------------------------

-- the first place of all is at fault
at_once : (p : ℕ → Bool) (n : ℕ) → p 0 ≡ true → lowest p (2 + n) ≡ some 0
unfolding lowest lowest_from
at_once p n e =
    ap (λ (k : ℕ). lowest_from p 0 k) (two n) ∙ ap (λ (c : Bool). if_else c (some 0) (lowest_from p 1 (suc n))) e
  where
    two : (m : ℕ) → 2 + m ≡ suc (suc m)
    two m = omega arith

too_long : (T : List ℕ) → max_table < length T → bytes_fault T ≡ some (2, 0)
unfolding bytes_fault
too_long T h =
    ap (map (refusal_at (overlong T) (lines T))) (at_once (λ L. malformed (overlong T) (lines T) L || one_too_many (lines T) L) (length (lines T)) (ap (λ (c : Bool). c || false) z))
    ∙ ap {B = Option Refusal} (λ c. some (if_else c (2, 0) (3, 1024))) z
  where
    z : overlong T ≡ true
    z = lt-ltb max_table (length T) h

sheet-long : (rows : List ℤ) (S : List ℕ) → max_sheet < length S → sheet_fault rows S ≡ some (10, 0)
unfolding sheet_fault
sheet-long rows S h =
    ap (map (λ L. (10, L))) (at_once (sheet_line_wrong (ltb max_sheet (length S)) (channels rows 1) (lines S)) (length (lines S)) (lt-ltb max_sheet (length S) h))

-- a task with a sheet that is too long is refused whatever the sheet
long-refused : (t : Task) → max_sheet < length t.sheet → result t ≡ unless (check t.rows) (refused (10, 0))
long-refused t h = result-stages t ∙ rw (sheet-long t.rows t.sheet h)

-- what is printed for a table and a sheet
prints : List ℕ → List ℕ → List ℕ
prints T S = printed_result (rows_of T) (result_of_bytes T S [] max_budget)

abbrev task : List ℕ → List ℕ → Task
task T S = record { rows = rows_of T; sheet = S; choices = []; budget = max_budget }

long-table : (T S : List ℕ) → max_table < length T → prints T S ≡ line_bytes (refused_line (2, 0))
unfolding prints
long-table T S h = ap (printed_result (rows_of T)) (result-of-bytes T S [] max_budget) ∙ rw (too_long T h)

long-sheet : (T S R : List ℕ) → max_sheet < length S → max_sheet < length R → prints T S ≡ prints T R
unfolding prints
long-sheet T S R g h =
    ap (printed_result (rows_of T)) (result-of-bytes T S [] max_budget)
    ∙ ap (λ (r : Result). printed_result (rows_of T) (unless (bytes_fault T) r)) (long-refused (task T S) g ∙ sym (long-refused (task T R) h))
    ∙ ap (printed_result (rows_of T)) (sym (result-of-bytes T R [] max_budget))

same-print : (T S T' S' : List ℕ) → Cut enough T S T' S' → prints T' S' ≡ prints T S
same-print T S T' S' (inl h) = ap₂ prints h.0 h.1.1 ∙ go (dec_lt max_table (length T)) (dec_lt h.1.0 (length S))
  where
    go : Dec (max_table < length T) → Dec (h.1.0 < length S) → prints T (take h.1.0 S) ≡ prints T S
    go (yes i) j = long-table T (take h.1.0 S) i ∙ sym (long-table T S i)
    go (no i) (yes j) =
        let z = length-take-le h.1.0 S (omega arith) in
        let y = h.1.2 in
        long-sheet T (take h.1.0 S) S (omega arith) (omega arith)
    go (no i) (no j) = ap (prints T) (take_all h.1.0 S (omega arith))
same-print T S T' S' (inr h) =
    let y = h.0 in
    let z = h.1 in
    long-table T' S' (omega arith) ∙ sym (long-table T S (omega arith))

pub bounded : Bounded
unfolding Bounded runner prints
bounded input =
    same-print (table_part (lines input)) (sheet_part (lines input)) (table_part (lines (take enough input))) (sheet_part (lines (take enough input)))
    (subst (Of enough (table_part (lines input)) (sheet_part (lines input))) (concat-lines input) (cut (lines input) (lines-lined input) enough))
