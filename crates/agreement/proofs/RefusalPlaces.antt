-- Every refusal is one of the papers' twelve, with a place where the paper has it.
use mathlib.Core.Path.{◌≡◌, refl, sym, ap, subst, ◌∙◌}
use mathlib.Core.Logic.{◌≢◌, ◌⊎◌, inl, inr, ⊎_elim}
use mathlib.Core.Bool.{Bool, true, false, not, ◌&&◌, ◌||◌, false≢true}
use mathlib.Core.List.{List}
use mathlib.Core.Option.{Option, none, some, map, some-injective, none-ne-some}
use Prim.Native.Nat.{ℕ, ◌+◌, ◌≤◌, ◌<◌, min}
use native.Mathlib.Decide.{ℕ_discrete, dec_lt}
use native.Mathlib.Omega.{arith}
use lib.IntN.{ℤ}
use lib.ListN.{length}
use lib.Dec.{T, leb, ltb, eqb}
use borrow.Author.Tests.{eqb-true, leb-false}
use Rattle.meaning.specs.declared.Node.{Node}
use Rattle.meaning.specs.declared.Node.TheVariants.{Literal, Element, Monadic, Dyadic, Stop, Skip, Assignment, Input, Output, Seq, Par, If, While, Alt, Block, Member, Choice, OptionRow, Guard, Other}
use Rattle.meaning.specs.declared.Answer.TheVariants.{Refused}
use Rattle.meaning.specs.Limits.{max_rows, max_sheet, max_budget}
use Rattle.meaning.specs.Basics.{if_else, is_some, lowest, Lowest}
use Rattle.meaning.specs.Lines.{lines}
use Rattle.meaning.specs.Rows.{row_count, kind_at}
use Rattle.meaning.specs.Refusals.{Refusal, either}
use Rattle.meaning.specs.Stages.{buffer_fault, budget_fault}
use Rattle.meaning.specs.TableBytes.{bytes_fault, rows_of, line_at, overlong, malformed, one_too_many, refusal_at}
use Rattle.meaning.specs.Declarations.{declarations, channels}
use Rattle.meaning.specs.Nodes.{node_at}
use Rattle.meaning.specs.Faults.{WellBlocked}
use Rattle.meaning.specs.Sheet.{values_of, sheet_line_wrong, sheet_fault, readings}
use Rattle.meaning.specs.Buffers.{Buffers, too_short}
use Rattle.meaning.specs.Run.{run}
use Rattle.meaning.specs.Clash.{IsMember, Clash, cell-clash, input-clash, output-clash, components}
use Rattle.meaning.specs.Answers.{Task, Result, refused, ran, unless, check, result, result_of_bytes, Reply, reply_of}
use Rattle.meaning.proofs.LowestLaws.{lowest-is}
use Rattle.meaning.proofs.NoFault.{or-false}
use Rattle.meaning.proofs.AnswerLaws.{check-bytes, result-stages, result-of-bytes, reply-stages, reply-to-bytes}
use Rattle.agreement.specs.VerdictClaims as Verdict
use Rattle.agreement.specs.VerdictClaims.{not-whole, not-formed, not-placed, over-limit, not-blocked, clash}
use Rattle.agreement.specs.RefusalClaims.{TableRefusal, malformed-line, rows-not-whole, wrong-form, wrong-place, passing-declaration, wrong-block, clashing-par, CallRefusal, short-buffer, of-table, wrong-line, budget-above, RowsRefused, BytesRefused, RowsCallRefused, BytesCallRefused, NumbersKnown}
use Rattle.agreement.proofs.TableStarts.{leading_le}
use Rattle.agreement.proofs.UsageFirst.{member-par}
use Rattle.agreement.proofs.VerdictExact.{refusal-least}

-- Places --------------------------------------------------------------------------------------------------------------------------

-- the lowest place that passes a test: those before it do not
lowest-some : (p : ℕ → Bool) (n i : ℕ) → lowest p n ≡ some i → (i < n) × ((j : ℕ) → j < i → p j ≡ false)
lowest-some p n i e = go (lowest p n) e (lowest-is p n)
  where
    false-is : (t : Bool) → (T t → ⊥) → t ≡ false
    false-is true h = absurd (h tt)
    false-is false h = refl

    go : (o : Option ℕ) → o ≡ some i → Lowest (λ j. T (p j)) n o → (i < n) × ((j : ℕ) → j < i → p j ≡ false)
    go none e h = absurd (none-ne-some i e)
    go (some k) e h = let z = some-injective k i e in subst (λ (m : ℕ). (m < n) × ((j : ℕ) → j < m → p j ≡ false)) z (h.0, λ j l. false-is (p j) (h.2 j l))

-- what a stage finds at a place
mapped : (f : ℕ → Refusal) (o : Option ℕ) (g : Refusal) → map f o ≡ some g → (i : ℕ) × (o ≡ some i) × (f i ≡ g)
mapped f none g e = absurd (none-ne-some g e)
mapped f (some i) g e = (i, refl, some-injective (f i) g e)

-- a fault found in bytes is in line 1,026 at most
line-place : (long : Bool) (ls : List (List ℕ)) (L : ℕ) → lowest (λ i. malformed long ls i || one_too_many ls i) (2 + length ls) ≡ some L → L ≤ 1026
line-place long ls L e = go (dec_lt 1026 L)
  where
    found : (L < 2 + length ls) × ((j : ℕ) → j < L → (malformed long ls j || one_too_many ls j) ≡ false)
    found = lowest-some (λ i. malformed long ls i || one_too_many ls i) (2 + length ls) L e

    go : Dec (1026 < L) → L ≤ 1026
    go (yes h) =
        let few = leb-false 1026 (length ls) (or-false (malformed long ls 1026) (one_too_many ls 1026) (found.1 1026 h)).1 in
        let k = found.0 in
        absurd (omega arith)
    go (no h) = omega arith

-- it is a 2 or a 3
pub bytes-place : (table : List ℕ) (f : Refusal) → bytes_fault table ≡ some f → TableRefusal (rows_of table) f.0 f.1 × (f.0 ≤ 3)
unfolding bytes_fault
bytes-place table f e =
    let (L, at, is) = mapped (refusal_at (overlong table) (lines table)) (lowest (λ i. malformed (overlong table) (lines table) i || one_too_many (lines table) i) (2 + length (lines table))) f e in
    go (malformed (overlong table) (lines table) L) (line-place (overlong table) (lines table) L at) is
  where
    go : {L : ℕ} (t : Bool) → L ≤ 1026 → if_else {A = Refusal} t (2, L) (3, 1024) ≡ f → TableRefusal (rows_of table) f.0 f.1 × (f.0 ≤ 3)
    go true h is = subst (λ (g : Refusal). TableRefusal (rows_of table) g.0 g.1 × (g.0 ≤ 3)) is (malformed-line h, omega arith)
    go false h is = subst (λ (g : Refusal). TableRefusal (rows_of table) g.0 g.1 × (g.0 ≤ 3)) is (rows-not-whole (omega arith), omega arith)

-- a faulty line of a sheet is line 130 at most
sheet-line : (long : Bool) (cs : List ℕ) (ls : List (List ℕ)) (L : ℕ) → lowest (sheet_line_wrong long cs ls) (2 + length ls) ≡ some L → L ≤ 130
sheet-line long cs ls L e = go (dec_lt 130 L)
  where
    found : (L < 2 + length ls) × ((j : ℕ) → j < L → sheet_line_wrong long cs ls j ≡ false)
    found = lowest-some (sheet_line_wrong long cs ls) (2 + length ls) L e

    none_after : (t s : Bool) → (t && (true || s)) ≡ false → t ≡ false
    none_after true s h = h
    none_after false s h = refl

    go : Dec (130 < L) → L ≤ 130
    go (yes h) =
        let few = leb-false 130 (length ls) (none_after (leb 130 (length ls)) (not (is_some (values_of (length cs) (line_at ls 130)))) (found.1 130 h)) in
        let k = found.0 in
        absurd (omega arith)
    go (no h) = omega arith

sheet-place : (rows : List ℤ) (sheet : List ℕ) (f : Refusal) → sheet_fault rows sheet ≡ some f → CallRefusal rows f.0 f.1 × (f.0 ≢ 2)
unfolding sheet_fault
sheet-place rows sheet f e =
    let long = ltb max_sheet (length sheet) in
    let (L, at, is) = mapped (λ i. (10, i)) (lowest (sheet_line_wrong long (channels rows 1) (lines sheet)) (2 + length (lines sheet))) f e in
    subst (λ (g : Refusal). CallRefusal rows g.0 g.1 × (g.0 ≢ 2)) is (wrong-line (sheet-line long (channels rows 1) (lines sheet) L at), λ k. omega arith)

-- A PAR -----------------------------------------------------------------------------------------------------------------------------

abbrev is_par : Node → Bool
is_par (Par a) = true
is_par (Literal x) = false
is_par (Element a b) = false
is_par (Monadic a b) = false
is_par (Dyadic a b c) = false
is_par Stop = false
is_par Skip = false
is_par (Assignment a b c) = false
is_par (Input a b c) = false
is_par (Output a b c) = false
is_par (Seq a) = false
is_par (If a) = false
is_par (While a b) = false
is_par (Alt a) = false
is_par (Block a b) = false
is_par (Member a b) = false
is_par (Choice a b c) = false
is_par (OptionRow a b c) = false
is_par (Guard a b) = false
is_par Other = false

-- one of two nodes that are no PAR
other : (t : Bool) (x y : Node) → is_par x ≡ false → is_par y ≡ false → is_par (if_else t x y) ≡ false
other true x y h k = h
other false x y h k = k

-- a node after a test that fails
later : (t : Bool) (x y : Node) → t ≡ false → is_par y ≡ false → is_par (if_else t x y) ≡ false
later true x y e h = absurd (false≢true (sym e))
later false x y e h = h

module _ (rows : List ℤ) (r : ℕ) where
  no-par : eqb (kind_at rows r) 31 ≡ false → is_par (node_at rows r) ≡ false
  unfolding node_at
  no-par n =
      let k = kind_at rows r in
      other (eqb k 10) _ _ refl
      (other (eqb k 11) _ _ refl
      (other (eqb k 12) _ _ refl
      (other (eqb k 13) _ _ refl
      (other (eqb k 20) _ _ refl
      (other (eqb k 21) _ _ refl
      (other (eqb k 22) _ _ refl
      (other (eqb k 23) _ _ refl
      (other (eqb k 24) _ _ refl
      (other (eqb k 30) _ _ refl
      (later (eqb k 31) _ _ n
      (other (eqb k 32) _ _ refl
      (other (eqb k 33) _ _ refl
      (other (eqb k 34) _ _ refl
      (other (eqb k 35) _ _ refl
      (other (eqb k 40) _ _ refl
      (other (eqb k 41) _ _ refl
      (other (eqb k 42) _ _ refl
      (other (eqb k 43) _ _ refl
      refl))))))))))))))))))

  -- only a row of kind 31 is a PAR
  par-kind : (a : ℕ) → node_at rows r ≡ Par a → kind_at rows r ≡ 31
  par-kind a e = go (eqb (kind_at rows r) 31) refl
    where
      go : (t : Bool) → eqb (kind_at rows r) 31 ≡ t → kind_at rows r ≡ 31
      go true i = eqb-true (kind_at rows r) 31 i
      go false i = absurd (false≢true (sym (no-par i) ∙ ap is_par e))

-- a clash is of a PAR
pub clash-par : (rows : List ℤ) {r number : ℕ} → Clash rows r number → (7 ≤ number) × (number ≤ 9) × (kind_at rows r ≡ 31) × (r < row_count rows)
clash-par rows {r} h = go h
  where
    at : {m : ℕ} → IsMember rows r m → (kind_at rows r ≡ 31) × (r < row_count rows)
    at i = let (a, e, l) = member-par rows i in (par-kind rows r a e, l)

    go : {number : ℕ} → Clash rows r number → (7 ≤ number) × (number ≤ 9) × (kind_at rows r ≡ 31) × (r < row_count rows)
    go (cell-clash (components i j n e f) c d) = (omega arith, omega arith, (at i).0, (at i).1)
    go (input-clash (components i j n e f) c d) = (omega arith, omega arith, (at i).0, (at i).1)
    go (output-clash (components i j n e f) c d) = (omega arith, omega arith, (at i).0, (at i).1)

-- Refusals --------------------------------------------------------------------------------------------------------------------------

-- declarations are rows
few-declarations : (rows : List ℤ) → declarations rows ≤ row_count rows
unfolding declarations
few-declarations rows = let h = leading_le rows (row_count rows) 0 in omega arith

-- a row that is no block and names no variable is no fault of blocks
blocked-kind : (rows : List ℤ) (r : ℕ) → ¬ WellBlocked rows r → (kind_at rows r ≡ 35) ⊎ ((kind_at rows r ≡ 11) ⊎ (kind_at rows r ≡ 22))
unfolding WellBlocked
blocked-kind rows r h = go (ℕ_discrete (kind_at rows r) 35) (ℕ_discrete (kind_at rows r) 11) (ℕ_discrete (kind_at rows r) 22)
  where
    go : Dec (kind_at rows r ≡ 35) → Dec (kind_at rows r ≡ 11) → Dec (kind_at rows r ≡ 22) → (kind_at rows r ≡ 35) ⊎ ((kind_at rows r ≡ 11) ⊎ (kind_at rows r ≡ 22))
    go (yes e) d f = inl e
    go (no n) (yes e) f = inr (inl e)
    go (no n) (no m) (yes e) = inr (inr e)
    go (no n) (no m) (no o) = absurd (h (λ e. absurd (n e), λ v i. absurd (⊎_elim m o i.0)))

-- the verdict on rows
table-place : (rows : List ℤ) {number place : ℕ} → Verdict.RefusedWith rows number place → TableRefusal rows number place × (number ≢ 2)
table-place rows (not-whole h) = (rows-not-whole {count = min (row_count rows) max_rows} (omega arith), λ e. omega arith)
table-place rows (not-formed w l) = (wrong-form (l.0, w.1), λ e. omega arith)
table-place rows (not-placed {r} w f l) = let k = l.0 in (wrong-place {r = r} (omega arith) w.1, λ e. omega arith)
table-place rows (over-limit {r} w f t l) = (passing-declaration {r = r} l.0 ((let k = l.0 in let m = few-declarations rows in omega arith), w.1), λ e. omega arith)
table-place rows (not-blocked {r} w f t l k) = (wrong-block (blocked-kind rows r k.1) (k.0, w.1), λ e. omega arith)
table-place rows (clash w f t l b c) =
    let (low, high, par, row) = clash-par rows c.0.1 in
    (clashing-par low high par (row, w.1), λ e. omega arith)

pub rows-refused : RowsRefused
rows-refused rows number place e = table-place rows ((refusal-least rows number place).0 e)

-- the first of two refuses, or the second
of_either : (a b : Option Refusal) (f : Refusal) → either a b ≡ some f → (a ≡ some f) ⊎ (b ≡ some f)
of_either none b f e = inr e
of_either (some g) b f e = inl e

pub bytes-refused : BytesRefused
bytes-refused table number place e = go (of_either (bytes_fault table) (check (rows_of table)) (number, place) (sym (check-bytes table) ∙ e))
  where
    go : (bytes_fault table ≡ some (number, place)) ⊎ (check (rows_of table) ≡ some (number, place)) → TableRefusal (rows_of table) number place
    go (inl h) = (bytes-place table (number, place) h).0
    go (inr h) = (rows-refused (rows_of table) number place h).0

-- a result that is refused
of-unless : (o : Option Refusal) (r : Result) (f : Refusal) → unless o r ≡ refused f → (o ≡ some f) ⊎ (r ≡ refused f)
of-unless none r f e = inr e
of-unless (some g) r f e = inl (ap some cc)

refused-answer : (rows : List ℤ) (b : Buffers) (r : Result) (n p : ℕ) → (reply_of rows b r).answer ≡ Refused n p → r ≡ refused (n, p)
refused-answer rows b (refused (m, q)) n p e = cc
refused-answer rows b (ran q) n p e = let z : ◌≡◌ {A = ℕ} 0 1 = cc in absurd (omega arith)

-- a stage of one place
at_once : (t : Bool) (g f : Refusal) → if_else t (some g) none ≡ some f → g ≡ f
at_once true g f e = some-injective g f e
at_once false g f e = absurd (none-ne-some f e)

buffer-place : (rows : List ℤ) (b : Buffers) (f : Refusal) → buffer_fault b ≡ some f → CallRefusal rows f.0 f.1 × (f.0 ≢ 2)
unfolding buffer_fault
buffer-place rows b f e = subst (λ (g : Refusal). CallRefusal rows g.0 g.1 × (g.0 ≢ 2)) (at_once (too_short b) (1, 0) f e) (short-buffer, λ k. omega arith)

budget-place : (rows : List ℤ) (budget : ℕ) (f : Refusal) → budget_fault max_budget budget ≡ some f → CallRefusal rows f.0 f.1 × (f.0 ≢ 2)
unfolding budget_fault
budget-place rows budget f e = subst (λ (g : Refusal). CallRefusal rows g.0 g.1 × (g.0 ≢ 2)) (at_once (ltb max_budget budget) (11, 0) f e) (budget-above, λ k. omega arith)

result-place : (t : Task) (f : Refusal) → result t ≡ refused f → CallRefusal t.rows f.0 f.1 × (f.0 ≢ 2)
result-place t f e = table (of-unless (check t.rows) _ f (sym (result-stages t) ∙ e))
  where
    budget : (budget_fault max_budget t.budget ≡ some f) ⊎ (ran (run t.rows (readings t.rows t.sheet) t.choices t.budget) ≡ refused f) → CallRefusal t.rows f.0 f.1 × (f.0 ≢ 2)
    budget (inl h) = budget-place t.rows t.budget f h
    budget (inr h) = let z : ◌≡◌ {A = ℕ} 0 1 = cc in absurd (omega arith)

    sheet : (sheet_fault t.rows t.sheet ≡ some f) ⊎ (unless (budget_fault max_budget t.budget) (ran (run t.rows (readings t.rows t.sheet) t.choices t.budget)) ≡ refused f)
        → CallRefusal t.rows f.0 f.1 × (f.0 ≢ 2)
    sheet (inl h) = sheet-place t.rows t.sheet f h
    sheet (inr h) = budget (of-unless (budget_fault max_budget t.budget) _ f h)

    table : (check t.rows ≡ some f) ⊎ (unless (sheet_fault t.rows t.sheet) (unless (budget_fault max_budget t.budget) (ran (run t.rows (readings t.rows t.sheet) t.choices t.budget))) ≡ refused f)
        → CallRefusal t.rows f.0 f.1 × (f.0 ≢ 2)
    table (inl h) = let (k, n) = rows-refused t.rows f.0 f.1 h in (of-table k, n)
    table (inr h) = sheet (of-unless (sheet_fault t.rows t.sheet) _ f h)

pub rows-call-refused : RowsCallRefused
rows-call-refused t b number place e = go (of-unless (buffer_fault b) (result t) (number, place) (refused-answer t.rows b (unless (buffer_fault b) (result t)) number place (ap (λ (r : Reply). r.answer) (sym (reply-stages t b)) ∙ e)))
  where
    go : (buffer_fault b ≡ some (number, place)) ⊎ (result t ≡ refused (number, place)) → CallRefusal t.rows number place × (number ≢ 2)
    go (inl h) = buffer-place t.rows b (number, place) h
    go (inr h) = result-place t (number, place) h

pub bytes-call-refused : BytesCallRefused
bytes-call-refused table sheet choices budget b number place e =
    buffers (of-unless (buffer_fault b) (result_of_bytes table sheet choices budget) (number, place)
    (refused-answer (rows_of table) b (unless (buffer_fault b) (result_of_bytes table sheet choices budget)) number place (ap (λ (r : Reply). r.answer) (sym (reply-to-bytes table sheet choices budget b)) ∙ e)))
  where
    bytes : (bytes_fault table ≡ some (number, place)) ⊎ (result (record { rows = rows_of table; sheet = sheet; choices = choices; budget = budget }) ≡ refused (number, place)) → CallRefusal (rows_of table) number place
    bytes (inl h) = of-table (bytes-place table (number, place) h).0
    bytes (inr h) = (result-place (record { rows = rows_of table; sheet = sheet; choices = choices; budget = budget }) (number, place) h).0

    buffers : (buffer_fault b ≡ some (number, place)) ⊎ (result_of_bytes table sheet choices budget ≡ refused (number, place)) → CallRefusal (rows_of table) number place
    buffers (inl h) = (buffer-place (rows_of table) b (number, place) h).0
    buffers (inr h) = bytes (of-unless (bytes_fault table) _ (number, place) (sym (result-of-bytes table sheet choices budget) ∙ h))

-- Numbers and places ----------------------------------------------------------------------------------------------------------------

pub table-known : {rows : List ℤ} {number place : ℕ} → TableRefusal rows number place → (2 ≤ number) × ((number ≤ 9) ⊎ (number ≡ 14)) × (place ≤ 1026)
table-known (malformed-line h) = (omega arith, inl (omega arith), omega arith)
table-known (rows-not-whole h) = (omega arith, inl (omega arith), omega arith)
table-known (wrong-form (h, w)) = (omega arith, inl (omega arith), omega arith)
table-known (wrong-place h w) = (omega arith, inl (omega arith), omega arith)
table-known (passing-declaration d (h, w)) = (omega arith, inl (omega arith), omega arith)
table-known (wrong-block k (h, w)) = (omega arith, inr refl, omega arith)
table-known (clashing-par low high par (h, w)) = (omega arith, inl (omega arith), omega arith)

pub numbers-known : NumbersKnown
numbers-known rows number place h = go h
  where
    go : {number place : ℕ} → CallRefusal rows number place → (1 ≤ number) × ((number ≤ 11) ⊎ (number ≡ 14)) × (place ≤ 1026)
    go short-buffer = (omega arith, inl (omega arith), omega arith)
    go (of-table t) = let (a, b, c) = table-known t in (omega arith, ⊎_elim (λ l. inl (omega arith)) inr b, c)
    go (wrong-line h) = (omega arith, inl (omega arith), omega arith)
    go budget-above = (omega arith, inl (omega arith), omega arith)
