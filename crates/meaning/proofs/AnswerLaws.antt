-- A refusal is that of the first stage that finds a fault; a table is accepted if every row is right in every stage; verdicts, results
-- and replies by their stages.
use mathlib.Core.Path.{◌≡◌, refl, sym, ap, ap₂, ◌∙◌}
use mathlib.Core.Logic.{◌↔◌}
use mathlib.Core.List.{List, [], ◌∷◌, ◌++◌, map}
use mathlib.Core.Option.{Option, none, some, none-ne-some, some-ne-none}
use Prim.Native.Nat.{ℕ, suc, ◌<◌}
use native.Mathlib.Omega.{arith}
use lib.IntN.{ℤ}
use Rattle.meaning.specs.Limits.{max_budget}
use Rattle.meaning.specs.declared.Verdict.TheVariants.{Accepted, Rejected}
use Rattle.meaning.specs.Rows.{row_count}
use Rattle.meaning.specs.TableBytes.{bytes_fault, rows_of, numbers_fault}
use Rattle.meaning.specs.Usage.{usage_fault, pairs_compared}
use Rattle.meaning.specs.Sheet.{sheet_fault, readings}
use Rattle.meaning.specs.Buffers.{Buffers}
use Rattle.meaning.specs.Run.{run}
use Rattle.meaning.specs.Refusals.{Refusal, Stage, either, first_fault}
use Rattle.meaning.specs.Declarations.{declarations}
use Rattle.meaning.specs.Stages.{Limits, limits, Call, on_table, buffer_fault, budget_fault, lent_stages, stages_before_usage, row_stages, table_stages, call_stages}
use Rattle.meaning.specs.Answers.{table_fault, check, check_bytes, verdict_of, if_passed, checked, check_counted, check_bytes_counted, Result, ran, unless, run_of, result_of, Task, on_rows, on_bytes, result, result_of_bytes, reply_of, reply, reply_to_bytes}
use Rattle.meaning.specs.PrintedForms.{Each, each_none, each_more}
use Rattle.meaning.specs.Faults.{WellFormed, WellPlaced, WithinLimits, WellBlocked}
use Rattle.meaning.proofs.StageLaws.{form-none, tree-none, limit-none, block_none}

-- nothing is looked at after the last stage
pub or_nothing : (o : Option Refusal) → either o none ≡ o
or_nothing none = refl
or_nothing (some f) = refl

-- of three the first counts, however they are put together
pub either-joined : (a b c : Option Refusal) → either (either a b) c ≡ either a (either b c)
either-joined none b c = refl
either-joined (some f) b c = refl

-- a result that the first of two refuses, or else the second
pub unless-either : (a b : Option Refusal) (r : Result) → unless (either a b) r ≡ unless a (unless b r)
unless-either none b r = refl
unless-either (some f) b r = refl

-- two parts of a list of stages
pub first-of-both : {A : Type 0} (x : A) (ss ts : List (Stage A)) → first_fault (ss ++ ts) x ≡ either (first_fault ss x) (first_fault ts x)
unfolding first_fault
first-of-both x [] ts = refl
first-of-both x (s ∷ ss) ts = ap (either (s x)) (first-of-both x ss ts) ∙ sym (either-joined (s x) (first_fault ss x) (first_fault ts x))

-- stages that look at a part of what is given
pub first-in-part : {A B : Type 0} (part : A → B) (x : A) (ss : List (Stage B)) → first_fault (map (λ (s : Stage B). λ y. s (part y)) ss) x ≡ first_fault ss (part x)
unfolding first_fault
first-in-part part x [] = refl
first-in-part part x (s ∷ ss) = ap (either (s (part x))) (first-in-part part x ss)

-- the verdict on rows, stage by stage
pub check-stages : (rows : List ℤ) → check rows ≡ first_fault (numbers_fault ∷ row_stages) rows
unfolding check first_fault
check-stages rows = refl

-- the verdict on bytes: that of the bytes, then that on their rows
pub check-bytes : (table : List ℕ) → check_bytes table ≡ either (bytes_fault table) (check (rows_of table))
unfolding check_bytes check first_fault
check-bytes table = refl

-- the stages on rows before components are compared
abbrev pub rows_before_usage : List (Stage (List ℤ))
rows_before_usage = numbers_fault ∷ stages_before_usage

-- the verdict on rows: that of the stages before usage, then that of usage
pub check-usage : (rows : List ℤ) → check rows ≡ either (first_fault rows_before_usage rows) (usage_fault rows)
unfolding first_fault
check-usage rows = check-stages rows ∙ first-of-both rows rows_before_usage (usage_fault ∷ []) ∙ ap (either (first_fault rows_before_usage rows)) (or_nothing (usage_fault rows))

-- the count of pairs on rows, and on bytes
pub counted-rows : (rows : List ℤ) → check_counted rows ≡ checked (check rows) (if_passed (first_fault rows_before_usage rows) (pairs_compared rows))
unfolding check_counted first_fault
counted-rows rows = refl

pub counted-bytes : (table : List ℕ)
    → check_bytes_counted table ≡ checked (check_bytes table) (if_passed (either (bytes_fault table) (first_fault rows_before_usage (rows_of table))) (pairs_compared (rows_of table)))
unfolding check_bytes_counted first_fault
counted-bytes table = refl

-- the result of a call, part by part: the lent buffers, the table, what else is given, or else the run
pub call-stages : (l : Limits) (c : Call)
    → result_of l c ≡ unless (first_fault lent_stages c) (unless (table_fault c.table) (unless (first_fault (call_stages l) c) (ran (run_of c))))
call-stages l c =
    parts lent_stages (map on_table table_stages ++ call_stages l) (ran (run_of c))
    ∙ ap (unless (first_fault lent_stages c)) (parts (map on_table table_stages) (call_stages l) (ran (run_of c)))
    ∙ ap (λ (o : Option Refusal). unless (first_fault lent_stages c) (unless o (unless (first_fault (call_stages l) c) (ran (run_of c))))) (first-in-part (λ (d : Call). d.table) c table_stages)
  where
    parts : (ss ts : List (Stage Call)) (r : Result) → unless (first_fault (ss ++ ts) c) r ≡ unless (first_fault ss c) (unless (first_fault ts c) r)
    parts ss ts r = ap (λ (o : Option Refusal). unless o r) (first-of-both c ss ts) ∙ unless-either (first_fault ss c) (first_fault ts c) r

-- the result of a task: the refusal of the table, then of the sheet, then of the budget, or else the run
pub result-stages : (t : Task) → result t ≡ unless (check t.rows) (unless (sheet_fault t.rows t.sheet) (unless (budget_fault max_budget t.budget) (ran (run t.rows (readings t.rows t.sheet) t.choices t.budget))))
unfolding result check first_fault
result-stages t =
    let r = ran (run_of (on_rows t none)) in
    call-stages limits (on_rows t none)
    ∙ ap (unless (check t.rows)) (unless-either (sheet_fault t.rows t.sheet) (either (budget_fault max_budget t.budget) none) r)
    ∙ ap (λ (o : Option Refusal). unless (check t.rows) (unless (sheet_fault t.rows t.sheet) (unless o r))) (or_nothing (budget_fault max_budget t.budget))

-- of a task whose table is bytes: the refusal of the bytes, or else the result of the task with their rows
pub result-of-bytes : (table sheet choices : List ℕ) (budget : ℕ)
    → result_of_bytes table sheet choices budget ≡ unless (bytes_fault table) (result (record { rows = rows_of table; sheet = sheet; choices = choices; budget = budget }))
unfolding result result_of_bytes first_fault
result-of-bytes table sheet choices budget = unless-either (bytes_fault table) _ (ran (run_of (on_bytes table sheet choices budget none)))

-- a reply: the refusal of the lent buffers, or else the result
pub reply-stages : (t : Task) (b : Buffers) → reply t b ≡ reply_of t.rows b (unless (buffer_fault b) (result t))
unfolding reply result first_fault
reply-stages t b = ap (reply_of t.rows b) (unless-either (buffer_fault b) _ (ran (run_of (on_rows t none))))

pub reply-to-bytes : (table sheet choices : List ℕ) (budget : ℕ) (b : Buffers)
    → reply_to_bytes table sheet choices budget b ≡ reply_of (rows_of table) b (unless (buffer_fault b) (result_of_bytes table sheet choices budget))
unfolding reply_to_bytes result_of_bytes first_fault
reply-to-bytes table sheet choices budget b = ap (reply_of (rows_of table) b) (unless-either (buffer_fault b) _ (ran (run_of (on_bytes table sheet choices budget none))))

-- the first stage that finds a fault finds this one
pub data First {A : Type 0} (x : A) (f : Refusal) : List (Stage A) → Type 0 where
  here : {s : Stage A} {ss : List (Stage A)} → s x ≡ some f → First x f (s ∷ ss)
  later : {s : Stage A} {ss : List (Stage A)} → s x ≡ none → First x f ss → First x f (s ∷ ss)

module _ {A : Type 0} (x : A) where
  pub first_found : (ss : List (Stage A)) (f : Refusal) → first_fault ss x ≡ some f → First x f ss
  unfolding first_fault
  first_found [] f e = absurd (none-ne-some f e)
  first_found (s ∷ ss) f e = go (s x) refl e (first_found ss f)
    where
      go : (o : Option Refusal) → s x ≡ o → either o (first_fault ss x) ≡ some f → (first_fault ss x ≡ some f → First x f ss) → First x f (s ∷ ss)
      go none i h k = later i (k h)
      go (some g) i h k = here (i ∙ h)

  pub found_first : (ss : List (Stage A)) (f : Refusal) → First x f ss → first_fault ss x ≡ some f
  unfolding first_fault
  found_first [] f h = elim h [ ]
  found_first (s ∷ ss) f (here e) = ap (λ (o : Option Refusal). either o (first_fault ss x)) e
  found_first (s ∷ ss) f (later e h) = ap (λ (o : Option Refusal). either o (first_fault ss x)) e ∙ found_first ss f h

  pub none_found : (ss : List (Stage A)) → first_fault ss x ≡ none → Each (λ (s : Stage A). s x ≡ none) ss
  unfolding first_fault
  none_found [] e = each_none
  none_found (s ∷ ss) e = go (s x) refl e (none_found ss)
    where
      go : (o : Option Refusal) → s x ≡ o → either o (first_fault ss x) ≡ none → (first_fault ss x ≡ none → Each (λ (t : Stage A). t x ≡ none) ss) → Each (λ (t : Stage A). t x ≡ none) (s ∷ ss)
      go none i h k = each_more i (k h)
      go (some g) i h k = absurd (some-ne-none g h)

  pub found_none : (ss : List (Stage A)) → Each (λ (s : Stage A). s x ≡ none) ss → first_fault ss x ≡ none
  unfolding first_fault
  found_none [] h = refl
  found_none (s ∷ ss) (each_more e h) = ap (λ (o : Option Refusal). either o (first_fault ss x)) e ∙ found_none ss h

-- rows that are right: four to each and not too many, every row well formed and well placed, the declarations within the
-- limits, every row right as to blocks, no clash in a PAR
abbrev pub RightRows : List ℤ → Type 0
RightRows rows =
    (numbers_fault rows ≡ none)
    × ((r : ℕ) → r < row_count rows → WellFormed rows r)
    × ((r : ℕ) → r < suc (row_count rows) → WellPlaced rows r)
    × ((r : ℕ) → r < declarations rows → WithinLimits rows r)
    × ((r : ℕ) → r < row_count rows → WellBlocked rows r)
    × (usage_fault rows ≡ none)

-- "A table is accepted if these rules refuse nothing in it"
pub accepted : (rows : List ℤ) → (check rows ≡ none) ↔ RightRows rows
accepted rows = (λ e. to (none_found rows (numbers_fault ∷ row_stages) (sym (check-stages rows) ∙ e)), λ h. check-stages rows ∙ found_none rows (numbers_fault ∷ row_stages) (from h))
  where
    to : Each (λ (s : Stage (List ℤ)). s rows ≡ none) (numbers_fault ∷ row_stages) → RightRows rows
    to (each_more a (each_more b (each_more c (each_more d (each_more e (each_more f each_none)))))) = (a, (form-none rows).0 b, (tree-none rows).0 c, (limit-none rows).0 d, (block_none rows).0 e, f)

    from : RightRows rows → Each (λ (s : Stage (List ℤ)). s rows ≡ none) (numbers_fault ∷ row_stages)
    from h = each_more h.0 (each_more ((form-none rows).1 h.1) (each_more ((tree-none rows).1 h.2) (each_more ((limit-none rows).1 h.3) (each_more ((block_none rows).1 h.4) (each_more h.5 each_none)))))

-- what a verdict says of the refusal
pub accepted-none : (o : Option Refusal) → Accepted ≡ verdict_of o → o ≡ none
accepted-none none e = refl
accepted-none (some f) e = absurd (let z : ◌≡◌ {A = ℕ} 0 1 = cc in omega arith)

pub rejected-some : (o : Option Refusal) (n p : ℕ) → Rejected n p ≡ verdict_of o → o ≡ some (n, p)
rejected-some none n p e = absurd (let z : ◌≡◌ {A = ℕ} 0 1 = cc in omega arith)
rejected-some (some f) n p e =
    let i : f.0 ≡ n = cc in
    let j : f.1 ≡ p = cc in
    ap₂ (λ (a b : ℕ). some (a, b)) i j
