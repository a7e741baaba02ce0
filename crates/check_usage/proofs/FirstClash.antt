-- The verdict on comparisons part by part: one list after another, one PAR after another, one number after another.
use mathlib.Core.Path.{◌≡◌, refl, sym, ap, ap₂, ◌∙◌, subst}
use mathlib.Core.Bool.{Bool, true, false}
use mathlib.Core.List.{List, [], ◌∷◌, ◌++◌, map, Memᴰ}
use mathlib.Core.Option.{none, some}
use Prim.Native.Nat.{ℕ, suc, ◌+◌, ◌<◌, ◌≤◌}
use native.Mathlib.Decide.{ℕ_discrete}
use native.Mathlib.Nat.{zero-add}
use native.Mathlib.Numerals.{add-one}
use native.Mathlib.Omega.{arith}
use lib.IntN.{ℤ}
use lib.ListN.{length, get_or, drop, drop_of_length-le}
use lib.Seq.{drop-cons}
use Rattle.meaning.specs.declared.Checked.{Checked}
use Rattle.meaning.specs.declared.Verdict.{Verdict}
use Rattle.meaning.specs.declared.Verdict.TheVariants.{Accepted, Rejected}
use Rattle.meaning.specs.Basics.{if_else}
use Rattle.meaning.specs.Rows.{row_count, field_at, natural_at, kind_at}
use Rattle.meaning.specs.Nodes.{node_at}
use Rattle.meaning.specs.HigherRows.{at_row}
use Rattle.meaning.specs.Tree.{Content, no_content, content_of, content_at, contents, process_rows}
use Rattle.meaning.specs.Usage.{Pair, pairs, Comparison, comparisons_in, comparisons_of, comparisons, clashes, first_clash, compared, refusal_of, pairs_compared, usage_fault}
use Rattle.meaning.specs.Verdict.{limit_fault}
use Rattle.meaning.specs.Answers.{checked}
use Rattle.meaning.proofs.HigherRows.{last_rows-length}
use Rattle.meaning.proofs.StageLaws.{limit-none}
use Rattle.base_layout.specs.Operands.{operand_at}
use Rattle.base_layout.proofs.Parts.{higher_content, part-of-kind}
use Rattle.base_layout.proofs.RowKinds.{each-kind, above-operand, by_kind}
use Rattle.check_components.specs.RowSets.{SetsFrom}
use Rattle.std.specs.Prelude.{Result, Ok, Err}
use Rattle.check_usage.specs.declared.pairs.ClashFound.{ClashFound}
use Rattle.check_usage.specs.Search.{meet_by, tests_of, searched, verdict_on}
use Rattle.check_components.proofs.ListedProcesses.{listed-stand}
use Rattle.check_usage.proofs.Compared.{comparison, all_have, tests-are}

-- One list after another ------------------------------------------------------------------------------------------------------

-- a verdict, and where it accepts the one on what follows
abbrev and_on : Verdict → ℕ → List Comparison → Checked
and_on (Rejected number r) k m = record { verdict = Rejected number r; pairs = k }
and_on Accepted k m = verdict_on k m

verdict-append : (before : ℕ) (l m : List Comparison) → verdict_on before (l ++ m) ≡ and_on (verdict_on before l).verdict (verdict_on before l).pairs m
unfolding first_clash compared
verdict-append before [] m = let p : before + 0 ≡ before = omega arith in rw p
verdict-append before (c ∷ l) m = go (clashes c) (verdict-append (suc before) l m)
  where
    go : (t : Bool) → verdict_on (suc before) (l ++ m) ≡ and_on (verdict_on (suc before) l).verdict (verdict_on (suc before) l).pairs m
        → checked (refusal_of (if_else t (some c) (first_clash (l ++ m)))) (before + if_else t 1 (suc (compared (l ++ m)))) ≡ and_on (checked (refusal_of (if_else t (some c) (first_clash l))) 0).verdict (before + if_else t 1 (suc (compared l))) m
    go true e = refl
    go false e =
        let p : before + suc (compared (l ++ m)) ≡ suc before + compared (l ++ m) = omega arith in
        let q : before + suc (compared l) ≡ suc before + compared l = omega arith in
        rw (p, q) e

module _ (before : ℕ) (l m : List Comparison) {c : Checked} (e : c ≡ verdict_on before l) where
  on-verdict : verdict_on before (l ++ m) ≡ and_on c.verdict c.pairs m
  on-verdict = verdict-append before l m ∙ ap (λ (d : Checked). and_on d.verdict d.pairs m) (sym e)

  ends : {number r : ℕ} → c.verdict ≡ Rejected number r → verdict_on before (l ++ m) ≡ c
  ends f = on-verdict ∙ ap (λ (v : Verdict). and_on v c.pairs m) f ∙ ap (λ (v : Verdict). record { verdict = v; pairs = c.pairs }) (sym f)

  goes_on : c.verdict ≡ Accepted → verdict_on before (l ++ m) ≡ verdict_on c.pairs m
  goes_on f = on-verdict ∙ ap (λ (v : Verdict). and_on v c.pairs m) f

-- the pairs of one PAR
abbrev of_search : ℕ → ℕ → Result ℕ ClashFound → Checked
of_search number r (Ok n) = checked none n
of_search number r (Err c) = checked (some (number, r)) c.pairs

par-verdict : (number r before : ℕ) (l : List Pair) → verdict_on before (map (comparison number r) l) ≡ of_search number r (searched before (map clashes (map (comparison number r) l)))
unfolding first_clash compared searched
par-verdict number r before [] = let p : before + 0 ≡ before = omega arith in rw p
par-verdict number r before (q ∷ l) = go (clashes (comparison number r q)) (par-verdict number r (suc before) l)
  where
    rest : List Comparison
    rest = map (comparison number r) l

    go : (t : Bool) → verdict_on (suc before) rest ≡ of_search number r (searched (suc before) (map clashes rest))
        → checked (refusal_of (if_else t (some (comparison number r q)) (first_clash rest))) (before + if_else t 1 (suc (compared rest))) ≡ of_search number r (searched before (t ∷ map clashes rest))
    go true e = ap (checked (some (number, r))) (add-one before)
    go false e = let p : before + suc (compared rest) ≡ suc before + compared rest = omega arith in rw p e

-- One row after another -------------------------------------------------------------------------------------------------------

module _ (rows : List ℤ) (number : ℕ) where
  -- the comparisons of a PAR, and of any other row
  par-pairs : (r : ℕ) → r < row_count rows → kind_at rows r ≡ 31 → {a : ℕ} → a ≡ operand_at rows r 1 → comparisons_in number (content_at rows r).process ≡ map (comparison number r) (pairs (content_at rows a).listed)
  par-pairs r h e p = ap (λ (x : Content). comparisons_in number x.process) (part-of-kind rows r 31 h e) ∙ ap (λ (x : Content). map (comparison number r) (pairs x.listed)) (above-operand rows r 1 p)

  pub no_pairs : (r : ℕ) → r < row_count rows → (kind_at rows r ≡ 31 → ⊥) → comparisons_in number (content_at rows r).process ≡ []
  no_pairs r h n =
      by_kind rows r h (λ p. comparisons_in number p.process ≡ [])
      (each-kind (λ x. comparisons_in number (content_of rows r (higher_content rows r) x).process ≡ []) (kind_at rows r) (field_at rows r 1) (natural_at rows r 1) (natural_at rows r 2) (natural_at rows r 3)
      (λ q. refl) (λ q. refl) (λ q. refl) (λ q. refl) (λ q. refl) (λ q. refl) (λ q. refl) (λ q. refl) (λ q. refl)
      (λ q. refl) (λ q. absurd (n q)) (λ q. refl) (λ q. refl) (λ q. refl) (λ q. refl) (λ q. refl) (λ q. refl) (λ q. refl) (λ q. refl) refl)

  -- the tests by sets are the clashes of the comparisons
  pub par-tests : (r : ℕ) → limit_fault rows ≡ none → r < row_count rows → kind_at rows r ≡ 31 → {a : ℕ} {ps ws : List ℕ} → a ≡ operand_at rows r 1 → SetsFrom rows ws 0 → ps ≡ process_rows (content_at rows a).listed
      → tests_of (meet_by ws number) ps ≡ map clashes (comparisons_in number (content_at rows r).process)
  par-tests r limits h e {a} {ws} p g f =
      ap (tests_of (meet_by ws number)) f
      ∙ tests-are rows ws ((limit-none rows).0 limits) number r (content_at rows a).listed
      (all_have rows ws (content_at rows a).listed (listed-stand rows a) (λ c m. g.components r c (omega arith) h e (subst (λ (b : ℕ). Memᴰ c (process_rows (content_at rows b).listed)) p m)))
      ∙ ap (map clashes) (sym (par-pairs r h e p))

  row-verdict : (r before : ℕ) → r < row_count rows → verdict_on before (comparisons_in number (content_at rows r).process) ≡ of_search number r (searched before (map clashes (comparisons_in number (content_at rows r).process)))
  row-verdict r before h = go (ℕ_discrete (kind_at rows r) 31)
    where
      of : (l : List Pair) → comparisons_in number (content_at rows r).process ≡ map (comparison number r) l
          → verdict_on before (comparisons_in number (content_at rows r).process) ≡ of_search number r (searched before (map clashes (comparisons_in number (content_at rows r).process)))
      of l e = rw e (par-verdict number r before l)

      go : Dec (kind_at rows r ≡ 31) → verdict_on before (comparisons_in number (content_at rows r).process) ≡ of_search number r (searched before (map clashes (comparisons_in number (content_at rows r).process)))
      go (yes e) = of (pairs (content_at rows (operand_at rows r 1)).listed) (par-pairs r h e refl)
      go (no n) = of [] (no_pairs r h n)

  -- the comparisons of the rows from row r on
  abbrev pub from_row : ℕ → List Comparison
  from_row r = comparisons_of number (drop r (contents rows))

  row_count_lem : length (contents rows) ≡ row_count rows
  unfolding contents
  row_count_lem = last_rows-length no_content (λ r at. content_of rows r at (node_at rows r)) (row_count rows) (row_count rows)

  next_row : (r : ℕ) → r < row_count rows → from_row r ≡ comparisons_in number (content_at rows r).process ++ from_row (r + 1)
  unfolding content_at contents at_row
  next_row r h = rw (add-one r, drop-cons (contents rows) r no_content (omega (arith, row_count_lem)))

  module _ (r before : ℕ) {s : Result ℕ ClashFound} (h : r < row_count rows) (e : s ≡ searched before (map clashes (comparisons_in number (content_at rows r).process))) where
    row_on : verdict_on before (from_row r) ≡ and_on (of_search number r s).verdict (of_search number r s).pairs (from_row (r + 1))
    row_on =
        ap (verdict_on before) (next_row r h)
        ∙ verdict-append before (comparisons_in number (content_at rows r).process) (from_row (r + 1))
        ∙ ap (λ (c : Checked). and_on c.verdict c.pairs (from_row (r + 1))) (row-verdict r before h ∙ ap (of_search number r) (sym e))

    pub row-clashes : {c : ClashFound} → s ≡ Err c → verdict_on before (from_row r) ≡ checked (some (number, r)) c.pairs
    row-clashes t = row_on ∙ rw t

    pub row-passes : {n : ℕ} → s ≡ Ok n → verdict_on before (from_row r) ≡ verdict_on n (from_row (r + 1))
    row-passes t = row_on ∙ rw t

  pub rows_end : (r before : ℕ) → row_count rows ≤ r → verdict_on before (from_row r) ≡ checked none before
  unfolding first_clash compared
  rows_end r before h =
      let p : before + 0 ≡ before = omega arith in
      let l : length (contents rows) ≤ r = omega (arith, row_count_lem) in
      rw (drop_of_length-le (contents rows) l, p)

  -- of a table without a PAR
  none_of : ((r : ℕ) → r < row_count rows → kind_at rows r ≡ 31 → ⊥) → comparisons_of number (contents rows) ≡ []
  unfolding content_at contents at_row
  none_of f = none_in (contents rows) (λ j h. no_pairs j (omega (arith, row_count_lem)) (f j (omega (arith, row_count_lem))))
    where
      none_in : (l : List Content) → ((j : ℕ) → j < length l → comparisons_in number (get_or l j no_content).process ≡ []) → comparisons_of number l ≡ []
      none_in [] g = refl
      none_in (p ∷ l) g = ap₂ (λ (k m : List Comparison). k ++ m) (g 0 (omega arith)) (none_in l (λ j h. g (suc j) (omega arith)))

-- One number after another ----------------------------------------------------------------------------------------------------

module _ (rows : List ℤ) where
  abbrev of : ℕ → List Comparison
  of number = comparisons_of number (contents rows)

  in_order : checked (usage_fault rows) (pairs_compared rows) ≡ verdict_on 0 (of 7 ++ (of 8 ++ of 9))
  unfolding usage_fault pairs_compared comparisons
  in_order = ap (checked (refusal_of (first_clash (of 7 ++ (of 8 ++ of 9))))) (sym (zero-add (compared (of 7 ++ (of 8 ++ of 9)))))

  module _ {a : Checked} (e : a ≡ verdict_on 0 (of 7)) where
    pub ends-at-7 : {number r : ℕ} → a.verdict ≡ Rejected number r → a ≡ checked (usage_fault rows) (pairs_compared rows)
    ends-at-7 i = sym (in_order ∙ ends 0 (of 7) (of 8 ++ of 9) e i)

    module _ (i : a.verdict ≡ Accepted) {b : Checked} (f : b ≡ verdict_on a.pairs (of 8)) where
      pub ends-at-8 : {number r : ℕ} → b.verdict ≡ Rejected number r → b ≡ checked (usage_fault rows) (pairs_compared rows)
      ends-at-8 j = sym (in_order ∙ goes_on 0 (of 7) (of 8 ++ of 9) e i ∙ ends a.pairs (of 8) (of 9) f j)

      pub ends-at-9 : b.verdict ≡ Accepted → {c : Checked} → c ≡ verdict_on b.pairs (of 9) → c ≡ checked (usage_fault rows) (pairs_compared rows)
      ends-at-9 j g = sym (in_order ∙ goes_on 0 (of 7) (of 8 ++ of 9) e i ∙ goes_on a.pairs (of 8) (of 9) f j ∙ sym g)

-- without a PAR nothing is compared
pub no-clash : (rows : List ℤ) → ((r : ℕ) → r < row_count rows → kind_at rows r ≡ 31 → ⊥) → checked none 0 ≡ checked (usage_fault rows) (pairs_compared rows)
unfolding usage_fault pairs_compared comparisons first_clash compared
no-clash rows f = rw (none_of rows 7 f, none_of rows 8 f, none_of rows 9 f)
