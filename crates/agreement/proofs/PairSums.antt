-- The count of an accepted table in closed form: all pairs of each PAR, three times.
use mathlib.Core.Path.{◌≡◌, refl, sym, ap, ◌∙◌, subst}
use mathlib.Core.Logic.{◌↔◌}
use mathlib.Core.List.{List, ◌++◌, map}
use mathlib.Core.Option.{none, none-ne-some}
use Prim.Native.Nat.{ℕ, zero, suc, ◌+◌, ◌-◌, ◌*◌, ◌<◌}
use native.Mathlib.Nat.{suc-mul, mul-suc}
use native.Mathlib.Decide.{dec_lt}
use native.Mathlib.Omega.{arith}
use lib.IntN.{ℤ}
use lib.ListN.{length, length-map, length-append}
use Rattle.meaning.specs.declared.Node.{Node}
use Rattle.meaning.specs.declared.Node.TheVariants.{Par}
use Rattle.meaning.specs.Rows.{row_count}
use Rattle.meaning.specs.Declarations.{sum_below}
use Rattle.meaning.specs.Nodes.{node_at}
use Rattle.meaning.specs.Tree.{Process, Processes, empty, also, Content, content_of, content_at, contents}
use Rattle.meaning.specs.Usage.{pairs_with, pairs, Comparison, comparisons_in, comparisons_of, comparisons, pairs_compared, usage_fault}
use Rattle.meaning.specs.MemberPairs.{ComponentAt}
use Rattle.agreement.specs.VerdictClaims.{Passed}
use Rattle.agreement.proofs.UsageReferences.{passed-fits}
use Rattle.agreement.proofs.UsageParts.{part-is}
use Rattle.agreement.proofs.UsageFirst.{Looks, a-par, no-par, looks, par_of}
use Rattle.agreement.proofs.EachRow.{each_row}
use Rattle.agreement.proofs.PairMembers.{size_of, component-par, at_place, below-size, place-there}
use Rattle.agreement.proofs.PairsInOrder.{comparing}
use Rattle.agreement.proofs.PairsCounted.{compared-all}

-- s (s - 1) and s more are s times s
square : (s : ℕ) → s * (s - 1) + s ≡ s * s
square zero = refl
square (suc k) = let one_less : suc k - 1 ≡ k = omega arith in omega (arith, mul-suc (suc k) k, ap (λ (n : ℕ). suc k * n) one_less)

with-length : (p : Process) (ms : Processes) → length (pairs_with p ms) ≡ size_of ms
with-length p empty = refl
with-length p (also q ms) = ap suc (with-length p ms)

-- twice the pairs of s components are s (s - 1)
pairs-length : (ms : Processes) → 2 * length (pairs ms) ≡ size_of ms * (size_of ms - 1)
pairs-length empty = refl
pairs-length (also p ms) =
    let one_less : suc (size_of ms) - 1 ≡ size_of ms = omega arith in
    omega (arith, length-append (pairs_with p ms) (pairs ms), with-length p ms, pairs-length ms, square (size_of ms), suc-mul (size_of ms) (size_of ms), ap (λ (n : ℕ). suc (size_of ms) * n) one_less)

-- a number by what is below it
same-below : (a b : ℕ) → ((i : ℕ) → (i < a) ↔ (i < b)) → a ≡ b
same-below a b f = go (dec_lt a b) (dec_lt b a)
  where
    go : Dec (a < b) → Dec (b < a) → a ≡ b
    go (yes h) d = let l = (f a).1 h in absurd (omega arith)
    go (no h) (yes g) = let l = (f b).0 g in absurd (omega arith)
    go (no h) (no g) = omega arith

module _ (rows : List ℤ) (passed : Passed rows) (m : ℕ → ℕ) (counts : (r i : ℕ) → (i < m r) ↔ ((p : ℕ) × ComponentAt rows r i p)) (number : ℕ) where
  abbrev twice : ℕ → ℕ
  twice r = m r * (m r - 1)

  -- of the PAR at row r
  par-length : (r a : ℕ) → r < row_count rows → node_at rows r ≡ Par a → 2 * length (map (comparing rows number r) (pairs (content_at rows a).listed)) ≡ twice r
  par-length r a l e =
      ap (λ (n : ℕ). 2 * n) (length-map (pairs (content_at rows a).listed) (comparing rows number r))
      ∙ pairs-length (content_at rows a).listed
      ∙ ap (λ (n : ℕ). n * (n - 1)) (same-below (size_of (content_at rows a).listed) (m r) (λ i. (
        (λ h. let (x, g) = place-there (content_at rows a).listed i h in let (p, c, d) = at_place rows passed r a l e g in (counts r i).1 (p, c)),
        (λ h. below-size rows passed r a l e ((counts r i).0 h).1),
      )))

  row-length : (r : ℕ) → r < row_count rows → 2 * length (comparisons_in number (content_at rows r).process) ≡ twice r
  unfolding par_of
  row-length r l = subst (λ (x : Content). 2 * length (comparisons_in number x.process) ≡ twice r) (sym (part-is rows r l (passed-fits rows passed r l))) (go (node_at rows r) refl (looks rows number r (node_at rows r)))
    where
      go : (x : Node) → node_at rows r ≡ x → Looks rows number r x → 2 * length (comparisons_in number (content_of rows r (content_at rows) x).process) ≡ twice r
      go x e (a-par a f) = subst (λ (y : Node). 2 * length (comparisons_in number (content_of rows r (content_at rows) y).process) ≡ twice r) (sym f) (par-length r a l (e ∙ f))
      go x e (no-par f g) =
          ap (λ (c : List Comparison). 2 * length c) g ∙ ap (λ (n : ℕ). n * (n - 1)) (sym none)
        where
          none : m r ≡ 0
          none = by (dec_lt 0 (m r))
            where
              by : Dec (0 < m r) → m r ≡ 0
              by (yes h) = let (a, u, v) = component-par rows ((counts r 0).0 h).1 in absurd (none-ne-some a (sym f ∙ ap par_of (sym e ∙ u)))
              by (no h) = omega arith

  number-length : 2 * length (comparisons_of number (contents rows)) ≡ sum_below twice (row_count rows)
  unfolding sum_below
  number-length =
      let all = each_row rows (λ j l. 2 * length (comparisons_of number l) + sum_below twice j ≡ sum_below twice (row_count rows)) (omega arith)
      (λ j l h e. omega (arith, e, length-append (comparisons_in number (content_at rows j).process) (comparisons_of number l), row-length j h)) in
      omega arith

module _ (rows : List ℤ) (passed : Passed rows) (m : ℕ → ℕ) (counts : (r i : ℕ) → (i < m r) ↔ ((p : ℕ) × ComponentAt rows r i p)) where
  pub all-length : usage_fault rows ≡ none → 2 * pairs_compared rows ≡ 3 * sum_below (λ r. m r * (m r - 1)) (row_count rows)
  unfolding usage_fault pairs_compared comparisons
  all-length e =
      let l = contents rows in
      omega (arith, compared-all rows passed (comparisons rows) e, length-append (comparisons_of 7 l) (comparisons_of 8 l ++ comparisons_of 9 l), length-append (comparisons_of 8 l) (comparisons_of 9 l), number-length rows passed m counts 7, number-length rows passed m counts 8, number-length rows passed m counts 9)
