-- The search for the first clash: pairs of components compared in turn by the sets of their rows, until two clash.
use Rattle.std.specs.Prelude.{◌≡◌, Bool, true, false, ◌||◌, List, [], ◌∷◌, ◌++◌, map, ℕ, suc, ◌+◌, ◌*◌, ◌<◌, ◌≤◌, ℤ, length, get_or, eqb, Result, Ok, Err}
use Rattle.std.proofs.Math.Option.{none}
use Rattle.meaning.specs.declared.Checked.{Checked}
use Rattle.meaning.specs.Basics.{if_else}
use Rattle.meaning.specs.Rows.{row_count}
use Rattle.meaning.specs.Verdict.{limit_fault}
use Rattle.meaning.specs.Usage.{Comparison, first_clash, compared, refusal_of}
use Rattle.meaning.specs.Answers.{checked}
use Rattle.base_sets.specs.Sets.{in_common}
use Rattle.check_components.specs.RowSets.{SetsFrom}
use Rattle.check_usage.specs.declared.pairs.ClashFound.{ClashFound}

-- do the components at rows p and q clash: 7 a cell changed in the one is used in the other, 8 an element is input from in both, 9 output to in both
unfoldable pub meet_by : List ℕ → ℕ → ℕ → ℕ → Bool
meet_by ws number p q =
    if_else (eqb number 7) (in_common ws (16 * p) ws (16 * q + 4) || in_common ws (16 * q) ws (16 * p + 4))
    (if_else (eqb number 8) (in_common ws (16 * p + 8) ws (16 * q + 8)) (in_common ws (16 * p + 12) ws (16 * q + 12)))

-- a test of each pair of rows, by the first, then the second
unfoldable pub tests_of : (ℕ → ℕ → Bool) → List ℕ → List Bool
tests_of test [] = []
tests_of test (p ∷ ps) = map (test p) ps ++ tests_of test ps

-- tests made in turn until one holds: how many are made after those before, or that one holds, with how many are made up to it
unfoldable pub searched : ℕ → List Bool → Result ℕ ClashFound
searched before [] = Ok before
searched before (true ∷ l) = Err (record { pairs = suc before })
searched before (false ∷ l) = searched (suc before) l

-- how many tests are made, either way
abbrev pub pairs_of : Result ℕ ClashFound → ℕ
pairs_of (Ok n) = n
pairs_of (Err c) = c.pairs

-- the verdict on comparisons, and the count of those made after those before
abbrev pub verdict_on : ℕ → List Comparison → Checked
verdict_on before l = checked (refusal_of (first_clash l)) (before + compared l)

-- the sets of these rows are there
abbrev pub HaveSets : List ℕ → List ℕ → Type 0
HaveSets ps ws = (j : ℕ) → j < length ps → 16 * get_or ps j 0 + 16 ≤ length ws

-- what the search goes by: a table within the limits, with the sets of its rows
pub record SearchFacts (rows : List ℤ) (sets : List ℕ) : Type 0 where
  pub few : row_count rows ≤ 1024
  pub limits : limit_fault rows ≡ none
  pub gathered : SetsFrom rows sets 0
