-- References as the code counts them: two stand for more.
use Rattle.std.specs.Prelude.{◌≡◌, ◌&&◌, List, [], ◌∷◌, ℕ, ◌+◌, ◌≤◌, ◌<◌, min, ℤ, length, get_or, set, ltb}
use Rattle.meaning.specs.Basics.{if_else}
use Rattle.meaning.specs.Rows.{row_count}
use Rattle.meaning.specs.Verdict.{targets_below, occurrences}

-- one more at place t, up to two
abbrev pub noted_at : List ℕ → ℕ → List ℕ
noted_at counts t = if_else (ltb t (length counts) && ltb (get_or counts t 0) 2) (set counts t (get_or counts t 0 + 1)) counts

-- one more for each of some rows
unfoldable pub one_more_for : List ℕ → List ℕ → List ℕ
one_more_for counts [] = counts
one_more_for counts (t ∷ ts) = one_more_for (noted_at counts t) ts

-- counts of the references to each row, two standing for more
pub record ReferencesCounted (rows : List ℤ) (counts : List ℕ) : Type 0 where
  pub enough : row_count rows ≤ length counts
  pub right : (t : ℕ) → t < row_count rows → get_or counts t 0 ≡ min 2 (occurrences t (targets_below rows (row_count rows)))
