-- For each line of a text: the rows of the form beneath it, of the form after it at its level, and of the members after it.
use Rattle.std.specs.Prelude.{◌≡◌, Bool, List, [], ◌∷◌, ℕ, suc, ◌+◌, ◌%◌, ◌≤◌, ◌<◌, eqb, length, get_or, set, drop}
use Rattle.std.proofs.lemmas.List.Edits.{sets}
use Rattle.grammar.specs.Outline.{starts_block}
use Rattle.grammar.specs.Classes.{variable-line}
use Rattle.grammar.specs.TextRows.{text_lines}
use Rattle.read_classes.specs.ClassNumbers.{number_of}
use Rattle.read_counts.specs.OwnRows.{own_rows}
use Rattle.read_layout.specs.Standing.{Standing, standing, standings, open_rows, rest_rows}

-- the level of a line, and the rows that it makes itself
abbrev pub level_of : Standing → ℕ
level_of (standing e l x) = l

abbrev pub own_of : Standing → ℕ
own_of (standing e l x) = own_rows e x

-- the rows of the form beneath a line and after it, the lines after it being these
abbrev pub beneath_of : Standing → List Standing → ℕ
beneath_of y ys = open_rows ys (suc (level_of y))

abbrev pub after_of : Standing → List Standing → ℕ
after_of y ys = open_rows ys (level_of y)

-- of each line
unfoldable pub beneaths : List Standing → List ℕ
beneaths [] = []
beneaths (y ∷ ys) = beneath_of y ys ∷ beneaths ys

unfoldable pub afters : List Standing → List ℕ
afters [] = []
afters (y ∷ ys) = after_of y ys ∷ afters ys

unfoldable pub rests : List Standing → List ℕ
rests [] = []
rests (y ∷ ys) = rest_rows (y ∷ ys) ∷ rests ys

-- the lines of a text where they stand
abbrev pub text_standings : List ℕ → List Standing
text_standings text = standings (text_lines text)

-- numbers by line over the first places of a lent list
abbrev pub by_line : List ℕ → List ℕ → List ℕ
by_line lent xs = sets lent 0 xs

-- what lines leave open at each level, with a line more before them
abbrev pub opened : List ℕ → ℕ → ℕ → List ℕ
opened xs l own = set (set xs l (own + get_or xs (l + 1) 0 + get_or xs l 0)) (l + 1) 0

-- What is known of lines ------------------------------------------------------------------------------------------------------------

-- whether a line is a block's declaration
abbrev pub starts_of : Standing → Bool
starts_of (standing e l x) = starts_block x

-- line j of some lines, with the lines after it: its numbers as they are held, and what its levels and rows are
pub record LineMeasured (kinds levels owns : List ℕ) (j : ℕ) (y : Standing) (ys : List Standing) : Type 0 where
  pub room : j < length kinds
  pub class : eqb (get_or kinds j 0 % 16) (number_of variable-line) ≡ starts_of y
  pub level : get_or levels j 0 ≡ level_of y
  pub own : get_or owns j 0 ≡ own_of y
  pub shallow : level_of y < 1024
  pub whole : own_of y + beneath_of y ys + after_of y ys ≤ 1024
  pub deeper : (i : ℕ) → suc (level_of y) < i → open_rows ys i ≡ 0

-- the same of all lines
pub record Measured (kinds : List ℕ) (count : ℕ) (levels owns : List ℕ) (ys : List Standing) : Type 0 where
  pub counted : count ≡ length ys
  pub few : count ≤ 1024
  pub long : count ≤ length levels
  pub line : (j : ℕ) (y : Standing) (zs : List Standing) → drop j ys ≡ y ∷ zs → LineMeasured kinds levels owns j y zs

-- some lines are so measured
abbrev pub SomeMeasured : List ℕ → ℕ → List ℕ → List ℕ → Type 0
SomeMeasured kinds count levels owns = (ys : List Standing) × Measured kinds count levels owns ys

-- numbers by line, before and after the rows are summed: those of any lines that are so measured
pub record Summed (kinds : List ℕ) (count : ℕ) (levels owns : List ℕ) (beneath₀ after₀ rest₀ beneath after rest : List ℕ) : Type 0 where
  pub beneath-summed : (ys : List Standing) → Measured kinds count levels owns ys → beneath ≡ by_line beneath₀ (beneaths ys)
  pub after-summed : (ys : List Standing) → Measured kinds count levels owns ys → after ≡ by_line after₀ (afters ys)
  pub rest-summed : (ys : List Standing) → Measured kinds count levels owns ys → rest ≡ by_line rest₀ (rests ys)
