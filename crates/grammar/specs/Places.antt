-- A text as lines of any sort, given which of them are which line of the grammar: the reader that takes a line at a time, and what is claimed of it.
use Rattle.std.specs.Prelude.{◌≡◌, true, ◌≢◌, ◌↔◌, List, [], ◌∷◌, ◌++◌, ℕ, suc, length}
use Rattle.std.proofs.Math.Option.{Option, none, some}
use Rattle.meaning.specs.Basics.{if_else}
use Rattle.grammar.specs.Outline.{skip, Lined, lined, Trees, Levels, accept_line, levels_ended, outset}
use Rattle.grammar.specs.OutlineClaims.{Text}

module _ {B : Type 0} (Is : B → Lined → Type 0) (line_of : B → Option Lined) where
  -- each line is of the grammar
  pub data Spelt : List B → List Lined → Type 0 where
    done : Spelt [] []
    next : {b : B} {y : Lined} {bs : List B} {ls : List Lined} → Is b y → Spelt bs ls → Spelt (b ∷ bs) (y ∷ ls)

  -- the lines are the declarations and the process
  abbrev pub Document : List B → Trees → Type 0
  Document bs ps = (ls : List Lined) × Spelt bs ls × Text ls ps

  unfoldable pub take_line : Option Levels → Option Lined → Option Levels
  take_line o none = none
  take_line o (some y) = accept_line o y

  unfoldable pub read_all : Option Levels → List B → Option Levels
  read_all o [] = o
  read_all o (b ∷ bs) = read_all (take_line o (line_of b)) bs

  abbrev pub ReadExactly : Type 0
  ReadExactly = (bs : List B) → levels_ended (read_all outset bs) ≡ true ↔ ((ps : Trees) × Document bs ps)

  abbrev pub ReadUnique : Type 0
  ReadUnique = (bs : List B) (ps qs : Trees) → Document bs ps → Document bs qs → ps ≡ qs

  abbrev pub Mendable : List B → Type 0
  Mendable bs = (cs : List B) × ((ps : Trees) × Document (bs ++ cs) ps)

  -- the reader fails at the first line that no lines after it could mend
  abbrev pub PlaceExact : Type 0
  PlaceExact = (bs : List B) → (read_all outset bs ≡ none → ¬ Mendable bs) × (read_all outset bs ≢ none → Mendable bs)

  -- the lines cannot be read, and where: at a line that no lines after it could mend, while those before it could be mended; or after the last line, if they only begin a document
  pub data Fault : List B → ℕ → Type 0 where
    inside : (cs : List B) (b : B) (ds : List B) → Mendable cs → ¬ Mendable (cs ++ (b ∷ [])) → Fault (cs ++ (b ∷ ds)) (suc (length cs))
    missing : {bs : List B} → Mendable bs → ((ps : Trees) → ¬ Document bs ps) → Fault bs (suc (length bs))

  unfoldable pub or_rest : Option Levels → ℕ → Option ℕ → Option ℕ
  or_rest none n rest = some n
  or_rest (some k) n rest = rest

  unfoldable pub place_from : Option Levels → ℕ → List B → Option ℕ
  place_from o n [] = if_else (levels_ended o) none (some n)
  place_from o n (b ∷ bs) = let rest = place_from (take_line o (line_of b)) (suc n) bs in or_rest (take_line o (line_of b)) n rest

  -- the number of the line at which the text is refused, if it is
  unfoldable pub fault_line : List B → Option ℕ
  fault_line bs = place_from outset 1 bs

  abbrev pub FaultExact : Type 0
  FaultExact = (bs : List B) → (fault_line bs ≡ none ↔ ((ps : Trees) × Document bs ps)) × ((n : ℕ) → (fault_line bs ≡ some n) ↔ Fault bs n)

  -- what is asked of the lines: the function decides the relation, and SKIP can be written at every level
  pub record Lines : Type 0 where
    pub exact : (b : B) (y : Lined) → Is b y ↔ (line_of b ≡ some y)
    pub skips : (l : ℕ) → (b : B) × Is b (lined l skip)
