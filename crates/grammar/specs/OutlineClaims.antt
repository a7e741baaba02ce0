-- What is claimed of the reader of lines.
use Rattle.std.specs.Prelude.{◌≡◌, true, List, [], ◌∷◌, ◌++◌, ◌≢◌, ℕ}
use Rattle.std.proofs.Math.Option.{none}
use Rattle.grammar.specs.Outline.{skip, Lined, lined, heads, Trees, Block, accept_all, outset, whole_text, grown}

-- the lines are declarations and one process
abbrev pub Text : List Lined → Trees → Type 0
Text ls ps = Block heads 0 ls ps

-- lines are accepted if they are declarations and one process, then as the trees that are built from them, and no others
abbrev pub LinesComplete : Type 0
LinesComplete = (ls : List Lined) (ps : Trees) → Text ls ps → (whole_text ls ≡ true) × (ps ≡ grown ls 0)

abbrev pub LinesSound : Type 0
LinesSound = (ls : List Lined) → whole_text ls ≡ true → (ps : Trees) × Text ls ps

-- some lines can follow that make a process of them
abbrev pub Mended : List Lined → Type 0
Mended ls = (ms : List Lined) × ((ps : Trees) × Text (ls ++ ms) ps)

-- no line, or one SKIP
pub data AtMostSkip : List Lined → Type 0 where
  no_line : AtMostSkip []
  one-skip : {l : ℕ} → AtMostSkip (lined l skip ∷ [])

-- the reader fails at the first line that no lines after it could mend: before that, nothing or one SKIP mends
abbrev pub LinesLive : Type 0
LinesLive = (ls : List Lined) → (accept_all outset ls ≡ none → ¬ Mended ls)
    × (accept_all outset ls ≢ none → (ms : List Lined) × AtMostSkip ms × ((ps : Trees) × Text (ls ++ ms) ps))
