-- Names that are listed by where they stand in a text: where each begins, and how many bytes it has.
use Rattle.std.specs.Prelude.{List, [], ◌∷◌, ℕ, take, drop}

-- one name
abbrev pub name_at : List ℕ → ℕ → ℕ → List ℕ
name_at text from size = take size (drop from text)

-- the listed names
unfoldable pub names_at : List ℕ → List ℕ → List ℕ → List (List ℕ)
names_at text [] ss = []
names_at text (f ∷ fs) [] = []
names_at text (f ∷ fs) (s ∷ ss) = name_at text f s ∷ names_at text fs ss
