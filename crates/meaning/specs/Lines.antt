-- Bytes as lines and a line as fields ("Each line ends with a line feed").
use Rattle.std.specs.Prelude.{Bool, true, false, List, [], ◌∷◌, map, ℕ, suc, length, eqb}
use Rattle.std.proofs.Math.Option
use Rattle.std.proofs.Math.Option.{Option, none, some}
use Rattle.meaning.specs.Texts.{line_feed, comma}
use Rattle.meaning.specs.Basics.{if_else, all_some}

-- a byte in front of the first line
abbrev pub onto : ℕ → List (List ℕ) → List (List ℕ)
onto b [] = (b ∷ []) ∷ []
onto b (l ∷ ls) = (b ∷ l) ∷ ls

-- the lines of some bytes, each with its line feed; bytes after the last line feed are one more line, without one
unfoldable pub lines : List ℕ → List (List ℕ)
lines [] = []
lines (b ∷ bs) =
    let rest = lines bs in
    if_else (eqb b line_feed) ((b ∷ []) ∷ rest) (onto b rest)

-- how many bytes the first line has, its line feed included
unfoldable pub line_size : List ℕ → ℕ
line_size [] = 0
line_size (b ∷ bs) = let rest = suc (line_size bs) in if_else (eqb b line_feed) 1 rest

-- a line feed ends a line only if nothing comes after it
abbrev pub ending : List ℕ → Option (List ℕ)
ending [] = some []
ending (c ∷ cs) = none

-- what a line says before its line feed; nothing if it does not end with one
unfoldable pub text : List ℕ → Option (List ℕ)
text [] = none
text (b ∷ bs) = if_else (eqb b line_feed) (ending bs) (Option.map (λ t. b ∷ t) (text bs))

-- the parts of a text between commas: one more than it has commas
unfoldable pub fields : List ℕ → List (List ℕ)
fields [] = [] ∷ []
fields (b ∷ bs) =
    let rest = fields bs in
    if_else (eqb b comma) ([] ∷ rest) (onto b rest)

module _ {A : Type 0} where
  -- a list of k, or nothing
  abbrev pub exactly : ℕ → Option (List A) → Option (List A)
  exactly k none = none
  exactly k (some xs) = if_else (eqb (length xs) k) (some xs) none

  -- what the fields of a text are read as, if each is
  abbrev pub read_fields : (List ℕ → Option A) → Option (List ℕ) → Option (List A)
  read_fields r none = none
  read_fields r (some t) = all_some (map r (fields t))

  -- what a line of k fields is read as, field by field
  unfoldable pub read_line : (List ℕ → Option A) → ℕ → List ℕ → Option (List A)
  read_line r k line = exactly k (read_fields r (text line))

-- bytes are equal one by one
unfoldable pub same : List ℕ → List ℕ → Bool
same [] [] = true
same [] (c ∷ cs) = false
same (b ∷ bs) [] = false
same (b ∷ bs) (c ∷ cs) = let rest = same bs cs in if_else (eqb b c) rest false
