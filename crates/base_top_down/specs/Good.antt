-- A form whose rows are all right as far as the stages 4 and 5 say, by the declarations of a table; and that its rows after these are right.
use Rattle.std.specs.Prelude.{◌≡◌, ◌⊎◌, ℕ, ◌<◌, ℤ, pos, ◌≤ℤ◌}
use mathlib.Core.List.{List, [], ◌∷◌, Memᴰ}
use Rattle.std.proofs.Math.Option.{none, some}
use Rattle.meaning.specs.Kinds.{Field, unused, literal_value, within, elements, capacity, operator, variable, channel, reference, link, Shape, shape_of, processes}
use Rattle.meaning.specs.Declarations.{declarations}
use Rattle.meaning.specs.Verdict.{form_fault, tree_fault}
use Rattle.meaning.specs.Faults.{MayHold, WellFormed}
use Rattle.base_top_down.specs.Forms.{Form, absent, number, row, table_of}

-- a row of one of the kinds
abbrev pub Child : List ℕ → Form → Type 0
Child kinds absent = ⊥
Child kinds (number z) = ⊥
Child kinds (row k a b c) = Memᴰ k kinds

module _ (rows : List ℤ) where
  abbrev pub FieldHeld : Field → Form → Type 0
  FieldHeld f x = (z : ℤ) × (x ≡ number z) × MayHold rows 0 f z

  -- what a field holds is right, beside what field b of its row holds: operator 2 stands before an element
  unfoldable pub Suited : Field → Form → Form → Type 0
  Suited unused b x = FieldHeld unused x
  Suited literal_value b x = FieldHeld literal_value x
  Suited (within lo hi) b x = FieldHeld (within lo hi) x
  Suited elements b x = ⊥
  Suited capacity b x = ⊥
  Suited operator b x = (z : ℤ) × (x ≡ number z) × ((pos 0 ≤ℤ z) × (z ≤ℤ pos 2)) × (z ≡ pos 2 → Child (11 ∷ []) b)
  Suited variable b x = FieldHeld variable x
  Suited (channel roles) b x = FieldHeld (channel roles) x
  Suited (reference kinds) b x = Child kinds x
  Suited (link kinds) b x = (x ≡ absent) ⊎ Child kinds x

  unfoldable pub Good : Form → Type 0
  Good absent = Unit {0}
  Good (number z) = Unit {0}
  Good (row k a b c) =
      ((¬ (k ≡ 1)) × (¬ (k ≡ 2)))
      × ((s : Shape) × (shape_of k ≡ some s) × ((Suited s.a b a × Suited s.b b b) × Suited s.c b c))
      × ((Good a × Good b) × Good c)

-- declarations that are right, and after them a good form that is a process: the stages 4 and 5 find nothing. (Rows read from a text, request 02, and expanded rows, request 06, are such.)
unfoldable pub FlattenRight : Type 0
FlattenRight =
    (rows : List ℤ) (k : ℕ) (a b c : Form)
    → ((r : ℕ) → r < declarations rows → WellFormed rows r)
    → Good rows (row k a b c)
    → Memᴰ k processes
    → (form_fault (table_of rows (row k a b c)) ≡ none) × (tree_fault (table_of rows (row k a b c)) ≡ none)
