-- The code's constant table: its entries for the fields and shapes of the definition's table of kinds, and what they mean.
use Rattle.std.specs.Prelude.{◌≡◌, Bool, List, [], ◌∷◌, map, ℕ, ◌+◌, ◌*◌, ◌/◌, ◌%◌, ◌^◌, pos, length, get_or, ltb, eqb}
use Rattle.std.proofs.Math.Option.{Option, none, some}
use Rattle.meaning.specs.Rows.{natural_of}
use Rattle.meaning.specs.Basics.{if_else, all_below}
use Rattle.meaning.specs.Usage.{numbers_from}
use Rattle.meaning.specs.Kinds as K
use Rattle.base_kinds.specs.declared.Shape.{Shape}
use Rattle.meaning.specs.Kinds.{Field, unused, literal_value, within, elements, capacity, operator, variable, channel, reference, link, shape, shape_of}

-- a set of numbers below 64 as a mask: bit k is set
abbrev pub in_mask : ℕ → ℕ → Bool
in_mask mask k = eqb (mask / 2 ^ k % 2) 1

unfoldable pub numbers_in : ℕ → List ℕ
numbers_in mask = all_below (in_mask mask) 64

-- a field by the number of its sort, with its numbers
abbrev pub sorted : ℕ → ℕ → Field
sorted sort m =
    if_else (eqb sort 1) literal_value
    (if_else (eqb sort 2) (within (pos (m % 256)) (pos (m / 256 % 256)))
    (if_else (eqb sort 3) elements
    (if_else (eqb sort 4) capacity
    (if_else (eqb sort 5) variable
    (if_else (eqb sort 6) (channel (numbers_in m))
    (if_else (eqb sort 7) (reference (numbers_in m))
    (if_else (eqb sort 8) (link (numbers_in m))
    (if_else (eqb sort 9) operator
    unused))))))))

-- the field that an entry means: its sort is in the last four bits
unfoldable pub field_meant : ℕ → Field
field_meant entry = sorted (entry % 16) (entry / 16)

-- the shape that three entries mean; those of no kind begin with sort 10
unfoldable pub meant_shape : ℕ → Shape → Option K.Shape
meant_shape k s = if_else (eqb s.a 10) none (some (shape k (field_meant s.a) (field_meant s.b) (field_meant s.c)))

-- the entries of a kind in a table
abbrev pub entries_of : List (List ℕ) → ℕ → Shape
entries_of table k = let line = get_or table k [] in record { a = get_or line 0 0; b = get_or line 1 0; c = get_or line 2 0 }

abbrev pub no_entries : Shape
no_entries = record { a = 10; b = 10; c = 10 }

unfoldable pub table_shape : List (List ℕ) → ℕ → Shape
table_shape table k = if_else (ltb k (length table)) (entries_of table k) no_entries

-- a table means the definition's table: of every kind the same shape, and of no other
unfoldable pub KindTable : List (List ℕ) → Type 0
KindTable table = (k : ℕ) → meant_shape k (table_shape table k) ≡ shape_of k

-- the mask of some different numbers below 64
unfoldable pub mask_of : List ℕ → ℕ
mask_of [] = 0
mask_of (k ∷ ks) = 2 ^ k + mask_of ks

-- the entry of a field: its sort, and 16 times its numbers
abbrev pub field_entry : Field → ℕ
field_entry unused = 0
field_entry literal_value = 1
field_entry (within lo hi) = 2 + 16 * (natural_of lo + 256 * natural_of hi)
field_entry elements = 3
field_entry capacity = 4
field_entry variable = 5
field_entry (channel roles) = 6 + 16 * mask_of roles
field_entry (reference kinds) = 7 + 16 * mask_of kinds
field_entry (link kinds) = 8 + 16 * mask_of kinds
field_entry operator = 9

-- the line of a kind
abbrev pub kind_line : Option K.Shape → List ℕ
kind_line none = 10 ∷ 10 ∷ 10 ∷ []
kind_line (some s) = field_entry s.a ∷ field_entry s.b ∷ field_entry s.c ∷ []

-- the table of the kinds 0 to 43, the last there is
unfoldable pub table_of_kinds : List (List ℕ)
table_of_kinds = map (λ k. kind_line (shape_of k)) (numbers_from 0 44)
