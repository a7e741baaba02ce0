-- The declarations of lines: their names, their roles and their rows.
use Rattle.std.specs.Prelude.{◌≡◌, ℕ, ◌+◌, ◌*◌, ◌/◌, ◌%◌, ◌≤◌, ◌<◌, ℤ, pos, length, set, take, eqb}
use mathlib.Core.List.{List, [], ◌∷◌, ◌++◌, map, flatten}
use Rattle.std.proofs.Math.Option.{none}
use Rattle.meaning.specs.Basics.{eq_z, if_else}
use Rattle.grammar.specs.Outline.{Declaration, variable, channel, source, sink, Lined, lined}
use Rattle.grammar.specs.Names.{name_of, size_of, declaration_in}
use Rattle.grammar.specs.TextBytes.{grammar_fault}
use Rattle.grammar.specs.TextRows.{declaration_row, if_declared, declarations, text_lines}
use Rattle.read_table.specs.TableRead.{past}
use Rattle.read_tokens.specs.Sorts as sorts
use Rattle.read_classes.specs.Parts.{mark_at, mark_in}
use Rattle.read_levels.specs.Listing.{Listing, TextListed}
use Rattle.read_names.specs.Listed.{names_at}
use Rattle.read_resolved.specs.Resolved.{TextResolved}
use Rattle.read_declared.specs.Firsts.{number_in, name_in, Named}

-- the declarations in the order of the lines
unfoldable pub in_order : List Lined → List Declaration
in_order [] = []
in_order (lined l x ∷ ls) = if_declared (declaration_in x) ++ in_order ls

-- in a text of the grammar those before the process stand first
abbrev pub InOrder : Type 0
InOrder = (text : List ℕ) → grammar_fault text ≡ none → in_order (text_lines text) ≡ declarations (text_lines text)

-- no line has two
abbrev pub NoMoreThanLines : Type 0
NoMoreThanLines = (ls : List Lined) → length (in_order ls) ≤ length ls

-- One line --------------------------------------------------------------------------------------------------------------------------

-- what a declaration's mark tells: INT, CHAN, HOSTIN or HOSTOUT
abbrev pub by_mark : {A : Type 0} → ℕ → A → A → A → A → A
by_mark s i c f t = if_else (eqb s sorts.int) i (if_else (eqb s sorts.chan) c (if_else (eqb s sorts.hostin) f t))

-- the row of the declaration that listed tokens are
abbrev pub row_by : ℕ → ℤ → List ℤ
row_by s z = by_mark s (pos 1 ∷ z ∷ pos 0 ∷ pos 0 ∷ []) (pos 2 ∷ z ∷ pos 0 ∷ pos 0 ∷ []) (pos 2 ∷ pos 1 ∷ pos 1 ∷ pos 0 ∷ []) (pos 2 ∷ pos 1 ∷ pos 2 ∷ z ∷ [])

abbrev pub row_listed : List ℕ → List ℤ → List ℤ
row_listed ss vs = row_by (mark_in ss) (number_in ss vs)

-- 4 for a size other than 1
abbrev pub unless_one : ℤ → ℕ
unless_one z = if_else (eq_z z (pos 1)) 0 4

-- a variable, a channel, one from the host, one to the host
abbrev pub declared_as : Declaration → ℕ
declared_as (variable z n) = 0
declared_as (channel z n) = 1
declared_as (source n) = 2
declared_as (sink z n) = 3

-- the same, with whether there is more than one of it
abbrev pub role_number : Declaration → ℕ
role_number d = unless_one (size_of d) + declared_as d

-- the role of the declaration that listed tokens are
abbrev pub role_by : ℕ → ℤ → ℕ
role_by s z = by_mark s (unless_one z) (unless_one z + 1) 2 3

abbrev pub role_listed : List ℕ → List ℤ → ℕ
role_listed ss vs = role_by (mark_in ss) (number_in ss vs)

-- listed tokens with a mark, and a name that stands in a text
abbrev pub HasMark : List ℕ → List ℤ → Type 0
HasMark ss vs = (length ss ≡ length vs) × (mark_at ss < length ss)

abbrev pub Listable : List ℕ → List ℤ → Type 0
Listable ss vs = HasMark ss vs × Named ss vs × (name_in ss vs / 32 < 65536)

-- such a declaration, listed at a place of three lists
abbrev pub ListedAt : List ℕ → List ℤ → ℕ → List ℕ → List ℕ → List ℕ → List ℕ → List ℕ → List ℕ → Type 0
ListedAt ss vs at froms sizes roles froms' sizes' roles' =
    (froms' ≡ set froms at (name_in ss vs / 32)) × (sizes' ≡ set sizes at (name_in ss vs % 32)) × (roles' ≡ set roles at (role_listed ss vs))

-- A text ----------------------------------------------------------------------------------------------------------------------------

-- the declarations of a text, listed by where each name begins, how many bytes it has, and its role
pub record Declared (text froms sizes roles : List ℕ) : Type 0 where
  pub named : names_at text froms sizes ≡ map name_of (declarations (text_lines text))
  pub roles-held : roles ≡ map role_number (declarations (text_lines text))
  pub froms-counted : length froms ≡ length (declarations (text_lines text))
  pub sizes-counted : length sizes ≡ length (declarations (text_lines text))

-- r declarations, listed at the beginning of lent lists
abbrev pub Gathered : List ℕ → ℕ → List ℕ → List ℕ → List ℕ → Type 0
Gathered text r froms sizes roles = (r ≡ length (declarations (text_lines text))) × Declared text (take r froms) (take r sizes) (take r roles)

-- the same for any text whose lines are so listed
abbrev pub GatheredFrom : ℕ → Listing → ℕ → List ℕ → List ℕ → List ℕ → Type 0
GatheredFrom count g r froms sizes roles = (text : List ℕ) → TextListed text count g → Gathered text r froms sizes roles

-- there is room for the rows of the declarations of a text, and they stand at the beginning of lent rows
abbrev pub RoomForRows : ℕ → Listing → List ℤ → Type 0
RoomForRows count g rows = (text : List ℕ) × TextResolved text count g × (4 * length (declarations (text_lines text)) ≤ length rows)

abbrev pub RowsPut : ℕ → Listing → List ℤ → List ℤ → Type 0
RowsPut count g lent rows = (text : List ℕ) → TextResolved text count g → rows ≡ past (flatten (map declaration_row (declarations (text_lines text)))) lent
