-- Declarations: how many there are, the cells of a variable, the elements, role and capacity of a channel, and their numbers in row order.
use Rattle.std.specs.Prelude.{Bool, false, ◌&&◌, ◌||◌, List, ℕ, zero, suc, ◌+◌, ℤ, ltb, eqb}
use Rattle.meaning.specs.Rows.{natural_at, kind_at, row_count}
use Rattle.meaning.specs.Basics.{if_else, all_below}

-- is row r of kind 1 or 2
abbrev pub declares : List ℤ → ℕ → Bool
declares rows r = eqb (kind_at rows r) 1 || eqb (kind_at rows r) 2

-- of at most k rows from r on, the first that is no declaration
unfoldable pub leading : List ℤ → ℕ → ℕ → ℕ
leading rows zero r = r
leading rows (suc k) r = let later = leading rows k (suc r) in if_else (declares rows r) later r

-- "Kinds 1 and 2 come first, and only such rows are declarations": how many there are
unfoldable pub declarations : List ℤ → ℕ
declarations rows = leading rows (row_count rows) 0

-- "The root is the first row after the declarations"
unfoldable pub root : List ℤ → ℕ
root rows = declarations rows

-- the cells of a variable: the first, and how many
pub record Variable : Type 0 where
  pub first : ℕ
  pub size : ℕ

-- the elements of a channel as an input or output names it: the first, and how many; is it the host's, and then its number among the channels of its role, and its capacity
pub record Channel : Type 0 where
  pub first : ℕ
  pub size : ℕ
  pub host : Bool
  pub number : ℕ
  pub capacity : ℕ

-- a name that is no declaration of the sort named has no cell and no element
abbrev pub no_variable : Variable
no_variable = record { first = 0; size = 0 }

abbrev pub no_channel : Channel
no_channel = record { first = 0; size = 0; host = false; number = 0; capacity = 0 }

-- the sum of f over the rows below r
unfoldable pub sum_below : (ℕ → ℕ) → ℕ → ℕ
sum_below f zero = 0
sum_below f (suc r) = sum_below f r + f r

abbrev pub is_variable : List ℤ → ℕ → Bool
is_variable rows r = ltb r (declarations rows) && eqb (kind_at rows r) 1

abbrev pub is_channel : List ℤ → ℕ → Bool
is_channel rows r = ltb r (declarations rows) && eqb (kind_at rows r) 2

-- role 0 inner, 1 from the host, 2 to the host
abbrev pub has_role : ℕ → List ℤ → ℕ → Bool
has_role role rows r = is_channel rows r && eqb (natural_at rows r 2) role

-- the cells, elements, channels of a role, and capacity that row r declares
unfoldable pub cells_at : List ℤ → ℕ → ℕ
cells_at rows r = if_else (is_variable rows r) (natural_at rows r 1) 0

unfoldable pub elements_at : List ℤ → ℕ → ℕ
elements_at rows r = if_else (is_channel rows r) (natural_at rows r 1) 0

unfoldable pub host_channels_at : ℕ → List ℤ → ℕ → ℕ
host_channels_at role rows r = if_else (has_role role rows r) 1 0

unfoldable pub capacity_at : List ℤ → ℕ → ℕ
capacity_at rows r = if_else (has_role 2 rows r) (natural_at rows r 3) 0

-- the variable that row r declares
unfoldable pub variable_at : List ℤ → ℕ → Variable
variable_at rows r =
    let v : Variable = record { first = sum_below (cells_at rows) r; size = cells_at rows r } in
    if_else (is_variable rows r) v no_variable

-- the channel that row r declares, where one of role 0 or of this host role may be named
unfoldable pub channel_at : ℕ → List ℤ → ℕ → Channel
channel_at role rows r =
    let c : Channel = record {
      first = sum_below (elements_at rows) r;
      size = elements_at rows r;
      host = has_role role rows r;
      number = sum_below (host_channels_at role rows) r;
      capacity = capacity_at rows r;
    } in
    if_else (has_role 0 rows r || has_role role rows r) c no_channel

-- "a channel (role 0 or 1)" of an input
unfoldable pub source_at : List ℤ → ℕ → Channel
source_at = channel_at 1

-- "a channel (role 0 or 2)" of an output
unfoldable pub sink_at : List ℤ → ℕ → Channel
sink_at = channel_at 2

-- all cells, all channel elements, all channels of a role
unfoldable pub total_cells : List ℤ → ℕ
total_cells rows = sum_below (cells_at rows) (declarations rows)

unfoldable pub host_channels : ℕ → List ℤ → ℕ
host_channels role rows = sum_below (host_channels_at role rows) (declarations rows)

-- the variables, in row order
unfoldable pub variables : List ℤ → List ℕ
variables rows = all_below (is_variable rows) (declarations rows)

-- the channels of a role, in row order
unfoldable pub channels : List ℤ → ℕ → List ℕ
channels rows role = all_below (has_role role rows) (declarations rows)
