-- The layout of a table: what each row names, and the variable or channel that a name stands for.
use Rattle.std.specs.Prelude.{◌≡◌, Bool, true, false, List, [], ◌∷◌, ◌++◌, ℕ, zero, suc, ◌<◌, ℤ, get_or, eqb, Some, None}
use Rattle.meaning.specs.Basics.{if_else}
use Rattle.meaning.specs.Rows.{row_count}
use Rattle.meaning.specs.Faults.{WithinLimits}
use Rattle.meaning.specs.Declarations as declared
use Rattle.meaning.specs.Declarations.{declarations, no_variable, no_channel, sum_below, is_variable, has_role, cells_at, elements_at, host_channels_at, capacity_at, variable_at, source_at, sink_at}
use Rattle.base_layout.specs.declared.Sort.{Sort}
use Rattle.base_layout.specs.declared.Sort.TheVariants.{Nothing, Variable, Inner, Source, Sink}
use Rattle.base_layout.specs.declared.Name.{Name}
use Rattle.base_layout.specs.declared.Sums.{Sums}
use Rattle.base_layout.specs.declared.Extent.{Extent}
use Rattle.base_layout.specs.declared.Channel.{Channel}
use Rattle.base_layout.specs.declared.HostChannel.{HostChannel}

-- the cells, elements and host channels that the rows below r declare
unfoldable pub sums_below : List ℤ → ℕ → Sums
sums_below rows r =
    record {
      cells = sum_below (cells_at rows) r;
      elements = sum_below (elements_at rows) r;
      sources = sum_below (host_channels_at 1 rows) r;
      sinks = sum_below (host_channels_at 2 rows) r;
    }

-- row r is one of the declarations of a table within the limits, and s are the sums below it
pub record DeclarationReached (rows : List ℤ) (r : ℕ) (s : Sums) : Type 0 where
  pub declared : r < declarations rows
  pub present : r < row_count rows
  pub limits : WithinLimits rows r
  pub sums : s ≡ sums_below rows r

abbrev pub no_name : Name
no_name = record { sort = Nothing; first = 0; size = 0; number = 0; capacity = 0 }

-- what row r names, if it declares a variable, an inner channel, one from the host, one to the host
module _ (rows : List ℤ) (r : ℕ) where
  abbrev pub variable_name : Name
  variable_name = record { sort = Variable; first = sum_below (cells_at rows) r; size = cells_at rows r; number = 0; capacity = 0 }

  abbrev pub inner_name : Name
  inner_name = record { sort = Inner; first = sum_below (elements_at rows) r; size = elements_at rows r; number = 0; capacity = 0 }

  abbrev pub source_name : Name
  source_name = record { sort = Source; first = sum_below (elements_at rows) r; size = elements_at rows r; number = sum_below (host_channels_at 1 rows) r; capacity = 0 }

  abbrev pub sink_name : Name
  sink_name = record { sort = Sink; first = sum_below (elements_at rows) r; size = elements_at rows r; number = sum_below (host_channels_at 2 rows) r; capacity = capacity_at rows r }

  unfoldable pub name_at : Name
  name_at = if_else (is_variable rows r) variable_name (if_else (has_role 0 rows r) inner_name (if_else (has_role 1 rows r) source_name (if_else (has_role 2 rows r) sink_name no_name)))

-- what each of n rows names
unfoldable pub names_of : List ℤ → ℕ → List Name
names_of rows zero = []
names_of rows (suc n) = names_of rows n ++ name_at rows n ∷ []

-- what row a names; nothing past the list
abbrev pub name_in : List Name → ℕ → Name
name_in names a = get_or names a no_name

-- sorts as numbers, to compare them
abbrev pub sort_number : Sort → ℕ
sort_number Nothing = 0
sort_number Variable = 1
sort_number Inner = 2
sort_number Source = 3
sort_number Sink = 4

abbrev pub same_sort : Sort → Sort → Bool
same_sort s t = eqb (sort_number s) (sort_number t)

-- the variable that a name stands for, if it is that of one
abbrev pub named_variable : Name → declared.Variable
named_variable n =
    let v : declared.Variable = record { first = n.first; size = n.size } in
    if_else (same_sort n.sort Variable) v no_variable

-- the channel: one of the host's sort is the host's, an inner one is not
abbrev pub named_channel : Sort → Name → declared.Channel
named_channel sort n =
    let host : declared.Channel = record { first = n.first; size = n.size; host = true; number = n.number; capacity = n.capacity } in
    let inner : declared.Channel = record { first = n.first; size = n.size; host = false; number = 0; capacity = 0 } in
    if_else (same_sort n.sort sort) host (if_else (same_sort n.sort Inner) inner no_channel)

-- the variable and the channel that row a names
abbrev pub variable_in : List Name → ℕ → declared.Variable
variable_in names a = named_variable (name_in names a)

abbrev pub channel_in : List Name → Sort → ℕ → declared.Channel
channel_in names sort a = named_channel sort (name_in names a)

-- a channel with no host channel number where it is not the host's
abbrev pub host_number : declared.Channel → declared.Channel
host_number c = record { first = c.first; size = c.size; host = c.host; number = if_else c.host c.number 0; capacity = c.capacity }

-- the names stand for what the rows declare
pub record Named (rows : List ℤ) (names : List Name) : Type 0 where
  pub variables : (a : ℕ) → variable_in names a ≡ variable_at rows a
  pub sources : (a : ℕ) → channel_in names Source a ≡ host_number (source_at rows a)
  pub sinks : (a : ℕ) → channel_in names Sink a ≡ host_number (sink_at rows a)

-- as the code has them
abbrev pub extent_of : declared.Variable → Extent
extent_of v = record { first = v.first; size = v.size }

abbrev pub channel_of : declared.Channel → Channel
channel_of c =
    let host : HostChannel = record { number = c.number; capacity = c.capacity } in
    record { first = c.first; size = c.size; host = if_else c.host (Some host) None }
