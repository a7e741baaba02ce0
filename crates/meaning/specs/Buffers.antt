-- What a run leaves, and how it stands in the seven lent buffers.
use Rattle.std.specs.Prelude.{Bool, ◌||◌, List, [], ◌∷◌, ◌++◌, map, ℕ, ℤ, pos, length, take, drop, replicate, ltb, eqb}
use Rattle.std.proofs.Math.Option.{none, some, get_or}
use Rattle.meaning.specs.Limits.{max_rows, max_cells, max_host_channels, max_capacity}
use Rattle.meaning.specs.Basics.{if_else, is_some}
use Rattle.meaning.specs.Declarations.{capacity_at}
use Rattle.meaning.specs.State.{State}
use Rattle.meaning.specs.Declarations.{channels}
use Rattle.meaning.specs.Values.{Message}

-- the seven lent buffers; the last holds "a set mark beside each value" of the host outputs
pub record Buffers : Type 0 where
  pub cells : List ℤ
  pub marks : List ℕ
  pub states : List ℕ
  pub places : List ℕ
  pub numbers : List ℤ
  pub counts : List ℕ
  pub output_marks : List ℕ

-- "Each lent buffer must be as long as its limit above"
abbrev pub too_short : Buffers → Bool
too_short b =
    ltb (length b.cells) max_cells
    || ltb (length b.marks) max_cells
    || ltb (length b.states) max_rows
    || ltb (length b.places) max_host_channels
    || ltb (length b.numbers) max_capacity
    || ltb (length b.counts) max_host_channels
    || ltb (length b.output_marks) max_capacity

module _ {A : Type 0} where
  -- a list at a length, cut or filled up
  unfoldable pub sized : ℕ → A → List A → List A
  sized n d xs = take n (xs ++ replicate n d)

  -- a list in a lent buffer: "unused places hold 0", "what is past the limit is untouched"
  unfoldable pub lent : ℕ → A → List A → List A → List A
  lent limit d xs old = sized limit d xs ++ drop limit old

-- "A set mark, or mark of absence, tells whether its cell is set": 1 for a cell that is set, 0 for one that is not
abbrev pub mark : Message → ℕ
mark c = if_else (is_some c) 1 0

-- an unset cell holds 0; "an absence has mark 0 and value 0"
abbrev pub number_in : Message → ℤ
number_in c = get_or c (pos 0)

-- a cell by its stored number and its mark: none where the mark is 0, whatever is stored
abbrev pub cell_of : ℤ → ℕ → Message
cell_of x m = if_else (eqb m 0) none (some x)

-- the cells that numbers and set marks stand for
abbrev pub decoded : List ℤ → List ℕ → List Message
decoded [] ms = []
decoded (x ∷ xs) [] = []
decoded (x ∷ xs) (m ∷ ms) = cell_of x m ∷ decoded xs ms

-- the capacities of the output channels, in row order
abbrev pub capacities : List ℤ → List ℕ
capacities rows = map (capacity_at rows) (channels rows 2)

-- "A strip follows the one before it by capacity": the lists, each filled up to its capacity
unfoldable pub strips : List ℕ → List (List Message) → List Message
strips [] xss = []
strips (n ∷ ns) [] = []
strips (n ∷ ns) (xs ∷ xss) = sized n none xs ++ strips ns xss

-- what a run leaves in the lent buffers
unfoldable pub encode : List ℤ → State → Buffers → Buffers
encode rows s b =
    record {
      cells = lent max_cells (pos 0) (map number_in s.store.cells) b.cells;
      marks = lent max_cells 0 (map mark s.store.cells) b.marks;
      states = lent max_rows 0 s.states b.states;
      places = lent max_host_channels 0 s.store.places b.places;
      numbers = lent max_capacity (pos 0) (map number_in (strips (capacities rows) s.store.outputs)) b.numbers;
      counts = lent max_host_channels 0 (map length s.store.outputs) b.counts;
      output_marks = lent max_capacity 0 (map mark (strips (capacities rows) s.store.outputs)) b.output_marks;
    }
