-- The statements about orders are not empty, as types: accepted tables with two orders to rest, with blocks or constant subscripts or neither, and with none; and
-- that two orders come to a common state is not empty for a table that never rests, and is false of a table with ALT.
use Rattle.std.specs.Prelude.{◌≡◌, ◌≢◌, ℕ, ◌≤◌, ◌<◌, ℤ, length}
use Rattle.std.proofs.Math.Option.{none}
use mathlib.Core.List.{List, Memᴰ}
use Rattle.meaning.specs.Rows.{row_count, kind_at}
use Rattle.meaning.specs.State.{State, program}
use Rattle.meaning.specs.Labels.{Label}
use Rattle.meaning.specs.Step.{Step}
use Rattle.meaning.specs.Order.{Order, OrderOf, RestOf}
use Rattle.meaning.specs.Sheet.{sheet_fault, readings}
use Rattle.meaning.specs.Answers.{check}
use Rattle.agreement.specs.Statements.{NoAlt}
use Rattle.agreement.specs.SubscriptClaims.{LiteralClash}
use Rattle.agreement.specs.MissingClaims.{list_at}
use Rattle.agreement.specs.CommonClaims.{EitherBeginning}

-- an order of a table on a sheet, of two steps or more, that comes to rest
pub record LongOrder (rows : List ℤ) (sheet : List ℕ) : Type 0 where
  pub labels : List Label
  pub end : State
  pub long : 2 ≤ length labels
  pub order : OrderOf rows (readings rows sheet) labels end
  pub rest : RestOf rows (readings rows sheet) end

-- an accepted table without ALT and a sheet, as demand 3 asks, with two different orders of length at least 2 that both come to rest
pub record TwoOrders : Type 0 where
  pub rows : List ℤ
  pub sheet : List ℕ
  pub table-accepted : check rows ≡ none
  pub sheet-accepted : sheet_fault rows sheet ≡ none
  pub without-alt : NoAlt rows
  pub one : LongOrder rows sheet
  pub two : LongOrder rows sheet
  pub differ : one.labels ≢ two.labels

-- the same of a table with blocks
abbrev pub TwoOrdersOfBlocks : Type 0
TwoOrdersOfBlocks = (t : TwoOrders) × ((r : ℕ) × (r < row_count t.rows) × (kind_at t.rows r ≡ 35))

-- the same of a table that clashes by document 01's rule of literals, and is accepted by that of constants
abbrev pub TwoOrdersOfConstants : Type 0
TwoOrdersOfConstants = (t : TwoOrders) × ((r : ℕ) × ((k : ℕ) × LiteralClash t.rows r k))

-- an accepted table and sheet with orders of every length, after each of which some step is ready
pub record NeverRests : Type 0 where
  pub rows : List ℤ
  pub sheet : List ℕ
  pub table-accepted : check rows ≡ none
  pub sheet-accepted : sheet_fault rows sheet ≡ none
  pub every-length : (n : ℕ) → (l : List Label) × (length l ≡ n) × ((s : State) × OrderOf rows (readings rows sheet) l s)
  pub goes_on : (l : List Label) (s : State) → OrderOf rows (readings rows sheet) l s → (x : Label) × ((t : State) × Step (program rows) (readings rows sheet) s x t)

-- an accepted table without ALT that never rests, and has a block; and two orders of it, of different lengths: on one host channel the first is ahead, by an
-- absence, and on another the second
pub record Crosswise : Type 0 where
  pub never : NeverRests
  pub without-alt : NoAlt never.rows
  pub with-block : (r : ℕ) × (r < row_count never.rows) × (kind_at never.rows r ≡ 35)
  pub labels : List Label
  pub others : List Label
  pub one : State
  pub two : State
  pub order : OrderOf never.rows (readings never.rows never.sheet) labels one
  pub other : OrderOf never.rows (readings never.rows never.sheet) others two
  pub lengths_differ : length labels ≢ length others
  pub left : ℕ
  pub right : ℕ
  pub ahead : length (list_at two left) < length (list_at one left)
  pub absence : Memᴰ none (list_at one left)
  pub behind : length (list_at one right) < length (list_at two right)

-- an accepted table, with ALT, and two orders of it that come to no common state, and whose lists are no beginnings of one another
pub record Parted : Type 0 where
  pub rows : List ℤ
  pub sheet : List ℕ
  pub table-accepted : check rows ≡ none
  pub sheet-accepted : sheet_fault rows sheet ≡ none
  pub labels : List Label
  pub others : List Label
  pub one : State
  pub two : State
  pub order : OrderOf rows (readings rows sheet) labels one
  pub other : OrderOf rows (readings rows sheet) others two
  pub never-common : (v : State) (l k : List Label) → Order (program rows) (readings rows sheet) one l v → Order (program rows) (readings rows sheet) two k v → ⊥
  pub channel : ℕ
  pub apart : ¬ EitherBeginning (list_at one channel) (list_at two channel)
