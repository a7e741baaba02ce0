-- Usage in a PAR: the cells and channel elements that a process counts for, and the first clash. Cells and elements are numbered through the table.
use Rattle.std.specs.Prelude.{Bool, true, false, ◌&&◌, ◌||◌, List, [], ◌∷◌, ◌++◌, map, ℕ, zero, suc, ◌+◌, ℤ, pos, negsuc, ltb, eqb}
use Rattle.std.proofs.Math.Option.{Option, none, some}
use Rattle.meaning.specs.declared.Value.{Value}
use Rattle.meaning.specs.declared.Value.TheVariants.{Number, Missing}
use Rattle.meaning.specs.Basics.{if_else, common}
use Rattle.meaning.specs.Refusals.{Refusal}
use Rattle.meaning.specs.Declarations.{Variable}
use Rattle.meaning.specs.Tree.{Expr, literal, element, monadic, given, dyadic, no_expr, ChannelInput, IfChoice, AltOption, Action, stop, skip, sequence, parallel, assign, input, output, conditional, loop, alternation, block, Process, node, Processes, empty, also, Content, contents}
use Rattle.meaning.specs.Values.{value}

-- n numbers from first on
unfoldable pub numbers_from : ℕ → ℕ → List ℕ
numbers_from first zero = []
numbers_from first (suc n) = first ∷ numbers_from (suc first) n

-- the cells of a variable
abbrev pub cells_of_variable : Variable → List ℕ
cells_of_variable v = numbers_from v.first v.size

-- the cells of some variables
abbrev pub cells_of_all : List Variable → List ℕ
cells_of_all [] = []
cells_of_all (v ∷ vs) = cells_of_variable v ++ cells_of_all vs

abbrev pub only_if : Bool → ℕ → List ℕ
only_if true a = a ∷ []
only_if false a = []

-- "made only of literals and operators": GIVEN takes an element
unfoldable pub constant : Expr → Bool
constant (literal x) = true
constant (element v e) = false
constant (monadic op e) = constant e
constant (given v e) = false
constant (dyadic op e f) = constant e && constant f
constant no_expr = false

-- it "counts as its value", for "nothing if it is outside the array"; "If it has no value it counts as every number of the name"
unfoldable pub counts_by_value : ℕ → ℕ → Value → List ℕ
counts_by_value first n (Number (pos k)) = only_if (ltb k n) (first + k)
counts_by_value first n (Number (negsuc k)) = []
counts_by_value first n (Missing k) = numbers_from first n

-- the numbers that a subscript counts for: a constant by its value, for which no cell is looked at; "with any other, every number of the name"
unfoldable pub counts_for : ℕ → ℕ → Expr → List ℕ
counts_for first n e = if_else (constant e) (counts_by_value first n (value [] e)) (numbers_from first n)

-- the cells that stand in an expression, subscripts included
unfoldable pub stands_in : Expr → List ℕ
stands_in (literal x) = []
stands_in (element v e) = counts_for v.first v.size e ++ stands_in e
stands_in (monadic op e) = stands_in e
stands_in (given v e) = counts_for v.first v.size e ++ stands_in e
stands_in (dyadic op e f) = stands_in e ++ stands_in f
stands_in no_expr = []

abbrev pub stands_in_choices : List IfChoice → List ℕ
stands_in_choices [] = []
stands_in_choices (t ∷ l) = stands_in t.boolean ++ stands_in_choices l

-- of an input: the cells of its target, the cells that it uses, the elements of its channel
abbrev pub changes_by : ChannelInput → List ℕ
changes_by i = counts_for i.target.name.first i.target.name.size i.target.subscript

abbrev pub uses_by : ChannelInput → List ℕ
uses_by i = changes_by i ++ (stands_in i.subscript ++ stands_in i.target.subscript)

abbrev pub inputs_by : ChannelInput → List ℕ
inputs_by i = counts_for i.channel.first i.channel.size i.subscript

-- the inputs of guards: "Guard inputs count as inputs"
abbrev pub of_guard : (ChannelInput → List ℕ) → Option ChannelInput → List ℕ
of_guard f none = []
of_guard f (some i) = f i

abbrev pub of_guards : (ChannelInput → List ℕ) → List AltOption → List ℕ
of_guards f [] = []
of_guards f (b ∷ l) = of_guard f b.guard.input ++ of_guards f l

abbrev pub stands_in_guards : List AltOption → List ℕ
stands_in_guards [] = []
stands_in_guards (b ∷ l) = stands_in b.guard.boolean ++ stands_in_guards l

-- "A cell is changed by an assignment or as an input's target"
abbrev pub changes : Action → List ℕ
changes stop = []
changes skip = []
changes sequence = []
changes parallel = []
changes (assign v e f) = counts_for v.first v.size e
changes (input i) = changes_by i
changes (output c e f) = []
changes (conditional ts) = []
changes (loop e b) = []
changes (alternation bs) = of_guards changes_by bs
changes (block v) = []

-- "It is used if it is changed or stands in any expression, subscripts included"
abbrev pub uses : Action → List ℕ
uses stop = []
uses skip = []
uses sequence = []
uses parallel = []
uses (assign v e f) = counts_for v.first v.size e ++ (stands_in e ++ stands_in f)
uses (input i) = uses_by i
uses (output c e f) = stands_in e ++ stands_in f
uses (conditional ts) = stands_in_choices ts
uses (loop e b) = stands_in e
uses (alternation bs) = stands_in_guards bs ++ of_guards uses_by bs
uses (block v) = []

-- the channel elements input from
abbrev pub input_elements : Action → List ℕ
input_elements stop = []
input_elements skip = []
input_elements sequence = []
input_elements parallel = []
input_elements (assign v e f) = []
input_elements (input i) = inputs_by i
input_elements (output c e f) = []
input_elements (conditional ts) = []
input_elements (loop e b) = []
input_elements (alternation bs) = of_guards inputs_by bs
input_elements (block v) = []

-- the channel elements output to
abbrev pub output_elements : Action → List ℕ
output_elements stop = []
output_elements skip = []
output_elements sequence = []
output_elements parallel = []
output_elements (assign v e f) = []
output_elements (input i) = []
output_elements (output c e f) = counts_for c.first c.size e
output_elements (conditional ts) = []
output_elements (loop e b) = []
output_elements (alternation bs) = []
output_elements (block v) = []

-- over a process "with all beneath" it
unfoldable mutual
  pub gather : Process → (Action → List ℕ) → List ℕ
  gather (node a r ms) f = f a ++ gather_all ms f

  pub gather_all : Processes → (Action → List ℕ) → List ℕ
  gather_all empty f = []
  gather_all (also p ms) f = gather p f ++ gather_all ms f

-- do two components clash: 7 "No cell changed in one component is used in another"; 8, 9 "No channel element is input from in two, or output to in two"
unfoldable pub cell_clash : Process → Process → Bool
cell_clash p q = common (gather p changes) (gather q uses) || common (gather q changes) (gather p uses)

unfoldable pub input_clash : Process → Process → Bool
input_clash p q = common (gather p input_elements) (gather q input_elements)

unfoldable pub output_clash : Process → Process → Bool
output_clash p q = common (gather p output_elements) (gather q output_elements)

-- two components of a PAR
pub record Pair : Type 0 where
  pub one : Process
  pub other : Process

abbrev pub pairs_with : Process → Processes → List Pair
pairs_with p empty = []
pairs_with p (also q ms) = record { one = p; other = q } ∷ pairs_with p ms

-- the pairs of components, each with those after it
abbrev pub pairs : Processes → List Pair
pairs empty = []
pairs (also p ms) = pairs_with p ms ++ pairs ms

-- a possible clash: the refusal number, the PAR's row, the two components
pub record Comparison : Type 0 where
  pub number : ℕ
  pub row : ℕ
  pub pair : Pair

abbrev pub of_par : ℕ → Action → ℕ → Processes → List Comparison
of_par number parallel r ms = map (λ (q : Pair). record { number = number; row = r; pair = q }) (pairs ms)
of_par number stop r ms = []
of_par number skip r ms = []
of_par number sequence r ms = []
of_par number (assign v e f) r ms = []
of_par number (input i) r ms = []
of_par number (output c e f) r ms = []
of_par number (conditional ts) r ms = []
of_par number (loop e b) r ms = []
of_par number (alternation bs) r ms = []
of_par number (block v) r ms = []

abbrev pub comparisons_in : ℕ → Option Process → List Comparison
comparisons_in number none = []
comparisons_in number (some (node a r ms)) = of_par number a r ms

-- the cases of a number, by the PAR's row
abbrev pub comparisons_of : ℕ → List Content → List Comparison
comparisons_of number [] = []
comparisons_of number (p ∷ l) = comparisons_in number p.process ++ comparisons_of number l

-- "a 7 anywhere goes before an 8, an 8 before a 9"
unfoldable pub comparisons : List ℤ → List Comparison
comparisons rows = let l = contents rows in comparisons_of 7 l ++ (comparisons_of 8 l ++ comparisons_of 9 l)

unfoldable pub clashes : Comparison → Bool
clashes c =
    let p = c.pair.one in
    let q = c.pair.other in
    if_else (eqb c.number 7) (cell_clash p q) (if_else (eqb c.number 8) (input_clash p q) (output_clash p q))

unfoldable pub first_clash : List Comparison → Option Comparison
first_clash [] = none
first_clash (c ∷ l) = let later = first_clash l in if_else (clashes c) (some c) later

-- "the count of pairs compared: up to that one, it included, or all in each of the three sorts if there is no clash"
unfoldable pub compared : List Comparison → ℕ
compared [] = 0
compared (c ∷ l) = let later = suc (compared l) in if_else (clashes c) 1 later

-- in a table
unfoldable pub pairs_compared : List ℤ → ℕ
pairs_compared rows = compared (comparisons rows)

abbrev pub refusal_of : Option Comparison → Option Refusal
refusal_of none = none
refusal_of (some c) = some (c.number, c.row)

-- "lowest PAR with a clash of that sort": the number and the PAR's row
unfoldable pub usage_fault : List ℤ → Option Refusal
usage_fault rows = refusal_of (first_clash (comparisons rows))
