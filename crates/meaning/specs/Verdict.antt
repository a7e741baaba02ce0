-- The verdict on rows, refusals 4, 5, 6 and 14: for each, whether a row is at fault, and the lowest that is.
use Rattle.std.specs.Prelude.{Bool, true, false, not, ◌&&◌, ◌||◌, List, [], ◌∷◌, ◌++◌, ℕ, zero, suc, ◌+◌, ℤ, pos, negsuc, leb, ltb, eqb}
use Rattle.std.proofs.Math.Option.{Option, none, some, map}
use Rattle.meaning.specs.Limits.{max_cells, max_elements, max_host_channels, max_capacity, min_number, max_number}
use Rattle.meaning.specs.Rows.{row_count, field_at, natural_at, kind_at}
use Rattle.meaning.specs.Declarations.{declares, declarations, sum_below, has_role, cells_at, elements_at, host_channels_at, capacity_at}
use Rattle.meaning.specs.Basics.{if_else, eq_z, inside, any_passes, among, lowest}
use Rattle.meaning.specs.HigherRows.{at_row}
use Rattle.meaning.specs.Refusals.{Refusal}
use Rattle.meaning.specs.Kinds.{Field, unused, literal_value, within, elements, capacity, operator, variable, channel, reference, link, Shape, shape_of, processes}

-- 4 ---------------------------------------------------------------------------------------------------------------------------

-- one of the first d rows, of which a test holds; a name is one of the declarations
abbrev pub names : ℕ → (ℕ → Bool) → ℤ → Bool
names d test (pos r) = ltb r d && test r
names d test (negsuc r) = false

-- what a field of row r may hold as far as 4 says; a reference is the matter of 5
unfoldable pub may_hold : List ℤ → ℕ → ℕ → Field → ℤ → Bool
may_hold rows d r unused z = eq_z z (pos 0)
may_hold rows d r literal_value z = inside min_number max_number z
may_hold rows d r (within lo hi) z = inside lo hi z
may_hold rows d r elements z = inside (pos 1) (pos 64) z && (eq_z (field_at rows r 2) (pos 0) || eq_z z (pos 1))
may_hold rows d r capacity z = inside (pos 0) (pos 256) z && (eq_z (field_at rows r 2) (pos 2) || eq_z z (pos 0))
may_hold rows d r operator z = inside (pos 0) (pos 2) z && not (eq_z z (pos 2) && names (row_count rows) (λ t. not (eqb (kind_at rows t) 11)) (field_at rows r 2))
may_hold rows d r variable z = names d (λ q. eqb (kind_at rows q) 1) z
may_hold rows d r (channel roles) z = names d (λ q. any_passes (λ role. has_role role rows q) roles) z
may_hold rows d r (reference kinds) z = true
may_hold rows d r (link kinds) z = true

-- a row is as the shape of its kind says
abbrev pub fits : List ℤ → ℕ → ℕ → Option Shape → Bool
fits rows d r none = false
fits rows d r (some s) = may_hold rows d r s.a (field_at rows r 1) && may_hold rows d r s.b (field_at rows r 2) && may_hold rows d r s.c (field_at rows r 3)

-- "unknown kind, late declaration, operator or value out of range, a name that is no declaration of the sort and role given, unused field not 0";
-- "Operator 2 whose operand is a row of another kind is refused as 4; one that names no row is 5, as for every operand"
abbrev pub form_fault_at : List ℤ → ℕ → ℕ → Bool
form_fault_at rows d r = (declares rows r && leb d r) || not (fits rows d r (shape_of (kind_at rows r)))

unfoldable pub form_fault : List ℤ → Option Refusal
form_fault rows = let d = declarations rows in map (λ r. (4, r)) (lowest (form_fault_at rows d) (row_count rows))

-- 5 ---------------------------------------------------------------------------------------------------------------------------

-- "Every reference goes to a higher row of the kind named"
abbrev pub refers : List ℤ → ℕ → List ℕ → ℤ → Bool
refers rows r kinds (pos t) = ltb r t && ltb t (row_count rows) && among (kind_at rows t) kinds
refers rows r kinds (negsuc i) = false

-- what a field of row r may hold as far as 5 says: "'First' and 'next' may be −1 for none"
unfoldable pub leads : List ℤ → ℕ → Field → ℤ → Bool
leads rows r unused z = true
leads rows r literal_value z = true
leads rows r (within lo hi) z = true
leads rows r elements z = true
leads rows r capacity z = true
leads rows r operator z = true
leads rows r variable z = true
leads rows r (channel roles) z = true
leads rows r (reference kinds) z = refers rows r kinds z
leads rows r (link kinds) z = eq_z z (negsuc 0) || refers rows r kinds z

-- the row that a field of row r refers to, if it does so rightly: a wrong reference is not counted
abbrev pub target_of : List ℤ → ℕ → List ℕ → ℤ → List ℕ
target_of rows r kinds (pos t) = if_else (refers rows r kinds (pos t)) (t ∷ []) []
target_of rows r kinds (negsuc i) = []

unfoldable pub target : List ℤ → ℕ → Field → ℤ → List ℕ
target rows r unused z = []
target rows r literal_value z = []
target rows r (within lo hi) z = []
target rows r elements z = []
target rows r capacity z = []
target rows r operator z = []
target rows r variable z = []
target rows r (channel roles) z = []
target rows r (reference kinds) z = target_of rows r kinds z
target rows r (link kinds) z = target_of rows r kinds z

-- the rows that row r refers to, by the shape of its kind
abbrev pub targets_by : List ℤ → ℕ → Option Shape → List ℕ
targets_by rows r none = []
targets_by rows r (some s) = target rows r s.a (field_at rows r 1) ++ target rows r s.b (field_at rows r 2) ++ target rows r s.c (field_at rows r 3)

abbrev pub targets : List ℤ → ℕ → List ℕ
targets rows r = targets_by rows r (shape_of (kind_at rows r))

-- the rows that the first n rows refer to
unfoldable pub targets_below : List ℤ → ℕ → List ℕ
targets_below rows zero = []
targets_below rows (suc n) = targets_below rows n ++ targets rows n

-- how often a number is in a list
unfoldable pub occurrences : ℕ → List ℕ → ℕ
occurrences t [] = 0
occurrences t (u ∷ us) = if_else (eqb t u) 1 0 + occurrences t us

-- the references of row r lead to where they may
abbrev pub leads_by : List ℤ → ℕ → Option Shape → Bool
leads_by rows r none = true
leads_by rows r (some s) = leads rows r s.a (field_at rows r 1) && leads rows r s.b (field_at rows r 2) && leads rows r s.c (field_at rows r 3)

-- "reference wrong"
abbrev pub reference_wrong : List ℤ → ℕ → Bool
reference_wrong rows r = not (leads_by rows r (shape_of (kind_at rows r)))

-- "a root that is no process"
abbrev pub wrong_root : List ℤ → ℕ → ℕ → Bool
wrong_root rows d r = eqb r d && not (among (kind_at rows r) processes)

-- "a row referred to other than once (the root: never)"; refs are the rows that rows refer to
abbrev pub not_referred_once : List ℕ → ℕ → ℕ → Bool
not_referred_once refs d r = not (eqb (occurrences r refs) (if_else (eqb r d) 0 1))

-- a row at fault: "reference wrong", "a root that is no process, or a row referred to other than once"
abbrev pub row_fault_at : List ℤ → ℕ → List ℕ → ℕ → Bool
row_fault_at rows d refs r = reference_wrong rows r || wrong_root rows d r || not_referred_once refs d r

-- a place at fault: a row after the declarations, "or the count of rows if there is no root"
abbrev pub tree_fault_at : List ℤ → ℕ → List ℕ → ℕ → Bool
tree_fault_at rows d refs r = (eqb r (row_count rows) && eqb d r) || (leb d r && ltb r (row_count rows) && row_fault_at rows d refs r)

unfoldable pub tree_fault : List ℤ → Option Refusal
tree_fault rows =
    let d = declarations rows in
    let refs = targets_below rows (row_count rows) in
    map (λ r. (5, r)) (lowest (tree_fault_at rows d refs) (suc (row_count rows)))

-- 6 ---------------------------------------------------------------------------------------------------------------------------

-- a sum over the rows up to r passes a limit
abbrev pub passes : (ℕ → ℕ) → ℕ → ℕ → Bool
passes f limit r = ltb limit (sum_below f (suc r))

-- "cells, elements, host channels, capacities"
abbrev pub over_limit : List ℤ → ℕ → Bool
over_limit rows r =
    passes (cells_at rows) max_cells r
    || passes (elements_at rows) max_elements r
    || passes (host_channels_at 1 rows) max_host_channels r
    || passes (host_channels_at 2 rows) max_host_channels r
    || passes (capacity_at rows) max_capacity r

-- "declaration that passes a limit"
unfoldable pub limit_fault : List ℤ → Option Refusal
limit_fault rows = map (λ r. (6, r)) (lowest (over_limit rows) (declarations rows))

-- 14 --------------------------------------------------------------------------------------------------------------------------

-- rows, each with the rows beneath it
abbrev pub with_those : (ℕ → List ℕ) → List ℕ → List ℕ
with_those at [] = []
with_those at (t ∷ ts) = (t ∷ at t) ++ with_those at ts

-- the rows beneath row r: those that it refers to, each with the rows beneath it
unfoldable pub rows_under : List ℤ → ℕ → List ℕ
rows_under rows r = at_row [] (λ r at. with_those at (targets rows r)) (row_count rows) r

-- "Kind 35 is a block"
abbrev pub is_block : List ℤ → ℕ → Bool
is_block rows r = eqb (kind_at rows r) 35

-- beside blocks, elements and assignments name a variable: an input's target is an element
abbrev pub names_variable : List ℤ → ℕ → Bool
names_variable rows r = eqb (kind_at rows r) 11 || eqb (kind_at rows r) 22

-- the lowest block of the name v
unfoldable pub block_of : List ℤ → ℕ → Option ℕ
block_of rows v = lowest (λ k. is_block rows k && eqb (natural_at rows k 1) v) (row_count rows)

-- there is a row, and a test does not hold of it
abbrev pub some_not : (ℕ → Bool) → Option ℕ → Bool
some_not test none = false
some_not test (some k) = not (test k)

-- a row at fault: "A block as root, a second block for a name, or the name outside its block"
abbrev pub block_fault_at : List ℤ → ℕ → ℕ → Bool
block_fault_at rows d r =
    (is_block rows r && (eqb r d || some_not (λ k. eqb k r) (block_of rows (natural_at rows r 1))))
    || (names_variable rows r && some_not (λ k. among r (rows_under rows k)) (block_of rows (natural_at rows r 1)))

-- "is refused as 14 at the lowest such row"
unfoldable pub block_fault : List ℤ → Option Refusal
block_fault rows = let d = declarations rows in map (λ r. (14, r)) (lowest (block_fault_at rows d) (row_count rows))
