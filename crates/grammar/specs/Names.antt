-- Names in a text: what a line declares and uses, and the lowest line at which names are not in order (13).
use Rattle.std.specs.Prelude.{Bool, true, false, not, ◌&&◌, ◌||◌, List, [], ◌∷◌, ◌++◌, ℕ, zero, suc, ℤ, pos, length, ltb}
use Rattle.std.proofs.Math.Option.{Option, none, some}
use Rattle.std.proofs.Math.ListN.{get_elem?}
use Rattle.meaning.specs.Basics.{eq_z, if_else, any_passes, lowest}
use Rattle.meaning.specs.Lines.{same}
use Rattle.grammar.specs.Grammar.{Syn, literal, bare, at, monadic, dyadic}
use Rattle.grammar.specs.Outline.{Declaration, variable, channel, source, sink, OutlineLine, declare, skip, stop, assign, input, output, seq, par, ifs, alts, while, test, guarded, allowed, Lined, lined}

-- what a name is used as: a variable, a channel to input from, a channel to output to
pub data Sort : Type 0 where
  as-variable as-input as-output : Sort

-- a use of a name, and whether it stands there without a subscript
pub record Use : Type 0 where
  pub named : List ℕ
  pub bare-name : Bool
  pub sort : Sort

abbrev pub use_of : List ℕ → Bool → Sort → Use
use_of n b s = record { named = n; bare-name = b; sort = s }

-- the uses in an expression
abbrev pub uses_in : Syn → List Use
uses_in (literal z) = []
uses_in (bare n) = use_of n true as-variable ∷ []
uses_in (at n e) = use_of n false as-variable ∷ uses_in e
uses_in (monadic k e) = uses_in e
uses_in (dyadic k e f) = uses_in e ++ uses_in f

-- the uses in an element that is assigned, input to or from, or output to
abbrev pub element_uses : Sort → Syn → List Use
element_uses s (literal z) = []
element_uses s (bare n) = use_of n true s ∷ []
element_uses s (at n e) = use_of n false s ∷ uses_in e
element_uses s (monadic k e) = []
element_uses s (dyadic k e f) = []

-- the uses in a line
abbrev pub uses_of : OutlineLine → List Use
uses_of (declare d) = []
uses_of skip = []
uses_of stop = []
uses_of (assign a e) = element_uses as-variable a ++ uses_in e
uses_of (input c a) = element_uses as-input c ++ element_uses as-variable a
uses_of (output c e) = element_uses as-output c ++ uses_in e
uses_of seq = []
uses_of par = []
uses_of ifs = []
uses_of alts = []
uses_of (while e) = uses_in e
uses_of (test e) = uses_in e
uses_of (guarded e c a) = uses_in e ++ (element_uses as-input c ++ element_uses as-variable a)
uses_of (allowed e) = uses_in e

-- the name that a declaration declares, how many cells or elements it has, and what it may be used as
abbrev pub name_of : Declaration → List ℕ
name_of (variable z n) = n
name_of (channel z n) = n
name_of (source n) = n
name_of (sink z n) = n

abbrev pub size_of : Declaration → ℤ
size_of (variable z n) = z
size_of (channel z n) = z
size_of (source n) = pos 1
size_of (sink z n) = pos 1

abbrev pub serves : Declaration → Sort → Bool
serves (variable z n) as-variable = true
serves (variable z n) as-input = false
serves (variable z n) as-output = false
serves (channel z n) as-variable = false
serves (channel z n) as-input = true
serves (channel z n) as-output = true
serves (source n) as-variable = false
serves (source n) as-input = true
serves (source n) as-output = false
serves (sink z n) as-variable = false
serves (sink z n) as-input = false
serves (sink z n) as-output = true

-- the declaration that a line is
abbrev pub declaration_in : OutlineLine → Option Declaration
declaration_in (declare d) = some d
declaration_in skip = none
declaration_in stop = none
declaration_in (assign a e) = none
declaration_in (input c a) = none
declaration_in (output c e) = none
declaration_in seq = none
declaration_in par = none
declaration_in ifs = none
declaration_in alts = none
declaration_in (while e) = none
declaration_in (test e) = none
declaration_in (guarded e c a) = none
declaration_in (allowed e) = none

-- the first line that declares a name: how many lines stand before it, and its declaration
pub record Found : Type 0 where
  pub before : ℕ
  pub declaration : Declaration

abbrev pub one_later : Option Found → Option Found
one_later none = none
one_later (some f) = some (record { before = suc f.before; declaration = f.declaration })

abbrev pub or_later : List ℕ → Option Declaration → Option Found → Option Found
or_later n none later = later
or_later n (some d) later = if_else (same n (name_of d)) (some (record { before = 0; declaration = d })) later

unfoldable pub first_declared : List ℕ → List Lined → Option Found
first_declared n [] = none
first_declared n (lined l x ∷ ls) = let later = one_later (first_declared n ls) in or_later n (declaration_in x) later

-- "a name nowhere declared", "of the wrong sort or role, or bare though its size is not one"
abbrev pub misused : Option Found → Use → Bool
misused none u = true
misused (some f) u = not (serves f.declaration u.sort) || (u.bare-name && not (eq_z (size_of f.declaration) (pos 1)))

-- "declared again": there are fewer lines before the first than before this one
abbrev pub declared_before : ℕ → Option Found → Bool
declared_before i none = false
declared_before i (some f) = ltb f.before i

abbrev pub declared_again : List Lined → ℕ → Option Declaration → Bool
declared_again ls i none = false
declared_again ls i (some d) = declared_before i (first_declared (name_of d) ls)

abbrev pub line_misnamed : List Lined → ℕ → Option Lined → Bool
line_misnamed ls i none = false
line_misnamed ls i (some (lined l x)) = declared_again ls i (declaration_in x) || any_passes (λ u. misused (first_declared u.named ls) u) (uses_of x)

-- whether names are not in order on line n, from 1
abbrev pub misnamed : List Lined → ℕ → Bool
misnamed ls zero = false
misnamed ls (suc i) = line_misnamed ls i (get_elem? ls i)

-- 13, "with the lowest such line"
unfoldable pub names_fault : List Lined → Option ℕ
names_fault ls = lowest (misnamed ls) (suc (length ls))
