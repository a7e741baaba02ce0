-- Which names are not in order, by the declarations in the order of the lines.
use Rattle.std.specs.Prelude.{◌≡◌, Bool, true, not, ◌&&◌, ◌||◌, List, ◌++◌, map, ℕ, suc, ◌%◌, pos, length, get_or, drop, eqb, leb, ltb}
use Rattle.std.proofs.Math.Option.{Option, none, some}
use Rattle.std.proofs.Math.ListN.{get_elem?}
use Rattle.meaning.specs.Basics.{if_else, eq_z, any_passes}
use Rattle.grammar.specs.Grammar.{Token}
use Rattle.grammar.specs.Outline.{Declaration, Lined}
use Rattle.grammar.specs.Names.{Sort, as-variable, as-input, as-output, Use, name_of, size_of, serves, first_declared, misused, declared_before}
use Rattle.grammar.specs.TextRows.{name_row}
use Rattle.read_tokens.specs.Sorts as sorts
use Rattle.read_classes.specs.Parts.{mark_in}
use Rattle.read_declared.specs.Declarations.{in_order}
use Rattle.read_uses.specs.Uses.{uses_in}

-- Uses -------------------------------------------------------------------------------------------------------------------------------

-- whether a use is not in order, by the declaration of its name, if there is one
abbrev pub unfit : Option Declaration → Use → Bool
unfit none u = true
unfit (some d) u = not (serves d u.sort) || (u.bare-name && not (eq_z (size_of d) (pos 1)))

-- the same by the first of some declarations that has its name
abbrev pub misused_in : List Declaration → Use → Bool
misused_in ds u = unfit (get_elem? ds (name_row (map name_of ds) u.named)) u

-- a use is not in order by lines exactly if it is not by declarations
abbrev pub MisusedTold : Type 0
MisusedTold = (ls : List Lined) (u : Use) → misused (first_declared u.named ls) u ≡ misused_in (in_order ls) u

-- a name is declared on an earlier line if one of the declarations there has it
abbrev pub AgainTold : Type 0
AgainTold = (passed left : List Lined) (n : List ℕ)
    → declared_before (length passed) (first_declared n (passed ++ left)) ≡ ltb (name_row (map name_of (in_order (passed ++ left))) n) (length (in_order passed))

-- Lines ------------------------------------------------------------------------------------------------------------------------------

-- whether a name that means a row is not in order: on a declaration, after so many others, one declared on an earlier line; elsewhere a use
abbrev pub misnamed_as : Bool → ℕ → ℕ → Option Declaration → Use → Bool
misnamed_as declares seen row none u = true
misnamed_as declares seen row (some d) u = if_else declares (ltb row seen) (unfit (some d) u)

abbrev pub misnamed_in : List Declaration → Bool → ℕ → Use → Bool
misnamed_in ds declares seen u = let row = name_row (map name_of ds) u.named in misnamed_as declares seen row (get_elem? ds row) u

-- whether names are not in order on a line, by its tokens
abbrev pub tokens_misnamed : List Declaration → Bool → ℕ → List (Option Token) → Bool
tokens_misnamed ds declares seen os = any_passes (misnamed_in ds declares seen) (uses_in os)

-- Roles ------------------------------------------------------------------------------------------------------------------------------

-- whether a declaration serves, by its role without its size
abbrev pub serves_role : ℕ → Sort → Bool
serves_role role as-variable = eqb role 0
serves_role role as-input = eqb role 1 || eqb role 2
serves_role role as-output = eqb role 1 || eqb role 3

-- whether a use is not in order, by the role of its declaration
abbrev pub unfit_role : ℕ → Bool → Sort → Bool
unfit_role role b s = not (serves_role (role % 4) s) || (b && leb 4 role)

-- whether a name that means a row is not in order, by the roles of the declarations
abbrev pub misnamed_by : Bool → ℕ → ℕ → List ℕ → Bool → Sort → Bool
misnamed_by declares seen row roles b s = if_else (leb (length roles) row) true (if_else declares (ltb row seen) (unfit_role (get_or roles row 0) b s))

-- Sorts ------------------------------------------------------------------------------------------------------------------------------

-- the mark that the token after a token stands first before, 0 if it does not stand first
abbrev pub mark_past : List ℕ → ℕ → ℕ
mark_past ss at = if_else (leb sorts.skip (get_or ss at 0)) (mark_in (drop (suc at) ss)) sorts.no_token

-- whether no subscript begins at a place
abbrev pub bare_at : List ℕ → ℕ → Bool
bare_at ss at = not (eqb (get_or ss at 0) sorts.square_open)
