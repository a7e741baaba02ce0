-- Whether a name is not in order, by the role of its declaration.
use mathlib.Core.Path.{◌≡◌, refl, sym, ap, ap₂, ◌∙◌}
use mathlib.Core.Bool.{Bool, true, false, not, ◌&&◌, ◌||◌, false≢true}
use mathlib.Core.List.{List, [], ◌∷◌, map}
use mathlib.Core.Option.{Option, none, some}
use Prim.Native.Nat.{ℕ, zero, suc, ◌+◌, ◌≤◌, ◌<◌}
use native.Mathlib.Omega.{arith}
use native.Mathlib.Decide.{dec_lt}
use lib.IntN.{pos}
use lib.ListN.{length, get_or, get_elem?, length-map}
use lib.Dec.{ltb}
use borrow.Author.Tests.{le-leb, lt-leb}
use Rattle.meaning.specs.Basics.{if_else, eq_z}
use Rattle.grammar.specs.Outline.{Declaration, variable, channel, source, sink}
use Rattle.grammar.specs.Names.{Sort, as-variable, as-input, as-output, use_of, serves}
use Rattle.read_declared.specs.Declarations.{role_number}
use Rattle.read_uses.specs.Misuses.{unfit, misnamed_as, unfit_role, misnamed_by}

-- Tests ------------------------------------------------------------------------------------------------------------------------------

module _ (declares : Bool) (seen row : ℕ) (roles : List ℕ) (b : Bool) (s : Sort) where
  abbrev in_range : Bool → Bool → Bool
  in_range past t = if_else past true (if_else t (ltb row seen) (unfit_role (get_or roles row 0) b s))

  -- declared nowhere
  pub misnamed-nowhere : length roles ≤ row → true ≡ misnamed_by declares seen row roles b s
  misnamed-nowhere h = ap (λ (p : Bool). in_range p declares) (sym (le-leb (length roles) row h))

  -- what is in order is declared
  pub declared-row : misnamed_by declares seen row roles b s ≡ false → row < length roles
  declared-row e = go (dec_lt row (length roles))
    where
      go : Dec (row < length roles) → row < length roles
      go (yes h) = h
      go (no h) = absurd (false≢true (sym (misnamed-nowhere (omega (arith, h)) ∙ e)))

-- Roles ------------------------------------------------------------------------------------------------------------------------------

-- the role of a declaration tells whether a use is not in order
role-told : (d : Declaration) (n : List ℕ) (b : Bool) (s : Sort) → unfit_role (role_number d) b s ≡ unfit (some d) (use_of n b s)
role-told (variable z m) n b s = go (eq_z z (pos 1)) s
  where
    go : (t : Bool) (s : Sort) → unfit_role (if_else t 0 4 + 0) b s ≡ (not (serves (variable z m) s) || (b && not t))
    go true as-variable = refl
    go true as-input = refl
    go true as-output = refl
    go false as-variable = refl
    go false as-input = refl
    go false as-output = refl
role-told (channel z m) n b s = go (eq_z z (pos 1)) s
  where
    go : (t : Bool) (s : Sort) → unfit_role (if_else t 0 4 + 1) b s ≡ (not (serves (channel z m) s) || (b && not t))
    go true as-variable = refl
    go true as-input = refl
    go true as-output = refl
    go false as-variable = refl
    go false as-input = refl
    go false as-output = refl
role-told (source m) n b as-variable = refl
role-told (source m) n b as-input = refl
role-told (source m) n b as-output = refl
role-told (sink z m) n b as-variable = refl
role-told (sink z m) n b as-input = refl
role-told (sink z m) n b as-output = refl

-- no declaration past the end
none-there : (ds : List Declaration) (i : ℕ) → length ds ≤ i → get_elem? ds i ≡ none
none-there [] i h = refl
none-there (d ∷ ds) zero h = absurd (omega arith)
none-there (d ∷ ds) (suc i) h = none-there ds i (omega arith)

-- a declaration, and its role
role-there : (ds : List Declaration) (i : ℕ) → i < length ds → (d : Declaration) × (get_elem? ds i ≡ some d) × (get_or (map role_number ds) i 0 ≡ role_number d)
role-there [] i h = absurd (omega arith)
role-there (d ∷ ds) zero h = (d, refl, refl)
role-there (d ∷ ds) (suc i) h = role-there ds i (omega arith)

-- the roles of the declarations tell whether a name is not in order
pub roles-tell : (ds : List Declaration) (declares : Bool) (seen row : ℕ) (n : List ℕ) (b : Bool) (s : Sort)
    → misnamed_by declares seen row (map role_number ds) b s ≡ misnamed_as declares seen row (get_elem? ds row) (use_of n b s)
roles-tell ds declares seen row n b s = go (dec_lt row (length ds))
  where
    roles : List ℕ
    roles = map role_number ds

    go : Dec (row < length ds) → misnamed_by declares seen row roles b s ≡ misnamed_as declares seen row (get_elem? ds row) (use_of n b s)
    go (yes h) =
        let (d, e, r) = role-there ds row h in
        let l = length-map ds role_number in
        ap₂ (λ (past : Bool) (k : ℕ). if_else past true (if_else declares (ltb row seen) (unfit_role k b s))) (lt-leb (length roles) row (omega (arith, l, h))) r
        ∙ ap (λ (t : Bool). if_else declares (ltb row seen) t) (role-told d n b s)
        ∙ ap (λ (o : Option Declaration). misnamed_as declares seen row o (use_of n b s)) (sym e)
    go (no h) =
        let l = length-map ds role_number in
        sym (misnamed-nowhere declares seen row roles b s (omega (arith, l, h)))
        ∙ ap (λ (o : Option Declaration). misnamed_as declares seen row o (use_of n b s)) (sym (none-there ds row (omega (arith, h))))
