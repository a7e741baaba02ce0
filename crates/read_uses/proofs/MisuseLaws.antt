-- The first line that declares a name, and the first of the declarations in the order of the lines that has it.
use mathlib.Core.Path.{◌≡◌, refl, sym, ap, ◌∙◌}
use mathlib.Core.Bool.{Bool, true, false}
use mathlib.Core.List.{List, [], ◌∷◌, ◌++◌, map}
use mathlib.Core.Option.{Option, none, some}
use Prim.Native.Nat.{ℕ, suc, ◌<◌}
use native.Mathlib.Omega.{arith}
use native.Mathlib.Decide.{dec_lt}
use lib.ListN.{length, get_elem?}
use lib.Dec.{ltb}
use borrow.Author.Tests.{lt-ltb, le-ltb}
use Rattle.meaning.specs.Basics.{if_else}
use Rattle.meaning.specs.Lines.{same}
use Rattle.grammar.specs.Outline.{Declaration, Lined, lined}
use Rattle.grammar.specs.Names.{name_of, declaration_in, Found, one_later, or_later, first_declared, misused, declared_before}
use Rattle.grammar.specs.TextRows.{if_declared, name_row}
use Rattle.read_declared.specs.Declarations.{in_order}
use Rattle.read_uses.specs.Misuses.{unfit, MisusedTold, AgainTold}

-- the declaration of the first line
abbrev declaration_found : Option Found → Option Declaration
declaration_found none = none
declaration_found (some f) = some f.declaration

later-found : (o : Option Found) → declaration_found (one_later o) ≡ declaration_found o
later-found none = refl
later-found (some f) = refl

-- it is the first of the declarations
first_found : (ls : List Lined) (n : List ℕ) → declaration_found (first_declared n ls) ≡ get_elem? (in_order ls) (name_row (map name_of (in_order ls)) n)
unfolding first_declared in_order name_row
first_found [] n = refl
first_found (lined l x ∷ ls) n = go (declaration_in x) (first_found ls n)
  where
    go : (o : Option Declaration) → declaration_found (first_declared n ls) ≡ get_elem? (in_order ls) (name_row (map name_of (in_order ls)) n)
        → declaration_found (or_later n o (one_later (first_declared n ls))) ≡ get_elem? (if_declared o ++ in_order ls) (name_row (map name_of (if_declared o ++ in_order ls)) n)
    go none h = later-found (first_declared n ls) ∙ h
    go (some d) h = met (same n (name_of d))
      where
        met : (b : Bool) → declaration_found (if_else b (some (record { before = 0; declaration = d })) (one_later (first_declared n ls)))
            ≡ get_elem? (d ∷ in_order ls) (if_else b 0 (suc (name_row (map name_of (in_order ls)) n)))
        met true = refl
        met false = later-found (first_declared n ls) ∙ h

pub misused-told : MisusedTold
misused-told ls u = go (first_declared u.named ls) ∙ ap (λ (o : Option Declaration). unfit o u) (first_found ls u.named)
  where
    go : (o : Option Found) → misused o u ≡ unfit (declaration_found o) u
    go none = refl
    go (some f) = refl

-- Earlier lines ----------------------------------------------------------------------------------------------------------------------

less-suc : (a b : ℕ) → ltb (suc a) (suc b) ≡ ltb a b
less-suc a b = go (dec_lt a b)
  where
    go : Dec (a < b) → ltb (suc a) (suc b) ≡ ltb a b
    go (yes h) = lt-ltb (suc a) (suc b) (omega arith) ∙ sym (lt-ltb a b h)
    go (no h) = le-ltb (suc a) (suc b) (omega (arith, h)) ∙ sym (le-ltb a b (omega (arith, h)))

later-before : (i : ℕ) (o : Option Found) → declared_before (suc i) (one_later o) ≡ declared_before i o
later-before i none = refl
later-before i (some f) = less-suc f.before i

none_before : (o : Option Found) → declared_before 0 o ≡ false
none_before none = refl
none_before (some f) = le-ltb f.before 0 (omega arith)

pub again-told : AgainTold
unfolding first_declared in_order name_row
again-told [] left n = none_before (first_declared n left) ∙ sym (le-ltb (name_row (map name_of (in_order left)) n) 0 (omega arith))
again-told (lined l x ∷ passed) left n = go (declaration_in x) (again-told passed left n)
  where
    all : List Lined
    all = passed ++ left

    go : (o : Option Declaration) → declared_before (length passed) (first_declared n all) ≡ ltb (name_row (map name_of (in_order all)) n) (length (in_order passed))
        → declared_before (suc (length passed)) (or_later n o (one_later (first_declared n all))) ≡ ltb (name_row (map name_of (if_declared o ++ in_order all)) n) (length (if_declared o ++ in_order passed))
    go none h = later-before (length passed) (first_declared n all) ∙ h
    go (some d) h = met (same n (name_of d))
      where
        met : (b : Bool) → declared_before (suc (length passed)) (if_else b (some (record { before = 0; declaration = d })) (one_later (first_declared n all)))
            ≡ ltb (if_else b 0 (suc (name_row (map name_of (in_order all)) n))) (suc (length (in_order passed)))
        met true = lt-ltb 0 (suc (length passed)) (omega arith) ∙ sym (lt-ltb 0 (suc (length (in_order passed))) (omega arith))
        met false = later-before (length passed) (first_declared n all) ∙ h ∙ sym (less-suc (name_row (map name_of (in_order all)) n) (length (in_order passed)))
