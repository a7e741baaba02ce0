-- The fields of the first line of some bytes, by its first field: what stands before the first comma or line feed.
use mathlib.Core.Path.{◌≡◌, refl, ap, ◌∙◌}
use mathlib.Core.Bool.{Bool, true, false}
use mathlib.Core.List.{List, [], ◌∷◌}
use mathlib.Core.Option.{Option, none, some, map}
use Prim.Native.Nat.{ℕ, suc, ◌+◌}
use native.Mathlib.Omega.{arith}
use lib.ListN.{take, drop}
use lib.Dec.{eqb}
use Rattle.meaning.specs.Basics.{if_else}
use borrow.Author.Tests.{eqb-true}
use Rattle.meaning.specs.Texts.{line_feed, comma}
use Rattle.meaning.specs.Lines.{onto, line_size, ending, text, fields}
use Rattle.read_table.specs.Fields.{field_size, first_line}

-- a field in front of others
abbrev pub in_front : List ℕ → Option (List (List ℕ)) → Option (List (List ℕ))
in_front f o = map (λ fs. f ∷ fs) o

-- the fields of the first line of some bytes, if it ends with a line feed
unfoldable pub line_fields : List ℕ → Option (List (List ℕ))
line_fields [] = none
line_fields (b ∷ bs) =
    let rest = line_fields bs in
    if_else (eqb b line_feed) (some ([] ∷ [])) (if_else (eqb b comma) (in_front [] rest) (map (onto b) rest))

-- they are that
pub line-fields : (s : List ℕ) → map fields (text (first_line s)) ≡ line_fields s
unfolding line_fields line_size text fields
line-fields [] = refl
line-fields (b ∷ bs) = go (eqb b line_feed) refl (line-fields bs)
  where
    more : (c : Bool) → eqb b comma ≡ c → (o : Option (List ℕ)) → map fields (map (λ t. b ∷ t) o) ≡ if_else c (in_front [] (map fields o)) (map (onto b) (map fields o))
    more true e none = refl
    more false e none = refl
    more true e (some t) = ap (λ (d : Bool). some (if_else d ([] ∷ fields t) (onto b (fields t)))) e
    more false e (some t) = ap (λ (d : Bool). some (if_else d ([] ∷ fields t) (onto b (fields t)))) e

    go : (t : Bool) → eqb b line_feed ≡ t → map fields (text (first_line bs)) ≡ line_fields bs
        → map fields (text (take (if_else t 1 (suc (line_size bs))) (b ∷ bs))) ≡ if_else t (some ([] ∷ [])) (if_else (eqb b comma) (in_front [] (line_fields bs)) (map (onto b) (line_fields bs)))
    go true e h = ap (λ (d : Bool). map fields (if_else d (ending []) (map (λ t. b ∷ t) none))) e
    go false e h =
        ap (λ (d : Bool). map fields (if_else d (ending (first_line bs)) (map (λ t. b ∷ t) (text (first_line bs))))) e
        ∙ more (eqb b comma) refl (text (first_line bs))
        ∙ ap (λ (o : Option (List (List ℕ))). if_else (eqb b comma) (in_front [] o) (map (onto b) o)) h

-- the fields from the first one and what comes after it: nothing, or the byte that ends it and the rest
abbrev pub fields_from : List ℕ → List ℕ → Option (List (List ℕ))
fields_from f [] = none
fields_from f (b ∷ bs) = if_else (eqb b comma) (in_front f (line_fields bs)) (if_else (eqb b line_feed) (some (f ∷ [])) none)

onto-front : (b : ℕ) (f : List ℕ) (o : Option (List (List ℕ))) → map (onto b) (in_front f o) ≡ in_front (b ∷ f) o
onto-front b f none = refl
onto-front b f (some fs) = refl

onto-from : (b : ℕ) (f r : List ℕ) → map (onto b) (fields_from f r) ≡ fields_from (b ∷ f) r
onto-from b f [] = refl
onto-from b f (c ∷ cs) = go (eqb c comma) (eqb c line_feed)
  where
    go : (t l : Bool)
        → map (onto b) (if_else t (in_front f (line_fields cs)) (if_else l (some (f ∷ [])) none))
        ≡ if_else t (in_front (b ∷ f) (line_fields cs)) (if_else l (some ((b ∷ f) ∷ [])) none)
    go true l = onto-front b f (line_fields cs)
    go false true = refl
    go false false = refl

-- the first line's fields are its first field and those after it
pub fields_split : (s : List ℕ) → line_fields s ≡ fields_from (take (field_size s) s) (drop (field_size s) s)
unfolding line_fields field_size
fields_split [] = refl
fields_split (b ∷ bs) = go (eqb b comma) (eqb b line_feed) refl refl (fields_split bs)
  where
    go : (c l : Bool) → eqb b comma ≡ c → eqb b line_feed ≡ l → line_fields bs ≡ fields_from (take (field_size bs) bs) (drop (field_size bs) bs)
        → if_else l (some ([] ∷ [])) (if_else c (in_front [] (line_fields bs)) (map (onto b) (line_fields bs)))
        ≡ fields_from (take (if_else c 0 (if_else l 0 (suc (field_size bs)))) (b ∷ bs)) (drop (if_else c 0 (if_else l 0 (suc (field_size bs)))) (b ∷ bs))
    go true true i j h = absurd (let p = eqb-true b comma i in let q = eqb-true b line_feed j in omega arith)
    go true false i j h = rw i
    go false true i j h = rw (i, j)
    go false false i j h = ap (map (onto b)) h ∙ onto-from b (take (field_size bs) bs) (drop (field_size bs) bs)

-- the line goes on after its first field
pub size-split : (s : List ℕ) → line_size s ≡ field_size s + line_size (drop (field_size s) s)
unfolding line_size field_size
size-split [] = refl
size-split (b ∷ bs) = go (eqb b comma) (eqb b line_feed) refl refl (size-split bs)
  where
    go : (c l : Bool) → eqb b comma ≡ c → eqb b line_feed ≡ l → line_size bs ≡ field_size bs + line_size (drop (field_size bs) bs)
        → if_else l 1 (suc (line_size bs)) ≡ if_else c 0 (if_else l 0 (suc (field_size bs))) + line_size (drop (if_else c 0 (if_else l 0 (suc (field_size bs)))) (b ∷ bs))
    go true true i j h = absurd (let p = eqb-true b comma i in let q = eqb-true b line_feed j in omega arith)
    go true false i j h = let k = ap (λ (d : Bool). if_else d 1 (suc (line_size bs))) j in omega arith
    go false true i j h = let k = ap (λ (d : Bool). if_else d 1 (suc (line_size bs))) j in omega arith
    go false false i j h = omega arith
