-- The layout as a list: a name put in after those of the rows before, and no name after the last.
use mathlib.Core.Path.{◌≡◌, refl, sym, ap, ◌∙◌}
use mathlib.Core.Bool.{Bool, true, false}
use mathlib.Core.List.{List, [], ◌∷◌, ◌++◌}
use Prim.Native.Nat.{ℕ, zero, suc, ◌+◌, ◌<◌, ◌≤◌}
use native.Mathlib.Numerals.{add-one}
use native.Mathlib.Omega.{arith}
use lib.IntN.{ℤ}
use lib.ListN.{length, get_or, set, length-append, get_or-eq_default, get_or-append}
use lib.Seq.{get_or-set_same, get_or-set_other, get_or-append_seam, ext_get_or}
use lib.Dec.{ltb, eqb}
use Rattle.meaning.specs.Declarations.{declarations}
use Rattle.meaning.specs.Buffers.{sized}
use Rattle.meaning.proofs.LentLaws.{sized-length, sized-at}
use borrow.Author.Tests.{le-ltb, ltb-true, ltb-false, eqb-true, eqb-false}
use Rattle.base_layout.specs.declared.Name.{Name}
use Rattle.base_layout.specs.Names.{name_at, no_name, names_of}

-- a list holds xs, and then no names
abbrev pub Begins : List Name → List Name → Type 0
Begins l xs = (i : ℕ) → get_or l i no_name ≡ get_or xs i no_name

-- one more element put in after the first ones, in a list that holds d from there on
pub put_one : {A : Type 0} (d : A) (l xs : List A) (v : A) (n : ℕ) → length xs ≡ n → n < length l → ((i : ℕ) → get_or l i d ≡ get_or xs i d) → (i : ℕ) → get_or (set l n v) i d ≡ get_or (xs ++ (v ∷ [])) i d
put_one {A} d l xs v n e h b i = go (eqb i n) refl (ltb i n) refl
  where
    go : (s : Bool) → eqb i n ≡ s → (t : Bool) → ltb i n ≡ t → get_or (set l n v) i d ≡ get_or (xs ++ (v ∷ [])) i d
    go true p t q =
        ap (λ (i : ℕ). get_or (set l n v) i d) (eqb-true i n p)
        ∙ get_or-set_same l n v d h
        ∙ sym (get_or-append_seam xs v [] d)
        ∙ ap (λ (i : ℕ). get_or (xs ++ (v ∷ [])) i d) (e ∙ sym (eqb-true i n p))
    go false p true q =
        get_or-set_other l n i v d (eqb-false i n p)
        ∙ b i
        ∙ sym (get_or-append xs (v ∷ []) d i (omega (arith, ltb-true i n q)))
    go false p false q =
        get_or-set_other l n i v d (eqb-false i n p)
        ∙ b i
        ∙ get_or-eq_default xs d (omega (arith, ltb-false i n q))
        ∙ sym (get_or-eq_default (xs ++ (v ∷ [])) d (omega (arith, ltb-false i n q, eqb-false i n p, length-append xs (v ∷ []))))

-- such a list is what it holds, filled up with no names
pub begins-sized : (l xs : List Name) (n : ℕ) → length l ≡ n → Begins l xs → l ≡ sized n no_name xs
begins-sized l xs n e b = ext_get_or no_name l (sized n no_name xs) (e ∙ sym (sized-length no_name n xs)) (λ i h. b i ∙ sym (sized-at no_name n i xs (omega arith)))

-- the name of one more row
pub next_row : (rows : List ℤ) (r : ℕ) (n : Name) → n ≡ name_at rows r → names_of rows r ++ (n ∷ []) ≡ names_of rows (r + 1)
unfolding names_of
next_row rows r n e = rw (e, add-one)

-- after the declarations rows name nothing
pub late-name : (rows : List ℤ) (r : ℕ) → declarations rows ≤ r → name_at rows r ≡ no_name
unfolding name_at
late-name rows r h = simp (le-ltb r (declarations rows) h)

module _ (rows : List ℤ) where
  pub names-length : (n : ℕ) → length (names_of rows n) ≡ n
  unfolding names_of
  names-length zero = refl
  names-length (suc n) = omega (arith, names-length n, length-append (names_of rows n) (name_at rows n ∷ []))

  -- the name of row a
  pub name-among : (n a : ℕ) → a < n → get_or (names_of rows n) a no_name ≡ name_at rows a
  unfolding names_of
  name-among zero a h = absurd (omega arith)
  name-among (suc n) a h = go (eqb a n) refl (λ q. name-among n a q)
    where
      go : (t : Bool) → eqb a n ≡ t → (a < n → get_or (names_of rows n) a no_name ≡ name_at rows a) → get_or (names_of rows n ++ (name_at rows n ∷ [])) a no_name ≡ name_at rows a
      go true e f =
          let p : a ≡ length (names_of rows n) = omega (arith, names-length n, eqb-true a n e) in
          ap (λ (i : ℕ). get_or (names_of rows n ++ (name_at rows n ∷ [])) i no_name) p
          ∙ get_or-append_seam (names_of rows n) (name_at rows n) [] no_name
          ∙ ap (name_at rows) (sym (eqb-true a n e))
      go false e f =
          let q : a < n = omega (arith, eqb-false a n e) in
          get_or-append (names_of rows n) (name_at rows n ∷ []) no_name a (omega (arith, names-length n)) ∙ f q
