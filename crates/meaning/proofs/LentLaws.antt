-- A list in a lent buffer: what stands at each position, below the limit and past it, the buffer's length, and what a change of one element changes.
use mathlib.Core.Path.{◌≡◌, refl, sym, ap, ◌∙◌}
use mathlib.Core.Option.{none, some, none-ne-some, some-injective}
use mathlib.Core.List.{List, [], ◌∷◌, ◌++◌, append-nil}
use Prim.Native.Nat.{ℕ, zero, suc, ◌+◌, ◌-◌, ◌<◌, ◌≤◌}
use native.Mathlib.Omega.{arith}
use native.Mathlib.Decide.{dec_lt}
use lib.ListN.{length, get_or, set, take, drop, replicate, length-append, length-drop, length-replicate, replicate-append-replicate, take-append-drop, drop_of_length-le, get_or-append, get_or-eq_default, get_elem?}
use lib.Seq.{length-take-le, take-append-le, take-append-add, drop-append-le, take-take, take-append_seam, take_at, get_or-take, take-set-lt, set-append_left, set-append_seam, append_snoc}
use Rattle.meaning.specs.Values.{Message}
use Rattle.meaning.specs.Buffers.{mark, number_in, cell_of, sized, lent}

module _ {A : Type 0} where
  -- an entry, by its position
  pub entry_at : (l : List A) (i : ℕ) (d : A) → i < length l → get_elem? l i ≡ some (get_or l i d)
  entry_at [] i d h = absurd (omega arith)
  entry_at (x ∷ l) zero d h = refl
  entry_at (x ∷ l) (suc i) d h = entry_at l i d (omega arith)

  pub entry-is : (l : List A) (i : ℕ) (d v : A) → get_elem? l i ≡ some v → (i < length l) × (get_or l i d ≡ v)
  entry-is [] i d v e = absurd (none-ne-some v e)
  entry-is (x ∷ l) zero d v e = (omega arith, some-injective x v e)
  entry-is (x ∷ l) (suc i) d v e = let (h, g) = entry-is l i d v e in (omega arith, g)

  entry-append : (l m : List A) (i : ℕ) → get_elem? (l ++ m) (length l + i) ≡ get_elem? m i
  entry-append [] m i = ap (get_elem? m) (omega arith)
  entry-append (x ∷ l) m i = let e : suc (length l) + i ≡ suc (length l + i) = omega arith in ap (get_elem? (x ∷ l ++ m)) e ∙ entry-append l m i

  entry-drop : (n i : ℕ) (l : List A) → get_elem? (drop n l) i ≡ get_elem? l (n + i)
  entry-drop zero i l = ap (get_elem? l) (omega arith)
  entry-drop (suc n) i [] = refl
  entry-drop (suc n) i (x ∷ l) = let e : suc (n + i) ≡ suc n + i = omega arith in entry-drop n i l ∙ ap (get_elem? (x ∷ l)) e

module _ {A : Type 0} (d : A) where
  -- filled up, a list has its own elements
  filled : (n i : ℕ) (xs : List A) → get_or (xs ++ replicate n d) i d ≡ get_or xs i d
  filled zero i [] = refl
  filled (suc n) zero [] = refl
  filled (suc n) (suc i) [] = filled n i []
  filled n zero (x ∷ xs) = refl
  filled n (suc i) (x ∷ xs) = filled n i xs

  -- a list of one element holds it everywhere: a list of zeros holds 0
  pub defaults-at : (n i : ℕ) → get_or (replicate n d) i d ≡ d
  defaults-at n i = filled n i []

  pub sized-length : (n : ℕ) (xs : List A) → length (sized n d xs) ≡ n
  unfolding sized
  sized-length n xs = length-take-le n (xs ++ replicate n d) (omega (arith, length-append xs (replicate n d), length-replicate n d))

  -- a list at a length
  pub sized-at : (n i : ℕ) (xs : List A) → i < n → get_or (sized n d xs) i d ≡ get_or xs i d
  unfolding sized
  sized-at n i xs h = get_or-take n (xs ++ replicate n d) i d h ∙ filled n i xs

  -- at a length that it does not pass, a list has its own elements at every place
  sized-holds : (n i : ℕ) (xs : List A) → length xs ≤ n → get_or (sized n d xs) i d ≡ get_or xs i d
  sized-holds n i xs h = go (dec_lt i n)
    where
      go : Dec (i < n) → get_or (sized n d xs) i d ≡ get_or xs i d
      go (yes l) = sized-at n i xs l
      go (no l) = get_or-eq_default (sized n d xs) d (omega (arith, sized-length n xs)) ∙ sym (get_or-eq_default xs d (omega arith))

  -- a list at a length that it does not pass, up to its own
  pub sized-front : (n : ℕ) (xs : List A) → length xs ≤ n → take (length xs) (sized n d xs) ≡ xs
  unfolding sized
  sized-front n xs h = take-take (length xs) n (xs ++ replicate n d) h ∙ take-append_seam xs (replicate n d)

  take-defaults : (n k : ℕ) → n ≤ k → take n (replicate k d) ≡ replicate n d
  take-defaults zero k h = refl
  take-defaults (suc n) zero h = absurd (omega arith)
  take-defaults (suc n) (suc k) h = ap (λ (l : List A). d ∷ l) (take-defaults n k (omega arith))

  pub sized-defaults : (n k : ℕ) → sized n d (replicate k d) ≡ replicate n d
  unfolding sized
  sized-defaults n k = ap (take n) (replicate-append-replicate k n d) ∙ take-defaults n (k + n) (omega arith)

  -- a list that fits, filled up
  pub sized-is : (n : ℕ) (xs : List A) → length xs ≤ n → sized n d xs ≡ xs ++ replicate (n - length xs) d
  unfolding sized
  sized-is n xs h =
      let e : n ≡ length xs + (n - length xs) = omega arith in
      ap (λ (k : ℕ). take k (xs ++ replicate n d)) e ∙ take-append-add xs (replicate n d) (n - length xs) ∙ ap (λ (l : List A). xs ++ l) (take-defaults (n - length xs) n (omega arith))

  -- one more element takes the place of the first default
  pub sized-more : (n : ℕ) (a : A) (xs : List A) → length xs < n → sized n d (xs ++ (a ∷ [])) ≡ set (sized n d xs) (length xs) a
  sized-more n a xs h =
      let k = length-append xs (a ∷ []) in
      let e : n - length xs ≡ suc (n - suc (length xs)) = omega arith in
      let f : n - length (xs ++ (a ∷ [])) ≡ n - suc (length xs) = omega arith in
      sized-is n (xs ++ (a ∷ [])) (omega arith) ∙ ap (λ (m : ℕ). xs ++ (a ∷ []) ++ replicate m d) f ∙ append_snoc xs a (replicate (n - suc (length xs)) d)
      ∙ sym (ap (λ (l : List A). set l (length xs) a) (sized-is n xs (omega arith) ∙ ap (λ (m : ℕ). xs ++ replicate m d) e) ∙ set-append_seam xs d (replicate (n - suc (length xs)) d) a)

  -- an element of a lent buffer
  pub lent_at : (n i : ℕ) (xs old : List A) → i < n → get_or (lent n d xs old) i d ≡ get_or xs i d
  unfolding lent
  lent_at n i xs old h = get_or-append (sized n d xs) (drop n old) d i (omega (arith, sized-length n xs)) ∙ sized-at n i xs h

  -- below the limit: the list's element, and d where the list has none
  pub lent-holds : (n i : ℕ) (xs old : List A) → i < n → get_elem? (lent n d xs old) i ≡ some (get_or xs i d)
  unfolding lent
  lent-holds n i xs old h =
      entry_at (lent n d xs old) i d (omega (arith, sized-length n xs, length-append (sized n d xs) (drop n old))) ∙ ap some (lent_at n i xs old h)

  -- past the limit: what was there
  pub lent-past : (n i : ℕ) (xs old : List A) → get_elem? (lent n d xs old) (n + i) ≡ get_elem? old (n + i)
  unfolding lent
  lent-past n i xs old =
      ap (λ (k : ℕ). get_elem? (sized n d xs ++ drop n old) (k + i)) (sym (sized-length n xs)) ∙ entry-append (sized n d xs) (drop n old) i ∙ entry-drop n i old

  pub lent_length : (n : ℕ) (xs old : List A) → n ≤ length old → length (lent n d xs old) ≡ length old
  unfolding lent
  lent_length n xs old h = omega (arith, length-append (sized n d xs) (drop n old), sized-length n xs, length-drop n old)

  -- what stands in the buffer up to its limit
  pub lent-front : (n : ℕ) (xs old : List A) → take n (lent n d xs old) ≡ sized n d xs
  unfolding lent
  lent-front n xs old = take_at (sized n d xs) (drop n old) n (sized-length n xs)

  -- a list of k that fits stands at the front
  pub lent-whole : (limit k : ℕ) (xs old : List A) → length xs ≡ k → k ≤ limit → take k (lent limit d xs old) ≡ xs
  unfolding lent
  lent-whole limit k xs old e h =
      ap (λ (j : ℕ). take j (lent limit d xs old)) (sym e)
      ∙ take-append-le (length xs) (sized limit d xs) (drop limit old) (omega (arith, sized-length limit xs, e))
      ∙ sized-front limit xs (omega (arith, e))

  -- a part of the front
  front : (off n : ℕ) (p q : List A) → off + n ≤ length p → take n (drop off (p ++ q)) ≡ take n (drop off p)
  front off n p q h = ap (take n) (drop-append-le off p q (omega arith)) ∙ take-append-le n (drop off p) q (omega (arith, length-drop off p))

  -- a part of a lent buffer
  pub lent-part : (off n m : ℕ) (xs old : List A) → off + n ≤ m → take n (drop off (lent m d xs old)) ≡ take n (drop off (xs ++ replicate m d))
  unfolding lent sized
  lent-part off n m xs old h =
      let e = sized-length m xs in
      front off n (sized m d xs) (drop m old) (omega arith)
      ∙ sym (front off n (sized m d xs) (drop m (xs ++ replicate m d)) (omega arith))
      ∙ ap (λ (l : List A). take n (drop off l)) (take-append-drop m (xs ++ replicate m d))

  -- a change of one element, within the list and the limit
  pub lent-set : (n i : ℕ) (a : A) (xs old : List A) → i < length xs → length xs ≤ n → set (lent n d xs old) i a ≡ lent n d (set xs i a) old
  unfolding lent sized
  lent-set n i a xs old l h =
      set-append_left (sized n d xs) (drop n old) i a (omega (arith, sized-length n xs))
      ∙ ap (λ (zs : List A). zs ++ drop n old) (sym (take-set-lt n (xs ++ replicate n d) i a (omega arith)) ∙ ap (take n) (set-append_left xs (replicate n d) i a l))

  -- in a buffer of defaults at the limit nothing is past it
  pub lent-blank : (n : ℕ) (xs : List A) → lent n d xs (replicate n d) ≡ sized n d xs
  unfolding lent
  lent-blank n xs = rw (drop_of_length-le (replicate n d) {i = n} (omega (arith, length-replicate n d))) (append-nil (sized n d xs))

  -- there every place holds what the list has there
  pub blank-at : (n i : ℕ) (xs : List A) → length xs ≤ n → get_or (lent n d xs (replicate n d)) i d ≡ get_or xs i d
  blank-at n i xs h = ap (λ (l : List A). get_or l i d) (lent-blank n xs) ∙ sized-holds n i xs h

  pub blank-length : (n : ℕ) (xs : List A) → length (lent n d xs (replicate n d)) ≡ n
  blank-length n xs = ap (λ (l : List A). length l) (lent-blank n xs) ∙ sized-length n xs

  -- a list of defaults leaves it as it is
  pub blank-defaults : (n k : ℕ) → lent n d (replicate k d) (replicate n d) ≡ replicate n d
  blank-defaults n k = lent-blank n (replicate k d) ∙ sized-defaults n k

-- ---- messages

-- a message by its number and mark
pub cell-back : (m : Message) → cell_of (number_in m) (mark m) ≡ m
cell-back none = refl
cell-back (some x) = refl
