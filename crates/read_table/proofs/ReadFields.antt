-- A line read field by field, by any reader of fields: what is left of it is the field that begins there and what is left after that.
use mathlib.Core.Path.{◌≡◌, refl, sym, ap, ◌∙◌}
use mathlib.Core.Bool.{Bool, true, false}
use mathlib.Core.List.{List, [], ◌∷◌, map}
use mathlib.Core.Option
use mathlib.Core.Option.{Option, none, some}
use Prim.Native.Nat.{ℕ, zero, suc, ◌+◌}
use native.Mathlib.Omega.{arith}
use lib.ListN.{length, take, drop}
use lib.Seq.{drop-drop}
use lib.Dec.{eqb, eqb-suc-suc, eqb-zero-suc, eqb-suc-zero}
use borrow.Author.Tests.{eqb-true, ne_eqb}
use Rattle.meaning.specs.Texts.{line_feed, comma}
use Rattle.meaning.specs.Basics.{if_else, with_first, all_some}
use Rattle.meaning.specs.Lines.{line_size, text, fields, exactly, read_fields, read_line}
use Rattle.read_table.specs.Fields.{field_size, first_line, opens, stop_of}
use Rattle.read_table.proofs.SplitLaws.{in_front, line_fields, line-fields, fields_from, fields_split, size-split}

-- the bytes of m fields more on a line; after the last there is none
unfoldable pub left_size : ℕ → List ℕ → ℕ
left_size zero s = 0
left_size (suc m) s = line_size s

pub size-left : (m : ℕ) (s : List ℕ) → line_size s ≡ left_size (suc m) s
unfolding left_size
size-left m s = refl

pub none_left : (s : List ℕ) → left_size 0 s ≡ 0
unfolding left_size
none_left s = refl

ended-size : (m : ℕ) (r : List ℕ) → opens (stop_of m) r ≡ true → line_size r ≡ 1 + left_size m (drop 1 r)
unfolding line_size left_size
ended-size m [] e = absurd (let c : ◌≡◌ {A = ℕ} 0 1 = cc in omega arith)
ended-size zero (b ∷ bs) e = rw e
ended-size (suc m) (b ∷ bs) e =
    let other : eqb b line_feed ≡ false = ne_eqb b line_feed (λ q. let d = eqb-true b comma e in omega arith) in
    rw other (omega arith)

size-split-left : (m : ℕ) (s : List ℕ) → opens (stop_of m) (drop (field_size s) s) ≡ true → left_size (suc m) s ≡ field_size s + (1 + left_size m (drop 1 (drop (field_size s) s)))
unfolding left_size
size-split-left m s e = size-split s ∙ ap (λ (n : ℕ). field_size s + n) (ended-size m (drop (field_size s) s) e)

module _ {A : Type 0} (r : List ℕ → Option A) where
  -- what a line's fields are read as, if each is
  abbrev pub read_in : Option (List (List ℕ)) → Option (List A)
  read_in none = none
  read_in (some fs) = all_some (map r fs)

  -- k fields of the first line of some bytes
  unfoldable pub line_of : ℕ → List ℕ → Option (List A)
  line_of k s = exactly k (read_in (line_fields s))

  line-is : (k : ℕ) (s : List ℕ) → read_line r k (first_line s) ≡ line_of k s
  unfolding read_line line_of
  line-is k s = go (text (first_line s)) ∙ ap (λ (o : Option (List (List ℕ))). exactly k (read_in o)) (line-fields s)
    where
      go : (o : Option (List ℕ)) → exactly k (read_fields r o) ≡ exactly k (read_in (Option.map fields o))
      go none = refl
      go (some t) = refl

  -- a field, if it is read, in front of others
  abbrev first_of : Option A → Option (List A) → Option (List A)
  first_of none o = none
  first_of (some a) o = with_first a o

  first-none : (x : Option A) → first_of x none ≡ none
  first-none none = refl
  first-none (some a) = refl

  read-front : (f : List ℕ) (o : Option (List (List ℕ))) → read_in (in_front f o) ≡ first_of (r f) (read_in o)
  unfolding all_some
  read-front f none = sym (first-none (r f))
  read-front f (some fs) = go (r f)
    where
      go : (x : Option A) → all_some (x ∷ map r fs) ≡ first_of x (all_some (map r fs))
      go none = refl
      go (some a) = refl

  exactly-first : (k : ℕ) (x : Option A) (o : Option (List A)) → exactly (suc k) (first_of x o) ≡ first_of x (exactly k o)
  exactly-first k none o = refl
  exactly-first k (some a) none = refl
  exactly-first k (some a) (some l) = ap (λ (t : Bool). if_else t (some (a ∷ l)) none) (eqb-suc-suc (length l) k) ∙ go (eqb (length l) k)
    where
      go : (t : Bool) → if_else t (some (a ∷ l)) none ≡ with_first a (if_else t (some l) none)
      go true = refl
      go false = refl

  exactly-some : (x : Option A) (o : Option (List A)) → exactly 0 (first_of x o) ≡ none
  exactly-some none o = refl
  exactly-some (some a) none = refl
  exactly-some (some a) (some l) = ap (λ (t : Bool). if_else t (some (a ∷ l)) none) (eqb-suc-zero (length l))

  by-split : (k : ℕ) (s : List ℕ) → line_of k s ≡ exactly k (read_in (fields_from (take (field_size s) s) (drop (field_size s) s)))
  unfolding line_of
  by-split k s = ap (λ (o : Option (List (List ℕ))). exactly k (read_in o)) (fields_split s)

  some-field : (s : List ℕ) → line_of 0 s ≡ none
  unfolding all_some
  some-field s = by-split 0 s ∙ go (take (field_size s) s) (drop (field_size s) s)
    where
      go : (f u : List ℕ) → exactly 0 (read_in (fields_from f u)) ≡ none
      go f [] = refl
      go f (b ∷ bs) = which (eqb b comma) (eqb b line_feed)
        where
          which : (c l : Bool) → exactly 0 (read_in (if_else c (in_front f (line_fields bs)) (if_else l (some (f ∷ [])) none))) ≡ none
          which true l = ap (exactly 0) (read-front f (line_fields bs)) ∙ exactly-some (r f) (read_in (line_fields bs))
          which false true = ap (exactly 0) (read-front f (some [])) ∙ exactly-some (r f) (some [])
          which false false = refl

  -- every line has a field
  pub no-line-of-none : (s : List ℕ) → read_line r 0 (first_line s) ≡ none
  no-line-of-none s = line-is 0 s ∙ some-field s

  -- what m fields more on the line are read as; after the last there is none
  unfoldable pub left : ℕ → List ℕ → Option (List A)
  left zero s = some []
  left (suc m) s = line_of (suc m) s

  pub line-left : (m : ℕ) (s : List ℕ) → read_line r (suc m) (first_line s) ≡ left (suc m) s
  unfolding left
  line-left m s = line-is (suc m) s

  pub left-none : (s : List ℕ) → left 0 s ≡ some []
  unfolding left
  left-none s = refl

  -- behind a field: the byte that ends it, with m fields after it
  abbrev behind : ℕ → List ℕ → Option (List A)
  behind m [] = none
  behind m (b ∷ bs) = if_else (eqb b (stop_of m)) (left m bs) none

  by_first : (m : ℕ) (f u : List ℕ) → exactly (suc m) (read_in (fields_from f u)) ≡ first_of (r f) (behind m u)
  unfolding left line_of all_some
  by_first m f [] = sym (first-none (r f))
  by_first zero f (b ∷ bs) = go (eqb b comma) (eqb b line_feed) refl refl
    where
      go : (c l : Bool) → eqb b comma ≡ c → eqb b line_feed ≡ l
          → exactly 1 (read_in (if_else c (in_front f (line_fields bs)) (if_else l (some (f ∷ [])) none))) ≡ first_of (r f) (if_else l (some []) none)
      go true true i j = absurd (let p = eqb-true b comma i in let q = eqb-true b line_feed j in omega arith)
      go true false i j =
          ap (exactly 1) (read-front f (line_fields bs))
          ∙ exactly-first 0 (r f) (read_in (line_fields bs))
          ∙ ap (first_of (r f)) (some-field bs)
      go false true i j = ap (exactly 1) (read-front f (some [])) ∙ exactly-first 0 (r f) (some [])
      go false false i j = sym (first-none (r f))
  by_first (suc m) f (b ∷ bs) = go (eqb b comma) (eqb b line_feed)
    where
      go : (c l : Bool) → exactly (suc (suc m)) (read_in (if_else c (in_front f (line_fields bs)) (if_else l (some (f ∷ [])) none))) ≡ first_of (r f) (if_else c (line_of (suc m) bs) none)
      go true l = ap (exactly (suc (suc m))) (read-front f (line_fields bs)) ∙ exactly-first (suc m) (r f) (read_in (line_fields bs))
      go false true =
          ap (exactly (suc (suc m))) (read-front f (some []))
          ∙ exactly-first (suc m) (r f) (some [])
          ∙ ap (λ (t : Bool). first_of (r f) (if_else t (some []) none)) (eqb-zero-suc m)
      go false false = sym (first-none (r f))

  left_split : (m : ℕ) (s : List ℕ) → left (suc m) s ≡ first_of (r (take (field_size s) s)) (behind m (drop (field_size s) s))
  unfolding left
  left_split m s = by-split (suc m) s ∙ by_first m (take (field_size s) s) (drop (field_size s) s)

  behind-ended : (m : ℕ) (u : List ℕ) → opens (stop_of m) u ≡ true → behind m u ≡ left m (drop 1 u)
  behind-ended m [] e = absurd (let c : ◌≡◌ {A = ℕ} 0 1 = cc in omega arith)
  behind-ended m (b ∷ bs) e = rw e

  behind-unended : (m : ℕ) (u : List ℕ) → opens (stop_of m) u ≡ false → behind m u ≡ none
  behind-unended m [] e = refl
  behind-unended m (b ∷ bs) e = rw e

  -- the field that begins at a place, with m fields after it on the line
  module _ (bytes : List ℕ) (at m : ℕ) where
    abbrev size : ℕ
    size = field_size (drop at bytes)

    abbrev field : List ℕ
    field = take size (drop at bytes)

    abbrev rest : List ℕ
    rest = drop size (drop at bytes)

    pub field-not-ended : opens (stop_of m) rest ≡ false → left (suc m) (drop at bytes) ≡ none
    field-not-ended e = left_split m (drop at bytes) ∙ ap (first_of (r field)) (behind-unended m rest e) ∙ first-none (r field)

    pub field-not-read : r field ≡ none → left (suc m) (drop at bytes) ≡ none
    field-not-read e = left_split m (drop at bytes) ∙ ap (λ (x : Option A). first_of x (behind m rest)) e

    -- a field that is read is the first of those that are left
    pub field-first : opens (stop_of m) rest ≡ true → (a : A) → r field ≡ some a
        → (left (suc m) (drop at bytes) ≡ with_first a (left m (drop (at + size + 1) bytes)))
        × (at + left_size (suc m) (drop at bytes) ≡ at + size + 1 + left_size m (drop (at + size + 1) bytes))
    field-first e a i =
        let behind-it : drop 1 rest ≡ drop (at + size + 1) bytes = ap (drop 1) (drop-drop size at bytes) ∙ drop-drop 1 (at + size) bytes in
        let same_size = ap (left_size m) behind-it in (
          left_split m (drop at bytes)
              ∙ ap (λ (x : Option A). first_of x (behind m rest)) i
              ∙ ap (with_first a) (behind-ended m rest e ∙ ap (left m) behind-it),
          omega (arith, size-split-left m (drop at bytes) e),
        )
