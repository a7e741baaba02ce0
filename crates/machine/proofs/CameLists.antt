-- The lists of rows that come to work and of blocks that start: what storing a row in one of them does, and that it has room.
use mathlib.Core.Logic.{◌⊎◌, inl, inr, ⊎_elim}
use mathlib.Core.Path.{◌≡◌, refl, sym, ap, ap₂, ◌∙◌}
use mathlib.Core.List.Memᴰ
use mathlib.Core.List.{List, [], ◌∷◌, ◌++◌, append-nil, append_assoc, Memᴰ}
use Prim.Native.Nat.{ℕ, zero, suc, ◌+◌, ◌<◌, ◌≤◌}
use native.Mathlib.Omega.{arith}
use native.Mathlib.Decide.{ℕ_discrete}
use lib.ListN.{length, get_or, set, length-set, length-append}
use lib.Seq.{get_or-set_other, get_or-set_same}
use borrow.Author.Tests.{lt-ltb}
use Rattle.machine.specs.Counts.{list_after, comes_to, block_starts, forgotten}
use Rattle.machine.specs.Came.{first_rows, rows_from, listed_rows, listed_blocks}

first-same : (from n : ℕ) (l m : List ℕ) → ((i : ℕ) → i < n → get_or m (suc (from + i)) 0 ≡ get_or l (suc (from + i)) 0) → first_rows from n m ≡ first_rows from n l
first-same from zero l m h = refl
first-same from (suc n) l m h = ap₂ (λ (a : List ℕ) (x : ℕ). a ++ x ∷ []) (first-same from n l m (λ i g. h i (omega arith))) (h n (omega arith))

first-length : (from n : ℕ) (l : List ℕ) → length (first_rows from n l) ≡ n
first-length from zero l = refl
first-length from (suc n) l = omega (arith, length-append (first_rows from n l) (get_or l (suc (from + n)) 0 ∷ []), first-length from n l)

-- as many are listed as the number at the beginning says
pub listed-length : (from : ℕ) (l : List ℕ) → length (rows_from from l) ≡ get_or l from 0
listed-length from l = first-length from (get_or l from 0) l

-- ---- the rows one after another

-- each row up to that number is listed
first-at : (from n i : ℕ) (l : List ℕ) → i < n → Memᴰ (get_or l (suc (from + i)) 0) (first_rows from n l)
first-at from zero i l h = absurd (omega arith)
first-at from (suc n) i l h = go (ℕ_discrete i n) (λ g. first-at from n i l g)
  where
    go : Dec (i ≡ n) → (i < n → Memᴰ (get_or l (suc (from + i)) 0) (first_rows from n l)) → Memᴰ (get_or l (suc (from + i)) 0) (first_rows from (suc n) l)
    go (yes e) f = Memᴰ.append_right (first_rows from n l) (Memᴰ.head (ap (λ (i : ℕ). get_or l (suc (from + i)) 0) e))
    go (no ne) f = Memᴰ.append_left (get_or l (suc (from + n)) 0 ∷ []) (f (omega (arith, ne)))

pub listed_at : (from i : ℕ) (l : List ℕ) → i < get_or l from 0 → Memᴰ (get_or l (suc (from + i)) 0) (rows_from from l)
listed_at from i l h = first-at from (get_or l from 0) i l h

-- ---- rows are added

-- the lists have room for n more rows and m more blocks
pub record Room (n m : ℕ) (l : List ℕ) : Type 0 where
  pub rows : get_or l 0 0 + n ≤ 2048
  pub blocks : get_or l 2049 0 + m ≤ 2048
  pub size : 4098 ≤ length l

-- the lists of c have the rows w and the blocks u more than those of l
pub record Lists (w u l c : List ℕ) : Type 0 where
  pub rows : listed_rows c ≡ listed_rows l ++ w
  pub blocks : listed_blocks c ≡ listed_blocks l ++ u
  pub size : length c ≡ length l

-- a list that begins at a place has one row more
module _ (from r : ℕ) (l : List ℕ) (few : get_or l from 0 + 1 ≤ 2048) (long : suc (from + 2048) ≤ length l) where
  abbrev n : ℕ
  n = get_or l from 0

  abbrev t : List ℕ
  t = set (set l (suc (from + n)) r) from (suc n)

  list-is : list_after from n r l ≡ t
  list-is = rw (lt-ltb n 2048 (omega arith))

  list-size : length t ≡ length l
  list-size = length-set (set l (suc (from + n)) r) from (suc n) ∙ length-set l (suc (from + n)) r

  one_more : rows_from from t ≡ rows_from from l ++ (r ∷ [])
  one_more =
      let u = set l (suc (from + n)) r in
      let number : get_or t from 0 ≡ suc n = get_or-set_same u from (suc n) 0 (omega (arith, length-set l (suc (from + n)) r)) in
      let last : get_or t (suc (from + n)) 0 ≡ r = get_or-set_other u from (suc (from + n)) (suc n) 0 (λ z. omega arith) ∙ get_or-set_same l (suc (from + n)) r 0 (omega arith) in
      let old : first_rows from n t ≡ first_rows from n l
      = first-same from n l t (λ i g. get_or-set_other u from (suc (from + i)) (suc n) 0 (λ z. omega arith) ∙ get_or-set_other l (suc (from + n)) (suc (from + i)) r 0 (λ z. omega arith)) in
      ap (λ (i : ℕ). first_rows from i t) number ∙ ap₂ (λ (a : List ℕ) (x : ℕ). a ++ x ∷ []) old last

  -- and another list stays
  other-same : (at : ℕ) → get_or l at 0 ≤ 2048 → ((from + 2048 < at) ⊎ (at + 2048 < from)) → rows_from at t ≡ rows_from at l
  other-same at g apart =
      let kept : (i : ℕ) → i ≤ 2048 → get_or t (at + i) 0 ≡ get_or l (at + i) 0
      = λ i h. get_or-set_other (set l (suc (from + n)) r) from (at + i) (suc n) 0 (λ z. ⊎_elim (λ (b : from + 2048 < at). omega arith) (λ (b : at + 2048 < from). omega arith) apart)
      ∙ get_or-set_other l (suc (from + n)) (at + i) r 0 (λ z. ⊎_elim (λ (b : from + 2048 < at). omega arith) (λ (b : at + 2048 < from). omega arith) apart) in
      let number : get_or t at 0 ≡ get_or l at 0 = let z : at + 0 ≡ at = omega arith in ap (λ (i : ℕ). get_or t i 0) (sym z) ∙ kept 0 (omega arith) ∙ ap (λ (i : ℕ). get_or l i 0) z in
      ap (λ (i : ℕ). first_rows at i t) number
      ∙ first-same at (get_or l at 0) l t (λ i h. let z : at + suc i ≡ suc (at + i) = omega arith in ap (λ (i : ℕ). get_or t i 0) (sym z) ∙ kept (suc i) (omega arith) ∙ ap (λ (i : ℕ). get_or l i 0) z)

-- one row comes to work
pub lists-one : (r : ℕ) (l : List ℕ) → Room 1 0 l → Lists (r ∷ []) [] l (comes_to r l)
lists-one r l R =
    let few = R.rows in
    let long : 2049 ≤ length l = omega (arith, R.size) in
    rw (list-is 0 r l few long)
    (record {
      rows = one_more 0 r l few long;
      blocks = other-same 0 r l few long 2049 (omega (arith, R.blocks)) (inl (omega arith)) ∙ sym (append-nil (listed_blocks l));
      size = list-size 0 r l few long;
    })

-- one block starts
pub lists-block : (r : ℕ) (l : List ℕ) → Room 0 1 l → Lists [] (r ∷ []) l (block_starts r l)
lists-block r l R =
    let few = R.blocks in
    let long = R.size in
    rw (list-is 2049 r l few long)
    (record {
      rows = other-same 2049 r l few long 0 (omega (arith, R.rows)) (inr (omega arith)) ∙ sym (append-nil (listed_rows l));
      blocks = one_more 2049 r l few long;
      size = list-size 2049 r l few long;
    })

pub lists-none : (l : List ℕ) → Lists [] [] l l
lists-none l = record { rows = sym (append-nil (listed_rows l)); blocks = sym (append-nil (listed_blocks l)); size = refl }

pub lists-both : {v w x y k l c : List ℕ} → Lists v x k l → Lists w y l c → Lists (v ++ w) (x ++ y) k c
lists-both {v} {w} {x} {y} {k} a b =
    record {
      rows = b.rows ∙ ap (λ (l : List ℕ). l ++ w) a.rows ∙ append_assoc (listed_rows k) v w;
      blocks = b.blocks ∙ ap (λ (l : List ℕ). l ++ y) a.blocks ∙ append_assoc (listed_blocks k) x y;
      size = b.size ∙ a.size;
    }

-- the room that is left
pub room_after : {w u l c : List ℕ} (n m : ℕ) → Lists w u l c → Room (length w + n) (length u + m) l → Room n m c
room_after {w} {u} {l} {c} n m L R =
    let e : get_or c 0 0 ≡ get_or l 0 0 + length w
    = sym (listed-length 0 c) ∙ ap length L.rows ∙ length-append (listed_rows l) w ∙ ap (λ (i : ℕ). i + length w) (listed-length 0 l) in
    let f : get_or c 2049 0 ≡ get_or l 2049 0 + length u
    = sym (listed-length 2049 c) ∙ ap length L.blocks ∙ length-append (listed_blocks l) u ∙ ap (λ (i : ℕ). i + length u) (listed-length 2049 l) in
    record { rows = omega (arith, R.rows); blocks = omega (arith, R.blocks); size = rw L.size R.size }

pub room-less : {i j n m : ℕ} {l : List ℕ} → i ≤ n → j ≤ m → Room n m l → Room i j l
room-less h g R = record { rows = omega (arith, R.rows); blocks = omega (arith, R.blocks); size = R.size }

-- forgotten lists have none
pub forgotten-room : (l : List ℕ) → 4098 ≤ length l → (get_or (forgotten l) 0 0 ≡ 0) × (get_or (forgotten l) 2049 0 ≡ 0) × (length (forgotten l) ≡ length l)
forgotten-room l h =
    let t = set l 0 0 in (
      get_or-set_other t 2049 0 0 0 (λ z. omega arith) ∙ get_or-set_same l 0 0 0 (omega arith),
      get_or-set_same t 2049 0 0 (omega (arith, length-set l 0 0)),
      length-set t 2049 0 ∙ length-set l 0 0,
    )
