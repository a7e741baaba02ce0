-- What an expression reads: the cells that stand in it; and what a subscript can mean: the numbers that count for it.
use mathlib.Core.Path.{◌≡◌, refl, sym, ap, ◌∙◌}
use mathlib.Core.Bool.{Bool, true, false, false≢true}
use mathlib.Core.Option.{Option, none}
use mathlib.Core.List.Memᴰ
use mathlib.Core.List.{List, [], ◌++◌, Memᴰ}
use Prim.Native.Nat.{ℕ, zero, suc, ◌+◌, ◌<◌}
use native.Mathlib.Omega.{arith}
use lib.IntN.{ℤ, pos, negsuc}
use lib.ListN.{get_or}
use lib.Dec.{ltb}
use borrow.Author.Tests.{ltb-true}
use Rattle.meaning.specs.declared.Value.{Value}
use Rattle.meaning.specs.declared.Value.TheVariants.{Number, Missing}
use Rattle.meaning.specs.declared.Index.{Index}
use Rattle.meaning.specs.declared.Index.TheVariants.{At, Fails}
use Rattle.meaning.specs.Basics.{if_else, is_some}
use Rattle.meaning.specs.Tree.{Expr, literal, element, monadic, given, dyadic, no_expr}
use Rattle.meaning.specs.Values.{value, index, in_array, read_cell, cell_value, given_value, truth}
use Rattle.meaning.specs.Usage.{numbers_from, only_if, constant, counts_by_value, counts_for, stands_in}
use Rattle.meaning.proofs.Decides.{both_true}

-- two lists of cells are alike at some numbers
abbrev pub Agree : List ℕ → List (Option ℤ) → List (Option ℤ) → Type 0
Agree R c d = (y : ℕ) → Memᴰ y R → get_or c y none ≡ get_or d y none

pub agree_left : (R Q : List ℕ) (c d : List (Option ℤ)) → Agree (R ++ Q) c d → Agree R c d
agree_left R Q c d g y q = g y (Memᴰ.append_left Q q)

pub agree_right : (R Q : List ℕ) (c d : List (Option ℤ)) → Agree (R ++ Q) c d → Agree Q c d
agree_right R Q c d g y q = g y (Memᴰ.append_right R q)

-- ---- subscripts

never : {A : Type 0} {k a : ℕ} → Fails k ≡ At a → A
never e = let z : ◌≡◌ {A = ℕ} 0 1 = cc in absurd (omega arith)

at_same : {a b : ℕ} → At a ≡ At b → a ≡ b
at_same e = cc

pub range-mem : (first n k : ℕ) → k < n → Memᴰ (first + k) (numbers_from first n)
unfolding numbers_from
range-mem first zero k h = absurd (omega arith)
range-mem first (suc n) zero h = Memᴰ.head {x = first} (omega arith)
range-mem first (suc n) (suc k) h = Memᴰ.tail (Memᴰ.cast {b = suc first + k} (omega arith) (range-mem (suc first) n k (omega arith)))

-- a number that a subscript means: first + k for a k below n
within-array : (first n : ℕ) (v : Value) (a : ℕ) → in_array first n v ≡ At a → (k : ℕ) × (k < n) × (a ≡ first + k)
unfolding in_array
within-array first n (Number (pos k)) a e = go (ltb k n) refl e
  where
    go : (t : Bool) → ltb k n ≡ t → if_else t (At (first + k)) (Fails 2) ≡ At a → (j : ℕ) × (j < n) × (a ≡ first + j)
    go true h e = (k, ltb-true k n h, sym (at_same e))
    go false h e = never e
within-array first n (Number (negsuc k)) a e = never e
within-array first n (Missing k) a e = never e

array-mem : (first n : ℕ) (v : Value) (a : ℕ) → in_array first n v ≡ At a → Memᴰ a (numbers_from first n)
array-mem first n v a e = let (k, h, q) = within-array first n v a e in Memᴰ.cast q (range-mem first n k h)

when-mem : (t : Bool) (z a : ℕ) → if_else t (At z) (Fails 2) ≡ At a → Memᴰ a (only_if t z)
when-mem true z a e = Memᴰ.head (sym (at_same e))
when-mem false z a e = never e

-- a number that a constant's value means counts for that value
value-mem : (first n : ℕ) (v : Value) (a : ℕ) → in_array first n v ≡ At a → Memᴰ a (counts_by_value first n v)
unfolding in_array counts_by_value
value-mem first n (Number (pos k)) a e = when-mem (ltb k n) (first + k) a e
value-mem first n (Number (negsuc k)) a e = never e
value-mem first n (Missing k) a e = never e

-- the value of a constant is the same whatever the cells hold
constant-value : (c d : List (Option ℤ)) (e : Expr) → constant e ≡ true → value c e ≡ value d e
unfolding constant value
constant-value c d (literal x) h = refl
constant-value c d (element v e) h = absurd (false≢true h)
constant-value c d (monadic op e) h = rw (constant-value c d e h)
constant-value c d (given v e) h = absurd (false≢true h)
constant-value c d (dyadic op e f) h = let (i, j) = both_true (constant e) (constant f) h in rw (constant-value c d e i, constant-value c d f j)
constant-value c d no_expr h = absurd (false≢true h)

module _ (c : List (Option ℤ)) (first n : ℕ) where
  -- the number that a subscript means counts for it
  pub index-counts : (e : Expr) (a : ℕ) → index c first n e ≡ At a → Memᴰ a (counts_for first n e)
  unfolding index counts_for
  index-counts e a h = go (constant e) refl
    where
      go : (t : Bool) → constant e ≡ t → Memᴰ a (if_else t (counts_by_value first n (value [] e)) (numbers_from first n))
      go true q = value-mem first n (value [] e) a (ap (in_array first n) (sym (constant-value c [] e q)) ∙ h)
      go false q = array-mem first n (value c e) a h

  -- with one number there is no other
  pub index-only : (e : Expr) (a : ℕ) → index c first n e ≡ At a → n ≡ 1 → a ≡ first
  unfolding index
  index-only e a h q = let (k, l, z) = within-array first n (value c e) a h in omega arith

-- ---- values

read-agree : (c d : List (Option ℤ)) (I : Index) → ((a : ℕ) → I ≡ At a → get_or c a none ≡ get_or d a none) → read_cell c I ≡ read_cell d I
read-agree c d (At a) g = ap cell_value (g a refl)
read-agree c d (Fails k) g = refl

given-agree : (c d : List (Option ℤ)) (I : Index) → ((a : ℕ) → I ≡ At a → get_or c a none ≡ get_or d a none) → given_value c I ≡ given_value d I
given-agree c d (At a) g = ap (λ (m : Option ℤ). truth (is_some m)) (g a refl)
given-agree c d (Fails k) g = refl

module _ (c d : List (Option ℤ)) where
  pub value-agree : (e : Expr) → Agree (stands_in e) c d → value c e ≡ value d e
  unfolding value stands_in index
  value-agree (literal x) g = refl
  value-agree (element v e) g =
      let h = value-agree e (agree_right (counts_for v.first v.size e) (stands_in e) c d g) in
      rw (← h) (read-agree c d (index c v.first v.size e) (λ a q. g a (Memᴰ.append_left (stands_in e) (index-counts c v.first v.size e a q))))
  value-agree (monadic op e) g = rw (value-agree e g)
  value-agree (given v e) g =
      let h = value-agree e (agree_right (counts_for v.first v.size e) (stands_in e) c d g) in
      rw (← h) (given-agree c d (index c v.first v.size e) (λ a q. g a (Memᴰ.append_left (stands_in e) (index-counts c v.first v.size e a q))))
  value-agree (dyadic op e f) g = rw (value-agree e (agree_left (stands_in e) (stands_in f) c d g), value-agree f (agree_right (stands_in e) (stands_in f) c d g))
  value-agree no_expr g = refl

  pub index-agree : (first n : ℕ) (e : Expr) → Agree (stands_in e) c d → index c first n e ≡ index d first n e
  unfolding index
  index-agree first n e g = rw (value-agree e g)
