-- A table of 44 lines means the definition's table if it does so line by line, which antt computes.
use mathlib.Core.Path.{◌≡◌, refl, sym, ap, ◌∙◌}
use mathlib.Core.Bool.{Bool, true, false, ◌&&◌}
use mathlib.Core.List.{List, [], ◌∷◌}
use mathlib.Core.Option.{Option, none}
use Prim.Native.Nat.{ℕ, zero, suc, ◌+◌, ◌≤◌, ◌<◌}
use native.Mathlib.Omega.{arith}
use lib.ListN.{length, get_or}
use lib.Dec.{ltb}
use Rattle.meaning.specs.Basics.{if_else}
use borrow.Author.Tests.{ne_eqb, ltb-true, ltb-false}
use Rattle.meaning.specs.Kinds.{Shape, shapes, shape_in, shape_of}
use Rattle.base_kinds.specs.Table.{meant_shape, entries_of, no_entries, table_shape, KindTable}
use Rattle.base_kinds.proofs.Truth.{both_true}

-- what the lines of a table mean, the first as that of kind k
unfoldable pub shapes_from : ℕ → List (List ℕ) → List (Option Shape)
shapes_from k [] = []
shapes_from k (l ∷ t) = meant_shape k (entries_of (l ∷ []) 0) ∷ shapes_from (suc k) t

-- the shapes of n kinds from k on
unfoldable pub kinds_from : ℕ → ℕ → List (Option Shape)
kinds_from k zero = []
kinds_from k (suc n) = shape_of k ∷ kinds_from (suc k) n

line_at : (k : ℕ) (t : List (List ℕ)) (i : ℕ) → i < length t → get_or (shapes_from k t) i none ≡ meant_shape (k + i) (entries_of t i)
unfolding shapes_from
line_at k [] i h = absurd (omega arith)
line_at k (l ∷ t) zero h = let e : k + 0 ≡ k = omega arith in rw e
line_at k (l ∷ t) (suc i) h =
    let e : k + suc i ≡ suc k + i = omega arith in
    line_at (suc k) t i (omega arith) ∙ ap (λ (n : ℕ). meant_shape n (entries_of t i)) (sym e)

kind_at : (k n i : ℕ) → i < n → get_or (kinds_from k n) i none ≡ shape_of (k + i)
unfolding kinds_from
kind_at k zero i h = absurd (omega arith)
kind_at k (suc n) zero h = let e : k + 0 ≡ k = omega arith in rw e
kind_at k (suc n) (suc i) h =
    let e : k + suc i ≡ suc k + i = omega arith in
    kind_at (suc k) n i (omega arith) ∙ ap shape_of (sym e)

-- kinds past the last have no shape
below : List Shape → ℕ → Bool
below [] n = true
below (s ∷ ss) n = ltb s.kind n && below ss n

unknown-past : (ss : List Shape) (n k : ℕ) → below ss n ≡ true → n ≤ k → shape_in ss k ≡ none
unfolding shape_in below
unknown-past [] n k b h = refl
unknown-past (s ∷ ss) n k b h =
    let l = both_true (ltb s.kind n) (below ss n) b in
    rw (ne_eqb k s.kind (λ e. omega (arith, ltb-true s.kind n l.0))) (unknown-past ss n k l.1 h)

pub table-means : (t : List (List ℕ)) → length t ≡ 44 → shapes_from 0 t ≡ kinds_from 0 44 → KindTable t
unfolding KindTable below shapes shape_of table_shape meant_shape
table-means t l e k = rw l (go (ltb k 44) refl)
  where
    go : (b : Bool) → ltb k 44 ≡ b → meant_shape k (if_else b (entries_of t k) no_entries) ≡ shape_of k
    go true q =
        let h = ltb-true k 44 q in
        let z : 0 + k ≡ k = omega arith in
        rw z at (sym (line_at 0 t k (omega arith)) ∙ ap (λ (ss : List (Option Shape)). get_or ss k none) e ∙ kind_at 0 44 k h)
    go false q = sym (unknown-past shapes 44 k refl (ltb-false k 44 q))
