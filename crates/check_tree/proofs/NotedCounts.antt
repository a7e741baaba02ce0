-- The counts that the code keeps are those of the definition, two standing for more.
use mathlib.Core.Path.{◌≡◌, refl, sym, ap, ◌∙◌}
use mathlib.Core.Bool.{Bool, true, false, ◌&&◌}
use mathlib.Core.List.{List, [], ◌∷◌, ◌++◌}
use Prim.Native.Nat.{ℕ, ◌+◌, ◌≤◌, ◌<◌, min}
use native.Mathlib.Numerals.{add-one}
use native.Mathlib.Omega.{arith}
use lib.IntN.{ℤ}
use lib.ListN.{length, get_or, set, replicate, length-set, length-replicate, get_or-replicate}
use lib.Seq.{get_or-set_same, get_or-set_other}
use lib.Dec.{ltb, eqb}
use Rattle.meaning.specs.Basics.{if_else}
use borrow.Author.Tests.{ltb-true, ltb-false, lt-ltb, eqb-true, eqb-false, eq-eqb, ne_eqb}
use Rattle.meaning.specs.Verdict.{targets, targets_below, occurrences}
use Rattle.meaning.specs.Rows.{row_count}
use Rattle.check_tree.specs.Counts.{noted_at, one_more_for, ReferencesCounted}

pub noted-append : (counts l m : List ℕ) → one_more_for counts (l ++ m) ≡ one_more_for (one_more_for counts l) m
unfolding one_more_for
noted-append counts [] m = refl
noted-append counts (t ∷ l) m = noted-append (noted_at counts t) l m

-- the references of three fields, and of one row more
pub noted-three : (counts a b c : List ℕ) → one_more_for (one_more_for (one_more_for counts a) b) c ≡ one_more_for counts (a ++ b ++ c)
noted-three counts a b c = ap (λ (l : List ℕ). one_more_for l c) (sym (noted-append counts a b)) ∙ sym (noted-append counts (a ++ b) c)

pub noted_more : (rows : List ℤ) (first counts : List ℕ) (r : ℕ) → counts ≡ one_more_for first (targets_below rows r) → one_more_for counts (targets rows r) ≡ one_more_for first (targets_below rows (r + 1))
unfolding targets_below
noted_more rows first counts r e = rw (add-one r, e) (sym (noted-append first (targets_below rows r) (targets rows r)))

length_at : (counts : List ℕ) (t : ℕ) → length (noted_at counts t) ≡ length counts
length_at counts t = go (ltb t (length counts) && ltb (get_or counts t 0) 2)
  where
    go : (b : Bool) → length (if_else b (set counts t (get_or counts t 0 + 1)) counts) ≡ length counts
    go true = simp length-set
    go false = refl

pub length-noted : (counts l : List ℕ) → length (one_more_for counts l) ≡ length counts
unfolding one_more_for
length-noted counts [] = refl
length-noted counts (t ∷ l) = length-noted (noted_at counts t) l ∙ length_at counts t

module _ (counts : List ℕ) (t : ℕ) (h : t < length counts) (small : get_or counts t 0 ≤ 2) where
  same_place : get_or (noted_at counts t) t 0 ≡ min 2 (get_or counts t 0 + 1)
  same_place = rw (lt-ltb t (length counts) h) (go (ltb (get_or counts t 0) 2) refl)
    where
      go : (b : Bool) → ltb (get_or counts t 0) 2 ≡ b → get_or (if_else b (set counts t (get_or counts t 0 + 1)) counts) t 0 ≡ min 2 (get_or counts t 0 + 1)
      go true e = get_or-set_same counts t (get_or counts t 0 + 1) 0 h ∙ omega (arith, ltb-true (get_or counts t 0) 2 e)
      go false e = omega (arith, ltb-false (get_or counts t 0) 2 e)

  other_place : (u : ℕ) → (t ≡ u → ⊥) → get_or (noted_at counts u) t 0 ≡ get_or counts t 0
  other_place u d = go (ltb u (length counts) && ltb (get_or counts u 0) 2)
    where
      go : (b : Bool) → get_or (if_else b (set counts u (get_or counts u 0 + 1)) counts) t 0 ≡ get_or counts t 0
      go true = get_or-set_other counts u t (get_or counts u 0 + 1) 0 d
      go false = refl

  -- one more reference, at place u
  at_place : (u : ℕ) → get_or (noted_at counts u) t 0 ≡ min 2 (get_or counts t 0 + if_else (eqb t u) 1 0)
  at_place u = go (eqb t u) refl
    where
      go : (b : Bool) → eqb t u ≡ b → get_or (noted_at counts u) t 0 ≡ min 2 (get_or counts t 0 + if_else b 1 0)
      go true e = rw (sym (eqb-true t u e)) same_place
      go false e = other_place u (eqb-false t u e) ∙ omega arith

-- the count of a place is that of the references to it, two standing for more
pub noted-counts : (counts l : List ℕ) (t : ℕ) → t < length counts → get_or counts t 0 ≤ 2 → get_or (one_more_for counts l) t 0 ≡ min 2 (get_or counts t 0 + occurrences t l)
unfolding one_more_for occurrences
noted-counts counts [] t h small = omega arith
noted-counts counts (u ∷ l) t h small =
    let e = at_place counts t h small u in
    let long = length_at counts u in
    let rest = noted-counts (noted_at counts u) l t (omega arith) (omega arith) in
    omega arith

-- two standing for more, never and once are told apart
pub told-apart : (n : ℕ) (root : Bool) → eqb (min 2 n) (if_else root 0 1) ≡ eqb n (if_else root 0 1)
told-apart n root = go (if_else root 0 1) (small root) (eqb n (if_else root 0 1)) refl
  where
    small : (b : Bool) → if_else b 0 1 ≤ 1
    small true = omega arith
    small false = omega arith

    go : (m : ℕ) → m ≤ 1 → (t : Bool) → eqb n m ≡ t → eqb (min 2 n) m ≡ t
    go m h true e = let i = eqb-true n m e in eq-eqb (min 2 n) m (omega arith)
    go m h false e = ne_eqb (min 2 n) m (λ i. eqb-false n m e (omega arith))

-- counts from nothing, of a table of at most 1,024 rows
pub counted : (rows : List ℤ) (counts : List ℕ) → row_count rows ≤ 1024 → counts ≡ one_more_for (replicate 1024 0) (targets_below rows (row_count rows)) → ReferencesCounted rows counts
counted rows counts h e =
    let refs = targets_below rows (row_count rows) in
    let long = ap length e ∙ length-noted (replicate 1024 0) refs ∙ length-replicate {A = ℕ} 1024 0 in
    record {
      enough = omega arith;
      right = λ t l.
          let z = get_or-replicate {A = ℕ} 1024 t 0 0 (omega arith) in
          let n = noted-counts (replicate 1024 0) refs t (omega (arith, length-replicate {A = ℕ} 1024 0)) (omega arith) in
          ap (λ (c : List ℕ). get_or c t 0) e ∙ n ∙ omega arith;
    }
