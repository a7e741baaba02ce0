-- The lists of rows that come to work and of blocks that start, one after the other: a row is listed in the first, or in the second.
use mathlib.Core.Path.{◌≡◌, refl, sym, ap, ap₂, ◌∙◌}
use mathlib.Core.Bool.{Bool, true, false}
use mathlib.Core.List.{List, [], ◌∷◌, ◌++◌}
use Prim.Native.Nat.{ℕ, zero, suc, ◌+◌, ◌-◌, ◌<◌, ◌≤◌}
use native.Mathlib.Omega.{arith}
use lib.Dec.{ltb}
use lib.ListN.{length, get_or, set, take, replicate, length-set, get_or-append}
use lib.Seq.{take-suc}
use borrow.Author.Tests.{ltb-true}
use Rattle.std.proofs.lemmas.List.{set-append_left, set-append_right, get_or-append_right, replicate-append-replicate}
use Rattle.meaning.specs.Basics.{if_else}
use Rattle.machine.specs.Came.{first_rows, listed_rows, listed_blocks}
use Rattle.machine.specs.Counts.{kept_of, list_after, block_starts, forgotten}
use Rattle.run_starting.specs.Kept.{idle_lists}

module _ (xs ys : List ℕ) (h : length xs ≡ 2049) where
  pub in-first : (n r : ℕ) → list_after 0 n r (xs ++ ys) ≡ list_after 0 n r xs ++ ys
  in-first n r = go (ltb n 2048) refl
    where
      go : (b : Bool) → ltb n 2048 ≡ b → if_else b (set (set (xs ++ ys) (suc (0 + n)) r) 0 (suc n)) (xs ++ ys) ≡ if_else b (set (set xs (suc (0 + n)) r) 0 (suc n)) xs ++ ys
      go true e =
          ap (λ (l : List ℕ). set l 0 (suc n)) (set-append_left xs ys (suc (0 + n)) r (omega (arith, ltb-true n 2048 e)))
          ∙ set-append_left (set xs (suc (0 + n)) r) ys 0 (suc n) (simp length-set (omega arith))
      go false e = refl

  pub in-second : (n r : ℕ) → list_after 2049 n r (xs ++ ys) ≡ xs ++ list_after 0 n r ys
  in-second n r = go (ltb n 2048)
    where
      go : (b : Bool) → if_else b (set (set (xs ++ ys) (suc (2049 + n)) r) 2049 (suc n)) (xs ++ ys) ≡ xs ++ if_else b (set (set ys (suc (0 + n)) r) 0 (suc n)) ys
      go true =
          let at : suc (2049 + n) - 2049 ≡ suc (0 + n) = omega arith in
          ap (λ (l : List ℕ). set l 2049 (suc n)) (set-append_right xs ys 2049 (suc (2049 + n)) r h (omega arith))
          ∙ set-append_right xs (set ys (suc (2049 + n) - 2049) r) 2049 2049 (suc n) h (omega arith)
          ∙ ap (λ (i : ℕ). xs ++ set (set ys i r) 0 (suc n)) at
      go false = refl

  -- the number of the second
  pub second-count : get_or (xs ++ ys) 2049 0 ≡ get_or ys 0 0
  second-count = get_or-append_right xs ys 2049 2049 0 h (omega arith)

  -- so a block is listed
  pub block-listed : (r : ℕ) → block_starts r (xs ++ ys) ≡ xs ++ list_after 0 (get_or ys 0 0) r ys
  block-listed r = ap (λ (n : ℕ). list_after 2049 n r (xs ++ ys)) second-count ∙ in-second (get_or ys 0 0) r

  -- no row is listed any more
  pub both-forgotten : forgotten (xs ++ ys) ≡ set xs 0 0 ++ set ys 0 0
  both-forgotten =
      ap (λ (l : List ℕ). set l 2049 0) (set-append_left xs ys 0 0 (omega arith))
      ∙ set-append_right (set xs 0 0) ys 2049 2049 0 (length-set xs 0 0 ∙ h) (omega arith)

-- two lists in which no row is listed
pub none-listed : {a b : ℕ} {xs ys : List ℕ} → a ≡ 0 → xs ≡ replicate 2048 0 → b ≡ 0 → ys ≡ replicate 2048 0 → kept_of (replicate 1024 0) (replicate 1024 0) ((a ∷ xs) ++ (b ∷ ys)) ≡ idle_lists
none-listed e f g h = rw (e, f, g, h) (ap (kept_of (replicate 1024 0) (replicate 1024 0)) (replicate-append-replicate 2049 2049 0))

-- the rows that are listed, read off the lists
first-listed : (from : ℕ) (l rows : List ℕ) → length rows ≡ 2048 → ((k : ℕ) → k < 2048 → get_or l (suc (from + k)) 0 ≡ get_or rows k 0) → (n : ℕ) → n ≤ 2048 → first_rows from n l ≡ take n rows
first-listed from l rows h f zero b = refl
first-listed from l rows h f (suc n) b = ap₂ (λ (xs : List ℕ) (x : ℕ). xs ++ (x ∷ [])) (first-listed from l rows h f n (omega arith)) (f n (omega arith)) ∙ sym (take-suc rows n 0 (omega arith))

pub rows-listed : (c : ℕ) (rows ys : List ℕ) → length rows ≡ 2048 → c ≤ 2048 → listed_rows ((c ∷ rows) ++ ys) ≡ take c rows
rows-listed c rows ys h b =
    first-listed 0 ((c ∷ rows) ++ ys) rows h
    (λ k l. let e : 0 + k ≡ k = omega arith in ap (λ (i : ℕ). get_or (rows ++ ys) i 0) e ∙ get_or-append rows ys 0 k (omega arith))
    c b

pub blocks-listed : (xs : List ℕ) (c : ℕ) (rows : List ℕ) → length xs ≡ 2049 → length rows ≡ 2048 → c ≤ 2048 → listed_blocks (xs ++ (c ∷ rows)) ≡ take c rows
blocks-listed xs c rows g h b =
    ap (λ (n : ℕ). first_rows 2049 n (xs ++ (c ∷ rows))) (second-count xs (c ∷ rows) g)
    ∙ first-listed 2049 (xs ++ (c ∷ rows)) rows h
    (λ k l. let e : suc (2049 + k) - 2049 ≡ suc k = omega arith in get_or-append_right xs (c ∷ rows) 2049 (suc (2049 + k)) 0 g (omega arith) ∙ ap (λ (i : ℕ). get_or (c ∷ rows) i 0) e)
    c b
