-- Two tests that are the same but for row r: the rows of one are those of the other with r after those below it.
use Rattle.std.proofs.Common.{◌≡◌, ℕ, zero, suc, ◌+◌, ◌<◌, ◌≤◌, Bool, true, false, List, [], ◌∷◌, ◌++◌, length, get_or, sym, ap, ◌∙◌, subst, ap₂, append_assoc, append-nil, arith, length-append}
use native.Mathlib.Decide.{dec_lt}
use lib.ListN.{get_or-append}
use lib.Seq.{get_or-append_seam}
use Rattle.meaning.specs.Basics.{if_else, all_below}
use Rattle.run_ready_bits.proofs.Agreeing.{below_none, below_next, below-same}

-- what holds of each entry of a list holds with one entry more
module _ (P : ℕ → Type 0) where
  each_more : (l : List ℕ) (t : Bool) (n : ℕ) → ((k : ℕ) → k < length l → P (get_or l k 0)) → P n → (k : ℕ) → k < length (l ++ if_else t (n ∷ []) []) → P (get_or (l ++ if_else t (n ∷ []) []) k 0)
  each_more l false n h e k s = subst (λ (m : List ℕ). k < length m → P (get_or m k 0)) (sym (append-nil l)) (h k) s
  each_more l true n h e k s = go (dec_lt k (length l))
    where
      go : Dec (k < length l) → P (get_or (l ++ (n ∷ [])) k 0)
      go (yes b) = subst P (sym (get_or-append l (n ∷ []) 0 k b)) (h k b)
      go (no b) =
          let last : length l ≡ k = omega (arith, length-append l (n ∷ []), s) in
          subst (λ (j : ℕ). P (get_or (l ++ (n ∷ [])) j 0)) last (subst P (sym (get_or-append_seam l n [] 0)) e)

-- each row of a test below n is below n
pub each_below : (p : ℕ → Bool) (n k : ℕ) → k < length (all_below p n) → get_or (all_below p n) k 0 < n
each_below p zero k s = let z = ap (λ (l : List ℕ). length l) (below_none p) in absurd (omega (arith, s, z))
each_below p (suc n) k s =
    subst (λ (l : List ℕ). k < length l → get_or l k 0 < suc n) (sym (below_next p n))
    (each_more (λ j. j < suc n) (all_below p n) (p n) n (λ j m. let h = each_below p n j m in omega arith) (omega arith) k) s

-- there are at most n of them
pub few-below : (p : ℕ → Bool) (n : ℕ) → length (all_below p n) ≤ n
few-below p zero = let z = ap (λ (l : List ℕ). length l) (below_none p) in omega (arith, z)
few-below p (suc n) = subst (λ (l : List ℕ). length l ≤ suc n) (sym (below_next p n)) (go (p n) (few-below p n))
  where
    go : (t : Bool) → length (all_below p n) ≤ n → length (all_below p n ++ if_else t (n ∷ []) []) ≤ suc n
    go true h = omega (arith, length-append (all_below p n) (n ∷ []))
    go false h = omega (arith, length-append (all_below p n) [])

-- one row more between two lists
pub one_more : (low high : List ℕ) (r : ℕ) → length (low ++ (r ∷ high)) ≡ length (low ++ high) + 1
one_more low high r = omega (arith, length-append low (r ∷ high), length-append low high)

-- two tests are the same below n, but for row r
abbrev pub SameBut : ℕ → ℕ → (ℕ → Bool) → (ℕ → Bool) → Type 0
SameBut r n f g = (j : ℕ) → j < n → (j ≡ r → ⊥) → g j ≡ f j

module _ (f g : ℕ → Bool) (r : ℕ) where
  -- the rows of f are those below r and `rest`; those of g have r between them
  pub record Split (n : ℕ) : Type 0 where
    pub rest : List ℕ
    pub without : all_below f n ≡ all_below f r ++ rest
    pub with_row : all_below g n ≡ all_below f r ++ (r ∷ rest)

  pub split : (n : ℕ) → f r ≡ false → g r ≡ true → r < n → SameBut r n f g → Split n
  split zero fr gr l h = absurd (omega arith)
  split (suc n) fr gr l h = go (dec_lt r n) (split n fr gr)
    where
      last : r ≡ n → Split (suc n)
      last e =
          subst (λ (m : ℕ). Split (suc m)) e
          (record {
            rest = [];
            without = below_next f r ∙ ap (λ (t : Bool). all_below f r ++ if_else t (r ∷ []) []) fr;
            with_row = below_next g r ∙ ap₂ (λ (l : List ℕ) (t : Bool). l ++ if_else t (r ∷ []) []) (below-same g f r (λ j s. h j (omega arith) (λ q. omega arith))) gr;
          })

      go : Dec (r < n) → (r < n → SameBut r n f g → Split n) → Split (suc n)
      go (no b) k = last (omega arith)
      go (yes b) k =
          let s = k b (λ j m. h j (omega arith)) in
          let x = if_else (f n) (n ∷ []) [] in
          let gn : g n ≡ f n = h n (omega arith) (λ q. omega arith) in
          record {
            rest = s.rest ++ x;
            without = below_next f n ∙ ap (λ (l : List ℕ). l ++ x) s.without ∙ append_assoc (all_below f r) s.rest x;
            with_row = below_next g n ∙ ap₂ (λ (l : List ℕ) (t : Bool). l ++ if_else t (n ∷ []) []) s.with_row gn ∙ append_assoc (all_below f r) (r ∷ s.rest) x;
          }
