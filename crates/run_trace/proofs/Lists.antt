-- A list in a lent buffer: with nothing in it, with one number more, and with numbers stored one after another.
use mathlib.Core.Path.{◌≡◌, sym, ap, ◌∙◌}
use mathlib.Core.List.{List, [], ◌∷◌, ◌++◌, append-nil}
use Prim.Native.Nat.{ℕ, suc, ◌+◌, ◌<◌, ◌≤◌}
use native.Mathlib.Numerals.{add-one}
use native.Mathlib.Omega.{arith}
use lib.ListN.{length, set, drop, replicate, length-append, length-replicate}
use lib.Seq.{take_all, append_snoc, set-append_left}
use Rattle.meaning.specs.Buffers.{sized, lent}
use Rattle.meaning.proofs.LentLaws.{sized-length, sized-more}
use Rattle.run_turns.specs.Showing.{stored_from}

module _ {A : Type 0} (d : A) where
  -- one number more
  lent-more : (n : ℕ) (xs old : List A) (v : A) → length xs < n → set (lent n d xs old) (length xs) v ≡ lent n d (xs ++ (v ∷ [])) old
  unfolding lent
  lent-more n xs old v h =
      set-append_left (sized n d xs) (drop n old) (length xs) v (omega (arith, sized-length d n xs)) ∙ ap (λ (l : List A). l ++ drop n old) (sym (sized-more d n v xs h))

  -- nothing: the value of unused places up to the limit
  pub lent_nothing : (n : ℕ) (old : List A) → lent n d [] old ≡ replicate n d ++ drop n old
  unfolding lent sized
  lent_nothing n old = ap (λ (l : List A). l ++ drop n old) (take_all n (replicate n d) (omega (arith, length-replicate n d)))

-- numbers stored after those that are there, as far as there is room
stored-after : (n : ℕ) (xs done old : List ℕ) → length done + length xs ≤ n → stored_from (length done) xs (lent n 0 done old) ≡ lent n 0 (done ++ xs) old
stored-after n [] done old h = ap (λ (l : List ℕ). lent n 0 l old) (sym (append-nil done))
stored-after n (x ∷ xs) done old h =
    let more : length (done ++ (x ∷ [])) ≡ suc (length done) = length-append done (x ∷ []) ∙ add-one (length done) in
    ap (λ (l : List ℕ). stored_from (suc (length done)) xs l) (lent-more 0 n done old x (omega arith))
    ∙ ap (λ (i : ℕ). stored_from i xs (lent n 0 (done ++ (x ∷ [])) old)) (sym more)
    ∙ stored-after n xs (done ++ (x ∷ [])) old (omega (arith, more))
    ∙ ap (λ (l : List ℕ). lent n 0 l old) (append_snoc done x xs)

pub stored-lent : (n : ℕ) (xs old : List ℕ) → length xs ≤ n → stored_from 0 xs (lent n 0 [] old) ≡ lent n 0 xs old
stored-lent n xs old h = stored-after n xs [] old (omega arith)
