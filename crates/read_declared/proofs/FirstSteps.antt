-- The first token of a sort.
use mathlib.Core.Path.{◌≡◌, refl, sym, ap, subst, ◌∙◌}
use mathlib.Core.Bool.{Bool, not, true, false, cond}
use mathlib.Core.List.{List}
use Prim.Native.Nat.{ℕ, suc, ◌+◌, ◌≤◌, ◌<◌}
use native.Mathlib.Omega.{arith}
use lib.IntN.{ℤ, pos, nat_abs}
use lib.Signed.{non_neg}
use lib.ListN.{length, get_or}
use lib.Dec.{T, eqb, ltb}
use mir.Syntax.{w32, w64}
use mir.Val.{Fits, SFits, to_z, of_z}
use mir.ValLaws.{to_z-of_z}
use borrow.Author.Tests.{lt-ltb, le-ltb}
use Rattle.std.proofs.lemmas.Grind.{common_steps}
use Rattle.std.specs.Prelude.{Some, None}
use Rattle.std.proofs.lemmas.List.Sums.{prefix_len-le-length}
use Rattle.std.specs.List.{position, position_or_len}
use Rattle.std.specs.Option.{unwrap_or}
use Rattle.std.proofs.lemmas.List.Recursion.{is_position_or_len}
use Rattle.meaning.specs.Basics.{if_else}
use Rattle.read_tokens.specs.Sorts as sorts
use Rattle.read_declared.specs.Firsts.{place_of_sort, number_in}

-- the place as the library's `position` finds it
one-more : (b : Bool) (n : ℕ) → if_else b 0 (suc n) ≡ cond b 0 (1 + n)
one-more true n = refl
one-more false n = omega arith

by-library : (s : ℕ) (ss : List ℕ) → place_of_sort s ss ≡ position_or_len (λ (t : ℕ). eqb t s) ss
unfolding place_of_sort
by-library s ss = is_position_or_len (place_of_sort s) (λ (t : ℕ). eqb t s) refl (λ t ts. one-more (eqb t s) (place_of_sort s ts)) ss

or-end : (p n : ℕ) → p ≤ n → unwrap_or (cond (ltb p n) (Some p) None) n ≡ p
or-end p n h = grind (arith, common_steps)

pub place-position : (s : ℕ) (ss : List ℕ) → unwrap_or (position (λ (t : ℕ). eqb t s) ss) (length ss) ≡ place_of_sort s ss
place-position s ss =
    let p = position_or_len (λ (t : ℕ). eqb t s) ss in
    let short : p ≤ length ss = prefix_len-le-length (λ (t : ℕ). not (eqb t s)) ss in
    or-end p (length ss) short ∙ sym (by-library s ss)

module _ (ss : List ℕ) (vs : List ℤ) (at : ℕ) (is : at ≡ place_of_sort sorts.number ss) where
  -- there is a number
  pub number-there : at < length ss → get_or vs at (pos 0) ≡ number_in ss vs
  unfolding number_in
  number-there h = sym (ap (λ (n : ℕ). if_else (ltb n (length ss)) (get_or vs n (pos 0)) (pos 1)) (sym is) ∙ ap (λ (b : Bool). if_else b (get_or vs at (pos 0)) (pos 1)) (lt-ltb at (length ss) h))

  -- there is none
  pub number-absent : length ss ≤ at → pos 1 ≡ number_in ss vs
  unfolding number_in
  number-absent h = sym (ap (λ (n : ℕ). if_else (ltb n (length ss)) (get_or vs n (pos 0)) (pos 1)) (sym is) ∙ ap (λ (b : Bool). if_else b (get_or vs at (pos 0)) (pos 1)) (le-ltb at (length ss) h))

-- a number that is not negative, as a place
module _ (v : ℤ) (k : ℕ) (f : SFits w32 v) (e : v ≡ pos k) where
  pub natural-is : nat_abs (to_z w32 (of_z w32 v)) ≡ k
  natural-is = rw (to_z-of_z w32 v f, e) refl

  pub natural-cast : T (non_neg (to_z w32 (of_z w32 v))) × Fits w64 (nat_abs (to_z w32 (of_z w32 v)))
  natural-cast = rw (to_z-of_z w32 v f, e) (tt, record { fits = let g = (subst (SFits w32) e f).sfits in omega (arith, g) })
