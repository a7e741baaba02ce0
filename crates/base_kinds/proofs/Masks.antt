-- A set of numbers as a mask: a number is in it if its bit is set.
use mathlib.Core.Path.{◌≡◌, refl, ap, ◌∙◌}
use mathlib.Core.Logic.{⊎_elim}
use mathlib.Core.Bool.{Bool, true, false, ◌||◌, ◌&&◌, or-false}
use mathlib.Core.List.{List, [], ◌∷◌, ◌++◌}
use Prim.Native.Nat.{ℕ, zero, suc, ◌≤◌, ◌<◌}
use native.Mathlib.Nat.{eq-or-lt_of_le, le_of_suc-le-suc}
use native.Mathlib.Omega.{arith}
use lib.IntN.{ℤ}
use lib.Dec.{eqb}
use borrow.Author.Tests.{eq-eqb, ne_eqb}
use Rattle.meaning.specs.Rows.{natural_at}
use Rattle.meaning.specs.Basics.{if_else, any_passes, among, all_below}
use Rattle.meaning.specs.Declarations.{is_channel, has_role}
use Rattle.base_kinds.specs.Table.{in_mask, numbers_in}
use Rattle.base_kinds.proofs.Truth.{and-false}

any_append : {A : Type 0} (p : A → Bool) (l m : List A) → any_passes p (l ++ m) ≡ (any_passes p l || any_passes p m)
unfolding any_passes
any_append p [] m = refl
any_append p (x ∷ l) m = go (p x) (any_append p l m)
  where
    go : (t : Bool) → any_passes p (l ++ m) ≡ (any_passes p l || any_passes p m) → (t || any_passes p (l ++ m)) ≡ ((t || any_passes p l) || any_passes p m)
    go true e = refl
    go false e = e

among-last : (k n : ℕ) (t : Bool) → among k (if_else t (n ∷ []) []) ≡ (t && eqb k n)
unfolding any_passes
among-last k n true = or-false (eqb k n)
among-last k n false = refl

and-true : (t : Bool) → (t && true) ≡ t
and-true true = refl
and-true false = refl

module _ (p : ℕ → Bool) where
  among-more : (k n : ℕ) → among k (all_below p (suc n)) ≡ (among k (all_below p n) || (p n && eqb k n))
  unfolding all_below
  among-more k n =
      any_append (eqb k) (all_below p n) (if_else (p n) (n ∷ []) []) ∙ ap (λ (t : Bool). among k (all_below p n) || t) (among-last k n (p n))

  -- no number from n on is among those below n
  pub among-past : (k n : ℕ) → n ≤ k → among k (all_below p n) ≡ false
  unfolding all_below any_passes
  among-past k zero h = refl
  among-past k (suc n) h =
      among-more k n ∙ rw (among-past k n (omega arith), ne_eqb k n (λ e. omega arith)) (and-false (p n))

  -- one below n is, if it passes the test
  pub among_below : (k n : ℕ) → k < n → among k (all_below p n) ≡ p k
  among_below k zero h = absurd (omega arith)
  among_below k (suc n) h =
      among-more k n
      ∙ ⊎_elim
      (λ e. rw (e, among-past n n (omega arith), eq-eqb n n refl) (and-true (p n)))
      (λ l. rw (among_below k n l, ne_eqb k n (λ e. omega arith), and-false (p n)) (or-false (p k)))
      (eq-or-lt_of_le (le_of_suc-le-suc h))

pub in-mask : (mask k : ℕ) → k < 64 → among k (numbers_in mask) ≡ in_mask mask k
unfolding numbers_in
in-mask mask k h = among_below (in_mask mask) k 64 h

pub past-mask : (mask k : ℕ) → 64 ≤ k → among k (numbers_in mask) ≡ false
unfolding numbers_in
past-mask mask k h = among-past (in_mask mask) k 64 h

-- a channel of one of some roles
pub one-of-roles : (rows : List ℤ) (q : ℕ) (roles : List ℕ) → any_passes (λ role. has_role role rows q) roles ≡ (is_channel rows q && among (natural_at rows q 2) roles)
unfolding any_passes
one-of-roles rows q roles = go (is_channel rows q) roles
  where
    go : (t : Bool) (roles : List ℕ) → any_passes (λ role. t && eqb (natural_at rows q 2) role) roles ≡ (t && among (natural_at rows q 2) roles)
    go true roles = refl
    go false [] = refl
    go false (x ∷ roles) = go false roles
