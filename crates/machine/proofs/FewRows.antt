-- A process has no more rows than the table: they are each another, and below the table's number of rows.
use mathlib.Core.Path.{◌≡◌, refl, sym, ap, ◌∙◌}
use mathlib.Core.Logic.{◌≢◌, ⊎_elim}
use mathlib.Core.Bool.{Bool, true, false}
use mathlib.Core.List.Memᴰ
use mathlib.Core.List.{List, [], ◌∷◌, ◌++◌, Memᴰ}
use Prim.Native.Nat.{ℕ, zero, suc, ◌<◌, ◌≤◌}
use native.Mathlib.Omega.{arith}
use lib.ListN.{length}
use lib.Dec.{eqb}
use borrow.Author.Tests.{eqb-true, eqb-false, ne_eqb}
use Rattle.meaning.specs.Basics.{if_else}
use Rattle.meaning.specs.Tree.{Process, node, Processes, empty, also, rows_in, rows_beneath}
use Rattle.agreement.proofs.Again.{Out, Sound, SoundM}
use Rattle.agreement.proofs.Frame.{Off}
use Rattle.machine.specs.Came.{Distinct}
use Rattle.machine.proofs.HeldSteps.{row_below}

-- a list without x
abbrev without : ℕ → List ℕ → List ℕ
without x [] = []
without x (y ∷ l) = let m = without x l in if_else (eqb x y) m (y ∷ m)

without_in : (x : ℕ) (l : List ℕ) (z : ℕ) → Memᴰ z (without x l) → Memᴰ z l × (z ≢ x)
without_in x [] z m = absurd (Memᴰ.not-nil m)
without_in x (y ∷ l) z m = go (eqb x y) refl (without_in x l z) m
  where
    go : (t : Bool) → eqb x y ≡ t → (Memᴰ z (without x l) → Memᴰ z l × (z ≢ x)) → Memᴰ z (if_else t (without x l) (y ∷ without x l)) → Memᴰ z (y ∷ l) × (z ≢ x)
    go true e f m = (Memᴰ.tail (f m).0, (f m).1)
    go false e f (Memᴰ.head h) = (Memᴰ.head h, λ q. eqb-false x y e (sym q ∙ h))
    go false e f (Memᴰ.tail m) = (Memᴰ.tail (f m).0, (f m).1)

without-distinct : (x : ℕ) (l : List ℕ) → Distinct l → Distinct (without x l)
without-distinct x [] d = tt
without-distinct x (y ∷ l) d = go (eqb x y) (without-distinct x l d.1)
  where
    go : (t : Bool) → Distinct (without x l) → Distinct (if_else t (without x l) (y ∷ without x l))
    go true f = f
    go false f = (λ m. d.0 (without_in x l y m).0, f)

-- where x is not in it, nothing is lost
without-none : (x : ℕ) (l : List ℕ) → Out x l → without x l ≡ l
without-none x [] o = refl
without-none x (y ∷ l) o =
    rw (ne_eqb x y (λ e. o (Memᴰ.head e))) (ap (λ (m : List ℕ). y ∷ m) (without-none x l (λ m. o (Memᴰ.tail m))))

without-length : (x : ℕ) (l : List ℕ) → Distinct l → length l ≤ suc (length (without x l))
without-length x [] d = omega arith
without-length x (y ∷ l) d = go (eqb x y) refl (without-length x l d.1)
  where
    go : (t : Bool) → eqb x y ≡ t → length l ≤ suc (length (without x l)) → length (y ∷ l) ≤ suc (length (if_else t (without x l) (y ∷ without x l)))
    go true e h = omega (arith, ap length (without-none x l (λ m. d.0 (Memᴰ.cast (sym (eqb-true x y e)) m))))
    go false e h = omega arith

-- there are at most n numbers below n
few-below : (n : ℕ) (l : List ℕ) → Distinct l → ((y : ℕ) → Memᴰ y l → y < n) → length l ≤ n
few-below zero [] d h = omega arith
few-below zero (y ∷ l) d h = absurd (omega (arith, h y (Memᴰ.head refl)))
few-below (suc n) l d h =
    let rest : length (without n l) ≤ n = few-below n (without n l) (without-distinct n l d) (λ y m. let (q, ne) = without_in n l y m in less y (h y q) ne) in
    omega (arith, without-length n l d)
  where
    less : (y : ℕ) → y < suc n → y ≢ n → y < n
    less y q ne = omega (arith, ne)

pub distinct-both : (l m : List ℕ) → Distinct l → Distinct m → Off l m → Distinct (l ++ m)
distinct-both [] m d e o = e
distinct-both (x ∷ l) m d e o = (λ q. ⊎_elim d.0 (o x (Memᴰ.head refl)) (Memᴰ.append_cases l q), distinct-both l m d.1 e (λ y q. o y (Memᴰ.tail q)))

mutual
  rows-distinct : (p : Process) (n : ℕ) → Sound p n → Distinct (rows_in p)
  rows-distinct (node k r ms) n d = (d.1, beneath-distinct ms n d.2)

  beneath-distinct : (ms : Processes) (n : ℕ) → SoundM ms n → Distinct (rows_beneath ms)
  beneath-distinct empty n d = tt
  beneath-distinct (also p ms) n d = distinct-both (rows_in p) (rows_beneath ms) (rows-distinct p n d.0) (beneath-distinct ms n d.1) d.2

pub rows_few : (p : Process) (n : ℕ) → Sound p n → length (rows_in p) ≤ n
rows_few p n d = few-below n (rows_in p) (rows-distinct p n d) (λ y m. row_below p n y d m)
