-- A row stored behind others, over the next four of the lent numbers.
use mathlib.Core.Path.{◌≡◌, refl, sym, ap, ap₂, ◌∙◌}
use mathlib.Core.List.{List, [], ◌∷◌, ◌++◌, append_assoc}
use Prim.Native.Nat.{ℕ, suc, ◌+◌, ◌≤◌}
use native.Mathlib.Omega.{arith}
use lib.IntN.{ℤ, pos}
use lib.ListN.{length, set, get_or, take, drop, length-append}
use lib.Seq.{drop-cons, take_at, drop_at, drop-drop}
use borrow.Rule.Slice.PartMut.{put_mid}
use Rattle.read_table.specs.TableRead.{past}

-- four places set one after another, from n on
abbrev pub set_four : List ℤ → ℕ → ℤ → ℤ → ℤ → ℤ → List ℤ
set_four l n k a b c = set (set (set (set l n k) (n + 1) a) (n + 2) b) (n + 3) c

set-four : (zs ys : List ℤ) (w x y z k a b c : ℤ)
    → set (set (set (set (zs ++ (w ∷ x ∷ y ∷ z ∷ ys)) (length zs) k) (suc (length zs)) a) (suc (suc (length zs))) b) (suc (suc (suc (length zs)))) c ≡ zs ++ (k ∷ a ∷ b ∷ c ∷ ys)
set-four [] ys w x y z k a b c = refl
set-four (q ∷ zs) ys w x y z k a b c = ap {B = List ℤ} (λ l. q ∷ l) (set-four zs ys w x y z k a b c)

-- the numbers from a place on, with four before the others
next-four : (lent : List ℤ) (m : ℕ) → m + 4 ≤ length lent
    → drop m lent ≡ get_or lent m (pos 0) ∷ get_or lent (suc m) (pos 0) ∷ get_or lent (suc (suc m)) (pos 0) ∷ get_or lent (suc (suc (suc m))) (pos 0) ∷ drop (suc (suc (suc (suc m)))) lent
next-four lent m h =
    rw (drop-cons lent m (pos 0) (omega arith), drop-cons lent (suc m) (pos 0) (omega arith), drop-cons lent (suc (suc m)) (pos 0) (omega arith), drop-cons lent (suc (suc (suc m))) (pos 0) (omega arith)) refl

pub row-stored : (zs lent : List ℤ) (n : ℕ) (k a b c : ℤ) → n ≡ length zs → n + 4 ≤ length lent → set_four (past zs lent) n k a b c ≡ past (zs ++ (k ∷ a ∷ b ∷ c ∷ [])) lent
row-stored zs lent n k a b c e h =
    let one : n + 1 ≡ suc (length zs) = omega arith in
    let two : n + 2 ≡ suc (suc (length zs)) = omega arith in
    let three : n + 3 ≡ suc (suc (suc (length zs))) = omega arith in
    let after : length (zs ++ (k ∷ a ∷ b ∷ c ∷ [])) ≡ suc (suc (suc (suc (length zs)))) = simp length-append (omega arith) in
    let m = length zs in
    rw (one, two, three, e, after, next-four lent m (omega arith))
    (set-four zs (drop (suc (suc (suc (suc m)))) lent) (get_or lent m (pos 0)) (get_or lent (suc m) (pos 0)) (get_or lent (suc (suc m)) (pos 0)) (get_or lent (suc (suc (suc m))) (pos 0)) k a b c
    ∙ sym (append_assoc zs (k ∷ a ∷ b ∷ c ∷ []) (drop (suc (suc (suc (suc m)))) lent)))

-- the same of a row that is copied over them
pub row-pasted : (zs lent row : List ℤ) (n k : ℕ) → n ≡ length zs → k ≡ length row → put_mid n k (past zs lent) row ≡ past (zs ++ row) lent
row-pasted zs lent row n k e h =
    let end : length zs + length row ≡ length (zs ++ row) = sym (length-append zs row) in
    let front : take n (past zs lent) ≡ zs = take_at zs (drop (length zs) lent) n (sym e) in
    let back : drop k (drop n (past zs lent)) ≡ drop (length (zs ++ row)) lent =
    ap (drop k) (drop_at zs (drop (length zs) lent) n (sym e))
    ∙ ap (λ (m : ℕ). drop m (drop (length zs) lent)) h
    ∙ drop-drop (length row) (length zs) lent
    ∙ ap (λ (m : ℕ). drop m lent) end
    in
    ap₂ (λ (xs ys : List ℤ). xs ++ (row ++ ys)) front back ∙ sym (append_assoc zs row (drop (length (zs ++ row)) lent))
