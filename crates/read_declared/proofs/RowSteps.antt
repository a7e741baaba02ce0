-- The rows of declarations, one by one.
use mathlib.Core.Path.{◌≡◌, refl, sym, ap, ap₂, ◌∙◌}
use mathlib.Core.List.{List, [], ◌∷◌, ◌++◌, map, flatten, map-append, append-nil, append_assoc}
use Prim.Native.Nat.{ℕ, suc, ◌+◌, ◌-◌, ◌*◌, ◌≤◌}
use native.Mathlib.Omega.{arith}
use lib.IntN.{ℤ}
use lib.ListN.{length, take, drop, length-append}
use lib.Seq.{sets, take-length}
use borrow.Rule.Slice.PartMut.{put_mid}
use Rattle.std.proofs.lemmas.List.Edits.{sets-eq}
use Rattle.std.proofs.lemmas.Slice.{put_mid-paste}
use Rattle.grammar.specs.Outline.{Declaration, variable, channel, source, sink}
use Rattle.grammar.specs.TextRows.{declaration_row}
use Rattle.read_table.specs.TableRead.{past}
use Rattle.read_table.proofs.RowStored.{set_four, row-stored}

-- the rows of some declarations
abbrev pub rows_of : List Declaration → List ℤ
rows_of ds = flatten (map declaration_row ds)

row_sized : (d : Declaration) → length (declaration_row d) ≡ 4
row_sized (variable z n) = refl
row_sized (channel z n) = refl
row_sized (source n) = refl
row_sized (sink z n) = refl

flatten-append : (xs ys : List (List ℤ)) → flatten (xs ++ ys) ≡ flatten xs ++ flatten ys
unfolding flatten
flatten-append [] ys = refl
flatten-append (x ∷ xs) ys = ap (λ (zs : List ℤ). x ++ zs) (flatten-append xs ys) ∙ sym (append_assoc x (flatten xs) (flatten ys))

-- four places set one after another
four-set : (l : List ℤ) (n : ℕ) (k a b c : ℤ) → set_four l n k a b c ≡ sets l n (k ∷ a ∷ b ∷ c ∷ [])
four-set l n k a b c =
    let one : n + 1 ≡ suc n = omega arith in
    let two : n + 2 ≡ suc (suc n) = omega arith in
    let three : n + 3 ≡ suc (suc (suc n)) = omega arith in
    rw (one, two, three) refl

-- four numbers copied over a part
pub row-copied : (l : List ℤ) (n : ℕ) (ws vs : List ℤ) → ws ≡ vs → length vs ≡ 4 → n + 4 ≤ length l → put_mid n (n + 4 - n) l ws ≡ sets l n vs
row-copied l n ws vs is e h =
    put_mid-paste n (n + 4 - n) l ws vs 4 is (omega arith) (sym e)
    ∙ ap₂ (λ (xs : List ℤ) (k : ℕ). take n l ++ xs ++ drop (n + k) l) (ap (λ (k : ℕ). take k vs) (sym e) ∙ take-length vs) (sym e)
    ∙ sym (sets-eq vs l n (omega arith))

-- the rows of some and of one more
rows_more : (ds : List Declaration) (d : Declaration) → rows_of (ds ++ (d ∷ [])) ≡ rows_of ds ++ declaration_row d
unfolding flatten
rows_more ds d =
    ap flatten (map-append declaration_row ds (d ∷ []))
    ∙ flatten-append (map declaration_row ds) (declaration_row d ∷ [])
    ∙ ap (λ (l : List ℤ). rows_of ds ++ l) (append-nil (declaration_row d))

-- four numbers for each
rows-sized : (ds : List Declaration) → length (rows_of ds) ≡ 4 * length ds
unfolding flatten
rows-sized [] = refl
rows-sized (d ∷ ds) =
    let e = length-append (declaration_row d) (rows_of ds) in
    let f = row_sized d in
    let i = rows-sized ds in
    omega (arith, e, f, i)

-- one more row is written
row-put : (lent : List ℤ) (ds : List Declaration) (d : Declaration) (k a b c : ℤ) → 4 * length ds + 4 ≤ length lent → k ∷ a ∷ b ∷ c ∷ [] ≡ declaration_row d
    → sets (past (rows_of ds) lent) (4 * length ds) (k ∷ a ∷ b ∷ c ∷ []) ≡ past (rows_of (ds ++ (d ∷ []))) lent
row-put lent ds d k a b c m e =
    sym (four-set (past (rows_of ds) lent) (4 * length ds) k a b c)
    ∙ row-stored (rows_of ds) lent (4 * length ds) k a b c (sym (rows-sized ds)) m
    ∙ ap (λ (l : List ℤ). past l lent) (ap (λ (l : List ℤ). rows_of ds ++ l) e ∙ sym (rows_more ds d))

pub rows_written : (lent : List ℤ) (ds : List Declaration) (d : Declaration) → 4 * length ds + 4 ≤ length lent
    → sets (past (rows_of ds) lent) (4 * length ds) (declaration_row d) ≡ past (rows_of (ds ++ (d ∷ []))) lent
rows_written lent ds (variable z n) m = row-put lent ds (variable z n) _ _ _ _ m refl
rows_written lent ds (channel z n) m = row-put lent ds (channel z n) _ _ _ _ m refl
rows_written lent ds (source n) m = row-put lent ds (source n) _ _ _ _ m refl
rows_written lent ds (sink z n) m = row-put lent ds (sink z n) _ _ _ _ m refl
