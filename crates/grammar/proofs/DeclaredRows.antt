-- The declarations of a text and their rows: each line that declares has its place among them, and a name's row is that of a declaration of the name.
use mathlib.Core.Path.{◌≡◌, refl, sym, ap, subst, ◌∙◌}
use mathlib.Core.Bool.{Bool, true, false, false≢true}
use mathlib.Core.Logic.{◌⊎◌, inl, inr, ⊎_elim}
use mathlib.Core.List.Memᴰ
use mathlib.Core.List.{List, [], ◌∷◌, ◌++◌, map, flatten, Memᴰ}
use mathlib.Core.Option.{Option, none, some, none-ne-some, some-injective}
use Prim.Native.Nat.{ℕ, zero, suc, ◌+◌, ◌*◌, ◌<◌}
use native.Mathlib.Omega.{arith}
use lib.IntN.{ℤ, pos}
use lib.ListN.{length, get_or, get_elem?, get_or-append}
use Rattle.meaning.specs.Basics.{if_else}
use Rattle.meaning.specs.Lines.{same}
use Rattle.meaning.specs.Rows.{natural_of, field_at, natural_at}
use Rattle.meaning.specs.Declarations as table
use Rattle.meaning.specs.Faults.{MayHold}
use Rattle.meaning.proofs.LentLaws.{entry-is}
use Rattle.meaning.proofs.NoFault.{same_refl, same-is}
use Rattle.grammar.specs.Outline.{Declaration, OutlineLine, declare, Lined, lined}
use Rattle.grammar.specs.Names.{Sort, name_of, declaration_in}
use Rattle.grammar.specs.NameClaims.{Serves, variable-serves, channel-gives, channel-takes, source-gives, sink-takes}
use Rattle.grammar.specs.TextRows.{declaration_row, if_declared, first, of_block, declarations, name_row}
use Rattle.grammar.proofs.NamesExact.{declared-line}
use Rattle.grammar.proofs.RowsRead.{four, rows-sized, past}
use Rattle.grammar.proofs.ExpressionsRight.{field_for}

-- Lists -----------------------------------------------------------------------------------------------------------------------------

module _ {A : Type 0} where
  -- what stands at a place is an element, and an element stands at a place
  pub entry_in : (l : List A) (i : ℕ) (v : A) → get_elem? l i ≡ some v → Memᴰ v l
  entry_in [] i v e = absurd (none-ne-some v e)
  entry_in (x ∷ l) zero v e = Memᴰ.head (sym (some-injective x v e))
  entry_in (x ∷ l) (suc i) v e = Memᴰ.tail (entry_in l i v e)

  pub in_entry : (l : List A) (v : A) → Memᴰ v l → (i : ℕ) × (get_elem? l i ≡ some v)
  in_entry [] v m = absurd (Memᴰ.not-nil m)
  in_entry (x ∷ l) v m = ⊎_elim (λ e. (0, ap some (sym e))) (λ r. let (i, h) = in_entry l v r in (suc i, h)) (Memᴰ.cases_cons m)

module _ {A B : Type 0} (f : A → List B) where
  in-flatten : (l : List A) (x : A) (y : B) → Memᴰ x l → Memᴰ y (f x) → Memᴰ y (flatten (map f l))
  unfolding flatten
  in-flatten [] x y m k = absurd (Memᴰ.not-nil m)
  in-flatten (w ∷ l) x y m k =
      ⊎_elim (λ e. Memᴰ.append_left (flatten (map f l)) (subst (λ (v : A). Memᴰ y (f v)) e k)) (λ r. Memᴰ.append_right (f w) (in-flatten l x y r k)) (Memᴰ.cases_cons m)

  from-flatten : (l : List A) (y : B) → Memᴰ y (flatten (map f l)) → (x : A) × Memᴰ x l × Memᴰ y (f x)
  unfolding flatten
  from-flatten [] y m = absurd (Memᴰ.not-nil m)
  from-flatten (w ∷ l) y m = ⊎_elim (λ k. (w, Memᴰ.head refl, k)) (λ r. let (x, h, k) = from-flatten l y r in (x, Memᴰ.tail h, k)) (Memᴰ.append_cases (f w) m)

-- Lines that declare ----------------------------------------------------------------------------------------------------------------

pub listed : (ls : List Lined) (l : ℕ) (d : Declaration) → Memᴰ (lined l (declare d)) ls → Memᴰ d (declarations ls)
listed ls zero d m = Memᴰ.append_left (flatten (map of_block ls)) (in-flatten first ls (lined 0 (declare d)) d m (Memᴰ.head refl))
listed ls (suc l) d m = Memᴰ.append_right (flatten (map first ls)) (in-flatten of_block ls (lined (suc l) (declare d)) d m (Memᴰ.head refl))

declared-there : (x : OutlineLine) (d : Declaration) → Memᴰ d (if_declared (declaration_in x)) → x ≡ declare d
declared-there x d m = go (declaration_in x) refl m
  where
    go : (o : Option Declaration) → declaration_in x ≡ o → Memᴰ d (if_declared o) → x ≡ declare d
    go none e k = absurd (Memᴰ.not-nil k)
    go (some c) e k = declared-line x d (e ∙ ap some (sym (Memᴰ.eq_of_singleton k)))

pub on-a-line : (ls : List Lined) (d : Declaration) → Memᴰ d (declarations ls) → (l : ℕ) × Memᴰ (lined l (declare d)) ls
on-a-line ls d m = ⊎_elim before within (Memᴰ.append_cases (flatten (map first ls)) m)
  where
    in-first : (y : Lined) → Memᴰ y ls → Memᴰ d (first y) → (l : ℕ) × Memᴰ (lined l (declare d)) ls
    in-first (lined zero x) k h = (0, subst (λ (w : OutlineLine). Memᴰ (lined 0 w) ls) (declared-there x d h) k)
    in-first (lined (suc l) x) k h = absurd (Memᴰ.not-nil h)

    in_block : (y : Lined) → Memᴰ y ls → Memᴰ d (of_block y) → (l : ℕ) × Memᴰ (lined l (declare d)) ls
    in_block (lined zero x) k h = absurd (Memᴰ.not-nil h)
    in_block (lined (suc l) x) k h = (suc l, subst (λ (w : OutlineLine). Memᴰ (lined (suc l) w) ls) (declared-there x d h) k)

    before : Memᴰ d (flatten (map first ls)) → (l : ℕ) × Memᴰ (lined l (declare d)) ls
    before h = let (y, k, g) = from-flatten first ls d h in in-first y k g

    within : Memᴰ d (flatten (map of_block ls)) → (l : ℕ) × Memᴰ (lined l (declare d)) ls
    within h = let (y, k, g) = from-flatten of_block ls d h in in_block y k g

-- a name that is declared has the row of a declaration of that name
pub place_of : (ds : List Declaration) (d : Declaration) → Memᴰ d ds → (c : Declaration) × (get_elem? ds (name_row (map name_of ds) (name_of d)) ≡ some c) × (name_of c ≡ name_of d)
unfolding name_row
place_of [] d m = absurd (Memᴰ.not-nil m)
place_of (b ∷ ds) d m = go (same (name_of d) (name_of b)) refl (Memᴰ.cases_cons m) (place_of ds d)
  where
    go : (t : Bool) → same (name_of d) (name_of b) ≡ t → (d ≡ b) ⊎ Memᴰ d ds
        → (Memᴰ d ds → (c : Declaration) × (get_elem? ds (name_row (map name_of ds) (name_of d)) ≡ some c) × (name_of c ≡ name_of d))
        → (c : Declaration) × (get_elem? (b ∷ ds) (if_else t 0 (suc (name_row (map name_of ds) (name_of d)))) ≡ some c) × (name_of c ≡ name_of d)
    go true q k later = (b, refl, sym (same-is (name_of d) (name_of b) q))
    go false q (inl e) later = absurd (false≢true (sym q ∙ ap (λ (c : Declaration). same (name_of d) (name_of c)) (sym e) ∙ same_refl (name_of d)))
    go false q (inr k) later = later k

-- Their rows ------------------------------------------------------------------------------------------------------------------------

row_in : (ds : List Declaration) (q : ℕ) (d : Declaration) (j : ℕ) → j < 4 → get_elem? ds q ≡ some d → field_at (flatten (map declaration_row ds)) q j ≡ get_or (declaration_row d) j (pos 0)
unfolding flatten
row_in [] q d j l e = absurd (none-ne-some d e)
row_in (c ∷ ds) zero d j l e =
    let i : 4 * 0 + j ≡ j = omega arith in
    let D = flatten (map declaration_row ds) in
    ap (λ (n : ℕ). get_or (declaration_row c ++ D) n (pos 0)) i ∙ get_or-append (declaration_row c) D (pos 0) j (omega (arith, l, four c))
    ∙ ap (λ (b : Declaration). get_or (declaration_row b) j (pos 0)) (some-injective c d e)
row_in (c ∷ ds) (suc q) d j l e =
    let i : 4 * suc q + j ≡ suc (suc (suc (suc (4 * q + j)))) = omega arith in
    let D = flatten (map declaration_row ds) in
    ap (λ (n : ℕ). get_or (declaration_row c ++ D) n (pos 0)) i ∙ past c D (4 * q + j) ∙ row_in ds q d j l e

module _ (ds : List Declaration) (rest : List ℤ) (counted : table.declarations (flatten (map declaration_row ds) ++ rest) ≡ length ds) where
  abbrev rows : List ℤ
  rows = flatten (map declaration_row ds) ++ rest

  abbrev At : ℕ → Declaration → Type 0
  At q d = get_elem? ds q ≡ some d

  declaration-there : (q : ℕ) (d : Declaration) → At q d → q < table.declarations rows
  declaration-there q d e = omega (arith, counted, (entry-is ds q d d e).0)

  number-there : (q : ℕ) (d : Declaration) → At q d → (j : ℕ) → j < 4 → natural_at rows q j ≡ natural_of (get_or (declaration_row d) j (pos 0))
  number-there q d e j l =
      ap natural_of (get_or-append (flatten (map declaration_row ds)) rest (pos 0) (4 * q + j) (omega (arith, l, (entry-is ds q d d e).0, rows-sized ds)) ∙ row_in ds q d j l e)

  -- a declaration that serves for a use has a row that may be named so
  pub may-be-named : (q : ℕ) (d : Declaration) (s : Sort) → At q d → Serves d s → MayHold rows 0 (field_for s) (pos q)
  unfolding MayHold
  may-be-named q d s e variable-serves = (q, (refl, declaration-there q _ e, number-there q _ e 0 (omega arith)))
  may-be-named q d s e channel-gives = (q, (refl, declaration-there q _ e, number-there q _ e 0 (omega arith)), (0, Memᴰ.head refl, number-there q _ e 2 (omega arith)))
  may-be-named q d s e channel-takes = (q, (refl, declaration-there q _ e, number-there q _ e 0 (omega arith)), (0, Memᴰ.head refl, number-there q _ e 2 (omega arith)))
  may-be-named q d s e source-gives = (q, (refl, declaration-there q _ e, number-there q _ e 0 (omega arith)), (1, Memᴰ.tail (Memᴰ.head refl), number-there q _ e 2 (omega arith)))
  may-be-named q d s e sink-takes = (q, (refl, declaration-there q _ e, number-there q _ e 0 (omega arith)), (2, Memᴰ.tail (Memᴰ.head refl), number-there q _ e 2 (omega arith)))
