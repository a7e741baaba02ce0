-- The value by which a token is listed: of a name its row, of a number the number, of an operator its number.
use mathlib.Core.Path.{◌≡◌, refl, sym, ap, ◌∙◌}
use mathlib.Core.Bool.{Bool, true, false, false≢true}
use mathlib.Core.List.{[], ◌∷◌}
use mathlib.Core.Option.{Option, none, some, none-ne-some, some-injective}
use Prim.Native.Nat.{ℕ}
use native.Mathlib.Omega.{arith}
use lib.IntN.{ℤ, pos, negsuc}
use lib.Dec.{eqb, ltb}
use borrow.Author.Tests.{ltb-true}
use Rattle.meaning.specs.Basics.{if_else}
use Rattle.grammar.specs.Grammar.{Token, name, number, arith as operator}
use Rattle.read_tokens.specs.Sorts as sorts
use Rattle.read_tokens.specs.Held.{by_natural, token_by, row_limit, name_of_row}
use Rattle.read_resolved.specs.Resolved.{row_names}
use Rattle.read_resolved.proofs.ResolvedLaws.{row_named}
use Rattle.read_marks.specs.declared.Role.TheVariants.{Operand, RoundOpening, SquareOpening, Closing, Other}
use Rattle.read_marks.specs.Roles.{role_of, is_between}
use Rattle.read_expressions.specs.TokenRows.{rows_by_sort, operator_by_sort}
use Rattle.read_expressions.proofs.Laying.{value_of}

-- whether a token of a sort has a value: a name, a number or an operator
abbrev pub valued : ℕ → Bool
valued s = if_else (eqb s sorts.name) true (if_else (eqb s sorts.number) true (eqb s sorts.arith))

-- it is the value listed
pub value-told : (s : ℕ) (v : ℤ) (t : Token) → token_by name_of_row s v ≡ some t → valued s ≡ true → v ≡ value_of row_names t
unfolding token_by
value-told s v t h g = go (eqb s sorts.name) (eqb s sorts.number) (eqb s sorts.arith) _ h g
  where
    is : (u : Token) → some u ≡ some t → value_of row_names u ≡ value_of row_names t
    is u e = ap (value_of row_names) (some-injective u t e)

    row : (k : ℕ) (b : Bool) → ltb k row_limit ≡ b → if_else b (some (name (k ∷ []))) none ≡ some t → pos k ≡ value_of row_names t
    row k true q e = ap pos (sym (row_named k (let l = ltb-true k row_limit q in omega (arith, l)))) ∙ is (name (k ∷ [])) e
    row k false q e = absurd (none-ne-some t e)

    named : (z : ℤ) → by_natural name_of_row z ≡ some t → z ≡ value_of row_names t
    named (pos k) e = row k (ltb k row_limit) refl e
    named (negsuc k) e = absurd (none-ne-some t e)

    operated : (z : ℤ) → by_natural (λ k. some (operator k)) z ≡ some t → z ≡ value_of row_names t
    operated (pos k) e = is (operator k) e
    operated (negsuc k) e = absurd (none-ne-some t e)

    go : (a b c : Bool) (o : Option Token) → if_else a (by_natural name_of_row v) (if_else b (some (number v)) (if_else c (by_natural (λ k. some (operator k)) v) o)) ≡ some t → if_else a true (if_else b true c) ≡ true
        → v ≡ value_of row_names t
    go true b c o e f = named v e
    go false true c o e f = is (number v) e
    go false false true o e f = operated v e
    go false false false o e f = absurd (false≢true f)

-- a token's rows depend on its value only if it has one
pub rows-valued : (n s : ℕ) (v w : ℤ) (sub : Bool) → (valued s ≡ true → v ≡ w) → rows_by_sort n s v sub ≡ rows_by_sort n s w sub
unfolding rows_by_sort
rows-valued n s v w sub f = go (eqb s sorts.name) refl (eqb s sorts.number) refl
  where
    go : (a : Bool) → eqb s sorts.name ≡ a → (b : Bool) → eqb s sorts.number ≡ b → rows_by_sort n s v sub ≡ rows_by_sort n s w sub
    go true q b r = ap (λ (z : ℤ). rows_by_sort n s z sub) (f (rw q refl))
    go false q true r = ap (λ (z : ℤ). rows_by_sort n s z sub) (f (rw (q, r) refl))
    go false q false r = rw (q, r) refl

-- another token is no operator
no-operator : (a b c d e f : Bool)
    → is_between (if_else a Operand (if_else b Operand (if_else c RoundOpening (if_else d SquareOpening (if_else e Closing (if_else f Closing Other)))))) ≡ false
no-operator true b c d e f = refl
no-operator false true c d e f = refl
no-operator false false true d e f = refl
no-operator false false false true e f = refl
no-operator false false false false true f = refl
no-operator false false false false false true = refl
no-operator false false false false false false = refl

-- and so does an operator's number
pub operator-valued : (s : ℕ) (v w : ℤ) → (valued s ≡ true → v ≡ w) → is_between (role_of s) ≡ true → operator_by_sort s v ≡ operator_by_sort s w
unfolding operator_by_sort role_of
operator-valued s v w f g = go (eqb s sorts.arith) refl (eqb s sorts.minus) refl (eqb s sorts.and) refl (eqb s sorts.or) refl
  where
    last : (a b c : Bool) → c ≡ true → if_else a true (if_else b true c) ≡ true
    last true b c e = refl
    last false true c e = refl
    last false false c e = e

    go : (a : Bool) → eqb s sorts.arith ≡ a → (b : Bool) → eqb s sorts.minus ≡ b → (c : Bool) → eqb s sorts.and ≡ c → (d : Bool) → eqb s sorts.or ≡ d → operator_by_sort s v ≡ operator_by_sort s w
    go true q b i c j d k = ap (operator_by_sort s) (f (last (eqb s sorts.name) (eqb s sorts.number) (eqb s sorts.arith) q))
    go false q true i c j d k = rw i refl
    go false q false i true j d k = rw (i, j) refl
    go false q false i false j true k = rw (i, j, k) refl
    go false q false i false j false k =
        let other = rw (q, i, j, k) at g in
        absurd (false≢true (sym (no-operator (eqb s sorts.name) (eqb s sorts.number) (eqb s sorts.round_open) (eqb s sorts.square_open) (eqb s sorts.round_close) (eqb s sorts.square_close)) ∙ other))
