-- The rows that a token of an expression brings, by its sort and value: they are written as soon as it is read.
use Rattle.std.specs.Prelude.{Bool, false, List, [], ◌∷◌, ◌++◌, ℕ, suc, ℤ, pos, eqb}
use Rattle.meaning.specs.Basics.{if_else}
use Rattle.read_tokens.specs.Sorts as sorts

-- the numbers of a row
abbrev pub fields : ℕ → ℤ → ℤ → ℤ → List ℤ
fields k a b c = pos k ∷ a ∷ b ∷ c ∷ []

-- the rows of a name that means row r, from row n on: of a bare name also the subscript 0
abbrev pub name_rows : ℤ → ℕ → Bool → List ℤ
name_rows r n sub = if_else sub (fields 11 r (pos (suc n)) (pos 0)) (fields 11 r (pos (suc n)) (pos 0) ++ fields 10 (pos 0) (pos 0) (pos 0))

-- how many they are
abbrev pub name_size : Bool → ℕ
name_size sub = if_else sub 1 2

-- the row of an operator before its operand
abbrev pub monadic_row : ℕ → ℕ → List ℤ
monadic_row k n = fields 12 (pos k) (pos (suc n)) (pos 0)

-- the row of an operator between operands, at row h; the second operand begins at row n
abbrev pub dyadic_row : ℤ → ℕ → ℕ → List ℤ
dyadic_row k h n = fields 13 k (pos (suc h)) (pos n)

-- by the sort of a token where an operand is wanted: a name, a number, an operator before its operand, another
abbrev pub by_sort : {A : Type 0} → ℕ → A → A → (ℕ → A) → A → A
by_sort s named numbered monadic other =
    if_else (eqb s sorts.name) named (if_else (eqb s sorts.number) numbered (if_else (eqb s sorts.minus) (monadic 0) (if_else (eqb s sorts.not) (monadic 1) (if_else (eqb s sorts.given) (monadic 2) other))))

-- the rows of a token where an operand is wanted, from row n on: by its sort and value, and whether a subscript follows
unfoldable pub rows_by_sort : ℕ → ℕ → ℤ → Bool → List ℤ
rows_by_sort n s v sub = by_sort s (name_rows v n sub) (fields 10 v (pos 0) (pos 0)) (λ k. monadic_row k n) []

-- how many they are
unfoldable pub size_by_sort : ℕ → Bool → ℕ
size_by_sort s sub = by_sort s (name_size sub) 1 (λ k. 1) 0

-- the number of an operator between operands
unfoldable pub operator_by_sort : ℕ → ℤ → ℤ
operator_by_sort s v = if_else (eqb s sorts.minus) (pos 1) (if_else (eqb s sorts.and) (pos 14) (if_else (eqb s sorts.or) (pos 15) v))

-- whether the first of some sorts begins a subscript
unfoldable pub subscripted : List ℕ → Bool
subscripted [] = false
subscripted (s ∷ ss) = eqb s sorts.square_open
