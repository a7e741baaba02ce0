-- Rows written token by token: each token brings its rows, and a row is left free before an operand that an operator follows; the operator fills it.
use mathlib.Core.Path.{◌≡◌, refl, sym, ap, subst, ◌∙◌}
use mathlib.Core.Bool.{Bool, true, false, false≢true}
use mathlib.Core.List.{List, [], ◌∷◌, ◌++◌, map, append_assoc, append-nil}
use Prim.Native.Nat.{ℕ, suc, ◌+◌, ◌*◌, ◌≤◌, ◌<◌}
use native.Mathlib.Omega.{arith}
use lib.IntN.{ℤ, pos}
use lib.Dec.{eqb}
use lib.ListN.{length}
use borrow.Author.Tests.{eqb-true}
use Rattle.meaning.specs.Basics.{if_else}
use Rattle.base_top_down.specs.Forms.{form_size, rows_from}
use Rattle.base_top_down.proofs.Flat.{flat-length}
use Rattle.grammar.specs.Grammar.{Link, both, either, Token, name, number, minus, not-word, given, arith as operator, joins, round-open, round-close, square-open, square-close, mark, Syn, literal, bare, at, monadic, dyadic, link_number, Before, minus-before, not-before, Between, minus-between, arith-between, alone, subscripted as with-subscript, element, numeral, bracketed, Phrase, plain, prefixed, asked, paired, chained, last-operand, more}
use Rattle.grammar.specs.TextRows.{name_row, expression_form}
use Rattle.read_tokens.specs.Held.{token_sort}
use Rattle.read_marks.specs.declared.Role.{Role}
use Rattle.read_marks.specs.declared.Role.TheVariants as roles
use Rattle.read_expressions.specs.Overlay.{overlay}
use Rattle.read_marks.specs.Roles.{role_of, had_after, is_between}
use Rattle.read_marks.specs.Follows.{follows}
use Rattle.read_expressions.specs.TokenRows.{name_rows, monadic_row, dyadic_row, rows_by_sort, size_by_sort, operator_by_sort, subscripted}
use Rattle.read_expressions.proofs.OverlayLaws.{overlay-length, overlay-nothing, overlay-after, overlay-before}
use Rattle.read_marks.proofs.FollowLaws.{token_role, followed, Joining, joining-link, joining-between, Ended, at-end, at-round, at-square, at-operator, told-alone, told-number, told-subscript, told-bracket}
use Rattle.read_expressions.proofs.FormRows.{size_of, rows_of, rows-bare, rows_at, rows-monadic, rows-dyadic}

-- the value of a token: of a name the row that it means
abbrev pub value_of : List (List ℕ) → Token → ℤ
value_of names (name n) = pos (name_row names n)
value_of names (number z) = z
value_of names minus = pos 0
value_of names not-word = pos 0
value_of names given = pos 0
value_of names (operator k) = pos k
value_of names (joins l) = pos 0
value_of names round-open = pos 0
value_of names round-close = pos 0
value_of names square-open = pos 0
value_of names square-close = pos 0
value_of names (mark m) = pos 0

-- the rows of a token where an operand is wanted, from row n on
abbrev pub token_rows : List (List ℕ) → ℕ → Token → Bool → List ℤ
token_rows names n t sub = rows_by_sort n (token_sort t) (value_of names t) sub

-- how many they are
abbrev pub token_size : Token → Bool → ℕ
token_size t sub = size_by_sort (token_sort t) sub

-- the number of a token that is an operator between operands
abbrev pub operator_of : List (List ℕ) → Token → ℤ
operator_of names t = operator_by_sort (token_sort t) (value_of names t)

-- whether the next of some tokens begins a subscript
abbrev pub subscript_next : List Token → Bool
subscript_next ts = subscripted (map token_sort ts)

-- the first row of an operand, and the free rows, by whether an operator follows it
abbrev pub first_row : Bool → ℕ → ℕ
first_row b n = if_else b (suc n) n

abbrev pub free_rows : Bool → ℕ → List ℕ → List ℕ
free_rows b n hs = if_else b (n ∷ hs) hs

module _ (names : List (List ℕ)) (limit end : ℕ) (out : List ℤ) where
  -- a token after an operand: an operator takes the last free row
  abbrev pub Takes : Role → ℤ → List ℕ → ℕ → List ℤ → (List ℕ → List ℤ → Type 0) → Type 0
  Takes roles.Operand k hs n rows later = later hs rows
  Takes roles.RoundOpening k hs n rows later = later hs rows
  Takes roles.SquareOpening k hs n rows later = later hs rows
  Takes roles.Closing k hs n rows later = later hs rows
  Takes roles.Between k [] n rows later = ⊥
  Takes roles.Between k (h ∷ hs) n rows later = (h < limit) × later hs (overlay rows (4 * h) (dyadic_row k h n))
  Takes roles.Other k hs n rows later = later hs rows

  -- the tokens bring the rows to their end, below the limit: by whether an operand has been read, the free rows, the next row and the rows so far
  unfoldable pub Lays : Bool → List ℕ → ℕ → List ℤ → List Token → Type 0
  Lays had hs n rows [] = (n ≡ end) × (rows ≡ out)
  Lays false hs n rows (t ∷ ts) =
      (first_row (followed (t ∷ ts)) n + token_size t (subscript_next ts) ≤ limit)
      × Lays (had_after (token_role t)) (free_rows (followed (t ∷ ts)) n hs) (first_row (followed (t ∷ ts)) n + token_size t (subscript_next ts)) (overlay rows (4 * first_row (followed (t ∷ ts)) n) (token_rows names (first_row (followed (t ∷ ts)) n) t (subscript_next ts))) ts
  Lays true hs n rows (t ∷ ts) = Takes (token_role t) (operator_of names t) hs n rows (λ gs laid. Lays (had_after (token_role t)) gs n laid ts)

  -- equal states
  carry : (b : Bool) (hs : List ℕ) (us : List Token) (n m : ℕ) (r s : List ℤ) → n ≡ m → r ≡ s → Lays b hs m s us → Lays b hs n r us
  carry b hs us n m r s e f w = subst (λ (k : ℕ). Lays b hs k r us) (sym e) (subst (λ (q : List ℤ). Lays b hs m q us) (sym f) w)

  -- the rows of an operand are laid, after a free row if an operator follows; those of a phrase
  abbrev OperandLays : List Token → Syn → Type 0
  OperandLays ts e = (b : Bool) (us : List Token) → Ended b us → (hs : List ℕ) (n : ℕ) (rows : List ℤ) → first_row b n + size_of names e ≤ limit → 4 * limit ≤ length rows
      → Lays true (free_rows b n hs) (first_row b n + size_of names e) (overlay rows (4 * first_row b n) (rows_of names (first_row b n) e)) us → Lays false hs n rows (ts ++ us)

  abbrev PhraseLays : List Token → Syn → Type 0
  PhraseLays ts e = (us : List Token) → Ended false us → (hs : List ℕ) (n : ℕ) (rows : List ℤ) → n + size_of names e ≤ limit → 4 * limit ≤ length rows
      → Lays true hs (n + size_of names e) (overlay rows (4 * n) (rows_of names n e)) us → Lays false hs n rows (ts ++ us)

  -- no subscript begins where an operand has ended
  no-subscript : {b : Bool} {us : List Token} → Ended b us → subscript_next us ≡ false
  unfolding subscripted role_of
  no-subscript at-end = refl
  no-subscript at-round = refl
  no-subscript at-square = refl
  no-subscript (at-operator {t} j) = go (eqb (token_sort t) 11) refl
    where
      go : (b : Bool) → eqb (token_sort t) 11 ≡ b → b ≡ false
      go true q = absurd (false≢true (ap (λ (s : ℕ). is_between (role_of s)) (sym (eqb-true (token_sort t) 11 q)) ∙ ap is_between j))
      go false q = refl

  -- rows after others
  joined : (rows xs : List ℤ) (n m : ℕ) (ys : List ℤ) → length xs ≡ 4 * m → 4 * (n + m) + length ys ≤ length rows → overlay (overlay rows (4 * n) xs) (4 * (n + m)) ys ≡ overlay rows (4 * n) (xs ++ ys)
  joined rows xs n m ys e h =
      let f : 4 * (n + m) ≡ 4 * n + length xs = omega (arith, e) in
      ap (λ (p : ℕ). overlay (overlay rows (4 * n) xs) p ys) f ∙ overlay-after rows (4 * n) xs ys (omega (arith, h, e))

  length-rows : (n : ℕ) (e : Syn) → length (rows_of names n e) ≡ 4 * size_of names e
  length-rows n e = flat-length n (expression_form names e)

  -- a row, and then an expression's rows
  first_then : (n : ℕ) (e : Syn) (xs rows : List ℤ) → length xs ≡ 4 → n + 1 + size_of names e ≤ limit → 4 * limit ≤ length rows
      → overlay (overlay rows (4 * n) xs) (4 * (n + 1)) (rows_of names (n + 1) e) ≡ overlay rows (4 * n) (xs ++ rows_of names (suc n) e)
  first_then n e xs rows l h r =
      let f : n + 1 ≡ suc n = omega arith in
      joined rows xs n 1 (rows_of names (n + 1) e) l (omega (arith, h, r, length-rows (n + 1) e)) ∙ ap (λ (m : ℕ). overlay rows (4 * n) (xs ++ rows_of names m e)) f

  lay-alone : (x : List ℕ) → OperandLays (name x ∷ []) (bare x)
  unfolding Lays role_of rows_by_sort size_by_sort form_size
  lay-alone x b us d hs n rows h r w = rw (told-alone x b us d, no-subscript d) (h, rw (rows-bare names (first_row b n) x) at w)

  lay-number : (z : ℤ) → OperandLays (number z ∷ []) (literal z)
  unfolding Lays role_of rows_by_sort size_by_sort form_size rows_from
  lay-number z b us d hs n rows h r w = rw (told-number z b us d) (h, w)

  lay-subscript : (x : List ℕ) {ts : List Token} (e : Syn) → Phrase ts e → PhraseLays ts e → OperandLays (name x ∷ square-open ∷ (ts ++ (square-close ∷ []))) (at x e)
  unfolding Lays role_of rows_by_sort size_by_sort form_size subscripted
  lay-subscript x {ts} e q p b us d hs n rows h r w =
      let m = first_row b n in
      let top = name_rows (pos (name_row names x)) m true in
      let g : m + 1 + size_of names e ≤ limit = omega (arith, h) in
      let laid = overlay rows (4 * m) top in
      let l : length laid ≡ length rows = overlay-length rows (4 * m) top (omega (arith, g, r)) in
      let k : 4 * limit ≤ length laid = omega (arith, l, r) in
      let c : m + 1 + size_of names e ≡ m + size_of names (at x e) = omega arith in
      rw (told-subscript x q b us d) (
        omega (arith, g),
        subst (Lays false (free_rows b n hs) (m + 1) laid) (sym (append_assoc ts (square-close ∷ []) us))
            (p (square-close ∷ us) at-square (free_rows b n hs) (m + 1) laid g k
            (carry true (free_rows b n hs) us _ _ _ _ c (first_then m e top rows refl g r ∙ ap (overlay rows (4 * m)) (sym (rows_at names m x e))) w)),
      )

  lay-bracket : {ts : List Token} (e : Syn) → Phrase ts e → PhraseLays ts e → OperandLays (round-open ∷ (ts ++ (round-close ∷ []))) e
  unfolding Lays role_of rows_by_sort size_by_sort
  lay-bracket {ts} e q p b us d hs n rows h r w =
      let m = first_row b n in
      let c : m + 0 ≡ m = omega arith in
      rw (told-bracket q b us d) (
        omega (arith, h),
        subst (Lays false (free_rows b n hs) (m + 0) (overlay rows (4 * m) [])) (sym (append_assoc ts (round-close ∷ []) us))
            (carry false (free_rows b n hs) (ts ++ (round-close ∷ us)) _ _ _ _ c (overlay-nothing rows (4 * m)) (p (round-close ∷ us) at-round (free_rows b n hs) m rows h r w)),
      )

  lay-plain : (ts : List Token) (e : Syn) → OperandLays ts e → PhraseLays ts e
  lay-plain ts e p us d hs n rows h r w = p false us d hs n rows h r w

  -- an operator before its operand
  module _ (k : ℕ) (t : Token) (sized : (b : Bool) → token_size t b ≡ 1) (rowed : (n : ℕ) (b : Bool) → token_rows names n t b ≡ monadic_row k n) (role : had_after (token_role t) ≡ false) (unmarked : (us : List Token) → followed (t ∷ us) ≡ false) where
    lay-prefix : (ts : List Token) (e : Syn) → OperandLays ts e → PhraseLays (t ∷ ts) (monadic k e)
    unfolding Lays form_size
    lay-prefix ts e p us d hs n rows h r w =
        let top = monadic_row k n in
        let g : n + 1 + size_of names e ≤ limit = omega (arith, h) in
        let laid = overlay rows (4 * n) top in
        let l : length laid ≡ length rows = overlay-length rows (4 * n) top (omega (arith, g, r)) in
        let c : n + 1 + size_of names e ≡ n + size_of names (monadic k e) = omega arith in
        rw (unmarked (ts ++ us), sized (subscript_next (ts ++ us)), rowed n (subscript_next (ts ++ us)), role)
        (omega (arith, g), p false us d hs (n + 1) laid g (omega (arith, l, r)) (carry true hs us _ _ _ _ c (first_then n e top rows refl g r ∙ ap (overlay rows (4 * n)) (sym (rows-monadic names n k e))) w))

  lay-before : {t : Token} {k : ℕ} (ts : List Token) (e : Syn) → Before t k → OperandLays ts e → PhraseLays (t ∷ ts) (monadic k e)
  unfolding role_of rows_by_sort size_by_sort follows
  lay-before ts e minus-before p = lay-prefix 0 minus (λ b. refl) (λ n b. refl) refl (λ us. refl) ts e p
  lay-before ts e not-before p = lay-prefix 1 not-word (λ b. refl) (λ n b. refl) refl (λ us. refl) ts e p

  lay-given : (ts : List Token) (e : Syn) → OperandLays ts e → PhraseLays (given ∷ ts) (monadic 2 e)
  unfolding role_of rows_by_sort size_by_sort follows
  lay-given ts e p = lay-prefix 2 given (λ b. refl) (λ n b. refl) refl (λ us. refl) ts e p

  -- an operator between operands
  lay-infix : (t : Token) (k : ℕ) (ts vs : List Token) (e f : Syn) → Joining t → operator_of names t ≡ pos k → OperandLays ts e → PhraseLays vs f → PhraseLays (ts ++ (t ∷ vs)) (dyadic k e f)
  unfolding Lays form_size
  lay-infix t k ts vs e f j o p q us d hs n rows h r w =
      let m = suc n + size_of names e in
      let first = rows_of names (suc n) e in
      let top = dyadic_row (pos k) n m in
      let le = length-rows (suc n) e in
      let lf = length-rows m f in
      let g : m + size_of names f ≤ limit = omega (arith, h) in
      let u : 4 * suc n ≡ 4 * n + 4 = omega arith in
      let one : overlay (overlay rows (4 * suc n) first) (4 * n) top ≡ overlay rows (4 * n) (top ++ first)
      = ap (λ (x : ℕ). overlay (overlay rows x first) (4 * n) top) u ∙ overlay-before rows (4 * n) top first (omega (arith, le, g, r)) in
      let lt : length (top ++ first) ≡ 4 * (1 + size_of names e) = omega (arith, le) in
      let i : n + (1 + size_of names e) ≡ m = omega arith in
      let two : overlay (overlay rows (4 * n) (top ++ first)) (4 * m) (rows_of names m f) ≡ overlay rows (4 * n) (rows_of names n (dyadic k e f))
      = ap (λ (x : ℕ). overlay (overlay rows (4 * n) (top ++ first)) (4 * x) (rows_of names m f)) (sym i)
      ∙ joined rows (top ++ first) n (1 + size_of names e) (rows_of names m f) lt (omega (arith, lf, g, r))
      ∙ ap (overlay rows (4 * n)) (sym (rows-dyadic names n k e f)) in
      let len : length (overlay rows (4 * n) (top ++ first)) ≡ length rows = overlay-length rows (4 * n) (top ++ first) (omega (arith, lt, g, r)) in
      let c : m + size_of names f ≡ n + size_of names (dyadic k e f) = omega arith in
      subst (Lays false hs n rows) (sym (append_assoc ts (t ∷ vs) us))
      (p true (t ∷ (vs ++ us)) (at-operator j) hs n rows (omega (arith, g)) r
      (rw (j, o) (
        omega (arith, g),
        subst (λ (x : List ℤ). Lays false hs m x (vs ++ us)) (sym one)
            (q us d hs m (overlay rows (4 * n) (top ++ first)) g (omega (arith, len, r)) (carry true hs us _ _ _ _ c two w)),
      )))

  link-number : (l : Link) → operator_of names (joins l) ≡ pos (link_number l)
  unfolding operator_by_sort
  link-number both = refl
  link-number either = refl

  between-number : {t : Token} {k : ℕ} → Between t k → operator_of names t ≡ pos k
  unfolding operator_by_sort
  between-number minus-between = refl
  between-number arith-between = refl

  lays : {ts : List Token} {e : Syn} → Phrase ts e → PhraseLays ts e
  lays p = elim p as (λ ts e q. OperandLays ts e) (λ ts e q. OperandLays ts e) (λ ts e q. PhraseLays ts e) (λ l ts e q. PhraseLays ts e) [
    | alone {n} ↦ lay-alone n
    | with-subscript {n} {ts} {e} (q → h) ↦ lay-subscript n e q h
    | element (q → h) ↦ h
    | numeral {z} ↦ lay-number z
    | bracketed {ts} {e} (q → h) ↦ lay-bracket e q h
    | plain {ts} {e} (q → h) ↦ lay-plain ts e h
    | prefixed {t} {k} {ts} {e} b (q → h) ↦ lay-before ts e b h
    | asked {ts} {e} (q → h) ↦ lay-given ts e h
    | paired {t} {k} {ts} {us} {e} {f} (q → h) b (u → i) ↦ lay-infix t k ts us e f (joining-between b) (between-number b) h (lay-plain us f i)
    | chained {l} {ts} {us} {e} {f} (q → h) (c → i) ↦ lay-infix (joins l) (link_number l) ts us e f (joining-link l) (link-number l) h i
    | last-operand {l} {ts} {e} (q → h) ↦ lay-plain ts e h
    | more {l} {ts} {us} {e} {f} (q → h) (c → i) ↦ lay-infix (joins l) (link_number l) ts us e f (joining-link l) (link-number l) h i
  ]

-- the tokens of an expression bring its rows
pub phrase-lays : (names : List (List ℕ)) {ts : List Token} (e : Syn) → Phrase ts e → (n : ℕ) (rows : List ℤ) → 4 * (n + size_of names e) ≤ length rows
    → Lays names (n + size_of names e) (n + size_of names e) (overlay rows (4 * n) (rows_of names n e)) false [] n rows ts
unfolding Lays
phrase-lays names {ts} e p n rows h =
    let m = n + size_of names e in
    let out = overlay rows (4 * n) (rows_of names n e) in
    subst (Lays names m m out false [] n rows) (append-nil ts) (lays names m m out p [] at-end [] n rows (omega arith) h (refl, refl))
