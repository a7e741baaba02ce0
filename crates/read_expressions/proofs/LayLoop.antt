-- What the loop that writes the rows keeps.
use mathlib.Core.Path.{◌≡◌, refl, sym, ap, ap₂, subst, ◌∙◌}
use mathlib.Core.Bool.{Bool, true, false, false≢true}
use mathlib.Core.List.{List, [], ◌∷◌, map}
use mathlib.Core.Option.{Option, none, some}
use Prim.Native.Nat.{ℕ, zero, suc, ◌+◌, ◌-◌, ◌*◌, ◌≤◌, ◌<◌}
use native.Mathlib.Omega.{arith}
use lib.IntN.{ℤ, pos}
use lib.ListN.{length, get_or, set, drop, drop_of_length-le}
use lib.Seq.{get_or-set_same, get_or-set_other, drop-cons}
use Rattle.meaning.specs.Basics.{if_else}
use Rattle.base_top_down.specs.Forms.{Form, form_size, rows_from}
use Rattle.grammar.specs.Grammar.{Token}
use Rattle.read_tokens.specs.Held.{token_sort, token_by, tokens_by, name_of_row, tokens_resolved}
use Rattle.read_resolved.specs.Resolved.{row_names}
use Rattle.read_marks.specs.declared.Role.{Role}
use Rattle.read_marks.specs.declared.Role.TheVariants.{Operand, RoundOpening, SquareOpening, Closing, Between, Other}
use Rattle.read_marks.specs.Roles.{role_of, had_after, is_between}
use Rattle.read_marks.specs.Follows.{follows}
use Rattle.read_marks.specs.Marks.{mark_of, Marked}
use Rattle.read_marks.proofs.FollowLaws.{token_role}
use Rattle.read_expressions.specs.Overlay.{overlay}
use Rattle.read_expressions.specs.TokenRows.{dyadic_row, rows_by_sort, size_by_sort, operator_by_sort, subscripted}
use Rattle.read_expressions.specs.Free.{last_first, height_after, filled}
use Rattle.read_expressions.specs.Expressions.{end_of, with_rows}
use Rattle.read_expressions.proofs.ExpressionLaws.{Spelt, spells, form-is}
use Rattle.read_expressions.proofs.TokenValues.{valued, value-told, rows-valued, operator-valued}
use Rattle.read_expressions.proofs.Laying.{value_of, token_rows, token_size, operator_of, subscript_next, first_row, free_rows, Takes, Lays, phrase-lays}

-- The stack of free rows ----------------------------------------------------------------------------------------------------------

-- a row put on top leaves those beneath
beneath : (free : List ℕ) (h i r : ℕ) → h ≤ i → last_first (set free i r) h ≡ last_first free h
unfolding last_first
beneath free zero i r l = refl
beneath free (suc h) i r l = ap₂ (λ (x : ℕ) (xs : List ℕ). x ∷ xs) (get_or-set_other free i h r 0 (λ e. omega (arith, e, l))) (beneath free h i r (omega (arith, l)))

-- a row is left free, or none is
put-free : (b : Bool) (free : List ℕ) (h r : ℕ) → h < length free → last_first (set free h r) (h + mark_of b) ≡ free_rows b r (last_first free h)
unfolding last_first
put-free true free h r l =
    let e : h + 1 ≡ suc h = omega arith in
    ap (last_first (set free h r)) e ∙ ap₂ (λ (x : ℕ) (xs : List ℕ). x ∷ xs) (get_or-set_same free h r 0 l) (beneath free h h r (omega arith))
put-free false free h r l = let e : h + 0 ≡ h = omega arith in ap (last_first (set free h r)) e ∙ beneath free h h r (omega arith)

first-is : (b : Bool) (r : ℕ) → r + mark_of b ≡ first_row b r
first-is true r = omega arith
first-is false r = omega arith

mark-small : (b : Bool) → mark_of b ≤ 1
mark-small true = omega arith
mark-small false = omega arith

module _ (limit end : ℕ) (out : List ℤ) where
  -- an operator has a free row
  taken_free : (q : Role) (k : ℤ) (free : List ℕ) (h n : ℕ) (rows : List ℤ) (later : List ℕ → List ℤ → Type 0) → is_between q ≡ true
      → Takes row_names limit end out q k (last_first free h) n rows later → (0 < h) × (get_or free (h - 1) 0 < limit)
  unfolding last_first
  taken_free Operand k free h n rows later e w = absurd (false≢true e)
  taken_free RoundOpening k free h n rows later e w = absurd (false≢true e)
  taken_free SquareOpening k free h n rows later e w = absurd (false≢true e)
  taken_free Closing k free h n rows later e w = absurd (false≢true e)
  taken_free Between k free zero n rows later e w = absurd w
  taken_free Between k free (suc h) n rows later e w = let i : h ≡ suc h - 1 = omega arith in (omega arith, subst (λ (x : ℕ). get_or free x 0 < limit) i w.0)
  taken_free Other k free h n rows later e w = absurd (false≢true e)

  -- and what comes after it
  taken_then : (q : Role) (k : ℤ) (free : List ℕ) (h n : ℕ) (rows : List ℤ) (later : List ℕ → List ℤ → Type 0)
      → Takes row_names limit end out q k (last_first free h) n rows later
      → later (last_first free (if_else (is_between q) (h - 1) h)) (if_else (is_between q) (overlay rows (4 * get_or free (h - 1) 0) (dyadic_row k (get_or free (h - 1) 0) n)) rows)
  unfolding last_first
  taken_then Operand k free h n rows later w = w
  taken_then RoundOpening k free h n rows later w = w
  taken_then SquareOpening k free h n rows later w = w
  taken_then Closing k free h n rows later w = w
  taken_then Between k free zero n rows later w = absurd w
  taken_then Between k free (suc h) n rows later w =
      let i : h ≡ suc h - 1 = omega arith in
      subst (λ (x : ℕ). later (last_first free x) (overlay rows (4 * get_or free x 0) (dyadic_row k (get_or free x 0) n))) i w.1
  taken_then Other k free h n rows later w = w

-- The loop ------------------------------------------------------------------------------------------------------------------------

-- the tokens that are left at a place
pub record Left (sorts : List ℕ) (values : List ℤ) (k : ℕ) (rest : List Token) : Type 0 where
  pub sorts-left : drop k sorts ≡ map token_sort rest
  pub held-left : tokens_resolved (drop k sorts) (drop k values) ≡ map some rest

-- the first of them
record First (sorts : List ℕ) (values : List ℤ) (k : ℕ) (rest : List Token) : Type 0 where
  token : Token
  others : List Token
  whole : rest ≡ token ∷ others
  same-sort : get_or sorts k 0 ≡ token_sort token
  is : token_by name_of_row (get_or sorts k 0) (get_or values k (pos 0)) ≡ some token
  left : Left sorts values (suc k) others

first-left : (sorts : List ℕ) (values : List ℤ) (k : ℕ) (rest : List Token) → length sorts ≡ length values → k < length sorts → Left sorts values k rest → First sorts values k rest
unfolding tokens_by
first-left sorts values k [] l h m = absurd (let e = ap length (sym (drop-cons sorts k 0 h) ∙ m.sorts-left) in omega (arith, e))
first-left sorts values k (t ∷ ts) l h m =
    let es = sym (drop-cons sorts k 0 h) ∙ m.sorts-left in
    let ev = drop-cons values k (pos 0) (omega (arith, l, h)) in
    let held = rw (drop-cons sorts k 0 h, ev) at m.held-left in
    record {
      token = t;
      others = ts;
      whole = refl;
      same-sort = ap (λ (l : List ℕ). get_or l 0 0) es;
      is = ap (λ (os : List (Option Token)). get_or os 0 none) held;
      left = record { sorts-left = ap (drop 1) es; held-left = ap (λ (os : List (Option Token)). drop 1 os) held };
    }

pub record LayLoop (sorts : List ℕ) (values : List ℤ) (limit : ℕ) (out : List ℤ) (k height r : ℕ) (had : Bool) (free : List ℕ) (rows : List ℤ) : Type 0 where
  pub rest : List Token
  pub left : Left sorts values k rest
  pub lays : Lays row_names limit limit out had (last_first free height) r rows rest
  pub low : height ≤ k
  pub below : r ≤ limit

-- equal states
lays-moved : (limit : ℕ) (out : List ℤ) (us : List Token) (b c : Bool) (hs gs : List ℕ) (n m : ℕ) (xs ys : List ℤ) → b ≡ c → hs ≡ gs → n ≡ m → xs ≡ ys → Lays row_names limit limit out b hs n xs us
    → Lays row_names limit limit out c gs m ys us
lays-moved limit out us b c hs gs n m xs ys e f g h w =
    subst (λ (x : Bool). Lays row_names limit limit out x gs m ys us) e
    (subst (λ (x : List ℕ). Lays row_names limit limit out b x m ys us) f
    (subst (λ (x : ℕ). Lays row_names limit limit out b hs x ys us) g (subst (λ (x : List ℤ). Lays row_names limit limit out b hs n x us) h w)))

pub moved : (sorts : List ℕ) (values : List ℤ) (limit : ℕ) (out : List ℤ) (k h i r q : ℕ) (b c : Bool) (fs gs : List ℕ) (xs ys : List ℤ) → i ≡ h → q ≡ r → c ≡ b → gs ≡ fs → ys ≡ xs
    → LayLoop sorts values limit out k h r b fs xs → LayLoop sorts values limit out k i q c gs ys
moved sorts values limit out k h i r q b c fs gs xs ys e f g j l m =
    subst (λ (x : ℕ). LayLoop sorts values limit out k x q c gs ys) (sym e)
    (subst (λ (x : ℕ). LayLoop sorts values limit out k h x c gs ys) (sym f)
    (subst (λ (x : Bool). LayLoop sorts values limit out k h r x gs ys) (sym g)
    (subst (λ (x : List ℕ). LayLoop sorts values limit out k h r b x ys) (sym j) (subst (λ (x : List ℤ). LayLoop sorts values limit out k h r b fs x) (sym l) m))))

-- where it begins
pub lay-begin : (sorts : List ℕ) (values : List ℤ) (s : Spelt sorts values) (n : ℕ) (free : List ℕ) (rows : List ℤ) → 4 * end_of (tokens_resolved sorts values) n ≤ length rows
    → LayLoop sorts values (end_of (tokens_resolved sorts values) n) (with_rows (tokens_resolved sorts values) n rows) 0 0 n false free rows
unfolding last_first
lay-begin sorts values s n free rows h =
    let same = form-is sorts values s in
    record {
      rest = s.tokens;
      left = record { sorts-left = s.sorts-are; held-left = s.held };
      lays = subst (λ (f : Form). Lays row_names (n + form_size f) (n + form_size f) (overlay rows (4 * n) (rows_from n f)) false [] n rows s.tokens) (sym same)
          (phrase-lays row_names s.expression (spells sorts values s) n rows (subst (λ (f : Form). 4 * (n + form_size f) ≤ length rows) same h));
      low = omega arith;
      below = omega arith;
    }

module _ (sorts : List ℕ) (values : List ℤ) (even : length sorts ≡ length values) (limit : ℕ) (out : List ℤ) (k height r : ℕ) (had : Bool) (free : List ℕ) (rows : List ℤ) (m : LayLoop sorts values limit out k height r had free rows) where
  -- no token is left
  pub all_laid : length sorts ≤ k → (r ≡ limit) × (rows ≡ out)
  unfolding Lays
  all_laid h = go m.rest (sym (drop_of_length-le sorts h) ∙ m.left.sorts-left) m.lays
    where
      go : (ts : List Token) → [] ≡ map token_sort ts → Lays row_names limit limit out had (last_first free height) r rows ts → (r ≡ limit) × (rows ≡ out)
      go [] e w = w
      go (t ∷ ts) e w = absurd (let l = ap length e in omega (arith, l))

  module _ (more : k < length sorts) where
    abbrev sort : ℕ
    sort = get_or sorts k 0

    abbrev value : ℤ
    value = get_or values k (pos 0)

    f : First sorts values k m.rest
    f = first-left sorts values k m.rest even more m.left

    next-left : Left sorts values (k + 1) f.others
    next-left = let s : suc k ≡ k + 1 = omega arith in subst (λ (x : ℕ). Left sorts values x f.others) s f.left

    here : Lays row_names limit limit out had (last_first free height) r rows (f.token ∷ f.others)
    here = subst (Lays row_names limit limit out had (last_first free height) r rows) f.whole m.lays

    same-role : token_role f.token ≡ role_of sort
    same-role = ap role_of (sym f.same-sort)

    same-value : valued sort ≡ true → value ≡ value_of row_names f.token
    same-value = value-told sort value f.token f.is

    -- after an operand
    module _ (read : had ≡ true) where
      taken : Takes row_names limit limit out (token_role f.token) (operator_of row_names f.token) (last_first free height) r rows (λ gs laid. Lays row_names limit limit out (had_after (token_role f.token)) gs r laid f.others)
      unfolding Lays
      taken = subst (λ (b : Bool). Lays row_names limit limit out b (last_first free height) r rows (f.token ∷ f.others)) read here

      pub free-row : is_between (role_of sort) ≡ true → (0 < height) × (get_or free (height - 1) 0 < limit)
      free-row e = taken_free limit limit out (token_role f.token) (operator_of row_names f.token) free height r rows _ (ap is_between same-role ∙ e) taken

      -- the operator is the listed one
      same-filled : (b : Bool) → is_between (role_of sort) ≡ b
          → if_else b (overlay rows (4 * get_or free (height - 1) 0) (dyadic_row (operator_of row_names f.token) (get_or free (height - 1) 0) r)) rows
          ≡ if_else b (overlay rows (4 * get_or free (height - 1) 0) (dyadic_row (operator_by_sort sort value) (get_or free (height - 1) 0) r)) rows
      same-filled true e =
          ap (λ (z : ℤ). overlay rows (4 * get_or free (height - 1) 0) (dyadic_row z (get_or free (height - 1) 0) r))
          (ap (λ (s : ℕ). operator_by_sort s (value_of row_names f.token)) (sym f.same-sort) ∙ sym (operator-valued sort value (value_of row_names f.token) same-value e))
      same-filled false e = refl

      pub lay-again-had : LayLoop sorts values limit out (k + 1) (height_after sort height) r (had_after (role_of sort)) free (filled sort value (get_or free (height - 1) 0) r rows)
      lay-again-had =
          let w = rw same-role at (taken_then limit limit out (token_role f.token) (operator_of row_names f.token) free height r rows _ taken) in
          record {
            rest = f.others;
            left = next-left;
            lays = subst (λ (laid : List ℤ). Lays row_names limit limit out (had_after (role_of sort)) (last_first free (height_after sort height)) r laid f.others) (same-filled (is_between (role_of sort)) refl) w;
            low = omega (arith, m.low, lower (is_between (role_of sort)));
            below = m.below;
          }
        where
          lower : (b : Bool) → if_else b (height - 1) height ≤ height
          lower true = omega arith
          lower false = omega arith

    -- where an operand is wanted
    module _ (marks : List ℕ) (right : Marked sorts marks) (wanted : had ≡ false) where
      follow : Bool
      follow = follows (map token_sort (f.token ∷ f.others))

      mark-is : get_or marks k 0 ≡ mark_of follow
      unfolding follow
      mark-is = right k more ∙ ap (λ (ss : List ℕ). mark_of (follows ss)) (m.left.sorts-left ∙ ap (map token_sort) f.whole)

      pub mark-low : get_or marks k 0 ≤ 1
      mark-low = omega (arith, mark-is, mark-small follow)

      abbrev sub : Bool
      sub = subscripted (drop (k + 1) sorts)

      sub_is : sub ≡ subscript_next f.others
      sub_is = ap subscripted next-left.sorts-left

      first : ℕ
      first = first_row follow r

      size_same : size_by_sort sort sub ≡ token_size f.token (subscript_next f.others)
      size_same = ap₂ size_by_sort f.same-sort sub_is

      row_is : r + get_or marks k 0 ≡ first
      unfolding first
      row_is = ap (λ (x : ℕ). r + x) mark-is ∙ first-is follow r

      begun : (first + token_size f.token (subscript_next f.others) ≤ limit)
          × Lays row_names limit limit out (had_after (token_role f.token)) (free_rows follow r (last_first free height)) (first + token_size f.token (subscript_next f.others)) (overlay rows (4 * first) (token_rows row_names first f.token (subscript_next f.others))) f.others
      unfolding Lays first follow
      begun = subst (λ (b : Bool). Lays row_names limit limit out b (last_first free height) r rows (f.token ∷ f.others)) wanted here

      pub token-fits : r + get_or marks k 0 + size_by_sort sort sub ≤ limit
      token-fits = omega (arith, row_is, size_same, begun.0)

      rows_same : rows_by_sort (r + get_or marks k 0) sort value sub ≡ token_rows row_names first f.token (subscript_next f.others)
      rows_same =
          rows-valued (r + get_or marks k 0) sort value (value_of row_names f.token) sub same-value
          ∙ (λ i. rows_by_sort (row_is i) (f.same-sort i) (value_of row_names f.token) (sub_is i))

      pub lay-again-wanted : height < length free
          → LayLoop sorts values limit out (k + 1) (height + get_or marks k 0) (r + get_or marks k 0 + size_by_sort sort sub) (had_after (role_of sort)) (set free height r) (overlay rows (4 * (r + get_or marks k 0)) (rows_by_sort (r + get_or marks k 0) sort value sub))
      lay-again-wanted h =
          let stack : free_rows follow r (last_first free height) ≡ last_first (set free height r) (height + get_or marks k 0)
          = sym (ap (λ (x : ℕ). last_first (set free height r) (height + x)) mark-is ∙ put-free follow free height r h) in
          let next : first + token_size f.token (subscript_next f.others) ≡ r + get_or marks k 0 + size_by_sort sort sub = sym (ap₂ (λ (x y : ℕ). x + y) row_is size_same) in
          let laid : overlay rows (4 * first) (token_rows row_names first f.token (subscript_next f.others)) ≡ overlay rows (4 * (r + get_or marks k 0)) (rows_by_sort (r + get_or marks k 0) sort value sub)
          = sym (ap₂ (λ (x : ℕ) (y : List ℤ). overlay rows (4 * x) y) row_is rows_same) in
          record {
            rest = f.others;
            left = next-left;
            lays = lays-moved limit out f.others _ _ _ _ _ _ _ _ (ap had_after same-role) stack next laid begun.1;
            low = omega (arith, m.low, mark-low);
            below = token-fits;
          }
