-- A good form laid out after the declarations of its table is right at every row: the stages 4 and 5 find nothing in a table that is numbered top down.
use mathlib.Core.Path.{◌≡◌, refl, sym, ap, ap₂, ◌∙◌, subst}
use mathlib.Core.Logic.{inl, inr, ⊎_elim}
use mathlib.Core.Bool.{Bool, true, false, false≢true, ◌||◌}
use mathlib.Core.List.{List, [], ◌∷◌, ◌++◌, Memᴰ}
use mathlib.Core.Option.{Option, none, some-injective}
use Prim.Native.Nat.{ℕ, suc, ◌+◌, ◌≤◌, ◌<◌}
use native.Mathlib.Decide.{dec_lt}
use native.Mathlib.Omega.{arith}
use lib.IntN.{ℤ, pos}
use lib.Dec.{leb, eqb}
use Rattle.meaning.specs.Basics.{if_else}
use borrow.Author.Tests.{le-leb, lt-leb, ne_eqb}
use Rattle.meaning.specs.Rows.{natural_of, row_count, field_at, kind_at}
use Rattle.meaning.specs.Kinds.{Field, unused, literal_value, within, elements, capacity, operator, variable, channel, reference, link, Shape, shape_of, processes}
use Rattle.meaning.specs.Declarations.{declarations, root}
use Rattle.meaning.specs.Verdict.{form_fault, tree_fault, target_of, target, targets_by, targets, targets_below, occurrences}
use Rattle.meaning.specs.References.{Column, of-a, of-b, of_c, field_of, number_of, IsTarget}
use Rattle.meaning.specs.Faults.{MayHold, Leads, WellFormed, WellPlaced, Placed}
use Rattle.meaning.proofs.Decides.{Decides, holding, failing, decides-le, decides_eq, pos-injective}
use Rattle.meaning.proofs.OneTreeLaw.{declared as declares-either}
use Rattle.meaning.proofs.Counting.{occurrences-append}
use Rattle.meaning.proofs.ReferenceCounts.{decides-target, Never, count-all, never-zero, once-one}
use Rattle.base_top_down.specs.Forms.{Form, absent, number, row, form_size, written_field, row_of_b, row_of_c, form_of, table_of, top_down}
use Rattle.base_top_down.specs.Laid.{Laid, FormKept, TreeKept}
use Rattle.base_top_down.specs.Good.{Child, Suited, Good, FlattenRight}
use Rattle.base_top_down.proofs.Again.{declarations-le, table-count, table-fields, table-laid, table-declarations, rooted}
use Rattle.base_top_down.proofs.Stages.{well-formed, well-placed, form-nothing, tree-nothing, no-targets-below}
use Rattle.base_top_down.proofs.Good.{is_size, is_operator, no-operator, RightRow, good}

-- Counting numbers from j on ----------------------------------------------------------------------------------------------------

-- 1 if t is not below j
abbrev from : ℕ → ℕ → ℕ
from j t = if_else (leb j t) 1 0

from_step : (j t : ℕ) → if_else (eqb t j) 1 0 + from (suc j) t ≡ from j t
from_step j t = go (decides_eq t j) (decides-le (suc j) t) (decides-le j t)
  where
    go : {x y z : Bool} → Decides (t ≡ j) x → Decides (suc j ≤ t) y → Decides (j ≤ t) z → if_else {A = ℕ} x 1 0 + if_else y 1 0 ≡ if_else z 1 0
    go (holding a) (holding b) c = absurd (omega arith)
    go (holding a) (failing b) (holding c) = refl
    go (holding a) (failing b) (failing c) = absurd (omega arith)
    go (failing a) (holding b) (holding c) = refl
    go (failing a) (holding b) (failing c) = absurd (omega arith)
    go (failing a) (failing b) (holding c) = absurd (omega arith)
    go (failing a) (failing b) (failing c) = refl

-- 1 if t is the row of a form that begins at row j
abbrev one : ℕ → Form → ℕ → ℕ
one j absent t = 0
one j (number z) t = 0
one j (row k a b c) t = if_else (eqb t j) 1 0

-- Rows with the same declarations -----------------------------------------------------------------------------------------------

module _ (rows T : List ℤ) (same : declarations T ≡ declarations rows) (fields : (q j : ℕ) → q < declarations rows → j < 4 → field_at T q j ≡ field_at rows q j) where
  -- what a field may hold
  holds-to : (g : Field) (z : ℤ) (r m : ℕ) → (is_size g ≡ true → field_at T m 2 ≡ field_at rows r 2) → is_operator g ≡ false → MayHold rows r g z → MayHold T m g z
  unfolding MayHold is_size is_operator
  holds-to unused z r m e n h = h
  holds-to literal_value z r m e n h = h
  holds-to (within lo hi) z r m e n h = h
  holds-to elements z r m e n h = (h.0, ⊎_elim (λ i. inl (e refl ∙ i)) inr h.1)
  holds-to capacity z r m e n h = (h.0, ⊎_elim (λ i. inl (e refl ∙ i)) inr h.1)
  holds-to operator z r m e n h = absurd (false≢true (sym n))
  holds-to variable z r m e n h =
      let l = h.1.1 in
      (h.0, (h.1.0, omega arith, ap natural_of (fields h.0 0 l (omega arith)) ∙ h.1.2))
  holds-to (channel roles) z r m e n h =
      let l = h.1.1 in
      (h.0, (h.1.0, omega arith, ap natural_of (fields h.0 0 l (omega arith)) ∙ h.1.2), (h.2.0, h.2.1, ap natural_of (fields h.0 2 l (omega arith)) ∙ h.2.2))
  holds-to (reference kinds) z r m e n h = h
  holds-to (link kinds) z r m e n h = h

  held : (g : Field) (x : Form) (m j : ℕ) → is_size g ≡ false → is_operator g ≡ false → (z : ℤ) × (x ≡ number z) × MayHold rows 0 g z → MayHold T m g (written_field j x)
  held g x m j e n h = subst (λ (y : Form). MayHold T m g (written_field j y)) (sym h.1) (holds-to g h.0 0 m (λ i. absurd (false≢true (sym e ∙ i))) n h.2)

  -- where a reference leads
  child-target : (kinds : List ℕ) (x : Form) (m j : ℕ) → m < j → Laid T j x → Child kinds x → (written_field j x ≡ pos j) × IsTarget T m kinds j
  unfolding Laid
  child-target kinds absent m j l d h = absurd h
  child-target kinds (number z) m j l d h = absurd h
  child-target kinds (row k a b c) m j l d h = (refl, (l, d.0.0, subst (λ (x : ℕ). Memᴰ x kinds) (sym (ap natural_of d.0.1)) h))

  -- b is what field b of row m holds
  suited-holds : (g : Field) (b x : Form) (m i j : ℕ) → m < i → field_at T m 2 ≡ written_field i b → Laid T i b → Suited rows g b x → MayHold T m g (written_field j x)
  unfolding Suited MayHold is_size is_operator
  suited-holds unused b x m i j l e d h = held unused x m j refl refl h
  suited-holds literal_value b x m i j l e d h = held literal_value x m j refl refl h
  suited-holds (within lo hi) b x m i j l e d h = held (within lo hi) x m j refl refl h
  suited-holds elements b x m i j l e d h = absurd h
  suited-holds capacity b x m i j l e d h = absurd h
  suited-holds operator b x m i j l e d h = subst (λ (y : Form). MayHold T m operator (written_field j y)) (sym h.1) (h.2, λ q. q.1.1.2 (element q.1.0 q.1.1.0 (child-target (11 ∷ []) b m i l d (h.3 q.0))))
    where
      element : (t : ℕ) → field_at T m 2 ≡ pos t → (written_field i b ≡ pos i) × IsTarget T m (11 ∷ []) i → kind_at T t ≡ 11
      element t q c = ap (kind_at T) (pos-injective (sym q ∙ e ∙ c.0)) ∙ only c.1.2
        where
          only : {k : ℕ} → Memᴰ k (11 ∷ []) → k ≡ 11
          only {k = k} (Memᴰ.tail x10) = elim x10 [ ]
          only (Memᴰ.head k) = k
  suited-holds variable b x m i j l e d h = held variable x m j refl refl h
  suited-holds (channel roles) b x m i j l e d h = held (channel roles) x m j refl refl h
  suited-holds (reference kinds) b x m i j l e d h = tt
  suited-holds (link kinds) b x m i j l e d h = tt

  suited-leads : (g : Field) (b x : Form) (m j : ℕ) → m < j → Laid T j x → Suited rows g b x → Leads T m g (written_field j x)
  unfolding Suited Leads
  suited-leads unused b x m j l d h = tt
  suited-leads literal_value b x m j l d h = tt
  suited-leads (within lo hi) b x m j l d h = tt
  suited-leads elements b x m j l d h = tt
  suited-leads capacity b x m j l d h = tt
  suited-leads operator b x m j l d h = tt
  suited-leads variable b x m j l d h = tt
  suited-leads (channel roles) b x m j l d h = tt
  suited-leads (reference kinds) b x m j l d h = let c = child-target kinds x m j l d h in (j, c.0, c.1)
  suited-leads (link kinds) b x m j l d (inl e) = inl (ap (written_field j) e)
  suited-leads (link kinds) b x m j l d (inr h) = let c = child-target kinds x m j l d h in inr (j, c.0, c.1)

  -- a row of a good form is right
  row-right : (m k : ℕ) (a b c : Form) → Laid T m (row k a b c) → Good rows (row k a b c) → RightRow T m
  unfolding Laid Good RightRow
  row-right m k a b c l g = (
    ((λ e. g.0.0 (sym kind ∙ e)), (λ e. g.0.1 (sym kind ∙ e))),
    (s, ap shape_of kind ∙ g.1.1, each),
  )
    where
      s : Shape
      s = g.1.0

      kind : kind_at T m ≡ k
      kind = ap natural_of l.0.1

      to : (f : Field) {y z : ℤ} → y ≡ z → MayHold T m f z → Leads T m f z → MayHold T m f y × Leads T m f y
      to f e h i = subst (λ (x : ℤ). MayHold T m f x × Leads T m f x) (sym e) (h, i)

      each : (p : Column) → MayHold T m (field_of s p) (number_of T m p) × Leads T m (field_of s p) (number_of T m p)
      each of-a = to s.a l.0.2 (suited-holds s.a b a m (row_of_b m a) (suc m) (omega arith) l.0.3 l.1.0.1 g.1.2.0.0) (suited-leads s.a b a m (suc m) (omega arith) l.1.0.0 g.1.2.0.0)
      each of-b = to s.b l.0.3 (suited-holds s.b b b m (row_of_b m a) (row_of_b m a) (omega arith) l.0.3 l.1.0.1 g.1.2.0.1) (suited-leads s.b b b m (row_of_b m a) (omega arith) l.1.0.1 g.1.2.0.1)
      each of_c = to s.c l.0.4 (suited-holds s.c b c m (row_of_b m a) (row_of_c m a b) (omega arith) l.0.3 l.1.0.1 g.1.2.1) (suited-leads s.c b c m (row_of_c m a b) (omega arith) l.1.1 g.1.2.1)

  rows_right : (n : ℕ) (f : Form) → Laid T n f → Good rows f → (i : ℕ) → n ≤ i → i < n + form_size f → RightRow T i
  unfolding Laid Good form_size
  rows_right n absent l g i h j = absurd (omega arith)
  rows_right n (number z) l g i h j = absurd (omega arith)
  rows_right n (row k a b c) l g i h j =
      go (dec_lt n i) (dec_lt i (row_of_b n a)) (dec_lt i (row_of_c n a b))
      (λ x y. rows_right (suc n) a l.1.0.0 g.2.0.0 i x y)
      (λ x y. rows_right (row_of_b n a) b l.1.0.1 g.2.0.1 i x y)
      (λ x y. rows_right (row_of_c n a b) c l.1.1 g.2.1 i x y)
    where
      go : Dec (n < i) → Dec (i < row_of_b n a) → Dec (i < row_of_c n a b)
          → (suc n ≤ i → i < suc n + form_size a → RightRow T i)
          → (row_of_b n a ≤ i → i < row_of_b n a + form_size b → RightRow T i)
          → (row_of_c n a b ≤ i → i < row_of_c n a b + form_size c → RightRow T i) → RightRow T i
      go (no x) y z p q r = subst (RightRow T) (omega arith) (row-right n k a b c l g)
      go (yes x) (yes y) z p q r = p x y
      go (yes x) (no y) (yes z) p q r = q (omega arith) z
      go (yes x) (no y) (no z) p q r = r (omega arith) (omega arith)

  -- how often a row is referred to
  child-count : (kinds : List ℕ) (x : Form) (m j t : ℕ) → m < j → Laid T j x → Child kinds x → occurrences t (target_of T m kinds (written_field j x)) ≡ one j x t
  unfolding occurrences
  child-count kinds absent m j t l d h = absurd h
  child-count kinds (number z) m j t l d h = absurd h
  child-count kinds (row k a b c) m j t l d h = go (decides-target T m kinds j)
    where
      go : {x : Bool} → Decides (IsTarget T m kinds j) x → occurrences t (if_else x (j ∷ []) []) ≡ if_else (eqb t j) 1 0
      go (holding i) = omega arith
      go (failing i) = absurd (i (child-target kinds (row k a b c) m j l d h).1)

  none-count : (x : Form) (z : ℤ) (j t : ℕ) → x ≡ number z → 0 ≡ one j x t
  none-count x z j t e = sym (ap (λ (y : Form). one j y t) e)

  field-count : (g : Field) (b x : Form) (m j t : ℕ) → m < j → Laid T j x → Suited rows g b x → occurrences t (target T m g (written_field j x)) ≡ one j x t
  unfolding Suited target occurrences
  field-count unused b x m j t l d h = none-count x h.0 j t h.1
  field-count literal_value b x m j t l d h = none-count x h.0 j t h.1
  field-count (within lo hi) b x m j t l d h = none-count x h.0 j t h.1
  field-count elements b x m j t l d h = absurd h
  field-count capacity b x m j t l d h = absurd h
  field-count operator b x m j t l d h = none-count x h.0 j t h.1
  field-count variable b x m j t l d h = none-count x h.0 j t h.1
  field-count (channel roles) b x m j t l d h = none-count x h.0 j t h.1
  field-count (reference kinds) b x m j t l d h = child-count kinds x m j t l d h
  field-count (link kinds) b x m j t l d (inl e) = subst (λ (y : Form). occurrences t (target_of T m kinds (written_field j y)) ≡ one j y t) (sym e) refl
  field-count (link kinds) b x m j t l d (inr h) = child-count kinds x m j t l d h

  row_count_lem : (m k t : ℕ) (a b c : Form) → Laid T m (row k a b c) → Good rows (row k a b c) → occurrences t (targets T m) ≡ one (suc m) a t + one (row_of_b m a) b t + one (row_of_c m a b) c t
  unfolding Laid Good
  row_count_lem m k t a b c l g =
      ap (λ (o : Option Shape). occurrences t (targets_by T m o)) (ap shape_of (ap natural_of l.0.1) ∙ g.1.1)
      ∙ occurrences-append t (ta (field_at T m 1) ++ tb (field_at T m 2)) (tc (field_at T m 3))
      ∙ ap₂ (λ (x y : ℕ). x + y)
      (occurrences-append t (ta (field_at T m 1)) (tb (field_at T m 2))
      ∙ ap₂ (λ (x y : ℕ). x + y)
      (ap (λ (z : ℤ). occurrences t (ta z)) l.0.2 ∙ field-count s.a b a m (suc m) t (omega arith) l.1.0.0 g.1.2.0.0)
      (ap (λ (z : ℤ). occurrences t (tb z)) l.0.3 ∙ field-count s.b b b m (row_of_b m a) t (omega arith) l.1.0.1 g.1.2.0.1))
      (ap (λ (z : ℤ). occurrences t (tc z)) l.0.4 ∙ field-count s.c b c m (row_of_c m a b) t (omega arith) l.1.1 g.1.2.1)
    where
      s : Shape
      s = g.1.0

      ta : ℤ → List ℕ
      ta z = target T m s.a z

      tb : ℤ → List ℕ
      tb z = target T m s.b z

      tc : ℤ → List ℕ
      tc z = target T m s.c z

  abbrev referred_to : ℕ → ℕ → ℕ
  referred_to t n = occurrences t (targets_below T n)

  one_more : (t n : ℕ) → referred_to t (suc n) ≡ referred_to t n + occurrences t (targets T n)
  unfolding targets_below
  one_more t n = occurrences-append t (targets_below T n) (targets T n)

  -- the rows of a form refer to each of its rows but the first once, and to no other
  counted : (t n : ℕ) (f : Form) → Laid T n f → Good rows f → one n f t + referred_to t (n + form_size f) + from (n + form_size f) t ≡ referred_to t n + from n t
  unfolding Laid Good form_size
  counted t n absent l g = let e : n ≡ n + 0 = omega arith in subst (λ (x : ℕ). 0 + referred_to t x + from x t ≡ referred_to t n + from n t) e (omega arith)
  counted t n (number z) l g = let e : n ≡ n + 0 = omega arith in subst (λ (x : ℕ). 0 + referred_to t x + from x t ≡ referred_to t n + from n t) e (omega arith)
  counted t n (row k a b c) l g =
      let ia = counted t (suc n) a l.1.0.0 g.2.0.0 in
      let ib = counted t (row_of_b n a) b l.1.0.1 g.2.0.1 in
      let ic = counted t (row_of_c n a b) c l.1.1 g.2.1 in
      let r = row_count_lem n k t a b c l g in
      let m = one_more t n in
      let s = from_step n t in
      let e : row_of_c n a b + form_size c ≡ n + suc (form_size a + form_size b + form_size c) = omega arith in
      subst (λ (x : ℕ). if_else (eqb t n) 1 0 + referred_to t x + from x t ≡ referred_to t n + from n t) e (omega arith)

root-process : (rows : List ℤ) → tree_fault rows ≡ none → declarations rows < row_count rows → Memᴰ (kind_at rows (declarations rows)) processes
unfolding WellPlaced Placed
root-process rows e l = ((well-placed rows e (declarations rows) (omega arith)).1 (omega arith, l)).1 refl

undeclared : (k : ℕ) → ¬ (k ≡ 1) → ¬ (k ≡ 2) → (eqb k 1 || eqb k 2) ≡ false
undeclared k m n = λ i. ne_eqb k 1 m i || ne_eqb k 2 n i

-- A good form after its declarations ----------------------------------------------------------------------------------------------

module _ (rows T : List ℤ) (k : ℕ) (a b c : Form)
    (same : declarations T ≡ declarations rows)
    (fields : (q j : ℕ) → q < declarations rows → j < 4 → field_at T q j ≡ field_at rows q j)
    (laid : Laid T (declarations rows) (row k a b c))
    (count : row_count T ≡ declarations rows + form_size (row k a b c))
    (declared : (r : ℕ) → r < declarations rows → WellFormed rows r)
    (good-form : Good rows (row k a b c))
    (process : Memᴰ k processes)
  where
    abbrev D : ℕ
    D = declarations rows

    right-rows : (i : ℕ) → D ≤ i → i < row_count T → RightRow T i
    right-rows i h l =
        let n = count in
        rows_right rows T same fields D (row k a b c) laid good-form i h (omega arith)

    declared-right : (r : ℕ) → r < D → WellFormed T r
    unfolding WellFormed
    declared-right r l = (
      (λ e. let s = same in omega arith),
      (w.1.0, ap (λ (z : ℤ). shape_of (natural_of z)) (fields r 0 l (omega arith)) ∙ w.1.1, to w.1.0.a 1 (omega arith) (plain of-a) w.1.2, to w.1.0.b 2 (omega arith) (plain of-b) w.1.3, to w.1.0.c 3 (omega arith) (plain of_c) w.1.4),
    )
      where
        w : WellFormed rows r
        w = declared r l

        plain : (p : Column) → is_operator (field_of w.1.0 p) ≡ false
        plain = no-operator (kind_at rows r) w.1.0 w.1.1 (declares-either rows r l)

        to : (f : Field) (j : ℕ) → j < 4 → is_operator f ≡ false → MayHold rows r f (field_at rows r j) → MayHold T r f (field_at T r j)
        to f j h n i = subst (MayHold T r f) (sym (fields r j l h)) (holds-to rows T same fields f (field_at rows r j) r r (λ e. fields r 2 l (omega arith)) n i)

    formed : (r : ℕ) → r < row_count T → WellFormed T r
    unfolding WellFormed RightRow
    formed r l = go (dec_lt r D)
      where
        go : Dec (r < D) → WellFormed T r
        go (yes h) = declared-right r h
        go (no h) =
            let w = right-rows r (omega arith) l in
            (⊎_elim (λ e. absurd (w.0.0 e)) (λ e. absurd (w.0.1 e)), (w.1.0, w.1.1, (w.1.2 of-a).0, (w.1.2 of-b).0, (w.1.2 of_c).0))

    -- how often a row is referred to
    times : ℕ → ℕ
    times t = occurrences t (targets_below T (row_count T))

    all-counted : (t : ℕ) → times t + from (row_count T) t ≡ from (suc D) t
    unfolding times occurrences
    all-counted t =
        let x = counted rows T same fields t D (row k a b c) laid good-form in
        let s = same in
        let z : occurrences t (targets_below T D) ≡ 0 = ap (occurrences t) (no-targets-below T D (omega arith)) in
        let f = from_step D t in
        subst (λ (n : ℕ). occurrences t (targets_below T n) + from n t ≡ from (suc D) t) (sym count) (omega arith)

    from_in : (j t : ℕ) → j ≤ t → from j t ≡ 1
    from_in j t h = ap (λ (b : Bool). if_else b 1 0) (le-leb j t h)

    from_out : (j t : ℕ) → t < j → from j t ≡ 0
    from_out j t h = ap (λ (b : Bool). if_else b 1 0) (lt-leb j t h)

    never-root : (t : ℕ) → t ≡ D → t < row_count T → times t ≡ 0
    never-root t e l = let c = all-counted t in let x = from_out (row_count T) t l in let y = from_out (suc D) t (omega arith) in omega arith

    once-other : (t : ℕ) → D < t → t < row_count T → times t ≡ 1
    once-other t h l = let c = all-counted t in let x = from_out (row_count T) t l in let y = from_in (suc D) t h in omega arith

    placed : (r : ℕ) → D ≤ r → r < row_count T → Placed T r
    unfolding Placed RightRow Never times Laid
    placed r h l = (
      (λ u e p. subst (λ (s : Shape). Leads T r (field_of s p) (number_of T r p)) (some-injective w.1.0 u (sym w.1.1 ∙ e)) (w.1.2 p).1),
      (λ e. subst (λ (x : ℕ). Memᴰ x processes) (sym (ap natural_of laid.0.1) ∙ ap (kind_at T) (sym (e ∙ same))) process),
      (λ e. (never-zero T r (count-all T r)).0 (never-root r (e ∙ same) l)),
      (λ n. (once-one T r (count-all T r)).0 (once-other r (first n) l)),
    )
      where
        w : RightRow T r
        w = right-rows r h l

        first : ¬ (r ≡ declarations T) → D < r
        first n = let s = same in omega arith

    well : (r : ℕ) → r < suc (row_count T) → WellPlaced T r
    unfolding WellPlaced form_size
    well r l = (
      (λ e i. let s = same in let n = count in omega arith),
      (λ h. let a = h.0 in let s = same in placed r (omega arith) h.1),
    )

    pub form-right : form_fault T ≡ none
    form-right = form-nothing T formed

    pub tree-right : tree_fault T ≡ none
    tree-right = tree-nothing T well

pub flatten-right : FlattenRight
unfolding FlattenRight Good
flatten-right rows k a b c d g p =
    let u = undeclared k g.0.0 g.0.1 in (
      form-right rows (table_of rows (row k a b c)) k a b c (table-declarations rows k a b c u) (table-fields rows (row k a b c)) (table-laid rows (row k a b c)) (table-count rows (row k a b c)) d g p,
      tree-right rows (table_of rows (row k a b c)) k a b c (table-declarations rows k a b c u) (table-fields rows (row k a b c)) (table-laid rows (row k a b c)) (table-count rows (row k a b c)) d g p,
    )

-- The table numbered top down ---------------------------------------------------------------------------------------------------

module _ (rows : List ℤ) (fine : form_fault rows ≡ none) (fine' : tree_fault rows ≡ none) where
  -- there is a root
  pub has-root : declarations rows < row_count rows
  unfolding WellPlaced
  has-root =
      let l = declarations-le rows in
      let n = (well-placed rows fine' (row_count rows) (omega arith)).0 refl in
      omega arith

  both : (form_fault (top_down rows) ≡ none) × (tree_fault (top_down rows) ≡ none)
  unfolding form_of root top_down FlattenRight
  both =
      let w = rooted rows has-root in
      let g = subst (Good rows) w.1 (good rows fine fine' (row_count rows) (declarations rows) (omega arith) (omega arith)) in
      subst (λ (f : Form). (form_fault (table_of rows f) ≡ none) × (tree_fault (table_of rows f) ≡ none)) (sym w.1)
      (flatten-right rows (kind_at rows (declarations rows)) _ _ _ (λ r l. let h = has-root in well-formed rows fine r (omega arith)) g (root-process rows fine' has-root))

pub form-kept : FormKept
unfolding FormKept
form-kept rows e i = (both rows e i).0

pub tree-kept : TreeKept
unfolding TreeKept
tree-kept rows e i = (both rows e i).1
