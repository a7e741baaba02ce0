-- Top-down numbering keeps the declarations and the form, so that numbering again changes nothing.
use mathlib.Core.Path.{◌≡◌, refl, sym, ap, ◌∙◌, subst}
use mathlib.Core.Logic.{◌⊎◌, inl, inr}
use mathlib.Core.Bool.{Bool, true, false, false≢true, ◌||◌}
use mathlib.Core.List.{List, [], ◌++◌, append-nil}
use Prim.Native.Nat.{ℕ, zero, suc, ◌+◌, ◌*◌, ◌≤◌, ◌<◌}
use native.Mathlib.Nat.{eq-or-lt_of_le}
use native.Mathlib.Decide.{dec_lt}
use native.Mathlib.Omega.{arith}
use lib.IntN.{ℤ, pos}
use lib.Dec.{eqb}
use lib.ListN.{length, get_or, take, length-append, length-take, get_or-append}
use lib.Seq.{get_or-take, take_at}
use Rattle.meaning.specs.Basics.{if_else}
use Rattle.meaning.specs.Rows.{natural_of, row_count, field_at, kind_at}
use Rattle.meaning.specs.Declarations.{declares, leading, declarations, root}
use Rattle.base_top_down.specs.Forms.{Form, absent, row, form_step, form_at, form_size, rows_from, form_of, declared, table_of, top_down, is_row}
use Rattle.base_top_down.specs.Laid.{Laid, DecodedShaped, SameForm, TopDownAgain}
use Rattle.base_top_down.proofs.Flat.{flat-length, laid-flat, decodes, form_at-at, form_at-past}
use Rattle.base_top_down.proofs.Each.{decoded-shaped}

-- Leading declarations ----------------------------------------------------------------------------------------------------------

-- where the leading rows end, and why
pub data Ends (rows : List ℤ) (k r d : ℕ) : Type 0 where
  ends : r ≤ d → d ≤ r + k → ((q : ℕ) → r ≤ q → q < d → declares rows q ≡ true) → (d < r + k → declares rows d ≡ false) → Ends rows k r d

leading-ends : (rows : List ℤ) (k r : ℕ) → Ends rows k r (leading rows k r)
unfolding leading
leading-ends rows zero r = ends (omega arith) (omega arith) (λ q l h. absurd (omega arith)) (λ h. absurd (omega arith))
leading-ends rows (suc k) r = go (declares rows r) refl (leading rows k (suc r)) (leading-ends rows k (suc r))
  where
    go : (b : Bool) → declares rows r ≡ b → (d : ℕ) → Ends rows k (suc r) d → Ends rows (suc k) r (if_else b d r)
    go true e d (ends l h f g) = ends (omega arith) (omega arith) (λ q i j. first q (eq-or-lt_of_le i) j) (λ i. g (omega arith))
      where
        first : (q : ℕ) → (r ≡ q) ⊎ (r < q) → q < d → declares rows q ≡ true
        first q (inl s) j = subst (λ (m : ℕ). declares rows m ≡ true) s e
        first q (inr s) j = f q s j
    go false e d w = ends (omega arith) (omega arith) (λ q i j. absurd (omega arith)) (λ i. e)

-- one place only
pub one_end : (rows : List ℤ) (k r d c : ℕ) → Ends rows k r d → Ends rows k r c → d ≡ c
one_end rows k r d c (ends l h f g) (ends m i s t) = go (dec_lt d c) (dec_lt c d)
  where
    go : Dec (d < c) → Dec (c < d) → d ≡ c
    go (yes x) y = absurd (false≢true (sym (g (omega arith)) ∙ s d (omega arith) x))
    go (no x) (yes y) = absurd (false≢true (sym (t (omega arith)) ∙ f c (omega arith) y))
    go (no x) (no y) = omega arith

pub declarations-end : (rows : List ℤ) → Ends rows (row_count rows) 0 (declarations rows)
unfolding declarations
declarations-end rows = leading-ends rows (row_count rows) 0

pub declarations-le : (rows : List ℤ) → declarations rows ≤ row_count rows
declarations-le rows = go (declarations-end rows)
  where
    go : Ends rows (row_count rows) 0 (declarations rows) → declarations rows ≤ row_count rows
    go (ends l h f g) = omega arith

-- The table numbered top down ---------------------------------------------------------------------------------------------------

module _ (rows : List ℤ) where
  pub declared-length : length (declared rows) ≡ 4 * declarations rows
  unfolding declared
  declared-length = let h = declarations-le rows in simp length-take (omega arith)

  module _ (f : Form) where
    pub table-length : length (table_of rows f) ≡ 4 * (declarations rows + form_size f)
    unfolding table_of
    table-length = let h = declared-length in let l = flat-length (declarations rows) f in simp length-append (omega arith)

    pub table-count : row_count (table_of rows f) ≡ declarations rows + form_size f
    table-count = let l = table-length in omega arith

    -- the declarations are the same
    pub table-number : (p : ℕ) → p < 4 * declarations rows → get_or (table_of rows f) p (pos 0) ≡ get_or rows p (pos 0)
    unfolding table_of declared
    table-number p h =
        let e = declared-length in
        get_or-append (declared rows) (rows_from (declarations rows) f) (pos 0) p (omega arith) ∙ get_or-take (4 * declarations rows) rows p (pos 0) h

    pub table-fields : (q j : ℕ) → q < declarations rows → j < 4 → field_at (table_of rows f) q j ≡ field_at rows q j
    table-fields q j h l = table-number (4 * q + j) (omega arith)

    pub table-laid : Laid (table_of rows f) (declarations rows) f
    unfolding table_of
    table-laid =
        subst (λ (t : List ℤ). Laid t (declarations rows) f) (append-nil (declared rows ++ rows_from (declarations rows) f)) (laid-flat (declared rows) [] (declarations rows) f declared-length)

    -- and no more, unless the form begins with one
    ends_there : (declarations rows < row_count (table_of rows f) → declares (table_of rows f) (declarations rows) ≡ false) → declarations (table_of rows f) ≡ declarations rows
    ends_there w =
        one_end (table_of rows f) (row_count (table_of rows f)) 0 (declarations (table_of rows f)) (declarations rows) (declarations-end (table_of rows f)) (go (declarations-end rows))
      where
        go : Ends rows (row_count rows) 0 (declarations rows) → Ends (table_of rows f) (row_count (table_of rows f)) 0 (declarations rows)
        go (ends l h t g) =
            ends (omega arith) (let c = table-count in omega arith)
            (λ q i j. ap (λ (z : ℤ). eqb (natural_of z) 1 || eqb (natural_of z) 2) (table-fields q 0 j (omega arith)) ∙ t q i j)
            (λ i. w (omega arith))

  pub table-declarations : (k : ℕ) (a b c : Form) → (eqb k 1 || eqb k 2) ≡ false → declarations (table_of rows (row k a b c)) ≡ declarations rows
  unfolding Laid
  table-declarations k a b c u =
      let l = table-laid (row k a b c) in
      ends_there (row k a b c) (λ i. ap (λ (z : ℤ). eqb (natural_of z) 1 || eqb (natural_of z) 2) l.0.1 ∙ u)

  pub top_down-length : length (top_down rows) ≡ 4 * (declarations rows + form_size (form_of rows))
  unfolding top_down
  top_down-length = table-length (form_of rows)

  pub top_down-count : row_count (top_down rows) ≡ declarations rows + form_size (form_of rows)
  unfolding top_down
  top_down-count = table-count (form_of rows)

  pub declared-number : (p : ℕ) → p < 4 * declarations rows → get_or (top_down rows) p (pos 0) ≡ get_or rows p (pos 0)
  unfolding top_down
  declared-number = table-number (form_of rows)

  pub declared-fields : (q j : ℕ) → q < declarations rows → j < 4 → field_at (top_down rows) q j ≡ field_at rows q j
  unfolding top_down
  declared-fields = table-fields (form_of rows)

  pub top_down-laid : Laid (top_down rows) (declarations rows) (form_of rows)
  unfolding top_down
  top_down-laid = table-laid (form_of rows)

  -- the form of the root, if there is one
  pub rooted : declarations rows < row_count rows → (at : ℕ → Form) × (form_of rows ≡ form_step rows (declarations rows) at)
  unfolding form_of root
  rooted h = (_, form_at-at rows (declarations rows) h)

  pub unrooted : row_count rows ≤ declarations rows → form_of rows ≡ absent
  unfolding form_of root
  unrooted h = form_at-past rows (declarations rows) h

  unrooted-size : row_count rows ≤ declarations rows → form_size (form_of rows) ≡ 0
  unfolding form_size
  unrooted-size h = ap form_size (unrooted h)

  -- so the root is the same row
  pub same-declarations : declarations (top_down rows) ≡ declarations rows
  unfolding top_down
  same-declarations = go (dec_lt (declarations rows) (row_count rows)) (declarations-end rows)
    where
      go : Dec (declarations rows < row_count rows) → Ends rows (row_count rows) 0 (declarations rows) → declarations (table_of rows (form_of rows)) ≡ declarations rows
      go (yes h) (ends l m t g) =
          let r = rooted h in
          subst (λ (f : Form). declarations (table_of rows f) ≡ declarations rows) (sym r.1) (table-declarations (kind_at rows (declarations rows)) _ _ _ (g (omega arith)))
      go (no h) w =
          let z = unrooted-size (omega arith) in
          let c = table-count (form_of rows) in
          ends_there (form_of rows) (λ i. absurd (omega arith))

-- the form of the root stands at the root
kept : (rows : List ℤ) → form_at (top_down rows) (declarations rows) ≡ form_of rows
unfolding DecodedShaped form_of root
kept rows = go (dec_lt (declarations rows) (row_count rows))
  where
    go : Dec (declarations rows < row_count rows) → form_at (top_down rows) (declarations rows) ≡ form_of rows
    go (yes h) =
        let r = rooted rows h in
        decodes (top_down rows) (declarations rows) (form_of rows) (top_down-laid rows) (decoded-shaped rows (declarations rows)) (ap is_row r.1)
    go (no h) =
        let z = unrooted-size rows (omega arith) in
        let c = top_down-count rows in
        form_at-past (top_down rows) (declarations rows) (omega arith) ∙ sym (unrooted rows (omega arith))

pub same-form : SameForm
unfolding SameForm form_of root
same-form rows = ap (form_at (top_down rows)) (same-declarations rows) ∙ kept rows

again : (rows : List ℤ) (d : ℕ) (f : Form) → d ≡ declarations rows → f ≡ form_of rows → take (4 * d) (top_down rows) ++ rows_from d f ≡ top_down rows
unfolding top_down table_of
again rows d f e i =
    (λ j. take (4 * e j) (top_down rows) ++ rows_from (e j) (i j))
    ∙ ap (λ (l : List ℤ). l ++ rows_from (declarations rows) (form_of rows)) (take_at (declared rows) (rows_from (declarations rows) (form_of rows)) (4 * declarations rows) (declared-length rows))

pub top_down-again : TopDownAgain
unfolding TopDownAgain SameForm top_down table_of declared
top_down-again rows = again rows (declarations (top_down rows)) (form_of (top_down rows)) (same-declarations rows) (same-form rows)
