-- One size more, and one number more.
use mathlib.Core.Path.{◌≡◌, sym, ap, ap₂, ◌∙◌, subst}
use mathlib.Core.Logic.{◌⊎◌, inl, inr}
use mathlib.Core.List.{List, [], ◌∷◌, ◌++◌, append_assoc, map}
use mathlib.Core.Option.{none}
use Prim.Native.Nat.{ℕ, suc, ◌+◌, ◌-◌, ◌≤◌, ◌<◌}
use native.Mathlib.Decide.{dec_lt}
use native.Mathlib.Omega.{arith}
use lib.IntN.{ℤ}
use lib.ListN.{length, get_or, take, drop, set, length-set, take-append-drop}
use lib.Seq.{take-suc, length-take-le, set_at, get_or-set_same, get_or-set_other}
use Rattle.meaning.specs.Rows.{row_count}
use Rattle.meaning.specs.Declarations.{declarations}
use Rattle.meaning.specs.Verdict.{tree_fault}
use Rattle.meaning.specs.References.{Column, Refers}
use Rattle.meaning.specs.Usage.{numbers_from}
use Rattle.meaning.proofs.OneTreeLaw.{declared, declares-only}
use Rattle.base_top_down.specs.Forms.{form_at, form_size}
use Rattle.base_top_down.specs.New.{Sizes, at-root, RightAt, Numbered}
use Rattle.base_top_down.proofs.New.{referrer}
use Rattle.base_numbering.specs.Arrays.{sizes_from, numbered_row, numbered_rows, numbers_over}
use Rattle.base_numbering.proofs.RowLaws.{set_new}

pub sizes-none : (rows : List ℤ) (r : ℕ) (sizes : List ℕ) → row_count rows ≤ length sizes → length sizes ≤ 1024 → row_count rows ≤ r → Sizes rows r sizes
sizes-none rows r sizes a b h = record { room = a; short = b; right = λ t i j. absurd (omega arith) }

pub sizes-more : (rows : List ℤ) (r : ℕ) (sizes : List ℕ) (v : ℕ) → r < row_count rows → Sizes rows (suc r) sizes → v ≡ form_size (form_at rows r) → Sizes rows r (set sizes r v)
sizes-more rows r sizes v l w e = record { room = let h = w.room in simp length-set (omega arith); short = let h = w.short in simp length-set (omega arith); right = each }
  where
    each : (t : ℕ) → r ≤ t → t < row_count rows → get_or (set sizes r v) t 0 ≡ form_size (form_at rows t)
    each t i j = go (dec_lt r t)
      where
        go : Dec (r < t) → get_or (set sizes r v) t 0 ≡ form_size (form_at rows t)
        go (yes h) = get_or-set_other sizes r t v 0 (λ q. omega arith) ∙ w.right t h j
        go (no h) =
            let q : r ≡ t = omega arith in
            subst (λ (x : ℕ). get_or (set sizes r v) x 0 ≡ form_size (form_at rows x)) q (get_or-set_same sizes r v 0 (let k = w.room in omega arith) ∙ e)

pub sizes-later : (rows : List ℤ) (r q : ℕ) (sizes : List ℕ) → r ≤ q → Sizes rows r sizes → Sizes rows q sizes
sizes-later rows r q sizes h w = record { room = w.room; short = w.short; right = λ t i j. w.right t (omega arith) j }

-- no size is put in yet
pub sizes-old : (rows : List ℤ) (r : ℕ) (old : List ℕ) → r ≡ row_count rows → old ≡ sizes_from rows r old
unfolding sizes_from numbers_from
sizes-old rows r old e =
    let none_left : row_count rows - r ≡ 0 = omega arith in
    sym (ap₂ (λ (q n : ℕ). take q old ++ (map (λ t. form_size (form_at rows t)) (numbers_from r n) ++ drop (row_count rows) old)) e none_left ∙ take-append-drop (row_count rows) old)

-- that of row r is put in front of those after it
pub sizes-set : (rows : List ℤ) (r : ℕ) (old sizes : List ℕ) (v : ℕ) → r < row_count rows → row_count rows ≤ length old → v ≡ form_size (form_at rows r) → sizes ≡ sizes_from rows (suc r) old → set sizes r v ≡ sizes_from rows r old
unfolding sizes_from numbers_from
sizes-set rows r old sizes v l h e i =
    let rest = map (λ t. form_size (form_at rows t)) (numbers_from (suc r) (row_count rows - suc r)) ++ drop (row_count rows) old in
    let more : suc (row_count rows - suc r) ≡ row_count rows - r = omega arith in
    ap (λ (s : List ℕ). set s r v) (i ∙ ap (λ (l : List ℕ). l ++ rest) (take-suc old r 0 (omega arith)) ∙ append_assoc (take r old) (get_or old r 0 ∷ []) rest)
    ∙ set_at (take r old) (get_or old r 0) rest v r (length-take-le r old (omega arith))
    ∙ ap (λ (x : ℕ). take r old ++ (x ∷ rest)) e
    ∙ ap (λ (n : ℕ). take r old ++ (map (λ t. form_size (form_at rows t)) (numbers_from r n) ++ drop (row_count rows) old)) more

-- Numbers -----------------------------------------------------------------------------------------------------------------------

-- the root, and the rows that rows below r refer to
unfoldable pub Reached : List ℤ → ℕ → ℕ → Type 0
Reached rows r t = (t ≡ declarations rows) ⊎ ((q : ℕ) × (p : Column) × (q < r) × Refers rows q p t)

-- their numbers are right
abbrev pub RightTo : List ℤ → ℕ → List ℕ → Type 0
RightTo rows r numbers = (t : ℕ) → Reached rows r t → RightAt rows numbers t

pub right-first : (rows : List ℤ) (numbers : List ℕ) → declarations rows < length numbers → RightTo rows (declarations rows) (set numbers (declarations rows) (declarations rows))
unfolding Reached
right-first rows numbers l t (inl e) = subst (RightAt rows (set numbers (declarations rows) (declarations rows))) (sym e) (set_new rows numbers (declarations rows) (declarations rows) at-root l)
right-first rows numbers l t (inr w) = absurd (declares-only rows w.0 w.1 t (declared rows w.0 w.2) w.3)

pub reached : (rows : List ℤ) → tree_fault rows ≡ none → (r t : ℕ) → declarations rows ≤ t → t < row_count rows → t ≤ r → Reached rows r t
unfolding Reached
reached rows tree r t d l h = go (dec_lt (declarations rows) t)
  where
    go : Dec (declarations rows < t) → (t ≡ declarations rows) ⊎ ((q : ℕ) × (p : Column) × (q < r) × Refers rows q p t)
    go (yes i) = let w = referrer rows tree t i l in let b = w.4 in inr (w.0, w.1, omega arith, w.2)
    go (no i) = inl (omega arith)

pub right-more : (rows : List ℤ) (r : ℕ) (before after : List ℕ) → RightTo rows r before → Numbered rows r before after → RightTo rows (r + 1) after
unfolding Reached
right-more rows r before after f w t (inl e) = w.kept t (f t (inl e))
right-more rows r before after f w t (inr h) = go (dec_lt h.0 r)
  where
    go : Dec (h.0 < r) → RightAt rows after t
    go (yes i) = w.kept t (f t (inr (h.0, h.1, i, h.3)))
    go (no i) = let l = h.2 in let e : h.0 ≡ r = omega arith in w.given h.1 t (subst (λ (q : ℕ). Refers rows q h.1 t) e h.3)

-- row r gives theirs, and then the rows after it
pub rows_next : (rows : List ℤ) (r n : ℕ) (numbers : List ℕ) → r < n → numbered_rows rows r (n - r) numbers ≡ numbered_rows rows (r + 1) (n - (r + 1)) (numbered_row rows r numbers)
unfolding numbered_rows
rows_next rows r n numbers l = let more : n - r ≡ suc (n - (r + 1)) = omega arith in ap (λ (k : ℕ). numbered_rows rows r k numbers) more

pub rows-done : (rows : List ℤ) (r n : ℕ) (numbers : List ℕ) → n ≤ r → numbered_rows rows r (n - r) numbers ≡ numbers
unfolding numbered_rows
rows-done rows r n numbers l = let none_left : n - r ≡ 0 = omega arith in ap (λ (k : ℕ). numbered_rows rows r k numbers) none_left

pub all-rows : (rows : List ℤ) (old : List ℕ) (d n : ℕ) → d ≡ declarations rows → n ≡ row_count rows → numbered_rows rows d (n - d) (set old d d) ≡ numbers_over rows old
unfolding numbers_over
all-rows rows old d n i j = ap₂ (λ (e m : ℕ). numbered_rows rows e (m - e) (set old e e)) i j
