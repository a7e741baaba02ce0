-- The rows of a line's form are those that the line writes, those beneath it and those after it, each where they go.
use mathlib.Core.Path.{◌≡◌, refl, sym, ap, ◌∙◌}
use mathlib.Core.Bool.{true}
use mathlib.Core.List.{List, [], ◌∷◌, ◌++◌, append-nil}
use Prim.Native.Nat.{ℕ, suc, ◌+◌, ◌-◌, ◌*◌}
use native.Mathlib.Omega.{arith}
use lib.IntN.{ℤ, pos}
use lib.ListN.{length, length-append}
use lib.Seq.{sets}
use Rattle.base_top_down.specs.Forms.{Form, absent, number, row, form_size, row_of_b, rows_from, Suits, is_row}
use Rattle.base_top_down.proofs.Flat.{flat-length}
use Rattle.grammar.specs.Outline.{OutlineLine}
use Rattle.grammar.specs.TextRows.{unused, process_form}
use Rattle.read_layout.specs.Layout.{link_to, listed_row, process_size, process_rows, member_rows}
use Rattle.read_layout.proofs.SetsLaws.{sets-join, sets-swap}
use Rattle.read_layout.proofs.LineForms.{link-written, row_written, Bears, process-size, process-laid}

-- the rows of the fields of a form, from row n on
unfoldable pub inner : ℕ → Form → List ℤ
inner n absent = []
inner n (number z) = []
inner n (row k a b c) = rows_from n a ++ rows_from (n + form_size a) b ++ rows_from (n + form_size a + form_size b) c

-- Lists of rows ---------------------------------------------------------------------------------------------------------------------

-- a member and the members after it
member-rows : (P L : Form) (p m : ℕ) → is_row P ≡ true → Suits true L → suc p + form_size P ≡ m
    → rows_from p (row 40 P L unused) ≡ pos 40 ∷ pos (suc p) ∷ link_to (form_size L) m ∷ pos 0 ∷ (rows_from (suc p) P ++ rows_from m L)
unfolding rows_from
member-rows P L p m r s e =
    rw (row_written P (suc p) r, e, link-written L m s)
    (ap (λ (w : List ℤ). pos 40 ∷ pos (suc p) ∷ link_to (form_size L) m ∷ pos 0 ∷ w) (append-nil (rows_from (suc p) P ++ rows_from m L)))

inner-rows : (P L : Form) (n m : ℕ) → n + form_size P ≡ m → inner n (row 40 P L unused) ≡ rows_from n P ++ rows_from m L
unfolding inner rows_from
inner-rows P L n m e = rw e (append-nil (rows_from n P ++ rows_from m L))

-- a block's row and its process
block-rows : (z : ℤ) (P : Form) (n : ℕ) → is_row P ≡ true → rows_from n (row 35 (number z) P unused) ≡ pos 35 ∷ z ∷ pos (suc n) ∷ pos 0 ∷ rows_from (suc n) P
unfolding rows_from form_size
block-rows z P n r =
    let e : row_of_b n (number z) ≡ suc n = omega arith in
    rw (e, row_written P (suc n) r) (ap (λ (w : List ℤ). pos 35 ∷ z ∷ pos (suc n) ∷ pos 0 ∷ w) (append-nil (rows_from (suc n) P)))

-- a choice or an option
listed-rows : (k : ℕ) (B L T : Form) (p : ℕ) → Suits true B → Suits true L → is_row T ≡ true
    → let n = suc p + form_size B in let m = suc p + form_size B + form_size L in
    rows_from p (row k B L T) ≡ listed_row k p (form_size B) (form_size L) ++ (rows_from (suc p) B ++ rows_from n L ++ rows_from m T)
unfolding rows_from
listed-rows k B L T p s t r =
    rw (link-written B (suc p) s, link-written L (suc p + form_size B) t, row_written T (suc p + form_size B + form_size L) r) refl

-- Rows where they go ----------------------------------------------------------------------------------------------------------------

module _ (names : List (List ℕ)) where
  process-length : (x : OutlineLine) (B : Form) (n : ℕ) → Bears x B → length (process_rows names x n (form_size B)) ≡ 4 * process_size names x
  process-length x B n h =
      let e = ap length (process-laid names x B n h) in
      let f = flat-length n (process_form names x B) in
      let g = flat-length (n + process_size names x) B in
      let i = length-append (process_rows names x n (form_size B)) (rows_from (n + process_size names x) B) in
      let j = process-size names x B h in
      omega (arith, e, f, g, i, j)

  -- a process and what is beneath it
  pub process-put : (x : OutlineLine) (B : Form) (p : ℕ) (rows : List ℤ) → Bears x B
      → sets (sets rows (4 * p) (process_rows names x p (form_size B))) (4 * (p + process_size names x)) (rows_from (p + process_size names x) B) ≡ sets rows (4 * p) (rows_from p (process_form names x B))
  process-put x B p rows h =
      let l = process-length x B p h in
      sets-join (process_rows names x p (form_size B)) (rows_from (p + process_size names x) B) rows (4 * p) (4 * (p + process_size names x)) (omega (arith, l))
      ∙ ap (λ (w : List ℤ). sets rows (4 * p) w) (sym (process-laid names x B p h))

  -- with the row of a member before it and the members after it
  pub member-put : (x : OutlineLine) (B L : Form) (p : ℕ) (rows : List ℤ) → Bears x B → is_row (process_form names x B) ≡ true → Suits true L
      → let n = suc p + process_size names x in let m = suc p + process_size names x + form_size B in
      sets (sets (sets rows (4 * p) (member_rows names x p (form_size B) (form_size L))) (4 * n) (rows_from n B)) (4 * m) (rows_from m L) ≡ sets rows (4 * p) (rows_from p (row 40 (process_form names x B) L unused))
  member-put x B L p rows h r s =
      let n = suc p + process_size names x in
      let m = suc p + process_size names x + form_size B in
      let head = member_rows names x p (form_size B) (form_size L) in
      let l = process-length x B (suc p) h in
      let z = process-size names x B h in
      let g = flat-length n B in
      let i = length-append head (rows_from n B) in
      ap (λ (w : List ℤ). sets w (4 * m) (rows_from m L)) (sets-join head (rows_from n B) rows (4 * p) (4 * n) (omega (arith, l)))
      ∙ sets-join (head ++ rows_from n B) (rows_from m L) rows (4 * p) (4 * m) (omega (arith, l, g, i))
      ∙ ap (λ (w : List ℤ). sets rows (4 * p) w)
      (sym (member-rows (process_form names x B) L p m r s (omega (arith, z))
      ∙ ap (λ (w : List ℤ). pos 40 ∷ pos (suc p) ∷ link_to (form_size L) m ∷ pos 0 ∷ (w ++ rows_from m L)) (process-laid names x B (suc p) h)))

  -- without that row
  pub first-put : (x : OutlineLine) (B L : Form) (p : ℕ) (rows : List ℤ) → Bears x B
      → let n = p + process_size names x in let m = p + process_size names x + form_size B in
      sets (sets (sets rows (4 * p) (process_rows names x p (form_size B))) (4 * n) (rows_from n B)) (4 * m) (rows_from m L) ≡ sets rows (4 * p) (inner p (row 40 (process_form names x B) L unused))
  first-put x B L p rows h =
      let m = p + process_size names x + form_size B in
      let P = process_form names x B in
      let z = process-size names x B h in
      let g = flat-length p P in
      ap (λ (w : List ℤ). sets w (4 * m) (rows_from m L)) (process-put x B p rows h)
      ∙ sets-join (rows_from p P) (rows_from m L) rows (4 * p) (4 * m) (omega (arith, z, g))
      ∙ ap (λ (w : List ℤ). sets rows (4 * p) w) (sym (inner-rows P L p m (omega (arith, z))))

-- a block's row, and its process
abbrev pub block_numbers : ℤ → ℕ → List ℤ
block_numbers z p = pos 35 ∷ z ∷ pos (suc p) ∷ pos 0 ∷ []

pub block-put : (z : ℤ) (L : Form) (p : ℕ) (rows : List ℤ) → is_row L ≡ true
    → sets (sets rows (4 * p) (block_numbers z p)) (4 * suc p) (rows_from (suc p) L) ≡ sets rows (4 * p) (rows_from p (row 35 (number z) L unused))
block-put z L p rows r =
    sets-join (block_numbers z p) (rows_from (suc p) L) rows (4 * p) (4 * suc p) (omega arith) ∙ ap (λ (w : List ℤ). sets rows (4 * p) w) (sym (block-rows z L p r))

-- round the first member
first_block : (z : ℤ) (P N : Form) (p : ℕ) → is_row P ≡ true → inner p (row 40 (row 35 (number z) P unused) N unused) ≡ block_numbers z p ++ inner (suc p) (row 40 P N unused)
unfolding form_size
first_block z P N p r =
    let m = suc p + form_size P in
    inner-rows (row 35 (number z) P unused) N p m (omega arith)
    ∙ ap (λ (w : List ℤ). w ++ rows_from m N) (block-rows z P p r)
    ∙ ap (λ (w : List ℤ). block_numbers z p ++ w) (sym (inner-rows P N (suc p) m refl))

pub first-block-put : (z : ℤ) (P N : Form) (p : ℕ) (rows : List ℤ) → is_row P ≡ true
    → sets (sets rows (4 * p) (block_numbers z p)) (4 * suc p) (inner (suc p) (row 40 P N unused)) ≡ sets rows (4 * p) (inner p (row 40 (row 35 (number z) P unused) N unused))
first-block-put z P N p rows r =
    sets-join (block_numbers z p) (inner (suc p) (row 40 P N unused)) rows (4 * p) (4 * suc p) (omega arith) ∙ ap (λ (w : List ℤ). sets rows (4 * p) w) (sym (first_block z P N p r))

-- with the row of the member
pub member-block-put : (z : ℤ) (P N : Form) (p : ℕ) (rows : List ℤ) → is_row P ≡ true → Suits true N
    → let t = form_size (row 40 P N unused) in
    sets (sets rows (4 * p) (pos 40 ∷ pos (suc p) ∷ link_to (form_size N) (suc p + t - form_size N) ∷ pos 0 ∷ block_numbers z (suc p))) (4 * suc (suc p)) (inner (suc (suc p)) (row 40 P N unused))
    ≡ sets rows (4 * p) (rows_from p (row 40 (row 35 (number z) P unused) N unused))
unfolding form_size
member-block-put z P N p rows r s =
    let m = suc p + form_size (row 40 P N unused) - form_size N in
    let W = row 35 (number z) P unused in
    let e : suc p + form_size W ≡ m = omega arith in
    let head = pos 40 ∷ pos (suc p) ∷ link_to (form_size N) m ∷ pos 0 ∷ [] in
    sets-join (head ++ block_numbers z (suc p)) (inner (suc (suc p)) (row 40 P N unused)) rows (4 * p) (4 * suc (suc p)) (omega arith)
    ∙ ap (λ (w : List ℤ). sets rows (4 * p) w)
    (sym (member-rows W N p m refl s e ∙ ap (λ (w : List ℤ). head ++ w) (sym (inner-rows W N (suc p) m e) ∙ first_block z P N (suc p) r)))

-- a choice or an option: its boolean or guard is written before what stands beneath it and after it
pub listed-put : (k : ℕ) (B L T : Form) (p : ℕ) (rows : List ℤ) → Suits true B → Suits true L → is_row T ≡ true
    → let n = suc p + form_size B in let m = suc p + form_size B + form_size L in
    sets (sets (sets (sets rows (4 * p) (listed_row k p (form_size B) (form_size L))) (4 * m) (rows_from m T)) (4 * suc p) (rows_from (suc p) B)) (4 * n) (rows_from n L)
    ≡ sets rows (4 * p) (rows_from p (row k B L T))
listed-put k B L T p rows s t r =
    let n = suc p + form_size B in
    let m = suc p + form_size B + form_size L in
    let head = listed_row k p (form_size B) (form_size L) in
    let RB = rows_from (suc p) B in
    let RL = rows_from n L in
    let RT = rows_from m T in
    let g = flat-length (suc p) B in
    let h = flat-length n L in
    let i = length-append RB RL in
    ap (λ (w : List ℤ). sets w (4 * n) RL) (sets-swap RB RT (sets rows (4 * p) head) (4 * suc p) (4 * m) (omega (arith, g)))
    ∙ sets-swap RL RT (sets (sets rows (4 * p) head) (4 * suc p) RB) (4 * n) (4 * m) (omega (arith, h))
    ∙ ap (λ (w : List ℤ). sets w (4 * m) RT) (sets-join RB RL (sets rows (4 * p) head) (4 * suc p) (4 * n) (omega (arith, g)))
    ∙ sets-join (RB ++ RL) RT (sets rows (4 * p) head) (4 * suc p) (4 * m) (omega (arith, g, h, i))
    ∙ sets-join head (RB ++ RL ++ RT) rows (4 * p) (4 * suc p) (omega arith)
    ∙ ap (λ (w : List ℤ). sets rows (4 * p) w) (sym (listed-rows k B L T p s t r))
