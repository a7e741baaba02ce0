-- The rows of a form: how many, that they stand where they are put, and that decoding gives the form back.
use mathlib.Core.Path.{◌≡◌, refl, sym, ap, ◌∙◌, subst}
use mathlib.Core.Bool.{Bool, true, false, false≢true}
use mathlib.Core.List.{List, [], ◌∷◌, ◌++◌, append_assoc}
use Prim.Native.Nat.{ℕ, suc, ◌+◌, ◌*◌, ◌≤◌, ◌<◌}
use native.Mathlib.Omega.{arith}
use lib.IntN.{ℤ, pos}
use lib.ListN.{length, get_or, length-append}
use lib.Seq.{get_or_at}
use lib.Dec.{ltb}
use Rattle.meaning.specs.Basics.{if_else}
use borrow.Author.Tests.{lt-ltb}
use Rattle.meaning.specs.Rows.{row_count, natural_of, field_at, kind_at}
use Rattle.meaning.proofs.HigherRows.{at_row-at, at_row-past}
use Rattle.base_top_down.specs.Forms.{Form, absent, number, row, is_reference, shape_for, item_of, form_step, form_at, form_size, written_field, row_of_b, row_of_c, rows_from, Suits, Shaped, is_row}
use Rattle.base_top_down.specs.Laid.{Laid, FlattenLength, FlattenDecodes}

pub flat-length : (n : ℕ) (f : Form) → length (rows_from n f) ≡ 4 * form_size f
unfolding rows_from form_size
flat-length n absent = refl
flat-length n (number z) = refl
flat-length n (row k a b c) =
    let ha = flat-length (suc n) a in
    let hb = flat-length (row_of_b n a) b in
    let hc = flat-length (row_of_c n a b) c in
    simp length-append (omega arith)

pub flatten-length : FlattenLength
unfolding FlattenLength
flatten-length = flat-length

-- numbers stand in a list from a place on
Has : List ℤ → ℕ → List ℤ → Type 0
Has rows o [] = Unit {0}
Has rows o (x ∷ l) = (get_or rows o (pos 0) ≡ x) × Has rows (suc o) l

has-append : (rows : List ℤ) (o : ℕ) (l m : List ℤ) → Has rows o (l ++ m) → Has rows o l × Has rows (o + length l) m
unfolding Has
has-append rows o [] m h = (tt, subst (λ (x : ℕ). Has rows x m) (omega arith) h)
has-append rows o (x ∷ l) m h =
    let i = has-append rows (suc o) l m h.1 in
    ((h.0, i.0), subst (λ (x : ℕ). Has rows x m) (omega arith) i.1)

has : (rows before after l : List ℤ) (o : ℕ) → rows ≡ before ++ (l ++ after) → length before ≡ o → Has rows o l
unfolding Has
has rows before after [] o e i = tt
has rows before after (x ∷ l) o e i = (
  ap (λ (w : List ℤ). get_or w o (pos 0)) e ∙ get_or_at before x (l ++ after) (pos 0) o i,
  has rows (before ++ (x ∷ [])) after l (suc o) (e ∙ sym (append_assoc before (x ∷ []) (l ++ after))) (simp length-append (omega arith)),
)

-- what is flattened from row n on stands there
laid : (rows : List ℤ) (n : ℕ) (f : Form) → n + form_size f ≤ row_count rows → Has rows (4 * n) (rows_from n f) → Laid rows n f
unfolding Has Laid rows_from form_size
laid rows n absent l h = tt
laid rows n (number z) l h = tt
laid rows n (row k a b c) l h =
    let fa = rows_from (suc n) a in
    let fb = rows_from (row_of_b n a) b in
    let fc = rows_from (row_of_c n a b) c in
    let la = flat-length (suc n) a in
    let lb = flat-length (row_of_b n a) b in
    let ab = has-append rows (suc (suc (suc (suc (4 * n))))) (fa ++ fb) fc h.1.1.1.1 in
    let aa = has-append rows (suc (suc (suc (suc (4 * n))))) fa fb ab.0 in
    let lab = length-append fa fb in (
      (omega arith, at 0 (4 * n) (omega arith) h.0, at 1 (suc (4 * n)) (omega arith) h.1.0, at 2 (suc (suc (4 * n))) (omega arith) h.1.1.0, at 3 (suc (suc (suc (4 * n)))) (omega arith) h.1.1.1.0),
      (
        (
          laid rows (suc n) a (omega arith) (subst (λ (o : ℕ). Has rows o fa) (omega arith) aa.0),
          laid rows (row_of_b n a) b (omega arith) (subst (λ (o : ℕ). Has rows o fb) (omega arith) aa.1),
        ),
        laid rows (row_of_c n a b) c (omega arith) (subst (λ (o : ℕ). Has rows o fc) (omega arith) ab.1),
      ),
    )
  where
    at : {z : ℤ} (j o : ℕ) → o ≡ 4 * n + j → get_or rows o (pos 0) ≡ z → field_at rows n j ≡ z
    at j o e g = ap (λ (x : ℕ). get_or rows x (pos 0)) (sym e) ∙ g

pub laid-flat : (before after : List ℤ) (d : ℕ) (f : Form) → length before ≡ 4 * d → Laid (before ++ rows_from d f ++ after) d f
laid-flat before after d f e =
    let l = flat-length d f in
    laid (before ++ rows_from d f ++ after) d f
    (simp length-append (omega arith))
    (has (before ++ rows_from d f ++ after) before after (rows_from d f) (4 * d) (append_assoc before (rows_from d f) after) e)

-- a row of a table is decoded by its kind
pub form_at-at : (rows : List ℤ) (r : ℕ) → r < row_count rows → form_at rows r ≡ form_step rows r (λ t. if_else (ltb r t) (form_at rows t) absent)
unfolding form_at
form_at-at rows r h = at_row-at absent (form_step rows) (row_count rows) r h

pub form_at-past : (rows : List ℤ) (r : ℕ) → row_count rows ≤ r → form_at rows r ≡ absent
unfolding form_at
form_at-past rows r h = at_row-past absent (form_step rows) (row_count rows) r h

-- a field gives back what was written there, if the row that it names does
item : (at : ℕ → Form) (t : Bool) (m : ℕ) (x : Form) → Suits t x → (is_row x ≡ true → at m ≡ x) → item_of at t (written_field m x) ≡ x
item at true m absent s h = refl
item at true m (number z) s h = absurd s
item at true m (row k a b c) s h = h refl
item at false m absent s h = absurd s
item at false m (number z) s h = refl
item at false m (row k a b c) s h = absurd s

pub above : (rows : List ℤ) (n m : ℕ) → n < m → if_else (ltb n m) (form_at rows m) absent ≡ form_at rows m
above rows n m h = ap (λ (t : Bool). if_else t (form_at rows m) absent) (lt-ltb n m h)

-- a form that is laid out is decoded
pub decodes : (rows : List ℤ) (n : ℕ) (f : Form) → Laid rows n f → Shaped f → is_row f ≡ true → form_at rows n ≡ f
unfolding Laid Shaped
decodes rows n absent l s e = absurd (false≢true e)
decodes rows n (number z) l s e = absurd (false≢true e)
decodes rows n (row k a b c) l s e =
    form_at-at rows n l.0.0
    ∙ whole (kind_at rows n) (field_at rows n 1) (field_at rows n 2) (field_at rows n 3) (ap natural_of l.0.1) l.0.2 l.0.3 l.0.4
    (item at (is_reference (shape_for k).a) (suc n) a s.0.0.0 (λ i. above rows n (suc n) (omega arith) ∙ decodes rows (suc n) a l.1.0.0 s.0.0.1 i))
    (item at (is_reference (shape_for k).b) (row_of_b n a) b s.0.1.0 (λ i. above rows n (row_of_b n a) (omega arith) ∙ decodes rows (row_of_b n a) b l.1.0.1 s.0.1.1 i))
    (item at (is_reference (shape_for k).c) (row_of_c n a b) c s.1.0 (λ i. above rows n (row_of_c n a b) (omega arith) ∙ decodes rows (row_of_c n a b) c l.1.1 s.1.1 i))
  where
    at : ℕ → Form
    at t = if_else (ltb n t) (form_at rows t) absent

    of : ℕ → ℤ → ℤ → ℤ → Form
    of κ x y z = row κ (item_of at (is_reference (shape_for κ).a) x) (item_of at (is_reference (shape_for κ).b) y) (item_of at (is_reference (shape_for κ).c) z)

    whole : (κ : ℕ) (x y z : ℤ) → κ ≡ k → x ≡ written_field (suc n) a → y ≡ written_field (row_of_b n a) b → z ≡ written_field (row_of_c n a b) c
        → item_of at (is_reference (shape_for k).a) (written_field (suc n) a) ≡ a
        → item_of at (is_reference (shape_for k).b) (written_field (row_of_b n a) b) ≡ b
        → item_of at (is_reference (shape_for k).c) (written_field (row_of_c n a b) c) ≡ c
        → of κ x y z ≡ row k a b c
    whole κ x y z p q r t u v w = (λ i. of (p i) (q i) (r i) (t i)) ∙ (λ i. row k (u i) (v i) (w i))

pub flatten-decodes : FlattenDecodes
unfolding FlattenDecodes
flatten-decodes before after d f e s i = decodes (before ++ rows_from d f ++ after) d f (laid-flat before after d f e) s i
