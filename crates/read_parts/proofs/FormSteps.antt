-- The rows of a form written part by part.
use mathlib.Core.Path.{◌≡◌, refl, sym, ap, ap₂, subst, ◌∙◌}
use mathlib.Core.Bool.{true, false≢true}
use mathlib.Core.List.{List, [], ◌∷◌, ◌++◌, append-nil}
use mathlib.Core.Option.{Option, none, some}
use Prim.Native.Nat.{ℕ, suc, ◌+◌, ◌*◌, ◌≤◌, ◌<◌}
use native.Mathlib.Omega.{arith}
use lib.IntN.{ℤ, pos}
use lib.ListN.{length, set}
use Rattle.meaning.specs.Basics.{is_some}
use Rattle.base_top_down.specs.Forms.{Form, absent, number, row, form_size, written_field, row_of_b, row_of_c, rows_from, is_row}
use Rattle.base_top_down.proofs.Flat.{flat-length}
use Rattle.grammar.specs.Grammar.{Token, Syn, literal, bare, at, monadic, dyadic}
use Rattle.grammar.specs.TextRows.{unused}
use Rattle.read_resolved.specs.Resolved.{row_names}
use Rattle.read_classes.specs.Parts.{Parting}
use Rattle.read_expressions.specs.Overlay.{overlay}
use Rattle.read_expressions.proofs.OverlayLaws.{overlay-length, overlay-after, overlay-before}
use Rattle.read_expressions.specs.Expressions.{expression_in, form_in, end_of, with_rows, Writable, form_or}
use Rattle.read_parts.specs.PartForms.{with_form, FormFits, element_syn, Exchanges, as_kind, exchange_form, while_form}
use Rattle.read_parts.proofs.OverlaySteps.{set_first, set-fourth}

-- rows with those of a form keep their length
pub form-length : (f : Form) (n : ℕ) (rows : List ℤ) → 4 * (n + form_size f) ≤ length rows → length (with_form f n rows) ≡ length rows
form-length f n rows h = overlay-length rows (4 * n) (rows_from n f) (omega (arith, h, flat-length n f))

-- an element's form has an unused field c
pub element-form : (o : Option Syn) → element_syn o ≡ true → (a : Form) × (b : Form) × (form_or row_names o ≡ row 11 a b unused)
element-form none h = absurd (false≢true h)
element-form (some (literal z)) h = absurd (false≢true h)
element-form (some (bare n)) h = (_, _, refl)
element-form (some (at n e)) h = (_, _, refl)
element-form (some (monadic k e)) h = absurd (false≢true h)
element-form (some (dyadic k e f)) h = absurd (false≢true h)

expression-row : (o : Option Syn) → is_some o ≡ true → is_row (form_or row_names o) ≡ true
expression-row none h = absurd (false≢true h)
expression-row (some (literal z)) h = refl
expression-row (some (bare n)) h = refl
expression-row (some (at n e)) h = refl
expression-row (some (monadic k e)) h = refl
expression-row (some (dyadic k e f)) h = refl

-- an expression's form is a row
pub phrase-row : (os : List (Option Token)) → is_some (expression_in os) ≡ true → is_row (form_in os) ≡ true
unfolding form_in
phrase-row os h = expression-row (expression_in os) h

-- an element is an expression
element-some : (o : Option Syn) → element_syn o ≡ true → is_some o ≡ true
element-some none h = absurd (false≢true h)
element-some (some e) h = refl

-- a reference to a row
pub row_written : (f : Form) (n : ℕ) → is_row f ≡ true → written_field n f ≡ pos n
row_written absent n h = absurd (false≢true h)
row_written (number z) n h = absurd (false≢true h)
row_written (row k a b c) n h = refl

-- An element and a further field ------------------------------------------------------------------------------------------------------

module _ (k : ℕ) (a b C : Form) (n : ℕ) (rows : List ℤ) (there : is_row C ≡ true) (h : 4 * (n + form_size (row k a b C)) ≤ length rows) where
  -- the element's row is stored again with another kind and the further field
  again : set (set (with_form C (row_of_c n a b) (with_form (row 11 a b unused) n rows)) (4 * n) (pos k)) (4 * n + 3) (pos (row_of_c n a b)) ≡ with_form (row k a b C) n rows
  unfolding rows_from form_size
  again =
      let m = row_of_c n a b in
      let own = rows_from (suc n) a ++ rows_from (row_of_b n a) b in
      let rest = rows_from m C in
      let xs = rows_from n (row 11 a b unused) in
      let lx : length xs ≡ 4 * suc (form_size a + form_size b + 0) = flat-length n (row 11 a b unused) in
      let lc = flat-length m C in
      let e : 4 * m ≡ 4 * n + length xs = omega (arith, lx) in
      ap (λ (d : ℕ). set (set (overlay (with_form (row 11 a b unused) n rows) d rest) (4 * n) (pos k)) (4 * n + 3) (pos m)) e
      ∙ ap (λ (l : List ℤ). set (set l (4 * n) (pos k)) (4 * n + 3) (pos m)) (overlay-after rows (4 * n) xs rest (omega (arith, h, lx, lc)))
      ∙ ap (λ (l : List ℤ). set l (4 * n + 3) (pos m)) (set_first rows (4 * n) (pos 11) (pos k) _ (omega (arith, h)))
      ∙ set-fourth rows (4 * n) (pos k) _ _ (pos 0) (pos m) ((own ++ []) ++ rest) (omega (arith, h))
      ∙ ap₂ (λ (w : ℤ) (l : List ℤ). overlay rows (4 * n) (pos k ∷ written_field (suc n) a ∷ written_field (row_of_b n a) b ∷ w ∷ (l ++ rest))) (sym (row_written C m there)) (append-nil own)

module _ (k : ℕ) (p : Parting) (n : ℕ) (rows : List ℤ) (x : Exchanges p) (f : FormFits (exchange_form k p) n rows) where
  abbrev A : Form
  A = form_in p.before

  abbrev C : Form
  C = form_in p.after

  parts : (a : Form) × (b : Form) × (A ≡ row 11 a b unused)
  unfolding form_in
  parts = element-form (expression_in p.before) x.0

  size-first : form_size A ≡ suc (form_size parts.0 + form_size parts.1 + 0)
  unfolding form_size
  size-first = ap form_size parts.2

  size-both : form_size (as_kind k A C) ≡ suc (form_size parts.0 + form_size parts.1 + form_size C)
  unfolding form_size
  size-both = ap (λ (g : Form). form_size (as_kind k g C)) parts.2

  -- the element can be written
  pub first_fits : Writable p.before n rows
  first_fits = (element-some (expression_in p.before) x.0, omega (arith, f.0, size-first, size-both), omega (arith, f.1, size-first, size-both))

  module _ (m : ℕ) (one : List ℤ) (em : m ≡ end_of p.before n) (e1 : one ≡ with_rows p.before n rows) where
    length-one : length one ≡ length rows
    length-one = ap length e1 ∙ form-length A n rows first_fits.2

    -- then what stands after the mark
    pub second_fits : Writable p.after m one
    second_fits = (x.1, omega (arith, f.0, size-first, size-both, em), omega (arith, f.1, size-first, size-both, em, length-one))

    module _ (r : ℕ) (two : List ℤ) (er : r ≡ end_of p.after m) (e2 : two ≡ with_rows p.after m one) where
      -- the element's row can be stored again
      pub amend-fits : (m ≤ 1024) × (4 * n + 4 ≤ length two) × (n < 1024)
      amend-fits =
          let l = ap length e2 ∙ form-length C m one second_fits.2 ∙ length-one in
          (omega (arith, f.0, size-first, size-both, em), omega (arith, f.1, size-both, l), omega (arith, f.0, size-both))

      -- and the rows are those of both
      pub exchange-laid : (r ≡ n + form_size (as_kind k A C)) × (set (set two (4 * n) (pos k)) (4 * n + 3) (pos m) ≡ with_form (as_kind k A C) n rows)
      exchange-laid =
          let (a, b, q) = parts in
          let em' : m ≡ row_of_c n a b = omega (arith, em, size-first) in
          let long : 4 * (n + form_size (row k a b C)) ≤ length rows = subst (λ (h : Form). 4 * (n + form_size (as_kind k h C)) ≤ length rows) q f.1 in
          let o1 : one ≡ with_form (row 11 a b unused) n rows = e1 ∙ ap (λ (h : Form). with_form h n rows) q in
          let o2 : two ≡ with_form C (row_of_c n a b) (with_form (row 11 a b unused) n rows) = e2 ∙ ap₂ (λ (d : ℕ) (l : List ℤ). with_form C d l) em' o1 in (
            omega (arith, er, em, size-first, size-both),
            ap₂ (λ (l : List ℤ) (d : ℕ). set (set l (4 * n) (pos k)) (4 * n + 3) (pos d)) o2 em'
                ∙ again k a b C n rows (phrase-row p.after x.1) long
                ∙ ap (λ (h : Form). with_form (as_kind k h C) n rows) (sym q),
          )

-- A row before the rows of its fields -------------------------------------------------------------------------------------------------

-- four numbers laid before rows
pub row_before : (rows laid out : List ℤ) (n : ℕ) (a b c d : ℤ) (xs : List ℤ) → 4 * n + 4 + length xs ≤ length rows → laid ≡ overlay rows (4 * (n + 1)) xs
    → out ≡ overlay laid (4 * n) (a ∷ b ∷ c ∷ d ∷ []) → out ≡ overlay rows (4 * n) (a ∷ b ∷ c ∷ d ∷ xs)
row_before rows laid out n a b c d xs h e f =
    let g : 4 * (n + 1) ≡ 4 * n + 4 = omega arith in
    f ∙ ap (λ (l : List ℤ). overlay l (4 * n) (a ∷ b ∷ c ∷ d ∷ [])) (e ∙ ap (λ (i : ℕ). overlay rows i xs) g) ∙ overlay-before rows (4 * n) (a ∷ b ∷ c ∷ d ∷ []) xs h

module _ (p : Parting) (n : ℕ) (rows : List ℤ) (x : is_some (expression_in p.after) ≡ true) (f : FormFits (while_form p absent) n rows) where
  abbrev E : Form
  E = form_in p.after

  size-while : form_size (while_form p absent) ≡ suc (form_size E + 0 + 0)
  unfolding form_size
  size-while = refl

  -- the expression of WHILE can be written
  pub while-fits : Writable p.after (n + 1) rows
  while-fits = (x, omega (arith, f.0, size-while), omega (arith, f.1, size-while))

  module _ (r : ℕ) (laid : List ℤ) (er : r ≡ end_of p.after (n + 1)) (e1 : laid ≡ with_rows p.after (n + 1) rows) where
    pub while-end : r ≡ n + form_size (while_form p absent)
    while-end = omega (arith, er, size-while)

    pub while-room : (r ≤ 2048) × (n < 1024) × (4 * n + 4 ≤ length laid)
    while-room =
        let l = ap length e1 ∙ form-length E (n + 1) rows while-fits.2 in
        (omega (arith, er, while-fits.1), omega (arith, f.0, size-while), omega (arith, f.1, size-while, l))

    -- WHILE before its expression
    pub while-laid : (z : ℤ) (out : List ℤ) → out ≡ overlay laid (4 * n) (pos 33 ∷ pos (n + 1) ∷ z ∷ pos 0 ∷ []) → out ≡ with_form (while_form p (number z)) n rows
    unfolding rows_from form_size
    while-laid z out e2 =
        let s : n + 1 ≡ suc n = omega arith in
        let l = flat-length (n + 1) E in
        row_before rows laid out n (pos 33) (pos (n + 1)) z (pos 0) (rows_from (n + 1) E) (omega (arith, f.1, size-while, l)) e1 e2
        ∙ ap₂ (λ (w : ℤ) (m : List ℤ). overlay rows (4 * n) (pos 33 ∷ w ∷ z ∷ pos 0 ∷ m))
        (ap pos s ∙ sym (row_written E (suc n) (phrase-row p.after x)))
        (ap (λ (i : ℕ). rows_from i E) s ∙ sym (append-nil (rows_from (suc n) E ++ []) ∙ append-nil (rows_from (suc n) E)))
