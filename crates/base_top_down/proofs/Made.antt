-- Rows that are made of declarations and a form: the declarations are these, the form is that of the root, and the rows are in top-down numbering.
use mathlib.Core.Path.{◌≡◌, refl, ap, subst, ◌∙◌}
use mathlib.Core.Bool.{true, false, ◌||◌}
use mathlib.Core.List.{List, [], ◌++◌, append-nil}
use Prim.Native.Nat.{ℕ, ◌+◌, ◌*◌, ◌<◌}
use native.Mathlib.Omega.{arith}
use lib.IntN.{ℤ, pos}
use lib.Dec.{eqb}
use lib.ListN.{length, take, length-append, get_or-append}
use lib.Seq.{take_at}
use Rattle.meaning.specs.Rows.{natural_of, row_count, field_at}
use Rattle.meaning.specs.Declarations.{declares, declarations, root}
use Rattle.base_top_down.specs.Forms.{Form, row, form_at, form_size, rows_from, form_of, declared, table_of, top_down, Shaped}
use Rattle.base_top_down.specs.Laid.{Laid}
use Rattle.base_top_down.proofs.Flat.{flat-length, laid-flat, decodes}
use Rattle.base_top_down.proofs.Again.{ends, one_end, declarations-end}

module _ (ds : List ℤ) (n k : ℕ) (a b c : Form) (sized : length ds ≡ 4 * n) (all-declare : (q : ℕ) → q < n → declares ds q ≡ true)
    (no-declaration : (eqb k 1 || eqb k 2) ≡ false) (shaped : Shaped (row k a b c)) where
  abbrev made : List ℤ
  made = ds ++ rows_from n (row k a b c)

  made-length : length made ≡ 4 * (n + form_size (row k a b c))
  made-length = let l = flat-length n (row k a b c) in let e = length-append ds (rows_from n (row k a b c)) in omega arith

  made-count : row_count made ≡ n + form_size (row k a b c)
  made-count = let l = made-length in omega arith

  made-laid : Laid made n (row k a b c)
  made-laid = subst (λ (t : List ℤ). Laid t n (row k a b c)) (append-nil made) (laid-flat ds [] n (row k a b c) sized)

  declared-kind : (q : ℕ) → q < n → field_at made q 0 ≡ field_at ds q 0
  declared-kind q h = get_or-append ds (rows_from n (row k a b c)) (pos 0) (4 * q + 0) (omega arith)

  pub made-declarations : declarations made ≡ n
  unfolding Laid form_size
  made-declarations =
      let count = made-count in
      let l = made-laid in
      one_end made (row_count made) 0 (declarations made) n (declarations-end made)
      (ends (omega arith) (omega arith) (λ q i j. ap (λ (z : ℤ). eqb (natural_of z) 1 || eqb (natural_of z) 2) (declared-kind q j) ∙ all-declare q j)
      (λ i. ap (λ (z : ℤ). eqb (natural_of z) 1 || eqb (natural_of z) 2) l.0.1 ∙ no-declaration))

  pub made-form : form_of made ≡ row k a b c
  unfolding form_of root
  made-form = ap (form_at made) made-declarations ∙ decodes made n (row k a b c) made-laid shaped refl

  pub made-top-down : top_down made ≡ made
  unfolding top_down table_of declared
  made-top-down = again (declarations made) (form_of made) made-declarations made-form
    where
      again : (d : ℕ) (f : Form) → d ≡ n → f ≡ row k a b c → take (4 * d) made ++ rows_from d f ≡ made
      again d f e i =
          (λ j. take (4 * e j) made ++ rows_from (e j) (i j))
          ∙ ap (λ (l : List ℤ). l ++ rows_from n (row k a b c)) (take_at ds (rows_from n (row k a b c)) (4 * n) sized)
