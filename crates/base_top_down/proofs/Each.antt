-- Every row of a form that is laid out is decoded to its own form; and what is decoded is shaped as the table of kinds says.
use mathlib.Core.Path.{◌≡◌, refl, sym, ap, ◌∙◌, subst}
use mathlib.Core.Bool.{Bool, true, false}
use mathlib.Core.List.{List, ◌++◌}
use Prim.Native.Nat.{ℕ, zero, suc, ◌+◌, ◌-◌, ◌≤◌, ◌<◌}
use native.Mathlib.Omega.{arith}
use native.Mathlib.Decide.{dec_lt}
use lib.IntN.{ℤ, pos, negsuc}
use lib.Dec.{ltb}
use borrow.Author.Tests.{ltb-true}
use lib.ListN.{length, get_or, length-append, get_or-append}
use lib.Seq.{get_or-append-add}
use Rattle.meaning.specs.Basics.{if_else}
use Rattle.meaning.specs.Rows.{row_count, field_at, kind_at}
use Rattle.base_top_down.specs.Forms.{Form, absent, number, row, is_reference, shape_for, item_of, form_at, form_size, row_of_b, row_of_c, rows_from, forms, Suits, Shaped}
use Rattle.base_top_down.specs.Laid.{Laid, EachDecodes, DecodedShaped}
use Rattle.base_top_down.proofs.Flat.{laid-flat, decodes, form_at-at, form_at-past}

forms-length : (f : Form) → length (forms f) ≡ form_size f
unfolding forms form_size
forms-length absent = refl
forms-length (number z) = refl
forms-length (row k a b c) =
    let ha = forms-length a in
    let hb = forms-length b in
    let hc = forms-length c in
    simp length-append (omega arith)

-- an entry of two lists, one after the other, is one of the first or of the second
parted : (x : Form) (l m : List Form) (j : ℕ) → (j < length l → x ≡ get_or l j absent) → (length l ≤ j → x ≡ get_or m (j - length l) absent) → x ≡ get_or (l ++ m) j absent
parted x l m j f g = go (dec_lt j (length l))
  where
    go : Dec (j < length l) → x ≡ get_or (l ++ m) j absent
    go (yes h) = f h ∙ sym (get_or-append l m absent j h)
    go (no h) = g (omega arith) ∙ sym (get_or-append-add l m (j - length l) absent) ∙ ap (λ (y : ℕ). get_or (l ++ m) y absent) (omega arith)

each : (rows : List ℤ) (n : ℕ) (f : Form) → Laid rows n f → Shaped f → (i : ℕ) → i < form_size f → form_at rows (n + i) ≡ get_or (forms f) i absent
unfolding Laid Shaped form_size forms
each rows n absent l s i h = absurd (omega arith)
each rows n (number z) l s i h = absurd (omega arith)
each rows n (row k a b c) l s zero h = ap (form_at rows) (omega arith) ∙ decodes rows n (row k a b c) l s refl
each rows n (row k a b c) l s (suc j) h =
    let la = forms-length a in
    let lb = forms-length b in
    let lab = length-append (forms a) (forms b) in
    parted (form_at rows (n + suc j)) (forms a ++ forms b) (forms c) j
    (λ g. parted (form_at rows (n + suc j)) (forms a) (forms b) j
    (λ e. ap (form_at rows) (omega arith) ∙ each rows (suc n) a l.1.0.0 s.0.0.1 j (omega arith))
    (λ e. ap (form_at rows) (omega arith) ∙ each rows (row_of_b n a) b l.1.0.1 s.0.1.1 (j - length (forms a)) (omega arith)))
    (λ g. ap (form_at rows) (omega arith) ∙ each rows (row_of_c n a b) c l.1.1 s.1.1 (j - length (forms a ++ forms b)) (omega arith))

pub each-decodes : EachDecodes
unfolding EachDecodes
each-decodes before after d f e s i h = each (before ++ rows_from d f ++ after) d f (laid-flat before after d f e) s i h

-- what is decoded is no number
no_number : (rows : List ℤ) (r : ℕ) → Suits true (form_at rows r)
no_number rows r = go (dec_lt r (row_count rows))
  where
    go : Dec (r < row_count rows) → Suits true (form_at rows r)
    go (yes h) = subst (Suits true) (sym (form_at-at rows r h)) tt
    go (no h) = subst (Suits true) (sym (form_at-past rows r (omega arith))) tt

shaped : (rows : List ℤ) (k r : ℕ) → row_count rows ≤ r + k → Shaped (form_at rows r)
unfolding Shaped
shaped rows zero r h = subst Shaped (sym (form_at-past rows r (omega arith))) tt
shaped rows (suc k) r h = go (dec_lt r (row_count rows)) (λ t g. shaped rows k t g)
  where
    at : ℕ → Form
    at t = if_else (ltb r t) (form_at rows t) absent

    go : Dec (r < row_count rows) → ((t : ℕ) → row_count rows ≤ t + k → Shaped (form_at rows t)) → Shaped (form_at rows r)
    go (no l) f = subst Shaped (sym (form_at-past rows r (omega arith))) tt
    go (yes l) f =
        subst Shaped (sym (form_at-at rows r l))
        ((item (is_reference (shape_for (kind_at rows r)).a) (field_at rows r 1), item (is_reference (shape_for (kind_at rows r)).b) (field_at rows r 2)), item (is_reference (shape_for (kind_at rows r)).c) (field_at rows r 3))
      where
        higher : (t : ℕ) (b : Bool) → ltb r t ≡ b → Suits true (if_else b (form_at rows t) absent) × Shaped (if_else b (form_at rows t) absent)
        higher t true e = (no_number rows t, f t (let g = ltb-true r t e in omega arith))
        higher t false e = (tt, tt)

        item : (t : Bool) (z : ℤ) → Suits t (item_of at t z) × Shaped (item_of at t z)
        item true (pos t) = higher t (ltb r t) refl
        item true (negsuc i) = (tt, tt)
        item false z = (tt, tt)

pub decoded-shaped : DecodedShaped
unfolding DecodedShaped
decoded-shaped rows r = shaped rows (row_count rows) r (omega arith)
