-- A row number in a sheet's first line: the field that begins at a place, and the comma in front of it.
use mathlib.Core.Path.{◌≡◌, refl, sym, ap, ◌∙◌, subst}
use mathlib.Core.Logic.{⊎_elim}
use mathlib.Core.Bool.{Bool, true, false, false≢true}
use mathlib.Core.List.{List, [], ◌∷◌, ◌++◌}
use Prim.Native.Nat.{ℕ, zero, suc, ◌+◌, ◌-◌, ◌≤◌, ◌<◌}
use native.Mathlib.Omega.{arith}
use native.Mathlib.Numerals.{add-one}
use lib.IntN.{pos}
use lib.ListN.{length, get_or, take, drop, length-append, length-take, length-drop, take-append-drop, drop_of_length-le}
use lib.Seq.{drop-cons, drop-drop, take-append_seam}
use lib.Dec.{eqb}
use Rattle.meaning.specs.Basics.{if_else}
use borrow.Author.Tests.{eq-eqb, ne_eqb}
use Rattle.meaning.specs.Texts.{line_feed, comma}
use Rattle.meaning.specs.Lines.{same}
use Rattle.meaning.specs.Numerals.{decimal, printed}
use Rattle.meaning.specs.PrintedForms.{Each, each_more}
use Rattle.meaning.proofs.LineLaws.{Inner, printed-inner}
use Rattle.meaning.proofs.NoFault.{same-is, same_refl}
use Rattle.read_table.specs.Fields.{field_size}
use Rattle.std.specs.Prelude.{Option, Some, None}
use Rattle.read_sheet.specs.Header.{header_entry, Stops, EndsAt}

decimal-inner : (n : ℕ) → Each Inner (decimal n)
unfolding printed
decimal-inner n = printed-inner (pos n)

-- a text without comma and line feed, with one of them behind it, is a field
field_of : (t : List ℕ) → Each Inner t → (b : ℕ) (u : List ℕ) → Stops b → field_size (t ++ (b ∷ u)) ≡ length t
unfolding field_size
field_of [] h b u s = ⊎_elim (λ e. ap (λ (c : Bool). if_else c 0 (if_else (eqb b line_feed) 0 (suc (field_size u)))) (eq-eqb b comma e)) at-feed s
  where
    at-feed : b ≡ line_feed → if_else (eqb b comma) 0 (if_else (eqb b line_feed) 0 (suc (field_size u))) ≡ 0
    at-feed e = rw (ne_eqb b comma (λ q. omega arith), eq-eqb b line_feed e)
field_of (a ∷ t) (each_more p h) b u s = rw (p.0, p.1) (ap suc (field_of t h b u s))

-- Numbers -----------------------------------------------------------------------------------------------------------------------

module _ (sheet : List ℕ) (from r end : ℕ) (e : end ≡ from + field_size (drop from sheet)) where
  abbrev field : List ℕ
  field = take (end - from) (drop from sheet)

  -- a number with a comma or a line feed behind it is the field
  number-field : (b : ℕ) (u : List ℕ) → Stops b → drop from sheet ≡ decimal r ++ (b ∷ u) → (end < length sheet) × (field ≡ decimal r)
  number-field b u s i =
      let n : field_size (drop from sheet) ≡ length (decimal r) = ap field_size i ∙ field_of (decimal r) (decimal-inner r) b u s in
      let l = ap length i ∙ length-append (decimal r) (b ∷ u) in
      let m = length-drop from sheet in
      let k : end - from ≡ length (decimal r) = omega arith in
      (omega arith, ap (λ (q : ℕ). take q (drop from sheet)) k ∙ ap (take (length (decimal r))) i ∙ take-append_seam (decimal r) (b ∷ u))

  pub number-unended : length sheet ≤ end → EndsAt sheet from (decimal r) None
  number-unended h = λ b u s i. let q = (number-field b u s i).0 in omega arith

  pub number-differs : same field (decimal r) ≡ false → EndsAt sheet from (decimal r) None
  number-differs h = λ b u s i. false≢true (sym h ∙ ap (λ (l : List ℕ). same l (decimal r)) (number-field b u s i).1 ∙ same_refl (decimal r))

  pub number-ended : end < length sheet → same field (decimal r) ≡ true → EndsAt sheet from (decimal r) (Some end)
  number-ended h t =
      let q : field ≡ decimal r = same-is field (decimal r) t in
      let l : length (decimal r) ≡ end - from = sym (ap length q) ∙ length-take (end - from) (drop from sheet) ∙ rw (length-drop from sheet) (omega arith) in
      let all : from + (end - from) ≡ end = omega arith in
      let b : drop (end - from) (drop from sheet) ≡ drop end sheet = drop-drop (end - from) from sheet ∙ ap (λ (n : ℕ). drop n sheet) all in
      (omega arith, sym (take-append-drop (end - from) (drop from sheet)) ∙ ap (λ (l : List ℕ). l ++ drop (end - from) (drop from sheet)) q ∙ ap (λ (l : List ℕ). decimal r ++ l) b)

-- Entries -----------------------------------------------------------------------------------------------------------------------

module _ (sheet : List ℕ) (from r : ℕ) where
  pub entry_first : (before : ℕ) → before ≡ 0 → (p : Option ℕ) → EndsAt sheet from (decimal r) p → EndsAt sheet from (header_entry before r) p
  entry_first before z p h = subst (λ (n : ℕ). EndsAt sheet from (header_entry n r) p) (sym z) h

  later : (before : ℕ) → (before ≡ 0 → ⊥) → comma ∷ decimal r ≡ header_entry before r
  later zero n = absurd (n refl)
  later (suc before) n = refl

  module _ (before : ℕ) (n : before ≡ 0 → ⊥) where
    entry-later : (p : Option ℕ) → EndsAt sheet from (comma ∷ decimal r) p → EndsAt sheet from (header_entry before r) p
    entry-later p h = subst (λ (t : List ℕ). EndsAt sheet from t p) (later before n) h

    pub entry-missing : length sheet ≤ from → EndsAt sheet from (header_entry before r) None
    entry-missing h = entry-later None (λ b u s i. let q : ◌≡◌ {A = ℕ} 0 (suc (length (decimal r ++ (b ∷ u)))) = ap length (sym (drop_of_length-le sheet h) ∙ i) in omega arith)

    module _ (h : from < length sheet) where
      next : drop from sheet ≡ get_or sheet from 0 ∷ drop (from + 1) sheet
      next = rw (add-one from) (drop-cons sheet from 0 h)

      pub entry-no-comma : (get_or sheet from 0 ≡ comma → ⊥) → EndsAt sheet from (header_entry before r) None
      entry-no-comma m = entry-later None (λ b u s i. m (ap (λ (l : List ℕ). get_or l 0 0) (sym next ∙ i)))

      pub entry-comma : get_or sheet from 0 ≡ comma → (p : Option ℕ) → EndsAt sheet (from + 1) (decimal r) p → EndsAt sheet from (header_entry before r) p
      entry-comma c p k = entry-later p (go p k)
        where
          there : drop from sheet ≡ comma ∷ drop (from + 1) sheet
          there = next ∙ ap (λ (b : ℕ). b ∷ drop (from + 1) sheet) c

          go : (p : Option ℕ) → EndsAt sheet (from + 1) (decimal r) p → EndsAt sheet from (comma ∷ decimal r) p
          go (Some q) k = (omega (arith, k.0), there ∙ ap {B = List ℕ} (λ l. comma ∷ l) k.1)
          go None k = λ b u s i. k b u s (ap (drop 1) (sym there ∙ i))
