-- A line is read as a list just if it is that list written, for any reader of fields that undoes a writer of them.
use mathlib.Core.Path.{◌≡◌, refl, sym, ap, ap₂, ◌∙◌, subst}
use mathlib.Core.Bool.{Bool}
use mathlib.Core.List.{List, [], ◌∷◌, ◌++◌, map}
use mathlib.Core.Option.{Option, none, some, none-ne-some, some-injective}
use Prim.Native.Nat.{ℕ}
use lib.ListN.{length}
use lib.Dec.{eqb}
use borrow.Author.Tests.{eq-eqb, eqb-true}
use Rattle.meaning.specs.Texts.{line_feed}
use Rattle.meaning.specs.Basics.{if_else, with_first, all_some}
use Rattle.meaning.specs.Lines.{text, fields, exactly, read_fields, read_line}
use Rattle.meaning.specs.PrintedForms.{Each, each_none, each_more, written}
use Rattle.meaning.proofs.NumeralForm.{let_through}
use Rattle.meaning.proofs.LineLaws.{Inner, Plain, commas, written_is, fields-commas, commas-fields, text-whole, whole-line, each_append}

pub plain : {t : List ℕ} → Each Inner t → Each Plain t
plain each_none = each_none
plain (each_more p h) = each_more p.1 (plain h)

-- texts with commas have no line feed if their parts have none
commas-plain : (ts : List (List ℕ)) → Each (Each Inner) ts → Each Plain (commas ts)
unfolding commas
commas-plain [] h = each_none
commas-plain (t ∷ []) (each_more h g) = plain h
commas-plain (t ∷ u ∷ us) (each_more h g) = each_append (plain h) (each_more refl (commas-plain (u ∷ us) g))

pub text-written : (ts : List (List ℕ)) → Each (Each Inner) ts → text (written ts) ≡ some (commas ts)
text-written ts h = ap text (written_is ts) ∙ text-whole (commas ts) (commas-plain ts h)

-- a line with a text is its fields, written
pub written-fields : (l t : List ℕ) → text l ≡ some t → l ≡ written (fields t)
written-fields l t e =
    (whole-line l t e).0 ∙ ap {B = List ℕ} (λ u. u ++ (line_feed ∷ [])) (sym (commas-fields t)) ∙ sym (written_is (fields t))

-- a reader of fields, a writer, and the values that they are for
module _ {A : Type 0} (r : List ℕ → Option A) (w : A → List ℕ) (P : A → Type 0)
    (inner : (a : A) → Each Inner (w a)) (back : (a : A) → P a → r (w a) ≡ some a) (form : (bs : List ℕ) (a : A) → r bs ≡ some a → (bs ≡ w a) × P a) where
  pub all-inner : (l : List A) → Each (Each Inner) (map w l)
  all-inner [] = each_none
  all-inner (a ∷ l) = each_more (inner a) (all-inner l)

  -- what is written is read
  read_all : (l : List A) → Each P l → all_some (map r (map w l)) ≡ some l
  unfolding all_some
  read_all [] h = refl
  read_all (a ∷ l) (each_more p h) = ap (λ (o : Option A). all_some (o ∷ map r (map w l))) (back a p) ∙ ap (with_first a) (read_all l h)

  -- what is read was written
  all-form : (fs : List (List ℕ)) (l : List A) → all_some (map r fs) ≡ some l → (fs ≡ map w l) × Each P l
  unfolding all_some
  all-form [] l e = subst (λ (m : List A). ([] ≡ map w m) × Each P m) (some-injective [] l e) (refl, each_none)
  all-form (f ∷ fs) l e = go (r f) refl e (λ m. all-form fs m)
    where
      Good : List A → Type 0
      Good m = (f ∷ fs ≡ map w m) × Each P m

      rest : (a : A) → r f ≡ some a → (o : Option (List A)) → all_some (map r fs) ≡ o → with_first a o ≡ some l → ((m : List A) → all_some (map r fs) ≡ some m → (fs ≡ map w m) × Each P m) → Good l
      rest a i none j h k = absurd (none-ne-some l h)
      rest a i (some m) j h k =
          subst Good (some-injective (a ∷ m) l h)
          (ap₂ (λ (x : List ℕ) (y : List (List ℕ)). x ∷ y) (form f a i).0 (k m j).0, each_more (form f a i).1 (k m j).1)

      go : (o : Option A) → r f ≡ o → all_some (o ∷ map r fs) ≡ some l → ((m : List A) → all_some (map r fs) ≡ some m → (fs ≡ map w m) × Each P m) → Good l
      go none i h k = absurd (none-ne-some l h)
      go (some a) i h k = rest a i (all_some (map r fs)) refl h k

  pub line_reads : (k : ℕ) (a : A) (l : List A) → length (a ∷ l) ≡ k → Each P (a ∷ l) → read_line r k (written (map w (a ∷ l))) ≡ some (a ∷ l)
  unfolding read_line
  line_reads k a l e h =
      ap (λ (o : Option (List ℕ)). exactly k (read_fields r o)) (text-written (map w (a ∷ l)) (all-inner (a ∷ l)))
      ∙ ap (λ (fs : List (List ℕ)). exactly k (all_some (map r fs))) (fields-commas (w a) (map w l) (all-inner (a ∷ l)))
      ∙ ap (exactly k) (read_all (a ∷ l) h)
      ∙ ap (λ (t : Bool). if_else t (some (a ∷ l)) none) (eq-eqb (length (a ∷ l)) k e)

  pub line-form : (k : ℕ) (line : List ℕ) (l : List A) → read_line r k line ≡ some l → (line ≡ written (map w l)) × ((length l ≡ k) × Each P l)
  unfolding read_line
  line-form k line l e = go (text line) refl e
    where
      read : (t : List ℕ) → text line ≡ some t → (o : Option (List A)) → all_some (map r (fields t)) ≡ o → exactly k o ≡ some l → (line ≡ written (map w l)) × ((length l ≡ k) × Each P l)
      read t i none j h = absurd (none-ne-some l h)
      read t i (some m) j h =
          let c = let_through (eqb (length m) k) (some m) l h in
          let n = all-form (fields t) m j in
          subst (λ (q : List A). (line ≡ written (map w q)) × ((length q ≡ k) × Each P q)) (some-injective m l c.1)
          (written-fields line t i ∙ ap written n.0, (eqb-true (length m) k c.0, n.1))

      go : (o : Option (List ℕ)) → text line ≡ o → exactly k (read_fields r o) ≡ some l → (line ≡ written (map w l)) × ((length l ≡ k) × Each P l)
      go none i h = absurd (none-ne-some l h)
      go (some t) i h = read t i (all_some (map r (fields t))) refl h
