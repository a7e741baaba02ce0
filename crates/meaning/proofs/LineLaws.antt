-- Lines and fields: splitting undoes joining, and joining undoes splitting.
use mathlib.Core.Path.{◌≡◌, refl, sym, ap, ap₂, ◌∙◌}
use mathlib.Core.Bool.{Bool, true, false}
use mathlib.Core.List.{List, [], ◌∷◌, ◌++◌, flatten}
use mathlib.Core.Option.{Option, none, some, map, none-ne-some, some-injective}
use Prim.Native.Nat.{ℕ, zero, suc, ◌+◌, ◌/◌, ◌%◌}
use native.Mathlib.Omega.{arith}
use lib.IntN.{ℤ, pos, negsuc}
use lib.Dec.{eqb, ltb}
use Rattle.meaning.specs.Basics.{if_else}
use borrow.Author.Tests.{eqb-true, ne_eqb}
use Rattle.meaning.specs.Texts.{line_feed, comma, digit0}
use Rattle.meaning.specs.Lines.{onto, lines, ending, text, fields}
use Rattle.meaning.specs.Numerals.{digits_onto, decimal, printed}
use Rattle.meaning.specs.PrintedForms.{Each, each_none, each_more, written}

-- a byte that is no line feed; one that is no comma either
abbrev pub Plain : ℕ → Type 0
Plain b = eqb b line_feed ≡ false

abbrev pub Inner : ℕ → Type 0
Inner b = (eqb b comma ≡ false) × Plain b

-- texts with commas between them
unfoldable pub commas : List (List ℕ) → List ℕ
commas [] = []
commas (t ∷ []) = t
commas (t ∷ u ∷ us) = t ++ (comma ∷ commas (u ∷ us))

append_assoc : (l m n : List ℕ) → (l ++ m) ++ n ≡ l ++ (m ++ n)
append_assoc [] m n = refl
append_assoc (b ∷ l) m n = ap {B = List ℕ} (λ r. b ∷ r) (append_assoc l m n)

pub each_append : {P : ℕ → Type 0} {l m : List ℕ} → Each P l → Each P m → Each P (l ++ m)
each_append each_none h = h
each_append (each_more p g) h = each_more p (each_append g h)

pub written_is : (ts : List (List ℕ)) → written ts ≡ commas ts ++ (line_feed ∷ [])
unfolding written commas
written_is [] = refl
written_is (t ∷ []) = refl
written_is (t ∷ u ∷ us) =
    ap {B = List ℕ} (λ r. t ++ (comma ∷ r)) (written_is (u ∷ us)) ∙ sym (append_assoc t (comma ∷ commas (u ∷ us)) (line_feed ∷ []))

-- Fields ------------------------------------------------------------------------------------------------------------------------

fields-first : (t : List ℕ) → Each Inner t → (bs : List ℕ) → fields (t ++ (comma ∷ bs)) ≡ t ∷ fields bs
unfolding fields
fields-first [] h bs = refl
fields-first (b ∷ t) (each_more p h) bs =
    ap (λ (c : Bool). if_else c ([] ∷ fields (t ++ (comma ∷ bs))) (onto b (fields (t ++ (comma ∷ bs))))) p.0 ∙ ap (onto b) (fields-first t h bs)

fields-last : (t : List ℕ) → Each Inner t → fields t ≡ t ∷ []
unfolding fields
fields-last [] h = refl
fields-last (b ∷ t) (each_more p h) = ap (λ (c : Bool). if_else c ([] ∷ fields t) (onto b (fields t))) p.0 ∙ ap (onto b) (fields-last t h)

pub fields-commas : (t : List ℕ) (us : List (List ℕ)) → Each (Each Inner) (t ∷ us) → fields (commas (t ∷ us)) ≡ t ∷ us
unfolding commas
fields-commas t [] (each_more h g) = fields-last t h
fields-commas t (u ∷ us) (each_more h g) = fields-first t h (commas (u ∷ us)) ∙ ap {B = List (List ℕ)} (λ r. t ∷ r) (fields-commas u us g)

-- a field in front
commas-onto : (b : ℕ) (ts : List (List ℕ)) → commas (onto b ts) ≡ b ∷ commas ts
unfolding commas
commas-onto b [] = refl
commas-onto b (t ∷ []) = refl
commas-onto b (t ∷ u ∷ us) = refl

fields-some : (bs : List ℕ) → (t : List ℕ) × (us : List (List ℕ)) × (fields bs ≡ t ∷ us)
unfolding fields
fields-some [] = ([], [], refl)
fields-some (b ∷ bs) = go (eqb b comma) (fields-some bs)
  where
    go : (c : Bool) → ((t : List ℕ) × (us : List (List ℕ)) × (fields bs ≡ t ∷ us)) → (t : List ℕ) × (us : List (List ℕ)) × (if_else c ([] ∷ fields bs) (onto b (fields bs)) ≡ t ∷ us)
    go true h = ([], fields bs, refl)
    go false h = (b ∷ h.0, h.1, ap (onto b) h.2)

pub commas-fields : (bs : List ℕ) → commas (fields bs) ≡ bs
unfolding fields commas
commas-fields [] = refl
commas-fields (b ∷ bs) = go (eqb b comma) refl (fields-some bs) (commas-fields bs)
  where
    go : (c : Bool) → eqb b comma ≡ c → ((t : List ℕ) × (us : List (List ℕ)) × (fields bs ≡ t ∷ us)) → commas (fields bs) ≡ bs → commas (if_else c ([] ∷ fields bs) (onto b (fields bs))) ≡ b ∷ bs
    go true e s h =
        ap (λ (l : List (List ℕ)). commas ([] ∷ l)) s.2
        ∙ ap₂ (λ (c : ℕ) (l : List ℕ). c ∷ l) (sym (eqb-true b comma e)) (sym (ap commas s.2) ∙ h)
    go false e s h = commas-onto b (fields bs) ∙ ap {B = List ℕ} (λ l. b ∷ l) h

-- Lines -------------------------------------------------------------------------------------------------------------------------

pub text-whole : (t : List ℕ) → Each Plain t → text (t ++ (line_feed ∷ [])) ≡ some t
unfolding text
text-whole [] h = refl
text-whole (b ∷ t) (each_more p h) =
    ap (λ (c : Bool). if_else c (ending (t ++ (line_feed ∷ []))) (map (λ u. b ∷ u) (text (t ++ (line_feed ∷ []))))) p ∙ ap (map (λ u. b ∷ u)) (text-whole t h)

-- a line is a text and a line feed, and stands first wherever bytes begin with it
abbrev pub Whole : List ℕ → List ℕ → Type 0
Whole l t = (l ≡ t ++ (line_feed ∷ [])) × ((bs : List ℕ) → lines (l ++ bs) ≡ l ∷ lines bs)

at-feed : (b : ℕ) → eqb b line_feed ≡ true → (l t : List ℕ) → ending l ≡ some t → (b ∷ l ≡ t ++ (line_feed ∷ [])) × ((bs : List ℕ) → (b ∷ []) ∷ lines (l ++ bs) ≡ (b ∷ l) ∷ lines bs)
at-feed b i [] t h =
    (ap {B = List ℕ} (λ c. c ∷ []) (eqb-true b line_feed i) ∙ ap {B = List ℕ} (λ u. u ++ (line_feed ∷ [])) (some-injective [] t h), λ bs. refl)
at-feed b i (c ∷ cs) t h = absurd (none-ne-some t h)

before-feed : (b : ℕ) (l t : List ℕ) (o : Option (List ℕ)) → text l ≡ o → ((u : List ℕ) → text l ≡ some u → Whole l u) → map (λ u. b ∷ u) o ≡ some t
    → (b ∷ l ≡ t ++ (line_feed ∷ [])) × ((bs : List ℕ) → onto b (lines (l ++ bs)) ≡ (b ∷ l) ∷ lines bs)
before-feed b l t none i f h = absurd (none-ne-some t h)
before-feed b l t (some u) i f h =
    (ap {B = List ℕ} (λ m. b ∷ m) (f u i).0 ∙ ap {B = List ℕ} (λ m. m ++ (line_feed ∷ [])) (some-injective (b ∷ u) t h), λ bs. ap (onto b) ((f u i).1 bs))

-- a line that has a text is so
pub whole-line : (l t : List ℕ) → text l ≡ some t → Whole l t
unfolding text lines
whole-line [] t e = absurd (none-ne-some t e)
whole-line (b ∷ l) t e = go (eqb b line_feed) refl (λ u. whole-line l u) e
  where
    go : (c : Bool) → eqb b line_feed ≡ c → ((u : List ℕ) → text l ≡ some u → Whole l u) → if_else c (ending l) (map (λ u. b ∷ u) (text l)) ≡ some t
        → (b ∷ l ≡ t ++ (line_feed ∷ [])) × ((bs : List ℕ) → if_else c ((b ∷ []) ∷ lines (l ++ bs)) (onto b (lines (l ++ bs))) ≡ (b ∷ l) ∷ lines bs)
    go true i f h = at-feed b i l t h
    go false i f h = before-feed b l t (text l) refl f h

-- all bytes are in their lines
pub concat-lines : (bs : List ℕ) → flatten (lines bs) ≡ bs
unfolding flatten lines
concat-lines [] = refl
concat-lines (b ∷ bs) = go (eqb b line_feed) (lines bs) (concat-lines bs)
  where
    go : (c : Bool) (ls : List (List ℕ)) → flatten ls ≡ bs → flatten (if_else c ((b ∷ []) ∷ ls) (onto b ls)) ≡ b ∷ bs
    go true ls h = ap {B = List ℕ} (λ l. b ∷ l) h
    go false [] h = ap {B = List ℕ} (λ l. b ∷ l) h
    go false (l ∷ ls) h = ap {B = List ℕ} (λ m. b ∷ m) h

-- Numbers -----------------------------------------------------------------------------------------------------------------------

digit-inner : (d : ℕ) → Inner (digit0 + d)
digit-inner d = (ne_eqb (digit0 + d) comma (λ e. omega arith), ne_eqb (digit0 + d) line_feed (λ e. omega arith))

onto-inner : (k n : ℕ) (bs : List ℕ) → Each Inner bs → Each Inner (digits_onto k n bs)
unfolding digits_onto
onto-inner zero n bs h = h
onto-inner (suc k) n bs h = go (ltb n 10) (onto-inner k (n / 10) ((digit0 + n % 10) ∷ bs) (each_more (digit-inner (n % 10)) h))
  where
    go : (t : Bool) → Each Inner (digits_onto k (n / 10) ((digit0 + n % 10) ∷ bs)) → Each Inner (if_else t ((digit0 + n) ∷ bs) (digits_onto k (n / 10) ((digit0 + n % 10) ∷ bs)))
    go true f = each_more (digit-inner n) h
    go false f = f

pub printed-inner : (z : ℤ) → Each Inner (printed z)
unfolding printed decimal
printed-inner (pos n) = onto-inner (suc n) n [] each_none
printed-inner (negsuc n) = each_more (refl, refl) (onto-inner (suc (suc n)) (suc n) [] each_none)
