-- A form whose rows are all right as far as the stages 4 and 5 say, by the declarations of a table; accepted rows have such a form.
use mathlib.Core.Path.{◌≡◌, refl, sym, ap, ◌∙◌, subst}
use mathlib.Core.Logic.{◌⊎◌, inl, inr}
use mathlib.Core.Bool.{Bool, true, false, not, ◌||◌, false≢true}
use mathlib.Core.List.{List, [], ◌∷◌, Memᴰ}
use mathlib.Core.Option.{Option, none, some, none-ne-some, some-injective}
use Prim.Native.Nat.{ℕ, zero, suc, ◌+◌, ◌≤◌, ◌<◌}
use native.Mathlib.Decide.{dec_lt}
use native.Mathlib.Omega.{arith}
use lib.IntN.{ℤ, pos}
use lib.Dec.{ltb, eqb}
use Rattle.meaning.specs.Basics.{if_else}
use borrow.Author.Tests.{eqb-true, ne_eqb, not-true}
use Rattle.meaning.specs.Rows.{row_count, field_at, kind_at}
use Rattle.meaning.specs.Kinds.{Field, unused, literal_value, within, elements, capacity, operator, variable, channel, reference, link, Shape, shapes, shape_in, shape_of}
use Rattle.meaning.specs.Declarations.{declarations}
use Rattle.meaning.specs.Verdict.{form_fault, tree_fault}
use Rattle.meaning.specs.References.{Column, of-a, of-b, of_c, field_of, number_of, IsTarget, IsOf}
use Rattle.meaning.specs.Faults.{MayHold, Leads, WellFormed, WellPlaced, Placed}
use Rattle.meaning.proofs.Decides.{Decides, holding, failing, decides_eq}
use Rattle.meaning.proofs.NoFault.{or-false}
use Rattle.base_top_down.specs.Forms.{Form, absent, row, is_reference, or_plain, referred, item_of, form_at}
use Rattle.base_top_down.specs.Good.{Child, Suited, Good}
use Rattle.base_top_down.proofs.Flat.{above, form_at-at, form_at-past}
use Rattle.base_top_down.proofs.Stages.{well-formed, well-placed}

-- The table of kinds ------------------------------------------------------------------------------------------------------------

-- a test of every shape of the table
all : (Shape → Bool) → List Shape → Bool
all test [] = true
all test (s ∷ ss) = if_else (test s) (all test ss) false

listed : (test : Shape → Bool) (ss : List Shape) (k : ℕ) (s : Shape) → all test ss ≡ true → shape_in ss k ≡ some s → (test s ≡ true) × (k ≡ s.kind)
unfolding all shape_in
listed test [] k s e i = absurd (none-ne-some s i)
listed test (u ∷ ss) k s e i = go (test u) refl (eqb k u.kind) refl e i (listed test ss k s)
  where
    go : (t : Bool) → test u ≡ t → (b : Bool) → eqb k u.kind ≡ b → if_else t (all test ss) false ≡ true → if_else b (some u) (shape_in ss k) ≡ some s
        → (all test ss ≡ true → shape_in ss k ≡ some s → (test s ≡ true) × (k ≡ s.kind)) → (test s ≡ true) × (k ≡ s.kind)
    go false x b y e i f = absurd (false≢true e)
    go true x false y e i f = f e i
    go true x true y e i f =
        let same = some-injective u s i in
        subst (λ (w : Shape). (test w ≡ true) × (k ≡ w.kind)) same (x, eqb-true k u.kind y)

-- a field whose range hangs on the role of its row
unfoldable pub is_size : Field → Bool
is_size unused = false
is_size literal_value = false
is_size (within lo hi) = false
is_size elements = true
is_size capacity = true
is_size operator = false
is_size variable = false
is_size (channel roles) = false
is_size (reference kinds) = false
is_size (link kinds) = false

-- only declarations have such fields
sizeless : Shape → Bool
sizeless s = eqb s.kind 1 || eqb s.kind 2 || not (is_size s.a || is_size s.b || is_size s.c)

no_size : (k : ℕ) (s : Shape) → shape_of k ≡ some s → ¬ (k ≡ 1) → ¬ (k ≡ 2) → (p : Column) → is_size (field_of s p) ≡ false
unfolding shape_of all sizeless shapes is_size
no_size k s e n m = λ p. go (is_size s.a) (is_size s.b) (is_size s.c) refl refl refl both p
  where
    l : (sizeless s ≡ true) × (k ≡ s.kind)
    l = listed sizeless shapes k s refl e

    left : (x y t : Bool) → x ≡ false → y ≡ false → (x || y || t) ≡ true → t ≡ true
    left x y t p q h = (λ i. sym p i || sym q i || t) ∙ h

    both : (is_size s.a || is_size s.b || is_size s.c) ≡ false
    both = not-true (is_size s.a || is_size s.b || is_size s.c) (left (eqb s.kind 1) (eqb s.kind 2) (not (is_size s.a || is_size s.b || is_size s.c)) (ne_eqb s.kind 1 (λ i. n (l.1 ∙ i))) (ne_eqb s.kind 2 (λ i. m (l.1 ∙ i))) l.0)

    go : (x y z : Bool) → is_size s.a ≡ x → is_size s.b ≡ y → is_size s.c ≡ z → (x || y || z) ≡ false → (p : Column) → is_size (field_of s p) ≡ false
    go x y z u v w h of-a = u ∙ (or-false x y (or-false (x || y) z h).0).0
    go x y z u v w h of-b = v ∙ (or-false x y (or-false (x || y) z h).0).1
    go x y z u v w h of_c = w ∙ (or-false (x || y) z h).1

-- a field whose range hangs on the row that field b refers to
unfoldable pub is_operator : Field → Bool
is_operator unused = false
is_operator literal_value = false
is_operator (within lo hi) = false
is_operator elements = false
is_operator capacity = false
is_operator operator = true
is_operator variable = false
is_operator (channel roles) = false
is_operator (reference kinds) = false
is_operator (link kinds) = false

-- a field that always refers to a row
unfoldable always_refers : Field → Bool
always_refers unused = false
always_refers literal_value = false
always_refers (within lo hi) = false
always_refers elements = false
always_refers capacity = false
always_refers operator = false
always_refers variable = false
always_refers (channel roles) = false
always_refers (reference kinds) = true
always_refers (link kinds) = false

-- declarations have no operator
pub no-operator : (k : ℕ) (s : Shape) → shape_of k ≡ some s → (k ≡ 1) ⊎ (k ≡ 2) → (p : Column) → is_operator (field_of s p) ≡ false
unfolding shape_of shape_in shapes is_operator
no-operator k s e = go
  where
    to : (n : ℕ) (u : Shape) → k ≡ n → shape_of n ≡ some u → (p : Column) → is_operator (field_of u p) ≡ false → is_operator (field_of s p) ≡ false
    to n u j h p f = subst (λ (w : Shape). is_operator (field_of w p) ≡ false) (some-injective u s (sym h ∙ ap shape_of (sym j) ∙ e)) f

    go : (k ≡ 1) ⊎ (k ≡ 2) → (p : Column) → is_operator (field_of s p) ≡ false
    go (inl i) of-a = to 1 _ i refl of-a refl
    go (inl i) of-b = to 1 _ i refl of-b refl
    go (inl i) of_c = to 1 _ i refl of_c refl
    go (inr i) of-a = to 2 _ i refl of-a refl
    go (inr i) of-b = to 2 _ i refl of-b refl
    go (inr i) of_c = to 2 _ i refl of_c refl

-- beside an operator, field b refers to a row
operands : Shape → Bool
operands s = if_else (is_operator s.a || is_operator s.b || is_operator s.c) (always_refers s.b) true

has-operand : (k : ℕ) (s : Shape) → shape_of k ≡ some s → (p : Column) → is_operator (field_of s p) ≡ true → always_refers s.b ≡ true
unfolding shape_of all operands shapes is_operator always_refers
has-operand k s e p h = go (is_operator s.a) (is_operator s.b) (is_operator s.c) refl refl refl (listed operands shapes k s refl e).0 p h
  where
    go : (x y z : Bool) → is_operator s.a ≡ x → is_operator s.b ≡ y → is_operator s.c ≡ z → if_else (x || y || z) (always_refers s.b) true ≡ true → (p : Column) → is_operator (field_of s p) ≡ true → always_refers s.b ≡ true
    go true y z u v w h p i = h
    go false true z u v w h p i = h
    go false false true u v w h p i = h
    go false false false u v w h of-a i = absurd (false≢true (sym u ∙ i))
    go false false false u v w h of-b i = absurd (false≢true (sym v ∙ i))
    go false false false u v w h of_c i = absurd (false≢true (sym w ∙ i))

-- Accepted rows have good forms -------------------------------------------------------------------------------------------------

-- a row after the declarations that is right
unfoldable pub RightRow : List ℤ → ℕ → Type 0
RightRow rows r =
    ((¬ (kind_at rows r ≡ 1)) × (¬ (kind_at rows r ≡ 2)))
    × ((s : Shape) × IsOf rows r s × ((p : Column) → MayHold rows r (field_of s p) (number_of rows r p) × Leads rows r (field_of s p) (number_of rows r p)))

pub right-row : (rows : List ℤ) → form_fault rows ≡ none → tree_fault rows ≡ none → (r : ℕ) → declarations rows ≤ r → r < row_count rows → RightRow rows r
unfolding RightRow WellFormed WellPlaced Placed
right-row rows e i r d l = (
  ((λ k. let h = w.0 (inl k) in omega arith), (λ k. let h = w.0 (inr k) in omega arith)),
  (w.1.0, w.1.1, λ p. (holds p, g.0 w.1.0 w.1.1 p)),
)
  where
    w : WellFormed rows r
    w = well-formed rows e r l

    g : Placed rows r
    g = (well-placed rows i r (omega arith)).1 (d, l)

    holds : (p : Column) → MayHold rows r (field_of w.1.0 p) (number_of rows r p)
    holds of-a = w.1.2
    holds of-b = w.1.3
    holds of_c = w.1.4

module _ (rows : List ℤ) (r : ℕ) (f : (t : ℕ) → r < t → t < row_count rows → Good rows (form_at rows t)) where
  abbrev at : ℕ → Form
  at t = if_else (ltb r t) (form_at rows t) absent

  -- a reference
  child : (kinds : List ℕ) (z : ℤ) → (t : ℕ) × (z ≡ pos t) × IsTarget rows r kinds t → Child kinds (referred at z) × Good rows (referred at z)
  child kinds z h =
      subst (λ (x : Form). Child kinds x × Good rows x) (sym (above rows r h.0 h.2.0) ∙ ap (referred at) (sym h.1))
      (subst (Child kinds) (sym (form_at-at rows h.0 h.2.1)) h.2.2, f h.0 h.2.0 h.2.1)

  -- GIVEN's operand
  given-operand : (g : Field) (y z : ℤ) → always_refers g ≡ true → field_at rows r 2 ≡ y → Leads rows r g y → MayHold rows r operator z → z ≡ pos 2 → Child (11 ∷ []) (item_of at (is_reference g) y)
  unfolding always_refers Leads MayHold is_reference
  given-operand unused y z e b l h i = absurd (false≢true e)
  given-operand literal_value y z e b l h i = absurd (false≢true e)
  given-operand (within lo hi) y z e b l h i = absurd (false≢true e)
  given-operand elements y z e b l h i = absurd (false≢true e)
  given-operand capacity y z e b l h i = absurd (false≢true e)
  given-operand operator y z e b l h i = absurd (false≢true e)
  given-operand variable y z e b l h i = absurd (false≢true e)
  given-operand (channel roles) y z e b l h i = absurd (false≢true e)
  given-operand (link kinds) y z e b l h i = absurd (false≢true e)
  given-operand (reference kinds) y z e b l h i =
      subst (Child (11 ∷ [])) (sym (form_at-at rows l.0 l.2.1) ∙ sym (above rows r l.0 l.2.0) ∙ ap (referred at) (sym l.1)) (go (decides_eq (kind_at rows l.0) 11))
    where
      go : {t : Bool} → Decides (kind_at rows l.0 ≡ 11) t → Memᴰ (kind_at rows l.0) (11 ∷ [])
      go (holding k) = Memᴰ.head k
      go (failing k) = absurd (h.1 (i, (l.0, (b ∙ l.1, l.2.1, k))))

  good-item : (g : Field) (z : ℤ) (b : Form) → is_size g ≡ false → (is_operator g ≡ true → MayHold rows r operator z → z ≡ pos 2 → Child (11 ∷ []) b)
      → MayHold rows r g z → Leads rows r g z → Suited rows g b (item_of at (is_reference g) z) × Good rows (item_of at (is_reference g) z)
  unfolding Suited Good MayHold Leads is_reference is_size is_operator
  good-item unused z b e o h l = ((z, refl, h), tt)
  good-item literal_value z b e o h l = ((z, refl, h), tt)
  good-item (within lo hi) z b e o h l = ((z, refl, h), tt)
  good-item elements z b e o h l = absurd (false≢true (sym e))
  good-item capacity z b e o h l = absurd (false≢true (sym e))
  good-item operator z b e o h l = ((z, refl, h.0, o refl h), tt)
  good-item variable z b e o h l = ((z, refl, h), tt)
  good-item (channel roles) z b e o h l = ((z, refl, h), tt)
  good-item (reference kinds) z b e o h l = child kinds z l
  good-item (link kinds) z b e o h (inl i) = subst (λ (y : ℤ). Suited rows (link kinds) b (referred at y) × Good rows (referred at y)) (sym i) (inl refl, tt)
  good-item (link kinds) z b e o h (inr i) = let c = child kinds z i in (inr c.0, c.1)

  good-row : r < row_count rows → RightRow rows r → Good rows (form_at rows r)
  unfolding RightRow Good
  good-row l h =
      subst (Good rows) (sym (form_at-at rows r l))
      (subst (λ (o : Option Shape). Good rows (row (kind_at rows r) (item (or_plain o).a 1) (item (or_plain o).b 2) (item (or_plain o).c 3))) (sym h.1.1)
      (h.0, (s, h.1.1, ((a.0, b.0), c.0)), ((a.1, b.1), c.1)))
    where
      s : Shape
      s = h.1.0

      item : Field → ℕ → Form
      item g j = item_of at (is_reference g) (field_at rows r j)

      no : (p : Column) → is_size (field_of s p) ≡ false
      no = no_size (kind_at rows r) s h.1.1 h.0.0 h.0.1

      given : (p : Column) (z : ℤ) → is_operator (field_of s p) ≡ true → MayHold rows r operator z → z ≡ pos 2 → Child (11 ∷ []) (item s.b 2)
      given p z e = given-operand s.b (field_at rows r 2) z (has-operand (kind_at rows r) s h.1.1 p e) refl (h.1.2 of-b).1

      a : Suited rows s.a (item s.b 2) (item s.a 1) × Good rows (item s.a 1)
      a = good-item s.a (field_at rows r 1) (item s.b 2) (no of-a) (given of-a (field_at rows r 1)) (h.1.2 of-a).0 (h.1.2 of-a).1

      b : Suited rows s.b (item s.b 2) (item s.b 2) × Good rows (item s.b 2)
      b = good-item s.b (field_at rows r 2) (item s.b 2) (no of-b) (given of-b (field_at rows r 2)) (h.1.2 of-b).0 (h.1.2 of-b).1

      c : Suited rows s.c (item s.b 2) (item s.c 3) × Good rows (item s.c 3)
      c = good-item s.c (field_at rows r 3) (item s.b 2) (no of_c) (given of_c (field_at rows r 3)) (h.1.2 of_c).0 (h.1.2 of_c).1

pub good : (rows : List ℤ) → form_fault rows ≡ none → tree_fault rows ≡ none → (k r : ℕ) → row_count rows ≤ r + k → declarations rows ≤ r → Good rows (form_at rows r)
unfolding Good
good rows e i zero r h d = subst (Good rows) (sym (form_at-past rows r (omega arith))) tt
good rows e i (suc k) r h d = go (dec_lt r (row_count rows)) (λ t l. good rows e i k t (omega arith) (omega arith))
  where
    go : Dec (r < row_count rows) → ((t : ℕ) → r < t → Good rows (form_at rows t)) → Good rows (form_at rows r)
    go (yes l) f = good-row rows r (λ t j m. f t j) l (right-row rows e i r d l)
    go (no l) f = subst (Good rows) (sym (form_at-past rows r (omega arith))) tt
