-- Expressions whose numbers and operators are in range and whose names are rows of the right sort stand for rows that are right.
use mathlib.Core.Path.{◌≡◌, refl}
use mathlib.Core.Bool.{true}
use mathlib.Core.List.Memᴰ
use mathlib.Core.List.{List, [], ◌∷◌}
use mathlib.Core.Option.{some}
use Prim.Native.Nat.{ℕ, ◌≤◌}
use native.Mathlib.Omega.{arith}
use lib.IntN.{ℤ, pos}
use lib.Dec.{leb, le→leb}
use lib.Signed.{◌≤ℤ◌, le_z_yes}
use Rattle.meaning.specs.Kinds.{Field, Shape, shape, shapes, shape_in, shape_of, expressions, expression, reference}
use Rattle.meaning.specs.Kinds as kinds
use Rattle.meaning.specs.Faults.{MayHold}
use Rattle.meaning.proofs.Decides.{pos-injective}
use Rattle.base_top_down.specs.Forms.{Form, number, row}
use Rattle.base_top_down.specs.Good.{Child, Suited, Good}
use Rattle.grammar.specs.Grammar.{Syn, literal, bare, at, monadic, dyadic}
use Rattle.grammar.specs.Names.{Sort, as-variable, as-input, as-output, Use}
use Rattle.grammar.specs.NameClaims.{UsedIn, bare-there, with-subscript, in-subscript, in-operand, in-first, in-second, ElementUsed, bare-element, element-at, in-its-subscript}
use Rattle.grammar.specs.TextRows.{unused, name_row, literal_form, name_form, expression_form, element_row}
use Rattle.grammar.proofs.TokensInRange.{IsElement, Ranged, RangedElement}

-- the field that holds a name, by its use
abbrev pub field_for : Sort → Field
field_for as-variable = kinds.variable
field_for as-input = kinds.channel (0 ∷ 1 ∷ [])
field_for as-output = kinds.channel (0 ∷ 2 ∷ [])

at_most : (k n : ℕ) → leb k n ≡ true → (pos 0 ≤ℤ pos k) × (pos k ≤ℤ pos n)
at_most k n h = (le_z_yes (le→leb 0 k (omega arith)), le_z_yes (rw h tt))

-- Fields ----------------------------------------------------------------------------------------------------------------------------

module _ (rows : List ℤ) where
  -- a field holds what it may, and the row in it, if there is one, is right
  abbrev pub Fits : Field → Form → Form → Type 0
  Fits f b x = Suited rows f b x × Good rows x

  -- a row of one of some kinds, and right
  abbrev pub Right : List ℕ → Form → Type 0
  Right ks f = Child ks f × Good rows f

  pub row-right : (k : ℕ) (s : Shape) (a b c : Form) → 3 ≤ k → shape_of k ≡ some s → Fits s.a b a → Fits s.b b b → Fits s.c b c → Good rows (row k a b c)
  unfolding Good
  row-right k s a b c l e f g h = ((λ z. omega arith, λ z. omega arith), (s, e, ((f.0, g.0), h.0)), ((f.1, g.1), h.1))

  pub unused-fits : (b : Form) → Fits kinds.unused b unused
  unfolding Good Suited MayHold
  unused-fits b = ((pos 0, refl, refl), tt)

  literal-right : (z : ℤ) → MayHold rows 0 kinds.literal_value z → Right expressions (row 10 (number z) unused unused)
  unfolding Good Suited shapes shape_in shape_of
  literal-right z h = (Memᴰ.head refl, row-right 10 _ (number z) unused unused (omega arith) refl ((z, refl, h), tt) (unused-fits unused) (unused-fits unused))

  zero_right : Right expressions (row 10 unused unused unused)
  unfolding MayHold
  zero_right = literal-right (pos 0) (le_z_yes tt, le_z_yes tt)

-- Expressions -----------------------------------------------------------------------------------------------------------------------

module _ (rows : List ℤ) (names : List (List ℕ)) where
  -- a name's row may be named so
  abbrev pub NamedAs : Sort → List ℕ → Type 0
  NamedAs s n = MayHold rows 0 (field_for s) (pos (name_row names n))

  abbrev pub UseNamed : Use → Type 0
  UseNamed u = NamedAs u.sort u.named

  abbrev pub ElementNamed : Sort → Syn → Type 0
  ElementNamed s a = (u : Use) → ElementUsed s a u → UseNamed u

  pub name-fits : (s : Sort) (b : Form) (n : List ℕ) → NamedAs s n → Fits rows (field_for s) b (name_form names n)
  unfolding Good Suited
  name-fits as-variable b n h = ((_, refl, h), tt)
  name-fits as-input b n h = ((_, refl, h), tt)
  name-fits as-output b n h = ((_, refl, h), tt)

  element-right : (n : List ℕ) (b : Form) → NamedAs as-variable n → Right rows expressions b → Right rows expressions (row 11 (name_form names n) b unused)
  unfolding Suited shapes shape_in shape_of
  element-right n b h g = (Memᴰ.tail (Memᴰ.head refl), row-right rows 11 _ (name_form names n) b unused (omega arith) refl (name-fits as-variable b n h) g (unused-fits rows b))

  pub element-kind : (e : Syn) → IsElement e → Child (11 ∷ []) (expression_form names e)
  element-kind (literal z) h = absurd h
  element-kind (bare n) h = Memᴰ.head refl
  element-kind (at n e) h = Memᴰ.head refl
  element-kind (monadic k e) h = absurd h
  element-kind (dyadic k e f) h = absurd h

  pub expression-right : (e : Syn) → Ranged e → ((u : Use) → UsedIn e u → UseNamed u) → Right rows expressions (expression_form names e)
  unfolding Good Suited MayHold shapes shape_in shape_of
  expression-right (literal z) r h = literal-right rows z r
  expression-right (bare n) r h = element-right n (literal_form names (pos 0)) (h _ bare-there) (zero_right rows)
  expression-right (at n e) r h = element-right n (expression_form names e) (h _ with-subscript) (expression-right e r (λ u p. h u (in-subscript p)))
  expression-right (monadic k e) (l, i, r) h =
      let b = expression_form names e in
      let operand = expression-right e r (λ u p. h u (in-operand p)) in (
        Memᴰ.tail (Memᴰ.tail (Memᴰ.head refl)),
        row-right rows 12 _ (number (pos k)) b unused (omega arith) refl ((pos k, refl, at_most k 2 l, λ q. element-kind e (i (pos-injective q))), tt) operand (unused-fits rows b),
      )
  expression-right (dyadic k e f) (l, q, r) h =
      let first = expression-right e q (λ u p. h u (in-first p)) in
      let second = expression-right f r (λ u p. h u (in-second p)) in (
        Memᴰ.tail (Memᴰ.tail (Memᴰ.tail (Memᴰ.head refl))),
        row-right rows 13 _ (number (pos k)) (expression_form names e) (expression_form names f) (omega arith) refl ((pos k, refl, at_most k 15 l), tt) first second,
      )

  -- a row for an element's name and subscript, and one further field
  pub element-row : (s : Sort) (k : ℕ) (ks : List ℕ) → 3 ≤ k → shape_of k ≡ some (shape k (field_for s) expression (reference ks))
      → (a : Syn) → RangedElement a → ElementNamed s a → (f : Form) → Right rows ks f → Right rows (k ∷ []) (element_row names k a f)
  unfolding Suited
  element-row s k ks l e (literal z) r h f g = absurd r.0
  element-row s k ks l e (bare n) r h f g = (Memᴰ.head refl, row-right rows k _ _ _ f l e (name-fits s _ n (h _ bare-element)) (zero_right rows) g)
  element-row s k ks l e (at n i) r h f g =
      (Memᴰ.head refl, row-right rows k _ _ _ f l e (name-fits s _ n (h _ element-at)) (expression-right i r.1 (λ u p. h u (in-its-subscript p))) g)
  element-row s k ks l e (monadic o i) r h f g = absurd r.0
  element-row s k ks l e (dyadic o i j) r h f g = absurd r.0
