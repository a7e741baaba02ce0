-- What the listed tokens of a declaration tell: its row, its role and its name.
use mathlib.Core.Path.{◌≡◌, refl, sym, ap, subst, ◌∙◌}
use mathlib.Core.Bool.{Bool, true, false}
use mathlib.Core.List.{List, [], ◌∷◌, map}
use mathlib.Core.Option.{Option, none, some, none-ne-some, some-injective}
use Prim.Native.Nat.{ℕ, zero, suc, ◌+◌, ◌≤◌, ◌<◌}
use native.Mathlib.Omega.{arith}
use native.Mathlib.Nat.{add-zero}
use lib.IntN.{ℤ, pos}
use lib.ListN.{length, get_or, drop}
use lib.Dec.{eqb}
use borrow.Author.Tests.{ne_eqb}
use Rattle.meaning.specs.Basics.{eq_z, if_else}
use Rattle.grammar.specs.Grammar.{Mark, an_int, a-chan, a-hostout, colon, Token, name, number, square-open, square-close, mark}
use Rattle.grammar.specs.Outline.{Declaration, OutlineLine, declare}
use Rattle.grammar.specs.Lines.{ints, chans, Header, scalar, array, host-in, host-out, Alone, skips, stops, seqs, pars, chooses, selects, Spells, declares, word, repeats, assigns, inputs, outputs, tests, guards, allows, line_spelt}
use Rattle.grammar.specs.Names.{name_of, declaration_in}
use Rattle.grammar.specs.TextRows.{declaration_row}
use Rattle.grammar.proofs.LineRead.{line-sound}
use Rattle.read_tokens.specs.Sorts as sorts
use Rattle.read_tokens.specs.Held.{token_sort, by_natural, token_by, tokens_by}
use Rattle.read_classes.specs.Parts.{mark_at}
use Rattle.read_declared.specs.Firsts.{place_of_sort, number_in}
use Rattle.read_declared.specs.Declarations.{by_mark, row_listed, unless_one, role_number, role_listed}

-- The tokens of a declaration -------------------------------------------------------------------------------------------------------

alone-declares-nothing : {m : Mark} {x : OutlineLine} → Alone m x → declaration_in x ≡ none
alone-declares-nothing skips = refl
alone-declares-nothing stops = refl
alone-declares-nothing seqs = refl
alone-declares-nothing pars = refl
alone-declares-nothing chooses = refl
alone-declares-nothing selects = refl

spelt-header : {ts : List Token} {x : OutlineLine} → Spells ts x → (d : Declaration) → declaration_in x ≡ some d → Header ts d
spelt-header (declares {ts} {d = c} h) d e = subst (Header ts) (some-injective c d e) h
spelt-header (word a) d e = absurd (none-ne-some d (sym (alone-declares-nothing a) ∙ e))
spelt-header (repeats p) d e = absurd (none-ne-some d e)
spelt-header (assigns p q) d e = absurd (none-ne-some d e)
spelt-header (inputs p q) d e = absurd (none-ne-some d e)
spelt-header (outputs p q) d e = absurd (none-ne-some d e)
spelt-header (tests p) d e = absurd (none-ne-some d e)
spelt-header (guards p q r) d e = absurd (none-ne-some d e)
spelt-header (allows p) d e = absurd (none-ne-some d e)

-- tokens that spell a declaration are those of one
pub header_of : {ts : List Token} {x : OutlineLine} → Spells ts x → (d : Declaration) → x ≡ declare d → Header ts d
header_of p d e = spelt-header p d (ap declaration_in e)

pub headed : (ts : List Token) (d : Declaration) → line_spelt ts ≡ some (declare d) → Header ts d
headed ts d e = header_of (line-sound ts (declare d) e) d refl

-- By the mark -----------------------------------------------------------------------------------------------------------------------

module _ {A : Type 0} (s : ℕ) (i c f t : A) where
  abbrev pub told : A
  told = by_mark s i c f t

  pub by_int : s ≡ sorts.int → i ≡ told
  by_int e = sym (ap (λ (k : ℕ). by_mark k i c f t) e)

  pub by-chan : s ≡ sorts.chan → c ≡ told
  by-chan e = sym (ap (λ (k : ℕ). by_mark k i c f t) e)

  pub by-hostin : s ≡ sorts.hostin → f ≡ told
  by-hostin e = sym (ap (λ (k : ℕ). by_mark k i c f t) e)

  pub by-other : (s ≡ sorts.int → ⊥) → (s ≡ sorts.chan → ⊥) → (s ≡ sorts.hostin → ⊥) → t ≡ told
  by-other x y z =
      sym
      (ap (λ (b : Bool). if_else b i (if_else (eqb s sorts.chan) c (if_else (eqb s sorts.hostin) f t))) (ne_eqb s sorts.int x)
      ∙ ap (λ (b : Bool). if_else b c (if_else (eqb s sorts.hostin) f t)) (ne_eqb s sorts.chan y)
      ∙ ap (λ (b : Bool). if_else b f t) (ne_eqb s sorts.hostin z))

-- a role is a number below 8
pub unless-one-small : (z : ℤ) → unless_one z ≤ 4
unless-one-small z = go (eq_z z (pos 1))
  where
    go : (b : Bool) → if_else b 0 4 ≤ 4
    go true = omega arith
    go false = omega arith

-- What is listed --------------------------------------------------------------------------------------------------------------------

-- there is a mark among the tokens of a declaration
pub header-marked : {ts : List Token} {d : Declaration} → Header ts d → mark_at (map token_sort ts) < length (map token_sort ts)
unfolding mark_at
header-marked (scalar ints) = omega arith
header-marked (scalar chans) = omega arith
header-marked (array ints) = omega arith
header-marked (array chans) = omega arith
header-marked host-in = omega arith
header-marked host-out = omega arith

-- and a name, the declared one
pub header-named : {ts : List Token} {d : Declaration} → Header ts d → (us : List Token) × (drop (place_of_sort sorts.name (map token_sort ts)) ts ≡ name (name_of d) ∷ us)
unfolding place_of_sort
header-named (scalar ints) = (_, refl)
header-named (scalar chans) = (_, refl)
header-named (array ints) = (_, refl)
header-named (array chans) = (_, refl)
header-named host-in = (_, refl)
header-named host-out = (_, refl)

module _ (named : ℕ → Option Token) (f : Token → Token) where
  abbrev Held : List Token → List ℤ → Type 0
  Held ts vs = tokens_by named (map token_sort ts) vs ≡ map (λ t. some (f t)) ts

  -- each token is listed by its sort and number
  pub token-listed : (ts : List Token) (vs : List ℤ) → Held ts vs → (p : ℕ) (t : Token) (us : List Token) → drop p ts ≡ t ∷ us
      → (p < length vs) × (token_by named (token_sort t) (get_or vs p (pos 0)) ≡ some (f t))
  unfolding tokens_by
  token-listed [] vs h zero t us e = absurd (let z : ◌≡◌ {A = ℕ} 0 (suc (length us)) = ap length e in omega arith)
  token-listed [] vs h (suc p) t us e = absurd (let z : ◌≡◌ {A = ℕ} 0 (suc (length us)) = ap length e in omega arith)
  token-listed (u ∷ ts) [] h p t us e = absurd (let z : ◌≡◌ {A = ℕ} 0 (suc (length (map (λ t. some (f t)) ts))) = ap length h in omega arith)
  token-listed (u ∷ ts) (v ∷ vs) h zero t us e =
      let i : u ≡ t = cc in
      let j : token_by named (token_sort u) v ≡ some (f u) = cc in
      (omega arith, subst (λ (w : Token). token_by named (token_sort w) v ≡ some (f w)) i j)
  token-listed (u ∷ ts) (v ∷ vs) h (suc p) t us e =
      let r : Held ts vs = cc in
      let (a, b) = token-listed ts vs r p t us e in
      (omega (arith, a), b)

  -- a name by what is listed of it
  pub name-listed : {ts : List Token} {d : Declaration} → Header ts d → (vs : List ℤ) → Held ts vs
      → (place_of_sort sorts.name (map token_sort ts) < length vs) × (by_natural named (get_or vs (place_of_sort sorts.name (map token_sort ts)) (pos 0)) ≡ some (f (name (name_of d))))
  unfolding token_by
  name-listed {ts} {d} p vs h = let (us, e) = header-named p in token-listed ts vs h (place_of_sort sorts.name (map token_sort ts)) (name (name_of d)) us e

  module _ (keeps : (z : ℤ) → f (number z) ≡ number z) where
    -- a number that stands second is what is listed of it
    number-second : (t : Token) (z : ℤ) (us : List Token) (vs : List ℤ) → Held (t ∷ number z ∷ us) vs → get_or vs 1 (pos 0) ≡ z
    unfolding token_by
    number-second t z us vs h =
        let q : some (number (get_or vs 1 (pos 0))) ≡ some (f (number z)) = (token-listed (t ∷ number z ∷ us) vs h 1 (number z) us refl).1 in
        let r = keeps z in
        cc

    number-of-array : (m : Mark) (z : ℤ) (n : List ℕ) (vs : List ℤ) → Held (square-open ∷ number z ∷ square-close ∷ mark m ∷ name n ∷ mark colon ∷ []) vs → get_or vs 1 (pos 0) ≡ z
    number-of-array m z n vs h = number-second square-open z (square-close ∷ mark m ∷ name n ∷ mark colon ∷ []) vs h

    -- the row
    pub header_row : {ts : List Token} {d : Declaration} → Header ts d → (vs : List ℤ) → Held ts vs → row_listed (map token_sort ts) vs ≡ declaration_row d
    unfolding number_in place_of_sort mark_at
    header_row (scalar ints) vs h = refl
    header_row (scalar chans) vs h = refl
    header_row (array {z} {n} ints) vs h = ap (λ (y : ℤ). pos 1 ∷ y ∷ pos 0 ∷ pos 0 ∷ []) (number-of-array an_int z n vs h)
    header_row (array {z} {n} chans) vs h = ap (λ (y : ℤ). pos 2 ∷ y ∷ pos 0 ∷ pos 0 ∷ []) (number-of-array a-chan z n vs h)
    header_row host-in vs h = refl
    header_row (host-out {z} {n}) vs h = ap (λ (y : ℤ). pos 2 ∷ pos 1 ∷ pos 2 ∷ y ∷ []) (number-second (mark a-hostout) z (name n ∷ mark colon ∷ []) vs h)

    -- the role
    pub header-role : {ts : List Token} {d : Declaration} → Header ts d → (vs : List ℤ) → Held ts vs → role_listed (map token_sort ts) vs ≡ role_number d
    unfolding number_in place_of_sort mark_at
    header-role (scalar ints) vs h = refl
    header-role (scalar chans) vs h = refl
    header-role (array {z} {n} ints) vs h = ap unless_one (number-of-array an_int z n vs h) ∙ sym (add-zero (unless_one z))
    header-role (array {z} {n} chans) vs h = ap (λ (y : ℤ). unless_one y + 1) (number-of-array a-chan z n vs h)
    header-role host-in vs h = refl
    header-role host-out vs h = refl
