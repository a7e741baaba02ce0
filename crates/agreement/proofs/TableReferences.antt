-- In an accepted table: where the fields of a row lead, that a row is referred to once, and that what two fields lead to has no row in common.
use mathlib.Core.Path.{◌≡◌, refl, sym, ap, subst, ◌∙◌}
use mathlib.Core.Logic.{◌≢◌, ◌⊎◌, inl, inr}
use mathlib.Core.Bool.{Bool, true, false, not, ◌&&◌}
use mathlib.Core.Option.{none, some, some-ne-none}
use mathlib.Core.List.{List, [], ◌∷◌}
use Prim.Native.Nat.{ℕ, suc, ◌<◌, ◌≤◌, ◌%◌}
use native.Mathlib.Omega.{arith}
use native.Mathlib.Decide.{dec_lt}
use lib.IntN.{ℤ, pos}
use lib.ListN.{length}
use lib.Dec.{eqb, leb}
use borrow.Author.Tests.{eqb-true, leb-true}
use Rattle.meaning.specs.declared.Node.{Node}
use Rattle.meaning.specs.declared.Node.TheVariants.{Literal, Element, Monadic, Dyadic, Stop, Skip, Assignment, Input, Output, Seq, Par, If, While, Alt, Block, Member, Choice, OptionRow, Guard, Other}
use Rattle.meaning.specs.Basics.{if_else}
use Rattle.meaning.specs.Refusals.{Refusal}
use Rattle.meaning.specs.Rows.{row_count, natural_of, kind_at}
use Rattle.meaning.specs.TableBytes.{numbers_fault}
use Rattle.meaning.specs.Kinds.{Field, unused, literal_value, within, elements, capacity, operator, variable, channel, reference, link, Shape, shape, shape_of, shapes, shape_in, expression, process}
use Rattle.meaning.specs.Declarations.{declarations}
use Rattle.meaning.specs.Nodes.{node_at}
use Rattle.meaning.specs.References.{Column, of-a, of-b, of_c, field_of, number_of, IsTarget, RefersBy, Refers}
use Rattle.meaning.specs.Faults.{Leads, Once, Placed, WellPlaced}
use Rattle.meaning.proofs.AnswerLaws.{RightRows}
use Rattle.meaning.proofs.OneTreeLaw.{declared, declares-only}
use Rattle.meaning.proofs.ReferenceCounts.{bounds}

-- the shapes of the rows that hold processes together
abbrev pub members-shape : ℕ → ℕ → Shape
members-shape k m = shape k (link (m ∷ [])) unused unused

abbrev pub while-shape : Shape
while-shape = shape 33 expression process unused

abbrev pub block-shape : Shape
block-shape = shape 35 variable process unused

abbrev pub member-shape : Shape
member-shape = shape 40 process (link (40 ∷ [])) unused

abbrev pub choice-shape : Shape
choice-shape = shape 41 process (link (41 ∷ [])) expression

abbrev pub option-shape : Shape
option-shape = shape 42 process (link (42 ∷ [])) (reference (23 ∷ 43 ∷ []))

-- a field that may refer to a row
abbrev pub Leading : Field → Type 0
Leading unused = ⊥
Leading literal_value = ⊥
Leading (within lo hi) = ⊥
Leading elements = ⊥
Leading capacity = ⊥
Leading operator = ⊥
Leading variable = ⊥
Leading (channel roles) = ⊥
Leading (reference kinds) = Unit {0}
Leading (link kinds) = Unit {0}

-- a reference that is not a guard's: neither field c of an option nor field b of a guard
abbrev pub unguarded : ℕ → Column → Bool
unguarded k of-a = true
unguarded k of-b = not (eqb k 43)
unguarded k of_c = not (eqb k 42)

-- the node that a test chooses
pub if-else : (P : Node → Type 0) {x y : Node} (t : Bool) → (t ≡ true → P x) → P y → P (if_else t x y)
if-else P true f h = f refl
if-else P false f h = h

module _ (rows : List ℤ) where
  -- a row with its shape; field p of row r is b
  abbrev pub Shaped : ℕ → ℕ → Shape → Type 0
  Shaped r k s = (kind_at rows r ≡ k) × (2 < k) × (shape_of k ≡ some s)

  abbrev pub Holding : ℕ → Column → ℕ → Type 0
  Holding r p b = natural_of (number_of rows r p) ≡ b

  -- the fields of a row that holds processes together
  abbrev pub Fields : ℕ → Node → Type 0
  Fields r (Literal x) = Unit {0}
  Fields r (Element a b) = Unit {0}
  Fields r (Monadic a b) = Unit {0}
  Fields r (Dyadic a b c) = Unit {0}
  Fields r Stop = Unit {0}
  Fields r Skip = Unit {0}
  Fields r (Assignment a b c) = Unit {0}
  Fields r (Input a b c) = Unit {0}
  Fields r (Output a b c) = Unit {0}
  Fields r (Seq a) = Shaped r 30 (members-shape 30 40) × Holding r of-a a
  Fields r (Par a) = Shaped r 31 (members-shape 31 40) × Holding r of-a a
  Fields r (If a) = Shaped r 32 (members-shape 32 41) × Holding r of-a a
  Fields r (While a b) = Shaped r 33 while-shape × Holding r of-b b
  Fields r (Alt a) = Shaped r 34 (members-shape 34 42) × Holding r of-a a
  Fields r (Block a b) = Shaped r 35 block-shape × Holding r of-b b
  Fields r (Member a b) = Shaped r 40 member-shape × Holding r of-a a × Holding r of-b b
  Fields r (Choice a b c) = Shaped r 41 choice-shape × Holding r of-a a × Holding r of-b b
  Fields r (OptionRow a b c) = Shaped r 42 option-shape × Holding r of-a a × Holding r of-b b
  Fields r (Guard a b) = Unit {0}
  Fields r Other = Unit {0}

  pub fields-are : (r : ℕ) → Fields r (node_at rows r)
  unfolding node_at shape_of shapes shape_in
  fields-are r =
      let k = kind_at rows r in
      if-else (Fields r) (eqb k 10) (λ e. tt)
      (if-else (Fields r) (eqb k 11) (λ e. tt)
      (if-else (Fields r) (eqb k 12) (λ e. tt)
      (if-else (Fields r) (eqb k 13) (λ e. tt)
      (if-else (Fields r) (eqb k 20) (λ e. tt)
      (if-else (Fields r) (eqb k 21) (λ e. tt)
      (if-else (Fields r) (eqb k 22) (λ e. tt)
      (if-else (Fields r) (eqb k 23) (λ e. tt)
      (if-else (Fields r) (eqb k 24) (λ e. tt)
      (if-else (Fields r) (eqb k 30) (λ e. ((eqb-true k 30 e, omega arith, refl), refl))
      (if-else (Fields r) (eqb k 31) (λ e. ((eqb-true k 31 e, omega arith, refl), refl))
      (if-else (Fields r) (eqb k 32) (λ e. ((eqb-true k 32 e, omega arith, refl), refl))
      (if-else (Fields r) (eqb k 33) (λ e. ((eqb-true k 33 e, omega arith, refl), refl))
      (if-else (Fields r) (eqb k 34) (λ e. ((eqb-true k 34 e, omega arith, refl), refl))
      (if-else (Fields r) (eqb k 35) (λ e. ((eqb-true k 35 e, omega arith, refl), refl))
      (if-else (Fields r) (eqb k 40) (λ e. ((eqb-true k 40 e, omega arith, refl), refl, refl))
      (if-else (Fields r) (eqb k 41) (λ e. ((eqb-true k 41 e, omega arith, refl), refl, refl))
      (if-else (Fields r) (eqb k 42) (λ e. ((eqb-true k 42 e, omega arith, refl), refl, refl))
      (if-else (Fields r) (eqb k 43) (λ e. tt)
      tt))))))))))))))))))

  undeclared : (r : ℕ) → 2 < kind_at rows r → declarations rows ≤ r
  undeclared r g = go (dec_lt r (declarations rows))
    where
      go : Dec (r < declarations rows) → declarations rows ≤ r
      go (yes l) = absurd (either (declared rows r l))
        where
          either : (kind_at rows r ≡ 1) ⊎ (kind_at rows r ≡ 2) → ⊥
          either (inl e) = omega arith
          either (inr e) = omega arith
      go (no l) = omega arith

  -- of rows that stage 5 passes, and that are not too many
  module _ (few : row_count rows ≤ 1024) (placed : (r : ℕ) → r < suc (row_count rows) → WellPlaced rows r) where
    -- a row after the declarations is placed as the stage 5 asks
    pub row-placed : (r : ℕ) → declarations rows ≤ r → r < row_count rows → Placed rows r
    unfolding WellPlaced
    row-placed r d l = (placed r (omega arith)).1 (d, l)

    -- a field leads to where it may
    pub row-leads : (r k : ℕ) (s : Shape) → r < row_count rows → Shaped r k s → (p : Column) → Leads rows r (field_of s p) (number_of rows r p)
    unfolding Placed
    row-leads r k s l h p = (row-placed r (undeclared r (rw h.0 h.1)) l).0 s (rw h.0 h.2) p

    pub to_row : (r b : ℕ) (f : Field) (z : ℤ) → Leading f → Leads rows r f z → natural_of z ≡ b → b < row_count rows → RefersBy rows r f z b
    unfolding Leads RefersBy
    to_row r b (channel _) z u h e l = elim u [ ]
    to_row r b variable z u h e l = elim u [ ]
    to_row r b operator z u h e l = elim u [ ]
    to_row r b capacity z u h e l = elim u [ ]
    to_row r b elements z u h e l = elim u [ ]
    to_row r b (within _ _) z u h e l = elim u [ ]
    to_row r b literal_value z u h e l = elim u [ ]
    to_row r b unused z u h e l = elim u [ ]
    to_row r b (reference ks) z u h e l = let i : h.0 ≡ b = sym (ap natural_of h.1) ∙ e in (h.1 ∙ ap pos i, subst (IsTarget rows r ks) i h.2)
    to_row r b (link ks) z u (inl n) e l = absurd (let i : 4294967295 ≡ b = sym (ap natural_of n) ∙ e in omega (arith, few))
    to_row r b (link ks) z u (inr h) e l = let i : h.0 ≡ b = sym (ap natural_of h.1) ∙ e in (h.1 ∙ ap pos i, subst (IsTarget rows r ks) i h.2)

    -- so where a field may refer to a row and holds one, it does refer to it
    pub row-refers : (r k b : ℕ) (s : Shape) (p : Column) → r < row_count rows → Shaped r k s → Leading (field_of s p) → Holding r p b → b < row_count rows → Refers rows r p b
    unfolding Refers
    row-refers r k b s p l h u e m = (s, rw h.0 h.2, to_row r b (field_of s p) (number_of rows r p) u (row-leads r k s l h p) e m)

  module _ (A : RightRows rows) where
    pub few-rows : row_count rows ≤ 1024
    unfolding numbers_fault
    few-rows = go (eqb (length rows % 4) 0) (leb (row_count rows) 1024) refl _ A.0
      where
        go : (s t : Bool) → leb (row_count rows) 1024 ≡ t → (f : Refusal) → if_else (s && t) none (some f) ≡ none → row_count rows ≤ 1024
        go true true e f h = leb-true (row_count rows) 1024 e
        go true false e f h = absurd (some-ne-none f h)
        go false t e f h = absurd (some-ne-none f h)

    pub placed_at : (r : ℕ) → declarations rows ≤ r → r < row_count rows → Placed rows r
    placed_at = row-placed few-rows A.2

    pub leads-at : (r k : ℕ) (s : Shape) → r < row_count rows → Shaped r k s → (p : Column) → Leads rows r (field_of s p) (number_of rows r p)
    leads-at = row-leads few-rows A.2

    pub refers_to : (r k b : ℕ) (s : Shape) (p : Column) → r < row_count rows → Shaped r k s → Leading (field_of s p) → Holding r p b → b < row_count rows → Refers rows r p b
    refers_to = row-refers few-rows A.2

    pub refers-up : (r c : ℕ) (p : Column) → Refers rows r p c → (r < c) × (c < row_count rows)
    unfolding Refers
    refers-up r c p h = bounds rows c r (field_of h.0 p) (number_of rows r p) h.2

    -- a row is referred to by one row and one of its fields
    pub once : (r q c : ℕ) (p o : Column) → Refers rows r p c → Refers rows q o c → (r ≡ q) × (p ≡ o)
    unfolding Placed Once
    once r q c p o h i = go (dec_lt c (declarations rows)) (dec_lt (declarations rows) c)
      where
        b : (r < c) × (c < row_count rows)
        b = refers-up r c p h

        go : Dec (c < declarations rows) → Dec (declarations rows < c) → (r ≡ q) × (p ≡ o)
        go (yes l) d = absurd (declares-only rows r p c (declared rows r (omega (arith, b.0))) h)
        go (no l) (yes m) =
            let w = (placed_at c (omega arith) b.1).3 (λ e. omega arith) in
            let (e, f) = w.3 r p h in
            let (g, j) = w.3 q o i in
            (e ∙ sym g, f ∙ sym j)
        go (no l) (no m) = absurd ((placed_at c (omega arith) b.1).2 (omega arith) r p h)

    -- row c itself, and the rows beneath it but for those of guards
    pub data Desc (c : ℕ) : ℕ → Type 0 where
      self : Desc c c
      down : {y x : ℕ} (p : Column) → Desc c y → Refers rows y p x → unguarded (kind_at rows y) p ≡ true → Desc c x

    pub desc-le : {c x : ℕ} → Desc c x → c ≤ x
    desc-le {c} self = omega arith
    desc-le (down {y} {x} p h r u) = let l = desc-le h in let u = refers-up y x p r in omega arith

    pub desc-from : {r c x : ℕ} (p : Column) → Refers rows r p c → unguarded (kind_at rows r) p ≡ true → Desc c x → Desc r x
    desc-from p e u self = down p self e u
    desc-from p e u (down o h r v) = down o (desc-from p e u h) r v

    -- two rows that one row refers to have nothing beneath in common
    pub parted : (r : ℕ) {c c' x : ℕ} (p o : Column) → Refers rows r p c → Refers rows r o c' → c ≢ c' → Desc c x → Desc c' x → ⊥
    parted r p o e e' ne self self = ne refl
    parted r {c} {c'} p o e e' ne self (down {y} i h q v) = let l = desc-le h in let s = (once r y c p i e q).0 in let u = refers-up r c' o e' in omega arith
    parted r {c} {c'} p o e e' ne (down {y} i h q v) self = let l = desc-le h in let s = (once r y c' o i e' q).0 in let u = refers-up r c p e in omega arith
    parted r {c'} p o e e' ne (down {y} {x} i h q v) (down {y = z} j h' q' v') = parted r p o e e' ne h (rw (once y z x i j q q').0 h')
