-- The first clash of one number is that of the lowest PAR that has one.
use mathlib.Core.Path.{◌≡◌, refl, sym, ap, ◌∙◌, subst}
use mathlib.Core.Logic.{⊎_elim, ◌↔◌}
use mathlib.Core.Bool.{Bool, true, false, false≢true}
use mathlib.Core.List.Memᴰ
use mathlib.Core.List.{List, [], ◌∷◌, ◌++◌, map, Memᴰ}
use mathlib.Core.Option.{Option, none, some, none-ne-some, some-injective}
use Prim.Native.Nat.{ℕ, suc, ◌+◌, ◌≤◌, ◌<◌}
use native.Mathlib.Nat.{eq-or-lt_of_le}
use native.Mathlib.Omega.{arith}
use lib.IntN.{ℤ}
use Rattle.meaning.specs.declared.Node.{Node}
use Rattle.meaning.specs.declared.Node.TheVariants.{Literal, Element, Monadic, Dyadic, Stop, Skip, Assignment, Input, Output, Seq, Par, If, While, Alt, Block, Member, Choice, OptionRow, Guard, Other}
use Rattle.meaning.specs.Basics.{if_else}
use Rattle.meaning.specs.Rows.{row_count, natural_at}
use Rattle.meaning.specs.Nodes.{node_at}
use Rattle.meaning.specs.Tree.{Process, Content, content_of, content_at, contents}
use Rattle.meaning.specs.Usage.{Pair, pairs, Comparison, comparisons_in, comparisons_of, clashes, first_clash}
use Rattle.meaning.specs.Clash.{IsMember, member-first, member-next, Components, components, Clash}
use Rattle.meaning.proofs.Decides.{Decides, holding, failing, is_true}
use Rattle.agreement.specs.VerdictClaims.{Passed}
use Rattle.agreement.proofs.TableReferences.{Fields, fields-are}
use Rattle.agreement.proofs.UsageRows.{Fits}
use Rattle.agreement.proofs.UsageReferences.{first-node, process-node, passed-fits, first-refers}
use Rattle.agreement.proofs.UsageParts.{part-is}
use Rattle.agreement.proofs.EachRow.{each_row}
use Rattle.agreement.proofs.UsageClashes.{IsProcess}
use Rattle.agreement.proofs.UsageMembers.{Chain, process-at, chain-at, Apart, apart, member_is, pairs-to, member-from, pairs-from}

-- what the search through a list of comparisons gives
data Search (l : List Comparison) : Option Comparison → Type 0 where
  nothing : ((c : Comparison) → Memᴰ c l → clashes c ≡ false) → Search l none
  something : (c : Comparison) → Memᴰ c l → clashes c ≡ true → Search l (some c)

search_is : (l : List Comparison) → Search l (first_clash l)
unfolding first_clash
search_is [] = nothing (λ c m. absurd (Memᴰ.not-nil m))
search_is (c ∷ l) = go (clashes c) refl (search_is l)
  where
    later : {o : Option Comparison} → clashes c ≡ false → Search l o → Search (c ∷ l) o
    later e (nothing f) = nothing (λ d m. ⊎_elim (λ i. ap clashes i ∙ e) (f d) (Memᴰ.cases_cons m))
    later e (something d m h) = something d (Memᴰ.tail m) h

    go : (t : Bool) → clashes c ≡ t → Search l (first_clash l) → Search (c ∷ l) (if_else t (some c) (first_clash l))
    go true e s = something c (Memᴰ.head refl) e
    go false e s = later e s

abbrev pub or_else : Option Comparison → Option Comparison → Option Comparison
or_else none o = o
or_else (some c) o = some c

pub first-append : (l m : List Comparison) → first_clash (l ++ m) ≡ or_else (first_clash l) (first_clash m)
unfolding first_clash
first-append [] m = refl
first-append (c ∷ l) m = go (clashes c) (first-append l m)
  where
    go : (t : Bool) → first_clash (l ++ m) ≡ or_else (first_clash l) (first_clash m) → if_else t (some c) (first_clash (l ++ m)) ≡ or_else (if_else t (some c) (first_clash l)) (first_clash m)
    go true e = refl
    go false e = e

-- the first member of a PAR
unfoldable pub par_of : Node → Option ℕ
par_of (Literal x) = none
par_of (Element a b) = none
par_of (Monadic a b) = none
par_of (Dyadic a b c) = none
par_of Stop = none
par_of Skip = none
par_of (Assignment a b c) = none
par_of (Input a b c) = none
par_of (Output a b c) = none
par_of (Seq a) = none
par_of (Par a) = some a
par_of (If a) = none
par_of (While a b) = none
par_of (Alt a) = none
par_of (Block a b) = none
par_of (Member a b) = none
par_of (Choice a b c) = none
par_of (OptionRow a b c) = none
par_of (Guard a b) = none
par_of Other = none

module _ (rows : List ℤ) where
  -- a row is a PAR, or has nothing to compare
  pub data Looks (number r : ℕ) (x : Node) : Type 0 where
    a-par : (a : ℕ) → x ≡ Par a → Looks number r x
    no-par : par_of x ≡ none → comparisons_in number (content_of rows r (content_at rows) x).process ≡ [] → Looks number r x

  pub looks : (number r : ℕ) (x : Node) → Looks number r x
  unfolding par_of
  looks k r (Literal x) = no-par refl refl
  looks k r (Element a b) = no-par refl refl
  looks k r (Monadic a b) = no-par refl refl
  looks k r (Dyadic a b c) = no-par refl refl
  looks k r Stop = no-par refl refl
  looks k r Skip = no-par refl refl
  looks k r (Assignment a b c) = no-par refl refl
  looks k r (Input a b c) = no-par refl refl
  looks k r (Output a b c) = no-par refl refl
  looks k r (Seq a) = no-par refl refl
  looks k r (Par a) = a-par a refl
  looks k r (If a) = no-par refl refl
  looks k r (While a b) = no-par refl refl
  looks k r (Alt a) = no-par refl refl
  looks k r (Block a b) = no-par refl refl
  looks k r (Member a b) = no-par refl refl
  looks k r (Choice a b c) = no-par refl refl
  looks k r (OptionRow a b c) = no-par refl refl
  looks k r (Guard a b) = no-par refl refl
  looks k r Other = no-par refl refl

  -- a row with members is a PAR within the table
  pub member-par : {r m : ℕ} → IsMember rows r m → (a : ℕ) × (node_at rows r ≡ Par a) × (r < row_count rows)
  member-par {r} (member-first {m} k h) = let f = first-node rows r m k h in let u = f.2 in let v = f.3 in (m, f.0, omega arith)
  member-par (member-next i h) = member-par i

  pub par-one : (r a c : ℕ) → node_at rows r ≡ Par a → node_at rows r ≡ Par c → c ≡ a
  unfolding par_of
  par-one r a c e f = some-injective c a (ap par_of (sym f ∙ e))

  -- what is found of a number from row j on
  abbrev pub FromRow : ℕ → ℕ → Option Comparison → Type 0
  FromRow number j none = (q : ℕ) → j ≤ q → ¬ Clash rows q number
  FromRow number j (some c) = (c.number ≡ number) × (j ≤ c.row) × Clash rows c.row number × ((q : ℕ) → j ≤ q → q < c.row → ¬ Clash rows q number)

  module _ (passed : Passed rows) (number : ℕ) (test : Process → Process → Bool) (tests : (c : Comparison) → c.number ≡ number → clashes c ≡ test c.pair.one c.pair.other)
      (Rel : ℕ → ℕ → Type 0) (decides-rel : (p q : ℕ) (x y : Process) → IsProcess rows p x → IsProcess rows q y → Decides (Rel p q) (test x y)) (turned : (p q : ℕ) → Rel p q → Rel q p)
      (clash-is : (r : ℕ) → Clash rows r number ↔ ((p : ℕ) × ((q : ℕ) × Components rows r p q × Rel p q))) where
    fits : (r : ℕ) → r < row_count rows → Fits rows r (node_at rows r)
    fits = passed-fits rows passed

    -- what is found at one row
    abbrev AtRow : ℕ → Option Comparison → Type 0
    AtRow r none = ¬ Clash rows r number
    AtRow r (some c) = (c.number ≡ number) × (c.row ≡ r) × Clash rows r number

    -- a pair compared at row r
    abbrev compared : ℕ → Pair → Comparison
    compared r d = record { number = number; row = r; pair = d }

    holds-true : {A : Type 0} {t : Bool} → Decides A t → t ≡ true → A
    holds-true (holding a) e = a
    holds-true (failing f) e = absurd (false≢true e)

    module _ (r a : ℕ) (l : r < row_count rows) (e : node_at rows r ≡ Par a) where
      chain : Chain rows a (content_at rows a).listed
      chain = chain-at rows fits (row_count rows) a (omega arith) (subst (Fits rows r) e (fits r l)).1

      first_member : a < row_count rows → IsMember rows r a
      first_member i = member-first (subst (Fields rows r) e (fields-are rows r)).0.0 (first-refers rows passed r a l e i)

      -- a pair that clashes is a clash of components
      pair-clash : (d : Pair) → Memᴰ d (pairs (content_at rows a).listed) → test d.one d.other ≡ true → Clash rows r number
      pair-clash d m t = go (pairs-to rows passed r chain first_member d m)
        where
          go : Apart rows r d.one d.other → Clash rows r number
          go (apart {p} {q} c u v) = (clash-is r).1 (p, (q, c, holds-true (decides-rel p q d.one d.other u v) t))

      -- a clash of components is that of a pair
      clash-pair : Clash rows r number → (d : Pair) × Memᴰ d (pairs (content_at rows a).listed) × (test d.one d.other ≡ true)
      clash-pair h = let w = (clash-is r).0 h in go w.0 w.1.0 w.1.1 w.1.2
        where
          runs : (p m b : ℕ) → IsMember rows r m → node_at rows m ≡ Member p b → (x : Process) × IsProcess rows p x
          runs p m b i f = let w = subst (Fits rows m) f (fits m (member_is rows i).1) in process-at rows fits p w.0.1 w.0.2

          go : (p q : ℕ) → Components rows r p q → Rel p q → (d : Pair) × Memᴰ d (pairs (content_at rows a).listed) × (test d.one d.other ≡ true)
          go p q (components {m} {n} i j ne f g) rel =
              let b = natural_at rows m 2 in
              let c = natural_at rows n 2 in
              let f' = process-node rows m p (member_is rows i).0 f in
              let g' = process-node rows n q (member_is rows j).0 g in
              let x = runs p m b i f' in
              let y = runs q n c j g' in
              let one-par : (k : ℕ) → node_at rows r ≡ Par k → k ≡ a = λ k u. par-one r a k e u in
              let s = pairs-from rows x.0 y.0 chain (member-from rows r a one-par i) (member-from rows r a one-par j) ne (p, (b, (member_is rows i).1, f', x.1)) (q, (c, (member_is rows j).1, g', y.1)) in (
                s.0,
                s.1,
                ⊎_elim
                    (λ k. ap (λ (z : Process). test z s.0.other) k.0 ∙ ap (test x.0) k.1 ∙ is_true (decides-rel p q x.0 y.0 x.1 y.1) rel)
                    (λ k. ap (λ (z : Process). test z s.0.other) k.0 ∙ ap (test y.0) k.1 ∙ is_true (decides-rel q p y.0 x.0 y.1 x.1) (turned p q rel))
                    s.2,
              )

      par-row : {o : Option Comparison} → Search (map (compared r) (pairs (content_at rows a).listed)) o → AtRow r o
      par-row (nothing f) = λ h.
          let w = clash-pair h in
          false≢true (sym (f (compared r w.0) (Memᴰ.map (compared r) w.1)) ∙ tests (compared r w.0) refl ∙ w.2)
      par-row (something c m h) =
          let w = Memᴰ.of_map (compared r) (pairs (content_at rows a).listed) m in
          (sym (ap (λ (z : Comparison). z.number) w.2), sym (ap (λ (z : Comparison). z.row) w.2), pair-clash w.0 w.1 (sym (tests (compared r w.0) refl) ∙ ap clashes w.2 ∙ h))

    some-member : {r p q : ℕ} → Components rows r p q → (m : ℕ) × IsMember rows r m
    some-member (components {m} i j ne f g) = (m, i)

    clash-par : (r : ℕ) → Clash rows r number → (a : ℕ) × (node_at rows r ≡ Par a) × (r < row_count rows)
    clash-par r h = member-par (some-member ((clash-is r).0 h).1.1).1

    at-row : (r : ℕ) → r < row_count rows → AtRow r (first_clash (comparisons_in number (content_at rows r).process))
    unfolding first_clash par_of
    at-row r l = subst (λ (x : Content). AtRow r (first_clash (comparisons_in number x.process))) (sym (part-is rows r l (fits r l))) (go (node_at rows r) refl (looks number r (node_at rows r)))
      where
        go : (x : Node) → node_at rows r ≡ x → Looks number r x → AtRow r (first_clash (comparisons_in number (content_of rows r (content_at rows) x).process))
        go x e (a-par a f) =
            subst (λ (y : Node). AtRow r (first_clash (comparisons_in number (content_of rows r (content_at rows) y).process))) (sym f)
            (par-row r a l (e ∙ f) (search_is (map (compared r) (pairs (content_at rows a).listed))))
        go x e (no-par f g) =
            subst (λ (y : List Comparison). AtRow r (first_clash y)) (sym g)
            (λ h. let w = clash-par r h in none-ne-some w.0 (sym f ∙ ap par_of (sym e ∙ w.1)))

    onward : (j : ℕ) (o u : Option Comparison) → AtRow j o → FromRow number (suc j) u → FromRow number j (or_else o u)
    onward j none none f g = λ q i. ⊎_elim (λ e. subst (λ (k : ℕ). ¬ Clash rows k number) e f) (λ l. g q l) (eq-or-lt_of_le i)
    onward j none (some c) f g = (
      g.0,
      (let l = g.1 in omega arith),
      g.2,
      λ q i u. ⊎_elim (λ e. subst (λ (k : ℕ). ¬ Clash rows k number) e f) (λ l. g.3 q l u) (eq-or-lt_of_le i),
    )
    onward j (some c) u f g = let e = f.1 in (f.0, omega arith, subst (λ (k : ℕ). Clash rows k number) (sym e) f.2, λ q i l. absurd (omega arith))

    -- the first clash of all rows
    pub first-of-rows : FromRow number 0 (first_clash (comparisons_of number (contents rows)))
    unfolding first_clash
    first-of-rows =
        each_row rows (λ j l. FromRow number j (first_clash (comparisons_of number l))) (λ q i h. let w = (clash-par q h).2 in absurd (omega arith)) (λ j l h g.
        subst (FromRow number j) (sym (first-append (comparisons_in number (content_at rows j).process) (comparisons_of number l)))
        (onward j (first_clash (comparisons_in number (content_at rows j).process)) (first_clash (comparisons_of number l)) (at-row j h) g))
