-- Of a table that the stages 3 to 6 pass: what stands in the list of a row's references is what the row refers to by the table of kinds.
use mathlib.Core.Path.{◌≡◌, refl, sym, ap, ◌∙◌, subst}
use mathlib.Core.Logic.{⊎_elim}
use mathlib.Core.List.Memᴰ
use mathlib.Core.List.{List, [], ◌∷◌, Memᴰ}
use mathlib.Core.Option.{some}
use Prim.Native.Nat.{ℕ, suc, ◌≤◌, ◌<◌}
use native.Mathlib.Decide.{dec_lt}
use native.Mathlib.Omega.{arith}
use lib.IntN.{ℤ, pos}
use Rattle.meaning.specs.declared.Node.TheVariants.{Par, Member}
use Rattle.meaning.specs.Rows.{natural_of, row_count, field_at, natural_at, kind_at}
use Rattle.meaning.specs.Kinds.{Shape, shapes, shape_in, shape_of, shape, variable, expression, unused, operator, from_to, elements, capacity, literal_value, channel, reference, link, process}
use Rattle.meaning.specs.Declarations.{declarations}
use Rattle.meaning.specs.Nodes.{node_at}
use Rattle.meaning.specs.References.{Column, of-a, of-b, of_c, field_of, number_of, RefersBy, Refers}
use Rattle.meaning.specs.Faults.{Leads, WellFormed, Placed, WellPlaced}
use Rattle.meaning.proofs.KindLaws.{none_left, and_then, by_shape}
use Rattle.meaning.proofs.OneTreeLaw.{declared, refers-by}
use Rattle.agreement.specs.VerdictClaims.{Passed}
use Rattle.agreement.proofs.VerdictStages.{whole-passes, form-passes, tree-passes}
use Rattle.agreement.proofs.TableReferences.{members-shape, member-shape, Leading, Fields, fields-are, row-placed, to_row, row-refers}
use Rattle.agreement.proofs.UsageRows.{node_of, node-of-kind, Fits, fits}
use Rattle.agreement.proofs.UsageLists.{references, one, two, three}

-- of a field that refers to no row
pub never : {A : Type 0} → ⊥ → A
never h = absurd h

nothing : (P : ℕ → Type 0) (c : ℕ) → Memᴰ c [] → P c
nothing P c m = absurd (Memᴰ.not-nil m)

module _ (rows : List ℤ) where
  -- the list of row r, if it is of kind k
  abbrev list_by : ℕ → ℕ → List ℕ
  list_by r k = references (node_of k (field_at rows r 1) (natural_at rows r 1) (natural_at rows r 2) (natural_at rows r 3))

  list-is : (r : ℕ) → references (node_at rows r) ≡ list_by r (kind_at rows r)
  list-is r = ap references (node-of-kind rows r (kind_at rows r) refl)

  -- what row r refers to is in its list
  module _ (r t : ℕ) where
    abbrev Listed : ℕ → Shape → Type 0
    Listed k s =
        (RefersBy rows r s.a (field_at rows r 1) t → Memᴰ t (list_by r k))
        × (RefersBy rows r s.b (field_at rows r 2) t → Memᴰ t (list_by r k))
        × (RefersBy rows r s.c (field_at rows r 3) t → Memᴰ t (list_by r k))

    at0 : (z : ℤ) {l : List ℕ} → z ≡ pos t → Memᴰ t (natural_of z ∷ l)
    at0 z e = Memᴰ.head (sym (ap natural_of e))

    at1 : (z : ℤ) {x : ℕ} {l : List ℕ} → z ≡ pos t → Memᴰ t (x ∷ natural_of z ∷ l)
    at1 z e = Memᴰ.tail (at0 z e)

    at2 : (z : ℤ) {x y : ℕ} {l : List ℕ} → z ≡ pos t → Memᴰ t (x ∷ y ∷ natural_of z ∷ l)
    at2 z e = Memᴰ.tail (at1 z e)

    each-listed : (k : ℕ) (s : Shape) → shape_of k ≡ some s → Listed k s
    unfolding shapes RefersBy
    each-listed =
        let za = field_at rows r 1 in
        let zb = field_at rows r 2 in
        let zc = field_at rows r 3 in
        by_shape Listed
        (and_then (never, never, never)
        (and_then (never, never, never)
        (and_then (never, never, never)
        (and_then (never, λ h. at0 zb h.0, never)
        (and_then (never, λ h. at0 zb h.0, never)
        (and_then (never, λ h. at0 zb h.0, λ h. at1 zc h.0)
        (and_then (never, never, never)
        (and_then (never, never, never)
        (and_then (never, λ h. at0 zb h.0, λ h. at1 zc h.0)
        (and_then (never, λ h. at0 zb h.0, λ h. at1 zc h.0)
        (and_then (never, λ h. at0 zb h.0, λ h. at1 zc h.0)
        (and_then (λ h. at0 za h.0, never, never)
        (and_then (λ h. at0 za h.0, never, never)
        (and_then (λ h. at0 za h.0, never, never)
        (and_then (λ h. at0 za h.0, λ h. at1 zb h.0, never)
        (and_then (λ h. at0 za h.0, never, never)
        (and_then (never, λ h. at0 zb h.0, never)
        (and_then (λ h. at0 za h.0, λ h. at1 zb h.0, never)
        (and_then (λ h. at0 za h.0, λ h. at1 zb h.0, λ h. at2 zc h.0)
        (and_then (λ h. at0 za h.0, λ h. at1 zb h.0, λ h. at2 zc h.0)
        (and_then (λ h. at0 za h.0, λ h. at1 zb h.0, never)
        none_left)))))))))))))))))))))

    pub refers-listed : (p : Column) → Refers rows r p t → Memᴰ t (references (node_at rows r))
    unfolding Refers
    refers-listed p h = subst (Memᴰ t) (sym (list-is r)) (go (kind_at rows r) h.0 p (each-listed (kind_at rows r) h.0 h.1) h.2)
      where
        go : (k : ℕ) (s : Shape) (p : Column) → Listed k s → RefersBy rows r (field_of s p) (number_of rows r p) t → Memᴰ t (list_by r k)
        go k s of-a f = f.0
        go k s of-b f = f.1
        go k s of_c f = f.2

  -- the first member of a PAR, the process and the next of a member
  pub first-node : (r m : ℕ) → kind_at rows r ≡ 31 → Refers rows r of-a m → (node_at rows r ≡ Par m) × (kind_at rows m ≡ 40) × (r < m) × (m < row_count rows)
  unfolding RefersBy shape_of shape_in shapes
  first-node r m e h =
      let f = refers-by rows r of-a m 31 (members-shape 31 40) e refl h in
      (node-of-kind rows r 31 e ∙ ap Par (ap natural_of f.0), Memᴰ.eq_of_singleton f.1.2, f.1.0, f.1.1)

  pub process-node : (m p : ℕ) → kind_at rows m ≡ 40 → Refers rows m of-a p → node_at rows m ≡ Member p (natural_at rows m 2)
  unfolding RefersBy shape_of shape_in shapes
  process-node m p e h = let f = refers-by rows m of-a p 40 member-shape e refl h in node-of-kind rows m 40 e ∙ ap (λ (a : ℕ). Member a (natural_at rows m 2)) (ap natural_of f.0)

  pub next-node : (m n : ℕ) → kind_at rows m ≡ 40 → Refers rows m of-b n → (node_at rows m ≡ Member (natural_at rows m 1) n) × (kind_at rows n ≡ 40) × (m < n) × (n < row_count rows)
  unfolding RefersBy shape_of shape_in shapes
  next-node m n e h =
      let f = refers-by rows m of-b n 40 member-shape e refl h in
      (node-of-kind rows m 40 e ∙ ap (Member (natural_at rows m 1)) (ap natural_of f.0), Memᴰ.eq_of_singleton f.1.2, f.1.0, f.1.1)

  module _ (passed : Passed rows) where
    few : row_count rows ≤ 1024
    few = ((whole-passes rows).0 passed.0).1

    placed : (r : ℕ) → r < suc (row_count rows) → WellPlaced rows r
    placed = (tree-passes rows).0 passed.2

    -- each row's fields lead to where they may
    pub passed-fits : (r : ℕ) → r < row_count rows → Fits rows r (node_at rows r)
    passed-fits = fits rows few ((form-passes rows).0 passed.1) placed

    -- what is in the list of row r and a row of the table, row r refers to
    module _ (r : ℕ) (l : r < row_count rows) where
      abbrev By : Shape → ℕ → Type 0
      By s c = (p : Column) × RefersBy rows r (field_of s p) (number_of rows r p) c

      abbrev Referred : ℕ → Shape → Type 0
      Referred k s = ((p : Column) → Leads rows r (field_of s p) (number_of rows r p)) → (c : ℕ) → Memᴰ c (list_by r k) → c < row_count rows → By s c

      by : (s : Shape) (p : Column) → Leading (field_of s p) → ((o : Column) → Leads rows r (field_of s o) (number_of rows r o)) → natural_of (number_of rows r p) < row_count rows → By s (natural_of (number_of rows r p))
      by s p u h m = (p, to_row rows few placed r (natural_of (number_of rows r p)) (field_of s p) (number_of rows r p) u (h p) refl m)

      each-referred : (k : ℕ) (s : Shape) → shape_of k ≡ some s → Referred k s
      unfolding shapes
      each-referred =
          by_shape Referred
          (and_then (λ h. nothing _)
          (and_then (λ h. nothing _)
          (and_then (λ h. nothing _)
          (and_then (λ h. one _ _ (by (shape 11 variable expression unused) of-b tt h))
          (and_then (λ h. one _ _ (by (shape 12 operator expression unused) of-b tt h))
          (and_then (λ h. two _ _ _ (by (shape 13 (from_to 0 15) expression expression) of-b tt h) (by (shape 13 (from_to 0 15) expression expression) of_c tt h))
          (and_then (λ h. nothing _)
          (and_then (λ h. nothing _)
          (and_then (λ h. two _ _ _ (by (shape 22 variable expression expression) of-b tt h) (by (shape 22 variable expression expression) of_c tt h))
          (and_then (λ h. two _ _ _ (by (shape 23 (channel (0 ∷ 1 ∷ [])) expression (reference (11 ∷ []))) of-b tt h) (by (shape 23 (channel (0 ∷ 1 ∷ [])) expression (reference (11 ∷ []))) of_c tt h))
          (and_then (λ h. two _ _ _ (by (shape 24 (channel (0 ∷ 2 ∷ [])) expression expression) of-b tt h) (by (shape 24 (channel (0 ∷ 2 ∷ [])) expression expression) of_c tt h))
          (and_then (λ h. one _ _ (by (shape 30 (link (40 ∷ [])) unused unused) of-a tt h))
          (and_then (λ h. one _ _ (by (shape 31 (link (40 ∷ [])) unused unused) of-a tt h))
          (and_then (λ h. one _ _ (by (shape 32 (link (41 ∷ [])) unused unused) of-a tt h))
          (and_then (λ h. two _ _ _ (by (shape 33 expression process unused) of-a tt h) (by (shape 33 expression process unused) of-b tt h))
          (and_then (λ h. one _ _ (by (shape 34 (link (42 ∷ [])) unused unused) of-a tt h))
          (and_then (λ h. one _ _ (by (shape 35 variable process unused) of-b tt h))
          (and_then (λ h. two _ _ _ (by (shape 40 process (link (40 ∷ [])) unused) of-a tt h) (by (shape 40 process (link (40 ∷ [])) unused) of-b tt h))
          (and_then (λ h. three _ _ _ _ (by (shape 41 process (link (41 ∷ [])) expression) of-a tt h) (by (shape 41 process (link (41 ∷ [])) expression) of-b tt h) (by (shape 41 process (link (41 ∷ [])) expression) of_c tt h))
          (and_then (λ h. three _ _ _ _ (by (shape 42 process (link (42 ∷ [])) (reference (23 ∷ 43 ∷ []))) of-a tt h) (by (shape 42 process (link (42 ∷ [])) (reference (23 ∷ 43 ∷ []))) of-b tt h) (by (shape 42 process (link (42 ∷ [])) (reference (23 ∷ 43 ∷ []))) of_c tt h))
          (and_then (λ h. two _ _ _ (by (shape 43 expression (reference (21 ∷ 23 ∷ [])) unused) of-a tt h) (by (shape 43 expression (reference (21 ∷ 23 ∷ [])) unused) of-b tt h))
          none_left)))))))))))))))))))))

      pub listed-refers : (c : ℕ) → Memᴰ c (references (node_at rows r)) → c < row_count rows → (p : Column) × Refers rows r p c
      unfolding Refers WellFormed Placed
      listed-refers c m i = go (dec_lt r (declarations rows))
        where
          go : Dec (r < declarations rows) → (p : Column) × Refers rows r p c
          go (yes d) = absurd (⊎_elim (λ e. Memᴰ.not-nil (listed 1 e)) (λ e. Memᴰ.not-nil (listed 2 e)) (declared rows r d))
            where
              listed : (k : ℕ) → kind_at rows r ≡ k → Memᴰ c (list_by r k)
              listed k e = subst (Memᴰ c) (ap references (node-of-kind rows r k e)) m
          go (no d) =
              let w = ((form-passes rows).0 passed.1 r l).1 in
              let h = (row-placed rows few placed r (omega arith) l).0 w.0 w.1 in
              let f = each-referred (kind_at rows r) w.0 w.1 h c (subst (Memᴰ c) (list-is r) m) i in
              (f.0, (w.0, w.1, f.1))

    -- the first of a PAR, the process and the next of a member
    pub first-refers : (r a : ℕ) → r < row_count rows → node_at rows r ≡ Par a → a < row_count rows → Refers rows r of-a a
    first-refers r a l e m = let f = subst (Fields rows r) e (fields-are rows r) in row-refers rows few placed r 31 a (members-shape 31 40) of-a l f.0 tt f.1 m

    pub process-refers : (r a b : ℕ) → r < row_count rows → node_at rows r ≡ Member a b → a < row_count rows → Refers rows r of-a a
    process-refers r a b l e m = let f = subst (Fields rows r) e (fields-are rows r) in row-refers rows few placed r 40 a member-shape of-a l f.0 tt f.1 m

    pub next-refers : (r a b : ℕ) → r < row_count rows → node_at rows r ≡ Member a b → b < row_count rows → Refers rows r of-b b
    next-refers r a b l e m = let f = subst (Fields rows r) e (fields-are rows r) in row-refers rows few placed r 40 b member-shape of-b l f.0 tt f.2 m
