-- The stage 14 answers with the lowest row that is not right; the rows listed under a row are those beneath it.
use mathlib.Core.Path.{◌≡◌, refl, sym, ap, ◌∙◌, subst}
use mathlib.Core.Logic.{◌⊎◌, inl, inr, ⊎_elim}
use mathlib.Core.Bool.{Bool, ◌&&◌, ◌||◌}
use mathlib.Core.List.Memᴰ
use mathlib.Core.List.{List, [], ◌∷◌, ◌++◌, Memᴰ}
use mathlib.Core.Option.{Option, none, some, none-ne-some, some-injective}
use Prim.Native.Nat.{ℕ, zero, suc, ◌+◌, ◌≤◌, ◌<◌}
use native.Mathlib.Decide.{dec_lt}
use native.Mathlib.Omega.{arith}
use lib.IntN.{ℤ, pos, negsuc, pos-ne-negsuc}
use lib.Dec.{ltb, eqb}
use borrow.Author.Tests.{lt-ltb}
use Rattle.meaning.specs.Basics.{if_else, among, lowest, Lowest}
use Rattle.meaning.specs.Rows.{row_count, natural_at, kind_at}
use Rattle.meaning.specs.Declarations.{declarations}
use Rattle.meaning.specs.Kinds.{Field, unused, literal_value, within, elements, capacity, operator, variable, channel, reference, link, Shape, shape_of}
use Rattle.meaning.specs.References.{Column, of-a, of-b, of_c, field_of, number_of, IsTarget, RefersBy, Refers, Beneath, direct, further}
use Rattle.meaning.specs.Verdict.{target_of, target, targets_by, targets, with_those, rows_under, is_block, names_variable, block_of, some_not, block_fault_at, block_fault}
use Rattle.meaning.specs.Faults.{BlockOf, NamesIt, WellBlocked}
use Rattle.meaning.specs.StageClaims.{BlockStage}
use Rattle.meaning.proofs.Decides.{Decides, holding, failing, decides-iff, decides_and, decides_or, decides_eq, pos-injective, Faults, right, faults-not, faults-is, faults-or, faults-if, faults-iff, lowest-wrong, lowest-decided}
use Rattle.meaning.proofs.HigherRows.{at_row-at, at_row-past}
use Rattle.meaning.proofs.ReferenceCounts.{decides-among, decides-target, bounds}

module _ (rows : List ℤ) where
  -- The rows that a row refers to ------------------------------------------------------------------------------------------------

  target-of : (r : ℕ) (kinds : List ℕ) (z : ℤ) (t : ℕ) → Memᴰ t (target_of rows r kinds z) → (z ≡ pos t) × IsTarget rows r kinds t
  target-of r kinds (negsuc i) t m = absurd (Memᴰ.not-nil m)
  target-of r kinds (pos u) t m = go (decides-target rows r kinds u) m
    where
      go : {b : Bool} → Decides (IsTarget rows r kinds u) b → Memᴰ t (if_else b (u ∷ []) []) → (pos u ≡ pos t) × IsTarget rows r kinds t
      go (failing h) i = absurd (Memᴰ.not-nil i)
      go (holding h) i = ⊎_elim (λ e. (ap pos (sym e), subst (IsTarget rows r kinds) (sym e) h)) (λ j. absurd (Memᴰ.not-nil j)) (Memᴰ.cases_cons i)

  of-target : (r : ℕ) (kinds : List ℕ) (z : ℤ) (t : ℕ) → (z ≡ pos t) × IsTarget rows r kinds t → Memᴰ t (target_of rows r kinds z)
  of-target r kinds (negsuc i) t h = absurd (pos-ne-negsuc t i (sym h.0))
  of-target r kinds (pos u) t h = go (decides-target rows r kinds u)
    where
      go : {b : Bool} → Decides (IsTarget rows r kinds u) b → Memᴰ t (if_else b (u ∷ []) [])
      go (holding i) = Memᴰ.head (sym (pos-injective h.0))
      go (failing i) = absurd (i (subst (IsTarget rows r kinds) (sym (pos-injective h.0)) h.1))

  field-refers : (r : ℕ) (f : Field) (z : ℤ) (t : ℕ) → Memᴰ t (target rows r f z) → RefersBy rows r f z t
  unfolding target RefersBy
  field-refers r unused z t m = Memᴰ.not-nil m
  field-refers r literal_value z t m = Memᴰ.not-nil m
  field-refers r (within lo hi) z t m = Memᴰ.not-nil m
  field-refers r elements z t m = Memᴰ.not-nil m
  field-refers r capacity z t m = Memᴰ.not-nil m
  field-refers r operator z t m = Memᴰ.not-nil m
  field-refers r variable z t m = Memᴰ.not-nil m
  field-refers r (channel roles) z t m = Memᴰ.not-nil m
  field-refers r (reference kinds) z t m = target-of r kinds z t m
  field-refers r (link kinds) z t m = target-of r kinds z t m

  refers-field : (r : ℕ) (f : Field) (z : ℤ) (t : ℕ) → RefersBy rows r f z t → Memᴰ t (target rows r f z)
  unfolding target RefersBy
  refers-field r unused z t h = absurd h
  refers-field r literal_value z t h = absurd h
  refers-field r (within lo hi) z t h = absurd h
  refers-field r elements z t h = absurd h
  refers-field r capacity z t h = absurd h
  refers-field r operator z t h = absurd h
  refers-field r variable z t h = absurd h
  refers-field r (channel roles) z t h = absurd h
  refers-field r (reference kinds) z t h = of-target r kinds z t h
  refers-field r (link kinds) z t h = of-target r kinds z t h

  targets-refer : (r : ℕ) (o : Option Shape) → shape_of (kind_at rows r) ≡ o → (t : ℕ) → Memᴰ t (targets_by rows r o) → (p : Column) × Refers rows r p t
  unfolding Refers
  targets-refer r none e t m = absurd (Memᴰ.not-nil m)
  targets-refer r (some s) e t m = ⊎_elim (λ i. ⊎_elim (by of-a) (by of-b) (Memᴰ.append_cases (at of-a) i)) (by of_c) (Memᴰ.append_cases (at of-a ++ at of-b) m)
    where
      at : Column → List ℕ
      at p = target rows r (field_of s p) (number_of rows r p)

      by : (p : Column) → Memᴰ t (at p) → (p : Column) × Refers rows r p t
      by p i = (p, (s, e, field-refers r (field_of s p) (number_of rows r p) t i))

  refer-targets : (r : ℕ) (o : Option Shape) → shape_of (kind_at rows r) ≡ o → (t : ℕ) (p : Column) → Refers rows r p t → Memᴰ t (targets_by rows r o)
  unfolding Refers
  refer-targets r none e t p h = absurd (none-ne-some h.0 (sym e ∙ h.1))
  refer-targets r (some s) e t p h =
      go p (refers-field r (field_of s p) (number_of rows r p) t (subst (λ (u : Shape). RefersBy rows r (field_of u p) (number_of rows r p) t) (some-injective h.0 s (sym h.1 ∙ e)) h.2))
    where
      at : Column → List ℕ
      at q = target rows r (field_of s q) (number_of rows r q)

      go : (q : Column) → Memᴰ t (at q) → Memᴰ t ((at of-a ++ at of-b) ++ at of_c)
      go of-a m = Memᴰ.append_left (at of_c) (Memᴰ.append_left (at of-b) m)
      go of-b m = Memᴰ.append_left (at of_c) (Memᴰ.append_right (at of-a) m)
      go of_c m = Memᴰ.append_right (at of-a ++ at of-b) m

  -- The rows beneath a row -------------------------------------------------------------------------------------------------------

  -- a reference goes to a higher row of the table
  pub refers-higher : {r t : ℕ} (p : Column) → Refers rows r p t → (r < t) × (t < row_count rows)
  unfolding Refers
  refers-higher {r} {t} p h = bounds rows t r (field_of h.0 p) (number_of rows r p) h.2

  -- beneath what row r refers to is beneath row r
  pub beneath-first : {r u t : ℕ} (p : Column) → Refers rows r p u → Beneath rows u t → Beneath rows r t
  beneath-first p f (direct o g) = further o (direct p f) g
  beneath-first p f (further o w g) = further o (beneath-first p f w) g

  -- a row beneath row r is one that it refers to, or beneath one
  pub first-beneath : {r t : ℕ} → Beneath rows r t → (u : ℕ) × (p : Column) × Refers rows r p u × ((t ≡ u) ⊎ Beneath rows u t)
  first-beneath {t} (direct p g) = (t, p, g, inl refl)
  first-beneath (further {s} {t} p w g) =
      let h = first-beneath w in
      (h.0, h.1, h.2, inr (⊎_elim (λ e. direct p (subst (λ (q : ℕ). Refers rows q p t) e g)) (λ v. further p v g) h.3))

  with-those : (at : ℕ → List ℕ) (ts : List ℕ) (t : ℕ) → Memᴰ t (with_those at ts) → (u : ℕ) × Memᴰ u ts × ((t ≡ u) ⊎ Memᴰ t (at u))
  with-those at [] t m = absurd (Memᴰ.not-nil m)
  with-those at (u ∷ ts) t m =
      ⊎_elim (λ i. (u, Memᴰ.head refl, Memᴰ.cases_cons i)) (λ i. let h = with-those at ts t i in (h.0, Memᴰ.tail h.1, h.2)) (Memᴰ.append_cases (u ∷ at u) m)

  those-with : (at : ℕ → List ℕ) (ts : List ℕ) (t u : ℕ) → Memᴰ u ts → (t ≡ u) ⊎ Memᴰ t (at u) → Memᴰ t (with_those at ts)
  those-with at [] t u m h = absurd (Memᴰ.not-nil m)
  those-with at (v ∷ ts) t u (Memᴰ.head e) h =
      Memᴰ.append_left (with_those at ts) (⊎_elim (λ i. Memᴰ.head (i ∙ e)) (λ i. Memᴰ.tail (subst (λ (w : ℕ). Memᴰ t (at w)) e i)) h)
  those-with at (v ∷ ts) t u (Memᴰ.tail m) h = Memᴰ.append_right (v ∷ at v) (those-with at ts t u m h)

  -- the rows under row r, by those under the rows that it refers to
  abbrev higher_under : ℕ → ℕ → List ℕ
  higher_under r b = if_else (ltb r b) (rows_under rows b) []

  under_at : (r : ℕ) → r < row_count rows → rows_under rows r ≡ with_those (higher_under r) (targets rows r)
  unfolding rows_under
  under_at r l = at_row-at [] (λ r at. with_those at (targets rows r)) (row_count rows) r l

  under-past : (r : ℕ) → row_count rows ≤ r → rows_under rows r ≡ []
  unfolding rows_under
  under-past r l = at_row-past [] (λ r at. with_those at (targets rows r)) (row_count rows) r l

  under-higher : (r u : ℕ) → r < u → higher_under r u ≡ rows_under rows u
  under-higher r u l = ap (λ (b : Bool). if_else b (rows_under rows u) []) (lt-ltb r u l)

  -- by the distance to the table's end
  under-beneath : (k r t : ℕ) → row_count rows ≤ r + k → Memᴰ t (rows_under rows r) → Beneath rows r t
  under-beneath zero r t l m = absurd (Memᴰ.not-nil (subst (Memᴰ t) (under-past r (omega arith)) m))
  under-beneath (suc k) r t l m = go (dec_lt r (row_count rows)) (λ u i. under-beneath k u t i)
    where
      go : Dec (r < row_count rows) → ((u : ℕ) → row_count rows ≤ u + k → Memᴰ t (rows_under rows u) → Beneath rows u t) → Beneath rows r t
      go (no n) f = absurd (Memᴰ.not-nil (subst (Memᴰ t) (under-past r (omega arith)) m))
      go (yes i) f =
          let (u, j, h) = with-those (higher_under r) (targets rows r) t (subst (Memᴰ t) (under_at r i) m) in
          let (p, g) = targets-refer r (shape_of (kind_at rows r)) refl u j in
          let w = (refers-higher p g).0 in
          ⊎_elim (λ e. direct p (subst (Refers rows r p) (sym e) g)) (λ v. beneath-first p g (f u (omega arith) (subst (Memᴰ t) (under-higher r u w) v))) h

  beneath-under : (k r t : ℕ) → row_count rows ≤ r + k → Beneath rows r t → Memᴰ t (rows_under rows r)
  beneath-under zero r t l b = absurd (let (u, p, g, h) = first-beneath b in let w = refers-higher p g in omega arith)
  beneath-under (suc k) r t l b =
      let (u, p, g, h) = first-beneath b in
      let (w, v) = refers-higher p g in
      subst (Memᴰ t) (sym (under_at r (omega arith)))
      (those-with (higher_under r) (targets rows r) t u (refer-targets r (shape_of (kind_at rows r)) refl u p g) (go u w h (beneath-under k u t (omega arith))))
    where
      go : (u : ℕ) → r < u → (t ≡ u) ⊎ Beneath rows u t → (Beneath rows u t → Memᴰ t (rows_under rows u)) → (t ≡ u) ⊎ Memᴰ t (higher_under r u)
      go u w (inl e) f = inl e
      go u w (inr c) f = inr (subst (Memᴰ t) (sym (under-higher r u w)) (f c))

  pub decides-under : (k r : ℕ) → Decides (Beneath rows k r) (among r (rows_under rows k))
  decides-under k r = decides-iff (under-beneath (row_count rows) k r (omega arith)) (beneath-under (row_count rows) k r (omega arith)) (decides-among r (rows_under rows k))

  -- The stage ---------------------------------------------------------------------------------------------------------------------

  -- row k is a block of the name v
  abbrev IsBlockOf : ℕ → ℕ → Type 0
  IsBlockOf v k = (kind_at rows k ≡ 35) × (natural_at rows k 1 ≡ v)

  lowest-block : (v : ℕ) → Lowest (IsBlockOf v) (row_count rows) (block_of rows v)
  unfolding block_of
  lowest-block v =
      lowest-decided (IsBlockOf v) (λ k. is_block rows k && eqb (natural_at rows k 1) v) (λ k. decides_and (decides_eq (kind_at rows k) 35) (decides_eq (natural_at rows k 1) v)) (row_count rows)

  -- a block, and the lowest of its name
  no_second : (v r : ℕ) (o : Option ℕ) → Lowest (IsBlockOf v) (row_count rows) o → IsBlockOf v r → Faults ((k : ℕ) → BlockOf rows v k → r ≤ k) (some_not (λ k. eqb k r) o)
  no_second v r none h i = right (λ k b. absurd (h k b.0 (b.1, b.2)))
  no_second v r (some k) h i = faults-iff to from (faults-not (decides_eq k r))
    where
      to : k ≡ r → (j : ℕ) → BlockOf rows v j → r ≤ j
      to e j b = go (dec_lt j k)
        where
          go : Dec (j < k) → r ≤ j
          go (yes l) = absurd (h.2 j l (b.1, b.2))
          go (no l) = omega arith

      from : ((j : ℕ) → BlockOf rows v j → r ≤ j) → k ≡ r
      from f = go (dec_lt r k)
        where
          go : Dec (r < k) → k ≡ r
          go (yes l) = absurd (h.2 r l i)
          go (no l) = let g = f k (h.0, h.1.0, h.1.1) in omega arith

  -- beneath the lowest block of a name
  inside-lowest : (v r : ℕ) (o : Option ℕ) → Lowest (IsBlockOf v) (row_count rows) o
      → Faults ((k : ℕ) → BlockOf rows v k → ((j : ℕ) → BlockOf rows v j → k ≤ j) → Beneath rows k r) (some_not (λ k. among r (rows_under rows k)) o)
  inside-lowest v r none h = right (λ k b f. absurd (h k b.0 (b.1, b.2)))
  inside-lowest v r (some k) h = faults-iff to from (faults-not (decides-under k r))
    where
      low : (j : ℕ) → BlockOf rows v j → k ≤ j
      low j b = go (dec_lt j k)
        where
          go : Dec (j < k) → k ≤ j
          go (yes l) = absurd (h.2 j l (b.1, b.2))
          go (no l) = omega arith

      is : BlockOf rows v k
      is = (h.0, h.1.0, h.1.1)

      to : Beneath rows k r → (j : ℕ) → BlockOf rows v j → ((i : ℕ) → BlockOf rows v i → j ≤ i) → Beneath rows j r
      to w j b f = subst (λ (q : ℕ). Beneath rows q r) (let x = low j b in let y = f k is in omega arith) w

      from : ((j : ℕ) → BlockOf rows v j → ((i : ℕ) → BlockOf rows v i → j ≤ i) → Beneath rows j r) → Beneath rows k r
      from f = f k is low

  well-block : (r : ℕ)
      → Faults (kind_at rows r ≡ 35 → ¬ (r ≡ declarations rows) × ((k : ℕ) → BlockOf rows (natural_at rows r 1) k → r ≤ k))
      (is_block rows r && (eqb r (declarations rows) || some_not (λ k. eqb k r) (block_of rows (natural_at rows r 1))))
  well-block r = go (decides_eq (kind_at rows r) 35)
    where
      v : ℕ
      v = natural_at rows r 1

      go : {b : Bool} → Decides (kind_at rows r ≡ 35) b
          → Faults (kind_at rows r ≡ 35 → ¬ (r ≡ declarations rows) × ((k : ℕ) → BlockOf rows v k → r ≤ k)) (b && (eqb r (declarations rows) || some_not (λ k. eqb k r) (block_of rows v)))
      go (holding e) = faults-if (holding e) (faults-or (faults-is (decides_eq r (declarations rows))) (no_second v r (block_of rows v) (lowest-block v) (e, refl)))
      go (failing n) = right (λ e. absurd (n e))

  well-named : (r : ℕ)
      → Faults ((v : ℕ) → NamesIt rows v r → (k : ℕ) → BlockOf rows v k → ((j : ℕ) → BlockOf rows v j → k ≤ j) → Beneath rows k r)
      (names_variable rows r && some_not (λ k. among r (rows_under rows k)) (block_of rows (natural_at rows r 1)))
  well-named r =
      faults-iff (λ f v n. subst (λ (u : ℕ). (k : ℕ) → BlockOf rows u k → ((j : ℕ) → BlockOf rows u j → k ≤ j) → Beneath rows k r) n.1 (f n.0)) (λ f n. f (natural_at rows r 1) (n, refl))
      (faults-if (decides_or (decides_eq (kind_at rows r) 11) (decides_eq (kind_at rows r) 22)) (inside-lowest (natural_at rows r 1) r (block_of rows (natural_at rows r 1)) (lowest-block (natural_at rows r 1))))

  pub well-blocked : (r : ℕ) → Faults (WellBlocked rows r) (block_fault_at rows (declarations rows) r)
  unfolding WellBlocked
  well-blocked r = faults-or (well-block r) (well-named r)

pub block-stage : BlockStage
unfolding BlockStage block_fault
block-stage rows =
    (lowest (block_fault_at rows (declarations rows)) (row_count rows), refl, lowest-wrong (WellBlocked rows) (block_fault_at rows (declarations rows)) (well-blocked rows) (row_count rows))
