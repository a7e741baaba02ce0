-- The list of comparisons is the pairs of the table in the order of the refusal table, each once.
use mathlib.Core.Path.{◌≡◌, refl, sym, ap, ◌∙◌, subst}
use mathlib.Core.Logic.{◌⊎◌, inl, inr, ⊎_elim, ◌↔◌}
use mathlib.Core.List.Memᴰ
use mathlib.Core.List.{List, [], ◌∷◌, ◌++◌, map, map-append, Memᴰ}
use mathlib.Core.Option.{none-ne-some}
use Prim.Native.Nat.{ℕ, suc, ◌+◌, ◌≤◌, ◌<◌}
use native.Mathlib.Nat.{eq-or-lt_of_le}
use native.Mathlib.Omega.{arith}
use lib.IntN.{ℤ}
use Rattle.meaning.specs.declared.Node.{Node}
use Rattle.meaning.specs.declared.Node.TheVariants.{Par}
use Rattle.meaning.specs.Rows.{row_count}
use Rattle.meaning.specs.Nodes.{node_at}
use Rattle.meaning.specs.Tree.{Process, Processes, empty, also, Content, content_of, content_at, contents}
use Rattle.meaning.specs.Usage.{Pair, pairs_with, pairs, Comparison, comparisons_in, comparisons_of, comparisons}
use Rattle.meaning.specs.MemberPairs.{MemberPair, Earlier, by_number, by_row, by_first, by-second, InOrder, ComponentAt, IsPair}
use Rattle.agreement.specs.VerdictClaims.{Passed}
use Rattle.agreement.specs.PairClaims.{ComponentIs, OneByOne, no_more, one_more, ComparisonsInOrder}
use Rattle.agreement.proofs.UsageReferences.{passed-fits}
use Rattle.agreement.proofs.UsageParts.{part-is}
use Rattle.agreement.proofs.UsageFirst.{Looks, a-par, no-par, looks, par_of}
use Rattle.agreement.proofs.EachRow.{each_row}
use Rattle.agreement.proofs.PairOrder.{in-order-append}
use Rattle.agreement.proofs.PairMembers.{size_of, AtPlace, foremost, behind, component-par, at_place, below-size, place-there}

-- The pairs of one PAR ------------------------------------------------------------------------------------------------------------

module _ (number r : ℕ) where
  -- the pair of members i and j
  abbrev pair_at : ℕ → ℕ → MemberPair
  pair_at i j = record { number = number; row = r; first = i; second = j }

  -- of member i with those from place j on
  abbrev with_rest : ℕ → ℕ → Processes → List MemberPair
  with_rest i j empty = []
  with_rest i j (also p ms) = pair_at i j ∷ with_rest i (suc j) ms

  -- of the members from place i on
  abbrev from_member : ℕ → Processes → List MemberPair
  from_member i empty = []
  from_member i (also p ms) = with_rest i (suc i) ms ++ from_member (suc i) ms

  abbrev WithRest : ℕ → ℕ → ℕ → MemberPair → Type 0
  WithRest i j n x = (x.number ≡ number) × (x.row ≡ r) × (x.first ≡ i) × (j ≤ x.second) × (x.second < j + n)

  abbrev FromMember : ℕ → ℕ → MemberPair → Type 0
  FromMember i n x = (x.number ≡ number) × (x.row ≡ r) × (i ≤ x.first) × (x.first < x.second) × (x.second < i + n)

  rest-to : (i j : ℕ) (ms : Processes) (x : MemberPair) → Memᴰ x (with_rest i j ms) → WithRest i j (size_of ms) x
  rest-to i j empty x h = absurd (Memᴰ.not-nil h)
  rest-to i j (also p ms) x h = ⊎_elim here (λ g. let w = rest-to i (suc j) ms x g in let u = w.3 in let v = w.4 in (w.0, w.1, w.2, omega arith, omega arith)) (Memᴰ.cases_cons h)
    where
      here : x ≡ pair_at i j → WithRest i j (suc (size_of ms)) x
      here e = let s = ap (λ (y : MemberPair). y.second) e in (ap (λ (y : MemberPair). y.number) e, ap (λ (y : MemberPair). y.row) e, ap (λ (y : MemberPair). y.first) e, omega arith, omega arith)

  rest_from : (i j : ℕ) (ms : Processes) (x : MemberPair) → WithRest i j (size_of ms) x → Memᴰ x (with_rest i j ms)
  rest_from i j empty x (a, b, c, d, e) = absurd (omega arith)
  rest_from i j (also p ms) x (a, b, c, d, e) = ⊎_elim here (λ l. Memᴰ.tail (rest_from i (suc j) ms x (a, b, c, l, omega arith))) (eq-or-lt_of_le d)
    where
      here : j ≡ x.second → Memᴰ x (with_rest i j (also p ms))
      here f = Memᴰ.head (λ k. record { number = a k; row = b k; first = c k; second = sym f k })

  rest-order : (i j : ℕ) (ms : Processes) → InOrder (with_rest i j ms)
  rest-order i j empty = tt
  rest-order i j (also p ms) = (λ y h. let w = rest-to i (suc j) ms y h in let l = w.3 in by-second (sym w.0) (sym w.1) (sym w.2) (omega arith), rest-order i (suc j) ms)

  member-to : (i : ℕ) (ms : Processes) (x : MemberPair) → Memᴰ x (from_member i ms) → FromMember i (size_of ms) x
  member-to i empty x h = absurd (Memᴰ.not-nil h)
  member-to i (also p ms) x h =
      ⊎_elim (λ g. let (a, b, c, d, e) = rest-to i (suc i) ms x g in (a, b, omega arith, omega arith, omega arith))
      (λ g. let (a, b, c, d, e) = member-to (suc i) ms x g in (a, b, omega arith, d, omega arith))
      (Memᴰ.append_cases (with_rest i (suc i) ms) h)

  member-from : (i : ℕ) (ms : Processes) (x : MemberPair) → FromMember i (size_of ms) x → Memᴰ x (from_member i ms)
  member-from i empty x (a, b, c, d, e) = absurd (omega arith)
  member-from i (also p ms) x (a, b, c, d, e) =
      ⊎_elim (λ f. Memᴰ.append_left (from_member (suc i) ms) (rest_from i (suc i) ms x (a, b, sym f, omega arith, omega arith)))
      (λ l. Memᴰ.append_right (with_rest i (suc i) ms) (member-from (suc i) ms x (a, b, l, d, omega arith)))
      (eq-or-lt_of_le c)

  member-order : (i : ℕ) (ms : Processes) → InOrder (from_member i ms)
  member-order i empty = tt
  member-order i (also p ms) =
      in-order-append (with_rest i (suc i) ms) (from_member (suc i) ms) (rest-order i (suc i) ms) (member-order (suc i) ms)
      (λ x y g h. let (a, b, c, d, e) = rest-to i (suc i) ms x g in let (a', b', c', d', e') = member-to (suc i) ms y h in by_first (a ∙ sym a') (b ∙ sym b') (omega arith))

-- One by one ----------------------------------------------------------------------------------------------------------------------

module _ (rows : List ℤ) where
  one-by-one-append : {l m : List Comparison} {s t : List MemberPair} → OneByOne rows l s → OneByOne rows m t → OneByOne rows (l ++ m) (s ++ t)
  one-by-one-append no_more h = h
  one-by-one-append (one_more c g) h = one_more c (one-by-one-append g h)

  module _ (number r : ℕ) where
    abbrev pub comparing : Pair → Comparison
    comparing d = record { number = number; row = r; pair = d }

    rest-one : (i j : ℕ) (x : Process) (ms : Processes) → ComponentIs rows r i x → ((k : ℕ) (y : Process) → AtPlace ms k y → ComponentIs rows r (j + k) y) → OneByOne rows (map comparing (pairs_with x ms)) (with_rest number r i j ms)
    rest-one i j x empty h f = no_more
    rest-one i j x (also y ms) h f =
        one_more (record { number_is = refl; row_is = refl; one-is = h; other-is = moved j (j + 0) y (omega arith) (f 0 y foremost) })
        (rest-one i (suc j) x ms h (λ k z g. moved (suc j + k) (j + suc k) z (omega arith) (f (suc k) z (behind g))))
      where
        moved : (m n : ℕ) (z : Process) → n ≡ m → ComponentIs rows r n z → ComponentIs rows r m z
        moved m n z e g = subst (λ (s : ℕ). ComponentIs rows r s z) e g

    member-one-by-one : (i : ℕ) (ms : Processes) → ((k : ℕ) (y : Process) → AtPlace ms k y → ComponentIs rows r (i + k) y) → OneByOne rows (map comparing (pairs ms)) (from_member number r i ms)
    member-one-by-one i empty f = no_more
    member-one-by-one i (also x ms) f =
        subst (λ (l : List Comparison). OneByOne rows l (from_member number r i (also x ms))) (sym (map-append comparing (pairs_with x ms) (pairs ms)))
        (one-by-one-append (rest-one i (suc i) x ms (moved i (i + 0) x (omega arith) (f 0 x foremost)) later) (member-one-by-one (suc i) ms later))
      where
        moved : (m n : ℕ) (z : Process) → n ≡ m → ComponentIs rows r n z → ComponentIs rows r m z
        moved m n z e g = subst (λ (s : ℕ). ComponentIs rows r s z) e g

        later : (k : ℕ) (y : Process) → AtPlace ms k y → ComponentIs rows r (suc i + k) y
        later k y g = moved (suc i + k) (i + suc k) y (omega arith) (f (suc k) y (behind g))

  -- The pairs of the table ----------------------------------------------------------------------------------------------------------

  -- two components of one PAR
  abbrev Two : MemberPair → Type 0
  Two x = (x.first < x.second) × ((p : ℕ) × ComponentAt rows x.row x.first p) × ((q : ℕ) × ComponentAt rows x.row x.second q)

  -- the comparisons `l` are the pairs of which P holds, in order
  abbrev Listed : (MemberPair → Type 0) → List Comparison → Type 0
  Listed P l = (s : List MemberPair) × InOrder s × ((x : MemberPair) → Memᴰ x s ↔ P x) × OneByOne rows l s

  listed-append : {P Q R : MemberPair → Type 0} {l m : List Comparison} → Listed P l → Listed Q m → ((x y : MemberPair) → P x → Q y → Earlier x y) → ((x : MemberPair) → (P x ⊎ Q x) ↔ R x) → Listed R (l ++ m)
  listed-append {P} {Q} {R} (s, a, b, c) (t, d, e, f) order both = (
    s ++ t,
    in-order-append s t a d (λ x y g h. order x y ((b x).0 g) ((e y).0 h)),
    (λ x. (
      (λ g. (both x).0 (⊎_elim (λ h. inl ((b x).0 h)) (λ h. inr ((e x).0 h)) (Memᴰ.append_cases s g))),
      (λ g. ⊎_elim (λ h. Memᴰ.append_left t ((b x).1 h)) (λ h. Memᴰ.append_right s ((e x).1 h)) ((both x).1 g)),
    )),
    one-by-one-append c f,
  )

  module _ (passed : Passed rows) (number : ℕ) where
    -- of the PAR at row r
    abbrev InRow : ℕ → MemberPair → Type 0
    InRow r x = (x.number ≡ number) × (x.row ≡ r) × Two x

    module _ (r a : ℕ) (l : r < row_count rows) (e : node_at rows r ≡ Par a) where
      abbrev ms : Processes
      ms = (content_at rows a).listed

      in-par : (x : MemberPair) → FromMember number r 0 (size_of ms) x ↔ InRow r x
      in-par x = (
        (λ (n, b, c, d, f). (n, b, (d, there b x.first (omega arith), there b x.second (omega arith)))),
        (λ (n, b, (d, p, q)). (n, b, omega arith, d, let s = below b x.second q in omega arith)),
      )
        where
          there : x.row ≡ r → (i : ℕ) → i < size_of ms → (p : ℕ) × ComponentAt rows x.row i p
          there b i u =
              let (y, h) = place-there ms i u in
              let (p, c, d) = at_place rows passed r a l e h in
              (p, subst (λ (z : ℕ). ComponentAt rows z i p) (sym b) c)

          below : x.row ≡ r → (i : ℕ) → ((p : ℕ) × ComponentAt rows x.row i p) → i < size_of ms
          below b i (p, c) = below-size rows passed r a l e (subst (λ (z : ℕ). ComponentAt rows z i p) b c)

      par-listed : Listed (InRow r) (map (comparing number r) (pairs ms))
      par-listed = (
        from_member number r 0 ms,
        member-order number r 0 ms,
        (λ x. ((λ h. (in-par x).0 (member-to number r 0 ms x h)), (λ h. member-from number r 0 ms x ((in-par x).1 h)))),
        member-one-by-one number r 0 ms (λ k y g. let (p, c, d) = at_place rows passed r a l e g in (p, subst (λ (s : ℕ). ComponentAt rows r s p) (omega arith) c, d)),
      )

    row_listed : (r : ℕ) → r < row_count rows → Listed (InRow r) (comparisons_in number (content_at rows r).process)
    unfolding par_of
    row_listed r l = subst (λ (x : Content). Listed (InRow r) (comparisons_in number x.process)) (sym (part-is rows r l (passed-fits rows passed r l))) (go (node_at rows r) refl (looks rows number r (node_at rows r)))
      where
        go : (x : Node) → node_at rows r ≡ x → Looks rows number r x → Listed (InRow r) (comparisons_in number (content_of rows r (content_at rows) x).process)
        go x e (a-par a f) = subst (λ (y : Node). Listed (InRow r) (comparisons_in number (content_of rows r (content_at rows) y).process)) (sym f) (par-listed r a l (e ∙ f))
        go x e (no-par f g) = subst (Listed (InRow r)) (sym g) ([], tt, (λ y. ((λ h. absurd (Memᴰ.not-nil h)), (λ h. absurd (none-there y h)))), no_more)
          where
            none-there : (y : MemberPair) → InRow r y → ⊥
            none-there y (n, b, (d, (p, c), q)) =
                let (a, u, v) = component-par rows (subst (λ (z : ℕ). ComponentAt rows z y.first p) b c) in
                none-ne-some a (sym f ∙ ap par_of (sym e ∙ u))

    -- of the rows from j on
    abbrev FromRow : ℕ → MemberPair → Type 0
    FromRow j x = (x.number ≡ number) × (j ≤ x.row) × Two x

    none-behind : Listed (FromRow (row_count rows)) []
    none-behind = ([], tt, (λ y. ((λ h. absurd (Memᴰ.not-nil h)), (λ h. absurd (none-there y h)))), no_more)
      where
        none-there : (y : MemberPair) → FromRow (row_count rows) y → ⊥
        none-there y (n, b, (d, (p, c), q)) = let (a, u, v) = component-par rows c in omega arith

    with_row : (j : ℕ) (l : List Content) → j < row_count rows → Listed (FromRow (suc j)) (comparisons_of number l) → Listed (FromRow j) (comparisons_of number (content_at rows j ∷ l))
    with_row j l i h =
        listed-append (row_listed j i) h
        (λ y z g h. let (a, b, _) = g in let (c, d, _) = h in by_row (a ∙ sym c) (omega arith))
        (λ y. (
          (λ g. ⊎_elim (λ h. let (a, b, t) = h in (a, omega arith, t)) (λ h. let (a, b, t) = h in (a, omega arith, t)) g),
          (λ g. let (a, b, t) = g in ⊎_elim (λ i. inl (a, sym i, t)) (λ i. inr (a, i, t)) (eq-or-lt_of_le b)),
        ))

    -- of one number
    abbrev OfNumber : MemberPair → Type 0
    OfNumber x = (x.number ≡ number) × Two x

    number-listed : Listed OfNumber (comparisons_of number (contents rows))
    number-listed =
        let (s, a, b, c) = each_row rows (λ j l. Listed (FromRow j) (comparisons_of number l)) none-behind with_row in
        (s, a, (λ x. ((λ h. let (n, u, t) = (b x).0 h in (n, t)), (λ h. (b x).1 (h.0, omega arith, h.1)))), c)

  module _ (passed : Passed rows) where
    abbrev OfLast : MemberPair → Type 0
    OfLast x = (8 ≤ x.number) × (x.number ≤ 9) × Two x

    last-listed : Listed OfLast (comparisons_of 8 (contents rows) ++ comparisons_of 9 (contents rows))
    last-listed =
        listed-append (number-listed passed 8) (number-listed passed 9)
        (λ x y g h. let (a, _) = g in let (b, _) = h in by_number (omega arith))
        (λ x. (
          (λ g. ⊎_elim (λ h. let (a, t) = h in (omega arith, omega arith, t)) (λ h. let (a, t) = h in (omega arith, omega arith, t)) g),
          (λ g. let (a, b, t) = g in ⊎_elim (λ i. inl (sym i, t)) (λ i. inr (omega arith, t)) (eq-or-lt_of_le a)),
        ))

    pub all_listed : Listed (IsPair rows) (comparisons rows)
    unfolding comparisons
    all_listed =
        listed-append (number-listed passed 7) last-listed
        (λ x y g h. let (a, _) = g in let (b, _, _) = h in by_number (omega arith))
        (λ x. (
          (λ g. ⊎_elim (λ h. let (a, t) = h in pair_of x (omega arith) (omega arith) t) (λ h. let (a, b, t) = h in pair_of x (omega arith) b t) g),
          (λ h. let a = h.sort.0 in let b = h.sort.1 in ⊎_elim (λ i. inl (sym i, (h.apart, h.one, h.other))) (λ i. inr (omega arith, b, (h.apart, h.one, h.other))) (eq-or-lt_of_le a)),
        ))
      where
        pair_of : (x : MemberPair) → 7 ≤ x.number → x.number ≤ 9 → Two x → IsPair rows x
        pair_of x a b t = record { sort = (a, b); apart = t.0; one = t.1; other = t.2 }

pub comparisons-in-order : ComparisonsInOrder
comparisons-in-order rows passed = all_listed rows passed
