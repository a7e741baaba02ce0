-- Rows of two members of a PAR stand in two of its components, so where no components clash they touch nothing in common.
use mathlib.Core.Path.{◌≡◌, refl, sym, ap, subst}
use mathlib.Core.Logic.{◌⊎◌, inl, inr}
use mathlib.Core.List.Memᴰ
use mathlib.Core.List.{List, Memᴰ}
use Prim.Native.Nat.{ℕ}
use Rattle.meaning.specs.Tree.{Action, stop, skip, sequence, parallel, assign, input, output, conditional, loop, alternation, block, Process, node, Processes, empty, also, rows_in, rows_beneath}
use Rattle.meaning.specs.Settle.{Mode, in_turn, together, by_step, mode}
use Rattle.meaning.specs.Usage.{gather, gather_all, changes, uses, input_elements, output_elements, Pair, pairs_with, pairs}
use Rattle.agreement.proofs.Reach.{Sub, SubM, self, inside, front, back, Apart, ApartM, within, in-first, in-later, ab, ba}
use Rattle.agreement.proofs.Fit.{Apt}
use Rattle.agreement.proofs.TableUsage.{Clear}

-- Processes inside processes ------------------------------------------------------------------------------------------------------

-- a process inside is at each of the rows
mutual
  pub row_sub : (p : Process) (a : ℕ) → Memᴰ a (rows_in p) → (k : Action) × (ms : Processes) × Sub k a ms p
  row_sub (node k r ps) a (Memᴰ.head e) = (k, ps, rw e self)
  row_sub (node k r ps) a (Memᴰ.tail m) = let (j, ms, h) = row-sub_m ps a m in (j, ms, inside h)

  row-sub_m : (ps : Processes) (a : ℕ) → Memᴰ a (rows_beneath ps) → (k : Action) × (ms : Processes) × SubM k a ms ps
  row-sub_m empty a m = absurd (Memᴰ.not-nil m)
  row-sub_m (also p ps) a m = either (λ h. row_sub p a h) (λ h. row-sub_m ps a h) (Memᴰ.append_cases (rows_in p) m)
    where
      either : (Memᴰ a (rows_in p) → (k : Action) × (ms : Processes) × Sub k a ms p) → (Memᴰ a (rows_beneath ps) → (k : Action) × (ms : Processes) × SubM k a ms ps)
          → (Memᴰ a (rows_in p)) ⊎ (Memᴰ a (rows_beneath ps)) → (k : Action) × (ms : Processes) × SubM k a ms (also p ps)
      either f g (inl h) = let (j, ms, i) = f h in (j, ms, front i)
      either f g (inr h) = let (j, ms, i) = g h in (j, ms, back i)

-- what is inside members of a process inside is inside
module _ {k : Action} {a : ℕ} {ms : Processes} {j : Action} {r : ℕ} {ps : Processes} (i : SubM k a ms ps) where
  mutual
    pub sub-inside : (p : Process) → Sub j r ps p → Sub k a ms p
    sub-inside (node j r ps) self = inside i
    sub-inside (node j' r' qs) (inside h) = inside (sub-inside_m qs h)

    sub-inside_m : (qs : Processes) → SubM j r ps qs → SubM k a ms qs
    sub-inside_m empty x'' = elim x'' [ ]
    sub-inside_m (also p qs) (front h) = front (sub-inside p h)
    sub-inside_m (also p qs) (back h) = back (sub-inside_m qs h)

-- what a process inside counts for, the process does
module _ {k : Action} {a : ℕ} {ms : Processes} (f : Action → List ℕ) (x : ℕ) (i : Memᴰ x (f k)) where
  mutual
    unfolding gather

    sub-gather : (p : Process) → Sub k a ms p → Memᴰ x (gather p f)
    sub-gather (node k a ms) self = Memᴰ.append_left (gather_all ms f) i
    sub-gather (node j r ps) (inside h) = Memᴰ.append_right (f j) (sub-gather_m ps h)

    sub-gather_m : (ps : Processes) → SubM k a ms ps → Memᴰ x (gather_all ps f)
    sub-gather_m empty x3 = elim x3 [ ]
    sub-gather_m (also p ps) (front h) = Memᴰ.append_left (gather_all ps f) (sub-gather p h)
    sub-gather_m (also p ps) (back h) = Memᴰ.append_right (gather p f) (sub-gather_m ps h)

-- Components ----------------------------------------------------------------------------------------------------------------------

-- the components of a pair are members
module _ {k : Action} {a : ℕ} {ms : Processes} where
  pair-with : (p : Process) (ps : Processes) (c : Pair) → Memᴰ c (pairs_with p ps) → (c.one ≡ p) × (Sub k a ms c.other → SubM k a ms ps)
  pair-with p empty c m = absurd (Memᴰ.not-nil m)
  pair-with p (also q ps) c (Memᴰ.head e) = (ap (λ (d : Pair). d.one) e, λ h. front (subst (Sub k a ms) (ap (λ (d : Pair). d.other) e) h))
  pair-with p (also q ps) c (Memᴰ.tail m) = let (e, f) = pair-with p ps c m in (e, λ h. back (f h))

  pair-in : (ps : Processes) (c : Pair) → Memᴰ c (pairs ps) → (Sub k a ms c.one → SubM k a ms ps) × (Sub k a ms c.other → SubM k a ms ps)
  pair-in empty c m = absurd (Memᴰ.not-nil m)
  pair-in (also p ps) c m = go (Memᴰ.append_cases (pairs_with p ps) m) (pair-in ps c)
    where
      go : (Memᴰ c (pairs_with p ps)) ⊎ (Memᴰ c (pairs ps)) → (Memᴰ c (pairs ps) → (Sub k a ms c.one → SubM k a ms ps) × (Sub k a ms c.other → SubM k a ms ps))
          → (Sub k a ms c.one → SubM k a ms (also p ps)) × (Sub k a ms c.other → SubM k a ms (also p ps))
      go (inl h) f = let (e, g) = pair-with p ps c h in (λ s. front (subst (Sub k a ms) e s), λ s. back (g s))
      go (inr h) f = let (g, g') = f h in (λ s. back (g s), λ s. back (g' s))

-- one row stands in the one component, the other in the other
abbrev Parted : ℕ → ℕ → Pair → Type 0
Parted a b c = (Memᴰ a (rows_in c.one) × Memᴰ b (rows_in c.other)) ⊎ (Memᴰ b (rows_in c.one) × Memᴰ a (rows_in c.other))

-- a row of later members is in a pair with an earlier process
pairs-with : (p : Process) (ps : Processes) (b : ℕ) → Memᴰ b (rows_beneath ps) → (c : Pair) × Memᴰ c (pairs_with p ps) × (c.one ≡ p) × Memᴰ b (rows_in c.other)
pairs-with p empty b m = absurd (Memᴰ.not-nil m)
pairs-with p (also q ps) b m = go (Memᴰ.append_cases (rows_in q) m) (pairs-with p ps b)
  where
    go : (Memᴰ b (rows_in q)) ⊎ (Memᴰ b (rows_beneath ps)) → (Memᴰ b (rows_beneath ps) → (c : Pair) × Memᴰ c (pairs_with p ps) × (c.one ≡ p) × Memᴰ b (rows_in c.other))
        → (c : Pair) × Memᴰ c (pairs_with p (also q ps)) × (c.one ≡ p) × Memᴰ b (rows_in c.other)
    go (inl h) f = (record { one = p; other = q }, Memᴰ.head refl, refl, h)
    go (inr h) f = let (c, m, e, g) = f h in (c, Memᴰ.tail m, e, g)

abbrev IsTogether : Mode → Type 0
IsTogether in_turn = ⊥
IsTogether together = Unit {0}
IsTogether by_step = ⊥

is-parallel : (k : Action) → IsTogether (mode k) → k ≡ parallel
is-parallel stop h = absurd h
is-parallel skip h = absurd h
is-parallel sequence h = absurd h
is-parallel parallel h = refl
is-parallel (assign v e f) h = absurd h
is-parallel (input i) h = absurd h
is-parallel (output c e f) h = absurd h
is-parallel (conditional ts) h = absurd h
is-parallel (loop e b) h = absurd h
is-parallel (alternation bs) h = absurd h
is-parallel (block v) h = absurd h

-- a PAR with a pair of components that part two rows
module _ (a b : ℕ) where
  abbrev Found : Process → Type 0
  Found p = (r : ℕ) × (ms : Processes) × Sub parallel r ms p × ((c : Pair) × Memᴰ c (pairs ms) × Parted a b c)

  abbrev FoundM : Processes → Type 0
  FoundM ps = (r : ℕ) × (ms : Processes) × SubM parallel r ms ps × ((c : Pair) × Memᴰ c (pairs ms) × Parted a b c)

  abbrev Here : Mode → Processes → Type 0
  Here m ps = (m ≡ together) × ((c : Pair) × Memᴰ c (pairs ps) × Parted a b c)

  at-node : (k : Action) (r : ℕ) (ps : Processes) → FoundM ps ⊎ Here (mode k) ps → Found (node k r ps)
  at-node k r ps (inl h) = let (q, ms, s, w) = h in (q, ms, inside s, w)
  at-node k r ps (inr h) = let e = is-parallel k (subst IsTogether (sym h.0) tt) in (r, ps, rw e self, h.1)

  at_first : (p : Process) (m : Mode) (ps : Processes) → Found p → FoundM (also p ps) ⊎ Here m (also p ps)
  at_first p m ps h = let (q, ms, s, w) = h in inl (q, ms, front s, w)

  at-later : (p : Process) (m : Mode) (ps : Processes) → FoundM ps ⊎ Here m ps → FoundM (also p ps) ⊎ Here m (also p ps)
  at-later p m ps (inl h) = let (q, ms, s, w) = h in inl (q, ms, back s, w)
  at-later p m ps (inr h) = let (e, (c, n, w)) = h in inr (e, (c, Memᴰ.append_right (pairs_with p ps) n, w))

  mutual
    find : (p : Process) → Apart a b p → Found p
    find (node k r ps) (within h) = at-node k r ps (find_m ps (mode k) h)

    find_m : (ps : Processes) (m : Mode) → ApartM a b m ps → FoundM ps ⊎ Here m ps
    find_m empty m x'' = elim x'' [ ]
    find_m (also p ps) m (in-first h) = at_first p m ps (find p h)
    find_m (also p ps) m (in-later h) = at-later p m ps (find_m ps m h)
    find_m (also p ps) m (ab e x y) = let (c, n, f, z) = pairs-with p ps b y in inr (e, (c, Memᴰ.append_left (pairs ps) n, inl (rw f x, z)))
    find_m (also p ps) m (ba e x y) = let (c, n, f, z) = pairs-with p ps a y in inr (e, (c, Memᴰ.append_left (pairs ps) n, inr (rw f x, z)))

-- of two actions that may stand in two members, each may be the first
apt-swap : {k j : Action} → Apt k j → Apt j k
apt-swap h = record { there = h.back; back = h.there; in-in = λ x m n. h.in-in x n m; out-out = λ x m n. h.out-out x n m }

-- the action at each row of a process, which has no components that clash
module _ (w : Process) (action : ℕ → Action) (placed : (k : Action) (r : ℕ) (ms : Processes) → Sub k r ms w → action r ≡ k)
    (clear : (r : ℕ) (ms : Processes) → Sub parallel r ms w → (c : Pair) → Memᴰ c (pairs ms) → Clear c.one c.other) where
  abbrev Within : Process → Type 0
  Within p = (k : Action) (r : ℕ) (ms : Processes) → Sub k r ms p → Sub k r ms w

  counted : (p : Process) → Within p → (a : ℕ) → Memᴰ a (rows_in p) → (f : Action → List ℕ) (x : ℕ) → Memᴰ x (f (action a)) → Memᴰ x (gather p f)
  counted p h a m f x i = let (k, ms, s) = row_sub p a m in sub-gather f x (subst (λ (j : Action). Memᴰ x (f j)) (placed k a ms (h k a ms s)) i) p s

  apt : (p q : Process) → Within p → Within q → Clear p q → (a b : ℕ) → Memᴰ a (rows_in p) → Memᴰ b (rows_in q) → Apt (action a) (action b)
  apt p q h i c a b m n =
      record {
        there = λ x s t. c.there x (counted p h a m changes x s) (counted q i b n uses x t);
        back = λ x s t. c.back x (counted q i b n changes x s) (counted p h a m uses x t);
        in-in = λ x s t. c.in-in x (counted p h a m input_elements x s) (counted q i b n input_elements x t);
        out-out = λ x s t. c.out-out x (counted p h a m output_elements x s) (counted q i b n output_elements x t);
      }

  pub apart-apt : (a b : ℕ) → Apart a b w → Apt (action a) (action b)
  apart-apt a b h =
      let (r, ms, s, (c, m, z)) = find a b w h in
      go c (λ k q l i. sub-inside ((pair-in ms c m).0 i) w s) (λ k q l i. sub-inside ((pair-in ms c m).1 i) w s) (clear r ms s c m) z
    where
      go : (c : Pair) → Within c.one → Within c.other → Clear c.one c.other → Parted a b c → Apt (action a) (action b)
      go c f g e (inl (x, y)) = apt c.one c.other f g e a b x y
      go c f g e (inr (x, y)) = apt-swap (apt c.one c.other f g e b a x y)
