-- Each row orders at most one ready step; so there are no more ready steps than rows.
use mathlib.Core.Path.{◌≡◌, refl, sym, ap, subst, ◌∙◌}
use mathlib.Core.Logic.{◌≢◌, ◌⊎◌, inl, inr}
use mathlib.Core.Bool.{Bool, true, false}
use mathlib.Core.List.Memᴰ
use mathlib.Core.List.{List, [], ◌∷◌, ◌++◌, map, Memᴰ}
use Prim.Native.Nat.{ℕ, zero, suc, ◌≤◌}
use native.Mathlib.Omega.{arith}
use lib.ListN.{length, length-append}
use lib.Dec.{eqb, T, eqb→eq}
use Rattle.meaning.specs.Basics.{if_else}
use Rattle.meaning.specs.Tree.{rows_in}
use Rattle.meaning.specs.Values.{Message}
use Rattle.meaning.specs.State.{State, Program, whole}
use Rattle.meaning.specs.Labels.{Label, own, pass, take_with_output, order_row}
use Rattle.meaning.specs.Readings.{Sheet}
use Rattle.meaning.specs.Intent.{Offer, open_offer, input_offer, Intent, waits, moves, inputs_from, outputs_to, selects}
use Rattle.meaning.specs.Ready.{running_from, RunningRow, output_at, outputs_at, offered, steps_of, steps_all, steps_at, by_row, intent_at, running_rows, ready}
use Rattle.agreement.proofs.Commute.{Legal, at_in}
use Rattle.agreement.proofs.Options.{RisingO}
use Rattle.agreement.proofs.Fit.{Fit}
use Rattle.agreement.proofs.OptionRows.{option_rows, OptionRows}
use Rattle.agreement.proofs.Proper.{ProperOffers}
use Rattle.agreement.proofs.Working.{acts, Inv, Works, works, works_at, works-proper}
use Rattle.agreement.proofs.Separate.{one-sender}

-- ---- lists of steps

abbrev pub All : (Label → Type 0) → List Label → Type 0
All Q [] = Unit {0}
All Q (x ∷ l) = Q x × All Q l

-- no two steps have one row
abbrev pub RowsOnce : List Label → Type 0
RowsOnce [] = Unit {0}
RowsOnce (x ∷ l) = All (λ y. order_row x ≢ order_row y) l × RowsOnce l

all_append : (Q : Label → Type 0) (l m : List Label) → All Q l → All Q m → All Q (l ++ m)
all_append Q [] m h g = g
all_append Q (x ∷ l) m h g = (h.0, all_append Q l m h.1 g)

all-weaken : (Q R : Label → Type 0) → ((x : Label) → Q x → R x) → (l : List Label) → All Q l → All R l
all-weaken Q R f [] h = tt
all-weaken Q R f (x ∷ l) h = (f x h.0, all-weaken Q R f l h.1)

all_map : (Q : Label → Type 0) (f : ℕ → Label) → ((o : ℕ) → Q (f o)) → (l : List ℕ) → All Q (map f l)
all_map Q f h [] = tt
all_map Q f h (o ∷ l) = (h o, all_map Q f h l)

once-append : (Q R : Label → Type 0) → ((x y : Label) → Q x → R y → order_row x ≢ order_row y) → (l m : List Label) → All Q l → All R m → RowsOnce l → RowsOnce m → RowsOnce (l ++ m)
once-append Q R f [] m h g a b = b
once-append Q R f (x ∷ l) m h g a b =
    (all_append (λ y. order_row x ≢ order_row y) l m a.0 (all-weaken R (λ y. order_row x ≢ order_row y) (λ y r. f x y h.0 r) m g), once-append Q R f l m h.1 g a.1 b)

once-map : (f : ℕ → Label) (l : List ℕ) → length l ≤ 1 → RowsOnce (map f l)
once-map f [] h = tt
once-map f (o ∷ []) h = (tt, tt)
once-map f (o ∷ p ∷ l) h = absurd (omega arith)

-- ---- the steps ordered by one row

eqb_is : (m n : ℕ) → eqb m n ≡ true → m ≡ n
eqb_is m n e = eqb→eq m n (subst (λ (t : Bool). T t) (sym e) tt)

at_none : (j : ℕ) (l : List Label) → All (λ y. j ≢ order_row y) l → steps_at j l ≡ []
at_none j [] h = refl
at_none j (x ∷ l) h = go (eqb (order_row x) j) refl (at_none j l h.1)
  where
    go : (t : Bool) → eqb (order_row x) j ≡ t → steps_at j l ≡ [] → if_else t (x ∷ steps_at j l) (steps_at j l) ≡ []
    go true e k = absurd (h.0 (sym (eqb_is (order_row x) j e)))
    go false e k = k

pub at_most_one : (j : ℕ) (l : List Label) → RowsOnce l → length (steps_at j l) ≤ 1
at_most_one j [] h = omega arith
at_most_one j (x ∷ l) h = go (eqb (order_row x) j) refl (at_most_one j l h.1)
  where
    go : (t : Bool) → eqb (order_row x) j ≡ t → length (steps_at j l) ≤ 1 → length (if_else t (x ∷ steps_at j l) (steps_at j l)) ≤ 1
    go true e k = rw (at_none j l (all-weaken (λ y. order_row x ≢ order_row y) (λ y. j ≢ order_row y) (λ y ne z. ne (eqb_is (order_row x) j e ∙ z)) l h.0)) (omega arith)
    go false e k = k

by-row-few : (k j : ℕ) (l : List Label) → RowsOnce l → length (by_row k j l) ≤ k
by-row-few zero j l h = omega arith
by-row-few (suc k) j l h =
    let a = at_most_one j l h in
    let b = by-row-few k (suc j) l h in
    let c = length-append (steps_at j l) (by_row k (suc j) l) in
    omega arith

-- ---- running rows

-- from lo on, each higher than the one before it
abbrev Increasing : ℕ → List ℕ → Type 0
Increasing lo [] = Unit {0}
Increasing lo (r ∷ l) = (lo ≤ r) × Increasing (suc r) l

lower : (lo hi : ℕ) (l : List ℕ) → lo ≤ hi → Increasing hi l → Increasing lo l
lower lo hi [] h g = tt
lower lo hi (r ∷ l) h g = (omega (arith, g.0), g.1)

running-increases : (j : ℕ) (s : List ℕ) → Increasing j (running_from j s)
running-increases j [] = tt
running-increases j (x ∷ s) = go (eqb x 1) (running-increases (suc j) s)
  where
    go : (t : Bool) → Increasing (suc j) (running_from (suc j) s) → Increasing j (if_else t (j ∷ running_from (suc j) s) (running_from (suc j) s))
    go true h = (omega arith, h)
    go false h = lower j (suc j) (running_from (suc j) s) (omega arith) h

output-cases : (e r : ℕ) (w : Intent) → (output_at e r w ≡ []) ⊎ ((v : Message) × (w ≡ outputs_to e v) × (output_at e r w ≡ r ∷ []))
output-cases e r waits = inl refl
output-cases e r (moves x v ws) = inl refl
output-cases e r (inputs_from f a) = inl refl
output-cases e r (selects l) = inl refl
output-cases e r (outputs_to f v) = go (eqb e f) refl
  where
    go : (t : Bool) → eqb e f ≡ t → (if_else t (r ∷ []) [] ≡ []) ⊎ ((z : Message) × (outputs_to f v ≡ outputs_to e z) × (if_else t (r ∷ []) [] ≡ r ∷ []))
    go true h = inr (v, ap (λ (k : ℕ). outputs_to k v) (sym (eqb_is e f h)), refl)
    go false h = inl refl

module _ (P : Program) (n : ℕ) (F : Fit P n) (sheet : Sheet) (s : State) (i : Inv P n F sheet s) where
  abbrev W : ℕ → Intent
  W = intent_at P sheet s

  abbrev bid : ℕ → RunningRow
  bid r = record { row = r; intent = intent_at P sheet s r }

  none_other : (e r : ℕ) (v : Message) → W r ≡ outputs_to e v → (lo : ℕ) → suc r ≤ lo → (l : List ℕ) → Increasing lo l → outputs_at e (map bid l) ≡ []
  none_other e r v h lo q [] g = refl
  none_other e r v h lo q (o ∷ l) g = go (output-cases e o (W o)) (none_other e r v h (suc o) (omega (arith, g.0)) l g.1)
    where
      go : (output_at e o (W o) ≡ []) ⊎ ((z : Message) × (W o ≡ outputs_to e z) × (output_at e o (W o) ≡ o ∷ [])) → outputs_at e (map bid l) ≡ [] → output_at e o (W o) ++ outputs_at e (map bid l) ≡ []
      go (inl z) k = rw (z, k)
      go (inr (m, z, y)) k = let f = one-sender P n F sheet s i r o e e v m h z refl in absurd (omega (arith, g.0))

  -- an element has at most one output
  few-outputs : (e lo : ℕ) (l : List ℕ) → Increasing lo l → length (outputs_at e (map bid l)) ≤ 1
  few-outputs e lo [] g = omega arith
  few-outputs e lo (r ∷ l) g = go (output-cases e r (W r)) (few-outputs e (suc r) l g.1)
    where
      go : (output_at e r (W r) ≡ []) ⊎ ((z : Message) × (W r ≡ outputs_to e z) × (output_at e r (W r) ≡ r ∷ [])) → length (outputs_at e (map bid l)) ≤ 1 → length (output_at e r (W r) ++ outputs_at e (map bid l)) ≤ 1
      go (inl z) k = rw z k
      go (inr (m, z, y)) k = rw (y, none_other e r m z (suc r) (omega arith) l g.1) (omega arith)

  -- what a step of row r is ordered by: that row, or the row of one of its options
  abbrev Keyed : ℕ → Label → Type 0
  Keyed r x = ((acts (W r) ≡ 1) × (order_row x ≡ r)) ⊎ ((A : Works P n F sheet s r) × Memᴰ (order_row x) (option_rows A.action))

  abbrev KeyedFrom : ℕ → Label → Type 0
  KeyedFrom lo x = (r : ℕ) × (lo ≤ r) × Keyed r x

  module _ (O : OptionRows P) where
    inside : (r : ℕ) → acts (W r) ≡ 1 → Memᴰ r (rows_in (whole P))
    inside r z = at_in (works_at P n F sheet s r r 2 i (works P n F sheet s r i z) (Legal.own 0 refl refl))

    keys-differ : (r q : ℕ) (x y : Label) → r ≢ q → Keyed r x → Keyed q y → order_row x ≢ order_row y
    keys-differ r q x y ne (inl (a, e)) (inl (b, f)) z = ne (sym e ∙ z ∙ f)
    keys-differ r q x y ne (inl (a, e)) (inr (B, m)) z = O.no-process B.action q B.listed B.sub (order_row y) m (Memᴰ.cast (sym z ∙ e) (inside r a))
    keys-differ r q x y ne (inr (A, m)) (inl (b, f)) z = O.no-process A.action r A.listed A.sub (order_row x) m (Memᴰ.cast (z ∙ f) (inside q b))
    keys-differ r q x y ne (inr (A, m)) (inr (B, l)) z = ne (O.one-alt A.action r A.listed B.action q B.listed A.sub B.sub (order_row x) m (Memᴰ.cast z l))

    module _ (rise : (r : ℕ) (os : List Offer) → W r ≡ selects os → RisingO n 0 os) where
      abbrev R : List ℕ
      R = running_from 0 s.states

      abbrev B : List RunningRow
      B = map bid R

      few : (e : ℕ) → length (outputs_at e B) ≤ 1
      few e = few-outputs e 0 R (running-increases 0 s.states)

      once-offered : (r lo : ℕ) (os : List Offer) → RisingO n lo os → RowsOnce (offered r B os) × All (λ y. lo ≤ order_row y) (offered r B os)
      once-offered r lo [] h = (tt, tt)
      once-offered r lo (open_offer j q ws ∷ os) h =
          let (a, b) = once-offered r (suc j) os h.2 in
          let l = offered r B os in (
            (all-weaken (λ y. suc j ≤ order_row y) (λ y. j ≢ order_row y) (λ y g z. omega arith) l b, a),
            (h.0, all-weaken (λ y. suc j ≤ order_row y) (λ y. lo ≤ order_row y) (λ y g. omega (arith, h.0)) l b),
          )
      once-offered r lo (input_offer j q e a ∷ os) h =
          let (c, b) = once-offered r (suc j) os h.2 in
          let l = offered r B os in
          let m = map (take_with_output r j) (outputs_at e B) in (
            once-append (λ x. order_row x ≡ j) (λ y. suc j ≤ order_row y) (λ x y f g z. omega arith) m l (all_map (λ x. order_row x ≡ j) (take_with_output r j) (λ o. refl) (outputs_at e B)) b (once-map (take_with_output r j) (outputs_at e B) (few e)) c,
            all_append (λ y. lo ≤ order_row y) m l (all_map (λ x. lo ≤ order_row x) (take_with_output r j) (λ o. h.0) (outputs_at e B)) (all-weaken (λ y. suc j ≤ order_row y) (λ y. lo ≤ order_row y) (λ y g. omega (arith, h.0)) l b),
          )

      keyed-offered : (r : ℕ) (A : Works P n F sheet s r) (os : List Offer) → ProperOffers F.source F.sink A.action A.listed os → All (Keyed r) (offered r B os)
      keyed-offered r A [] h = tt
      keyed-offered r A (open_offer j q ws ∷ os) h = (inr (A, h.0.0), keyed-offered r A os h.1)
      keyed-offered r A (input_offer j q e a ∷ os) h =
          all_append (Keyed r) (map (take_with_output r j) (outputs_at e B)) (offered r B os) (all_map (Keyed r) (take_with_output r j) (λ o. inr (A, h.0.0)) (outputs_at e B)) (keyed-offered r A os h.1)

      of_row : (r : ℕ) (w : Intent) → W r ≡ w → RowsOnce (steps_of B r w) × All (Keyed r) (steps_of B r w)
      of_row r waits h = (tt, tt)
      of_row r (moves x v ws) h = ((tt, tt), (inl (ap acts h, refl), tt))
      of_row r (inputs_from e a) h = (once-map (pass r) (outputs_at e B) (few e), all_map (Keyed r) (pass r) (λ o. inl (ap acts h, refl)) (outputs_at e B))
      of_row r (outputs_to e v) h = (tt, tt)
      of_row r (selects os) h =
          let A = works P n F sheet s r i (ap acts h) in
          ((once-offered r 0 os (rise r os h)).0, keyed-offered r A os (works-proper P n F sheet s r A h))

      of-rows : (lo : ℕ) (l : List ℕ) → Increasing lo l → RowsOnce (steps_all B (map bid l)) × All (KeyedFrom lo) (steps_all B (map bid l))
      of-rows lo [] g = (tt, tt)
      of-rows lo (r ∷ l) g =
          let (a, b) = of_row r (W r) refl in
          let (c, d) = of-rows (suc r) l g.1 in
          let x = steps_of B r (W r) in
          let y = steps_all B (map bid l) in (
            once-append (Keyed r) (KeyedFrom (suc r)) (λ u v h k. keys-differ r k.0 u v (λ z. omega (arith, k.1)) h k.2) x y b d a c,
            all_append (KeyedFrom lo) x y (all-weaken (Keyed r) (KeyedFrom lo) (λ u k. (r, g.0, k)) x b) (all-weaken (KeyedFrom (suc r)) (KeyedFrom lo) (λ u k. (k.0, omega (arith, g.0, k.1), k.2)) y d),
          )

      -- no two ready steps have one row
      pub ready-once : RowsOnce (steps_all (running_rows P sheet s) (running_rows P sheet s))
      unfolding running_rows
      ready-once = (of-rows 0 R (running-increases 0 s.states)).0

      -- there are at most as many ready steps as rows
      pub few-ready : length (ready P sheet s) ≤ n
      unfolding ready running_rows
      few-ready =
          let h = by-row-few (length s.states) 0 (steps_all B B) (of-rows 0 R (running-increases 0 s.states)).0 in
          let e = i.size in
          rw (← e) h
