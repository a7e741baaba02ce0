-- The list of ready steps holds exactly the steps that the machine can take.
use mathlib.Core.Path.{◌≡◌, refl, sym, ap, ◌∙◌}
use mathlib.Core.Logic.{◌≢◌, ⊎_elim}
use mathlib.Core.Bool.{Bool, true, false, ◌&&◌, true≢false}
use mathlib.Core.Option.{Option, some, none-ne-some}
use mathlib.Core.List.{List, [], ◌∷◌, map, Memᴰ}
use Prim.Native.Nat.{ℕ, zero, suc, ◌+◌, ◌<◌, ◌≤◌}
use native.Mathlib.Nat.{eq-or-lt_of_le}
use native.Mathlib.Omega.{arith}
use lib.ListN.{length, get_or}
use lib.Dec.{eqb, T, eqb→eq, eqb_refl}
use Rattle.meaning.specs.Basics.{if_else}
use Rattle.meaning.specs.Tree.{action_of, processes_in, rows_beneath}
use Rattle.meaning.specs.Values.{Message}
use Rattle.meaning.specs.State.{State, Program, process_at, Write, write_cell, StateChange, Effect}
use Rattle.meaning.specs.Labels.{Label, own, pass, take_option, take_with_output, order_row}
use Rattle.meaning.specs.Readings.{Sheet}
use Rattle.meaning.specs.Intent.{Offer, open_offer, input_offer, Intent, waits, moves, inputs_from, outputs_to, selects, intent}
use Rattle.meaning.specs.Ready.{all_idle, running_from, own_effect, WaitingInput, communication_where, communication_effect, pass_effect, take_option_effect, take_with_output_effect, option_row, offer_effect_at, offer_effect, effect_of, RunningRow, output_at, outputs_at, offered, steps_of, steps_all, steps_at, by_row, is_live, intent_at, running_rows, ready}

true-is : (t : Bool) → T t → t ≡ true
true-is true h = refl
true-is false h = absurd h

is_true : (t : Bool) → t ≡ true → T t
is_true true e = tt
is_true false e = absurd (true≢false (sym e))

eqb_same : (n : ℕ) → eqb n n ≡ true
eqb_same n = true-is (eqb n n) (eqb_refl n)

eqb_is : (m n : ℕ) → eqb m n ≡ true → m ≡ n
eqb_is m n e = eqb→eq m n (is_true (eqb m n) e)

mem-map : {A B : Type 0} (f : A → B) (y : B) (l : List A) → Memᴰ y (map f l) → (x : A) × (Memᴰ x l × (y ≡ f x))
mem-map f y [] m = absurd (mathlib.Core.List.Memᴰ.not-nil m)
mem-map f y (x ∷ l) (mathlib.Core.List.Memᴰ.head e) = (x, (mathlib.Core.List.Memᴰ.head refl, e))
mem-map f y (x ∷ l) (mathlib.Core.List.Memᴰ.tail m) = let (z, (n, e)) = mem-map f y l m in (z, (mathlib.Core.List.Memᴰ.tail n, e))

map-mem : {A B : Type 0} (f : A → B) (x : A) (l : List A) → Memᴰ x l → Memᴰ (f x) (map f l)
map-mem f x l (mathlib.Core.List.Memᴰ.head e) = mathlib.Core.List.Memᴰ.head (ap f e)
map-mem f x l (mathlib.Core.List.Memᴰ.tail {xs} m) = mathlib.Core.List.Memᴰ.tail (map-mem f x xs m)

-- ---- order by row

at_mem : (j : ℕ) (x : Label) (l : List Label) → Memᴰ x l → order_row x ≡ j → Memᴰ x (steps_at j l)
at_mem j x l (mathlib.Core.List.Memᴰ.head {x = y} {xs} e) h = rw (ap order_row (sym e) ∙ h, eqb_same j) (mathlib.Core.List.Memᴰ.head e)
at_mem j x l (mathlib.Core.List.Memᴰ.tail {x = y} {xs} m) h = go (eqb (order_row y) j) (at_mem j x xs m h)
  where
    go : (t : Bool) → Memᴰ x (steps_at j xs) → Memᴰ x (if_else t (y ∷ steps_at j xs) (steps_at j xs))
    go true n = mathlib.Core.List.Memᴰ.tail n
    go false n = n

mem-at : (j : ℕ) (x : Label) (l : List Label) → Memᴰ x (steps_at j l) → Memᴰ x l
mem-at j x [] m = absurd (mathlib.Core.List.Memᴰ.not-nil m)
mem-at j x (y ∷ l) m = go (eqb (order_row y) j) m (λ z. mem-at j x l z)
  where
    go : (t : Bool) → Memᴰ x (if_else t (y ∷ steps_at j l) (steps_at j l)) → (Memᴰ x (steps_at j l) → Memᴰ x l) → Memᴰ x (y ∷ l)
    go true (mathlib.Core.List.Memᴰ.head e) k = mathlib.Core.List.Memᴰ.head e
    go true (mathlib.Core.List.Memᴰ.tail n) k = mathlib.Core.List.Memᴰ.tail (k n)
    go false n k = mathlib.Core.List.Memᴰ.tail (k n)

rows-mem : (k j : ℕ) (x : Label) (l : List Label) → Memᴰ x l → j ≤ order_row x → order_row x < j + k → Memᴰ x (by_row k j l)
rows-mem zero j x l m a b = absurd (omega arith)
rows-mem (suc k) j x l m a b =
    ⊎_elim (λ (e : j ≡ order_row x). mathlib.Core.List.Memᴰ.append_left (by_row k (suc j) l) (at_mem j x l m (sym e)))
    (λ (h : j < order_row x). mathlib.Core.List.Memᴰ.append_right (steps_at j l) (rows-mem k (suc j) x l m h (omega arith))) (eq-or-lt_of_le a)

mem-rows : (k j : ℕ) (x : Label) (l : List Label) → Memᴰ x (by_row k j l) → Memᴰ x l
mem-rows zero j x l m = absurd (mathlib.Core.List.Memᴰ.not-nil m)
mem-rows (suc k) j x l m = ⊎_elim (mem-at j x l) (mem-rows k (suc j) x l) (mathlib.Core.List.Memᴰ.append_cases (steps_at j l) m)

-- ---- bids

mem-all : (bs : List RunningRow) (x : Label) (l : List RunningRow) → Memᴰ x (steps_all bs l) → (b : RunningRow) × (Memᴰ b l × Memᴰ x (steps_of bs b.row b.intent))
mem-all bs x [] m = absurd (mathlib.Core.List.Memᴰ.not-nil m)
mem-all bs x (b ∷ l) m =
    ⊎_elim (λ (h : Memᴰ x (steps_of bs b.row b.intent)). (b, (mathlib.Core.List.Memᴰ.head refl, h)))
    (λ (h : Memᴰ x (steps_all bs l)). let (c, (n, q)) = mem-all bs x l h in (c, (mathlib.Core.List.Memᴰ.tail n, q))) (mathlib.Core.List.Memᴰ.append_cases (steps_of bs b.row b.intent) m)

all-mem : (bs : List RunningRow) (x : Label) (b : RunningRow) (l : List RunningRow) → Memᴰ b l → Memᴰ x (steps_of bs b.row b.intent) → Memᴰ x (steps_all bs l)
all-mem bs x b l (mathlib.Core.List.Memᴰ.head {x = c} {xs} e) h = mathlib.Core.List.Memᴰ.append_left {s = steps_of bs c.row c.intent} (steps_all bs xs) (rw (← e) h)
all-mem bs x b l (mathlib.Core.List.Memᴰ.tail {x = c} {xs} m) h = mathlib.Core.List.Memᴰ.append_right (steps_of bs c.row c.intent) (all-mem bs x b xs m h)

mem-giver : (e o r : ℕ) (w : Intent) → Memᴰ o (output_at e r w) → (r ≡ o) × ((v : Message) × (w ≡ outputs_to e v))
mem-giver e o r waits m = absurd (mathlib.Core.List.Memᴰ.not-nil m)
mem-giver e o r (moves x v ws) m = absurd (mathlib.Core.List.Memᴰ.not-nil m)
mem-giver e o r (inputs_from f a) m = absurd (mathlib.Core.List.Memᴰ.not-nil m)
mem-giver e o r (selects l) m = absurd (mathlib.Core.List.Memᴰ.not-nil m)
mem-giver e o r (outputs_to f v) m = go (eqb e f) refl m
  where
    go : (t : Bool) → eqb e f ≡ t → Memᴰ o (if_else t (r ∷ []) []) → (r ≡ o) × ((z : Message) × (outputs_to f v ≡ outputs_to e z))
    go true g (mathlib.Core.List.Memᴰ.head q) = (sym q, (v, ap (λ (k : ℕ). outputs_to k v) (sym (eqb_is e f g))))
    go true g (mathlib.Core.List.Memᴰ.tail n) = absurd (mathlib.Core.List.Memᴰ.not-nil n)
    go false g n = absurd (mathlib.Core.List.Memᴰ.not-nil n)

mem-givers : (e o : ℕ) (l : List RunningRow) → Memᴰ o (outputs_at e l) → (b : RunningRow) × (Memᴰ b l × ((b.row ≡ o) × ((v : Message) × (b.intent ≡ outputs_to e v))))
mem-givers e o [] m = absurd (mathlib.Core.List.Memᴰ.not-nil m)
mem-givers e o (b ∷ l) m =
    ⊎_elim (λ (h : Memᴰ o (output_at e b.row b.intent)). (b, (mathlib.Core.List.Memᴰ.head refl, mem-giver e o b.row b.intent h)))
    (λ (h : Memᴰ o (outputs_at e l)). let (c, (n, q)) = mem-givers e o l h in (c, (mathlib.Core.List.Memᴰ.tail n, q))) (mathlib.Core.List.Memᴰ.append_cases (output_at e b.row b.intent) m)

givers-mem : (e : ℕ) (v : Message) (b : RunningRow) (l : List RunningRow) → Memᴰ b l → b.intent ≡ outputs_to e v → Memᴰ b.row (outputs_at e l)
givers-mem e v b l (mathlib.Core.List.Memᴰ.head {x = c} {xs} q) h = mathlib.Core.List.Memᴰ.append_left {s = output_at e c.row c.intent} (outputs_at e xs) (rw (← q, h, eqb_same e) (mathlib.Core.List.Memᴰ.head refl))
givers-mem e v b l (mathlib.Core.List.Memᴰ.tail {x = c} {xs} m) h = mathlib.Core.List.Memᴰ.append_right (output_at e c.row c.intent) (givers-mem e v b xs m h)

running-mem : (j r : ℕ) (s : List ℕ) → get_or s r 0 ≡ 1 → Memᴰ (j + r) (running_from j s)
running-mem j r [] e = absurd (omega arith)
running-mem j zero (x ∷ s) e = rw e (mathlib.Core.List.Memᴰ.head {x = j} (omega arith))
running-mem j (suc r) (x ∷ s) e = go (eqb x 1) (mathlib.Core.List.Memᴰ.cast {b = suc j + r} (omega arith) (running-mem (suc j) r s e))
  where
    go : (t : Bool) → Memᴰ (j + suc r) (running_from (suc j) s) → Memᴰ (j + suc r) (if_else t (j ∷ running_from (suc j) s) (running_from (suc j) s))
    go true m = mathlib.Core.List.Memᴰ.tail m
    go false m = m

-- ---- offers

-- the rows of offers are each another
abbrev pub Distinct : List Offer → Type 0
Distinct [] = Unit {0}
Distinct (o ∷ l) = ((p : Offer) → Memᴰ p l → option_row o ≢ option_row p) × Distinct l

-- an offer of a list is what is found under its row
found : (f : Offer → Option Effect) (o : Offer) (l : List Offer) → Distinct l → Memᴰ o l → offer_effect_at (option_row o) f l ≡ f o
found f o l d (mathlib.Core.List.Memᴰ.head {x = p} {xs} e) = rw (← e, eqb_same (option_row o))
found f o l d (mathlib.Core.List.Memᴰ.tail {x = p} {xs} m) = go (eqb (option_row p) (option_row o)) refl (found f o xs d.1 m)
  where
    go : (t : Bool) → eqb (option_row p) (option_row o) ≡ t → offer_effect_at (option_row o) f xs ≡ f o → if_else t (f p) (offer_effect_at (option_row o) f xs) ≡ f o
    go true g h = absurd (d.0 o m (eqb_is (option_row p) (option_row o) g))
    go false g h = h

-- what is found under a row is an offer of the list
finds : (j : ℕ) (f : Offer → Option Effect) (e : Effect) (l : List Offer) → offer_effect_at j f l ≡ some e → (o : Offer) × (Memᴰ o l × ((option_row o ≡ j) × (f o ≡ some e)))
finds j f e [] q = absurd (none-ne-some e q)
finds j f e (o ∷ l) q = go (eqb (option_row o) j) refl q (λ z. finds j f e l z)
  where
    go : (t : Bool) → eqb (option_row o) j ≡ t → if_else t (f o) (offer_effect_at j f l) ≡ some e → (offer_effect_at j f l ≡ some e → (p : Offer) × (Memᴰ p l × ((option_row p ≡ j) × (f p ≡ some e))))
        → (p : Offer) × (Memᴰ p (o ∷ l) × ((option_row p ≡ j) × (f p ≡ some e)))
    go true g q k = (o, (mathlib.Core.List.Memᴰ.head refl, (eqb_is (option_row o) j g, q)))
    go false g q k = let (p, (m, h)) = k q in (p, (mathlib.Core.List.Memᴰ.tail m, h))

-- the steps that an offer makes
data Makes (r : ℕ) (bs : List RunningRow) (l : List Offer) : Label → Type 0 where
  by-free : (j q : ℕ) (ws : List Write) → Memᴰ (open_offer j q ws) l → Makes r bs l (take_option r j)
  by-meets : (j q e a o : ℕ) → Memᴰ (input_offer j q e a) l → Memᴰ o (outputs_at e bs) → Makes r bs l (take_with_output r j o)

widen : {r : ℕ} {bs : List RunningRow} {l : List Offer} {x : Label} (o : Offer) → Makes r bs l x → Makes r bs (o ∷ l) x
widen o (by-free j q ws m) = by-free j q ws (mathlib.Core.List.Memᴰ.tail m)
widen o (by-meets j q e a p m n) = by-meets j q e a p (mathlib.Core.List.Memᴰ.tail m) n

mem-offered : (r : ℕ) (bs : List RunningRow) (x : Label) (l : List Offer) → Memᴰ x (offered r bs l) → Makes r bs l x
mem-offered r bs x [] m = absurd (mathlib.Core.List.Memᴰ.not-nil m)
mem-offered r bs x (open_offer j q ws ∷ l) (mathlib.Core.List.Memᴰ.head e) = rw e (by-free j q ws (mathlib.Core.List.Memᴰ.head refl))
mem-offered r bs x (open_offer j q ws ∷ l) (mathlib.Core.List.Memᴰ.tail m) = widen (open_offer j q ws) (mem-offered r bs x l m)
mem-offered r bs x (input_offer j q e a ∷ l) m =
    ⊎_elim (λ (h : Memᴰ x (map (take_with_output r j) (outputs_at e bs))). let (o, (n, z)) = mem-map (take_with_output r j) x (outputs_at e bs) h in rw z (by-meets j q e a o (mathlib.Core.List.Memᴰ.head refl) n))
    (λ (h : Memᴰ x (offered r bs l)). widen (input_offer j q e a) (mem-offered r bs x l h)) (mathlib.Core.List.Memᴰ.append_cases (map (take_with_output r j) (outputs_at e bs)) m)

free-mem : (r j q : ℕ) (ws : List Write) (bs : List RunningRow) (l : List Offer) → Memᴰ (open_offer j q ws) l → Memᴰ (take_option r j) (offered r bs l)
free-mem r j q ws bs [] x' = elim x' [ ]
free-mem r j q ws bs (open_offer i p us ∷ l) (mathlib.Core.List.Memᴰ.head e) = mathlib.Core.List.Memᴰ.head (ap (λ (o : Offer). take_option r (option_row o)) e)
free-mem r j q ws bs (open_offer i p us ∷ l) (mathlib.Core.List.Memᴰ.tail m) = mathlib.Core.List.Memᴰ.tail (free-mem r j q ws bs l m)
free-mem r j q ws bs (input_offer i p e a ∷ l) (mathlib.Core.List.Memᴰ.head z) = let y : ◌≡◌ {A = ℕ} 0 1 = cc in absurd (omega arith)
free-mem r j q ws bs (input_offer i p e a ∷ l) (mathlib.Core.List.Memᴰ.tail m) = mathlib.Core.List.Memᴰ.append_right (map (take_with_output r i) (outputs_at e bs)) (free-mem r j q ws bs l m)

meets-mem : (r j q e a o : ℕ) (bs : List RunningRow) (l : List Offer) → Memᴰ (input_offer j q e a) l → Memᴰ o (outputs_at e bs) → Memᴰ (take_with_output r j o) (offered r bs l)
meets-mem r j q e a o bs [] x'' n = elim x'' [ ]
meets-mem r j q e a o bs (open_offer i p us ∷ l) (mathlib.Core.List.Memᴰ.head z) n = let y : ◌≡◌ {A = ℕ} 0 1 = cc in absurd (omega arith)
meets-mem r j q e a o bs (open_offer i p us ∷ l) (mathlib.Core.List.Memᴰ.tail m) n = mathlib.Core.List.Memᴰ.tail (meets-mem r j q e a o bs l m n)
meets-mem r j q e a o bs (input_offer i p d c ∷ l) (mathlib.Core.List.Memᴰ.head z) n =
    let ei : j ≡ i = cc in
    let ed : e ≡ d = cc in
    mathlib.Core.List.Memᴰ.append_left {s = map (take_with_output r i) (outputs_at d bs)} (offered r bs l) (rw (← ei, ← ed) (map-mem (take_with_output r j) o (outputs_at e bs) n))
meets-mem r j q e a o bs (input_offer i p d c ∷ l) (mathlib.Core.List.Memᴰ.tail m) n = mathlib.Core.List.Memᴰ.append_right (map (take_with_output r i) (outputs_at d bs)) (meets-mem r j q e a o bs l m n)

abbrev mark : ℕ → ℕ → ℕ → StateChange
mark r x v = record { by = r; at = x; become = v }

abbrev effect : List StateChange → List Write → Effect
effect ms ws = record { changes = ms; writes = ws }

module _ (P : Program) (sheet : Sheet) (s : State) where
  abbrev W : ℕ → Intent
  W = intent_at P sheet s

  abbrev B : List RunningRow
  B = running_rows P sheet s

  bid-is : (b : RunningRow) → Memᴰ b (running_rows P sheet s) → W b.row ≡ b.intent
  unfolding running_rows
  bid-is b m = let (r, (n, e)) = mem-map (λ (r : ℕ). record { row = r; intent = intent_at P sheet s r }) b (running_from 0 s.states) m in rw e

  bid-mem : (r : ℕ) → get_or s.states r 0 ≡ 1 → Memᴰ (record { row = r; intent = W r }) (running_rows P sheet s)
  unfolding running_rows
  bid-mem r e =
      let n : r ≡ 0 + r = omega arith in
      map-mem (λ (r : ℕ). record { row = r; intent = intent_at P sheet s r }) r (running_from 0 s.states) (mathlib.Core.List.Memᴰ.cast {b = 0 + r} n (running-mem 0 r s.states e))

  -- a row that wants something is running
  busy : (r : ℕ) → W r ≢ waits → get_or s.states r 0 ≡ 1
  unfolding intent_at is_live
  busy r h = go (eqb (get_or s.states r 0) 1) (all_idle (rows_beneath (processes_in (process_at P r))) s.states) refl h
    where
      go : (t u : Bool) → eqb (get_or s.states r 0) 1 ≡ t → (if_else (t && u) (intent sheet (action_of (process_at P r)) r s.store) waits ≢ waits) → get_or s.states r 0 ≡ 1
      go true u e k = eqb_is (get_or s.states r 0) 1 e
      go false u e k = absurd (k refl)

  in-range : (r : ℕ) (l : List ℕ) → get_or l r 0 ≡ 1 → r < length l
  in-range r [] e = absurd (omega arith)
  in-range zero (x ∷ l) e = omega arith
  in-range (suc r) (x ∷ l) e = let h = in-range r l e in omega arith

  abbrev tag : Intent → ℕ
  tag waits = 0
  tag (moves x v ws) = 1
  tag (inputs_from e a) = 1
  tag (outputs_to e v) = 1
  tag (selects l) = 1

  at-work : (r : ℕ) → tag (W r) ≡ 1 → get_or s.states r 0 ≡ 1
  at-work r e = busy r (λ z. let y : ◌≡◌ {A = ℕ} 0 1 = ap tag (sym z) ∙ e in omega arith)

  from_gives : (w : WaitingInput) (o : ℕ) (z : Message) → W o ≡ outputs_to w.element z → (e : Effect) × (communication_effect w o (W o) ≡ some e)
  from_gives w o z h = (effect (w.change ∷ mark o o 2 ∷ []) (write_cell w.cell z ∷ []), rw (h, eqb_same w.element))

  giver-wants : (d o : ℕ) → Memᴰ o (outputs_at d B) → (z : Message) × (W o ≡ outputs_to d z)
  giver-wants d o m = let (b, (n, (e, (z, h)))) = mem-givers d o B m in (z, ap W (sym e) ∙ bid-is b n ∙ h)

  wants-giver : (d o : ℕ) (z : Message) → W o ≡ outputs_to d z → Memᴰ o (outputs_at d B)
  wants-giver d o z h = givers-mem d z (record { row = o; intent = W o }) B (bid-mem o (at-work o (rw h))) h

  module _ (D : (r : ℕ) (l : List Offer) → W r ≡ selects l → Distinct l) where
    made : (r : ℕ) (l : List Offer) (x : Label) → W r ≡ selects l → Makes r B l x → (e : Effect) × (effect_of x W ≡ some e)
    made r l x h (by-free j q ws m) = (effect (mark r q 1 ∷ []) ws, rw h (found (take_option_effect r) (open_offer j q ws) l (D r l h) m))
    made r l x h (by-meets j q d a o m n) =
        let (z, g) = giver-wants d o n in
        let (e, k) = from_gives (record { element = d; cell = a; change = mark r q 1 }) o z g in
        (e, rw h (found (take_with_output_effect r o (W o)) (input_offer j q d a) l (D r l h) m ∙ k))

    step-can : (r : ℕ) (w : Intent) (x : Label) → W r ≡ w → Memᴰ x (steps_of B r w) → (e : Effect) × (effect_of x W ≡ some e)
    step-can r waits x h m = absurd (mathlib.Core.List.Memᴰ.not-nil m)
    step-can r (moves y v ws) x h (mathlib.Core.List.Memᴰ.head e) = rw e (effect (mark r y v ∷ []) ws, ap (own_effect r) h)
    step-can r (moves y v ws) x h (mathlib.Core.List.Memᴰ.tail m) = absurd (mathlib.Core.List.Memᴰ.not-nil m)
    step-can r (inputs_from d a) x h m =
        let (o, (n, e)) = mem-map (pass r) x (outputs_at d B) m in
        let (z, g) = giver-wants d o n in
        let (f, k) = from_gives (record { element = d; cell = a; change = mark r r 2 }) o z g in
        rw e (f, rw h k)
    step-can r (outputs_to d v) x h m = absurd (mathlib.Core.List.Memᴰ.not-nil m)
    step-can r (selects l) x h m = made r l x h (mem-offered r B x l m)

    -- a ready step can be taken
    pub ready-can : (x : Label) → Memᴰ x (ready P sheet s) → (e : Effect) × (effect_of x W ≡ some e)
    unfolding ready
    ready-can x m =
        let (b, (n, h)) = mem-all B x B (mem-rows (length s.states) 0 x (steps_all B B) m) in
        step-can b.row b.intent x (bid-is b n) h

    -- ---- and back

    module _ (L : (r : ℕ) (l : List Offer) → W r ≡ selects l → (o : Offer) → Memᴰ o l → option_row o < length s.states) where
      listed : (x : Label) (r : ℕ) → tag (W r) ≡ 1 → Memᴰ x (steps_of B r (W r)) → order_row x < length s.states → Memᴰ x (ready P sheet s)
      unfolding ready
      listed x r t m h =
          rows-mem (length s.states) 0 x (steps_all B B) (all-mem B x (record { row = r; intent = W r }) B (bid-mem r (at-work r t)) m) (omega arith) (omega arith)

      below : (r : ℕ) → tag (W r) ≡ 1 → r < length s.states
      below r t = in-range r s.states (at-work r t)

      own-listed : (r : ℕ) (e : Effect) (w : Intent) → W r ≡ w → own_effect r w ≡ some e → Memᴰ (own r) (ready P sheet s)
      own-listed r e waits h q = absurd (none-ne-some e q)
      own-listed r e (moves x v ws) h q = listed (own r) r (rw h) (rw h (mathlib.Core.List.Memᴰ.head refl)) (below r (rw h))
      own-listed r e (inputs_from d a) h q = absurd (none-ne-some e q)
      own-listed r e (outputs_to d v) h q = absurd (none-ne-some e q)
      own-listed r e (selects l) h q = absurd (none-ne-some e q)

      -- the partner of a communication outputs to its element
      partner : (w : WaitingInput) (o : ℕ) (e : Effect) (u : Intent) → communication_effect w o u ≡ some e → (z : Message) × (u ≡ outputs_to w.element z)
      partner w o e waits q = absurd (none-ne-some e q)
      partner w o e (moves x v ws) q = absurd (none-ne-some e q)
      partner w o e (inputs_from f c) q = absurd (none-ne-some e q)
      partner w o e (selects l) q = absurd (none-ne-some e q)
      partner w o e (outputs_to f z) q = go (eqb w.element f) refl q
        where
          go : (t : Bool) → eqb w.element f ≡ t → communication_where t w o z ≡ some e → (k : Message) × (outputs_to f z ≡ outputs_to w.element k)
          go true g q = (z, ap (λ (k : ℕ). outputs_to k z) (sym (eqb_is w.element f g)))
          go false g q = absurd (none-ne-some e q)

      pass-listed : (i o : ℕ) (e : Effect) (w : Intent) → W i ≡ w → pass_effect i o w (W o) ≡ some e → Memᴰ (pass i o) (ready P sheet s)
      pass-listed i o e waits h q = absurd (none-ne-some e q)
      pass-listed i o e (moves x v ws) h q = absurd (none-ne-some e q)
      pass-listed i o e (outputs_to d v) h q = absurd (none-ne-some e q)
      pass-listed i o e (selects l) h q = absurd (none-ne-some e q)
      pass-listed i o e (inputs_from d a) h q =
          let (z, g) = partner (record { element = d; cell = a; change = mark i i 2 }) o e (W o) q in
          listed (pass i o) i (rw h) (rw h (map-mem (pass i) o (outputs_at d B) (wants-giver d o z g))) (below i (rw h))

      offer-listed : (r j : ℕ) (x : Label) (e : Effect) (f : Offer → Option Effect) (w : Intent) → W r ≡ w
          → ((l : List Offer) (o : Offer) → Memᴰ o l → option_row o ≡ j → f o ≡ some e → Memᴰ x (offered r B l)) → order_row x ≡ j → offer_effect j f w ≡ some e → Memᴰ x (ready P sheet s)
      offer-listed r j x e f waits h k n q = absurd (none-ne-some e q)
      offer-listed r j x e f (moves y v ws) h k n q = absurd (none-ne-some e q)
      offer-listed r j x e f (inputs_from d a) h k n q = absurd (none-ne-some e q)
      offer-listed r j x e f (outputs_to d v) h k n q = absurd (none-ne-some e q)
      offer-listed r j x e f (selects l) h k n q =
          let (o, (m, (g, t))) = finds j f e l q in
          let b = L r l h o m in
          listed x r (rw h) (rw h (k l o m g t)) (omega arith)

      free-listed : (r j : ℕ) (e : Effect) (l : List Offer) (o : Offer) → Memᴰ o l → option_row o ≡ j → take_option_effect r o ≡ some e → Memᴰ (take_option r j) (offered r B l)
      free-listed r j e l (open_offer i q ws) m g t = rw (← g) (free-mem r i q ws B l m)
      free-listed r j e l (input_offer i q d a) m g t = absurd (none-ne-some e t)

      meets-listed : (r j p : ℕ) (e : Effect) (l : List Offer) (o : Offer) → Memᴰ o l → option_row o ≡ j → take_with_output_effect r p (W p) o ≡ some e → Memᴰ (take_with_output r j p) (offered r B l)
      meets-listed r j p e l (open_offer i q ws) m g t = absurd (none-ne-some e t)
      meets-listed r j p e l (input_offer i q d a) m g t =
          let (z, h) = partner (record { element = d; cell = a; change = mark r q 1 }) p e (W p) t in
          rw (← g) (meets-mem r i q d a p B l m (wants-giver d p z h))

      -- a step that can be taken is ready
      pub can-ready : (x : Label) (e : Effect) → effect_of x W ≡ some e → Memᴰ x (ready P sheet s)
      can-ready (own r) e q = own-listed r e (W r) refl q
      can-ready (pass i o) e q = pass-listed i o e (W i) refl q
      can-ready (take_option r j) e q = offer-listed r j (take_option r j) e (take_option_effect r) (W r) refl (free-listed r j e) refl q
      can-ready (take_with_output r j o) e q = offer-listed r j (take_with_output r j o) e (take_with_output_effect r o (W o)) (W r) refl (meets-listed r j o e) refl q
