-- Missing stays missing, step by step: a cell changes only by what a step hands to it, and only an absence that it takes
-- unsets one, or settling, if it is a cell of a block. It holds of every table.
use mathlib.Core.Path.{◌≡◌, refl, sym, ap, subst, ◌∙◌}
use mathlib.Core.Logic.{◌⊎◌, inl, inr}
use mathlib.Core.Option.{none, some, none-ne-some, some-injective}
use mathlib.Core.List.{List, [], ◌∷◌, ◌++◌}
use Prim.Native.Nat.{ℕ}
use lib.IntN.{ℤ}
use lib.ListN.{get_or, set}
use Rattle.meaning.specs.Values.{Message}
use Rattle.meaning.specs.State.{State, Program, program, write_all, Effect, changed}
use Rattle.meaning.specs.Labels.{Label}
use Rattle.meaning.specs.Readings.{Sheet}
use Rattle.meaning.specs.Settle.{settled}
use Rattle.meaning.specs.Step.{HostInput, InnerOutput, Allows, Step, assignment, while-false, while-true, if-true, communication, host-read, host-write, alt-skip, alt-read, alt-communication, stopping}
use Rattle.meaning.specs.Order.{root_started, Begins, Order, halt, next-step, OrderOf}
use Rattle.meaning.proofs.UnsetLaws.{cell-set-same, all-unset}
use Rattle.agreement.specs.MissingClaims.{cell_at, LocalCell, Delivers, by-assignment, by-communication, by-reading, by-option-reading, by-option-communication, TakesAbsent, input-absent, input-passed, option-absent, option-passed, SetOnly, SetByNumber, OnlyAbsentUnsets, AbsentUnsets, SetInOrder}
use Rattle.agreement.proofs.SettlingData.{stored-or-same, settling-cells}
use Rattle.agreement.proofs.Takeable.{takeable}
use Rattle.agreement.proofs.Steps.{distinct-options, allowed-step}
use Rattle.agreement.proofs.Separate.{table-inv}
use Rattle.agreement.proofs.TableFit.{fit}

module _ (P : Program) (sheet : Sheet) (s : State) (x : Label) where
  -- the message m handed to cell b, seen at cell a
  handed : (b a : ℕ) (m : Message) → Delivers P sheet s x b m
      → (get_or (set s.store.cells b m) a none ≡ cell_at s a) ⊎ ((n : Message) × Delivers P sheet s x a n × (get_or (set s.store.cells b m) a none ≡ n))
  handed b a m d = go (stored-or-same none m s.store.cells b a)
    where
      go : (get_or (set s.store.cells b m) a none ≡ cell_at s a) ⊎ ((b ≡ a) × (get_or (set s.store.cells b m) a none ≡ m))
          → (get_or (set s.store.cells b m) a none ≡ cell_at s a) ⊎ ((n : Message) × Delivers P sheet s x a n × (get_or (set s.store.cells b m) a none ≡ n))
      go (inl e) = inl e
      go (inr (e, h)) = inr (m, subst (λ (c : ℕ). Delivers P sheet s x c m) e d, h)

-- the writes of a step leave every cell as it was, but for one to which it hands a message
pub writes-only : (P : Program) (sheet : Sheet) (s : State) (x : Label) (e : Effect) → Allows P sheet s x e → (a : ℕ)
    → let c = get_or (write_all e.writes s.store).cells a none in (c ≡ cell_at s a) ⊎ ((m : Message) × Delivers P sheet s x a m × (c ≡ m))
writes-only P sheet s x e (assignment {r} {a = b} {z} g p q) a = handed P sheet s x b a (some z) (by-assignment g p q)
writes-only P sheet s x e (while-false g h) a = inl refl
writes-only P sheet s x e (while-true g h) a = inl refl
writes-only P sheet s x e (if-true g h) a = inl refl
writes-only P sheet s x e (communication {a = b} {m} g k h w) a = handed P sheet s x b a m (by-communication g k h w)
writes-only P sheet s x e (host-read {a = b} {v} g h) a = handed P sheet s x b a v (by-reading g h)
writes-only P sheet s x e (host-write g h p q o m) a = inl refl
writes-only P sheet s x e (alt-skip g c m h q) a = inl refl
writes-only P sheet s x e (alt-read {a = b} {v} g c m h q k) a = handed P sheet s x b a v (by-option-reading g c m h q k)
writes-only P sheet s x e (alt-communication {a = b} {m = z} g c m k h q w y) a = handed P sheet s x b a z (by-option-communication g c m k h q w y)
writes-only P sheet s x e (stopping g h) a = inl refl

-- so does the step, but for cells of blocks, which settling may unset
pub set-only : SetOnly
set-only P sheet s x t h a = go (settling-cells P h.leaves.by-rules a) (writes-only P sheet s x h.does h.allowed a)
  where
    go : (cell_at t a ≡ cell_at (changed h.does s) a) ⊎ (LocalCell P a × (cell_at t a ≡ none))
        → let c = cell_at (changed h.does s) a in (c ≡ cell_at s a) ⊎ ((m : Message) × Delivers P sheet s x a m × (c ≡ m))
        → (cell_at t a ≡ cell_at s a) ⊎ ((m : Message) × Delivers P sheet s x a m × (cell_at t a ≡ m)) ⊎ (LocalCell P a × (cell_at t a ≡ none))
    go (inr k) w = inr (inr k)
    go (inl k) (inl e) = inl (k ∙ e)
    go (inl k) (inr (m, d, e)) = inr (inl (m, d, k ∙ e))

-- a cell that holds a number after a step held it before, or was handed it
pub set-by-number : SetByNumber
set-by-number P sheet s x t h a z e = go (set-only P sheet s x t h a)
  where
    go : (cell_at t a ≡ cell_at s a) ⊎ ((m : Message) × Delivers P sheet s x a m × (cell_at t a ≡ m)) ⊎ (LocalCell P a × (cell_at t a ≡ none))
        → (cell_at s a ≡ some z) ⊎ Delivers P sheet s x a (some z)
    go (inl q) = inl (sym q ∙ e)
    go (inr (inl (m, d, q))) = inr (subst (λ (n : Message). Delivers P sheet s x a n) (sym q ∙ e) d)
    go (inr (inr (k, q))) = absurd (none-ne-some z (sym q ∙ e))

-- what hands over no number takes an absence: an assignment has a number
pub absent-delivery : (P : Program) (sheet : Sheet) (s : State) (x : Label) (a : ℕ) (m : Message) → Delivers P sheet s x a m → m ≡ none → TakesAbsent P sheet s x a
absent-delivery P sheet s x a m (by-assignment {z} g p q) e = absurd (none-ne-some z (sym e))
absent-delivery P sheet s x a m (by-communication {d} {c} {e = w} {f} g k h o) e = input-passed g k h (subst (λ (v : Message). InnerOutput s.store c w f d v) e o)
absent-delivery P sheet s x a m (by-reading {n} {i} g h) e = input-absent g (subst (λ (v : Message). HostInput sheet s.store i a v n) e h)
absent-delivery P sheet s x a m (by-option-reading {n} {i} g c b h q k) e = option-absent g c b h q (subst (λ (v : Message). HostInput sheet s.store i a v n) e k)
absent-delivery P sheet s x a m (by-option-communication {d} {c = l} {e = w} {f} g c b k h q i o) e = option-passed g c b k h q i (subst (λ (v : Message). InnerOutput s.store l w f d v) e o)

-- a cell that is unset after a step was unset before, or the step took an absence for it, or it is a cell of a block
pub only-absent-unsets : OnlyAbsentUnsets
only-absent-unsets P sheet s x t h a e = go (set-only P sheet s x t h a)
  where
    go : (cell_at t a ≡ cell_at s a) ⊎ ((m : Message) × Delivers P sheet s x a m × (cell_at t a ≡ m)) ⊎ (LocalCell P a × (cell_at t a ≡ none))
        → (cell_at s a ≡ none) ⊎ TakesAbsent P sheet s x a ⊎ LocalCell P a
    go (inl q) = inl (sym q ∙ e)
    go (inr (inl (m, d, q))) = inr (inl (absent-delivery P sheet s x a m d (sym q ∙ e)))
    go (inr (inr (k, q))) = inr (inr k)

module _ (rows : List ℤ) (sheet : Sheet) (s : State) where
  -- a label's step has one effect
  pub one-effect : (x : Label) (e f : Effect) → Allows (program rows) sheet s x e → Allows (program rows) sheet s x f → e ≡ f
  one-effect x e f h k =
      some-injective e f (sym (takeable (program rows) sheet s (distinct-options rows sheet s) x e h) ∙ takeable (program rows) sheet s (distinct-options rows sheet s) x f k)

  -- a message is handed over by a step that stores it
  stores : (x : Label) (a : ℕ) (m : Message) → Delivers (program rows) sheet s x a m
      → (e : Effect) × Allows (program rows) sheet s x e × ((write_all e.writes s.store).cells ≡ set s.store.cells a m)
  stores x a m (by-assignment g p q) = (_, assignment g p q, refl)
  stores x a m (by-communication g k h w) = (_, communication g k h w, refl)
  stores x a m (by-reading g h) = (_, host-read g h, refl)
  stores x a m (by-option-reading g c b h q k) = (_, alt-read g c b h q k, refl)
  stores x a m (by-option-communication g c b k h q w y) = (_, alt-communication g c b k h q w y, refl)

  delivery-of-absent : (x : Label) (a : ℕ) → TakesAbsent (program rows) sheet s x a → Delivers (program rows) sheet s x a none
  delivery-of-absent x a (input-absent g h) = by-reading g h
  delivery-of-absent x a (input-passed g k h o) = by-communication g k h o
  delivery-of-absent x a (option-absent g c b h q k) = by-option-reading g c b h q k
  delivery-of-absent x a (option-passed g c b k h q i o) = by-option-communication g c b k h q i o

  -- before the state settles the cell holds the message
  pub stored_at : (x : Label) (a : ℕ) (m : Message) (e : Effect) → Allows (program rows) sheet s x e → Delivers (program rows) sheet s x a m
      → (changed e s).store.cells ≡ set s.store.cells a m
  stored_at x a m e k d = let (f, j, q) = stores x a m d in ap (λ (g : Effect). (changed g s).store.cells) (one-effect x e f k j) ∙ q

-- an input of an absence takes place and leaves its target unset
pub absent-unsets : AbsentUnsets
absent-unsets rows sheet s x a r =
    let d = delivery-of-absent rows sheet s x a r in
    let (e, h, q) = stores rows sheet s x a none d in (
      (e, h),
      λ ok (l, o). (settled (program rows) e s, allowed-step rows sheet (fit rows ok) s (table-inv rows sheet (fit rows ok) l s o) x e h),
      λ t h. unset-left t h (ap (λ (c : List Message). get_or c a none) (stored_at rows sheet s x a none h.does h.allowed d) ∙ cell-set-same s.store.cells a),
    )
  where
    unset-left : (t : State) (h : Step (program rows) sheet s x t) → cell_at (changed h.does s) a ≡ none → cell_at t a ≡ none
    unset-left t h e = go (settling-cells (program rows) h.leaves.by-rules a)
      where
        go : (cell_at t a ≡ cell_at (changed h.does s) a) ⊎ (LocalCell (program rows) a × (cell_at t a ≡ none)) → cell_at t a ≡ none
        go (inl k) = k ∙ e
        go (inr k) = k.1

-- in the beginning every cell is unset
pub begins-unset : (P : Program) (s : State) → Begins P s → (a : ℕ) → cell_at s a ≡ none
begins-unset P s b a = go (settling-cells P b.by-rules a)
  where
    go : (cell_at s a ≡ cell_at (root_started P) a) ⊎ (LocalCell P a × (cell_at s a ≡ none)) → cell_at s a ≡ none
    go (inl k) = k ∙ all-unset P.cells a
    go (inr k) = k.1

module _ (rows : List ℤ) (sheet : Sheet) (a : ℕ) (z : ℤ) where
  -- the step of an order that handed the number to the cell, with the steps before and after it
  abbrev HandedIn : State → List Label → Type 0
  HandedIn s l = (before : List Label) × ((x : Label) × ((later : List Label) × ((u : State)
      × ((l ≡ before ++ (x ∷ later)) × Order (program rows) sheet s before u × Delivers (program rows) sheet u x a (some z)))))

  handed-in : {s t : State} {l : List Label} → Order (program rows) sheet s l t → cell_at t a ≡ some z → (cell_at s a ≡ some z) ⊎ HandedIn s l
  handed-in halt e = inl e
  handed-in {s} (next-step {t} {x} {l} h o) e = go (handed-in o e)
    where
      first : (cell_at s a ≡ some z) ⊎ Delivers (program rows) sheet s x a (some z) → (cell_at s a ≡ some z) ⊎ HandedIn s (x ∷ l)
      first (inl q) = inl q
      first (inr d) = inr ([], (x, (l, (s, (refl, halt, d)))))

      go : (cell_at t a ≡ some z) ⊎ HandedIn t l → (cell_at s a ≡ some z) ⊎ HandedIn s (x ∷ l)
      go (inl q) = first (set-by-number (program rows) sheet s x t h a z q)
      go (inr (before, (y, (later, (u, (q, k, d)))))) = inr (x ∷ before, (y, (later, (u, (ap (λ (m : List Label). x ∷ m) q, next-step h k, d)))))

-- a number that a cell holds after an order was handed to it by one of its steps
pub set-in-order : SetInOrder
set-in-order rows sheet l s o a z e = go (handed-in rows sheet a z o.order e)
  where
    go : (cell_at o.beginning a ≡ some z) ⊎ HandedIn rows sheet a z o.beginning l
        → (before : List Label) × ((x : Label) × ((later : List Label) × ((u : State)
        × ((l ≡ before ++ (x ∷ later)) × OrderOf rows sheet before u × Delivers (program rows) sheet u x a (some z)))))
    go (inl q) = absurd (none-ne-some z (sym (begins-unset (program rows) o.beginning o.begins a) ∙ q))
    go (inr (before, (x, (later, (u, (q, k, d)))))) = (before, (x, (later, (u, (q, record { beginning = o.beginning; begins = o.begins; order = k }, d)))))
