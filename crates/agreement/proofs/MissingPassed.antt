-- An absence is passed on: what an output of an unset element does, and who wrote each message of a host output list. It holds of every table.
use mathlib.Core.Path.{◌≡◌, refl, sym, ap, subst, subst₂, ◌∙◌}
use mathlib.Core.Logic.{◌⊎◌, inl, inr}
use mathlib.Core.Bool.{true, false, true≢false}
use mathlib.Core.Option.{none, some, none-ne-some, some-injective}
use mathlib.Core.List.{List, [], ◌∷◌, ◌++◌}
use Prim.Native.Nat.{ℕ, zero, suc, ◌<◌, ◌≤◌}
use native.Mathlib.Omega.{arith}
use lib.IntN.{ℤ}
use lib.ListN.{length, get_or, get_elem?, set, replicate}
use Rattle.meaning.specs.declared.Index.{Index}
use Rattle.meaning.specs.declared.Index.TheVariants.{At, Fails}
use Rattle.meaning.specs.Declarations.{Channel}
use Rattle.meaning.specs.Tree.{Expr, Action, stop, skip, sequence, parallel, assign, input, output, conditional, loop, alternation, block, action_of}
use Rattle.meaning.specs.Values.{Message, index, Sent, gives, lacking}
use Rattle.meaning.specs.State.{State, Program, program, write_all, Effect}
use Rattle.meaning.specs.Labels.{Label, own}
use Rattle.meaning.specs.Readings.{Sheet}
use Rattle.meaning.specs.Settle.{settled}
use Rattle.meaning.specs.Step.{Passes, Lacks, output-subscript, output-value, InnerOutput, inner-output, Live, live, Allows, Step, assignment, while-false, while-true, if-true, communication, host-read, host-write, alt-skip, alt-read, alt-communication, stopping}
use Rattle.meaning.specs.Order.{Begins, Order, halt, next-step, OrderOf}
use Rattle.meaning.proofs.PassedLaws.{passes-passed}
use Rattle.agreement.specs.RowsOfSteps.{RowOf, of-own, of-input, of_output, of-alt, of-alt-input, of-alt-output}
use Rattle.agreement.specs.MissingClaims.{cell_at, list_at, TakesAbsent, input-passed, option-passed, WritesHost, by-host-write, stop_effect, WrittenOnly, PassesOn, AbsencePassed, WrittenInOrder}
use Rattle.agreement.proofs.SettlingData.{stored-or-same, settling-outputs}
use Rattle.agreement.proofs.MissingSteps.{absent-unsets}
use Rattle.agreement.proofs.Steps.{allowed-step}
use Rattle.agreement.proofs.Separate.{table-inv}
use Rattle.agreement.proofs.TableFit.{fit}

-- Lists --------------------------------------------------------------------------------------------------------------------------

-- the lists after a step: each as it was, but for one to which it gives a message
module _ (P : Program) (sheet : Sheet) (s : State) (x : Label) where
  abbrev Written : ℕ → List Message → Type 0
  Written p l = (l ≡ list_at s p) ⊎ ((m : Message) × WritesHost P sheet s x p m × (l ≡ list_at s p ++ (m ∷ [])))

  written : (q p : ℕ) (m : Message) → WritesHost P sheet s x q m → Written p (get_or (set s.store.outputs q (list_at s q ++ (m ∷ []))) p [])
  written q p m g = go (stored-or-same [] (list_at s q ++ (m ∷ [])) s.store.outputs q p)
    where
      go : let l = get_or (set s.store.outputs q (list_at s q ++ (m ∷ []))) p [] in (l ≡ list_at s p) ⊎ ((q ≡ p) × (l ≡ list_at s q ++ (m ∷ []))) → Written p l
      go (inl e) = inl e
      go (inr (e, h)) = inr (m, subst (λ (k : ℕ). WritesHost P sheet s x k m) e g, h ∙ ap (λ (k : ℕ). list_at s k ++ (m ∷ [])) e)

-- so the writes of a step leave them
lists-only : (P : Program) (sheet : Sheet) (s : State) (x : Label) (e : Effect) → Allows P sheet s x e → (p : ℕ) → Written P sheet s x p (get_or (write_all e.writes s.store).outputs p [])
lists-only P sheet s x e (assignment g p q) k = inl refl
lists-only P sheet s x e (while-false g h) k = inl refl
lists-only P sheet s x e (while-true g h) k = inl refl
lists-only P sheet s x e (if-true g h) k = inl refl
lists-only P sheet s x e (communication g j h w) k = inl refl
lists-only P sheet s x e (host-read g h) k = inl refl
lists-only P sheet s x e (host-write {c} {m = z} g h p q o m) k = rw (← o) (written P sheet s x c.number k z (by-host-write g h p q (rw o m)))
lists-only P sheet s x e (alt-skip g c m h q) k = inl refl
lists-only P sheet s x e (alt-read g c m h q j) k = inl refl
lists-only P sheet s x e (alt-communication g c m j h q w y) k = inl refl
lists-only P sheet s x e (stopping g h) k = inl refl

-- and the step
pub written-only : WrittenOnly
written-only P sheet s x t h p =
    subst (λ (y : List (List Message)). Written P sheet s x p (get_or y p [])) (sym (settling-outputs P h.leaves.by-rules)) (lists-only P sheet s x h.does h.allowed p)

-- an element of a list with one more at its end
before-or-last : {A : Type 0} (l : List A) (n : A) (i : ℕ) (m : A) → get_elem? (l ++ (n ∷ [])) i ≡ some m → (get_elem? l i ≡ some m) ⊎ ((n ≡ m) × (length l ≡ i))
before-or-last [] n zero m e = inr (some-injective n m e, refl)
before-or-last [] n (suc i) m e = absurd (none-ne-some m e)
before-or-last (x ∷ l) n zero m e = inl e
before-or-last (x ∷ l) n (suc i) m e = go (before-or-last l n i m e)
  where
    go : (get_elem? l i ≡ some m) ⊎ ((n ≡ m) × (length l ≡ i)) → (get_elem? l i ≡ some m) ⊎ ((n ≡ m) × (suc (length l) ≡ suc i))
    go (inl h) = inl h
    go (inr (q, h)) = inr (q, ap suc h)

module _ (rows : List ℤ) (sheet : Sheet) (p i : ℕ) (m : Message) where
  -- the step of an order that gave the message, with the steps before and after it
  abbrev GivenIn : State → List Label → Type 0
  GivenIn s l = (before : List Label) × ((x : Label) × ((later : List Label) × ((u : State)
      × ((l ≡ before ++ (x ∷ later)) × Order (program rows) sheet s before u × WritesHost (program rows) sheet u x p m × (length (list_at u p) ≡ i)))))

  written_in : {s t : State} {l : List Label} → Order (program rows) sheet s l t → get_elem? (list_at t p) i ≡ some m → (get_elem? (list_at s p) i ≡ some m) ⊎ GivenIn s l
  written_in halt e = inl e
  written_in {s} (next-step {t} {x} {l} h o) e = go (written_in o e)
    where
      last : (n : Message) → WritesHost (program rows) sheet s x p n → (get_elem? (list_at s p) i ≡ some m) ⊎ ((n ≡ m) × (length (list_at s p) ≡ i))
          → (get_elem? (list_at s p) i ≡ some m) ⊎ GivenIn s (x ∷ l)
      last n g (inl q) = inl q
      last n g (inr (q, k)) = inr ([], (x, (l, (s, (refl, halt, subst (λ (y : Message). WritesHost (program rows) sheet s x p y) q g, k)))))

      first : get_elem? (list_at t p) i ≡ some m → (list_at t p ≡ list_at s p) ⊎ ((n : Message) × WritesHost (program rows) sheet s x p n × (list_at t p ≡ list_at s p ++ (n ∷ [])))
          → (get_elem? (list_at s p) i ≡ some m) ⊎ GivenIn s (x ∷ l)
      first q (inl k) = inl (ap (λ (y : List Message). get_elem? y i) (sym k) ∙ q)
      first q (inr (n, g, k)) = last n g (before-or-last (list_at s p) n i m (ap (λ (y : List Message). get_elem? y i) (sym k) ∙ q))

      go : (get_elem? (list_at t p) i ≡ some m) ⊎ GivenIn t l → (get_elem? (list_at s p) i ≡ some m) ⊎ GivenIn s (x ∷ l)
      go (inl q) = first q (written-only (program rows) sheet s x t h p)
      go (inr (before, (y, (later, (u, (q, k, d, n)))))) = inr (x ∷ before, (y, (later, (u, (ap (λ (z : List Label). x ∷ z) q, next-step h k, d, n)))))

-- in the beginning every list is empty
begins-empty : (P : Program) (s : State) → Begins P s → (p : ℕ) → list_at s p ≡ []
begins-empty P s b p = ap (λ (l : List (List Message)). get_or l p []) (settling-outputs P b.by-rules) ∙ go P.outputs p
  where
    go : (n p : ℕ) → ◌≡◌ {A = List Message} (get_or (replicate n []) p []) []
    go zero p = refl
    go (suc n) zero = refl
    go (suc n) (suc p) = go n p

-- a message of a list after an order was written by one of its steps, when the list held the messages before it
pub written-in-order : WrittenInOrder
written-in-order rows sheet l s o p i m e = go (written_in rows sheet p i m o.order e)
  where
    go : (get_elem? (list_at o.beginning p) i ≡ some m) ⊎ GivenIn rows sheet p i m o.beginning l
        → (before : List Label) × ((x : Label) × ((later : List Label) × ((u : State)
        × ((l ≡ before ++ (x ∷ later)) × OrderOf rows sheet before u × WritesHost (program rows) sheet u x p m × (length (list_at u p) ≡ i)))))
    go (inl q) = absurd (none-ne-some m (sym (ap (λ (y : List Message). get_elem? y i) (begins-empty (program rows) o.beginning o.begins p)) ∙ q))
    go (inr (before, (x, (later, (u, (q, k, d, n)))))) = (before, (x, (later, (u, (q, record { beginning = o.beginning; begins = o.begins; order = k }, d, n)))))

-- Outputs of an absence ------------------------------------------------------------------------------------------------------------

-- whether an action is an output, whether an index is there, and the message that is sent
abbrev is_output : Action → ℕ
is_output stop = 0
is_output skip = 0
is_output sequence = 0
is_output parallel = 0
is_output (assign v e f) = 0
is_output (input i) = 0
is_output (output c e f) = 1
is_output (conditional ts) = 0
is_output (loop e b) = 0
is_output (alternation bs) = 0
is_output (block v) = 0

abbrev is_at : Index → ℕ
is_at (At i) = 1
is_at (Fails k) = 0

abbrev message_in : Sent → Message
message_in (gives m) = m
message_in (lacking k) = none

-- a running row has one action
one-action : (P : Program) (s : State) (r : ℕ) (a b : Action) → Live P s r a → Live P s r b → a ≡ b
one-action P s r a b (live p u h) (live q v g) = ap action_of (sym p ∙ q)

module _ (rows : List ℤ) (sheet : Sheet) (s : State) (r d : ℕ) (c : Channel) (e f : Expr) (running : Live (program rows) s r (output c e f))
    (named : index s.store.cells c.first c.size e ≡ At d) (unset : Passes s.store.cells f none) where
  abbrev P : Program
  P = program rows

  -- a step of the row: the absence to a cell, or to the end of a list with room
  data HandsOn (x : Label) : Type 0 where
    to-a-cell : {a : ℕ} → c.host ≡ false → TakesAbsent P sheet s x a → HandsOn x
    to-a-list : c.host ≡ true → WritesHost P sheet s x c.number none → length (list_at s c.number) < c.capacity → HandsOn x

  not-output : {A : Type 0} (a : Action) → is_output a ≡ 0 → Live P s r a → A
  not-output a n g = let z = ap is_output (one-action P s r a (output c e f) g running) in absurd (omega arith)

  -- what an output of this row passes is the absence
  absence : (g : Expr) (m : Message) → g ≡ f → Passes s.store.cells g m → m ≡ none
  absence g m q h = ap message_in (sym (passes-passed s.store.cells f m (subst (λ (y : Expr). Passes s.store.cells y m) q h)) ∙ passes-passed s.store.cells f none unset)

  module _ (b : Channel) (i g : Expr) (other : Live P s r (output b i g)) where
    same : output b i g ≡ output c e f
    same = one-action P s r (output b i g) (output c e f) other running

    same-channel : b ≡ c
    same-channel = let q = same in cc

    same-expression : g ≡ f
    same-expression = let q = same in cc

    -- to an inner channel
    inner : {k : ℕ} {m : Message} → InnerOutput s.store b i g k m → (c.host ≡ false) × InnerOutput s.store b i g k none
    inner {m} (inner-output h p q) =
        (ap (λ (y : Channel). y.host) (sym same-channel) ∙ h, inner-output h p (subst (Passes s.store.cells g) (absence g m same-expression q) q))

  hands_on : (x : Label) (t : Effect) → Allows P sheet s x t → RowOf x r → (length t.writes ≡ 1) × HandsOn x
  hands_on x t (assignment {v} {e = i} {f = g} l p q) of-own = not-output (assign v i g) refl l
  hands_on x t (while-false {b} {e = i} l h) of-own = not-output (loop i b) refl l
  hands_on x t (while-true {b} {e = i} l h) of-own = not-output (loop i b) refl l
  hands_on x t (if-true {ts} l h) of-own = not-output (conditional ts) refl l
  hands_on x t (communication {i} l k h w) of-input = not-output (input i) refl l
  hands_on x t (communication {c = b} {e = i} {f = g} l k h w) of_output = let (n, o) = inner b i g k w in (refl, to-a-cell n (input-passed l k h o))
  hands_on x t (host-read {i} l h) of-own = not-output (input i) refl l
  hands_on x t (host-write {c = b} {e = i} {f = g} {m = z} l h p q o m) of-own =
      let n = same-channel b i g l in (
        refl,
        to-a-list (ap (λ (y : Channel). y.host) (sym n) ∙ h)
            (subst₂ (λ (y : Channel) (v : Message). WritesHost P sheet s (own r) y.number v) n (absence g z (same-expression b i g l) q) (by-host-write l h p q (rw o m)))
            (subst (λ (y : Channel). length (list_at s y.number) < y.capacity) n (rw o m)),
      )
  hands_on x t (alt-skip {bs} l q m h p) of-alt = not-output (alternation bs) refl l
  hands_on x t (alt-read {bs} l q m h p k) of-alt = not-output (alternation bs) refl l
  hands_on x t (alt-communication {bs} l q m k h p w y) of-alt-input = not-output (alternation bs) refl l
  hands_on x t (alt-communication {c = b} {e = i} {f = g} l q m k h p w y) of-alt-output =
      let (n, o) = inner b i g k y in
      (refl, to-a-cell n (option-passed l q m k h p w o))
  hands_on x t (stopping {k} {a} l h) of-own = absurd (never (subst (λ (y : Action). Lacks s.store.cells y k) (one-action P s r a (output c e f) l running) h))
    where
      never : {k : ℕ} → ¬ Lacks s.store.cells (output c e f) k
      never (output-subscript p) = let z = ap is_at (sym p ∙ named) in omega arith
      never (output-value p q h) = h unset

  passes_on : PassesOn rows sheet s r c
  passes_on =
      record {
        never-stops = λ reason h. let z = (hands_on (own r) (stop_effect r reason) h of-own).0 in omega arith;
        to_cell = λ n x t h o. cell n x t h (hands_on x h.does h.allowed o).1;
        to-host = λ n x t h o. list n x (hands_on x h.does h.allowed o).1;
        writes-with-room = λ n m. let h = host-write running n named unset refl m in (
          (_, h),
          λ ok (l, o). (settled P _ s, allowed-step rows sheet (fit rows ok) s (table-inv rows sheet (fit rows ok) l s o) (own r) _ h),
        );
        waits-when-full = λ n m x t h o. full n m x (hands_on x h.does h.allowed o).1;
      }
    where
      cell : c.host ≡ false → (x : Label) (t : State) → Step P sheet s x t → HandsOn x → (a : ℕ) × TakesAbsent P sheet s x a × (cell_at t a ≡ none)
      cell n x t h (to-a-cell {a} k g) = (a, g, (absent-unsets rows sheet s x a g).2 t h)
      cell n x t h (to-a-list k g m) = absurd (true≢false (sym k ∙ n))

      list : c.host ≡ true → (x : Label) → HandsOn x → WritesHost P sheet s x c.number none
      list n x (to-a-cell k g) = absurd (true≢false (sym n ∙ k))
      list n x (to-a-list k g m) = g

      full : c.host ≡ true → c.capacity ≤ length (list_at s c.number) → (x : Label) → ¬ HandsOn x
      full n m x (to-a-cell k g) = true≢false (sym n ∙ k)
      full n m x (to-a-list k g l) = omega arith

-- an output of an unset element passes the absence on
pub absence-passed : AbsencePassed
absence-passed rows sheet s r d c e f g p h = passes_on rows sheet s r d c e f g p h
