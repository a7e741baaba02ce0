-- What a host channel has been given only grows, at its end: in every table, by every step and so by every order.
use mathlib.Core.Path.{◌≡◌, sym, ap, subst, ◌∙◌}
use mathlib.Core.List.{List, [], ◌∷◌, ◌++◌, append-nil, append_assoc}
use Prim.Native.Nat.{ℕ, ◌<◌}
use native.Mathlib.Omega.{arith}
use native.Mathlib.Decide.{ℕ_discrete, dec_lt}
use lib.ListN.{length, get_or, set}
use lib.Seq.{set_out, get_or-set_same, get_or-set_other}
use Rattle.meaning.specs.Values.{Message}
use Rattle.meaning.specs.State.{State, Program, write_all, Effect}
use Rattle.meaning.specs.Labels.{Label}
use Rattle.meaning.specs.Readings.{Sheet}
use Rattle.meaning.specs.Step.{Allows, Step, assignment, while-false, while-true, if-true, communication, host-read, host-write, alt-skip, alt-read, alt-communication, stopping}
use Rattle.meaning.specs.Order.{Order, halt, next-step}
use Rattle.agreement.proofs.SettlingData.{settling-outputs}

-- the lists of one state begin with those of another
abbrev pub Grows : List (List Message) → List (List Message) → Type 0
Grows before later = (c : ℕ) → (m : List Message) × (get_or later c [] ≡ get_or before c [] ++ m)

same_lists : (l : List (List Message)) → Grows l l
same_lists l c = ([], sym (append-nil (get_or l c [])))

-- a list that is set to itself with more at its end
set-grows : (l : List (List Message)) (p : ℕ) (m : List Message) → Grows l (set l p (get_or l p [] ++ m))
set-grows l p m c = go (ℕ_discrete c p) (dec_lt p (length l))
  where
    go : Dec (c ≡ p) → Dec (p < length l) → (k : List Message) × (get_or (set l p (get_or l p [] ++ m)) c [] ≡ get_or l c [] ++ k)
    go (no ne) d = ([], get_or-set_other l p c (get_or l p [] ++ m) [] ne ∙ sym (append-nil (get_or l c [])))
    go (yes e) (yes h) = (m, rw e (get_or-set_same l p (get_or l p [] ++ m) [] h))
    go (yes e) (no h) = ([], rw (set_out l p (get_or l p [] ++ m) (omega arith)) (sym (append-nil (get_or l c []))))

module _ (P : Program) (sheet : Sheet) where
  effect-grows : (s : State) (x : Label) (e : Effect) → Allows P sheet s x e → Grows s.store.outputs (write_all e.writes s.store).outputs
  effect-grows s x e (assignment g p q) = same_lists s.store.outputs
  effect-grows s x e (while-false g h) = same_lists s.store.outputs
  effect-grows s x e (while-true g h) = same_lists s.store.outputs
  effect-grows s x e (if-true g h) = same_lists s.store.outputs
  effect-grows s x e (communication g k h w) = same_lists s.store.outputs
  effect-grows s x e (host-read g h) = same_lists s.store.outputs
  effect-grows s x e (host-write {c} {m = z} g h p q o m) = rw (← o) (set-grows s.store.outputs c.number (z ∷ []))
  effect-grows s x e (alt-skip g c m h q) = same_lists s.store.outputs
  effect-grows s x e (alt-read g c m h q k) = same_lists s.store.outputs
  effect-grows s x e (alt-communication g c m k h q w y) = same_lists s.store.outputs
  effect-grows s x e (stopping g h) = same_lists s.store.outputs

  pub step-grows : (s : State) (x : Label) (t : State) → Step P sheet s x t → Grows s.store.outputs t.store.outputs
  step-grows s x t h = subst (Grows s.store.outputs) (sym (settling-outputs P h.leaves.by-rules)) (effect-grows s x h.does h.allowed)

  grows-on : (l m k : List (List Message)) → Grows l m → Grows m k → Grows l k
  grows-on l m k g h c = let (a, e) = g c in let (b, f) = h c in (a ++ b, f ∙ ap (λ (z : List Message). z ++ b) e ∙ append_assoc (get_or l c []) a b)

  pub order-grows : {s t : State} {l : List Label} → Order P sheet s l t → Grows s.store.outputs t.store.outputs
  order-grows {s} halt = same_lists s.store.outputs
  order-grows (next-step {s} {t} {u} {x} h o) = grows-on s.store.outputs t.store.outputs u.store.outputs (step-grows s x t h) (order-grows o)
