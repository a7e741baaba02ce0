-- What each ready step does, told by what its rows would do, and the state that it leaves.
use mathlib.Core.Path.{◌≡◌, refl, ap, ◌∙◌}
use mathlib.Core.Bool.{Bool, true, false}
use mathlib.Core.Option.{Option, some, none-ne-some, some-injective}
use mathlib.Core.List.{List, [], ◌∷◌}
use Prim.Native.Nat.{ℕ}
use lib.Dec.{eqb}
use Rattle.meaning.specs.Basics.{if_else}
use Rattle.meaning.specs.Values.{Message}
use borrow.Author.Tests.{eq-eqb}
use Rattle.meaning.specs.State.{State, Program, Write, write_cell, Effect}
use Rattle.meaning.specs.Labels.{Label, own, pass, take_option, take_with_output}
use Rattle.meaning.specs.Readings.{Sheet}
use Rattle.meaning.specs.Settle.{settled}
use Rattle.meaning.specs.Intent.{Offer, open_offer, input_offer, Intent, moves, inputs_from, outputs_to, selects}
use Rattle.meaning.specs.Ready.{take_option_effect, take_with_output_effect, option_row, offer_effect_at, effect_of, intent_at, after}
use Rattle.meaning.specs.Step.{becomes, effect}
use Rattle.agreement.proofs.Active.{offer_at, Active, acts-alone, passes_on, takes-open, takes-input}

same : (n : ℕ) → eqb n n ≡ true
same n = eq-eqb n n refl

-- what an ALT's step does is what the first offer of its option tells
offer-effect : (j : ℕ) (f : Offer → Option Effect) (o : Offer) (os : List Offer) → offer_at j os ≡ some o → offer_effect_at j f os ≡ f o
offer-effect j f o [] e = absurd (none-ne-some o e)
offer-effect j f o (p ∷ os) e = go (eqb (option_row p) j) e (offer-effect j f o os)
  where
    go : (t : Bool) → if_else t (some p) (offer_at j os) ≡ some o → (offer_at j os ≡ some o → offer_effect_at j f os ≡ f o) → if_else t (f p) (offer_effect_at j f os) ≡ f o
    go true e k = ap f (some-injective p o e)
    go false e k = k e

module _ (w : ℕ → Intent) where
  -- a row that moves by itself
  pub own-effect : (r x v : ℕ) (ws : List Write) → w r ≡ moves x v ws → effect_of (own r) w ≡ some (effect (becomes r x v ∷ []) ws)
  own-effect r x v ws h = rw h

  -- an input and an output on one element
  pub pass-effect : (i o e a : ℕ) (z : Message) → w i ≡ inputs_from e a → w o ≡ outputs_to e z → effect_of (pass i o) w ≡ some (effect (becomes i i 2 ∷ becomes o o 2 ∷ []) (write_cell a z ∷ []))
  pass-effect i o e a z h g = rw (h, g, same e)

  -- an ALT and its option, by itself
  pub take-effect : (r j i q : ℕ) (ws : List Write) (os : List Offer) → w r ≡ selects os → offer_at j os ≡ some (open_offer i q ws) → effect_of (take_option r j) w ≡ some (effect (becomes r q 1 ∷ []) ws)
  take-effect r j i q ws os h g = rw h (offer-effect j (take_option_effect r) (open_offer i q ws) os g)

  -- an ALT and its option, with an output
  pub take_from-effect : (r j o i q e a : ℕ) (z : Message) (os : List Offer) → w r ≡ selects os → offer_at j os ≡ some (input_offer i q e a) → w o ≡ outputs_to e z
      → effect_of (take_with_output r j o) w ≡ some (effect (becomes r q 1 ∷ becomes o o 2 ∷ []) (write_cell a z ∷ []))
  take_from-effect r j o i q e a z os h g f = rw h (offer-effect j (take_with_output_effect r o (w o)) (input_offer i q e a) os g ∙ rw (f, same e))

  -- a step that can be taken does what is told of it
  pub active-effect : {x : Label} {e : Effect} → Active w x e → effect_of x w ≡ some e
  active-effect (acts-alone {r} {x} {v} {ws} h) = own-effect r x v ws h
  active-effect (passes_on {i} {o} {e} {a} {z} h g) = pass-effect i o e a z h g
  active-effect (takes-open {r} {j} {q} {i} {ws} {os} h g) = take-effect r j i q ws os h g
  active-effect (takes-input {r} {j} {o} {q} {i} {e} {a} {z} {os} h g f) = take_from-effect r j o i q e a z os h g f

-- the state that a step leaves
pub after-effect : (P : Program) (sheet : Sheet) (s : State) (x : Label) (e : Effect) → effect_of x (intent_at P sheet s) ≡ some e → after P sheet x s ≡ settled P e s
unfolding after
after-effect P sheet s x e h = rw h
