-- A step that can be taken, told by what its rows would do: one row by itself, an input and an output, an ALT's option without or with an output.
use mathlib.Core.Path.{◌≡◌, refl, sym, ap, ap₂, subst, ◌∙◌}
use mathlib.Core.Bool.{Bool, true, false}
use mathlib.Core.Option.{Option, some, none-ne-some, some-injective}
use mathlib.Core.List.{List, [], ◌∷◌, Memᴰ}
use Prim.Native.Nat.{ℕ}
use native.Mathlib.Omega.{arith}
use lib.Dec.{eqb, T, eqb→eq}
use Rattle.meaning.specs.Basics.{if_else}
use Rattle.meaning.specs.Values.{Message}
use Rattle.meaning.specs.State.{Write, write_cell, Effect}
use Rattle.meaning.specs.Labels.{Label, own, pass, take_option, take_with_output}
use Rattle.meaning.specs.Intent.{Offer, open_offer, input_offer, Intent, waits, moves, inputs_from, outputs_to, selects}
use Rattle.meaning.specs.Ready.{own_effect, WaitingInput, communication_where, communication_effect, pass_effect, take_option_effect, take_with_output_effect, option_row, offer_effect_at, offer_effect, effect_of}
use Rattle.meaning.specs.Step.{becomes, effect}
pub use Rattle.agreement.specs.RowsOfSteps.{RowOf, of-own, of-input, of_output, of-alt, of-alt-input, of-alt-output, offer_at}

eqb_is : (m n : ℕ) → eqb m n ≡ true → m ≡ n
eqb_is m n e = eqb→eq m n (subst (λ (t : Bool). T t) (sym e) tt)

-- it is one of the offers, and of that option
pub offer_at-is : (j : ℕ) (o : Offer) (os : List Offer) → offer_at j os ≡ some o → Memᴰ o os × (option_row o ≡ j)
offer_at-is j o [] e = absurd (none-ne-some o e)
offer_at-is j o (p ∷ os) e = go (eqb (option_row p) j) refl e (λ q. offer_at-is j o os q)
  where
    go : (t : Bool) → eqb (option_row p) j ≡ t → if_else t (some p) (offer_at j os) ≡ some o → (offer_at j os ≡ some o → Memᴰ o os × (option_row o ≡ j)) → Memᴰ o (p ∷ os) × (option_row o ≡ j)
    go true g e k = let q = some-injective p o e in (Memᴰ.head (sym q), ap option_row (sym q) ∙ eqb_is (option_row p) j g)
    go false g e k = let (m, h) = k e in (Memᴰ.tail m, h)

-- what is found of an option is found of its first offer
found_at : (j : ℕ) (f : Offer → Option Effect) (e : Effect) (os : List Offer) → offer_effect_at j f os ≡ some e → (o : Offer) × (offer_at j os ≡ some o) × (f o ≡ some e)
found_at j f e [] q = absurd (none-ne-some e q)
found_at j f e (p ∷ os) q = go (eqb (option_row p) j) q (λ z. found_at j f e os z)
  where
    go : (t : Bool) → if_else t (f p) (offer_effect_at j f os) ≡ some e → (offer_effect_at j f os ≡ some e → (o : Offer) × (offer_at j os ≡ some o) × (f o ≡ some e))
        → (o : Offer) × (if_else t (some p) (offer_at j os) ≡ some o) × (f o ≡ some e)
    go true q k = (p, refl, q)
    go false q k = k q

-- a step that can be taken, and what it does, where w is what each row would do
pub data Active (w : ℕ → Intent) : Label → Effect → Type 0 where
  acts-alone : {r x v : ℕ} {ws : List Write} → w r ≡ moves x v ws → Active w (own r) (effect (becomes r x v ∷ []) ws)
  passes_on : {i o e a : ℕ} {z : Message} → w i ≡ inputs_from e a → w o ≡ outputs_to e z → Active w (pass i o) (effect (becomes i i 2 ∷ becomes o o 2 ∷ []) (write_cell a z ∷ []))
  takes-open : {r j q i : ℕ} {ws : List Write} {os : List Offer} → w r ≡ selects os → offer_at j os ≡ some (open_offer i q ws) → Active w (take_option r j) (effect (becomes r q 1 ∷ []) ws)
  takes-input : {r j o q i e a : ℕ} {z : Message} {os : List Offer} → w r ≡ selects os → offer_at j os ≡ some (input_offer i q e a) → w o ≡ outputs_to e z
      → Active w (take_with_output r j o) (effect (becomes r q 1 ∷ becomes o o 2 ∷ []) (write_cell a z ∷ []))

module _ (w : ℕ → Intent) where
  same_effect : (x : Label) (e f : Effect) → ◌≡◌ {A = Option Effect} (some f) (some e) → Active w x f → Active w x e
  same_effect x e f q h = subst (λ (g : Effect). Active w x g) (some-injective f e q) h

  active-own : (r : ℕ) (e : Effect) (u : Intent) → w r ≡ u → own_effect r u ≡ some e → Active w (own r) e
  active-own r e waits h q = absurd (none-ne-some e q)
  active-own r e (moves x v ws) h q = same_effect (own r) e (effect (becomes r x v ∷ []) ws) q (acts-alone h)
  active-own r e (inputs_from d a) h q = absurd (none-ne-some e q)
  active-own r e (outputs_to d v) h q = absurd (none-ne-some e q)
  active-own r e (selects l) h q = absurd (none-ne-some e q)

  -- the row o outputs to the element at which a receiver meets it
  meets-output : (x : Label) (e : Effect) (i : WaitingInput) (o : ℕ) (u : Intent) → w o ≡ u → ((z : Message) → w o ≡ outputs_to i.element z → Active w x (effect (i.change ∷ becomes o o 2 ∷ []) (write_cell i.cell z ∷ [])))
      → communication_effect i o u ≡ some e → Active w x e
  meets-output x e i o waits h k q = absurd (none-ne-some e q)
  meets-output x e i o (moves c b ws) h k q = absurd (none-ne-some e q)
  meets-output x e i o (inputs_from c b) h k q = absurd (none-ne-some e q)
  meets-output x e i o (selects l) h k q = absurd (none-ne-some e q)
  meets-output x e i o (outputs_to f z) h k q = go (eqb i.element f) refl q
    where
      go : (t : Bool) → eqb i.element f ≡ t → communication_where t i o z ≡ some e → Active w x e
      go true g q = same_effect x e (effect (i.change ∷ becomes o o 2 ∷ []) (write_cell i.cell z ∷ [])) q (k z (h ∙ ap (λ (c : ℕ). outputs_to c z) (sym (eqb_is i.element f g))))
      go false g q = absurd (none-ne-some e q)

  active-pass : (i o : ℕ) (e : Effect) (u : Intent) → w i ≡ u → pass_effect i o u (w o) ≡ some e → Active w (pass i o) e
  active-pass i o e waits h q = absurd (none-ne-some e q)
  active-pass i o e (moves x v ws) h q = absurd (none-ne-some e q)
  active-pass i o e (inputs_from d a) h q = meets-output (pass i o) e (record { element = d; cell = a; change = becomes i i 2 }) o (w o) refl (λ z g. passes_on h g) q
  active-pass i o e (outputs_to d v) h q = absurd (none-ne-some e q)
  active-pass i o e (selects l) h q = absurd (none-ne-some e q)

  -- a step of an ALT, by the offer that f is put to
  active-offer : (x : Label) (r j : ℕ) (e : Effect) (f : Offer → Option Effect) → ((os : List Offer) (o : Offer) → w r ≡ selects os → offer_at j os ≡ some o → f o ≡ some e → Active w x e)
      → (u : Intent) → w r ≡ u → offer_effect j f u ≡ some e → Active w x e
  active-offer x r j e f k waits h q = absurd (none-ne-some e q)
  active-offer x r j e f k (moves y v ws) h q = absurd (none-ne-some e q)
  active-offer x r j e f k (inputs_from d a) h q = absurd (none-ne-some e q)
  active-offer x r j e f k (outputs_to d v) h q = absurd (none-ne-some e q)
  active-offer x r j e f k (selects os) h q = let (o, g, z) = found_at j f e os q in k os o h g z

  active-take : (r j : ℕ) (e : Effect) (os : List Offer) (o : Offer) → w r ≡ selects os → offer_at j os ≡ some o → take_option_effect r o ≡ some e → Active w (take_option r j) e
  active-take r j e os (open_offer i q ws) h g z = same_effect (take_option r j) e (effect (becomes r q 1 ∷ []) ws) z (takes-open h g)
  active-take r j e os (input_offer i q d a) h g z = absurd (none-ne-some e z)

  active-take_from : (r j o : ℕ) (e : Effect) (os : List Offer) (p : Offer) → w r ≡ selects os → offer_at j os ≡ some p → take_with_output_effect r o (w o) p ≡ some e → Active w (take_with_output r j o) e
  active-take_from r j o e os (open_offer i q ws) h g z = absurd (none-ne-some e z)
  active-take_from r j o e os (input_offer i q d a) h g z = meets-output (take_with_output r j o) e (record { element = d; cell = a; change = becomes r q 1 }) o (w o) refl (λ m k. takes-input h g k) z

  pub active : (x : Label) (e : Effect) → effect_of x w ≡ some e → Active w x e
  active (own r) e q = active-own r e (w r) refl q
  active (pass i o) e q = active-pass i o e (w i) refl q
  active (take_option r j) e q = active-offer (take_option r j) r j e (take_option_effect r) (active-take r j e) (w r) refl q
  active (take_with_output r j o) e q = active-offer (take_with_output r j o) r j e (take_with_output_effect r o (w o)) (active-take_from r j o e) (w r) refl q

-- a step does the same where its rows would do the same
pub effect-same : (x : Label) (w u : ℕ → Intent) → ((r : ℕ) → RowOf x r → w r ≡ u r) → effect_of x w ≡ effect_of x u
effect-same (own r) w u h = ap (own_effect r) (h r of-own)
effect-same (pass i o) w u h = ap₂ (pass_effect i o) (h i of-input) (h o of_output)
effect-same (take_option r j) w u h = ap (offer_effect j (take_option_effect r)) (h r of-alt)
effect-same (take_with_output r j o) w u h = ap₂ (λ (a b : Intent). offer_effect j (take_with_output_effect r o a) b) (h o of-alt-output) (h r of-alt-input)

-- ---- what a row would do is one thing

module _ {u : Intent} {A : Type 0} where
  pub not-input : {x v e a : ℕ} {ws : List Write} → u ≡ moves x v ws → u ≡ inputs_from e a → A
  not-input p q = let z : ◌≡◌ {A = ℕ} 0 1 = cc in absurd (omega arith)

  pub not-output : {x v e : ℕ} {ws : List Write} {m : Message} → u ≡ moves x v ws → u ≡ outputs_to e m → A
  not-output p q = let z : ◌≡◌ {A = ℕ} 0 1 = cc in absurd (omega arith)

  pub not-selects : {x v : ℕ} {ws : List Write} {os : List Offer} → u ≡ moves x v ws → u ≡ selects os → A
  not-selects p q = let z : ◌≡◌ {A = ℕ} 0 1 = cc in absurd (omega arith)

  pub input-output : {e a d : ℕ} {m : Message} → u ≡ inputs_from e a → u ≡ outputs_to d m → A
  input-output p q = let z : ◌≡◌ {A = ℕ} 0 1 = cc in absurd (omega arith)

  pub input-selects : {e a : ℕ} {os : List Offer} → u ≡ inputs_from e a → u ≡ selects os → A
  input-selects p q = let z : ◌≡◌ {A = ℕ} 0 1 = cc in absurd (omega arith)

  pub output-selects : {e : ℕ} {m : Message} {os : List Offer} → u ≡ outputs_to e m → u ≡ selects os → A
  output-selects p q = let z : ◌≡◌ {A = ℕ} 0 1 = cc in absurd (omega arith)

module _ {u : Intent} where
  pub input-same : {e a d b : ℕ} → u ≡ inputs_from e a → u ≡ inputs_from d b → e ≡ d
  input-same p q = cc

  pub output-same : {e d : ℕ} {m k : Message} → u ≡ outputs_to e m → u ≡ outputs_to d k → e ≡ d
  output-same p q = cc

  pub selects-same : {os ps : List Offer} → u ≡ selects os → u ≡ selects ps → os ≡ ps
  selects-same p q = cc

module _ {u : Option Offer} where
  pub open-input : {A : Type 0} {i q j p e a : ℕ} {ws : List Write} → u ≡ some (open_offer i q ws) → u ≡ some (input_offer j p e a) → A
  open-input p q = let z : ◌≡◌ {A = ℕ} 0 1 = cc in absurd (omega arith)

  pub offer-same : {i q e a j p d b : ℕ} → u ≡ some (input_offer i q e a) → u ≡ some (input_offer j p d b) → e ≡ d
  offer-same p q = cc
