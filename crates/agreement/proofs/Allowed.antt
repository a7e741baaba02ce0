-- Every step that the machine takes is one that the rules allow.
use mathlib.Core.Path.{◌≡◌, refl, sym, subst}
use mathlib.Core.Bool.{Bool, true, false, true≢false}
use mathlib.Core.Option.{Option, none, some, none-ne-some, some-injective}
use mathlib.Core.List.{List, [], ◌∷◌, ◌++◌, Memᴰ}
use Prim.Native.Nat.{ℕ, suc, ◌+◌}
use lib.IntN.{ℤ}
use lib.ListN.{length, get_or, get_elem?}
use lib.Dec.{ltb, eqb, T, eqb→eq, ltb→lt}
use Rattle.meaning.specs.declared.Value.{Value}
use Rattle.meaning.specs.declared.Value.TheVariants.{Number, Missing}
use Rattle.meaning.specs.declared.Index.{Index}
use Rattle.meaning.specs.declared.Index.TheVariants.{At, Fails}
use Rattle.meaning.specs.Basics.{if_else}
use Rattle.meaning.specs.Declarations.{Variable, Channel}
use Rattle.meaning.specs.Tree.{Expr, ChannelInput, IfChoice, AltOption, Action, stop, skip, sequence, parallel, assign, input, output, conditional, loop, alternation, block, Process, node, action_of, processes_in, rows_beneath}
use Rattle.meaning.specs.Values.{Message, is_true, value, index, Sent, gives, lacking, passed}
use Rattle.meaning.specs.State.{State, Program, process_at, Write, write_cell, write_place, write_output, Effect}
use Rattle.meaning.specs.Labels.{Label, own, pass, take_option, take_with_output}
use Rattle.meaning.specs.Readings.{Sheet}
use Rattle.meaning.specs.Intent.{Offer, open_offer, input_offer, Intent, waits, moves, inputs_from, outputs_to, selects, assigning, testing, choosing, host_write, outputting, InputResult, lacks, not_yet, reads, from_element, host_read, input_result_of, inputting, OptionsResult, fails, offers, adding, admitting, opening, guarding, selecting, input_result, input_result_if, tests, options_result, intent}
use Rattle.meaning.specs.Ready.{all_idle, is_live, intent_at, own_effect, WaitingInput, communication_where, communication_effect, pass_effect, take_option_effect, take_with_output_effect, option_row, offer_effect_at, offer_effect, effect_of}
use Rattle.meaning.proofs.PassedLaws.{passed-passes, passed-lacks}
use Rattle.meaning.specs.Step.{channel_element, target_cell, Holds, holds, refuted, LacksIn, channel-lacks, target_lacks, FirstTrue, LacksTest, boolean-lacks, input-lacks, Complete, closed, open-skip, open-input, LacksOption, AllComplete, complete-none, complete-more, assign-subscript, assign-value, input-subscript, output-subscript, output-value, while-test, if-test, alt-guard, InnerInput, inner-input, HostInput, host-input, InnerOutput, inner-output, Live, becomes, effect, Allows, assignment, while-false, while-true, if-true, communication, host-read, host-write, alt-skip, alt-read, alt-communication, stopping}
use Rattle.meaning.proofs.Decides.{both_true}

is_true_lem : (t : Bool) → t ≡ true → T t
is_true_lem true e = tt
is_true_lem false e = absurd (true≢false (sym e))

module _ (P : Program) (sheet : Sheet) (s : State) where
  abbrev cells : List (Option ℤ)
  cells = s.store.cells

  -- row r may become v, with these writes, as a step of its own
  abbrev Own : ℕ → ℕ → ℕ → List Write → Type 0
  Own r x v ws = Allows P sheet s (own r) (effect (becomes r x v ∷ []) ws)

  -- an offer that a branch of l makes
  data OfferOf (l : List AltOption) : Offer → Type 0 where
    by-skip : (b : AltOption) → Memᴰ b l → Holds cells b.guard.boolean → b.guard.input ≡ none → OfferOf l (open_offer b.row b.process [])
    by-host : (b : AltOption) (i : ChannelInput) (a n : ℕ) (v : Option ℤ) → Memᴰ b l → Holds cells b.guard.boolean → b.guard.input ≡ some i → HostInput sheet s.store i a v n
        → OfferOf l (open_offer b.row b.process (write_cell a v ∷ write_place i.channel.number (suc n) ∷ []))
    by-inner : (b : AltOption) (i : ChannelInput) (e a : ℕ) → Memᴰ b l → Holds cells b.guard.boolean → b.guard.input ≡ some i → InnerInput s.store i e a
        → OfferOf l (input_offer b.row b.process e a)

  widen : (b : AltOption) (l : List AltOption) (o : Offer) → OfferOf l o → OfferOf (b ∷ l) o
  widen b l o (by-skip c m h e) = by-skip c (Memᴰ.tail m) h e
  widen b l o (by-host c i a n v m h e g) = by-host c i a n v (Memᴰ.tail m) h e g
  widen b l o (by-inner c i e a m h q g) = by-inner c i e a (Memᴰ.tail m) h q g

  data AllOf (l : List AltOption) : List Offer → Type 0 where
    no-offer : AllOf l []
    one_more : {o : Offer} {os : List Offer} → OfferOf l o → AllOf l os → AllOf l (o ∷ os)

  widen-all : (b : AltOption) (l : List AltOption) {os : List Offer} → AllOf l os → AllOf (b ∷ l) os
  widen-all b l no-offer = no-offer
  widen-all b l (one_more {o} h hs) = one_more (widen b l o h) (widen-all b l hs)

  -- what a want means by the rules
  abbrev Sound : ℕ → Intent → Type 0
  Sound r waits = Unit {0}
  Sound r (moves x v ws) = Own r x v ws
  Sound r (inputs_from e a) = (i : ChannelInput) × Live P s r (input i) × InnerInput s.store i e a
  Sound r (outputs_to d z) = (c : Channel) × ((e : Expr) × ((f : Expr) × (Live P s r (output c e f) × InnerOutput s.store c e f d z)))
  Sound r (selects os) = (bs : List AltOption) × Live P s r (alternation bs) × AllComplete cells bs × AllOf bs os

  sound-assign : (r : ℕ) (v : Variable) (e f : Expr) → Live P s r (assign v e f) → (I : Index) (W : Value) → index cells v.first v.size e ≡ I → value cells f ≡ W → Sound r (assigning r I W)
  sound-assign r v e f g (Fails k) W p q = stopping g (assign-subscript p)
  sound-assign r v e f g (At a) (Missing k) p q = stopping g (assign-value p q)
  sound-assign r v e f g (At a) (Number z) p q = assignment g p q

  sound-while : (r b : ℕ) (e : Expr) → Live P s r (loop e b) → (W : Value) → value cells e ≡ W → Sound r (testing r b W)
  sound-while r b e g (Missing k) p = stopping g (while-test p)
  sound-while r b e g (Number x) p = go (is_true x) refl
    where
      go : (t : Bool) → is_true x ≡ t → Sound r (if_else t (moves b 1 []) (moves r 2 []))
      go true q = while-true g (holds p q)
      go false q = while-false g (refuted p q)

  sound-test : (r q : ℕ) (w : Intent) (W : Value) → ((k : ℕ) → W ≡ Missing k → Own r r (10 + k) []) → ((x : ℤ) → W ≡ Number x → is_true x ≡ true → Own r q 1 []) → ((x : ℤ) → W ≡ Number x → is_true x ≡ false → Sound r w)
      → Sound r (choosing r q W w)
  sound-test r q w (Missing k) a b c = a k refl
  sound-test r q w (Number x) a b c = go (is_true x) refl
    where
      go : (t : Bool) → is_true x ≡ t → Sound r (if_else t (moves q 1 []) w)
      go true e = b x refl e
      go false e = c x refl e

  sound-tests : (r : ℕ) (l : List IfChoice) → ((q : ℕ) → FirstTrue cells l q → Own r q 1 []) → ((k : ℕ) → LacksTest cells l k → Own r r (10 + k) []) → Sound r (tests sheet r l s.store)
  sound-tests r [] f g = tt
  sound-tests r (t ∷ l) f g =
      sound-test r t.process (tests sheet r l s.store) (value cells t.boolean) (λ k e. g k (LacksTest.test-lacks e)) (λ x e h. f t.process (FirstTrue.true-first (holds e h)))
      (λ x e h. sound-tests r l (λ q z. f q (FirstTrue.false-before (refuted e h) z)) (λ k z. g k (LacksTest.false-before-lack (refuted e h) z)))

  -- what a reception means
  abbrev Received : ChannelInput → InputResult → Type 0
  Received i (lacks k) = LacksIn cells i k
  Received i not_yet = (e : ℕ) × ((a : ℕ) × ((channel_element cells i ≡ At e) × (target_cell cells i ≡ At a)))
  Received i (reads ws) = (a : ℕ) × ((n : ℕ) × ((v : Option ℤ) × (HostInput sheet s.store i a v n × (ws ≡ write_cell a v ∷ write_place i.channel.number (suc n) ∷ []))))
  Received i (from_element e a) = InnerInput s.store i e a

  received : (i : ChannelInput) (I J : Index) → channel_element cells i ≡ I → target_cell cells i ≡ J → Received i (input_result_of sheet s.store.places i.channel I J)
  received i (Fails k) J p q = channel-lacks p
  received i (At e) (Fails k) p q = target_lacks p q
  received i (At e) (At a) p q = go i.channel.host refl
    where
      n : ℕ
      n = get_or s.store.places i.channel.number 0

      read : (o : Option (Option ℤ)) → i.channel.host ≡ true → get_elem? (get_or sheet i.channel.number []) n ≡ o → Received i (host_read i.channel.number n a o)
      read none h g = (e, (a, (p, q)))
      read (some v) h g = (a, (n, (v, (host-input h p q refl g, refl))))

      go : (t : Bool) → i.channel.host ≡ t → Received i (if_else t (host_read i.channel.number n a (get_elem? (get_or sheet i.channel.number []) n)) (from_element e a))
      go true h = read (get_elem? (get_or sheet i.channel.number []) n) h refl
      go false h = inner-input h p q

  reception-is : (i : ChannelInput) → Received i (input_result sheet i s.store)
  unfolding input_result
  reception-is i = received i (channel_element cells i) (target_cell cells i) refl refl

  sound-input : (r : ℕ) (i : ChannelInput) → Live P s r (input i) → (R : InputResult) → Received i R → Sound r (inputting r R)
  sound-input r i g (lacks k) h = stopping g (input-subscript h)
  sound-input r i g not_yet h = tt
  sound-input r i g (reads ws) h = rw h.1.1.1.1 (host-read g h.1.1.1.0)
  sound-input r i g (from_element e a) h = (i, g, h)

  sound-output : (r : ℕ) (c : Channel) (e f : Expr) → Live P s r (output c e f) → (I : Index) (W : Sent) → index cells c.first c.size e ≡ I → passed cells f ≡ W → Sound r (outputting r c s.store.outputs I W)
  sound-output r c e f g (Fails k) W p q = stopping g (output-subscript p)
  sound-output r c e f g (At d) (lacking k) p q = let (v, never) = passed-lacks cells f k q in stopping g (output-value p v never)
  sound-output r c e f g (At d) (gives z) p q = go c.host refl
    where
      l : List Message
      l = get_or s.store.outputs c.number []

      room : (t : Bool) → c.host ≡ true → ltb (length l) c.capacity ≡ t → Sound r (if_else t (moves r 2 (write_output c.number (l ++ (z ∷ [])) ∷ [])) waits)
      room true h u = host-write g h p (passed-passes cells f z q) refl (ltb→lt (length l) c.capacity (is_true_lem (ltb (length l) c.capacity) u))
      room false h u = tt

      go : (t : Bool) → c.host ≡ t → Sound r (if_else t (host_write r c l z) (outputs_to d z))
      go true h = room (ltb (length l) c.capacity) h refl
      go false h = (c, (e, (f, (g, inner-output h p (passed-passes cells f z q)))))

  -- what options looked at mean
  abbrev LookedAt : List AltOption → OptionsResult → Type 0
  LookedAt l (fails k) = LacksOption cells l k
  LookedAt l (offers os) = AllComplete cells l × AllOf l os

  look-add : (b : AltOption) (l : List AltOption) (o : Offer) (L : OptionsResult) → Complete cells b → OfferOf (b ∷ l) o → LookedAt l L → LookedAt (b ∷ l) (adding o L)
  look-add b l o (fails k) c h g = LacksOption.pass-over c g
  look-add b l o (offers os) c h g = (complete-more c g.0, one_more h (widen-all b l g.1))

  look-pass : (b : AltOption) (l : List AltOption) (L : OptionsResult) → Complete cells b → LookedAt l L → LookedAt (b ∷ l) L
  look-pass b l (fails k) c g = LacksOption.pass-over c g
  look-pass b l (offers os) c g = (complete-more c g.0, widen-all b l g.1)

  complete-host : (b : AltOption) {i : ChannelInput} {a n : ℕ} {v : Option ℤ} → Holds cells b.guard.boolean → b.guard.input ≡ some i → HostInput sheet s.store i a v n → Complete cells b
  complete-host b h q (host-input t c d g k) = open-input h q c d

  complete-inner : (b : AltOption) {i : ChannelInput} {e a : ℕ} → Holds cells b.guard.boolean → b.guard.input ≡ some i → InnerInput s.store i e a → Complete cells b
  complete-inner b h q (inner-input t c d) = open-input h q c d

  look-input : (b : AltOption) (l : List AltOption) (i : ChannelInput) (R : InputResult) (L : OptionsResult) → Holds cells b.guard.boolean → b.guard.input ≡ some i → Received i R → LookedAt l L → LookedAt (b ∷ l) (admitting b.row b.process R L)
  look-input b l i (lacks k) L h q g t = LacksOption.option-lacks (input-lacks h q g)
  look-input b l i not_yet L h q g t = look-pass b l L (open-input h q g.1.1.0 g.1.1.1) t
  look-input b l i (reads ws) L h q (a, (n, (v, (g, e)))) t =
      rw e (look-add b l (open_offer b.row b.process (write_cell a v ∷ write_place i.channel.number (suc n) ∷ [])) L (complete-host b h q g) (by-host b i a n v (Memᴰ.head refl) h q g) t)
  look-input b l i (from_element e a) L h q g t = look-add b l (input_offer b.row b.process e a) L (complete-inner b h q g) (by-inner b i e a (Memᴰ.head refl) h q g) t

  look-open : (b : AltOption) (l : List AltOption) (o : Option ChannelInput) (L : OptionsResult) → Holds cells b.guard.boolean → b.guard.input ≡ o → LookedAt l L → LookedAt (b ∷ l) (opening b.row b.process (input_result_if sheet o s.store) L)
  look-open b l none L h q t = look-add b l (open_offer b.row b.process []) L (open-skip h q) (by-skip b (Memᴰ.head refl) h q) t
  look-open b l (some i) L h q t = look-input b l i (input_result sheet i s.store) L h q (reception-is i) t

  look-guard : (b : AltOption) (l : List AltOption) (W : Value) (L : OptionsResult) → value cells b.guard.boolean ≡ W → LookedAt l L → LookedAt (b ∷ l) (guarding b.row b.process W (input_result_if sheet b.guard.input s.store) L)
  look-guard b l (Missing k) L p t = LacksOption.option-lacks (boolean-lacks p)
  look-guard b l (Number x) L p t = go (is_true x) refl
    where
      go : (u : Bool) → is_true x ≡ u → LookedAt (b ∷ l) (if_else u (opening b.row b.process (input_result_if sheet b.guard.input s.store) L) L)
      go true q = look-open b l b.guard.input L (holds p q) refl t
      go false q = look-pass b l L (closed (refuted p q)) t

  looked : (l : List AltOption) → LookedAt l (options_result sheet l s.store)
  looked [] = (complete-none, no-offer)
  looked (b ∷ l) = look-guard b l (value cells b.guard.boolean) (options_result sheet l s.store) refl (looked l)

  sound-select : (r : ℕ) (bs : List AltOption) → Live P s r (alternation bs) → (L : OptionsResult) → LookedAt bs L → Sound r (selecting r L)
  sound-select r bs g (fails k) h = stopping g (alt-guard h)
  sound-select r bs g (offers os) h = (bs, g, h.0, h.1)

  -- what an action wants is sound
  sound : (r : ℕ) (a : Action) → Live P s r a → Sound r (intent sheet a r s.store)
  unfolding intent
  sound r stop g = tt
  sound r skip g = tt
  sound r sequence g = tt
  sound r parallel g = tt
  sound r (assign v e f) g = sound-assign r v e f g (index cells v.first v.size e) (value cells f) refl refl
  sound r (input i) g = sound-input r i g (input_result sheet i s.store) (reception-is i)
  sound r (output c e f) g = sound-output r c e f g (index cells c.first c.size e) (passed cells f) refl refl
  sound r (conditional ts) g = sound-tests r ts (λ q h. if-true g h) (λ k h. stopping g (if-test h))
  sound r (loop e b) g = sound-while r b e g (value cells e) refl
  sound r (alternation bs) g = sound-select r bs g (options_result sheet bs s.store) (looked bs)
  sound r (block v) g = tt

  idle-all : (l : List ℕ) → all_idle l s.states ≡ true → (b : ℕ) → Memᴰ b l → get_or s.states b 0 ≡ 0
  idle-all [] e b x'' = elim x'' [ ]
  idle-all (r ∷ l) e b (Memᴰ.head q) =
      rw q (eqb→eq (get_or s.states r 0) 0 (is_true_lem (eqb (get_or s.states r 0) 0) (both_true (eqb (get_or s.states r 0) 0) (all_idle l s.states) e).0))
  idle-all (r ∷ l) e b (Memᴰ.tail m) = idle-all l (both_true (eqb (get_or s.states r 0) 0) (all_idle l s.states) e).1 b m

  -- a row that is live by the test is live by the rule
  live-is : (r : ℕ) → is_live P sheet r s ≡ true → Live P s r (action_of (process_at P r))
  unfolding is_live
  live-is r e =
      let (u, v) = both_true (eqb (get_or s.states r 0) 1) (all_idle (rows_beneath (processes_in (process_at P r))) s.states) e in
      go (process_at P r) refl (eqb→eq (get_or s.states r 0) 1 (is_true_lem (eqb (get_or s.states r 0) 1) u)) v
    where
      go : (p : Process) → process_at P r ≡ p → get_or s.states r 0 ≡ 1 → all_idle (rows_beneath (processes_in p)) s.states ≡ true → Live P s r (action_of p)
      go (node a q ms) e u v = Live.live e u (idle-all (rows_beneath ms) v)

  wanted : (r : ℕ) → Sound r (intent_at P sheet s r)
  unfolding intent_at
  wanted r = go (is_live P sheet r s) refl
    where
      go : (t : Bool) → is_live P sheet r s ≡ t → Sound r (if_else t (intent sheet (action_of (process_at P r)) r s.store) waits)
      go true e = sound r (action_of (process_at P r)) (live-is r e)
      go false e = tt

  -- a rule allows the step with effect e
  abbrev To : Label → Effect → Type 0
  To x e = Allows P sheet s x e

  to : (x : Label) (e f : Effect) → ◌≡◌ {A = Option Effect} (some f) (some e) → To x f → To x e
  to x e f q h = subst (λ (g : Effect). To x g) (some-injective f e q) h

  own-allowed : (r : ℕ) (e : Effect) (w : Intent) → Sound r w → own_effect r w ≡ some e → To (own r) e
  own-allowed r e waits h q = absurd (none-ne-some e q)
  own-allowed r e (moves x v ws) h q = to (own r) e (effect (becomes r x v ∷ []) ws) q h
  own-allowed r e (inputs_from d a) h q = absurd (none-ne-some e q)
  own-allowed r e (outputs_to d v) h q = absurd (none-ne-some e q)
  own-allowed r e (selects l) h q = absurd (none-ne-some e q)

  -- the two sides of a communication at one element
  meet-allowed : (x : Label) (e : Effect) (i : WaitingInput) (o : ℕ) (u : Intent) → Sound o u
      → ((z : Message) → Sound o (outputs_to i.element z) → To x (effect (i.change ∷ becomes o o 2 ∷ []) (write_cell i.cell z ∷ []))) → communication_effect i o u ≡ some e → To x e
  meet-allowed x e i o waits h k q = absurd (none-ne-some e q)
  meet-allowed x e i o (moves c w ws) h k q = absurd (none-ne-some e q)
  meet-allowed x e i o (inputs_from c w) h k q = absurd (none-ne-some e q)
  meet-allowed x e i o (selects l) h k q = absurd (none-ne-some e q)
  meet-allowed x e i o (outputs_to f z) h k q = go (eqb i.element f) refl q
    where
      go : (t : Bool) → eqb i.element f ≡ t → communication_where t i o z ≡ some e → To x e
      go true g q = to x e (effect (i.change ∷ becomes o o 2 ∷ []) (write_cell i.cell z ∷ [])) q (k z (rw (eqb→eq i.element f (is_true_lem (eqb i.element f) g)) h))
      go false g q = absurd (none-ne-some e q)

  pass-allowed : (i o : ℕ) (e : Effect) (w u : Intent) → Sound i w → Sound o u → pass_effect i o w u ≡ some e → To (pass i o) e
  pass-allowed i o e waits u h k q = absurd (none-ne-some e q)
  pass-allowed i o e (moves x v ws) u h k q = absurd (none-ne-some e q)
  pass-allowed i o e (outputs_to d v) u h k q = absurd (none-ne-some e q)
  pass-allowed i o e (selects l) u h k q = absurd (none-ne-some e q)
  pass-allowed i o e (inputs_from d a) u h k q =
      meet-allowed (pass i o) e (record { element = d; cell = a; change = becomes i i 2 }) o u k (λ z g. communication h.1 g.1.1.1.0 h.2 g.1.1.1.1) q

  -- an option's offer, put to f
  offer-allowed : (x : Label) (e : Effect) (j : ℕ) (bs : List AltOption) (f : Offer → Option Effect)
      → ((o : Offer) → OfferOf bs o → option_row o ≡ j → f o ≡ some e → To x e) → (os : List Offer) → AllOf bs os → offer_effect_at j f os ≡ some e → To x e
  offer-allowed x e j bs f k os no-offer q = absurd (none-ne-some e q)
  offer-allowed x e j bs f k os (one_more {o} {os = l} h hs) q = go (eqb (option_row o) j) refl q (λ z. offer-allowed x e j bs f k l hs z)
    where
      go : (t : Bool) → eqb (option_row o) j ≡ t → if_else t (f o) (offer_effect_at j f l) ≡ some e → (offer_effect_at j f l ≡ some e → To x e) → To x e
      go true g q ih = k o h (eqb→eq (option_row o) j (is_true_lem (eqb (option_row o) j) g)) q
      go false g q ih = ih q

  one-take : (r j : ℕ) (e : Effect) (bs : List AltOption) → Live P s r (alternation bs) → AllComplete cells bs → (o : Offer) → OfferOf bs o → option_row o ≡ j → take_option_effect r o ≡ some e → To (take_option r j) e
  one-take r j e bs g c o (by-skip b m h i) n q = to (take_option r j) e (effect (becomes r b.process 1 ∷ []) []) q (rw (← n) (alt-skip g c m h i))
  one-take r j e bs g c o (by-host b i a k v m h u t) n q =
      to (take_option r j) e (effect (becomes r b.process 1 ∷ []) (write_cell a v ∷ write_place i.channel.number (suc k) ∷ [])) q (rw (← n) (alt-read g c m h u t))
  one-take r j e bs g c o (by-inner b i d a m h u t) n q = absurd (none-ne-some e q)

  one-take_from : (r j o : ℕ) (e : Effect) (u : Intent) (bs : List AltOption) → Sound o u → Live P s r (alternation bs) → AllComplete cells bs → (p : Offer) → OfferOf bs p → option_row p ≡ j → take_with_output_effect r o u p ≡ some e
      → To (take_with_output r j o) e
  one-take_from r j o e u bs k g c p (by-skip b m h i) n q = absurd (none-ne-some e q)
  one-take_from r j o e u bs k g c p (by-host b i a y v m h w t) n q = absurd (none-ne-some e q)
  one-take_from r j o e u bs k g c p (by-inner b i d a m h w t) n q =
      meet-allowed (take_with_output r j o) e (record { element = d; cell = a; change = becomes r b.process 1 }) o u k (λ z y. rw (← n) (alt-communication g c m y.1.1.1.0 h w t y.1.1.1.1)) q

  take-allowed : (x : Label) (j : ℕ) (e : Effect) (f : Offer → Option Effect) (r : ℕ) (w : Intent) → Sound r w
      → ((bs : List AltOption) → Live P s r (alternation bs) → AllComplete cells bs → (o : Offer) → OfferOf bs o → option_row o ≡ j → f o ≡ some e → To x e) → offer_effect j f w ≡ some e → To x e
  take-allowed x j e f r waits h k q = absurd (none-ne-some e q)
  take-allowed x j e f r (moves y v ws) h k q = absurd (none-ne-some e q)
  take-allowed x j e f r (inputs_from d a) h k q = absurd (none-ne-some e q)
  take-allowed x j e f r (outputs_to d v) h k q = absurd (none-ne-some e q)
  take-allowed x j e f r (selects os) h k q = offer-allowed x e j h.0 f (k h.0 h.1 h.2) os h.3 q

  -- what a ready step does is allowed by a rule
  pub allowed : (x : Label) (e : Effect) → effect_of x (intent_at P sheet s) ≡ some e → Allows P sheet s x e
  allowed (own r) e q = own-allowed r e (intent_at P sheet s r) (wanted r) q
  allowed (pass i o) e q = pass-allowed i o e (intent_at P sheet s i) (intent_at P sheet s o) (wanted i) (wanted o) q
  allowed (take_option r j) e q = take-allowed (take_option r j) j e (take_option_effect r) r (intent_at P sheet s r) (wanted r) (one-take r j e) q
  allowed (take_with_output r j o) e q =
      take-allowed (take_with_output r j o) j e (take_with_output_effect r o (intent_at P sheet s o)) r (intent_at P sheet s r) (wanted r) (λ bs g c p h n z. one-take_from r j o e (intent_at P sheet s o) bs (wanted o) g c p h n z) q
