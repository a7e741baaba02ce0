-- Every step that the rules allow is one that the machine can take, with the same effect.
use mathlib.Core.Path.{◌≡◌, refl, sym, ap, subst, ◌∙◌}
use mathlib.Core.Logic.{◌≢◌}
use mathlib.Core.Bool.{Bool, true, false}
use mathlib.Core.Option.{Option, none, some, none-ne-some, some-injective}
use mathlib.Core.List.{List, [], ◌∷◌, ◌++◌, Memᴰ}
use Prim.Native.Nat.{ℕ, suc, ◌+◌, ◌<◌}
use lib.IntN.{ℤ}
use native.Mathlib.Omega.{arith}
use lib.ListN.{length, get_or, get_elem?}
use lib.Dec.{ltb, eqb, T, eqb_refl, eqb→eq, lt→ltb}
use Rattle.meaning.specs.declared.Value.TheVariants.{Number}
use Rattle.meaning.specs.declared.Index.TheVariants.{At}
use Rattle.meaning.specs.Basics.{if_else}
use Rattle.meaning.specs.Declarations.{Variable, Channel}
use Rattle.meaning.specs.Tree.{Expr, ChannelInput, IfChoice, AltOption, Action, assign, input, output, conditional, loop, alternation, rows_beneath}
use Rattle.meaning.specs.Values.{Message, is_true, value, index}
use Rattle.meaning.specs.State.{State, Program, Write, write_cell, write_place, write_output, Effect}
use Rattle.meaning.specs.Labels.{Label, own}
use Rattle.meaning.specs.Readings.{Sheet}
use Rattle.meaning.specs.Intent.{Offer, open_offer, input_offer, Intent, moves, inputs_from, outputs_to, InputResult, lacks, not_yet, reads, from_element, host_read, OptionsResult, fails, offers, adding, admitting, guarding, input_result, input_result_if, tests, options_result, intent}
use Rattle.meaning.specs.Ready.{all_idle, is_live, intent_at, own_effect, WaitingInput, communication_effect, take_option_effect, take_with_output_effect, option_row, offer_effect_at, offer_effect, effect_of}
use Rattle.meaning.proofs.PassedLaws.{passes-passed, lacks-passed}
use Rattle.meaning.specs.Step.{channel_element, target_cell, Holds, holds, refuted, LacksIn, channel-lacks, target_lacks, FirstTrue, LacksTest, boolean-lacks, input-lacks, Complete, closed, open-skip, open-input, LacksOption, AllComplete, complete-none, complete-more, Passes, Lacks, assign-subscript, assign-value, input-subscript, output-subscript, output-value, while-test, if-test, alt-guard, InnerInput, inner-input, HostInput, host-input, InnerOutput, inner-output, Live, becomes, effect, Allows, assignment, while-false, while-true, if-true, communication, host-read, host-write, alt-skip, alt-read, alt-communication, stopping}

true-is : (t : Bool) → T t → t ≡ true
true-is true h = refl
true-is false h = absurd h

eqb_same : (n : ℕ) → eqb n n ≡ true
eqb_same n = true-is (eqb n n) (eqb_refl n)

module _ (P : Program) (sheet : Sheet) (s : State) where
  abbrev cells : List (Option ℤ)
  cells = s.store.cells

  idle-test : (l : List ℕ) → ((b : ℕ) → Memᴰ b l → get_or s.states b 0 ≡ 0) → all_idle l s.states ≡ true
  idle-test [] h = refl
  idle-test (r ∷ l) h = rw (h r (Memᴰ.head refl), idle-test l (λ b m. h b (Memᴰ.tail m)))

  -- a live row wants what its action does
  pub live-want : (r : ℕ) (a : Action) → Live P s r a → intent_at P sheet s r ≡ intent sheet a r s.store
  unfolding intent_at is_live
  live-want r a (Live.live {ms} e u h) = rw (e, u, idle-test (rows_beneath ms) h)

  -- the machine can take the step x, with effect e
  abbrev pub Can : Label → Effect → Type 0
  Can x e = effect_of x (intent_at P sheet s) ≡ some e

  can-own : (r : ℕ) (a : Action) → Live P s r a → (x v : ℕ) (ws : List Write) → intent sheet a r s.store ≡ moves x v ws → Can (own r) (effect (becomes r x v ∷ []) ws)
  can-own r a g x v ws e = ap (own_effect r) (live-want r a g ∙ e)

  first-true : (r q : ℕ) (l : List IfChoice) → FirstTrue cells l q → tests sheet r l s.store ≡ moves q 1 []
  first-true r q l (FirstTrue.true-first (holds e h)) = rw (e, h)
  first-true r q l (FirstTrue.false-before {l = m} (refuted e h) f) = rw (e, h) (first-true r q m f)

  lacks-test : (r k : ℕ) (l : List IfChoice) → LacksTest cells l k → tests sheet r l s.store ≡ moves r (10 + k) []
  lacks-test r k l (LacksTest.test-lacks e) = rw e
  lacks-test r k l (LacksTest.false-before-lack {l = m} (refuted e h) f) = rw (e, h) (lacks-test r k m f)

  lacks-in : (i : ChannelInput) (k : ℕ) → LacksIn cells i k → input_result sheet i s.store ≡ lacks k
  unfolding input_result
  lacks-in i k (channel-lacks e) = rw e
  lacks-in i k (target_lacks e f) = rw (e, f)

  in-host : (i : ChannelInput) (a n : ℕ) (v : Option ℤ) → HostInput sheet s.store i a v n → input_result sheet i s.store ≡ reads (write_cell a v ∷ write_place i.channel.number (suc n) ∷ [])
  unfolding input_result
  in-host i a n v (host-input h c t p e) = rw (h, c, t, p, e)

  in_inner : (i : ChannelInput) (e a : ℕ) → InnerInput s.store i e a → input_result sheet i s.store ≡ from_element e a
  unfolding input_result
  in_inner i e a (inner-input h c t) = rw (h, c, t)

  sends-is : (r d : ℕ) (c : Channel) (e f : Expr) (z : Message) → InnerOutput s.store c e f d z → intent sheet (output c e f) r s.store ≡ outputs_to d z
  unfolding intent
  sends-is r d c e f z (inner-output h p q) = rw (p, passes-passed cells f z q, h)

  gets-is : (r d a : ℕ) (i : ChannelInput) → InnerInput s.store i d a → intent sheet (input i) r s.store ≡ inputs_from d a
  unfolding intent
  gets-is r d a i h = rw (in_inner i d a h)

  can-assign : (r a : ℕ) (v : Variable) (e f : Expr) (z : ℤ) → index cells v.first v.size e ≡ At a → value cells f ≡ Number z → intent sheet (assign v e f) r s.store ≡ moves r 2 (write_cell a (some z) ∷ [])
  unfolding intent
  can-assign r a v e f z p q = rw (p, q)

  can-read : (r a n : ℕ) (i : ChannelInput) (v : Option ℤ) → HostInput sheet s.store i a v n → intent sheet (input i) r s.store ≡ moves r 2 (write_cell a v ∷ write_place i.channel.number (suc n) ∷ [])
  unfolding intent
  can-read r a n i v h = rw (in-host i a n v h)

  can_write : (r d : ℕ) (c : Channel) (e f : Expr) (z : Message) (l : List Message) → c.host ≡ true → index cells c.first c.size e ≡ At d → Passes cells f z
      → get_or s.store.outputs c.number [] ≡ l → length l < c.capacity → intent sheet (output c e f) r s.store ≡ moves r 2 (write_output c.number (l ++ (z ∷ [])) ∷ [])
  unfolding intent
  can_write r d c e f z l h p q o m = rw (p, passes-passed cells f z q, h, o, true-is (ltb (length l) c.capacity) (lt→ltb (length l) c.capacity m))

  can-while : (r b : ℕ) (e : Expr) (t : Bool) (x : ℤ) → value cells e ≡ Number x → is_true x ≡ t → intent sheet (loop e b) r s.store ≡ if_else t (moves b 1 []) (moves r 2 [])
  unfolding intent
  can-while r b e t x p q = rw (p, q)

  -- ---- options

  abbrev guarded : AltOption → OptionsResult → OptionsResult
  guarded b L = guarding b.row b.process (value cells b.guard.boolean) (input_result_if sheet b.guard.input s.store) L

  abbrev add_if : Option Offer → OptionsResult → OptionsResult
  add_if none L = L
  add_if (some o) L = adding o L

  -- what an option that lacks nothing offers
  abbrev Looks : AltOption → Type 0
  Looks b = (o : Option Offer) × (((L : OptionsResult) → guarded b L ≡ add_if o L) × ((p : Offer) → o ≡ some p → option_row p ≡ b.row))

  none-some : {A : Type 0} (p : Offer) → none ≡ some p → A
  none-some p e = absurd (none-ne-some p e)

  own_row : (b : AltOption) (o p : Offer) → option_row o ≡ b.row → some o ≡ some p → option_row p ≡ b.row
  own_row b o p h e = ap option_row (sym (some-injective o p e)) ∙ h

  look-here : (b : AltOption) (i : ChannelInput) (R : InputResult) → ((L : OptionsResult) → guarded b L ≡ admitting b.row b.process R L) → ((k : ℕ) → R ≢ lacks k) → Looks b
  look-here b i (lacks k) g h = absurd (h k refl)
  look-here b i not_yet g h = (none, (g, λ p e. none-some p e))
  look-here b i (reads ws) g h = (some (open_offer b.row b.process ws), (g, λ p e. own_row b (open_offer b.row b.process ws) p refl e))
  look-here b i (from_element e a) g h = (some (input_offer b.row b.process e a), (g, λ p q. own_row b (input_offer b.row b.process e a) p refl q))

  -- told apart by a number: whether an input lacks a value
  abbrev lacking : InputResult → ℕ
  lacking (lacks k) = 1
  lacking not_yet = 0
  lacking (reads ws) = 0
  lacking (from_element e a) = 0

  has_all : (i : ChannelInput) (e a : ℕ) → channel_element cells i ≡ At e → target_cell cells i ≡ At a → lacking (input_result sheet i s.store) ≡ 0
  unfolding input_result
  has_all i e a c t = rw (c, t) (go i.channel.host (get_elem? (get_or sheet i.channel.number []) (get_or s.store.places i.channel.number 0)))
    where
      go : (h : Bool) (o : Option (Option ℤ)) → lacking (if_else h (host_read i.channel.number (get_or s.store.places i.channel.number 0) a o) (from_element e a)) ≡ 0
      go true none = refl
      go true (some v) = refl
      go false o = refl

  open_is : (b : AltOption) (i : ChannelInput) → Holds cells b.guard.boolean → b.guard.input ≡ some i → (L : OptionsResult) → guarded b L ≡ admitting b.row b.process (input_result sheet i s.store) L
  open_is b i (holds e h) q L = rw (e, h, q)

  look : (b : AltOption) → Complete cells b → Looks b
  look b (closed (refuted e h)) = (none, (λ L. rw (e, h), λ p e. none-some p e))
  look b (open-skip (holds e h) q) = (some (open_offer b.row b.process []), (λ L. rw (e, h, q), λ p e. own_row b (open_offer b.row b.process []) p refl e))
  look b (open-input {i} {e} {a} h q c t) =
      look-here b i (input_result sheet i s.store) (open_is b i h q) (λ k z. let y : ◌≡◌ {A = ℕ} 0 1 = sym (has_all i e a c t) ∙ ap lacking z in omega arith)

  add-fails : (o : Option Offer) (k : ℕ) → add_if o (fails k) ≡ fails k
  add-fails none k = refl
  add-fails (some o) k = refl

  lacks-option : (l : List AltOption) (k : ℕ) → LacksOption cells l k → options_result sheet l s.store ≡ fails k
  lacks-option l k (LacksOption.option-lacks (boolean-lacks e)) = rw e
  lacks-option l k (LacksOption.option-lacks {b} (input-lacks {i} h q g)) = open_is b i h q _ ∙ rw (lacks-in i k g)
  lacks-option l k (LacksOption.pass-over {b} {l = m} c g) = rw (lacks-option m k g) ((look b c).1.0 (fails k) ∙ add-fails (look b c).0 k)

  pub lacks-want : (r k : ℕ) (a : Action) → Lacks cells a k → intent sheet a r s.store ≡ moves r (10 + k) []
  unfolding intent
  lacks-want r k a (assign-subscript p) = rw p
  lacks-want r k a (assign-value p q) = rw (p, q)
  lacks-want r k a (input-subscript {i} h) = rw (lacks-in i k h)
  lacks-want r k a (output-subscript p) = rw p
  lacks-want r k a (output-value {f} p q never) = rw (p, lacks-passed cells f k q never)
  lacks-want r k a (while-test p) = rw p
  lacks-want r k a (if-test {ts} h) = lacks-test r k ts h
  lacks-want r k a (alt-guard {bs} h) = rw (lacks-option bs k h)

  -- the rows of options are each another
  abbrev pub Distinct : List AltOption → Type 0
  Distinct [] = Unit {0}
  Distinct (b ∷ l) = ((c : AltOption) → Memᴰ c l → b.row ≢ c.row) × Distinct l

  cons_if : Option Offer → List Offer → List Offer
  cons_if none os = os
  cons_if (some o) os = o ∷ os

  add-offers : (o : Option Offer) (os : List Offer) → add_if o (offers os) ≡ offers (cons_if o os)
  unfolding cons_if
  add-offers none os = refl
  add-offers (some o) os = refl

  all-offers : (l : List AltOption) → AllComplete cells l → (os : List Offer) × (options_result sheet l s.store ≡ offers os)
  all-offers l complete-none = ([], refl)
  all-offers l (complete-more {b} {l = m} c h) =
      let (os, e) = all-offers m h in
      (cons_if (look b c).0 os, rw e ((look b c).1.0 (offers os) ∙ add-offers (look b c).0 os))

  offers-same : (os ps : List Offer) → offers os ≡ offers ps → os ≡ ps
  offers-same os ps e = cc

  eqb-not : (x y : ℕ) → x ≢ y → eqb x y ≡ false
  eqb-not x y h = go (eqb x y) refl
    where
      go : (t : Bool) → eqb x y ≡ t → eqb x y ≡ false
      go true e = absurd (h (eqb→eq x y (subst (λ (t : Bool). T t) (sym e) tt)))
      go false e = e

  skip-one : (j : ℕ) (f : Offer → Option Effect) (o : Option Offer) (os : List Offer) → ((p : Offer) → o ≡ some p → option_row p ≢ j) → offer_effect_at j f (cons_if o os) ≡ offer_effect_at j f os
  unfolding cons_if
  skip-one j f none os h = refl
  skip-one j f (some p) os h = rw (eqb-not (option_row p) j (h p refl))

  -- the offer of one option stands under its row
  pick_out : (b : AltOption) (o : Offer) (f : Offer → Option Effect) → ((L : OptionsResult) → guarded b L ≡ adding o L) → option_row o ≡ b.row → (l : List AltOption) → AllComplete cells l → Distinct l → Memᴰ b l
      → (os : List Offer) → options_result sheet l s.store ≡ offers os → offer_effect_at b.row f os ≡ f o
  pick_out b o f g n l complete-none d m os e = absurd (elim m [ ])
  pick_out b o f g n l (complete-more {b = c} {l = k} h hs) d (Memᴰ.head q) os e =
      let (ps, z) = all-offers k hs in
      let w : offers os ≡ offers (o ∷ ps) = sym e ∙ ap (guarded c) z ∙ ap (λ (y : AltOption). guarded y (offers ps)) (sym q) ∙ g (offers ps) in
      rw (offers-same os (o ∷ ps) w, n, eqb_same b.row)
  pick_out b o f g n l (complete-more {b = c} {l = k} h hs) d (Memᴰ.tail m) os e =
      let (ps, z) = all-offers k hs in
      let t = look c h in
      let w : offers os ≡ offers (cons_if t.0 ps) = sym e ∙ ap (guarded c) z ∙ t.1.0 (offers ps) ∙ add-offers t.0 ps in
      rw (offers-same os (cons_if t.0 ps) w)
      (skip-one b.row f t.0 ps (λ p y u. d.0 b m (sym (t.1.1 p y) ∙ u)) ∙ pick_out b o f g n k hs d.1 m ps z)

  can-pick : (x : Label) (r : ℕ) (bs : List AltOption) (b : AltOption) (o : Offer) (f : Offer → Option Effect) (e : Effect) → Live P s r (alternation bs) → AllComplete cells bs → Distinct bs → Memᴰ b bs
      → ((L : OptionsResult) → guarded b L ≡ adding o L) → option_row o ≡ b.row → f o ≡ some e → offer_effect b.row f (intent_at P sheet s r) ≡ some e
  unfolding intent
  can-pick x r bs b o f e g c d m h n q =
      let (os, z) = all-offers bs c in
      rw (live-want r (alternation bs) g, z) (pick_out b o f h n bs c d m os z ∙ q)

  meets-is : (w : WaitingInput) (o : ℕ) (z : Message) (u : Intent) → u ≡ outputs_to w.element z → communication_effect w o u ≡ some (effect (w.change ∷ becomes o o 2 ∷ []) (write_cell w.cell z ∷ []))
  meets-is w o z u e = rw (e, eqb_same w.element)

  -- the options of every ALT have distinct rows
  abbrev pub DistinctOptions : Type 0
  DistinctOptions = (r : ℕ) (bs : List AltOption) → Live P s r (alternation bs) → Distinct bs

  -- a step that a rule allows is one that the machine can take, with the same effect
  pub takeable : DistinctOptions → (x : Label) (e : Effect) → Allows P sheet s x e → Can x e
  unfolding intent
  takeable D x t (assignment {r} {a} {v} {e} {f} {z} g p q) = can-own r (assign v e f) g r 2 (write_cell a (some z) ∷ []) (can-assign r a v e f z p q)
  takeable D x t (while-false {r} {b} {e} g (refuted {x = y} p q)) = can-own r (loop e b) g r 2 [] (can-while r b e false y p q)
  takeable D x t (while-true {r} {b} {e} g (holds {x = y} p q)) = can-own r (loop e b) g b 1 [] (can-while r b e true y p q)
  takeable D x t (if-true {r} {q} {ts} g h) = can-own r (conditional ts) g q 1 [] (first-true r q ts h)
  takeable D x t (communication {r} {o} {d} {a} {i} {c} {e} {f} {m = z} g k h w) =
      rw (live-want r (input i) g, gets-is r d a i h, live-want o (output c e f) k) (meets-is (record { element = d; cell = a; change = becomes r r 2 }) o z _ (sends-is o d c e f z w))
  takeable D x t (host-read {r} {a} {n} {i} {v} g h) = can-own r (input i) g r 2 (write_cell a v ∷ write_place i.channel.number (suc n) ∷ []) (can-read r a n i v h)
  takeable D x t (host-write {r} {d} {c} {e} {f} {m = z} {l} g h p q o m) = can-own r (output c e f) g r 2 (write_output c.number (l ++ (z ∷ [])) ∷ []) (can_write r d c e f z l h p q o m)
  takeable D x t (alt-skip {r} {bs} {b} g c m (holds e h) q) =
      can-pick x r bs b (open_offer b.row b.process []) (take_option_effect r) _ g c (D r bs g) m (λ L. rw (e, h, q)) refl refl
  takeable D x t (alt-read {r} {a} {n} {bs} {b} {i} {v} g c m h q k) =
      let ws = write_cell a v ∷ write_place i.channel.number (suc n) ∷ [] in
      can-pick x r bs b (open_offer b.row b.process ws) (take_option_effect r) _ g c (D r bs g) m (λ L. open_is b i h q L ∙ rw (in-host i a n v k)) refl refl
  takeable D x t (alt-communication {r} {o} {d} {a} {bs} {b} {i} {c = ch} {e} {f} {m = z} g c m k h q w y) =
      can-pick x r bs b (input_offer b.row b.process d a) (take_with_output_effect r o (intent_at P sheet s o)) _ g c (D r bs g) m (λ L. open_is b i h q L ∙ rw (in_inner i d a w)) refl
      (meets-is (record { element = d; cell = a; change = becomes r b.process 1 }) o z (intent_at P sheet s o) (live-want o (output ch e f) k ∙ sends-is o d ch e f z y))
  takeable D x t (stopping {r} {k} {a} g h) = can-own r a g r (10 + k) [] (lacks-want r k a h)
