-- The list of ready steps holds exactly the steps that the rules allow, and each leaves one state, where orders come.
use mathlib.Core.Path.{◌≡◌, sym, ap, subst, ◌∙◌}
use mathlib.Core.Logic.{◌≢◌}
use mathlib.Core.Bool.{Bool, true, false}
use mathlib.Core.Option.{some}
use mathlib.Core.List.{List, [], ◌∷◌, Memᴰ}
use Prim.Native.Nat.{ℕ, suc, ◌≤◌}
use native.Mathlib.Omega.{arith}
use lib.IntN.{ℤ}
use lib.ListN.{length, get_or}
use lib.Dec.{ltb}
use Rattle.meaning.specs.declared.Value.{Value}
use Rattle.meaning.specs.declared.Value.TheVariants.{Number, Missing}
use Rattle.meaning.specs.declared.Index.{Index}
use Rattle.meaning.specs.declared.Index.TheVariants.{At, Fails}
use Rattle.meaning.specs.Basics.{if_else}
use Rattle.meaning.specs.Rows.{row_count}
use Rattle.meaning.specs.Declarations.{Channel}
use Rattle.meaning.specs.Tree.{IfChoice, AltOption, Action, stop, skip, sequence, parallel, assign, input, output, conditional, loop, alternation, block, action_of}
use Rattle.meaning.specs.Values.{Message, is_true, value, index, Sent, gives, lacking, passed}
use Rattle.meaning.specs.State.{Store, State, Program, program, process_at, Effect}
use Rattle.meaning.specs.Labels.{Label}
use Rattle.meaning.specs.Readings.{Sheet}
use Rattle.meaning.specs.Settle.{settled}
use Rattle.meaning.specs.Intent.{Offer, Intent, waits, moves, inputs_from, outputs_to, selects, assigning, testing, choosing, host_write, outputting, InputResult, lacks, not_yet, reads, from_element, inputting, OptionsResult, fails, offers, selecting, input_result, tests, options_result, intent}
use Rattle.meaning.specs.Ready.{effect_of, is_live, intent_at, ready, after}
use Rattle.meaning.specs.Step.{Live, Allows, Step}
use Rattle.agreement.proofs.Takeable.{takeable, DistinctOptions}
use Rattle.agreement.proofs.Takeable
use Rattle.agreement.proofs.Readiness.{Distinct, ready-can, can-ready}
use Rattle.agreement.proofs.Options.{Rising, RisingO, ActionOk, options-rise, LookedOk, looks-ok, differ, limited}
use Rattle.agreement.proofs.Fit.{Fit}
use Rattle.agreement.proofs.Working.{Inv}
use Rattle.agreement.proofs.Invariant.{effect-step, step-effect}

abbrev WantOk : ℕ → Intent → Type 0
WantOk n waits = Unit {0}
WantOk n (moves x v ws) = Unit {0}
WantOk n (inputs_from e a) = Unit {0}
WantOk n (outputs_to e v) = Unit {0}
WantOk n (selects l) = RisingO n 0 l

pick-ok : (n : ℕ) (t : Bool) (w u : Intent) → WantOk n w → WantOk n u → WantOk n (if_else t w u)
pick-ok n true w u h k = h
pick-ok n false w u h k = k

module _ (n : ℕ) where
  assign-ok : (r : ℕ) (I : Index) (w : Value) → WantOk n (assigning r I w)
  assign-ok r (Fails k) w = tt
  assign-ok r (At a) (Missing k) = tt
  assign-ok r (At a) (Number z) = tt

  while-ok : (r b : ℕ) (w : Value) → WantOk n (testing r b w)
  while-ok r b (Missing k) = tt
  while-ok r b (Number z) = pick-ok n (is_true z) (moves b 1 []) (moves r 2 []) tt tt

  choose-ok : (r q : ℕ) (w : Value) (u : Intent) → WantOk n u → WantOk n (choosing r q w u)
  choose-ok r q (Missing k) u h = tt
  choose-ok r q (Number z) u h = pick-ok n (is_true z) (moves q 1 []) u tt h

  input_ok : (r : ℕ) (R : InputResult) → WantOk n (inputting r R)
  input_ok r (lacks k) = tt
  input_ok r not_yet = tt
  input_ok r (reads ws) = tt
  input_ok r (from_element e a) = tt

  output-ok : (r : ℕ) (c : Channel) (o : List (List Message)) (I : Index) (w : Sent) → WantOk n (outputting r c o I w)
  output-ok r c o (Fails k) w = tt
  output-ok r c o (At d) (lacking k) = tt
  output-ok r c o (At d) (gives z) =
      pick-ok n c.host (host_write r c (get_or o c.number []) z) (outputs_to d z) (pick-ok n (ltb (length (get_or o c.number [])) c.capacity) _ waits tt tt) tt

  select-ok : (sheet : Sheet) (x : Store) (r : ℕ) (L : OptionsResult) → LookedOk sheet x n 0 L → WantOk n (selecting r L)
  select-ok sheet x r (fails k) h = tt
  select-ok sheet x r (offers os) h = h

  module _ (sheet : Sheet) (x : Store) where
    tests-ok : (r : ℕ) (l : List IfChoice) → WantOk n (tests sheet r l x)
    tests-ok r [] = tt
    tests-ok r (t ∷ l) = choose-ok r t.process (value x.cells t.boolean) (tests sheet r l x) (tests-ok r l)

    want-ok : (r : ℕ) (a : Action) → ActionOk n a → WantOk n (intent sheet a r x)
    unfolding intent
    want-ok r stop h = tt
    want-ok r skip h = tt
    want-ok r sequence h = tt
    want-ok r parallel h = tt
    want-ok r (assign v e f) h = assign-ok r (index x.cells v.first v.size e) (value x.cells f)
    want-ok r (input i) h = input_ok r (input_result sheet i x)
    want-ok r (output c e f) h = output-ok r c x.outputs (index x.cells c.first c.size e) (passed x.cells f)
    want-ok r (conditional ts) h = tests-ok r ts
    want-ok r (loop e b) h = while-ok r b (value x.cells e)
    want-ok r (alternation bs) h = select-ok sheet x r (options_result sheet bs x) (looks-ok sheet x n 0 bs h)
    want-ok r (block v) h = tt

-- rising options are each another
apart : (P : Program) (sheet : Sheet) (s : State) (n lo : ℕ) (l : List AltOption) → Rising n lo l → Takeable.Distinct P sheet s l
apart P sheet s n lo [] r = tt
apart P sheet s n lo (b ∷ l) r = (λ c m e. higher n (suc b.row) l r.2 c m (omega arith) e, apart P sheet s n (suc b.row) l r.2)
  where
    floor : (n lo : ℕ) (l : List AltOption) → Rising n lo l → (c : AltOption) → Memᴰ c l → lo ≤ c.row
    floor n lo [] r c x3 = elim x3 [ ]
    floor n lo (b ∷ l) r c (Memᴰ.head e) = rw e r.0
    floor n lo (b ∷ l) r c (Memᴰ.tail m) = let h = floor n (suc b.row) l r.2 c m in omega (arith, r.0)

    higher : (n lo : ℕ) (l : List AltOption) → Rising n lo l → (c : AltOption) → Memᴰ c l → suc b.row ≤ lo → b.row ≢ c.row
    higher n lo l r c m g e = let h = floor n lo l r c m in omega arith

module _ (rows : List ℤ) (sheet : Sheet) (s : State) where
  abbrev P : Program
  P = program rows

  wants-ok : (r : ℕ) → WantOk (row_count rows) (intent_at (program rows) sheet s r)
  unfolding intent_at
  wants-ok r = pick-ok (row_count rows) (is_live (program rows) sheet r s) _ waits (want-ok (row_count rows) sheet s.store r (action_of (process_at (program rows) r)) (options-rise rows r)) tt

  pub distinct-options : DistinctOptions (program rows) sheet s
  distinct-options r bs (Live.live e u h) =
      apart (program rows) sheet s (row_count rows) 0 bs (subst (λ (a : Action). ActionOk (row_count rows) a) (ap action_of e) (options-rise rows r))

  pub offers-rise : (r : ℕ) (l : List Offer) → intent_at (program rows) sheet s r ≡ selects l → RisingO (row_count rows) 0 l
  offers-rise r l e = subst (λ (w : Intent). WantOk (row_count rows) w) e (wants-ok r)

  after_is : (x : Label) (e : Effect) → effect_of x (intent_at (program rows) sheet s) ≡ some e → after (program rows) sheet x s ≡ settled (program rows) e s
  unfolding after
  after_is x e q = rw q

  -- a step is ready exactly if a rule allows it
  pub ready-effect : (x : Label) → Memᴰ x (ready (program rows) sheet s) → (e : Effect) × (effect_of x (intent_at (program rows) sheet s) ≡ some e)
  ready-effect x m = ready-can (program rows) sheet s (λ r l h. differ (row_count rows) 0 l (offers-rise r l h)) x m

  pub effect-ready : length s.states ≡ row_count rows → (x : Label) (e : Effect) → effect_of x (intent_at (program rows) sheet s) ≡ some e → Memᴰ x (ready (program rows) sheet s)
  effect-ready n x e q =
      can-ready (program rows) sheet s (λ r l h. differ (row_count rows) 0 l (offers-rise r l h)) (λ r l h o m. rw n (limited (row_count rows) 0 l (offers-rise r l h) o m)) x e q

-- and leads to the state that the machine goes to, where orders come
module _ (rows : List ℤ) (sheet : Sheet) (F : Fit (program rows) (row_count rows)) (s : State) (i : Inv (program rows) (row_count rows) F sheet s) where
  pub ready-allowed : (x : Label) → Memᴰ x (ready (program rows) sheet s) → Step (program rows) sheet s x (after (program rows) sheet x s)
  ready-allowed x m =
      let (e, q) = ready-effect rows sheet s x m in
      rw (after_is rows sheet s x e q) (effect-step (program rows) (row_count rows) F sheet s i x e q)

  pub allowed-ready : (x : Label) (t : State) → Step (program rows) sheet s x t → Memᴰ x (ready (program rows) sheet s) × (t ≡ after (program rows) sheet x s)
  allowed-ready x t h =
      let (e, q, z) = step-effect (program rows) (row_count rows) F sheet (distinct-options rows sheet) s x t i h in
      (effect-ready rows sheet s i.size x e q, z ∙ sym (after_is rows sheet s x e q))

  -- what a rule allows is taken to the state that the walk leaves
  pub allowed-step : (x : Label) (e : Effect) → Allows (program rows) sheet s x e → Step (program rows) sheet s x (settled (program rows) e s)
  allowed-step x e h = effect-step (program rows) (row_count rows) F sheet s i x e (takeable (program rows) sheet s (distinct-options rows sheet s) x e h)
