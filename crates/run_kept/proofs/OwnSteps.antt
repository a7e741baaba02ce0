-- An owner's ready steps change only if the step changed the state of that row, of a row beneath it, or of an output on a channel that it may input from.
use mathlib.Core.Path.{◌≡◌, refl, sym, ap, ap₂, subst, ◌∙◌}
use mathlib.Core.Logic.{◌⊎◌, inl, inr}
use mathlib.Core.Bool.{Bool, true, ◌&&◌, false≢true}
use mathlib.Core.Option.{none, some}
use mathlib.Core.List.Memᴰ
use mathlib.Core.List.{List, [], ◌∷◌, ◌++◌, Memᴰ}
use Prim.Native.Nat.{ℕ}
use lib.IntN.{ℤ}
use lib.ListN.{get_or}
use lib.Dec.{eqb}
use Rattle.meaning.specs.Basics.{if_else}
use Rattle.meaning.specs.Rows.{row_count}
use Rattle.meaning.specs.Tree.{Action, stop, skip, sequence, parallel, assign, input, output, conditional, loop, alternation, block, Process, node, Processes, empty, also, action_of, processes_in, rows_beneath}
use Rattle.meaning.specs.Usage.{input_elements, output_elements}
use Rattle.meaning.specs.State.{State, Program, program, process_at, whole, Effect}
use Rattle.meaning.specs.Labels.{Label}
use Rattle.meaning.specs.Readings.{Sheet}
use Rattle.meaning.specs.Intent.{Intent, waits, moves, intent}
use Rattle.meaning.specs.Ready.{all_idle, is_live, intent_at, after}
use Rattle.meaning.specs.Order.{OrderOf}
use Rattle.meaning.specs.Answers.{check}
use Rattle.meaning.proofs.AnswerLaws.{RightRows, accepted}
use Rattle.agreement.proofs.Commute.{Child, child-in}
use Rattle.agreement.proofs.Settled.{PlainA}
use Rattle.agreement.proofs.NoRuleLeft.{plain_at}
use Rattle.agreement.proofs.Fit.{Fit}
use Rattle.agreement.proofs.Active.{RowOf, Active}
use Rattle.agreement.proofs.Freedom.{NoneOf}
use Rattle.agreement.proofs.Working.{Inv, Works, works, works-proper}
use Rattle.agreement.proofs.Separate.{table-inv}
use Rattle.agreement.proofs.TableFit.{fit}
use Rattle.machine.specs.RowSteps.{is_output_to, alt_of, own_step, option_step}
use Rattle.machine.proofs.LiveRows.{intent-is}
use Rattle.machine.proofs.Unmoved.{order-after}
use Rattle.run_kept.specs.Kept.{is_input_from, Moved}
use Rattle.run_kept.specs.ReadyClaims.{Untouched}
use Rattle.run_kept.proofs.ChannelNames.{common-channel, tree-beneath}
use Rattle.run_kept.proofs.Waiting.{one-receiver, one-sender, passing-acts, inputs-counted, outputs-counted, waiter-waits, waits-live, sender-is, receiver-is}
use Rattle.run_kept.proofs.Locality.{one-or-none}
use Rattle.run_kept.proofs.Owners.{own_steps, NoneWakes, owner-kept, own-steps-kept}
use Rattle.run_kept.proofs.StepRows.{Left, is-over, by-test, by-option, step-leaves}

-- ---- rows with the same states are at work together

all-idle-same : (rs a b : List ℕ) → ((y : ℕ) → Memᴰ y rs → get_or b y 0 ≡ get_or a y 0) → all_idle rs b ≡ all_idle rs a
all-idle-same [] a b h = refl
all-idle-same (r ∷ rs) a b h = ap₂ (λ (n : ℕ) (t : Bool). eqb n 0 && t) (h r (Memᴰ.head refl)) (all-idle-same rs a b (λ y m. h y (Memᴰ.tail m)))

live-states : (P : Program) (sheet : Sheet) (s t : State) (r : ℕ) → get_or t.states r 0 ≡ get_or s.states r 0
    → ((b : ℕ) → Memᴰ b (rows_beneath (processes_in (process_at P r))) → get_or t.states b 0 ≡ get_or s.states b 0) → is_live P sheet r t ≡ is_live P sheet r s
unfolding is_live
live-states P sheet s t r h g = ap₂ (λ (n : ℕ) (b : Bool). eqb n 1 && b) h (all-idle-same (rows_beneath (processes_in (process_at P r))) s.states t.states g)

-- ---- an output has no members and no options

bare : (d : ℕ) (k : Action) → Memᴰ d (output_elements k) → (ms : Processes) → PlainA k ms → ms ≡ empty
bare d stop m ms h = absurd (Memᴰ.not-nil m)
bare d skip m ms h = absurd (Memᴰ.not-nil m)
bare d sequence m ms h = absurd (Memᴰ.not-nil m)
bare d parallel m ms h = absurd (Memᴰ.not-nil m)
bare d (assign v e f) m ms h = absurd (Memᴰ.not-nil m)
bare d (input i) m ms h = absurd (Memᴰ.not-nil m)
bare d (output c e f) m empty h = refl
bare d (output c e f) m (also p ms) h = absurd h
bare d (conditional ts) m ms h = absurd (Memᴰ.not-nil m)
bare d (loop e b) m ms h = absurd (Memᴰ.not-nil m)
bare d (alternation bs) m ms h = absurd (Memᴰ.not-nil m)
bare d (block v) m ms h = absurd (Memᴰ.not-nil m)

no-child : (q : ℕ) (ms : Processes) → ms ≡ empty → Child q ms → ⊥
no-child q ms e c = Memᴰ.not-nil (subst (λ (u : Processes). Memᴰ q (rows_beneath u)) e (child-in c))

-- ---- what is the same, where what a row would do is a move and stays so

module _ (P : Program) (sheet : Sheet) (s t : State) (r : ℕ) where
  own_same : intent_at P sheet t r ≡ intent_at P sheet s r → (y v : ℕ) → intent_at P sheet s r ≡ moves y v [] → own_step P sheet t r ≡ own_step P sheet s r
  unfolding own_step
  own_same e y v h = rw (e, h)

  option-same : intent_at P sheet t r ≡ intent_at P sheet s r → (y v : ℕ) → intent_at P sheet s r ≡ moves y v [] → (j : ℕ) → alt_of P j ≡ some r → option_step P sheet t j ≡ option_step P sheet s j
  unfolding option_step
  option-same e y v h j z = rw (z, e, h)

module _ (rows : List ℤ) (ok : check rows ≡ none) (sheet : Sheet) (l : List Label) (s : State) (o : OrderOf rows sheet l s)
    {x : Label} {e : Effect} (A : Active (intent_at (program rows) sheet s) x e) (r : ℕ) (N : Untouched rows s (after (program rows) sheet x s) r) where
  abbrev P : Program
  P = program rows

  abbrev t : State
  t = after (program rows) sheet x s

  abbrev right : RightRows rows
  right = (accepted rows).0 ok

  abbrev F : Fit (program rows) (row_count rows)
  F = fit rows ok

  later : OrderOf rows sheet (l ++ (x ∷ [])) (after (program rows) sheet x s)
  later = order-after rows ok sheet l s o A

  before : Inv (program rows) (row_count rows) (fit rows ok) sheet s
  before = table-inv rows sheet (fit rows ok) l s o

  behind : Inv (program rows) (row_count rows) (fit rows ok) sheet (after (program rows) sheet x s)
  behind = table-inv rows sheet (fit rows ok) (l ++ (x ∷ [])) t later

  live-kept : is_live (program rows) sheet r (after (program rows) sheet x s) ≡ is_live (program rows) sheet r s
  live-kept = live-states P sheet s t r N.itself (λ b m. N.beneath b (tree-beneath rows right r b m))

  -- ---- a row that comes where r waits

  -- an output whose state is the same was not moved, where it waits after the step
  unmoved-output : (p d : ℕ) → (B : Works (program rows) (row_count rows) (fit rows ok) sheet (after (program rows) sheet x s) p) → Memᴰ d (output_elements B.action)
      → get_or (after (program rows) sheet x s).states p 0 ≡ get_or s.states p 0 → is_live (program rows) sheet p (after (program rows) sheet x s) ≡ true → Moved (program rows) sheet s x (after (program rows) sheet x s) p → ⊥
  unmoved-output p d B m q v (inr c) = false≢true (sym c.0 ∙ sym same ∙ v)
    where
      place : process_at P p ≡ node B.action p B.listed
      place = F.placed B.action p B.listed B.sub

      none-beneath : processes_in (process_at P p) ≡ empty
      none-beneath = ap processes_in place ∙ bare d B.action m B.listed (plain_at (whole P) B.sub F.plain)

      same : is_live P sheet p t ≡ is_live P sheet p s
      same = live-states P sheet s t p q (λ b k. absurd (Memᴰ.not-nil (subst (λ (u : Processes). Memᴰ b (rows_beneath u)) none-beneath k)))
  unmoved-output p d B m q v (inl k) = go (step-leaves rows ok sheet l s o A p k)
    where
      -- the action is the same before the step and after it
      same-node : (C : Works P (row_count rows) F sheet s p) → node C.action p C.listed ≡ node B.action p B.listed
      same-node C = sym (F.placed C.action p C.listed C.sub) ∙ F.placed B.action p B.listed B.sub

      empty-members : (C : Works P (row_count rows) F sheet s p) → C.listed ≡ empty
      empty-members C = ap processes_in (same-node C) ∙ bare d B.action m B.listed (plain_at (whole P) B.sub F.plain)

      go : Left rows ok sheet l s o x p → ⊥
      go (is-over C h) = h B.runs
      go (by-test C y c h g) = no-child y C.listed (empty-members C) c
      go (by-option C y j c n h) = no-child y C.listed (empty-members C) c

  -- no sender that is noted anew waits where r waits
  none-wakes : NoneWakes rows ok sheet l s o A r
  none-wakes d p h g =
      let hr = waiter-waits rows ok sheet l s o (is_input_from d) (one-receiver rows ok sheet l s o d) r (sym (receiver-is P sheet s d) ∙ h) in
      let gp = waiter-waits rows ok sheet (l ++ (x ∷ [])) t later (is_output_to d) (one-sender rows ok sheet (l ++ (x ∷ [])) t later d) p (sym (sender-is P sheet t d) ∙ g) in
      let C = works P (row_count rows) F sheet s r before (passing-acts (is_input_from d) (λ z. z) (intent_at P sheet s r) hr) in
      let B = works P (row_count rows) F sheet t p behind (passing-acts (is_output_to d) (λ z. z) (intent_at P sheet t p) gp) in
      let a = inputs-counted F.source F.sink C.action C.listed r d (intent_at P sheet s r) (works-proper P (row_count rows) F sheet s r C refl) hr in
      let b = outputs-counted F.source F.sink B.action B.listed p d (intent_at P sheet t p) (works-proper P (row_count rows) F sheet t p B refl) gp in
      let (c, u, v) =
      common-channel rows right d r p (subst (λ (q : Process). Memᴰ d (input_elements (action_of q))) (sym (F.placed C.action r C.listed C.sub)) a)
      (subst (λ (q : Process). Memᴰ d (output_elements (action_of q))) (sym (F.placed B.action p B.listed B.sub)) b) in
      unmoved-output p d B b (N.on-channels p c u v)
      (waits-live rows ok sheet (l ++ (x ∷ [])) t later (is_output_to d) (one-sender rows ok sheet (l ++ (x ∷ [])) t later d) p gp)

  -- ---- the row itself

  still : (B : Works (program rows) (row_count rows) (fit rows ok) sheet s r) → get_or (after (program rows) sheet x s).states r 0 ≡ 1
  still B = N.itself ∙ B.runs

  by-step : Left rows ok sheet l s o x r → own_steps (program rows) sheet (after (program rows) sheet x s) r ≡ own_steps (program rows) sheet s r
  by-step (is-over B h) = absurd (h (still B))
  by-step (by-option C q j c m (inl h)) = absurd (h (still C))
  by-step (by-option C q j c m (inr h)) =
      let m = subst (λ (p : Process). Memᴰ q (rows_beneath (processes_in p))) (sym (F.placed C.action r C.listed C.sub)) (child-in c) in
      absurd (h (N.beneath q (tree-beneath rows right r q m) ∙ C.idle q (child-in c)))
  by-step (by-test C q c h g) = owner-kept rows ok sheet l s o A r (own_same P sheet s t r same q 1 h) (option-same P sheet s t r same q 1 h)
    where
      same : intent_at P sheet t r ≡ intent_at P sheet s r
      same = go (is_live P sheet r s) refl
        where
          go : (b : Bool) → is_live P sheet r s ≡ b → intent_at P sheet t r ≡ intent_at P sheet s r
          go b z =
              intent-is rows sheet t r b (live-kept ∙ z)
              ∙ ap (λ (w : Intent). if_else b w waits) (subst (λ (k : Action). intent sheet k r t.store ≡ intent sheet k r s.store) (sym (ap action_of (F.placed C.action r C.listed C.sub))) g)
              ∙ sym (intent-is rows sheet s r b z)

  -- the owner's steps are the same
  pub own-steps-local : own_steps (program rows) sheet (after (program rows) sheet x s) r ≡ own_steps (program rows) sheet s r
  own-steps-local = go (one-or-none x r)
    where
      not-moved : NoneOf x r → Moved P sheet s x t r → ⊥
      not-moved d (inl m) = d r m refl
      not-moved d (inr c) = false≢true (sym c.0 ∙ sym live-kept ∙ c.1)

      go : RowOf x r ⊎ NoneOf x r → own_steps P sheet t r ≡ own_steps P sheet s r
      go (inl m) = by-step (step-leaves rows ok sheet l s o A r m)
      go (inr d) = own-steps-kept rows ok sheet l s o A r (not-moved d) none-wakes
