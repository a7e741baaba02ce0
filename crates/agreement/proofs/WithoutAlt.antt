-- Without ALT two different ready steps have no row in common; so each is allowed after the other, and they lead to one state.
use mathlib.Core.Path.{◌≡◌, refl, sym, ap, ap₂, subst, ◌∙◌}
use mathlib.Core.Logic.{◌≢◌}
use mathlib.Core.Bool.{Bool, true, false}
use mathlib.Core.Option.{some}
use mathlib.Core.List.Memᴰ
use mathlib.Core.List.{List}
use Prim.Native.Nat.{ℕ, ◌<◌}
use native.Mathlib.Omega.{arith}
use native.Mathlib.Decide.{dec_lt}
use lib.IntN.{ℤ}
use lib.ListN.{get_or-map}
use lib.Dec.{ltb, eqb, T, eqb→eq}
use Rattle.meaning.specs.declared.Node.{Node}
use Rattle.meaning.specs.declared.Node.TheVariants.{Literal, Element, Monadic, Dyadic, Stop, Skip, Assignment, Input, Output, Seq, Par, If, While, Alt, Block, Member, Choice, OptionRow, Guard, Other}
use Rattle.meaning.specs.Basics.{if_else}
use Rattle.meaning.specs.Rows.{row_count, kind_at}
use Rattle.meaning.specs.Nodes.{node_at}
use Rattle.meaning.specs.HigherRows.{last_rows, at_row}
use Rattle.meaning.proofs.HigherRows.{at_row-at, at_row-past}
use Rattle.meaning.specs.Tree.{Action, Processes, Content, no_content, content_of, contents, or_stop, action_of}
use Rattle.meaning.specs.State.{State, Program, program, process_at, whole, Effect}
use Rattle.meaning.specs.Labels.{Label, own, pass}
use Rattle.meaning.specs.Readings.{Sheet}
use Rattle.meaning.specs.Intent.{Offer, open_offer, input_offer, Intent, inputs_from, selects}
use Rattle.meaning.specs.Ready.{intent_at}
use Rattle.meaning.specs.Step.{Step}
use Rattle.meaning.specs.Order.{OrderOf}
use Rattle.agreement.proofs.Again.{Out}
use Rattle.agreement.proofs.Reach.{Sub}
use Rattle.agreement.proofs.Steps.{distinct-options}
use Rattle.agreement.proofs.Takeable.{DistinctOptions}
use Rattle.agreement.proofs.Fit.{Fit}
use Rattle.agreement.proofs.OptionRows.{option_rows}
use Rattle.agreement.proofs.Active.{of-own, of-input, of_output, offer_at, Active, acts-alone, passes_on, takes-open, takes-input, not-input, not-output, input-output, input-same, output-same}
use Rattle.agreement.proofs.Working.{acts, Inv, works, works-proper}
use Rattle.agreement.proofs.Invariant.{step-active}
use Rattle.agreement.proofs.Separate.{one-input-row, one-sender, alt-row, table-inv}
use Rattle.agreement.proofs.Freedom.{RowsApart, apart-diamond}

-- no process of the whole has options
abbrev pub NoOptions : Program → Type 0
NoOptions P = (k : Action) (r : ℕ) (ms : Processes) → Sub k r ms (whole P) → (j : ℕ) → Out j (option_rows k)

module _ (P : Program) (n : ℕ) (F : Fit P n) (sheet : Sheet) (N : NoOptions P) where
  module _ (s : State) (i : Inv P n F sheet s) where
    abbrev W : ℕ → Intent
    W = intent_at P sheet s

    no-alt : {A : Type 0} (r j : ℕ) (os : List Offer) (o : Offer) → W r ≡ selects os → offer_at j os ≡ some o → A
    no-alt r j os o h g = let (A, m) = alt-row P n F sheet s i r j os o h g in absurd (N A.action r A.listed A.sub j m)

    -- the receiver of an element is one row
    one-receiver : (a b d e x y : ℕ) → W a ≡ inputs_from d x → W b ≡ inputs_from e y → d ≡ e → a ≡ b
    one-receiver a b d e x y h g q =
        let A = works P n F sheet s a i (ap acts h) in
        let B = works P n F sheet s b i (ap acts g) in
        one-input-row P n F sheet s i a b d A B (works-proper P n F sheet s a A h).0 (Memᴰ.cast q (works-proper P n F sheet s b B g).0)

    -- two different steps have no row in common
    pub rows_apart : {x y : Label} {e f : Effect} → Active W x e → Active W y f → x ≢ y → RowsApart x y
    rows_apart (acts-alone h) (acts-alone g) ne r q of-own of-own z = ne (ap own z)
    rows_apart (acts-alone h) (passes_on g f) ne r q of-own of-input z = not-input h (ap W z ∙ g)
    rows_apart (acts-alone h) (passes_on g f) ne r q of-own of_output z = not-output h (ap W z ∙ f)
    rows_apart (acts-alone h) (takes-open {r = p} {j} {q = c} {i = k} {ws} {os} g f) ne r q m l z = no-alt p j os (open_offer k c ws) g f
    rows_apart (acts-alone h) (takes-input {r = p} {j} {q = c} {i = k} {e} {a} {os} g f t) ne r q m l z = no-alt p j os (input_offer k c e a) g f
    rows_apart (passes_on h g) (acts-alone f) ne r q of-input of-own z = not-input f (ap W (sym z) ∙ h)
    rows_apart (passes_on h g) (acts-alone f) ne r q of_output of-own z = not-output f (ap W (sym z) ∙ g)
    rows_apart (passes_on {o} {e = d} {z = m} h g) (passes_on {o = p} {e = c} {z = k} h' g') ne r q of-input of-input z = ne (ap₂ pass z (one-sender P n F sheet s i o p d c m k g g' (input-same h (ap W z ∙ h'))))
    rows_apart (passes_on h g) (passes_on h' g') ne r q of-input of_output z = input-output h (ap W z ∙ g')
    rows_apart (passes_on h g) (passes_on h' g') ne r q of_output of-input z = input-output h' (ap W (sym z) ∙ g)
    rows_apart (passes_on {i = a} {e = d} {a = x} h g) (passes_on {i = b} {e = c} {a = y} h' g') ne r q of_output of_output z = ne (ap₂ pass (one-receiver a b d c x y h h' (output-same g (ap W z ∙ g'))) z)
    rows_apart (passes_on h u) (takes-open {r = p} {j} {q = c} {i = k} {ws} {os} g f) ne r q m l z = no-alt p j os (open_offer k c ws) g f
    rows_apart (passes_on h u) (takes-input {r = p} {j} {q = c} {i = k} {e} {a} {os} g f t) ne r q m l z = no-alt p j os (input_offer k c e a) g f
    rows_apart (takes-open {r = p} {j} {q = c} {i = k} {ws} {os} g f) B ne r q m l z = no-alt p j os (open_offer k c ws) g f
    rows_apart (takes-input {r = p} {j} {q = c} {i = k} {e} {a} {os} g f t) B ne r q m l z = no-alt p j os (input_offer k c e a) g f

  -- two different steps: each is allowed after the other, and they lead to one state
  pub two_steps : ((s : State) → DistinctOptions P sheet s) → (s : State) → Inv P n F sheet s → (x y : Label) (t u : State) → x ≢ y → Step P sheet s x t → Step P sheet s y u → (v : State) × Step P sheet t y v × Step P sheet u x v
  two_steps D s i x y t u ne hx hy =
      let (e, A, z) = step-active P n F sheet D s x t i hx in
      let (f, B, w) = step-active P n F sheet D s y u i hy in
      apart-diamond P n F sheet s i D x y t u hx hy (rows_apart s i A B ne)

-- ---- tables without ALT

abbrev NotAlt : Node → Type 0
NotAlt (Literal x) = Unit {0}
NotAlt (Element a b) = Unit {0}
NotAlt (Monadic a b) = Unit {0}
NotAlt (Dyadic a b c) = Unit {0}
NotAlt Stop = Unit {0}
NotAlt Skip = Unit {0}
NotAlt (Assignment a b c) = Unit {0}
NotAlt (Input a b c) = Unit {0}
NotAlt (Output a b c) = Unit {0}
NotAlt (Seq a) = Unit {0}
NotAlt (Par a) = Unit {0}
NotAlt (If a) = Unit {0}
NotAlt (While a b) = Unit {0}
NotAlt (Alt a) = ⊥
NotAlt (Block a b) = Unit {0}
NotAlt (Member a b) = Unit {0}
NotAlt (Choice a b c) = Unit {0}
NotAlt (OptionRow a b c) = Unit {0}
NotAlt (Guard a b) = Unit {0}
NotAlt Other = Unit {0}

either : (t : Bool) (a b : Node) → (t ≡ true → NotAlt a) → NotAlt b → NotAlt (if_else t a b)
either true a b h g = h refl
either false a b h g = g

module _ (rows : List ℤ) where
  not-alt : (r : ℕ) → kind_at rows r ≢ 34 → NotAlt (node_at rows r)
  unfolding node_at
  not-alt r ne =
      let k = kind_at rows r in
      either (eqb k 10) _ _ (λ e. tt) (either (eqb k 11) _ _ (λ e. tt) (either (eqb k 12) _ _ (λ e. tt) (either (eqb k 13) _ _ (λ e. tt) (either (eqb k 20) _ _ (λ e. tt)
      (either (eqb k 21) _ _ (λ e. tt) (either (eqb k 22) _ _ (λ e. tt) (either (eqb k 23) _ _ (λ e. tt) (either (eqb k 24) _ _ (λ e. tt) (either (eqb k 30) _ _ (λ e. tt)
      (either (eqb k 31) _ _ (λ e. tt) (either (eqb k 32) _ _ (λ e. tt) (either (eqb k 33) _ _ (λ e. tt) (either (eqb k 34) _ _ (λ e. ne (eqb→eq k 34 (subst (λ (t : Bool). T t) (sym e) tt)))
      (either (eqb k 35) _ _ (λ e. tt) (either (eqb k 40) _ _ (λ e. tt) (either (eqb k 41) _ _ (λ e. tt) (either (eqb k 42) _ _ (λ e. tt) (either (eqb k 43) _ _ (λ e. tt) tt))))))))))))))))))

  abbrev Bare : Content → Type 0
  Bare p = (j : ℕ) → Out j (option_rows (action_of (or_stop p.process)))

  bare : (r : ℕ) (at : ℕ → Content) (k : Node) → NotAlt k → Bare (content_of rows r at k)
  bare r at (Literal x) h j m = Memᴰ.not-nil m
  bare r at (Element a b) h j m = Memᴰ.not-nil m
  bare r at (Monadic a b) h j m = Memᴰ.not-nil m
  bare r at (Dyadic a b c) h j m = Memᴰ.not-nil m
  bare r at Stop h j m = Memᴰ.not-nil m
  bare r at Skip h j m = Memᴰ.not-nil m
  bare r at (Assignment a b c) h j m = Memᴰ.not-nil m
  bare r at (Input a b c) h j m = Memᴰ.not-nil m
  bare r at (Output a b c) h j m = Memᴰ.not-nil m
  bare r at (Seq a) h j m = Memᴰ.not-nil m
  bare r at (Par a) h j m = Memᴰ.not-nil m
  bare r at (If a) h j m = Memᴰ.not-nil m
  bare r at (While a b) h j m = Memᴰ.not-nil m
  bare r at (Alt a) h j m = h
  bare r at (Block a b) h j m = Memᴰ.not-nil m
  bare r at (Member a b) h j m = Memᴰ.not-nil m
  bare r at (Choice a b c) h j m = Memᴰ.not-nil m
  bare r at (OptionRow a b c) h j m = Memᴰ.not-nil m
  bare r at (Guard a b) h j m = Memᴰ.not-nil m
  bare r at Other h j m = Memᴰ.not-nil m

  abbrev step : ℕ → (ℕ → Content) → Content
  step r at = content_of rows r at (node_at rows r)

  bare-at : ((r : ℕ) → r < row_count rows → kind_at rows r ≢ 34) → (r : ℕ) → Dec (r < row_count rows) → Bare (at_row no_content step (row_count rows) r)
  bare-at w r (yes l) = rw (at_row-at no_content step (row_count rows) r l) (bare r (λ b. if_else (ltb r b) (at_row no_content step (row_count rows) b) no_content) (node_at rows r) (not-alt r (w r l)))
  bare-at w r (no l) = rw (at_row-past no_content step (row_count rows) r (omega arith)) (λ j m. Memᴰ.not-nil m)

  process-at : (r : ℕ) → process_at (program rows) r ≡ or_stop (at_row no_content step (row_count rows) r).process
  unfolding process_at program contents at_row
  process-at r = get_or-map (λ (p : Content). or_stop p.process) (last_rows no_content step (row_count rows) (row_count rows)) r no_content

  -- a table without ALT has no options
  pub no-options : Fit (program rows) (row_count rows) → ((r : ℕ) → r < row_count rows → kind_at rows r ≢ 34) → NoOptions (program rows)
  no-options F w k r ms q j m =
      let e : action_of (or_stop (at_row no_content step (row_count rows) r).process) ≡ k = ap action_of (sym (process-at r) ∙ F.placed k r ms q) in
      bare-at w r (dec_lt r (row_count rows)) j (rw (← e) at m)

  -- two different steps of an accepted table without ALT, in a state that an order reaches
  pub one-step-diamond : (sheet : Sheet) → Fit (program rows) (row_count rows) → ((r : ℕ) → r < row_count rows → kind_at rows r ≢ 34) → (l : List Label) (s : State) → OrderOf rows sheet l s
      → (x y : Label) (t u : State) → x ≢ y → Step (program rows) sheet s x t → Step (program rows) sheet s y u → (v : State) × Step (program rows) sheet t y v × Step (program rows) sheet u x v
  one-step-diamond sheet F w l s o = two_steps (program rows) (row_count rows) F sheet (no-options F w) (distinct-options rows sheet) s (table-inv rows sheet F l s o)
