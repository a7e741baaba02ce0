-- Each channel element has at most one live input row and one live output row; so two ready steps have different rows in the order of ready steps.
use mathlib.Core.Path.{◌≡◌, refl, sym, ap, ap₂, ◌∙◌}
use mathlib.Core.Option.{some}
use mathlib.Core.List.Memᴰ
use mathlib.Core.List.{List, Memᴰ}
use Prim.Native.Nat.{ℕ}
use native.Mathlib.Decide.{ℕ_discrete}
use lib.IntN.{ℤ}
use lib.ListN.{length, length-map}
use Rattle.meaning.specs.Rows.{row_count}
use Rattle.meaning.specs.Nodes.{node_at}
use Rattle.meaning.specs.HigherRows.{last_rows}
use Rattle.meaning.proofs.HigherRows.{last_rows-length}
use Rattle.meaning.specs.Tree.{Action, Processes, Content, no_content, content_of, contents, or_stop}
use Rattle.meaning.specs.State.{State, Program, program, Effect}
use Rattle.meaning.specs.Intent.{Offer, open_offer, input_offer, Intent, outputs_to, selects}
use Rattle.meaning.specs.Ready.{option_row, after, intent_at}
use Rattle.meaning.specs.Usage.{input_elements, output_elements}
use Rattle.meaning.specs.Values.{Message}
use Rattle.meaning.specs.Labels.{Label, pass, take_option, order_row}
use Rattle.meaning.specs.Readings.{Sheet}
use Rattle.meaning.specs.Order.{OrderOf}
use Rattle.agreement.proofs.Claims.{RowsDiffer}
use Rattle.agreement.proofs.Commute.{own, at_in}
use Rattle.agreement.proofs.Steps.{distinct-options, ready-allowed}
use Rattle.agreement.proofs.Fit.{Fit}
use Rattle.agreement.proofs.OptionRows.{option_rows, OptionRows}
use Rattle.agreement.proofs.Proper.{ProperOffer, offer-proper}
use Rattle.agreement.proofs.Active.{offer_at, offer_at-is, Active, acts-alone, passes_on, takes-open, takes-input, not-input, input-same, selects-same, open-input, offer-same}
use Rattle.agreement.proofs.Working.{acts, Inv, Works, works, works_at, works-proper, works-apart}
use Rattle.agreement.proofs.Invariant.{step-active}
use Rattle.agreement.proofs.Beginning.{reached-inv}

module _ (P : Program) (n : ℕ) (F : Fit P n) (sheet : Sheet) (s : State) (i : Inv P n F sheet s) where
  abbrev W : ℕ → Intent
  W = intent_at P sheet s

  -- at most one live row inputs from an element
  pub one-input-row : (a b e : ℕ) (A : Works P n F sheet s a) (B : Works P n F sheet s b) → Memᴰ e (input_elements A.action) → Memᴰ e (input_elements B.action) → a ≡ b
  one-input-row a b e A B h g = go (ℕ_discrete a b)
    where
      go : Dec (a ≡ b) → a ≡ b
      go (yes q) = q
      go (no ne) = absurd ((works-apart P n F sheet s a b i A B ne).in-in e h g)

  -- and at most one outputs to it
  pub one-output-row : (a b e : ℕ) (A : Works P n F sheet s a) (B : Works P n F sheet s b) → Memᴰ e (output_elements A.action) → Memᴰ e (output_elements B.action) → a ≡ b
  one-output-row a b e A B h g = go (ℕ_discrete a b)
    where
      go : Dec (a ≡ b) → a ≡ b
      go (yes q) = q
      go (no ne) = absurd ((works-apart P n F sheet s a b i A B ne).out-out e h g)

  pub one-sender : (a b d e : ℕ) (m k : Message) → W a ≡ outputs_to d m → W b ≡ outputs_to e k → d ≡ e → a ≡ b
  one-sender a b d e m k h g q =
      let A = works P n F sheet s a i (ap acts h) in
      let B = works P n F sheet s b i (ap acts g) in
      one-output-row a b d A B (works-proper P n F sheet s a A h) (Memᴰ.cast q (works-proper P n F sheet s b B g))

  -- the offer's row is one of the ALT's options
  option-row : (k : Action) (ms : Processes) (o : Offer) → ProperOffer F.source F.sink k ms o → Memᴰ (option_row o) (option_rows k)
  option-row k ms (open_offer j q ws) h = h.0
  option-row k ms (input_offer j q e a) h = h.0

  pub alt-row : (r j : ℕ) (os : List Offer) (o : Offer) → W r ≡ selects os → offer_at j os ≡ some o → (A : Works P n F sheet s r) × Memᴰ j (option_rows A.action)
  alt-row r j os o h g =
      let A = works P n F sheet s r i (ap acts h) in
      let (m, q) = offer_at-is j o os g in
      (A, Memᴰ.cast (sym q) (option-row A.action A.listed o (offer-proper F.source F.sink A.action A.listed o os (works-proper P n F sheet s r A h) m)))

  module _ (O : OptionRows P) where
    -- a live row is no option's
    no-option : {A : Type 0} (a r j : ℕ) (os : List Offer) (o : Offer) → acts (W a) ≡ 1 → W r ≡ selects os → offer_at j os ≡ some o → a ≡ j → A
    no-option a r j os o z h g q =
        let (B, m) = alt-row r j os o h g in
        let t = works_at P n F sheet s a a 2 i (works P n F sheet s a i z) (own 0 refl refl) in
        absurd (O.no-process B.action r B.listed B.sub j m (Memᴰ.cast (sym q) (at_in t)))

    -- two ALTs have no option row in common
    same-alt : (r p j k : ℕ) (os ps : List Offer) (o q : Offer) → W r ≡ selects os → offer_at j os ≡ some o → W p ≡ selects ps → offer_at k ps ≡ some q → j ≡ k → r ≡ p
    same-alt r p j k os ps o q h g h' g' z =
        let (A, m) = alt-row r j os o h g in
        let (B, l) = alt-row p k ps q h' g' in
        O.one-alt A.action r A.listed B.action p B.listed A.sub B.sub j m (Memᴰ.cast z l)

    -- the first offer of an option that two steps of one ALT take is one
    same-offer : (r p j k : ℕ) (os ps : List Offer) (q : Offer) → W r ≡ selects os → W p ≡ selects ps → offer_at k ps ≡ some q → r ≡ p → j ≡ k → offer_at j os ≡ some q
    same-offer r p j k os ps q h g f e z = ap₂ offer_at z (selects-same h (ap W e ∙ g)) ∙ f

    -- two steps that can be taken and have one row in the order are one step
    pub one-step : {x y : Label} {e f : Effect} → Active W x e → Active W y f → order_row x ≡ order_row y → x ≡ y
    one-step (acts-alone h) (acts-alone g) q = ap Label.own q
    one-step (acts-alone h) (passes_on g f) q = not-input h (ap W q ∙ g)
    one-step (acts-alone {r} h) (takes-open {r = p} {j} {q = z} {i = k} {ws} {os} g f) q = no-option r p j os (open_offer k z ws) (ap acts h) g f q
    one-step (acts-alone {r} h) (takes-input {r = p} {j} {q = z} {i = k} {e} {a} {os} g f t) q = no-option r p j os (input_offer k z e a) (ap acts h) g f q
    one-step (passes_on h g) (acts-alone f) q = not-input f (ap W (sym q) ∙ h)
    one-step (passes_on {o} {e = d} {z = m} h g) (passes_on {o = p} {e = c} {z = k} h' g') q = ap₂ pass q (one-sender o p d c m k g g' (input-same h (ap W q ∙ h')))
    one-step (passes_on {i = r} h t) (takes-open {r = p} {j} {q = z} {i = k} {ws} {os} g f) q = no-option r p j os (open_offer k z ws) (ap acts h) g f q
    one-step (passes_on {i = r} h u) (takes-input {r = p} {j} {q = z} {i = k} {e} {a} {os} g f t) q = no-option r p j os (input_offer k z e a) (ap acts h) g f q
    one-step (takes-open {r = p} {j} {q = z} {i = k} {ws} {os} g f) (acts-alone {r} h) q = no-option r p j os (open_offer k z ws) (ap acts h) g f (sym q)
    one-step (takes-open {r = p} {j} {q = z} {i = k} {ws} {os} g f) (passes_on {i = r} h t) q = no-option r p j os (open_offer k z ws) (ap acts h) g f (sym q)
    one-step (takes-open {r} {j} {q = z} {i = k} {ws} {os} g f) (takes-open {r = p} {j = l} {q = y} {i = c} {ws = us} {os = ps} h t) q =
        ap₂ take_option (same-alt r p j l os ps (open_offer k z ws) (open_offer c y us) g f h t q) q
    one-step (takes-open {r} {j} {q = z} {i = k} {ws} {os} g f) (takes-input {r = p} {j = l} {q = y} {i = c} {e} {a} {os = ps} h t u) q =
        open-input f (same-offer r p j l os ps (input_offer c y e a) g h t (same-alt r p j l os ps (open_offer k z ws) (input_offer c y e a) g f h t q) q)
    one-step (takes-input {r = p} {j} {q = z} {i = k} {e} {a} {os} g f t) (acts-alone {r} h) q = no-option r p j os (input_offer k z e a) (ap acts h) g f (sym q)
    one-step (takes-input {r = p} {j} {q = z} {i = k} {e} {a} {os} g f t) (passes_on {i = r} h u) q = no-option r p j os (input_offer k z e a) (ap acts h) g f (sym q)
    one-step (takes-input {r} {j} {q = z} {i = k} {e} {a} {os} g f u) (takes-open {r = p} {j = l} {q = y} {i = c} {ws} {os = ps} h t) q =
        open-input (same-offer r p j l os ps (open_offer c y ws) g h t (same-alt r p j l os ps (input_offer k z e a) (open_offer c y ws) g f h t q) q) f
    one-step (takes-input {r} {j} {o} {q = z} {i = k} {e} {a} {z = m} {os} g f u) (takes-input {r = p} {j = l} {o = b} {q = y} {i = c} {e = d} {a = a'} {z = m'} {os = ps} h t v) q =
        let rp = same-alt r p j l os ps (input_offer k z e a) (input_offer c y d a') g f h t q in
        let ob = one-sender o b e d m m' u v (offer-same f (same-offer r p j l os ps (input_offer c y d a') g h t rp q)) in
        rw (rp, q, ob)

-- a table has a process for each row
pub processes-length : (rows : List ℤ) → length (program rows).processes ≡ row_count rows
unfolding program contents
processes-length rows =
    let ps = last_rows no_content (λ r at. content_of rows r at (node_at rows r)) (row_count rows) (row_count rows) in
    length-map ps (λ (p : Content). or_stop p.process) ∙ last_rows-length no_content (λ r at. content_of rows r at (node_at rows r)) (row_count rows) (row_count rows)

-- the invariant, of tables that fit
pub table-inv : (rows : List ℤ) (sheet : Sheet) (F : Fit (program rows) (row_count rows)) (l : List Label) (s : State) → OrderOf rows sheet l s → Inv (program rows) (row_count rows) F sheet s
table-inv rows sheet F l s o = reached-inv (program rows) (row_count rows) F sheet (distinct-options rows sheet) o.beginning s o.begins o.order

-- the claim of `Order`: no two ready steps have one row
pub rows-differ : (Accepted : List ℤ → Sheet → Type 0) → ((rows : List ℤ) (sheet : Sheet) → Accepted rows sheet → Fit (program rows) (row_count rows) × OptionRows (program rows)) → RowsDiffer Accepted
rows-differ Accepted fit rows sheet l s a o x y mx my q =
    let (F, O) = fit rows sheet a in
    let i = table-inv rows sheet F l s o in
    let (e, A, u) = step-active (program rows) (row_count rows) F sheet (distinct-options rows sheet) s x (after (program rows) sheet x s) i (ready-allowed rows sheet F s i x mx) in
    let (f, B, v) = step-active (program rows) (row_count rows) F sheet (distinct-options rows sheet) s y (after (program rows) sheet y s) i (ready-allowed rows sheet F s i y my) in
    one-step (program rows) (row_count rows) F sheet s i O A B q
