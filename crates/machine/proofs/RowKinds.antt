-- The kind of a row tells where to look for its step: the rows of options are options, and an option orders no step of its own. It holds of every table and state.
use mathlib.Core.Path.{◌≡◌, refl, sym, ap, ◌∙◌}
use mathlib.Core.Logic.{inl, inr}
use mathlib.Core.Bool.{true, true≢false}
use mathlib.Core.Option.{Option, none, some}
use mathlib.Core.List.Memᴰ
use mathlib.Core.List.{List, [], ◌∷◌, Memᴰ}
use Prim.Native.Nat.{ℕ, ◌<◌}
use native.Mathlib.Omega.{arith}
use native.Mathlib.Decide.{dec_lt}
use lib.IntN.{ℤ}
use Rattle.meaning.specs.declared.Node.{Node}
use Rattle.meaning.specs.declared.Node.TheVariants.{Literal, Element, Monadic, Dyadic, Stop, Skip, Assignment, Input, Output, Seq, Par, If, While, Alt, Block, Member, Choice, OptionRow, Guard, Other}
use Rattle.meaning.specs.Rows.{row_count}
use Rattle.meaning.specs.Nodes.{node_at}
use Rattle.meaning.specs.Tree.{Process, Content, no_content, content_of, content_at, or_stop, action_of}
use Rattle.meaning.specs.State.{State, program, process_at}
use Rattle.meaning.specs.Readings.{Sheet}
use Rattle.meaning.specs.Intent.{intent}
use Rattle.agreement.proofs.OptionRows.{option_rows, rows_of_options}
use Rattle.meaning.specs.ContentClaims.{higher_content}
use Rattle.agreement.proofs.TableTree.{part_at, part-past, process-is, Known, every-row}
use Rattle.machine.specs.RowSteps.{is_option, own_step_by, waiting_at, own_step}
use Rattle.machine.proofs.LiveRows.{intent-waits}

module _ (rows : List ℤ) where
  -- ---- the rows of options are options

  abbrev Options : List ℕ → Type 0
  Options l = (j : ℕ) → Memᴰ j l → is_option (node_at rows j) ≡ true

  abbrev of_process : Option Process → List ℕ
  of_process none = []
  of_process (some p) = option_rows (action_of p)

  abbrev PartOk : ℕ → Content → Type 0
  PartOk r p = Options (rows_of_options p.options) × Options (of_process p.process)

  no-options : Options []
  no-options j m = absurd (Memᴰ.not-nil m)

  nothing : (r : ℕ) → PartOk r no_content
  nothing r = (no-options, no-options)

  one_more : (r : ℕ) (l : List ℕ) → is_option (node_at rows r) ≡ true → Options l → Options (r ∷ l)
  one_more r l e h j (Memᴰ.head q) = ap (λ (i : ℕ). is_option (node_at rows i)) q ∙ e
  one_more r l e h j (Memᴰ.tail m) = h j m

  part-ok : (r : ℕ) (at : ℕ → Content) → ((b : ℕ) → PartOk b (at b)) → (k : Node) → is_option (node_at rows r) ≡ is_option k → PartOk r (content_of rows r at k)
  part-ok r at h (Literal x) e = nothing r
  part-ok r at h (Element a b) e = nothing r
  part-ok r at h (Monadic a b) e = nothing r
  part-ok r at h (Dyadic a b c) e = nothing r
  part-ok r at h Stop e = nothing r
  part-ok r at h Skip e = nothing r
  part-ok r at h (Assignment a b c) e = nothing r
  part-ok r at h (Input a b c) e = nothing r
  part-ok r at h (Output a b c) e = nothing r
  part-ok r at h (Seq a) e = nothing r
  part-ok r at h (Par a) e = nothing r
  part-ok r at h (If a) e = nothing r
  part-ok r at h (While a b) e = nothing r
  part-ok r at h (Alt a) e = (no-options, (h a).0)
  part-ok r at h (Block a b) e = nothing r
  part-ok r at h (Member a b) e = nothing r
  part-ok r at h (Choice a b c) e = nothing r
  part-ok r at h (OptionRow a b c) e = (one_more r (rows_of_options (at b).options) e (h b).0, no-options)
  part-ok r at h (Guard a b) e = nothing r
  part-ok r at h Other e = nothing r

  of-known : (r b : ℕ) (p : Content) → Known rows PartOk r b p → PartOk b p
  of-known r b p (inl e) = rw e (nothing b)
  of-known r b p (inr h) = h.3

  every-part : (r : ℕ) → PartOk r (content_at rows r)
  every-part = every-row rows PartOk nothing (λ r l e h. part-ok r (higher_content rows r) (λ b. of-known r b (higher_content rows r b) (h b)) (node_at rows r) refl)

  or-stop : (o : Option Process) → Options (of_process o) → Options (option_rows (action_of (or_stop o)))
  or-stop none h = h
  or-stop (some p) h = h

  -- a row that is an option of some row is an option by its kind
  pub option-kind : (r j : ℕ) → Memᴰ j (option_rows (action_of (process_at (program rows) r))) → is_option (node_at rows j) ≡ true
  option-kind r j m = or-stop (content_at rows r).process (every-part r).1 j (rw (process-is rows r) at m)

  -- ---- an option is no process

  no-process-of : (r : ℕ) (at : ℕ → Content) (k : Node) → is_option k ≡ true → (content_of rows r at k).process ≡ none
  no-process-of r at (Literal x) e = absurd (true≢false (sym e))
  no-process-of r at (Element a b) e = absurd (true≢false (sym e))
  no-process-of r at (Monadic a b) e = absurd (true≢false (sym e))
  no-process-of r at (Dyadic a b c) e = absurd (true≢false (sym e))
  no-process-of r at Stop e = absurd (true≢false (sym e))
  no-process-of r at Skip e = absurd (true≢false (sym e))
  no-process-of r at (Assignment a b c) e = absurd (true≢false (sym e))
  no-process-of r at (Input a b c) e = absurd (true≢false (sym e))
  no-process-of r at (Output a b c) e = absurd (true≢false (sym e))
  no-process-of r at (Seq a) e = absurd (true≢false (sym e))
  no-process-of r at (Par a) e = absurd (true≢false (sym e))
  no-process-of r at (If a) e = absurd (true≢false (sym e))
  no-process-of r at (While a b) e = absurd (true≢false (sym e))
  no-process-of r at (Alt a) e = absurd (true≢false (sym e))
  no-process-of r at (Block a b) e = absurd (true≢false (sym e))
  no-process-of r at (Member a b) e = absurd (true≢false (sym e))
  no-process-of r at (Choice a b c) e = absurd (true≢false (sym e))
  no-process-of r at (OptionRow a b c) e = refl
  no-process-of r at (Guard a b) e = absurd (true≢false (sym e))
  no-process-of r at Other e = absurd (true≢false (sym e))

  pub no-process : (j : ℕ) → is_option (node_at rows j) ≡ true → (content_at rows j).process ≡ none
  no-process j e = go (dec_lt j (row_count rows))
    where
      go : Dec (j < row_count rows) → (content_at rows j).process ≡ none
      go (yes l) = rw (part_at rows j l) (no-process-of j (higher_content rows j) (node_at rows j) e)
      go (no l) = rw (part-past rows j (omega arith)) refl

  module _ (sheet : Sheet) (s : State) where
    -- a row that is no process has no step of its own
    pub no-own-step : (j : ℕ) → (content_at rows j).process ≡ none → own_step (program rows) sheet s j ≡ none
    unfolding own_step intent
    no-own-step j e =
        let p : process_at (program rows) j ≡ or_stop none = process-is rows j ∙ ap or_stop e in
        ap (own_step_by (waiting_at (program rows) sheet s) j) (intent-waits rows sheet s j (ap (λ (q : Process). intent sheet (action_of q) j s.store) p))
