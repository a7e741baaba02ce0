-- Of an accepted table, prepared: each option of an ALT is a row that is an option, with the process that the prepared row names.
use mathlib.Core.Path.{◌≡◌, refl, sym, ap, ◌∙◌}
use mathlib.Core.Logic.{inl, inr}
use mathlib.Core.Option.{Option, none, some}
use mathlib.Core.List.Memᴰ
use mathlib.Core.List.{List, [], ◌∷◌, Memᴰ}
use Prim.Native.Nat.{ℕ, ◌<◌, ◌≤◌}
use native.Mathlib.Omega.{arith}
use lib.IntN.{ℤ}
use Rattle.meaning.specs.declared.Node.{Node}
use Rattle.meaning.specs.declared.Node.TheVariants.{Literal, Element, Monadic, Dyadic, Stop, Skip, Assignment, Input, Output, Seq, Par, If, While, Alt, Block, Member, Choice, OptionRow, Guard, Other}
use Rattle.meaning.specs.Rows.{row_count}
use Rattle.meaning.specs.Nodes.{node_at}
use Rattle.meaning.specs.Tree.{AltOption, Action, stop, skip, sequence, parallel, assign, input, output, conditional, loop, alternation, block, Process, Content, content_of, content_at, or_stop, action_of}
use Rattle.meaning.specs.State.{program, process_at}
use Rattle.meaning.specs.ContentClaims.{higher_content}
use Rattle.agreement.specs.RowsOfSteps.{rows_of_options, option_rows}
use Rattle.agreement.proofs.TableTree.{process-is, Known, every-row}
use Rattle.agreement.proofs.TableReferences.{Fields, fields-are}
use Rattle.run_code.specs.declared.Row.{Row}
use Rattle.run_code.specs.Prepared.{Prepared, place_at}
use Rattle.run_code.proofs.Entries.{what-at}
use Rattle.run_code.proofs.RowKinds.{row-of-kind, kind-in}
use Rattle.run_code.proofs.Codes.{few, option-row}
use Rattle.run_intents.specs.Stands.{options_of}

module _ {rows : List ℤ} {code : List ℕ} (p : Prepared rows code) where
  -- an option as its prepared row says
  pub record AsPrepared (b : AltOption) : Type 0 where
    pub is-option : place_at code b.row 0 ≡ 42
    pub process : b.process ≡ place_at code b.row 1
    pub inside : b.row ≤ 1024

  abbrev All : List AltOption → Type 0
  All [] = Unit {0}
  All (b ∷ bs) = AsPrepared b × All bs

  abbrev of_process : Option Process → List AltOption
  of_process none = []
  of_process (some q) = options_of (action_of q)

  abbrev PartOk : ℕ → Content → Type 0
  PartOk r c = All c.options × All (of_process c.process)

  abbrev first_process : List AltOption → ℕ
  first_process [] = 0
  first_process (b ∷ bs) = b.process

  module _ (r : ℕ) (l : r < row_count rows) (at : ℕ → Content) (known : (b : ℕ) → PartOk b (at b)) where
    part-ok : (k : Node) → content_at rows r ≡ content_of rows r at k → Fields rows r k → PartOk r (content_of rows r at k)
    part-ok (Literal x) e f = (tt, tt)
    part-ok (Element a b) e f = (tt, tt)
    part-ok (Monadic a b) e f = (tt, tt)
    part-ok (Dyadic a b c) e f = (tt, tt)
    part-ok Stop e f = (tt, tt)
    part-ok Skip e f = (tt, tt)
    part-ok (Assignment a b c) e f = (tt, tt)
    part-ok (Input a b c) e f = (tt, tt)
    part-ok (Output a b c) e f = (tt, tt)
    part-ok (Seq a) e f = (tt, tt)
    part-ok (Par a) e f = (tt, tt)
    part-ok (If a) e f = (tt, tt)
    part-ok (While a b) e f = (tt, tt)
    part-ok (Alt a) e f = (tt, (known a).0)
    part-ok (Block a b) e f = (tt, tt)
    part-ok (Member a b) e f = (tt, tt)
    part-ok (Choice a b c) e f = (tt, tt)
    part-ok (OptionRow a b c) e f =
        let h : r ≤ 1024 = omega (arith, few p) in
        let w : place_at code r 0 ≡ 42 = what-at p r h ∙ ap (λ (v : Row). v.what) (row-of-kind rows r 42 (kind-in rows r 42 l f.0.0)) in
        ((record { is-option = w; process = ap (λ (d : Content). first_process d.options) (sym e ∙ option-row p r h w); inside = h }, (known b).0), tt)
    part-ok (Guard a b) e f = (tt, tt)
    part-ok Other e f = (tt, tt)

  of-known : (r b : ℕ) (c : Content) → Known rows PartOk r b c → PartOk b c
  of-known r b c (inl e) = rw e (tt, tt)
  of-known r b c (inr h) = h.3

  every-part : (r : ℕ) → PartOk r (content_at rows r)
  every-part = every-row rows PartOk (λ r. (tt, tt)) (λ r l e h. part-ok r l (higher_content rows r) (λ b. of-known r b (higher_content rows r b) (h b)) (node_at rows r) e (fields-are rows r))

  or-stop : (o : Option Process) → All (of_process o) → All (options_of (action_of (or_stop o)))
  or-stop none h = h
  or-stop (some q) h = h

  all-options : (r : ℕ) → All (options_of (action_of (process_at (program rows) r)))
  all-options r = rw (process-is rows r) (or-stop (content_at rows r).process (every-part r).1)

  one : (b : AltOption) (bs : List AltOption) → All bs → Memᴰ b bs → AsPrepared b
  one b bs h (Memᴰ.head e) = rw e h.0
  one b bs h (Memᴰ.tail {xs} m) = one b xs h.1 m

  -- an option of row r
  pub as-prepared : (r : ℕ) (b : AltOption) → Memᴰ b (options_of (action_of (process_at (program rows) r))) → AsPrepared b
  as-prepared r b m = one b (options_of (action_of (process_at (program rows) r))) (all-options r) m

  row_one : (j : ℕ) (bs : List AltOption) → All bs → Memᴰ j (rows_of_options bs) → (place_at code j 0 ≡ 42) × (j ≤ 1024)
  row_one j [] h m = absurd (Memᴰ.not-nil m)
  row_one j (b ∷ bs) h (Memᴰ.head e) = rw e (h.0.is-option, h.0.inside)
  row_one j (b ∷ bs) h (Memᴰ.tail m) = row_one j bs h.1 m

  rows-of : (k : Action) → rows_of_options (options_of k) ≡ option_rows k
  rows-of stop = refl
  rows-of skip = refl
  rows-of sequence = refl
  rows-of parallel = refl
  rows-of (assign v e f) = refl
  rows-of (input i) = refl
  rows-of (output c e f) = refl
  rows-of (conditional ts) = refl
  rows-of (loop e b) = refl
  rows-of (alternation bs) = refl
  rows-of (block v) = refl

  -- a row that is an option of row r
  pub option-what : (r j : ℕ) → Memᴰ j (option_rows (action_of (process_at (program rows) r))) → (place_at code j 0 ≡ 42) × (j ≤ 1024)
  option-what r j m = row_one j (options_of (action_of (process_at (program rows) r))) (all-options r) (rw (rows-of (action_of (process_at (program rows) r))) m)
