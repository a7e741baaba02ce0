-- In an accepted table the row of an option is no process and stands in one ALT: it is an option's row, and each row is referred to once.
use mathlib.Core.Path.{◌≡◌, sym, ap, subst, ◌∙◌}
use mathlib.Core.Logic.{inl, inr}
use mathlib.Core.Option.{Option, none, some, none-ne-some}
use mathlib.Core.List.Memᴰ
use mathlib.Core.List.{List, [], ◌∷◌, Memᴰ}
use Prim.Native.Nat.{ℕ, ◌<◌}
use lib.IntN.{ℤ}
use Rattle.meaning.specs.declared.Node.{Node}
use Rattle.meaning.specs.declared.Node.TheVariants.{Literal, Element, Monadic, Dyadic, Stop, Skip, Assignment, Input, Output, Seq, Par, If, While, Alt, Block, Member, Choice, OptionRow, Guard, Other}
use Rattle.meaning.specs.Rows.{row_count}
use Rattle.meaning.specs.Nodes.{node_at}
use Rattle.meaning.specs.References.{of-a, of-b, Refers}
use Rattle.meaning.specs.Tree.{Action, Process, node, Processes, Content, no_content, content_of, content_at, or_stop, action_of, rows_in}
use Rattle.meaning.specs.State.{program, process_at, whole}
use Rattle.meaning.specs.Answers.{check}
use Rattle.meaning.proofs.AnswerLaws.{RightRows, accepted}
use Rattle.meaning.proofs.ReferenceCounts.{a-not-b}
use Rattle.agreement.proofs.Again.{Out}
use Rattle.agreement.proofs.Reach.{Sub}
use Rattle.agreement.proofs.OptionRows.{option_rows, OptionRows, rows_of_options}
use Rattle.meaning.specs.ContentClaims.{higher_content}
use Rattle.agreement.proofs.TableTree.{process-is, Known, every-row}
use Rattle.agreement.proofs.TableReferences.{members-shape, option-shape, Fields, fields-are, refers_to, once}
use Rattle.agreement.proofs.TableApart.{row_sub}
use Rattle.agreement.proofs.TableFit.{inside-stands}

abbrev options_of : Option Process → List ℕ
options_of none = []
options_of (some p) = option_rows (action_of p)

module _ (rows : List ℤ) (A : RightRows rows) where
  -- option c itself, and the options after it
  data Chain (c : ℕ) : ℕ → Type 0 where
    this : Chain c c
    next : {i j : ℕ} → Chain c i → Refers rows i of-b j → Chain c j

  chain-from : (r : ℕ) {c j : ℕ} → Refers rows r of-b c → Chain c j → Chain r j
  chain-from r f this = next this f
  chain-from r f (next h g) = next (chain-from r f h) g

  -- options that begin at two ALTs have no row in common
  one-first : (r q : ℕ) {c d j : ℕ} → Refers rows r of-a c → Refers rows q of-a d → Chain c j → Chain d j → r ≡ q
  one-first r q {c} f g this this = (once rows A r q c of-a of-a f g).0
  one-first r q {c} f g this (next {i} h k) = absurd (a-not-b (once rows A r i c of-a of-b f k).1)
  one-first r q {d} f g (next {i} h k) this = absurd (a-not-b (once rows A q i d of-a of-b g k).1)
  one-first r q f g (next {i} {j} h k) (next {i = i'} h' k') = one-first r q f g h (rw (once rows A i i' j of-b of-b k k').0 h')

  -- j is an option that begins at row c, and no process
  abbrev From : ℕ → ℕ → Type 0
  From c j = Chain c j × ((content_at rows j).process ≡ none)

  abbrev OptionsOk : ℕ → Content → Type 0
  OptionsOk r p = ((j : ℕ) → Memᴰ j (rows_of_options p.options) → From r j) × ((j : ℕ) → Memᴰ j (options_of p.process) → (c : ℕ) × Refers rows r of-a c × From c j)

  nothing : (r : ℕ) → OptionsOk r no_content
  nothing r = (λ j m. absurd (Memᴰ.not-nil m), λ j m. absurd (Memᴰ.not-nil m))

  module _ (r : ℕ) (l : r < row_count rows) (at : ℕ → Content) (known : (b : ℕ) → Known rows OptionsOk r b (at b)) where
    of-alt : (a j : ℕ) → Fields rows r (Alt a) → (q : Content) → Known rows OptionsOk r a q → Memᴰ j (rows_of_options q.options) → (c : ℕ) × Refers rows r of-a c × From c j
    of-alt a j f q (inl e) m = absurd (Memᴰ.not-nil (rw e at m))
    of-alt a j f q (inr h) m = (a, refers_to rows A r 34 a (members-shape 34 42) of-a l f.0 tt f.1 h.1, h.3.0 j m)

    later : (b j : ℕ) → (b < row_count rows → Refers rows r of-b b) → (q : Content) → Known rows OptionsOk r b q → Memᴰ j (rows_of_options q.options) → From r j
    later b j f q (inl e) m = absurd (Memᴰ.not-nil (rw e at m))
    later b j f q (inr h) m = let g = h.3.0 j m in (chain-from r (f h.1) g.0, g.1)

    of-option : (a b c : ℕ) → content_at rows r ≡ content_of rows r at (OptionRow a b c) → Fields rows r (OptionRow a b c) → (j : ℕ) → Memᴰ j (r ∷ rows_of_options (at b).options) → From r j
    of-option a b c e f j (Memᴰ.head i) = rw i (this, ap (λ (q : Content). q.process) e)
    of-option a b c e f j (Memᴰ.tail m) = later b j (refers_to rows A r 42 b option-shape of-b l f.0 tt f.2) (at b) (known b) m

    part-ok : (k : Node) → content_at rows r ≡ content_of rows r at k → Fields rows r k → OptionsOk r (content_of rows r at k)
    part-ok (Literal x) e f = nothing r
    part-ok (Element a b) e f = nothing r
    part-ok (Monadic a b) e f = nothing r
    part-ok (Dyadic a b c) e f = nothing r
    part-ok Stop e f = nothing r
    part-ok Skip e f = nothing r
    part-ok (Assignment a b c) e f = nothing r
    part-ok (Input a b c) e f = nothing r
    part-ok (Output a b c) e f = nothing r
    part-ok (Seq a) e f = nothing r
    part-ok (Par a) e f = nothing r
    part-ok (If a) e f = nothing r
    part-ok (While a b) e f = nothing r
    part-ok (Alt a) e f = (λ j m. absurd (Memᴰ.not-nil m), λ j. of-alt a j f (at a) (known a))
    part-ok (Block a b) e f = nothing r
    part-ok (Member a b) e f = nothing r
    part-ok (Choice a b c) e f = nothing r
    part-ok (OptionRow a b c) e f = (of-option a b c e f, λ j m. absurd (Memᴰ.not-nil m))
    part-ok (Guard a b) e f = nothing r
    part-ok Other e f = nothing r

  every-part : (r : ℕ) → OptionsOk r (content_at rows r)
  every-part = every-row rows OptionsOk nothing (λ r l e h. part-ok r l (higher_content rows r) h (node_at rows r) e (fields-are rows r))

  -- the options of a process inside the whole
  options-at : (k : Action) (r : ℕ) (ms : Processes) → Sub k r ms (whole (program rows)) → (j : ℕ) → Memᴰ j (option_rows k) → (c : ℕ) × Refers rows r of-a c × From c j
  options-at k r ms h j m = (every-part r).1 j (subst (λ (o : Option Process). Memᴰ j (options_of o)) (sym (inside-stands rows A k r ms h)) m)

  unprocessed : (j : ℕ) → (content_at rows j).process ≡ none → Out j (rows_in (whole (program rows)))
  unprocessed j e m = let (k, ms, h) = row_sub (whole (program rows)) j m in none-ne-some (node k j ms) (sym e ∙ inside-stands rows A k j ms h)

  pub option-rows-of : OptionRows (program rows)
  option-rows-of =
      record {
        no-process = λ k r ms h j m. let (c, f, g) = options-at k r ms h j m in unprocessed j g.1;
        one-alt = λ k r ms k' r' ms' h h' j m m'.
            let (c, f, g) = options-at k r ms h j m in
            let (d, f', g') = options-at k' r' ms' h' j m' in
            one-first r r' f f' g.0 g'.0;
      }

  of-process : (o : Option Process) (j : ℕ) → Memᴰ j (option_rows (action_of (or_stop o))) → Memᴰ j (options_of o)
  of-process none j m = m
  of-process (some p) j m = m

  -- of all rows of the table, one has an option row among its options
  pub one-alt-row : (r q j : ℕ) → Memᴰ j (option_rows (action_of (process_at (program rows) r))) → Memᴰ j (option_rows (action_of (process_at (program rows) q))) → r ≡ q
  one-alt-row r q j m n =
      let (c, f, g) = (every-part r).1 j (of-process (content_at rows r).process j (rw (process-is rows r) at m)) in
      let (d, k, h) = (every-part q).1 j (of-process (content_at rows q).process j (rw (process-is rows q) at n)) in
      one-first r q f k g.0 h.0

pub option-rows : (rows : List ℤ) → check rows ≡ none → OptionRows (program rows)
option-rows rows e = option-rows-of rows ((accepted rows).0 e)
