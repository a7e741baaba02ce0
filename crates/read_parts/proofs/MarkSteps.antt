-- The rows of a line's parts by its first mark.
use mathlib.Core.Path.{◌≡◌, refl, sym, ap, ap₂, subst, ◌∙◌}
use mathlib.Core.Bool.{Bool, true, false, false≢true}
use mathlib.Core.List.{List, [], ◌∷◌, ◌++◌, append-nil}
use Prim.Native.Nat.{ℕ, suc, ◌+◌, ◌*◌, ◌≤◌, ◌<◌}
use native.Mathlib.Omega.{arith}
use lib.IntN.{ℤ, pos}
use lib.ListN.{length, get_or, length-append}
use borrow.Author.Tests.{eq-eqb, ne_eqb}
use lib.Dec.{eqb}
use Rattle.meaning.specs.Basics.{if_else, is_some}
use Rattle.base_top_down.specs.Forms.{Form, absent, number, row, form_size, written_field, row_of_b, rows_from, is_row}
use Rattle.base_top_down.proofs.Flat.{flat-length}
use Rattle.grammar.specs.TextRows.{unused, bare_row}
use Rattle.read_tokens.specs.Sorts as sorts
use Rattle.read_tokens.specs.Held.{tokens_resolved}
use Rattle.read_classes.specs.Parts.{mark_at, Parting, parting_of, part_at_mark, parted_there}
use Rattle.read_layout.specs.Layout.{link_to}
use Rattle.read_expressions.specs.Overlay.{overlay}
use Rattle.read_expressions.proofs.OverlayLaws.{overlay-nothing, overlay-after}
use Rattle.read_expressions.specs.Expressions.{expression_in, form_in, end_of, with_rows, Writable}
use Rattle.read_parts.specs.PartForms.{with_form, FormFits, Laid, SortsHeld, as_kind, exchange_form, while_form, process_by, size_by, event_form, guarded_form, guard_by, Exchanges, ExchangeWritable, WhileWritable, is_exchange, ProcessWritable, EventRead, GuardedRead, GuardRead}
use Rattle.read_parts.proofs.TokenParts.{found, found-sort, within}
use Rattle.read_parts.proofs.FormSteps.{element-form, form-length, phrase-row, row_before, row_written}

-- the first mark, found at a place: tokens are parted there, and its sort is s
pub record Found (ss : List ℕ) (vs : List ℤ) (s m : ℕ) : Type 0 where
  pub parted : part_at_mark (tokens_resolved ss vs) ≡ parted_there (tokens_resolved ss vs) m
  pub sort-is : (parted_there (tokens_resolved ss vs) m).sort ≡ s
  pub inside : (s ≡ 0 → ⊥) → m < length ss

pub first_found : (ss : List ℕ) (vs : List ℤ) (s m : ℕ) → SortsHeld ss vs → m ≡ mark_at ss → s ≡ get_or ss m 0 → Found ss vs s m
first_found ss vs s m h e q = record { parted = found ss vs m h e; sort-is = found-sort ss vs m s h q; inside = λ k. within ss m (λ z. k (q ∙ z)) }

-- Processes -----------------------------------------------------------------------------------------------------------------------------

module _ {ss : List ℕ} {vs : List ℤ} {s m n b : ℕ} {rows : List ℤ} (t : Found ss vs s m) (w : ProcessWritable (part_at_mark (tokens_resolved ss vs)) n b rows) where
  abbrev P : Parting
  P = parted_there (tokens_resolved ss vs) m

  -- an expression stands after WHILE
  repeats-read : s ≡ sorts.while → is_some (expression_in P.after) ≡ true
  repeats-read e = subst (λ (p : Parting). eqb p.sort sorts.while ≡ true → is_some (expression_in p.after) ≡ true) t.parted w.read.repeats (eq-eqb P.sort sorts.while (t.sort-is ∙ e))

  module _ (k : ℕ) (e : s ≡ k) (F : Form → Form) (q : (B : Form) → process_by (parting_of k P.before P.after) B ≡ F B) where
    form-is : (B : Form) → process_by (part_at_mark (tokens_resolved ss vs)) B ≡ F B
    form-is B = ap (λ (p : Parting). process_by p B) t.parted ∙ ap (λ (j : ℕ). process_by (parting_of j P.before P.after) B) (t.sort-is ∙ e) ∙ q B

    -- the rows of the form that a mark tells fit
    pub by-mark-fits : FormFits (F absent) n rows
    by-mark-fits =
        let z : size_by (part_at_mark (tokens_resolved ss vs)) ≡ form_size (F absent) = ap form_size (form-is absent) in
        (omega (arith, w.few, z), omega (arith, w.long, z))

    -- and are those of the process
    pub by-mark-laid : (r : ℕ) (out : List ℤ) → r ≡ n + form_size (F absent) → out ≡ with_form (F (number (link_to b (n + form_size (F absent))))) n rows → Laid (process_by (part_at_mark (tokens_resolved ss vs))) n b r rows out
    by-mark-laid r out h k =
        let z : size_by (part_at_mark (tokens_resolved ss vs)) ≡ form_size (F absent) = ap form_size (form-is absent) in (
          omega (arith, h, z),
          k ∙ ap (λ (f : Form). with_form f n rows) (sym (form-is (number (link_to b (n + form_size (F absent))))))
              ∙ ap (λ (i : ℕ). with_form (process_by (part_at_mark (tokens_resolved ss vs)) (number (link_to b (n + i)))) n rows) (sym z),
        )

    -- a word's row
    pub word_room : ◌≡◌ {A = ℕ} (form_size (F absent)) 1 → (n < 1024) × (4 * n + 4 ≤ length rows)
    word_room z = let f = by-mark-fits in (omega (arith, f.0, z), omega (arith, f.1, z))

    pub word-laid : (j : ℕ) (y z : ℤ) (r : ℕ) (out : List ℤ) → ◌≡◌ {A = ℕ} (form_size (F absent)) 1 → F (number (link_to b (n + 1))) ≡ row j (number z) unused unused → y ≡ z
        → r ≡ n + 1 → out ≡ overlay rows (4 * n) (pos j ∷ y ∷ pos 0 ∷ pos 0 ∷ []) → Laid (process_by (part_at_mark (tokens_resolved ss vs))) n b r rows out
    unfolding rows_from
    word-laid j y z r out size g h er e =
        by-mark-laid r out (omega (arith, er, size))
        (e ∙ ap (λ (x : ℤ). with_form (row j (number x) unused unused) n rows) h ∙ ap (λ (f : Form). with_form f n rows) (sym g) ∙ ap (λ (i : ℕ). with_form (F (number (link_to b (n + i)))) n rows) (sym size))

    -- an exchange can be written
    pub exchange-asked : (j : ℕ) → is_exchange k ≡ true → ((B : Form) → F B ≡ exchange_form j P) → (m < length ss) × ExchangeWritable j P n rows
    exchange-asked j x g = (
      t.inside (λ z. false≢true (ap is_exchange (sym z ∙ e) ∙ x)),
      (subst Exchanges t.parted (w.read.exchanges (ap is_exchange (ap (λ (p : Parting). p.sort) t.parted ∙ t.sort-is ∙ e) ∙ x)), subst (λ (f : Form). FormFits f n rows) (g absent) by-mark-fits),
    )

  -- WHILE can be written
  pub while-asked : s ≡ sorts.while → ((B : Form) → process_by (parting_of sorts.while P.before P.after) B ≡ while_form P B) → (m < length ss) × WhileWritable P n rows
  while-asked e q = (t.inside (λ z. omega (arith, e, z)), (repeats-read e, by-mark-fits sorts.while e (while_form P) q))

  -- no mark of a process
  pub nothing-laid : ((B : Form) → process_by (parting_of s P.before P.after) B ≡ absent) → Laid (process_by (part_at_mark (tokens_resolved ss vs))) n b n rows rows
  unfolding rows_from form_size
  nothing-laid q = by-mark-laid s refl (λ (B : Form). absent) q n rows (omega arith) (sym (overlay-nothing rows (4 * n)))

-- What a guard waits for --------------------------------------------------------------------------------------------------------------

module _ {ss : List ℕ} {vs : List ℤ} {s m : ℕ} (t : Found ss vs s m) where
  abbrev W : Parting
  W = part_at_mark (tokens_resolved ss vs)

  abbrev Q : Parting
  Q = parted_there (tokens_resolved ss vs) m

  sort-whole : W.sort ≡ s
  sort-whole = ap (λ (p : Parting). p.sort) t.parted ∙ t.sort-is

  pub found-asks : s ≡ sorts.asks → event_form W ≡ exchange_form 23 Q
  found-asks k = ap (λ (b : Bool). if_else b (exchange_form 23 W) (bare_row 21)) (eq-eqb W.sort sorts.asks (sort-whole ∙ k)) ∙ ap (exchange_form 23) t.parted

  pub found-skips : (s ≡ sorts.asks → ⊥) → event_form W ≡ bare_row 21
  found-skips k = ap (λ (b : Bool). if_else b (exchange_form 23 W) (bare_row 21)) (ne_eqb W.sort sorts.asks (λ e. k (sym sort-whole ∙ e)))

  pub found-with : s ≡ sorts.ampersand → guard_by W ≡ guarded_form Q
  unfolding guard_by
  found-with k = ap (λ (b : Bool). if_else b (guarded_form W) (event_form W)) (eq-eqb W.sort sorts.ampersand (sort-whole ∙ k)) ∙ ap guarded_form t.parted

  pub found-alone : (s ≡ sorts.ampersand → ⊥) → guard_by W ≡ event_form W
  unfolding guard_by
  found-alone k = ap (λ (b : Bool). if_else b (guarded_form W) (event_form W)) (ne_eqb W.sort sorts.ampersand (λ e. k (sym sort-whole ∙ e)))

  pub event-read : EventRead W → s ≡ sorts.asks → Exchanges Q
  event-read r k = subst Exchanges t.parted (r (eq-eqb W.sort sorts.asks (sort-whole ∙ k)))

  pub guarded-read : GuardRead W → s ≡ sorts.ampersand → GuardedRead Q
  guarded-read r k = subst GuardedRead t.parted (r.guarded (eq-eqb W.sort sorts.ampersand (sort-whole ∙ k)))

  pub alone-read : GuardRead W → (s ≡ sorts.ampersand → ⊥) → EventRead W
  alone-read r k = r.alone (ne_eqb W.sort sorts.ampersand (λ e. k (sym sort-whole ∙ e)))

-- SKIP is one row
pub skip-room : (n : ℕ) (rows : List ℤ) → FormFits (bare_row 21) n rows → (n < 1024) × (4 * n + 4 ≤ length rows)
unfolding form_size
skip-room n rows (i, j) = (omega (arith, i), omega (arith, j))

pub skip-laid : (n : ℕ) (rows out : List ℤ) → out ≡ overlay rows (4 * n) (pos 21 ∷ pos 0 ∷ pos 0 ∷ pos 0 ∷ []) → out ≡ with_form (bare_row 21) n rows
unfolding rows_from
skip-laid n rows out e = e

-- what a guard waits for is a row
event-row : (p : Parting) → EventRead p → is_row (event_form p) ≡ true
unfolding form_in
event-row p h = go (eqb p.sort sorts.asks) h
  where
    parts : Exchanges p → is_row (exchange_form 23 p) ≡ true
    parts x = let (a, b, q) = element-form (expression_in p.before) x.0 in ap (λ (f : Form). is_row (as_kind 23 f (form_in p.after))) q

    go : (t : Bool) → (t ≡ true → Exchanges p) → is_row (if_else t (exchange_form 23 p) (bare_row 21)) ≡ true
    go false h = refl
    go true h = parts (h refl)

-- A guard with an expression -----------------------------------------------------------------------------------------------------------

module _ (p : Parting) (n : ℕ) (rows : List ℤ) (x : GuardedRead p) (f : FormFits (guarded_form p) n rows) where
  abbrev A : Form
  A = form_in p.before

  abbrev Event : Form
  Event = event_form (part_at_mark p.after)

  size-guarded : form_size (guarded_form p) ≡ suc (form_size A + form_size Event + 0)
  unfolding form_size
  size-guarded = refl

  pub condition-fits : Writable p.before (n + 1) rows
  condition-fits = (x.0, omega (arith, f.0, size-guarded), omega (arith, f.1, size-guarded))

  module _ (m : ℕ) (one : List ℤ) (em : m ≡ end_of p.before (n + 1)) (e1 : one ≡ with_rows p.before (n + 1) rows) where
    length-one : length one ≡ length rows
    length-one = ap length e1 ∙ form-length A (n + 1) rows condition-fits.2

    pub event-fits : FormFits Event m one
    event-fits = (omega (arith, f.0, size-guarded, em), omega (arith, f.1, size-guarded, em, length-one))

    pub middle-few : m ≤ 1024
    middle-few = omega (arith, f.0, size-guarded, em)

    module _ (two : List ℤ) (e2 : two ≡ with_form Event m one) where
      pub guarded-room : (n < 1024) × (4 * n + 4 ≤ length two)
      guarded-room =
          let l = ap length e2 ∙ form-length Event m one event-fits.1 ∙ length-one in
          (omega (arith, f.0, size-guarded), omega (arith, f.1, size-guarded, l))

      pub guarded-laid : (out : List ℤ) → out ≡ overlay two (4 * n) (pos 43 ∷ pos (n + 1) ∷ pos m ∷ pos 0 ∷ []) → out ≡ with_form (guarded_form p) n rows
      unfolding rows_from form_size
      guarded-laid out e3 =
          let s : n + 1 ≡ suc n = omega arith in
          let r : m ≡ row_of_b n A = omega (arith, em) in
          let xs = rows_from (n + 1) A in
          let ys = rows_from m Event in
          let lx = flat-length (n + 1) A in
          let ly = flat-length m Event in
          let g : 4 * m ≡ 4 * (n + 1) + length xs = omega (arith, em, lx) in
          let o2 : two ≡ overlay rows (4 * (n + 1)) (xs ++ ys) = e2 ∙ ap₂ (λ (l : List ℤ) (d : ℕ). overlay l d ys) e1 g ∙ overlay-after rows (4 * (n + 1)) xs ys (omega (arith, f.1, size-guarded, lx, ly)) in
          let la = length-append xs ys in
          row_before rows two out n (pos 43) (pos (n + 1)) (pos m) (pos 0) (xs ++ ys) (omega (arith, f.1, size-guarded, lx, ly, la)) o2 e3
          ∙ ap₂ (λ (i j : ℕ). overlay rows (4 * n) (pos 43 ∷ pos i ∷ pos j ∷ pos 0 ∷ (rows_from i A ++ rows_from j Event))) s r
          ∙ ap₂ (λ (w z : ℤ). overlay rows (4 * n) (pos 43 ∷ w ∷ z ∷ pos 0 ∷ (rows_from (suc n) A ++ rows_from (row_of_b n A) Event)))
          (sym (row_written A (suc n) (phrase-row p.before x.0))) (sym (row_written Event (row_of_b n A) (event-row (part_at_mark p.after) x.1)))
          ∙ ap (λ (l : List ℤ). overlay rows (4 * n) (pos 43 ∷ written_field (suc n) A ∷ written_field (row_of_b n A) Event ∷ pos 0 ∷ l)) (sym (append-nil (rows_from (suc n) A ++ rows_from (row_of_b n A) Event)))
