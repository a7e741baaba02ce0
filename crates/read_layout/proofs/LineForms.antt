-- The form of a process by the rows that its line writes and those beneath it.
use mathlib.Core.Path.{◌≡◌, refl, sym, ap, ◌∙◌}
use mathlib.Core.Bool.{true, false≢true}
use mathlib.Core.List.{List, [], ◌∷◌, ◌++◌, append-nil}
use mathlib.Core.Option.{some, none-ne-some}
use Prim.Native.Nat.{ℕ, suc, ◌+◌}
use native.Mathlib.Omega.{arith}
use lib.IntN.{ℤ, pos}
use Rattle.base_top_down.specs.Forms.{Form, absent, number, row, form_size, written_field, row_of_b, rows_from, Suits, is_row}
use Rattle.grammar.specs.Grammar.{Token, Syn, literal, bare, at, monadic, dyadic, Element, alone, subscripted}
use Rattle.grammar.specs.Outline.{OutlineLine, declare, skip, stop, assign, input, output, seq, par, ifs, alts, while, test, guarded, allowed, Expect, nothing, process_beneath, choice, guard_beneath}
use Rattle.grammar.specs.Lines.{Spells, declares, word, repeats, assigns, inputs, outputs, tests, guards, allows, skips, stops, seqs, pars, chooses, selects}
use Rattle.grammar.specs.TextRows.{unused, expression_form, element_row, process_form, guard_form, test_form}
use Rattle.read_layout.specs.Layout.{link_to, process_size, process_rows}

-- a reference to a form that is a row or nothing
pub link-written : (f : Form) (n : ℕ) → Suits true f → written_field n f ≡ link_to (form_size f) n
unfolding form_size
link-written absent n h = refl
link-written (number z) n h = absurd h
link-written (row k a b c) n h = refl

-- a reference to a row
pub row_written : (f : Form) (n : ℕ) → is_row f ≡ true → written_field n f ≡ pos n
row_written absent n h = absurd (false≢true h)
row_written (number z) n h = absurd (false≢true h)
row_written (row k a b c) n h = refl

-- a form may stand beneath a process: a row or nothing, and nothing where nothing is expected
abbrev pub Bears : OutlineLine → Form → Type 0
Bears x B = (b : Expect) × (process_beneath x ≡ some b) × (process_beneath x ≡ some nothing → B ≡ absent) × Suits true B

-- the rows of a field a that is written without them
first_field : (k : ℕ) (B : Form) (n : ℕ) → Suits true B → rows_from n (row k B unused unused) ≡ rows_from n (row k (number (link_to (form_size B) (n + 1))) unused unused) ++ rows_from (n + 1) B
unfolding rows_from form_size
first_field k B n s =
    let e : n + 1 ≡ suc n = omega arith in
    rw (e, link-written B (suc n) s) (ap (λ (r : List ℤ). pos k ∷ link_to (form_size B) (suc n) ∷ pos 0 ∷ pos 0 ∷ r) (append-nil (rows_from (suc n) B ++ []) ∙ append-nil (rows_from (suc n) B)))

-- and of a field b
second-field : (k : ℕ) (E B : Form) (n : ℕ) → Suits true B
    → rows_from n (row k E B unused) ≡ rows_from n (row k E (number (link_to (form_size B) (n + suc (form_size E + 0 + 0)))) unused) ++ rows_from (n + suc (form_size E + 0 + 0)) B
unfolding rows_from form_size
second-field k E B n s =
    let m : n + suc (form_size E + 0 + 0) ≡ row_of_b n E = omega arith in
    let own = rows_from (suc n) E in
    rw (m, link-written B (row_of_b n E) s)
    (ap (λ (r : List ℤ). pos k ∷ written_field (suc n) E ∷ link_to (form_size B) (row_of_b n E) ∷ pos 0 ∷ r)
    (append-nil (own ++ rows_from (row_of_b n E) B) ∙ sym (ap (λ (r : List ℤ). r ++ rows_from (row_of_b n E) B) (append-nil (own ++ []) ∙ append-nil own))))

module _ (names : List (List ℕ)) where
  -- its rows are its own and those beneath it
  pub process-size : (x : OutlineLine) (B : Form) → Bears x B → form_size (process_form names x B) ≡ process_size names x + form_size B
  unfolding form_size
  process-size (declare d) B (b, q, h, s) = absurd (none-ne-some b q)
  process-size skip B (b, q, h, s) = rw (h refl) refl
  process-size stop B (b, q, h, s) = rw (h refl) refl
  process-size (assign a e) B (b, q, h, s) = rw (h refl) (omega arith)
  process-size (input a e) B (b, q, h, s) = rw (h refl) (omega arith)
  process-size (output a e) B (b, q, h, s) = rw (h refl) (omega arith)
  process-size seq B (b, q, h, s) = omega arith
  process-size par B (b, q, h, s) = omega arith
  process-size ifs B (b, q, h, s) = omega arith
  process-size alts B (b, q, h, s) = omega arith
  process-size (while e) B (b, q, h, s) = omega arith
  process-size (test e) B (b, q, h, s) = absurd (none-ne-some b q)
  process-size (guarded e c a) B (b, q, h, s) = absurd (none-ne-some b q)
  process-size (allowed e) B (b, q, h, s) = absurd (none-ne-some b q)

  pub process-laid : (x : OutlineLine) (B : Form) (n : ℕ) → Bears x B → rows_from n (process_form names x B) ≡ process_rows names x n (form_size B) ++ rows_from (n + process_size names x) B
  unfolding rows_from form_size
  process-laid (declare d) B n (b, q, h, s) = absurd (none-ne-some b q)
  process-laid skip B n (b, q, h, s) = rw (h refl) refl
  process-laid stop B n (b, q, h, s) = rw (h refl) refl
  process-laid (assign a e) B n (b, q, h, s) = rw (h refl) (sym (append-nil (rows_from n (element_row names 22 a (expression_form names e)))))
  process-laid (input a e) B n (b, q, h, s) = rw (h refl) (sym (append-nil (rows_from n (element_row names 23 a (expression_form names e)))))
  process-laid (output a e) B n (b, q, h, s) = rw (h refl) (sym (append-nil (rows_from n (element_row names 24 a (expression_form names e)))))
  process-laid seq B n (b, q, h, s) = first_field 30 B n s
  process-laid par B n (b, q, h, s) = first_field 31 B n s
  process-laid ifs B n (b, q, h, s) = first_field 32 B n s
  process-laid alts B n (b, q, h, s) = first_field 34 B n s
  process-laid (while e) B n (b, q, h, s) = second-field 33 (expression_form names e) B n s
  process-laid (test e) B n (b, q, h, s) = absurd (none-ne-some b q)
  process-laid (guarded e c a) B n (b, q, h, s) = absurd (none-ne-some b q)
  process-laid (allowed e) B n (b, q, h, s) = absurd (none-ne-some b q)

  -- an expression is a row
  expression-row : (e : Syn) → is_row (expression_form names e) ≡ true
  expression-row (literal z) = refl
  expression-row (bare n) = refl
  expression-row (at n e) = refl
  expression-row (monadic k e) = refl
  expression-row (dyadic k e f) = refl

  element-row : {ts : List Token} {a : Syn} → Element ts a → (k : ℕ) (f : Form) → is_row (element_row names k a f) ≡ true
  element-row alone k f = refl
  element-row (subscripted p) k f = refl

  -- a process, a boolean and a guard are rows
  pub process-row : {ts : List Token} {x : OutlineLine} → Spells ts x → (B : Form) (b : Expect) → process_beneath x ≡ some b → is_row (process_form names x B) ≡ true
  process-row (declares h) B b q = absurd (none-ne-some b q)
  process-row (word skips) B b q = refl
  process-row (word stops) B b q = refl
  process-row (word seqs) B b q = refl
  process-row (word pars) B b q = refl
  process-row (word chooses) B b q = refl
  process-row (word selects) B b q = refl
  process-row (repeats p) B b q = refl
  process-row (assigns p r) B b q = element-row p 22 _
  process-row (inputs p r) B b q = element-row p 23 _
  process-row (outputs p r) B b q = element-row p 24 _
  process-row (tests p) B b q = absurd (none-ne-some b q)
  process-row (guards p r s) B b q = absurd (none-ne-some b q)
  process-row (allows p) B b q = absurd (none-ne-some b q)

  pub test-row : (x : OutlineLine) (b : Expect) → choice x ≡ some b → is_row (test_form names x) ≡ true
  test-row (declare d) b q = absurd (none-ne-some b q)
  test-row skip b q = absurd (none-ne-some b q)
  test-row stop b q = absurd (none-ne-some b q)
  test-row (assign a e) b q = absurd (none-ne-some b q)
  test-row (input c a) b q = absurd (none-ne-some b q)
  test-row (output c e) b q = absurd (none-ne-some b q)
  test-row seq b q = absurd (none-ne-some b q)
  test-row par b q = absurd (none-ne-some b q)
  test-row ifs b q = absurd (none-ne-some b q)
  test-row alts b q = absurd (none-ne-some b q)
  test-row (while e) b q = absurd (none-ne-some b q)
  test-row (test e) b q = expression-row e
  test-row (guarded e c a) b q = absurd (none-ne-some b q)
  test-row (allowed e) b q = absurd (none-ne-some b q)

  pub guard-row : {ts : List Token} {x : OutlineLine} → Spells ts x → (b : Expect) → guard_beneath x ≡ some b → is_row (guard_form names x) ≡ true
  guard-row (declares h) b q = absurd (none-ne-some b q)
  guard-row (word skips) b q = absurd (none-ne-some b q)
  guard-row (word stops) b q = absurd (none-ne-some b q)
  guard-row (word seqs) b q = absurd (none-ne-some b q)
  guard-row (word pars) b q = absurd (none-ne-some b q)
  guard-row (word chooses) b q = absurd (none-ne-some b q)
  guard-row (word selects) b q = absurd (none-ne-some b q)
  guard-row (repeats p) b q = absurd (none-ne-some b q)
  guard-row (assigns p r) b q = absurd (none-ne-some b q)
  guard-row (inputs p r) b q = element-row p 23 _
  guard-row (outputs p r) b q = absurd (none-ne-some b q)
  guard-row (tests p) b q = absurd (none-ne-some b q)
  guard-row (guards p r s) b q = refl
  guard-row (allows p) b q = refl
