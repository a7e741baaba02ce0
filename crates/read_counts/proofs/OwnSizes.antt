-- The rows of a line's form are its own, those of what stands beneath it and those of what stands after it.
use mathlib.Core.Path.{◌≡◌, refl, sym, subst}
use mathlib.Core.Bool.{true, false, false≢true}
use mathlib.Core.List.{List}
use mathlib.Core.Option.{some, none-ne-some, some-injective}
use Prim.Native.Nat.{ℕ, suc, ◌+◌}
use native.Mathlib.Omega.{arith}
use Rattle.meaning.specs.Basics.{if_else}
use Rattle.base_top_down.specs.Forms.{Form, absent, number, row, form_size, is_row}
use Rattle.grammar.specs.Grammar.{Token, Syn, literal, bare, at, monadic, dyadic, Element, alone, subscripted}
use Rattle.grammar.specs.Outline.{Declaration, variable, channel, source, sink, OutlineLine, declare, skip, stop, assign, input, output, seq, par, ifs, alts, while, test, guarded, allowed, Expect, members, choices, options, nothing, one-process, one-member, heads, process_beneath, starts_block, member_beneath, is_declaration, choice, guard_beneath, expected_beneath, expected_after}
use Rattle.grammar.specs.Lines.{Spells, declares, word, repeats, assigns, inputs, outputs, tests, guards, allows, skips, stops, seqs, pars, chooses, selects}
use Rattle.grammar.specs.Names.{declaration_in}
use Rattle.grammar.specs.TextRows.{expression_form, element_row, process_form, test_form, guard_form, block_form, in_first, member_form}
use Rattle.read_counts.specs.OwnRows.{syn_rows, part_rows, SynSize, Fits, LineSize}

pub syn-size : SynSize
unfolding form_size
syn-size names (literal z) = refl
syn-size names (bare n) = refl
syn-size names (at n e) = let h = syn-size names e in omega arith
syn-size names (monadic k e) = let h = syn-size names e in omega arith
syn-size names (dyadic k e f) = let h = syn-size names e in let i = syn-size names f in omega arith

-- nothing beneath
none-fits : (b : Expect) (f : Form) → some nothing ≡ some b → Fits b f → form_size f ≡ 0
none-fits b f h p = subst (λ (w : Expect). Fits w f) (sym (some-injective nothing b h)) p

module _ (names : List (List ℕ)) where
  -- an element's row with one further field: the element's rows and the field's
  element-size : (k : ℕ) {ts : List Token} {a : Syn} → Element ts a → (f : Form) → form_size (element_row names k a f) ≡ syn_rows a + form_size f
  unfolding form_size
  element-size k alone f = omega arith
  element-size k (subscripted {e} p) f = let h = syn-size names e in omega arith

  -- a process
  process-size : (b : Expect) {ts : List Token} {x : OutlineLine} (below : Form) → Spells ts x → process_beneath x ≡ some b → Fits b below
      → form_size (process_form names x below) ≡ part_rows x + form_size below
  unfolding form_size
  process-size b below (declares {d} p) h q = absurd (none-ne-some b h)
  process-size b below (word skips) h q = let z = none-fits b below h q in omega arith
  process-size b below (word stops) h q = let z = none-fits b below h q in omega arith
  process-size b below (word seqs) h q = omega arith
  process-size b below (word pars) h q = omega arith
  process-size b below (word chooses) h q = omega arith
  process-size b below (word selects) h q = omega arith
  process-size b below (repeats {e} p) h q = let i = syn-size names e in omega arith
  process-size b below (assigns {a} {e} p s) h q = let z = none-fits b below h q in let i = element-size 22 p (expression_form names e) in let j = syn-size names e in omega arith
  process-size b below (inputs {c} {a} p s) h q = let z = none-fits b below h q in let i = element-size 23 p (expression_form names a) in let j = syn-size names a in omega arith
  process-size b below (outputs {c} {e} p s) h q = let z = none-fits b below h q in let i = element-size 24 p (expression_form names e) in let j = syn-size names e in omega arith
  process-size b below (tests p) h q = absurd (none-ne-some b h)
  process-size b below (guards p s t) h q = absurd (none-ne-some b h)
  process-size b below (allows p) h q = absurd (none-ne-some b h)

  -- a choice's boolean
  test-size : (b : Expect) (x : OutlineLine) → choice x ≡ some b → form_size (test_form names x) ≡ part_rows x
  test-size b (declare d) h = absurd (none-ne-some b h)
  test-size b skip h = absurd (none-ne-some b h)
  test-size b stop h = absurd (none-ne-some b h)
  test-size b (assign a e) h = absurd (none-ne-some b h)
  test-size b (input c a) h = absurd (none-ne-some b h)
  test-size b (output c e) h = absurd (none-ne-some b h)
  test-size b seq h = absurd (none-ne-some b h)
  test-size b par h = absurd (none-ne-some b h)
  test-size b ifs h = absurd (none-ne-some b h)
  test-size b alts h = absurd (none-ne-some b h)
  test-size b (while e) h = absurd (none-ne-some b h)
  test-size b (test e) h = syn-size names e
  test-size b (guarded e c a) h = absurd (none-ne-some b h)
  test-size b (allowed e) h = absurd (none-ne-some b h)

  -- an option's guard
  guard-size : (b : Expect) {ts : List Token} {x : OutlineLine} → Spells ts x → guard_beneath x ≡ some b → form_size (guard_form names x) ≡ part_rows x
  unfolding form_size
  guard-size b (declares p) h = absurd (none-ne-some b h)
  guard-size b (word skips) h = absurd (none-ne-some b h)
  guard-size b (word stops) h = absurd (none-ne-some b h)
  guard-size b (word seqs) h = absurd (none-ne-some b h)
  guard-size b (word pars) h = absurd (none-ne-some b h)
  guard-size b (word chooses) h = absurd (none-ne-some b h)
  guard-size b (word selects) h = absurd (none-ne-some b h)
  guard-size b (repeats p) h = absurd (none-ne-some b h)
  guard-size b (assigns p s) h = absurd (none-ne-some b h)
  guard-size b (inputs {c} {a} p s) h = let i = element-size 23 p (expression_form names a) in let j = syn-size names a in omega arith
  guard-size b (outputs p s) h = absurd (none-ne-some b h)
  guard-size b (tests p) h = absurd (none-ne-some b h)
  guard-size b (guards {e} {c} {a} p s t) h = let i = element-size 23 s (expression_form names a) in let j = syn-size names a in let k = syn-size names e in omega arith
  guard-size b (allows {e} p) h = let k = syn-size names e in omega arith

-- a declaration, or a line that is none
data Told : OutlineLine → Type 0 where
  declaration : (d : Declaration) → Told (declare d)
  other : {x : OutlineLine} → is_declaration x ≡ false → starts_block x ≡ false → Told x

told : (x : OutlineLine) → Told x
told (declare d) = declaration d
told skip = other refl refl
told stop = other refl refl
told (assign a e) = other refl refl
told (input c a) = other refl refl
told (output c e) = other refl refl
told seq = other refl refl
told par = other refl refl
told ifs = other refl refl
told alts = other refl refl
told (while e) = other refl refl
told (test e) = other refl refl
told (guarded e c a) = other refl refl
told (allowed e) = other refl refl

module _ (names : List (List ℕ)) where
  -- a block round the first of some members is a row more
  first-size : (d : Declaration) (later : Form) → is_row later ≡ true → form_size (in_first names (some d) later) ≡ suc (form_size later)
  unfolding form_size
  first-size d absent h = absurd (false≢true h)
  first-size d (number z) h = absurd (false≢true h)
  first-size d (row k p l c) h = omega arith

  abbrev MemberSize : OutlineLine → Form → Form → Type 0
  MemberSize x below later = form_size (member_form names x below later) ≡ if_else (is_declaration x) 1 (1 + part_rows x) + form_size below + form_size later

  member-size : (b : Expect) {ts : List Token} {x : OutlineLine} (below later : Form) → Spells ts x → Told x → member_beneath x ≡ some b → Fits b below
      → Fits (if_else (starts_block x) one-member members) later → MemberSize x below later
  unfolding form_size
  member-size b below later s (declaration (variable z n)) h p q = let i = none-fits b below h p in let j = first-size (variable z n) later q in omega arith
  member-size b below later s (declaration (channel z n)) h p q = absurd (none-ne-some b h)
  member-size b below later s (declaration (source n)) h p q = absurd (none-ne-some b h)
  member-size b below later s (declaration (sink z n)) h p q = absurd (none-ne-some b h)
  member-size b {x = x} below later s (other u v) h p q =
      let i = process-size names b below s (rw v at h) p in
      rw (u, v) (omega arith)

  -- one process, or a declaration before it
  single-size : (b : Expect) {ts : List Token} {x : OutlineLine} (below later : Form) → Spells ts x → Told x → member_beneath x ≡ some b → Fits b below
      → Fits (if_else (starts_block x) one-process nothing) later
      → form_size (if_else (starts_block x) (block_form names (declaration_in x) later) (process_form names x below)) ≡ if_else (is_declaration x) 1 (0 + part_rows x) + form_size below + form_size later
  unfolding form_size
  single-size b below later s (declaration (variable z n)) h p q = let i = none-fits b below h p in omega arith
  single-size b below later s (declaration (channel z n)) h p q = absurd (none-ne-some b h)
  single-size b below later s (declaration (source n)) h p q = absurd (none-ne-some b h)
  single-size b below later s (declaration (sink z n)) h p q = absurd (none-ne-some b h)
  single-size b {x = x} below later s (other u v) h p q =
      let i = process-size names b below s (rw v at h) p in
      let z : form_size later ≡ 0 = rw v at q in
      rw (u, v) (omega arith)

  -- the same before the process of a text
  head-size : (b : Expect) {ts : List Token} {x : OutlineLine} (below later : Form) → Spells ts x → Told x → if_else (is_declaration x) (some nothing) (process_beneath x) ≡ some b → Fits b below
      → Fits (if_else (is_declaration x) heads nothing) later
      → form_size (if_else (is_declaration x) later (process_form names x below)) ≡ if_else (is_declaration x) 0 (0 + part_rows x) + form_size below + form_size later
  unfolding form_size
  head-size b below later s (declaration d) h p q = let i = none-fits b below h p in omega arith
  head-size b {x = x} below later s (other u v) h p q =
      let i = process-size names b below s (rw u at h) p in
      let z : form_size later ≡ 0 = rw u at q in
      rw u (omega arith)

-- a choice is no declaration
choice-undeclared : (b : Expect) (x : OutlineLine) → choice x ≡ some b → Told x → is_declaration x ≡ false
choice-undeclared b x h (declaration d) = absurd (none-ne-some b h)
choice-undeclared b x h (other u v) = u

-- nor is an option
option-undeclared : (b : Expect) (x : OutlineLine) → guard_beneath x ≡ some b → Told x → is_declaration x ≡ false
option-undeclared b x h (declaration d) = absurd (none-ne-some b h)
option-undeclared b x h (other u v) = u

pub line-size : LineSize
unfolding form_size expected_beneath expected_after
line-size names members b ts x below later s h p q = member-size names b below later s (told x) h p q
line-size names choices b ts x below later s h p q = let i = test-size names b x h in rw (choice-undeclared b x h (told x)) (omega arith)
line-size names options b ts x below later s h p q = let i = guard-size names b s h in rw (option-undeclared b x h (told x)) (omega arith)
line-size names nothing b ts x below later s h p q = absurd (none-ne-some b h)
line-size names one-process b ts x below later s h p q = single-size names b below later s (told x) h p q
line-size names one-member b ts x below later s h p q = member-size names b below later s (told x) h p q
line-size names heads b ts x below later s h p q = head-size names b below later s (told x) h p q
