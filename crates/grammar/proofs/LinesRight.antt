-- Lines whose numbers, operators and names are right stand for processes, choices and options whose rows are right.
use mathlib.Core.Path.{◌≡◌, refl, sym, ap, subst, ◌∙◌}
use mathlib.Core.Bool.{Bool, true, false, false≢true}
use mathlib.Core.Logic.{◌⊎◌, inl, inr}
use mathlib.Core.List.Memᴰ
use mathlib.Core.List.{List, [], ◌∷◌, Memᴰ}
use mathlib.Core.Option.{some, none-ne-some, some-injective}
use Prim.Native.Nat.{ℕ, ◌≤◌}
use native.Mathlib.Omega.{arith}
use lib.IntN.{ℤ}
use Rattle.meaning.specs.Basics.{if_else, any_passes}
use Rattle.meaning.specs.Kinds.{Shape, shape, shapes, shape_in, shape_of, expressions, processes, process, link}
use Rattle.meaning.specs.Kinds as kinds
use Rattle.meaning.proofs.UnsetLaws.{among-mem}
use Rattle.base_top_down.specs.Forms.{Form, absent, number, row}
use Rattle.base_top_down.specs.Good.{Child, Suited, Good}
use Rattle.grammar.specs.Grammar.{Syn}
use Rattle.grammar.specs.Outline.{variable, channel, source, sink, OutlineLine, declare, skip, stop, assign, input, output, seq, par, ifs, alts, while, test, guarded, allowed, Lined, lined, Expect, members, choices, options, nothing, one-process, one-member, heads, process_beneath, choice, guard_beneath, is_declaration, starts_block, member_beneath, expected_beneath, expected_after, may_end, Trees, Block, end, more}
use Rattle.grammar.specs.Names.{as-variable, as-input, as-output, Use, declaration_in}
use Rattle.grammar.specs.NameClaims.{UsedIn, bare-there, with-subscript, in-subscript, in-operand, in-first, in-second, ElementUsed, bare-element, element-at, in-its-subscript, UsedOn, target-used, value-used, input-used, input-target-used, output-used, sent-used, while-used, test-used, guard-used, guard-input-used, guard-target-used, allowed-used}
use Rattle.grammar.specs.TextRows.{unused, bare_row, name_form, expression_form, element_row, process_form, test_form, guard_form, block_form, in_first, member_form, line_form, or_nothing, tree_form, trees_form}
use Rattle.grammar.proofs.TokensInRange.{IsElement, RangedElement, RangedLine}
use Rattle.grammar.proofs.ExpressionsRight.{Right, row-right, unused-fits, NamedAs, UseNamed, ElementNamed, name-fits, element-kind, expression-right, element-row}

module _ (rows : List ℤ) (names : List (List ℕ)) where
  -- Processes -----------------------------------------------------------------------------------------------------------------------

  -- a line whose numbers, operators and names are right
  abbrev pub LineRight : OutlineLine → Type 0
  LineRight x = RangedLine x × ((u : Use) → UsedOn x u → UseNamed rows names u) × ((z : ℤ) (n : List ℕ) → x ≡ declare (variable z n) → NamedAs rows names as-variable n)

  -- a row of this kind, or nothing
  abbrev Linked : ℕ → Form → Type 0
  Linked k f = (f ≡ absent) ⊎ Child (k ∷ []) f

  -- rows as they are expected
  abbrev Held : Expect → Form → Type 0
  Held members f = Linked 40 f
  Held choices f = Linked 41 f
  Held options f = Linked 42 f
  Held nothing f = Unit {0}
  Held one-process f = Child processes f
  Held one-member f = Child (40 ∷ []) f
  Held heads f = Child processes f

  abbrev Placed : Expect → Form → Type 0
  Placed e f = Held e f × Good rows f

  abbrev Process : Form → Type 0
  Process f = Right rows processes f

  -- a kind is the one of a list of one
  one_of : {k : ℕ} (f : Form) → Child (k ∷ []) f → (ks : List ℕ) → Memᴰ k ks → Child ks f
  one_of absent h ks m = absurd h
  one_of (number z) h ks m = absurd h
  one_of (row j a b c) h ks m = subst (λ (i : ℕ). Memᴰ i ks) (sym (Memᴰ.eq_of_singleton h)) m

  bare-right : (k : ℕ) → 3 ≤ k → shape_of k ≡ some (shape k kinds.unused kinds.unused kinds.unused) → Good rows (bare_row k)
  bare-right k l e = row-right rows k _ unused unused unused l e (unused-fits rows unused) (unused-fits rows unused) (unused-fits rows unused)

  -- SEQ, PAR, IF and ALT
  list_right : (k j : ℕ) (b : Form) → 3 ≤ k → shape_of k ≡ some (shape k (link (j ∷ [])) kinds.unused kinds.unused) → Linked j b × Good rows b → Good rows (row k b unused unused)
  unfolding Suited
  list_right k j b l e h = row-right rows k _ b unused unused l e h (unused-fits rows unused) (unused-fits rows unused)

  input-right : (c a : Syn) → RangedElement c → RangedElement a → ElementNamed rows names as-input c → ElementNamed rows names as-variable a
      → Right rows (23 ∷ []) (element_row names 23 c (expression_form names a))
  unfolding shapes shape_in shape_of
  input-right c a r q h g =
      let target = expression-right rows names a q.1 (λ u p. g u (in-target a p q.0)) in
      element-row rows names as-input 23 (11 ∷ []) (omega arith) refl c r h (expression_form names a) (element-kind rows names a q.0, target.1)
    where
      in-target : (a : Syn) {u : Use} → UsedIn a u → IsElement a → ElementUsed as-variable a u
      in-target a bare-there i = bare-element
      in-target a with-subscript i = element-at
      in-target a (in-subscript p) i = in-its-subscript p
      in-target a (in-operand p) i = absurd i
      in-target a (in-first p) i = absurd i
      in-target a (in-second p) i = absurd i

  process-right : (x : OutlineLine) (e : Expect) (b : Form) → process_beneath x ≡ some e → LineRight x → Placed (or_nothing names (process_beneath x)) b → Process (process_form names x b)
  unfolding Suited shapes shape_in shape_of any_passes
  process-right (declare d) e b h r g = absurd (none-ne-some e h)
  process-right skip e b h r g = (among-mem 21 processes refl, bare-right 21 (omega arith) refl)
  process-right stop e b h r g = (among-mem 20 processes refl, bare-right 20 (omega arith) refl)
  process-right (assign a f) e b h (r, u, d) g =
      let value = expression-right rows names f r.1 (λ v p. u v (value-used p)) in
      let w = element-row rows names as-variable 22 expressions (omega arith) refl a r.0 (λ v p. u v (target-used p)) (expression_form names f) value in
      (one_of (element_row names 22 a (expression_form names f)) w.0 processes (among-mem 22 processes refl), w.1)
  process-right (input c a) e b h (r, u, d) g =
      let w = input-right c a r.0 r.1 (λ v p. u v (input-used p)) (λ v p. u v (input-target-used p)) in
      (one_of (element_row names 23 c (expression_form names a)) w.0 processes (among-mem 23 processes refl), w.1)
  process-right (output c f) e b h (r, u, d) g =
      let sent = expression-right rows names f r.1 (λ v p. u v (sent-used p)) in
      let w = element-row rows names as-output 24 expressions (omega arith) refl c r.0 (λ v p. u v (output-used p)) (expression_form names f) sent in
      (one_of (element_row names 24 c (expression_form names f)) w.0 processes (among-mem 24 processes refl), w.1)
  process-right seq e b h r g = (among-mem 30 processes refl, list_right 30 40 b (omega arith) refl g)
  process-right par e b h r g = (among-mem 31 processes refl, list_right 31 40 b (omega arith) refl g)
  process-right ifs e b h r g = (among-mem 32 processes refl, list_right 32 41 b (omega arith) refl g)
  process-right alts e b h r g = (among-mem 34 processes refl, list_right 34 42 b (omega arith) refl g)
  process-right (while f) e b h (r, u, d) g =
      let w = expression-right rows names f r (λ v p. u v (while-used p)) in
      (among-mem 33 processes refl, row-right rows 33 _ (expression_form names f) b unused (omega arith) refl w g (unused-fits rows b))
  process-right (test f) e b h r g = absurd (none-ne-some e h)
  process-right (guarded f c a) e b h r g = absurd (none-ne-some e h)
  process-right (allowed f) e b h r g = absurd (none-ne-some e h)

  -- Blocks --------------------------------------------------------------------------------------------------------------------------

  -- a line that starts a block declares a variable
  block-line : (x : OutlineLine) → starts_block x ≡ true → (z : ℤ) × ((n : List ℕ) × (x ≡ declare (variable z n)))
  block-line (declare (variable z n)) h = (z, (n, refl))
  block-line (declare (channel z n)) h = absurd (false≢true h)
  block-line (declare (source n)) h = absurd (false≢true h)
  block-line (declare (sink z n)) h = absurd (false≢true h)
  block-line skip h = absurd (false≢true h)
  block-line stop h = absurd (false≢true h)
  block-line (assign a e) h = absurd (false≢true h)
  block-line (input c a) h = absurd (false≢true h)
  block-line (output c e) h = absurd (false≢true h)
  block-line seq h = absurd (false≢true h)
  block-line par h = absurd (false≢true h)
  block-line ifs h = absurd (false≢true h)
  block-line alts h = absurd (false≢true h)
  block-line (while e) h = absurd (false≢true h)
  block-line (test e) h = absurd (false≢true h)
  block-line (guarded e c a) h = absurd (false≢true h)
  block-line (allowed e) h = absurd (false≢true h)

  block-right : (x : OutlineLine) (p : Form) → starts_block x ≡ true → LineRight x → Process p → Process (block_form names (declaration_in x) p)
  unfolding Suited shapes shape_in shape_of any_passes
  block-right x p t (r, u, d) g =
      let (z, (n, e)) = block-line x t in
      subst (λ (w : OutlineLine). Process (block_form names (declaration_in w) p)) (sym e)
      (among-mem 35 processes refl, row-right rows 35 _ (name_form names n) p unused (omega arith) refl (name-fits rows names as-variable p n (d z n e)) g (unused-fits rows p))

  -- a block round the first member
  first-right : (x : OutlineLine) (f : Form) → starts_block x ≡ true → LineRight x → Right rows (40 ∷ []) f → Right rows (40 ∷ []) (in_first names (declaration_in x) f)
  unfolding Good Suited shapes shape_in shape_of
  first-right x absent t r g = absurd g.0
  first-right x (number z) t r g = absurd g.0
  first-right x (row k p later c) t r (m, (o, (s, e, ((i, j), l)), ((a, b), y))) =
      let h : s ≡ shape 40 process (link (40 ∷ [])) kinds.unused = some-injective _ _ (sym e ∙ ap shape_of (Memᴰ.eq_of_singleton m)) in
      let w = block-right x p t r (subst (λ (v : Shape). Suited rows v.a later p) h i, a) in
      let i' = subst (λ (v : Shape). Suited rows v.a later (block_form names (declaration_in x) p)) (sym h) w.0 in
      (m, (o, (s, e, ((i', j), l)), ((w.1, b), y)))

  -- Lines ---------------------------------------------------------------------------------------------------------------------------

  member_right : (x : OutlineLine) (e : Expect) (b later : Form) → member_beneath x ≡ some e → LineRight x
      → Placed (or_nothing names (member_beneath x)) b → Placed (if_else (starts_block x) one-member members) later
      → Right rows (40 ∷ []) (member_form names x b later)
  unfolding Suited shapes shape_in shape_of
  member_right x e b later h r g m = go (starts_block x) refl h g m
    where
      go : (t : Bool) → starts_block x ≡ t → if_else t (some nothing) (process_beneath x) ≡ some e
          → Placed (or_nothing names (if_else t (some nothing) (process_beneath x))) b → Placed (if_else t one-member members) later
          → Right rows (40 ∷ []) (if_else t (in_first names (declaration_in x) later) (row 40 (process_form names x b) later unused))
      go true q h g m = first-right x later q r m
      go false q h g m =
          (Memᴰ.head refl, row-right rows 40 _ (process_form names x b) later unused (omega arith) refl (process-right x e b h r g) m (unused-fits rows later))

  test-right : (x : OutlineLine) (e : Expect) → choice x ≡ some e → LineRight x → (e ≡ one-process) × Right rows expressions (test_form names x)
  test-right (declare d) e h r = absurd (none-ne-some e h)
  test-right skip e h r = absurd (none-ne-some e h)
  test-right stop e h r = absurd (none-ne-some e h)
  test-right (assign a f) e h r = absurd (none-ne-some e h)
  test-right (input c a) e h r = absurd (none-ne-some e h)
  test-right (output c f) e h r = absurd (none-ne-some e h)
  test-right seq e h r = absurd (none-ne-some e h)
  test-right par e h r = absurd (none-ne-some e h)
  test-right ifs e h r = absurd (none-ne-some e h)
  test-right alts e h r = absurd (none-ne-some e h)
  test-right (while f) e h r = absurd (none-ne-some e h)
  test-right (test f) e h r = (sym (some-injective _ _ h), expression-right rows names f r.0 (λ v p. r.1 v (test-used p)))
  test-right (guarded f c a) e h r = absurd (none-ne-some e h)
  test-right (allowed f) e h r = absurd (none-ne-some e h)

  guard-right : (x : OutlineLine) (e : Expect) → guard_beneath x ≡ some e → LineRight x → (e ≡ one-process) × Right rows (23 ∷ 43 ∷ []) (guard_form names x)
  unfolding Suited shapes shape_in shape_of any_passes
  guard-right (declare d) e h r = absurd (none-ne-some e h)
  guard-right skip e h r = absurd (none-ne-some e h)
  guard-right stop e h r = absurd (none-ne-some e h)
  guard-right (assign a f) e h r = absurd (none-ne-some e h)
  guard-right (input c a) e h (r, u, d) =
      let w = input-right c a r.0 r.1 (λ v p. u v (input-used p)) (λ v p. u v (input-target-used p)) in
      (sym (some-injective _ _ h), (one_of (element_row names 23 c (expression_form names a)) w.0 (23 ∷ 43 ∷ []) (Memᴰ.head refl), w.1))
  guard-right (output c f) e h r = absurd (none-ne-some e h)
  guard-right seq e h r = absurd (none-ne-some e h)
  guard-right par e h r = absurd (none-ne-some e h)
  guard-right ifs e h r = absurd (none-ne-some e h)
  guard-right alts e h r = absurd (none-ne-some e h)
  guard-right (while f) e h r = absurd (none-ne-some e h)
  guard-right (test f) e h r = absurd (none-ne-some e h)
  guard-right (guarded f c a) e h ((q, i, j), u, d) =
      let b = element_row names 23 c (expression_form names a) in
      let w = expression-right rows names f q (λ v p. u v (guard-used p)) in
      let y = input-right c a i j (λ v p. u v (guard-input-used p)) (λ v p. u v (guard-target-used p)) in (
        sym (some-injective _ _ h),
        (
          among-mem 43 (23 ∷ 43 ∷ []) refl,
          row-right rows 43 _ (expression_form names f) b unused (omega arith) refl w (one_of b y.0 (21 ∷ 23 ∷ []) (among-mem 23 (21 ∷ 23 ∷ []) refl), y.1) (unused-fits rows b),
        ),
      )
  guard-right (allowed f) e h (r, u, d) =
      let w = expression-right rows names f r (λ v p. u v (allowed-used p)) in (
        sym (some-injective _ _ h),
        (
          among-mem 43 (23 ∷ 43 ∷ []) refl,
          row-right rows 43 _ (expression_form names f) (bare_row 21) unused (omega arith) refl w (Memᴰ.head refl, bare-right 21 (omega arith) refl) (unused-fits rows (bare_row 21)),
        ),
      )

  line-right : (e : Expect) (x : OutlineLine) (d : Expect) (b later : Form) → expected_beneath e x ≡ some d → LineRight x
      → Placed (or_nothing names (expected_beneath e x)) b → Placed (expected_after e x) later → Placed e (line_form names e x b later)
  unfolding expected_beneath expected_after Suited shapes shape_in shape_of
  line-right members x d b later h r g m = let w = member_right x d b later h r g m in (inr w.0, w.1)
  line-right choices x d b later h r g m =
      let (i, w) = test-right x d h r in
      let p : Process b = subst (λ (o : Expect). Placed o b) (ap (or_nothing names) h ∙ i) g in
      (inr (Memᴰ.head refl), row-right rows 41 _ b later (test_form names x) (omega arith) refl p m w)
  line-right options x d b later h r g m =
      let (i, w) = guard-right x d h r in
      let p : Process b = subst (λ (o : Expect). Placed o b) (ap (or_nothing names) h ∙ i) g in
      (inr (Memᴰ.head refl), row-right rows 42 _ b later (guard_form names x) (omega arith) refl p m w)
  line-right nothing x d b later h r g m = absurd (none-ne-some d h)
  line-right one-process x d b later h r g m = go (starts_block x) refl h g m
    where
      go : (t : Bool) → starts_block x ≡ t → if_else t (some nothing) (process_beneath x) ≡ some d
          → Placed (or_nothing names (if_else t (some nothing) (process_beneath x))) b → Placed (if_else t one-process nothing) later
          → Process (if_else t (block_form names (declaration_in x) later) (process_form names x b))
      go true q h g m = block-right x later q r m
      go false q h g m = process-right x d b h r g
  line-right one-member x d b later h r g m = member_right x d b later h r g m
  line-right heads x d b later h r g m = go (is_declaration x) h g m
    where
      go : (t : Bool) → if_else t (some nothing) (process_beneath x) ≡ some d
          → Placed (or_nothing names (if_else t (some nothing) (process_beneath x))) b → Placed (if_else t heads nothing) later
          → Process (if_else t later (process_form names x b))
      go true h g m = m
      go false h g m = process-right x d b h r g

  none-held : (e : Expect) → may_end e ≡ true → Placed e absent
  unfolding may_end Good
  none-held members h = (inl refl, tt)
  none-held choices h = (inl refl, tt)
  none-held options h = (inl refl, tt)
  none-held nothing h = (tt, tt)
  none-held one-process h = absurd (false≢true h)
  none-held one-member h = absurd (false≢true h)
  none-held heads h = absurd (false≢true h)

  abbrev pub LinedRight : Lined → Type 0
  LinedRight (lined l x) = LineRight x

  -- the rows of lines where something is expected
  pub lines-right : {e : Expect} {l : ℕ} {ls : List Lined} {ps : Trees} → Block e l ls ps → ((y : Lined) → Memᴰ y ls → LinedRight y) → Placed e (trees_form names ps e)
  unfolding tree_form trees_form
  lines-right (end {e} h) r = none-held e h
  lines-right (more {e} {b} {l} {x} {ls} {ms} {ps} {qs} g c d) r =
      let beneath = lines-right c (λ y m. r y (Memᴰ.tail (Memᴰ.append_left ms m))) in
      let later = lines-right d (λ y m. r y (Memᴰ.tail (Memᴰ.append_right ls m))) in
      let expected = subst (λ (o : Expect). Placed o (trees_form names ps o)) (sym (ap (or_nothing names) g)) beneath in
      line-right e x b _ _ g (r (lined l x) (Memᴰ.head refl)) expected later
