-- The forms that lines stand for are as their kinds say: a row or nothing where rows are referred to, else a number.
use mathlib.Core.Path.{◌≡◌, refl, sym, subst}
use mathlib.Core.Bool.{Bool, true, false}
use mathlib.Core.List.{List}
use mathlib.Core.Option.{Option, none, some}
use Prim.Native.Nat.{ℕ}
use lib.IntN.{ℤ, pos}
use Rattle.meaning.specs.Basics.{if_else}
use Rattle.meaning.specs.Kinds.{shapes, shape_in, shape_of}
use Rattle.base_top_down.specs.Forms.{Form, absent, number, row, is_reference, Suits, Shaped}
use Rattle.grammar.specs.Grammar.{Syn, literal, bare, at, monadic, dyadic}
use Rattle.grammar.specs.Outline.{Declaration, OutlineLine, declare, skip, stop, assign, input, output, seq, par, ifs, alts, while, test, guarded, allowed, Expect, members, choices, options, nothing, one-process, one-member, heads, is_declaration, starts_block, expected_beneath, expected_after, Tree, node, Trees, empty, also}
use Rattle.grammar.specs.Names.{declaration_in}
use Rattle.grammar.specs.TextRows.{unused, literal_form, expression_form, element_row, process_form, test_form, guard_form, block_form, in_first, member_form, line_form, or_nothing, tree_form, trees_form}

-- a row or nothing, and shaped
abbrev pub Whole : Form → Type 0
Whole f = Suits true f × Shaped f

-- a list of members
abbrev Members : Form → Type 0
Members absent = Unit {0}
Members (number z) = ⊥
Members (row k a b c) = (k ≡ 40) × Whole (row k a b c)

abbrev Held : Expect → Form → Type 0
Held members f = Members f
Held choices f = Whole f
Held options f = Whole f
Held nothing f = Whole f
Held one-process f = Whole f
Held one-member f = Members f
Held heads f = Whole f

nothing-whole : Whole absent
unfolding Shaped
nothing-whole = (tt, tt)

members-whole : (f : Form) → Members f → Whole f
members-whole absent h = nothing-whole
members-whole (number z) h = absurd h
members-whole (row k a b c) h = h.1

held_whole : (e : Expect) (f : Form) → Held e f → Whole f
held_whole members f h = members-whole f h
held_whole choices f h = h
held_whole options f h = h
held_whole nothing f h = h
held_whole one-process f h = h
held_whole one-member f h = members-whole f h
held_whole heads f h = h

none-held : (e : Expect) → Held e absent
none-held members = tt
none-held choices = nothing-whole
none-held options = nothing-whole
none-held nothing = nothing-whole
none-held one-process = nothing-whole
none-held one-member = tt
none-held heads = nothing-whole

module _ (names : List (List ℕ)) where
  expression-whole : (e : Syn) → Whole (expression_form names e)
  unfolding Shaped shapes shape_in shape_of is_reference
  expression-whole (literal z) = (tt, (((tt, tt), (tt, tt)), (tt, tt)))
  expression-whole (bare n) = (tt, (((tt, tt), (tt, (((tt, tt), (tt, tt)), (tt, tt)))), (tt, tt)))
  expression-whole (at n e) = (tt, (((tt, tt), expression-whole e), (tt, tt)))
  expression-whole (monadic k e) = (tt, (((tt, tt), expression-whole e), (tt, tt)))
  expression-whole (dyadic k e f) = (tt, (((tt, tt), expression-whole e), expression-whole f))

  -- kinds 22, 23 and 24: a name, a subscript, and a row
  zero-whole : Whole (literal_form names (pos 0))
  unfolding Shaped shapes shape_in shape_of is_reference
  zero-whole = (tt, (((tt, tt), (tt, tt)), (tt, tt)))

  -- a kind whose row is whole if it has a name, and whole forms in its other fields
  abbrev TakesElement : ℕ → Type 0
  TakesElement k = (z : ℤ) (s f : Form) → Whole s → Whole f → Whole (row k (number z) s f)

  takes-element : TakesElement 22 × TakesElement 23 × TakesElement 24
  unfolding Shaped shapes shape_in shape_of is_reference
  takes-element = (λ z s f u h. (tt, (((tt, tt), u), h)), λ z s f u h. (tt, (((tt, tt), u), h)), λ z s f u h. (tt, (((tt, tt), u), h)))

  element-whole : (k : ℕ) → TakesElement k → (a : Syn) (f : Form) → Whole f → Whole (element_row names k a f)
  element-whole k t (literal z) f h = nothing-whole
  element-whole k t (bare n) f h = t _ _ f zero-whole h
  element-whole k t (at n e) f h = t _ _ f (expression-whole e) h
  element-whole k t (monadic o e) f h = nothing-whole
  element-whole k t (dyadic o e g) f h = nothing-whole

  process-whole : (x : OutlineLine) (b : Form) → Whole b → Whole (process_form names x b)
  unfolding Shaped shapes shape_in shape_of is_reference
  process-whole (declare d) b h = nothing-whole
  process-whole skip b h = (tt, (((tt, tt), (tt, tt)), (tt, tt)))
  process-whole stop b h = (tt, (((tt, tt), (tt, tt)), (tt, tt)))
  process-whole (assign a e) b h = element-whole 22 takes-element.0 a (expression_form names e) (expression-whole e)
  process-whole (input c a) b h = element-whole 23 takes-element.1 c (expression_form names a) (expression-whole a)
  process-whole (output c e) b h = element-whole 24 takes-element.2 c (expression_form names e) (expression-whole e)
  process-whole seq b h = (tt, ((h, (tt, tt)), (tt, tt)))
  process-whole par b h = (tt, ((h, (tt, tt)), (tt, tt)))
  process-whole ifs b h = (tt, ((h, (tt, tt)), (tt, tt)))
  process-whole alts b h = (tt, ((h, (tt, tt)), (tt, tt)))
  process-whole (while e) b h = (tt, ((expression-whole e, h), (tt, tt)))
  process-whole (test e) b h = nothing-whole
  process-whole (guarded e c a) b h = nothing-whole
  process-whole (allowed e) b h = nothing-whole

  test-whole : (x : OutlineLine) → Whole (test_form names x)
  test-whole (declare d) = nothing-whole
  test-whole skip = nothing-whole
  test-whole stop = nothing-whole
  test-whole (assign a e) = nothing-whole
  test-whole (input c a) = nothing-whole
  test-whole (output c e) = nothing-whole
  test-whole seq = nothing-whole
  test-whole par = nothing-whole
  test-whole ifs = nothing-whole
  test-whole alts = nothing-whole
  test-whole (while e) = nothing-whole
  test-whole (test e) = expression-whole e
  test-whole (guarded e c a) = nothing-whole
  test-whole (allowed e) = nothing-whole

  guard_whole : (x : OutlineLine) → Whole (guard_form names x)
  unfolding Shaped shapes shape_in shape_of is_reference
  guard_whole (declare d) = nothing-whole
  guard_whole skip = nothing-whole
  guard_whole stop = nothing-whole
  guard_whole (assign a e) = nothing-whole
  guard_whole (input c a) = element-whole 23 takes-element.1 c (expression_form names a) (expression-whole a)
  guard_whole (output c e) = nothing-whole
  guard_whole seq = nothing-whole
  guard_whole par = nothing-whole
  guard_whole ifs = nothing-whole
  guard_whole alts = nothing-whole
  guard_whole (while e) = nothing-whole
  guard_whole (test e) = nothing-whole
  guard_whole (guarded e c a) = (tt, ((expression-whole e, element-whole 23 takes-element.1 c (expression_form names a) (expression-whole a)), (tt, tt)))
  guard_whole (allowed e) = (tt, ((expression-whole e, (tt, (((tt, tt), (tt, tt)), (tt, tt)))), (tt, tt)))

  block-whole : (o : Option Declaration) (p : Form) → Whole p → Whole (block_form names o p)
  unfolding Shaped shapes shape_in shape_of is_reference
  block-whole none p h = nothing-whole
  block-whole (some d) p h = (tt, (((tt, tt), h), (tt, tt)))

  -- a block round the first member
  first-whole : (o : Option Declaration) (p later c : Form) → Whole (row 40 p later c) → Whole (row 40 (block_form names o p) later c)
  unfolding Shaped shapes shape_in shape_of is_reference
  first-whole o p later c h = (tt, ((block-whole o p h.1.0.0, h.1.0.1), h.1.1))

  first-members : (o : Option Declaration) (f : Form) → Members f → Members (in_first names o f)
  first-members o absent h = tt
  first-members o (number z) h = absurd h
  first-members o (row k p later c) (e, h) =
      (e, subst (λ (m : ℕ). Whole (row m (block_form names o p) later c)) (sym e) (first-whole o p later c (subst (λ (m : ℕ). Whole (row m p later c)) e h)))

  member-held : (x : OutlineLine) (b later : Form) → Whole b → Members later → Members (member_form names x b later)
  unfolding Shaped shapes shape_in shape_of is_reference
  member-held x b later h m = go (starts_block x)
    where
      go : (t : Bool) → Members (if_else t (in_first names (declaration_in x) later) (row 40 (process_form names x b) later unused))
      go true = first-members (declaration_in x) later m
      go false = (refl, (tt, ((process-whole x b h, members-whole later m), (tt, tt))))

  either-members : (t : Bool) (f : Form) → Held (if_else t one-member members) f → Members f
  either-members true f h = h
  either-members false f h = h

  either-whole : (t : Bool) (e g : Expect) (f : Form) → Held (if_else t e g) f → Whole f
  either-whole t e g f h = held_whole (if_else t e g) f h

  line-held : (e : Expect) (x : OutlineLine) (b later : Form) → Whole b → Held (expected_after e x) later → Held e (line_form names e x b later)
  unfolding expected_after Shaped shapes shape_in shape_of is_reference
  line-held members x b later h m = member-held x b later h (either-members (starts_block x) later m)
  line-held choices x b later h m = (tt, ((h, m), test-whole x))
  line-held options x b later h m = (tt, ((h, m), guard_whole x))
  line-held nothing x b later h m = nothing-whole
  line-held one-process x b later h m = go (starts_block x) (either-whole (starts_block x) one-process nothing later m)
    where
      go : (t : Bool) → Whole later → Whole (if_else t (block_form names (declaration_in x) later) (process_form names x b))
      go true w = block-whole (declaration_in x) later w
      go false w = process-whole x b h
  line-held one-member x b later h m = member-held x b later h (either-members (starts_block x) later m)
  line-held heads x b later h m = go (is_declaration x) (either-whole (is_declaration x) heads nothing later m)
    where
      go : (t : Bool) → Whole later → Whole (if_else t later (process_form names x b))
      go true w = w
      go false w = process-whole x b h

  mutual
    unfolding tree_form trees_form

    tree-held : (p : Tree) (e : Expect) (later : Expect → Form) → ((g : Expect) → Held g (later g)) → Held e (tree_form names p e later)
    tree-held (node x ps) e later h =
        let below = or_nothing names (expected_beneath e x) in
        line-held e x (trees_form names ps below) (later (expected_after e x)) (held_whole below (trees_form names ps below) (trees-held ps below)) (h (expected_after e x))

    trees-held : (ts : Trees) (e : Expect) → Held e (trees_form names ts e)
    trees-held empty e = none-held e
    trees-held (also p qs) e = tree-held p e (trees_form names qs) (trees-held qs)

  pub trees-whole : (ts : Trees) (e : Expect) → Whole (trees_form names ts e)
  trees-whole ts e = held_whole e (trees_form names ts e) (trees-held ts e)
