-- What a line does to the levels as numbers is what it does to the levels.
use mathlib.Core.Path.{◌≡◌, refl, sym, ap, subst₃, ◌∙◌}
use mathlib.Core.Bool.{Bool, true, false}
use mathlib.Core.List.{List, ◌∷◌}
use mathlib.Core.Option.{Option, none, some, map}
use Rattle.std.specs.Prelude as does
use Rattle.std.specs.Prelude.{Some, None}
use Prim.Native.Nat.{ℕ, suc, ◌+◌, ◌*◌, ◌<◌}
use native.Mathlib.Decide.{dec_lt}
use native.Mathlib.Omega.{arith}
use lib.ListN.{length, get_or, set, length-set}
use lib.Seq.{get_or-set_same, get_or-set_other}
use lib.Dec.{ltb, eqb}
use borrow.Author.Tests.{ltb-true, ltb-false, eq-eqb, ne_eqb}
use Rattle.meaning.specs.Basics.{if_else}
use Rattle.grammar.specs.Outline.{OutlineLine, Expect, Levels, place, accept, accept_line, expected_beneath, expected_after}
use Rattle.grammar.specs.Classes.{class_of}
use Rattle.grammar.specs.LineBytes.{at_level}
use Rattle.grammar.specs.Places.{take_line}
use Rattle.grammar.specs.TextBytes.{IsTextLine, text_line}
use Rattle.grammar.proofs.ClassesTold.{expected-by-class}
use Rattle.read_classes.specs.ClassNumbers.{number_of, class_number}
use Rattle.read_levels.specs.declared.Step.{Step}
use Rattle.read_levels.specs.Kinds.{expect_number, kind_number, expect_at}
use Rattle.read_levels.specs.Steps.{none_number, beneath_number, beneath_table, after_table, table_at, ended_to, step_for, step_at}
use Rattle.read_levels.proofs.TableTells.{beneath-tells, no-line-beneath, after-tells, expect-below}
use Rattle.read_levels.proofs.LevelLaws.{Holds, expect-top, expect-under, refused-deep, refused-unended, accepted}

-- the levels after a line that may or may not be there
abbrev pub taking : Levels → ℕ → Option OutlineLine → Option Levels
taking k l p = take_line IsTextLine text_line (some k) (at_level l p)

-- a line that is taken: the levels after it, as the stack then holds them
pub record Taken (stack : List ℕ) (k : Levels) (l : ℕ) (x : OutlineLine) (s : Step) : Type 0 where
  pub later : Levels
  pub taken : accept k l x ≡ some later
  pub deep : length later ≡ suc (suc l)
  pub holds : Holds (set (set stack l s.after) (suc l) s.beneath) later
  pub told : s.kind ≡ kind_number (expect_at k l) (class_of x)

-- a line is refused or taken
pub data Stepped (stack : List ℕ) (k : Levels) (l : ℕ) (p : Option OutlineLine) (r : does.Option Step) : Type 0 where
  refused : r ≡ None → taking k l p ≡ none → Stepped stack k l p r
  stands : (x : OutlineLine) → p ≡ some x → (s : Step) → r ≡ Some s → Taken stack k l x s → Stepped stack k l p r

-- two levels more
module _ (stack : List ℕ) (below : Levels) (a b : Expect) (wide : suc (length below) < length stack) where
  abbrev low : List ℕ
  low = set stack (length below) (expect_number a)

  abbrev both : List ℕ
  both = set low (suc (length below)) (expect_number b)

  held-top : get_or both (suc (length below)) 0 ≡ expect_number b
  held-top = let n = length-set stack (length below) (expect_number a) in get_or-set_same low (suc (length below)) (expect_number b) 0 (omega arith)

  held-under : get_or both (length below) 0 ≡ expect_number a
  held-under = get_or-set_other low (suc (length below)) (length below) (expect_number b) 0 (λ z. omega arith) ∙ get_or-set_same stack (length below) (expect_number a) 0 (omega arith)

  held_below : (i : ℕ) → i < length below → get_or both i 0 ≡ get_or stack i 0
  held_below i h = get_or-set_other low (suc (length below)) i (expect_number b) 0 (λ z. omega arith) ∙ get_or-set_other stack (length below) i (expect_number a) 0 (λ z. omega arith)

  holds_later : Holds stack below → Holds both (b ∷ a ∷ below)
  holds_later h i j = go (dec_lt i (length below)) (dec_lt (length below) i)
    where
      go : Dec (i < length below) → Dec (length below < i) → get_or both i 0 ≡ expect_number (expect_at (b ∷ a ∷ below) i)
      go (yes d) f = held_below i d ∙ h i d ∙ ap expect_number (sym (expect-under b (a ∷ below) i (omega arith) ∙ expect-under a below i d))
      go (no d) (no f) =
          let e : i ≡ length below = omega arith in
          rw e (held-under ∙ ap expect_number (sym (expect-under b (a ∷ below) (length below) (omega arith) ∙ expect-top a below)))
      go (no d) (yes f) =
          let e : i ≡ suc (length below) = omega arith in
          rw e (held-top ∙ ap expect_number (sym (expect-top b (a ∷ below))))

module _ (stack : List ℕ) (k : Levels) (l : ℕ) (h : Holds stack k) (wide : suc l < length stack) where
  -- a line at a level that is open, where every deeper one may end
  stands-there : (x : OutlineLine) (r : does.Option Step) → l < length k → ended_to stack (suc l) (length k) ≡ true → r ≡ step_for (get_or stack l 0) (number_of (class_of x)) → Stepped stack k l (some x) r
  unfolding take_line accept_line place
  stands-there x r i j e = go (expected_beneath here x) beneath placed.3
    where
      here : Expect
      here = expect_at k l

      placed : (below : Levels) × (length below ≡ l) × Holds stack below × (accept k l x ≡ place here below x (expected_beneath here x))
      placed = accepted stack l x k h i j

      -- what the tables tell
      s : Step
      s = record { kind = 16 * get_or stack l 0 + number_of (class_of x); beneath = table_at beneath_table (get_or stack l 0) (number_of (class_of x)); after = table_at after_table (get_or stack l 0) (number_of (class_of x)) }

      by-number : (b : Bool) → eqb s.beneath none_number ≡ b → r ≡ if_else b None (Some s)
      by-number b q = e ∙ ap (λ (b : Bool). if_else b None (Some s)) q

      beneath : s.beneath ≡ beneath_number (expected_beneath here x)
      beneath =
          ap (λ (n : ℕ). table_at beneath_table n (number_of (class_of x))) (h l i)
          ∙ beneath-tells here (class_of x)
          ∙ ap beneath_number (sym (expected-by-class here x).0)

      after : s.after ≡ expect_number (expected_after here x)
      after =
          ap (λ (n : ℕ). table_at after_table n (number_of (class_of x))) (h l i)
          ∙ after-tells here (class_of x)
          ∙ ap expect_number (sym (expected-by-class here x).1)

      later : (f : Expect) → s.beneath ≡ expect_number f → Holds (set (set stack l s.after) (suc l) s.beneath) (f ∷ expected_after here x ∷ placed.0)
      later f b =
          subst₃ (λ (n a b : ℕ). Holds (set (set stack n a) (suc n) b) (f ∷ expected_after here x ∷ placed.0)) placed.1 (sym after) (sym b)
          (holds_later stack placed.0 (expected_after here x) f (let n = placed.1 in omega arith) placed.2)

      go : (o : Option Expect) → s.beneath ≡ beneath_number o → accept k l x ≡ place here placed.0 x o → Stepped stack k l (some x) r
      go none b p = refused (by-number true (eq-eqb s.beneath none_number b)) p
      go (some f) b p =
          stands
          x
          refl
          s
          (by-number false (ne_eqb s.beneath none_number (λ z. let n = expect-below f in omega arith)))
          record {
            later = f ∷ expected_after here x ∷ placed.0;
            taken = p;
            deep = ap (λ (n : ℕ). suc (suc n)) placed.1;
            holds = later f b;
            told = ap (λ (n : ℕ). 16 * n + number_of (class_of x)) (h l i);
          }

  -- no line
  no-line-there : (r : does.Option Step) → l < length k → r ≡ step_for (get_or stack l 0) 0 → r ≡ None
  no-line-there r i e =
      let z = ap (λ (n : ℕ). table_at beneath_table n 0) (h l i) ∙ no-line-beneath (expect_at k l) in
      e ∙ rw (eq-eqb (table_at beneath_table (get_or stack l 0) 0) none_number z) refl

  pub stepped : (p : Option OutlineLine) (r : does.Option Step) → r ≡ step_at stack (length k) l (class_number (map class_of p)) → Stepped stack k l p r
  unfolding step_at take_line accept_line
  stepped p r e = go (ltb l (length k)) refl (ended_to stack (suc l) (length k)) refl p e
    where
      go : (t : Bool) → ltb l (length k) ≡ t → (u : Bool) → ended_to stack (suc l) (length k) ≡ u → (p : Option OutlineLine)
          → r ≡ if_else t (if_else u (step_for (get_or stack l 0) (class_number (map class_of p))) None) None → Stepped stack k l p r
      go true i true j none e = refused (no-line-there r (ltb-true l (length k) i) e) refl
      go true i true j (some x) e = stands-there x r (ltb-true l (length k) i) j e
      go true i false j none e = refused e refl
      go true i false j (some x) e = refused e (refused-unended stack l x k h j)
      go false i u j none e = refused e refl
      go false i u j (some x) e = refused e (refused-deep stack l x k (ltb-false l (length k) i))
