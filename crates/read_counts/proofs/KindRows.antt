-- The rows of a line, told from its kind and the sorts of its tokens.
use mathlib.Core.Path.{◌≡◌, refl, ap, ◌∙◌}
use mathlib.Core.Bool.{Bool, true, false, ◌||◌}
use mathlib.Core.List.{List, map}
use Prim.Native.Nat.{ℕ, ◌+◌, ◌*◌, ◌/◌, ◌%◌, ◌≤◌, ◌<◌}
use native.Mathlib.Omega.{arith}
use borrow.Author.Tests.{le-leb, lt-leb}
use lib.ListN.{length}
use lib.Dec.{eqb, leb}
use Rattle.meaning.specs.Basics.{if_else}
use Rattle.grammar.specs.Grammar.{Token}
use Rattle.grammar.specs.Outline.{variable, channel, source, sink, OutlineLine, declare, skip, stop, assign, input, output, seq, par, ifs, alts, while, test, guarded, allowed, Expect, members, choices, options, nothing, one-process, one-member, heads, is_declaration}
use Rattle.grammar.specs.Lines.{Spells}
use Rattle.grammar.specs.Classes.{class_of}
use Rattle.grammar.proofs.LineRead.{line-sound}
use Rattle.read_tokens.specs.Held.{token_sort}
use Rattle.read_classes.specs.ClassNumbers.{number_of}
use Rattle.read_levels.specs.Kinds.{expect_number, kind_number}
use Rattle.read_levels.proofs.ListingLaws.{kind-split}
use Rattle.read_counts.specs.OwnRows.{listed_rows, block_rows, own_rows}
use Rattle.read_counts.specs.TokenRows.{rows_by_sorts, token_rows, declared_at, listed_at, block_at, rows_by_kind, declaration_rows, KindRows}
use Rattle.read_counts.proofs.TokenSums.{line-tokens}
use Rattle.read_counts.proofs.TokenSteps.{rows_few}

-- The code's cases ------------------------------------------------------------------------------------------------------------------

module _ (kind : ℕ) (ss : List ℕ) where
  -- a declaration
  pub by-block : kind % 16 ≤ 2 → block_at (kind / 16) ≡ rows_by_kind kind ss
  unfolding rows_by_kind
  by-block h = rw (le-leb (kind % 16) 2 h) refl

  -- another line
  pub by-tokens : 2 < kind % 16 → listed_at (kind / 16) + rows_by_sorts ss ≡ rows_by_kind kind ss
  unfolding rows_by_kind
  by-tokens h = rw (lt-leb (kind % 16) 2 h) refl

-- at most one row beside those of tokens
pub listed-few : (e : ℕ) → listed_at e ≤ 1
listed-few e = go (eqb e 3 || (eqb e 4 || eqb e 6))
  where
    go : (t : Bool) → if_else t 0 1 ≤ 1
    go true = omega arith
    go false = omega arith

block-few : (e : ℕ) → block_at e ≤ 1
block-few e = go (eqb e 6)
  where
    go : (t : Bool) → if_else t 0 1 ≤ 1
    go true = omega arith
    go false = omega arith

pub line-few : (kind : ℕ) (ss : List ℕ) → rows_by_kind kind ss ≤ 1 + 2 * length ss
unfolding rows_by_kind
line-few kind ss = go (declared_at kind)
  where
    go : (t : Bool) → if_else t (block_at (kind / 16)) (listed_at (kind / 16) + rows_by_sorts ss) ≤ 1 + 2 * length ss
    go true = omega (arith, block-few (kind / 16))
    go false = omega (arith, listed-few (kind / 16), rows_few ss)

pub declaration-few : (kind : ℕ) → declaration_rows kind ≤ 1
declaration-few kind = go (declared_at kind)
  where
    go : (t : Bool) → if_else t 1 0 ≤ 1
    go true = omega arith
    go false = omega arith

-- Kinds of lines --------------------------------------------------------------------------------------------------------------------

class-told : (x : OutlineLine) → leb (number_of (class_of x)) 2 ≡ is_declaration x
class-told (declare (variable z n)) = refl
class-told (declare (channel z n)) = refl
class-told (declare (source n)) = refl
class-told (declare (sink z n)) = refl
class-told skip = refl
class-told stop = refl
class-told (assign a e) = refl
class-told (input c a) = refl
class-told (output c e) = refl
class-told seq = refl
class-told par = refl
class-told ifs = refl
class-told alts = refl
class-told (while e) = refl
class-told (test e) = refl
class-told (guarded e c a) = refl
class-told (allowed e) = refl

listed-told : (e : Expect) → listed_at (expect_number e) ≡ listed_rows e
listed-told members = refl
listed-told choices = refl
listed-told options = refl
listed-told nothing = refl
listed-told one-process = refl
listed-told one-member = refl
listed-told heads = refl

block-told : (e : Expect) → block_at (expect_number e) ≡ block_rows e
block-told members = refl
block-told choices = refl
block-told options = refl
block-told nothing = refl
block-told one-process = refl
block-told one-member = refl
block-told heads = refl

module _ (e : Expect) (x : OutlineLine) where
  -- a kind tells whether its line is a declaration
  declaration-told : declared_at (kind_number e (class_of x)) ≡ is_declaration x
  declaration-told = ap (λ (n : ℕ). leb n 2) (kind-split e (class_of x)).1 ∙ class-told x

  spelt-rows : (ts : List Token) → Spells ts x → rows_by_kind (kind_number e (class_of x)) (map token_sort ts) ≡ own_rows e x
  unfolding rows_by_kind
  spelt-rows ts s = rw (declaration-told, (kind-split e (class_of x)).0) (go (is_declaration x) refl)
    where
      go : (t : Bool) → is_declaration x ≡ t → if_else t (block_at (expect_number e)) (listed_at (expect_number e) + token_rows ts) ≡ own_rows e x
      go true d = block-told e ∙ rw d refl
      go false d = omega (arith, listed-told e, line-tokens e ts x d s)

pub kind-rows : KindRows
kind-rows e x ts h = (spelt-rows e x ts (line-sound ts x h), ap (λ (t : Bool). if_else t 1 0) (declaration-told e x))
