-- Tokens parted at the first mark: by its place, and as the grammar parts them.
use mathlib.Core.Path.{◌≡◌, refl, ap, ◌∙◌}
use mathlib.Core.Bool.{Bool, true, false}
use mathlib.Core.List.{List, [], ◌∷◌, map}
use mathlib.Core.Option.{Option, some}
use Prim.Native.Nat.{suc, ◌≤◌}
use native.Mathlib.Omega.{arith as orders}
use lib.ListN.{length}
use lib.Dec.{leb}
use Rattle.meaning.specs.Basics.{if_else}
use Rattle.grammar.specs.Grammar.{both, either, Mark, a-skip, a-stop, a-seq, a-par, an-if, an-alt, a-while, becomes, asks, tells, ampersand, an_int, a-chan, a-hostin, a-hostout, colon, unused, Token, name, number, minus, not-word, given, arith, joins, round-open, round-close, square-open, square-close, mark}
use Rattle.grammar.specs.Lines.{token_mark, Cut, uncut, parted, before, cut_at, cut_at_mark}
use Rattle.read_tokens.specs.Sorts as sorts
use Rattle.read_classes.specs.Parts.{sort_of, is_mark, mark_at, parting_of, put_before, part_at_mark, chunks_parted, parted_there, PartedAsTokens, MarkWithin, PartedAt}

-- Places ------------------------------------------------------------------------------------------------------------------------

-- what is no mark stands before
passed : (o : Option Token) (os : List (Option Token)) → is_mark o ≡ false → part_at_mark (o ∷ os) ≡ put_before o (part_at_mark os)
unfolding part_at_mark
passed o os e = ap (λ (b : Bool). if_else b (parting_of (sort_of o) [] os) (put_before o (part_at_mark os))) e

-- a mark parts
parts : (o : Option Token) (os : List (Option Token)) → is_mark o ≡ true → part_at_mark (o ∷ os) ≡ parting_of (sort_of o) [] os
unfolding part_at_mark
parts o os e = ap (λ (b : Bool). if_else b (parting_of (sort_of o) [] os) (put_before o (part_at_mark os))) e

pub parted-at : PartedAt
unfolding part_at_mark mark_at
parted-at [] = refl
parted-at (o ∷ os) = go (is_mark o) (parted-at os)
  where
    go : (b : Bool) → part_at_mark os ≡ parted_there os (mark_at (map sort_of os))
        → if_else b (parting_of (sort_of o) [] os) (put_before o (part_at_mark os)) ≡ parted_there (o ∷ os) (if_else b 0 (suc (mark_at (map sort_of os))))
    go true e = refl
    go false e = ap (put_before o) e

pub mark-within : MarkWithin
unfolding mark_at
mark-within [] = omega orders
mark-within (s ∷ ss) = go (leb sorts.skip s) (mark-within ss)
  where
    go : (b : Bool) → mark_at ss ≤ length ss → if_else b 0 (suc (mark_at ss)) ≤ suc (length ss)
    go true h = omega orders
    go false h = omega orders

-- Tokens ------------------------------------------------------------------------------------------------------------------------

-- every mark has a mark's sort
mark-told : (m : Mark) → is_mark (some (mark m)) ≡ true
mark-told a-skip = refl
mark-told a-stop = refl
mark-told a-seq = refl
mark-told a-par = refl
mark-told an-if = refl
mark-told an-alt = refl
mark-told a-while = refl
mark-told becomes = refl
mark-told asks = refl
mark-told tells = refl
mark-told ampersand = refl
mark-told an_int = refl
mark-told a-chan = refl
mark-told a-hostin = refl
mark-told a-hostout = refl
mark-told colon = refl
mark-told (unused k) = refl

-- a token that is no mark stands before
before-told : (t : Token) (c : Cut) → put_before (some t) (chunks_parted c) ≡ chunks_parted (before t c)
unfolding before
before-told t (uncut ts) = refl
before-told t (parted ts m us) = refl

-- and so with the grammar
module _ (t : Token) (ts : List Token) (e : part_at_mark (map some ts) ≡ chunks_parted (cut_at_mark ts)) where
  token-passed : is_mark (some t) ≡ false → part_at_mark (some t ∷ map some ts) ≡ chunks_parted (before t (cut_at_mark ts))
  token-passed h = passed (some t) (map some ts) h ∙ ap (put_before (some t)) e ∙ before-told t (cut_at_mark ts)

pub parted-as-tokens : PartedAsTokens
unfolding part_at_mark cut_at_mark cut_at token_mark
parted-as-tokens [] = refl
parted-as-tokens (name n ∷ ts) = token-passed (name n) ts (parted-as-tokens ts) refl
parted-as-tokens (number z ∷ ts) = token-passed (number z) ts (parted-as-tokens ts) refl
parted-as-tokens (minus ∷ ts) = token-passed minus ts (parted-as-tokens ts) refl
parted-as-tokens (not-word ∷ ts) = token-passed not-word ts (parted-as-tokens ts) refl
parted-as-tokens (given ∷ ts) = token-passed given ts (parted-as-tokens ts) refl
parted-as-tokens (arith k ∷ ts) = token-passed (arith k) ts (parted-as-tokens ts) refl
parted-as-tokens (joins both ∷ ts) = token-passed (joins both) ts (parted-as-tokens ts) refl
parted-as-tokens (joins either ∷ ts) = token-passed (joins either) ts (parted-as-tokens ts) refl
parted-as-tokens (round-open ∷ ts) = token-passed round-open ts (parted-as-tokens ts) refl
parted-as-tokens (round-close ∷ ts) = token-passed round-close ts (parted-as-tokens ts) refl
parted-as-tokens (square-open ∷ ts) = token-passed square-open ts (parted-as-tokens ts) refl
parted-as-tokens (square-close ∷ ts) = token-passed square-close ts (parted-as-tokens ts) refl
parted-as-tokens (mark m ∷ ts) = parts (some (mark m)) (map some ts) (mark-told m)
