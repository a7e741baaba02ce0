-- What the sorts of tokens tell of marks, subscripts and names.
use mathlib.Core.Path.{◌≡◌, refl, sym, ap, ◌∙◌}
use mathlib.Core.Bool.{Bool, true, false}
use mathlib.Core.List.{List, [], ◌∷◌, map}
use mathlib.Core.Option.{Option}
use Prim.Native.Nat.{ℕ, zero, suc, ◌+◌, ◌-◌, ◌≤◌}
use native.Mathlib.Omega.{arith}
use native.Mathlib.Numerals.{add-one}
use lib.ListN.{length, get_or, take, drop, length-drop}
use lib.Seq.{take_all}
use borrow.Author.Tests.{le-leb}
use Rattle.meaning.specs.Basics.{if_else}
use Rattle.grammar.specs.Grammar.{Token}
use Rattle.read_tokens.specs.Sorts as sorts
use Rattle.read_classes.specs.Parts.{sort_of, is_mark, Parting, parting_of, put_before, part_at_mark, mark_in}
use Rattle.read_classes.specs.Parts.{mark_at}
use Rattle.read_uses.specs.Uses.{mark_ahead, bare_before}
use Rattle.read_uses.specs.Misuses.{mark_past, bare_at}

-- The code's tests -------------------------------------------------------------------------------------------------------------------

module _ (ss : List ℕ) (at : ℕ) where
  -- it stands first before the first mark from there on
  pub mark-past-there : sorts.skip ≤ get_or ss at 0 → (m : ℕ) → m ≡ mark_in (take (length ss - (at + 1)) (drop (at + 1) ss)) → m ≡ mark_past ss at
  mark-past-there h m e =
      e
      ∙ ap mark_in (take_all (length ss - (at + 1)) (drop (at + 1) ss) (omega (arith, length-drop (at + 1) ss)))
      ∙ ap (λ (i : ℕ). mark_in (drop i ss)) (add-one at)
      ∙ ap (λ (b : Bool). if_else b (mark_in (drop (suc at) ss)) sorts.no_token) (sym (le-leb sorts.skip (get_or ss at 0) h))

-- Chunks -----------------------------------------------------------------------------------------------------------------------------

-- the first mark of chunks, by their sorts
pub mark-ahead-told : (os : List (Option Token)) → mark_in (map sort_of os) ≡ mark_ahead os
unfolding mark_at part_at_mark
mark-ahead-told [] = refl
mark-ahead-told (o ∷ os) = go (is_mark o) (mark-ahead-told os)
  where
    ss : List ℕ
    ss = map sort_of os

    go : (t : Bool) → mark_in ss ≡ mark_ahead os
        → get_or (sort_of o ∷ ss) (if_else t 0 (suc (mark_at ss))) 0 ≡ (if_else {A = Parting} t (parting_of (sort_of o) [] os) (put_before o (part_at_mark os))).sort
    go true h = refl
    go false h = h

-- whether no subscript begins at a chunk
pub bare-told : (os : List (Option Token)) (n : ℕ) → bare_at (map sort_of os) n ≡ bare_before (drop n os)
bare-told [] zero = refl
bare-told [] (suc n) = refl
bare-told (o ∷ os) zero = refl
bare-told (o ∷ os) (suc n) = bare-told os n

drop-sorts : (n : ℕ) (os : List (Option Token)) → drop n (map sort_of os) ≡ map sort_of (drop n os)
drop-sorts zero os = refl
drop-sorts (suc n) [] = refl
drop-sorts (suc n) (o ∷ os) = drop-sorts n os

-- the first mark from a chunk on
pub mark-from : (n : ℕ) (os : List (Option Token)) → mark_in (drop n (map sort_of os)) ≡ mark_ahead (drop n os)
mark-from n os = ap mark_in (drop-sorts n os) ∙ mark-ahead-told (drop n os)
