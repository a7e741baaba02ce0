-- The tokens of a line parted at its first mark.
use Rattle.std.specs.Prelude.{◌≡◌, Bool, List, [], ◌∷◌, map, ℕ, suc, ◌≤◌, length, get_or, take, drop, leb}
use Rattle.std.proofs.Math.Option.{Option, none, some}
use Rattle.meaning.specs.Basics.{if_else}
use Rattle.grammar.specs.Grammar.{Token, mark}
use Rattle.grammar.specs.Lines.{Cut, uncut, parted, cut_at_mark}
use Rattle.read_tokens.specs.Sorts as sorts
use Rattle.read_tokens.specs.Held.{token_sort}

-- the sort of a token, or 0 where there is none
abbrev pub sort_of : Option Token → ℕ
sort_of none = sorts.no_token
sort_of (some t) = token_sort t

-- whether a token is a mark
abbrev pub is_mark : Option Token → Bool
is_mark o = leb sorts.skip (sort_of o)

-- the place of the first mark; the number of tokens if there is none
unfoldable pub mark_at : List ℕ → ℕ
mark_at [] = 0
mark_at (s ∷ ss) = let later = suc (mark_at ss) in if_else (leb sorts.skip s) 0 later

-- its sort, 0 if there is none
abbrev pub mark_in : List ℕ → ℕ
mark_in ss = get_or ss (mark_at ss) sorts.no_token

-- the sort of the first mark, the tokens before it and those after it; without a mark the sort is 0 and all tokens are before
pub record Parting : Type 0 where
  pub sort : ℕ
  pub before : List (Option Token)
  pub after : List (Option Token)

-- a sort, with tokens before and after
abbrev pub parting_of : ℕ → List (Option Token) → List (Option Token) → Parting
parting_of s bs cs = record { sort = s; before = bs; after = cs }

-- a token before the others
abbrev pub put_before : Option Token → Parting → Parting
put_before o p = parting_of p.sort (o ∷ p.before) p.after

-- tokens parted at the first mark
unfoldable pub part_at_mark : List (Option Token) → Parting
part_at_mark [] = parting_of sorts.no_token [] []
part_at_mark (o ∷ os) = let rest = part_at_mark os in if_else (is_mark o) (parting_of (sort_of o) [] os) (put_before o rest)

-- tokens parted as the grammar parts them
abbrev pub chunks_parted : Cut → Parting
chunks_parted (uncut ts) = parting_of sorts.no_token (map some ts) []
chunks_parted (parted ts m us) = parting_of (sort_of (some (mark m))) (map some ts) (map some us)

-- Laws --------------------------------------------------------------------------------------------------------------------------------

-- tokens are parted as the grammar parts them
abbrev pub PartedAsTokens : Type 0
PartedAsTokens = (ts : List Token) → part_at_mark (map some ts) ≡ chunks_parted (cut_at_mark ts)

-- the place of the first mark is at most the number of tokens
abbrev pub MarkWithin : Type 0
MarkWithin = (ss : List ℕ) → mark_at ss ≤ length ss

-- tokens parted at a place, by their sorts
abbrev pub parted_there : List (Option Token) → ℕ → Parting
parted_there os at = parting_of (get_or (map sort_of os) at 0) (take at os) (drop (suc at) os)

-- tokens are parted at the place of the first mark
abbrev pub PartedAt : Type 0
PartedAt = (os : List (Option Token)) → part_at_mark os ≡ parted_there os (mark_at (map sort_of os))
