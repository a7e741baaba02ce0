-- Listed tokens one by one: names and other tokens.
use mathlib.Core.Path.{◌≡◌, refl, ap}
use mathlib.Core.Bool.{Bool, true, false, ◌||◌}
use mathlib.Core.List.{List, [], ◌∷◌, ◌++◌, map}
use mathlib.Core.Option.{Option, none, some, none-ne-some}
use Prim.Native.Nat.{ℕ, zero, suc, ◌<◌}
use native.Mathlib.Omega.{arith}
use lib.IntN.{ℤ, pos, negsuc}
use lib.ListN.{length, get_or, take, drop}
use borrow.Author.Tests.{ne_eqb}
use Rattle.meaning.specs.Basics.{any_passes}
use Rattle.grammar.specs.Names.{Sort, Use}
use Rattle.grammar.specs.Grammar.{Token, name, number, minus, not-word, given, arith as operator, joins, round-open, round-close, square-open, square-close, mark}
use Rattle.read_tokens.specs.Held.{token_sort, token_by, tokens_by}
use Rattle.read_tokens.specs.Sorts as sorts
use Rattle.read_classes.specs.Parts.{sort_of}
use Rattle.read_uses.specs.Resolving.{resolved_chunk}
use Rattle.read_uses.specs.Uses.{chunk_use}

-- Listed tokens ----------------------------------------------------------------------------------------------------------------------

-- the token at a place, before those after it
pub token-step : (named : ℕ → Option Token) (ss : List ℕ) (vs : List ℤ) (at : ℕ) → length ss ≡ length vs → at < length ss
    → drop at (tokens_by named ss vs) ≡ token_by named (get_or ss at 0) (get_or vs at (pos 0)) ∷ drop (suc at) (tokens_by named ss vs)
unfolding tokens_by
token-step named [] vs at l h = absurd (omega arith)
token-step named (s ∷ ss) [] at l h = absurd (omega arith)
token-step named (s ∷ ss) (v ∷ vs) zero l h = refl
token-step named (s ∷ ss) (v ∷ vs) (suc at) l h = token-step named ss vs at (omega arith) (omega arith)

-- one more token
pub token-last : (named : ℕ → Option Token) (ss : List ℕ) (vs : List ℤ) (at : ℕ) → length ss ≡ length vs → at < length ss
    → tokens_by named (take (suc at) ss) (take (suc at) vs) ≡ tokens_by named (take at ss) (take at vs) ++ (token_by named (get_or ss at 0) (get_or vs at (pos 0)) ∷ [])
unfolding tokens_by
token-last named [] vs at l h = absurd (omega arith)
token-last named (s ∷ ss) [] at l h = absurd (omega arith)
token-last named (s ∷ ss) (v ∷ vs) zero l h = refl
token-last named (s ∷ ss) (v ∷ vs) (suc at) l h = ap (λ (os : List (Option Token)). token_by named s v ∷ os) (token-last named ss vs at (omega arith) (omega arith))

pub map_last : (f : Option Token → Option Token) (os : List (Option Token)) (o : Option Token) → map f (os ++ (o ∷ [])) ≡ map f os ++ (f o ∷ [])
map_last f [] o = refl
map_last f (p ∷ os) o = ap (λ (l : List (Option Token)). f p ∷ l) (map_last f os o)

-- tokens are no gaps
pub some-there : (ts : List Token) (n : ℕ) (o : Option Token) (rest : List (Option Token)) → drop n (map some ts) ≡ o ∷ rest → (t : Token) × (o ≡ some t)
some-there [] zero o rest e = absurd (let z : ◌≡◌ {A = ℕ} 0 1 = cc in omega arith)
some-there [] (suc n) o rest e = absurd (let z : ◌≡◌ {A = ℕ} 0 1 = cc in omega arith)
some-there (t ∷ ts) zero o rest e = (t, cc)
some-there (t ∷ ts) (suc n) o rest e = some-there ts n o rest e

pub sorts-map : (ts : List Token) → map sort_of (map some ts) ≡ map token_sort ts
sorts-map [] = refl
sorts-map (t ∷ ts) = ap (λ (ss : List ℕ). token_sort t ∷ ss) (sorts-map ts)

-- One token --------------------------------------------------------------------------------------------------------------------------

-- a name has a number that is not negative
pub natural-name : (named : ℕ → Option Token) (v : ℤ) (t : Token) → token_by named sorts.name v ≡ some t → (k : ℕ) × (v ≡ pos k)
unfolding token_by
natural-name named (pos k) t e = (k, refl)
natural-name named (negsuc k) t e = absurd (none-ne-some t e)

pub name_by : (named : ℕ → Option Token) (k : ℕ) → token_by named sorts.name (pos k) ≡ named k
unfolding token_by
name_by named k = refl

-- what is no name does not depend on names
pub other-by : (f g : ℕ → Option Token) (s : ℕ) (v : ℤ) → (s ≡ sorts.name → ⊥) → token_by f s v ≡ token_by g s v
unfolding token_by
other-by f g s v h = rw (ne_eqb s sorts.name h)

-- a chunk that is no name is no use
pub no-use : (s : Sort) (b : Bool) (o : Option Token) → (sort_of o ≡ sorts.name → ⊥) → chunk_use s b o ≡ []
no-use s b none h = refl
no-use s b (some (name n)) h = absurd (h refl)
no-use s b (some (number z)) h = refl
no-use s b (some minus) h = refl
no-use s b (some not-word) h = refl
no-use s b (some given) h = refl
no-use s b (some (operator k)) h = refl
no-use s b (some (joins l)) h = refl
no-use s b (some round-open) h = refl
no-use s b (some round-close) h = refl
no-use s b (some square-open) h = refl
no-use s b (some square-close) h = refl
no-use s b (some (mark m)) h = refl

-- and stays as it is
pub unresolved : (names : List (List ℕ)) (o : Option Token) → (sort_of o ≡ sorts.name → ⊥) → o ≡ resolved_chunk names o
unresolved names none h = refl
unresolved names (some (name n)) h = absurd (h refl)
unresolved names (some (number z)) h = refl
unresolved names (some minus) h = refl
unresolved names (some not-word) h = refl
unresolved names (some given) h = refl
unresolved names (some (operator k)) h = refl
unresolved names (some (joins l)) h = refl
unresolved names (some round-open) h = refl
unresolved names (some round-close) h = refl
unresolved names (some square-open) h = refl
unresolved names (some square-close) h = refl
unresolved names (some (mark m)) h = refl

pub any_append : (p : Use → Bool) (us vs : List Use) → any_passes p (us ++ vs) ≡ (any_passes p us || any_passes p vs)
unfolding any_passes
any_append p [] vs = refl
any_append p (u ∷ us) vs = go (p u) (any_append p us vs)
  where
    go : (t : Bool) → any_passes p (us ++ vs) ≡ (any_passes p us || any_passes p vs) → (t || any_passes p (us ++ vs)) ≡ ((t || any_passes p us) || any_passes p vs)
    go true h = refl
    go false h = h
