-- Listed tokens have the listed sorts, parts of them are listed by parts of the lists, and a token is told by its sort and number.
use mathlib.Core.Path.{◌≡◌, refl, sym, ap, ap₂, ◌∙◌}
use mathlib.Core.Bool.{Bool, true, false}
use mathlib.Core.List.{List, [], ◌∷◌, ◌++◌, map}
use mathlib.Core.Option.{Option, none, some, none-ne-some, some-injective}
use Prim.Native.Nat.{ℕ, zero, suc, ◌+◌, ◌-◌, ◌/◌, ◌%◌, ◌<◌}
use native.Mathlib.Omega.{arith}
use lib.IntN.{ℤ, pos, negsuc}
use lib.ListN.{length, get_or, take, drop}
use lib.Dec.{eqb, ltb}
use borrow.Author.Tests.{eqb-true}
use Rattle.meaning.specs.Basics.{if_else}
use Rattle.grammar.specs.Grammar.{both, either, Mark, a-skip, a-stop, a-seq, a-par, an-if, an-alt, a-while, becomes, asks, tells, ampersand, an_int, a-chan, a-hostin, a-hostout, colon, unused, Token, name, number, minus, not-word, given, arith as operator, joins, round-open, round-close, square-open, square-close, mark}
use Rattle.read_tokens.specs.Sorts as sorts
use Rattle.read_tokens.specs.Lexemes.{mark_lexeme, token_lexeme, Unnamed}
use Rattle.read_tokens.specs.Held.{token_sort, plain_tokens, by_natural, token_by, tokens_by, placed, name_held, row_limit, name_of_row, tokens_held, tokens_resolved, SortsTold, PartsListed}

-- Sorts -------------------------------------------------------------------------------------------------------------------------

-- the tokens of a list have the sorts from a number on
abbrev SortsFrom : ℕ → List (Option Token) → Type 0
SortsFrom n [] = Unit {0}
SortsFrom n (none ∷ os) = SortsFrom (suc n) os
SortsFrom n (some t ∷ os) = (n ≡ token_sort t) × SortsFrom (suc n) os

plain-sorts : SortsFrom 0 plain_tokens
unfolding plain_tokens
plain-sorts = (refl, (refl, (refl, (refl, (refl, (refl, (refl, (refl, (refl, (refl, (refl, (refl, (refl, (refl, (refl, (refl, (refl, (refl, (refl, (refl, (refl, (refl, (refl, (refl, (refl, tt)))))))))))))))))))))))))

sort-at : (n : ℕ) (os : List (Option Token)) → SortsFrom n os → (k : ℕ) (t : Token) → get_or os k none ≡ some t → n + k ≡ token_sort t
sort-at n [] h k t e = absurd (none-ne-some t e)
sort-at n (none ∷ os) h zero t e = absurd (none-ne-some t e)
sort-at n (none ∷ os) h (suc k) t e = let i : n + suc k ≡ suc n + k = omega arith in i ∙ sort-at (suc n) os h k t e
sort-at n (some u ∷ os) h zero t e = let i : n + 0 ≡ n = omega arith in i ∙ h.0 ∙ ap (λ (o : Token). token_sort o) (some-injective u t e)
sort-at n (some u ∷ os) h (suc k) t e = let i : n + suc k ≡ suc n + k = omega arith in i ∙ sort-at (suc n) os h.1 k t e

module _ (named : ℕ → Option Token) (names-named : (k : ℕ) (t : Token) → named k ≡ some t → token_sort t ≡ sorts.name) where
  -- a token has the sort by which it is listed
  pub sort-told : (s : ℕ) (v : ℤ) (t : Token) → token_by named s v ≡ some t → s ≡ token_sort t
  unfolding token_by
  sort-told s v t h = by_name (eqb s sorts.name) refl h
    where
      natural : (f : ℕ → Option Token) (n : ℕ) → ((k : ℕ) → f k ≡ some t → token_sort t ≡ n) → (z : ℤ) → by_natural f z ≡ some t → s ≡ n → s ≡ token_sort t
      natural f n g (pos k) h e = e ∙ sym (g k h)
      natural f n g (negsuc k) h e = absurd (none-ne-some t h)

      is : (u : Token) → some u ≡ some t → token_sort t ≡ token_sort u
      is u h = ap (λ (o : Token). token_sort o) (sym (some-injective u t h))

      by-unused : (b : Bool) → eqb s sorts.unused ≡ b → if_else b (by_natural (λ k. some (mark (unused k))) v) (get_or plain_tokens s none) ≡ some t → s ≡ token_sort t
      by-unused true e h = natural (λ k. some (mark (unused k))) sorts.unused (λ k q. is (mark (unused k)) q) v h (eqb-true s sorts.unused e)
      by-unused false e h = let i : s ≡ 0 + s = omega arith in i ∙ sort-at 0 plain_tokens plain-sorts s t h

      by-arith : (b : Bool) → eqb s sorts.arith ≡ b
          → if_else b (by_natural (λ k. some (operator k)) v) (if_else (eqb s sorts.unused) (by_natural (λ k. some (mark (unused k))) v) (get_or plain_tokens s none)) ≡ some t → s ≡ token_sort t
      by-arith true e h = natural (λ k. some (operator k)) sorts.arith (λ k q. is (operator k) q) v h (eqb-true s sorts.arith e)
      by-arith false e h = by-unused (eqb s sorts.unused) refl h

      by_number : (b : Bool) → eqb s sorts.number ≡ b
          → if_else b (some (number v))
          (if_else (eqb s sorts.arith) (by_natural (λ k. some (operator k)) v) (if_else (eqb s sorts.unused) (by_natural (λ k. some (mark (unused k))) v) (get_or plain_tokens s none)))
          ≡ some t → s ≡ token_sort t
      by_number true e h = eqb-true s sorts.number e ∙ sym (is (number v) h)
      by_number false e h = by-arith (eqb s sorts.arith) refl h

      by_name : (b : Bool) → eqb s sorts.name ≡ b
          → if_else b (by_natural named v)
          (if_else (eqb s sorts.number) (some (number v))
          (if_else (eqb s sorts.arith) (by_natural (λ k. some (operator k)) v) (if_else (eqb s sorts.unused) (by_natural (λ k. some (mark (unused k))) v) (get_or plain_tokens s none))))
          ≡ some t → s ≡ token_sort t
      by_name true e h = natural named sorts.name (λ k q. names-named k t q) v h (eqb-true s sorts.name e)
      by_name false e h = by_number (eqb s sorts.number) refl h

pub sorts-told : SortsTold
unfolding tokens_by
sorts-told named nn [] vs [] l e = refl
sorts-told named nn [] vs (t ∷ ts) l e = absurd (let z : ◌≡◌ {A = ℕ} 0 1 = cc in omega arith)
sorts-told named nn (s ∷ ss) [] ts l e = absurd (omega arith)
sorts-told named nn (s ∷ ss) (v ∷ vs) [] l e = absurd (let z : ◌≡◌ {A = ℕ} 0 1 = cc in omega arith)
sorts-told named nn (s ∷ ss) (v ∷ vs) (t ∷ ts) l e =
    let first : token_by named s v ≡ some t = cc in
    let rest : tokens_by named ss vs ≡ map some ts = cc in
    ap₂ (λ (k : ℕ) (ks : List ℕ). k ∷ ks) (sort-told named nn s v t first) (sorts-told named nn ss vs ts (omega arith) rest)

-- a name by where it stands, and by its row, has the sort of a name
pub held-sort : (text : List ℕ) (k : ℕ) (t : Token) → name_held text k ≡ some t → token_sort t ≡ sorts.name
held-sort text k t e = ap (λ (o : Token). token_sort o) (sym (some-injective _ t e))

pub row-sort : (k : ℕ) (t : Token) → name_of_row k ≡ some t → token_sort t ≡ sorts.name
row-sort k t e = go (ltb k row_limit) e
  where
    go : (b : Bool) → if_else b (some (name (k ∷ []))) none ≡ some t → token_sort t ≡ sorts.name
    go true e = ap (λ (o : Token). token_sort o) (sym (some-injective _ t e))
    go false e = absurd (none-ne-some t e)

pub sorts-of-held : (text ss : List ℕ) (vs : List ℤ) (ts : List Token) → length ss ≡ length vs → tokens_held text ss vs ≡ map some ts → ss ≡ map token_sort ts
sorts-of-held text ss vs ts l e = sorts-told (name_held text) (held-sort text) ss vs ts l e

pub sorts-of-resolved : (ss : List ℕ) (vs : List ℤ) (ts : List Token) → length ss ≡ length vs → tokens_resolved ss vs ≡ map some ts → ss ≡ map token_sort ts
sorts-of-resolved ss vs ts l e = sorts-told name_of_row row-sort ss vs ts l e

-- Parts -------------------------------------------------------------------------------------------------------------------------

tokens-take : (named : ℕ → Option Token) (n : ℕ) (ss : List ℕ) (vs : List ℤ) → tokens_by named (take n ss) (take n vs) ≡ take n (tokens_by named ss vs)
unfolding tokens_by
tokens-take named zero ss vs = refl
tokens-take named (suc n) [] vs = refl
tokens-take named (suc n) (s ∷ ss) [] = refl
tokens-take named (suc n) (s ∷ ss) (v ∷ vs) = ap (λ (os : List (Option Token)). token_by named s v ∷ os) (tokens-take named n ss vs)

tokens-drop : (named : ℕ → Option Token) (n : ℕ) (ss : List ℕ) (vs : List ℤ) → length ss ≡ length vs → tokens_by named (drop n ss) (drop n vs) ≡ drop n (tokens_by named ss vs)
unfolding tokens_by
tokens-drop named zero ss vs l = refl
tokens-drop named (suc n) [] vs l = refl
tokens-drop named (suc n) (s ∷ ss) [] l = absurd (omega arith)
tokens-drop named (suc n) (s ∷ ss) (v ∷ vs) l = tokens-drop named n ss vs (omega arith)

pub parts-listed : PartsListed
parts-listed named ss vs a b l = tokens-take named (b - a) (drop a ss) (drop a vs) ∙ ap (λ (os : List (Option Token)). take (b - a) os) (tokens-drop named a ss vs l)

-- as many tokens are listed as sorts
pub tokens-length : (named : ℕ → Option Token) (ss : List ℕ) (vs : List ℤ) → length ss ≡ length vs → length (tokens_by named ss vs) ≡ length ss
unfolding tokens_by
tokens-length named [] vs l = refl
tokens-length named (s ∷ ss) [] l = absurd (omega arith)
tokens-length named (s ∷ ss) (v ∷ vs) l = ap suc (tokens-length named ss vs (omega arith))

-- a token more
pub tokens-more : (named : ℕ → Option Token) (ss : List ℕ) (vs : List ℤ) (s : ℕ) (v : ℤ) → length ss ≡ length vs
    → tokens_by named (ss ++ (s ∷ [])) (vs ++ (v ∷ [])) ≡ tokens_by named ss vs ++ (token_by named s v ∷ [])
unfolding tokens_by
tokens-more named [] [] s v l = refl
tokens-more named [] (w ∷ vs) s v l = absurd (omega arith)
tokens-more named (r ∷ ss) [] s v l = absurd (omega arith)
tokens-more named (r ∷ ss) (w ∷ vs) s v l = ap (λ (os : List (Option Token)). token_by named r w ∷ os) (tokens-more named ss vs s v (omega arith))

-- Tokens ------------------------------------------------------------------------------------------------------------------------

module _ (named : ℕ → Option Token) where
  mark-held : (m : Mark) → token_by named (token_lexeme (mark m)).sort (token_lexeme (mark m)).value ≡ some (mark m)
  unfolding token_by plain_tokens
  mark-held a-skip = refl
  mark-held a-stop = refl
  mark-held a-seq = refl
  mark-held a-par = refl
  mark-held an-if = refl
  mark-held an-alt = refl
  mark-held a-while = refl
  mark-held becomes = refl
  mark-held asks = refl
  mark-held tells = refl
  mark-held ampersand = refl
  mark-held an_int = refl
  mark-held a-chan = refl
  mark-held a-hostin = refl
  mark-held a-hostout = refl
  mark-held colon = refl
  mark-held (unused k) = refl

  -- a token that is no name, by its sort and number
  pub held-told : (t : Token) → Unnamed (some t) → token_by named (token_lexeme t).sort (token_lexeme t).value ≡ some t
  unfolding token_by plain_tokens
  held-told (name n) u = absurd (u n refl)
  held-told (number z) u = refl
  held-told minus u = refl
  held-told not-word u = refl
  held-told given u = refl
  held-told (operator k) u = refl
  held-told (joins both) u = refl
  held-told (joins either) u = refl
  held-told round-open u = refl
  held-told round-close u = refl
  held-told square-open u = refl
  held-told square-close u = refl
  held-told (mark m) u = mark-held m

-- no token has the sort of none, and no token that is no name the sort of a name
pub none_told : (v : ℤ) → token_by (λ n. none) sorts.no_token v ≡ none
unfolding token_by plain_tokens
none_told v = refl

name-untold : (v : ℤ) → token_by (λ n. none) sorts.name v ≡ none
unfolding token_by
name-untold (pos k) = refl
name-untold (negsuc k) = refl

-- only names have the sort of a name
pub name-by-sort : (t : Token) → token_sort t ≡ sorts.name → (n : List ℕ) × (t ≡ name n)
name-by-sort (name n) e = (n, refl)
name-by-sort (number z) e = absurd (omega (arith, e))
name-by-sort minus e = absurd (omega (arith, e))
name-by-sort not-word e = absurd (omega (arith, e))
name-by-sort given e = absurd (omega (arith, e))
name-by-sort (operator k) e = absurd (omega (arith, e))
name-by-sort (joins both) e = absurd (omega (arith, e))
name-by-sort (joins either) e = absurd (omega (arith, e))
name-by-sort round-open e = absurd (omega (arith, e))
name-by-sort round-close e = absurd (omega (arith, e))
name-by-sort square-open e = absurd (omega (arith, e))
name-by-sort square-close e = absurd (omega (arith, e))
name-by-sort (mark m) e =
    let u : Unnamed (some (mark m)) = λ n q. let z : ◌≡◌ {A = ℕ} 0 1 = cc in omega arith in
    absurd
    (none-ne-some (mark m)
    (sym (name-untold (mark_lexeme m).value) ∙ sym (ap (λ (k : ℕ). token_by (λ n. none) k (mark_lexeme m).value) e) ∙ held-told (λ n. none) (mark m) u))

-- a name by where it stands
pub name-held-told : (text n : List ℕ) (from size : ℕ) → size < 32 → n ≡ take size (drop from text) → token_by (name_held text) sorts.name (pos (placed from size)) ≡ some (name n)
unfolding token_by
name-held-told text n from size h e =
    let s : placed from size % 32 ≡ size = omega arith in
    let f : placed from size / 32 ≡ from = omega arith in
    ap₂ (λ (k m : ℕ). some (name (take k (drop m text)))) s f ∙ ap (λ (b : List ℕ). some (name b)) (sym e)
