-- The next token, by where the spaces before it end and where its bytes are looked for.
use mathlib.Core.Path.{◌≡◌, refl, sym, ap, ap₂, ◌∙◌}
use mathlib.Core.Bool.{Bool, true, false}
use mathlib.Core.Logic.{◌⊎◌, inl, inr}
use mathlib.Core.List.{List, [], ◌∷◌}
use mathlib.Core.Option.{Option, none, some, none-ne-some}
use Rattle.std.specs.Prelude as found
use Rattle.std.specs.Prelude.{Some, None}
use Prim.Native.Nat.{ℕ, zero, suc, ◌+◌, ◌-◌, ◌≤◌, ◌<◌}
use native.Mathlib.Omega.{arith}
use lib.ListN.{length, take, drop, drop_of_length-le, length-drop}
use lib.Seq.{take-length, length-take-le, take-nil}
use lib.Dec.{ltb}
use borrow.Author.Tests.{ltb-false}
use Rattle.meaning.specs.Basics.{if_else}
use Rattle.meaning.specs.Lines.{same}
use Rattle.meaning.specs.Numerals as numerals
use Rattle.grammar.specs.Grammar.{Token}
use Rattle.grammar.specs.Tokens.{hang, token_spelt, symbols, is_word, or_number, token_of}
use Rattle.read_tokens.specs.Lexemes.{lexeme_of}
use Rattle.read_tokens.specs.Chunks.{chunk_size}
use Rattle.read_tokens.specs.declared.Lexeme.{Lexeme}
use Rattle.read_tokens.proofs.TokenCases.{no-token}
use Rattle.read_tokens.proofs.LongChunks.{long-no-token}
use Rattle.read_scan.specs.Nexts.{blanks, chunk_in, standing, next_from, next_in, reach_from}
use Rattle.read_scan.proofs.NextLaws.{chunk-wide, chunk-within}

-- no bytes are no token
pub no_bytes : token_of [] ≡ none
unfolding token_of is_word or_number token_spelt symbols same numerals.number
no_bytes = refl

-- Chunks cut short --------------------------------------------------------------------------------------------------------------

-- the last of the first bytes are the first of the last
drop-take : (k m : ℕ) (s : List ℕ) → drop k (take m s) ≡ take (m - k) (drop k s)
drop-take zero m s = let e : m ≡ m - 0 = omega arith in ap (λ (n : ℕ). take n s) e
drop-take (suc k) zero s = let e : 0 ≡ 0 - suc k = omega arith in ap (λ (n : ℕ). take n (drop (suc k) s)) e
drop-take (suc k) (suc m) [] = sym (take-nil (suc m - suc k))
drop-take (suc k) (suc m) (b ∷ s) = let e : m - k ≡ suc m - suc k = omega arith in drop-take k m s ∙ ap (λ (n : ℕ). take n (drop k s)) e

-- among the first bytes the chunk is whole, or it is all of them
abbrev CutShort : ℕ → List ℕ → Type 0
CutShort k bs = (chunk_size (take k bs) ≡ chunk_size bs) ⊎ ((chunk_size (take k bs) ≡ k) × (k ≤ chunk_size bs))

cut_short : (k : ℕ) (bs : List ℕ) → CutShort k bs
unfolding chunk_size
cut_short zero bs = inr (refl, omega arith)
cut_short (suc k) [] = inl refl
cut_short (suc zero) (b ∷ bs) = inr (refl, chunk-wide b bs)
cut_short (suc (suc k)) (b ∷ []) = inl refl
cut_short (suc (suc k)) (b ∷ c ∷ cs) = go (hang b c) (cut_short (suc k) (c ∷ cs))
  where
    go : (t : Bool) → CutShort (suc k) (c ∷ cs)
        → (if_else t (suc (chunk_size (c ∷ take k cs))) 1 ≡ if_else t (suc (chunk_size (c ∷ cs))) 1)
        ⊎ ((if_else t (suc (chunk_size (c ∷ take k cs))) 1 ≡ suc (suc k)) × (suc (suc k) ≤ if_else t (suc (chunk_size (c ∷ cs))) 1))
    go true (inl e) = inl (ap suc e)
    go true (inr (e, l)) = inr (ap suc e, omega arith)
    go false w = inl refl

-- more than 31 bytes from a place on are no token
long-from : (line : List ℕ) (from n : ℕ) → n ≤ length (drop from line) → 32 ≤ n → token_of (take n (drop from line)) ≡ none
long-from line from n l h = let e = length-take-le n (drop from line) l in long-no-token (take n (drop from line)) (omega (arith, e, h))

-- the bytes that are looked at are within the line
pub reach-within : (line : List ℕ) (from : ℕ) → from < length line → reach_from line from ≤ length line
reach-within line from h = go (ltb (length line - from) 32) refl
  where
    go : (t : Bool) → ltb (length line - from) 32 ≡ t → if_else t (length line) (from + 32) ≤ length line
    go true e = omega arith
    go false e = let l = ltb-false (length line - from) 32 e in omega (arith, l, h)

-- The token of the bytes that are looked at -------------------------------------------------------------------------------------

module _ (line : List ℕ) (from to : ℕ) (inside : from < length line) (ends : to ≡ from + chunk_size (drop from (take (reach_from line from) line))) where
  -- the chunk is whole, or it is too long for a token
  abbrev Whole : Type 0
  Whole = (to ≡ from + chunk_size (drop from line)) ⊎ ((to ≡ from + 32) × (32 ≤ chunk_size (drop from line)))

  whole : Whole
  whole = go (ltb (length line - from) 32) refl
    where
      reaches : (t : Bool) → ltb (length line - from) 32 ≡ t → to ≡ from + chunk_size (drop from (take (if_else t (length line) (from + 32)) line))
      reaches t e = ends ∙ ap (λ (t : Bool). from + chunk_size (drop from (take (if_else t (length line) (from + 32)) line))) e

      cut : to ≡ from + chunk_size (take 32 (drop from line)) → CutShort 32 (drop from line) → Whole
      cut q (inl e) = inl (omega (arith, q, e))
      cut q (inr (e, l)) = inr (omega (arith, q, e), l)

      go : (t : Bool) → ltb (length line - from) 32 ≡ t → Whole
      go true e = inl (reaches true e ∙ ap (λ (bs : List ℕ). from + chunk_size (drop from bs)) (take-length line))
      go false e =
          let k : from + 32 - from ≡ 32 = omega arith in
          cut (reaches false e ∙ ap (λ (bs : List ℕ). from + chunk_size bs) (drop-take from (from + 32) line ∙ ap (λ (n : ℕ). take n (drop from line)) k)) (cut_short 32 (drop from line))

  -- it ends within the line
  pub to-within : (from ≤ to) × (to ≤ length line)
  to-within = go whole
    where
      go : Whole → (from ≤ to) × (to ≤ length line)
      go (inl e) = let i = chunk-within (drop from line) in let j = length-drop from line in (omega (arith, e), omega (arith, e, i, j, inside))
      go (inr (e, l)) = let i = chunk-within (drop from line) in let j = length-drop from line in (omega (arith, e), omega (arith, e, l, i, j))

  same-token : token_of (take (to - from) (drop from line)) ≡ token_of (chunk_in line from)
  same-token = go whole
    where
      go : Whole → token_of (take (to - from) (drop from line)) ≡ token_of (chunk_in line from)
      go (inl e) = let k : to - from ≡ chunk_size (drop from line) = omega arith in ap (λ (n : ℕ). token_of (take n (drop from line))) k
      go (inr (e, l)) =
          let i = chunk-within (drop from line) in
          let k : to - from ≡ 32 = omega arith in
          ap (λ (n : ℕ). token_of (take n (drop from line))) k
          ∙ long-from line from 32 (omega (arith, i, l)) (omega arith)
          ∙ sym (long-from line from (chunk_size (drop from line)) i l)

  -- a token's chunk is whole
  token-ends : (t : Token) → token_of (chunk_in line from) ≡ some t → to ≡ from + chunk_size (drop from line)
  token-ends t h = go whole
    where
      go : Whole → to ≡ from + chunk_size (drop from line)
      go (inl e) = e
      go (inr (e, l)) = absurd (none-ne-some t (sym (long-from line from (chunk_size (drop from line)) (chunk-within (drop from line)) l) ∙ h))

-- The next token ----------------------------------------------------------------------------------------------------------------

module _ (line : List ℕ) (at from : ℕ) (begins : from ≡ at + blanks (drop at line)) where
  next-is : (o : Option Token) (to : ℕ) → token_of (chunk_in line from) ≡ o → to ≡ from + chunk_size (drop from line) → standing o from to ≡ next_in line at
  unfolding next_in
  next-is o to h e = sym (ap₂ (λ (p : Option Token) (n : ℕ). standing p from n) h (sym e)) ∙ ap (λ (n : ℕ). next_from line n) begins

  -- nothing is left
  pub next-past-end : length line ≤ from → standing none from from ≡ next_in line at
  unfolding chunk_size
  next-past-end h = next-is none (from + chunk_size (drop from line)) (ap (λ (bs : List ℕ). token_of (take (chunk_size bs) bs)) (drop_of_length-le line h) ∙ no_bytes) refl

  module _ (to : ℕ) (inside : from < length line) (ends : to ≡ from + chunk_size (drop from (take (reach_from line from) line))) where
    same-lexeme : lexeme_of (token_of (take (to - from) (drop from line))) ≡ lexeme_of (token_of (chunk_in line from))
    same-lexeme = ap lexeme_of (same-token line from to inside ends)

    -- the bytes are no token
    pub next-none : None ≡ lexeme_of (token_of (take (to - from) (drop from line))) → standing none from from ≡ next_in line at
    next-none h = next-is none (from + chunk_size (drop from line)) (no-token (token_of (chunk_in line from)) (sym (h ∙ same-lexeme))) refl

    -- they are one
    pub next-there : (l : Lexeme) → Some l ≡ lexeme_of (token_of (take (to - from) (drop from line))) → record { token = Some l; from = from; to = to } ≡ next_in line at
    next-there l h = go (token_of (chunk_in line from)) refl
      where
        go : (o : Option Token) → token_of (chunk_in line from) ≡ o → record { token = Some l; from = from; to = to } ≡ next_in line at
        go none e = let q : Some l ≡ None = h ∙ same-lexeme ∙ ap lexeme_of e in cc
        go (some t) e =
            ap (λ (o : found.Option Lexeme). record { token = o; from = from; to = to }) (h ∙ same-lexeme ∙ ap lexeme_of e)
            ∙ next-is (some t) to e (token-ends line from to inside ends t e)
