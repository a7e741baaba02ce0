-- The symbols by their bytes.
use mathlib.Core.Path.{◌≡◌, refl, sym, ap, ◌∙◌}
use mathlib.Core.Bool.{Bool, true, false}
use mathlib.Core.List.{List, [], ◌∷◌}
use Prim.Native.Nat.{ℕ}
use Rattle.std.specs.Prelude.{Option, Some, None}
use native.Mathlib.Omega.{arith}
use lib.ListN.{length, get_or}
use lib.Dec.{eqb}
use borrow.Author.Tests.{ne_eqb}
use Rattle.meaning.specs.Basics.{if_else}
use Rattle.meaning.specs.Lines.{same}
use Rattle.grammar.specs.Tokens.{token_spelt, symbols}
use Rattle.read_tokens.specs.Lexemes.{lexeme_of}
use Rattle.read_tokens.specs.declared.Lexeme.{Lexeme}

-- the symbol that some bytes are
abbrev pub spelt : List ℕ → Option Lexeme
spelt s = lexeme_of (token_spelt symbols s)

-- a byte that is known, alone or before another one
pub one_known : (b k : ℕ) (l m : Lexeme) → b ≡ k → l ≡ m → Some m ≡ spelt (k ∷ []) → Some l ≡ spelt (b ∷ [])
one_known b k l m e i h = ap (λ (x : Lexeme). Some x) i ∙ h ∙ ap (λ (n : ℕ). spelt (n ∷ [])) (sym e)

pub first-known : (b c k : ℕ) (l m : Lexeme) → b ≡ k → l ≡ m → Some m ≡ spelt (k ∷ c ∷ []) → Some l ≡ spelt (b ∷ c ∷ [])
first-known b c k l m e i h = ap (λ (x : Lexeme). Some x) i ∙ h ∙ ap (λ (n : ℕ). spelt (n ∷ c ∷ [])) (sym e)

pub second-known : (b c k : ℕ) (l : Option Lexeme) → c ≡ k → l ≡ spelt (b ∷ k ∷ []) → l ≡ spelt (b ∷ c ∷ [])
second-known b c k l e h = h ∙ ap (λ (n : ℕ). spelt (b ∷ n ∷ [])) (sym e)

-- a byte that is no symbol
pub one-other : (b : ℕ) → (b ≡ 58 → ⊥) → (b ≡ 61 → ⊥) → (b ≡ 60 → ⊥) → (b ≡ 62 → ⊥) → (b ≡ 91 → ⊥) → (b ≡ 93 → ⊥) → (b ≡ 40 → ⊥) → (b ≡ 41 → ⊥)
    → (b ≡ 43 → ⊥) → (b ≡ 45 → ⊥) → (b ≡ 42 → ⊥) → (b ≡ 47 → ⊥) → (b ≡ 63 → ⊥) → (b ≡ 33 → ⊥) → (b ≡ 38 → ⊥) → None ≡ spelt (b ∷ [])
unfolding token_spelt symbols same
one-other b n1 n2 n3 n4 n5 n6 n7 n8 n9 n10 n11 n12 n13 n14 n15 =
    rw (ne_eqb b 58 n1, ne_eqb b 61 n2, ne_eqb b 60 n3, ne_eqb b 62 n4, ne_eqb b 91 n5, ne_eqb b 93 n6, ne_eqb b 40 n7, ne_eqb b 41 n8, ne_eqb b 43 n9, ne_eqb b 45 n10, ne_eqb b 42 n11, ne_eqb b 47 n12, ne_eqb b 63 n13, ne_eqb b 33 n14, ne_eqb b 38 n15)

no-matter : (t : Bool) → if_else {A = Bool} t false false ≡ false
no-matter true = refl
no-matter false = refl

-- a byte with which `=` or `>` makes no symbol
pub equals-other : (b : ℕ) → (b ≡ 58 → ⊥) → (b ≡ 60 → ⊥) → (b ≡ 62 → ⊥) → None ≡ spelt (b ∷ 61 ∷ [])
unfolding token_spelt symbols same
equals-other b n1 n2 n3 = rw (ne_eqb b 58 n1, ne_eqb b 60 n2, ne_eqb b 62 n3, no-matter (eqb b 61), no-matter (eqb b 91), no-matter (eqb b 93), no-matter (eqb b 40), no-matter (eqb b 41), no-matter (eqb b 43), no-matter (eqb b 45), no-matter (eqb b 42), no-matter (eqb b 47), no-matter (eqb b 63), no-matter (eqb b 33), no-matter (eqb b 38))

pub more-other : (b : ℕ) → (b ≡ 60 → ⊥) → None ≡ spelt (b ∷ 62 ∷ [])
unfolding token_spelt symbols same
more-other b n = rw (ne_eqb b 60 n, no-matter (eqb b 58), no-matter (eqb b 62), no-matter (eqb b 61), no-matter (eqb b 91), no-matter (eqb b 93), no-matter (eqb b 40), no-matter (eqb b 41), no-matter (eqb b 43), no-matter (eqb b 45), no-matter (eqb b 42), no-matter (eqb b 47), no-matter (eqb b 63), no-matter (eqb b 33), no-matter (eqb b 38))

-- a second byte that ends no symbol
pub second-other : (b c : ℕ) → (c ≡ 61 → ⊥) → (c ≡ 62 → ⊥) → None ≡ spelt (b ∷ c ∷ [])
unfolding token_spelt symbols same
second-other b c n m = rw (ne_eqb c 61 n, ne_eqb c 62 m, no-matter (eqb b 58), no-matter (eqb b 61), no-matter (eqb b 60), no-matter (eqb b 62), no-matter (eqb b 91), no-matter (eqb b 93), no-matter (eqb b 40), no-matter (eqb b 41), no-matter (eqb b 43), no-matter (eqb b 45), no-matter (eqb b 42), no-matter (eqb b 47), no-matter (eqb b 63), no-matter (eqb b 33), no-matter (eqb b 38))

-- no bytes, or more than two
pub no_symbol : (s : List ℕ) → (length s ≡ 1 → ⊥) → (length s ≡ 2 → ⊥) → None ≡ spelt s
unfolding token_spelt symbols same
no_symbol [] n m = refl
no_symbol (b ∷ []) n m = absurd (n refl)
no_symbol (b ∷ c ∷ []) n m = absurd (m refl)
no_symbol (b ∷ c ∷ d ∷ s) n m = rw (no-matter (eqb c 61), no-matter (eqb c 62), no-matter (eqb b 58), no-matter (eqb b 61), no-matter (eqb b 60), no-matter (eqb b 62), no-matter (eqb b 91), no-matter (eqb b 93), no-matter (eqb b 40), no-matter (eqb b 41), no-matter (eqb b 43), no-matter (eqb b 45), no-matter (eqb b 42), no-matter (eqb b 47), no-matter (eqb b 63), no-matter (eqb b 33), no-matter (eqb b 38))

-- one byte, and two
pub one_of : (s : List ℕ) (l : Option Lexeme) → length s ≡ 1 → l ≡ spelt (get_or s 0 0 ∷ []) → l ≡ spelt s
one_of [] l e h = absurd (omega arith)
one_of (b ∷ []) l e h = h
one_of (b ∷ c ∷ s) l e h = absurd (omega arith)

pub two-of : (s : List ℕ) (l : Option Lexeme) → length s ≡ 2 → l ≡ spelt (get_or s 0 0 ∷ get_or s 1 0 ∷ []) → l ≡ spelt s
two-of [] l e h = absurd (omega arith)
two-of (b ∷ []) l e h = absurd (omega arith)
two-of (b ∷ c ∷ []) l e h = h
two-of (b ∷ c ∷ d ∷ s) l e h = absurd (omega arith)
