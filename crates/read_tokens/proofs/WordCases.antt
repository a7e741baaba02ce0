-- The words by their first byte.
use mathlib.Core.Path.{◌≡◌, refl, sym, ap, ◌∙◌}
use mathlib.Core.Bool.{Bool, true, false, false≢true}
use mathlib.Core.List.{List, [], ◌∷◌, map}
use mathlib.Core.Option.{Option, some}
use Prim.Native.Nat.{ℕ}
use Rattle.std.specs.Prelude as found
use Rattle.std.specs.Prelude.{None}
use lib.ListN.{length, get_or}
use lib.Dec.{eqb}
use native.Mathlib.Omega.{arith}
use borrow.Author.Tests.{ne_eqb, eqb-true}
use Rattle.meaning.specs.Basics.{if_else}
use Rattle.meaning.specs.Lines.{same}
use Rattle.grammar.specs.Grammar.{Token}
use Rattle.grammar.specs.Tokens.{TokenEntry, token_spelt, words}
use Rattle.read_tokens.specs.Lexemes.{lexeme_of}
use Rattle.read_tokens.specs.Table.{lexeme_in}
use Rattle.read_tokens.specs.declared.Lexeme.{Lexeme}
use Rattle.read_tokens.proofs.TableSteps.{line_means, entry_means, table-means}

-- whether a byte is the first of a spelling
unfoldable pub begins : ℕ → List ℕ → Bool
begins b [] = false
begins b (c ∷ cs) = eqb b c

-- the entries whose spelling begins with a byte
unfoldable pub beginning : ℕ → List TokenEntry → List TokenEntry
beginning b [] = []
beginning b (e ∷ es) = let rest = beginning b es in if_else (begins b e.spelling) (e ∷ rest) rest

other-first : (b : ℕ) (s t : List ℕ) → begins b t ≡ false → same (b ∷ s) t ≡ false
unfolding same begins
other-first b s [] h = refl
other-first b s (c ∷ t) h = rw h

-- no other entry has a token for bytes that begin with it
only-beginning : (b : ℕ) (s : List ℕ) (es : List TokenEntry) → token_spelt (beginning b es) (b ∷ s) ≡ token_spelt es (b ∷ s)
unfolding token_spelt beginning
only-beginning b s [] = refl
only-beginning b s (e ∷ es) = go (begins b e.spelling) refl (only-beginning b s es)
  where
    go : (t : Bool) → begins b e.spelling ≡ t → token_spelt (beginning b es) (b ∷ s) ≡ token_spelt es (b ∷ s)
        → token_spelt (if_else t (e ∷ beginning b es) (beginning b es)) (b ∷ s) ≡ if_else (same (b ∷ s) e.spelling) (some e.token) (token_spelt es (b ∷ s))
    go true q i = ap (λ (o : Option Token). if_else (same (b ∷ s) e.spelling) (some e.token) o) i
    go false q i = rw (other-first b s e.spelling q) i

-- no bytes are no word
pub no_bytes : (s : List ℕ) → eqb (length s) 0 ≡ true → None ≡ lexeme_of (token_spelt words s)
unfolding token_spelt words same
no_bytes [] e = refl
no_bytes (b ∷ s) e = absurd (let z = eqb-true (length (b ∷ s)) 0 e in omega arith)

-- the first byte is known, and a table has a line for each word that begins with it
pub first-letter : (s : List ℕ) (k : ℕ) (t : List (List ℕ)) (l : found.Option Lexeme) → eqb (length s) 0 ≡ false → get_or s 0 0 ≡ k → map line_means t ≡ map entry_means (beginning k words)
    → l ≡ lexeme_in t s → l ≡ lexeme_of (token_spelt words s)
first-letter [] k t l n e m h = absurd (false≢true (sym n))
first-letter (b ∷ s) k t l n e m h =
    h ∙ table-means (beginning k words) t (b ∷ s) m ∙ ap (λ (j : ℕ). lexeme_of (token_spelt (beginning j words) (b ∷ s))) (sym e) ∙ ap lexeme_of (only-beginning b s words)

-- a first byte with which no word begins
pub first-other : (s : List ℕ) → (get_or s 0 0 ≡ 65 → ⊥) → (get_or s 0 0 ≡ 67 → ⊥) → (get_or s 0 0 ≡ 70 → ⊥) → (get_or s 0 0 ≡ 71 → ⊥) → (get_or s 0 0 ≡ 72 → ⊥) → (get_or s 0 0 ≡ 73 → ⊥) → (get_or s 0 0 ≡ 77 → ⊥)
    → (get_or s 0 0 ≡ 78 → ⊥) → (get_or s 0 0 ≡ 79 → ⊥) → (get_or s 0 0 ≡ 80 → ⊥) → (get_or s 0 0 ≡ 82 → ⊥) → (get_or s 0 0 ≡ 83 → ⊥) → (get_or s 0 0 ≡ 84 → ⊥) → (get_or s 0 0 ≡ 87 → ⊥) → None ≡ lexeme_of (token_spelt words s)
unfolding token_spelt words same
first-other [] n1 n2 n3 n4 n5 n6 n7 n8 n9 n10 n11 n12 n13 n14 = refl
first-other (b ∷ s) n1 n2 n3 n4 n5 n6 n7 n8 n9 n10 n11 n12 n13 n14 =
    rw (ne_eqb b 65 n1, ne_eqb b 67 n2, ne_eqb b 70 n3, ne_eqb b 71 n4, ne_eqb b 72 n5, ne_eqb b 73 n6, ne_eqb b 77 n7, ne_eqb b 78 n8, ne_eqb b 79 n9, ne_eqb b 80 n10, ne_eqb b 82 n11, ne_eqb b 83 n12, ne_eqb b 84 n13, ne_eqb b 87 n14)
