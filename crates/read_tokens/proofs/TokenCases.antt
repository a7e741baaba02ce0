-- The token that bytes are, by whether they are in a table, and by what they are if they are not.
use mathlib.Core.Path.{◌≡◌, refl, sym, ap}
use mathlib.Core.Bool.{true, false}
use mathlib.Core.List.{List}
use mathlib.Core.Option.{Option, none, some}
use Prim.Native.Nat.{ℕ, ◌≤◌, ◌<◌}
use native.Mathlib.Omega.{arith}
use lib.IntN.{ℤ, pos}
use lib.ListN.{length}
use borrow.Author.Tests.{le-leb, lt-leb}
use Rattle.meaning.specs.Numerals as numerals
use Rattle.std.specs.Prelude.{Some, None}
use Rattle.base_numbers.specs.Reading.{option_of}
use Rattle.grammar.specs.Grammar.{Token}
use Rattle.grammar.specs.Tokens.{words, symbols, token_spelt, is_word, or_name, or_number, token_of}
use Rattle.read_tokens.specs.Sorts as sorts
use Rattle.read_tokens.specs.Lexemes.{valued, lexeme_of}
use Rattle.read_tokens.specs.declared.Lexeme.{Lexeme}

-- only no token is found as none
pub no-token : (o : Option Token) → lexeme_of o ≡ None → o ≡ none
no-token none e = refl
no-token (some t) e = cc

-- what is found stays
name-after : (o : Option Token) (s : List ℕ) (l : Lexeme) → Some l ≡ lexeme_of o → Some l ≡ lexeme_of (or_name o s)
unfolding or_name
name-after none s l e = cc
name-after (some t) s l e = e

number-after : (o : Option Token) (q : Option ℤ) (l : Lexeme) → Some l ≡ lexeme_of o → Some l ≡ lexeme_of (or_number o q)
unfolding or_number
number-after none q l e = cc
number-after (some t) q l e = e

-- a number after nothing
read-after : (q : Option ℤ) (z : ℤ) → option_of q ≡ Some z → Some (valued sorts.number z) ≡ lexeme_of (or_number none q)
unfolding or_number
read-after none z h = cc
read-after (some y) z h = let e : z ≡ y = cc in ap (λ (y : ℤ). Some (valued sorts.number y)) e

misread-after : (q : Option ℤ) → option_of q ≡ None → None ≡ lexeme_of (or_number none q)
unfolding or_number
misread-after none h = refl
misread-after (some y) h = cc

-- what the code has found
module _ (o : Option Token) where
  module _ (s : List ℕ) where
    -- a word of the grammar
    pub word-found : (l : Lexeme) → Some l ≡ lexeme_of o → Some l ≡ lexeme_of (or_name o s)
    word-found l e = name-after o s l e

    -- a name
    pub name-found : None ≡ lexeme_of o → length s ≤ 31 → Some (valued sorts.name (pos (length s))) ≡ lexeme_of (or_name o s)
    unfolding or_name
    name-found e h = rw (no-token o (sym e), le-leb (length s) 31 h)

    -- a word too long for a name
    pub name-too-long : None ≡ lexeme_of o → 31 < length s → None ≡ lexeme_of (or_name o s)
    unfolding or_name
    name-too-long e h = rw (no-token o (sym e), lt-leb (length s) 31 h)

  module _ (q : Option ℤ) where
    -- a symbol
    pub symbol-found : (l : Lexeme) → Some l ≡ lexeme_of o → Some l ≡ lexeme_of (or_number o q)
    symbol-found l e = number-after o q l e

    -- a number
    pub number-found : None ≡ lexeme_of o → (z : ℤ) → option_of q ≡ Some z → Some (valued sorts.number z) ≡ lexeme_of (or_number o q)
    number-found e z h = rw (no-token o (sym e)) (read-after q z h)

    -- neither
    pub none_found : None ≡ lexeme_of o → option_of q ≡ None → None ≡ lexeme_of (or_number o q)
    none_found e h = rw (no-token o (sym e)) (misread-after q h)

-- words and names, and the others
pub token-of-word : (s : List ℕ) → is_word s ≡ true → or_name (token_spelt words s) s ≡ token_of s
unfolding token_of
token-of-word s e = rw e

pub token-of-other : (s : List ℕ) → is_word s ≡ false → or_number (token_spelt symbols s) (numerals.number s) ≡ token_of s
unfolding token_of
token-of-other s e = rw e
