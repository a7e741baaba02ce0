-- What hangs together with a byte, by that byte.
use mathlib.Core.Path.{◌≡◌}
use mathlib.Core.Bool.{Bool, true, false, ◌&&◌, ◌||◌, and-true, and-false, or-false, and_comm}
use Prim.Native.Nat.{ℕ}
use lib.Dec.{eqb}
use borrow.Author.Tests.{ne_eqb}
use Rattle.meaning.specs.Numerals.{is_digit}
use Rattle.grammar.specs.Tokens.{is_word_byte, hang}

-- a minus, with a digit
pub after_minus : (c : ℕ) → is_digit c ≡ hang 45 c
after_minus c = go (is_word_byte c) (is_digit c) (eqb c 61) (eqb c 62)
  where
    go : (w d e m : Bool) → d ≡ ((w && false) || ((d && true) || ((e && false) || (m && false))))
    go w d e m = simp (and-false, and-true, or-false)

-- a colon or `>`, with `=`
pub after-colon : (c : ℕ) → eqb c 61 ≡ hang 58 c
after-colon c = go (is_word_byte c) (is_digit c) (eqb c 61) (eqb c 62)
  where
    go : (w d e m : Bool) → e ≡ ((w && false) || ((d && false) || ((e && true) || (m && false))))
    go w d e m = simp (and-false, and-true, or-false)

pub after_more : (c : ℕ) → eqb c 61 ≡ hang 62 c
after_more c = after-colon c

-- `<`, with `=` or `>`
pub after_less : (c : ℕ) → (eqb c 61 || eqb c 62) ≡ hang 60 c
after_less c = go (is_word_byte c) (is_digit c) (eqb c 61) (eqb c 62)
  where
    go : (w d e m : Bool) → (e || m) ≡ ((w && false) || ((d && false) || ((e && true) || (m && true))))
    go w d e m = simp (and-false, and-true)

-- no other byte but a word's
pub after-other : (b c : ℕ) → (b ≡ 45 → ⊥) → (b ≡ 58 → ⊥) → (b ≡ 60 → ⊥) → (b ≡ 62 → ⊥) → (is_word_byte b && is_word_byte c) ≡ hang b c
after-other b c h i j k =
    rw (ne_eqb b 45 h, ne_eqb b 58 i, ne_eqb b 60 j, ne_eqb b 62 k) (go (is_word_byte b) (is_word_byte c) (is_digit c) (eqb c 61) (eqb c 62))
  where
    go : (v w d e m : Bool) → (v && w) ≡ ((w && v) || ((d && false) || ((e && false) || (m && false))))
    go v w d e m = simp (and-false, or-false) (and_comm v w)
