-- Whether bytes are a word, byte by byte.
use mathlib.Core.Path.{◌≡◌, refl, sym, ap, ◌∙◌}
use mathlib.Core.Bool.{Bool, true, false, false≢true}
use mathlib.Core.List.{List, [], ◌∷◌}
use Prim.Native.Nat.{ℕ, zero, suc, ◌-◌, ◌≤◌}
use native.Mathlib.Omega.{arith}
use lib.ListN.{length, get_or, take, drop, length-drop}
use Rattle.std.specs.Prelude.{◌↔◌, All}
use Rattle.grammar.proofs.LinesSound.{split-and}
use Rattle.grammar.specs.Tokens.{is_letter, is_word_byte, all_word_bytes, is_word}

-- no bytes are no word
pub no_word : (s : List ℕ) → length s ≡ 0 → is_word s ≡ false
unfolding is_word
no_word [] h = refl
no_word (b ∷ bs) h = absurd (omega arith)

-- the first byte is no letter
pub no-letter : (s : List ℕ) → is_letter (get_or s 0 0) ≡ false → is_word s ≡ false
unfolding is_word
no-letter [] e = refl
no-letter (b ∷ bs) e = rw e

-- it is one
pub after-letter : (s : List ℕ) → is_letter (get_or s 0 0) ≡ true → is_word s ≡ all_word_bytes (drop 1 s)
unfolding is_word
after-letter [] e = absurd (false≢true e)
after-letter (b ∷ bs) e = rw e

-- what is told of each of some bytes
all-true : (bs : List ℕ) → All (λ b. is_word_byte b ≡ true) bs → all_word_bytes bs ≡ true
unfolding all_word_bytes
all-true [] h = refl
all-true (b ∷ bs) h = rw (h 0 0 (omega arith)) (all-true bs (λ k d l. h (suc k) d (omega arith)))

true-all : (bs : List ℕ) → all_word_bytes bs ≡ true → All (λ b. is_word_byte b ≡ true) bs
unfolding all_word_bytes
true-all [] e k d l = absurd (omega arith)
true-all (b ∷ bs) e zero d l = (split-and (is_word_byte b) (all_word_bytes bs) e).0
true-all (b ∷ bs) e (suc k) d l = true-all bs (split-and (is_word_byte b) (all_word_bytes bs) e).1 k d (omega arith)

pub all-told : (bs : List ℕ) (t : Bool) → (t ≡ true ↔ All (λ b. is_word_byte b ≡ true) bs) → t ≡ all_word_bytes bs
all-told bs t h = go t (all_word_bytes bs) (λ e. all-true bs (h.0 e)) (λ e. h.1 (true-all bs e))
  where
    go : (t a : Bool) → (t ≡ true → a ≡ true) → (a ≡ true → t ≡ true) → t ≡ a
    go true a f g = sym (f refl)
    go false true f g = g refl
    go false false f g = refl

-- the bytes after the first
pub rest-told : (s : List ℕ) (t : Bool) → (t ≡ true ↔ All (λ b. is_word_byte b ≡ true) (take (length s - 1) (drop 1 s))) → t ≡ all_word_bytes (drop 1 s)
rest-told s t h = all-told (take (length s - 1) (drop 1 s)) t h ∙ ap all_word_bytes (whole (drop 1 s) (length s - 1) (let d = length-drop 1 s in omega arith))
  where
    whole : (s : List ℕ) (n : ℕ) → length s ≤ n → take n s ≡ s
    whole [] zero h = refl
    whole [] (suc n) h = refl
    whole (b ∷ s) zero h = absurd (omega arith)
    whole (b ∷ s) (suc n) h = ap (λ (t : List ℕ). b ∷ t) (whole s n (omega arith))
