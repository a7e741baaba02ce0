-- Rows as bits: a bit for each of 1,024 rows in sixteen words of 64 bits, the number of bits of each word in sixteen more, and their total in the last.
use Rattle.std.specs.Prelude.{◌≡◌, ℕ, zero, suc, ◌+◌, ◌-◌, ◌*◌, ◌/◌, ◌%◌, ◌^◌, ◌<◌, ◌≤◌, Bool, false, List, length, get_or, set, replicate, ◌==◌, bit_and, bit_xor, nat_lt, slice_index, slice_index_or, slice_set}
use Rattle.meaning.specs.Basics.{if_else, all_below}

-- is bit k of a word set
unfoldable pub on : ℕ → ℕ → Bool
on w k = w / 2 ^ k % 2 == 1

-- the word of a row
abbrev pub word_of : ℕ → ℕ
word_of r = r / 64 % 16

-- is a row in
unfoldable pub has : List ℕ → ℕ → Bool
has ws r = on (slice_index ws (word_of r)) (r % 64)

-- d more, in a word
abbrev pub plus : ℕ → ℕ → ℕ
plus n d = (n + d) % 2 ^ 64

-- a row's bit turned, and d more in its word and in all
unfoldable pub turned : List ℕ → ℕ → ℕ → List ℕ
turned ws r d =
    set
    (slice_set (slice_set ws (word_of r) (bit_xor (slice_index ws (word_of r)) (2 ^ (r % 64)))) (word_of r + 16) (plus (slice_index ws (word_of r + 16)) d))
    32
    (plus (slice_index ws 32) d)

-- a row comes in, or goes out
unfoldable pub raised : List ℕ → ℕ → List ℕ
raised ws r = if_else (has ws r) ws (turned ws r 1)

unfoldable pub lowered : List ℕ → ℕ → List ℕ
lowered ws r = if_else (has ws r) (turned ws r (2 ^ 64 - 1)) ws

-- no row is in
abbrev pub no_rows : List ℕ
no_rows = replicate 33 0

-- the numbers are those of the bits
pub record BitsCounted (ws : List ℕ) : Type 0 where
  pub size : length ws ≡ 33
  pub words : (i : ℕ) → i < 16 → slice_index ws i < 2 ^ 64
  pub each : (i : ℕ) → i < 16 → slice_index ws (i + 16) ≡ length (all_below (on (slice_index ws i)) 64)
  pub all : get_or ws 32 0 ≡ length (all_below (has ws) 1024)

-- the words show the rows below n for which a test holds
pub record Shown (test : ℕ → Bool) (n : ℕ) (ws : List ℕ) : Type 0 where
  pub counted : BitsCounted ws
  pub fits : n ≤ 1024
  pub rows : (r : ℕ) → r < n → has ws r ≡ test r
  pub none : (r : ℕ) → n ≤ r → r < 1024 → has ws r ≡ false

-- and they are these
unfoldable pub bits_of : (ℕ → Bool) → ℕ → List ℕ
bits_of test zero = no_rows
bits_of test (suc n) = if_else (test n) (raised (bits_of test n) n) (bits_of test n)

-- a word without its lowest bit
abbrev pub without_lowest : ℕ → ℕ
without_lowest w = bit_and w (w - 1)

-- bit k, from 0 on, of n words from word i on, by the counts that are kept of them; 1,024 where these are not so many
unfoldable pub picked_from : List ℕ → ℕ → ℕ → ℕ → ℕ
picked_from ws i zero k = 1024
picked_from ws i (suc n) k =
    let m = get_or ws (i + 16) 0 in
    let later = picked_from ws (i + 1) n (k - m) in
    if_else (nat_lt k m) (64 * i + slice_index_or (all_below (on (slice_index ws i)) 64) k 64) later

-- the row of a choice, by the total that is kept; row 0 where that is 0
abbrev pub chosen_of : List ℕ → ℕ → ℕ
chosen_of ws choice = let n = get_or ws 32 0 in if_else (n == 0) 0 (picked_from ws 0 16 (choice % n))
