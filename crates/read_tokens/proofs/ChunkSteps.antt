-- The chunk that begins at a place of some bytes, byte by byte.
use mathlib.Core.Path.{◌≡◌, ap, ◌∙◌}
use mathlib.Core.Bool.{true, false}
use mathlib.Core.List.{List, ◌∷◌}
use Prim.Native.Nat.{ℕ, suc, ◌+◌, ◌≤◌, ◌<◌}
use native.Mathlib.Omega.{arith}
use native.Mathlib.Numerals.{add-one}
use lib.ListN.{length, get_or, drop, drop_of_length-le}
use lib.Seq.{drop-cons}
use Rattle.grammar.specs.Tokens.{hang}
use Rattle.read_tokens.specs.Chunks.{chunk_size}

module _ (s : List ℕ) (at : ℕ) where
  -- nothing is left
  pub chunk-past-end : length s ≤ at → chunk_size (drop at s) ≡ 0
  unfolding chunk_size
  chunk-past-end h = ap chunk_size (drop_of_length-le s h)

  -- one byte is left
  pub chunk-of-last : at < length s → length s ≤ at + 1 → chunk_size (drop at s) ≡ 1
  unfolding chunk_size
  chunk-of-last h k =
      let l : length s ≤ suc at = omega arith in
      rw (drop-cons s at 0 h, drop_of_length-le s l)

  module _ (h : at + 1 < length s) where
    next-two : drop at s ≡ get_or s at 0 ∷ get_or s (at + 1) 0 ∷ drop (suc (suc at)) s
    next-two = drop-cons s at 0 (omega arith) ∙ rw (add-one at, drop-cons s (suc at) 0 (omega arith))

    -- the next byte does not hang on
    pub chunk-stops : hang (get_or s at 0) (get_or s (at + 1) 0) ≡ false → chunk_size (drop at s) ≡ 1
    unfolding chunk_size
    chunk-stops e = rw (next-two, e)

    -- it does
    pub chunk-goes-on : hang (get_or s at 0) (get_or s (at + 1) 0) ≡ true → chunk_size (drop at s) ≡ suc (chunk_size (drop (at + 1) s))
    unfolding chunk_size
    chunk-goes-on e = rw (next-two, e, add-one at, drop-cons s (suc at) 0 (omega arith)) (ap (λ (n : ℕ). suc (chunk_size (get_or s n 0 ∷ drop (suc (suc at)) s))) (add-one at))
