-- What a lent buffer holds of the bytes that are printed: as many as were counted; and a buffer of zeros all of them, where they fit, and zeros after them.
use mathlib.Core.Path.{◌≡◌, ap, ap₂, ◌∙◌}
use mathlib.Core.List.{List, ◌++◌}
use Prim.Native.Nat.{ℕ, zero, suc, ◌-◌, ◌≤◌}
use native.Mathlib.Omega.{arith}
use lib.ListN.{length, take, drop, replicate, length-append, length-replicate}
use lib.Seq.{take_all}
use Rattle.write_bytes.specs.Writing.{printed_in}
use Rattle.call_runner.specs.declared.PrintedText.{PrintedText}

module _ (bytes old : List ℕ) (n : ℕ) (new : List ℕ) (e : (n, new) ≡ printed_in bytes old) where
  pub printed-inside : n ≤ length new
  printed-inside =
      let count = ap (λ (w : ℕ × List ℕ). w.0) e in
      let size = ap (λ (w : ℕ × List ℕ). length w.1) e in
      omega (arith, length-append (take (length old) bytes) (drop (length bytes) old))

-- without the first k of n zeros
drop-zeros : (k n : ℕ) → drop k (replicate {A = ℕ} n 0) ≡ replicate (n - k) 0
drop-zeros zero n = let all : n ≡ n - 0 = omega arith in ap (λ (m : ℕ). replicate {A = ℕ} m 0) all
drop-zeros (suc k) zero = let none_left : 0 ≡ 0 - suc k = omega arith in ap (λ (m : ℕ). replicate {A = ℕ} m 0) none_left
drop-zeros (suc k) (suc n) = let fewer : n - k ≡ suc n - suc k = omega arith in drop-zeros k n ∙ ap (λ (m : ℕ). replicate {A = ℕ} m 0) fewer

module _ (bytes : List ℕ) (size n : ℕ) (new : List ℕ) (e : (n, new) ≡ printed_in bytes (replicate {A = ℕ} size 0)) (h : length bytes ≤ size) where
  pub printed-whole : ◌≡◌ {A = PrintedText} (record { bytes = new; length = n }) (record { bytes = bytes ++ replicate (size - length bytes) 0; length = length bytes })
  printed-whole =
      let zeros = length-replicate {A = ℕ} size 0 in
      let front : take (length (replicate {A = ℕ} size 0)) bytes ≡ bytes = take_all (length (replicate {A = ℕ} size 0)) bytes (omega arith) in
      ap (λ (w : ℕ × List ℕ). record { bytes = w.1; length = w.0 }) e
      ∙ ap₂ (λ (l r : List ℕ). record { bytes = l ++ r; length = length l }) front (drop-zeros (length bytes) size)
