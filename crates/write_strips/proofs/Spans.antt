-- The strip of an output channel found by one pass over the declarations, and that strip in a list of any length.
use mathlib.Core.Path.{◌≡◌, refl, sym, ap, ◌∙◌}
use mathlib.Core.Bool.{Bool, true, false, ◌&&◌, false≢true}
use mathlib.Core.List.{List}
use Prim.Native.Nat.{ℕ, ◌+◌, ◌-◌, ◌≤◌, ◌<◌, min}
use native.Mathlib.Decide.{dec_lt}
use native.Mathlib.Numerals.{add-one}
use native.Mathlib.Omega.{arith}
use lib.IntN.{ℤ}
use lib.ListN.{length, get_or, take, drop, length-drop, drop_of_length-le, get_or-eq_default}
use lib.Seq.{take_all}
use lib.Dec.{eqb}
use Rattle.meaning.specs.Basics.{if_else}
use borrow.Author.Tests.{eqb-true, eq-eqb}
use Rattle.meaning.specs.Declarations.{declarations, sum_below, has_role, host_channels_at, capacity_at, host_channels}
use Rattle.meaning.specs.Buffers.{capacities}
use Rattle.machine.specs.Held.{sum_of, strip_start}
use Rattle.machine.proofs.Declared.{capacities-length, capacities-sum, capacity-at, strip-start}
use Rattle.write_strips.specs.declared.Span.{Span}
use Rattle.write_strips.specs.Spans.{span_of, held_span}

-- a row has one output channel, or none
pub one-port : (rows : List ℤ) (r : ℕ) → host_channels_at 2 rows r ≤ 1
unfolding host_channels_at
one-port rows r = go (has_role 2 rows r)
  where
    go : (t : Bool) → if_else t 1 0 ≤ 1
    go true = omega arith
    go false = omega arith

has-port : (rows : List ℤ) (r : ℕ) → host_channels_at 2 rows r ≡ 1 → has_role 2 rows r ≡ true
unfolding host_channels_at
has-port rows r = go (has_role 2 rows r)
  where
    go : (t : Bool) → ◌≡◌ {A = ℕ} (if_else t 1 0) 1 → t ≡ true
    go true e = refl
    go false e = absurd (omega arith)

both : (s t : Bool) → (s && t) ≡ true → (s ≡ true) × (t ≡ true)
both true t e = (refl, e)
both false t e = absurd (false≢true e)

module _ (rows : List ℤ) (channel limit : ℕ) where
  -- before row r: the output channels passed, not yet the one that is looked for, and where the next strip begins
  abbrev pub Passed : ℕ → ℕ → ℕ → Type 0
  Passed r port start = (r ≤ declarations rows) × (port ≤ r) × (port ≤ channel) × (port ≡ sum_below (host_channels_at 2 rows) r) × (start ≡ min (sum_below (capacity_at rows) r) limit)

  pub none_passed : Passed 0 0 0
  unfolding sum_below
  none_passed = (omega arith, omega arith, omega arith, refl, omega arith)

  module _ (r port start here size : ℕ) (p : Passed r port start) (h : here ≡ host_channels_at 2 rows r) (s : size ≡ min (capacity_at rows r) limit) where
    pub one-passed : r < declarations rows → (eqb here 1 && eqb port channel) ≡ false → Passed (r + 1) (port + here) (min (start + size) limit)
    unfolding sum_below
    one-passed l e =
        let one = one-port rows r in
        let away : port + here ≤ channel = go (dec_lt here 1) (dec_lt port channel) in
        rw (add-one r) (omega arith, omega arith, away, omega arith, omega arith)
      where
        go : Dec (here < 1) → Dec (port < channel) → port + here ≤ channel
        go (yes i) d = omega arith
        go (no i) (yes j) = omega (arith, one-port rows r)
        go (no i) (no j) =
            let a : here ≡ 1 = omega (arith, one-port rows r) in
            let b : port ≡ channel = omega arith in
            absurd (false≢true (sym e ∙ rw (eq-eqb here 1 a, eq-eqb port channel b)))

    pub here_found : (eqb here 1 && eqb port channel) ≡ true → ◌≡◌ {A = Span} (record { start = start; size = size }) (span_of rows channel limit)
    unfolding span_of
    here_found e =
        let (a, b) = both (eqb here 1) (eqb port channel) e in
        let role = has-port rows r (sym h ∙ eqb-true here 1 a) in
        let number : sum_below (host_channels_at 2 rows) r ≡ channel = sym p.3 ∙ eqb-true port channel b in
        let from : start ≡ min (strip_start rows channel) limit = p.4 ∙ ap (λ (n : ℕ). min n limit) (sym (strip-start rows r role) ∙ ap (strip_start rows) number) in
        let held : size ≡ min (get_or (capacities rows) channel 0) limit = s ∙ ap (λ (n : ℕ). min n limit) (sym (capacity-at rows r role) ∙ ap (λ (n : ℕ). get_or (capacities rows) n 0) number) in
        λ i. record { start = from i; size = held i }

  pub all-passed : (r port start : ℕ) → Passed r port start → declarations rows ≤ r → ◌≡◌ {A = Span} (record { start = start; size = 0 }) (span_of rows channel limit)
  unfolding span_of strip_start host_channels
  all-passed r port start p l =
      let last : r ≡ declarations rows = omega arith in
      let few : length (capacities rows) ≤ channel = omega (arith, capacities-length rows, ap (sum_below (host_channels_at 2 rows)) last) in
      let from : start ≡ min (sum_of (take channel (capacities rows))) limit = p.4 ∙ ap (λ (n : ℕ). min n limit) (ap (sum_below (capacity_at rows)) last ∙ sym (capacities-sum rows) ∙ ap sum_of (sym (take_all channel (capacities rows) few))) in
      let held : 0 ≡ min (get_or (capacities rows) channel 0) limit = omega (arith, get_or-eq_default (capacities rows) 0 {n = channel} few) in
      λ i. record { start = from i; size = held i }

-- cut at the limit, it is the part within
pub held-within : (rows : List ℤ) (channel limit : ℕ) (s : Span) (end : ℕ) → s ≡ span_of rows channel limit → end ≡ min (s.start + s.size) limit
    → ◌≡◌ {A = Span} (record { start = s.start; size = end - s.start }) (held_span rows channel limit)
unfolding span_of held_span
held-within rows channel limit s end e d =
    let from : s.start ≡ min (strip_start rows channel) limit = ap (λ (t : Span). t.start) e in
    let most : s.size ≡ min (get_or (capacities rows) channel 0) limit = ap (λ (t : Span). t.size) e in
    let held : end - s.start ≡ min (get_or (capacities rows) channel 0) (limit - min (strip_start rows channel) limit) = omega arith in
    λ i. record { start = from i; size = held i }

module _ {A : Type 0} (l : List A) where
  -- a part that ends where the list does
  part_to_end : (s k : ℕ) → take (min k (length l - s)) (drop s l) ≡ take k (drop s l)
  part_to_end s k = go (dec_lt (length l - s) k)
    where
      go : Dec (length l - s < k) → take (min k (length l - s)) (drop s l) ≡ take k (drop s l)
      go (yes h) = take_all (min k (length l - s)) (drop s l) (omega (arith, length-drop s l)) ∙ sym (take_all k (drop s l) (omega (arith, length-drop s l)))
      go (no h) = let e : min k (length l - s) ≡ k = omega arith in rw e

  -- a start past the list's end is as good as its end
  drop-cut : (s : ℕ) → drop (min s (length l)) l ≡ drop s l
  drop-cut s = go (dec_lt (length l) s)
    where
      go : Dec (length l < s) → drop (min s (length l)) l ≡ drop s l
      go (yes h) =
          let a : length l ≤ min s (length l) = omega arith in
          let b : length l ≤ s = omega arith in
          drop_of_length-le l {i = min s (length l)} a ∙ sym (drop_of_length-le l {i = s} b)
      go (no h) = let e : min s (length l) ≡ s = omega arith in rw e

  -- the part of a list within its length is the strip in it
  pub part_held : (rows : List ℤ) (channel : ℕ) (s : Span) → s ≡ held_span rows channel (length l)
      → (s.start + s.size ≤ length l) × (take (s.start + s.size - s.start) (drop s.start l) ≡ take (get_or (capacities rows) channel 0) (drop (strip_start rows channel) l))
  unfolding held_span
  part_held rows channel s e =
      let from : s.start ≡ min (strip_start rows channel) (length l) = ap (λ (t : Span). t.start) e in
      let most : s.size ≡ min (get_or (capacities rows) channel 0) (length l - min (strip_start rows channel) (length l)) = ap (λ (t : Span). t.size) e in
      let size : s.start + s.size - s.start ≡ min (get_or (capacities rows) channel 0) (length l - s.start) = omega arith in (
        omega arith,
        rw size (part_to_end s.start (get_or (capacities rows) channel 0)) ∙ ap (λ (n : ℕ). take (get_or (capacities rows) channel 0) (drop n l)) from ∙ ap (take (get_or (capacities rows) channel 0)) (drop-cut (strip_start rows channel)),
      )
