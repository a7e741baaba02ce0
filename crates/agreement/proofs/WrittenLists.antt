-- What was written to a host output channel stands in its strips of numbers and marks in the lent buffers, and its count says how much.
use mathlib.Core.Path.{◌≡◌, refl, sym, ap, ap₂, ◌∙◌}
use mathlib.Core.Option.{none}
use mathlib.Core.List.{List, [], ◌∷◌, ◌++◌, map, map-append, append_assoc}
use Prim.Native.Nat.{ℕ, zero, suc, ◌+◌, ◌<◌, ◌≤◌}
use native.Mathlib.Omega.{arith}
use native.Mathlib.Decide.{dec_lt}
use lib.IntN.{ℤ}
use lib.ListN.{length, get_or, take, drop, replicate, length-append, length-map, get_or-append, get_or-map, get_or-eq_default}
use lib.Seq.{drop-append-add, get_or-append-add, take_at}
use Rattle.meaning.specs.Limits.{max_host_channels, max_capacity}
use Rattle.meaning.specs.State.{State}
use Rattle.meaning.specs.Buffers.{Buffers, sized, lent, mark, number_in, decoded, capacities, strips, encode}
use Rattle.meaning.specs.Decode.{sum_to, count_in, strip_in, listed_in}
use Rattle.meaning.proofs.LentLaws.{sized-length, sized-front, sized-at, lent_at, lent-part}
use Rattle.meaning.specs.Answers.{check}
use Rattle.meaning.specs.Order.{OrderOf}
use Rattle.meaning.specs.Declarations.{capacity_at, channels}
use Rattle.meaning.specs.Values.{Message}
use Rattle.meaning.specs.Labels.{Label}
use Rattle.meaning.specs.Readings.{Sheet}
use Rattle.agreement.proofs.HostOutputs.{HostOut, host-out}
use Rattle.agreement.proofs.OrdersCoherent.{orders-coherent}
use Rattle.agreement.proofs.MissingMarks.{decoded-cells}

module _ {A : Type 0} (f : Message → A) where
  -- a strip follows the one before it by capacity
  strip-at : (port : ℕ) (caps : List ℕ) (outs : List (List Message)) (rest : List A) → port < length caps → port < length outs
      → take (get_or caps port 0) (drop (sum_to port caps) (map f (strips caps outs) ++ rest)) ≡ map f (sized (get_or caps port 0) none (get_or outs port []))
  unfolding strips
  strip-at port [] outs rest h g = absurd (omega arith)
  strip-at port (n ∷ ns) [] rest h g = absurd (omega arith)
  strip-at zero (n ∷ ns) (xs ∷ xss) rest h g =
      let S = sized n none xs in
      ap (λ (l : List A). take n (l ++ rest)) (map-append f S (strips ns xss))
      ∙ ap (take n) (append_assoc (map f S) (map f (strips ns xss)) rest)
      ∙ take_at (map f S) (map f (strips ns xss) ++ rest) n (length-map S f ∙ sized-length none n xs)
  strip-at (suc port) (n ∷ ns) (xs ∷ xss) rest h g =
      let S = sized n none xs in
      let e : length (map f S) ≡ n = length-map S f ∙ sized-length none n xs in
      let joined : map f (S ++ strips ns xss) ++ rest ≡ map f S ++ (map f (strips ns xss) ++ rest) =
      ap (λ (l : List A). l ++ rest) (map-append f S (strips ns xss)) ∙ append_assoc (map f S) (map f (strips ns xss)) rest in
      let q : drop (n + sum_to port ns) (map f (S ++ strips ns xss) ++ rest) ≡ drop (sum_to port ns) (map f (strips ns xss) ++ rest) =
      ap₂ (λ (k : ℕ) (l : List A). drop (k + sum_to port ns) l) (sym e) joined ∙ drop-append-add (map f S) (map f (strips ns xss) ++ rest) (sum_to port ns) in
      ap (take (get_or ns port 0)) q ∙ strip-at port ns xss rest (omega arith) (omega arith)

  -- the strip of a channel in a lent buffer
  strip-lent : (rows : List ℤ) (outs : List (List Message)) (old : List A) (port : ℕ) → HostOut rows port → port < length (capacities rows) → port < length outs
      → strip_in rows port (lent max_capacity (f none) (map f (strips (capacities rows) outs)) old) ≡ map f (sized (get_or (capacities rows) port 0) none (get_or outs port []))
  strip-lent rows outs old port o h g =
      lent-part (f none) (sum_to port (capacities rows)) (get_or (capacities rows) port 0) max_capacity (map f (strips (capacities rows) outs)) old o.room
      ∙ strip-at port (capacities rows) outs (replicate max_capacity (f none)) h g

-- a message of a strip
pub strip-message : (port i : ℕ) (caps : List ℕ) (outs : List (List Message)) → port < length caps → port < length outs → i < get_or caps port 0
    → get_or (strips caps outs) (sum_to port caps + i) none ≡ get_or (get_or outs port []) i none
unfolding strips
strip-message port i [] outs h g l = absurd (omega arith)
strip-message port i (n ∷ ns) [] h g l = absurd (omega arith)
strip-message zero i (n ∷ ns) (xs ∷ xss) h g l =
    let S = sized n none xs in
    let e : 0 + i ≡ i = omega arith in
    ap (λ (k : ℕ). get_or (S ++ strips ns xss) k none) e
    ∙ get_or-append S (strips ns xss) none i (omega (arith, sized-length none n xs, l))
    ∙ sized-at none n i xs l
strip-message (suc port) i (n ∷ ns) (xs ∷ xss) h g l =
    let S = sized n none xs in
    let e : (n + sum_to port ns) + i ≡ length S + (sum_to port ns + i) = omega (arith, sized-length none n xs) in
    ap (λ (k : ℕ). get_or (S ++ strips ns xss) k none) e
    ∙ get_or-append-add S (strips ns xss) (sum_to port ns + i) none
    ∙ strip-message port i ns xss (omega arith) (omega arith) l

-- the strips together are as long as the capacities
pub strips-length : (caps : List ℕ) (outs : List (List Message)) → length caps ≡ length outs → length (strips caps outs) ≡ sum_to (length caps) caps
unfolding strips
strips-length [] outs h = refl
strips-length (n ∷ ns) [] h = absurd (omega arith)
strips-length (n ∷ ns) (xs ∷ xss) h =
    omega (arith, length-append (sized n none xs) (strips ns xss), sized-length none n xs, strips-length ns xss (omega arith))

module _ (rows : List ℤ) (s : State) (b : Buffers) (port : ℕ) where
  abbrev written : List Message
  written = get_or s.store.outputs port []

  pub counted : port < max_host_channels → count_in port (encode rows s b) ≡ length written
  unfolding encode
  counted h = lent_at 0 max_host_channels port (map length s.store.outputs) b.counts h ∙ get_or-map length s.store.outputs port []

  -- numbers and marks of its strip, as far as it counts, stand for the messages written
  pub messages-written : HostOut rows port → port < length (capacities rows) → length written ≤ get_or (capacities rows) port 0 → listed_in rows port (encode rows s b) ≡ written
  unfolding encode
  messages-written o h room = go (dec_lt port (length s.store.outputs))
    where
      go : Dec (port < length s.store.outputs) → listed_in rows port (encode rows s b) ≡ written
      go (yes g) =
          ap₂ take (counted o.few)
          (ap₂ decoded (strip-lent number_in rows s.store.outputs b.numbers port o h g) (strip-lent mark rows s.store.outputs b.output_marks port o h g)
          ∙ decoded-cells (sized (get_or (capacities rows) port 0) none written))
          ∙ sized-front none (get_or (capacities rows) port 0) written room
      go (no g) =
          let e : written ≡ [] = get_or-eq_default s.store.outputs [] (omega arith) in
          let n : count_in port (encode rows s b) ≡ 0 = counted o.few ∙ ap (λ (l : List Message). length l) e in
          ap (λ (k : ℕ). take k (decoded (strip_in rows port (encode rows s b).numbers) (strip_in rows port (encode rows s b).output_marks))) n ∙ sym e

-- the end of an order in the lent buffers: the messages written to a channel, and their count
pub left-written : (rows : List ℤ) → check rows ≡ none → (sheet : Sheet) (l : List Label) (s : State) → OrderOf rows sheet l s → (b : Buffers) (port : ℕ) → port < length (channels rows 2)
    → (listed_in rows port (encode rows s b) ≡ get_or s.store.outputs port []) × (count_in port (encode rows s b) ≡ length (get_or s.store.outputs port []))
left-written rows ok sheet l s o b port h =
    let c = host-out rows ok port h in
    let k = (orders-coherent rows ok sheet l s o).room-kept c.row c.host in
    let e = ap (λ (z : ℕ). length (get_or s.store.outputs z [])) c.number in
    (messages-written rows s b port c (omega (arith, length-map (channels rows 2) (capacity_at rows))) (omega (arith, k, e, c.holds)), counted rows s b port c.few)
