-- The machine's arrays: what is read from them, and that they hold a changed state after the matching change of one element.
use mathlib.Core.Path.{◌≡◌, refl, sym, ap, ap₂, ◌∙◌}
use mathlib.Core.Option.{none}
use mathlib.Core.List.{List, [], ◌∷◌, ◌++◌, map}
use Prim.Native.Nat.{ℕ, suc, ◌+◌, ◌<◌, ◌≤◌}
use native.Mathlib.Omega.{arith}
use lib.IntN.{ℤ, pos}
use lib.ListN.{length, get_or, set, take, replicate, length-append, length-map, get_or-map}
use Rattle.meaning.specs.Limits.{max_rows, max_cells, max_host_channels, max_capacity}
use Rattle.meaning.specs.Rows.{row_count}
use Rattle.meaning.specs.Declarations.{total_cells, host_channels}
use Rattle.meaning.specs.Values.{Message}
use Rattle.meaning.specs.State.{State, program, write_cell, write_place, write_output, with_state}
use Rattle.meaning.specs.Settle.{start}
use Rattle.meaning.specs.Buffers.{Buffers, lent, mark, number_in, capacities, strips, encode, cell_of}
use Rattle.meaning.proofs.LentLaws.{cell-back, lent-set, blank-at, blank-length, blank-defaults}
use Rattle.machine.specs.Held.{blank, HoldsState, sum_of, strip_start, with_write, put_cell, put_place, put_state, put_output, Lengths, Room}
use Rattle.machine.proofs.Lists.{map-set, map-replicate}
use Rattle.machine.proofs.Strips.{strip-within, strips-length, strips-more, strips-empty}
use Rattle.machine.proofs.Declared.{capacities-length}

-- buffers with equal fields
pub buffers-path : (b c : Buffers) → b.cells ≡ c.cells → b.marks ≡ c.marks → b.states ≡ c.states → b.places ≡ c.places → b.numbers ≡ c.numbers → b.counts ≡ c.counts → b.output_marks ≡ c.output_marks → b ≡ c
buffers-path b c p q r t u v w = λ i. record { cells = p i; marks = q i; states = r i; places = t i; numbers = u i; counts = v i; output_marks = w i }

-- ---- the arrays

module _ (rows : List ℤ) (s : State) (b : Buffers) (h : HoldsState rows s b) where
  cells_are : b.cells ≡ lent max_cells (pos 0) (map number_in s.store.cells) (replicate max_cells (pos 0))
  unfolding encode blank
  cells_are = ap (λ (c : Buffers). c.cells) h

  marks-are : b.marks ≡ lent max_cells 0 (map mark s.store.cells) (replicate max_cells 0)
  unfolding encode blank
  marks-are = ap (λ (c : Buffers). c.marks) h

  pub states-are : b.states ≡ lent max_rows 0 s.states (replicate max_rows 0)
  unfolding encode blank
  states-are = ap (λ (c : Buffers). c.states) h

  places-are : b.places ≡ lent max_host_channels 0 s.store.places (replicate max_host_channels 0)
  unfolding encode blank
  places-are = ap (λ (c : Buffers). c.places) h

  counts-are : b.counts ≡ lent max_host_channels 0 (map (λ (l : List Message). length l) s.store.outputs) (replicate max_host_channels 0)
  unfolding encode blank
  counts-are = ap (λ (c : Buffers). c.counts) h

  numbers-are : b.numbers ≡ lent max_capacity (pos 0) (map number_in (strips (capacities rows) s.store.outputs)) (replicate max_capacity (pos 0))
  unfolding encode blank
  numbers-are = ap (λ (c : Buffers). c.numbers) h

  output-marks-are : b.output_marks ≡ lent max_capacity 0 (map mark (strips (capacities rows) s.store.outputs)) (replicate max_capacity 0)
  unfolding encode blank
  output-marks-are = ap (λ (c : Buffers). c.output_marks) h

  pub marks-long : length b.marks ≡ max_cells
  marks-long = rw marks-are (blank-length 0 max_cells (map mark s.store.cells))

  pub states-long : length b.states ≡ max_rows
  states-long = rw states-are (blank-length 0 max_rows s.states)

module _ (rows : List ℤ) (R : Room rows) (s : State) (L : Lengths rows s) (b : Buffers) (h : HoldsState rows s b) where
  cells_fit : length (map number_in s.store.cells) ≤ max_cells
  cells_fit = omega (arith, length-map s.store.cells number_in, L.cells, R.cells)

  marks-fit : length (map mark s.store.cells) ≤ max_cells
  marks-fit = omega (arith, length-map s.store.cells mark, L.cells, R.cells)

  states-fit : length s.states ≤ max_rows
  states-fit = omega (arith, L.states, R.states)

  places-fit : length s.store.places ≤ max_host_channels
  places-fit = omega (arith, L.places, R.places)

  counts-fit : length (map (λ (l : List Message). length l) s.store.outputs) ≤ max_host_channels
  counts-fit = omega (arith, length-map s.store.outputs (λ (l : List Message). length l), L.outputs, R.outputs)

  same_count : length (capacities rows) ≡ length s.store.outputs
  same_count = capacities-length rows ∙ sym L.outputs

  -- ---- reading

  -- a cell
  pub read_cell : (i : ℕ) → get_or s.store.cells i none ≡ cell_of (get_or b.cells i (pos 0)) (get_or b.marks i 0)
  read_cell i =
      let x : get_or b.cells i (pos 0) ≡ number_in (get_or s.store.cells i none) =
      ap (λ (l : List ℤ). get_or l i (pos 0)) (cells_are rows s b h) ∙ blank-at (pos 0) max_cells i (map number_in s.store.cells) cells_fit ∙ get_or-map number_in s.store.cells i none in
      let m : get_or b.marks i 0 ≡ mark (get_or s.store.cells i none) =
      ap (λ (l : List ℕ). get_or l i 0) (marks-are rows s b h) ∙ blank-at 0 max_cells i (map mark s.store.cells) marks-fit ∙ get_or-map mark s.store.cells i none in
      sym (ap₂ cell_of x m ∙ cell-back (get_or s.store.cells i none))

  -- the state of a row
  pub read-state : (r : ℕ) → get_or s.states r 0 ≡ get_or b.states r 0
  read-state r = sym (ap (λ (l : List ℕ). get_or l r 0) (states-are rows s b h) ∙ blank-at 0 max_rows r s.states states-fit)

  -- the place of a channel from the host
  pub read-place : (p : ℕ) → get_or s.store.places p 0 ≡ get_or b.places p 0
  read-place p = sym (ap (λ (l : List ℕ). get_or l p 0) (places-are rows s b h) ∙ blank-at 0 max_host_channels p s.store.places places-fit)

  -- how many messages a channel to the host has been given
  pub read_count : (p : ℕ) → length (get_or s.store.outputs p []) ≡ get_or b.counts p 0
  read_count p =
      sym (ap (λ (l : List ℕ). get_or l p 0) (counts-are rows s b h) ∙ blank-at 0 max_host_channels p (map (λ (l : List Message). length l) s.store.outputs) counts-fit ∙ get_or-map (λ (l : List Message). length l) s.store.outputs p [])

  -- ---- writing

  -- a field after a change of one element
  changed : {A : Type 0} (n i : ℕ) (d a : A) (xs : List A) (l old : List A) → l ≡ lent n d xs old → i < length xs → length xs ≤ n → set l i a ≡ lent n d (set xs i a) old
  changed n i d a xs l old e k f = ap (λ (m : List _). set m i a) e ∙ lent-set d n i a xs old k f

  -- a cell
  pub hold-cell : (a : ℕ) (m : Message) → a < total_cells rows → HoldsState rows (with_write (write_cell a m) s) (put_cell a m b)
  unfolding encode blank
  hold-cell a m k =
      buffers-path (put_cell a m b) (encode rows (with_write (write_cell a m) s) blank)
      (changed max_cells a (pos 0) (number_in m) (map number_in s.store.cells) b.cells (replicate max_cells (pos 0)) (cells_are rows s b h) (omega (arith, length-map s.store.cells number_in, L.cells)) cells_fit
      ∙ ap (λ (l : List ℤ). lent max_cells (pos 0) l (replicate max_cells (pos 0))) (sym (map-set number_in s.store.cells a m)))
      (changed max_cells a 0 (mark m) (map mark s.store.cells) b.marks (replicate max_cells 0) (marks-are rows s b h) (omega (arith, length-map s.store.cells mark, L.cells)) marks-fit
      ∙ ap (λ (l : List ℕ). lent max_cells 0 l (replicate max_cells 0)) (sym (map-set mark s.store.cells a m)))
      (ap (λ (c : Buffers). c.states) h) (ap (λ (c : Buffers). c.places) h) (ap (λ (c : Buffers). c.numbers) h) (ap (λ (c : Buffers). c.counts) h) (ap (λ (c : Buffers). c.output_marks) h)

  -- a place
  pub hold-place : (p k : ℕ) → p < host_channels 1 rows → HoldsState rows (with_write (write_place p k) s) (put_place p k b)
  unfolding encode blank
  hold-place p k l =
      buffers-path (put_place p k b) (encode rows (with_write (write_place p k) s) blank)
      (ap (λ (c : Buffers). c.cells) h) (ap (λ (c : Buffers). c.marks) h) (ap (λ (c : Buffers). c.states) h)
      (changed max_host_channels p 0 k s.store.places b.places (replicate max_host_channels 0) (places-are rows s b h) (omega (arith, L.places)) places-fit)
      (ap (λ (c : Buffers). c.numbers) h) (ap (λ (c : Buffers). c.counts) h) (ap (λ (c : Buffers). c.output_marks) h)

  -- the state of a row
  pub hold-state : (r v : ℕ) → r < row_count rows → HoldsState rows (with_state r v s) (put_state r v b)
  unfolding encode blank
  hold-state r v l =
      buffers-path (put_state r v b) (encode rows (with_state r v s) blank)
      (ap (λ (c : Buffers). c.cells) h) (ap (λ (c : Buffers). c.marks) h)
      (changed max_rows r 0 v s.states b.states (replicate max_rows 0) (states-are rows s b h) (omega (arith, L.states)) states-fit)
      (ap (λ (c : Buffers). c.places) h) (ap (λ (c : Buffers). c.numbers) h) (ap (λ (c : Buffers). c.counts) h) (ap (λ (c : Buffers). c.output_marks) h)

  -- one more message for a channel to the host that has room
  pub hold-output : (p : ℕ) (l : List Message) (m : Message) → p < host_channels 2 rows → get_or s.store.outputs p [] ≡ l → length l < get_or (capacities rows) p 0
      → HoldsState rows (with_write (write_output p (l ++ (m ∷ []))) s) (put_output rows p (length l) m b)
  unfolding encode blank strip_start
  hold-output p l m k e c =
      let counts = map (λ (x : List Message). length x) s.store.outputs in
      let one : length (l ++ (m ∷ [])) ≡ suc (length l) = omega (arith, length-append l (m ∷ [])) in
      buffers-path (put_output rows p (length l) m b) (encode rows (with_write (write_output p (l ++ (m ∷ []))) s) blank)
      (ap (λ (x : Buffers). x.cells) h) (ap (λ (x : Buffers). x.marks) h) (ap (λ (x : Buffers). x.states) h) (ap (λ (x : Buffers). x.places) h)
      (in-strip (pos 0) number_in b.numbers (numbers-are rows s b h))
      (changed max_host_channels p 0 (suc (length l)) counts b.counts (replicate max_host_channels 0) (counts-are rows s b h) (omega (arith, length-map s.store.outputs (λ (x : List Message). length x), L.outputs)) counts-fit
      ∙ ap (λ (x : List ℕ). lent max_host_channels 0 x (replicate max_host_channels 0)) (ap (set counts p) (sym one) ∙ sym (map-set (λ (x : List Message). length x) s.store.outputs p (l ++ (m ∷ [])))))
      (in-strip 0 mark b.output_marks (output-marks-are rows s b h))
    where
      messages : List Message
      messages = strips (capacities rows) s.store.outputs

      at : ℕ
      at = sum_of (take p (capacities rows)) + length l

      -- the numbers and the marks of the strips
      in-strip : {A : Type 0} (d : A) (f : Message → A) (held : List A) → held ≡ lent max_capacity d (map f messages) (replicate max_capacity d)
          → set held at (f m) ≡ lent max_capacity d (map f (strips (capacities rows) (set s.store.outputs p (l ++ (m ∷ []))))) (replicate max_capacity d)
      in-strip d f held is =
          let n = strips-length (capacities rows) s.store.outputs same_count in
          let w = strip-within (capacities rows) p (omega (arith, capacities-length rows)) in
          let z = length-map messages f in
          changed max_capacity at d (f m) (map f messages) held (replicate max_capacity d) is (omega (arith, n, w, z)) (omega (arith, n, z, R.numbers))
          ∙ ap (λ (x : List _). lent max_capacity d x (replicate max_capacity d))
          (sym (map-set f messages at m) ∙ ap (map f) (sym (strips-more (capacities rows) s.store.outputs p l m same_count (omega (arith, L.outputs)) e c)))

-- ---- the start

-- at the start all arrays hold zeros, but for the row states
pub hold-start : (rows : List ℤ) → HoldsState rows (start (program rows)) (record {
  cells = blank.cells;
  marks = blank.marks;
  states = lent max_rows 0 (start (program rows)).states blank.states;
  places = blank.places;
  numbers = blank.numbers;
  counts = blank.counts;
  output_marks = blank.output_marks;
})
unfolding encode blank start program
hold-start rows =
    let (q, e) = strips-empty (capacities rows) (host_channels 2 rows) in
    buffers-path _ (encode rows (start (program rows)) blank)
    (sym (ap (λ (l : List ℤ). lent max_cells (pos 0) l (replicate max_cells (pos 0))) (map-replicate number_in (total_cells rows) none) ∙ blank-defaults (pos 0) max_cells (total_cells rows)))
    (sym (ap (λ (l : List ℕ). lent max_cells 0 l (replicate max_cells 0)) (map-replicate mark (total_cells rows) none) ∙ blank-defaults 0 max_cells (total_cells rows)))
    refl
    (sym (blank-defaults 0 max_host_channels (host_channels 1 rows)))
    (sym (ap (λ (l : List ℤ). lent max_capacity (pos 0) l (replicate max_capacity (pos 0))) (ap (map number_in) e ∙ map-replicate number_in q none) ∙ blank-defaults (pos 0) max_capacity q))
    (sym (ap (λ (l : List ℕ). lent max_host_channels 0 l (replicate max_host_channels 0)) (map-replicate (λ (x : List Message). length x) (host_channels 2 rows) []) ∙ blank-defaults 0 max_host_channels (host_channels 2 rows)))
    (sym (ap (λ (l : List ℕ). lent max_capacity 0 l (replicate max_capacity 0)) (ap (map mark) e ∙ map-replicate mark q none) ∙ blank-defaults 0 max_capacity q))
