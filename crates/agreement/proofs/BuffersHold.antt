-- What `encode` leaves in the lent buffers, position by position, of a state that has what its table declares.
use mathlib.Core.Path.{◌≡◌, refl, sym, ap, subst, ◌∙◌}
use mathlib.Core.Bool.{Bool, true, false, ◌||◌, false≢true}
use mathlib.Core.Option.{none, some}
use mathlib.Core.List.{List, [], map}
use Prim.Native.Nat.{ℕ, ◌+◌, ◌-◌, ◌<◌, ◌≤◌}
use native.Mathlib.Omega.{arith}
use lib.IntN.{ℤ, pos}
use lib.ListN.{length, get_or, length-map, get_or-map, get_or-eq_default, get_elem?}
use lib.Dec.{ltb}
use borrow.Author.Tests.{ltb-false, le-ltb}
use Rattle.meaning.specs.Limits.{max_rows, max_cells, max_host_channels, max_capacity}
use Rattle.meaning.specs.Declarations.{declarations, capacity_at, total_cells, channels}
use Rattle.meaning.specs.Values.{Message}
use Rattle.meaning.specs.State.{State}
use Rattle.meaning.specs.Buffers.{Buffers, too_short, lent, mark, number_in, capacities, strips, encode}
use Rattle.meaning.proofs.LentLaws.{entry-is, lent-holds, lent-past, lent_length}
use Rattle.agreement.specs.BufferClaims.{LongEnough, TooShortExactly, AsDeclared, HoldsAt, UntouchedPast, ToHost, output_number, strip_begins, list_in, BuffersHold}
use Rattle.agreement.proofs.HostOutputs.{output-count, capacity-total, numbered-at}
use Rattle.agreement.proofs.WrittenLists.{strip-message, strips-length}
use Rattle.agreement.proofs.TableLimits.{Limited}

-- Long enough ----------------------------------------------------------------------------------------------------------------------

none-holds : (a b c d e f g : Bool) → (a || b || c || d || e || f || g) ≡ false → (a ≡ false) × (b ≡ false) × (c ≡ false) × (d ≡ false) × (e ≡ false) × (f ≡ false) × (g ≡ false)
none-holds true b c d e f g h = absurd (false≢true (sym h))
none-holds false true c d e f g h = absurd (false≢true (sym h))
none-holds false false true d e f g h = absurd (false≢true (sym h))
none-holds false false false true e f g h = absurd (false≢true (sym h))
none-holds false false false false true f g h = absurd (false≢true (sym h))
none-holds false false false false false true g h = absurd (false≢true (sym h))
none-holds false false false false false false g h = (refl, refl, refl, refl, refl, refl, h)

pub too-short-exactly : TooShortExactly
too-short-exactly b = (to, from)
  where
    to : too_short b ≡ false → LongEnough b
    to h =
        let n = none-holds (ltb (length b.cells) max_cells) (ltb (length b.marks) max_cells) (ltb (length b.states) max_rows) (ltb (length b.places) max_host_channels) (ltb (length b.numbers) max_capacity) (ltb (length b.counts) max_host_channels) (ltb (length b.output_marks) max_capacity) h in
        record {
          cells = ltb-false (length b.cells) max_cells n.0;
          marks = ltb-false (length b.marks) max_cells n.1;
          states = ltb-false (length b.states) max_rows n.2;
          places = ltb-false (length b.places) max_host_channels n.3;
          numbers = ltb-false (length b.numbers) max_capacity n.4;
          counts = ltb-false (length b.counts) max_host_channels n.5;
          output-marks = ltb-false (length b.output_marks) max_capacity n.6;
        }

    from : LongEnough b → too_short b ≡ false
    from l =
        rw (le-ltb (length b.cells) max_cells l.cells, le-ltb (length b.marks) max_cells l.marks, le-ltb (length b.states) max_rows l.states, le-ltb (length b.places) max_host_channels l.places, le-ltb (length b.numbers) max_capacity l.numbers, le-ltb (length b.counts) max_host_channels l.counts, le-ltb (length b.output_marks) max_capacity l.output-marks)

-- Held -----------------------------------------------------------------------------------------------------------------------------

pub lent-untouched : {A : Type 0} (n : ℕ) (d : A) (xs old : List A) → n ≤ length old → UntouchedPast n old (lent n d xs old)
lent-untouched n d xs old h =
    record {
      past-limit = λ i l. let e : n + (i - n) ≡ i = omega arith in subst (λ (k : ℕ). get_elem? (lent n d xs old) k ≡ get_elem? old k) e (lent-past d n (i - n) xs old);
      as_long = lent_length d n xs old h;
    }

-- an entry of a list that fits, and past the list
pub lent-entry : {A : Type 0} (n : ℕ) (d : A) (xs old : List A) → length xs ≤ n → (i : ℕ) (v : A) → HoldsAt xs i v → HoldsAt (lent n d xs old) i v
lent-entry n d xs old h i v e = let (l, g) = entry-is xs i d v e in lent-holds d n i xs old (omega arith) ∙ ap some g

pub lent-unused : {A : Type 0} (n : ℕ) (d : A) (xs old : List A) (i : ℕ) → length xs ≤ i → i < n → HoldsAt (lent n d xs old) i d
lent-unused n d xs old i h l = lent-holds d n i xs old l ∙ ap some (get_or-eq_default xs d h)

module _ (rows : List ℤ) (s : State) (L : Limited rows) (D : AsDeclared rows s) (room : (r : ℕ) → ToHost rows r → length (list_in rows r s) ≤ capacity_at rows r) (b : Buffers) where
  abbrev CellIs : ℕ → Message → Type 0
  CellIs i m = HoldsAt (encode rows s b).cells i (number_in m) × HoldsAt (encode rows s b).marks i (mark m)

  cell-at : (i : ℕ) → i < max_cells → CellIs i (get_or s.store.cells i none)
  unfolding encode
  cell-at i h = (
    lent-holds (pos 0) max_cells i (map number_in s.store.cells) b.cells h ∙ ap some (get_or-map number_in s.store.cells i none),
    lent-holds 0 max_cells i (map mark s.store.cells) b.marks h ∙ ap some (get_or-map mark s.store.cells i none),
  )

  cell-is : (i : ℕ) (m : Message) → HoldsAt s.store.cells i m → CellIs i m
  cell-is i m e = let (l, g) = entry-is s.store.cells i none m e in subst (CellIs i) g (cell-at i (omega (arith, D.cells, L.cells)))

  cell-unused : (i : ℕ) → total_cells rows ≤ i → i < max_cells → CellIs i none
  cell-unused i h l = subst (CellIs i) (get_or-eq_default s.store.cells none (omega (arith, D.cells))) (cell-at i l)

  -- number and mark of a message of the strips
  abbrev pub MessageIs : ℕ → Message → Type 0
  MessageIs i m = HoldsAt (encode rows s b).numbers i (number_in m) × HoldsAt (encode rows s b).output_marks i (mark m)

  abbrev messages : List Message
  messages = strips (capacities rows) s.store.outputs

  listed_at : (i : ℕ) → i < max_capacity → MessageIs i (get_or messages i none)
  unfolding encode
  listed_at i h = (
    lent-holds (pos 0) max_capacity i (map number_in messages) b.numbers h ∙ ap some (get_or-map number_in messages i none),
    lent-holds 0 max_capacity i (map mark messages) b.output_marks h ∙ ap some (get_or-map mark messages i none),
  )

  -- a message of the strip of row r
  message-at : (r : ℕ) → ToHost rows r → (i : ℕ) → i < capacity_at rows r → MessageIs (strip_begins rows r + i) (get_or (list_in rows r s) i none)
  message-at r o i h =
      let a = numbered-at rows r o in
      let port = output_number rows r in
      let few : port < length (capacities rows) = omega (arith, length-map (channels rows 2) (capacity_at rows), a.below) in
      subst (MessageIs (strip_begins rows r + i))
      (ap (λ (k : ℕ). get_or messages (k + i) none) (sym a.begins)
      ∙ strip-message port i (capacities rows) s.store.outputs few (omega (arith, few, output-count rows, D.outputs)) (omega (arith, a.capacity, h)))
      (listed_at (strip_begins rows r + i) (omega (arith, a.within, L.numbers, h)))

  pub message-is : (r : ℕ) → ToHost rows r → (i : ℕ) (m : Message) → HoldsAt (list_in rows r s) i m → MessageIs (strip_begins rows r + i) m
  message-is r o i m e =
      let (l, g) = entry-is (list_in rows r s) i none m e in
      subst (MessageIs (strip_begins rows r + i)) g (message-at r o i (let k = room r o in omega arith))

  message-unused : (i : ℕ) → strip_begins rows (declarations rows) ≤ i → i < max_capacity → MessageIs i none
  message-unused i h l =
      subst (MessageIs i) (get_or-eq_default messages none (omega (arith, strips-length (capacities rows) s.store.outputs (output-count rows ∙ sym D.outputs), capacity-total rows)))
      (listed_at i l)

  pub encode-holds : LongEnough b → BuffersHold rows s b (encode rows s b)
  unfolding encode
  encode-holds long =
      record {
        set-cell = λ i z e. cell-is i (some z) e;
        unset-cell = λ i e. cell-is i none e;
        unused-cell = cell-unused;
        row-state = λ r n e. lent-entry max_rows 0 s.states b.states (omega (arith, D.states, L.states)) r n e;
        unused-state = λ r h l. lent-unused max_rows 0 s.states b.states r (omega (arith, D.states)) l;
        place = λ c n e. lent-entry max_host_channels 0 s.store.places b.places (omega (arith, D.places, L.places)) c n e;
        unused-place = λ c h l. lent-unused max_host_channels 0 s.store.places b.places c (omega (arith, D.places)) l;
        strip = λ r o i z e. message-is r o i (some z) e;
        absence-in-strip = λ r o i e. message-is r o i none e;
        unused-in-strip = λ r o i h l. subst (MessageIs (strip_begins rows r + i)) (get_or-eq_default (list_in rows r s) none h) (message-at r o i l);
        unused-number = message-unused;
        count = λ r o.
            lent-holds 0 max_host_channels (output_number rows r) (map length s.store.outputs) b.counts (let a = numbered-at rows r o in omega (arith, a.below, length-map (channels rows 2) (capacity_at rows), output-count rows, L.outputs))
            ∙ ap some (get_or-map length s.store.outputs (output_number rows r) []);
        unused-count = λ c h l. lent-unused max_host_channels 0 (map length s.store.outputs) b.counts c (omega (arith, length-map s.store.outputs length, D.outputs)) l;
        cells-past = lent-untouched max_cells (pos 0) (map number_in s.store.cells) b.cells long.cells;
        marks-past = lent-untouched max_cells 0 (map mark s.store.cells) b.marks long.marks;
        states-past = lent-untouched max_rows 0 s.states b.states long.states;
        places-past = lent-untouched max_host_channels 0 s.store.places b.places long.places;
        numbers-past = lent-untouched max_capacity (pos 0) (map number_in messages) b.numbers long.numbers;
        counts_past = lent-untouched max_host_channels 0 (map length s.store.outputs) b.counts long.counts;
        output-marks-past = lent-untouched max_capacity 0 (map mark messages) b.output_marks long.output-marks;
      }
