-- Only one reading: buffers that hold a state position by position are determined; so what `encode` leaves is all of it.
use mathlib.Core.Path.{◌≡◌, refl, sym, ap, ap₂, subst, ◌∙◌}
use mathlib.Core.Option.{none, some, none-ne-some, some-ne-none, some-injective}
use mathlib.Core.List.{List, [], ◌∷◌}
use Prim.Native.Nat.{ℕ, zero, suc, ◌+◌, ◌-◌, ◌<◌, ◌≤◌}
use native.Mathlib.Omega.{arith}
use native.Mathlib.Decide.{dec_lt}
use lib.IntN.{ℤ, pos}
use lib.ListN.{length, get_or, get_elem?}
use Rattle.meaning.specs.Limits.{max_rows, max_cells, max_host_channels, max_capacity}
use Rattle.meaning.specs.Rows.{row_count}
use Rattle.meaning.specs.Declarations.{declarations, Channel, sum_below, capacity_at, total_cells, host_channels}
use Rattle.meaning.specs.Values.{Message}
use Rattle.meaning.specs.State.{State}
use Rattle.meaning.specs.Buffers.{Buffers}
use Rattle.meaning.specs.Readings.{Sheet}
use Rattle.meaning.specs.Answers.{check}
use Rattle.meaning.proofs.LentLaws.{entry_at}
use Rattle.agreement.specs.Statements.{Reached}
use Rattle.agreement.specs.BufferClaims.{AsDeclared, HoldsAt, UntouchedPast, ToHost, strip_begins, list_in, BuffersHold, EncodeHolds}
use Rattle.agreement.proofs.AsDeclared.{reached-as-declared}
use Rattle.agreement.proofs.HostOutputs.{sink-is, output_row, output-of}
use Rattle.agreement.proofs.OrdersCoherent.{orders-coherent}
use Rattle.agreement.proofs.TableLimits.{Limited, limited}
use Rattle.agreement.proofs.BuffersHold.{encode-holds}

module _ {A : Type 0} where
  -- lists with equal entries
  entries-equal : (l m : List A) → ((i : ℕ) → get_elem? l i ≡ get_elem? m i) → l ≡ m
  entries-equal [] [] h = refl
  entries-equal [] (y ∷ m) h = absurd (none-ne-some y (h 0))
  entries-equal (x ∷ l) [] h = absurd (some-ne-none x (h 0))
  entries-equal (x ∷ l) (y ∷ m) h = ap₂ (λ (a : A) (k : List A). a ∷ k) (some-injective x y (h 0)) (entries-equal l m (λ i. h (suc i)))

  -- a position at which both lists hold one thing
  abbrev Both : List A → List A → ℕ → Type 0
  Both l m i = (v : A) × HoldsAt l i v × HoldsAt m i v

  -- buffers that hold the same below the limit, and past it what was there
  same-buffer : (limit : ℕ) (old l m : List A) → UntouchedPast limit old l → UntouchedPast limit old m → ((i : ℕ) → i < limit → Both l m i) → l ≡ m
  same-buffer limit old l m u w h = entries-equal l m (λ i. go i (dec_lt i limit))
    where
      go : (i : ℕ) → Dec (i < limit) → get_elem? l i ≡ get_elem? m i
      go i (yes k) = let (v, p, q) = h i k in p ∙ sym q
      go i (no k) = u.past-limit i (omega arith) ∙ sym (w.past-limit i (omega arith))

-- a number below a sum lies in the part of one row
in-part : (f : ℕ → ℕ) (n i : ℕ) → i < sum_below f n → (r : ℕ) × (sum_below f r ≤ i) × (i < sum_below f r + f r)
unfolding sum_below
in-part f zero i h = absurd (omega arith)
in-part f (suc n) i h = go (dec_lt i (sum_below f n)) (in-part f n i)
  where
    go : Dec (i < sum_below f n) → (i < sum_below f n → (r : ℕ) × (sum_below f r ≤ i) × (i < sum_below f r + f r)) → (r : ℕ) × (sum_below f r ≤ i) × (i < sum_below f r + f r)
    go (yes l) k = k l
    go (no l) k = (n, omega arith, h)

module _ (rows : List ℤ) (s : State) (L : Limited rows) (D : AsDeclared rows s) (b c e : Buffers) (C : BuffersHold rows s b c) (E : BuffersHold rows s b e) where
  -- the cells and the marks
  cell-both : (i : ℕ) → i < max_cells → Both c.cells e.cells i × Both c.marks e.marks i
  cell-both i h = go (dec_lt i (total_cells rows))
    where
      of : (m : Message) → HoldsAt s.store.cells i m → Both c.cells e.cells i × Both c.marks e.marks i
      of none k = let (p, q) = C.unset-cell i k in let (u, w) = E.unset-cell i k in ((pos 0, p, u), (0, q, w))
      of (some z) k = let (p, q) = C.set-cell i z k in let (u, w) = E.set-cell i z k in ((z, p, u), (1, q, w))

      go : Dec (i < total_cells rows) → Both c.cells e.cells i × Both c.marks e.marks i
      go (yes l) = of (get_or s.store.cells i none) (entry_at s.store.cells i none (omega (arith, D.cells)))
      go (no l) = let (p, q) = C.unused-cell i (omega arith) h in let (u, w) = E.unused-cell i (omega arith) h in ((pos 0, p, u), (0, q, w))

  state-both : (r : ℕ) → r < max_rows → Both c.states e.states r
  state-both r h = go (dec_lt r (row_count rows))
    where
      go : Dec (r < row_count rows) → Both c.states e.states r
      go (yes l) = let n = get_or s.states r 0 in let k = entry_at s.states r 0 (omega (arith, D.states)) in (n, C.row-state r n k, E.row-state r n k)
      go (no l) = (0, C.unused-state r (omega arith) h, E.unused-state r (omega arith) h)

  place-both : (p : ℕ) → p < max_host_channels → Both c.places e.places p
  place-both p h = go (dec_lt p (host_channels 1 rows))
    where
      go : Dec (p < host_channels 1 rows) → Both c.places e.places p
      go (yes l) = let n = get_or s.store.places p 0 in let k = entry_at s.store.places p 0 (omega (arith, D.places)) in (n, C.place p n k, E.place p n k)
      go (no l) = (0, C.unused-place p (omega arith) h, E.unused-place p (omega arith) h)

  count-both : (p : ℕ) → p < max_host_channels → Both c.counts e.counts p
  count-both p h = go (dec_lt p (host_channels 2 rows))
    where
      go : Dec (p < host_channels 2 rows) → Both c.counts e.counts p
      go (yes l) = let (r, o, q) = output_row rows p l in subst (Both c.counts e.counts) q (length (list_in rows r s), C.count r o, E.count r o)
      go (no l) = (0, C.unused-count p (omega arith) h, E.unused-count p (omega arith) h)

  -- the numbers and the marks of the strips
  abbrev Strips : ℕ → Type 0
  Strips i = Both c.numbers e.numbers i × Both c.output_marks e.output_marks i

  message-both : (i : ℕ) → i < max_capacity → Strips i
  message-both i h = go (dec_lt i (strip_begins rows (declarations rows)))
    where
      holding : (r j : ℕ) → ToHost rows r → (m : Message) → HoldsAt (list_in rows r s) j m → Strips (strip_begins rows r + j)
      holding r j o none k = let (p, q) = C.absence-in-strip r o j k in let (u, w) = E.absence-in-strip r o j k in ((pos 0, p, u), (0, q, w))
      holding r j o (some z) k = let (p, q) = C.strip r o j z k in let (u, w) = E.strip r o j z k in ((z, p, u), (1, q, w))

      of : (r j : ℕ) → j < capacity_at rows r → Dec (j < length (list_in rows r s)) → Strips (strip_begins rows r + j)
      of r j l (yes k) = holding r j (output-of rows r (omega arith)) (get_or (list_in rows r s) j none) (entry_at (list_in rows r s) j none k)
      of r j l (no k) =
          let o = output-of rows r (omega arith) in
          let (p, q) = C.unused-in-strip r o j (omega arith) l in let (u, w) = E.unused-in-strip r o j (omega arith) l in ((pos 0, p, u), (0, q, w))

      go : Dec (i < strip_begins rows (declarations rows)) → Strips i
      go (yes l) =
          let (r, begins, within) = in-part (capacity_at rows) (declarations rows) i l in
          let j = i - strip_begins rows r in
          let q : strip_begins rows r + j ≡ i = omega arith in
          subst Strips q (of r j (omega arith) (dec_lt j (length (list_in rows r s))))
      go (no l) = let (p, q) = C.unused-number i (omega arith) h in let (u, w) = E.unused-number i (omega arith) h in ((pos 0, p, u), (0, q, w))

  only_one : c ≡ e
  only_one =
      let cells = same-buffer max_cells b.cells c.cells e.cells C.cells-past E.cells-past (λ i h. (cell-both i h).0) in
      let marks = same-buffer max_cells b.marks c.marks e.marks C.marks-past E.marks-past (λ i h. (cell-both i h).1) in
      let states = same-buffer max_rows b.states c.states e.states C.states-past E.states-past state-both in
      let places = same-buffer max_host_channels b.places c.places e.places C.places-past E.places-past place-both in
      let numbers = same-buffer max_capacity b.numbers c.numbers e.numbers C.numbers-past E.numbers-past (λ i h. (message-both i h).0) in
      let counts = same-buffer max_host_channels b.counts c.counts e.counts C.counts_past E.counts_past count-both in
      let output-marks = same-buffer max_capacity b.output_marks c.output_marks e.output_marks C.output-marks-past E.output-marks-past (λ i h. (message-both i h).1) in
      λ i. record { cells = cells i; marks = marks i; states = states i; places = places i; numbers = numbers i; counts = counts i; output_marks = output-marks i }

-- of a reached state, every list fits in its strip
pub lists-fit : (rows : List ℤ) (sheet : Sheet) (s : State) → check rows ≡ none → Reached rows sheet s → (r : ℕ) → ToHost rows r → length (list_in rows r s) ≤ capacity_at rows r
lists-fit rows sheet s ok (l, o) r h =
    let e = sink-is rows r h in
    let k = (orders-coherent rows ok sheet l s o).room-kept r (ap (λ (x : Channel). x.host) e) in
    omega (arith, k, ap (λ (x : Channel). length (get_or s.store.outputs x.number [])) e, ap (λ (x : Channel). x.capacity) e)

pub buffers-exact : EncodeHolds
buffers-exact rows sheet s ok h b long =
    let L = limited rows ok in
    let D = reached-as-declared rows sheet s ok h in
    let held = encode-holds rows s L D (lists-fit rows sheet s ok h) b long in
    (held, λ c k. only_one rows s L D b c _ k held)
