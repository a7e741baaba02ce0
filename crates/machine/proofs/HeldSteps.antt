-- The arrays hold the state that a step leaves, after the step's changes of data and row states and settling on the whole array of row states.
use mathlib.Core.Path.{◌≡◌, refl, sym, ap, ◌∙◌}
use mathlib.Core.Logic.{⊎_elim}
use mathlib.Core.Bool.{Bool, true, false}
use mathlib.Core.Option.{none}
use mathlib.Core.List.Memᴰ
use mathlib.Core.List.{List, [], ◌∷◌, map, Memᴰ}
use Prim.Native.Nat.{ℕ, zero, suc, ◌+◌, ◌<◌, ◌≤◌}
use native.Mathlib.Omega.{arith}
use lib.IntN.{ℤ}
use lib.ListN.{length, get_or, set, replicate, length-set, length-map}
use lib.Seq.{get_or-append_seam}
use Rattle.meaning.specs.Limits.{max_rows}
use Rattle.meaning.specs.Rows.{row_count}
use Rattle.meaning.specs.Declarations.{Variable, total_cells}
use Rattle.meaning.specs.Tree.{Process, node, Processes, empty, also, rows_in, rows_beneath}
use Rattle.meaning.specs.Values.{Message}
use Rattle.meaning.specs.Settle.{settle, begun, start, settled}
use Rattle.meaning.specs.State.{State, program, whole, Write, write_cell, write_place, write_output, write_all, StateChange, change_states, Effect, with_state, unset_from, unset, unset_all}
use Rattle.meaning.specs.Buffers.{Buffers, lent, encode}
use Rattle.meaning.specs.Answers.{check}
use Rattle.meaning.proofs.UnsetLaws.{holds_cell, unset-same}
use Rattle.meaning.proofs.LentLaws.{lent-set, blank-at, blank-defaults}
use Rattle.agreement.proofs.Again.{Sound, SoundM}
use Rattle.agreement.proofs.Frame.{see-local, length-local}
use Rattle.agreement.proofs.Separate.{processes-length}
use Rattle.agreement.proofs.TableFit.{fit}
use Rattle.machine.specs.Held.{blank, HoldsState, with_write, with_settled, put_write, put_writes, put_changes, put_settled, put_unset_from, put_unset, put_effect, InRange, AllInRange, ChangesBelow, Lengths, Room}
use Rattle.machine.proofs.Declared.{room, CellsIn}
use Rattle.machine.proofs.HeldLaws.{buffers-path, read_count, hold-cell, hold-place, hold-state, hold-output, states-are}

-- ---- settling on the whole array

mutual
  pub row_below : (p : Process) (n x : ℕ) → Sound p n → Memᴰ x (rows_in p) → x < n
  row_below (node k r ms) n x d (Memᴰ.head e) = rw e d.0
  row_below (node k r ms) n x d (Memᴰ.tail m) = row_m-below ms n x d.2 m

  row_m-below : (ms : Processes) (n x : ℕ) → SoundM ms n → Memᴰ x (rows_beneath ms) → x < n
  row_m-below empty n x d m = absurd (Memᴰ.not-nil m)
  row_m-below (also p ms) n x d m = ⊎_elim (λ (h : Memᴰ x (rows_in p)). row_below p n x d.0 h) (λ (h : Memᴰ x (rows_beneath ms)). row_m-below ms n x d.1 h) (Memᴰ.append_cases (rows_in p) m)

-- settling an array settles the states that it holds
pub settle-lent : (p : Process) (n size : ℕ) → Sound p n → n ≤ size → (t : Bool) (s : List ℕ) → length s ≡ n → settle p t (lent size 0 s (replicate size 0)) ≡ lent size 0 (settle p t s) (replicate size 0)
settle-lent p n size d f t s l =
    ((see-local p t).keeps (λ u v. (v ≡ lent size 0 u (replicate size 0)) × (length u ≡ n)) (record {
      look = λ {s = u} x m e. rw e.0 (sym (blank-at 0 size x u (omega (arith, e.1))));
      put = λ {s = u} x w m e. (rw e.0 (lent-set 0 size x w u (replicate size 0) (rw e.1 (row_below p n x d m)) (omega (arith, e.1))), length-set u x w ∙ e.1);
    }) s (lent size 0 s (replicate size 0)) (refl, l)).0

module _ (rows : List ℤ) (ok : check rows ≡ none) where
  abbrev R : Room rows
  R = room rows ok

  -- ---- lengths stay

  pub lengths-write : (w : Write) (s : State) → Lengths rows s → Lengths rows (with_write w s)
  lengths-write (write_cell a m) s L = record { cells = length-set s.store.cells a m ∙ L.cells; places = L.places; outputs = L.outputs; states = L.states }
  lengths-write (write_place p k) s L = record { cells = L.cells; places = length-set s.store.places p k ∙ L.places; outputs = L.outputs; states = L.states }
  lengths-write (write_output p l) s L = record { cells = L.cells; places = L.places; outputs = length-set s.store.outputs p l ∙ L.outputs; states = L.states }

  pub lengths-state : (r v : ℕ) (s : State) → Lengths rows s → Lengths rows (with_state r v s)
  lengths-state r v s L = record { cells = L.cells; places = L.places; outputs = L.outputs; states = length-set s.states r v ∙ L.states }

  -- ---- settling, changes, writes

  pub hold-settled : (t : Bool) (s : State) → Lengths rows s → (b : Buffers) → HoldsState rows s b → HoldsState rows (with_settled rows t s) (put_settled rows t b)
  unfolding encode blank
  hold-settled t s L b h =
      buffers-path (put_settled rows t b) (encode rows (with_settled rows t s) blank) (ap (λ (c : Buffers). c.cells) h) (ap (λ (c : Buffers). c.marks) h)
      (ap (settle (whole (program rows)) t) (states-are rows s b h) ∙ settle-lent (whole (program rows)) (row_count rows) max_rows (fit rows ok).sound R.states t s.states L.states)
      (ap (λ (c : Buffers). c.places) h) (ap (λ (c : Buffers). c.numbers) h) (ap (λ (c : Buffers). c.counts) h) (ap (λ (c : Buffers). c.output_marks) h)

  pub hold-changes : (cs : List StateChange) → ChangesBelow (row_count rows) cs → (s : State) → Lengths rows s → (b : Buffers) → HoldsState rows s b
      → HoldsState rows (record { states = change_states cs s.states; store = s.store }) (put_changes cs b)
  hold-changes [] k s L b h = h
  hold-changes (c ∷ cs) k s L b h =
      let r = c.at in
      let v = c.become in
      hold-changes cs k.1 (with_state r v s) (lengths-state r v s L) _ (hold-state rows R s L b h r v k.0)

  pub hold-write : (w : Write) (s : State) → InRange rows s.store w → Lengths rows s → (b : Buffers) → HoldsState rows s b → HoldsState rows (with_write w s) (put_write rows w b)
  hold-write (write_cell a m) s k L b h = hold-cell rows R s L b h a m k
  hold-write (write_place p n) s k L b h = hold-place rows R s L b h p n k
  hold-write (write_output p l) s (m, k, e, c) L b h =
      let old = get_or s.store.outputs p [] in
      let last : get_or l (length old) none ≡ m = ap (λ (x : List Message). get_or x (length old) none) e ∙ get_or-append_seam old m [] none in
      rw (← read_count rows R s L b h p, last, e) (hold-output rows R s L b h p old m k refl c)

  pub hold-writes : (ws : List Write) (s : State) → AllInRange rows s.store ws → Lengths rows s → (b : Buffers) → HoldsState rows s b
      → HoldsState rows (record { states = s.states; store = write_all ws s.store }) (put_writes rows ws b) × Lengths rows (record { states = s.states; store = write_all ws s.store })
  hold-writes [] s k L b h = (h, L)
  hold-writes (w ∷ ws) s k L b h = hold-writes ws (with_write w s) k.1 (lengths-write w s L) _ (hold-write w s k.0 L b h)

  -- cells of variables become unset
  hold-unset-from : (a n : ℕ) → ((i : ℕ) → i < n → a + i < total_cells rows) → (s : State) → Lengths rows s → (b : Buffers) → HoldsState rows s b
      → let t : State = record { states = s.states; store = record { cells = unset_from a n s.store.cells; places = s.store.places; outputs = s.store.outputs } } in
      HoldsState rows t (put_unset_from a n b) × Lengths rows t
  hold-unset-from a zero k s L b h = (h, L)
  hold-unset-from a (suc n) k s L b h =
      let low : a < total_cells rows = omega (arith, k 0 (omega arith)) in
      let rest : (i : ℕ) → i < n → suc a + i < total_cells rows = λ i l. omega (arith, k (suc i) (omega arith)) in
      hold-unset-from (suc a) n rest (with_write (write_cell a none) s) (lengths-write (write_cell a none) s L) _ (hold-cell rows R s L b h a none low)

  pub hold-unset : (vs : List Variable) → ((v : Variable) → Memᴰ v vs → CellsIn rows v) → (s : State) → Lengths rows s → (b : Buffers) → HoldsState rows s b
      → HoldsState rows (record { states = s.states; store = unset_all vs s.store }) (put_unset vs b)
  hold-unset [] k s L b h = h
  hold-unset (v ∷ vs) k s L b h =
      let (g, M) = hold-unset-from v.first v.size (k v (Memᴰ.head refl)) s L b h in
      hold-unset vs (λ w m. k w (Memᴰ.tail m)) (record { states = s.states; store = unset v s.store }) M (put_unset_from v.first v.size b) g

  changes-length : (cs : List StateChange) (s : List ℕ) → length (change_states cs s) ≡ length s
  changes-length [] s = refl
  changes-length (c ∷ cs) s = changes-length cs (set s c.at c.become) ∙ length-set s c.at c.become

  -- ---- a step
  pub hold-effect : (e : Effect) (s : State) (vs : List Variable) → ((v : Variable) → Memᴰ v vs → CellsIn rows v)
      → ((a : ℕ) → holds_cell a vs ≡ holds_cell a (begun (whole (program rows)) false (change_states e.changes s.states))) → ChangesBelow (row_count rows) e.changes → AllInRange rows s.store e.writes → Lengths rows s → (b : Buffers) → HoldsState rows s b
      → HoldsState rows (settled (program rows) e s) (put_effect rows e vs b)
  unfolding settled put_effect
  hold-effect e s vs known begins c w L b h =
      let (g, M) = hold-writes e.writes s w L b h in
      let t : State = record { states = s.states; store = write_all e.writes s.store } in
      let u : State = record { states = change_states e.changes s.states; store = write_all e.writes s.store } in
      let N : Lengths rows u = record { cells = M.cells; places = M.places; outputs = M.outputs; states = changes-length e.changes s.states ∙ M.states } in
      let W = whole (program rows) in
      let x = put_changes e.changes (put_writes rows e.writes b) in
      let made = hold-changes e.changes c t M (put_writes rows e.writes b) g in
      let O : Lengths rows (with_settled rows false u) = record { cells = N.cells; places = N.places; outputs = N.outputs; states = length-local (see-local W false) u.states ∙ N.states } in
      rw (← unset-same vs (begun W false u.states) u.store begins) (hold-unset vs known (with_settled rows false u) O (put_settled rows false x) (hold-settled false u N x made))

  -- ---- the start

  zeros : (l : List Process) → map {B = ℕ} (λ (p : Process). 0) l ≡ replicate (length l) 0
  zeros [] = refl
  zeros (p ∷ l) = ap (λ (s : List ℕ). 0 ∷ s) (zeros l)

  -- the row states of the start: the root started and settled on an array of zeros
  pub start-states : lent max_rows 0 (start (program rows)).states (replicate max_rows 0) ≡ settle (whole (program rows)) true (replicate max_rows 0)
  unfolding start
  start-states =
      let l = (program rows).processes in
      sym (ap (settle (whole (program rows)) true) (sym (ap (λ (s : List ℕ). lent max_rows 0 s (replicate max_rows 0)) (zeros l) ∙ blank-defaults 0 max_rows (length l)))
      ∙ settle-lent (whole (program rows)) (row_count rows) max_rows (fit rows ok).sound R.states true (map {B = ℕ} (λ (p : Process). 0) l) (length-map {B = ℕ} l (λ (p : Process). 0) ∙ processes-length rows))
