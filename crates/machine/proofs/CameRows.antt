-- The lists of rows that come to work and of blocks that start, of an accepted table: after a step they have the rows that are at work of those that are the step's or were
-- not at work before it, and the blocks whose cells settling unsets; after the start the first has all that are at work.
use mathlib.Core.Path.{◌≡◌, refl, sym, ap, ap₂, subst, ◌∙◌}
use mathlib.Core.Logic.{◌⊎◌, inl, inr, ⊎_elim}
use mathlib.Core.Bool.{Bool, true, false, false≢true}
use mathlib.Core.Option.{none, some}
use mathlib.Core.List.Memᴰ
use mathlib.Core.List.{List, [], ◌∷◌, ◌++◌, Memᴰ}
use Prim.Native.Nat.{ℕ, ◌<◌, ◌≤◌}
use native.Mathlib.Omega.{arith}
use lib.IntN.{ℤ}
use lib.ListN.{length, get_or, replicate, length-replicate}
use Rattle.meaning.specs.Limits.{max_rows}
use Rattle.meaning.specs.Rows.{row_count}
use Rattle.meaning.specs.Declarations.{Variable}
use Rattle.meaning.specs.Tree.{block, Process, Processes, action_of, rows_beneath}
use Rattle.meaning.specs.Settle.{start, settled, local_of, begun}
use Rattle.meaning.proofs.UnsetLaws.{holds_cell}
use Rattle.meaning.specs.State.{State, Program, program, whole, StateChange, change_states, Effect}
use Rattle.meaning.specs.Labels.{Label}
use Rattle.meaning.specs.Readings.{Sheet}
use Rattle.meaning.specs.Intent.{waits}
use Rattle.meaning.specs.Ready.{is_live, intent_at, after, effect_of}
use Rattle.meaning.specs.Order.{OrderOf, halt}
use Rattle.meaning.specs.Buffers.{Buffers}
use Rattle.meaning.specs.Answers.{check}
use Rattle.meaning.proofs.LentLaws.{defaults-at, blank-at, blank-length}
use Rattle.agreement.specs.RowsOfSteps.{RowOf}
use Rattle.agreement.proofs.Again.{Out}
use Rattle.agreement.proofs.Reach.{Sub, sub_in}
use Rattle.agreement.proofs.Active.{Active, active}
use Rattle.agreement.proofs.Working.{Works, all-idle}
use Rattle.agreement.proofs.Separate.{table-inv}
use Rattle.agreement.proofs.TableFit.{fit}
use Rattle.agreement.proofs.OrdersSettle.{start-begins}
use Rattle.machine.specs.Held.{HoldsState, ChangesBelow}
use Rattle.machine.specs.Counts.{Kept, kept_of, Counted, start_row, changes_up_counted, forgotten}
use Rattle.machine.specs.Came.{first_rows, listed_rows, listed_blocks, local_at, Distinct}
use Rattle.machine.proofs.Declared.{room}
use Rattle.machine.proofs.HeldLaws.{states-are}
use Rattle.machine.proofs.HeldSteps.{row_below, start-states}
use Rattle.machine.proofs.StepEffects.{active-effect, after-effect}
use Rattle.machine.proofs.MachineSteps.{changes-below}
use Rattle.machine.proofs.LiveRows.{intent-is}
use Rattle.machine.proofs.Unmoved.{live-row-works, order-after}
use Rattle.machine.proofs.Upwards.{Same, same_set, settle-same, begun-same, sound_more}
use Rattle.machine.proofs.CountedSteps.{start-counted, step-counted}
use Rattle.machine.proofs.ComeToWork.{starts_work, In, Block, rows_of, variables_of}
use Rattle.machine.proofs.CameLists.{Room, Lists, listed-length, forgotten-room}
use Rattle.machine.proofs.CameStarts.{rows-length}
use Rattle.machine.proofs.BegunStarts.{Stands}
use Rattle.machine.proofs.CameLevel.{start-came}
use Rattle.machine.proofs.CameSteps.{Front, all-rows, step-came}

same-changes : (n : ℕ) (cs : List StateChange) → ChangesBelow n cs → (s t : List ℕ) → Same n s t → Same n (change_states cs s) (change_states cs t)
same-changes n [] b s t h = h
same-changes n (c ∷ cs) b s t h = same-changes n cs b.1 _ _ (same_set n c.at c.become s t b.0 h)

module _ (rows : List ℤ) (ok : check rows ≡ none) (sheet : Sheet) where
  abbrev P : Program
  P = program rows

  -- c lists rows that are at work in t, and each row at work that is one of Those
  pub record WorkListed (Those : ℕ → Type 0) (t : State) (c : List ℕ) : Type 0 where
    pub live : (r : ℕ) → Memᴰ r (listed_rows c) → is_live P sheet r t ≡ true
    pub below : (r : ℕ) → Memᴰ r (listed_rows c) → r < row_count rows
    pub listed : (r : ℕ) → Those r → is_live P sheet r t ≡ true → Memᴰ r (listed_rows c)
    -- so one that is not listed would do nothing
    pub waiting : (r : ℕ) → Those r → Out r (listed_rows c) → intent_at P sheet t r ≡ waits
    pub those : (r : ℕ) → Memᴰ r (listed_rows c) → Those r
    pub once : Distinct (listed_rows c)
    pub few : get_or c 0 0 ≤ 2048
    pub long : 4098 ≤ length c

  live-is : (t : State) (r : ℕ) → Front rows ok r t.states → is_live P sheet r t ≡ true
  unfolding is_live
  live-is t r (a, (ms, (u, e, i))) = rw ((fit rows ok).placed a r ms u, e, all-idle (rows_beneath ms) t.states i)

  front_same : (y : ℕ) (s t : List ℕ) → ((r : ℕ) → get_or t r 0 ≡ get_or s r 0) → Front rows ok y t → Front rows ok y s
  front_same y s t g (a, (ms, (u, e, i))) = (a, (ms, (u, sym (g y) ∙ e, λ b m. sym (g b) ∙ i b m)))

  -- what is shown of states that are followed by zeros holds of those of an order
  gathered : (l : List Label) (t : State) → OrderOf rows sheet l t → (j : Kept) → ((r : ℕ) → get_or j.states r 0 ≡ get_or t.states r 0) → (w : List ℕ) → listed_rows j.came ≡ w → length w ≤ 2048 → 4098 ≤ length j.came → Distinct w
      → ((y : ℕ) → Memᴰ y w → Front rows ok y j.states) → (Those : ℕ → Type 0) → ((r : ℕ) → Those r → Works P (row_count rows) (fit rows ok) sheet t r → Memᴰ r w)
      → ((r : ℕ) → Memᴰ r w → Those r) → WorkListed Those t j.came
  gathered l t o j same w e short long once front Those all those =
      record {
        live = λ r m. live-is t r (front_same r t.states j.states same (front r (subst (Memᴰ r) e m)));
        below = λ r m. let (a, (ms, (u, q, i))) = front r (subst (Memᴰ r) e m) in row_below (whole P) (row_count rows) r (fit rows ok).sound (sub_in (whole P) u);
        listed = listed;
        waiting = λ r h out. go r h out (is_live P sheet r t) refl;
        those = λ r m. those r (subst (Memᴰ r) e m);
        once = subst Distinct (sym e) once;
        few = rw (← listed-length 0 j.came, e) short;
        long = long;
      }
    where
      listed : (r : ℕ) → Those r → is_live P sheet r t ≡ true → Memᴰ r (listed_rows j.came)
      listed r h v = subst (Memᴰ r) (sym e) (all r h (live-row-works rows ok sheet l t o r v))

      go : (r : ℕ) → Those r → Out r (listed_rows j.came) → (b : Bool) → is_live P sheet r t ≡ b → intent_at P sheet t r ≡ waits
      go r h out true v = absurd (out (listed r h v))
      go r h out false v = intent-is rows sheet t r false v

  -- nothing was listed before
  listed-are : {w u k c : List ℕ} → get_or k 0 0 ≡ 0 → Lists w u k c → listed_rows c ≡ w
  listed-are {w} {k} e L = L.rows ∙ ap (λ (n : ℕ). first_rows 0 n k ++ w) e

  blocks-are : {w u k c : List ℕ} → get_or k 2049 0 ≡ 0 → Lists w u k c → listed_blocks c ≡ u
  blocks-are {u} {k} e L = L.blocks ∙ ap (λ (n : ℕ). first_rows 2049 n k ++ u) e

  -- c lists blocks of the table, whose cells are those of the blocks that start when the row states t settle
  pub record BlocksListed (t c : List ℕ) : Type 0 where
    pub blocks : (r : ℕ) → Memᴰ r (listed_blocks c) → (v : Variable) × ((ms : Processes) × Sub (block v) r ms (whole P))
    pub begins : (a : ℕ) → holds_cell a (local_at P (listed_blocks c)) ≡ holds_cell a (begun (whole P) false t)
    pub number : get_or c 2049 0 ≤ 2048

  -- the variables of blocks by their rows
  local-at : (u : List Block) → ((y : Block) → Memᴰ y u → Stands (In (whole P)) y) → local_at P (rows_of u) ≡ variables_of u
  local-at [] h = refl
  local-at (y ∷ u) h =
      let (qs, w) = h y (Memᴰ.head refl) in
      ap₂ (λ (k : Process) (vs : List Variable). local_of (action_of k) ++ vs) ((fit rows ok).placed (block y.variable) y.row qs w) (local-at u (λ z m. h z (Memᴰ.tail m)))

  row-stands : (u : List Block) → ((y : Block) → Memᴰ y u → Stands (In (whole P)) y) → (r : ℕ) → Memᴰ r (rows_of u) → (v : Variable) × ((ms : Processes) × Sub (block v) r ms (whole P))
  row-stands [] h r m = absurd (Memᴰ.not-nil m)
  row-stands (y ∷ u) h r (Memᴰ.head e) = let (qs, w) = h y (Memᴰ.head refl) in (y.variable, (qs, subst (λ (q : ℕ). Sub (block y.variable) q qs (whole P)) (sym e) w))
  row-stands (y ∷ u) h r (Memᴰ.tail m) = row-stands u (λ z n. h z (Memᴰ.tail n)) r m

  -- ---- a step

  module _ (l : List Label) (s : State) (o : OrderOf rows sheet l s) (k : Kept) (long : row_count rows ≤ length k.states) (same : (r : ℕ) → get_or k.states r 0 ≡ get_or s.states r 0)
      (few : length k.states ≤ length k.left) (C : Counted (whole P) k) (nil : get_or k.came 0 0 ≡ 0) (no_block : get_or k.came 2049 0 ≡ 0) (size : 4098 ≤ length k.came) {x : Label} {e : Effect} (A : Active (intent_at P sheet s) x e) where
    -- the states that the step leaves
    same_after : (r : ℕ) → get_or (changes_up_counted P e.changes k).states r 0 ≡ get_or (after P sheet x s).states r 0
    unfolding settled
    same_after r =
        let n = row_count rows in
        let Z = settle-same (whole P) n (fit rows ok).sound false (change_states e.changes s.states) (change_states e.changes k.states)
        (same-changes n e.changes (changes-below rows ok sheet l s o A) s.states k.states (same, omega (arith, (table-inv rows sheet (fit rows ok) l s o).size), long)) in
        ap (λ (t : List ℕ). get_or t r 0) (step-counted rows ok sheet l s o k long same few C A).states-are ∙ Z.0 r ∙ ap (λ (t : State). get_or t.states r 0) (sym (after-effect P sheet s x e (active-effect (intent_at P sheet s) A)))

    enough : Room 2048 2048 k.came
    enough = record { rows = omega arith; blocks = omega arith; size = size }

    -- the blocks that start by it
    pub step-begins : BlocksListed (change_states e.changes s.states) (changes_up_counted P e.changes k).came
    step-begins =
        let (w, (u, K)) = step-came rows ok sheet l s o k long same few C enough A in
        let c = (changes_up_counted P e.changes k).came in
        let are : listed_blocks c ≡ rows_of u = blocks-are no_block K.lists in
        let n = row_count rows in
        let alike : begun (whole P) false (change_states e.changes s.states) ≡ begun (whole P) false (change_states e.changes k.states)
        = begun-same (whole P) n (fit rows ok).sound false _ _
        (same-changes n e.changes (changes-below rows ok sheet l s o A) s.states k.states (same, omega (arith, (table-inv rows sheet (fit rows ok) l s o).size), long)) in
        record {
          blocks = λ r m. row-stands u K.stand r (subst (Memᴰ r) are m);
          begins = λ a. ap (λ (rs : List ℕ). holds_cell a (local_at P rs)) are ∙ ap (holds_cell a) (local-at u K.stand) ∙ K.begins a ∙ ap (holds_cell a) (sym alike);
          number = omega (arith, listed-length 2049 c, ap length are, rows-length u, K.few);
        }

    -- the rows that come to work by it: of those that are its own, or were not at work before it
    pub step-gathers : WorkListed (λ r. RowOf x r ⊎ (is_live P sheet r s ≡ false)) (after P sheet x s) (changes_up_counted P e.changes k).came
    step-gathers =
        let (w, (u, K)) = step-came rows ok sheet l s o k long same few C enough A in
        let was : (r : ℕ) → Front rows ok r k.states → is_live P sheet r s ≡ true = λ r f. live-is s r (front_same r s.states k.states same f) in
        gathered (l ++ (x ∷ [])) (after P sheet x s) (order-after rows ok sheet l s o A) (changes_up_counted P e.changes k) same_after w (listed-are nil K.lists) K.short (omega (arith, K.lists.size, size)) K.once K.live
        (λ r. RowOf x r ⊎ (is_live P sheet r s ≡ false))
        (λ r h W. ⊎_elim (λ m. m) (λ z. absurd (⊎_elim z.0 (λ q. false≢true (sym q ∙ was r (W.action, (W.listed, (W.sub, z.1, z.2))))) h))
        (K.listed W.action r W.listed W.sub W.by-step (same_after r ∙ W.runs) (λ b m. same_after b ∙ W.idle b m)))
        (λ r m. go r (K.fresh r m) (is_live P sheet r s) refl)
      where
        go : (r : ℕ) → (Front rows ok r k.states → RowOf x r) → (b : Bool) → is_live P sheet r s ≡ b → RowOf x r ⊎ (is_live P sheet r s ≡ false)
        go r f true h = let W = live-row-works rows ok sheet l s o r h in inl (f (W.action, (W.listed, (W.sub, same r ∙ W.runs, λ b m. same b ∙ W.idle b m))))
        go r f false h = inr h

  -- the same of the row states that the machine's arrays hold, and of a list that was forgotten before the step
  module _ (l : List Label) (s : State) (o : OrderOf rows sheet l s) (b : Buffers) (h : HoldsState rows s b) (lf ca : List ℕ) (few : length b.states ≤ length lf) (size : 4098 ≤ length ca)
      (C : Counted (whole P) (kept_of b.states lf (forgotten ca))) (x : Label) (e : Effect) (q : effect_of x (intent_at P sheet s) ≡ some e) where
    abbrev k : Kept
    k = kept_of b.states lf (forgotten ca)

    long : row_count rows ≤ length b.states
    long = rw (states-are rows s b h, blank-length 0 max_rows s.states) (room rows ok).states

    same : (r : ℕ) → get_or b.states r 0 ≡ get_or s.states r 0
    same r =
        let all = (table-inv rows sheet (fit rows ok) l s o).size in
        let rooms = (room rows ok).states in
        ap (λ (u : List ℕ). get_or u r 0) (states-are rows s b h) ∙ blank-at 0 max_rows r s.states (omega arith)

    pub held-gathers : WorkListed (λ r. RowOf x r ⊎ (is_live P sheet r s ≡ false)) (after P sheet x s) (changes_up_counted P e.changes k).came
    held-gathers =
        let (rows_none, blocks-none, same_size) = forgotten-room ca size in
        step-gathers l s o k long same few C rows_none blocks-none (rw same_size size) (active (intent_at P sheet s) x e q)

    pub held-begins : BlocksListed (change_states e.changes s.states) (changes_up_counted P e.changes k).came
    held-begins =
        let (rows_none, blocks-none, same_size) = forgotten-room ca size in
        step-begins l s o k long same few C rows_none blocks-none (rw same_size size) (active (intent_at P sheet s) x e q)

  -- ---- the start

  -- the rows that come to work when the root starts on an array of zeros are all that are at work then
  pub start-gathers : (lf ca : List ℕ) → max_rows ≤ length lf → get_or ca 0 0 ≡ 0 → get_or ca 2049 0 ≡ 0 → 4098 ≤ length ca → WorkListed (λ r. Unit {0}) (start P) (start_row (whole P) (kept_of (replicate max_rows 0) lf ca)).came
  start-gathers lf ca few nil no_block size =
      let k = kept_of (replicate max_rows 0) lf ca in
      let j = start_row (whole P) k in
      let rooms = (room rows ok).states in
      let S = start-counted rows ok max_rows rooms lf ca few in
      let o : OrderOf rows sheet [] (start P) = record { beginning = start P; begins = (start-begins rows ok (start P)).1 refl; order = halt } in
      let all = (table-inv rows sheet (fit rows ok) [] (start P) o).size in
      let most = all-rows rows ok in
      let same : (r : ℕ) → get_or j.states r 0 ≡ get_or (start P).states r 0
      = λ r. ap (λ (t : List ℕ). get_or t r 0) (S.states-are ∙ sym (start-states rows ok)) ∙ blank-at 0 max_rows r (start P).states (omega arith) in
      let K = start-came 0 (replicate max_rows 0) ca max_rows lf (length-replicate {A = ℕ} max_rows 0) few (whole P) (sound_more (whole P) (row_count rows) max_rows rooms (fit rows ok).sound) (λ v r ms u. (fit rows ok).starts (block v) r ms u) (λ y q. defaults-at 0 max_rows y)
      (record { rows = omega arith; blocks = omega arith; size = size }) in
      gathered [] (start P) o j same (starts_work (whole P)) (listed-are nil K.lists) (omega (arith, K.short)) (omega (arith, K.lists.size, size)) K.once (λ y m. let A = (K.comes y m).at in (A.action, (A.members, (A.place, A.runs, A.idle))))
      (λ r. Unit {0})
      (λ r h W. ⊎_elim (λ m. m) (λ z. absurd (omega (arith, z.1, defaults-at {A = ℕ} 0 max_rows r))) (K.listed W.action r W.listed W.sub W.by-step (same r ∙ W.runs) (λ b m. same b ∙ W.idle b m))) (λ r m. tt)
