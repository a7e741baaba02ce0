-- The rows that come to work by the changes of a step of an order: those listed are at work after it, and every other row that is was before, and is none of the step's;
-- and the blocks that start by them.
use mathlib.Core.Path.{◌≡◌, refl, sym, ap, ap₂, subst, ◌∙◌}
use mathlib.Core.Logic.{◌≢◌, ◌⊎◌, inl, inr, ⊎_elim}
use mathlib.Core.Bool.{Bool, false, ◌||◌, or_comm}
use mathlib.Core.Option.{none}
use mathlib.Core.List.Memᴰ
use mathlib.Core.List.{List, ◌++◌, Memᴰ}
use Prim.Native.Nat.{ℕ, ◌≤◌}
use native.Mathlib.Omega.{arith}
use native.Mathlib.Decide.{ℕ_discrete}
use lib.IntN.{ℤ}
use lib.ListN.{length, get_or, set, length-set, length-append}
use Rattle.meaning.specs.Rows.{row_count}
use Rattle.meaning.specs.Tree.{Action, block, Process, Processes, action_of, processes_in, rows_in, rows_beneath}
use Rattle.meaning.specs.Settle.{by_step, mode, begun}
use Rattle.meaning.proofs.UnsetLaws.{holds_cell, holds-append, Joined}
use Rattle.meaning.specs.State.{State, Program, program, whole, change_states, Effect, process_at}
use Rattle.meaning.specs.Labels.{Label, own, pass, take_option, take_with_output}
use Rattle.meaning.specs.Readings.{Sheet}
use Rattle.meaning.specs.Ready.{intent_at}
use Rattle.meaning.specs.Order.{OrderOf}
use Rattle.meaning.specs.Answers.{check}
use Rattle.agreement.specs.RowsOfSteps.{RowOf, of-own, of-input, of_output, of-alt, of-alt-input, of-alt-output}
use Rattle.agreement.proofs.Again.{Idle}
use Rattle.agreement.proofs.Commute.{At, Legal}
use Rattle.agreement.proofs.Reach.{Sub, frontier}
use Rattle.agreement.proofs.Active.{Active, acts-alone, passes_on, takes-open, takes-input}
use Rattle.agreement.proofs.BegunParts.{begun-absorb}
use Rattle.agreement.proofs.BlocksStarted.{OneProcess}
use Rattle.agreement.proofs.Working.{at-sub}
use Rattle.agreement.proofs.TableFit.{fit, rows-limit}
use Rattle.machine.specs.Counts.{Kept, Counted, change_up_counted, changes_up_counted}
use Rattle.machine.specs.Came.{Distinct}
use Rattle.machine.proofs.Upwards.{beside, still-at}
use Rattle.machine.proofs.ComeToWork.{In, AtWork, Block, rows_of, variables_of}
use Rattle.machine.proofs.CameStarts.{rows_append, rows-length}
use Rattle.machine.proofs.BegunStarts.{variables-append, Stands}
use Rattle.machine.proofs.CameLists.{Room, Lists, lists-both, room_after, room-less}
use Rattle.machine.proofs.CameLevel.{Comer}
use Rattle.machine.proofs.FewRows.{rows_few, distinct-both}
use Rattle.machine.proofs.CountedSteps.{SteadyCounted, one-counted, same_up, still-counted, change-came, next-at, begins, here-too, parts}

module _ (rows : List ℤ) (ok : check rows ≡ none) where
  abbrev P : Program
  P = program rows

  -- row y of the whole process is at its frontier in t
  abbrev pub Front : ℕ → List ℕ → Type 0
  Front y t = (a : Action) × ((ms : Processes) × (Sub a y ms (whole P) × (get_or t y 0 ≡ 1) × Idle (rows_beneath ms) t))

  -- the rows w come to work by changes that the rows By make, which leave the row states t to be settled, and the blocks u start
  pub record CameBy (By : ℕ → Type 0) (t : List ℕ) (k j : Kept) (w : List ℕ) (u : List Block) : Type 0 where
    pub lists : Lists w (rows_of u) k.came j.came
    pub short : length w ≤ 2048
    pub few : length u ≤ 2048
    pub stand : (y : Block) → Memᴰ y u → Stands (In (whole P)) y
    -- settling starts the blocks of the same cells
    pub begins : (a : ℕ) → holds_cell a (variables_of u) ≡ holds_cell a (begun (whole P) false t)
    pub once : Distinct w
    pub live : (y : ℕ) → Memᴰ y w → Front y j.states
    pub fresh : (y : ℕ) → Memᴰ y w → Front y k.states → By y
    pub listed : (a : Action) (y : ℕ) (qs : Processes) → Sub a y qs (whole P) → mode a ≡ by_step → get_or j.states y 0 ≡ 1 → Idle (rows_beneath qs) j.states
        → Memᴰ y w ⊎ ((By y → ⊥) × (get_or k.states y 0 ≡ 1) × Idle (rows_beneath qs) k.states)

  same_by : {A B : ℕ → Type 0} {t : List ℕ} {k j : Kept} {w : List ℕ} {u : List Block} → ((y : ℕ) → B y → A y) → ((y : ℕ) → A y → B y) → CameBy A t k j w u → CameBy B t k j w u
  same_by f g C =
      record {
        lists = C.lists;
        short = C.short;
        few = C.few;
        stand = C.stand;
        begins = C.begins;
        once = C.once;
        live = C.live;
        fresh = λ y m h. g y (C.fresh y m h);
        listed = λ a y qs u m q i. ⊎_elim (λ h. inl h) (λ h. inr (λ z. h.0 (f y z), h.1, h.2)) (C.listed a y qs u m q i);
      }

  pub all-rows : length (rows_in (whole P)) ≤ 1024
  all-rows = omega (arith, rows_few (whole P) (row_count rows) (fit rows ok).sound, rows-limit rows ok)

  -- each block has one process
  single : OneProcess (whole P)
  single v r ms u = (fit rows ok).starts (block v) r ms u

  -- what stands at a row is one thing
  one-members : {a c : Action} {y z : ℕ} {ps qs : Processes} → y ≡ z → Sub a y ps (whole P) → Sub c z qs (whole P) → qs ≡ ps
  one-members {a} {c} {y} {z} {ps} {qs} e u w = sym (ap processes_in ((fit rows ok).placed c z qs w)) ∙ ap (λ (x : ℕ). processes_in (process_at P x)) (sym e) ∙ ap processes_in ((fit rows ok).placed a y ps u)

  -- a row that has come to work, and was at work before, is b
  came-fresh : (b : ℕ) (s t : List ℕ) (y : ℕ) → Comer b s (In (whole P)) t y → Front y s → y ≡ b
  came-fresh b s t y A (a, (ms, (u, q, i))) = A.fresh q (subst (λ (qs : Processes). Idle (rows_beneath qs) s) (sym (one-members refl u A.at.place)) i)

  -- one change
  pub one-came : (n : ℕ) (k : Kept) (S : SteadyCounted rows ok n k) (b x v : ℕ) (h : At b x v k.states (whole P)) → Room 2048 2048 k.came
      → (w : List ℕ) × ((u : List Block) × CameBy (λ y. y ≡ b) (set k.states x v) k (change_up_counted P x v k) w u)
  one-came n k S b x v h room =
      let all = all-rows in
      let (w, (u, K)) = change-came rows ok n k S b x v h single (room-less (omega arith) (omega arith) room) in (
        w,
        (
          u,
          record {
            lists = K.lists;
            short = omega (arith, K.short);
            few = omega (arith, K.few);
            stand = K.stand;
            begins = K.begins;
            once = K.once;
            live = λ y m. let A = (K.comes y m).at in (A.action, (A.members, (A.place, A.runs, A.idle)));
            fresh = λ y m f. came-fresh b k.states (change_up_counted P x v k).states y (K.comes y m) f;
            listed = K.listed;
          },
        ),
      )

  -- two changes, by two rows
  module _ (n : ℕ) (k : Kept) (S : SteadyCounted rows ok n k) (b x v : ℕ) (h : At b x v k.states (whole P)) (c y w : ℕ) (ne : b ≢ c) (g : At c y w k.states (whole P)) where
    abbrev first : Kept
    first = change_up_counted P x v k

    abbrev second : Kept
    second = change_up_counted P y w first

    S1 : SteadyCounted rows ok n first
    S1 = still-counted rows ok n k S b x v h

    g1 : At c y w first.states (whole P)
    g1 = next-at rows ok n k S b x v h c y w ne g

    -- a row that has come to work by the first change is not c
    other_row : (z : ℕ) → Comer b k.states (In (whole P)) first.states z → c ≢ z
    other_row z A e =
        ne (sym (e ∙ came-fresh b k.states first.states z A (subst (λ (z : ℕ). Front z k.states) e (at-sub g))))

    -- a row that was at work, and is not b, is after the first change
    still-front : (z : ℕ) → b ≢ z → AtWork (In (whole P)) second.states z → Front z k.states → Front z first.states
    still-front z nb A (a, (ms, (u, q, i))) =
        let m : mode a ≡ by_step = ap (λ (p : Process). mode (action_of p)) (sym ((fit rows ok).placed a z ms u) ∙ (fit rows ok).placed A.action z A.members A.place) ∙ A.by-step in
        let here : At z z 2 k.states (whole P) = frontier k.states a z ms z 2 q m i (Legal.own 0 refl refl) (whole P) u S.steady.good in
        at-sub (subst (λ (t : List ℕ). At z z 2 t (whole P)) (sym (same_up rows ok n k S b x v h)) (still-at rows ok n k.states S.steady b x v h z z 2 nb here))

    -- a row that comes to work by the second change, and was at work before both, is one of the two
    one_of : (z : ℕ) → Comer c first.states (In (whole P)) second.states z → Front z k.states → (z ≡ b) ⊎ (z ≡ c)
    one_of z A f = go (ℕ_discrete z b)
      where
        go : Dec (z ≡ b) → (z ≡ b) ⊎ (z ≡ c)
        go (yes e) = inl e
        go (no e) = inr (came-fresh c first.states second.states z A (still-front z (λ q. e (sym q)) A.at f))

    -- and it stays at work
    stays : (z : ℕ) → Comer b k.states (In (whole P)) first.states z → Front z second.states
    stays z A =
        let W = A.at in
        let here : At z z 2 first.states (whole P) = frontier first.states W.action z W.members z 2 W.runs W.by-step W.idle (Legal.own 0 refl refl) (whole P) W.place S1.steady.good in
        at-sub (subst (λ (t : List ℕ). At z z 2 t (whole P)) (sym (same_up rows ok n first S1 c y w g1)) (still-at rows ok n first.states S1.steady c y w g1 z z 2 (other_row z A) here))

    -- the blocks that start by both changes, one after the other, start by both together
    both-begin : Joined (begun (whole P) false (set first.states y w)) (begun (whole P) false (set k.states x v)) (begun (whole P) false (set (set k.states x v) y w))
    both-begin =
        let u = set k.states x v in
        subst (λ (t : List ℕ). Joined (begun (whole P) false (set t y w)) (begun (whole P) false u) (begun (whole P) false (set u y w))) (sym (one-counted rows ok n k S b x v h))
        (begun-absorb c y w n (whole P) S.steady.sound u (length-set k.states x v ∙ S.steady.size) (beside rows ok n k.states S.steady b x v h c y w ne g) false)

    pub two-came : Room 2048 2048 k.came → (l : List ℕ) × ((u : List Block) × CameBy (λ z. (z ≡ b) ⊎ (z ≡ c)) (set (set k.states x v) y w) k second l u)
    two-came room =
        let all = all-rows in
        let size = length (rows_in (whole P)) in
        let (w1, (u1, K1)) = change-came rows ok n k S b x v h single (room-less (omega arith) (omega arith) room) in
        let s1 = K1.short in
        let f1 = K1.few in
        let r1 = rows-length u1 in
        let (w2, (u2, K2)) = change-came rows ok n first S1 c y w g1 single (room_after size size K1.lists (room-less (omega arith) (omega arith) room)) in (
          w1 ++ w2,
          (
            u1 ++ u2,
            record {
              lists = subst (λ (z : List ℕ). Lists (w1 ++ w2) z k.came second.came) (sym (rows_append u1 u2)) (lists-both K1.lists K2.lists);
              short = omega (arith, length-append w1 w2, K2.short);
              few = omega (arith, length-append u1 u2, K2.few);
              stand = λ z m. ⊎_elim (K1.stand z) (K2.stand z) (Memᴰ.append_cases u1 m);
              begins = λ a. ap (holds_cell a) (variables-append u1 u2) ∙ holds-append a (variables_of u1) (variables_of u2) ∙ or_comm (holds_cell a (variables_of u1)) (holds_cell a (variables_of u2))
                  ∙ ap₂ (λ (p q : Bool). p || q) (K2.begins a) (K1.begins a) ∙ both-begin.cell a;
              once = distinct-both w1 w2 K1.once K2.once (λ z p q. let A = K1.comes z p in let W = A.at in other_row z A (sym (came-fresh c first.states second.states z (K2.comes z q) (W.action, (W.members, (W.place, W.runs, W.idle))))));
              live = λ z m. ⊎_elim (λ q. stays z (K1.comes z q)) (λ q. let A = (K2.comes z q).at in (A.action, (A.members, (A.place, A.runs, A.idle)))) (Memᴰ.append_cases w1 m);
              fresh = λ z m f. ⊎_elim (λ q. inl (came-fresh b k.states first.states z (K1.comes z q) f)) (λ q. one_of z (K2.comes z q) f) (Memᴰ.append_cases w1 m);
              listed = λ a z qs u m q i. ⊎_elim (λ e. inl (Memᴰ.append_right w1 e))
                  (λ e. ⊎_elim (λ f. inl (Memᴰ.append_left w2 f)) (λ f. inr (λ by. ⊎_elim f.0 e.0 by, f.1, f.2)) (K1.listed a z qs u m e.1 e.2)) (K2.listed a z qs u m q i);
            },
          ),
        )

  -- ---- of an order

  by-own : {r : ℕ} (y : ℕ) → RowOf (own r) y → y ≡ r
  by-own y of-own = refl

  own-by : {r : ℕ} (y : ℕ) → y ≡ r → RowOf (own r) y
  own-by y e = rw e of-own

  by-pass : {i o : ℕ} (y : ℕ) → RowOf (pass i o) y → (y ≡ i) ⊎ (y ≡ o)
  by-pass y of-input = inl refl
  by-pass y of_output = inr refl

  pass-by : {i o : ℕ} (y : ℕ) → (y ≡ i) ⊎ (y ≡ o) → RowOf (pass i o) y
  pass-by y (inl e) = rw e of-input
  pass-by y (inr e) = rw e of_output

  by-option : {r j : ℕ} (y : ℕ) → RowOf (take_option r j) y → y ≡ r
  by-option y of-alt = refl

  option-by : {r j : ℕ} (y : ℕ) → y ≡ r → RowOf (take_option r j) y
  option-by y e = rw e of-alt

  by_both : {r j o : ℕ} (y : ℕ) → RowOf (take_with_output r j o) y → (y ≡ r) ⊎ (y ≡ o)
  by_both y of-alt-input = inl refl
  by_both y of-alt-output = inr refl

  both_by : {r j o : ℕ} (y : ℕ) → (y ≡ r) ⊎ (y ≡ o) → RowOf (take_with_output r j o) y
  both_by y (inl e) = rw e of-alt-input
  both_by y (inr e) = rw e of-alt-output

  module _ (sheet : Sheet) (l : List Label) (s : State) (o : OrderOf rows sheet l s) (k : Kept) (long : row_count rows ≤ length k.states) (same : (r : ℕ) → get_or k.states r 0 ≡ get_or s.states r 0)
      (few : length k.states ≤ length k.left) (C : Counted (whole P) k) (room : Room 2048 2048 k.came) where
    S : SteadyCounted rows ok (length k.states) k
    S = begins rows ok sheet l s o k long same few C

    too : {b x v : ℕ} → At b x v s.states (whole P) → At b x v k.states (whole P)
    too h = here-too rows ok sheet l s o k long same few C h

    -- the rows that come to work by a step's changes
    pub step-came : {x : Label} {e : Effect} → Active (intent_at P sheet s) x e → (w : List ℕ) × ((u : List Block) × CameBy (RowOf x) (change_states e.changes k.states) k (changes_up_counted P e.changes k) w u)
    step-came (acts-alone {r} {x} {v} h) =
        let (a, d) = parts rows ok sheet l s o k long same few C (acts-alone h) in
        let (w, (u, K)) = one-came (length k.states) k S r x v (too a.0) room in
        (w, (u, same_by by-own own-by K))
    step-came (passes_on {i} {o = j} h g) =
        let (a, d) = parts rows ok sheet l s o k long same few C (passes_on h g) in
        let (w, (u, K)) = two-came (length k.states) k S i i 2 (too a.0) j j 2 d.0.0 (too a.1.0) room in
        (w, (u, same_by by-pass pass-by K))
    step-came (takes-open {r} {q} h g) =
        let (a, d) = parts rows ok sheet l s o k long same few C (takes-open h g) in
        let (w, (u, K)) = one-came (length k.states) k S r q 1 (too a.0) room in
        (w, (u, same_by by-option option-by K))
    step-came (takes-input {r} {o = j} {q} h g f) =
        let (a, d) = parts rows ok sheet l s o k long same few C (takes-input h g f) in
        let (w, (u, K)) = two-came (length k.states) k S r q 1 (too a.0) j j 2 d.0.0 (too a.1.0) room in
        (w, (u, same_by by_both both_by K))
