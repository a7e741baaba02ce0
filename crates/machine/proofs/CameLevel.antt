-- One level of settling upward: the rows that come to work by it, and that no other does; and the blocks that start.
use mathlib.Core.Path.{◌≡◌, refl, sym, ap, ap₂, subst, ◌∙◌}
use mathlib.Core.Logic.{◌≢◌, ◌⊎◌, inl, inr, ⊎_elim}
use mathlib.Core.Bool.{Bool, true, false, ◌||◌, or_comm, false≢true}
use mathlib.Core.List.Memᴰ
use mathlib.Core.List.{List, [], ◌∷◌, ◌++◌, append-nil, Memᴰ}
use Prim.Native.Nat.{ℕ, suc, ◌-◌, ◌+◌, ◌≤◌}
use native.Mathlib.Omega.{arith}
use lib.ListN.{length, get_or, set, length-set, length-append}
use lib.Seq.{get_or-set_other, get_or-set_same}
use lib.Dec.{eqb}
use Rattle.meaning.specs.Basics.{if_else}
use Rattle.meaning.specs.Declarations.{Variable}
use Rattle.meaning.specs.Tree.{Action, block, Process, node, Processes, empty, also, row_of, rows_in, rows_beneath}
use Rattle.meaning.specs.State.{state_of, make_idle}
use Rattle.meaning.specs.Settle.{Mode, in_turn, together, by_step, mode, is_ended, ends_when_closed, settle_running, local_of, begun, begun_each}
use Rattle.meaning.proofs.UnsetLaws.{holds_cell, holds-append, joined-left}
use Rattle.meaning.specs.SettlingRules.{Among}
use Rattle.agreement.proofs.Frame.{zeros-local, Off, row_in, off-look}
use Rattle.agreement.proofs.Again.{Out, Sound, SoundM, Idle, see-start, see-run, zeros-idle, sound-row}
use Rattle.agreement.proofs.Reach.{Agree, self, inside, front, back, sub_in, sub_m-in}
use Rattle.agreement.proofs.Inside.{sub-rows, sub_m-rows}
use Rattle.agreement.proofs.Begun.{not-idle, begun-none, begun-run, begun-over}
use Rattle.agreement.proofs.BlocksStarted.{OneProcess}
use Rattle.machine.specs.Upward.{processes_after, reset_members}
use Rattle.machine.specs.Counts.{Kept, kept_of, comes_to, state_set, remain, start_row, start_members, goes_on_counted}
use Rattle.machine.specs.Came.{Distinct}
use Rattle.machine.proofs.Resets.{reset-members}
use Rattle.machine.proofs.OneLevel.{sound-after, after_first, after-later, T, E, Walks, begun_up, goes-begun}
use Rattle.machine.proofs.Counting.{within-remain, among-rows, after-rows}
use Rattle.machine.proofs.Starting.{started, started-members}
use Rattle.machine.proofs.AtOnce.{at_once, told}
use Rattle.machine.proofs.ComeToWork.{starts_work, member_work, Block, rows_of, variables_of, starts_blocks, member_blocks, In, InM, at-node, AtWork, works, works-members, moved-work}
use Rattle.machine.proofs.CountedLevel.{Reached}
use Rattle.machine.proofs.CameLists.{Room, Lists, lists-one, lists-none, lists-both, room_after, room-less}
use Rattle.machine.proofs.CameStarts.{ended-quiet, members-quiet, starts-short, members-short, starts-distinct, members-distinct, remain-came, rows_append, rows-length, starts-few, members-few, start-lists, members-list}
use Rattle.machine.proofs.BegunStarts.{local-none-or, variables-append, Stands, starts-stand, members-stand, starts-begun, members-begun}

-- a process that has run is not idle
ran : (p : Process) (n : ℕ) → Sound p n → (s : List ℕ) → length s ≡ n → state_of s p ≡ 1 → state_of (settle_running p s) p ≢ 0
ran p n d s l e z = let (j, q) = not-idle p n d s l e in omega (arith, q)

-- ---- where a process stands among members

pub among-sub : {c : Process} (ms : Processes) → Among c ms → (a : Action) (y : ℕ) (qs : Processes) → In c a y qs → InM ms a y qs
among-sub {c = c} empty x'' a y qs u = elim x'' [ ]
among-sub (also p ms) Among.among_first a y qs u = front u
among-sub (also p ms) (Among.among_later m) a y qs u = back (among-sub ms m a y qs u)

pub among-length : {c : Process} (ms : Processes) → Among c ms → length (rows_in c) ≤ length (rows_beneath ms)
among-length {c = c} empty x' = elim x' [ ]
among-length (also p ms) Among.among_first = omega (arith, length-append (rows_in p) (rows_beneath ms))
among-length (also p ms) (Among.among_later m) = omega (arith, length-append (rows_in p) (rows_beneath ms), among-length ms m)

-- it stands in member c, or has no row in common with it
in-member : (n : ℕ) {c : Process} (ms : Processes) → SoundM ms n → Among c ms → (a : Action) (y : ℕ) (qs : Processes) → InM ms a y qs → In c a y qs ⊎ Off (y ∷ rows_beneath qs) (rows_in c)
in-member n {c = c} empty d x3 a y qs _ = elim x3 [ ]
in-member n (also p ms) d Among.among_first a y qs (front u) = inl u
in-member n (also p ms) d Among.among_first a y qs (back u) = inr (λ z m q. d.2 z q (sub_m-rows m ms u))
in-member n (also p ms) d (Among.among_later h) a y qs (front u) = inr (λ z m q. d.2 z (sub-rows m p u) (among-rows ms h z q))
in-member n (also p ms) d (Among.among_later h) a y qs (back u) = in-member n ms d.1 h a y qs u

-- it stands in a member after the one of row c, or has no row in common with those
in_after : (n c : ℕ) (ms : Processes) → SoundM ms n → (a : Action) (y : ℕ) (qs : Processes) → InM ms a y qs → InM (processes_after c ms) a y qs ⊎ Off (y ∷ rows_beneath qs) (rows_beneath (processes_after c ms))
in_after n c empty d a y qs x'' = elim x'' [ ]
in_after n c (also p ms) d a y qs (front u) = inr (λ z m q. d.2 z (sub-rows m p u) (go (eqb c (row_of p)) (after-rows c ms z) q))
  where
    go : {z : ℕ} (t : Bool) → (Memᴰ z (rows_beneath (processes_after c ms)) → Memᴰ z (rows_beneath ms)) → Memᴰ z (rows_beneath (if_else t ms (processes_after c ms))) → Memᴰ z (rows_beneath ms)
    go true f q = q
    go false f q = f q
in_after n c (also p ms) d a y qs (back u) = go (eqb c (row_of p)) (in_after n c ms d.1 a y qs u)
  where
    go : (t : Bool) → InM (processes_after c ms) a y qs ⊎ Off (y ∷ rows_beneath qs) (rows_beneath (processes_after c ms))
        → InM (if_else t ms (processes_after c ms)) a y qs ⊎ Off (y ∷ rows_beneath qs) (rows_beneath (if_else t ms (processes_after c ms)))
    go true h = inl u
    go false h = h

after-sub : (c : ℕ) (ms : Processes) (a : Action) (y : ℕ) (qs : Processes) → InM (processes_after c ms) a y qs → InM ms a y qs
after-sub c empty a y qs u = u
after-sub c (also p ms) a y qs u = back (go (eqb c (row_of p)) (after-sub c ms a y qs) u)
  where
    go : (t : Bool) → (InM (processes_after c ms) a y qs → InM ms a y qs) → InM (if_else t ms (processes_after c ms)) a y qs → InM ms a y qs
    go true f u = u
    go false f u = f u

after-length : (c : ℕ) (ms : Processes) → length (rows_beneath (processes_after c ms)) ≤ length (rows_beneath ms)
after-length c empty = omega arith
after-length c (also p ms) = go (eqb c (row_of p)) (after-length c ms)
  where
    go : (t : Bool) → length (rows_beneath (processes_after c ms)) ≤ length (rows_beneath ms) → length (rows_beneath (if_else t ms (processes_after c ms))) ≤ length (rows_in p ++ rows_beneath ms)
    go true h = omega (arith, length-append (rows_in p) (rows_beneath ms))
    go false h = omega (arith, length-append (rows_in p) (rows_beneath ms))

-- a member has no row in common with those after it
after-off : (n : ℕ) (c : Process) (ms : Processes) → SoundM ms n → Among c ms → Off (rows_in c) (rows_beneath (processes_after (row_of c) ms))
after-off n c empty d x'' = elim x'' [ ]
after-off n c (also p ms) d Among.among_first = subst (λ (qs : Processes). Off (rows_in p) (rows_beneath qs)) (sym (after_first p ms)) d.2
after-off n c (also p ms) d (Among.among_later h) =
    subst (λ (qs : Processes). Off (rows_in c) (rows_beneath qs)) (sym (after-later p ms (row_of c) (λ e. d.2 (row_of p) (row_in p) (Memᴰ.cast (sym e) (among-rows ms h (row_of c) (row_in c)))))) (after-off n c ms d.1 h)

-- a member and those after it have no more rows than all members
after_both : (n : ℕ) (c : Process) (ms : Processes) → SoundM ms n → Among c ms → length (rows_in c) + length (rows_beneath (processes_after (row_of c) ms)) ≤ length (rows_beneath ms)
after_both n c empty d x'' = elim x'' [ ]
after_both n c (also p ms) d Among.among_first = rw (after_first p ms) (omega (arith, length-append (rows_in p) (rows_beneath ms)))
after_both n c (also p ms) d (Among.among_later h) =
    let later = after-later p ms (row_of c) (λ e. d.2 (row_of p) (row_in p) (Memᴰ.cast (sym e) (among-rows ms h (row_of c) (row_in c)))) in
    rw later (omega (arith, length-append (rows_in p) (rows_beneath ms), after_both n c ms d.1 h))

-- after the one process of a block there is none
after-only : {c : Process} (q : Process) → Among c (also q empty) → processes_after (row_of c) (also q empty) ≡ empty
after-only q Among.among_first = after_first q empty
after-only q (Among.among_later a) = elim a [ ]

-- ---- the rows that come to work by a change that row b makes in s

module _ (b : ℕ) (s : List ℕ) where
  -- row y was at work before, and is another one than b
  abbrev pub Was : ℕ → Processes → Type 0
  Was y qs = (y ≢ b) × (get_or s y 0 ≡ 1) × Idle (rows_beneath qs) s

  -- row y is at work, and was not before, unless it is row b
  pub record Comer (F : Action → ℕ → Processes → Type 0) (t : List ℕ) (y : ℕ) : Type 0 where
    pub at : AtWork F t y
    pub fresh : get_or s y 0 ≡ 1 → Idle (rows_beneath at.members) s → y ≡ b

  -- in process p, of which row x has become v: w are the rows that have come to work, u the blocks that have started
  pub record CameIn (x v : ℕ) (ca : List ℕ) (p : Process) (j : Kept) (w : List ℕ) (u : List Block) : Type 0 where
    pub lists : Lists w (rows_of u) ca j.came
    pub short : length w ≤ length (rows_in p)
    pub few : length u ≤ length (rows_in p)
    pub stand : (y : Block) → Memᴰ y u → Stands (In p) y
    -- settling starts the blocks of the same cells
    pub begins : (a : ℕ) → holds_cell a (variables_of u) ≡ holds_cell a (begun p false (set s x v))
    pub once : Distinct w
    -- where the process has ended, no row has come to work
    pub quiet : is_ended (state_of j.states p) ≡ true → w ≡ []
    pub busy : state_of j.states p ≢ 0
    pub comes : (y : ℕ) → Memᴰ y w → Comer (In p) j.states y
    -- a row that is at work has come, or was at work before
    pub listed : (a : Action) (y : ℕ) (qs : Processes) → In p a y qs → mode a ≡ by_step → get_or j.states y 0 ≡ 1 → Idle (rows_beneath qs) j.states → Memᴰ y w ⊎ Was y qs

  module _ (ca : List ℕ) where
    -- the row that is changed ends or stops
    pub over-came : (n : ℕ) (lf : List ℕ) → length s ≡ n → (k : Action) (r : ℕ) (ms : Processes) → Sound (node k r ms) n → (v i : ℕ) → v ≡ suc (suc i) → Idle (rows_beneath ms) s
        → CameIn r v ca (node k r ms) (state_set r v (kept_of s lf ca)) [] []
    over-came n lf l k r ms d v i ev h =
        let own : get_or (set s r v) r 0 ≡ v = get_or-set_same s r v 0 (rw l d.0) in
        record {
          lists = lists-none ca;
          short = omega arith;
          few = omega arith;
          stand = λ y q. absurd (Memᴰ.not-nil q);
          begins = λ a. ap (holds_cell a) (sym (begun-over (node k r ms) false (set s r v) i (own ∙ ev)));
          once = tt;
          quiet = λ q. refl;
          busy = λ z. omega arith;
          comes = λ y q. absurd (Memᴰ.not-nil q);
          listed = at-node (λ a y qs. mode a ≡ by_step → get_or (set s r v) y 0 ≡ 1 → Idle (rows_beneath qs) (set s r v) → Memᴰ y [] ⊎ Was y qs) k r ms (λ m q f. absurd (omega arith))
              (λ a y qs u m q f. absurd (omega (arith, get_or-set_other s r y v 0 (λ z. d.1 (Memᴰ.cast (sym z) (sub_m-in ms u))), h y (sub_m-in ms u))));
        }

    -- it starts
    pub start-came : (n : ℕ) (lf : List ℕ) → length s ≡ n → n ≤ length lf → (p : Process) → Sound p n → OneProcess p → Idle (rows_in p) s → Room (length (rows_in p)) (length (rows_in p)) ca
        → CameIn (row_of p) 1 ca p (start_row p (kept_of s lf ca)) (starts_work p) (starts_blocks p)
    start-came n lf l few p d one i R =
        let k = kept_of s lf ca in
        let S = started n p d k l few i in
        let W = works n p d k l few i in
        let row = row_of p in
        record {
          lists = start-lists n p d k l few i (room-less (starts-short p) (starts-few p) R);
          short = starts-short p;
          few = starts-few p;
          stand = starts-stand p;
          begins = λ a. ap (holds_cell a) (sym (begun-run p false (set s row 1) (get_or-set_same s row 1 0 (rw l (sound-row p n d))) ∙ starts-begun n p d one s l i));
          once = starts-distinct p n d;
          quiet = λ q. ended-quiet p (sym (at_once n p d s l i) ∙ ap (λ (t : List ℕ). is_ended (state_of t p)) (sym S.states-are) ∙ q);
          busy = λ z.
              ran p n d (set s row 1) (length-set s row 1 ∙ l) (get_or-set_same s row 1 0 (rw l (sound-row p n d)))
              (ap (λ (t : List ℕ). state_of t p) (sym (S.states-are ∙ see-start p s (i row (row_in p)))) ∙ z);
          comes = λ y q. let A = W.working y q in record { at = A; fresh = λ e f. absurd (omega (arith, i y (sub_in p A.place))) };
          listed = λ a y qs u m q f. inl (W.listed a y qs u m q);
        }

-- ---- from a member to its process

module _ (b x v : ℕ) (s lf ca : List ℕ) (n : ℕ) (l : length s ≡ n) (few : n ≤ length lf) (k : Action) (r : ℕ) (ms : Processes) (c : Process) (d : Sound (node k r ms) n) (A : Among c ms) (e : get_or s r 0 ≡ 1)
    (one : get_or s b 0 ≡ 1) (B : (r ≡ b) ⊎ Memᴰ b (rows_in c)) (j : Kept) (Z : Reached x v s lf ca c j) (w : List ℕ) (u : List Block) (K : CameIn b s x v ca c j w u)
    (W : Walks x v s (mode k) ms c) (g : get_or (set s x v) r 0 ≡ 1) where
  own_runs : get_or j.states r 0 ≡ 1
  own_runs = Z.within.states-other r (λ q. d.1 (among-rows ms A r q)) ∙ e

  -- row b is r, or stands in c
  not-by : (a : Action) (y : ℕ) (qs : Processes) → InM ms a y qs → Off (y ∷ rows_beneath qs) (rows_in c) → y ≢ b
  not-by a y qs u o z = ⊎_elim (λ f. d.1 (Memᴰ.cast (f ∙ sym z) (sub_m-in ms u))) (λ m. o y (Memᴰ.head refl) (Memᴰ.cast z m)) B

  -- a row that is at work in t, whose process has the states there that it had in j
  carried : (t : List ℕ) (a : Action) (y : ℕ) (qs : Processes) → InM ms a y qs → mode a ≡ by_step → Agree (y ∷ rows_beneath qs) j.states t → get_or t y 0 ≡ 1 → Idle (rows_beneath qs) t → Memᴰ y w ⊎ Was b s y qs
  carried t a y qs u m g q i =
      let own : get_or j.states y 0 ≡ 1 = sym (g y (Memᴰ.head refl)) ∙ q in
      let beneath : Idle (rows_beneath qs) j.states = λ z h. sym (g z (Memᴰ.tail h)) ∙ i z h in
      ⊎_elim (λ h. K.listed a y qs h m own beneath)
      (λ o. inr (not-by a y qs u o, sym (Z.within.states-other y (o y (Memᴰ.head refl))) ∙ own, λ z h. sym (Z.within.states-other z (o z (Memᴰ.tail h))) ∙ beneath z h))
      (in-member n ms d.2 A a y qs u)

  -- the blocks that start in the process: those in the member, and those after it
  begins-with : (us : List Variable) → ((a : ℕ) → holds_cell a us ≡ holds_cell a (begun_up (mode k) (E x v s c) (row_of c) ms (local_of k) (T x v s c)))
      → (a : ℕ) → (holds_cell a (variables_of u) || holds_cell a us) ≡ holds_cell a (begun (node k r ms) false (set s x v))
  begins-with us h a =
      ap₂ (λ (p q : Bool). p || q) (K.begins a) (h a) ∙ or_comm (holds_cell a (begun c false (set s x v))) (holds_cell a (begun_up (mode k) (E x v s c) (row_of c) ms (local_of k) (T x v s c)))
      ∙ (goes-begun x v s k r ms c W g).cell a

  -- no more of them
  abbrev NoMore : Type 0
  NoMore = begun_up (mode k) (E x v s c) (row_of c) ms (local_of k) (T x v s c) ≡ []

  begins-same : NoMore → (a : ℕ) → holds_cell a (variables_of u) ≡ holds_cell a (begun (node k r ms) false (set s x v))
  begins-same h a = K.begins a ∙ sym ((joined-left (begun c false (set s x v)) h).cell a) ∙ (goes-begun x v s k r ms c W g).cell a

  stands-in : (y : Block) → Memᴰ y u → Stands (In (node k r ms)) y
  stands-in y m = let (qs, h) = K.stand y m in (qs, inside (among-sub ms A (block y.variable) y.row qs h))

  blocks-few : length u ≤ length (rows_in (node k r ms))
  blocks-few = omega (arith, K.few, among-length ms A)

  none-up : (m : Mode) → begun_up m false (row_of c) ms (local_of k) (T x v s c) ≡ []
  none-up in_turn = refl
  none-up together = refl
  none-up by_step = refl

  -- the member has not ended
  pub runs-came : E x v s c ≡ false → CameIn b s x v ca (node k r ms) j w u
  runs-came f =
      record {
        lists = K.lists;
        short = omega (arith, K.short, among-length ms A);
        few = blocks-few;
        stand = stands-in;
        begins = begins-same (ap (λ (t : Bool). begun_up (mode k) t (row_of c) ms (local_of k) (T x v s c)) f ∙ none-up (mode k));
        once = K.once;
        quiet = λ q. absurd (false≢true (sym (ap is_ended own_runs) ∙ q));
        busy = λ z. omega (arith, own_runs);
        comes = λ y q. let X = K.comes y q in
            record { at = moved-work (In c) (In (node k r ms)) (λ a y qs u. inside (among-sub ms A a y qs u)) j.states y X.at; fresh = X.fresh };
        listed = at-node (λ a y qs. mode a ≡ by_step → get_or j.states y 0 ≡ 1 → Idle (rows_beneath qs) j.states → Memᴰ y w ⊎ Was b s y qs) k r ms
            (λ m q i. absurd (K.busy (i (row_of c) (among-rows ms A (row_of c) (row_in c))))) (λ a y qs u m q i. carried j.states a y qs u m (λ z h. refl) q i);
      }

  -- the member has ended
  module _ (single : OneProcess (node k r ms)) (q : E x v s c ≡ true) where
    none_came : w ≡ []
    none_came = K.quiet (ap (λ (u : List ℕ). is_ended (state_of u c)) Z.states-are ∙ q)

    list_same : Lists [] (rows_of u) ca j.came
    list_same = subst (λ (w : List ℕ). Lists w (rows_of u) ca j.came) none_came K.lists

    stood : (t : List ℕ) (a : Action) (y : ℕ) (qs : Processes) → InM ms a y qs → mode a ≡ by_step → Agree (y ∷ rows_beneath qs) j.states t → get_or t y 0 ≡ 1 → Idle (rows_beneath qs) t → Was b s y qs
    stood t a y qs u m g z i = ⊎_elim (λ h. absurd (Memᴰ.not-nil (subst (Memᴰ y) none_came h))) (λ h. h) (carried t a y qs u m g z i)

    not_own : (a : Action) (y : ℕ) (qs : Processes) → InM ms a y qs → (z : ℕ) → Memᴰ z (y ∷ rows_beneath qs) → z ≢ r
    not_own a y qs u z h f = d.1 (Memᴰ.cast (sym f) (sub_m-rows h ms u))

    apart : (R : List ℕ) (a : Action) (y : ℕ) (qs : Processes) → InM ms a y qs → Off (y ∷ rows_beneath qs) R → (z : ℕ) → Memᴰ z (y ∷ rows_beneath qs) → Out z (r ∷ R)
    apart R a y qs u o z h (Memᴰ.head f) = not_own a y qs u z h f
    apart R a y qs u o z h (Memᴰ.tail g) = o z h g

    -- no row comes to work where the process itself, not at work, is all that changes
    own_alone : (i : Kept) → Lists [] (rows_of u) ca i.came → NoMore → get_or i.states r 0 ≢ 0 → ((y : ℕ) → y ≢ r → get_or i.states y 0 ≡ get_or j.states y 0) → (mode k ≡ by_step → get_or i.states r 0 ≡ 1 → ⊥) → CameIn b s x v ca (node k r ms) i [] u
    own_alone i L no_more nz other rest =
        record {
          lists = L;
          short = omega arith;
          few = blocks-few;
          stand = stands-in;
          begins = begins-same no_more;
          once = tt;
          quiet = λ z. refl;
          busy = nz;
          comes = λ y h. absurd (Memᴰ.not-nil h);
          listed = at-node (λ a y qs. mode a ≡ by_step → get_or i.states y 0 ≡ 1 → Idle (rows_beneath qs) i.states → Memᴰ y [] ⊎ Was b s y qs) k r ms (λ m z f. absurd (rest m z))
              (λ a y qs u m z f. inr (stood i.states a y qs u m (λ z h. other z (not_own a y qs u z h)) z f));
        }

    -- the blocks that start in the members after it
    up-begun : mode k ≡ in_turn → Idle (rows_beneath (processes_after (row_of c) ms)) j.states
        → begun_up (mode k) (E x v s c) (row_of c) ms (local_of k) (T x v s c) ≡ variables_of (member_blocks (processes_after (row_of c) ms) false)
    up-begun f later =
        ap₂ (λ (m : Mode) (t : Bool). begun_up m t (row_of c) ms (local_of k) (T x v s c)) f q ∙ ap (begun_each (processes_after (row_of c) ms) in_turn (local_of k)) (sym Z.states-are) ∙ go (local-none-or k)
      where
        next : Processes
        next = processes_after (row_of c) ms

        go : (local_of k ≡ []) ⊎ ((v : Variable) × (k ≡ block v)) → begun_each next in_turn (local_of k) j.states ≡ variables_of (member_blocks next false)
        go (inl e) =
            ap (λ (vs : List Variable). begun_each next in_turn vs j.states) e
            ∙ members-begun n next (sound-after (row_of c) n ms d.2) (λ v r qs h. single v r qs (inside (after-sub (row_of c) ms (block v) r qs h))) false j.states (Z.within.states-size ∙ l) later
        go (inr (v, e)) =
            let (p, z) = single v r ms (subst (λ (a : Action). In (node k r ms) a r ms) e self) in
            let none : next ≡ empty = ap (processes_after (row_of c)) z ∙ after-only p (subst (Among c) z A) in
            ap (λ (qs : Processes). begun_each qs in_turn (local_of k) j.states) none ∙ begun-none in_turn (local_of k) j.states ∙ ap (λ (qs : Processes). variables_of (member_blocks qs false)) (sym none)

    -- a SEQ starts the next members
    seq-came : mode k ≡ in_turn → Idle (rows_beneath (processes_after (row_of c) ms)) j.states → get_or (start_members (processes_after (row_of c) ms) false r 0 j).states r 0 ≢ 0 → Room (suc (length (rows_beneath ms))) (suc (length (rows_beneath ms))) ca
        → CameIn b s x v ca (node k r ms) (start_members (processes_after (row_of c) ms) false r 0 j) (member_work (processes_after (row_of c) ms) false) (u ++ member_blocks (processes_after (row_of c) ms) false)
    seq-came f later nz R =
        let next = processes_after (row_of c) ms in
        let work = member_work next false in
        let t = (start_members next false r 0 j).states in
        let D = sound-after (row_of c) n ms d.2 in
        let out : Out r (rows_beneath next) = λ z. d.1 (after-rows (row_of c) ms r z) in
        let size : length j.states ≡ n = Z.within.states-size ∙ l in
        let left : n ≤ length j.left = rw Z.within.left-size few in
        let M = started-members n next D false r 0 d.0 out j size left later in
        let X = works-members n next D false r 0 d.0 out j size left later in
        let blocks = member_blocks next false in
        let few-more = members-short next false in
        let few-blocks = members-few next false in
        let fewer = after-length (row_of c) ms in
        let together = after_both n c ms d.2 A in
        let old = rows-length u in
        let own-few = K.few in
        record {
          lists = subst (λ (z : List ℕ). Lists work z ca (start_members next false r 0 j).came) (sym (rows_append u blocks))
              (lists-both list_same (members-list n next D false r 0 d.0 out j size left later (room_after (length work) (length blocks) list_same (room-less (omega arith) (omega arith) R))));
          short = omega arith;
          few = omega (arith, length-append u blocks);
          stand = λ y m. ⊎_elim (stands-in y) (λ h. let (qs, o) = members-stand next false y h in (qs, inside (after-sub (row_of c) ms (block y.variable) y.row qs o))) (Memᴰ.append_cases u m);
          begins = λ a. ap (holds_cell a) (variables-append u blocks) ∙ holds-append a (variables_of u) (variables_of blocks) ∙ begins-with (variables_of blocks) (λ a. ap (holds_cell a) (sym (up-begun f later))) a;
          once = members-distinct next n D false;
          quiet = λ z. members-quiet next false (sym (told n next D r out j.states size d.0 own_runs later).ended ∙ ap (λ (u : List ℕ). is_ended (get_or u r 0)) (sym (M.states-are refl)) ∙ z);
          busy = nz;
          comes = λ y h. let Y = X.working y h in
              let m = sub_m-in next Y.place in
              record {
                at = moved-work (InM next) (In (node k r ms)) (λ a y qs u. inside (after-sub (row_of c) ms a y qs u)) t y Y;
                fresh = λ z i. absurd (omega (arith, later y m, Z.within.states-other y (λ g. after-off n c ms d.2 A y g m)));
              };
          listed = at-node (λ a y qs. mode a ≡ by_step → get_or t y 0 ≡ 1 → Idle (rows_beneath qs) t → Memᴰ y work ⊎ Was b s y qs) k r ms (λ m z i. let g : ◌≡◌ {A = ℕ} 0 1 = cc in absurd (omega arith))
              (λ a y qs u m z i. ⊎_elim (λ h. inl (X.listed a y qs h m z)) (λ o. inr (stood t a y qs u m (λ x h. M.within.states-other x (apart (rows_beneath next) a y qs u o x h)) z i)) (in_after n (row_of c) ms d.2 a y qs u));
        }

    -- a WHILE comes to work again
    while-came : mode k ≡ by_step → reset_members ms j.states ≡ make_idle (rows_beneath ms) j.states → Room (suc (length (rows_beneath ms))) (suc (length (rows_beneath ms))) ca
        → CameIn b s x v ca (node k r ms) (goes_on_counted by_step false r (row_of c) ms j) (r ∷ []) u
    while-came f idles R =
        let t = reset_members ms j.states in
        let beneath : Idle (rows_beneath ms) t = rw idles (zeros-idle (rows_beneath ms) j.states) in
        let own : get_or t r 0 ≡ 1 = rw idles (off-look (zeros-local (rows_beneath ms)) j.states r d.1) ∙ own_runs in
        let X : Comer b s (In (node k r ms)) t r = record {
          at = record { action = k; members = ms; place = self; by-step = f; runs = own; idle = beneath };
          fresh = λ z i. ⊎_elim (λ g. g) (λ m. absurd (omega (arith, i b (among-rows ms A b m), one))) B;
        } in
        record {
          lists = subst (λ (z : List ℕ). Lists (r ∷ []) z ca (comes_to r j.came)) (append-nil (rows_of u))
              (lists-both list_same (lists-one r j.came (room_after 1 0 list_same (room-less (omega arith) (omega (arith, rows-length u, blocks-few)) R))));
          short = omega arith;
          few = blocks-few;
          stand = stands-in;
          begins = begins-same (ap (λ (m : Mode). begun_up m (E x v s c) (row_of c) ms (local_of k) (T x v s c)) f);
          once = (Memᴰ.not-nil, tt);
          quiet = λ z. absurd (false≢true (sym (ap is_ended own) ∙ z));
          busy = λ z. omega arith;
          comes = λ y h. subst (Comer b s (In (node k r ms)) t) (sym (Memᴰ.eq_of_singleton h)) X;
          listed = at-node (λ a y qs. mode a ≡ by_step → get_or t y 0 ≡ 1 → Idle (rows_beneath qs) t → Memᴰ y (r ∷ []) ⊎ Was b s y qs) k r ms (λ m z i. inl (Memᴰ.head refl))
              (λ a y qs u m z i. absurd (omega (arith, beneath y (sub_m-in ms u))));
        }

    goes : (m : Mode) (t : Bool) → mode k ≡ m → Walks x v s m ms c → get_or (goes_on_counted m t r (row_of c) ms j).states r 0 ≢ 0 → Room (suc (length (rows_beneath ms))) (suc (length (rows_beneath ms))) ca
        → (w : List ℕ) × ((u : List Block) × CameIn b s x v ca (node k r ms) (goes_on_counted m t r (row_of c) ms j) w u)
    goes in_turn t f X nz R = (member_work (processes_after (row_of c) ms) false, (u ++ member_blocks (processes_after (row_of c) ms) false, seq-came f (rw Z.states-are X.later) nz R))
    goes together t f X nz R =
        let i = get_or j.left r 0 - 1 in (
          [],
          (u, own_alone (remain r i j) (rw (remain-came r i j) list_same) (ap (λ (m : Mode). begun_up m (E x v s c) (row_of c) ms (local_of k) (T x v s c)) f) nz (λ y h. (within-remain [] r i j).states-other y (λ m. h (Memᴰ.eq_of_singleton m))) (λ m z. let g : ◌≡◌ {A = ℕ} 0 1 = cc in absurd (omega arith))),
        )
    goes by_step true f X nz R =
        ([], (u, own_alone (state_set r 2 j) list_same (ap (λ (m : Mode). begun_up m (E x v s c) (row_of c) ms (local_of k) (T x v s c)) f) nz (λ y h. get_or-set_other j.states r y 2 0 h) (λ m z. omega (arith, get_or-set_same j.states r 2 0 (rw (Z.within.states-size, l) d.0)))))
    goes by_step false f X nz R = (r ∷ [], (u, while-came f (reset-members n ms d.2 by_step j.states (rw Z.states-are X.later)) R))

    pub goes-came : Reached x v s lf ca (node k r ms) (goes_on_counted (mode k) (ends_when_closed k) r (row_of c) ms j) → Room (suc (length (rows_beneath ms))) (suc (length (rows_beneath ms))) ca
        → (w : List ℕ) × ((u : List Block) × CameIn b s x v ca (node k r ms) (goes_on_counted (mode k) (ends_when_closed k) r (row_of c) ms j) w u)
    goes-came Y =
        goes (mode k) (ends_when_closed k) refl W
        (λ z. ran (node k r ms) n d (set s x v) (length-set s x v ∙ l) g (ap (λ (t : List ℕ). get_or t r 0) (sym (Y.states-are ∙ see-run (node k r ms) false (set s x v) g)) ∙ z))
