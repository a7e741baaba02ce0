-- The blocks that start in settling: which row states decide them, none start when a process settles again, and to settle before a store starts no other blocks in all.
use mathlib.Core.Path.{◌≡◌, refl, sym, ap, ◌∙◌}
use mathlib.Core.Bool.{Bool, true, false}
use mathlib.Core.List.Memᴰ
use mathlib.Core.List.{List, [], ◌++◌, Memᴰ}
use Prim.Native.Nat.{ℕ, zero, suc, ◌<◌}
use lib.ListN.{length, get_or, set, length-set}
use lib.Seq.{set_comm, get_or-set_same, get_or-set_other}
use Rattle.meaning.specs.Tree.{Action, block, Process, node, Processes, empty, also, row_of, rows_in, rows_beneath, alternation, loop, conditional, output, input, assign, parallel, sequence, skip, stop}
use Rattle.meaning.specs.Declarations.{Variable}
use Rattle.meaning.specs.State.{state_of, make_idle}
use Rattle.meaning.specs.Settle.{states_of, Mode, by_step, mode, starts, next_mode, complete, ends_when_closed, settle_running, settle_each, settle, local_of, if_started, visit_begun, begun_running, begun_each, begun}
use Rattle.meaning.proofs.UnsetLaws.{Joined, joined-left, joined-right, joined-append}
use Rattle.agreement.proofs.Frame.{body-shape, row_in, walk-local, see-local, zeros-local, Off, length-local, off-look, off-put, swap, Sim, Local, sub-left, sub-right, sub-tail}
use Rattle.agreement.proofs.Again.{Out, Sound, SoundM, sound-row, Idle, see-idle, see-start, see-run, see-over, zeros-idle, loop-never, Under, UnderB, low_b, same_b, under-starts, see-again, after, under-after, walk_after, after-eq, again}

-- ---- the definitions as equations

pub begun-node : (k : Action) (r : ℕ) (ms : Processes) (s : List ℕ) → begun_running (node k r ms) s ≡ begun_each ms (mode k) (local_of k) s
unfolding begun_running
begun-node k r ms s = refl

pub begun-none : (m : Mode) (vs : List Variable) (s : List ℕ) → begun_each empty m vs s ≡ []
unfolding begun_running
begun-none m vs s = refl

pub begun-also : (p : Process) (ms : Processes) (m : Mode) (vs : List Variable) (s : List ℕ)
    → begun_each (also p ms) m vs s ≡ if_started (state_of s p) (starts m) vs ++ (begun p (starts m) s ++ begun_each ms (after p m s) vs (settle p (starts m) s))
unfolding begun_running begun after
begun-also p ms m vs s = refl

-- the same, with how the walk goes on
pub begun-members : (p : Process) (ms : Processes) (m : Mode) (vs : List Variable) (s : List ℕ) → let t = settle p (starts m) s in
    begun_each (also p ms) m vs s ≡ if_started (state_of s p) (starts m) vs ++ (begun p (starts m) s ++ begun_each ms (next_mode m (state_of t p)) vs t)
unfolding after
begun-members = begun-also

-- the variable of an action is that of a block
pub local-is : (k : Action) (v : Variable) → Memᴰ v (local_of k) → k ≡ block v
local-is (block w) v (Memᴰ.tail x15) = elim x15 [ ]
local-is (alternation _) v x11 = elim x11 [ ]
local-is (loop _ _) v x11 = elim x11 [ ]
local-is (conditional _) v x9 = elim x9 [ ]
local-is (output _ _ _) v x10 = elim x10 [ ]
local-is (input _) v x7 = elim x7 [ ]
local-is (assign _ _ _) v x8 = elim x8 [ ]
local-is parallel v x4 = elim x4 [ ]
local-is sequence v x3 = elim x3 [ ]
local-is skip v x'' = elim x'' [ ]
local-is stop v x' = elim x' [ ]
local-is (block w) v (Memᴰ.head e) = ap block (sym e)

pub begun-idle : (p : Process) (s : List ℕ) → state_of s p ≡ 0 → begun p false s ≡ []
unfolding begun
begun-idle p s e = rw e

pub begun-start : (p : Process) (s : List ℕ) → state_of s p ≡ 0 → begun p true s ≡ begun_running p (set s (row_of p) 1)
unfolding begun
begun-start p s e = rw e

pub begun-run : (p : Process) (b : Bool) (s : List ℕ) → state_of s p ≡ 1 → begun p b s ≡ begun_running p s
unfolding begun
begun-run p b s e = rw e

pub begun-over : (p : Process) (b : Bool) (s : List ℕ) (n : ℕ) → state_of s p ≡ suc (suc n) → begun p b s ≡ []
unfolding begun
begun-over p b s n e = rw e

-- ---- the rows of a process decide which blocks start in it

-- f reads the rows of R alone
pub record Reads (R : List ℕ) (f : List ℕ → List Variable) : Type 1 where
  pub same : (rel : List ℕ → List ℕ → Type 0) → Sim R rel → (s t : List ℕ) → rel s t → f s ≡ f t

module _ {rel : List ℕ → List ℕ → Type 0} where
  visit-reads : (n : ℕ) (b : Bool) (p : Process) → Sim (rows_in p) rel → ((s t : List ℕ) → rel s t → begun_running p s ≡ begun_running p t)
      → (s t : List ℕ) → rel s t → visit_begun n b (row_of p) (begun_running p) s ≡ visit_begun n b (row_of p) (begun_running p) t
  visit-reads zero true p S g s t h = g (set s (row_of p) 1) (set t (row_of p) 1) (S.put (row_of p) 1 (row_in p) h)
  visit-reads zero false p S g s t h = refl
  visit-reads (suc zero) b p S g s t h = g s t h
  visit-reads (suc (suc n)) b p S g s t h = refl

  begun-sim : (b : Bool) (p : Process) → Sim (rows_in p) rel → ((s t : List ℕ) → rel s t → begun_running p s ≡ begun_running p t)
      → (s t : List ℕ) → rel s t → begun p b s ≡ begun p b t
  unfolding begun
  begun-sim b p S g s t h = rw (S.look (row_of p) (row_in p) h) (visit-reads (state_of t p) b p S g s t h)

  mutual
    running-sim : (p : Process) → Sim (rows_in p) rel → (s t : List ℕ) → rel s t → begun_running p s ≡ begun_running p t
    running-sim (node k r ms) S s t h = rw (begun-node k r ms s, begun-node k r ms t) (each-sim ms (sub-tail r (rows_beneath ms) S) (mode k) (local_of k) s t h)

    each-sim : (ms : Processes) → Sim (rows_beneath ms) rel → (m : Mode) (vs : List Variable) (s t : List ℕ) → rel s t → begun_each ms m vs s ≡ begun_each ms m vs t
    each-sim empty S m vs s t h = simp begun-none
    each-sim (also p ms) S m vs s t h =
        let P = sub-left (rows_in p) (rows_beneath ms) S in
        let q = (see-local p (starts m)).keeps rel P s t h in
        rw (
          begun-also p ms m vs s,
          begun-also p ms m vs t,
          P.look (row_of p) (row_in p) h,
          begun-sim (starts m) p P (λ u v e. running-sim p P u v e) s t h,
          after-eq p m s t (P.look (row_of p) (row_in p) q),
          each-sim ms (sub-right (rows_in p) (rows_beneath ms) S) (after p m t) vs (settle p (starts m) s) (settle p (starts m) t) q,
        )

pub begun-reads : (p : Process) (b : Bool) → Reads (rows_in p) (begun p b)
begun-reads p b = record { same = λ rel S. begun-sim b p S (λ u v e. running-sim p S u v e) }

pub each-reads : (ms : Processes) (m : Mode) (vs : List Variable) → Reads (rows_beneath ms) (begun_each ms m vs)
each-reads ms m vs = record { same = λ rel S. each-sim ms S m vs }

module _ {R : List ℕ} {f : List ℕ → List Variable} (F : Reads R f) where
  -- a store at another row
  pub reads-put : (s : List ℕ) (x v : ℕ) → Out x R → f (set s x v) ≡ f s
  reads-put s x v o = sym (F.same (λ u t. t ≡ set u x v) (record {
    look = λ {s} {t} y m e. rw e (sym (get_or-set_other s x y v 0 (λ q. o (Memᴰ.cast (sym q) m))));
    put = λ {s} {t} y w m e. rw e (set_comm s x y v w (λ q. o (Memᴰ.cast q m)));
  }) s (set s x v) refl)

  -- settling at other rows
  pub reads-off : {Q : List ℕ} {g : List ℕ → List ℕ} → Local Q g → Off R Q → (s : List ℕ) → f (g s) ≡ f s
  reads-off {g} G o s = sym (F.same (λ u t. t ≡ g u) (record {
    look = λ {s} {t} y m e. rw e (sym (off-look G s y (o y m)));
    put = λ {s} {t} y w m e. rw e (sym (off-put G s y w (o y m)));
  }) s (g s) refl)

-- ---- a process that has settled starts no block

pub idle-begun : (ms : Processes) (vs : List Variable) (s : List ℕ) → Idle (rows_beneath ms) s → begun_each ms by_step vs s ≡ []
unfolding after
idle-begun empty vs s i = begun-none by_step vs s
idle-begun (also p ms) vs s i =
    let e : state_of s p ≡ 0 = i (row_of p) (Memᴰ.append_left (rows_beneath ms) (row_in p)) in
    rw (begun-also p ms by_step vs s, begun-idle p s e, see-idle p s e, e) (idle-begun ms vs s (λ x m. i x (Memᴰ.append_right (rows_in p) m)))

-- a process that was running, or was started, is not idle once it has settled
pub not-idle : (p : Process) (n : ℕ) → Sound p n → (s : List ℕ) → length s ≡ n → state_of s p ≡ 1 → (j : ℕ) × (state_of (settle_running p s) p ≡ suc j)
not-idle (node k r ms) n d s l e = go (complete (mode k) (states_of ms w)) (ends_when_closed k) refl refl
  where
    w : List ℕ
    w = settle_each ms (mode k) s

    e1 : get_or w r 0 ≡ 1
    e1 = off-look (walk-local ms (mode k)) s r d.1 ∙ e

    go : (c x : Bool) → complete (mode k) (states_of ms w) ≡ c → ends_when_closed k ≡ x → (j : ℕ) × (get_or (settle_running (node k r ms) s) r 0 ≡ suc j)
    go false x ec ex = (0, rw (body-shape k r ms s false x ec ex) e1)
    go true true ec ex = (1, rw (body-shape k r ms s true true ec ex) (get_or-set_same w r 2 0 (rw (length-local (walk-local ms (mode k)) s, l) d.0)))
    go true false ec ex = (0, rw (body-shape k r ms s true false ec ex) (off-look (zeros-local (rows_beneath ms)) w r d.1 ∙ e1))

-- so none is left to be started
pub started-once : (p : Process) (n : ℕ) → Sound p n → (b : Bool) (vs : List Variable) (s : List ℕ) → length s ≡ n → if_started (state_of (settle p b s) p) b vs ≡ []
started-once p n d b vs s l = go (state_of s p) refl b
  where
    run : (u : List ℕ) (b : Bool) → length u ≡ n → state_of u p ≡ 1 → if_started (state_of (settle_running p u) p) b vs ≡ []
    run u b l e = let (j, q) = not-idle p n d u l e in rw q

    go : (i : ℕ) → state_of s p ≡ i → (b : Bool) → if_started (state_of (settle p b s) p) b vs ≡ []
    go zero e false = rw (see-idle p s e, e)
    go zero e true = rw (see-start p s e) (run (set s (row_of p) 1) true (length-set s (row_of p) 1 ∙ l) (get_or-set_same s (row_of p) 1 0 (rw l (sound-row p n d))))
    go (suc zero) e b = rw (see-run p b s e) (run s b l e)
    go (suc (suc i)) e b = rw (see-over p b s i e, e)

-- what `running-quiet` says of one process
abbrev pub RunningQuiet : Process → ℕ → Type 0
RunningQuiet p n = (s : List ℕ) → length s ≡ n → state_of s p ≡ 1 → (b : Bool) → begun p b (settle_running p s) ≡ []

settled-quiet : (p : Process) (n : ℕ) → Sound p n → RunningQuiet p n → (b : Bool) (s : List ℕ) → length s ≡ n → begun p b (settle p b s) ≡ []
settled-quiet p n d Q b s l = go (state_of s p) refl b
  where
    go : (i : ℕ) → state_of s p ≡ i → (b : Bool) → begun p b (settle p b s) ≡ []
    go zero e false = rw (see-idle p s e) (begun-idle p s e)
    go zero e true = rw (see-start p s e) (Q (set s (row_of p) 1) (length-set s (row_of p) 1 ∙ l) (get_or-set_same s (row_of p) 1 0 (rw l (sound-row p n d))) true)
    go (suc zero) e b = rw (see-run p b s e) (Q s l e b)
    go (suc (suc i)) e b = rw (see-over p b s i e) (begun-over p b s i e)

node-quiet : (k : Action) (r : ℕ) (ms : Processes) (s : List ℕ) (b : Bool) → r < length s → Out r (rows_beneath ms) → get_or s r 0 ≡ 1
    → begun_each ms (mode k) (local_of k) (settle_each ms (mode k) s) ≡ [] → begun (node k r ms) b (settle_running (node k r ms) s) ≡ []
node-quiet k r ms s b h o e q = go (complete (mode k) (states_of ms w)) (ends_when_closed k) refl refl
  where
    p : Process
    p = node k r ms

    w : List ℕ
    w = settle_each ms (mode k) s

    z : List ℕ
    z = make_idle (rows_beneath ms) w

    e1 : get_or w r 0 ≡ 1
    e1 = off-look (walk-local ms (mode k)) s r o ∙ e

    go : (c x : Bool) → complete (mode k) (states_of ms w) ≡ c → ends_when_closed k ≡ x → begun p b (settle_running p s) ≡ []
    go false x ec ex = rw (body-shape k r ms s false x ec ex) (begun-run p b w e1 ∙ begun-node k r ms w ∙ q)
    go true true ec ex = rw (body-shape k r ms s true true ec ex) (begun-over p b (set w r 2) 0 (get_or-set_same w r 2 0 (rw (length-local (walk-local ms (mode k)) s) h)))
    go true false ec ex = rw (body-shape k r ms s true false ec ex)
        (begun-run p b z (off-look (zeros-local (rows_beneath ms)) w r o ∙ e1) ∙ begun-node k r ms z
        ∙ ap (λ (m : Mode). begun_each ms m (local_of k) z) (loop-never k ex) ∙ idle-begun ms (local_of k) z (zeros-idle (rows_beneath ms) w))

mutual
  pub running-quiet : (p : Process) (n : ℕ) → Sound p n → RunningQuiet p n
  running-quiet (node k r ms) n d s l e b = node-quiet k r ms s b (rw l d.0) d.1 e (each-quiet ms n d.2 (mode k) (local_of k) s l)

  pub each-quiet : (ms : Processes) (n : ℕ) → SoundM ms n → (m : Mode) (vs : List Variable) (s : List ℕ) → length s ≡ n → begun_each ms m vs (settle_each ms m s) ≡ []
  each-quiet empty n d m vs s l = begun-none m vs (settle_each empty m s)
  each-quiet (also p ms) n d m vs s l =
      let m1 = after p m s in
      let s1 = settle p (starts m) s in
      let l1 : length s1 ≡ n = length-local (see-local p (starts m)) s ∙ l in
      let key : settle p (starts m) (settle_each ms m1 s1) ≡ settle_each ms m1 s1
      = swap (see-local p (starts m)) (walk-local ms m1) d.2 s1
      ∙ ap (settle_each ms m1) (see-again p n (λ s f e b. again p n d.0 s f e b) (sound-row p n d.0) (same_b {b = starts m}) s l) in
      let same-state : state_of (settle_each ms m1 s1) p ≡ state_of s1 p = off-look (walk-local ms m1) s1 (row_of p) (d.2 (row_of p) (row_in p)) in
      let mid : after p m (settle_each ms m1 s1) ≡ m1 = after-eq p m (settle_each ms m1 s1) s (rw key same-state) in
      rw (
        walk_after p ms m s,
        begun-also p ms m vs (settle_each ms m1 s1),
        same-state,
        started-once p n d.0 (starts m) vs s l,
        reads-off (begun-reads p (starts m)) (walk-local ms m1) d.2 s1,
        settled-quiet p n d.0 (λ s f e b. running-quiet p n d.0 s f e b) (starts m) s l,
        mid,
        key,
      ) (each-quiet ms n d.1 m1 vs s1 l1)

-- to settle again starts no block
pub begun-again : (p : Process) (n : ℕ) → Sound p n → (b : Bool) (s : List ℕ) → length s ≡ n → begun p b (settle p b s) ≡ []
begun-again p n d = settled-quiet p n d (running-quiet p n d)

-- where settling changes nothing no block starts
pub begun-unchanged : (p : Process) (n : ℕ) → Sound p n → (b : Bool) (s : List ℕ) → length s ≡ n → settle p b s ≡ s → begun p b s ≡ []
begun-unchanged p n d b s l e = ap (begun p b) (sym e) ∙ begun-again p n d b s l

-- ---- to settle, and then to settle with more to be started, starts the blocks that the second alone would

started-under : (p : Process) (n : ℕ) → Sound p n → {b c : Bool} → UnderB b c → (vs : List Variable) (s : List ℕ) → length s ≡ n
    → Joined (if_started (state_of (settle p b s) p) c vs) (if_started (state_of s p) b vs) (if_started (state_of s p) c vs)
started-under p n d u vs s l = go (state_of s p) refl u
  where
    go : (i : ℕ) → state_of s p ≡ i → {b c : Bool} → UnderB b c
        → Joined (if_started (state_of (settle p b s) p) c vs) (if_started (state_of s p) b vs) (if_started (state_of s p) c vs)
    go zero e (low_b {b = c}) = rw (see-idle p s e, e) (joined-right (if_started 0 c vs) refl)
    go zero e (same_b {b}) = joined-left (if_started (state_of s p) b vs) (started-once p n d b vs s l)
    go (suc zero) e {b} {c} u = let (j, q) = not-idle p n d s l e in rw (see-run p b s e, q, e) (joined-left [] refl)
    go (suc (suc i)) e {b} {c} u = rw (see-over p b s i e, e) (joined-left [] refl)

pub begun-under : (p : Process) (n : ℕ) → Sound p n → {b c : Bool} → UnderB b c → (s : List ℕ) → length s ≡ n
    → Joined (begun p c (settle p b s)) (begun p b s) (begun p c s)
begun-under p n d u s l = go (state_of s p) refl u
  where
    go : (i : ℕ) → state_of s p ≡ i → {b c : Bool} → UnderB b c → Joined (begun p c (settle p b s)) (begun p b s) (begun p c s)
    go zero e (low_b {b = c}) = rw (see-idle p s e) (joined-right (begun p c s) (begun-idle p s e))
    go zero e (same_b {b}) = joined-left (begun p b s) (begun-again p n d b s l)
    go (suc zero) e {b} {c} u = rw (see-run p b s e, begun-run p b s e, begun-run p c s e) (joined-left (begun_running p s) (running-quiet p n d s l e c))
    go (suc (suc i)) e {b} {c} u = rw (see-over p b s i e) (joined-right (begun p c s) (begun-over p b s i e))

pub each-under : (ms : Processes) (n : ℕ) → SoundM ms n → {m m' : Mode} → Under m m' → (vs : List Variable) (s : List ℕ) → length s ≡ n
    → Joined (begun_each ms m' vs (settle_each ms m s)) (begun_each ms m vs s) (begun_each ms m' vs s)
each-under empty n d {m} {m'} u vs s l = rw (begun-none m vs s, begun-none m' vs s) (joined-left [] (begun-none m' vs (settle_each empty m s)))
each-under (also p ms) n d {m} {m'} u vs s l =
    let m1 = after p m s in
    let m2 = after p m' s in
    let s1 = settle p (starts m) s in
    let t1 = settle p (starts m') s in
    let w = settle_each ms m1 s1 in
    let key : settle p (starts m') w ≡ settle_each ms m1 t1
    = swap (see-local p (starts m')) (walk-local ms m1) d.2 s1
    ∙ ap (settle_each ms m1) (see-again p n (again p n d.0) (sound-row p n d.0) (under-starts u) s l) in
    let mid : after p m' w ≡ m2 = after-eq p m' w s (rw key (off-look (walk-local ms m1) t1 (row_of p) (d.2 (row_of p) (row_in p)))) in
    let off : Off (rows_beneath ms) (rows_in p) = λ y q z. d.2 y z q in
    let same-later : begun_each ms m1 vs s1 ≡ begun_each ms m1 vs t1
    = reads-off (each-reads ms m1 vs) (see-local p (starts m)) off s ∙ sym (reads-off (each-reads ms m1 vs) (see-local p (starts m')) off s) in
    rw (
      walk_after p ms m s,
      begun-also p ms m' vs w,
      begun-also p ms m vs s,
      begun-also p ms m' vs s,
      off-look (walk-local ms m1) s1 (row_of p) (d.2 (row_of p) (row_in p)),
      reads-off (begun-reads p (starts m')) (walk-local ms m1) d.2 s1,
      mid,
      key,
      same-later,
    )
    (joined-append (started-under p n d.0 (under-starts u) vs s l)
    (joined-append (begun-under p n d.0 (under-starts u) s l) (each-under ms n d.1 (under-after p s u) vs t1 (length-local (see-local p (starts m')) s ∙ l))))
