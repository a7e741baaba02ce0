-- Two steps at two places commute.
use mathlib.Core.Path.{◌≡◌, refl, sym, ◌∙◌}
use mathlib.Core.Logic.{◌≢◌}
use mathlib.Core.Bool.{Bool, false, and-false}
use mathlib.Core.List.Memᴰ
use mathlib.Core.List.{List, ◌∷◌, Memᴰ}
use Prim.Native.Nat.{ℕ, suc}
use native.Mathlib.Omega.{arith}
use lib.ListN.{length, get_or, set, length-set}
use lib.Seq.{get_or-set_other}
use Rattle.meaning.specs.Tree.{Action, Process, node, Processes, also, row_of, rows_in, rows_beneath, empty}
use Rattle.meaning.specs.State.{state_of}
use Rattle.meaning.specs.Settle.{states_of, Mode, in_turn, together, by_step, mode, starts, next_mode, complete, settle_running, settle_each, settle, all_of, is_idle_or_ended, is_ended}
use Rattle.agreement.proofs.Frame.{body-node, row_in, walk-local, see-local, length-local, off-look, off-put, swap}
use Rattle.agreement.proofs.Again.{Out, Sound, SoundM, sound-row, Idle, see-run, idle_body, Under, low, same, same_b, see-again, after, walk_after, after-eq, again, again_m}

-- a step at row r stores, there, ended or stopped; or at the row of a member's process, running
pub data Child (x : ℕ) : Processes → Type 0 where
  eldest : {p : Process} {ms : Processes} → x ≡ row_of p → Child x (also p ms)
  younger : {p : Process} {ms : Processes} → Child x ms → Child x (also p ms)

pub data Legal (x v r : ℕ) (ms : Processes) : Type 0 where
  own : (i : ℕ) → x ≡ r → v ≡ suc (suc i) → Legal x v r ms
  child : Child x ms → v ≡ 1 → Legal x v r ms

pub child-in : {x : ℕ} {ms : Processes} → Child x ms → Memᴰ x (rows_beneath ms)
child-in (eldest {p} {ms} e) = Memᴰ.append_left (rows_beneath ms) (Memᴰ.cast e (row_in p))
child-in (younger {p} h) = Memᴰ.append_right (rows_in p) (child-in h)

legal-in : {x v r : ℕ} {ms : Processes} → Legal x v r ms → Memᴰ x (r ∷ rows_beneath ms)
legal-in (own i e ev) = Memᴰ.head e
legal-in (child h e) = Memᴰ.tail (child-in h)

-- row b of a process is at its frontier in s: running, as all above it, and all beneath it idle; v may be stored at x
mutual
  pub data At (b x v : ℕ) (s : List ℕ) : Process → Type 0 where
    here : {k : Action} {r : ℕ} {ms : Processes} → r ≡ b → get_or s r 0 ≡ 1 → mode k ≡ by_step → Idle (rows_beneath ms) s → Legal x v r ms → At b x v s (node k r ms)
    under : {k : Action} {r : ℕ} {ms : Processes} → get_or s r 0 ≡ 1 → AtM b x v s ms → At b x v s (node k r ms)

  pub data AtM (b x v : ℕ) (s : List ℕ) : Processes → Type 0 where
    first : {p : Process} {ms : Processes} → At b x v s p → AtM b x v s (also p ms)
    later : {p : Process} {ms : Processes} → AtM b x v s ms → AtM b x v s (also p ms)

module _ {b x v : ℕ} {s : List ℕ} where
  pub at-run : {p : Process} → At b x v s p → state_of s p ≡ 1
  at-run (here eb e m i h) = e
  at-run (under e h) = e

  mutual
    pub at_in : {p : Process} → At b x v s p → Memᴰ x (rows_in p)
    at_in (here eb e m i h) = legal-in h
    at_in (under e h) = Memᴰ.tail (at_m-in h)

    pub at_m-in : {ms : Processes} → AtM b x v s ms → Memᴰ x (rows_beneath ms)
    at_m-in (first {ms} h) = Memᴰ.append_left (rows_beneath ms) (at_in h)
    at_m-in (later {p} h) = Memᴰ.append_right (rows_in p) (at_m-in h)

  pub busy : {ms : Processes} → AtM b x v s ms → Idle (rows_beneath ms) s → ⊥
  busy (first {p} {ms} h) i = omega (arith, at-run h, i (row_of p) (Memᴰ.append_left (rows_beneath ms) (row_in p)))
  busy (later {p} h) i = busy h (λ y q. i y (Memᴰ.append_right (rows_in p) q))

  -- a member that is at work keeps its process from closing
  all-busy : (f : ℕ → Bool) → f 1 ≡ false → {ms : Processes} → AtM b x v s ms → all_of f (states_of ms s) ≡ false
  all-busy f e (first h) = rw (at-run h, e)
  all-busy f e (later {p} h) = rw (all-busy f e h) (and-false (f (state_of s p)))

  alive : {ms : Processes} → AtM b x v s ms → (m : Mode) → complete m (states_of ms s) ≡ false
  alive h in_turn = all-busy is_ended refl h
  alive h together = all-busy is_ended refl h
  alive h by_step = rw (all-busy is_idle_or_ended refl h)

  module _ {t : List ℕ} where
    mutual
      pub agree : {p : Process} → At b x v s p → ((y : ℕ) → Memᴰ y (rows_in p) → get_or t y 0 ≡ get_or s y 0) → At b x v t p
      agree (here {k} {r} {ms} eb e m i h) g = here eb (g r (Memᴰ.head refl) ∙ e) m (λ y q. g y (Memᴰ.tail q) ∙ i y q) h
      agree (under {r} e h) g = under (g r (Memᴰ.head refl) ∙ e) (agree_m h (λ y q. g y (Memᴰ.tail q)))

      pub agree_m : {ms : Processes} → AtM b x v s ms → ((y : ℕ) → Memᴰ y (rows_beneath ms) → get_or t y 0 ≡ get_or s y 0) → AtM b x v t ms
      agree_m (first {ms} h) g = first (agree h (λ y q. g y (Memᴰ.append_left (rows_beneath ms) q)))
      agree_m (later {p} h) g = later (agree_m h (λ y q. g y (Memᴰ.append_right (rows_in p) q)))

-- ---- a frontier row stays one while its process settles

pub under-body : {b x v : ℕ} (k : Action) (r : ℕ) (ms : Processes) (s : List ℕ) → AtM b x v (settle_each ms (mode k) s) ms → settle_running (node k r ms) s ≡ settle_each ms (mode k) s
under-body k r ms s h = rw (body-node k r ms s, alive h (mode k))

module _ (b x v n : ℕ) where
  mutual
    pub persist : (p : Process) → Sound p n → (s : List ℕ) → At b x v s p → At b x v (settle_running p s) p
    persist (node k r ms) d s (here eb e m i h) = rw (idle_body k r ms s m i) (here eb e m i h)
    persist (node k r ms) d s (under e h) =
        let q = persist_m ms d.2 (mode k) s h in
        rw (under-body k r ms s q) (under (off-look (walk-local ms (mode k)) s r d.1 ∙ e) q)

    pub persist_m : (ms : Processes) → SoundM ms n → (m : Mode) (s : List ℕ) → AtM b x v s ms → AtM b x v (settle_each ms m s) ms
    persist_m empty d m s x5 = elim x5 [ ]
    persist_m (also p ms) d m s (first h) =
        rw (walk_after p ms m s, see-run p (starts m) s (at-run h))
        (first (agree (persist p d.0 s h) (λ y q. off-look (walk-local ms (after p m s)) (settle_running p s) y (d.2 y q))))
    persist_m (also p ms) d m s (later h) =
        rw (walk_after p ms m s)
        (later (persist_m ms d.1 (after p m s) (settle p (starts m) s) (agree_m h (λ y q. off-look (see-local p (starts m)) s y (λ z. d.2 y z q)))))

-- ---- to settle between two stores is to settle after both

under_one : (m : Mode) (i : ℕ) → Under (next_mode m 1) (next_mode m i)
under_one in_turn i = low
under_one together i = same
under_one by_step i = same

pub after_run : (p : Process) (m : Mode) (s t : List ℕ) → state_of (settle p (starts m) s) p ≡ 1 → Under (after p m s) (after p m t)
unfolding after
after_run p m s t e = rw e (under_one m (state_of (settle p (starts m) t) p))

module _ (b x v n : ℕ) where
  mutual
    pub absorb : (p : Process) → Sound p n → (s : List ℕ) → length s ≡ n → At b x v s p → (c : Bool) → settle p c (set (settle p c s) x v) ≡ settle p c (set s x v)
    absorb (node k r ms) d s l (here eb e m i h) c = rw (see-run (node k r ms) c s e, idle_body k r ms s m i)
    absorb (node k r ms) d s l (under e h) c =
        let p = node k r ms in
        let w = settle_each ms (mode k) s in
        let ne : (r ≡ x → ⊥) = λ q. d.1 (Memᴰ.cast q (at_m-in h)) in
        let ew : get_or w r 0 ≡ 1 = off-look (walk-local ms (mode k)) s r d.1 ∙ e in
        rw (
          see-run p c s e,
          under-body k r ms s (persist_m b x v n ms d.2 (mode k) s h),
          see-run p c (set w x v) (get_or-set_other w x r v 0 ne ∙ ew),
          see-run p c (set s x v) (get_or-set_other s x r v 0 ne ∙ e),
          body-node k r ms (set w x v),
          absorb_m ms d.2 s l h (mode k),
          ← body-node k r ms (set s x v),
        )

    pub absorb_m : (ms : Processes) → SoundM ms n → (s : List ℕ) → length s ≡ n → AtM b x v s ms → (m : Mode) → settle_each ms m (set (settle_each ms m s) x v) ≡ settle_each ms m (set s x v)
    absorb_m empty d s l x7 m = elim x7 [ ]
    absorb_m (also p ms) d s l (first h) m =
        let m1 = after p m s in
        let s1 = settle p (starts m) s in
        let t1 = settle p (starts m) (set s x v) in
        let s2 = settle_each (also p ms) m s in
        let key : settle p (starts m) (set s2 x v) ≡ settle_each ms m1 t1
        = rw (
          walk_after p ms m s,
          ← off-put (walk-local ms m1) s1 x v (d.2 x (at_in h)),
          swap (see-local p (starts m)) (walk-local ms m1) d.2 (set s1 x v),
          absorb p d.0 s l h (starts m),
        ) in
        let mid : after p m (set s2 x v) ≡ after p m (set s x v)
        = after-eq p m (set s2 x v) (set s x v) (rw key (off-look (walk-local ms m1) t1 (row_of p) (d.2 (row_of p) (row_in p)))) in
        let one : state_of s1 p ≡ 1 = rw (see-run p (starts m) s (at-run h)) (at-run (persist b x v n p d.0 s h)) in
        rw (walk_after p ms m (set s2 x v), mid, key, walk_after p ms m (set s x v))
        (again_m ms n d.1 (after_run p m s (set s x v) one) t1 (length-local (see-local p (starts m)) (set s x v) ∙ length-set s x v ∙ l))
    absorb_m (also p ms) d s l (later h) m =
        let m1 = after p m s in
        let s1 = settle p (starts m) s in
        let s2 = settle_each (also p ms) m s in
        let o : Out x (rows_in p) = λ q. d.2 x q (at_m-in h) in
        let l1 : length s1 ≡ n = length-local (see-local p (starts m)) s ∙ l in
        let key1 : settle p (starts m) (set s x v) ≡ set s1 x v = off-put (see-local p (starts m)) s x v o in
        let key2 : settle p (starts m) (set s2 x v) ≡ set (settle_each ms m1 s1) x v
        = rw (
          off-put (see-local p (starts m)) s2 x v o,
          walk_after p ms m s,
          swap (see-local p (starts m)) (walk-local ms m1) d.2 s1,
          see-again p n (again p n d.0) (sound-row p n d.0) (same_b {b = starts m}) s l,
        ) in
        let ne : (row_of p ≡ x → ⊥) = λ q. o (Memᴰ.cast (sym q) (row_in p)) in
        let mid1 : after p m (set s x v) ≡ m1 = after-eq p m (set s x v) s (rw key1 (get_or-set_other s1 x (row_of p) v 0 ne)) in
        let mid2 : after p m (set s2 x v) ≡ m1
        = after-eq p m (set s2 x v) s (rw key2 (get_or-set_other (settle_each ms m1 s1) x (row_of p) v 0 ne ∙ off-look (walk-local ms m1) s1 (row_of p) (d.2 (row_of p) (row_in p)))) in
        rw (walk_after p ms m (set s2 x v), mid2, key2, walk_after p ms m (set s x v), mid1, key1)
        (absorb_m ms d.1 s1 l1 (agree_m h (λ y q. off-look (see-local p (starts m)) s y (λ z. d.2 y z q))) m1)

-- ---- two frontier rows_in

-- a store beneath one frontier row leaves the other one
module _ (a x v b y w n : ℕ) (s : List ℕ) (ne : a ≢ b) where
  mutual
    pub other : (p : Process) → Sound p n → At a x v s p → At b y w s p → At b y w (set s x v) p × (x ≢ y)
    other (node k r ms) d (here ea e m i h) (here eb e' m' i' h') = absurd (ne (sym ea ∙ eb))
    other (node k r ms) d (here ea e m i h) (under e' h') = absurd (busy h' i)
    other (node k r ms) d (under e h) (here eb e' m' i' h') = absurd (busy h i')
    other (node k r ms) d (under e h) (under e' h') =
        let (q, z) = other_m ms d.2 h h' in
        (under (get_or-set_other s x r v 0 (λ q. d.1 (Memᴰ.cast q (at_m-in h))) ∙ e) q, z)

    pub other_m : (ms : Processes) → SoundM ms n → AtM a x v s ms → AtM b y w s ms → AtM b y w (set s x v) ms × (x ≢ y)
    other_m empty d x7 _ = elim x7 [ ]
    other_m (also p ms) d (first h) (first h') = let (q, z) = other p d.0 h h' in (first q, z)
    other_m (also p ms) d (first h) (later h') =
        (later (agree_m h' (λ z q. get_or-set_other s x z v 0 (λ e. d.2 z (Memᴰ.cast e (at_in h)) q))), λ e. d.2 y (Memᴰ.cast (sym e) (at_in h)) (at_m-in h'))
    other_m (also p ms) d (later h) (first h') =
        (first (agree h' (λ z q. get_or-set_other s x z v 0 (λ e. d.2 z q (Memᴰ.cast e (at_m-in h))))), λ e. d.2 y (at_in h') (Memᴰ.cast (sym e) (at_m-in h)))
    other_m (also p ms) d (later h) (later h') = let (q, z) = other_m ms d.1 h h' in (later q, z)

-- a step: a store at a place, then settling
pub step : Process → ℕ → ℕ → List ℕ → List ℕ
step p x v s = settle p false (set s x v)

module _ (p : Process) (n : ℕ) (d : Sound p n) (s : List ℕ) (l : length s ≡ n) (a x v b y w : ℕ) (ne : a ≢ b) (ha : At a x v s p) (hb : At b y w s p) where
  pub stays : At b y w (step p x v s) p
  unfolding step
  stays = let q = (other a x v b y w n s ne p d ha hb).0 in rw (see-run p false (set s x v) (at-run q)) (persist b y w n p d (set s x v) q)
