-- To settle again changes nothing.
use mathlib.Core.Path.{◌≡◌, refl, ap, ◌∙◌}
use mathlib.Core.Bool.{Bool, true, false, and-false, true≢false}
use mathlib.Core.List.Memᴰ
use mathlib.Core.List.{List, [], ◌∷◌, Memᴰ}
use Prim.Native.Nat.{ℕ, zero, suc, ◌<◌}
use lib.ListN.{length, get_or, set, length-set}
use lib.Seq.{get_or-set_same}
use Rattle.meaning.specs.Tree.{Action, stop, skip, sequence, parallel, Process, node, Processes, empty, also, row_of, rows_in, rows_beneath, assign, input, output, conditional, loop, alternation, block}
use Rattle.meaning.specs.State.{state_of, make_idle, any_of}
use Rattle.meaning.specs.Settle.{states_of, Mode, by_step, mode, starts, next_mode, complete, ends_when_closed, settle_running, settle_each, settle, all_of, is_idle_or_ended, is_ended}
use Rattle.agreement.proofs.Frame.{body-node, body-shape, walk_none, walk-also, row_in, walk-local, see-local, zeros-local, Off, length-local, off-look, swap}

abbrev pub Out : ℕ → List ℕ → Type 0
Out x R = Memᴰ x R → ⊥

-- the rows_in of a process are each another, and below n
abbrev mutual
  pub Sound : Process → ℕ → Type 0
  Sound (node k r ms) n = (r < n) × Out r (rows_beneath ms) × SoundM ms n

  pub SoundM : Processes → ℕ → Type 0
  SoundM empty n = Unit {0}
  SoundM (also p ms) n = Sound p n × SoundM ms n × Off (rows_in p) (rows_beneath ms)

pub sound-row : (p : Process) (n : ℕ) → Sound p n → row_of p < n
sound-row (node k r ms) n d = d.0

abbrev pub Idle : List ℕ → List ℕ → Type 0
Idle R s = (x : ℕ) → Memᴰ x R → get_or s x 0 ≡ 0

-- ---- the four ways to see a process

pub see-idle : (p : Process) (s : List ℕ) → state_of s p ≡ 0 → settle p false s ≡ s
unfolding settle
see-idle p s e = rw e

pub see-start : (p : Process) (s : List ℕ) → state_of s p ≡ 0 → settle p true s ≡ settle_running p (set s (row_of p) 1)
unfolding settle
see-start p s e = rw e

pub see-run : (p : Process) (b : Bool) (s : List ℕ) → state_of s p ≡ 1 → settle p b s ≡ settle_running p s
unfolding settle
see-run p b s e = rw e

pub see-over : (p : Process) (b : Bool) (s : List ℕ) (n : ℕ) → state_of s p ≡ suc (suc n) → settle p b s ≡ s
unfolding settle
see-over p b s n e = rw e

-- ---- idle members are left alone

pub idle-walk : (ms : Processes) (s : List ℕ) → Idle (rows_beneath ms) s → settle_each ms by_step s ≡ s
idle-walk empty s i = walk_none by_step s
idle-walk (also p ms) s i =
    let e = see-idle p s (i (row_of p) (Memᴰ.append_left (rows_beneath ms) (row_in p))) in
    rw (walk-also p ms by_step s, e) (idle-walk ms s (λ x m. i x (Memᴰ.append_right (rows_in p) m)))

idle-some : (ms : Processes) (s : List ℕ) → Idle (rows_beneath ms) s → any_of is_ended (states_of ms s) ≡ false
idle-some empty s i = refl
idle-some (also p ms) s i = rw (i (row_of p) (Memᴰ.append_left (rows_beneath ms) (row_in p))) (idle-some ms s (λ x m. i x (Memᴰ.append_right (rows_in p) m)))

pub idle-done : (ms : Processes) (s : List ℕ) → Idle (rows_beneath ms) s → complete by_step (states_of ms s) ≡ false
idle-done ms s i = rw (idle-some ms s i) (and-false (all_of is_idle_or_ended (states_of ms s)))

pub idle_body : (k : Action) (r : ℕ) (ms : Processes) (s : List ℕ) → mode k ≡ by_step → Idle (rows_beneath ms) s → settle_running (node k r ms) s ≡ s
idle_body k r ms s e i = rw (body-node k r ms s, e, idle-walk ms s i, idle-done ms s i)

set-zero : (s : List ℕ) (r x : ℕ) → get_or s x 0 ≡ 0 → get_or (set s r 0) x 0 ≡ 0
set-zero [] r x e = refl
set-zero (y ∷ s) zero zero e = refl
set-zero (y ∷ s) zero (suc x) e = e
set-zero (y ∷ s) (suc r) zero e = e
set-zero (y ∷ s) (suc r) (suc x) e = set-zero s r x e

set-zero-same : (s : List ℕ) (r : ℕ) → get_or (set s r 0) r 0 ≡ 0
set-zero-same [] r = refl
set-zero-same (y ∷ s) zero = refl
set-zero-same (y ∷ s) (suc r) = set-zero-same s r

zeros-keep : (rs s : List ℕ) (x : ℕ) → get_or s x 0 ≡ 0 → get_or (make_idle rs s) x 0 ≡ 0
zeros-keep [] s x e = e
zeros-keep (r ∷ rs) s x e = zeros-keep rs (set s r 0) x (set-zero s r x e)

pub zeros-idle : (rs s : List ℕ) (x : ℕ) → Memᴰ x rs → get_or (make_idle rs s) x 0 ≡ 0
zeros-idle rs s x m = go rs s m
  where
    go : (rs s : List ℕ) → Memᴰ x rs → get_or (make_idle rs s) x 0 ≡ 0
    go rs s (Memᴰ.head {x = r} {xs = q} e) = zeros-keep q (set s r 0) x (rw e (set-zero-same s r))
    go rs s (Memᴰ.tail {x = r} {xs = q} m) = go q (set s r 0) m

pub loop-never : (k : Action) → ends_when_closed k ≡ false → mode k ≡ by_step
loop-never stop e = refl
loop-never skip e = absurd (true≢false e)
loop-never sequence e = absurd (true≢false e)
loop-never parallel e = absurd (true≢false e)
loop-never (assign v a b) e = refl
loop-never (input i) e = refl
loop-never (output c a b) e = refl
loop-never (conditional ts) e = refl
loop-never (loop a b) e = refl
loop-never (alternation bs) e = refl
loop-never (block v) e = absurd (true≢false e)

-- ---- modes

pub data Under : Mode → Mode → Type 0 where
  low : {m : Mode} → Under by_step m
  same : {m : Mode} → Under m m

pub data UnderB : Bool → Bool → Type 0 where
  low_b : {b : Bool} → UnderB false b
  same_b : {b : Bool} → UnderB b b

pub under-starts : {m n : Mode} → Under m n → UnderB (starts m) (starts n)
under-starts low = low_b
under-starts same = same_b

-- ---- settling twice

-- what `again` says of one process
abbrev pub Again : Process → ℕ → Type 0
Again p n = (s : List ℕ) → length s ≡ n → state_of s p ≡ 1 → (b : Bool) → settle p b (settle_running p s) ≡ settle_running p s

pub see-again : (p : Process) (n : ℕ) → Again p n → row_of p < n → {b c : Bool} → UnderB b c → (s : List ℕ) → length s ≡ n → settle p c (settle p b s) ≡ settle p c s
see-again p n A h u s l = go (state_of s p) refl u
  where
    go : (i : ℕ) → state_of s p ≡ i → {b c : Bool} → UnderB b c → settle p c (settle p b s) ≡ settle p c s
    go zero e low_b = rw (see-idle p s e)
    go zero e (same_b {b = false}) = simp (see-idle p s e)
    go zero e (same_b {b = true}) =
        rw (see-start p s e) (A (set s (row_of p) 1) (length-set s (row_of p) 1 ∙ l) (get_or-set_same s (row_of p) 1 0 (rw l h)) true)
    go (suc zero) e {b} {c} u = rw (see-run p b s e, see-run p c s e) (A s l e c)
    go (suc (suc i)) e {b} {c} u = rw (see-over p b s i e)

-- the mode of the walk over the later members
unfoldable pub after : Process → Mode → List ℕ → Mode
after p m s = next_mode m (state_of (settle p (starts m) s) p)

pub under-after : (p : Process) (s : List ℕ) {m n : Mode} → Under m n → Under (after p m s) (after p n s)
unfolding after
under-after p s low = low
under-after p s same = same

pub walk_after : (p : Process) (ms : Processes) (m : Mode) (s : List ℕ) → settle_each (also p ms) m s ≡ settle_each ms (after p m s) (settle p (starts m) s)
unfolding after
walk_after = walk-also

pub after-eq : (p : Process) (m : Mode) (s t : List ℕ) → state_of (settle p (starts m) s) p ≡ state_of (settle p (starts m) t) p → after p m s ≡ after p m t
unfolding after
after-eq p m s t e = ap (next_mode m) e

again-node : (k : Action) (r : ℕ) (ms : Processes) (s : List ℕ) (b : Bool) → r < length s → Out r (rows_beneath ms) → get_or s r 0 ≡ 1
    → settle_each ms (mode k) (settle_each ms (mode k) s) ≡ settle_each ms (mode k) s → settle (node k r ms) b (settle_running (node k r ms) s) ≡ settle_running (node k r ms) s
again-node k r ms s b h o e twice = go (complete (mode k) (states_of ms w)) (ends_when_closed k) refl refl
  where
    p : Process
    p = node k r ms

    w : List ℕ
    w = settle_each ms (mode k) s

    e1 : get_or w r 0 ≡ 1
    e1 = off-look (walk-local ms (mode k)) s r o ∙ e

    z : List ℕ
    z = make_idle (rows_beneath ms) w

    idle : Idle (rows_beneath ms) z
    idle = zeros-idle (rows_beneath ms) w

    go : (c x : Bool) → complete (mode k) (states_of ms w) ≡ c → ends_when_closed k ≡ x → settle p b (settle_running p s) ≡ settle_running p s
    go false x ec ex = rw (body-shape k r ms s false x ec ex) (see-run p b w e1 ∙ rw (body-node k r ms w, twice, ec))
    go true true ec ex = rw (body-shape k r ms s true true ec ex) (see-over p b (set w r 2) 0 (get_or-set_same w r 2 0 (rw (length-local (walk-local ms (mode k)) s) h)))
    go true false ec ex = rw (body-shape k r ms s true false ec ex)
        (see-run p b z (off-look (zeros-local (rows_beneath ms)) w r o ∙ e1) ∙ idle_body k r ms z (loop-never k ex) idle)

mutual
  pub again : (p : Process) (n : ℕ) → Sound p n → Again p n
  again (node k r ms) n d s l e b = again-node k r ms s b (rw l d.0) d.1 e (again_m ms n d.2 same s l)

  pub again_m : (ms : Processes) (n : ℕ) → SoundM ms n → {m m' : Mode} → Under m m' → (s : List ℕ) → length s ≡ n → settle_each ms m' (settle_each ms m s) ≡ settle_each ms m' s
  again_m empty n d u s l = simp walk_none
  again_m (also p ms) n d {m} {m'} u s l =
      let m1 = after p m s in
      let t1 = settle p (starts m') s in
      let key : settle p (starts m') (settle_each (also p ms) m s) ≡ settle_each ms m1 t1
      = rw (
        walk_after p ms m s,
        swap (see-local p (starts m')) (walk-local ms m1) d.2 (settle p (starts m) s),
        see-again p n (λ s f e b. again p n d.0 s f e b) (sound-row p n d.0) (under-starts u) s l,
      ) in
      let mid : after p m' (settle_each (also p ms) m s) ≡ after p m' s
      = after-eq p m' (settle_each (also p ms) m s) s (rw key (off-look (walk-local ms m1) t1 (row_of p) (d.2 (row_of p) (row_in p)))) in
      rw (walk_after p ms m' (settle_each (also p ms) m s), mid, key, walk_after p ms m' s)
      (again_m ms n d.1 (under-after p s u) t1 (length-local (see-local p (starts m')) s ∙ l))
