-- The states that settling and the stores of steps lead to are good; and two rows at work in a good state stand in two members of one PAR.
use mathlib.Core.Path.{◌≡◌, refl, sym, ap, ◌∙◌}
use mathlib.Core.Logic.{◌≢◌, inl, inr}
use mathlib.Core.Bool.{Bool, true, false}
use mathlib.Core.List.Memᴰ
use mathlib.Core.List.{List, Memᴰ}
use Prim.Native.Nat.{ℕ, zero, suc, ◌<◌}
use native.Mathlib.Omega.{arith}
use lib.ListN.{length, get_or, set, length-set}
use lib.Seq.{get_or-set_other, get_or-set_same}
use Rattle.meaning.specs.Tree.{Action, Process, node, Processes, empty, also, row_of, rows_in, rows_beneath}
use Rattle.meaning.specs.State.{state_of, make_idle}
use Rattle.meaning.specs.Settle.{states_of, Mode, in_turn, together, by_step, mode, next_mode, complete, ends_when_closed, settle_running, settle_each, settle, is_idle_or_ended}
use Rattle.agreement.proofs.Frame.{body-shape, walk-also, row_in, walk-local, see-local, zeros-local, Off, length-local, off-look}
use Rattle.agreement.proofs.Again.{Out, Sound, SoundM, sound-row, Idle, see-run, see-idle, see-start, see-over, idle-walk, zeros-idle}
use Rattle.agreement.proofs.Commute.{Child, eldest, younger, child-in, Legal, own, child, At, AtM, here, under, first, later, at-run, at_in, at_m-in, busy}
pub use Rattle.agreement.proofs.Good.{Quiet, not-running, Over, Good, GoodM, idle, over, run, done0, each, past, now, pass, pick, Agree, states-agree, over_agree, good-agree, good_m-agree, good_m-idle, idle-quiet, good_m-quiet, done-over, good_m-head, good_m-tail}

-- ---- settling keeps it

pub good_start : (p : Process) (n : ℕ) → Sound p n → (s : List ℕ) → length s ≡ n → Good s p → state_of s p ≡ 0 → Good (set s (row_of p) 1) p
good_start (node k r ms) n d s l (idle i) e =
    run (get_or-set_same s r 1 0 (rw l d.0)) (good_m-idle ms (mode k) (set s r 1) (λ y q. get_or-set_other s r y 1 0 (λ z. d.1 (Memᴰ.cast (sym z) q)) ∙ i y (Memᴰ.tail q)))
good_start (node k r ms) n d s l (over i e' q h o) e = absurd (omega arith)
good_start (node k r ms) n d s l (run e' h) e = absurd (omega arith)

-- a process whose members close it ends
pub good-end : (k : Action) (r : ℕ) (ms : Processes) (s : List ℕ) → r < length s → Out r (rows_beneath ms) → GoodM s (mode k) ms → complete (mode k) (states_of ms s) ≡ true → ends_when_closed k ≡ true
    → Good (set s r 2) (node k r ms)
good-end k r ms s lt o h c x =
    let g : Agree (rows_beneath ms) s (set s r 2) = λ y q. get_or-set_other s r y 2 0 (λ u. o (Memᴰ.cast (sym u) q)) in
    over 0 (get_or-set_same s r 2 0 lt) (λ y q. ap is_idle_or_ended (g y q) ∙ good_m-quiet h (done-over (mode k) (states_of ms s) c) y q) (good_m-agree h g)
    (over_agree s (set s r 2) k ms 0 g (inl (refl, c, x)))

good-node : (k : Action) (r : ℕ) (ms : Processes) (s : List ℕ) → r < length s → Out r (rows_beneath ms) → get_or s r 0 ≡ 1 → GoodM (settle_each ms (mode k) s) (mode k) ms
    → Good (settle_running (node k r ms) s) (node k r ms)
good-node k r ms s lt o e h = go (complete (mode k) (states_of ms w)) (ends_when_closed k) refl refl
  where
    w : List ℕ
    w = settle_each ms (mode k) s

    e1 : get_or w r 0 ≡ 1
    e1 = off-look (walk-local ms (mode k)) s r o ∙ e

    go : (c x : Bool) → complete (mode k) (states_of ms w) ≡ c → ends_when_closed k ≡ x → Good (settle_running (node k r ms) s) (node k r ms)
    go false x ec ex = rw (body-shape k r ms s false x ec ex) (run e1 h)
    go true true ec ex = rw (body-shape k r ms s true true ec ex) (good-end k r ms w (rw (length-local (walk-local ms (mode k)) s) lt) o h ec ex)
    go true false ec ex = rw (body-shape k r ms s true false ec ex)
        (run (off-look (zeros-local (rows_beneath ms)) w r o ∙ e1) (good_m-idle ms (mode k) (make_idle (rows_beneath ms) w) (zeros-idle (rows_beneath ms) w)))

good-now : (p : Process) (ms : Processes) (s : List ℕ) → Off (rows_in p) (rows_beneath ms) → Good s p → Idle (rows_beneath ms) s → GoodM (settle_each ms in_turn s) in_turn ms
    → (j : ℕ) → state_of s p ≡ j → GoodM (settle_each ms (next_mode in_turn j) s) in_turn (also p ms)
good-now p ms s o g i h zero e = rw (idle-walk ms s i) (now g i)
good-now p ms s o g i h (suc zero) e = rw (idle-walk ms s i) (now g i)
good-now p ms s o g i h (suc (suc zero)) e =
    past (off-look (walk-local ms in_turn) s (row_of p) (o (row_of p) (row_in p)) ∙ e) (good-agree g (λ y q. off-look (walk-local ms in_turn) s y (o y q))) h
good-now p ms s o g i h (suc (suc (suc j))) e = rw (idle-walk ms s i) (now g i)

module _ (n : ℕ) where
  pub good-see : (p : Process) → ((s : List ℕ) → length s ≡ n → Good s p → state_of s p ≡ 1 → Good (settle_running p s) p) → Sound p n → (b : Bool) (s : List ℕ) → length s ≡ n → Good s p → Good (settle p b s) p
  good-see p B d b s l g = go (state_of s p) refl b
    where
      go : (j : ℕ) → state_of s p ≡ j → (b : Bool) → Good (settle p b s) p
      go zero e false = rw (see-idle p s e) g
      go zero e true = rw (see-start p s e)
          (B (set s (row_of p) 1) (length-set s (row_of p) 1 ∙ l) (good_start p n d s l g e) (get_or-set_same s (row_of p) 1 0 (rw l (sound-row p n d))))
      go (suc zero) e b = rw (see-run p b s e) (B s l g e)
      go (suc (suc j)) e b = rw (see-over p b s j e) g

  mutual
    pub good-body : (p : Process) → Sound p n → (s : List ℕ) → length s ≡ n → Good s p → state_of s p ≡ 1 → Good (settle_running p s) p
    good-body (node k r ms) d s l (idle i) e = absurd (omega (arith, i r (Memᴰ.head refl)))
    good-body (node k r ms) d s l (over i e' q h o) e = absurd (omega arith)
    good-body (node k r ms) d s l (run e' h) e = good-node k r ms s (rw l d.0) d.1 e' (good-walk ms d.2 (mode k) s l h)

    pub good-walk : (ms : Processes) → SoundM ms n → (m : Mode) (s : List ℕ) → length s ≡ n → GoodM s m ms → GoodM (settle_each ms m s) m ms
    good-walk empty d m s l h = done0
    good-walk (also p ms) d m s l (each h hs) =
        let s1 = settle p true s in
        rw (walk-also p ms together s)
        (each (good-agree (good-see p (λ s l g e. good-body p d.0 s l g e) d.0 true s l h) (λ y q. off-look (walk-local ms together) s1 y (d.2 y q)))
        (good-walk ms d.1 together s1 (length-local (see-local p true) s ∙ l) (good_m-agree hs (λ y q. off-look (see-local p true) s y (λ z. d.2 y z q)))))
    good-walk (also p ms) d m s l (past e h hs) =
        rw (walk-also p ms in_turn s, see-over p true s 0 e, e)
        (past (off-look (walk-local ms in_turn) s (row_of p) (d.2 (row_of p) (row_in p)) ∙ e) (good-agree h (λ y q. off-look (walk-local ms in_turn) s y (d.2 y q)))
        (good-walk ms d.1 in_turn s l hs))
    good-walk (also p ms) d m s l (now h i) =
        let s1 = settle p true s in
        let i1 : Idle (rows_beneath ms) s1 = λ y q. off-look (see-local p true) s y (λ z. d.2 y z q) ∙ i y q in
        rw (walk-also p ms in_turn s)
        (good-now p ms s1 d.2 (good-see p (λ s l g e. good-body p d.0 s l g e) d.0 true s l h) i1
        (good-walk ms d.1 in_turn s1 (length-local (see-local p true) s ∙ l) (good_m-idle ms in_turn s1 i1)) (state_of s1 p) refl)
    good-walk (also p ms) d m s l (pass i hs) =
        rw (walk-also p ms by_step s, see-idle p s (i (row_of p) (row_in p)))
        (pass (λ y q. off-look (walk-local ms by_step) s y (d.2 y q) ∙ i y q) (good-walk ms d.1 by_step s l hs))
    good-walk (also p ms) d m s l (pick h i) =
        let s1 = settle p false s in
        let i1 : Idle (rows_beneath ms) s1 = λ y q. off-look (see-local p false) s y (λ z. d.2 y z q) ∙ i y q in
        rw (walk-also p ms by_step s, idle-walk ms s1 i1) (pick (good-see p (λ s l g e. good-body p d.0 s l g e) d.0 false s l h) i1)

-- ---- a store of a step keeps it

pub pick-child : (n : ℕ) (ms : Processes) → SoundM ms n → (s : List ℕ) → length s ≡ n → {x : ℕ} → Child x ms → Idle (rows_beneath ms) s → GoodM (set s x 1) by_step ms
pick-child n empty d s l {x = x} x6 i = elim x6 [ ]
pick-child n (also p ms) d s l (eldest e) i =
    rw e (pick (good_start p n d.0 s l (idle (λ y q. i y (Memᴰ.append_left (rows_beneath ms) q))) (i (row_of p) (Memᴰ.append_left (rows_beneath ms) (row_in p))))
    (λ y q. get_or-set_other s (row_of p) y 1 0 (λ z. d.2 y (Memᴰ.cast z (row_in p)) q) ∙ i y (Memᴰ.append_right (rows_in p) q)))
pick-child n (also p ms) d s l {x} (younger h) i =
    pass (λ y q. get_or-set_other s x y 1 0 (λ z. d.2 y q (Memᴰ.cast z (child-in h))) ∙ i y (Memᴰ.append_left (rows_beneath ms) q))
    (pick-child n ms d.1 s l h (λ y q. i y (Memᴰ.append_right (rows_in p) q)))

module _ (b x v n : ℕ) (s : List ℕ) (l : length s ≡ n) where
  good-here : (k : Action) (r : ℕ) (ms : Processes) → Sound (node k r ms) n → get_or s r 0 ≡ 1 → mode k ≡ by_step → Idle (rows_beneath ms) s → Legal x v r ms → Good (set s x v) (node k r ms)
  good-here k r ms d e m i (own j ex ev) =
      let z : Idle (rows_beneath ms) (set s x v) = λ y q. get_or-set_other s x y v 0 (λ u. d.1 (Memᴰ.cast (sym ex ∙ sym u) q)) ∙ i y q in
      over j (sym (ap (λ (y : ℕ). get_or (set s x v) y 0) ex) ∙ get_or-set_same s x v 0 (rw (ex, l) d.0) ∙ ev)
      (idle-quiet (rows_beneath ms) (set s x v) z) (good_m-idle ms (mode k) (set s x v) z) (inr (m, z))
  good-here k r ms d e m i (child h ev) =
      run {k = k} {ms = ms} (get_or-set_other s x r v 0 (λ u. d.1 (Memᴰ.cast u (child-in h))) ∙ e) (rw (m, ev) (pick-child n ms d.2 s l h i))

  mutual
    pub good-set : (p : Process) → Sound p n → Good s p → At b x v s p → Good (set s x v) p
    good-set (node k r ms) d (idle i) h = absurd (omega (arith, at-run h, i r (Memᴰ.head refl)))
    good-set (node k r ms) d (over j e q g o) h = absurd (omega (arith, at-run h))
    good-set (node k r ms) d (run e g) (here eb e' m i h) = good-here k r ms d e m i h
    good-set (node k r ms) d (run e g) (under e' h) = run (get_or-set_other s x r v 0 (λ u. d.1 (Memᴰ.cast u (at_m-in h))) ∙ e) (good_m-set ms d.2 (mode k) g h)

    good_m-set : (ms : Processes) → SoundM ms n → (m : Mode) → GoodM s m ms → AtM b x v s ms → GoodM (set s x v) m ms
    good_m-set empty d m _ x8 = elim x8 [ ]
    good_m-set (also p ms) d m (each g gs) (first h) = each (good-set p d.0 g h) (good_m-agree gs (λ y q. get_or-set_other s x y v 0 (λ u. d.2 y (Memᴰ.cast u (at_in h)) q)))
    good_m-set (also p ms) d m (each g gs) (later h) = each (good-agree g (λ y q. get_or-set_other s x y v 0 (λ u. d.2 y q (Memᴰ.cast u (at_m-in h))))) (good_m-set ms d.1 together gs h)
    good_m-set (also p ms) d m (past e g gs) (first h) = absurd (omega (arith, at-run h))
    good_m-set (also p ms) d m (past e g gs) (later h) =
        let a : Agree (rows_in p) s (set s x v) = λ y q. get_or-set_other s x y v 0 (λ u. d.2 y q (Memᴰ.cast u (at_m-in h))) in
        past (a (row_of p) (row_in p) ∙ e) (good-agree g a) (good_m-set ms d.1 in_turn gs h)
    good_m-set (also p ms) d m (now g i) (first h) = now (good-set p d.0 g h) (λ y q. get_or-set_other s x y v 0 (λ u. d.2 y (Memᴰ.cast u (at_in h)) q) ∙ i y q)
    good_m-set (also p ms) d m (now g i) (later h) = absurd (busy h i)
    good_m-set (also p ms) d m (pass i gs) (first h) = absurd (omega (arith, at-run h, i (row_of p) (row_in p)))
    good_m-set (also p ms) d m (pass i gs) (later h) = pass (λ y q. get_or-set_other s x y v 0 (λ u. d.2 y q (Memᴰ.cast u (at_m-in h))) ∙ i y q) (good_m-set ms d.1 by_step gs h)
    good_m-set (also p ms) d m (pick g i) (first h) = pick (good-set p d.0 g h) (λ y q. get_or-set_other s x y v 0 (λ u. d.2 y (Memᴰ.cast u (at_in h)) q) ∙ i y q)
    good_m-set (also p ms) d m (pick g i) (later h) = absurd (busy h i)

-- ---- every running row with all beneath it idle is at the frontier

mutual
  pub data Sub (k : Action) (r : ℕ) (ms : Processes) : Process → Type 0 where
    self : Sub k r ms (node k r ms)
    inside : {k' : Action} {r' : ℕ} {ps : Processes} → SubM k r ms ps → Sub k r ms (node k' r' ps)

  pub data SubM (k : Action) (r : ℕ) (ms : Processes) : Processes → Type 0 where
    front : {p : Process} {ps : Processes} → Sub k r ms p → SubM k r ms (also p ps)
    back : {p : Process} {ps : Processes} → SubM k r ms ps → SubM k r ms (also p ps)

module _ {k : Action} {r : ℕ} {ms : Processes} where
  mutual
    pub sub_in : (p : Process) → Sub k r ms p → Memᴰ r (rows_in p)
    sub_in (node k' r' ps) self = Memᴰ.head refl
    sub_in (node k' r' ps) (inside h) = Memᴰ.tail (sub_m-in ps h)

    pub sub_m-in : (ps : Processes) → SubM k r ms ps → Memᴰ r (rows_beneath ps)
    sub_m-in empty x'' = elim x'' [ ]
    sub_m-in (also p ps) (front h) = Memᴰ.append_left (rows_beneath ps) (sub_in p h)
    sub_m-in (also p ps) (back h) = Memᴰ.append_right (rows_in p) (sub_m-in ps h)

module _ (s : List ℕ) (k : Action) (r : ℕ) (ms : Processes) (x v : ℕ) (e : get_or s r 0 ≡ 1) (m : mode k ≡ by_step) (i : Idle (rows_beneath ms) s) (lg : Legal x v r ms) where
  mutual
    pub frontier : (p : Process) → Sub k r ms p → Good s p → At r x v s p
    frontier (node k' r' ps) self g = here refl e m i lg
    frontier (node k' r' ps) (inside h) (idle j) = absurd (omega (arith, j r (Memᴰ.tail (sub_m-in ps h))))
    frontier (node k' r' ps) (inside h) (over j e' q g o) = absurd (not-running (get_or s r 0) (q r (sub_m-in ps h)) e)
    frontier (node k' r' ps) (inside h) (run e' g) = under e' (frontier_m ps h (mode k') g)

    frontier_m : (ps : Processes) → SubM k r ms ps → (mo : Mode) → GoodM s mo ps → AtM r x v s ps
    frontier_m empty x5 mo g = elim x5 [ ]
    frontier_m (also p ps) (front h) mo g = first (frontier p h (good_m-head g))
    frontier_m (also p ps) (back h) mo g = later (frontier_m ps h mo (good_m-tail g))

-- ---- two frontier rows_in stand in two members of one PAR

mutual
  pub data Apart (a b : ℕ) : Process → Type 0 where
    within : {k : Action} {r : ℕ} {ms : Processes} → ApartM a b (mode k) ms → Apart a b (node k r ms)

  pub data ApartM (a b : ℕ) : Mode → Processes → Type 0 where
    in-first : {m : Mode} {p : Process} {ms : Processes} → Apart a b p → ApartM a b m (also p ms)
    in-later : {m : Mode} {p : Process} {ms : Processes} → ApartM a b m ms → ApartM a b m (also p ms)
    ab : {m : Mode} {p : Process} {ms : Processes} → m ≡ together → Memᴰ a (rows_in p) → Memᴰ b (rows_beneath ms) → ApartM a b m (also p ms)
    ba : {m : Mode} {p : Process} {ms : Processes} → m ≡ together → Memᴰ b (rows_in p) → Memᴰ a (rows_beneath ms) → ApartM a b m (also p ms)

module _ {b x v : ℕ} {s : List ℕ} where
  mutual
    at-row : {p : Process} → At b x v s p → Memᴰ b (rows_in p)
    at-row (here eb e m i h) = Memᴰ.head (sym eb)
    at-row (under e h) = Memᴰ.tail (at_m-row h)

    at_m-row : {ms : Processes} → AtM b x v s ms → Memᴰ b (rows_beneath ms)
    at_m-row (first {ms} h) = Memᴰ.append_left (rows_beneath ms) (at-row h)
    at_m-row (later {p} h) = Memᴰ.append_right (rows_in p) (at_m-row h)

-- a member at work beside another one at work: the process is a PAR
sole : {b y w : ℕ} {s : List ℕ} {m : Mode} {p : Process} {ms : Processes} → GoodM s m (also p ms) → state_of s p ≡ 1 → AtM b y w s ms → m ≡ together
sole (each g gs) e h = refl
sole (past e' g gs) e h = absurd (omega arith)
sole (now g i) e h = absurd (busy h i)
sole (pass {p} i gs) e h = absurd (omega (arith, i (row_of p) (row_in p)))
sole (pick g i) e h = absurd (busy h i)

pub running : {s : List ℕ} {k : Action} {r : ℕ} {ms : Processes} → Good s (node k r ms) → get_or s r 0 ≡ 1 → GoodM s (mode k) ms
running {r} (idle i) e = absurd (omega (arith, i r (Memᴰ.head refl)))
running (over i e' q h o) e = absurd (omega arith)
running (run e' h) e = h

module _ (a x v b y w : ℕ) (s : List ℕ) (ne : a ≢ b) where
  mutual
    pub apart : (p : Process) → Good s p → At a x v s p → At b y w s p → Apart a b p
    apart (node k r ms) g (here ea e m i h) (here eb e' m' i' h') = absurd (ne (sym ea ∙ eb))
    apart (node k r ms) g (here ea e m i h) (under e' h') = absurd (busy h' i)
    apart (node k r ms) g (under e h) (here eb e' m' i' h') = absurd (busy h i')
    apart (node k r ms) g (under e h) (under e' h') = within (apart_m ms (mode k) (running g e) h h')

    apart_m : (ms : Processes) (m : Mode) → GoodM s m ms → AtM a x v s ms → AtM b y w s ms → ApartM a b m ms
    apart_m empty m g x7 _ = elim x7 [ ]
    apart_m (also p ms) m g (first h) (first h') = in-first (apart p (good_m-head g) h h')
    apart_m (also p ms) m g (first h) (later h') = ab (sole g (at-run h) h') (at-row h) (at_m-row h')
    apart_m (also p ms) m g (later h) (first h') = ba (sole g (at-run h') h) (at-row h') (at_m-row h)
    apart_m (also p ms) m g (later h) (later h') = in-later (apart_m ms m (good_m-tail g) h h')
