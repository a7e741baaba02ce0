-- After settling no rule of settling applies.
use mathlib.Core.Path.{◌≡◌, refl, sym, ap, subst, ◌∙◌}
use mathlib.Core.Logic.{◌≢◌}
use mathlib.Core.Bool.{Bool, true, false, true≢false, or-true}
use mathlib.Core.List.Memᴰ
use mathlib.Core.List.{List}
use Prim.Native.Nat.{ℕ, zero, suc}
use native.Mathlib.Omega.{arith}
use lib.ListN.{length, get_or, set, length-set}
use lib.Seq.{get_or-set_other, get_or-set_same}
use Rattle.meaning.specs.Tree.{Action, skip, sequence, parallel, conditional, loop, alternation, block, Process, node, Processes, empty, also, row_of, rows_in, rows_beneath}
use Rattle.meaning.specs.State.{Store, State, state_of, make_idle, any_of}
use Rattle.meaning.specs.Settle.{states_of, Mode, in_turn, together, by_step, mode, starts, next_mode, is_ended, is_idle_or_ended, all_of, complete, ends_when_closed, settle_running, settle_each, settle}
use Rattle.meaning.specs.SettlingRules.{Among, All, Next, Settles, skip-ends, seq-starts, par-starts, seq-ends, par-ends, if-ends, alt-ends, while-again, block-starts, block-ends, Final}
use Rattle.agreement.proofs.Frame.{body-shape, walk-also, row_in, walk-local, see-local, Off, length-local, off-look}
use Rattle.agreement.proofs.Again.{Sound, SoundM, sound-row, Idle, see-run, see-idle, see-start, see-over, zeros-idle, loop-never}
use Rattle.agreement.proofs.Reach.{Good, GoodM, idle, over, run, each, past, now, pass, pick, not-running, Agree, states-agree, good_m-agree, good_m-idle, good_m-quiet, done-over, good_start, good-walk, good_m-head, Sub, SubM, self, inside, front, back, sub_in, sub_m-in}
use Rattle.agreement.proofs.Begun.{not-idle}
use Rattle.agreement.proofs.Settled.{Plain, PlainA, PlainM, state_with}
use Rattle.agreement.proofs.Inside.{within_of, sub-rows, among-row, next-among, next_agree}

-- no rule applies to a running process whose members are walked by a mode
abbrev pub Still : Mode → Processes → List ℕ → Type 0
Still in_turn ms s = (all_of is_ended (states_of ms s) ≡ false) × ((q : Process) → Next s q ms → state_of s q ≢ 0)
Still together ms s = (all_of is_ended (states_of ms s) ≡ false) × ((q : Process) → Among q ms → state_of s q ≢ 0)
Still by_step ms s = (q : Process) → Among q ms → state_of s q ≢ 2

-- none applies to a running process that stands in another, or in one of some members
abbrev pub Rested : List ℕ → Process → Type 0
Rested s p = (k : Action) (r : ℕ) (ms : Processes) → Sub k r ms p → get_or s r 0 ≡ 1 → Still (mode k) ms s

abbrev pub RestedM : List ℕ → Processes → Type 0
RestedM s ps = (k : Action) (r : ℕ) (ms : Processes) → SubM k r ms ps → get_or s r 0 ≡ 1 → Still (mode k) ms s

module _ (s t : List ℕ) where
  pub still-agree : (m : Mode) (ms : Processes) → Agree (rows_beneath ms) s t → Still m ms s → Still m ms t
  still-agree in_turn ms g h = (ap (all_of is_ended) (states-agree s t ms g) ∙ h.0, λ q x e. h.1 q (next_agree s t ms g x) (sym (g (row_of q) (among-row (next-among x))) ∙ e))
  still-agree together ms g h = (ap (all_of is_ended) (states-agree s t ms g) ∙ h.0, λ q x e. h.1 q x (sym (g (row_of q) (among-row x)) ∙ e))
  still-agree by_step ms g h = λ q x e. h q x (sym (g (row_of q) (among-row x)) ∙ e)

  rested-agree : (p : Process) → Agree (rows_in p) s t → Rested s p → Rested t p
  rested-agree p g h k r ms u e =
      still-agree (mode k) ms (λ y q. g y (sub-rows (Memᴰ.tail q) p u)) (h k r ms u (sym (g r (sub_in p u)) ∙ e))

-- a process that may be started is not idle once it has settled
started : (p : Process) (n : ℕ) → Sound p n → (s : List ℕ) → length s ≡ n → state_of (settle p true s) p ≢ 0
started p n d s l = go (state_of s p) refl
  where
    ran : (u : List ℕ) → length u ≡ n → state_of u p ≡ 1 → state_of (settle_running p u) p ≢ 0
    ran u l e = let (j, q) = not-idle p n d u l e in λ z. absurd (omega arith)

    go : (j : ℕ) → state_of s p ≡ j → state_of (settle p true s) p ≢ 0
    go zero e = rw (see-start p s e) (ran (set s (row_of p) 1) (length-set s (row_of p) 1 ∙ l) (get_or-set_same s (row_of p) 1 0 (rw l (sound-row p n d))))
    go (suc zero) e = rw (see-run p true s e) (ran s l e)
    go (suc (suc j)) e = rw (see-over p true s j e) (λ z. absurd (omega arith))

module _ (n : ℕ) where
  -- the first member that has not ended has been started; of a PAR, every member
  next-started : (ms : Processes) → SoundM ms n → (s : List ℕ) → length s ≡ n → (q : Process) → Next (settle_each ms in_turn s) q ms → state_of (settle_each ms in_turn s) q ≢ 0
  next-started empty d s l q x = elim x [ ]
  next-started (also p ms) d s l q Next.next_here =
      rw (walk-also p ms in_turn s)
      (λ z. started p n d.0 s l (sym (off-look (walk-local ms (next_mode in_turn (state_of (settle p true s) p))) (settle p true s) (row_of p) (d.2 (row_of p) (row_in p))) ∙ z))
  next-started (also p ms) d s l q (Next.next-after f x) =
      let s1 = settle p true s in
      let two : state_of s1 p ≡ 2 = sym (off-look (walk-local ms (next_mode in_turn (state_of s1 p))) s1 (row_of p) (d.2 (row_of p) (row_in p))) ∙ (rw (walk-also p ms in_turn s) at f) in
      let same : settle_each (also p ms) in_turn s ≡ settle_each ms in_turn s1 = walk-also p ms in_turn s ∙ ap (λ (j : ℕ). settle_each ms (next_mode in_turn j) s1) two in
      rw same (next-started ms d.1 s1 (length-local (see-local p true) s ∙ l) q (rw same at x))

  all-started : (ms : Processes) → SoundM ms n → (s : List ℕ) → length s ≡ n → (q : Process) → Among q ms → state_of (settle_each ms together s) q ≢ 0
  all-started empty d s l q x3 = elim x3 [ ]
  all-started (also p ms) d s l q Among.among_first =
      rw (walk-also p ms together s)
      (λ z. started p n d.0 s l (sym (off-look (walk-local ms together) (settle p true s) (row_of p) (d.2 (row_of p) (row_in p))) ∙ z))
  all-started (also p ms) d s l q (Among.among_later x) =
      rw (walk-also p ms together s) (all-started ms d.1 (settle p true s) (length-local (see-local p true) s ∙ l) q x)

-- where one of the members of an IF, ALT or WHILE has ended, it may close
idle-or-ended : (ms : Processes) (s : List ℕ) → Idle (rows_beneath ms) s → all_of is_idle_or_ended (states_of ms s) ≡ true
idle-or-ended empty s i = refl
idle-or-ended (also p ms) s i = rw (i (row_of p) (Memᴰ.append_left (rows_beneath ms) (row_in p))) (idle-or-ended ms s (λ x m. i x (Memᴰ.append_right (rows_in p) m)))

any-ended : {q : Process} {ms : Processes} (s : List ℕ) → Among q ms → state_of s q ≡ 2 → any_of is_ended (states_of ms s) ≡ true
any-ended s Among.among_first e = rw e
any-ended s (Among.among_later {p} {ms} a) e = rw (any-ended s a e) (or-true (is_ended (state_of s p)))

sole-ended : {s : List ℕ} (ms : Processes) → GoodM s by_step ms → {q : Process} → Among q ms → state_of s q ≡ 2 → all_of is_idle_or_ended (states_of ms s) ≡ true
sole-ended empty h a e = elim a [ ]
sole-ended (also p ms) (pass i h) Among.among_first e = absurd (omega (arith, i (row_of p) (row_in p)))
sole-ended (also p ms) (pass i h) (Among.among_later a) e = rw (i (row_of p) (row_in p)) (sole-ended ms h a e)
sole-ended {s} (also p ms) (pick g i) Among.among_first e = rw e (idle-or-ended ms s i)
sole-ended (also p ms) (pick g i) {q} (Among.among_later a) e = absurd (omega (arith, i (row_of q) (among-row a)))

-- an IF, ALT or WHILE with an ended member closes
pub may-close : (ms : Processes) (s : List ℕ) → GoodM s by_step ms → {q : Process} → Among q ms → state_of s q ≡ 2 → complete by_step (states_of ms s) ≡ true
may-close ms s h a e = rw (sole-ended ms h a e, any-ended s a e)

module _ (n : ℕ) where
  -- members that settled and do not close their process leave it no rule
  walk-still : (m : Mode) (ms : Processes) → SoundM ms n → (s : List ℕ) → length s ≡ n → GoodM (settle_each ms m s) m ms → complete m (states_of ms (settle_each ms m s)) ≡ false
      → Still m ms (settle_each ms m s)
  walk-still in_turn ms d s l h c = (c, next-started n ms d s l)
  walk-still together ms d s l h c = (c, all-started n ms d s l)
  walk-still by_step ms d s l h c = λ q a e. true≢false (sym (may-close ms (settle_each ms by_step s) h a e) ∙ c)

  idle-still : (ms : Processes) (s : List ℕ) → Idle (rows_beneath ms) s → Still by_step ms s
  idle-still ms s i q a e = omega (arith, i (row_of q) (among-row a))

  rested-node : (k : Action) (r : ℕ) (ms : Processes) → Sound (node k r ms) n → (s : List ℕ) → length s ≡ n → get_or s r 0 ≡ 1 → GoodM (settle_each ms (mode k) s) (mode k) ms
      → RestedM (settle_each ms (mode k) s) ms → Rested (settle_running (node k r ms) s) (node k r ms)
  rested-node k r ms d s l e h hs = go (complete (mode k) (states_of ms w)) (ends_when_closed k) refl refl
    where
      w : List ℕ
      w = settle_each ms (mode k) s

      z : List ℕ
      z = make_idle (rows_beneath ms) w

      open-one : complete (mode k) (states_of ms w) ≡ false → Rested w (node k r ms)
      open-one c k r ms self e = walk-still (mode k) ms d.2 s l h c
      open-one c k r ms (inside u) e = hs k r ms u e

      ended-one : complete (mode k) (states_of ms w) ≡ true → Rested (set w r 2) (node k r ms)
      ended-one c k r ms self e = absurd (omega (arith, get_or-set_same w r 2 0 (rw (length-local (walk-local ms (mode k)) s, l) d.0)))
      ended-one c a b ps (inside u) e =
          let q = sub_m-in ms u in
          absurd (not-running (get_or w b 0) (good_m-quiet h (done-over (mode k) (states_of ms w) c) b q) (sym (get_or-set_other w r b 2 0 (λ x. d.1 (Memᴰ.cast (sym x) q))) ∙ e))

      again-one : Still (mode k) ms z → Rested z (node k r ms)
      again-one g k r ms self e = g
      again-one g a b ps (inside u) e = absurd (omega (arith, zeros-idle (rows_beneath ms) w b (sub_m-in ms u)))

      go : (c x : Bool) → complete (mode k) (states_of ms w) ≡ c → ends_when_closed k ≡ x → Rested (settle_running (node k r ms) s) (node k r ms)
      go false x ec ex = rw (body-shape k r ms s false x ec ex) (open-one ec)
      go true true ec ex = rw (body-shape k r ms s true true ec ex) (ended-one ec)
      go true false ec ex = rw (body-shape k r ms s true false ec ex) (again-one (subst (λ (m : Mode). Still m ms z) (sym (loop-never k ex)) (idle-still ms z (zeros-idle (rows_beneath ms) w))))

  idle-rested : (p : Process) (s : List ℕ) → Idle (rows_in p) s → Rested s p
  idle-rested p s i k r ms u e = absurd (omega (arith, i r (sub_in p u)))

  over-rested : (p : Process) (s : List ℕ) → Good s p → state_of s p ≢ 1 → Rested s p
  over-rested p s (idle i) ne k r ms u e = idle-rested p s i k r ms u e
  over-rested p s (over i z q h o) ne k r ms self e = absurd (ne e)
  over-rested p s (over {ms = ps} i z q h o) ne k r ms (inside u) e = absurd (not-running (get_or s r 0) (q r (sub_m-in ps u)) e)
  over-rested p s (run z h) ne k r ms u e = absurd (ne z)

  rested-see : (p : Process) → ((s : List ℕ) → length s ≡ n → Good s p → state_of s p ≡ 1 → Rested (settle_running p s) p) → Sound p n → (b : Bool) (s : List ℕ) → length s ≡ n → Good s p → Rested (settle p b s) p
  rested-see p B d b s l g = go (state_of s p) refl b
    where
      go : (j : ℕ) → state_of s p ≡ j → (b : Bool) → Rested (settle p b s) p
      go zero e false = rw (see-idle p s e) (over-rested p s g (λ z. omega arith))
      go zero e true = rw (see-start p s e)
          (B (set s (row_of p) 1) (length-set s (row_of p) 1 ∙ l) (good_start p n d s l g e) (get_or-set_same s (row_of p) 1 0 (rw l (sound-row p n d))))
      go (suc zero) e b = rw (see-run p b s e) (B s l g e)
      go (suc (suc j)) e b = rw (see-over p b s j e) (over-rested p s g (λ z. omega arith))

  -- a member that settled, and then those after it
  rested-also : (p : Process) (ms : Processes) (m : Mode) (s : List ℕ) → Off (rows_in p) (rows_beneath ms) → Rested s p → RestedM (settle_each ms m s) ms → RestedM (settle_each ms m s) (also p ms)
  rested-also p ms m s o h hs k r qs (front u) e = rested-agree s (settle_each ms m s) p (λ y q. off-look (walk-local ms m) s y (o y q)) h k r qs u e
  rested-also p ms m s o h hs k r qs (back u) e = hs k r qs u e

  -- what is left for the members after one that settled
  good_m-rest : (p : Process) (ms : Processes) (m : Mode) (s : List ℕ) → Off (rows_in p) (rows_beneath ms) → GoodM s m (also p ms)
      → GoodM (settle p (starts m) s) (next_mode m (state_of (settle p (starts m) s) p)) ms
  good_m-rest p ms m s o (each g h) = good_m-agree h (λ y q. off-look (see-local p true) s y (λ z. o y z q))
  good_m-rest p ms m s o (past e g h) = rw (see-over p true s 0 e, e) h
  good_m-rest p ms m s o (now g i) =
      good_m-idle ms (next_mode in_turn (state_of (settle p true s) p)) (settle p true s) (λ y q. off-look (see-local p true) s y (λ z. o y z q) ∙ i y q)
  good_m-rest p ms m s o (pass i h) = good_m-agree h (λ y q. off-look (see-local p false) s y (λ z. o y z q))
  good_m-rest p ms m s o (pick g i) = good_m-idle ms by_step (settle p false s) (λ y q. off-look (see-local p false) s y (λ z. o y z q) ∙ i y q)

  mutual
    rested-body : (p : Process) → Sound p n → (s : List ℕ) → length s ≡ n → Good s p → state_of s p ≡ 1 → Rested (settle_running p s) p
    rested-body (node k r ms) d s l (idle i) e = absurd (omega (arith, i r (Memᴰ.head refl)))
    rested-body (node k r ms) d s l (over i e' q h o) e = absurd (omega arith)
    rested-body (node k r ms) d s l (run e' h) e = rested-node k r ms d s l e' (good-walk n ms d.2 (mode k) s l h) (rested-walk ms d.2 (mode k) s l h)

    rested-walk : (ms : Processes) → SoundM ms n → (m : Mode) (s : List ℕ) → length s ≡ n → GoodM s m ms → RestedM (settle_each ms m s) ms
    rested-walk empty d m s l h = λ k r qs u e. elim u [ ]
    rested-walk (also p ms) d m s l h =
        let s1 = settle p (starts m) s in
        let m1 = next_mode m (state_of s1 p) in
        rw (walk-also p ms m s)
        (rested-also p ms m1 s1 d.2 (rested-see p (λ s l g e. rested-body p d.0 s l g e) d.0 (starts m) s l (good_m-head h))
        (rested-walk ms d.1 m1 s1 (length-local (see-local p (starts m)) s ∙ l) (good_m-rest p ms m s d.2 h)))

  -- no rule is left, of any process
  pub rested : (p : Process) → Sound p n → (b : Bool) (s : List ℕ) → length s ≡ n → Good s p → Rested (settle p b s) p
  rested p d b s l g = rested-see p (rested-body p d) d b s l g

-- ---- the rules themselves

pub ended-closes : {s : List ℕ} {ms : Processes} → All 2 s ms → all_of is_ended (states_of ms s) ≡ true
ended-closes All.all_none = refl
ended-closes (All.all_more e h) = rw e (ended-closes h)

pub skip-empty : (ms : Processes) → PlainA skip ms → ms ≡ empty
skip-empty empty h = refl
skip-empty (also p ms) h = absurd h

module _ {k : Action} {r : ℕ} {ms : Processes} where
  mutual
    pub plain_at : (p : Process) → Sub k r ms p → Plain p → PlainA k ms
    plain_at (node k' r' ps) self h = h.0
    plain_at (node k' r' ps) (inside u) h = plain_m-at ps u h.1

    plain_m-at : (ps : Processes) → SubM k r ms ps → PlainM ps → PlainA k ms
    plain_m-at empty x4 h = elim x4 [ ]
    plain_m-at (also p ps) (front u) h = plain_at p u h.0
    plain_m-at (also p ps) (back u) h = plain_m-at ps u h.1

rested-final : (whole : Process) → Plain whole → (s : State) → Rested s.states whole → (t : State) → ¬ Settles whole s t
rested-final whole h s g t (skip-ends {r} {ms} (i, e)) =
    let u = within_of i in
    true≢false (sym (ap (λ (q : Processes). all_of is_ended (states_of q s.states)) (skip-empty ms (plain_at whole u h))) ∙ (g skip r ms u e).0)
rested-final whole h s g t (seq-starts {r} {ms} {q} (i, e) x z) = (g sequence r ms (within_of i) e).1 q x z
rested-final whole h s g t (par-starts {r} {ms} {q} (i, e) x z) = (g parallel r ms (within_of i) e).1 q x z
rested-final whole h s g t (seq-ends {r} {ms} (i, e) x) = true≢false (sym (ended-closes x) ∙ (g sequence r ms (within_of i) e).0)
rested-final whole h s g t (par-ends {r} {ms} (i, e) x) = true≢false (sym (ended-closes x) ∙ (g parallel r ms (within_of i) e).0)
rested-final whole h s g t (if-ends {ts} {r} {ms} {q} (i, e) x z) = g (conditional ts) r ms (within_of i) e q x z
rested-final whole h s g t (alt-ends {bs} {r} {ms} {q} (i, e) x z) = g (alternation bs) r ms (within_of i) e q x z
rested-final whole h s g t (while-again {e = c} {b} {r} {ms} {q} (i, e) x z) = g (loop c b) r ms (within_of i) e q x z
rested-final whole h s g t (block-starts {v} {r} {ms} {q} (i, e) x z) = (g (block v) r ms (within_of i) e).1 q x z
rested-final whole h s g t (block-ends {v} {r} {ms} (i, e) x) = true≢false (sym (ended-closes x) ∙ (g (block v) r ms (within_of i) e).0)

-- to settle a good state leaves no rule that applies
pub no-rule-left : (whole : Process) (n : ℕ) → Sound whole n → Plain whole → (s : List ℕ) → length s ≡ n → Good s whole → (b : Bool) (x : Store) → Final whole (state_with (settle whole b s) x)
no-rule-left whole n d h s l g b x = rested-final whole h (state_with (settle whole b s) x) (rested n whole d b s l g)
