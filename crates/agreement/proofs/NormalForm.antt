-- Each change that a rule of settling makes keeps a state good, and to settle after it is to settle before it: so the rules have one normal form.
use mathlib.Core.Path.{◌≡◌, refl, sym, ap, ap₂, subst, ◌∙◌}
use mathlib.Core.Bool.{Bool, true, false, or_comm}
use mathlib.Core.List.Memᴰ
use mathlib.Core.List.{List, [], ◌∷◌, ◌++◌, Memᴰ}
use Prim.Native.Nat.{ℕ, suc, ◌+◌, ◌<◌, ◌≤◌}
use native.Mathlib.Omega.{arith}
use lib.ListN.{length, get_or, set, length-set}
use lib.Seq.{get_or-set_other, get_or-set_same}
use Rattle.meaning.specs.Declarations.{Variable}
use Rattle.meaning.specs.Tree.{Action, skip, sequence, parallel, conditional, loop, alternation, block, Process, node, Processes, empty, also, row_of, rows_in, rows_beneath}
use Rattle.meaning.specs.State.{State, state_of, make_idle, with_state, unset_all}
use Rattle.meaning.specs.Settle.{states_of, Mode, in_turn, together, by_step, mode, starts, next_mode, complete, ends_when_closed, settle_running, settle_each, settle, local_of, if_started, begun_each, begun}
use Rattle.meaning.specs.SettlingRules.{Among, All, Next, Inside, Settles, skip-ends, seq-starts, par-starts, seq-ends, par-ends, if-ends, alt-ends, while-again, block-starts, block-ends, Settling, no_change, next-change, Final}
use Rattle.agreement.proofs.Frame.{Local, body-node, walk_none, walk-also, row_in, see-local, zeros-local, length-local, off-look, off-put}
use Rattle.agreement.proofs.Again.{Out, Sound, SoundM, sound-row, after, after-eq, see-run, see-idle, see-start, see-over, idle-walk, idle_body, zeros-idle}
use Rattle.agreement.proofs.Reach.{Good, GoodM, run, each, past, now, pass, pick, Agree, good-agree, good_m-agree, good_m-idle, good_m-head, good_m-tail, good_start, good-end, Sub}
use Rattle.agreement.proofs.Settled.{Plain, state_with, settles}
use Rattle.agreement.proofs.Inside.{within_of, among-row, next-among}
use Rattle.agreement.proofs.NoRuleLeft.{may-close, ended-closes, skip-empty, plain_at, no-rule-left}
use Rattle.agreement.proofs.ChangesLeft.{left, left_m, left-bound, less-around, less-ended, less-beneath, less-started, less-idle}
use Rattle.agreement.specs.SettlingClaims.{changes_in, NormalForm}
use Rattle.meaning.proofs.UnsetLaws.{holds_cell, holds-append, Joined, joined-left, unset-both}
use Rattle.agreement.proofs.Begun.{begun-node, begun-also, begun-run, begun-start, begun-over, begun-reads, reads-put, each-quiet, running-quiet}
use Rattle.agreement.proofs.BegunAround.{joined-after, begun-around}
use Rattle.agreement.proofs.RulesAbsorbed.{wider, set_local, sound-at, good-at, settle-around, good-around}

-- ---- members that settling leaves alone

ended-walk : {s : List ℕ} (ms : Processes) (m : Mode) → All 2 s ms → settle_each ms m s ≡ s
ended-walk {s} empty m h = walk_none m s
ended-walk {s} (also p ms) m (All.all_more e h) = rw (walk-also p ms m s, see-over p (starts m) s 0 e) (ended-walk ms (next_mode m (state_of s p)) h)

chosen-walk : {s : List ℕ} (ms : Processes) → GoodM s by_step ms → {q : Process} → Among q ms → state_of s q ≡ 2 → settle_each ms by_step s ≡ s
chosen-walk empty h a e = elim a [ ]
chosen-walk (also p ms) (pass i h) Among.among_first e = absurd (omega (arith, i (row_of p) (row_in p)))
chosen-walk {s} (also p ms) (pass i h) (Among.among_later a) e = rw (walk-also p ms by_step s, see-idle p s (i (row_of p) (row_in p))) (chosen-walk ms h a e)
chosen-walk {s} (also p ms) (pick g i) Among.among_first e = rw (walk-also p ms by_step s, see-over p false s 0 e) (idle-walk ms s i)
chosen-walk (also p ms) (pick g i) {q} (Among.among_later a) e = absurd (omega (arith, i (row_of q) (among-row a)))

-- ---- members of which one is started

start-twice : (p : Process) (s : List ℕ) → row_of p < length s → state_of s p ≡ 0 → settle p true (set s (row_of p) 1) ≡ settle p true s
start-twice p s h e = see-run p true (set s (row_of p) 1) (get_or-set_same s (row_of p) 1 0 h) ∙ sym (see-start p s e)

start-here : (p : Process) (ms : Processes) (m : Mode) → starts m ≡ true → (s : List ℕ) → row_of p < length s → state_of s p ≡ 0 → settle_each (also p ms) m (set s (row_of p) 1) ≡ settle_each (also p ms) m s
start-here p ms m b s h e = rw (walk-also p ms m (set s (row_of p) 1), b, start-twice p s h e, walk-also p ms m s, b)

module _ (n : ℕ) where
  next-walk : {q : Process} (ms : Processes) → SoundM ms n → (s : List ℕ) → length s ≡ n → Next s q ms → state_of s q ≡ 0 → settle_each ms in_turn (set s (row_of q) 1) ≡ settle_each ms in_turn s
  next-walk empty d s l x z = elim x [ ]
  next-walk (also p ms) d s l Next.next_here z = start-here p ms in_turn refl s (rw l (sound-row p n d.0)) z
  next-walk {q} (also p ms) d s l (Next.next-after e x) z =
      let t = set s (row_of q) 1 in
      let e' : state_of t p ≡ 2 = get_or-set_other s (row_of q) (row_of p) 1 0 (λ u. d.2 (row_of p) (row_in p) (Memᴰ.cast u (among-row (next-among x)))) ∙ e in
      rw (walk-also p ms in_turn t, see-over p true t 0 e', e', walk-also p ms in_turn s, see-over p true s 0 e, e) (next-walk ms d.1 s l x z)

  among-walk : {q : Process} (ms : Processes) → SoundM ms n → (s : List ℕ) → length s ≡ n → Among q ms → state_of s q ≡ 0 → settle_each ms together (set s (row_of q) 1) ≡ settle_each ms together s
  among-walk {q = q} empty d s l x4 z = elim x4 [ ]
  among-walk (also p ms) d s l Among.among_first z = start-here p ms together refl s (rw l (sound-row p n d.0)) z
  among-walk {q} (also p ms) d s l (Among.among_later a) z =
      let s1 = settle p true s in
      let o : Out (row_of q) (rows_in p) = λ m. d.2 (row_of q) m (among-row a) in
      rw (walk-also p ms together (set s (row_of q) 1), off-put (see-local p true) s (row_of q) 1 o, walk-also p ms together s)
      (among-walk ms d.1 s1 (length-local (see-local p true) s ∙ l) a (off-look (see-local p true) s (row_of q) o ∙ z))

  -- a SEQ or PAR of which a member is started is good
  next-good : {q : Process} (ms : Processes) → SoundM ms n → (s : List ℕ) → length s ≡ n → GoodM s in_turn ms → Next s q ms → state_of s q ≡ 0 → GoodM (set s (row_of q) 1) in_turn ms
  next-good empty d s l h x z = elim x [ ]
  next-good (also p ms) d s l (past e g h) Next.next_here z = absurd (omega arith)
  next-good (also p ms) d s l (now g i) Next.next_here z =
      now (good_start p n d.0 s l g z) (λ y q. get_or-set_other s (row_of p) y 1 0 (λ u. d.2 y (Memᴰ.cast u (row_in p)) q) ∙ i y q)
  next-good {q} (also p ms) d s l h (Next.next-after e x) z =
      let a : Agree (rows_in p) s (set s (row_of q) 1) = λ y m. get_or-set_other s (row_of q) y 1 0 (λ u. d.2 y m (Memᴰ.cast u (among-row (next-among x)))) in
      past (a (row_of p) (row_in p) ∙ e) (good-agree (good_m-head h) a) (next-good ms d.1 s l (good_m-tail h) x z)

  among-good : {q : Process} (ms : Processes) → SoundM ms n → (s : List ℕ) → length s ≡ n → GoodM s together ms → Among q ms → state_of s q ≡ 0 → GoodM (set s (row_of q) 1) together ms
  among-good {q = q} empty d s l _ x6 z = elim x6 [ ]
  among-good (also p ms) d s l (each g h) Among.among_first z =
      each (good_start p n d.0 s l g z) (good_m-agree h (λ y q. get_or-set_other s (row_of p) y 1 0 (λ u. d.2 y (Memᴰ.cast u (row_in p)) q)))
  among-good {q} (also p ms) d s l (each g h) (Among.among_later a) z =
      each (good-agree g (λ y m. get_or-set_other s (row_of q) y 1 0 (λ u. d.2 y m (Memᴰ.cast u (among-row a))))) (among-good ms d.1 s l h a z)

-- ---- the blocks that start in members of which one is started: what starts with it, and those that start after it

joined-first : (us vs : List Variable) → Joined us vs (vs ++ us)
joined-first us vs = record { cell = λ a. or_comm (holds_cell a us) (holds_cell a vs) ∙ sym (holds-append a vs us) }

start-begun : (p : Process) (ms : Processes) (m : Mode) (vs : List Variable) → starts m ≡ true → (s : List ℕ) → row_of p < length s → state_of s p ≡ 0
    → Joined (begun_each (also p ms) m vs (set s (row_of p) 1)) vs (begun_each (also p ms) m vs s)
start-begun p ms m vs b s h e =
    let t = set s (row_of p) 1 in
    let one : state_of t p ≡ 1 = get_or-set_same s (row_of p) 1 0 h in
    let twice : settle p (starts m) t ≡ settle p (starts m) s = rw b (start-twice p s h e) in
    let same : begun p (starts m) t ≡ begun p (starts m) s = rw b (begun-run p true t one ∙ sym (begun-start p s e)) in
    rw (begun-also p ms m vs t, begun-also p ms m vs s, after-eq p m t s (ap (λ (u : List ℕ). state_of u p) twice), twice, same, one, e, b)
    (joined-first (begun p true s ++ begun_each ms (after p m s) vs (settle p true s)) vs)

past-begun : (p : Process) (ms : Processes) (vs : List Variable) (s : List ℕ) → state_of s p ≡ 2 → begun_each (also p ms) in_turn vs s ≡ begun_each ms in_turn vs s
unfolding after
past-begun p ms vs s e = rw (begun-also p ms in_turn vs s, begun-over p true s 0 e, see-over p true s 0 e, e)

together-begun : (p : Process) (ms : Processes) (vs : List Variable) (s : List ℕ)
    → begun_each (also p ms) together vs s ≡ if_started (state_of s p) true vs ++ (begun p true s ++ begun_each ms together vs (settle p true s))
unfolding after
together-begun p ms vs s = begun-also p ms together vs s

module _ (n : ℕ) (vs : List Variable) where
  next-begun : {q : Process} (ms : Processes) → SoundM ms n → (s : List ℕ) → length s ≡ n → Next s q ms → state_of s q ≡ 0
      → Joined (begun_each ms in_turn vs (set s (row_of q) 1)) vs (begun_each ms in_turn vs s)
  next-begun empty d s l x z = elim x [ ]
  next-begun (also p ms) d s l Next.next_here z = start-begun p ms in_turn vs refl s (rw l (sound-row p n d.0)) z
  next-begun {q} (also p ms) d s l (Next.next-after e x) z =
      let t = set s (row_of q) 1 in
      let e' : state_of t p ≡ 2 = get_or-set_other s (row_of q) (row_of p) 1 0 (λ u. d.2 (row_of p) (row_in p) (Memᴰ.cast u (among-row (next-among x)))) ∙ e in
      rw (past-begun p ms vs t e', past-begun p ms vs s e) (next-begun ms d.1 s l x z)

  among-begun : {q : Process} (ms : Processes) → SoundM ms n → (s : List ℕ) → length s ≡ n → Among q ms → state_of s q ≡ 0
      → Joined (begun_each ms together vs (set s (row_of q) 1)) vs (begun_each ms together vs s)
  among-begun {q = q} empty d s l x4 z = elim x4 [ ]
  among-begun (also p ms) d s l Among.among_first z = start-begun p ms together vs refl s (rw l (sound-row p n d.0)) z
  among-begun {q} (also p ms) d s l (Among.among_later c) z =
      let s1 = settle p true s in
      let t = set s (row_of q) 1 in
      let o : Out (row_of q) (rows_in p) = λ m. d.2 (row_of q) m (among-row c) in
      rw (
        together-begun p ms vs t,
        together-begun p ms vs s,
        get_or-set_other s (row_of q) (row_of p) 1 0 (λ u. d.2 (row_of p) (row_in p) (Memᴰ.cast u (among-row c))),
        reads-put (begun-reads p true) s (row_of q) 1 o,
        off-put (see-local p true) s (row_of q) 1 o,
      )
      (joined-after (if_started (state_of s p) true vs) (joined-after (begun p true s)
      (among-begun ms d.1 s1 (length-local (see-local p true) s ∙ l) c (off-look (see-local p true) s (row_of q) o ∙ z))))

-- what is to be shown of a change that starts blocks of us, of the process that makes it and of every process around it
abbrev Absorbed : List Variable → Process → List ℕ → List ℕ → Type 0
Absorbed us p s t = ((b : Bool) → settle p b t ≡ settle p b s) × Good t p × ((b : Bool) → left p b t < left p b s) × ((b : Bool) → Joined (begun p b t) us (begun p b s))

module _ (k : Action) (r : ℕ) (ms : Processes) (n : ℕ) (d : Sound (node k r ms) n) (s : List ℕ) (l : length s ≡ n) (e : get_or s r 0 ≡ 1) (h : GoodM s (mode k) ms) where
  -- where its members are left alone no block starts, before it settles and after
  none-begun : (t : List ℕ) → settle_running (node k r ms) s ≡ t → settle_each ms (mode k) s ≡ s → (b : Bool) → Joined (begun (node k r ms) b t) [] (begun (node k r ms) b s)
  none-begun t q w b =
      let none-now : begun (node k r ms) b s ≡ [] = begun-run (node k r ms) b s e ∙ begun-node k r ms s ∙ ap (begun_each ms (mode k) (local_of k)) (sym w) ∙ each-quiet ms n d.2 (mode k) (local_of k) s l in
      rw none-now (joined-left [] (ap (begun (node k r ms) b) (sym q) ∙ running-quiet (node k r ms) n d s l e b))

  -- the process ends
  end-absorbed : settle_each ms (mode k) s ≡ s → complete (mode k) (states_of ms s) ≡ true → ends_when_closed k ≡ true → Absorbed [] (node k r ms) s (set s r 2)
  end-absorbed w c x =
      let two : get_or (set s r 2) r 0 ≡ 2 = get_or-set_same s r 2 0 (rw l d.0) in
      let ends : settle_running (node k r ms) s ≡ set s r 2 = rw (body-node k r ms s, w, c, x) in (
        λ b. see-over (node k r ms) b (set s r 2) 0 two ∙ sym (see-run (node k r ms) b s e ∙ ends),
        good-end k r ms s (rw l d.0) d.1 h c x,
        less-ended k r ms s (set s r 2) e two,
        none-begun (set s r 2) ends w,
      )

  -- it sets all beneath it to idle
  idle-absorbed : mode k ≡ by_step → {q : Process} → Among q ms → state_of s q ≡ 2 → settle_each ms (mode k) s ≡ s → complete (mode k) (states_of ms s) ≡ true → ends_when_closed k ≡ false
      → Absorbed [] (node k r ms) s (make_idle (rows_beneath ms) s)
  idle-absorbed m a f w c x =
      let z = make_idle (rows_beneath ms) s in
      let one : get_or z r 0 ≡ 1 = off-look (zeros-local (rows_beneath ms)) s r d.1 ∙ e in
      let repeats : settle_running (node k r ms) s ≡ z = rw (body-node k r ms s, w, c, x) in (
        λ b. see-run (node k r ms) b z one ∙ idle_body k r ms z m (zeros-idle (rows_beneath ms) s) ∙ sym (see-run (node k r ms) b s e ∙ repeats),
        run one (good_m-idle ms (mode k) z (zeros-idle (rows_beneath ms) s)),
        less-beneath k r ms s z e one (rw m (less-idle ms s z a f (zeros-idle (rows_beneath ms) s))),
        none-begun z repeats w,
      )

  -- it starts a member, and a block its variable
  start-absorbed : (q : ℕ) → Memᴰ q (rows_beneath ms) → settle_each ms (mode k) (set s q 1) ≡ settle_each ms (mode k) s → GoodM (set s q 1) (mode k) ms
      → left_m ms (starts (mode k)) (set s q 1) < left_m ms (starts (mode k)) s
      → Joined (begun_each ms (mode k) (local_of k) (set s q 1)) (local_of k) (begun_each ms (mode k) (local_of k) s)
      → Absorbed (local_of k) (node k r ms) s (set s q 1)
  start-absorbed q m w g x y =
      let one : get_or (set s q 1) r 0 ≡ 1 = get_or-set_other s q r 1 0 (λ u. d.1 (Memᴰ.cast u m)) ∙ e in (
        λ b. rw (see-run (node k r ms) b (set s q 1) one, see-run (node k r ms) b s e, body-node k r ms (set s q 1), w, ← body-node k r ms s),
        run one g,
        less-beneath k r ms s (set s q 1) e one x,
        λ b. rw (begun-run (node k r ms) b (set s q 1) one, begun-run (node k r ms) b s e, begun-node k r ms (set s q 1), begun-node k r ms s) y,
      )

-- where the walk goes: it settles, and the cells of the blocks that start in this become unset
abbrev pub after_settling : Process → State → State
after_settling p s = state_with (settle p false s.states) (unset_all (begun p false s.states) s.store)

-- what is to be shown of a rule
pub record RuleAbsorbed (p : Process) (s t : State) : Type 0 where
  pub started : List Variable
  pub unsets : t.store ≡ unset_all started s.store
  pub absorbed : Absorbed started p s.states t.states

module _ (whole : Process) (n : ℕ) (d : Sound whole n) (plain : Plain whole) where
  -- a change that its own process absorbs is absorbed by the whole process
  around : (k : Action) (r : ℕ) (ms : Processes) (us : List Variable) (f : List ℕ → List ℕ) → Local (r ∷ rows_beneath ms) f → (s : List ℕ) → Good s whole → get_or s r 0 ≡ 1 → Sub k r ms whole
      → (i : ℕ) → get_or (f s) r 0 ≡ suc i → Absorbed us (node k r ms) s (f s) → Absorbed us whole s (f s)
  around k r ms us f F s g e u i z (a, c, x, y) = (
    settle-around k r ms f F s e n a whole u d g,
    good-around k r ms f F s e n c whole u d g,
    less-around k r ms f F s e n x whole u d g,
    begun-around k r ms f F s e n i z a us y whole u d g,
  )

  module _ (s : State) (l : length s.states ≡ n) (g : Good s.states whole) where
    module _ (k : Action) (r : ℕ) (ms : Processes) (i : Inside whole (node k r ms)) (e : get_or s.states r 0 ≡ 1) where
      -- a running process that stands in the whole one
      sub : Sub k r ms whole
      sub = within_of i

      fit : Sound (node k r ms) n
      fit = sound-at whole n sub d

      good : GoodM s.states (mode k) ms
      good = good-at s.states e whole sub g

      ends : settle_each ms (mode k) s.states ≡ s.states → complete (mode k) (states_of ms s.states) ≡ true → ends_when_closed k ≡ true → RuleAbsorbed whole s (with_state r 2 s)
      ends w c x =
          record {
            started = [];
            unsets = refl;
            absorbed = around k r ms [] (λ (t : List ℕ). set t r 2) (set_local (r ∷ rows_beneath ms) r 2 (Memᴰ.head refl)) s.states g e sub
                1 (get_or-set_same s.states r 2 0 (rw l fit.0)) (end-absorbed k r ms n fit s.states l e good w c x);
          }

      begins : (q : ℕ) → Memᴰ q (rows_beneath ms) → settle_each ms (mode k) (set s.states q 1) ≡ settle_each ms (mode k) s.states → GoodM (set s.states q 1) (mode k) ms
          → left_m ms (starts (mode k)) (set s.states q 1) < left_m ms (starts (mode k)) s.states
          → Joined (begun_each ms (mode k) (local_of k) (set s.states q 1)) (local_of k) (begun_each ms (mode k) (local_of k) s.states)
          → RuleAbsorbed whole s (state_with (set s.states q 1) (unset_all (local_of k) s.store))
      begins q m w h x y =
          record {
            started = local_of k;
            unsets = refl;
            absorbed = around k r ms (local_of k) (λ (t : List ℕ). set t q 1) (set_local (r ∷ rows_beneath ms) q 1 (Memᴰ.tail m)) s.states g e sub
                0 (get_or-set_other s.states q r 1 0 (λ u. fit.1 (Memᴰ.cast u m)) ∙ e) (start-absorbed k r ms n fit s.states l e good q m w h x y);
          }

      -- a SEQ or a block starts its next member
      begins-next : mode k ≡ in_turn → {q : Process} → Next s.states q ms → state_of s.states q ≡ 0 → RuleAbsorbed whole s (state_with (set s.states (row_of q) 1) (unset_all (local_of k) s.store))
      begins-next m {q} x z = begins (row_of q) (among-row (next-among x)) (rw m (next-walk n ms fit.2 s.states l x z)) (rw m (next-good n ms fit.2 s.states l (rw m at good) x z))
          (rw m (less-started n ms fit.2 s.states l in_turn (rw m at good) (next-among x) z)) (rw m (next-begun n (local_of k) ms fit.2 s.states l x z))

      repeats : mode k ≡ by_step → {q : Process} → Among q ms → state_of s.states q ≡ 2 → settle_each ms (mode k) s.states ≡ s.states → complete (mode k) (states_of ms s.states) ≡ true
          → ends_when_closed k ≡ false → RuleAbsorbed whole s (state_with (make_idle (rows_beneath ms) s.states) s.store)
      repeats m a f w c x =
          record {
            started = [];
            unsets = refl;
            absorbed = around k r ms [] (make_idle (rows_beneath ms)) (wider (λ y q. Memᴰ.tail q) (zeros-local (rows_beneath ms))) s.states g e sub
                0 (off-look (zeros-local (rows_beneath ms)) s.states r fit.1 ∙ e) (idle-absorbed k r ms n fit s.states l e good m a f w c x);
          }

    rule-absorbed : (t : State) → Settles whole s t → RuleAbsorbed whole s t
    rule-absorbed t (skip-ends {r} {ms} (i, e)) =
        let z : ms ≡ empty = skip-empty ms (plain_at whole (within_of i) plain) in
        ends skip r ms i e (ap (λ (q : Processes). settle_each q in_turn s.states) z ∙ walk_none in_turn s.states) (ap (λ (q : Processes). complete in_turn (states_of q s.states)) z) refl
    rule-absorbed t (seq-starts {r} {ms} {q} (i, e) x z) = begins-next sequence r ms i e refl x z
    rule-absorbed t (par-starts {r} {ms} {q} (i, e) x z) =
        begins parallel r ms i e (row_of q) (among-row x) (among-walk n ms (fit parallel r ms i e).2 s.states l x z)
        (among-good n ms (fit parallel r ms i e).2 s.states l (good parallel r ms i e) x z)
        (less-started n ms (fit parallel r ms i e).2 s.states l together (good parallel r ms i e) x z) (among-begun n [] ms (fit parallel r ms i e).2 s.states l x z)
    rule-absorbed t (seq-ends {r} {ms} (i, e) x) = ends sequence r ms i e (ended-walk ms in_turn x) (ended-closes x) refl
    rule-absorbed t (par-ends {r} {ms} (i, e) x) = ends parallel r ms i e (ended-walk ms together x) (ended-closes x) refl
    rule-absorbed t (if-ends {ts} {r} {ms} {q} (i, e) x z) =
        let h = good (conditional ts) r ms i e in
        ends (conditional ts) r ms i e (chosen-walk ms h x z) (may-close ms s.states h x z) refl
    rule-absorbed t (alt-ends {bs} {r} {ms} {q} (i, e) x z) =
        let h = good (alternation bs) r ms i e in
        ends (alternation bs) r ms i e (chosen-walk ms h x z) (may-close ms s.states h x z) refl
    rule-absorbed t (while-again {e = c} {b} {r} {ms} {q} (i, e) x z) =
        let h = good (loop c b) r ms i e in
        repeats (loop c b) r ms i e refl x z (chosen-walk ms h x z) (may-close ms s.states h x z) refl
    rule-absorbed t (block-starts {v} {r} {ms} {q} (i, e) x z) = begins-next (block v) r ms i e refl x z
    rule-absorbed t (block-ends {v} {r} {ms} (i, e) x) = ends (block v) r ms i e (ended-walk ms in_turn x) (ended-closes x) refl

    -- so it changes nothing of where the walk goes
    rule-same : (t : State) → RuleAbsorbed whole s t → after_settling whole t ≡ after_settling whole s
    rule-same t h =
        let (a, c, x, y) = h.absorbed in
        ap₂ state_with (a false)
        (ap (unset_all (begun whole false t.states)) h.unsets
        ∙ unset-both (begun whole false t.states) h.started (begun whole false s.states) s.store (y false).cell)

  make_idle-length : (rs s : List ℕ) → length (make_idle rs s) ≡ length s
  make_idle-length rs s = length-local (zeros-local rs) s

  -- a rule keeps the number of row states
  rule-length : (s t : State) → Settles whole s t → length t.states ≡ length s.states
  rule-length s t (skip-ends {r} x) = length-set s.states r 2
  rule-length s t (seq-starts {q} x y z) = length-set s.states (row_of q) 1
  rule-length s t (par-starts {q} x y z) = length-set s.states (row_of q) 1
  rule-length s t (seq-ends {r} x y) = length-set s.states r 2
  rule-length s t (par-ends {r} x y) = length-set s.states r 2
  rule-length s t (if-ends {r} x y z) = length-set s.states r 2
  rule-length s t (alt-ends {r} x y z) = length-set s.states r 2
  rule-length s t (while-again {ms} x y z) = make_idle-length (rows_beneath ms) s.states
  rule-length s t (block-starts {q} x y z) = length-set s.states (row_of q) 1
  rule-length s t (block-ends {r} x y) = length-set s.states r 2

  -- after any number of changes: the same normal form, a good state, and less left
  pub settle-same : (s t : State) (h : Settling whole s t) → length s.states ≡ n → Good s.states whole
      → (after_settling whole t ≡ after_settling whole s) × Good t.states whole × (length t.states ≡ n) × (changes_in whole h + left whole false t.states ≤ left whole false s.states)
  settle-same s t no_change l g = (refl, g, l, omega arith)
  settle-same s t (next-change {t = m} h k) l g =
      let A = rule-absorbed s l g m h in
      let (a, c, x, y) = A.absorbed in
      let (b, f, j, z) = settle-same m t k (rule-length s m h ∙ l) c in
      (b ∙ rule-same s l g m A, f, j, omega (arith, x false))

  pub final-is : (t u : State) → Settling whole t u → Final whole t → t ≡ u
  final-is t u no_change f = refl
  final-is t u (next-change h k) f = absurd (f _ h)

  -- to settle a good state gives its one normal form
  pub normal-form : (s : State) → length s.states ≡ n → Good s.states whole → NormalForm whole s (after_settling whole s)
  normal-form s l g = record {
    reached = settles whole n d plain s.states l s.store;
    final = no-rule-left whole n d plain s.states l g false (unset_all (begun whole false s.states) s.store);
    always = λ t h. let (e, f, j, x) = settle-same s t h l g in subst (λ (u : State). Settling whole t u) e (settles whole n d plain t.states j t.store);
    only = λ t h z. let (e, f, j, x) = settle-same s t h l g in final-is t (after_settling whole t) (settles whole n d plain t.states j t.store) z ∙ e;
    ends = λ t h. let (e, f, j, x) = settle-same s t h l g in omega (arith, left-bound whole false s.states);
  }
