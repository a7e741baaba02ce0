-- To settle, and to unset the cells of the blocks that start in this, is to make changes that the rules of settling allow, and no others.
use mathlib.Core.Path.{◌≡◌, refl, sym, subst, ◌∙◌}
use mathlib.Core.Bool.{Bool, true, false, ◌&&◌, ◌||◌, true≢false}
use mathlib.Core.List.Memᴰ
use mathlib.Core.List.{List, [], ◌++◌}
use Prim.Native.Nat.{ℕ, zero, suc, ◌<◌}
use lib.ListN.{length, get_or, set, length-set}
use lib.Seq.{get_or-set_same}
use Rattle.meaning.specs.Tree.{Action, stop, skip, sequence, parallel, assign, input, output, conditional, loop, alternation, block, Process, node, Processes, empty, also, row_of, rows_in, rows_beneath}
use Rattle.meaning.specs.Declarations.{Variable}
use Rattle.meaning.specs.State.{Store, State, state_of, any_of, unset_all}
use Rattle.meaning.specs.Settle.{states_of, Mode, in_turn, together, by_step, mode, starts, next_mode, is_ended, is_idle_or_ended, all_of, complete, ends_when_closed, closing, settle_running, settle_each, settle, local_of, if_started, begun_running, begun_each, begun}
use Rattle.agreement.proofs.Frame.{body-node, walk_none, row_in, walk-local, see-local, Off, length-local, off-look}
use Rattle.agreement.proofs.Again.{Out, Sound, SoundM, sound-row, see-run, see-idle, see-start, see-over, after, walk_after}
use Rattle.meaning.proofs.UnsetLaws.{unset-append}
use Rattle.agreement.proofs.Begun.{begun-node, begun-none, begun-also, begun-run, begun-idle, begun-start, begun-over}
use Rattle.meaning.specs.SettlingRules.{Among, All, Next, Inside, Settles, skip-ends, seq-starts, par-starts, seq-ends, par-ends, if-ends, alt-ends, while-again, block-starts, block-ends, Settling, no_change, next-change}

-- STOP, SKIP and actions have no members
abbrev IsEmpty : Processes → Type 0
IsEmpty empty = Unit {0}
IsEmpty (also p ms) = ⊥

abbrev pub PlainA : Action → Processes → Type 0
PlainA stop ms = IsEmpty ms
PlainA skip ms = IsEmpty ms
PlainA sequence ms = Unit {0}
PlainA parallel ms = Unit {0}
PlainA (assign v e f) ms = IsEmpty ms
PlainA (input i) ms = IsEmpty ms
PlainA (output c e f) ms = IsEmpty ms
PlainA (conditional ts) ms = Unit {0}
PlainA (loop e b) ms = Unit {0}
PlainA (alternation bs) ms = Unit {0}
PlainA (block v) ms = Unit {0}

abbrev mutual
  pub Plain : Process → Type 0
  Plain (node a r ms) = PlainA a ms × PlainM ms

  pub PlainM : Processes → Type 0
  PlainM empty = Unit {0}
  PlainM (also p ms) = Plain p × PlainM ms

-- the states of rows that are none of R are the same
abbrev Keeps : List ℕ → List ℕ → List ℕ → Type 0
Keeps R s t = (x : ℕ) → Out x R → get_or t x 0 ≡ get_or s x 0

ended_is : (k : ℕ) → is_ended k ≡ true → k ≡ 2
ended_is zero e = absurd (true≢false (sym e))
ended_is (suc zero) e = absurd (true≢false (sym e))
ended_is (suc (suc zero)) e = refl
ended_is (suc (suc (suc k))) e = absurd (true≢false (sym e))

pub all-ended : (ms : Processes) (s : List ℕ) → all_of is_ended (states_of ms s) ≡ true → All 2 s ms
all-ended empty s e = All.all_none
all-ended (also p ms) s e = go (is_ended (state_of s p)) refl e (λ z. all-ended ms s z)
  where
    go : (t : Bool) → is_ended (state_of s p) ≡ t → (t && all_of is_ended (states_of ms s)) ≡ true → (all_of is_ended (states_of ms s) ≡ true → All 2 s ms) → All 2 s (also p ms)
    go true g e k = All.all_more (ended_is (state_of s p) g) (k e)
    go false g e k = absurd (true≢false (sym e))

some-ended : (ms : Processes) (s : List ℕ) → any_of is_ended (states_of ms s) ≡ true → (q : Process) × (Among q ms × (state_of s q ≡ 2))
some-ended empty s e = absurd (true≢false (sym e))
some-ended (also p ms) s e = go (is_ended (state_of s p)) refl e (λ z. some-ended ms s z)
  where
    go : (t : Bool) → is_ended (state_of s p) ≡ t → (t || any_of is_ended (states_of ms s)) ≡ true → (any_of is_ended (states_of ms s) ≡ true → (q : Process) × (Among q ms × (state_of s q ≡ 2)))
        → (q : Process) × (Among q (also p ms) × (state_of s q ≡ 2))
    go true g e k = (p, (Among.among_first, ended_is (state_of s p) g))
    go false g e k = let (q, (a, z)) = k e in (q, (Among.among_later a, z))

second : (a b : Bool) → (a && b) ≡ true → b ≡ true
second true b e = e
second false b e = absurd (true≢false (sym e))

-- these row states and this store
abbrev pub state_with : List ℕ → Store → State
state_with s x = record { states = s; store = x }

none-started : (k : ℕ) (b : Bool) → if_started k b [] ≡ []
none-started zero true = refl
none-started zero false = refl
none-started (suc k) b = refl

module _ (whole : Process) (n : ℕ) where
  more : {s t u : State} → Settling whole s t → Settling whole t u → Settling whole s u
  more no_change k = k
  more (next-change h g) k = next-change h (more g k)

  -- a process starts, which unsets the cells of some variables
  abbrev Starts : List Variable → List ℕ → Process → Type 0
  Starts vs t q = (x : Store) → Settles whole (state_with t x) (state_with (set t (row_of q) 1) (unset_all vs x))

  -- members may be started by a mode, while nothing but them changes
  abbrev May : Mode → List Variable → Processes → List ℕ → Type 0
  May in_turn vs ms s = (t : List ℕ) → Keeps (rows_beneath ms) s t → (q : Process) → Next t q ms → state_of t q ≡ 0 → Starts vs t q
  May together vs ms s = (t : List ℕ) → Keeps (rows_beneath ms) s t → (q : Process) → Among q ms → state_of t q ≡ 0 → Starts vs t q
  May by_step vs ms s = Unit {0}

  may-first : (m : Mode) (vs : List Variable) (p : Process) (ms : Processes) (s : List ℕ) → May m vs (also p ms) s → starts m ≡ true → state_of s p ≡ 0 → Starts vs s p
  may-first in_turn vs p ms s k b e = k s (λ x o. refl) p Next.next_here e
  may-first together vs p ms s k b e = k s (λ x o. refl) p Among.among_first e
  may-first by_step vs p ms s k b e = absurd (true≢false (sym b))

  -- nothing changes but what stands in the first or in the others
  keeps : (p : Process) (ms : Processes) (b : Bool) (s t : List ℕ) → Keeps (rows_beneath ms) (settle p b s) t → Keeps (rows_beneath (also p ms)) s t
  keeps p ms b s t k x o = k x (λ m. o (Memᴰ.append_right (rows_in p) m)) ∙ off-look (see-local p b) s x (λ m. o (Memᴰ.append_left (rows_beneath ms) m))

  may-next : (m : Mode) (vs : List Variable) (p : Process) (ms : Processes) (s : List ℕ) → Off (rows_in p) (rows_beneath ms) → May m vs (also p ms) s
      → (k : ℕ) → state_of (settle p (starts m) s) p ≡ k → May (next_mode m k) vs ms (settle p (starts m) s)
  may-next in_turn vs p ms s o h zero e = tt
  may-next in_turn vs p ms s o h (suc zero) e = tt
  may-next in_turn vs p ms s o h (suc (suc zero)) e = λ t k q x z. h t (keeps p ms true s t k) q (Next.next-after (k (row_of p) (o (row_of p) (row_in p)) ∙ e) x) z
  may-next in_turn vs p ms s o h (suc (suc (suc i))) e = tt
  may-next together vs p ms s o h k e = λ t g q x z. h t (keeps p ms true s t g) q (Among.among_later x) z
  may-next by_step vs p ms s o h k e = tt

  may-later : (m : Mode) (vs : List Variable) (p : Process) (ms : Processes) (s : List ℕ) → Off (rows_in p) (rows_beneath ms) → May m vs (also p ms) s → May (after p m s) vs ms (settle p (starts m) s)
  unfolding after
  may-later m vs p ms s o h = may-next m vs p ms s o h (state_of (settle p (starts m) s) p) refl

  -- what is to be shown of a running process
  abbrev RunningSettles : Process → List ℕ → Type 0
  RunningSettles p s = (x : Store) → Settling whole (state_with s x) (state_with (settle_running p s) (unset_all (begun_running p s) x))

  see-settles : (p : Process) (b : Bool) (vs : List Variable) (s : List ℕ) → row_of p < n → length s ≡ n → (b ≡ true → state_of s p ≡ 0 → Starts vs s p)
      → ((t : List ℕ) → length t ≡ n → state_of t p ≡ 1 → RunningSettles p t)
      → (x : Store) → Settling whole (state_with s x) (state_with (settle p b s) (unset_all (begun p b s) (unset_all (if_started (state_of s p) b vs) x)))
  see-settles p b vs s h l f g x = go (state_of s p) b refl refl
    where
      go : (k : ℕ) (c : Bool) → state_of s p ≡ k → b ≡ c → Settling whole (state_with s x) (state_with (settle p b s) (unset_all (begun p b s) (unset_all (if_started (state_of s p) b vs) x)))
      go zero true e q = rw (q, see-start p s e, begun-start p s e, e)
          (next-change (f q e x) (g (set s (row_of p) 1) (length-set s (row_of p) 1 ∙ l) (get_or-set_same s (row_of p) 1 0 (rw l h)) (unset_all vs x)))
      go zero false e q = rw (q, see-idle p s e, begun-idle p s e, e) no_change
      go (suc zero) c e q = rw (see-run p b s e, begun-run p b s e, e) (g s l e x)
      go (suc (suc k)) c e q = rw (see-over p b s k e, begun-over p b s k e, e) no_change

  no-next : (ms : Processes) (t : List ℕ) (q : Process) → IsEmpty ms → Next t q ms → ⊥
  no-next empty t q h x = elim x [ ]
  no-next (also p ms) t q h x = h

  not_done : (ms : Processes) (t : List ℕ) → IsEmpty ms → complete by_step (states_of ms t) ≡ true → ⊥
  not_done empty t h e = true≢false (sym e)
  not_done (also p ms) t h e = h

  may_of : (a : Action) (r : ℕ) (ms : Processes) → Inside whole (node a r ms) → Out r (rows_beneath ms) → PlainA a ms → (s : List ℕ) → get_or s r 0 ≡ 1 → May (mode a) (local_of a) ms s
  may_of stop r ms i o h s e = tt
  may_of skip r ms i o h s e = λ t k q x z. absurd (no-next ms t q h x)
  may_of sequence r ms i o h s e = λ t k q x z y. seq-starts (i, k r o ∙ e) x z
  may_of parallel r ms i o h s e = λ t k q x z y. par-starts (i, k r o ∙ e) x z
  may_of (assign v a b) r ms i o h s e = tt
  may_of (input x) r ms i o h s e = tt
  may_of (output c a b) r ms i o h s e = tt
  may_of (conditional ts) r ms i o h s e = tt
  may_of (loop a b) r ms i o h s e = tt
  may_of (alternation bs) r ms i o h s e = tt
  may_of (block v) r ms i o h s e = λ t k q x z y. block-starts (i, k r o ∙ e) x z

  once : {s t : State} → Settles whole s t → Settling whole s t
  once h = next-change h no_change

  closes : (a : Action) (r : ℕ) (ms : Processes) → Inside whole (node a r ms) → PlainA a ms → (t : List ℕ) → get_or t r 0 ≡ 1 → complete (mode a) (states_of ms t) ≡ true
      → (x : Store) → Settling whole (state_with t x) (state_with (closing true (ends_when_closed a) r (rows_beneath ms) t) x)
  closes stop r ms i h t e d x = absurd (not_done ms t h d)
  closes skip r ms i h t e d x = once (skip-ends (i, e))
  closes sequence r ms i h t e d x = once (seq-ends (i, e) (all-ended ms t d))
  closes parallel r ms i h t e d x = once (par-ends (i, e) (all-ended ms t d))
  closes (assign v a b) r ms i h t e d x = absurd (not_done ms t h d)
  closes (input c) r ms i h t e d x = absurd (not_done ms t h d)
  closes (output c a b) r ms i h t e d x = absurd (not_done ms t h d)
  closes (conditional ts) r ms i h t e d x = let (q, (a, z)) = some-ended ms t (second (all_of is_idle_or_ended (states_of ms t)) (any_of is_ended (states_of ms t)) d) in once (if-ends (i, e) a z)
  closes (loop c b) r ms i h t e d x = let (q, (a, z)) = some-ended ms t (second (all_of is_idle_or_ended (states_of ms t)) (any_of is_ended (states_of ms t)) d) in once (while-again (i, e) a z)
  closes (alternation bs) r ms i h t e d x = let (q, (a, z)) = some-ended ms t (second (all_of is_idle_or_ended (states_of ms t)) (any_of is_ended (states_of ms t)) d) in once (alt-ends (i, e) a z)
  closes (block v) r ms i h t e d x = once (block-ends (i, e) (all-ended ms t d))

  close-settles : (a : Action) (r : ℕ) (ms : Processes) → Inside whole (node a r ms) → PlainA a ms → (t : List ℕ) → get_or t r 0 ≡ 1 → (c : Bool) → complete (mode a) (states_of ms t) ≡ c
      → (x : Store) → Settling whole (state_with t x) (state_with (closing c (ends_when_closed a) r (rows_beneath ms) t) x)
  close-settles a r ms i h t e true d x = closes a r ms i h t e d x
  close-settles a r ms i h t e false d x = no_change

  mutual
    body-settles : (p : Process) → Inside whole p → Sound p n → Plain p → (s : List ℕ) → length s ≡ n → state_of s p ≡ 1 → RunningSettles p s
    body-settles (node a r ms) i d h s l e x =
        let t = settle_each ms (mode a) s in
        rw (body-node a r ms s, begun-node a r ms s)
        (more (walk-settles ms (mode a) (local_of a) d.2 h.1 (λ q x. Inside.beneath i x) s (may_of a r ms i d.1 h.0 s e) l x)
        (close-settles a r ms i h.0 t (off-look (walk-local ms (mode a)) s r d.1 ∙ e) (complete (mode a) (states_of ms t)) refl (unset_all (begun_each ms (mode a) (local_of a) s) x)))

    walk-settles : (ms : Processes) (m : Mode) (vs : List Variable) → SoundM ms n → PlainM ms → ((q : Process) → Among q ms → Inside whole q) → (s : List ℕ) → May m vs ms s → length s ≡ n
        → (x : Store) → Settling whole (state_with s x) (state_with (settle_each ms m s) (unset_all (begun_each ms m vs s) x))
    walk-settles empty m vs d h i s k l x = rw (walk_none m s, begun-none m vs s) no_change
    walk-settles (also p ms) m vs d h i s k l x =
        let t = settle p (starts m) s in
        let us = if_started (state_of s p) (starts m) vs in
        let ws = begun p (starts m) s in
        let m1 = after p m s in
        rw (walk_after p ms m s, begun-also p ms m vs s, unset-append us (ws ++ begun_each ms m1 vs t) x, unset-append ws (begun_each ms m1 vs t) (unset_all us x))
        (more (see-settles p (starts m) vs s (sound-row p n d.0) l (λ b e. may-first m vs p ms s k b e) (λ u v e y. body-settles p (i p Among.among_first) d.0 h.0 u v e y) x)
        (walk-settles ms m1 vs d.1 h.1 (λ q x. i q (Among.among_later x)) t (may-later m vs p ms s d.2 k) (length-local (see-local p (starts m)) s ∙ l) (unset_all ws (unset_all us x))))

  -- to settle, and to unset the cells of the blocks that start, makes changes that the rules allow
  pub settles : Sound whole n → Plain whole → (s : List ℕ) → length s ≡ n → (x : Store) → Settling whole (state_with s x) (state_with (settle whole false s) (unset_all (begun whole false s) x))
  settles d h s l x =
      subst (λ (vs : List Variable). Settling whole (state_with s x) (state_with (settle whole false s) (unset_all (begun whole false s) (unset_all vs x)))) (none-started (state_of s whole) false)
      (see-settles whole false [] s (sound-row whole n d) l (λ b e. absurd (true≢false (sym b))) (λ t k e. body-settles whole Inside.itself d h t k e) x)
