-- A change inside a process that its own settling makes up for is made up for by every process around it.
use mathlib.Core.Path.{◌≡◌, sym, ap, ◌∙◌}
use mathlib.Core.Bool.{Bool}
use mathlib.Core.List.{List, ◌∷◌, Memᴰ}
use Prim.Native.Nat.{ℕ}
use native.Mathlib.Omega.{arith}
use lib.ListN.{get_or, set}
use Rattle.meaning.specs.Tree.{Action, Process, node, Processes, also, row_of, rows_in, rows_beneath, empty}
use Rattle.meaning.specs.State.{state_of}
use Rattle.meaning.specs.Settle.{Mode, in_turn, together, by_step, mode, starts, next_mode, settle_each, settle}
use Rattle.agreement.proofs.Frame.{Local, body-node, walk-also, row_in, walk-local, see-local, Off, off-look, swap}
use Rattle.agreement.proofs.Again.{Sound, SoundM, see-run}
use Rattle.agreement.proofs.Reach.{Good, GoodM, idle, over, run, each, past, now, pass, pick, not-running, Agree, good-agree, good_m-agree, good_m-head, good_m-tail, Sub, SubM, self, inside, front, back, sub_in, sub_m-in, running}
use Rattle.agreement.proofs.Inside.{sub-rows, sub_m-rows}

-- changes of some rows are changes of more rows
pub wider : {R Q : List ℕ} {f : List ℕ → List ℕ} → ((x : ℕ) → Memᴰ x R → Memᴰ x Q) → Local R f → Local Q f
wider w F = record { keeps = λ rel S s t h. F.keeps rel (record { look = λ x m e. S.look x (w x m) e; put = λ x v m e. S.put x v (w x m) e }) s t h }

pub set_local : (R : List ℕ) (x v : ℕ) → Memᴰ x R → Local R (λ (s : List ℕ). set s x v)
set_local R x v m = record { keeps = λ rel S s t h. S.put x v m h }

-- what is known of a process that stands in a sound one; and, where it runs, in a good one
module _ {k : Action} {r : ℕ} {ms : Processes} where
  mutual
    pub sound-at : (p : Process) (n : ℕ) → Sub k r ms p → Sound p n → Sound (node k r ms) n
    sound-at (node k' r' ps) n self d = d
    sound-at (node k' r' ps) n (inside u) d = sound_m-at ps n u d.2

    sound_m-at : (ps : Processes) (n : ℕ) → SubM k r ms ps → SoundM ps n → Sound (node k r ms) n
    sound_m-at empty n x4 d = elim x4 [ ]
    sound_m-at (also p ps) n (front u) d = sound-at p n u d.0
    sound_m-at (also p ps) n (back u) d = sound_m-at ps n u d.1

  module _ (s : List ℕ) (e : get_or s r 0 ≡ 1) where
    mutual
      pub good-at : (p : Process) → Sub k r ms p → Good s p → GoodM s (mode k) ms
      good-at (node k' r' ps) self g = running g e
      good-at (node k' r' ps) (inside u) (idle i) = absurd (omega (arith, i r (Memᴰ.tail (sub_m-in ps u))))
      good-at (node k' r' ps) (inside u) (over i e' q h o) = absurd (not-running (get_or s r 0) (q r (sub_m-in ps u)) e)
      good-at (node k' r' ps) (inside u) (run e' h) = good_m-at ps u (mode k') h

      good_m-at : (ps : Processes) → SubM k r ms ps → (m : Mode) → GoodM s m ps → GoodM s (mode k) ms
      good_m-at empty x4 m h = elim x4 [ ]
      good_m-at (also p ps) (front u) m h = good-at p u (good_m-head h)
      good_m-at (also p ps) (back u) m h = good_m-at ps u m (good_m-tail h)

-- a process that runs in s, and a change of its rows
module _ (k : Action) (r : ℕ) (ms : Processes) (f : List ℕ → List ℕ) (F : Local (r ∷ rows_beneath ms) f) (s : List ℕ) (e : get_or s r 0 ≡ 1) (n : ℕ) where
  -- what stands beside the process keeps its states
  pub beside : (p : Process) (ps : Processes) → SubM k r ms ps → Off (rows_in p) (rows_beneath ps) → Agree (rows_in p) s (f s)
  beside p ps u o y q = off-look F s y (λ c. o y q (sub_m-rows c ps u))

  pub first-only : (p : Process) (ps : Processes) → Sub k r ms p → Off (rows_in p) (rows_beneath ps) → Agree (rows_beneath ps) s (f s)
  first-only p ps u o y q = off-look F s y (λ c. o y (sub-rows c p u) q)

  -- whatever the process stands in is running
  pub runs-around : (p : Process) → Sub k r ms p → Good s p → state_of s p ≡ 1
  runs-around (node k' r' ps) self g = e
  runs-around (node k' r' ps) (inside u) (idle i) = absurd (omega (arith, i r (Memᴰ.tail (sub_m-in ps u))))
  runs-around (node k' r' ps) (inside u) (over i e' q h o) = absurd (not-running (get_or s r 0) (q r (sub_m-in ps u)) e)
  runs-around (node k' r' ps) (inside u) (run e' h) = e'

  module _ (base : (b : Bool) → settle (node k r ms) b (f s) ≡ settle (node k r ms) b s) where
    mutual
      pub settle-around : (p : Process) → Sub k r ms p → Sound p n → Good s p → (b : Bool) → settle p b (f s) ≡ settle p b s
      settle-around (node k' r' ps) self d g b = base b
      settle-around (node k' r' ps) (inside u) d (idle i) b = absurd (omega (arith, i r (Memᴰ.tail (sub_m-in ps u))))
      settle-around (node k' r' ps) (inside u) d (over i e' q h o) b = absurd (not-running (get_or s r 0) (q r (sub_m-in ps u)) e)
      settle-around (node k' r' ps) (inside u) d (run e' h) b =
          let p = node k' r' ps in
          rw (
            see-run p b (f s) (off-look F s r' (λ c. d.1 (sub_m-rows c ps u)) ∙ e'),
            see-run p b s e',
            body-node k' r' ps (f s),
            walk-around ps u d.2 (mode k') h (mode k'),
            ← body-node k' r' ps s,
          )

      walk-around : (ps : Processes) → SubM k r ms ps → SoundM ps n → (m : Mode) → GoodM s m ps → (m1 : Mode) → settle_each ps m1 (f s) ≡ settle_each ps m1 s
      walk-around empty x6 d m g m1 = elim x6 [ ]
      walk-around (also p ps) (front u) d m g m1 =
          rw (walk-also p ps m1 (f s), settle-around p u d.0 (good_m-head g) (starts m1), ← walk-also p ps m1 s)
      walk-around (also p ps) (back u) d m g m1 =
          let b = starts m1 in
          let s1 = settle p b s in
          let m2 = next_mode m1 (state_of s1 p) in
          let key : settle p b (f s) ≡ f s1 = swap (see-local p b) F (λ x a c. d.2 x a (sub_m-rows c ps u)) s in
          let same : state_of (settle p b (f s)) p ≡ state_of s1 p = ap (λ (t : List ℕ). state_of t p) key ∙ off-look F s1 (row_of p) (λ c. d.2 (row_of p) (row_in p) (sub_m-rows c ps u)) in
          walk-also p ps m1 (f s)
          ∙ ap (λ (j : ℕ). settle_each ps (next_mode m1 j) (settle p b (f s))) same
          ∙ sym (swap (see-local p b) (walk-local ps m2) d.2 (f s))
          ∙ ap (settle p b) (walk-around ps u d.1 m (good_m-tail g) m2)
          ∙ swap (see-local p b) (walk-local ps m2) d.2 s
          ∙ sym (walk-also p ps m1 s)

  module _ (base : Good (f s) (node k r ms)) where
    mutual
      pub good-around : (p : Process) → Sub k r ms p → Sound p n → Good s p → Good (f s) p
      good-around (node k' r' ps) self d g = base
      good-around (node k' r' ps) (inside u) d (idle i) = absurd (omega (arith, i r (Memᴰ.tail (sub_m-in ps u))))
      good-around (node k' r' ps) (inside u) d (over i e' q h o) = absurd (not-running (get_or s r 0) (q r (sub_m-in ps u)) e)
      good-around (node k' r' ps) (inside u) d (run e' h) = run (off-look F s r' (λ c. d.1 (sub_m-rows c ps u)) ∙ e') (good_m-around ps u d.2 (mode k') h)

      good_m-around : (ps : Processes) → SubM k r ms ps → SoundM ps n → (m : Mode) → GoodM s m ps → GoodM (f s) m ps
      good_m-around empty x6 d m _ = elim x6 [ ]
      good_m-around (also p ps) (front u) d m (each g h) = each (good-around p u d.0 g) (good_m-agree h (first-only p ps u d.2))
      good_m-around (also p ps) (back u) d m (each g h) = each (good-agree g (beside p ps u d.2)) (good_m-around ps u d.1 together h)
      good_m-around (also p ps) (front u) d m (past e' g h) = absurd (omega (arith, runs-around p u g))
      good_m-around (also p ps) (back u) d m (past e' g h) = past (beside p ps u d.2 (row_of p) (row_in p) ∙ e') (good-agree g (beside p ps u d.2)) (good_m-around ps u d.1 in_turn h)
      good_m-around (also p ps) (front u) d m (now g i) = now (good-around p u d.0 g) (λ y q. first-only p ps u d.2 y q ∙ i y q)
      good_m-around (also p ps) (back u) d m (now g i) = absurd (omega (arith, i r (sub_m-in ps u)))
      good_m-around (also p ps) (front u) d m (pass i h) = absurd (omega (arith, i r (sub_in p u)))
      good_m-around (also p ps) (back u) d m (pass i h) = pass (λ y q. beside p ps u d.2 y q ∙ i y q) (good_m-around ps u d.1 by_step h)
      good_m-around (also p ps) (front u) d m (pick g i) = pick (good-around p u d.0 g) (λ y q. first-only p ps u d.2 y q ∙ i y q)
      good_m-around (also p ps) (back u) d m (pick g i) = absurd (omega (arith, i r (sub_m-in ps u)))
