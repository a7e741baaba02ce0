-- Where a change inside a process leaves the same blocks to start in it, but for those that the change started, it does so in every process around it.
use mathlib.Core.Path.{◌≡◌, refl, ap, subst, ◌∙◌}
use mathlib.Core.Bool.{Bool}
use mathlib.Core.List.Memᴰ
use mathlib.Core.List.{List, [], ◌∷◌, ◌++◌, append-nil}
use Prim.Native.Nat.{ℕ, suc}
use native.Mathlib.Omega.{arith}
use lib.ListN.{get_or}
use Rattle.meaning.specs.Declarations.{Variable}
use Rattle.meaning.specs.Tree.{Action, Process, node, Processes, also, row_of, rows_beneath, empty}
use Rattle.meaning.specs.State.{state_of}
use Rattle.meaning.specs.Settle.{Mode, mode, starts, settle, local_of, if_started, begun_each, begun}
use Rattle.meaning.proofs.UnsetLaws.{Joined, joined-right, joined-append}
use Rattle.agreement.proofs.Frame.{Local, row_in, see-local, off-look, swap}
use Rattle.agreement.proofs.Again.{Sound, SoundM, after, after-eq}
use Rattle.agreement.proofs.Reach.{Good, GoodM, idle, over, run, not-running, good_m-head, good_m-tail, Sub, SubM, self, inside, front, back, sub_m-in}
use Rattle.agreement.proofs.Inside.{sub_m-rows}
use Rattle.agreement.proofs.Begun.{begun-node, begun-also, begun-run, begun-reads, each-reads, reads-off}
use Rattle.agreement.proofs.RulesAbsorbed.{beside, runs-around, settle-around}

-- with the same variables before, or after
pub joined-after : {us vs ws : List Variable} (l : List Variable) → Joined us vs ws → Joined (l ++ us) vs (l ++ ws)
joined-after l h = joined-append (joined-right l refl) h

pub joined-before : {us vs ws : List Variable} (l : List Variable) → Joined us vs ws → Joined (us ++ l) vs (ws ++ l)
joined-before {us} {vs} {ws} l h = subst (λ (xs : List Variable). Joined (us ++ l) xs (ws ++ l)) (append-nil vs) (joined-append h (joined-right l refl))

-- one that is not idle is not started
not-started : (p : Process) (b : Bool) (vs : List Variable) (s : List ℕ) (i : ℕ) → state_of s p ≡ suc i → if_started (state_of s p) b vs ≡ []
not-started p b vs s i e = rw e

-- a process that runs in s, and a change of its rows that it makes up for, that does not leave it idle, and that starts blocks of us
module _ (k : Action) (r : ℕ) (ms : Processes) (f : List ℕ → List ℕ) (F : Local (r ∷ rows_beneath ms) f) (s : List ℕ) (e : get_or s r 0 ≡ 1) (n : ℕ) (i : ℕ) (going : get_or (f s) r 0 ≡ suc i)
    (settles : (b : Bool) → settle (node k r ms) b (f s) ≡ settle (node k r ms) b s)
    (us : List Variable) (base : (b : Bool) → Joined (begun (node k r ms) b (f s)) us (begun (node k r ms) b s)) where
  -- whatever the process stands in is not idle afterwards
  going-around : (p : Process) → Sub k r ms p → Sound p n → Good s p → (j : ℕ) × (state_of (f s) p ≡ suc j)
  going-around (node k' r' ps) self d g = (i, going)
  going-around (node k' r' ps) (inside u) d g = (0, off-look F s r' (λ c. d.1 (sub_m-rows c ps u)) ∙ runs-around k r ms f F s e n (node k' r' ps) (inside u) g)

  mutual
    pub begun-around : (p : Process) → Sub k r ms p → Sound p n → Good s p → (b : Bool) → Joined (begun p b (f s)) us (begun p b s)
    begun-around (node k' r' ps) self d g b = base b
    begun-around (node k' r' ps) (inside u) d (idle x) b = absurd (omega (arith, x r (Memᴰ.tail (sub_m-in ps u))))
    begun-around (node k' r' ps) (inside u) d (over x e' q h o) b = absurd (not-running (get_or s r 0) (q r (sub_m-in ps u)) e)
    begun-around (node k' r' ps) (inside u) d (run e' h) b =
        let p = node k' r' ps in
        rw (begun-run p b (f s) (off-look F s r' (λ c. d.1 (sub_m-rows c ps u)) ∙ e'), begun-run p b s e', begun-node k' r' ps (f s), begun-node k' r' ps s)
        (each-around ps u d.2 (mode k') h (mode k') (local_of k'))

    each-around : (ps : Processes) → SubM k r ms ps → SoundM ps n → (m : Mode) → GoodM s m ps → (m1 : Mode) (vs : List Variable) → Joined (begun_each ps m1 vs (f s)) us (begun_each ps m1 vs s)
    each-around empty x6 d m g m1 vs = elim x6 [ ]
    each-around (also p ps) (front u) d m g m1 vs =
        let b = starts m1 in
        let (j, w) = going-around p u d.0 (good_m-head g) in
        let same : settle p b (f s) ≡ settle p b s = settle-around k r ms f F s e n settles p u d.0 (good_m-head g) b in
        rw (
          begun-also p ps m1 vs (f s),
          begun-also p ps m1 vs s,
          not-started p b vs (f s) j w,
          not-started p b vs s 0 (runs-around k r ms f F s e n p u (good_m-head g)),
          after-eq p m1 (f s) s (ap (λ (t : List ℕ). state_of t p) same),
          same,
        )
        (joined-before (begun_each ps (after p m1 s) vs (settle p b s)) (begun-around p u d.0 (good_m-head g) b))
    each-around (also p ps) (back u) d m g m1 vs =
        let b = starts m1 in
        let s1 = settle p b s in
        let m2 = after p m1 s in
        let key : settle p b (f s) ≡ f s1 = swap (see-local p b) F (λ x c q. d.2 x c (sub_m-rows q ps u)) s in
        let same : state_of (settle p b (f s)) p ≡ state_of s1 p = ap (λ (t : List ℕ). state_of t p) key ∙ off-look F s1 (row_of p) (λ c. d.2 (row_of p) (row_in p) (sub_m-rows c ps u)) in
        rw (
          begun-also p ps m1 vs (f s),
          begun-also p ps m1 vs s,
          beside k r ms f F s e n p ps u d.2 (row_of p) (row_in p),
          reads-off (begun-reads p b) F (λ x c q. d.2 x c (sub_m-rows q ps u)) s,
          after-eq p m1 (f s) s same,
          reads-off (each-reads ps m2 vs) (see-local p b) (λ x c q. d.2 x q c) (f s),
          reads-off (each-reads ps m2 vs) (see-local p b) (λ x c q. d.2 x q c) s,
        )
        (joined-after (if_started (state_of s p) b vs) (joined-after (begun p b s) (each-around ps u d.1 m (good_m-tail g) m2 vs)))
