-- The blocks that start in settling, and the stores of steps: to settle before a store starts the blocks that settling after it would, and so two steps start the same blocks either way.
use mathlib.Core.Path.{◌≡◌, refl, sym, ap, ◌∙◌}
use mathlib.Core.Bool.{Bool, false, ◌||◌}
use mathlib.Core.List.Memᴰ
use mathlib.Core.List.{List, [], ◌∷◌}
use Prim.Native.Nat.{ℕ, suc}
use lib.ListN.{length, get_or, set, length-set}
use lib.Seq.{get_or-set_same, get_or-set_other}
use Rattle.meaning.specs.Tree.{Process, node, Processes, also, row_of, rows_in, rows_beneath, empty}
use Rattle.meaning.specs.Declarations.{Variable}
use Rattle.meaning.specs.State.{state_of}
use Rattle.meaning.specs.Settle.{Mode, mode, starts, settle_each, settle, local_of, if_started, begun_each, begun}
use Rattle.meaning.proofs.UnsetLaws.{holds_cell, Joined, joined-left, joined-right, joined-append, joined-then}
use Rattle.agreement.proofs.Frame.{row_in, walk-local, see-local, Off, length-local, off-look, off-put, swap}
use Rattle.agreement.proofs.Again.{Out, Sound, SoundM, sound-row, see-run, idle_body, same_b, see-again, after, walk_after, after-eq, again}
use Rattle.agreement.proofs.Commute.{own, child, child-in, At, AtM, here, under, first, later, at-run, at_in, at_m-in, agree_m, persist, persist_m, under-body, after_run, absorb}
use Rattle.agreement.proofs.Parts.{Part, put, puts, Pairwise, Cross, Each, each-put, each-see, length-puts, each_puts, puts-comm, leap}
use Rattle.agreement.proofs.Begun.{begun-node, begun-also, begun-run, begun-reads, each-reads, reads-put, reads-off, idle-begun, started-once, begun-again, begun-under, each-under}

module _ (b x v n : ℕ) where
  -- after the store of a step at a frontier row its process is not idle
  pub at_after : (p : Process) → Sound p n → (s : List ℕ) → length s ≡ n → At b x v s p → (j : ℕ) × (state_of (set s x v) p ≡ suc j)
  at_after (node k r ms) d s l (here eb e m i (own j ex ev)) =
      (suc j, ap (λ (y : ℕ). get_or (set s x v) y 0) (sym ex) ∙ get_or-set_same s x v 0 (rw (ex, l) d.0) ∙ ev)
  at_after (node k r ms) d s l (here eb e m i (child h ev)) = (0, get_or-set_other s x r v 0 (λ u. d.1 (Memᴰ.cast u (child-in h))) ∙ e)
  at_after (node k r ms) d s l (under e h) = (0, get_or-set_other s x r v 0 (λ u. d.1 (Memᴰ.cast u (at_m-in h))) ∙ e)

  at-started : (p : Process) → Sound p n → (c : Bool) (vs : List Variable) (s : List ℕ) → length s ≡ n → At b x v s p → if_started (state_of (set s x v) p) c vs ≡ []
  at-started p d c vs s l h = let (j, q) = at_after p d s l h in rw q

  mutual
    pub begun-absorb : (p : Process) → Sound p n → (s : List ℕ) → length s ≡ n → At b x v s p → (c : Bool)
        → Joined (begun p c (set (settle p c s) x v)) (begun p c s) (begun p c (set s x v))
    begun-absorb (node k r ms) d s l (here eb e m i h) c =
        let p = node k r ms in
        let nothing : begun p c s ≡ []
        = begun-run p c s e ∙ begun-node k r ms s ∙ ap (λ (o : Mode). begun_each ms o (local_of k) s) m ∙ idle-begun ms (local_of k) s i in
        rw (see-run p c s e, idle_body k r ms s m i) (joined-right (begun p c (set s x v)) nothing)
    begun-absorb (node k r ms) d s l (under e h) c =
        let p = node k r ms in
        let w = settle_each ms (mode k) s in
        let ne : (r ≡ x → ⊥) = λ q. d.1 (Memᴰ.cast q (at_m-in h)) in
        let ew : get_or w r 0 ≡ 1 = off-look (walk-local ms (mode k)) s r d.1 ∙ e in
        rw (
          see-run p c s e,
          under-body k r ms s (persist_m b x v n ms d.2 (mode k) s h),
          begun-run p c s e,
          begun-node k r ms s,
          begun-run p c (set w x v) (get_or-set_other w x r v 0 ne ∙ ew),
          begun-node k r ms (set w x v),
          begun-run p c (set s x v) (get_or-set_other s x r v 0 ne ∙ e),
          begun-node k r ms (set s x v),
        ) (each-absorb ms d.2 s l h (mode k) (local_of k))

    pub each-absorb : (ms : Processes) → SoundM ms n → (s : List ℕ) → length s ≡ n → AtM b x v s ms → (m : Mode) (vs : List Variable)
        → Joined (begun_each ms m vs (set (settle_each ms m s) x v)) (begun_each ms m vs s) (begun_each ms m vs (set s x v))
    each-absorb empty d s l x7 m vs = elim x7 [ ]
    each-absorb (also p ms) d s l (first h) m vs =
        let m1 = after p m s in
        let m2 = after p m (set s x v) in
        let s1 = settle p (starts m) s in
        let t1 = settle p (starts m) (set s x v) in
        let l1 : length s1 ≡ n = length-local (see-local p (starts m)) s ∙ l in
        let out : Out x (rows_beneath ms) = d.2 x (at_in h) in
        let off : Off (rows_beneath ms) (rows_in p) = λ y q z. d.2 y z q in
        let stays : set (settle_each ms m1 s1) x v ≡ settle_each ms m1 (set s1 x v) = sym (off-put (walk-local ms m1) s1 x v out) in
        let w = settle_each ms m1 (set s1 x v) in
        let key : settle p (starts m) w ≡ settle_each ms m1 t1
        = swap (see-local p (starts m)) (walk-local ms m1) d.2 (set s1 x v) ∙ ap (settle_each ms m1) (absorb b x v n p d.0 s l h (starts m)) in
        let mid : after p m w ≡ m2 = after-eq p m w (set s x v) (rw key (off-look (walk-local ms m1) t1 (row_of p) (d.2 (row_of p) (row_in p)))) in
        let h1 : At b x v s1 p = rw (see-run p (starts m) s (at-run h)) (persist b x v n p d.0 s h) in
        let same-later : begun_each ms m1 vs s1 ≡ begun_each ms m1 vs t1
        = reads-off (each-reads ms m1 vs) (see-local p (starts m)) off s
        ∙ sym (reads-off (each-reads ms m1 vs) (see-local p (starts m)) off (set s x v) ∙ reads-put (each-reads ms m1 vs) s x v out) in
        rw (
          walk_after p ms m s,
          stays,
          begun-also p ms m vs w,
          begun-also p ms m vs s,
          begun-also p ms m vs (set s x v),
          off-look (walk-local ms m1) (set s1 x v) (row_of p) (d.2 (row_of p) (row_in p)),
          at-started p d.0 (starts m) vs s1 l1 h1,
          at-started p d.0 (starts m) vs s l h,
          at-run h,
          reads-off (begun-reads p (starts m)) (walk-local ms m1) d.2 (set s1 x v),
          mid,
          key,
          same-later,
        )
        (joined-append (joined-left [] refl)
        (joined-append (begun-absorb p d.0 s l h (starts m))
        (each-under ms n d.1 (after_run p m s (set s x v) (at-run h1)) vs t1 (length-local (see-local p (starts m)) (set s x v) ∙ length-set s x v ∙ l))))
    each-absorb (also p ms) d s l (later h) m vs =
        let m1 = after p m s in
        let s1 = settle p (starts m) s in
        let l1 : length s1 ≡ n = length-local (see-local p (starts m)) s ∙ l in
        let o : Out x (rows_in p) = λ q. d.2 x q (at_m-in h) in
        let ne : (row_of p ≡ x → ⊥) = λ q. o (Memᴰ.cast (sym q) (row_in p)) in
        let w = settle_each ms m1 s1 in
        let same-state : state_of w p ≡ state_of s1 p = off-look (walk-local ms m1) s1 (row_of p) (d.2 (row_of p) (row_in p)) in
        let key1 : settle p (starts m) (set s x v) ≡ set s1 x v = off-put (see-local p (starts m)) s x v o in
        let key2 : settle p (starts m) (set w x v) ≡ set w x v
        = off-put (see-local p (starts m)) w x v o
        ∙ ap (λ (u : List ℕ). set u x v) (swap (see-local p (starts m)) (walk-local ms m1) d.2 s1
        ∙ ap (settle_each ms m1) (see-again p n (again p n d.0) (sound-row p n d.0) (same_b {b = starts m}) s l)) in
        let mid1 : after p m (set s x v) ≡ m1 = after-eq p m (set s x v) s (rw key1 (get_or-set_other s1 x (row_of p) v 0 ne)) in
        let mid2 : after p m (set w x v) ≡ m1 = after-eq p m (set w x v) s (rw key2 (get_or-set_other w x (row_of p) v 0 ne ∙ same-state)) in
        let quiet : begun p (starts m) (set w x v) ≡ []
        = reads-put (begun-reads p (starts m)) w x v o ∙ reads-off (begun-reads p (starts m)) (walk-local ms m1) d.2 s1 ∙ begun-again p n d.0 (starts m) s l in
        let none-started : if_started (state_of (set w x v) p) (starts m) vs ≡ []
        = ap (λ (i : ℕ). if_started i (starts m) vs) (get_or-set_other w x (row_of p) v 0 ne ∙ same-state) ∙ started-once p n d.0 (starts m) vs s l in
        rw (
          walk_after p ms m s,
          begun-also p ms m vs (set w x v),
          begun-also p ms m vs s,
          begun-also p ms m vs (set s x v),
          none-started,
          quiet,
          mid2,
          key2,
          get_or-set_other s x (row_of p) v 0 ne,
          reads-put (begun-reads p (starts m)) s x v o,
          mid1,
          key1,
        )
        (joined-append (joined-left (if_started (state_of s p) (starts m) vs) refl)
        (joined-append (joined-left (begun p (starts m) s) refl)
        (each-absorb ms d.1 s1 l1 (agree_m h (λ y q. off-look (see-local p (starts m)) s y (λ z. d.2 y z q))) m1 vs)))

-- ---- the stores of two steps

module _ (p : Process) (n : ℕ) (d : Sound p n) where
  pub begun-puts : (c : Bool) (l : List Part) (s : List ℕ) → length s ≡ n → Each p l s → Pairwise l → Joined (begun p c (puts l (settle p c s))) (begun p c s) (begun p c (puts l s))
  begun-puts c [] s e hs pw = begun-under p n d (same_b {b = c}) s e
  begun-puts c (q ∷ l) s e hs pw =
      let u = put q (settle p c s) in
      let u' = put q s in
      let eu' : length u' ≡ n = length-set s q.x q.v ∙ e in
      let eu : length u ≡ n = length-set (settle p c s) q.x q.v ∙ length-local (see-local p c) s ∙ e in
      let ss = each-see p n d c (q ∷ l) s hs in
      let same : settle p c u ≡ settle p c u' = absorb q.b q.x q.v n p d s e hs.0 c in
      joined-then (begun-puts c l u eu (each-put p n d q l (settle p c s) ss.0 ss.1 pw.0) pw.1) (begun-absorb q.b q.x q.v n p d s e hs.0 c)
      (rw same (begun-puts c l u' eu' (each-put p n d q l s hs.0 hs.1 pw.0) pw.1))

  module _ (m l : List Part) (s : List ℕ) (e : length s ≡ n) (hm : Each p m s) (pm : Pairwise m) (hl : Each p l s) (pl : Pairwise l) (ml : Cross m l) where
    -- the blocks that start in one step and in another after it are those that start after the stores of both
    pub leap-begun : Joined (begun p false (puts l (leap p n d m s))) (begun p false (puts m s)) (begun p false (puts l (puts m s)))
    unfolding leap
    leap-begun = begun-puts false l (puts m s) (length-puts p n d m s ∙ e) (each_puts p n d m l s hm pm hl ml) pl

  -- so it is the same in either order
  pub begun-comm : (m l : List Part) (s : List ℕ) → length s ≡ n → Each p m s → Pairwise m → Each p l s → Pairwise l → Cross m l → Cross l m → (a : ℕ)
      → (holds_cell a (begun p false (puts l (leap p n d m s))) || holds_cell a (begun p false (puts m s)))
      ≡ (holds_cell a (begun p false (puts m (leap p n d l s))) || holds_cell a (begun p false (puts l s)))
  begun-comm m l s e hm pm hl pl ml lm a =
      (leap-begun m l s e hm pm hl pl ml).cell a ∙ ap (λ (t : List ℕ). holds_cell a (begun p false t)) (puts-comm p n d m l s hm pm hl pl ml)
      ∙ sym ((leap-begun l m s e hl pl hm pm lm).cell a)
