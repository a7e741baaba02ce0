-- A block whose process was idle, and that is not idle after the walk of settling, is one of those that the walk lists as started.
use mathlib.Core.Path.{◌≡◌, refl, sym, ap, ◌∙◌}
use mathlib.Core.Logic.{◌≢◌, ◌⊎◌, inl, inr}
use mathlib.Core.Bool.{Bool, true, false}
use mathlib.Core.List.Memᴰ
use mathlib.Core.List.{List, [], ◌∷◌, Memᴰ}
use Prim.Native.Nat.{ℕ, zero, suc, ◌<◌}
use native.Mathlib.Omega.{arith}
use lib.ListN.{length, get_or, set, length-set}
use lib.Seq.{get_or-set_other, get_or-set_same}
use Rattle.meaning.specs.Declarations.{Variable}
use Rattle.meaning.specs.Tree.{Action, block, Process, node, Processes, empty, also, row_of, rows_beneath}
use Rattle.meaning.specs.State.{state_of}
use Rattle.meaning.specs.Settle.{states_of, Mode, in_turn, mode, starts, next_mode, complete, ends_when_closed, settle_running, settle_each, settle, local_of, if_started, begun_running, begun_each, begun}
use Rattle.agreement.proofs.Frame.{body-shape, walk-also, row_in, walk-local, see-local, length-local, off-look}
use Rattle.agreement.proofs.Again.{Out, Sound, SoundM, sound-row, Idle, see-run, see-idle, see-start, see-over, zeros-idle}
use Rattle.agreement.proofs.Begun.{begun-node, begun-also, begun-members, begun-start, begun-run}
use Rattle.agreement.proofs.Reach.{not-running, Good, GoodM, idle, over, run, good_m-head, running, good_start, Sub, SubM, self, inside, front, back, sub_in, sub_m-in}
use Rattle.agreement.proofs.SettlingData.{stored-or-same}
use Rattle.agreement.proofs.Inside.{sub_m-rows}
use Rattle.agreement.proofs.BlocksStarted.{idle-rows, next-good}

-- the row of a process is none beneath what stands in it
row-above : {k : Action} {r : ℕ} {ms : Processes} (p : Process) (n : ℕ) → Sound p n → Sub k r ms p → Out (row_of p) (rows_beneath ms)
row-above (node k r ms) n d self m = d.1 m
row-above (node k r ps) n d (inside u) m = d.1 (sub_m-rows (Memᴰ.tail m) ps u)

-- a start keeps what is idle or running so
started_below : (s : List ℕ) (x r : ℕ) → get_or s r 0 < 2 → get_or (set s x 1) r 0 < 2
started_below s x r h = go (stored-or-same 0 1 s x r)
  where
    go : (get_or (set s x 1) r 0 ≡ get_or s r 0) ⊎ ((x ≡ r) × (get_or (set s x 1) r 0 ≡ 1)) → get_or (set s x 1) r 0 < 2
    go (inl e) = omega arith
    go (inr (q, e)) = omega arith

module _ (n : ℕ) (v : Variable) (r : ℕ) (q : Process) where
  abbrev ms : Processes
  ms = also q empty

  see-begins : (p : Process) → Sound p n → (b : Bool) (s : List ℕ) → length s ≡ n → Good s p → Sub (block v) r ms p → Idle (rows_beneath ms) s → get_or s r 0 < 2
      → ((t : List ℕ) → length t ≡ n → Good t p → state_of t p ≡ 1 → Idle (rows_beneath ms) t → get_or t r 0 < 2 → get_or (settle_running p t) r 0 ≢ 0 → Memᴰ v (begun_running p t))
      → get_or (settle p b s) r 0 ≢ 0 → (j : ℕ) → state_of s p ≡ j → Memᴰ v (begun p b s)
  see-begins p d b s l g u i lt f ne (suc zero) e = rw (begun-run p b s e) (f s l g e i lt (λ z. ne (ap (λ (t : List ℕ). get_or t r 0) (see-run p b s e) ∙ z)))
  see-begins p d true s l g u i lt f ne zero e =
      let t = set s (row_of p) 1 in
      let o = row-above p n d u in
      rw (begun-start p s e)
      (f t (length-set s (row_of p) 1 ∙ l) (good_start p n d s l g e) (get_or-set_same s (row_of p) 1 0 (rw l (sound-row p n d)))
      (λ y m. get_or-set_other s (row_of p) y 1 0 (λ z. o (Memᴰ.cast (sym z) m)) ∙ i y m) (started_below s (row_of p) r lt) (λ z. ne (ap (λ (w : List ℕ). get_or w r 0) (see-start p s e) ∙ z)))
  see-begins p d false s l g u i lt f ne zero e = absurd (ne (ap (λ (t : List ℕ). get_or t r 0) (see-idle p s e) ∙ idle-rows p g e r (sub_in p u)))
  see-begins p d b s l g u i lt f ne (suc (suc j)) e = over_none p g u e (λ z. ne (ap (λ (t : List ℕ). get_or t r 0) (see-over p b s j e) ∙ z))
    where
      over_none : (p : Process) → Good s p → Sub (block v) r ms p → state_of s p ≡ suc (suc j) → get_or s r 0 ≢ 0 → Memᴰ v (begun p b s)
      over_none p (idle k) u e ne = absurd (ne (k r (sub_in p u)))
      over_none (node k r' ps) (over h z w hs o) self e ne = absurd (omega arith)
      over_none (node k r' ps) (over h z w hs o) (inside u) e ne = absurd (not-running (get_or s r 0) (w r (sub_m-in ps u)) (omega arith))
      over_none (node k r' ps) (run z hs) u e ne = absurd (omega arith)

  -- what is not idle after a node has settled was not before it closed
  before-closing : (k : Action) (r' : ℕ) (ps : Processes) → Out r' (rows_beneath ps) → (s : List ℕ) → Memᴰ r (rows_beneath ps) → get_or (settle_running (node k r' ps) s) r 0 ≢ 0
      → get_or (settle_each ps (mode k) s) r 0 ≢ 0
  before-closing k r' ps o s m ne = go (complete (mode k) (states_of ps w)) (ends_when_closed k) refl refl
    where
      w : List ℕ
      w = settle_each ps (mode k) s

      go : (c x : Bool) → complete (mode k) (states_of ps w) ≡ c → ends_when_closed k ≡ x → get_or w r 0 ≢ 0
      go false x ec ex z = ne (ap (λ (t : List ℕ). get_or t r 0) (body-shape k r' ps s false x ec ex) ∙ z)
      go true true ec ex z = ne (ap (λ (t : List ℕ). get_or t r 0) (body-shape k r' ps s true true ec ex) ∙ get_or-set_other w r' r 2 0 (λ y. o (Memᴰ.cast (sym y) m)) ∙ z)
      go true false ec ex z = ne (ap (λ (t : List ℕ). get_or t r 0) (body-shape k r' ps s true false ec ex) ∙ zeros-idle (rows_beneath ps) w r m)

  mutual
    running-begins : (p : Process) → Sound p n → (s : List ℕ) → length s ≡ n → Good s p → state_of s p ≡ 1 → Sub (block v) r ms p → Idle (rows_beneath ms) s → get_or s r 0 < 2
        → get_or (settle_running p s) r 0 ≢ 0 → Memᴰ v (begun_running p s)
    running-begins (node k r' ps) d s l g e self i lt ne =
        rw (begun-node (block v) r ms s, begun-also q empty in_turn (v ∷ []) s, i (row_of q) (Memᴰ.append_left [] (row_in q))) (Memᴰ.head refl)
    running-begins (node k r' ps) d s l g e (inside u) i lt ne =
        rw (begun-node k r' ps s) (each-begins ps d.2 (mode k) (local_of k) s l (running g e) u i lt (before-closing k r' ps d.1 s (sub_m-in ps u) ne))

    each-begins : (ps : Processes) → SoundM ps n → (m : Mode) (vs : List Variable) (s : List ℕ) → length s ≡ n → GoodM s m ps → SubM (block v) r ms ps → Idle (rows_beneath ms) s → get_or s r 0 < 2
        → get_or (settle_each ps m s) r 0 ≢ 0 → Memᴰ v (begun_each ps m vs s)
    each-begins empty d m vs s l g x15 i lt ne = elim x15 [ ]
    each-begins (also p ps) d m vs s l g (front u) i lt ne =
        let t = settle p (starts m) s in
        let k = next_mode m (state_of t p) in
        let after_first : get_or t r 0 ≢ 0 = λ z. ne (ap (λ (w : List ℕ). get_or w r 0) (walk-also p ps m s) ∙ off-look (walk-local ps k) t r (d.2 r (sub_in p u)) ∙ z) in
        rw (begun-members p ps m vs s)
        (Memᴰ.append_right (if_started (state_of s p) (starts m) vs) (Memᴰ.append_left (begun_each ps k vs t)
        (see-begins p d.0 (starts m) s l (good_m-head g) u i lt (λ w h j e x y z. running-begins p d.0 w h j e u x y z) after_first (state_of s p) refl)))
    each-begins (also p ps) d m vs s l g (back u) i lt ne =
        let t = settle p (starts m) s in
        let k = next_mode m (state_of t p) in
        let kept : (y : ℕ) → Memᴰ y (rows_beneath ps) → get_or t y 0 ≡ get_or s y 0 = λ y h. off-look (see-local p (starts m)) s y (λ z. d.2 y z h) in
        rw (begun-members p ps m vs s)
        (Memᴰ.append_right (if_started (state_of s p) (starts m) vs) (Memᴰ.append_right (begun p (starts m) s)
        (each-begins ps d.1 k vs t (length-local (see-local p (starts m)) s ∙ l) (next-good p ps d.2 m s g) u (λ y h. kept y (sub_m-rows (Memᴰ.tail h) ps u) ∙ i y h) (rw (kept r (sub_m-in ps u)) lt)
        (λ z. ne (ap (λ (w : List ℕ). get_or w r 0) (walk-also p ps m s) ∙ z)))))

  pub begins-see : (p : Process) → Sound p n → (b : Bool) (s : List ℕ) → length s ≡ n → Good s p → Sub (block v) r ms p → Idle (rows_beneath ms) s → get_or s r 0 < 2
      → get_or (settle p b s) r 0 ≢ 0 → Memᴰ v (begun p b s)
  begins-see p d b s l g u i lt ne = see-begins p d b s l g u i lt (λ t h j e x y z. running-begins p d t h j e u x y z) ne (state_of s p) refl
