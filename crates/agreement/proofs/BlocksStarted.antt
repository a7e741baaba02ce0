-- Blocks that start in the walk of settling: all beneath such a block was idle, and after the walk it is running, or no row beneath it takes
-- a step of its own.
use mathlib.Core.Path.{◌≡◌, refl, sym, ap, subst, ◌∙◌}
use mathlib.Core.Logic.{◌≢◌, ◌⊎◌, inl, inr, ⊎_elim}
use mathlib.Core.Bool.{Bool, true, false, true≢false}
use mathlib.Core.List.Memᴰ
use mathlib.Core.List.{List, [], ◌++◌, Memᴰ}
use Prim.Native.Nat.{ℕ, zero, suc}
use native.Mathlib.Omega.{arith}
use lib.ListN.{length, get_or, set, length-set}
use lib.Seq.{get_or-set_other, get_or-set_same}
use Rattle.meaning.specs.Declarations.{Variable}
use Rattle.meaning.specs.Tree.{Action, block, Process, node, Processes, empty, also, row_of, processes_in, rows_in, rows_beneath}
use Rattle.meaning.specs.State.{state_of}
use Rattle.meaning.specs.Settle.{states_of, Mode, in_turn, together, by_step, mode, starts, next_mode, is_ended, all_of, complete, ends_when_closed, settle_running, settle_each, settle, local_of, if_started, begun_running, begun_each, begun}
use Rattle.meaning.specs.SettlingRules.{All, all_more, Among, among_first, among_later}
use Rattle.agreement.proofs.Frame.{body-shape, walk-also, row_in, walk-local, see-local, Off, length-local, off-look}
use Rattle.agreement.proofs.Again.{Sound, SoundM, sound-row, Idle, see-run, see-idle, see-start, see-over, idle_body}
use Rattle.agreement.proofs.Begun.{begun-node, begun-none, begun-members, local-is, begun-idle, begun-start, begun-run, begun-over}
use Rattle.agreement.proofs.Reach.{not-running, Good, GoodM, idle, over, run, each, past, now, pass, pick, good_m-agree, good_m-idle, good_m-quiet, done-over, good_m-head, running, good_start, good-walk, Sub, SubM, self, inside, front, back, sub_in, sub_m-in}
use Rattle.agreement.proofs.Settled.{all-ended}
use Rattle.agreement.proofs.Inside.{sub-rows, sub_m-rows, among-row}

-- no row of these processes takes a step of its own: they are SKIP, SEQ, PAR and blocks
abbrev pub NoStep : Processes → Type 0
NoStep ms = (k : Action) (r : ℕ) (ns : Processes) → SubM k r ns ms → mode k ≢ by_step

abbrev NoStepIn : Process → Type 0
NoStepIn p = (k : Action) (r : ℕ) (ns : Processes) → Sub k r ns p → mode k ≢ by_step

-- ---- from idle, a process that ends in one settling takes no step of its own

first_ended : {s : List ℕ} {p : Process} {ms : Processes} → All 2 s (also p ms) → (state_of s p ≡ 2) × All 2 s ms
first_ended (all_more e h) = (e, h)

-- members walked in turn or together are walked so after one that has ended
next-same : (m : Mode) → m ≢ by_step → next_mode m 2 ≡ m
next-same in_turn ne = refl
next-same together ne = refl
next-same by_step ne = absurd (ne refl)

starts-so : (m : Mode) → m ≢ by_step → starts m ≡ true
starts-so in_turn ne = refl
starts-so together ne = refl
starts-so by_step ne = absurd (ne refl)

all-complete : (m : Mode) → m ≢ by_step → (l : List ℕ) → complete m l ≡ true → all_of is_ended l ≡ true
all-complete in_turn ne l e = e
all-complete together ne l e = e
all-complete by_step ne l e = absurd (ne refl)

by-step-or-not : (m : Mode) → (m ≡ by_step) ⊎ (m ≢ by_step)
by-step-or-not in_turn = inr (λ e. let z : true ≡ false = ap starts e in true≢false z)
by-step-or-not together = inr (λ e. let z : true ≡ false = ap starts e in true≢false z)
by-step-or-not by_step = inl refl

-- members that have all ended after their walk: the first after its own, the others after theirs
walk-ended : (p : Process) (ms : Processes) → Off (rows_in p) (rows_beneath ms) → (m : Mode) → m ≢ by_step → (s : List ℕ) → All 2 (settle_each (also p ms) m s) (also p ms)
    → (state_of (settle p true s) p ≡ 2) × All 2 (settle_each ms m (settle p true s)) ms
walk-ended p ms o m ne s h =
    let t = settle p true s in
    let w : settle_each (also p ms) m s ≡ settle_each ms (next_mode m (state_of t p)) t
    = walk-also p ms m s ∙ ap (λ (b : Bool). settle_each ms (next_mode m (state_of (settle p b s) p)) (settle p b s)) (starts-so m ne) in
    let (e, hs) = first_ended h in
    let z : state_of t p ≡ 2 = sym (off-look (walk-local ms (next_mode m (state_of t p))) t (row_of p) (o (row_of p) (row_in p))) ∙ ap (λ (u : List ℕ). get_or u (row_of p) 0) (sym w) ∙ e in
    (z, subst (λ (u : List ℕ). All 2 u ms) (w ∙ ap (λ (j : ℕ). settle_each ms (next_mode m j) t) z ∙ ap (λ (q : Mode). settle_each ms q t) (next-same m ne)) hs)

-- where the rows of a process are idle they are so, but for its own, when it has started
idle-started : (p : Process) (n : ℕ) → Sound p n → (s : List ℕ) → Idle (rows_in p) s → Idle (rows_beneath (processes_in p)) (set s (row_of p) 1)
idle-started (node k r ms) n d s i y q = get_or-set_other s r y 1 0 (λ z. d.1 (Memᴰ.cast (sym z) q)) ∙ i y (Memᴰ.tail q)

module _ (n : ℕ) where
  mutual
    ends-without-step : (p : Process) → Sound p n → (s : List ℕ) → length s ≡ n → state_of s p ≡ 1 → Idle (rows_beneath (processes_in p)) s → state_of (settle_running p s) p ≡ 2 → NoStepIn p
    ends-without-step (node k r ms) d s l e i z =
        node-without-step (by-step-or-not (mode k)) (complete (mode k) (states_of ms (settle_each ms (mode k) s))) refl
        (λ ne h j q ns u. all-end-without-step ms d.2 (mode k) ne s l i h j q ns u)
      where
        w : List ℕ
        w = settle_each ms (mode k) s

        only : mode k ≢ by_step → NoStep ms → NoStepIn (node k r ms)
        only ne h k r ns self = ne
        only ne h k r ns (inside u) = h k r ns u

        node-without-step : (mode k ≡ by_step) ⊎ (mode k ≢ by_step) → (c : Bool) → complete (mode k) (states_of ms w) ≡ c → (mode k ≢ by_step → All 2 w ms → NoStep ms) → NoStepIn (node k r ms)
        node-without-step (inl m) c ec f = absurd (omega (arith, ap (λ (t : List ℕ). get_or t r 0) (idle_body k r ms s m i)))
        node-without-step (inr ne) false ec f =
            absurd (omega (arith, ap (λ (t : List ℕ). get_or t r 0) (body-shape k r ms s false (ends_when_closed k) ec refl), off-look (walk-local ms (mode k)) s r d.1))
        node-without-step (inr ne) true ec f = only ne (f ne (all-ended ms w (all-complete (mode k) ne (states_of ms w) ec)))

    pub all-end-without-step : (ms : Processes) → SoundM ms n → (m : Mode) → m ≢ by_step → (s : List ℕ) → length s ≡ n → Idle (rows_beneath ms) s → All 2 (settle_each ms m s) ms → NoStep ms
    all-end-without-step empty d m ne s l i h k r ns x11 = elim x11 [ ]
    all-end-without-step (also p ms) d m ne s l i h k r ns (front u) =
        let j : Idle (rows_in p) s = λ y q. i y (Memᴰ.append_left (rows_beneath ms) q) in
        let z = j (row_of p) (row_in p) in
        ends-without-step p d.0 (set s (row_of p) 1) (length-set s (row_of p) 1 ∙ l) (get_or-set_same s (row_of p) 1 0 (rw l (sound-row p n d.0))) (idle-started p n d.0 s j)
        (ap (λ (t : List ℕ). state_of t p) (sym (see-start p s z)) ∙ (walk-ended p ms d.2 m ne s h).0) k r ns u
    all-end-without-step (also p ms) d m ne s l i h k r ns (back u) =
        let t = settle p true s in
        all-end-without-step ms d.1 m ne t (length-local (see-local p true) s ∙ l) (λ y q. off-look (see-local p true) s y (λ z. d.2 y z q) ∙ i y (Memᴰ.append_right (rows_in p) q))
        (walk-ended p ms d.2 m ne s h).1 k r ns u

-- ---- the walk, member by member

-- an idle process is good by its idle rows
pub idle-rows : {s : List ℕ} (p : Process) → Good s p → state_of s p ≡ 0 → Idle (rows_in p) s
idle-rows (node k r ms) (idle i) e = i
idle-rows (node k r ms) (over i z q h o) e = absurd (omega arith)
idle-rows (node k r ms) (run z h) e = absurd (omega arith)

-- where a member has settled the later ones are good for the walk that goes on
pub next-good : (p : Process) (ms : Processes) → Off (rows_in p) (rows_beneath ms) → (m : Mode) (s : List ℕ) → GoodM s m (also p ms)
    → GoodM (settle p (starts m) s) (next_mode m (state_of (settle p (starts m) s) p)) ms
next-good p ms o m s (each h hs) = good_m-agree hs (λ y q. off-look (see-local p true) s y (λ z. o y z q))
next-good p ms o m s (past e h hs) = rw (see-over p true s 0 e, e) hs
next-good p ms o m s (now h i) = let t = settle p true s in good_m-idle ms (next_mode in_turn (state_of t p)) t (λ y q. off-look (see-local p true) s y (λ z. o y z q) ∙ i y q)
next-good p ms o m s (pass i hs) = rw (see-idle p s (i (row_of p) (row_in p))) hs
next-good p ms o m s (pick h i) = let t = settle p false s in good_m-idle ms by_step t (λ y q. off-look (see-local p false) s y (λ z. o y z q) ∙ i y q)

-- ---- a block that the walk starts

-- each block has one process
abbrev pub OneProcess : Process → Type 0
OneProcess p = (v : Variable) (r : ℕ) (ms : Processes) → Sub (block v) r ms p → (q : Process) × (ms ≡ also q empty)

abbrev pub OneProcessM : Processes → Type 0
OneProcessM ps = (v : Variable) (r : ℕ) (ms : Processes) → SubM (block v) r ms ps → (q : Process) × (ms ≡ also q empty)

-- a block of a variable, among those of S: all beneath it is idle in s; and in t it is running, or it takes no step of its own
abbrev Started : (Action → ℕ → Processes → Type 0) → Variable → List ℕ → List ℕ → Type 0
Started S v s t = (r : ℕ) × ((ms : Processes) × (S (block v) r ms × Idle (rows_beneath ms) s × ((get_or t r 0 ≡ 1) ⊎ NoStep ms)))

-- members of which one was idle and may start
abbrev FirstStarts : List ℕ → Processes → Type 0
FirstStarts s ms = (q : Process) × (Among q ms × (state_of s q ≡ 0))

abbrev pub StartedIn : Variable → Process → List ℕ → List ℕ → Type 0
StartedIn v p s t = Started (λ a q ns. Sub a q ns p) v s t

abbrev StartedAmong : Variable → List Variable → List ℕ → Processes → List ℕ → Type 0
StartedAmong v vs s ms t = (Memᴰ v vs × FirstStarts s ms) ⊎ Started (λ a q ns. SubM a q ns ms) v s t

started-so : (j : ℕ) (b : Bool) (vs : List Variable) (v : Variable) → Memᴰ v (if_started j b vs) → (j ≡ 0) × Memᴰ v vs
started-so zero true vs v m = (refl, m)
started-so zero false vs v m = absurd (Memᴰ.not-nil m)
started-so (suc j) b vs v m = absurd (Memᴰ.not-nil m)

-- where the one process of a block is idle, so is all beneath the block
sole-idle : (s : List ℕ) (p : Process) → GoodM s in_turn (also p empty) → FirstStarts s (also p empty) → Idle (rows_beneath (also p empty)) s
sole-idle s p g (q, (among_later x12, z)) y m = elim x12 [ ]
sole-idle s p g (q, (among_first, z)) y m =
    ⊎_elim (λ (h : Memᴰ y (rows_in p)). idle-rows p (good_m-head g) z y h) (λ (h : Memᴰ y []). absurd (Memᴰ.not-nil h)) (Memᴰ.append_cases (rows_in p) m)

only-idle : (s : List ℕ) (p : Process) (ms : Processes) → ms ≡ also p empty → GoodM s in_turn ms → FirstStarts s ms → Idle (rows_beneath ms) s
only-idle s p ms e = subst (λ (ps : Processes). GoodM s in_turn ps → FirstStarts s ps → Idle (rows_beneath ps) s) (sym e) (sole-idle s p)

module _ (n : ℕ) (v : Variable) where
  -- what starts in the process of a node: the node itself, if it is a block, or a block among its members
  started-node : (k : Action) (r : ℕ) (ms : Processes) → Sound (node k r ms) n → OneProcess (node k r ms) → (s : List ℕ) → length s ≡ n → GoodM s (mode k) ms → get_or s r 0 ≡ 1
      → StartedAmong v (local_of k) s ms (settle_each ms (mode k) s) → StartedIn v (node k r ms) s (settle_running (node k r ms) s)
  started-node k r ms d one s l g e h = go (complete (mode k) (states_of ms w)) (ends_when_closed k) refl refl h
    where
      w : List ℕ
      w = settle_each ms (mode k) s

      own_block : Memᴰ v (local_of k) → FirstStarts s ms → Sub (block v) r ms (node k r ms) × Idle (rows_beneath ms) s × (mode k ≢ by_step)
      own_block m f =
          let is = local-is k v m in
          let u : Sub (block v) r ms (node k r ms) = subst (λ (a : Action). Sub a r ms (node k r ms)) is self in
          let (p, z) = one v r ms u in
          let ne : mode k ≢ by_step = λ q. let y : true ≡ false = ap (λ (a : Action). starts (mode a)) (sym is) ∙ ap starts q in true≢false y in
          (u, only-idle s p ms z (subst (λ (a : Action). GoodM s (mode a) ms) is g) f, ne)

      go : (c x : Bool) → complete (mode k) (states_of ms w) ≡ c → ends_when_closed k ≡ x
          → StartedAmong v (local_of k) s ms w → StartedIn v (node k r ms) s (settle_running (node k r ms) s)
      go false x ec ex (inl (m, f)) =
          let (u, i, ne) = own_block m f in
          (r, (ms, (u, i, inl (ap (λ (t : List ℕ). get_or t r 0) (body-shape k r ms s false x ec ex) ∙ off-look (walk-local ms (mode k)) s r d.1 ∙ e))))
      go true x ec ex (inl (m, f)) =
          let (u, i, ne) = own_block m f in
          (r, (ms, (u, i, inr (all-end-without-step n ms d.2 (mode k) ne s l i (all-ended ms w (all-complete (mode k) ne (states_of ms w) ec))))))
      go c x ec ex (inr (q, (ns, (u, i, inr stepless)))) = (q, (ns, (inside u, i, inr stepless)))
      go false x ec ex (inr (q, (ns, (u, i, inl z)))) = (q, (ns, (inside u, i, inl (ap (λ (t : List ℕ). get_or t q 0) (body-shape k r ms s false x ec ex) ∙ z))))
      go true x ec ex (inr (q, (ns, (u, i, inl z)))) =
          absurd (not-running (get_or w q 0) (good_m-quiet (good-walk n ms d.2 (mode k) s l g) (done-over (mode k) (states_of ms w) ec) q (sub_m-in ms u)) z)

  -- a process that starts or runs
  started-visit : (p : Process) → Sound p n → (b : Bool) (s : List ℕ) → length s ≡ n → Good s p
      → ((t : List ℕ) → length t ≡ n → Good t p → state_of t p ≡ 1 → Memᴰ v (begun_running p t) → StartedIn v p t (settle_running p t))
      → Memᴰ v (begun p b s) → (j : ℕ) → state_of s p ≡ j → StartedIn v p s (settle p b s)
  started-visit p d b s l g f m (suc zero) e = subst (StartedIn v p s) (sym (see-run p b s e)) (f s l g e (subst (λ (us : List Variable). Memᴰ v us) (begun-run p b s e) m))
  started-visit p d b s l g f m (suc (suc j)) e = absurd (Memᴰ.not-nil (subst (λ (us : List Variable). Memᴰ v us) (begun-over p b s j e) m))
  started-visit p d false s l g f m zero e = absurd (Memᴰ.not-nil (subst (λ (us : List Variable). Memᴰ v us) (begun-idle p s e) m))
  started-visit p d true s l g f m zero e =
      let t = set s (row_of p) 1 in
      let (r, (ms, (u, i, h))) = f t (length-set s (row_of p) 1 ∙ l) (good_start p n d s l g e) (get_or-set_same s (row_of p) 1 0 (rw l (sound-row p n d)))
      (subst (λ (us : List Variable). Memᴰ v us) (begun-start p s e) m) in
      subst (StartedIn v p s) (sym (see-start p s e)) (r, (ms, (u, λ y q. idle-rows p g e y (sub-rows (Memᴰ.tail q) p u), h)))

  -- what starts among members: the process above starts one of them, or a block in the first, or in the others
  started-member : (p : Process) (ms : Processes) → Off (rows_in p) (rows_beneath ms) → (m : Mode) (vs : List Variable) (s : List ℕ) → let t = settle p (starts m) s in
      (Memᴰ v (begun p (starts m) s) → StartedIn v p s t)
      → (Memᴰ v (begun_each ms (next_mode m (state_of t p)) vs t) → StartedAmong v vs t ms (settle_each ms (next_mode m (state_of t p)) t))
      → Memᴰ v (if_started (state_of s p) (starts m) vs ++ (begun p (starts m) s ++ begun_each ms (next_mode m (state_of t p)) vs t))
      → StartedAmong v vs s (also p ms) (settle_each (also p ms) m s)
  started-member p ms o m vs s f g h = ⊎_elim first later (Memᴰ.append_cases (if_started (state_of s p) (starts m) vs) h)
    where
      t : List ℕ
      t = settle p (starts m) s

      k : Mode
      k = next_mode m (state_of t p)

      kept : (y : ℕ) → Memᴰ y (rows_beneath ms) → get_or t y 0 ≡ get_or s y 0
      kept y q = off-look (see-local p (starts m)) s y (λ z. o y z q)

      first : Memᴰ v (if_started (state_of s p) (starts m) vs) → StartedAmong v vs s (also p ms) (settle_each (also p ms) m s)
      first i = let (e, j) = started-so (state_of s p) (starts m) vs v i in inl (j, (p, (among_first, e)))

      in-first : StartedIn v p s t → StartedAmong v vs s (also p ms) (settle_each (also p ms) m s)
      in-first (r, (ns, (u, i, inr stepless))) = inr (r, (ns, (front u, i, inr stepless)))
      in-first (r, (ns, (u, i, inl e))) = inr (r, (ns, (front u, i, inl (ap (λ (w : List ℕ). get_or w r 0) (walk-also p ms m s) ∙ off-look (walk-local ms k) t r (o r (sub_in p u)) ∙ e))))

      in-later : StartedAmong v vs t ms (settle_each ms k t) → StartedAmong v vs s (also p ms) (settle_each (also p ms) m s)
      in-later (inl (j, (q, (a, e)))) = inl (j, (q, (among_later a, sym (kept (row_of q) (among-row a)) ∙ e)))
      in-later (inr (r, (ns, (u, i, h)))) =
          let back-idle : Idle (rows_beneath ns) s = λ y q. sym (kept y (sub_m-rows (Memᴰ.tail q) ms u)) ∙ i y q in
          inr (r, (ns, (back u, back-idle, subst (λ (w : List ℕ). (get_or w r 0 ≡ 1) ⊎ NoStep ns) (sym (walk-also p ms m s)) h)))

      later : Memᴰ v (begun p (starts m) s ++ begun_each ms k vs t) → StartedAmong v vs s (also p ms) (settle_each (also p ms) m s)
      later i = ⊎_elim (λ j. in-first (f j)) (λ j. in-later (g j)) (Memᴰ.append_cases (begun p (starts m) s) i)

  mutual
    started-running : (p : Process) → Sound p n → OneProcess p → (s : List ℕ) → length s ≡ n → Good s p → state_of s p ≡ 1 → Memᴰ v (begun_running p s) → StartedIn v p s (settle_running p s)
    started-running (node k r ms) d one s l g e m =
        let h = running g e in
        started-node k r ms d one s l h e (started-each ms d.2 (λ w q ns u. one w q ns (inside u)) (mode k) (local_of k) s l h (subst (λ (vs : List Variable). Memᴰ v vs) (begun-node k r ms s) m))

    started-each : (ms : Processes) → SoundM ms n → OneProcessM ms → (m : Mode) (vs : List Variable) (s : List ℕ) → length s ≡ n → GoodM s m ms → Memᴰ v (begun_each ms m vs s)
        → StartedAmong v vs s ms (settle_each ms m s)
    started-each empty d one m vs s l g h = absurd (Memᴰ.not-nil (subst (λ (us : List Variable). Memᴰ v us) (begun-none m vs s) h))
    started-each (also p ms) d one m vs s l g h =
        let t = settle p (starts m) s in
        started-member p ms d.2 m vs s
        (λ i. started-visit p d.0 (starts m) s l (good_m-head g) (λ t k h e j. started-running p d.0 (λ w q ns u. one w q ns (front u)) t k h e j) i (state_of s p) refl)
        (λ i. started-each ms d.1 (λ w q ns u. one w q ns (back u)) (next_mode m (state_of t p)) vs t (length-local (see-local p (starts m)) s ∙ l) (next-good p ms d.2 m s g) i)
        (subst (λ (us : List Variable). Memᴰ v us) (begun-members p ms m vs s) h)

  pub started-see : (p : Process) → Sound p n → OneProcess p → (b : Bool) (s : List ℕ) → length s ≡ n → Good s p → Memᴰ v (begun p b s) → StartedIn v p s (settle p b s)
  started-see p d one b s l g m = started-visit p d b s l g (started-running p d one) m (state_of s p) refl
