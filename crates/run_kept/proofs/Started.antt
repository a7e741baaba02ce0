-- Where an ALT or IF has started a member, settling leaves the member not idle, or the ALT or IF not running.
use mathlib.Core.Path.{◌≡◌, refl, sym, ap, ◌∙◌}
use mathlib.Core.Logic.{◌≢◌, ◌⊎◌, inl, inr}
use mathlib.Core.Bool.{Bool, true, false}
use mathlib.Core.List.Memᴰ
use mathlib.Core.List.{List, ◌∷◌, Memᴰ}
use Prim.Native.Nat.{ℕ, zero, suc, ◌<◌}
use native.Mathlib.Omega.{arith}
use lib.ListN.{length, get_or, set, length-set}
use lib.Seq.{get_or-set_same, get_or-set_other}
use Rattle.meaning.specs.Tree.{Action, Process, node, Processes, also, row_of, rows_in, rows_beneath, empty}
use Rattle.meaning.specs.State.{state_of, make_idle}
use Rattle.meaning.specs.Settle.{states_of, Mode, mode, starts, next_mode, complete, ends_when_closed, closing, visit, settle_running, settle_each, settle}
use Rattle.agreement.proofs.Frame.{body-node, body-shape, walk-also, row_in, see-local, walk-local, zeros-local, off-look, length-local}
use Rattle.agreement.proofs.Again.{Out, Sound, SoundM}
use Rattle.agreement.proofs.Commute.{Child, eldest, younger, child-in}
use Rattle.agreement.proofs.Reach.{Sub, SubM, self, inside, front, back, sub_in, sub_m-in}
use Rattle.run_kept.proofs.Over.{set-not, idle-not}

-- a row made idle is not running
made-idle : (rs : List ℕ) (l : List ℕ) (y : ℕ) → Memᴰ y rs → y < length l → get_or (make_idle rs l) y 0 ≢ 1
made-idle mathlib.Core.List.[] l y x'' h = elim x'' [ ]
made-idle (r ∷ rs) l y (Memᴰ.head e) h =
    idle-not rs (set l r 0) y (λ z. let q = get_or-set_same l y 0 0 h in let g = ap (λ (k : ℕ). get_or (set l k 0) y 0) e in omega arith)
made-idle (r ∷ rs) l y (Memᴰ.tail m) h = made-idle rs (set l r 0) y m (rw (length-set l r 0) h)

-- ---- a member that has been started

closing-row : (c e : Bool) (r : ℕ) (rs l : List ℕ) → Out r rs → r < length l → get_or l r 0 ≢ 0 → get_or (closing c e r rs l) r 0 ≢ 0
closing-row true true r rs l o k g = λ z. let q = get_or-set_same l r 2 0 k in omega arith
closing-row true false r rs l o k g = λ z. g (sym (off-look (zeros-local rs) l r o) ∙ z)
closing-row false e r rs l o k g = g

running-row : (p : Process) (n : ℕ) → Sound p n → (l : List ℕ) → length l ≡ n → state_of l p ≢ 0 → state_of (settle_running p l) p ≢ 0
running-row (node k r ms) n d l e g =
    rw (body-node k r ms l)
    (closing-row (complete (mode k) (states_of ms (settle_each ms (mode k) l))) (ends_when_closed k) r (rows_beneath ms) (settle_each ms (mode k) l) d.1
    (rw (length-local (walk-local ms (mode k)) l, e) d.0) (λ z. g (sym (off-look (walk-local ms (mode k)) l r d.1) ∙ z)))

visit-row : (s : ℕ) (b : Bool) (p : Process) (n : ℕ) → Sound p n → (l : List ℕ) → length l ≡ n → state_of l p ≡ s → s ≢ 0 → state_of (visit s b (row_of p) (settle_running p) l) p ≢ 0
visit-row zero b p n d l e q g = absurd (g refl)
visit-row (suc zero) b p n d l e q g = running-row p n d l e (λ z. omega arith)
visit-row (suc (suc s)) b p n d l e q g = λ z. omega arith

settle-row : (p : Process) (n : ℕ) → Sound p n → (b : Bool) (l : List ℕ) → length l ≡ n → state_of l p ≢ 0 → state_of (settle p b l) p ≢ 0
unfolding settle
settle-row p n d b l e g = visit-row (state_of l p) b p n d l e refl g

-- a member that is not idle is not made idle by its own process's walk
member-row : (q : ℕ) (ms : Processes) → Child q ms → (n : ℕ) → SoundM ms n → (m : Mode) (l : List ℕ) → length l ≡ n → get_or l q 0 ≢ 0 → get_or (settle_each ms m l) q 0 ≢ 0
member-row q empty x4 n d m l e g = elim x4 [ ]
member-row q (also p ms) (eldest c) n d m l e g =
    let u = settle p (starts m) l in
    rw (walk-also p ms m l, c) (λ z. settle-row p n d.0 (starts m) l e (λ y. g (ap (λ (k : ℕ). get_or l k 0) c ∙ y))
    (sym (off-look (walk-local ms (next_mode m (state_of u p))) u (row_of p) (λ k. d.2 (row_of p) (row_in p) k)) ∙ z))
member-row q (also p ms) (younger c) n d m l e g =
    rw (walk-also p ms m l)
    (member-row q ms c n d.1 (next_mode m (state_of (settle p (starts m) l) p)) (settle p (starts m) l) (length-local (see-local p (starts m)) l ∙ e)
    (λ z. g (sym (off-look (see-local p (starts m)) l q (λ k. d.2 q k (child-in c))) ∙ z)))

-- ---- the process that started it

module _ (k : Action) (r q : ℕ) (ms : Processes) (ends : ends_when_closed k ≡ true) (c : Child q ms) where
  -- the process is not running, or the member not idle
  abbrev pub Pair : List ℕ → Type 0
  Pair l = (get_or l r 0 ≢ 1) ⊎ (get_or l q 0 ≢ 0)

  mutual
    in-sub : (p : Process) → Sub k r ms p → Memᴰ q (rows_in p)
    in-sub (node k' r' ps) self = Memᴰ.tail (child-in c)
    in-sub (node k' r' ps) (inside h) = Memᴰ.tail (in-sub_m ps h)

    in-sub_m : (ps : Processes) → SubM k r ms ps → Memᴰ q (rows_beneath ps)
    in-sub_m empty x'' = elim x'' [ ]
    in-sub_m (also p ps) (front h) = Memᴰ.append_left (rows_beneath ps) (in-sub p h)
    in-sub_m (also p ps) (back h) = Memᴰ.append_right (rows_in p) (in-sub_m ps h)

  pair_same : (l u : List ℕ) → get_or u r 0 ≡ get_or l r 0 → get_or u q 0 ≡ get_or l q 0 → Pair l → Pair u
  pair_same l u a b (inl h) = inl (λ z. h (sym a ∙ z))
  pair_same l u a b (inr h) = inr (λ z. h (sym b ∙ z))

  at-node : (n : ℕ) → Sound (node k r ms) n → (l : List ℕ) → length l ≡ n → get_or l q 0 ≢ 0 → Pair (settle_running (node k r ms) l)
  at-node n d l e g = go (complete (mode k) (states_of ms (settle_each ms (mode k) l))) refl
    where
      u : List ℕ
      u = settle_each ms (mode k) l

      go : (b : Bool) → complete (mode k) (states_of ms (settle_each ms (mode k) l)) ≡ b → Pair (settle_running (node k r ms) l)
      go true z = rw (body-shape k r ms l true true z ends) (inl (λ y. let v = get_or-set_same u r 2 0 (rw (length-local (walk-local ms (mode k)) l, e) d.0) in omega arith))
      go false z = rw (body-shape k r ms l false true z ends) (inr (member-row q ms c n d.2 (mode k) l e g))

  -- closing a process above them
  closing-pair : (b f : Bool) (r' : ℕ) (rs l : List ℕ) → Out r' rs → Memᴰ r rs → Memᴰ q rs → r < length l → Pair l → Pair (closing b f r' rs l)
  closing-pair true true r' rs l o mr mq h (inl g) = inl (set-not l r' 2 r (λ z. omega arith) g)
  closing-pair true true r' rs l o mr mq h (inr g) = inr (λ z. g (sym (get_or-set_other l r' q 2 0 (λ y. o (Memᴰ.cast (sym y) mq))) ∙ z))
  closing-pair true false r' rs l o mr mq h g = inl (made-idle rs l r mr h)
  closing-pair false f r' rs l o mr mq h g = g

  visit-pair : (s : ℕ) (b : Bool) (p : Process) (l : List ℕ) → state_of l p ≡ s → get_or l r 0 ≡ 1 → get_or l q 0 ≢ 0
      → ((u : List ℕ) → length u ≡ length l → get_or u r 0 ≡ 1 → get_or u q 0 ≢ 0 → Pair (settle_running p u)) → Pair (visit s b (row_of p) (settle_running p) l)
  visit-pair zero true p l e a g f =
      f (set l (row_of p) 1) (length-set l (row_of p) 1) (get_or-set_other l (row_of p) r 1 0 (λ y. let z = ap (λ (k : ℕ). get_or l k 0) y in omega arith) ∙ a)
      (λ z. g (sym (get_or-set_other l (row_of p) q 1 0 (λ y. g (ap (λ (k : ℕ). get_or l k 0) y ∙ e))) ∙ z))
  visit-pair zero false p l e a g f = inr g
  visit-pair (suc zero) b p l e a g f = f l refl a g
  visit-pair (suc (suc s)) b p l e a g f = inr g

  settle-with : (b : Bool) (p : Process) (l : List ℕ) → get_or l r 0 ≡ 1 → get_or l q 0 ≢ 0
      → ((u : List ℕ) → length u ≡ length l → get_or u r 0 ≡ 1 → get_or u q 0 ≢ 0 → Pair (settle_running p u)) → Pair (settle p b l)
  unfolding settle
  settle-with b p l a g f = visit-pair (state_of l p) b p l refl a g f

  mutual
    running-pair : (p : Process) (n : ℕ) → Sound p n → Sub k r ms p → (l : List ℕ) → length l ≡ n → get_or l r 0 ≡ 1 → get_or l q 0 ≢ 0 → Pair (settle_running p l)
    running-pair (node k' r' ps) n d self l e a g = at-node n d l e g
    running-pair (node k' r' ps) n d (inside h) l e a g =
        rw (body-node k' r' ps l)
        (closing-pair (complete (mode k') (states_of ps (settle_each ps (mode k') l))) (ends_when_closed k') r' (rows_beneath ps) (settle_each ps (mode k') l) d.1 (sub_m-in ps h) (in-sub_m ps h)
        (rw (length-local (walk-local ps (mode k')) l) (below ps n d.2 h l e)) (members-pair ps n d.2 h (mode k') l e a g))

    members-pair : (ps : Processes) (n : ℕ) → SoundM ps n → SubM k r ms ps → (m : Mode) (l : List ℕ) → length l ≡ n → get_or l r 0 ≡ 1 → get_or l q 0 ≢ 0 → Pair (settle_each ps m l)
    members-pair empty n d x16 m l e a g = elim x16 [ ]
    members-pair (also p ps) n d (front h) m l e a g =
        let u = settle p (starts m) l in
        rw (walk-also p ps m l)
        (pair_same u (settle_each ps (next_mode m (state_of u p)) u) (off-look (walk-local ps (next_mode m (state_of u p))) u r (λ i. d.2 r (sub_in p h) i))
        (off-look (walk-local ps (next_mode m (state_of u p))) u q (λ i. d.2 q (in-sub p h) i))
        (settle-with (starts m) p l a g (λ v z y x. running-pair p n d.0 h v (z ∙ e) y x)))
    members-pair (also p ps) n d (back h) m l e a g =
        let u = settle p (starts m) l in
        rw (walk-also p ps m l)
        (members-pair ps n d.1 h (next_mode m (state_of u p)) u (length-local (see-local p (starts m)) l ∙ e) (off-look (see-local p (starts m)) l r (λ i. d.2 r i (sub_m-in ps h)) ∙ a)
        (λ z. g (sym (off-look (see-local p (starts m)) l q (λ i. d.2 q i (in-sub_m ps h))) ∙ z)))

    below : (ps : Processes) (n : ℕ) → SoundM ps n → SubM k r ms ps → (l : List ℕ) → length l ≡ n → r < length l
    below empty n d x16 l e = elim x16 [ ]
    below (also p ps) n d (front h) l e = below_in p n d.0 h l e
    below (also p ps) n d (back h) l e = below ps n d.1 h l e

    below_in : (p : Process) (n : ℕ) → Sound p n → Sub k r ms p → (l : List ℕ) → length l ≡ n → r < length l
    below_in (node k' r' ps) n d self l e = rw e d.0
    below_in (node k' r' ps) n d (inside h) l e = below ps n d.2 h l e

  pub settle-pair : (p : Process) (n : ℕ) → Sound p n → Sub k r ms p → (b : Bool) (l : List ℕ) → length l ≡ n → get_or l r 0 ≡ 1 → get_or l q 0 ≢ 0 → Pair (settle p b l)
  settle-pair p n d h b l e a g = settle-with b p l a g (λ u z y x. running-pair p n d h u (z ∙ e) y x)
