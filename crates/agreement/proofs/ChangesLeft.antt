-- How many changes the rules of settling may still make, at most: each change makes it less, so the rules come to an end.
use mathlib.Core.Path.{◌≡◌, refl, sym, ap₂, ◌∙◌}
use mathlib.Core.Bool.{Bool, true, false}
use mathlib.Core.List.Memᴰ
use mathlib.Core.List.{List, ◌∷◌}
use Prim.Native.Nat.{ℕ, zero, suc, ◌+◌, ◌*◌, ◌<◌, ◌≤◌}
use native.Mathlib.Omega.{arith}
use lib.ListN.{length, get_or, set, length-append}
use lib.Seq.{get_or-set_other, get_or-set_same}
use Rattle.meaning.specs.Tree.{Action, Process, node, Processes, empty, also, row_of, rows_in, rows_beneath}
use Rattle.meaning.specs.State.{state_of}
use Rattle.meaning.specs.Settle.{Mode, mode, starts}
use Rattle.meaning.specs.SettlingRules.{Among}
use Rattle.agreement.proofs.Frame.{Local, row_in, off-look}
use Rattle.agreement.proofs.Again.{Sound, SoundM, Idle}
use Rattle.agreement.proofs.Reach.{Good, GoodM, idle, over, run, not-running, Agree, good_m-head, good_m-tail, Sub, SubM, self, inside, front, back, sub_m-in}
use Rattle.agreement.proofs.Inside.{among-row, sub_m-rows}
use Rattle.agreement.proofs.RulesAbsorbed.{beside, first-only}

abbrev where-true : Bool → ℕ → ℕ
where-true true n = n
where-true false n = 0

-- the changes of an idle process that may be started: it starts, it ends, and all beneath it is set to idle; and those of its members
abbrev mutual
  full : Process → ℕ
  full (node k r ms) = suc (suc (suc (where-true (starts (mode k)) (full_m ms))))

  full_m : Processes → ℕ
  full_m empty = 0
  full_m (also p ms) = full p + full_m ms

-- those of a process by its state: idle, where it may be started or not; running; ended or stopped
abbrev by_state : ℕ → Bool → ℕ → ℕ → ℕ
by_state zero true f g = f
by_state zero false f g = 0
by_state (suc zero) b f g = suc (suc g)
by_state (suc (suc n)) b f g = 1

abbrev mutual
  pub left : Process → Bool → List ℕ → ℕ
  left (node k r ms) b s = by_state (get_or s r 0) b (full (node k r ms)) (left_m ms (starts (mode k)) s)

  pub left_m : Processes → Bool → List ℕ → ℕ
  left_m empty b s = 0
  left_m (also p ms) b s = left p b s + left_m ms b s

-- ---- at most three to a row

where-bound : (b : Bool) (n m : ℕ) → n ≤ m → where-true b n ≤ m
where-bound true n m h = h
where-bound false n m h = omega arith

state-bound : (j : ℕ) (b : Bool) (f g m : ℕ) → f ≤ 3 * suc m → g ≤ 3 * m → by_state j b f g ≤ 3 * suc m
state-bound zero true f g m h k = h
state-bound zero false f g m h k = omega arith
state-bound (suc zero) b f g m h k = omega arith
state-bound (suc (suc j)) b f g m h k = omega arith

mutual
  full-bound : (p : Process) → full p ≤ 3 * length (rows_in p)
  full-bound (node k r ms) = omega (arith, where-bound (starts (mode k)) (full_m ms) (3 * length (rows_beneath ms)) (full_m-bound ms))

  full_m-bound : (ms : Processes) → full_m ms ≤ 3 * length (rows_beneath ms)
  full_m-bound empty = omega arith
  full_m-bound (also p ms) = omega (arith, full-bound p, full_m-bound ms, length-append (rows_in p) (rows_beneath ms))

mutual
  pub left-bound : (p : Process) (b : Bool) (s : List ℕ) → left p b s ≤ 3 * length (rows_in p)
  left-bound (node k r ms) b s =
      state-bound (get_or s r 0) b (full (node k r ms)) (left_m ms (starts (mode k)) s) (length (rows_beneath ms)) (full-bound (node k r ms)) (left_m-bound ms (starts (mode k)) s)

  left_m-bound : (ms : Processes) (b : Bool) (s : List ℕ) → left_m ms b s ≤ 3 * length (rows_beneath ms)
  left_m-bound empty b s = omega arith
  left_m-bound (also p ms) b s = omega (arith, left-bound p b s, left_m-bound ms b s, length-append (rows_in p) (rows_beneath ms))

-- ---- it depends on the rows of a process

module _ (s t : List ℕ) where
  mutual
    left-agree : (p : Process) (b : Bool) → Agree (rows_in p) s t → left p b t ≡ left p b s
    left-agree (node k r ms) b g =
        ap₂ (λ (j m : ℕ). by_state j b (full (node k r ms)) m) (g r (Memᴰ.head refl)) (left_m-agree ms (starts (mode k)) (λ y q. g y (Memᴰ.tail q)))

    left_m-agree : (ms : Processes) (b : Bool) → Agree (rows_beneath ms) s t → left_m ms b t ≡ left_m ms b s
    left_m-agree empty b g = refl
    left_m-agree (also p ms) b g = ap₂ ◌+◌ (left-agree p b (λ y q. g y (Memᴰ.append_left (rows_beneath ms) q))) (left_m-agree ms b (λ y q. g y (Memᴰ.append_right (rows_in p) q)))

-- what is left of idle members
idle-left : (ms : Processes) (b : Bool) (s : List ℕ) → Idle (rows_beneath ms) s → left_m ms b s ≡ where-true b (full_m ms)
idle-left empty true s i = refl
idle-left empty false s i = refl
idle-left (also (node k r qs) ms) true s i =
    rw (i r (Memᴰ.append_left (rows_beneath ms) (row_in (node k r qs))), idle-left ms true s (λ y q. i y (Memᴰ.append_right (rows_in (node k r qs)) q)))
idle-left (also (node k r qs) ms) false s i =
    rw (i r (Memᴰ.append_left (rows_beneath ms) (row_in (node k r qs))), idle-left ms false s (λ y q. i y (Memᴰ.append_right (rows_in (node k r qs)) q)))

-- ---- less is left inside a process: less is left of every process around it

module _ (k : Action) (r : ℕ) (ms : Processes) (f : List ℕ → List ℕ) (F : Local (r ∷ rows_beneath ms) f) (s : List ℕ) (e : get_or s r 0 ≡ 1) (n : ℕ) (base : (b : Bool) → left (node k r ms) b (f s) < left (node k r ms) b s) where
  mutual
    pub less-around : (p : Process) → Sub k r ms p → Sound p n → Good s p → (b : Bool) → left p b (f s) < left p b s
    less-around (node k' r' ps) self d g b = base b
    less-around (node k' r' ps) (inside u) d (idle i) b = absurd (omega (arith, i r (Memᴰ.tail (sub_m-in ps u))))
    less-around (node k' r' ps) (inside u) d (over i e' q h o) b = absurd (not-running (get_or s r 0) (q r (sub_m-in ps u)) e)
    less-around (node k' r' ps) (inside u) d (run e' h) b =
        rw (off-look F s r' (λ c. d.1 (sub_m-rows c ps u)) ∙ e', e') (omega (arith, less_m-around ps u d.2 (mode k') h (starts (mode k'))))

    less_m-around : (ps : Processes) → SubM k r ms ps → SoundM ps n → (m : Mode) → GoodM s m ps → (b : Bool) → left_m ps b (f s) < left_m ps b s
    less_m-around empty x6 d m g b = elim x6 [ ]
    less_m-around (also p ps) (front u) d m g b =
        omega (arith, less-around p u d.0 (good_m-head g) b, left_m-agree s (f s) ps b (first-only k r ms f F s e n p ps u d.2))
    less_m-around (also p ps) (back u) d m g b = omega (arith, less_m-around ps u d.1 m (good_m-tail g) b, left-agree s (f s) p b (beside k r ms f F s e n p ps u d.2))

-- ---- each sort of change leaves less

-- a running process ends
pub less-ended : (k : Action) (r : ℕ) (ms : Processes) (s t : List ℕ) → get_or s r 0 ≡ 1 → get_or t r 0 ≡ 2 → (b : Bool) → left (node k r ms) b t < left (node k r ms) b s
less-ended k r ms s t e z b = rw (e, z) (omega arith)

-- a running process has less left where its members have
pub less-beneath : (k : Action) (r : ℕ) (ms : Processes) (s t : List ℕ) → get_or s r 0 ≡ 1 → get_or t r 0 ≡ 1 → left_m ms (starts (mode k)) t < left_m ms (starts (mode k)) s → (b : Bool) → left (node k r ms) b t < left (node k r ms) b s
less-beneath k r ms s t e z h b = rw (e, z) (omega arith)

-- a member is started
less-start : (p : Process) (n : ℕ) → Sound p n → (s : List ℕ) → length s ≡ n → Good s p → state_of s p ≡ 0 → left p true (set s (row_of p) 1) < left p true s
less-start (node k r ms) n d s l (idle i) z =
    let j : Idle (rows_beneath ms) (set s r 1) = λ y q. get_or-set_other s r y 1 0 (λ u. d.1 (Memᴰ.cast (sym u) q)) ∙ i y (Memᴰ.tail q) in
    rw (get_or-set_same s r 1 0 (rw l d.0), z, idle-left ms (starts (mode k)) (set s r 1) j) (omega arith)
less-start (node k r ms) n d s l (over i e q h o) z = absurd (omega arith)
less-start (node k r ms) n d s l (run e h) z = absurd (omega arith)

pub less-started : (n : ℕ) {q : Process} (ms : Processes) → SoundM ms n → (s : List ℕ) → length s ≡ n → (m : Mode) → GoodM s m ms → Among q ms → state_of s q ≡ 0 → left_m ms true (set s (row_of q) 1) < left_m ms true s
less-started n {q = q} empty d s l m g x5 z = elim x5 [ ]
less-started n (also p ms) d s l m g Among.among_first z =
    omega (arith, less-start p n d.0 s l (good_m-head g) z, left_m-agree s (set s (row_of p) 1) ms true (λ y q. get_or-set_other s (row_of p) y 1 0 (λ u. d.2 y (Memᴰ.cast u (row_in p)) q)))
less-started n {q} (also p ms) d s l m g (Among.among_later a) z =
    omega (arith, less-started n ms d.1 s l m (good_m-tail g) a z, left-agree s (set s (row_of q) 1) p true (λ y c. get_or-set_other s (row_of q) y 1 0 (λ u. d.2 y c (Memᴰ.cast u (among-row a)))))

-- members, of which one has ended, become idle
ended-left : {q : Process} (ms : Processes) (s : List ℕ) → Among q ms → state_of s q ≡ 2 → 0 < left_m ms false s
ended-left {q = q} empty s x'' z = elim x'' [ ]
ended-left (also (node k r qs) ms) s Among.among_first z = rw z (omega arith)
ended-left (also p ms) s (Among.among_later a) z = omega (arith, ended-left ms s a z)

pub less-idle : {q : Process} (ms : Processes) (s t : List ℕ) → Among q ms → state_of s q ≡ 2 → Idle (rows_beneath ms) t → left_m ms false t < left_m ms false s
less-idle ms s t a z i = omega (arith, ended-left ms s a z, idle-left ms false t i)
