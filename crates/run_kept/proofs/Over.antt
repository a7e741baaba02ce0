-- Settling starts no row that was over: a row that has ended or stopped is not running after it.
use mathlib.Core.Path.{◌≡◌, refl, sym, ap, ◌∙◌}
use mathlib.Core.Logic.{◌≢◌, ◌⊎◌, inl, inr}
use mathlib.Core.Bool.{Bool, true, false}
use mathlib.Core.List.{List, [], ◌∷◌, Memᴰ}
use Prim.Native.Nat.{ℕ, zero, suc, ◌≤◌}
use native.Mathlib.Omega.{arith}
use lib.ListN.{get_or, set}
use lib.Seq.{get_or-set_other}
use Rattle.meaning.specs.Tree.{Process, node, Processes, empty, also, row_of, rows_in, rows_beneath}
use Rattle.meaning.specs.State.{state_of, make_idle}
use Rattle.meaning.specs.Settle.{states_of, Mode, mode, starts, next_mode, complete, ends_when_closed, closing, visit, settle_running, settle_each, settle}
use Rattle.agreement.proofs.Frame.{body-node, walk_none, walk-also, see-local, walk-local, off-look}
use Rattle.agreement.proofs.Again.{Out, Sound, SoundM}
use Rattle.agreement.proofs.Working.{in-or-out}

pub set-not : (l : List ℕ) (i v y : ℕ) → v ≢ 1 → get_or l y 0 ≢ 1 → get_or (set l i v) y 0 ≢ 1
set-not [] i v y h g = g
set-not (x ∷ l) zero v zero h g = h
set-not (x ∷ l) zero v (suc y) h g = g
set-not (x ∷ l) (suc i) v zero h g = g
set-not (x ∷ l) (suc i) v (suc y) h g = set-not l i v y h g

pub idle-not : (rs : List ℕ) (l : List ℕ) (y : ℕ) → get_or l y 0 ≢ 1 → get_or (make_idle rs l) y 0 ≢ 1
idle-not [] l y g = g
idle-not (r ∷ rs) l y g = idle-not rs (set l r 0) y (set-not l r 0 y (λ e. omega arith) g)

closing-not : (c e : Bool) (r : ℕ) (rs l : List ℕ) (y : ℕ) → get_or l y 0 ≢ 1 → get_or (closing c e r rs l) y 0 ≢ 1
closing-not true true r rs l y g = set-not l r 2 y (λ e. omega arith) g
closing-not true false r rs l y g = idle-not rs l y g
closing-not false e r rs l y g = g

visit-not : (n : ℕ) (b : Bool) (r : ℕ) (g : List ℕ → List ℕ) (l : List ℕ) (y : ℕ) → get_or l r 0 ≡ n → ((u : List ℕ) → 2 ≤ get_or u y 0 → get_or (g u) y 0 ≢ 1) → 2 ≤ get_or l y 0 → get_or (visit n b r g l) y 0 ≢ 1
visit-not zero true r g l y z f h = f (set l r 1) (rw (get_or-set_other l r y 1 0 (λ e. let q = ap (λ (k : ℕ). get_or l k 0) e in omega arith)) h)
visit-not zero false r g l y z f h = λ e. omega arith
visit-not (suc zero) b r g l y z f h = f l h
visit-not (suc (suc n)) b r g l y z f h = λ e. omega arith

-- members after one: a row of the one is not among theirs
also-not : (p : Process) (ms : Processes) (n : ℕ) → SoundM (also p ms) n → (m : Mode) (l : List ℕ) (y : ℕ) → 2 ≤ get_or l y 0 → get_or (settle p (starts m) l) y 0 ≢ 1
    → ((j : Mode) (u : List ℕ) → 2 ≤ get_or u y 0 → get_or (settle_each ms j u) y 0 ≢ 1) → Memᴰ y (rows_in p) ⊎ Out y (rows_in p) → get_or (settle_each (also p ms) m l) y 0 ≢ 1
also-not p ms n d m l y h f g (inl i) =
    rw (walk-also p ms m l) (λ e. f (sym (off-look (walk-local ms (next_mode m (state_of (settle p (starts m) l) p))) (settle p (starts m) l) y (λ k. d.2 y i k)) ∙ e))
also-not p ms n d m l y h f g (inr i) =
    rw (walk-also p ms m l) (g (next_mode m (state_of (settle p (starts m) l) p)) (settle p (starts m) l) (rw (off-look (see-local p (starts m)) l y i) h))

settle-with : (p : Process) (b : Bool) (l : List ℕ) (y : ℕ) → ((u : List ℕ) → 2 ≤ get_or u y 0 → get_or (settle_running p u) y 0 ≢ 1) → 2 ≤ get_or l y 0 → get_or (settle p b l) y 0 ≢ 1
unfolding settle
settle-with p b l y f h = visit-not (state_of l p) b (row_of p) (settle_running p) l y refl f h

mutual
  running-not : (p : Process) (n : ℕ) → Sound p n → (l : List ℕ) (y : ℕ) → 2 ≤ get_or l y 0 → get_or (settle_running p l) y 0 ≢ 1
  running-not (node k r ms) n d l y h =
      rw (body-node k r ms l) (closing-not (complete (mode k) (states_of ms (settle_each ms (mode k) l))) (ends_when_closed k) r (rows_beneath ms) (settle_each ms (mode k) l) y (members-not ms n d.2 (mode k) l y h))

  members-not : (ms : Processes) (n : ℕ) → SoundM ms n → (m : Mode) (l : List ℕ) (y : ℕ) → 2 ≤ get_or l y 0 → get_or (settle_each ms m l) y 0 ≢ 1
  members-not empty n d m l y h = rw (walk_none m l) (λ e. omega arith)
  members-not (also p ms) n d m l y h =
      also-not p ms n d m l y h (settle-with p (starts m) l y (λ u g. running-not p n d.0 u y g) h) (λ j u g. members-not ms n d.1 j u y g) (in-or-out y (rows_in p))

pub settle-not : (p : Process) (n : ℕ) → Sound p n → (b : Bool) (l : List ℕ) (y : ℕ) → 2 ≤ get_or l y 0 → get_or (settle p b l) y 0 ≢ 1
settle-not p n d b l y h = settle-with p b l y (λ u g. running-not p n d u y g) h
