-- What settling a process reads and writes: the statuses of its own rows.
use mathlib.Core.Path.{◌≡◌, refl, sym, ap, ap₂, ◌∙◌}
use mathlib.Core.Bool.{Bool, true, false}
use mathlib.Core.List.Memᴰ
use mathlib.Core.List.{List, [], ◌∷◌, ◌++◌, Memᴰ}
use Prim.Native.Nat.{ℕ, zero, suc}
use lib.ListN.{length, get_or, set, length-set}
use lib.Seq.{set_comm, get_or-set_other}
use Rattle.meaning.specs.Tree.{Action, Process, node, Processes, empty, also, row_of, rows_in, rows_beneath}
use Rattle.meaning.specs.State.{state_of, make_idle}
use Rattle.meaning.specs.Settle.{states_of, Mode, mode, starts, next_mode, complete, ends_when_closed, closing, visit, settle_running, settle_each, settle}

pub body-node : (k : Action) (r : ℕ) (ms : Processes) (s : List ℕ)
    → settle_running (node k r ms) s ≡ closing (complete (mode k) (states_of ms (settle_each ms (mode k) s))) (ends_when_closed k) r (rows_beneath ms) (settle_each ms (mode k) s)
unfolding settle_running
body-node k r ms s = refl

pub body-shape : (k : Action) (r : ℕ) (ms : Processes) (s : List ℕ) (c x : Bool) → complete (mode k) (states_of ms (settle_each ms (mode k) s)) ≡ c → ends_when_closed k ≡ x
    → settle_running (node k r ms) s ≡ closing c x r (rows_beneath ms) (settle_each ms (mode k) s)
body-shape k r ms s c x ec ex = rw (body-node k r ms s, ec, ex)

pub walk_none : (m : Mode) (s : List ℕ) → settle_each empty m s ≡ s
unfolding settle_running
walk_none m s = refl

pub walk-also : (p : Process) (ms : Processes) (m : Mode) (s : List ℕ)
    → settle_each (also p ms) m s ≡ settle_each ms (next_mode m (state_of (settle p (starts m) s) p)) (settle p (starts m) s)
unfolding settle_running settle
walk-also p ms m s = refl

-- a relation of two states that equal stores at rows_in of R keep, and that shows equal statuses there
pub record Sim (R : List ℕ) (rel : List ℕ → List ℕ → Type 0) : Type 0 where
  pub look : {s t : List ℕ} (x : ℕ) → Memᴰ x R → rel s t → get_or s x 0 ≡ get_or t x 0
  pub put : {s t : List ℕ} (x v : ℕ) → Memᴰ x R → rel s t → rel (set s x v) (set t x v)

pub row_in : (p : Process) → Memᴰ (row_of p) (rows_in p)
row_in (node k r ms) = Memᴰ.head refl

pub sub-left : {rel : List ℕ → List ℕ → Type 0} (R Q : List ℕ) → Sim (R ++ Q) rel → Sim R rel
sub-left R Q S = record { look = λ x h. S.look x (Memᴰ.append_left Q h); put = λ x v h. S.put x v (Memᴰ.append_left Q h) }

pub sub-right : {rel : List ℕ → List ℕ → Type 0} (R Q : List ℕ) → Sim (R ++ Q) rel → Sim Q rel
sub-right R Q S = record { look = λ x h. S.look x (Memᴰ.append_right R h); put = λ x v h. S.put x v (Memᴰ.append_right R h) }

pub sub-tail : {rel : List ℕ → List ℕ → Type 0} (r : ℕ) (R : List ℕ) → Sim (r ∷ R) rel → Sim R rel
sub-tail r R S = record { look = λ x h. S.look x (Memᴰ.tail h); put = λ x v h. S.put x v (Memᴰ.tail h) }

module _ {rel : List ℕ → List ℕ → Type 0} where
  sts-sim : (ms : Processes) → Sim (rows_beneath ms) rel → {s t : List ℕ} → rel s t → states_of ms s ≡ states_of ms t
  sts-sim empty S h = refl
  sts-sim (also p ms) S h = ap₂ (λ (n : ℕ) (l : List ℕ). n ∷ l) (S.look (row_of p) (Memᴰ.append_left (rows_beneath ms) (row_in p)) h) (sts-sim ms (sub-right (rows_in p) (rows_beneath ms) S) h)

  zeros-sim : (rs : List ℕ) → Sim rs rel → {s t : List ℕ} → rel s t → rel (make_idle rs s) (make_idle rs t)
  zeros-sim [] S h = h
  zeros-sim (r ∷ rs) S h = zeros-sim rs (sub-tail r rs S) (S.put r 0 (Memᴰ.head refl) h)

  close-sim : (b e : Bool) (r : ℕ) (rs : List ℕ) → Sim (r ∷ rs) rel → {s t : List ℕ} → rel s t → rel (closing b e r rs s) (closing b e r rs t)
  close-sim true true r rs S h = S.put r 2 (Memᴰ.head refl) h
  close-sim true false r rs S h = zeros-sim rs (sub-tail r rs S) h
  close-sim false e r rs S h = h

  visit-sim : (n : ℕ) (b : Bool) (p : Process) → Sim (rows_in p) rel → ((s t : List ℕ) → rel s t → rel (settle_running p s) (settle_running p t))
      → (s t : List ℕ) → rel s t → rel (visit n b (row_of p) (settle_running p) s) (visit n b (row_of p) (settle_running p) t)
  visit-sim zero true p S g s t h = g (set s (row_of p) 1) (set t (row_of p) 1) (S.put (row_of p) 1 (row_in p) h)
  visit-sim zero false p S g s t h = h
  visit-sim (suc zero) b p S g s t h = g s t h
  visit-sim (suc (suc n)) b p S g s t h = h

  see-sim : (b : Bool) (p : Process) → Sim (rows_in p) rel → ((s t : List ℕ) → rel s t → rel (settle_running p s) (settle_running p t))
      → (s t : List ℕ) → rel s t → rel (settle p b s) (settle p b t)
  unfolding settle
  see-sim b p S g s t h = rw (S.look (row_of p) (row_in p) h) (visit-sim (state_of t p) b p S g s t h)

  mutual
    pub sim : (p : Process) → Sim (rows_in p) rel → (s t : List ℕ) → rel s t → rel (settle_running p s) (settle_running p t)
    sim (node k r ms) S s t h =
        let q = sim_m ms (sub-tail r (rows_beneath ms) S) (mode k) s t h in
        rw (body-node k r ms s, body-node k r ms t, sts-sim ms (sub-tail r (rows_beneath ms) S) q) (close-sim (complete (mode k) (states_of ms (settle_each ms (mode k) t))) (ends_when_closed k) r (rows_beneath ms) S q)

    pub sim_m : (ms : Processes) → Sim (rows_beneath ms) rel → (m : Mode) (s t : List ℕ) → rel s t → rel (settle_each ms m s) (settle_each ms m t)
    sim_m empty S m s t h = simp walk_none h
    sim_m (also p ms) S m s t h =
        let P = sub-left (rows_in p) (rows_beneath ms) S in
        let q = see-sim (starts m) p P (λ u v e. sim p P u v e) s t h in
        rw (walk-also p ms m s, walk-also p ms m t, P.look (row_of p) (row_in p) q)
        (sim_m ms (sub-right (rows_in p) (rows_beneath ms) S) (next_mode m (state_of (settle p (starts m) t) p)) (settle p (starts m) s) (settle p (starts m) t) q)

-- f reads and writes the rows_in of R alone
pub record Local (R : List ℕ) (f : List ℕ → List ℕ) : Type 1 where
  pub keeps : (rel : List ℕ → List ℕ → Type 0) → Sim R rel → (s t : List ℕ) → rel s t → rel (f s) (f t)

pub walk-local : (ms : Processes) (m : Mode) → Local (rows_beneath ms) (settle_each ms m)
walk-local ms m = record { keeps = λ rel S. sim_m ms S m }

pub see-local : (p : Process) (b : Bool) → Local (rows_in p) (settle p b)
see-local p b = record { keeps = λ rel S. see-sim b p S (λ u v e. sim p S u v e) }

pub zeros-local : (rs : List ℕ) → Local rs (make_idle rs)
zeros-local rs = record { keeps = λ rel S s t h. zeros-sim rs S h }

abbrev pub Off : List ℕ → List ℕ → Type 0
Off R Q = (x : ℕ) → Memᴰ x R → Memᴰ x Q → ⊥

module _ {R : List ℕ} {f : List ℕ → List ℕ} (F : Local R f) where
  -- what a store at a row of R keeps, f keeps
  pub invariant : (P : List ℕ → Type 0) → ((s : List ℕ) (x v : ℕ) → Memᴰ x R → P s → P (set s x v)) → (s : List ℕ) → P s → P (f s)
  invariant P put s h = (F.keeps (λ u t. (u ≡ t) × P u) (record { look = λ x m e. ap (λ (l : List ℕ). get_or l x 0) e.0; put = λ {s} x v m e. (ap (λ (l : List ℕ). set l x v) e.0, put s x v m e.1) }) s s (refl, h)).1

  pub length-local : (s : List ℕ) → length (f s) ≡ length s
  length-local s = invariant (λ u. length u ≡ length s) (λ u x v m e. length-set u x v ∙ e) s refl

  pub off-look : (s : List ℕ) (x : ℕ) → (Memᴰ x R → ⊥) → get_or (f s) x 0 ≡ get_or s x 0
  off-look s x o = invariant (λ u. get_or u x 0 ≡ get_or s x 0) (λ u y v m e. get_or-set_other u y x v 0 (λ q. o (Memᴰ.cast q m)) ∙ e) s refl

  pub off-put : (s : List ℕ) (x v : ℕ) → (Memᴰ x R → ⊥) → f (set s x v) ≡ set (f s) x v
  off-put s x v o = F.keeps (λ u t. t ≡ set u x v) (record {
    look = λ {s} {t} y m e. rw e (sym (get_or-set_other s x y v 0 (λ q. o (Memᴰ.cast (sym q) m))));
    put = λ {s} {t} y w m e. rw e (set_comm s x y v w (λ q. o (Memᴰ.cast q m)));
  }) s (set s x v) refl

module _ {R Q : List ℕ} {f g : List ℕ → List ℕ} (F : Local R f) (G : Local Q g) (o : Off R Q) where
  pub swap : (s : List ℕ) → f (g s) ≡ g (f s)
  swap s = F.keeps (λ u t. t ≡ g u) (record {
    look = λ {s} {t} y m e. rw e (sym (off-look G s y (o y m)));
    put = λ {s} {t} y w m e. rw e (sym (off-put G s y w (o y m)));
  }) s (g s) refl
