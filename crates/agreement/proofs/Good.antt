-- A good state of a process: what holds in every state that an order reaches.
-- A SEQ has ended members, one at work, and idle ones; an IF, ALT or WHILE at most one that is not idle; one that is over has nothing at work beneath it.
use mathlib.Core.Path.{◌≡◌, refl, sym, ap, ap₂, ◌∙◌}
use mathlib.Core.Logic.{◌≢◌, ◌⊎◌, inl, inr, ⊎_elim}
use mathlib.Core.Bool.{true, false, true≢false}
use mathlib.Core.List.Memᴰ
use mathlib.Core.List.{List, [], ◌∷◌, ◌++◌, Memᴰ}
use Prim.Native.Nat.{ℕ, zero, suc}
use lib.ListN.{get_or}
use Rattle.meaning.specs.Tree.{Action, Process, node, Processes, empty, also, row_of, rows_in, rows_beneath}
use Rattle.meaning.specs.State.{state_of}
use Rattle.meaning.specs.Settle.{states_of, Mode, in_turn, together, by_step, mode, complete, ends_when_closed, all_of, is_idle_or_ended, is_ended}
use Rattle.meaning.proofs.Decides.{both_true}
use Rattle.agreement.proofs.Frame.{row_in}
use Rattle.agreement.proofs.Again.{Idle}

-- every row of R is idle or ended
abbrev pub Quiet : List ℕ → List ℕ → Type 0
Quiet R s = (x : ℕ) → Memᴰ x R → is_idle_or_ended (get_or s x 0) ≡ true

pub not-running : (n : ℕ) → is_idle_or_ended n ≡ true → n ≢ 1
not-running n q e = true≢false (sym q ∙ ap is_idle_or_ended e)

-- how a process came to be over: its members closed it and it ended; or by its own step, with all beneath it idle
abbrev pub Over : List ℕ → Action → Processes → ℕ → Type 0
Over s k ms i = ((i ≡ 0) × (complete (mode k) (states_of ms s) ≡ true) × (ends_when_closed k ≡ true)) ⊎ ((mode k ≡ by_step) × Idle (rows_beneath ms) s)

mutual
  pub data Good (s : List ℕ) : Process → Type 0 where
    idle : {p : Process} → Idle (rows_in p) s → Good s p
    over : {k : Action} {r : ℕ} {ms : Processes} (i : ℕ) → get_or s r 0 ≡ suc (suc i) → Quiet (rows_beneath ms) s → GoodM s (mode k) ms → Over s k ms i → Good s (node k r ms)
    run : {k : Action} {r : ℕ} {ms : Processes} → get_or s r 0 ≡ 1 → GoodM s (mode k) ms → Good s (node k r ms)

  pub data GoodM (s : List ℕ) : Mode → Processes → Type 0 where
    done0 : {m : Mode} → GoodM s m empty
    each : {p : Process} {ms : Processes} → Good s p → GoodM s together ms → GoodM s together (also p ms)
    past : {p : Process} {ms : Processes} → state_of s p ≡ 2 → Good s p → GoodM s in_turn ms → GoodM s in_turn (also p ms)
    now : {p : Process} {ms : Processes} → Good s p → Idle (rows_beneath ms) s → GoodM s in_turn (also p ms)
    pass : {p : Process} {ms : Processes} → Idle (rows_in p) s → GoodM s by_step ms → GoodM s by_step (also p ms)
    pick : {p : Process} {ms : Processes} → Good s p → Idle (rows_beneath ms) s → GoodM s by_step (also p ms)

abbrev pub Agree : List ℕ → List ℕ → List ℕ → Type 0
Agree R s t = (y : ℕ) → Memᴰ y R → get_or t y 0 ≡ get_or s y 0

pub states-agree : (s t : List ℕ) (ms : Processes) → Agree (rows_beneath ms) s t → states_of ms t ≡ states_of ms s
states-agree s t empty g = refl
states-agree s t (also p ms) g =
    ap₂ (λ (n : ℕ) (l : List ℕ). n ∷ l) (g (row_of p) (Memᴰ.append_left (rows_beneath ms) (row_in p))) (states-agree s t ms (λ y q. g y (Memᴰ.append_right (rows_in p) q)))

pub over_agree : (s t : List ℕ) (k : Action) (ms : Processes) (i : ℕ) → Agree (rows_beneath ms) s t → Over s k ms i → Over t k ms i
over_agree s t k ms i g (inl (a, b, c)) = inl (a, ap (complete (mode k)) (states-agree s t ms g) ∙ b, c)
over_agree s t k ms i g (inr (m, j)) = inr (m, λ y q. g y q ∙ j y q)

module _ {s t : List ℕ} where
  mutual
    pub good-agree : {p : Process} → Good s p → Agree (rows_in p) s t → Good t p
    good-agree (idle i) g = idle (λ y q. g y q ∙ i y q)
    good-agree (over {k} {r} {ms} i e q h o) g =
        let b : Agree (rows_beneath ms) s t = λ y z. g y (Memᴰ.tail z) in
        over i (g r (Memᴰ.head refl) ∙ e) (λ y z. ap is_idle_or_ended (b y z) ∙ q y z) (good_m-agree h b) (over_agree s t k ms i b o)
    good-agree (run {r} e h) g = run (g r (Memᴰ.head refl) ∙ e) (good_m-agree h (λ y q. g y (Memᴰ.tail q)))

    pub good_m-agree : {m : Mode} {ms : Processes} → GoodM s m ms → Agree (rows_beneath ms) s t → GoodM t m ms
    good_m-agree done0 g = done0
    good_m-agree (each {p} {ms} h hs) g = each (good-agree h (λ y q. g y (Memᴰ.append_left (rows_beneath ms) q))) (good_m-agree hs (λ y q. g y (Memᴰ.append_right (rows_in p) q)))
    good_m-agree (past {p} {ms} e h hs) g =
        past (g (row_of p) (Memᴰ.append_left (rows_beneath ms) (row_in p)) ∙ e) (good-agree h (λ y q. g y (Memᴰ.append_left (rows_beneath ms) q))) (good_m-agree hs (λ y q. g y (Memᴰ.append_right (rows_in p) q)))
    good_m-agree (now {p} {ms} h i) g = now (good-agree h (λ y q. g y (Memᴰ.append_left (rows_beneath ms) q))) (λ y q. g y (Memᴰ.append_right (rows_in p) q) ∙ i y q)
    good_m-agree (pass {p} {ms} i hs) g = pass (λ y q. g y (Memᴰ.append_left (rows_beneath ms) q) ∙ i y q) (good_m-agree hs (λ y q. g y (Memᴰ.append_right (rows_in p) q)))
    good_m-agree (pick {p} {ms} h i) g = pick (good-agree h (λ y q. g y (Memᴰ.append_left (rows_beneath ms) q))) (λ y q. g y (Memᴰ.append_right (rows_in p) q) ∙ i y q)

pub good_m-idle : (ms : Processes) (m : Mode) (s : List ℕ) → Idle (rows_beneath ms) s → GoodM s m ms
good_m-idle empty m s i = done0
good_m-idle (also p ms) in_turn s i = now (idle (λ y q. i y (Memᴰ.append_left (rows_beneath ms) q))) (λ y q. i y (Memᴰ.append_right (rows_in p) q))
good_m-idle (also p ms) together s i = each (idle (λ y q. i y (Memᴰ.append_left (rows_beneath ms) q))) (good_m-idle ms together s (λ y q. i y (Memᴰ.append_right (rows_in p) q)))
good_m-idle (also p ms) by_step s i = pick (idle (λ y q. i y (Memᴰ.append_left (rows_beneath ms) q))) (λ y q. i y (Memᴰ.append_right (rows_in p) q))

-- ---- a process whose members are over has nothing running

pub idle-quiet : (R s : List ℕ) → Idle R s → Quiet R s
idle-quiet R s i x h = rw (i x h)

over-quiet : {s : List ℕ} {p : Process} → Good s p → is_idle_or_ended (state_of s p) ≡ true → Quiet (rows_in p) s
over-quiet (idle i) e x h = rw (i x h)
over-quiet (over i e q h o) f x (Memᴰ.head eq) = rw eq f
over-quiet (over i e q g o) f x (Memᴰ.tail h) = q x h
over-quiet (run e h) f x m = absurd (true≢false (sym (rw e at f)))

quiet-append : (s R Q : List ℕ) → Quiet R s → Quiet Q s → Quiet (R ++ Q) s
quiet-append s R Q q q' x h = ⊎_elim (q x) (q' x) (Memᴰ.append_cases R h)

pub good_m-quiet : {s : List ℕ} {m : Mode} {ms : Processes} → GoodM s m ms → all_of is_idle_or_ended (states_of ms s) ≡ true → Quiet (rows_beneath ms) s
good_m-quiet done0 e = λ x h. absurd (Memᴰ.not-nil h)
good_m-quiet {s} (each {p} {ms} h hs) e = let (a, b) = both_true (is_idle_or_ended (state_of s p)) _ e in quiet-append s (rows_in p) (rows_beneath ms) (over-quiet h a) (good_m-quiet hs b)
good_m-quiet {s} (past {p} {ms} e' h hs) e = let (a, b) = both_true (is_idle_or_ended (state_of s p)) _ e in quiet-append s (rows_in p) (rows_beneath ms) (over-quiet h a) (good_m-quiet hs b)
good_m-quiet {s} (now {p} {ms} h i) e = let (a, b) = both_true (is_idle_or_ended (state_of s p)) _ e in quiet-append s (rows_in p) (rows_beneath ms) (over-quiet h a) (idle-quiet (rows_beneath ms) s i)
good_m-quiet {s} (pass {p} {ms} i hs) e = let (a, b) = both_true (is_idle_or_ended (state_of s p)) _ e in quiet-append s (rows_in p) (rows_beneath ms) (idle-quiet (rows_in p) s i) (good_m-quiet hs b)
good_m-quiet {s} (pick {p} {ms} h i) e = let (a, b) = both_true (is_idle_or_ended (state_of s p)) _ e in quiet-append s (rows_in p) (rows_beneath ms) (over-quiet h a) (idle-quiet (rows_beneath ms) s i)

over-of-ended : (i : ℕ) → is_ended i ≡ true → is_idle_or_ended i ≡ true
over-of-ended zero e = refl
over-of-ended (suc zero) e = e
over-of-ended (suc (suc zero)) e = refl
over-of-ended (suc (suc (suc i))) e = e

all-over : (l : List ℕ) → all_of is_ended l ≡ true → all_of is_idle_or_ended l ≡ true
all-over [] e = refl
all-over (i ∷ l) e = let (a, b) = both_true (is_ended i) (all_of is_ended l) e in rw (over-of-ended i a) (all-over l b)

pub done-over : (m : Mode) (l : List ℕ) → complete m l ≡ true → all_of is_idle_or_ended l ≡ true
done-over in_turn l e = all-over l e
done-over together l e = all-over l e
done-over by_step l e = (both_true (all_of is_idle_or_ended l) _ e).0

-- the first member, and the others
pub good_m-head : {s : List ℕ} {m : Mode} {p : Process} {ms : Processes} → GoodM s m (also p ms) → Good s p
good_m-head (each g gs) = g
good_m-head (past e g gs) = g
good_m-head (now g i) = g
good_m-head (pass i gs) = idle i
good_m-head (pick g i) = g

pub good_m-tail : {s : List ℕ} {m : Mode} {p : Process} {ms : Processes} → GoodM s m (also p ms) → GoodM s m ms
good_m-tail (each g gs) = gs
good_m-tail (past e g gs) = gs
good_m-tail {s} (now {ms} g i) = good_m-idle ms in_turn s i
good_m-tail (pass i gs) = gs
good_m-tail {s} (pick {ms} g i) = good_m-idle ms by_step s i
