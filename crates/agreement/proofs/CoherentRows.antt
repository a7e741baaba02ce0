-- A good state is coherent.
use mathlib.Core.Path.{◌≡◌, refl, sym, ap, ◌∙◌}
use mathlib.Core.Logic.{◌⊎◌, inl, inr}
use mathlib.Core.Bool.{Bool, true, false, true≢false}
use mathlib.Core.List.{List, Memᴰ}
use Prim.Native.Nat.{ℕ, zero, suc, ◌+◌}
use native.Mathlib.Omega.{arith}
use lib.ListN.{get_or}
use Rattle.meaning.specs.Tree.{Expr, Action, loop, Process, node, Processes, empty, also, row_of, rows_in, rows_beneath}
use Rattle.meaning.specs.Settle.{Mode, in_turn, together, by_step, mode, states_of, is_ended, is_idle_or_ended, all_of, complete}
use Rattle.meaning.specs.SettlingRules.{Among, All}
use Rattle.agreement.specs.Coherence.{RowState, Before, AllIdle, NoneAtWork, OneByOne, AtMostOne, CoherentRows}
use Rattle.agreement.proofs.Frame.{row_in}
use Rattle.agreement.proofs.Good.{Good, GoodM, idle, over, run, past, now, pass, pick, good_m-head, good_m-tail, good_m-idle}
use Rattle.agreement.proofs.Reach.{Sub, SubM, self, inside, front, back}
use Rattle.agreement.proofs.Settled.{all-ended}
use Rattle.agreement.proofs.Inside.{within_of, among-row, sub-rows}

-- ---- what stands in a good process is good

module _ {s : List ℕ} {k : Action} {r : ℕ} {ms : Processes} where
  mutual
    pub good-inside : (p : Process) → Sub k r ms p → Good s p → Good s (node k r ms)
    good-inside (node k' r' ps) self g = g
    good-inside (node k' r' ps) (inside u) (idle i) = idle (λ x m. i x (sub-rows m (node k' r' ps) (inside u)))
    good-inside (node k' r' ps) (inside u) (over i e q h o) = good_m-inside ps u (mode k') h
    good-inside (node k' r' ps) (inside u) (run e h) = good_m-inside ps u (mode k') h

    good_m-inside : (ps : Processes) → SubM k r ms ps → (m : Mode) → GoodM s m ps → Good s (node k r ms)
    good_m-inside empty x4 m h = elim x4 [ ]
    good_m-inside (also p ps) (front u) m h = good-inside p u (good_m-head h)
    good_m-inside (also p ps) (back u) m h = good_m-inside ps u m (good_m-tail h)

-- ---- what a good process has among its members

members-good : {s : List ℕ} {k : Action} {r : ℕ} {ms : Processes} → Good s (node k r ms) → GoodM s (mode k) ms
members-good {s} {k} {r} {ms} (idle i) = good_m-idle ms (mode k) s (λ x m. i x (Memᴰ.tail m))
members-good (over i e q h o) = h
members-good (run e h) = h

before-in : {p q : Process} {ms : Processes} → Before p q ms → Among q ms
before-in (Before.before-first a) = Among.among_later a
before-in (Before.before-later b) = Among.among_later (before-in b)

one_by_one : {s : List ℕ} (ms : Processes) → GoodM s in_turn ms → OneByOne s ms
one_by_one empty h p q b ne = elim b [ ]
one_by_one (also o ms) (past e g h) p q (Before.before-first a) ne = e
one_by_one (also o ms) (past e g h) p q (Before.before-later b) ne = one_by_one ms h p q b ne
one_by_one (also o ms) (now g i) p q (Before.before-first a) ne = absurd (ne (i (row_of q) (among-row a)))
one_by_one (also o ms) (now g i) p q (Before.before-later b) ne = absurd (ne (i (row_of q) (among-row (before-in b))))

at_most_one : {s : List ℕ} (ms : Processes) → GoodM s by_step ms → AtMostOne s ms
at_most_one empty h p q a b f g = elim a [ ]
at_most_one (also o ms) (pass i h) p q Among.among_first b f g = absurd (f (i (row_of o) (row_in o)))
at_most_one (also o ms) (pass i h) p q (Among.among_later a) Among.among_first f g = absurd (g (i (row_of o) (row_in o)))
at_most_one (also o ms) (pass i h) p q (Among.among_later a) (Among.among_later b) f g = at_most_one ms h p q a b f g
at_most_one (also o ms) (pick e i) p q Among.among_first Among.among_first f g = refl
at_most_one (also o ms) (pick e i) p q Among.among_first (Among.among_later b) f g = absurd (g (i (row_of q) (among-row b)))
at_most_one (also o ms) (pick e i) p q (Among.among_later a) b f g = absurd (f (i (row_of p) (among-row a)))

-- ---- what a good process has beneath it

none-at-work : (n : ℕ) → is_idle_or_ended n ≡ true → (n ≡ 0) ⊎ (n ≡ 2)
none-at-work zero e = inl refl
none-at-work (suc zero) e = absurd (true≢false (sym e))
none-at-work (suc (suc zero)) e = inr refl
none-at-work (suc (suc (suc n))) e = absurd (true≢false (sym e))

abbrev is_by_step : Mode → Bool
is_by_step in_turn = false
is_by_step together = false
is_by_step by_step = true

not-by-step : (m : Mode) → is_by_step m ≡ false → m ≡ by_step → ⊥
not-by-step m f e = true≢false (sym (ap is_by_step e) ∙ f)

module _ {s : List ℕ} {k : Action} {r : ℕ} {ms : Processes} where
  pub idle-beneath : Good s (node k r ms) → get_or s r 0 ≡ 0 → AllIdle s (rows_beneath ms)
  idle-beneath (idle i) e = λ x m. i x (Memᴰ.tail m)
  idle-beneath (over i z q h o) e = absurd (omega arith)
  idle-beneath (run z h) e = absurd (omega arith)

  ended-beneath : Good s (node k r ms) → get_or s r 0 ≡ 2 → NoneAtWork s (rows_beneath ms)
  ended-beneath (idle i) e = absurd (omega (arith, i r (Memᴰ.head refl)))
  ended-beneath (over i z q h o) e = λ x m. none-at-work (get_or s x 0) (q x m)
  ended-beneath (run z h) e = absurd (omega arith)

  stopped-beneath : Good s (node k r ms) → (reason : ℕ) → get_or s r 0 ≡ 10 + reason → AllIdle s (rows_beneath ms)
  stopped-beneath (idle i) n e = absurd (omega (arith, i r (Memᴰ.head refl)))
  stopped-beneath (over i z q h (inl (a, b, c))) n e = absurd (omega arith)
  stopped-beneath (over i z q h (inr (m, j))) n e = j
  stopped-beneath (run z h) n e = absurd (omega arith)

ended-members : (m : Mode) (l : List ℕ) → is_by_step m ≡ false → complete m l ≡ true → all_of is_ended l ≡ true
ended-members in_turn l f c = c
ended-members together l f c = c
ended-members by_step l f c = absurd (true≢false f)

module _ {s : List ℕ} {r : ℕ} {ms : Processes} where
  -- a SEQ, a PAR or a block
  ended-with-all : {k : Action} → is_by_step (mode k) ≡ false → Good s (node k r ms) → get_or s r 0 ≡ 2 → All 2 s ms
  ended-with-all f (idle i) e = absurd (omega (arith, i r (Memᴰ.head refl)))
  ended-with-all {k} f (over i z q h (inl (a, c, x))) e = all-ended ms s (ended-members (mode k) (states_of ms s) f c)
  ended-with-all {k} f (over i z q h (inr (m, j))) e = absurd (not-by-step (mode k) f m)
  ended-with-all f (run z h) e = absurd (omega arith)

  loop_ended : {c : Expr} {b : ℕ} → Good s (node (loop c b) r ms) → get_or s r 0 ≡ 2 → AllIdle s (rows_beneath ms)
  loop_ended (idle i) e = absurd (omega (arith, i r (Memᴰ.head refl)))
  loop_ended (over i z q h (inl (a, c, x))) e = absurd (true≢false (sym x))
  loop_ended (over i z q h (inr (m, j))) e = j
  loop_ended (run z h) e = absurd (omega arith)

pub coherent-rows : (whole : Process) (s : List ℕ) → Good s whole → ((x : ℕ) → RowState (get_or s x 0)) → ((x : ℕ) → ¬ Memᴰ x (rows_in whole) → get_or s x 0 ≡ 0) → CoherentRows s whole
coherent-rows whole s g known outside =
    record {
      known-states = known;
      beneath-idle = λ a r ms i. idle-beneath (good-inside whole (within_of i) g);
      beneath-ended = λ a r ms i. ended-beneath (good-inside whole (within_of i) g);
      beneath-stopped = λ a r ms i. stopped-beneath (good-inside whole (within_of i) g);
      in-sequence = λ r ms i. one_by_one ms (members-good (good-inside whole (within_of i) g));
      ended-sequence = λ r ms i. ended-with-all refl (good-inside whole (within_of i) g);
      ended-block = λ v r ms i. ended-with-all refl (good-inside whole (within_of i) g);
      ended-parallel = λ r ms i. ended-with-all refl (good-inside whole (within_of i) g);
      in-conditional = λ ts r ms i. at_most_one ms (members-good (good-inside whole (within_of i) g));
      in-alternation = λ bs r ms i. at_most_one ms (members-good (good-inside whole (within_of i) g));
      in-loop = λ e b r ms i. at_most_one ms (members-good (good-inside whole (within_of i) g));
      ended-loop = λ e b r ms i. loop_ended (good-inside whole (within_of i) g);
      no-process = outside;
    }
