-- Settling upward from a changed row is settling from the root: of one change, and of two by two rows, on row states that may be followed by zeros.
use mathlib.Core.Path.{◌≡◌, refl, sym, ap, subst, ◌∙◌}
use mathlib.Core.Logic.{◌≢◌}
use mathlib.Core.Bool.{Bool, false}
use mathlib.Core.Option.{none}
use mathlib.Core.List.{List}
use Prim.Native.Nat.{ℕ, ◌<◌, ◌≤◌}
use native.Mathlib.Omega.{arith}
use native.Mathlib.Decide.{ℕ_discrete}
use lib.IntN.{ℤ}
use lib.ListN.{length, get_or, set, length-set}
use lib.Seq.{get_or-set_other, get_or-set_same, ext_get_or}
use Rattle.meaning.specs.Rows.{row_count}
use Rattle.meaning.specs.Tree.{Process, node, Processes, empty, also}
use Rattle.meaning.specs.Settle.{settle, begun}
use Rattle.meaning.specs.State.{State, Program, program, whole}
use Rattle.meaning.specs.Labels.{Label}
use Rattle.meaning.specs.Readings.{Sheet}
use Rattle.meaning.specs.Order.{OrderOf}
use Rattle.meaning.specs.Answers.{check}
use Rattle.agreement.proofs.Frame.{see-local, length-local}
use Rattle.agreement.proofs.Begun.{begun-reads}
use Rattle.agreement.proofs.Again.{Sound, SoundM, sound-row, see-run, same_b, see-again, again}
use Rattle.agreement.proofs.Commute.{At, at-run, persist, absorb, other}
use Rattle.agreement.proofs.Reach.{Good, good-agree, good-set, good-see, good-body}
use Rattle.agreement.proofs.Separate.{table-inv}
use Rattle.agreement.proofs.TableFit.{fit}
use Rattle.agreement.proofs.OrdersSettle.{settled-again}
use Rattle.machine.specs.Upward.{change_up}
use Rattle.machine.proofs.HeldSteps.{row_below}
use Rattle.machine.proofs.Climbs.{change-upward}

-- ---- more row states than the table has rows

mutual
  pub sound_more : (p : Process) (n m : ℕ) → n ≤ m → Sound p n → Sound p m
  sound_more (node k r ms) n m h d = (omega (arith, d.0), d.1, sound_m-more ms n m h d.2)

  sound_m-more : (ms : Processes) (n m : ℕ) → n ≤ m → SoundM ms n → SoundM ms m
  sound_m-more empty n m h d = tt
  sound_m-more (also p ms) n m h d = (sound_more p n m h d.0, sound_m-more ms n m h d.1, d.2)

-- two lists of row states show the same, and both have the rows below n
abbrev pub Same : ℕ → List ℕ → List ℕ → Type 0
Same n s t = ((y : ℕ) → get_or t y 0 ≡ get_or s y 0) × (n ≤ length s) × (n ≤ length t)

pub same_set : (n x v : ℕ) (s t : List ℕ) → x < n → Same n s t → Same n (set s x v) (set t x v)
same_set n x v s t h e = (λ y. go y (ℕ_discrete y x), rw (length-set s x v) e.1, rw (length-set t x v) e.2)
  where
    go : (y : ℕ) → Dec (y ≡ x) → get_or (set t x v) y 0 ≡ get_or (set s x v) y 0
    go y (yes q) = rw q (get_or-set_same t x v 0 (omega (arith, e.2)) ∙ sym (get_or-set_same s x v 0 (omega (arith, e.1))))
    go y (no q) = get_or-set_other t x y v 0 q ∙ e.0 y ∙ sym (get_or-set_other s x y v 0 q)

-- settling shows the same of both
pub settle-same : (p : Process) (n : ℕ) → Sound p n → (b : Bool) (s t : List ℕ) → Same n s t → Same n (settle p b s) (settle p b t)
settle-same p n d b s t h =
    (see-local p b).keeps (Same n) (record { look = λ y m e. sym (e.0 y); put = λ {s = u} {t = w} y v m e. same_set n y v u w (row_below p n y d m) e }) s t h

-- so where the one is settled, the other is
-- alike states start the same blocks
pub begun-same : (p : Process) (n : ℕ) → Sound p n → (b : Bool) (s t : List ℕ) → Same n s t → begun p b s ≡ begun p b t
begun-same p n d b =
    (begun-reads p b).same (Same n) (record { look = λ {s} {t} x m h. sym (h.0 x); put = λ {s} {t} x w m h. same_set n x w s t (row_below p n x d m) h })

pub settled-more : (p : Process) (n : ℕ) → Sound p n → (s t : List ℕ) → n ≤ length s → n ≤ length t → ((y : ℕ) → get_or t y 0 ≡ get_or s y 0) → settle p false s ≡ s → settle p false t ≡ t
settled-more p n d s t h k e f =
    let w = settle-same p n d false s t (e, h, k) in
    ext_get_or 0 (settle p false t) t (length-local (see-local p false) t) (λ i m. w.0 i ∙ ap (λ (u : List ℕ). get_or u i 0) f ∙ sym (e i))

-- ---- changes of an accepted table

module _ (rows : List ℤ) (ok : check rows ≡ none) where
  abbrev P : Program
  P = program rows

  -- what is needed to make a change, and to make another one after it: settled states, good for the whole process
  pub record Steady (n : ℕ) (s : List ℕ) : Type 0 where
    pub size : length s ≡ n
    pub sound : Sound (whole P) n
    pub good : Good s (whole P)
    pub settled : settle (whole P) false s ≡ s

  module _ (n : ℕ) (s : List ℕ) (S : Steady n s) (b x v : ℕ) (h : At b x v s (whole P)) where
    -- one change
    pub one-change : settle (whole P) false (set s x v) ≡ change_up P x v s
    one-change = change-upward rows ok b x v n s S.size S.sound S.good S.settled h

    -- and what it leaves
    pub still-steady : Steady n (change_up P x v s)
    still-steady =
        let p = whole P in
        let d = S.sound in
        let u = set s x v in
        let l : length u ≡ n = length-set s x v ∙ S.size in
        subst (Steady n) one-change (record {
          size = length-local (see-local p false) u ∙ l;
          sound = d;
          good = good-see n p (good-body n p d) d false u l (good-set b x v n s S.size p d S.good h);
          settled = see-again p n (again p n d) (sound-row p n d) (same_b {b = false}) u l;
        })

    -- two changes, by two rows
    module _ (c y w : ℕ) (ne : b ≢ c) (g : At c y w s (whole P)) where
      pub beside : At c y w (set s x v) (whole P)
      beside = (other b x v c y w n s ne (whole P) S.sound h g).0

      -- the second may still be made
      pub still-at : At c y w (change_up P x v s) (whole P)
      still-at =
          let u = set s x v in
          subst (λ (t : List ℕ). At c y w t (whole P)) (sym (see-run (whole P) false u (at-run beside)) ∙ one-change) (persist c y w n (whole P) S.sound u beside)

      pub two-changes : settle (whole P) false (set (set s x v) y w) ≡ change_up P y w (change_up P x v s)
      two-changes =
          let u = set s x v in
          sym (absorb c y w n (whole P) S.sound u (length-set s x v ∙ S.size) beside false)
          ∙ ap (λ (t : List ℕ). settle (whole P) false (set t y w)) one-change
          ∙ change-upward rows ok c y w n (change_up P x v s) still-steady.size S.sound still-steady.good still-steady.settled still-at

  module _ (sheet : Sheet) (l : List Label) (s : State) (o : OrderOf rows sheet l s) where
    -- the state of an order, in a list that may be longer than the table
    module _ (t : List ℕ) (long : row_count rows ≤ length t) (same : (r : ℕ) → get_or t r 0 ≡ get_or s.states r 0) where
      pub steady : Steady (length t) t
      steady =
          let F = fit rows ok in
          let I = table-inv rows sheet F l s o in
          record {
            size = refl;
            sound = sound_more (whole P) (row_count rows) (length t) long F.sound;
            good = good-agree I.good (λ y m. same y);
            settled = settled-more (whole P) (row_count rows) F.sound s.states t (omega (arith, I.size)) long same (settled-again rows ok sheet l s o).0;
          }
