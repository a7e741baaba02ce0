-- A step may store at several frontier rows: a communication ends its input and its output.
use mathlib.Core.Path.{◌≡◌, refl, sym, ap, ◌∙◌}
use mathlib.Core.Logic.{◌≢◌}
use mathlib.Core.Bool.{Bool, false}
use mathlib.Core.List.{List, [], ◌∷◌}
use Prim.Native.Nat.{ℕ}
use lib.ListN.{length, set, length-set}
use lib.Seq.{set_comm}
use Rattle.meaning.specs.Tree.{Process}
use Rattle.meaning.specs.Settle.{settle}
use Rattle.agreement.proofs.Frame.{see-local, length-local}
use Rattle.agreement.proofs.Again.{Sound, sound-row, see-run, same_b, see-again, again}
use Rattle.agreement.proofs.Commute.{At, at-run, persist, absorb, other}
use Rattle.agreement.proofs.Reach.{Good, good-set, good-see, good-body}

-- a store v at x, for the frontier row b
pub record Part : Type 0 where
  pub b : ℕ
  pub x : ℕ
  pub v : ℕ

abbrev pub put : Part → List ℕ → List ℕ
put q s = set s q.x q.v

abbrev pub puts : List Part → List ℕ → List ℕ
puts [] s = s
puts (q ∷ l) s = puts l (put q s)

abbrev pub Differ : Part → List Part → Type 0
Differ q [] = Unit {0}
Differ q (z ∷ l) = (q.b ≢ z.b) × Differ q l

abbrev pub Pairwise : List Part → Type 0
Pairwise [] = Unit {0}
Pairwise (q ∷ l) = Differ q l × Pairwise l

abbrev pub Cross : List Part → List Part → Type 0
Cross [] m = Unit {0}
Cross (q ∷ l) m = Differ q m × Cross l m

module _ (p : Process) where
  abbrev pub Now : Part → List ℕ → Type 0
  Now q s = At q.b q.x q.v s p

  abbrev pub Each : List Part → List ℕ → Type 0
  Each [] s = Unit {0}
  Each (q ∷ l) s = Now q s × Each l s

  module _ (n : ℕ) (d : Sound p n) where
    pub each-put : (q : Part) (l : List Part) (s : List ℕ) → Now q s → Each l s → Differ q l → Each l (put q s)
    each-put q [] s h hs ne = tt
    each-put q (z ∷ l) s h hs ne = ((other q.b q.x q.v z.b z.x z.v n s ne.0 p d h hs.0).0, each-put q l s h hs.1 ne.1)

    pub each-see : (c : Bool) (l : List Part) (s : List ℕ) → Each l s → Each l (settle p c s)
    each-see c [] s hs = tt
    each-see c (q ∷ l) s hs = (rw (see-run p c s (at-run hs.0)) (persist q.b q.x q.v n p d s hs.0), each-see c l s hs.1)

    pub length-puts : (l : List Part) (s : List ℕ) → length (puts l s) ≡ length s
    length-puts [] s = refl
    length-puts (q ∷ l) s = length-puts l (put q s) ∙ length-set s q.x q.v

    pub absorbs : (c : Bool) (l : List Part) (s : List ℕ) → length s ≡ n → Each l s → Pairwise l → settle p c (puts l (settle p c s)) ≡ settle p c (puts l s)
    absorbs c [] s e hs pw = see-again p n (again p n d) (sound-row p n d) (same_b {b = c}) s e
    absorbs c (q ∷ l) s e hs pw =
        let u = put q (settle p c s) in
        let u' = put q s in
        let eu' : length u' ≡ n = length-set s q.x q.v ∙ e in
        let eu : length u ≡ n = length-set (settle p c s) q.x q.v ∙ length-local (see-local p c) s ∙ e in
        let ss = each-see c (q ∷ l) s hs in
        sym (absorbs c l u eu (each-put q l (settle p c s) ss.0 ss.1 pw.0) pw.1)
        ∙ ap (λ (z : List ℕ). settle p c (puts l z)) (absorb q.b q.x q.v n p d s e hs.0 c)
        ∙ absorbs c l u' eu' (each-put q l s hs.0 hs.1 pw.0) pw.1

    pub each_puts : (m l : List Part) (s : List ℕ) → Each m s → Pairwise m → Each l s → Cross m l → Each l (puts m s)
    each_puts [] l s hm pw hl cr = hl
    each_puts (q ∷ m) l s hm pw hl cr = each_puts m l (put q s) (each-put q m s hm.0 hm.1 pw.0) pw.1 (each-put q l s hm.0 hl cr.0) cr.1

    put-puts : (q : Part) (l : List Part) (s : List ℕ) → Now q s → Each l s → Differ q l → Pairwise l → puts l (put q s) ≡ put q (puts l s)
    put-puts q [] s h hs ne pw = refl
    put-puts q (z ∷ l) s h hs ne pw =
        ap (puts l) (set_comm s q.x z.x q.v z.v (other q.b q.x q.v z.b z.x z.v n s ne.0 p d h hs.0).1)
        ∙ put-puts q l (put z s) (other z.b z.x z.v q.b q.x q.v n s (λ e. ne.0 (sym e)) p d hs.0 h).0
        (each-put z l s hs.0 hs.1 pw.0) ne.1 pw.1

    pub puts-comm : (m l : List Part) (s : List ℕ) → Each m s → Pairwise m → Each l s → Pairwise l → Cross m l → puts l (puts m s) ≡ puts m (puts l s)
    puts-comm [] l s hm pm hl pl cr = refl
    puts-comm (q ∷ m) l s hm pm hl pl cr =
        puts-comm m l (put q s) (each-put q m s hm.0 hm.1 pm.0) pm.1 (each-put q l s hm.0 hl cr.0) pl cr.1
        ∙ ap (puts m) (put-puts q l s hm.0 hl cr.0 pl)

    pub good-puts : (l : List Part) (s : List ℕ) → length s ≡ n → Good s p → Each l s → Pairwise l → Good (puts l s) p
    good-puts [] s e g hs pw = g
    good-puts (q ∷ l) s e g hs pw =
        good-puts l (put q s) (length-set s q.x q.v ∙ e) (good-set q.b q.x q.v n s e p d g hs.0) (each-put q l s hs.0 hs.1 pw.0) pw.1

    -- a step: its stores, then settling
    unfoldable pub leap : List Part → List ℕ → List ℕ
    leap l s = settle p false (puts l s)

    pub leap-good : (l : List Part) (s : List ℕ) → length s ≡ n → Good s p → Each l s → Pairwise l → Good (leap l s) p
    unfolding leap
    leap-good l s e g hs pw = good-see n p (good-body n p d) d false (puts l s) (length-puts l s ∙ e) (good-puts l s e g hs pw)

    pub leap-length : (l : List Part) (s : List ℕ) → length (leap l s) ≡ length s
    unfolding leap
    leap-length l s = length-local (see-local p false) (puts l s) ∙ length-puts l s

    module _ (m l : List Part) (s : List ℕ) (e : length s ≡ n) (hm : Each m s) (pm : Pairwise m) (hl : Each l s) (pl : Pairwise l) (ml : Cross m l) where
      pub leap-stays : Each l (leap m s)
      unfolding leap
      leap-stays = each-see false l (puts m s) (each_puts m l s hm pm hl ml)

      pub leap-comm : Cross l m → leap l (leap m s) ≡ leap m (leap l s)
      unfolding leap
      leap-comm lm =
          absorbs false l (puts m s) (length-puts m s ∙ e) (each_puts m l s hm pm hl ml) pl
          ∙ ap (settle p false) (puts-comm m l s hm pm hl pl ml)
          ∙ sym (absorbs false m (puts l s) (length-puts l s ∙ e) (each_puts l m s hl pl hm lm) pm)
