-- The verdict: a table is accepted exactly if everything in it is right, and refused as the first stage with a fault says.
use mathlib.Core.Path.{◌≡◌, refl, sym, subst, ◌∙◌}
use mathlib.Core.Option.{none}
use mathlib.Core.List.{List, ◌∷◌}
use Prim.Native.Nat.{ℕ}
use native.Mathlib.Omega.{arith}
use lib.IntN.{ℤ}
use Rattle.meaning.specs.TableBytes.{numbers_fault}
use Rattle.meaning.specs.Refusals.{Refusal, Stage}
use Rattle.meaning.specs.Stages.{row_stages}
use Rattle.meaning.specs.PrintedForms.{Each, each_none, each_more}
use Rattle.meaning.specs.Faults.{WellPlaced, Placed}
use Rattle.meaning.specs.StageClaims.{OneTree}
use Rattle.meaning.proofs.OneTreeLaw.{one-tree}
use Rattle.meaning.proofs.AnswerLaws.{check-stages, First, here, later, first_found, found_first, none_found, found_none}
use Rattle.agreement.specs.VerdictClaims.{Passed, WholeRows, EachFormed, EachPlaced, EachLimited, EachBlocked, NoClash, RefusedWith, not-whole, not-formed, not-placed, over-limit, not-blocked, clash, VerdictExact, RefusalLeast, OneTreeOfRows}
use Rattle.agreement.proofs.VerdictStages.{not_whole, whole-passes, whole-faults, form-passes, form-faults, tree-passes, tree-faults, limit-passes, limit-faults, block-passes, block-faults}
use Rattle.agreement.proofs.UsageExact.{usage-passes, usage-faults}

module _ (rows : List ℤ) where
  -- rows right in the stages 3 to 6 pass them
  passed : WholeRows rows → EachFormed rows → EachPlaced rows → EachLimited rows → Passed rows
  passed w f t l = ((whole-passes rows).1 w, (form-passes rows).1 f, (tree-passes rows).1 t, (limit-passes rows).1 l)

  abbrev RightTable : Type 0
  RightTable = WholeRows rows × EachFormed rows × EachPlaced rows × EachLimited rows × EachBlocked rows × NoClash rows

  to-right : Each (λ (s : Stage (List ℤ)). s rows ≡ none) (numbers_fault ∷ row_stages) → RightTable
  to-right (each_more a (each_more b (each_more c (each_more d (each_more e (each_more f each_none)))))) =
      ((whole-passes rows).0 a, (form-passes rows).0 b, (tree-passes rows).0 c, (limit-passes rows).0 d, (block-passes rows).0 e, (usage-passes rows (a, b, c, d)).0 f)

  from-right : RightTable → Each (λ (s : Stage (List ℤ)). s rows ≡ none) (numbers_fault ∷ row_stages)
  from-right h =
      let p = passed h.0 h.1 h.2 h.3 in
      each_more p.0 (each_more p.1 (each_more p.2 (each_more p.3 (each_more ((block-passes rows).1 h.4) (each_more ((usage-passes rows p).1 h.5) each_none)))))

  -- a refusal whose number is known
  numbered : (k : ℕ) (f : Refusal) → f.0 ≡ k → RefusedWith rows k f.1 → RefusedWith rows f.0 f.1
  numbered k f e h = subst (λ (j : ℕ). RefusedWith rows j f.1) (sym e) h

  to-refused : (f : Refusal) → First rows f (numbers_fault ∷ row_stages) → RefusedWith rows f.0 f.1
  to-refused f (here e) = let h = (whole-faults rows f).0 e in subst (λ (g : Refusal). RefusedWith rows g.0 g.1) (sym h.1) (not-whole h.0)
  to-refused f (later a (here e)) = let h = (form-faults rows f).0 e in numbered 4 f h.0 (not-formed ((whole-passes rows).0 a) h.1)
  to-refused f (later a (later b (here e))) =
      let h = (tree-faults rows f).0 e in numbered 5 f h.0 (not-placed ((whole-passes rows).0 a) ((form-passes rows).0 b) h.1)
  to-refused f (later a (later b (later c (here e)))) =
      let h = (limit-faults rows f).0 e in
      numbered 6 f h.0 (over-limit ((whole-passes rows).0 a) ((form-passes rows).0 b) ((tree-passes rows).0 c) h.1)
  to-refused f (later a (later b (later c (later d (here e))))) =
      let h = (block-faults rows f).0 e in
      numbered 14 f h.0 (not-blocked ((whole-passes rows).0 a) ((form-passes rows).0 b) ((tree-passes rows).0 c) ((limit-passes rows).0 d) h.1)
  to-refused f (later a (later b (later c (later d (later k (later _ x21)))))) = elim x21 [ ]
  to-refused f (later a (later b (later c (later d (later k (here e)))))) =
      let h = (usage-faults rows (a, b, c, d) f.0 f.1).0 e in
      clash ((whole-passes rows).0 a) ((form-passes rows).0 b) ((tree-passes rows).0 c) ((limit-passes rows).0 d) ((block-passes rows).0 k) h

  from-refused : {number place : ℕ} → RefusedWith rows number place → First rows (number, place) (numbers_fault ∷ row_stages)
  from-refused (not-whole h) = here ((whole-faults rows (not_whole rows)).1 (h, refl))
  from-refused (not-formed {r} w h) = later ((whole-passes rows).1 w) (here ((form-faults rows (4, r)).1 (refl, h)))
  from-refused (not-placed {r} w f h) = later ((whole-passes rows).1 w) (later ((form-passes rows).1 f) (here ((tree-faults rows (5, r)).1 (refl, h))))
  from-refused (over-limit {r} w f t h) =
      later ((whole-passes rows).1 w) (later ((form-passes rows).1 f) (later ((tree-passes rows).1 t) (here ((limit-faults rows (6, r)).1 (refl, h)))))
  from-refused (not-blocked {r} w f t l h) =
      let p = passed w f t l in
      later p.0 (later p.1 (later p.2 (later p.3 (here ((block-faults rows (14, r)).1 (refl, h))))))
  from-refused (clash {r} {number} w f t l k h) =
      let p = passed w f t l in
      later p.0 (later p.1 (later p.2 (later p.3 (later ((block-passes rows).1 k) (here ((usage-faults rows p number r).1 h))))))

pub verdict-exact : VerdictExact
verdict-exact rows = (
  λ e. to-right rows (none_found rows (numbers_fault ∷ row_stages) (sym (check-stages rows) ∙ e)),
  λ h. check-stages rows ∙ found_none rows (numbers_fault ∷ row_stages) (from-right rows h),
)

pub refusal-least : RefusalLeast
refusal-least rows number place = (
  λ e. to-refused rows (number, place) (first_found rows (numbers_fault ∷ row_stages) (number, place) (sym (check-stages rows) ∙ e)),
  λ h. check-stages rows ∙ found_first rows (numbers_fault ∷ row_stages) (number, place) (from-refused rows h),
)

pub one-tree-of-rows : OneTreeOfRows
unfolding WellPlaced Placed OneTree
one-tree-of-rows rows e r d l =
    let placed = ((verdict-exact rows).0 e).2 in
    (one-tree rows ((tree-passes rows).1 placed) r d l, ((placed r (omega arith)).1 (omega arith, l)).3 (λ q. omega arith))
