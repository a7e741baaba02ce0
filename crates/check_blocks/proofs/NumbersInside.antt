-- The rows beneath a row are those whose numbers follow its own, as many as its form has.
use mathlib.Core.Path.{◌≡◌, refl, sym}
use mathlib.Core.Bool.{Bool, false}
use mathlib.Core.List.{List}
use Prim.Native.Nat.{ℕ, ◌+◌, ◌≤◌, ◌<◌}
use native.Mathlib.Omega.{arith}
use lib.IntN.{ℤ}
use lib.ListN.{get_or}
use lib.Dec.{ltb}
use Rattle.meaning.specs.Basics.{among}
use Rattle.meaning.specs.Declarations.{declarations}
use Rattle.meaning.specs.Verdict.{rows_under}
use Rattle.meaning.proofs.Decides.{Decides, holding, failing, is_false, decides-iff, decides-lt}
use Rattle.meaning.proofs.BlockLaws.{decides-under}
use Rattle.base_top_down.specs.New.{FormPassed, Sizes, RightAt, Numbers, BeneathInside}
use Rattle.base_top_down.proofs.Inside.{beneath-inside}
use Rattle.check_blocks.specs.Blocks.{FromRoot}

-- two tests that decide one statement are equal
same_test : {A : Type 0} {s t : Bool} → Decides A s → Decides A t → s ≡ t
same_test (holding a) (holding b) = refl
same_test (holding a) (failing b) = absurd (b a)
same_test (failing a) (holding b) = absurd (a b)
same_test (failing a) (failing b) = refl

module _ (rows : List ℤ) (passed : FormPassed rows) (numbers sizes : List ℕ) (ns : Numbers rows numbers) (ss : Sizes rows (declarations rows) sizes)
    (k r : ℕ) (at : FromRoot rows k) (to : FromRoot rows r) where
  abbrev Inside : Type 0
  Inside = (get_or numbers k 0 < get_or numbers r 0) × (get_or numbers r 0 < get_or numbers k 0 + get_or sizes k 0)

  decides-inside : Decides Inside (among r (rows_under rows k))
  unfolding BeneathInside RightAt
  decides-inside =
      let e = ss.right k at.0 at.1 in
      let b = beneath-inside rows passed.tree k r (get_or numbers k 0) (get_or numbers r 0) (ns.right k at.0 at.1) (ns.right r to.0 to.1) in
      decides-iff (λ h. let (i, j) = b.0 h in (i, omega arith)) (λ h. let (i, j) = h in b.1 (i, omega arith)) (decides-under rows k r)

  -- a row whose number is after that of row k
  pub after-it : (n : ℕ) → get_or numbers k 0 < get_or numbers r 0 → n + get_or numbers k 0 ≡ get_or numbers r 0 → ltb n (get_or sizes k 0) ≡ among r (rows_under rows k)
  after-it n l e = same_test (decides-iff (λ h. (l, omega arith)) (λ h. let j = h.1 in omega arith) (decides-lt n (get_or sizes k 0))) decides-inside

  pub not_after : get_or numbers r 0 ≤ get_or numbers k 0 → false ≡ among r (rows_under rows k)
  not_after l = sym (is_false decides-inside (λ h. let i = h.0 in omega arith))
