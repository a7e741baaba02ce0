-- The rows of members put into a list one after another, as the loop over links does it.
use mathlib.Core.Path.{◌≡◌, sym, ap, ◌∙◌}
use mathlib.Core.Bool.{true, false}
use mathlib.Core.List.{List, ◌++◌, append-nil}
use Prim.Native.Nat.{ℕ, ◌+◌, ◌<◌, ◌≤◌}
use native.Mathlib.Numerals.{add-one}
use native.Mathlib.Omega.{arith}
use lib.IntN.{ℤ}
use lib.ListN.{length, take, set, length-set}
use lib.Seq.{take-suc-set, append_snoc}
use Rattle.meaning.specs.Basics.{is_some}
use Rattle.meaning.specs.Rows.{row_count}
use Rattle.meaning.specs.Tree.{content_at, process_rows}
use Rattle.base_layout.specs.Operands.{operand_at}
use Rattle.base_layout.proofs.Parts.{operand-higher}
use Rattle.check_components.specs.Fields.{is_link}
use Rattle.check_components.proofs.Links.{link-below}
use Rattle.check_components.proofs.ListedProcesses.{member-there, member-missing, no-link-rows}

-- the first `count` rows are those of the members that row m lists before the link at `at`
pub record Put (rows : List ℤ) (m : ℕ) (members : List ℕ) (count at : ℕ) : Type 0 where
  pub listed : process_rows (content_at rows m).listed ≡ take count members ++ process_rows (content_at rows at).listed
  pub room : length members ≡ 1024
  pub passed : count ≤ at
  pub within : count ≤ row_count rows

module _ {rows : List ℤ} {m : ℕ} {members : List ℕ} {count at : ℕ} (so : Put rows m members count at) where
  module _ (link : is_link rows at ≡ true) {p q : ℕ} (first : p ≡ operand_at rows at 1) (next : q ≡ operand_at rows at 2) where
    pub put_one : row_count rows ≤ 1024 → is_some (content_at rows p).process ≡ true → Put rows m (set members count p) (count + 1) q
    put_one h e =
        let l = link-below rows at link in
        let i : count < length members = omega (arith, so.room, so.passed) in
        record {
          listed = so.listed ∙ rw (member-there rows at link first next e, add-one count, take-suc-set members count p i, append_snoc (take count members) p);
          room = length-set members count p ∙ so.room;
          passed = omega (arith, so.passed, operand-higher rows at 2 l, next);
          within = omega (arith, so.passed, l);
        }

    pub put-none : is_some (content_at rows p).process ≡ false → Put rows m members count q
    put-none e =
        record {
          listed = so.listed ∙ ap (λ (l : List ℕ). take count members ++ l) (member-missing rows at link first next e);
          room = so.room;
          passed = omega (arith, so.passed, operand-higher rows at 2 (link-below rows at link), next);
          within = so.within;
        }

  pub put_all : is_link rows at ≡ false → take count members ≡ process_rows (content_at rows m).listed
  put_all e = sym (so.listed ∙ ap (λ (l : List ℕ). take count members ++ l) (no-link-rows rows at e) ∙ append-nil (take count members))
