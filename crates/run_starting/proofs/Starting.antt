-- A process of a prepared table starts, as the code goes.
use mathlib.Core.Path.{◌≡◌, refl, sym, ap, ◌∙◌}
use mathlib.Core.Bool.{Bool, true, false}
use mathlib.Core.Option.{Option, some}
use mathlib.Core.List.{List, []}
use Prim.Native.Nat.{ℕ, zero, suc, ◌+◌, ◌<◌, ◌≤◌}
use native.Mathlib.Numerals.{add-one}
use native.Mathlib.Omega.{arith}
use native.Mathlib.Decide.{dec_lt}
use lib.IntN.{ℤ}
use lib.ListN.{get_or}
use borrow.Author.Tests.{eq-eqb, ne_eqb}
use Rattle.meaning.specs.declared.Node.{Node}
use Rattle.meaning.specs.Rows.{row_count, kind_at}
use Rattle.meaning.specs.Declarations.{Variable}
use Rattle.meaning.specs.Tree.{Action, block, Process, node, Processes, empty, also, Content, content_of, content_at, or_stop, row_of}
use Rattle.meaning.specs.State.{program, process_at}
use Rattle.meaning.specs.Settle.{is_ended, local_of}
use Rattle.agreement.proofs.TableTree.{process-is}
use Rattle.base_layout.proofs.Parts.{higher_content, part-past, part-of-kind}
use Rattle.run_parents.proofs.KindCases.{kind-cases}
use Rattle.machine.specs.Counts.{Kept, state_set, remain, row_comes, go_next, start_by, start_row, start_members, start_beneath}
use Rattle.machine.proofs.Parents.{own_row}
use Rattle.machine.proofs.Starting.{start_none, start-also}
use Rattle.machine.proofs.CountedClimbs.{starts-beneath}
use Rattle.run_parents.specs.declared.shape.Mode.{Mode}
use Rattle.run_parents.specs.Members.{mode_of, only_process}
use Rattle.run_code.specs.Prepared.{Prepared, place_at}
use Rattle.run_starting.specs.Parts.{IsProcess, starts_if}
use Rattle.run_starting.specs.Kept.{block_begins}
use Rattle.run_starting.proofs.Standing.{EndingIn, SingleIn, LinkIn, kind-place}

-- a state other than 2 is not that of an ended process
pub not-ended : (n : ℕ) → (n ≡ 2 → ⊥) → is_ended n ≡ false
not-ended zero f = refl
not-ended (suc zero) f = refl
not-ended (suc (suc zero)) f = absurd (f refl)
not-ended (suc (suc (suc n))) f = refl

module _ (rows : List ℤ) where
  pub process-there : (r : ℕ) {o : Option Process} → (content_at rows r).process ≡ o → process_at (program rows) r ≡ or_stop o
  process-there r e = process-is rows r ∙ ap or_stop e

  -- ---- the process of row r starts its members, or comes to work

  beneath : (r : ℕ) (k : Kept) {o : Option Process} → (content_at rows r).process ≡ o → start_beneath r (process_at (program rows) r) k ≡ start_beneath r (or_stop o) k
  beneath r k e = ap (λ (p : Process). start_beneath r p k) (process-there r e)

  -- a SEQ, a SKIP or a PAR: nothing is local to it
  pub ending-starts : (r : ℕ) (k : Kept) {m : Mode} {f : ℕ} {w : Kept} (h : EndingIn rows r m f) → local_of h.action ≡ []
      → w ≡ start_by (mode_of m) r (λ all j. start_members (content_at rows f).listed all r 0 j) k → w ≡ start_beneath r (process_at (program rows) r) k
  ending-starts r k h i e = rw (beneath r k h.process-is, h.mode-is, i) e

  -- the first of some members has started: j is what it left
  first-starts : (p : ℕ) (z : Process) (ms : Processes) (all : Bool) (r n : ℕ) (k : Kept) {j : Kept} → (content_at rows p).process ≡ some z
      → j ≡ start_beneath p (process_at (program rows) p) (state_set p 1 k) → start_members (also z ms) all r n k ≡ go_next all (is_ended (get_or j.states p 0)) n (λ c. start_members ms all r c j) j
  first-starts p z ms all r n k {j} f e =
      let i : row_of z ≡ p = own_row rows p z f in
      let g : start_row z k ≡ j = starts-beneath z k ∙ ap (λ (y : ℕ). start_beneath y z (state_set y 1 k)) i ∙ ap (λ (y : Process). start_beneath p y (state_set p 1 k)) (sym (process-there p f)) ∙ sym e in
      rw (start-also z ms all r n k, g, i)

  -- a block: it is listed as one that starts, and its process has started: j is what that left
  module _ (r : ℕ) (k : Kept) {b : ℕ} (h : SingleIn rows r b) {v : Variable} (a : h.action ≡ block v) {i : Kept} (f : i ≡ block_begins r k) {j : Kept}
      (e : j ≡ start_beneath b (process_at (program rows) b) (state_set b 1 i)) where
    abbrev block-goes-on : Bool → Kept
    block-goes-on t = go_next false t 0 (λ n. start_members empty false r n j) j

    block-starts : start_beneath r (process_at (program rows) r) k ≡ block-goes-on (is_ended (get_or j.states b 0))
    block-starts =
        let (p, z) = h.member_is in
        let w = h.process-is ∙ ap (λ (o : Option Process). some (node h.action r (only_process o))) z ∙ ap (λ (y : Action). some (node y r (also p empty))) a in
        beneath r k w ∙ ap (start_members (also p empty) false r 0) (sym f) ∙ first-starts b p empty false r 0 i z e

    -- that has ended at once, and so the block ends
    pub block-ends : get_or j.states b 0 ≡ 2 → {w : Kept} → w ≡ remain r 0 j → w ≡ start_beneath r (process_at (program rows) r) k
    block-ends u g = g ∙ sym (start_none false r 0 j) ∙ sym (block-starts ∙ ap (λ (y : ℕ). block-goes-on (is_ended y)) u)

    -- it has not
    pub block_runs : (get_or j.states b 0 ≡ 2 → ⊥) → j ≡ start_beneath r (process_at (program rows) r) k
    block_runs u = sym (block-starts ∙ ap block-goes-on (not-ended (get_or j.states b 0) u))

-- any other row
module _ {rows : List ℤ} {list : List ℕ} (P : Prepared rows list) (r : ℕ) (h : r ≤ 1024) (k : Kept) where
  itself-starts : (place_at list r 0 ≡ 21 → ⊥) → (place_at list r 0 ≡ 30 → ⊥) → (place_at list r 0 ≡ 31 → ⊥) → (place_at list r 0 ≡ 35 → ⊥) → start_beneath r (process_at (program rows) r) k ≡ row_comes r k
  itself-starts n21 n30 n31 n35 = go (dec_lt r (row_count rows))
    where
      Comes : Content → Type 0
      Comes c = start_beneath r (or_stop c.process) k ≡ row_comes r k

      go : Dec (r < row_count rows) → start_beneath r (process_at (program rows) r) k ≡ row_comes r k
      go (no l) = beneath rows r k (ap (λ (c : Content). c.process) (part-past rows r (omega arith)))
      go (yes l) =
          beneath rows r k (ap (λ (c : Content). c.process) (part-of-kind rows r (kind_at rows r) l refl))
          ∙ kind-cases (λ (m : Node). Comes (content_of rows r (higher_content rows r) m)) (kind_at rows r) _ _ _ _
          (λ e. refl) (λ e. refl) (λ e. refl) (λ e. refl) (λ e. refl) (λ e. absurd (n21 (kind-place P r 21 l e))) (λ e. refl) (λ e. refl) (λ e. refl)
          (λ e. absurd (n30 (kind-place P r 30 l e))) (λ e. absurd (n31 (kind-place P r 31 l e))) (λ e. refl) (λ e. refl) (λ e. refl) (λ e. absurd (n35 (kind-place P r 35 l e)))
          (λ e. refl) (λ e. refl) (λ e. refl) (λ e. refl) refl

  pub comes-itself : {n : ℕ} → n ≡ place_at list r 0 → (n ≡ 21 → ⊥) → (n ≡ 30 → ⊥) → (n ≡ 31 → ⊥) → (n ≡ 35 → ⊥) → {w : Kept} → w ≡ row_comes r k
      → w ≡ start_beneath r (process_at (program rows) r) k
  comes-itself e n21 n30 n31 n35 i = i ∙ sym (itself-starts (λ z. n21 (e ∙ z)) (λ z. n30 (e ∙ z)) (λ z. n31 (e ∙ z)) (λ z. n35 (e ∙ z)))

-- ---- the members from link m on

module _ (rows : List ℤ) (m : ℕ) (all : Bool) (r n : ℕ) (k : Kept) where
  pub none-starts : {w : Kept} → (content_at rows m).listed ≡ empty → w ≡ remain r n k → w ≡ start_members (content_at rows m).listed all r n k
  none-starts e f = rw (e, start_none all r n k) f

  -- the first member has started: j is what it left
  module _ {p q : ℕ} (h : LinkIn rows m p q) {j : Kept} (e : j ≡ start_beneath p (process_at (program rows) p) (state_set p 1 k)) where
    abbrev goes_on : Bool → Kept
    goes_on t = go_next all t n (λ c. start_members (content_at rows q).listed all r c j) j

    starts_first : start_members (content_at rows m).listed all r n k ≡ goes_on (is_ended (get_or j.states p 0))
    starts_first = ap (λ (ms : Processes). start_members ms all r n k) h.members-are ∙ first-starts rows p h.member (content_at rows q).listed all r n k h.member_is e

    -- it has ended at once, and those after it go on
    pub next-starts : get_or j.states p 0 ≡ 2 → {w : Kept} → w ≡ start_members (content_at rows q).listed all r n j → w ≡ start_members (content_at rows m).listed all r n k
    next-starts f {w} g = g ∙ sym (starts_first ∙ ap (λ (y : ℕ). goes_on (is_ended y)) f)

    module _ (f : get_or j.states p 0 ≡ 2 → ⊥) where
      -- it has not, and in a PAR all the same
      pub more-starts : all ≡ true → {w : Kept} → w ≡ start_members (content_at rows q).listed all r (n + 1) j → w ≡ start_members (content_at rows m).listed all r n k
      more-starts c {w} g = g ∙ ap (λ (i : ℕ). start_members (content_at rows q).listed all r i j) (add-one n) ∙ sym (starts_first ∙ ap goes_on (not-ended (get_or j.states p 0) f) ∙ go all c)
        where
          go : (t : Bool) → t ≡ true → go_next t false n (λ c. start_members (content_at rows q).listed all r c j) j ≡ start_members (content_at rows q).listed all r (suc n) j
          go t c = rw c

      -- a SEQ waits for it
      pub one-starts : all ≡ false → j ≡ start_members (content_at rows m).listed all r n k
      one-starts c = sym (starts_first ∙ ap goes_on (not-ended (get_or j.states p 0) f) ∙ go all c)
        where
          go : (t : Bool) → t ≡ false → go_next t false n (λ c. start_members (content_at rows q).listed all r c j) j ≡ j
          go t c = rw c

-- ---- a row that starts, and one that does not

module _ (n r : ℕ) (p : Process) (k : Kept) where
  pub starts-now : n ≡ 1 → {w : Kept} → w ≡ start_beneath r p k → w ≡ starts_if n r p k
  starts-now e f = rw (eq-eqb n 1 e) f

  pub starts-not : (n ≡ 1 → ⊥) → k ≡ starts_if n r p k
  starts-not z = rw (ne_eqb n 1 z)

-- the process of a row that is one starts
pub row-starts : (rows : List ℤ) (r : ℕ) (k : Kept) {w : Kept} → IsProcess rows r → w ≡ start_beneath r (process_at (program rows) r) (state_set r 1 k) → w ≡ start_row (process_at (program rows) r) k
row-starts rows r k (p, i) e = e ∙ sym (starts-beneath (process_at (program rows) r) k ∙ ap (λ (y : ℕ). start_beneath y (process_at (program rows) r) (state_set y 1 k)) (ap row_of (process-there rows r i) ∙ own_row rows r p i))
