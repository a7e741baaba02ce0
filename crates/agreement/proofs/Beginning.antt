-- Orders begin at the start of a run, and nowhere else: there the root has started, and the rules of settling lead to one state.
use mathlib.Core.Path.{◌≡◌, sym, ap, subst, ◌∙◌}
use mathlib.Core.Bool.{false}
use mathlib.Core.List.{List, map}
use Prim.Native.Nat.{ℕ}
use lib.ListN.{length, get_or, set, length-set, length-map, get_or-map}
use lib.Seq.{get_or-set_same}
use Rattle.meaning.specs.Tree.{Process, node, stop, empty, row_of}
use Rattle.meaning.specs.Declarations.{Variable}
use Rattle.meaning.specs.State.{State, state_of, Program, whole, all_unset, unset_all}
use Rattle.meaning.specs.Labels.{Label}
use Rattle.meaning.specs.Readings.{Sheet}
use Rattle.meaning.specs.Order.{root_started, Begins, Order}
use Rattle.meaning.specs.Settle.{settle, begun, start}
use Rattle.meaning.proofs.UnsetLaws.{unset-unset, all-unset}
use Rattle.agreement.specs.SettlingClaims.{NormalForm}
use Rattle.agreement.proofs.Again.{sound-row, see-start, see-run}
use Rattle.agreement.proofs.Good.{Good, idle}
use Rattle.agreement.proofs.Reach.{good_start}
use Rattle.agreement.proofs.Fit.{Fit}
use Rattle.agreement.proofs.NormalForm.{after_settling, normal-form}
use Rattle.agreement.proofs.Takeable.{DistinctOptions}
use Rattle.agreement.proofs.Working.{Inv}
use Rattle.agreement.proofs.Invariant.{same-state, start-inv, order-inv}

module _ (P : Program) (n : ℕ) (F : Fit P n) where
  -- before the start every row is idle
  abbrev resting : List ℕ
  resting = map {B = ℕ} (λ (p : Process). 0) P.processes

  pub resting-idle : (y : ℕ) → get_or resting y 0 ≡ 0
  resting-idle y = get_or-map {B = ℕ} (λ (p : Process). 0) P.processes y (node stop 0 empty)

  resting-length : length resting ≡ n
  resting-length = length-map {B = ℕ} P.processes (λ (p : Process). 0) ∙ F.size

  -- the root has started
  pub started-length : length (root_started P).states ≡ n
  started-length = length-set resting P.root 1 ∙ resting-length

  started-good : Good (root_started P).states (whole P)
  started-good = subst (λ (r : ℕ). Good (set resting r 1) (whole P)) F.at-root (good_start (whole P) n F.sound resting resting-length (idle (λ y m. resting-idle y)) (resting-idle (row_of (whole P))))

  pub start_is : (start P).states ≡ settle (whole P) false (root_started P).states
  unfolding start
  start_is =
      let one : state_of (set resting (row_of (whole P)) 1) (whole P) ≡ 1 = get_or-set_same resting (row_of (whole P)) 1 0 (rw resting-length (sound-row (whole P) n F.sound)) in
      see-start (whole P) resting (resting-idle (row_of (whole P))) ∙ sym (see-run (whole P) false (set resting (row_of (whole P)) 1) one)
      ∙ ap (λ (r : ℕ). settle (whole P) false (set resting r 1)) F.at-root

  -- the cells of the blocks that start there are unset already
  start-unset : (vs : List Variable) → unset_all vs (all_unset P) ≡ all_unset P
  start-unset vs = unset-unset vs (all_unset P) (λ a h. all-unset P.cells a)

  start-settled : after_settling (whole P) (root_started P) ≡ start P
  unfolding start
  start-settled = same-state (sym start_is) (start-unset (begun (whole P) false (root_started P).states))

  -- from there the rules of settling lead to one state, that of the start
  pub start-normal : NormalForm (whole P) (root_started P) (start P)
  start-normal = subst (λ (u : State). NormalForm (whole P) (root_started P) u) start-settled (normal-form (whole P) n F.sound F.plain (root_started P) started-length started-good)

  pub begins-at-start : Begins P (start P)
  begins-at-start = record { by-rules = start-normal.reached; final = start-normal.final }

  pub begins-start : (s : State) → Begins P s → s ≡ start P
  begins-start s b = start-normal.only s b.by-rules b.final

  -- every state that an order reaches keeps what the start has
  module _ (sheet : Sheet) (D : (s : State) → DistinctOptions P sheet s) where
    pub begins-inv : (s : State) → Begins P s → Inv P n F sheet s
    begins-inv s b = subst (λ (t : State). Inv P n F sheet t) (sym (begins-start s b)) (start-inv P n F sheet)

    pub reached-inv : (b l : State) → Begins P b → {k : List Label} → Order P sheet b k l → Inv P n F sheet l
    reached-inv b l h o = order-inv P n F sheet D (begins-inv b h) o
