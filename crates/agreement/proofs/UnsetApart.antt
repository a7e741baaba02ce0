-- To unset cells that an action does not use leaves what it looks at, and commutes with its writes.
use mathlib.Core.Path.{◌≡◌, refl, sym, ap, subst, ◌∙◌}
use mathlib.Core.Logic.{⊎_elim}
use mathlib.Core.Bool.{false, ◌||◌}
use mathlib.Core.List.Memᴰ
use mathlib.Core.List.{List, [], ◌∷◌, ◌++◌, Memᴰ}
use Prim.Native.Nat.{ℕ}
use lib.ListN.{get_or}
use Rattle.meaning.specs.Declarations.{Variable}
use Rattle.meaning.specs.Tree.{Action}
use Rattle.meaning.specs.State.{Store, Write, write_cell, write_place, write_output, unset_all}
use Rattle.meaning.specs.Usage.{cells_of_variable, cells_of_all, uses}
use Rattle.meaning.specs.Values.{Message}
use Rattle.meaning.proofs.UnsetLaws.{holds_cell, holds-append, not-among, places-unset_all, outputs-unset_all, cell-kept, unset-both, WriteOff, WritesOff}
use Rattle.agreement.proofs.Frame.{Off}
use Rattle.agreement.proofs.Near.{Near}
use Rattle.agreement.proofs.Proper.{Owned}
use Rattle.agreement.proofs.Writes.{changed-used, AllBy}

-- a cell of some variables is one of a variable of them
pub cell-of : (a : ℕ) (vs : List Variable) → Memᴰ a (cells_of_all vs) → (v : Variable) × (Memᴰ v vs × Memᴰ a (cells_of_variable v))
cell-of a [] m = absurd (Memᴰ.not-nil m)
cell-of a (v ∷ vs) m =
    ⊎_elim (λ (h : Memᴰ a (cells_of_variable v)). (v, (Memᴰ.head refl, h))) (λ (h : Memᴰ a (cells_of_all vs)). let (u, (g, z)) = cell-of a vs h in (u, (Memᴰ.tail g, z)))
    (Memᴰ.append_cases (cells_of_variable v) m)

pub cell_in : (a : ℕ) (v : Variable) (vs : List Variable) → Memᴰ v vs → Memᴰ a (cells_of_variable v) → Memᴰ a (cells_of_all vs)
cell_in a v [] x'' h = elim x'' [ ]
cell_in a v (u ∷ vs) (Memᴰ.head e) h = Memᴰ.append_left (cells_of_all vs) (subst (λ (w : Variable). Memᴰ a (cells_of_variable w)) e h)
cell_in a v (u ∷ vs) (Memᴰ.tail m) h = Memᴰ.append_right (cells_of_variable u) (cell_in a v vs m h)

-- no cell of the variables is one of R
abbrev pub NoCellIn : List Variable → List ℕ → Type 0
NoCellIn vs R = (a : ℕ) → Memᴰ a R → holds_cell a vs ≡ false

pub no-cell-in : (vs : List Variable) (R : List ℕ) → ((v : Variable) → Memᴰ v vs → Off (cells_of_variable v) R) → NoCellIn vs R
no-cell-in vs R h a m = not-among a (cells_of_all vs) (λ q. let (v, (g, z)) = cell-of a vs q in h v g a z m)

-- the same cells become unset in two rounds
pub same-unset : (us vs us' vs' : List Variable) (x : Store) → ((a : ℕ) → (holds_cell a us || holds_cell a vs) ≡ (holds_cell a us' || holds_cell a vs')) → unset_all us (unset_all vs x) ≡ unset_all us' (unset_all vs' x)
same-unset us vs us' vs' x h =
    unset-both us vs (us' ++ vs') x (λ a. h a ∙ sym (holds-append a us' vs')) ∙ sym (unset-both us' vs' (us' ++ vs') x (λ a. sym (holds-append a us' vs')))

module _ (source sink : ℕ → ℕ) where
  pub near-unset : (k : Action) (vs : List Variable) (x : Store) → NoCellIn vs (uses k) → Near source sink k x (unset_all vs x)
  near-unset k vs x h = record {
    cell = λ y q. sym (cell-kept vs x y (h y q));
    place = λ y q. ap (λ (l : List ℕ). get_or l y 0) (sym (places-unset_all vs x));
    list = λ y q. ap (λ (l : List (List Message)). get_or l y []) (sym (outputs-unset_all vs x));
  }

  write-off : (k : Action) (vs : List Variable) → NoCellIn vs (uses k) → (w : Write) → Owned source sink k w → WriteOff vs w
  write-off k vs h (write_cell a m) q = h a (changed-used k a q)
  write-off k vs h (write_place p m) q = tt
  write-off k vs h (write_output p m) q = tt

  -- writes of actions that use none of the cells
  pub writes-off : (A : Action → Type 0) (vs : List Variable) → ((k : Action) → A k → NoCellIn vs (uses k)) → (ws : List Write) → AllBy source sink A ws → WritesOff vs ws
  writes-off A vs h [] g = tt
  writes-off A vs h (w ∷ ws) g = (write-off g.0.0 vs (h g.0.0 g.0.1) w g.0.2, writes-off A vs h ws g.1)
