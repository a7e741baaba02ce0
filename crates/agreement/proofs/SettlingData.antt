-- What settling does to the data, of every program and in every state: it keeps places and output lists and the number of cells, and a cell
-- is as it was, or it is one of a block and is unset. No rule gives a cell a number.
use mathlib.Core.Path.{◌≡◌, refl, ap, ◌∙◌}
use mathlib.Core.Logic.{◌⊎◌, inl, inr}
use mathlib.Core.Bool.{Bool, true, false}
use mathlib.Core.Option.{none}
use mathlib.Core.List.{List, [], ◌∷◌, Memᴰ}
use Prim.Native.Nat.{ℕ, zero, suc}
use lib.ListN.{length, get_or, set}
use Rattle.meaning.specs.Basics.{if_else, among}
use Rattle.meaning.specs.Declarations.{Variable}
use Rattle.meaning.specs.Tree.{block, node, Processes}
use Rattle.meaning.specs.Values.{Message}
use Rattle.meaning.specs.Usage.{numbers_from}
use Rattle.meaning.specs.State.{Store, State, Program, whole, unset, unset_from}
use Rattle.meaning.specs.SettlingRules.{Inside, Settles, skip-ends, seq-starts, par-starts, seq-ends, par-ends, if-ends, alt-ends, while-again, block-starts, block-ends, Settling, no_change, next-change}
use Rattle.meaning.proofs.UnsetLaws.{among-mem, length-unset_from, cell-unset_from}
use Rattle.agreement.specs.MissingClaims.{cell_at, LocalCell, local-cell}

-- a store into one place changes that place or none, and past the end none
module _ {A : Type 0} (d m : A) where
  pub stored-or-same : (l : List A) (b a : ℕ) → (get_or (set l b m) a d ≡ get_or l a d) ⊎ ((b ≡ a) × (get_or (set l b m) a d ≡ m))
  stored-or-same [] b a = inl refl
  stored-or-same (x ∷ l) zero zero = inr (refl, refl)
  stored-or-same (x ∷ l) zero (suc a) = inl refl
  stored-or-same (x ∷ l) (suc b) zero = inl refl
  stored-or-same (x ∷ l) (suc b) (suc a) = go (stored-or-same l b a)
    where
      go : (get_or (set l b m) a d ≡ get_or l a d) ⊎ ((b ≡ a) × (get_or (set l b m) a d ≡ m)) → (get_or (set l b m) a d ≡ get_or l a d) ⊎ ((suc b ≡ suc a) × (get_or (set l b m) a d ≡ m))
      go (inl e) = inl e
      go (inr (e, h)) = inr (ap suc e, h)

-- a cell after some have become unset: as it was, or it is one of them and unset
abbrev UnsetOr : ℕ → ℕ → ℕ → List Message → List Message → Type 0
UnsetOr first n a before later = (get_or later a none ≡ get_or before a none) ⊎ (Memᴰ a (numbers_from first n) × (get_or later a none ≡ none))

unset-cell : (first n : ℕ) (cells : List Message) (a : ℕ) → UnsetOr first n a cells (unset_from first n cells)
unset-cell first n cells a = go (among a (numbers_from first n)) refl (cell-unset_from first n cells a)
  where
    go : (t : Bool) → among a (numbers_from first n) ≡ t → get_or (unset_from first n cells) a none ≡ if_else t none (get_or cells a none) → UnsetOr first n a cells (unset_from first n cells)
    go true e k = inr (among-mem a (numbers_from first n) e, k)
    go false e k = inl k

module _ (P : Program) where
  -- what the start of every block keeps of the data
  abbrev pub BlocksKeep : (Store → Type 0) → Type 0
  BlocksKeep Kept = (v : Variable) (r : ℕ) (ms : Processes) → Inside (whole P) (node (block v) r ms) → (x : Store) → Kept x → Kept (unset v x)

  module _ (Kept : Store → Type 0) (keeps : BlocksKeep Kept) where
    rule-keeps : {s t : State} → Settles (whole P) s t → Kept s.store → Kept t.store
    rule-keeps (skip-ends r) k = k
    rule-keeps (seq-starts r n i) k = k
    rule-keeps (par-starts r n i) k = k
    rule-keeps (seq-ends r a) k = k
    rule-keeps (par-ends r a) k = k
    rule-keeps (if-ends r m h) k = k
    rule-keeps (alt-ends r m h) k = k
    rule-keeps (while-again r m h) k = k
    rule-keeps {s} (block-starts {v} {r} {ms} h n i) k = keeps v r ms h.0 s.store k
    rule-keeps (block-ends r a) k = k

    -- settling keeps it
    pub settling-keeps : {s t : State} → Settling (whole P) s t → Kept s.store → Kept t.store
    settling-keeps no_change k = k
    settling-keeps (next-change h p) k = settling-keeps p (rule-keeps h k)

  pub settling-places : {s t : State} → Settling (whole P) s t → t.store.places ≡ s.store.places
  settling-places {s} p = settling-keeps (λ (x : Store). x.places ≡ s.store.places) (λ v r ms i x k. k) p refl

  pub settling-outputs : {s t : State} → Settling (whole P) s t → t.store.outputs ≡ s.store.outputs
  settling-outputs {s} p = settling-keeps (λ (x : Store). x.outputs ≡ s.store.outputs) (λ v r ms i x k. k) p refl

  pub settling-length : {s t : State} → Settling (whole P) s t → length t.store.cells ≡ length s.store.cells
  settling-length {s} p =
      settling-keeps (λ (x : Store). length x.cells ≡ length s.store.cells) (λ v r ms i x k. length-unset_from v.first v.size x.cells ∙ k) p refl

  -- a cell of some data is as it was in a state, or it is one of a block and unset
  abbrev pub KeptOrUnset : State → ℕ → Store → Type 0
  KeptOrUnset s a x = (get_or x.cells a none ≡ cell_at s a) ⊎ (LocalCell P a × (get_or x.cells a none ≡ none))

  blocks-unset : (s : State) (a : ℕ) → BlocksKeep (KeptOrUnset s a)
  blocks-unset s a v r ms i x k = go (unset-cell v.first v.size x.cells a) k
    where
      go : UnsetOr v.first v.size a x.cells (unset v x).cells → KeptOrUnset s a x → KeptOrUnset s a (unset v x)
      go (inr (m, h)) k = inr (local-cell i m, h)
      go (inl h) (inl e) = inl (h ∙ e)
      go (inl h) (inr (l, e)) = inr (l, h ∙ e)

  pub settling-cells : {s t : State} → Settling (whole P) s t → (a : ℕ) → (cell_at t a ≡ cell_at s a) ⊎ (LocalCell P a × (cell_at t a ≡ none))
  settling-cells {s} p a = settling-keeps (KeptOrUnset s a) (blocks-unset s a) p (inl refl)
