-- The change of a step, put together from what is noted.
use mathlib.Core.Path.{◌≡◌}
use mathlib.Core.List.{List, [], ◌∷◌}
use Prim.Native.Nat.{ℕ}
use lib.IntN.{ℤ}
use borrow.Author.Tests.{ne_eqb}
use Rattle.run_code.specs.Prepared.{row_at, prepared, strip_at}
use Rattle.run_changes.specs.declared.Data.TheVariants.{Nothing}
use Rattle.run_changes.specs.declared.Change.{Change}
use Rattle.run_changes.specs.Changes.{row_noted, row_becomes, what_at, option_change, own_change, change_in}

-- none of these numbers, the last one first
abbrev pub NoneAmong : List ℕ → ℕ → Type 0
NoneAmong [] w = Unit {0}
NoneAmong (n ∷ l) w = NoneAmong l w × (w ≡ n → ⊥)

module _ (acts : List ℕ) (sent : List ℤ) (elements : List ℕ) (j : ℕ) (c : Change) where
  -- by what is noted of the row
  pub own-rest : (strip : ℕ) → NoneAmong (7 ∷ 6 ∷ 5 ∷ 4 ∷ 3 ∷ 2 ∷ 1 ∷ []) (what_at acts j) → c ≡ row_becomes j j 1 Nothing → c ≡ own_change acts sent elements strip j
  unfolding own_change
  own-rest strip f h =
      let w = what_at acts j in
      rw (ne_eqb w 1 f.0.0.0.0.0.0.1, ne_eqb w 2 f.0.0.0.0.0.1, ne_eqb w 3 f.0.0.0.0.1, ne_eqb w 4 f.0.0.0.1, ne_eqb w 5 f.0.0.1, ne_eqb w 6 f.0.1, ne_eqb w 7 f.1) h

  pub option-rest : (owner q : ℕ) → NoneAmong (7 ∷ 5 ∷ 4 ∷ []) (what_at acts j) → c ≡ row_becomes owner j 0 Nothing → c ≡ option_change acts sent elements owner q j
  unfolding option_change
  option-rest owner q f h =
      let w = what_at acts j in
      rw (ne_eqb w 4 f.0.0.1, ne_eqb w 5 f.0.1, ne_eqb w 7 f.1) h

  -- by whether the row is an option
  pub as-option : (rows : List ℤ) (owner q : ℕ) → (row_at rows j).what ≡ 42 → owner ≡ row_noted (row_at rows j).parent → q ≡ (row_at rows j).first
      → c ≡ option_change acts sent elements owner q j → c ≡ change_in rows acts sent elements j
  unfolding change_in
  as-option rows owner q e f g h = rw (e, ← f, ← g) h

  pub by_itself : (rows : List ℤ) (strip : ℕ) → ((row_at rows j).what ≡ 42 → ⊥) → strip ≡ strip_at (prepared rows) j → c ≡ own_change acts sent elements strip j → c ≡ change_in rows acts sent elements j
  unfolding change_in
  by_itself rows strip e f h = rw (ne_eqb _ 42 e, ← f) h
