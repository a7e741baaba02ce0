-- Lines of which the first are read: what they are read as, and that the sheet goes on with the others.
use mathlib.Core.Path.{◌≡◌, sym, ap, ap₂, ◌∙◌}
use mathlib.Core.Bool.{Bool, true, false}
use mathlib.Core.List.{List, [], ◌∷◌, ◌++◌, append_assoc, map, map-append}
use mathlib.Core.Option.{Option, none, some, none-ne-some, some-injective}
use Prim.Native.Nat.{ℕ, zero, suc, ◌+◌, ◌<◌}
use native.Mathlib.Omega.{arith}
use lib.IntN.{ℤ}
use lib.ListN.{length, get_or, drop, length-append, length-map}
use lib.Seq.{drop-cons}
use lib.Dec.{eqb}
use Rattle.meaning.specs.Basics.{if_else}
use borrow.Author.Tests.{eqb-true}
use Rattle.meaning.specs.Texts.{line_feed}
use Rattle.meaning.specs.Lines.{line_size, text, exactly, read_fields, read_line}
use Rattle.meaning.specs.Sheet.{reading, values_of}
use Rattle.meaning.proofs.NumeralForm.{let_through}

-- a line that is read as readings of k channels has k
pub values-count : (k : ℕ) (l : List ℕ) (v : List (Option ℤ)) → values_of k l ≡ some v → length v ≡ k
unfolding values_of read_line
values-count k l v e = go (read_fields reading (text l)) e
  where
    go : (o : Option (List (Option ℤ))) → exactly k o ≡ some v → length v ≡ k
    go none h = absurd (none-ne-some v h)
    go (some u) h =
        let t = let_through (eqb (length u) k) (some u) v h in
        ap length (sym (some-injective u v t.1)) ∙ eqb-true (length u) k t.0

-- a line has a byte
some_byte : (b : ℕ) (bs : List ℕ) → 0 < line_size (b ∷ bs)
unfolding line_size
some_byte b bs = go (eqb b line_feed)
  where
    go : (t : Bool) → 0 < if_else t 1 (suc (line_size bs))
    go true = omega arith
    go false = omega arith

pub line-size-at : (sheet : List ℕ) (at : ℕ) → at < length sheet → 0 < line_size (drop at sheet)
line-size-at sheet at h = rw (drop-cons sheet at 0 h) (some_byte (get_or sheet at 0) (drop (suc at) sheet))

-- Of some lines the first are read as `done`, and the others are `rest`.
module _ {B : Type 0} (f : List ℕ → Option (List B)) where
  abbrev pub Split : List (List ℕ) → List (List B) → List (List ℕ) → Type 0
  Split ls done rest = map f ls ≡ map some done ++ map f rest

  pub split-count : (ls rest : List (List ℕ)) (done : List (List B)) → Split ls done rest → length ls ≡ length done + length rest
  split-count ls rest done e =
      sym (length-map ls f) ∙ ap length e ∙ length-append (map some done) (map f rest) ∙ ap₂ (λ (m n : ℕ). m + n) (length-map done some) (length-map rest f)

  -- a line among the first is read
  pub split-before : (ls rest : List (List ℕ)) (done : List (List B)) → Split ls done rest → (i : ℕ) → i < length done → f (get_or ls i []) ≡ some (get_or done i [])
  split-before ls rest [] e i h = absurd (omega arith)
  split-before [] rest (v ∷ done) e i h = absurd (let q : ◌≡◌ {A = ℕ} 0 (suc (length (map some done ++ map f rest))) = ap length e in omega arith)
  split-before (l ∷ ls) rest (v ∷ done) e zero h = ap (λ (os : List (Option (List B))). get_or os 0 none) e
  split-before (l ∷ ls) rest (v ∷ done) e (suc i) h = split-before ls rest done (ap (drop 1) e) i (omega arith)

  -- the next is the first of the others
  pub split-here : (ls rest : List (List ℕ)) (l : List ℕ) (done : List (List B)) → Split ls done (l ∷ rest) → f (get_or ls (length done) []) ≡ f l
  split-here [] rest l [] e = absurd (let q : ◌≡◌ {A = ℕ} 0 (suc (length (map f rest))) = ap length e in omega arith)
  split-here (m ∷ ls) rest l [] e = ap (λ (os : List (Option (List B))). get_or os 0 none) e
  split-here [] rest l (v ∷ done) e = absurd (let q : ◌≡◌ {A = ℕ} 0 (suc (length (map some done ++ map f (l ∷ rest)))) = ap length e in omega arith)
  split-here (m ∷ ls) rest l (v ∷ done) e = split-here ls rest l done (ap (drop 1) e)

  -- one line more
  pub split-more : (ls rest : List (List ℕ)) (l : List ℕ) (done : List (List B)) (v : List B) → Split ls done (l ∷ rest) → f l ≡ some v → Split ls (done ++ (v ∷ [])) rest
  split-more ls rest l done v e i =
      e
      ∙ ap (λ (o : Option (List B)). map some done ++ (o ∷ map f rest)) i
      ∙ sym (append_assoc (map some done) (some v ∷ []) (map f rest))
      ∙ ap (λ (os : List (Option (List B))). os ++ map f rest) (sym (map-append some done (v ∷ [])))
